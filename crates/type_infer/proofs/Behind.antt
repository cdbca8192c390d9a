-- What is seen behind parameters and inner bindings.
use Rattle.std.proofs.Common.{ℕ, List, Option, Some, None}
use Rattle.std.specs.Borrow.{Bor}
use Rattle.type_terms.specs.Table.{Table}
use Rattle.type_terms.specs.Term.{Term}
use Rattle.type_steps.specs.Environment.{AreTypesOver, Env}
use Rattle.expression_types.specs.Seen.{DefIs, IsSeen, def_seen, env_of, types_seen}
use Rattle.expression_types.specs.declared.environment.FoundUse.{FoundUse}
use Rattle.expression_types.specs.declared.environment.KnownDef.{KnownDef}
use Rattle.expression_types.specs.declared.environment.Names.{Names}
use Rattle.expression_types.specs.declared.environment.TypedName.{TypedName}
use Rattle.type_infer.specs.PartsOf.{with_inner}

def_behind : (s : Table) (env : Env) (us : List (ℕ × Term)) (t : ℕ) (o : Option KnownDef) → DefIs s env t o → DefIs s (with_inner env us) t o
def_behind s env us t None h = λ at a m kinds gs g p. h at a m kinds gs g p
def_behind s env us t (Some d) h = (h.0, λ at. record { calls = (h.1 at).calls; instance = (h.1 at).instance })

pub behind_seen : (s : Table) (ns : Names) (inner : Bor (List TypedName)) (uses : List FoundUse) → IsSeen s ns uses → AreTypesOver s (types_seen inner.now) → IsSeen s (record { targets = ns.targets; inner = inner; before = ns.before; defs = ns.defs }) uses
behind_seen s ns inner uses i o = record {
  over = record { before = i.over.before; inner = o };
  uses_over = i.uses_over;
  calls = λ t. def_behind s (env_of ns) (types_seen inner.now) t (def_seen t ns.defs.now) (i.calls t);
}
