-- What is seen at later substitutions.
use Rattle.std.proofs.Common.{ℕ, List, arith, Some, None, Option}
use Rattle.type_terms.specs.Agrees.{Follows}
use Rattle.type_terms.specs.Table.{Table}
use Rattle.type_instances.specs.Schemes.{Scheme, IsSchemeOver, scheme_of}
use Rattle.type_steps.specs.Environment.{Env, AreUsesOver}
use Rattle.type_steps.proofs.Tables.{env_later}
use Rattle.expression_types.specs.declared.environment.FoundUse.{FoundUse}
use Rattle.expression_types.specs.declared.environment.KnownDef.{KnownDef}
use Rattle.expression_types.specs.declared.environment.Names.{Names}
use Rattle.expression_types.specs.Seen.{DefIs, IsSeen, def_seen, env_of, founds}

pub scheme_later : (s s' : Table) (g : Scheme) → Follows s s' → IsSchemeOver s g → IsSchemeOver s' g
scheme_later s s' g f o = record {
  params = o.params;
  result = o.result;
  types = λ i k e. let l = o.types i k e in let m = f.types in omega arith;
  kinds = λ i k e. let l = o.kinds i k e in let m = f.kinds in omega arith;
}

def_later : (s s' : Table) (env : Env) (t : ℕ) (o : Option KnownDef) → Follows s s' → DefIs s env t o → DefIs s' env t o
def_later s s' env t None f h = λ at a m. h at a (f.solves a m)
def_later s s' env t (Some d) f h = (
  scheme_later s s' (scheme_of d.general) f h.0,
  λ at. record { calls = λ a m. (h.1 at).calls a (f.solves a m); instance = λ a m. (h.1 at).instance a (f.solves a m) },
)

pub seen_later : (s s' : Table) (names : Names) (old new : List FoundUse) → IsSeen s names old → Follows s s' → AreUsesOver s' (founds new) → IsSeen s' names new
seen_later s s' names old new i f u = record {
  over = env_later s s' (env_of names) f i.over;
  uses_over = u;
  calls = λ t. def_later s s' (env_of names) t (def_seen t names.defs.now) f (i.calls t);
}
