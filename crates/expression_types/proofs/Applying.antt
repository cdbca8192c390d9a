-- Calls: what is seen once one has begun, and how many open kinds it has.
use Rattle.std.proofs.Common.{◌≡◌, sym, ap, subst, refl, ℕ, zero, suc, length, List, [], ◌∷◌, map, replicate, Option, Some, None}
use Rattle.std.specs.Prelude.{option_map}
use Rattle.type_terms.specs.Agrees.{Follows}
use Rattle.type_terms.specs.Term.{Term}
use Rattle.type_terms.specs.Table.{Table}
use Rattle.typing_rules.specs.Table.{signature}
use Rattle.typing_rules.specs.declared.uses.Builtin.{Builtin}
use Rattle.typing_rules.specs.declared.uses.Target.{Target}
use Rattle.typing_rules.specs.declared.uses.Target.TheVariants as target
use Rattle.type_instances.specs.Schemes.{Scheme, builtin_scheme, open_numbers, scheme_of}
use Rattle.type_instances.specs.declared.general.KindParameter.TheVariants.{Open}
use Rattle.name_scope.specs.Seen.{seen_parameter}
use Rattle.type_steps.specs.Environment.{AreUsesOver, Found, with_use}
use Rattle.type_steps.specs.Flow.{AreTermsOver, HasNoCall}
use Rattle.type_steps.proofs.Calls.{uses_with}
use Rattle.type_steps.proofs.Tables.{over_later, uses_later}
use Rattle.expression_types.specs.Seen.{DefIs, HasBegun, IsCalled, IsSeen, def_seen, env_of, founds}
use Rattle.expression_types.specs.declared.callees.Callee.{Callee}
use Rattle.expression_types.specs.declared.environment.FoundUse.{FoundUse}
use Rattle.expression_types.specs.declared.environment.KnownDef.{KnownDef}
use Rattle.expression_types.specs.declared.environment.Names.{Names}
use Rattle.expression_types.proofs.Seeing.{seen_later}
use Rattle.expression_types.specs.Order.{kinds_count, open_kinds}

pub terms_later : (s s' : Table) (ts : List Term) → Follows s s' → AreTermsOver s ts → AreTermsOver s' ts
terms_later s s' [] f o = tt
terms_later s s' (t ∷ ts) f o = (over_later s s' t f o.0, terms_later s s' ts f o.1)

pub begun_seen : (s s' : Table) (names : Names) (g : Scheme) (at : ℕ) (t : Target) (c : Callee) (old new : List FoundUse) → IsSeen s names old → HasBegun s s' g at t c (founds old) (founds new) → IsSeen s' names new
begun_seen s s' names g at t c old new seen b =
    let uses : AreUsesOver s' (with_use (founds old) at t b.kinds) = uses_with s' (founds old) (record { at = at; target = t; kinds = b.kinds }) (uses_later s s' (founds old) b.instantiated.follows seen.uses_over) b.instantiated.kinds in
    seen_later s s' names old new seen b.instantiated.follows (subst (λ (fs : List Found). AreUsesOver s' fs) (sym b.added) uses)

-- ---- how many open kinds there are

open_all : (m n : ℕ) → length (open_numbers m (replicate n Open)) ≡ n
open_all m zero = refl
open_all m (suc n) = ap suc (open_all (suc m) n)

pub builtin_counted : (ds : List KnownDef) (b : Builtin) → kinds_count ds (Some (target.Builtin b)) ≡ Some (length (open_numbers 0 (builtin_scheme b).kinds))
builtin_counted ds b = ap Some (sym (open_all 0 (signature b).kinds))

pub def_counted : (ds : List KnownDef) (t : ℕ) (d : KnownDef) → Some d ≡ def_seen t ds → kinds_count ds (Some (target.Def t)) ≡ Some (length (open_numbers 0 (scheme_of d.general).kinds))
def_counted ds t d found = ap (option_map open_kinds) (sym found)

-- ---- defs

pub def_called : (s : Table) (names : Names) (uses : List FoundUse) (at t : ℕ) (d : KnownDef) → IsSeen s names uses → Some d ≡ def_seen t names.defs.now → (env_of names).targets at ≡ Some (target.Def t) → IsCalled s (env_of names) at (target.Def t) (map seen_parameter d.params.items) (scheme_of d.general)
def_called s names uses at t d seen found means =
    let is : DefIs s (env_of names) t (Some d) = subst (λ (o : Option KnownDef). DefIs s (env_of names) t o) (sym found) (seen.calls t) in
    record { over = is.0; callable = is.1 at; meant = means }

pub def_not_called : (s : Table) (names : Names) (uses : List FoundUse) (at t : ℕ) → IsSeen s names uses → None ≡ def_seen t names.defs.now → HasNoCall s (env_of names) at (target.Def t)
def_not_called s names uses at t seen none =
    let is : DefIs s (env_of names) t None = subst (λ (o : Option KnownDef). DefIs s (env_of names) t o) (sym none) (seen.calls t) in
    is at
