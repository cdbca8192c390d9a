-- TypesByToken, uses and environments at later substitutions, and under assignments that agree.
use Rattle.std.proofs.Common.{◌≡◌, ◌∙◌, ap, ap₂, subst, refl, ℕ, List, [], ◌∷◌, map, arith}
use Rattle.liq_base.specs.declared.memory.Kind.{Kind}
use Rattle.type_terms.specs.Ground.{Assignment}
use Rattle.type_terms.specs.Term.{Term, meaning, kind_meaning}
use Rattle.type_terms.specs.Table.{Table, Solves, IsOver}
use Rattle.type_terms.specs.Agrees.{Agrees, Follows}
use Rattle.type_terms.specs.declared.ty.KindTerm.{KindTerm}
use Rattle.type_terms.proofs.Terms.{InTerm-map, InKind-map, meaning_same, kind_meaning_same}
use Rattle.typing_rules.specs.declared.uses.KindOf.TheVariants.{Fixed}
use Rattle.typing_rules.specs.declared.uses.Target.{Target}
use Rattle.typing_rules.specs.declared.uses.Use.{Use}
use Rattle.typing_rules.specs.Typing.{Sight, TypesByToken, within}
use Rattle.typing_rules.specs.Scripts.{Entry, Places, sight, def_token}
use Rattle.typing_rules.specs.Scripts as entry
use Rattle.type_steps.specs.Flow.{Reached}
use Rattle.type_steps.specs.Environment.{Env, Known, value, function, Found, TextUse, Pending, of_term, of_def, Texts, AreFound, EachTakes, Takes, CallTakes, IsEnvOver, AreKnownOver, AreTypesOver, AreUsesOver, AreKindsOver, IsTextOver, ArePendingOver, IsKindOver, entries_under, texts_under, types_under, sight_under, settled, settled_use}
use Rattle.type_terms.proofs.Counting.{keeps_both, keeps_itself}

-- ---- later substitutions

pub over_later : (s s' : Table) (t : Term) → Follows s s' → IsOver s t → IsOver s' t
over_later s s' t f o = let a = f.types in let b = f.kinds in InTerm-map (λ n l. omega arith) (λ n l. omega arith) t o

pub follows_same : (s : Table) → Follows s s
follows_same s = record { types = omega arith; kinds = omega arith; bound = keeps_itself s; solves = λ a m. m }

pub follows_both : (s s' s'' : Table) → Follows s s' → Follows s' s'' → Follows s s''
follows_both s s' s'' f g = record { types = omega (arith, f.types, g.types); kinds = omega (arith, f.kinds, g.kinds); bound = keeps_both s s' s'' f.bound g.bound; solves = λ a m. f.solves a (g.solves a m) }

pub agrees_same : (s : Table) (a : Assignment) → Agrees s a a
agrees_same s a = record { types = λ k l. refl; kinds = λ k l. refl }

pub agrees_both : (s s' : Table) (a b c : Assignment) → Follows s s' → Agrees s a b → Agrees s' b c → Agrees s a c
agrees_both s s' a b c f g h = record {
  types = λ k l. g.types k l ∙ h.types k (let t = f.types in omega arith);
  kinds = λ k l. g.kinds k l ∙ h.kinds k (let t = f.kinds in omega arith);
}

kind_later : (s s' : Table) (k : KindTerm) → Follows s s' → IsKindOver s k → IsKindOver s' k
kind_later s s' k f o = let b = f.kinds in InKind-map (λ n l. omega arith) k o

pub kinds_later : (s s' : Table) (ks : List KindTerm) → Follows s s' → AreKindsOver s ks → AreKindsOver s' ks
kinds_later s s' [] f o = tt
kinds_later s s' (k ∷ ks) f o = (kind_later s s' k f o.0, kinds_later s s' ks f o.1)

pub uses_later : (s s' : Table) (fs : List Found) → Follows s s' → AreUsesOver s fs → AreUsesOver s' fs
uses_later s s' [] f o = tt
uses_later s s' (u ∷ us) f o = (kinds_later s s' u.kinds f o.0, uses_later s s' us f o.1)

pending_later : (s s' : Table) (ks : List Pending) → Follows s s' → ArePendingOver s ks → ArePendingOver s' ks
pending_later s s' [] f o = tt
pending_later s s' (of_term k ∷ ks) f o = (kind_later s s' k f o.0, pending_later s s' ks f o.1)
pending_later s s' (of_def j ∷ ks) f o = (tt, pending_later s s' ks f o.1)

text_later : (s s' : Table) (us : List TextUse) → Follows s s' → IsTextOver s us → IsTextOver s' us
text_later s s' [] f o = tt
text_later s s' (u ∷ us) f o = (pending_later s s' u.kinds f o.0, text_later s s' us f o.1)

known_later : (s s' : Table) (ks : List Known) → Follows s s' → AreKnownOver s ks → AreKnownOver s' ks
known_later s s' [] f o = tt
known_later s s' (value t u ∷ ks) f o = (over_later s s' u f o.0, known_later s s' ks f o.1)
known_later s s' (function d us ∷ ks) f o = (text_later s s' us f o.0, known_later s s' ks f o.1)

types_later : (s s' : Table) (xs : List (ℕ × Term)) → Follows s s' → AreTypesOver s xs → AreTypesOver s' xs
types_later s s' [] f o = tt
types_later s s' (x ∷ xs) f o = (over_later s s' x.1 f o.0, types_later s s' xs f o.1)

pub env_later : (s s' : Table) (env : Env) → Follows s s' → IsEnvOver s env → IsEnvOver s' env
env_later s s' env f o = record { before = known_later s s' env.before f o.before; inner = types_later s s' env.inner f o.inner }

-- ---- assignments that agree

pub meaning_over : (s : Table) (a b : Assignment) (t : Term) → IsOver s t → Agrees s a b → meaning a t ≡ meaning b t
meaning_over s a b t o g = meaning_same a b t (InTerm-map (λ n l. g.types n l) (λ n l. g.kinds n l) t o)

kind_over : (s : Table) (a b : Assignment) (k : KindTerm) → IsKindOver s k → Agrees s a b → kind_meaning a k ≡ kind_meaning b k
kind_over s a b k o g = kind_meaning_same a b k (InKind-map (λ n l. g.kinds n l) k o)

pub kinds_over : (s : Table) (a b : Assignment) (ks : List KindTerm) → AreKindsOver s ks → Agrees s a b → map (kind_meaning a) ks ≡ map (kind_meaning b) ks
kinds_over s a b [] o g = refl
kinds_over s a b (k ∷ ks) o g = ap₂ (λ (x : Kind) (xs : List Kind). x ∷ xs) (kind_over s a b k o.0 g) (kinds_over s a b ks o.1 g)

pending_over : (s : Table) (a b : Assignment) (ks : List Pending) → ArePendingOver s ks → Agrees s a b → map (settled a) ks ≡ map (settled b) ks
pending_over s a b [] o g = refl
pending_over s a b (of_term k ∷ ks) o g = ap₂ (λ x xs. Fixed x ∷ xs) (kind_over s a b k o.0 g) (pending_over s a b ks o.1 g)
pending_over s a b (of_def j ∷ ks) o g = ap (λ xs. settled a (of_def j) ∷ xs) (pending_over s a b ks o.1 g)

text_over : (s : Table) (a b : Assignment) (us : List TextUse) → IsTextOver s us → Agrees s a b → map (settled_use a) us ≡ map (settled_use b) us
text_over s a b [] o g = refl
text_over s a b (u ∷ us) o g = ap₂ (λ ks (xs : List Use). record { at = u.at; target = u.target; kinds = ks } ∷ xs) (pending_over s a b u.kinds o.0 g) (text_over s a b us o.1 g)

entries_over : (s : Table) (a b : Assignment) (ks : List Known) → AreKnownOver s ks → Agrees s a b → entries_under a ks ≡ entries_under b ks
entries_over s a b [] o g = refl
entries_over s a b (value t u ∷ ks) o g = ap₂ (λ x (xs : List Entry). entry.value t x ∷ xs) (meaning_over s a b u o.0 g) (entries_over s a b ks o.1 g)
entries_over s a b (function d us ∷ ks) o g = ap (λ (xs : List Entry). entry.function d ∷ xs) (entries_over s a b ks o.1 g)

texts_over : (s : Table) (a b : Assignment) (ks : List Known) → AreKnownOver s ks → Agrees s a b → texts_under a ks ≡ texts_under b ks
texts_over s a b [] o g = refl
texts_over s a b (value t u ∷ ks) o g = texts_over s a b ks o.1 g
texts_over s a b (function d us ∷ ks) o g = ap₂ (λ x (xs : Texts). (def_token d, x) ∷ xs) (text_over s a b us o.0 g) (texts_over s a b ks o.1 g)

types_over : (s : Table) (a b : Assignment) (xs : List (ℕ × Term)) → AreTypesOver s xs → Agrees s a b → types_under a xs ≡ types_under b xs
types_over s a b [] o g = refl
types_over s a b (x ∷ xs) o g = ap₂ (λ t (ts : TypesByToken). (x.0, t) ∷ ts) (meaning_over s a b x.1 o.0 g) (types_over s a b xs o.1 g)

-- what holds of what is seen under one holds of what is seen under the other
pub seen_over : (P : Sight → Type 0) (s : Table) (env : Env) (a b : Assignment) (kinds : Places) → IsEnvOver s env → Agrees s a b → P (sight_under env a kinds) → P (sight_under env b kinds)
seen_over P s env a b kinds o g p =
    subst (λ (ts : TypesByToken). P (within ts (sight env.targets kinds (entries_under b env.before) []))) (types_over s a b env.inner o.inner g)
    (subst (λ (es : List Entry). P (within (types_under a env.inner) (sight env.targets kinds es []))) (entries_over s a b env.before o.before g) p)

each_over : (s : Table) (xs : Texts) (a b : Assignment) (kinds : Places) (fs : List Found) → AreUsesOver s fs → Agrees s a b → EachTakes xs kinds a fs → EachTakes xs kinds b fs
each_over s xs a b kinds [] o g p = tt
each_over s xs a b kinds (f ∷ fs) o g p = (subst (λ ks. Takes (CallTakes xs kinds) kinds [] f.at f.target ks) (kinds_over s a b f.kinds o.0 g) p.0, each_over s xs a b kinds fs o.1 g p.1)

pub found_over : (s : Table) (env : Env) (a b : Assignment) (kinds : Places) (fs : List Found) → IsEnvOver s env → AreUsesOver s fs → Agrees s a b → AreFound env a kinds fs → AreFound env b kinds fs
found_over s env a b kinds fs o u g p = subst (λ (xs : Texts). EachTakes xs kinds b fs) (texts_over s a b env.before o.before g) (each_over s (texts_under a env.before) a b kinds fs u g p)

pub takes_over : (s : Table) (env : Env) (a b : Assignment) (kinds : Places) (at : ℕ) (t : Target) (ks : List Kind) → IsEnvOver s env → Agrees s a b → Takes (CallTakes (texts_under a env.before) kinds) kinds [] at t ks → Takes (CallTakes (texts_under b env.before) kinds) kinds [] at t ks
takes_over s env a b kinds at t ks o g p = subst (λ (xs : Texts). Takes (CallTakes xs kinds) kinds [] at t ks) (texts_over s a b env.before o.before g) p

-- ---- solutions that are reached in steps

pub reach : {s s1 s2 : Table} {a : Assignment} {Q R : Assignment → Type 0} → Follows s s1 → Reached s s1 a Q → ((b : Assignment) → Solves b s1 → Agrees s a b → Q b → Reached s1 s2 b R) → Reached s s2 a R
reach {s} {s1} {s2} {a} f r k = let z = k r.at r.solves r.agrees r.holds in record { at = z.at; solves = z.solves; agrees = agrees_both s s1 a r.at z.at f r.agrees z.agrees; holds = z.holds }

pub arrive : {s s1 s2 : Table} {a : Assignment} {R : Assignment → Type 0} → Follows s s1 → ((b : Assignment) × Solves b s1 × Agrees s a b) → ((b : Assignment) → Solves b s1 → Agrees s a b → Reached s1 s2 b R) → Reached s s2 a R
arrive {s} {s1} {s2} {a} f r k = let z = k r.0 r.1 r.2 in record { at = z.at; solves = z.solves; agrees = agrees_both s s1 a r.0 z.at f r.2 z.agrees; holds = z.holds }

-- the last step
pub ends : {s s1 : Table} {a : Assignment} {R : Assignment → Type 0} → ((b : Assignment) × Solves b s1 × Agrees s a b) → ((b : Assignment) → Solves b s1 → Agrees s a b → R b) → Reached s s1 a R
ends r k = record { at = r.0; solves = r.1; agrees = r.2; holds = k r.0 r.1 r.2 }

pub ends_with : {s s1 : Table} {a : Assignment} {Q R : Assignment → Type 0} → Reached s s1 a Q → ((b : Assignment) → Solves b s1 → Agrees s a b → Q b → R b) → Reached s s1 a R
ends_with r k = record { at = r.at; solves = r.solves; agrees = r.agrees; holds = k r.at r.solves r.agrees r.holds }

pub stay : {s : Table} {a : Assignment} {R : Assignment → Type 0} → Solves a s → R a → Reached s s a R
stay {s} {a} m h = record { at = a; solves = m; agrees = agrees_same s a; holds = h }
