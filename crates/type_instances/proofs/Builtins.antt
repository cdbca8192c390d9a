-- The rows of the builtins as schemes.
use Rattle.std.proofs.Common.{◌≡◌, ◌∙◌, sym, ap, refl, ℕ, zero, suc, ◌<◌, List, [], ◌∷◌, map, replicate, length, slice_get, subst, Some, rules}
use Rattle.liq_base.specs.declared.memory.Kind.{Kind}
use Rattle.type_terms.specs.Ground.{Ground, Assignment}
use Rattle.type_terms.specs.Naming.{instance}
use Rattle.type_terms.specs.Table.{Table}
use Rattle.type_terms.specs.Term.{Term, InTerm, meaning}
use Rattle.type_terms.specs.declared.ty.KindTerm.{KindTerm}
use Rattle.type_terms.specs.declared.ty.KindTerm.TheVariants.{Var}
use Rattle.typing_rules.specs.declared.uses.Builtin.{Builtin}
use Rattle.typing_rules.specs.declared.uses.Builtin.TheVariants as builtin
use Rattle.typing_rules.specs.declared.builtins.RowType.{RowType}
use Rattle.typing_rules.specs.Rows.{row_term}
use Rattle.typing_rules.specs.Arguments.{GivenArgument, Matched}
use Rattle.typing_rules.specs.Table.{IsCallOf, TypedParameter, first_kinds, params_of_builtin, signature}
use Rattle.type_instances.specs.declared.general.TypeParameter.{TypeParameter}
use Rattle.type_instances.specs.declared.general.TypeParameter.TheVariants.{Any, Outer as OuterType}
use Rattle.type_instances.specs.declared.general.KindParameter.{KindParameter}
use Rattle.type_instances.specs.declared.general.KindParameter.TheVariants.{Open, Outer as OuterKind}
use Rattle.type_instances.specs.Instances.{Instantiates}
use Rattle.type_instances.specs.NewVariables.{AreNewKinds, AreNewTypes, open_terms}
use Rattle.type_instances.specs.Rows.{numbered_row}
use Rattle.type_instances.specs.Schemes.{AreAmong, IsInstance, IsSchemeOver, KindMayBe, MayBe, builtin_scheme, open_numbers}
use Rattle.type_instances.proofs.Instancing.{instantiates, open_terms_counted}
use Rattle.type_instances.proofs.Reading.{none_is, some_is}

any_only : (n i : ℕ) (x : TypeParameter) → slice_get (replicate n Any) i ≡ Some x → x ≡ Any
any_only zero i x e = none_is x e
any_only (suc n) zero x e = sym (some_is Any x e)
any_only (suc n) (suc i) x e = any_only n i x e

open_only : (n i : ℕ) (x : KindParameter) → slice_get (replicate n Open) i ≡ Some x → x ≡ Open
open_only zero i x e = none_is x e
open_only (suc n) zero x e = sym (some_is Open x e)
open_only (suc n) (suc i) x e = open_only n i x e

no_outer_type : (n i k : ℕ) → slice_get (replicate n Any) i ≡ Some (OuterType k) → ⊥
no_outer_type n i k e = let f = any_only n i (OuterType k) e in let g : OuterType k ≡ Any = f in cc

no_outer_kind : (n i k : ℕ) → slice_get (replicate n Open) i ≡ Some (OuterKind k) → ⊥
no_outer_kind n i k e = let f = open_only n i (OuterKind k) e in let g : OuterKind k ≡ Open = f in cc

params_over : (b : Builtin) → AreAmong (length (builtin_scheme b).types) (length (builtin_scheme b).kinds) (builtin_scheme b).params
params_over builtin.OutputFile = search rules
params_over builtin.Set = search rules
params_over builtin.Single = search rules
params_over builtin.Playlist = search rules
params_over builtin.Blank = search rules
params_over builtin.Square = search rules
params_over builtin.Fail = search rules
params_over builtin.Fallback = search rules
params_over builtin.Switch = search rules
params_over builtin.Sequence = search rules
params_over builtin.Rotate = search rules
params_over builtin.Random = search rules
params_over builtin.Add = search rules
params_over builtin.Amplify = search rules
params_over builtin.Mean = search rules
params_over builtin.Stereo = search rules
params_over builtin.Crossfade = search rules
params_over builtin.Mksafe = search rules
params_over builtin.Buffer = search rules
params_over builtin.Clock = search rules

result_over : (b : Builtin) → InTerm (λ n. n < length (builtin_scheme b).types) (λ n. n < length (builtin_scheme b).kinds) (builtin_scheme b).result
result_over builtin.OutputFile = search rules
result_over builtin.Set = search rules
result_over builtin.Single = search rules
result_over builtin.Playlist = search rules
result_over builtin.Blank = search rules
result_over builtin.Square = search rules
result_over builtin.Fail = search rules
result_over builtin.Fallback = search rules
result_over builtin.Switch = search rules
result_over builtin.Sequence = search rules
result_over builtin.Rotate = search rules
result_over builtin.Random = search rules
result_over builtin.Add = search rules
result_over builtin.Amplify = search rules
result_over builtin.Mean = search rules
result_over builtin.Stereo = search rules
result_over builtin.Crossfade = search rules
result_over builtin.Mksafe = search rules
result_over builtin.Buffer = search rules
result_over builtin.Clock = search rules

pub builtin_over : (b : Builtin) (s : Table) → IsSchemeOver s (builtin_scheme b)
builtin_over b s = record {
  params = params_over b;
  result = result_over b;
  types = λ i k e. absurd (no_outer_type (signature b).types i k e);
  kinds = λ i k e. absurd (no_outer_kind (signature b).kinds i k e);
}

-- ---- a row with numbers for its variables, of which it has at most one of each sort

pub rows_numbered : (any kind : ℕ) (rs : List RowType) → map (numbered_row any kind) rs ≡ map (instance (any ∷ []) (kind ∷ [])) (map row_term rs)
rows_numbered any kind [] = refl
rows_numbered any kind (r ∷ rs) = ap (λ (ts : List Term). numbered_row any kind r ∷ ts) (rows_numbered any kind rs)

row_params_are : (b : Builtin) (any kind : ℕ) → map (instance (any ∷ []) (kind ∷ [])) (builtin_scheme b).params ≡ map (instance (replicate (signature b).types any) (replicate (signature b).kinds kind)) (builtin_scheme b).params
row_params_are builtin.OutputFile any kind = refl
row_params_are builtin.Set any kind = refl
row_params_are builtin.Single any kind = refl
row_params_are builtin.Playlist any kind = refl
row_params_are builtin.Blank any kind = refl
row_params_are builtin.Square any kind = refl
row_params_are builtin.Fail any kind = refl
row_params_are builtin.Fallback any kind = refl
row_params_are builtin.Switch any kind = refl
row_params_are builtin.Sequence any kind = refl
row_params_are builtin.Rotate any kind = refl
row_params_are builtin.Random any kind = refl
row_params_are builtin.Add any kind = refl
row_params_are builtin.Amplify any kind = refl
row_params_are builtin.Mean any kind = refl
row_params_are builtin.Stereo any kind = refl
row_params_are builtin.Crossfade any kind = refl
row_params_are builtin.Mksafe any kind = refl
row_params_are builtin.Buffer any kind = refl
row_params_are builtin.Clock any kind = refl

row_result_is : (b : Builtin) (any kind : ℕ) → instance (any ∷ []) (kind ∷ []) (builtin_scheme b).result ≡ instance (replicate (signature b).types any) (replicate (signature b).kinds kind) (builtin_scheme b).result
row_result_is builtin.OutputFile any kind = refl
row_result_is builtin.Set any kind = refl
row_result_is builtin.Single any kind = refl
row_result_is builtin.Playlist any kind = refl
row_result_is builtin.Blank any kind = refl
row_result_is builtin.Square any kind = refl
row_result_is builtin.Fail any kind = refl
row_result_is builtin.Fallback any kind = refl
row_result_is builtin.Switch any kind = refl
row_result_is builtin.Sequence any kind = refl
row_result_is builtin.Rotate any kind = refl
row_result_is builtin.Random any kind = refl
row_result_is builtin.Add any kind = refl
row_result_is builtin.Amplify any kind = refl
row_result_is builtin.Mean any kind = refl
row_result_is builtin.Stereo any kind = refl
row_result_is builtin.Crossfade any kind = refl
row_result_is builtin.Mksafe any kind = refl
row_result_is builtin.Buffer any kind = refl
row_result_is builtin.Clock any kind = refl

open_row : (m k : ℕ) → replicate m (Var k) ≡ open_terms (replicate m Open) (replicate m k)
open_row zero k = refl
open_row (suc m) k = ap (λ (ks : List KindTerm). Var k ∷ ks) (open_row m k)

module _ (s s1 s2 : Table) (b : Builtin) (any kind : ℕ) (types : AreNewTypes s s1 (builtin_scheme b).types (replicate (signature b).types any)) (kinds : AreNewKinds s1 s2 (builtin_scheme b).kinds (replicate (signature b).kinds kind)) where
  pub row_instantiates : (params : List Term) (result : Term) (opens : List KindTerm) → params ≡ map (instance (any ∷ []) (kind ∷ [])) (builtin_scheme b).params → result ≡ instance (any ∷ []) (kind ∷ []) (builtin_scheme b).result → opens ≡ replicate (signature b).kinds (Var kind) → Instantiates s s2 (builtin_scheme b) params result opens
  row_instantiates params result opens e f h =
      instantiates s s1 s2 (builtin_scheme b) (replicate (signature b).types any) (replicate (signature b).kinds kind) (builtin_over b s) types kinds params result opens
      (e ∙ row_params_are b any kind) (f ∙ row_result_is b any kind) (h ∙ open_row (signature b).kinds kind)

  pub row_counted : (opens : List KindTerm) → opens ≡ replicate (signature b).kinds (Var kind) → length opens ≡ length (open_numbers 0 (builtin_scheme b).kinds)
  row_counted opens h = ap length (h ∙ open_row (signature b).kinds kind) ∙ open_terms_counted (builtin_scheme b).kinds (replicate (signature b).kinds kind) 0 kinds.many

-- ---- a call of a builtin is an instance of its row

row_means : (a : Assignment) (ps : List TypedParameter) → map (λ p. meaning a p.1) ps ≡ map (meaning a) (map (λ p. p.1) ps)
row_means a [] = refl
row_means a (p ∷ ps) = ap (λ (gs : List Ground). meaning a p.1 ∷ gs) (row_means a ps)

row_kinds_are : (b : Builtin) (f : ℕ → Kind) → first_kinds f (signature b).kinds ≡ map f (open_numbers 0 (replicate (signature b).kinds Open))
row_kinds_are builtin.OutputFile f = refl
row_kinds_are builtin.Set f = refl
row_kinds_are builtin.Single f = refl
row_kinds_are builtin.Playlist f = refl
row_kinds_are builtin.Blank f = refl
row_kinds_are builtin.Square f = refl
row_kinds_are builtin.Fail f = refl
row_kinds_are builtin.Fallback f = refl
row_kinds_are builtin.Switch f = refl
row_kinds_are builtin.Sequence f = refl
row_kinds_are builtin.Rotate f = refl
row_kinds_are builtin.Random f = refl
row_kinds_are builtin.Add f = refl
row_kinds_are builtin.Amplify f = refl
row_kinds_are builtin.Mean f = refl
row_kinds_are builtin.Stereo f = refl
row_kinds_are builtin.Crossfade f = refl
row_kinds_are builtin.Mksafe f = refl
row_kinds_are builtin.Buffer f = refl
row_kinds_are builtin.Clock f = refl

pub call_of_instance : (b : Builtin) (gs : List (GivenArgument Ground)) (ts : List Ground) (ks : List Kind) (g : Ground) (a : Assignment) → Matched (params_of_builtin b) gs ts → IsInstance (builtin_scheme b) a ts g ks → IsCallOf b gs ks g
call_of_instance b gs ts ks g a m x = record {
  types = ts;
  matched = m;
  at = x.at;
  params = row_means x.at (signature b).params ∙ x.params;
  result = x.result;
  kinds = row_kinds_are b x.at.kind_of ∙ x.opened;
}

pub instance_of_call : (b : Builtin) (gs : List (GivenArgument Ground)) (ks : List Kind) (g : Ground) (a : Assignment) (c : IsCallOf b gs ks g) → IsInstance (builtin_scheme b) a c.types g ks
instance_of_call b gs ks g a c = record {
  at = c.at;
  types = λ i x e. subst (λ y. MayBe a y (c.at.type_of i)) (sym (any_only (signature b).types i x e)) tt;
  kinds = λ i x e. subst (λ y. KindMayBe a y (c.at.kind_of i)) (sym (open_only (signature b).kinds i x e)) tt;
  params = sym (row_means c.at (signature b).params) ∙ c.params;
  result = c.result;
  opened = sym (row_kinds_are b c.at.kind_of) ∙ c.kinds;
}
