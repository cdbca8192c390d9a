-- The kinds of the uses of `half` are the least, and the whole contract of inference holds of them.
use Rattle.std.proofs.Common.{◌≡◌, inl, inr, refl, sym, subst, ap, ◌∙◌, ℕ, List, [], ◌∷◌, ◌++◌, Option, Some, None}
use Rattle.std.specs.Prelude.{codes}
use Rattle.fixed_text.specs.declared.decimal.Decimal.{Decimal}
use Rattle.liq_base.specs.declared.memory.Kind.{Kind}
use Rattle.liq_base.specs.declared.memory.Kind.TheVariants.{Mono, Stereo}
use Rattle.type_terms.specs.Ground.{Ground, base_type, source}
use Rattle.type_terms.specs.declared.ty.Base.TheVariants as base
use Rattle.typing_rules.specs.declared.uses.Builtin.TheVariants as builtin
use Rattle.typing_rules.specs.declared.uses.Target.TheVariants as target
use Rattle.typing_rules.specs.declared.form.Form.TheVariants.{InPlace, Perhaps}
use Rattle.typing_rules.specs.Arguments.{GivenArgument, Matched, Parameter}
use Rattle.typing_rules.specs.Table.{IsCallOf, params_of_builtin}
use Rattle.typing_rules.specs.Scoping.{Name, target_of}
use Rattle.typing_rules.specs.Typing.{DefHas, TypesByToken, type_at}
use Rattle.typing_rules.specs.Scripts.{Entry, Places, function, sight, IsTypedTo}
use Rattle.typing_rules.specs.Kinds.{Block, IsLess, IsUsedIn, MonoOnly, Stands, blocks, read, target_at}
use Rattle.typing_rules.specs.Answers.{IsTyped}
use Rattle.typing_rules.proofs.Halves.{half, halves, uses, typed, numbered}
use Rattle.typing_rules.proofs.Lesser.{uses_same}
use Rattle.typing_rules.proofs.HalvesOpen.{All, first_names, one_of, in_def, opened}

output_takes : (f t u : Ground) (types : List Ground) (k : Kind) → base_type base.Text ∷ base_type base.Bool ∷ base_type base.Format ∷ base_type base.Text ∷ source k ∷ [] ≡ types → Matched (params_of_builtin builtin.OutputFile) ((None, f) ∷ (None, t) ∷ (None, u) ∷ []) types → u ≡ source k
output_takes f t u types k is m = (subst (λ ts. Matched (params_of_builtin builtin.OutputFile) ((None, f) ∷ (None, t) ∷ (None, u) ∷ []) ts) (sym is) m).2.1.1.0

amplify_takes : (u v : Ground) (types : List Ground) (k : Kind) → base_type base.Text ∷ base_type base.Decimal ∷ source k ∷ [] ≡ types → Matched (params_of_builtin builtin.Amplify) ((None, u) ∷ (None, v) ∷ []) types → v ≡ source k
amplify_takes u v types k is m = (subst (λ ts. Matched (params_of_builtin builtin.Amplify) ((None, u) ∷ (None, v) ∷ []) ts) (sym is) m).2.1.0

abbrev half_params : List Parameter
half_params = record { name = codes "by"; form = Perhaps } ∷ record { name = codes "s"; form = InPlace } ∷ []

half_takes : (m x : Ground) (ts : List Ground) → Matched half_params ((None, m) ∷ (Some (codes "by"), x) ∷ []) ts → (w : Ground) × (v : Ground) × (ts ≡ w ∷ v ∷ []) × (m ≡ v)
half_takes m x [] h = absurd h.2
half_takes m x (w ∷ []) h = absurd h.2.1
half_takes m x (w ∷ v ∷ []) h = (w, v, refl, h.2.1.0)
half_takes m x (w ∷ v ∷ y ∷ ts) h = absurd h.2.1.1

half_takes_one : (m : Ground) (ts : List Ground) → Matched half_params ((None, m) ∷ []) ts → (w : Ground) × (v : Ground) × (ts ≡ w ∷ v ∷ [])
half_takes_one m [] h = absurd h.2
half_takes_one m (w ∷ []) h = absurd h.2
half_takes_one m (w ∷ v ∷ []) h = (w, v, refl)
half_takes_one m (w ∷ v ∷ y ∷ ts) h = absurd h.2.1

-- the text of `half` has the kind of its source
body_kind : (d : Decimal) (kinds : Places) (chain : List ℕ) (w v u : Ground) → DefHas (sight (target_at uses) kinds [] chain) (half d) (w ∷ v ∷ []) u → (k : Kind) × (kinds chain 10 ≡ Some (k ∷ [])) × (v ≡ source k) × (u ≡ source k)
body_kind d kinds chain w v u h =
    let call = h.1.2.0.0.0.0 in
    let first = call.1 in
    let second = first.4 in
    let s_there : Some v ≡ Some second.0 = subst (λ (us : TypesByToken). type_at 7 (us ++ []) ≡ Some second.0) h.1.1 second.3.0.0.0.0 in
    let all : call.0 ≡ (None, first.0) ∷ (None, second.0) ∷ [] = first.2 ∙ ap (λ (us : List (GivenArgument Ground)). (None, first.0) ∷ us) (second.2 ∙ ap (λ (us : List (GivenArgument Ground)). (None, second.0) ∷ us) second.4) in
    let row : IsCallOf builtin.Amplify call.0 call.2.0 u = call.2.2 in
    let k = row.at.kind_of 0 in
    let is : second.0 ≡ source k = amplify_takes first.0 second.0 row.types k row.params (subst (λ (gs : List (GivenArgument Ground)). Matched (params_of_builtin builtin.Amplify) gs row.types) all row.matched) in
    (k, call.2.1 ∙ ap (λ (ks : List Kind). Some ks) (sym row.kinds), (let f : v ≡ second.0 = cc in f ∙ is), sym row.result)

pub one_source : (j k : Kind) → source j ≡ source k → j ≡ k
one_source j k h = cc

-- what an output takes
output_kind : (ks : List Kind) (f t u g : Ground) (gs : List (GivenArgument Ground)) → gs ≡ (None, f) ∷ (None, t) ∷ (None, u) ∷ [] → IsCallOf builtin.OutputFile gs ks g → (k : Kind) × (k ∷ [] ≡ ks) × (u ≡ source k)
output_kind ks f t u g gs all row = (row.at.kind_of 0, row.kinds, output_takes f t u row.types (row.at.kind_of 0) row.params (subst (λ (gs : List (GivenArgument Ground)). Matched (params_of_builtin builtin.OutputFile) gs row.types) all row.matched))

-- with a list of one kind nothing is less than stereo, and mono is not less than mono
stereo_less : (o : Option (List Kind)) (k : Kind) → o ≡ Some (k ∷ []) → MonoOnly (Some (Stereo ∷ [])) o
stereo_less o k is = subst (λ p. MonoOnly (Some (Stereo ∷ [])) p) (sym is) ((λ (f : Stereo ≡ Mono). cc), tt)

mono_less : (o : Option (List Kind)) (k : Kind) → k ≡ Mono → o ≡ Some (k ∷ []) → MonoOnly (Some (Mono ∷ [])) o
mono_less o k mono is = subst (λ p. MonoOnly (Some (Mono ∷ [])) p) (sym is) ((λ f. mono), tt)

none_less : (o : Option (List Kind)) → o ≡ Some [] → MonoOnly (Some []) o
none_less o is = subst (λ p. MonoOnly (Some []) p) (sym is) tt

-- what a typing says of each place
pub record Says (kinds : Places) : Type 0 where
  pub output_a : MonoOnly (read [] uses [] 16) (kinds [] 16)
  pub blank_a : MonoOnly (read [] uses [] 22) (kinds [] 22)
  pub inside_a : MonoOnly (read [] uses (21 ∷ []) 10) (kinds (21 ∷ []) 10)
  pub output_c : MonoOnly (read [] uses [] 26) (kinds [] 26)
  pub mean_c : MonoOnly (read [] uses [] 32) (kinds [] 32)
  pub blank_c : MonoOnly (read [] uses [] 33) (kinds [] 33)
  pub inside_c : MonoOnly (read [] uses (31 ∷ []) 10) (kinds (31 ∷ []) 10)

abbrev second : List Block → List Name
second [] = []
second (b ∷ bs) = first_names bs

abbrev third : List Block → List Name
third [] = []
third (b ∷ bs) = second bs

-- a name outside of the def
outside : (d e : Decimal) (P : Name → Type 0) → All P (second (blocks [] (halves d e))) → All P (third (blocks [] (halves d e))) → (n : Name) → IsUsedIn (blocks [] (halves d e)) None n → P n
outside d e P two three n (inl h) = let f : Some 1 ≡ None = h.0 in cc
outside d e P two three n (inr (inl h)) = one_of P (second (blocks [] (halves d e))) two n h.1
outside d e P two three n (inr (inr (inl h))) = one_of P (third (blocks [] (halves d e))) three n h.1
outside d e P two three n (inr (inr (inr h))) = absurd h

no_def_inside : (d e : Decimal) (t u : ℕ) (c : Name) → IsUsedIn (blocks [] (halves d e)) (Some t) c → target_of c.meant ≡ Some (target.Def u) → ⊥
no_def_inside d e t u c h is = in_def d e t (λ n. target_of n.meant ≡ Some (target.Def u) → ⊥) ((λ f. cc), ((λ f. cc), ((λ f. cc), tt))) c h is

less : (d e : Decimal) (kinds : Places) → Says kinds → IsLess (blocks [] (halves d e)) (read [] uses) kinds
less d e kinds s [] n b h is =
    outside d e (λ m. target_of m.meant ≡ Some (target.Builtin b) → MonoOnly (read [] uses [] m.at) (kinds [] m.at))
    ((λ f. s.output_a), ((λ f. cc), ((λ f. s.blank_a), tt)))
    ((λ f. s.output_c), ((λ f. cc), ((λ f. s.mean_c), ((λ f. s.blank_c), tt)))) n h is
less d e kinds s (at ∷ []) n b h is =
    let inside : (m : Name) → MonoOnly (read [] uses (m.at ∷ []) 10) (kinds (m.at ∷ []) 10) → m.at ≡ at → MonoOnly (read [] uses (at ∷ []) n.at) (kinds (at ∷ []) n.at) =
    λ m less_there same. in_def d e h.1 (λ o. target_of o.meant ≡ Some (target.Builtin b) → MonoOnly (read [] uses (at ∷ []) o.at) (kinds (at ∷ []) o.at))
    ((λ f. subst (λ i. MonoOnly (read [] uses (i ∷ []) 10) (kinds (i ∷ []) 10)) same less_there), ((λ f. cc), ((λ f. cc), tt))) n h.5 is in
    outside d e (λ m. target_of m.meant ≡ Some (target.Def h.1) → m.at ≡ at → MonoOnly (read [] uses (at ∷ []) n.at) (kinds (at ∷ []) n.at))
    ((λ f. cc), ((λ f. inside (record { at = 21; meant = None; given = [] }) s.inside_a), ((λ f. cc), tt)))
    ((λ f. cc), ((λ f. inside (record { at = 31; meant = None; given = [] }) s.inside_c), ((λ f. cc), ((λ f. cc), tt)))) h.0 h.2 h.4 h.3
less d e kinds s (at ∷ at' ∷ chain) n b h is = absurd (no_def_inside d e h.2.1 h.1 h.0 h.2.5 h.4)

abbrev HalfAt : Decimal → Places → List ℕ → List Ground → Ground → Type 0
HalfAt d kinds chain ts u = DefHas (sight (target_at uses) kinds [] chain) (half d) ts u

-- the row's kinds are those of the place
pub same_kinds : (o : Option (List Kind)) (ks js : List Kind) → o ≡ Some ks → js ≡ ks → o ≡ Some js
same_kinds o ks js so is = so ∙ ap (λ (ls : List Kind). Some ls) (sym is)

says : (d e : Decimal) (kinds : Places) (es : List Entry) → IsTypedTo (target_at uses) kinds [] (halves d e) es → Says kinds
says d e kinds es h =
    let a = h.1.0.1 in
    let a3 = a.1.4.4 in
    let a_row : IsCallOf builtin.OutputFile a.0 a.2.0 h.1.0.0 = a.2.2 in
    let half_a = a3.3.0.0.0.0 in
    let given_a = half_a.1 in
    let blank_a = given_a.3.0.0.0.0 in
    let blank_row_a : IsCallOf builtin.Blank blank_a.0 blank_a.2.0 given_a.0 = blank_a.2.2 in
    let all_a : half_a.0 ≡ (None, given_a.0) ∷ [] = given_a.2 ∙ ap (λ (us : List (GivenArgument Ground)). (None, given_a.0) ∷ us) given_a.4 in
    let def_a = half_a.2.2 in
    let takes_a = half_takes_one given_a.0 def_a.0 (subst (λ (gs : List (GivenArgument Ground)). Matched half_params gs def_a.0) all_a def_a.1) in
    let body_a = body_kind d kinds (21 ∷ []) takes_a.0 takes_a.1 a3.0 (subst (λ (ts : List Ground). HalfAt d kinds (21 ∷ []) ts a3.0) takes_a.2 def_a.2) in
    let c = h.1.1.0.1 in
    let c3 = c.1.4.4 in
    let c_row : IsCallOf builtin.OutputFile c.0 c.2.0 h.1.1.0.0 = c.2.2 in
    let all_c : c.0 ≡ (None, c.1.0) ∷ (None, c.1.4.0) ∷ (None, c3.0) ∷ [] =
    c.1.2 ∙ ap (λ (us : List (GivenArgument Ground)). (None, c.1.0) ∷ us) (c.1.4.2 ∙ ap (λ (us : List (GivenArgument Ground)). (None, c.1.4.0) ∷ us) (c3.2 ∙ ap (λ (us : List (GivenArgument Ground)). (None, c3.0) ∷ us) c3.4)) in
    let out_c = output_kind c.2.0 c.1.0 c.1.4.0 c3.0 h.1.1.0.0 c.0 all_c c_row in
    let half_c = c3.3.0.0.0.0 in
    let first = half_c.1 in
    let second = first.4 in
    let mean = first.3.0.0.0.0 in
    let mean_row : IsCallOf builtin.Mean mean.0 mean.2.0 first.0 = mean.2.2 in
    let blank_c = mean.1.3.0.0.0.0 in
    let blank_row_c : IsCallOf builtin.Blank blank_c.0 blank_c.2.0 mean.1.0 = blank_c.2.2 in
    let all_half : half_c.0 ≡ (None, first.0) ∷ (Some (codes "by"), second.0) ∷ [] = first.2 ∙ ap (λ (us : List (GivenArgument Ground)). (None, first.0) ∷ us) (second.2 ∙ ap (λ (us : List (GivenArgument Ground)). (Some (codes "by"), second.0) ∷ us) second.4) in
    let def_c = half_c.2.2 in
    let takes_c = half_takes first.0 second.0 def_c.0 (subst (λ (gs : List (GivenArgument Ground)). Matched half_params gs def_c.0) all_half def_c.1) in
    let body_c = body_kind d kinds (31 ∷ []) takes_c.0 takes_c.1 c3.0 (subst (λ (ts : List Ground). HalfAt d kinds (31 ∷ []) ts c3.0) takes_c.2 def_c.2) in
    let mono : source Mono ≡ first.0 = mean_row.result in
    let inside_mono : source body_c.0 ≡ source Mono = sym body_c.2 ∙ sym takes_c.3 ∙ sym mono in
    let output_mono : source out_c.0 ≡ source Mono = sym out_c.2 ∙ body_c.3 ∙ inside_mono in
    record {
      output_a = stereo_less (kinds [] 16) (a_row.at.kind_of 0) (same_kinds (kinds [] 16) a.2.0 (a_row.at.kind_of 0 ∷ []) a.2.1 a_row.kinds);
      blank_a = stereo_less (kinds [] 22) (blank_row_a.at.kind_of 0) (same_kinds (kinds [] 22) blank_a.2.0 (blank_row_a.at.kind_of 0 ∷ []) blank_a.2.1 blank_row_a.kinds);
      inside_a = stereo_less (kinds (21 ∷ []) 10) body_a.0 body_a.1;
      output_c = mono_less (kinds [] 26) out_c.0 (one_source out_c.0 Mono output_mono) (same_kinds (kinds [] 26) c.2.0 (out_c.0 ∷ []) c.2.1 out_c.1);
      mean_c = none_less (kinds [] 32) (same_kinds (kinds [] 32) mean.2.0 [] mean.2.1 mean_row.kinds);
      blank_c = stereo_less (kinds [] 33) (blank_row_c.at.kind_of 0) (same_kinds (kinds [] 33) blank_c.2.0 (blank_row_c.at.kind_of 0 ∷ []) blank_c.2.1 blank_row_c.kinds);
      inside_c = mono_less (kinds (31 ∷ []) 10) body_c.0 (one_source body_c.0 Mono inside_mono) body_c.1;
    }

-- the contract of inference
pub halves_typed : (d e : Decimal) → IsTyped (halves d e) uses
halves_typed d e = record {
  names = refl;
  targets = refl;
  entries = function (half d) ∷ [];
  typing = typed d e;
  least = λ kinds es h. less d e kinds (says d e kinds es h);
  least_inside = λ kinds es h. (uses, uses_same uses, λ def before st. opened d e def before (subst (λ fs. Stands fs def before) h.1.1.1 st));
  numbered = numbered d e;
  opened = opened d e;
}
