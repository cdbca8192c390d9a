-- x = [], def f() = [x, [blank()]] end, which nothing calls: nothing fixes the kind of what x holds, so it is stereo. The whole contract of inference.
use Rattle.std.proofs.Common.{◌≡◌, inl, inr, refl, sym, subst, ap, ◌∙◌, ℕ, suc, arith, List, [], ◌∷◌, ◌++◌, Option, Some, None, true, false, length}
use Rattle.std.specs.Prelude.{codes}
use Rattle.liq_base.specs.declared.memory.Kind.{Kind}
use Rattle.liq_base.specs.declared.memory.Kind.TheVariants.{Mono, Stereo}
use Rattle.script_grammar.specs.Tree.{Tree, ADef, none, Def, DefPart, Listed, Named, Stmt, Script}
use Rattle.type_terms.specs.Ground.{Ground, list, source}
use Rattle.typing_rules.specs.declared.uses.Use.{Use}
use Rattle.typing_rules.specs.declared.uses.KindOf.TheVariants.{Fixed}
use Rattle.typing_rules.specs.declared.uses.Builtin.TheVariants as builtin
use Rattle.typing_rules.specs.declared.uses.Target.TheVariants as target
use Rattle.typing_rules.specs.Table.{IsCallOf, params_of_builtin}
use Rattle.typing_rules.specs.Scoping.{Name, target_of}
use Rattle.typing_rules.specs.Typing.{DefHas, TypesByToken, type_at}
use Rattle.typing_rules.specs.Scripts.{Entry, IsTypedTo, Places, Targets, function, sight, value}
use Rattle.typing_rules.specs.Kinds.{AreSame, IsLessInside, IsOpen, IsPlace, IsUsedIn, MonoWhere, Stands, blocks, read, target_at}
use Rattle.typing_rules.specs.Answers.{IsTyped}
use Rattle.typing_rules.proofs.Samples.{binds, called, full, lone, one, two}
use Rattle.typing_rules.proofs.ClashChecks.{all_stereo, blank_call, list_same}
use Rattle.typing_rules.proofs.Lesser.{read_less, same_targets}
use Rattle.typing_rules.proofs.HalvesLeast.{one_source, same_kinds}

abbrev text : Tree ADef
text = Def 5 (codes "f") none true none (lone (Listed 8 (two (full (Named 9 (codes "x"))) (full (Listed 11 (one (full (called 12 (codes "blank") none))))))))

abbrev uncalled : Script
uncalled = two (binds 0 (codes "x") (Listed 2 none)) (Stmt (DefPart text) false)

abbrev uses_with : Kind → List Use
uses_with k = record { at = 9; target = target.Slot 0; kinds = [] } ∷ record { at = 12; target = target.Builtin builtin.Blank; kinds = Fixed k ∷ [] } ∷ []

abbrev uses : List Use
uses = uses_with Stereo

-- the def where x is a list of sources of a kind
abbrev TextHas : Ground → Places → List Ground → Ground → Type 0
TextHas x kinds ts g = DefHas (sight (target_at uses) kinds (value 0 x ∷ []) []) text ts g

text_has : (k : Kind) (kinds : Places) → kinds [] 12 ≡ Some (k ∷ []) → TextHas (list (source k)) kinds [] (list (list (source k)))
text_has k kinds is = (refl, ([], refl, (((((list (source k), refl, (((((refl, tt, tt), tt, tt), tt, tt), tt, tt), ((((((source k, refl, (((((([], refl, (k ∷ [], is, blank_call k)), tt, tt), tt, tt), tt, tt), tt, tt), tt)), tt, tt), tt, tt), tt, tt), tt, tt), tt))), tt, tt), tt, tt), tt, tt), tt, tt)))

typed : (kinds : Places) → IsTypedTo (target_at uses) kinds [] uncalled (function text ∷ value 0 (list (source Stereo)) ∷ [])
typed kinds = (list (source Stereo), (((((source Stereo, refl, tt), tt, tt), tt, tt), tt, tt), tt, tt), ((all_stereo, [], list (list (source Stereo)), text_has Stereo all_stereo refl), refl))

-- what a typing says of the text's one builtin
text_kind : (x : Ground) (kinds : Places) (ts : List Ground) (g : Ground) → TextHas x kinds ts g → (k : Kind) × (kinds [] 12 ≡ Some (k ∷ [])) × (x ≡ list (source k))
text_kind x kinds ts g h =
    let both = h.1.2.0.0.0.0 in
    let x_there : Some x ≡ Some both.0 = subst (λ (us : TypesByToken). type_at 0 (us ++ (0, x) ∷ []) ≡ Some both.0) h.1.1 both.2.0.0.0.0.0 in
    let inner = both.2.1.0.0.0.0.0 in
    let call = inner.2.0.0.0.0.0 in
    let row : IsCallOf builtin.Blank call.0 call.2.0 inner.0 = call.2.2 in
    let k = row.at.kind_of 0 in
    let x_is : x ≡ both.0 = cc in
    (k, same_kinds (kinds [] 12) call.2.0 (k ∷ []) call.2.1 row.kinds, x_is ∙ inner.1 ∙ ap list (sym row.result))

-- ---- places

nowhere : (chain : List ℕ) (n : Name) → IsPlace (blocks [] uncalled) None chain n → ⊥
nowhere [] n (inl h) = absurd h.1
nowhere [] n (inr (inl h)) = let f : ◌≡◌ {A = Option ℕ} (Some 5) None = h.0 in cc
nowhere [] n (inr (inr h)) = h
nowhere (at ∷ chain) n h = nowhere chain h.0 h.2

-- a builtin in the text is `blank`, and no def is called
inside : (t : ℕ) (n : Name) (P : Name → Type 0) → P (record { at = 9; meant = Some (target.Slot 0, []); given = [] }) → P (record { at = 12; meant = Some (target.Builtin builtin.Blank, params_of_builtin builtin.Blank); given = [] }) → IsUsedIn (blocks [] uncalled) (Some t) n → P n
inside t n P x blank (inl h) = absurd h.1
inside t n P x blank (inr (inl (e, inl is))) = subst P is x
inside t n P x blank (inr (inl (e, inr (inl is)))) = subst P is blank
inside t n P x blank (inr (inl (e, inr (inr h)))) = absurd h
inside t n P x blank (inr (inr h)) = absurd h

no_calls : (chain : List ℕ) (c : Name) (t : ℕ) → IsPlace (blocks [] uncalled) (Some 5) chain c → target_of c.meant ≡ Some (target.Def t) → ⊥
no_calls [] c t h is = inside 5 c (λ n. target_of n.meant ≡ Some (target.Def t) → ⊥) (λ f. cc) (λ f. cc) h is
no_calls (at ∷ chain) c t h is = no_calls chain h.0 h.1 h.2 h.4

same : (k : Kind) (kinds : Places) → kinds [] 12 ≡ Some (k ∷ []) → AreSame (blocks [] uncalled) 5 (read [] (uses_with k)) kinds
same k kinds so [] n b h is = inside 5 n (λ m. target_of m.meant ≡ Some (target.Builtin b) → read [] (uses_with k) [] m.at ≡ kinds [] m.at) (λ f. cc) (λ f. sym so) h is
same k kinds so (at ∷ chain) n b h is = absurd (no_calls chain h.0 h.1 h.2 h.4)

-- ---- the def, in its environment

abbrev text_or : Tree ADef → Entry → Tree ADef
text_or o (value t g) = o
text_or o (function d) = d

here : (x : Ground) (P : List Entry → Tree ADef → Type 0) → P (value 0 x ∷ []) text → (d : Tree ADef) (before : List Entry) → Stands (function text ∷ value 0 x ∷ []) d before → P before d
here x P p d before (inl h) = subst (λ e. P before e) (ap (text_or text) h.0) (subst (λ es. P es text) h.1 p)
here x P p d before (inr (inl h)) = let f : value 0 x ≡ function d = h.0 in cc
here x P p d before (inr (inr h)) = absurd h

each_given : (k : Kind) (given : List Kind) → length given ≡ 0 → (ts : List Ground) × (g : Ground) × TextHas (list (source k)) (read given (uses_with k)) ts g
each_given k [] h = ([], list (list (source k)), text_has k (read [] (uses_with k)) refl)
each_given k (j ∷ js) h = absurd (let f : suc (length js) ≡ 0 = h in omega (arith, f))

only_given : (k : Kind) (kinds : Places) (ts : List Ground) (g : Ground) → TextHas (list (source k)) kinds ts g → (given : List Kind) × (length given ≡ 0) × AreSame (blocks [] uncalled) 5 (read given (uses_with k)) kinds
only_given k kinds ts g h =
    let j = text_kind (list (source k)) kinds ts g h in
    let is : k ≡ j.0 = one_source k j.0 (list_same (source k) (source j.0) j.2) in
    ([], refl, same k kinds (j.1 ∙ ap (λ (i : Kind). Some (i ∷ [])) (sym is)))

opened : (k : Kind) (d : Tree ADef) (before : List Entry) → Stands (function text ∷ value 0 (list (source k)) ∷ []) d before → IsOpen (blocks [] uncalled) (uses_with k) before d
opened k = here (list (source k)) (λ bs e. IsOpen (blocks [] uncalled) (uses_with k) bs e) (record { count = 0; number = refl; each = each_given k; only = only_given k })

-- with whatever typing, x is a list of sources of one kind, and the text has it
less_inside : (kinds : Places) (es : List Entry) → IsTypedTo (target_at uses) kinds [] uncalled es → IsLessInside (blocks [] uncalled) uses es
less_inside kinds es h =
    let k = text_kind h.0 h.2.0.0 h.2.0.1 h.2.0.2 h.2.0.3 in
    (uses_with k.0, (refl, refl, tt, (refl, refl, ((λ (f : Stereo ≡ Mono). cc), tt), tt)), λ d before st. opened k.0 d before (subst (λ x. Stands (function text ∷ value 0 x ∷ []) d before) k.2 (subst (λ fs. Stands fs d before) h.2.1 st)))

some_same : (js ks : List Kind) → Some js ≡ Some ks → js ≡ ks
some_same js ks e = cc

uncalled_typed : IsTyped uncalled uses
uncalled_typed = record {
  names = refl;
  targets = refl;
  entries = function text ∷ value 0 (list (source Stereo)) ∷ [];
  typing = typed (read [] uses);
  least = λ kinds es h chain n b place is. absurd (nowhere chain n place);
  numbered = record { order = (refl, ((0, refl), tt)); each = (refl, (refl, tt)) };
  opened = opened Stereo;
  least_inside = less_inside;
}

-- mono where nothing fixes the kind
uncalled_is_mono : IsTyped uncalled (uses_with Mono) → ⊥
uncalled_is_mono h =
    let in_text = h.least_inside all_stereo (function text ∷ value 0 (list (source Stereo)) ∷ []) (typed all_stereo) in
    let open_text = in_text.2 text (value 0 (list (source Stereo)) ∷ []) (inl (refl, refl)) in
    let means : target_at in_text.0 ≡ target_at uses = sym (same_targets (uses_with Mono) in_text.0 in_text.1) in
    let has : DefHas (sight (target_at in_text.0) all_stereo (value 0 (list (source Stereo)) ∷ []) []) text [] (list (list (source Stereo))) = subst (λ (ts : Targets). DefHas (sight ts all_stereo (value 0 (list (source Stereo)) ∷ []) []) text [] (list (list (source Stereo)))) (sym means) (text_has Stereo all_stereo refl) in
    let only = open_text.only all_stereo [] (list (list (source Stereo))) has in
    let there = only.2 [] (record { at = 12; meant = Some (target.Builtin builtin.Blank, params_of_builtin builtin.Blank); given = [] }) builtin.Blank (inr (inl (refl, inr (inl refl)))) refl in
    let l = read_less (uses_with Mono) in_text.0 in_text.1 only.0 [] 12 (Stereo ∷ []) there in
    let is : l.kinds ≡ Mono ∷ [] = sym (some_same (Mono ∷ []) l.kinds l.are) in
    let mono = subst (λ (ks : List Kind). MonoWhere ks (Stereo ∷ [])) is l.less in
    let f : Stereo ≡ Mono = mono.0 refl in cc
