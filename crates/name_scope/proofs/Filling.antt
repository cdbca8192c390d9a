-- A call whose arguments fill the places of its parameters has no fault.
use Rattle.std.proofs.Common.{◌≡◌, ◌≢◌, refl, sym, ap, ◌∙◌, ℕ, zero, suc, arith, ◌+◌, ◌-◌, ◌<◌, ◌≤◌, List, [], ◌∷◌, length, drop, get_or, Option, Some, None, Bool, true, false, cond, map}
use Rattle.std.proofs.lemmas.List.{at_drop_more}
use Rattle.std.specs.Cmp.{unsigned_Decides}
use Rattle.std.specs.Prelude.{is_some, nat_eq}
use Rattle.script_grammar.specs.View.{listed, view_arg}
use Rattle.script_grammar.specs.declared.tree.Arg.{Arg}
use Rattle.typing_rules.specs.declared.form.Form.{Form}
use Rattle.typing_rules.specs.declared.form.Form.TheVariants.{InPlace, ByLabel, Perhaps}
use Rattle.typing_rules.specs.Arguments.{GivenArgument, Parameter, after, argument, first_missing, label_of, left_over, missing_or, others}
use Rattle.typing_rules.specs.Scoping.{tokens_given}
use Rattle.typing_rules.specs.declared.parameter.Parameter.{Parameter as AParameter}
use Rattle.name_scope.specs.InPlace.{has_label, left_behind, left_by}
use Rattle.name_scope.specs.Seen.{seen_parameter}
use Rattle.typing_rules.proofs.Searches.{search_default, search_next, search_none, search_there}

abbrev Taken : Type 0
Taken = Option (ℕ × List (GivenArgument ℕ))

unlike : (name : List ℕ) (l : Option (List ℕ)) (t : ℕ) (gs : List (GivenArgument ℕ)) → cond (is_some l) true (has_label gs) ≡ false → (has_label gs ≡ false → argument (Some name) gs ≡ None) → argument (Some name) ((l, t) ∷ gs) ≡ None
unlike name None t gs h so = ap (after (None, t)) (so h)
unlike name (Some l) t gs h so = absurd (cc)

none_found : (name : List ℕ) (gs : List (GivenArgument ℕ)) → has_label gs ≡ false → argument (Some name) gs ≡ None
none_found name [] h = refl
none_found name (g ∷ gs) h = unlike name g.0 g.1 gs h (none_found name gs)

first_found : (l : Option (List ℕ)) (t : ℕ) (gs : List (GivenArgument ℕ)) → cond (is_some l) true (has_label gs) ≡ false → (argument None ((l, t) ∷ gs) ≡ Some (t, gs)) × (has_label gs ≡ false)
first_found None t gs h = (refl, h)
first_found (Some l) t gs h = absurd (cc)

none_left : (ps : List Parameter) → left_behind ps None ≡ None
none_left [] = refl
none_left (p ∷ ps) = none_left ps

abbrev pub HasNoFault : List Parameter → List (GivenArgument ℕ) → Type 0
HasNoFault ps gs = (first_missing ps gs ≡ None) × (left_over ps gs ≡ [])

abbrev AreFilled : List Parameter → Type 0
AreFilled ps = (gs : List (GivenArgument ℕ)) → has_label gs ≡ false → left_behind ps (Some (length gs)) ≡ Some 0 → HasNoFault ps gs

by_taken : (p : Parameter) (ps : List Parameter) (gs : List (GivenArgument ℕ)) (o : Taken) → argument (label_of p) gs ≡ o → (missing_or p o (first_missing ps (others gs o)) ≡ None) × (left_over ps (others gs o) ≡ []) → HasNoFault (p ∷ ps) gs
by_taken p ps gs o is so = (ap (λ (x : Taken). missing_or p x (first_missing ps (others gs x))) is ∙ so.0, ap (λ (x : Taken). left_over ps (others gs x)) is ∙ so.1)

in_place : (name : List ℕ) (ps : List Parameter) (gs : List (GivenArgument ℕ)) → has_label gs ≡ false → left_behind ps (left_by InPlace (Some (length gs))) ≡ Some 0 → AreFilled ps → HasNoFault (record { name = name; form = InPlace } ∷ ps) gs
in_place name ps [] h e so = let never : ◌≡◌ {A = Option ℕ} None (Some 0) = sym (none_left ps) ∙ e in absurd (cc)
in_place name ps (g ∷ gs) h e so = let first = first_found g.0 g.1 gs h in by_taken (record { name = name; form = InPlace }) ps (g ∷ gs) (Some (g.1, gs)) first.0 (so gs first.1 e)

by_form : (name : List ℕ) (f : Form) (ps : List Parameter) (gs : List (GivenArgument ℕ)) → has_label gs ≡ false → left_behind ps (left_by f (Some (length gs))) ≡ Some 0 → AreFilled ps → HasNoFault (record { name = name; form = f } ∷ ps) gs
by_form name InPlace ps gs h e so = in_place name ps gs h e so
by_form name ByLabel ps gs h e so = let never : ◌≡◌ {A = Option ℕ} None (Some 0) = sym (none_left ps) ∙ e in absurd (cc)
by_form name Perhaps ps gs h e so = by_taken (record { name = name; form = Perhaps }) ps gs None (none_found name gs h) (so gs h e)

filled : (ps : List Parameter) → AreFilled ps
filled [] [] h e = (refl, refl)
filled [] (g ∷ gs) h e = absurd (cc)
filled (p ∷ ps) gs h e = by_form p.name p.form ps gs h e (filled ps)

-- the arguments that are left, one parameter at a time
pub nothing_before : (n : ℕ) → n ≢ 0 → Some (n - 1) ≡ left_by InPlace (Some n)
nothing_before zero other = absurd (other refl)
nothing_before (suc n) other = let less : suc n - 1 ≡ n = omega arith in ap (λ (k : ℕ). Some k) less

pub left_next : (ps : List AParameter) (i : ℕ) (d : AParameter) (o q whole : Option ℕ) → i < length ps → left_behind (map seen_parameter (drop i ps)) o ≡ whole → q ≡ left_by (get_or ps i d).form o → left_behind (map seen_parameter (drop (i + 1) ps)) q ≡ whole
left_next ps i d o q whole lt so e =
    let p = get_or ps i d in
    let is : p ≡ get_or ps i p = search_default ps i d p lt refl in
    ap (left_behind (map seen_parameter (drop (i + 1) ps))) e
    ∙ ap (λ (y : AParameter). left_behind (map seen_parameter (y ∷ drop (i + 1) ps)) o) is
    ∙ sym (at_drop_more (λ (l : List AParameter). left_behind (map seen_parameter l) o) ps i p lt) ∙ so

-- the same said of the arguments of a call
tokens_length : (args : List Arg) → length (tokens_given (listed (map view_arg args))) ≡ length args
tokens_length [] = refl
tokens_length (a ∷ rest) = ap (λ (n : ℕ). suc n) (tokens_length rest)

pub call_filled : (ps : List Parameter) (args : List Arg) (labelled : Bool) (left : ℕ) → labelled ≡ has_label (tokens_given (listed (map view_arg args))) → labelled ≡ false → Some left ≡ left_behind ps (Some (length args)) → nat_eq left 0 ≡ true → HasNoFault ps (tokens_given (listed (map view_arg args)))
call_filled ps args labelled left l plain so zeroed =
    let none : left ≡ 0 = (unsigned_Decides left 0).0 zeroed in
    filled ps (tokens_given (listed (map view_arg args))) (sym l ∙ plain) (ap (λ (n : ℕ). left_behind ps (Some n)) (tokens_length args) ∙ sym so ∙ ap (λ (n : ℕ). Some n) none)

-- the labels of a call's arguments
abbrev pub is_labelled : List Arg → Bool
is_labelled args = has_label (tokens_given (listed (map view_arg args)))

pub label_there : (args : List Arg) (i : ℕ) (a : Arg) (o : Bool) → is_labelled (drop i args) ≡ o → i < length args → a ≡ get_or args i a → is_some a.label ≡ true → true ≡ o
label_there = search_there is_labelled (λ a. is_some a.label) (λ a. true) (λ x xs. refl)

pub label_next : (args : List Arg) (i : ℕ) (a : Arg) (o : Bool) → is_labelled (drop i args) ≡ o → i < length args → a ≡ get_or args i a → is_some a.label ≡ false → is_labelled (drop (i + 1) args) ≡ o
label_next = search_next is_labelled (λ a. is_some a.label) (λ a. true) (λ x xs. refl)

pub label_none : (args : List Arg) (i : ℕ) (o : Bool) → is_labelled (drop i args) ≡ o → length args ≤ i → false ≡ o
label_none = search_none is_labelled
