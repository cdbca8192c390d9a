-- Arguments of their types: what a parameter takes of the values is of the type that it takes of the types.
use Rattle.std.proofs.Common.{◌≡◌, ℕ, List, [], ◌∷◌, Bool, true, false, cond, Option, Some, None, option_map, refl, sym, ap, subst, ◌∙◌}
use Rattle.std.specs.Prelude.{codes, bytes_eq, ⊤}
use Rattle.std.proofs.lemmas.Slice.Eq.{bytes_eq-Decides}
use Rattle.plan_core.specs.declared.node.Node.{Node}
use Rattle.type_terms.specs.Ground.{Ground}
use Rattle.typing_rules.specs.declared.form.Form.TheVariants.{InPlace, Perhaps}
use Rattle.typing_rules.specs.Arguments as arguments
use Rattle.typing_rules.specs.Arguments.{Parameter, argument, after, others, is_label, first_missing, missing_or, arguments_taken, TakenAs}
use Rattle.script_values.specs.Slots.{Argument}
use Rattle.script_values.specs.Values.{Value}
use Rattle.eval_meaning.specs.BuiltinSafety.{IsA, AreA}

abbrev pub Taken : Type 0
Taken = Option (Value × List Argument)

abbrev pub Typed : Type 0
Typed = Option (Ground × List (arguments.GivenArgument Ground))

-- what is taken of values and of types
abbrev pub Same : List Node → Taken → Typed → Type 0
Same ns None None = ⊤
Same ns None (Some y) = ⊥
Same ns (Some x) None = ⊥
Same ns (Some x) (Some y) = IsA ns x.0 y.0 × AreA ns x.1 y.1

behind : (ns : List Node) (g : Argument) (h : arguments.GivenArgument Ground) (o : Taken) (p : Typed) → g.0 ≡ h.0 → IsA ns g.1 h.1 → Same ns o p → Same ns (after g o) (after h p)
behind ns g h None None label is same = tt
behind ns g h None (Some y) label is same = absurd same
behind ns g h (Some x) None label is same = absurd same
behind ns g h (Some x) (Some y) label is same = (same.0, (label, is, same.1))

here_or_behind : (b : Bool) (ns : List Node) (g : Argument) (h : arguments.GivenArgument Ground) (gs : List Argument) (hs : List (arguments.GivenArgument Ground)) (o : Taken) (p : Typed) → g.0 ≡ h.0 → IsA ns g.1 h.1 → AreA ns gs hs → Same ns o p
    → Same ns (cond b (Some (g.1, gs)) (after g o)) (cond b (Some (h.1, hs)) (after h p))
here_or_behind true ns g h gs hs o p label is are same = (is, are)
here_or_behind false ns g h gs hs o p label is are same = behind ns g h o p label is same

pub same_taken : (ns : List Node) (l : Option (List ℕ)) (given : List Argument) (gs : List (arguments.GivenArgument Ground)) → AreA ns given gs → Same ns (argument l given) (argument l gs)
same_taken ns l [] [] are = tt
same_taken ns l [] (h ∷ hs) are = absurd are
same_taken ns l (g ∷ given) [] are = absurd are
same_taken ns l (g ∷ given) (h ∷ hs) are =
    subst (λ (b : Bool). Same ns (argument l (g ∷ given)) (cond b (Some (h.1, hs)) (after h (argument l hs)))) (ap (λ (a : Option (List ℕ)). is_label l a) are.0)
    (here_or_behind (is_label l g.0) ns g h given hs (argument l given) (argument l hs) are.0 are.1 are.2 (same_taken ns l given hs are.2))

-- the arguments without `id`
abbrev pub id_label : Option (List ℕ)
id_label = Some (codes "id")

abbrev pub strip : List Argument → List Argument
strip gs = others gs (argument id_label gs)

abbrev pub through : (List Argument → List Argument) → Taken → Taken
through S None = None
through S (Some x) = Some (x.0, S x.1)

-- taking by a label goes through S
abbrev pub Commutes : (List Argument → List Argument) → Option (List ℕ) → Type 0
Commutes S l = (gs : List Argument) → argument l (S gs) ≡ through S (argument l gs)

abbrev pub all : List Argument → List Argument
all gs = gs

through_all : (o : Taken) → o ≡ through all o
through_all None = refl
through_all (Some x) = refl

pub all_commutes : (l : Option (List ℕ)) → Commutes all l
all_commutes l gs = through_all (argument l gs)

others_behind : (g : Argument) (gs : List Argument) (o : Taken) → others (g ∷ gs) (after g o) ≡ g ∷ others gs o
others_behind g gs None = refl
others_behind g gs (Some x) = refl

strip_yes : (g : Argument) (gs : List Argument) → is_label id_label g.0 ≡ true → strip (g ∷ gs) ≡ gs
strip_yes g gs e = ap (λ (b : Bool). others (g ∷ gs) (cond b (Some (g.1, gs)) (after g (argument id_label gs)))) e

strip_no : (g : Argument) (gs : List Argument) → is_label id_label g.0 ≡ false → strip (g ∷ gs) ≡ g ∷ strip gs
strip_no g gs e = ap (λ (b : Bool). others (g ∷ gs) (cond b (Some (g.1, gs)) (after g (argument id_label gs)))) e ∙ others_behind g gs (argument id_label gs)

take_yes : (l : Option (List ℕ)) (g : Argument) (gs : List Argument) → is_label l g.0 ≡ true → argument l (g ∷ gs) ≡ Some (g.1, gs)
take_yes l g gs e = ap (λ (b : Bool). cond b (Some (g.1, gs)) (after g (argument l gs))) e

take_no : (l : Option (List ℕ)) (g : Argument) (gs : List Argument) → is_label l g.0 ≡ false → argument l (g ∷ gs) ≡ after g (argument l gs)
take_no l g gs e = ap (λ (b : Bool). cond b (Some (g.1, gs)) (after g (argument l gs))) e

-- a label other than `id`
abbrev pub Other : Option (List ℕ) → Type 0
Other l = (a : Option (List ℕ)) → is_label id_label a ≡ true → is_label l a ≡ false

passes : (g : Argument) (o : Taken) → is_label id_label g.0 ≡ true → o ≡ through strip (after g o)
passes g None e = refl
passes g (Some x) e = ap (λ (r : List Argument). Some (x.0, r)) (sym (strip_yes g x.1 e))

swaps : (g : Argument) (o : Taken) → is_label id_label g.0 ≡ false → after g (through strip o) ≡ through strip (after g o)
swaps g None e = refl
swaps g (Some x) e = ap (λ (r : List Argument). Some (x.0, r)) (sym (strip_no g x.1 e))

two_truths : (b : Bool) → b ≡ true → b ≡ false → ⊥
two_truths b t f = let e : true ≡ false = sym t ∙ f in absurd cc

commute_by : (l : Option (List ℕ)) (g : Argument) (gs : List Argument) (i j : Bool) → Other l → is_label id_label g.0 ≡ i → is_label l g.0 ≡ j → argument l (strip gs) ≡ through strip (argument l gs) → argument l (strip (g ∷ gs)) ≡ through strip (argument l (g ∷ gs))
commute_by l g gs true true other is_id is_l later = absurd (two_truths (is_label l g.0) is_l (other g.0 is_id))
commute_by l g gs true false other is_id is_l later =
    ap (λ (r : List Argument). argument l r) (strip_yes g gs is_id) ∙ passes g (argument l gs) is_id ∙ sym (ap (λ (o : Taken). through strip o) (take_no l g gs is_l))
commute_by l g gs false true other is_id is_l later =
    ap (λ (r : List Argument). argument l r) (strip_no g gs is_id) ∙ take_yes l g (strip gs) is_l ∙ sym (ap (λ (o : Taken). through strip o) (take_yes l g gs is_l))
commute_by l g gs false false other is_id is_l later =
    ap (λ (r : List Argument). argument l r) (strip_no g gs is_id) ∙ take_no l g (strip gs) is_l ∙ ap (λ (o : Taken). after g o) later ∙ swaps g (argument l gs) is_id ∙ sym (ap (λ (o : Taken). through strip o) (take_no l g gs is_l))

pub strip_commutes : (l : Option (List ℕ)) → Other l → Commutes strip l
strip_commutes l other [] = refl
strip_commutes l other (g ∷ gs) = commute_by l g gs (is_label id_label g.0) (is_label l g.0) other refl refl (strip_commutes l other gs)

pub plain_other : Other None
plain_other None is = absurd cc
plain_other (Some b) is = refl

differs : (r : Bool) (l b : List ℕ) → bytes_eq l b ≡ r → bytes_eq l (codes "id") ≡ false → codes "id" ≡ b → r ≡ false
differs r l b is unlike same = sym is ∙ ap (λ (c : List ℕ). bytes_eq l c) (sym same) ∙ unlike

pub label_other : (l : List ℕ) → bytes_eq l (codes "id") ≡ false → Other (Some l)
label_other l unlike None is = absurd cc
label_other l unlike (Some b) is = differs (bytes_eq l b) l b refl unlike ((bytes_eq-Decides (codes "id") b).0 is)

-- arguments of the types of these parameters, behind S
pub record Taking (S : List Argument → List Argument) (ns : List Node) (ps : List Parameter) (ts : List Ground) (given : List Argument) : Type 0 where
  pub gs : List (arguments.GivenArgument Ground)
  pub are : AreA ns (S given) gs
  pub none : first_missing ps gs ≡ None
  pub fits : TakenAs (arguments_taken ps gs) ts

abbrev pub in_place : List ℕ → Parameter
in_place name = record { name = name; form = InPlace }

abbrev pub perhaps : List ℕ → Parameter
perhaps name = record { name = name; form = Perhaps }

-- what is found, of its type, and the others behind it
pub record Found (S : List Argument → List Argument) (ns : List Node) (ps : List Parameter) (t : Ground) (ts : List Ground) (o : Taken) : Type 0 where
  pub taken : Value × List Argument
  pub is : o ≡ Some taken
  pub type_of : IsA ns taken.0 t
  pub others : Taking S ns ps ts taken.1

found_by : (S : List Argument → List Argument) (ns : List Node) (name : List ℕ) (ps : List Parameter) (t : Ground) (ts : List Ground) (o : Taken) (gs : List (arguments.GivenArgument Ground)) (q : Typed) → Same ns (through S o) q
    → missing_or (in_place name) q (first_missing ps (others gs q)) ≡ None → TakenAs (option_map (λ x. x.0) q ∷ arguments_taken ps (others gs q)) (t ∷ ts) → Found S ns ps t ts o
found_by S ns name ps t ts o gs None same none fits = absurd cc
found_by S ns name ps t ts None gs (Some y) same none fits = absurd same
found_by S ns name ps t ts (Some x) gs (Some y) same none fits = record {
  taken = x;
  is = refl;
  type_of = subst (λ (u : Ground). IsA ns x.0 u) fits.0 same.0;
  others = record { gs = y.1; are = same.1; none = none; fits = fits.1 };
}

pub take_plain : (S : List Argument → List Argument) (ns : List Node) (name : List ℕ) (ps : List Parameter) (t : Ground) (ts : List Ground) (given : List Argument) → Commutes S None → Taking S ns (in_place name ∷ ps) (t ∷ ts) given → Found S ns ps t ts (argument None given)
take_plain S ns name ps t ts given commutes taking =
    found_by S ns name ps t ts (argument None given) taking.gs (argument None taking.gs) (subst (λ (o : Taken). Same ns o (argument None taking.gs)) (commutes given) (same_taken ns None (S given) taking.gs taking.are)) taking.none taking.fits

-- what may be found
pub data Perhaps_found (S : List Argument → List Argument) (ns : List Node) (ps : List Parameter) (t : Ground) (ts : List Ground) (given : List Argument) (o : Taken) : Type 0 where
  missing : o ≡ None → Taking S ns ps ts given → Perhaps_found S ns ps t ts given o
  there : Found S ns ps t ts o → Perhaps_found S ns ps t ts given o

perhaps_by : (S : List Argument → List Argument) (ns : List Node) (name : List ℕ) (ps : List Parameter) (t : Ground) (ts : List Ground) (given : List Argument) (o : Taken) (gs : List (arguments.GivenArgument Ground)) (q : Typed) → AreA ns (S given) gs → Same ns (through S o) q
    → missing_or (perhaps name) q (first_missing ps (others gs q)) ≡ None → TakenAs (option_map (λ x. x.0) q ∷ arguments_taken ps (others gs q)) (t ∷ ts) → Perhaps_found S ns ps t ts given o
perhaps_by S ns name ps t ts given None gs None are same none fits = missing refl (record { gs = gs; are = are; none = none; fits = fits })
perhaps_by S ns name ps t ts given (Some x) gs None are same none fits = absurd same
perhaps_by S ns name ps t ts given None gs (Some y) are same none fits = absurd same
perhaps_by S ns name ps t ts given (Some x) gs (Some y) are same none fits = there (record {
  taken = x;
  is = refl;
  type_of = subst (λ (u : Ground). IsA ns x.0 u) fits.0 same.0;
  others = record { gs = y.1; are = same.1; none = none; fits = fits.1 };
})

pub take_labelled : (S : List Argument → List Argument) (ns : List Node) (name : List ℕ) (ps : List Parameter) (t : Ground) (ts : List Ground) (given : List Argument) → Commutes S (Some name) → Taking S ns (perhaps name ∷ ps) (t ∷ ts) given → Perhaps_found S ns ps t ts given (argument (Some name) given)
take_labelled S ns name ps t ts given commutes taking =
    perhaps_by S ns name ps t ts given (argument (Some name) given) taking.gs (argument (Some name) taking.gs) taking.are (subst (λ (o : Taken). Same ns o (argument (Some name) taking.gs)) (commutes given) (same_taken ns (Some name) (S given) taking.gs taking.are)) taking.none taking.fits

-- behind `id`, whatever it is
pub behind_id : (ns : List Node) (ps : List Parameter) (t : Ground) (ts : List Ground) (given : List Argument) → Taking all ns (perhaps (codes "id") ∷ ps) (t ∷ ts) given → Taking strip ns ps ts given
behind_id ns ps t ts given taking =
    elim (take_labelled all ns (codes "id") ps t ts given (all_commutes id_label) taking) [
      | missing is rest ↦ record { gs = rest.gs; are = subst (λ (l : List Argument). AreA ns l rest.gs) (sym (ap (λ (o : Taken). others given o) is)) rest.are; none = rest.none; fits = rest.fits }
      | there found ↦ record { gs = found.others.gs; are = subst (λ (l : List Argument). AreA ns l found.others.gs) (sym (ap (λ (o : Taken). others given o) found.is)) found.others.are; none = found.others.none; fits = found.others.fits }
    ]
