-- What parameters take of the arguments of a call, found in turn or by a table of places.
use Rattle.std.proofs.Common.{◌≡◌, ◌≢◌, refl, sym, ap, ap₂, subst, ◌∙◌, ℕ, suc, arith, ◌+◌, ◌<◌, ◌≤◌, List, [], ◌∷◌, ◌++◌, length, drop, get_or, slice_set, Option, Some, None, Bool, true, false, cond, map, append_assoc}
use Rattle.std.proofs.lemmas.List.{at_drop_more, drop_more, get_or-set_other, map-set, map_push}
use Rattle.std.specs.Prelude.{option_map}
use Rattle.script_grammar.specs.View.{listed, view_param}
use Rattle.script_grammar.specs.declared.tree.Param.{Param}
use Rattle.typing_rules.specs.Arguments as arguments
use Rattle.typing_rules.specs.Arguments.{Parameter, after, argument, arguments_taken, is_label, label_of, others, parameter_of, parameters_of}
use Rattle.name_scope.specs.Labelled.{placed}
use Rattle.script_values.specs.declared.slots.Given.{Given as AGiven}
use Rattle.script_values.specs.declared.value.Value.{Value as AValue}
use Rattle.script_values.specs.Slots.{Argument}
use Rattle.script_values.specs.Values.{Value, UnitValue}
use Rattle.script_values.specs.View.{view_value}
use Rattle.script_values.specs.Views.{view_given}
use Rattle.expression_eval.specs.Parameters.{AreApart, AreKept, Lacks, value_at, view_taken}

-- ---- one parameter after another

-- the label of an argument of a parameter of the program
abbrev pub label_by : Param → Option (List ℕ)
label_by p = label_of (parameter_of (view_param p))

module _ {T : Type 0} where
  -- what these parameters of the program take
  abbrev pub taken_by : List (arguments.GivenArgument T) → List Param → List (Option T)
  taken_by gs ps = arguments_taken (parameters_of (listed (map view_param ps))) gs

  -- the first argument with a label
  abbrev pub first_with : Option (List ℕ) → List (arguments.GivenArgument T) → Option T
  first_with label gs = option_map (λ x. x.0) (argument label gs)

  pub takes_next : (params : List Param) (i : ℕ) (p : Param) (label : Option (List ℕ)) (gs hs : List (arguments.GivenArgument T)) (os os' whole : List (Option T)) (o : Option T) → os ++ taken_by gs (drop i params) ≡ whole → i < length params → p ≡ get_or params i p → label ≡ label_by p →
      o ≡ first_with label gs → hs ≡ others gs (argument label gs) → os' ≡ os ++ o ∷ [] → os' ++ taken_by hs (drop (i + 1) params) ≡ whole
  takes_next params i p label gs hs os os' whole o so lt is by_label first left grown =
      ap (λ (l : List (Option T)). l ++ taken_by hs (drop (i + 1) params)) grown ∙ append_assoc os (o ∷ []) (taken_by hs (drop (i + 1) params))
      ∙ ap (λ (l : List (Option T)). os ++ l) (
      ap (λ (q : Option T). q ∷ taken_by hs (drop (i + 1) params)) first ∙ ap (λ (l : List (arguments.GivenArgument T)). first_with label gs ∷ taken_by l (drop (i + 1) params)) left
      ∙ ap (λ (l : Option (List ℕ)). first_with l gs ∷ taken_by (others gs (argument l gs)) (drop (i + 1) params)) by_label
      ∙ ap (λ (q : Param). first_with (label_by q) gs ∷ taken_by (others gs (argument (label_by q) gs)) (drop (i + 1) params)) is
      ∙ sym (at_drop_more (taken_by gs) params i p lt)
      ) ∙ so

pub taken_push : (os os' : List (Option AValue)) (o : Option AValue) → os' ≡ os ++ o ∷ [] → map view_taken os' ≡ map view_taken os ++ view_taken o ∷ []
taken_push os os' o grown = ap (map view_taken) grown ∙ map_push view_taken os o

-- ---- arguments by their places

-- the same argument with the value in place of its place
abbrev onto : (ℕ → Value) → arguments.GivenArgument ℕ → Argument
onto f g = (g.0, f g.1)

abbrev onto_taken : (ℕ → Value) → Option (ℕ × List (arguments.GivenArgument ℕ)) → Option (Value × List Argument)
onto_taken f o = option_map (λ x. (f x.0, map (onto f) x.1)) o

after_onto : (f : ℕ → Value) (g : arguments.GivenArgument ℕ) (o : Option (ℕ × List (arguments.GivenArgument ℕ))) → after (onto f g) (onto_taken f o) ≡ onto_taken f (after g o)
after_onto f g None = refl
after_onto f g (Some x) = refl

argument_onto : (f : ℕ → Value) (label : Option (List ℕ)) (gs : List (arguments.GivenArgument ℕ)) → argument label (map (onto f) gs) ≡ onto_taken f (argument label gs)
argument_onto f label [] = refl
argument_onto f label (g ∷ gs) = by (is_label label g.0) (argument_onto f label gs) where
  by : (b : Bool) → argument label (map (onto f) gs) ≡ onto_taken f (argument label gs) → cond b (Some (f g.1, map (onto f) gs)) (after (onto f g) (argument label (map (onto f) gs))) ≡ onto_taken f (cond b (Some (g.1, gs)) (after g (argument label gs)))
  by true rest = refl
  by false rest = ap (after (onto f g)) rest ∙ after_onto f g (argument label gs)

first_onto : (f : ℕ → Value) (o : Option (ℕ × List (arguments.GivenArgument ℕ))) → option_map (λ x. x.0) (onto_taken f o) ≡ option_map f (option_map (λ x. x.0) o)
first_onto f None = refl
first_onto f (Some x) = refl

others_onto : (f : ℕ → Value) (gs : List (arguments.GivenArgument ℕ)) (o : Option (ℕ × List (arguments.GivenArgument ℕ))) → others (map (onto f) gs) (onto_taken f o) ≡ map (onto f) (others gs o)
others_onto f gs None = refl
others_onto f gs (Some x) = refl

taken_onto : (f : ℕ → Value) (ps : List Parameter) (gs : List (arguments.GivenArgument ℕ)) → arguments_taken ps (map (onto f) gs) ≡ map (option_map f) (arguments_taken ps gs)
taken_onto f [] gs = refl
taken_onto f (p ∷ ps) gs =
    let here : argument (label_of p) (map (onto f) gs) ≡ onto_taken f (argument (label_of p) gs) = argument_onto f (label_of p) gs in
    ap (λ (o : Option (Value × List Argument)). option_map (λ x. x.0) o ∷ arguments_taken ps (others (map (onto f) gs) o)) here
    ∙ ap₂ (λ (o : Option Value) (l : List Argument). o ∷ arguments_taken ps l) (first_onto f (argument (label_of p) gs)) (others_onto f gs (argument (label_of p) gs))
    ∙ ap (λ (l : List (Option Value)). option_map f (option_map (λ x. x.0) (argument (label_of p) gs)) ∷ l) (taken_onto f ps (others gs (argument (label_of p) gs)))

placed_onto : (f : ℕ → Value) (k : ℕ) (gs : List AGiven) → ((j : ℕ) → f (k + j) ≡ value_at gs j) → map (onto f) (placed k (map (λ g. g.label) gs)) ≡ map view_given gs
placed_onto f k [] h = refl
placed_onto f k (g ∷ gs) h =
    let same : f k ≡ view_value g.value = ap f (let e : k ≡ k + 0 = omega arith in e) ∙ h 0 in
    ap₂ (λ (x : Argument) (xs : List Argument). x ∷ xs) (ap (λ (v : Value). (g.label, v)) same) (placed_onto f (suc k) gs (λ j. ap f (let e : suc k + j ≡ k + suc j = omega arith in e) ∙ h (suc j)))

-- the values at the places that parameters take are what they take
pub taken_at_places : (ps : List Parameter) (gs : List AGiven) → map (option_map (value_at gs)) (arguments_taken ps (placed 0 (map (λ g. g.label) gs))) ≡ arguments_taken ps (map view_given gs)
taken_at_places ps gs =
    sym (taken_onto (value_at gs) ps (placed 0 (map (λ g. g.label) gs)))
    ∙ ap (arguments_taken ps) (placed_onto (value_at gs) 0 gs (λ j. ap (value_at gs) (let e : 0 + j ≡ j = omega arith in e)))

-- ---- no place is taken twice

-- the places ascend, from this one on
abbrev FromOn : ℕ → List (arguments.GivenArgument ℕ) → Type 0
FromOn k [] = Unit {0}
FromOn k (g ∷ gs) = (k ≤ g.1) × FromOn (suc g.1) gs

abbrev Without : ℕ → List (arguments.GivenArgument ℕ) → Type 0
Without i [] = Unit {0}
Without i (g ∷ gs) = (g.1 ≢ i) × Without i gs

from_earlier : (j k : ℕ) (gs : List (arguments.GivenArgument ℕ)) → FromOn k gs → j ≤ k → FromOn j gs
from_earlier j k [] h le = tt
from_earlier j k (g ∷ gs) h le = (omega (arith, h.0, le), h.1)

without_earlier : (i k : ℕ) (gs : List (arguments.GivenArgument ℕ)) → FromOn k gs → i < k → Without i gs
without_earlier i k [] h lt = tt
without_earlier i k (g ∷ gs) h lt = ((λ e. omega (arith, h.0, lt, e)), without_earlier i (suc g.1) gs h.1 (omega (arith, h.0, lt)))

placed_from : (k : ℕ) (ls : List (Option (List ℕ))) → FromOn k (placed k ls)
placed_from k [] = tt
placed_from k (l ∷ ls) = (omega arith, placed_from (suc k) ls)

-- what is taken stands from this place on, and is not among the others
abbrev Took : ℕ → Option (ℕ × List (arguments.GivenArgument ℕ)) → Type 0
Took k None = Unit {0}
Took k (Some x) = (k ≤ x.0) × FromOn k x.1 × Without x.0 x.1

took : (label : Option (List ℕ)) (k : ℕ) (gs : List (arguments.GivenArgument ℕ)) → FromOn k gs → Took k (argument label gs)
took label k [] h = tt
took label k (g ∷ gs) h = by (is_label label g.0) (argument label gs) (took label (suc g.1) gs h.1) where
  by : (b : Bool) (o : Option (ℕ × List (arguments.GivenArgument ℕ))) → Took (suc g.1) o → Took k (cond b (Some (g.1, gs)) (after g o))
  by true o t = (h.0, from_earlier k (suc g.1) gs h.1 (omega (arith, h.0)), without_earlier g.1 (suc g.1) gs h.1 (omega arith))
  by false None t = tt
  by false (Some x) t = (omega (arith, h.0, t.0), (h.0, t.1), ((λ e. omega (arith, t.0, e)), t.2))

-- what is taken of places without this one
abbrev TookWithout : ℕ → Option (ℕ × List (arguments.GivenArgument ℕ)) → Type 0
TookWithout i None = Unit {0}
TookWithout i (Some x) = (x.0 ≢ i) × Without i x.1

took_without : (label : Option (List ℕ)) (i : ℕ) (gs : List (arguments.GivenArgument ℕ)) → Without i gs → TookWithout i (argument label gs)
took_without label i [] h = tt
took_without label i (g ∷ gs) h = by (is_label label g.0) (argument label gs) (took_without label i gs h.1) where
  by : (b : Bool) (o : Option (ℕ × List (arguments.GivenArgument ℕ))) → TookWithout i o → TookWithout i (cond b (Some (g.1, gs)) (after g o))
  by true o t = h
  by false None t = tt
  by false (Some x) t = (t.0, (h.0, t.1))

lacks_taken : (i : ℕ) (ps : List Parameter) (gs : List (arguments.GivenArgument ℕ)) → Without i gs → Lacks i (arguments_taken ps gs)
lacks_taken i [] gs h = tt
lacks_taken i (p ∷ ps) gs h = by (argument (label_of p) gs) (took_without (label_of p) i gs h) (λ hs w. lacks_taken i ps hs w) where
  by : (o : Option (ℕ × List (arguments.GivenArgument ℕ))) → TookWithout i o → ((hs : List (arguments.GivenArgument ℕ)) → Without i hs → Lacks i (arguments_taken ps hs)) → Lacks i (option_map (λ x. x.0) o ∷ arguments_taken ps (others gs o))
  by None t rest = rest gs h
  by (Some x) t rest = (t.0, rest x.1 t.1)

taken_apart : (ps : List Parameter) (k : ℕ) (gs : List (arguments.GivenArgument ℕ)) → FromOn k gs → AreApart (arguments_taken ps gs)
taken_apart [] k gs h = tt
taken_apart (p ∷ ps) k gs h = by (argument (label_of p) gs) (took (label_of p) k gs h) (λ hs f. taken_apart ps k hs f) where
  by : (o : Option (ℕ × List (arguments.GivenArgument ℕ))) → Took k o → ((hs : List (arguments.GivenArgument ℕ)) → FromOn k hs → AreApart (arguments_taken ps hs)) → AreApart (option_map (λ x. x.0) o ∷ arguments_taken ps (others gs o))
  by None t rest = rest gs h
  by (Some x) t rest = (lacks_taken x.0 ps x.1 t.2, rest x.1 t.1)

pub places_apart : (ps : List Parameter) (ls : List (Option (List ℕ))) → AreApart (arguments_taken ps (placed 0 ls))
places_apart ps ls = taken_apart ps 0 (placed 0 ls) (placed_from 0 ls)

-- ---- one value after another

-- another value at a place
pub others_kept : (gs : List AGiven) (place : ℕ) (g : AGiven) → AreKept (Some place) (value_at gs) (value_at (slice_set gs place g))
others_kept gs place g j other =
    ap (λ (vs : List Value). get_or vs j UnitValue) (map-set (λ (x : AGiven). view_value x.value) gs place g)
    ∙ get_or-set_other (map (λ (x : AGiven). view_value x.value) gs) place j (view_value g.value) UnitValue other

kept_off : (i : ℕ) (f g : ℕ → Value) → ((j : ℕ) → j ≢ i → g j ≡ f j) → (os : List (Option ℕ)) → Lacks i os → map (option_map g) os ≡ map (option_map f) os
kept_off i f g same [] h = refl
kept_off i f g same (None ∷ os) h = ap (λ (l : List (Option Value)). None ∷ l) (kept_off i f g same os h)
kept_off i f g same (Some j ∷ os) h = ap₂ (λ (v : Value) (l : List (Option Value)). Some v ∷ l) (same j h.0) (kept_off i f g same os h.1)

kept_all : (f g : ℕ → Value) → ((j : ℕ) → g j ≡ f j) → (os : List (Option ℕ)) → map (option_map g) os ≡ map (option_map f) os
kept_all f g same [] = refl
kept_all f g same (None ∷ os) = ap (λ (l : List (Option Value)). None ∷ l) (kept_all f g same os)
kept_all f g same (Some j ∷ os) = ap₂ (λ (v : Value) (l : List (Option Value)). Some v ∷ l) (same j) (kept_all f g same os)

kept : (o : Option ℕ) (f g : ℕ → Value) → AreKept o f g → (os : List (Option ℕ)) → AreApart (o ∷ os) → map (option_map g) os ≡ map (option_map f) os
kept None f g same os h = kept_all f g same os
kept (Some i) f g same os h = kept_off i f g same os h.0

apart_rest : (o : Option ℕ) (os : List (Option ℕ)) → AreApart (o ∷ os) → AreApart os
apart_rest None os h = h
apart_rest (Some i) os h = h.1

-- what stands at the places that are left
pub record LeftAt (os : List (Option ℕ)) (f : ℕ → Value) (ts whole : List (Option Value)) : Type 0 where
  pub apart : AreApart os
  pub all : ts ++ map (option_map f) os ≡ whole

pub moves_next : (os : List (Option ℕ)) (i : ℕ) (o : Option ℕ) (f g : ℕ → Value) (ts ts' whole : List (Option Value)) (t : Option Value) → LeftAt (drop i os) f ts whole → i < length os → o ≡ get_or os i o → t ≡ option_map f o → AreKept o f g → ts' ≡ ts ++ t ∷ [] → LeftAt (drop (i + 1) os) g ts' whole
moves_next os i o f g ts ts' whole t left lt is value same grown =
    let front : drop i os ≡ o ∷ drop (i + 1) os = drop_more os i o lt ∙ ap (λ (q : Option ℕ). q ∷ drop (i + 1) os) (sym is) in
    let apart : AreApart (o ∷ drop (i + 1) os) = subst AreApart front left.apart in
    record {
      apart = apart_rest o (drop (i + 1) os) apart;
      all =
          ap (λ (l : List (Option Value)). l ++ map (option_map g) (drop (i + 1) os)) grown ∙ append_assoc ts (t ∷ []) (map (option_map g) (drop (i + 1) os))
          ∙ ap (λ (l : List (Option Value)). ts ++ l) (ap₂ (λ (q : Option Value) (l : List (Option Value)). q ∷ l) value (kept o f g same (drop (i + 1) os) apart) ∙ sym (ap (map (option_map f)) front))
          ∙ left.all;
    }
