-- Arguments by a table of their labels.
use Rattle.std.proofs.Common.{◌≡◌, refl, sym, ap, ◌∙◌, ℕ, zero, suc, arith, ◌+◌, ◌<◌, List, [], ◌∷◌, length, get_or, Option, map}
use Rattle.std.specs.Prelude.{option_map}
use Rattle.typing_rules.specs.Arguments.{GivenArgument, argument, others}
use Rattle.name_scope.specs.Labelled.{first_of, on, placed}
use Rattle.name_scope.specs.Seen.{left_of, seen_label}
use Rattle.name_scope.specs.declared.labels.Labels.{Labels}
use Rattle.name_scope.proofs.Labelling.{first_on, others_argument_on, placed_on}
use Rattle.type_steps.specs.Fitting.{left_given, seen_argument, var_at}
use Rattle.type_steps.specs.declared.arguments.Argument.{Argument}

var_is : (gs : List Argument) (j : ℕ) (x : Argument) → j < length gs → var_at gs (0 + j) ≡ (seen_argument (get_or gs j x)).1
var_is gs j x l = ap (var_at gs) (let e : 0 + j ≡ j = omega arith in e) ∙ by gs j l where
  by : (hs : List Argument) (i : ℕ) → i < length hs → var_at hs i ≡ (get_or hs i x).var
  by [] i l = absurd (omega (arith, l))
  by (h ∷ hs) zero l = refl
  by (h ∷ hs) (suc i) l = by hs i (omega (arith, l))

-- at first all are left
pub all_given : (gs : List Argument) (ls : List (Option (List ℕ))) (t : Labels) → left_of t ≡ placed 0 ls → ls ≡ map (λ g. seen_label g.label) gs → left_given gs t ≡ map seen_argument gs
all_given gs ls t e f = ap (map (on (var_at gs))) (e ∙ ap (placed 0) f) ∙ placed_on seen_argument (var_at gs) 0 gs (var_is gs)

-- one is taken
pub given_taken : (gs : List Argument) (t : Labels) (label : Option (List ℕ)) (o : Option ℕ) → o ≡ first_of label (left_of t) → option_map (var_at gs) o ≡ option_map (λ (x : ℕ × List (GivenArgument ℕ)). x.0) (argument label (left_given gs t))
given_taken gs t label o e = ap (option_map (var_at gs)) e ∙ sym (first_on (var_at gs) label (left_of t))

pub given_others : (gs : List Argument) (t t' : Labels) (label : Option (List ℕ)) → left_of t' ≡ others (left_of t) (argument label (left_of t)) → left_given gs t' ≡ others (left_given gs t) (argument label (left_given gs t))
given_others gs t t' label e = ap (map (on (var_at gs))) e ∙ sym (others_argument_on (var_at gs) label (left_of t))
