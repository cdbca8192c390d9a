-- The search for an argument, one step at a time.
use Rattle.std.proofs.Common.{◌≡◌, ℕ, suc, ◌+◌, ◌<◌, List, ◌++◌, length, drop, take, get_or, Some, None, Option, Bool, true, cond, sym, ap, ◌∙◌, arith}
use Rattle.std.proofs.lemmas.List.{at_drop_more, map-append, get_or_default}
use Rattle.std.specs.Prelude.{map, remove}
use Rattle.typing_rules.specs.Arguments.{after, argument, is_label}
use Rattle.script_values.specs.declared.slots.Given as program
use Rattle.script_values.specs.Values.{Value}
use Rattle.script_values.specs.View.{view_value}
use Rattle.script_values.specs.Views.{view_given}
use Rattle.script_values.specs.Slots.{Argument}

-- the arguments before, and what is taken of the others
abbrev pub behind : List Argument → Option (Value × List Argument) → Option (Value × List Argument)
behind gs None = None
behind gs (Some x) = Some (x.0, gs ++ x.1)

arg_step : (label : Option (List ℕ)) (given : List program.Given) (i : ℕ) (g : program.Given) (b : Bool) (whole : Option (Value × List Argument))
    → behind (map view_given (take i given)) (argument label (map view_given (drop i given))) ≡ whole → i < length given → g ≡ get_or given i g → b ≡ is_label label g.label
    → behind (map view_given (take i given)) (cond b (Some (view_value g.value, map view_given (drop (i + 1) given))) (after (view_given g) (argument label (map view_given (drop (i + 1) given))))) ≡ whole
arg_step label given i g b whole so lt is test =
    let seen : program.Given → Option (Value × List Argument) = λ h. behind (map view_given (take i given)) (cond (is_label label h.label) (Some (view_value h.value, map view_given (drop (i + 1) given))) (after (view_given h) (argument label (map view_given (drop (i + 1) given))))) in
    ap (λ (t : Bool). behind (map view_given (take i given)) (cond t (Some (view_value g.value, map view_given (drop (i + 1) given))) (after (view_given g) (argument label (map view_given (drop (i + 1) given)))))) test
    ∙ ap seen is
    ∙ sym (at_drop_more (λ (l : List program.Given). behind (map view_given (take i given)) (argument label (map view_given l))) given i g lt) ∙ so

pub arg_there : (label : Option (List ℕ)) (given left : List program.Given) (i : ℕ) (g : program.Given) (whole : Option (Value × List Argument))
    → behind (map view_given (take i given)) (argument label (map view_given (drop i given))) ≡ whole → i < length given → g ≡ get_or given i g → true ≡ is_label label g.label → left ≡ remove given i
    → Some (view_value g.value, map view_given left) ≡ whole
arg_there label given left i g whole so lt is test removed =
    let next : suc i ≡ i + 1 = omega arith in
    ap (λ (l : List program.Given). Some (view_value g.value, map view_given l)) removed
    ∙ ap (λ (l : List Argument). Some (view_value g.value, l)) (map-append view_given (take i given) (drop (suc i) given) ∙ ap (λ (n : ℕ). map view_given (take i given) ++ map view_given (drop n given)) next)
    ∙ arg_step label given i g true whole so lt is test

-- the same for whatever stands at this place
pub arg_found : (label : Option (List ℕ)) (given : List program.Given) (i : ℕ) (one : program.Given) (whole : Option (Value × List Argument))
    → behind (map view_given (take i given)) (argument label (map view_given (drop i given))) ≡ whole → i < length given → one ≡ get_or given i one → true ≡ is_label label one.label
    → (g : program.Given) (left : List program.Given) → g ≡ get_or given i g → left ≡ remove given i → Some (view_value g.value, map view_given left) ≡ whole
arg_found label given i one whole so lt is test g left at removed =
    let same : one ≡ g = is ∙ get_or_default given i one g lt ∙ sym at in
    arg_there label given left i g whole so lt at (test ∙ ap (λ (h : program.Given). is_label label h.label) same) removed
