-- An operator behind its other operand.
use Rattle.std.proofs.Common.{◌≡◌, Result, Ok, refl, sym, ap, subst, ◌∙◌}
use Rattle.script_grammar.specs.Tree.{Tree, AnAdded}
use Rattle.script_grammar.specs.View.{view_added, view_multiplied, view_operand, view_product}
use Rattle.script_grammar.specs.declared.tree.Added as added
use Rattle.script_grammar.specs.declared.tree.Multiplied as multiplied
use Rattle.script_values.specs.Gives.{Gives}
use Rattle.script_values.specs.Numbers as numbers
use Rattle.script_values.specs.Outcomes.{◌>>=◌}
use Rattle.script_values.specs.Values.{Value}
use Rattle.script_values.specs.declared.fault.Stop.{Stop}
use Rattle.script_values.specs.declared.machine.Machine.{Machine}
use Rattle.eval_meaning.specs.Meaning as meaning
use Rattle.eval_meaning.specs.Meaning.{Surroundings, operator_applied}

-- what comes behind a first part is the whole
pub goes_on : {X A B : Type 0} (view : X → B) (result : Result X Stop) (a : Result A Stop) (x : A) (f : A → Result B Stop) → a ≡ Ok x → Gives view result (f x) → Gives view result (a >>= f)
goes_on view result a x f went gives = subst (λ (q : Result _ Stop). Gives view result (q >>= f)) (sym went) gives

pub plus_means : (s : Surroundings) (a : added.Added) (v : Value) (m : Machine) → meaning.plus s (view_added a) v m ≡ operator_applied (numbers.added (added.out-Added a).minus (added.out-Added a).at) v (meaning.product s (view_product (added.out-Added a).product) m)
unfolding meaning.plus
plus_means s a v m = ap (λ (t : Tree AnAdded). meaning.plus s t v m) (ap view_added (sym (added.roll-out-Added a) ∙ added.rolls-Added' (added.out-Added a)))

pub times_means : (s : Surroundings) (a : multiplied.Multiplied) (v : Value) (m : Machine) → meaning.times s (view_multiplied a) v m ≡ operator_applied (numbers.multiplied a.divide a.at) v (meaning.operand s (view_operand a.operand) m)
unfolding meaning.times
times_means s a v m = refl
