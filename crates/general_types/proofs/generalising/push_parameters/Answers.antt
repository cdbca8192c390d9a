use Rattle.std.proofs.Common.{◌∙◌, ◌++◌, sym, ap, List, ℕ, map, take_all}
use Rattle.std.proofs.lemmas.List.{append-nil}
use Rattle.general_types.specs.Numbering.{kind_parameter}
use Rattle.general_types.proofs.KindLists.{push_next}
use Rattle.general_types.proofs.generalising.push_parameters.Goals as goal

pub loop-number-init : goal.loop-number-init
loop-number-init c = sym (append-nil c.args.parameters.now.items)

pub loop-number-preserved : goal.loop-number-preserved
loop-number-preserved c = push_next (kind_parameter c.args.held.now c.args.free) c.args.parameters.now.items c.loop-number.parameters.items _ c.args.numbers.now c.loop-number.number-index _ _ c.loop-number-test.true c.kind_parameter_of.ensures c.in_ok-push.ensures.items c.loop-number.invariant

pub returns : goal.returns
returns c = c.loop-number.invariant ∙ ap (λ (ns : List ℕ). c.args.parameters.now.items ++ map (kind_parameter c.args.held.now c.args.free) ns) (take_all _ _ c.loop-number-test.false)
