use Rattle.std.proofs.Common.{◌∙◌, take_all, arith, ap, sym}
use Rattle.sample_kernels.proofs.Places.{map_written}
use Rattle.stream_meaning.specs.Instants.{part_at, slots_at}
use Rattle.node_states.proofs.desk.gather.Goals as goal

pub loop-at-preserved : goal.loop-at-preserved
loop-at-preserved c =
    map_written (λ child. (part_at c.args.parts.now child).slot) c.args.children.now c.loop-at.slots c.loop-at.at 0 _ (omega arith) (omega arith)
    c.loop-at.invariant c.slot_of.ensures

pub returns : goal.returns
returns c =
    sym (take_all c.loop-at.at c.loop-at.slots (omega arith)) ∙ c.loop-at.invariant
    ∙ ap (slots_at c.args.parts.now) (take_all c.loop-at.at c.args.children.now (omega arith))
