use Rattle.script_values.proofs.Finding.{slot_there, slot_next, slot_none}
use Rattle.script_values.proofs.slots.slot_at.Goals as goal

pub returns-then-slot-at : goal.returns-then-slot-at
returns-then-slot-at c = slot_there c.args.at c.loop-slot.slot-index c.args.slots.now c.slot-item.result _ c.loop-slot.invariant c.loop-slot-test.true c.slot-item.is c.if-slot-at.true

pub loop-slot-preserved : goal.loop-slot-preserved
loop-slot-preserved c = slot_next c.args.at c.loop-slot.slot-index c.args.slots.now c.slot-item.result _ c.loop-slot.invariant c.loop-slot-test.true c.slot-item.is c.if-slot-at.false

pub returns : goal.returns
returns c = slot_none c.args.at c.loop-slot.slot-index c.args.slots.now _ c.loop-slot.invariant c.loop-slot-test.false
