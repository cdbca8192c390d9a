use Rattle.op_leaf.proofs.Turns.{begun-later, phase-step}
use Rattle.op_leaf.proofs.square.Square.advance.Goals as goal

pub returns-clause-stands : goal.returns-clause-stands
returns-clause-stands c p stands = record {
  phase = rw (c.step_of.ensures.step, c.from.ensures) (phase-step p _ _ _ stands.phase);
  begun = begun-later p;
}
