use Rattle.std.proofs.Common.{◌∙◌, ◌∷◌, [], refl, sym, subst}
use Rattle.frame_core.specs.Calls.{Adds, Took}
use Rattle.node_states.proofs.Chunks.{held_empty, held_full, on_err, taken_some, taking_more, taking_none}
use Rattle.node_states.proofs.takes.take_chunks.Goals as goal

pub loop-taps-init : goal.loop-taps-init
loop-taps-init g c = record {
  buffers = refl;
  same = g.met.T.Taps.same_refl c.args.taps.now;
  taking = taking_none g.T.Taps.stands c.args.buffer c.args.reader.now c.args.taps.now;
}

pub loop-taps-preserved : goal.loop-taps-preserved
loop-taps-preserved g c = record {
  buffers = c.take.ensures.buffers ∙ c.loop-taps.invariant.buffers;
  same = g.met.T.Taps.same_trans c.args.taps.now c.loop-taps.taps c.take.new.self c.loop-taps.invariant.same c.take.ensures.same;
  taking = taking_more g.T.Taps.stands c.args.buffer c.args.reader.now c.loop-taps.reader c.accept.new.self c.in-Some.chunk c.args.taps.now c.loop-taps.taps c.take.new.self
      (sym c.wants.ensures.wants ∙ c.loop-taps-test.true) c.accept.ensures.accepted
      (subst (λ answer. Adds g.T.Taps.stands c.loop-taps.taps c.take.new.self (Took c.args.buffer answer ∷ [])) c.in-Some.is c.in_ok-chunk.ensures.call)
      c.loop-taps.invariant.taking;
}

pub returns-in_default-clause-took : goal.returns-in_default-clause-took
returns-in_default-clause-took g c =
    held_empty g.T.Taps.stands c.args.buffer c.args.reader.now c.loop-taps.reader c.args.taps.now c.loop-taps.taps c.take.new.self
    (sym c.wants.ensures.wants ∙ c.loop-taps-test.true)
    (subst (λ answer. Adds g.T.Taps.stands c.loop-taps.taps c.take.new.self (Took c.args.buffer answer ∷ [])) c.in_default.is c.in_ok-chunk.ensures.call)
    c.loop-taps.invariant.taking

pub returns-clause-took : goal.returns-clause-took
returns-clause-took g c =
    held_full g.T.Taps.stands c.args.buffer c.args.reader.now c.loop-taps.reader c.args.taps.now c.loop-taps.taps
    (sym c.wants.ensures.wants ∙ c.loop-taps-test.false) c.loop-taps.invariant.taking

pub returns-in_err-chunk-clause-stopped : goal.returns-in_err-chunk-clause-stopped
returns-in_err-chunk-clause-stopped g c =
    on_err c.from_residual.result (taken_some g.T.Taps.stands c.args.buffer c.args.reader.now c.loop-taps.reader c.args.taps.now c.loop-taps.taps c.take.new.self
    c.in_err-chunk.ensures.memory c.loop-taps.invariant.taking)
