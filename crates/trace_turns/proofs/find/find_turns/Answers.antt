use Rattle.trace_turns.specs.Turns.{base_at}
use Rattle.trace_turns.proofs.Resuming.{empty_again, fit_again}
use Rattle.trace_turns.proofs.Thinning.{kept_forgotten}
use Rattle.trace_turns.proofs.find.find_turns.Goals as goal

pub returns-clause-fit : goal.returns-clause-fit
returns-clause-fit c = λ text fit.
    fit_again c.search_turns.new.taps.buffers.items c.forget_run.new.buffers.items c.forget_run.ensures.many c.forget_run.ensures.forgotten (base_at c.args.station.now) c.args.window c.args.ticks text c.args.ends.now
    (c.in_ok-found.ensures.fit text fit)

pub returns-clause-empty : goal.returns-clause-empty
returns-clause-empty c = empty_again c.search_turns.new.taps.buffers.items c.forget_run.new.buffers.items c.forget_run.ensures.many c.forget_run.ensures.forgotten

pub returns-clause-kept : goal.returns-clause-kept
returns-clause-kept c = kept_forgotten c.search_turns.new.taps.buffers.items c.forget_run.new.buffers.items c.forget_run.ensures.many c.forget_run.ensures.forgotten
