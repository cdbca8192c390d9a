use Rattle.clock_threads.specs.UnbufferedTicks.{any_calls, any_taps, no_buffers, with_taps}
use Rattle.clock_threads.proofs.Retapping.{ran_with}
use Rattle.clock_threads.proofs.unbuffered_window.run_unbuffered_ticks.Goals as goal

pub returns : goal.returns
returns g c =
    ran_with g.O.Sink.told c.args.count _ _ _ any_calls no_buffers any_taps (with_taps _ c.args.engine.now) (with_taps c.run_ticks.new.taps c.run_ticks.new.engine) tt tt (λ calls. tt) c.run_ticks.ensures
