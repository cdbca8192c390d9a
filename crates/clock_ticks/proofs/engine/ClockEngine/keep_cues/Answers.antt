use Rattle.std.proofs.Common.{◌∙◌, ap, sym, subst}
use Rattle.clock_ticks.specs.Engines.{EngineStands}
use Rattle.clock_ticks.proofs.Keeping.{stands_keeping}
use Rattle.clock_ticks.proofs.engine.ClockEngine.keep_cues.Goals as goal

pub returns-clause-stands : goal.returns-clause-stands
returns-clause-stands g c ticks answers stands =
    stands_keeping c.self.inside.parts ticks answers (ap (λ w. w.parts.ticks) c.self.view_is ∙ c.requires.new) (subst (λ w. EngineStands w.parts ticks answers) (sym c.self.view_is) stands)
