use Rattle.std.proofs.Common.{◌∙◌, ap, refl}
use Rattle.std.specs.Prelude.{Ok}
use Rattle.liq_base.specs.Files.{file_at}
use Rattle.refusal_lines.specs.declared.replay_lines.ReplayFault.TheVariants.{NoTrace, TraceTooLarge}
use Rattle.station_jobs.proofs.Untold.{ends_untold, has_more}
use Rattle.station_jobs.proofs.traces.read_text.Goals as goal

pub returns-in-Ok-Missing-clause-ends : goal.returns-in-Ok-Missing-clause-ends
returns-in-Ok-Missing-clause-ends g c = λ base clocks ticks.
    ends_untold _ base clocks ticks _ _ (NoTrace c.args.name.now) _ c.no_trace.ensures
    (λ files t. (refl, c.read.ensures.missing (c.in-Ok-Missing.is ∙ ap Ok c.in-Ok-Missing.field-0-is) files t))

pub returns-in-Ok-TooLarge-clause-ends : goal.returns-in-Ok-TooLarge-clause-ends
returns-in-Ok-TooLarge-clause-ends g c = λ base clocks ticks.
    ends_untold _ base clocks ticks _ _ (TraceTooLarge c.args.name.now) _ c.too_large.ensures
    (λ files t. (refl, has_more files c.args.name.now (file_at files c.args.name.now) refl (c.read.ensures.too_large (c.in-Ok-TooLarge.is ∙ ap Ok c.in-Ok-TooLarge.field-0-is) files t)))
