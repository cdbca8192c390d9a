use Rattle.std.proofs.Common.{◌∙◌, ap, refl}
use Rattle.std.specs.Prelude.{Ok}
use Rattle.liq_base.specs.Files.{file_at}
use Rattle.station_jobs.specs.Words.{rendering_by}
use Rattle.station_jobs.proofs.Endings.{ends_refused}
use Rattle.station_jobs.proofs.Found.{no_script, too_long}
use Rattle.station_jobs.proofs.prepare.read_script.Goals as goal

pub returns-in-Ok-TooLarge-clause-ends : goal.returns-in-Ok-TooLarge-clause-ends
returns-in-Ok-TooLarge-clause-ends g c = λ start ticks trace cues. ends_refused _ _ _ _ (λ files t.
    too_long (record { plan = c.one_answer.ensures.plan; apart = c.one_answer.ensures.apart; fault = c.one_answer.ensures.fault })
    files (rendering_by c.args.file.now start ticks trace cues) _ _ (λ text long. long) (file_at files c.args.file.now) refl
    (c.read.ensures.too_large (c.in-Ok-TooLarge.is ∙ ap Ok c.in-Ok-TooLarge.field-0-is) files t))

pub returns-in-Ok-Missing-clause-ends : goal.returns-in-Ok-Missing-clause-ends
returns-in-Ok-Missing-clause-ends g c = λ start ticks trace cues. ends_refused _ _ _ _ (λ files t.
    no_script files (rendering_by c.args.file.now start ticks trace cues) (c.read.ensures.missing (c.in-Ok-Missing.is ∙ ap Ok c.in-Ok-Missing.field-0-is) files t))
