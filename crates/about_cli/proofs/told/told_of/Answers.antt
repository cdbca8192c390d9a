use Rattle.about_cli.proofs.Telling.{no_plan_but}
use Rattle.about_cli.proofs.told.told_of.Goals as goal

pub returns-in-Week-clause-no_plan : goal.returns-in-Week-clause-no_plan
returns-in-Week-clause-no_plan g c =
    no_plan_but c.args.question c.args.text.now c.week_of.result (λ is. absurd (let asked = c.in-Week.is in cc)) c.week_of.ensures.no_plan

pub returns-in-Picture-clause-no_plan : goal.returns-in-Picture-clause-no_plan
returns-in-Picture-clause-no_plan g c =
    no_plan_but c.args.question c.args.text.now c.picture_of.result (λ is. absurd (let asked = c.in-Picture.is in cc)) c.picture_of.ensures.no_plan

pub returns-in-Files-clause-no_plan : goal.returns-in-Files-clause-no_plan
returns-in-Files-clause-no_plan g c =
    no_plan_but c.args.question c.args.text.now c.files_of.result (λ is. absurd (let asked = c.in-Files.is in cc)) c.files_of.ensures.no_plan

pub returns-in-Hours-clause-no_plan : goal.returns-in-Hours-clause-no_plan
returns-in-Hours-clause-no_plan g c =
    no_plan_but c.args.question c.args.text.now c.hours_of.result (λ is. absurd (let asked = c.in-Hours.is in cc)) c.hours_of.ensures.no_plan
