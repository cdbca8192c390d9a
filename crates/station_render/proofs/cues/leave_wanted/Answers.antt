use Rattle.std.proofs.Common.{rules, ◌≡◌, true, false, subst, sym}
use Rattle.std.specs.Prelude.{OnOk}
use Rattle.stations.specs.Cues.{cue_names_if}
use Rattle.station_render.specs.Shelves.{WroteFiles, WroteUpto}
use Rattle.station_render.specs.Marks.{cue_files_if, cues_of}
use Rattle.station_render.proofs.Filing.{none_wanted, none_yet}
use Rattle.station_render.proofs.cues.leave_wanted.Goals as goal

pub returns-then-not-job-clause-some : goal.returns-then-not-job-clause-some
returns-then-not-job-clause-some g c = none_yet (g.S.Shelf.told c.args.shelf.now) _ _

pub returns-then-not-job-clause-all : goal.returns-then-not-job-clause-all
returns-then-not-job-clause-all g c =
    let unwanted : c.args.job.now.cues ≡ false = search rules in
    subst (λ b. WroteFiles (g.S.Shelf.told c.args.shelf.now) (g.S.Shelf.told c.args.shelf.now) (cue_names_if b c.args.job.now.plan.sinks)
    (cue_files_if b c.args.job.now.ready.library c.args.job.now.plan.sinks (cues_of c.args.marks.now))) (sym unwanted) (none_wanted (g.S.Shelf.told c.args.shelf.now))

pub returns-clause-some : goal.returns-clause-some
returns-clause-some g c =
    let wanted : c.args.job.now.cues ≡ true = search rules in
    subst (λ b. WroteUpto (g.S.Shelf.told c.args.shelf.now) (g.S.Shelf.told c.leave_cues.new.shelf) (cue_names_if b c.args.job.now.plan.sinks)
    (cue_files_if b c.args.job.now.ready.library c.args.job.now.plan.sinks (cues_of c.args.marks.now))) (sym wanted) c.leave_cues.ensures.some

pub returns-clause-all : goal.returns-clause-all
returns-clause-all g c =
    let wanted : c.args.job.now.cues ≡ true = search rules in
    subst (λ b. OnOk c.leave_cues.result (WroteFiles (g.S.Shelf.told c.args.shelf.now) (g.S.Shelf.told c.leave_cues.new.shelf) (cue_names_if b c.args.job.now.plan.sinks)
    (cue_files_if b c.args.job.now.ready.library c.args.job.now.plan.sinks (cues_of c.args.marks.now)))) (sym wanted) c.leave_cues.ensures.all
