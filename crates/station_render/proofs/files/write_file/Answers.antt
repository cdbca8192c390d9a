use Rattle.std.proofs.Common.{rules, arith, ◌<◌, ◌∙◌}
use Rattle.liq_base.specs.Kept.{rose_within}
use Rattle.station_render.proofs.Filing.{file_ended, file_kept, file_left, file_whole}
use Rattle.station_render.proofs.files.write_file.Goals as goal

pub returns-in_err-sink-clause-some : goal.returns-in_err-sink-clause-some
returns-in_err-sink-clause-some g c = file_kept c.args.name.now c.args.text.now _ _ c.in_err-sink.ensures.unmade

pub returns-in_err-wrote-clause-some : goal.returns-in_err-wrote-clause-some
returns-in_err-wrote-clause-some g c =
    file_left c.args.name.now c.args.text.now _ _ _ _ _ c.in_ok-sink.ensures.fresh c.in_ok-sink.ensures.made c.close-closed.result c.in_err-wrote.ensures.part
    c.close-closed.ensures.closed c.close-closed.ensures.part c.close-closed.ensures.shelf

pub returns-in_err-wrote-clause-cause : goal.returns-in_err-wrote-clause-cause
returns-in_err-wrote-clause-cause g c =
    let rose = c.in_err-wrote.ensures.part.rose in
    λ e. rose_within _ _ _ _ c.in_ok-sink.ensures.made.writes (omega arith) (c.close-closed.ensures.shelf.failed (omega (arith, rose)))

pub returns-in_err-closed-clause-some : goal.returns-in_err-closed-clause-some
returns-in_err-closed-clause-some g c =
    file_ended c.args.name.now c.args.text.now _ _ _ _ _ c.in_ok-sink.ensures.fresh c.in_ok-sink.ensures.made c.close-closed.result c.in_ok-wrote.ensures.took
    c.close-closed.ensures.closed c.close-closed.ensures.part c.close-closed.ensures.shelf

pub returns-in_err-closed-clause-cause : goal.returns-in_err-closed-clause-cause
returns-in_err-closed-clause-cause g c = λ e. rose_within _ _ _ _ c.in_ok-sink.ensures.made.writes (omega arith) c.in_err-closed.ensures.cause

pub returns-clause-some : goal.returns-clause-some
returns-clause-some g c =
    file_ended c.args.name.now c.args.text.now _ _ _ _ _ c.in_ok-sink.ensures.fresh c.in_ok-sink.ensures.made c.close-closed.result c.in_ok-wrote.ensures.took
    c.close-closed.ensures.closed c.close-closed.ensures.part c.close-closed.ensures.shelf

pub returns-clause-all : goal.returns-clause-all
returns-clause-all g c =
    file_whole c.args.name.now c.args.text.now _ _ _ _ _ c.in_ok-sink.ensures.fresh c.in_ok-sink.ensures.made c.in_ok-wrote.ensures.took
    c.in_ok-closed.ensures.closed c.close-closed.ensures.shelf
