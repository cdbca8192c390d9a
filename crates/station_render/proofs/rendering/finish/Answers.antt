use Rattle.std.proofs.Common.{◌≡◌, ◌∙◌, ◌++◌, ◌≤◌, arith, length, refl, sym, subst}
use Rattle.std.proofs.lemmas.Result.{err_from_is_err_and}
use Rattle.std.specs.Prelude.{IsSomeAnd, Some, map}
use Rattle.std.specs.Option.{ForSome}
use Rattle.liq_base.specs.Kept.{rose_within}
use Rattle.stations.specs.Creations.{HaveListed, closing_at_once, names_in, trace_names_in}
use Rattle.stations.specs.Cues.{cue_names_if}
use Rattle.stations.specs.Outputs.{HoldsUpto, with_outputs}
use Rattle.stations.proofs.Making.{front_made, none_made, then_front, then_made}
use Rattle.station_render.specs.Marks.{cue_files_by, cues_of}
use Rattle.station_render.specs.Renders.{written}
use Rattle.station_render.specs.Runs.{name_in, station_in}
use Rattle.station_render.proofs.Leaving.{broke_off, has_marks, later_are, later_part, part_behind, part_first, rendered_by}
use Rattle.station_render.proofs.Lists.{on_ok}
use Rattle.station_render.proofs.Tracing.{trace_by_way}
use Rattle.station_render.proofs.rendering.finish.Goals as goal

pub leave_wanted-requires-clause-many : goal.leave_wanted-requires-clause-many
leave_wanted-requires-clause-many g c κs lives wanted =
    let may = c.requires.may in
    subst (λ marks. length marks ≡ length (written c.args.job.now.plan.sinks)) (sym c.deref.ensures.value)
    (has_marks (station_in c.args.job.now may.0) _ _ c.in_ok-rendered.rendered (c.in_ok-rendered.ensures.done may.0 may.2 may.3 may.4) wanted)

pub leave_trace-requires-clause-trace : goal.leave_trace-requires-clause-trace
leave_trace-requires-clause-trace g c κs lives =
    let may = c.requires.may in
    let wrote = c.in_ok-rendered.ensures.done may.0 may.2 may.3 may.4 in
    trace_by_way _ _ c.args.job.now.ticks may.0 wrote.run _ c.args.window may.1 c.requires.bounds c.requires.fit.plan_is c.requires.fit.few wrote.lawful wrote.told.logs_are

pub returns-in_err-rendered : goal.returns-in_err-rendered
returns-in_err-rendered g c =
    let p = err_from_is_err_and c.from_residual.result c.from_residual.ensures.1 in rw (p.1, p.2)
    (λ way first is kept may.
    let sinks = c.args.job.now.plan.sinks in
    broke_off (station_in c.args.job.now way) first (g.S.Shelf.told c.close_outputs.new.shelf) _ _ refl (c.in_err-rendered.ensures.part way first kept may) (λ e. rose_within _ _ _ _ kept.writes_grew (omega arith) (c.in_err-rendered.ensures.cause e))
    (then_front (names_in sinks) (cue_names_if c.args.job.now.cues sinks ++ trace_names_in way (name_in c.args.job.now)) first (g.S.Shelf.told c.close_outputs.new.shelf) (g.S.Shelf.told c.close_outputs.new.shelf) (c.close_outputs.ensures.shelf.created_kept ∙ kept.made) (c.close_outputs.ensures.closed way first kept may)
    (none_made _ (g.S.Shelf.told c.close_outputs.new.shelf) (g.S.Shelf.told c.close_outputs.new.shelf) refl refl))
    (omega (arith, kept.reads_grew, c.close_outputs.ensures.shelf.reads_grew)) (omega (arith, kept.writes_grew, c.close_outputs.ensures.shelf.writes_grew)))

pub returns-in_err-leave_wanted : goal.returns-in_err-leave_wanted
returns-in_err-leave_wanted g c =
    let p = err_from_is_err_and c.from_residual-in_err-leave_wanted.result c.from_residual-in_err-leave_wanted.ensures.1 in rw (p.1, p.2)
    (λ way first is kept may.
    let low : first.writes ≤ (g.S.Shelf.told c.close_outputs.new.shelf).writes = omega (arith, kept.writes_grew, c.close_outputs.ensures.shelf.writes_grew) in
    let station = station_in c.args.job.now way in
    let sinks = c.args.job.now.plan.sinks in
    let wrote = c.in_ok-rendered.ensures.done way first kept may in
    broke_off station first (g.S.Shelf.told c.leave_wanted.new.shelf) _ _ refl
    (later_part station first (g.S.Shelf.told c.close_outputs.new.shelf) c.in_ok-rendered.rendered wrote (c.close_outputs.ensures.shelf.created_kept ∙ kept.made) (cue_names_if c.args.job.now.cues sinks) _ (g.S.Shelf.told c.leave_wanted.new.shelf) c.leave_wanted.ensures.some.front _
    (later_are station first (g.S.Shelf.told c.close_outputs.new.shelf) c.in_ok-rendered.rendered wrote)
    (part_first _ (g.S.Shelf.told c.leave_wanted.new.shelf).files _ _ _
    (subst (λ marks. ForSome (g.S.Shelf.told c.close_outputs.new.shelf).files (λ files. IsSomeAnd (g.S.Shelf.told c.leave_wanted.new.shelf).files (HoldsUpto files (cue_files_by c.args.job.now (cues_of marks))))) c.deref.ensures.value c.leave_wanted.ensures.some.part)))
    (λ e. rose_within _ _ _ _ low (omega arith) (c.in_err-leave_wanted.ensures.cause (cc)))
    (then_front (names_in sinks) (cue_names_if c.args.job.now.cues sinks ++ trace_names_in way (name_in c.args.job.now)) first (g.S.Shelf.told c.close_outputs.new.shelf) (g.S.Shelf.told c.leave_wanted.new.shelf) (c.close_outputs.ensures.shelf.created_kept ∙ kept.made) (c.close_outputs.ensures.closed way first kept may)
    (front_made (cue_names_if c.args.job.now.cues sinks) (trace_names_in way (name_in c.args.job.now)) (g.S.Shelf.told c.close_outputs.new.shelf) (g.S.Shelf.told c.leave_wanted.new.shelf) c.leave_wanted.ensures.some.front))
    (omega (arith, kept.reads_grew, c.close_outputs.ensures.shelf.reads_grew, c.leave_wanted.ensures.some.reads_grew)) (omega (arith, low, c.leave_wanted.ensures.some.writes_grew)))

pub returns : goal.returns
returns g c = λ way first is kept may.
    let station = station_in c.args.job.now way in
    let sinks = c.args.job.now.plan.sinks in
    let cue_names = cue_names_if c.args.job.now.cues sinks in
    let last_names = trace_names_in way (name_in c.args.job.now) in
    let wrote = c.in_ok-rendered.ensures.done way first kept may in
    let all = c.leave_trace.ensures.all way is in
    let some = c.leave_trace.ensures.some way is in
    let made = c.close_outputs.ensures.shelf.created_kept ∙ kept.made in
    let closed = c.close_outputs.ensures.closed way first kept may in
    let low : first.writes ≤ (g.S.Shelf.told c.leave_wanted.new.shelf).writes = omega (arith, kept.writes_grew, c.close_outputs.ensures.shelf.writes_grew, c.leave_wanted.ensures.some.writes_grew) in
    let cues = subst (λ marks. ForSome (g.S.Shelf.told c.close_outputs.new.shelf).files (λ files. (g.S.Shelf.told c.leave_wanted.new.shelf).files ≡ Some (with_outputs files (cue_files_by c.args.job.now (cues_of marks))))) c.deref.ensures.value c.in_ok-leave_wanted.ensures.all.written in
    let behind = then_front cue_names last_names (g.S.Shelf.told c.close_outputs.new.shelf) (g.S.Shelf.told c.leave_wanted.new.shelf) (g.S.Shelf.told c.leave_trace.new.shelf) c.in_ok-leave_wanted.ensures.all.made c.in_ok-leave_wanted.ensures.all.closes some.front in
    let listed = subst (λ marks. HaveListed (map closing_at_once (cue_files_by c.args.job.now (cues_of marks))) (g.S.Shelf.told c.close_outputs.new.shelf).closed (g.S.Shelf.told c.leave_wanted.new.shelf).closed) c.deref.ensures.value
    c.in_ok-leave_wanted.ensures.all.listed in
    record {
      done = rendered_by station first (g.S.Shelf.told c.close_outputs.new.shelf) c.in_ok-rendered.rendered wrote c.leave_trace.result (g.S.Shelf.told c.leave_wanted.new.shelf) (g.S.Shelf.told c.leave_trace.new.shelf) cues c.leave_trace.ensures.gaps c.leave_trace.ensures.counts c.leave_trace.ensures.logs c.leave_trace.ensures.cues
          (on_ok c.leave_trace.result _ _ (λ w. w.written) all)
          (on_ok c.leave_trace.result _ _ (λ w. then_made (names_in sinks) (cue_names ++ last_names) _ _ _ made (then_made cue_names last_names _ _ _ c.in_ok-leave_wanted.ensures.all.made w.made)) all)
          listed (on_ok c.leave_trace.result _ _ (λ w. w.listed) all);
      part = later_part station first (g.S.Shelf.told c.close_outputs.new.shelf) c.in_ok-rendered.rendered wrote made (cue_names ++ last_names) _ (g.S.Shelf.told c.leave_trace.new.shelf) behind _ (later_are station first (g.S.Shelf.told c.close_outputs.new.shelf) c.in_ok-rendered.rendered wrote) (part_behind _ _ _ _ _ cues some.part);
      cause = λ e. rose_within _ _ _ _ low (omega arith) (c.leave_trace.ensures.cause e);
      front = then_front (names_in sinks) (cue_names ++ last_names) first (g.S.Shelf.told c.close_outputs.new.shelf) (g.S.Shelf.told c.leave_trace.new.shelf) made closed behind;
      reads_grew = omega (arith, kept.reads_grew, c.close_outputs.ensures.shelf.reads_grew, c.leave_wanted.ensures.some.reads_grew, some.reads_grew);
      writes_grew = omega (arith, low, some.writes_grew);
    }
