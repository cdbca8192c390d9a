use Rattle.std.proofs.Common.{rules, arith, List, ◌≡◌, ◌<◌, ◌≤◌, ◌+◌, ◌∙◌, length, slice_get, slice_index_or, ap, sym, subst}
use Rattle.std.specs.Prelude.{Some, map}
use Rattle.plan_core.specs.declared.sink.SinkPlan.{SinkPlan}
use Rattle.plan_core.specs.declared.sink.SinkPlan.TheVariants.{Output, Feed}
use Rattle.stations.specs.Creations.{HaveClosed, HaveListed, after_making, closing_at_once}
use Rattle.stations.specs.Cues.{cue_names_in}
use Rattle.stations.proofs.Making.{all_made}
use Rattle.station_render.specs.Marks.{cue_files_with, cues_of}
use Rattle.station_render.proofs.Lists.{got}
use Rattle.station_render.proofs.Creating.{take_whole, written_still}
use Rattle.station_render.proofs.CueFiles.{closed_next, closed_still, cues_front, cues_next, cues_still, files_next, files_part, files_still, files_upto, files_whole, listed_next, listed_still, marks_at, named_as, part_named_as}
use Rattle.station_render.proofs.Reporting.{one_place, place_below}
use Rattle.station_render.proofs.cues.leave_cues.Goals as goal

pub loop-sink-preserved-in_default : goal.loop-sink-preserved-in_default
loop-sink-preserved-in_default g c =
    let low : c.loop-sink.sink-index < length c.args.plan.now.sinks = subst (λ (xs : List SinkPlan). c.loop-sink.sink-index < length xs) c.as_slice-sink-items.ensures c.loop-sink-test.true in
    let item : c.sink-item.result ≡ slice_index_or c.args.plan.now.sinks c.loop-sink.sink-index c.sink-item.result = c.sink-item.is ∙ ap (λ (xs : List SinkPlan). slice_index_or xs c.loop-sink.sink-index c.sink-item.result) c.as_slice-sink-items.ensures in
    let at : slice_get c.args.plan.now.sinks c.loop-sink.sink-index ≡ Some (Feed c.in_default.field-0 c.in_default.field-1) =
    got c.args.plan.now.sinks c.loop-sink.sink-index c.sink-item.result low ∙ ap Some (sym item ∙ c.in_default.is) in
    record {
      place = c.loop-sink.invariant.place ∙ sym (ap length (written_still c.args.plan.now.sinks c.loop-sink.sink-index c.in_default.field-0 c.in_default.field-1 at));
      files = files_still c.args.library.now c.args.plan.now.sinks (cues_of c.args.marks.now) c.loop-sink.sink-index _ _ c.loop-sink.invariant.files c.in_default.field-0 c.in_default.field-1 at;
      made = cues_still c.args.plan.now.sinks c.loop-sink.sink-index _ _ c.loop-sink.invariant.made c.in_default.field-0 c.in_default.field-1 at;
      closed = closed_still c.args.plan.now.sinks c.loop-sink.sink-index _ _ c.loop-sink.invariant.closed c.in_default.field-0 c.in_default.field-1 at;
      listed = listed_still c.args.library.now c.args.plan.now.sinks (cues_of c.args.marks.now) c.loop-sink.sink-index _ _ c.loop-sink.invariant.listed c.in_default.field-0 c.in_default.field-1 at;
      reads = c.loop-sink.invariant.reads;
      writes = c.loop-sink.invariant.writes;
    }

pub bounds-marks-place : goal.bounds-marks-place
bounds-marks-place g c =
    let low : c.loop-sink.sink-index < length c.args.plan.now.sinks = subst (λ (xs : List SinkPlan). c.loop-sink.sink-index < length xs) c.as_slice-sink-items.ensures c.loop-sink-test.true in
    let item : c.sink-item.result ≡ slice_index_or c.args.plan.now.sinks c.loop-sink.sink-index c.sink-item.result = c.sink-item.is ∙ ap (λ (xs : List SinkPlan). slice_index_or xs c.loop-sink.sink-index c.sink-item.result) c.as_slice-sink-items.ensures in
    let at : slice_get c.args.plan.now.sinks c.loop-sink.sink-index ≡ Some (Output c.in-Output.name c.in-Output.node c.in-Output.fallible c.in-Output.wide) =
    got c.args.plan.now.sinks c.loop-sink.sink-index c.sink-item.result low ∙ ap Some (sym item ∙ c.in-Output.is) in
    let below = place_below c.args.plan.now.sinks c.loop-sink.sink-index c.in-Output.name c.in-Output.node c.in-Output.fallible c.in-Output.wide at in
    omega (arith, below, c.loop-sink.invariant.place, c.requires.many)

pub offset_bounds-marks-place : goal.offset_bounds-marks-place
offset_bounds-marks-place g c =
    let low : c.loop-sink.sink-index < length c.args.plan.now.sinks = subst (λ (xs : List SinkPlan). c.loop-sink.sink-index < length xs) c.as_slice-sink-items.ensures c.loop-sink-test.true in
    let item : c.sink-item.result ≡ slice_index_or c.args.plan.now.sinks c.loop-sink.sink-index c.sink-item.result = c.sink-item.is ∙ ap (λ (xs : List SinkPlan). slice_index_or xs c.loop-sink.sink-index c.sink-item.result) c.as_slice-sink-items.ensures in
    let at : slice_get c.args.plan.now.sinks c.loop-sink.sink-index ≡ Some (Output c.in-Output.name c.in-Output.node c.in-Output.fallible c.in-Output.wide) =
    got c.args.plan.now.sinks c.loop-sink.sink-index c.sink-item.result low ∙ ap Some (sym item ∙ c.in-Output.is) in
    let below = place_below c.args.plan.now.sinks c.loop-sink.sink-index c.in-Output.name c.in-Output.node c.in-Output.fallible c.in-Output.wide at in
    let inside : c.loop-sink.place < length c.args.marks.now = omega (arith, below, c.loop-sink.invariant.place, c.requires.many) in
    search (rules, arith)

pub overflow_add-place : goal.overflow_add-place
overflow_add-place g c =
    let low : c.loop-sink.sink-index < length c.args.plan.now.sinks = subst (λ (xs : List SinkPlan). c.loop-sink.sink-index < length xs) c.as_slice-sink-items.ensures c.loop-sink-test.true in
    let item : c.sink-item.result ≡ slice_index_or c.args.plan.now.sinks c.loop-sink.sink-index c.sink-item.result = c.sink-item.is ∙ ap (λ (xs : List SinkPlan). slice_index_or xs c.loop-sink.sink-index c.sink-item.result) c.as_slice-sink-items.ensures in
    let at : slice_get c.args.plan.now.sinks c.loop-sink.sink-index ≡ Some (Output c.in-Output.name c.in-Output.node c.in-Output.fallible c.in-Output.wide) =
    got c.args.plan.now.sinks c.loop-sink.sink-index c.sink-item.result low ∙ ap Some (sym item ∙ c.in-Output.is) in
    let below = place_below c.args.plan.now.sinks c.loop-sink.sink-index c.in-Output.name c.in-Output.node c.in-Output.fallible c.in-Output.wide at in
    let inside : c.loop-sink.place < length c.args.marks.now = omega (arith, below, c.loop-sink.invariant.place, c.requires.many) in
    search (rules, arith)

pub returns-in_err-leave_one-clause-some : goal.returns-in_err-leave_one-clause-some
returns-in_err-leave_one-clause-some g c =
    let low : c.loop-sink.sink-index < length c.args.plan.now.sinks = subst (λ (xs : List SinkPlan). c.loop-sink.sink-index < length xs) c.as_slice-sink-items.ensures c.loop-sink-test.true in
    let item : c.sink-item.result ≡ slice_index_or c.args.plan.now.sinks c.loop-sink.sink-index c.sink-item.result = c.sink-item.is ∙ ap (λ (xs : List SinkPlan). slice_index_or xs c.loop-sink.sink-index c.sink-item.result) c.as_slice-sink-items.ensures in
    let at : slice_get c.args.plan.now.sinks c.loop-sink.sink-index ≡ Some (Output c.in-Output.name c.in-Output.node c.in-Output.fallible c.in-Output.wide) =
    got c.args.plan.now.sinks c.loop-sink.sink-index c.sink-item.result low ∙ ap Some (sym item ∙ c.in-Output.is) in
    let below = place_below c.args.plan.now.sinks c.loop-sink.sink-index c.in-Output.name c.in-Output.node c.in-Output.fallible c.in-Output.wide at in
    let inside : c.loop-sink.place < length c.args.marks.now = omega (arith, below, c.loop-sink.invariant.place, c.requires.many) in
    let there = marks_at c.args.marks.now c.loop-sink.place _ c.loop-sink.invariant.place c.index-marks-place.result inside c.index-marks-place.is _ c.deref.ensures.value in
    record {
      part = files_part c.args.library.now c.args.plan.now.sinks (cues_of c.args.marks.now) c.loop-sink.sink-index _ _ c.loop-sink.invariant.files c.in-Output.name c.in-Output.node c.in-Output.fallible c.in-Output.wide at _ there _
          (part_named_as c.args.library.now c.as_str.result.now c.in-Output.name c.as_str.ensures.same _ _ _ c.leave_one.ensures.some.part);
      front = cues_front c.args.plan.now.sinks c.loop-sink.sink-index _ _ _ c.loop-sink.invariant.made c.in-Output.name c.as_str.result.now c.in-Output.node c.in-Output.fallible c.in-Output.wide at c.as_str.ensures.same
          c.loop-sink.invariant.closed c.leave_one.ensures.some.front;
      reads_grew = omega (arith, c.leave_one.ensures.some.reads_grew, c.loop-sink.invariant.reads);
      writes_grew = omega (arith, c.leave_one.ensures.some.writes_grew, c.loop-sink.invariant.writes);
    }

pub loop-sink-preserved : goal.loop-sink-preserved
loop-sink-preserved g c =
    let low : c.loop-sink.sink-index < length c.args.plan.now.sinks = subst (λ (xs : List SinkPlan). c.loop-sink.sink-index < length xs) c.as_slice-sink-items.ensures c.loop-sink-test.true in
    let item : c.sink-item.result ≡ slice_index_or c.args.plan.now.sinks c.loop-sink.sink-index c.sink-item.result = c.sink-item.is ∙ ap (λ (xs : List SinkPlan). slice_index_or xs c.loop-sink.sink-index c.sink-item.result) c.as_slice-sink-items.ensures in
    let at : slice_get c.args.plan.now.sinks c.loop-sink.sink-index ≡ Some (Output c.in-Output.name c.in-Output.node c.in-Output.fallible c.in-Output.wide) =
    got c.args.plan.now.sinks c.loop-sink.sink-index c.sink-item.result low ∙ ap Some (sym item ∙ c.in-Output.is) in
    let below = place_below c.args.plan.now.sinks c.loop-sink.sink-index c.in-Output.name c.in-Output.node c.in-Output.fallible c.in-Output.wide at in
    let inside : c.loop-sink.place < length c.args.marks.now = omega (arith, below, c.loop-sink.invariant.place, c.requires.many) in
    let there = marks_at c.args.marks.now c.loop-sink.place _ c.loop-sink.invariant.place c.index-marks-place.result inside c.index-marks-place.is _ c.deref.ensures.value in
    record {
      place = ap (λ n. n + 1) c.loop-sink.invariant.place ∙ sym (one_place c.args.plan.now.sinks c.loop-sink.sink-index c.in-Output.name c.in-Output.node c.in-Output.fallible c.in-Output.wide at);
      files = files_next c.args.library.now c.args.plan.now.sinks (cues_of c.args.marks.now) c.loop-sink.sink-index _ _ c.loop-sink.invariant.files c.in-Output.name c.in-Output.node c.in-Output.fallible c.in-Output.wide at _ there _
          (named_as c.args.library.now c.as_str.result.now c.in-Output.name c.as_str.ensures.same _ _ _ c.in_ok-leave_one.ensures.all.written);
      made = cues_next c.args.plan.now.sinks c.loop-sink.sink-index _ _ c.loop-sink.invariant.made c.in-Output.name c.as_str.result.now c.in-Output.node c.in-Output.fallible c.in-Output.wide at c.as_str.ensures.same _ c.in_ok-leave_one.ensures.all.made;
      closed = closed_next c.args.plan.now.sinks c.loop-sink.sink-index _ _ c.loop-sink.invariant.closed c.in-Output.name c.as_str.result.now c.in-Output.node c.in-Output.fallible c.in-Output.wide at c.as_str.ensures.same _ c.in_ok-leave_one.ensures.all.closes;
      listed = listed_next c.args.library.now c.args.plan.now.sinks (cues_of c.args.marks.now) c.loop-sink.sink-index _ _ c.loop-sink.invariant.listed c.in-Output.name c.as_str.result.now c.in-Output.node c.in-Output.fallible c.in-Output.wide at
          c.as_str.ensures.same _ there _ c.in_ok-leave_one.ensures.all.listed;
      reads = omega (arith, c.leave_one.ensures.some.reads_grew, c.loop-sink.invariant.reads);
      writes = omega (arith, c.leave_one.ensures.some.writes_grew, c.loop-sink.invariant.writes);
    }

pub returns-clause-all : goal.returns-clause-all
returns-clause-all g c =
    let all : length c.args.plan.now.sinks ≤ c.loop-sink.sink-index = subst (λ (xs : List SinkPlan). length xs ≤ c.loop-sink.sink-index) c.as_slice-sink-items.ensures c.loop-sink-test.false in
    let sinks = take_whole c.args.plan.now.sinks c.loop-sink.sink-index all in
    record {
      written = files_whole c.args.library.now c.args.plan.now.sinks (cues_of c.args.marks.now) c.loop-sink.sink-index _ _ c.loop-sink.invariant.files all;
      made = c.loop-sink.invariant.made ∙ ap (λ xs. after_making (cue_names_in xs) (g.S.Shelf.told c.args.shelf.now).created) sinks;
      closes = subst (λ xs. HaveClosed 0 (cue_names_in xs) (g.S.Shelf.told c.args.shelf.now).closed (g.S.Shelf.told c.loop-sink.shelf).closed) sinks c.loop-sink.invariant.closed;
      listed = subst (λ xs. HaveListed (map closing_at_once (cue_files_with c.args.library.now xs (cues_of c.args.marks.now))) (g.S.Shelf.told c.args.shelf.now).closed (g.S.Shelf.told c.loop-sink.shelf).closed) sinks
          c.loop-sink.invariant.listed;
    }

pub returns-clause-some : goal.returns-clause-some
returns-clause-some g c =
    let all : length c.args.plan.now.sinks ≤ c.loop-sink.sink-index = subst (λ (xs : List SinkPlan). length xs ≤ c.loop-sink.sink-index) c.as_slice-sink-items.ensures c.loop-sink-test.false in
    let sinks = take_whole c.args.plan.now.sinks c.loop-sink.sink-index all in
    record {
      part = files_upto c.args.library.now c.args.plan.now.sinks (cues_of c.args.marks.now) c.loop-sink.sink-index _ _ c.loop-sink.invariant.files all;
      front = all_made (cue_names_in c.args.plan.now.sinks) _ _ (c.loop-sink.invariant.made ∙ ap (λ xs. after_making (cue_names_in xs) (g.S.Shelf.told c.args.shelf.now).created) sinks)
          (subst (λ xs. HaveClosed 0 (cue_names_in xs) (g.S.Shelf.told c.args.shelf.now).closed (g.S.Shelf.told c.loop-sink.shelf).closed) sinks c.loop-sink.invariant.closed);
      reads_grew = c.loop-sink.invariant.reads;
      writes_grew = c.loop-sink.invariant.writes;
    }
