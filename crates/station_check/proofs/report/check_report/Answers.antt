use Rattle.std.proofs.Common.{◌≡◌, ◌∙◌, ◌<◌, ◌+◌, ◌++◌, suc, Some, ap, arith, get_or, length, refl, slice_get, sym, take}
use Rattle.std.specs.Prelude.{string_bytes}
use Rattle.std.proofs.lemmas.Option.{slice_get_read}
use Rattle.fallible_infer.specs.Infallible.{mark_at}
use Rattle.std.proofs.lemmas.List.{take_all}
use Rattle.clock_infer.specs.declared.clock_map.ClockMap.{ClockMap}
use Rattle.plan_core.specs.declared.plan.Plan.{Plan}
use Rattle.stations.specs.Reports.{buffer_lines, checked_lines}
use Rattle.station_check.specs.Steps.{sink_line}
use Rattle.station_check.proofs.Lines.{line_more}
use Rattle.station_check.proofs.report.check_report.Goals as goal

pub returns : goal.returns
returns c =
    let plan = c.args.plan.now in
    let clocks = c.args.clocks.now in
    let mark = mark_at c.in_ok-marks.marks.items in
    let all : take c.loop-sink.sink-index plan.sinks ≡ plan.sinks =
    take_all c.loop-sink.sink-index plan.sinks (omega (arith, c.loop-sink-test.false, ap length c.as_slice-sink-items.ensures)) in (
      mark,
      c.in_ok-marks.ensures.exact,
      λ station plan_is clocks_are.
          c.in_ok-push_buffers.ensures station (record { plan_is = plan_is; clocks_are = clocks_are })
          ∙ ap (λ text. text ++ buffer_lines station 0 plan.buffers) (c.loop-sink.invariant ∙ ap (checked_lines clocks mark) all)
          ∙ ap (λ (m : ClockMap). checked_lines m mark plan.sinks ++ buffer_lines station 0 plan.buffers) (sym clocks_are)
          ∙ ap (λ (p : Plan). checked_lines station.clocks mark p.sinks ++ buffer_lines station 0 p.buffers) (sym plan_is),
    )

pub loop-sink-preserved : goal.loop-sink-preserved
loop-sink-preserved c =
    let clocks = c.args.clocks.now in
    let mark = mark_at c.in_ok-marks.marks.items in
    let k = c.loop-sink.sink-index in
    let within : k < length c.args.plan.now.sinks = omega (arith, c.loop-sink-test.true, ap length c.as_slice-sink-items.ensures) in
    let at : slice_get c.args.plan.now.sinks k ≡ Some c.sink-item.result =
    slice_get_read _ _ _ _ refl within (c.sink-item.is ∙ ap (λ xs. get_or xs k c.sink-item.result) c.as_slice-sink-items.ensures) in
    let next : suc k ≡ k + 1 = omega arith in
    c.in_ok-push_sink.ensures
    ∙ ap (λ marks. string_bytes c.loop-sink.text ++ sink_line clocks (mark_at marks) c.sink-item.result) c.deref.ensures.value
    ∙ ap (λ text. text ++ sink_line clocks mark c.sink-item.result) c.loop-sink.invariant
    ∙ line_more clocks mark c.args.plan.now.sinks k c.sink-item.result at
    ∙ ap (λ n. checked_lines clocks mark (take n c.args.plan.now.sinks)) next
