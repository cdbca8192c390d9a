use Rattle.std.proofs.Common.{◌≡◌, ◌<◌, ◌∙◌, false, Some, length, get_or, slice_get, arith, ap, sym, refl, subst, inl, inr}
use Rattle.std.proofs.lemmas.Bool.{cases_eq}
use Rattle.std.proofs.lemmas.Option.{slice_get_read, slice_get_within}
use Rattle.stations.specs.Findings.{is_too_long}
use Rattle.station_check.proofs.Firsts.{first_at, none_of}
use Rattle.station_check.proofs.lengths.check_lengths.Goals as goal

pub loop-sink-preserved : goal.loop-sink-preserved
loop-sink-preserved c k sink below found =
    let within : c.loop-sink.sink-index < length c.args.plan.now.sinks = omega (arith, c.loop-sink-test.true, ap length c.as_slice-sink-items.ensures) in
    let at : slice_get c.args.plan.now.sinks c.loop-sink.sink-index ≡ Some c.sink-item.result =
    slice_get_read _ _ _ _ refl within (c.sink-item.is ∙ ap (λ xs. get_or xs c.loop-sink.sink-index c.sink-item.result) c.as_slice-sink-items.ensures) in
    elim (cases_eq k c.loop-sink.sink-index) [
      | inl here ↦ (let one : Some c.sink-item.result ≡ Some sink = sym at ∙ ap (slice_get c.args.plan.now.sinks) (sym here) ∙ found in
          let its : c.sink-item.result ≡ sink = cc in
          subst (λ s. is_too_long c.args.plan.now c.args.ticks s ≡ false) its (sym c.is_too_long.ensures ∙ c.if-is_too_long.false))
      | inr apart ↦ c.loop-sink.invariant k sink (omega (arith, apart)) found
    ]

pub returns-then-is_too_long-clause-fault : goal.returns-then-is_too_long-clause-fault
returns-then-is_too_long-clause-fault c =
    let within : c.loop-sink.sink-index < length c.args.plan.now.sinks = omega (arith, c.loop-sink-test.true, ap length c.as_slice-sink-items.ensures) in
    let at : slice_get c.args.plan.now.sinks c.loop-sink.sink-index ≡ Some c.sink-item.result =
    slice_get_read _ _ _ _ refl within (c.sink-item.is ∙ ap (λ xs. get_or xs c.loop-sink.sink-index c.sink-item.result) c.as_slice-sink-items.ensures) in
    record {
      name = c.in_ok-name.name;
      fault_is = refl;
      first = first_at (is_too_long c.args.plan.now c.args.ticks) c.args.plan.now.sinks c.loop-sink.sink-index c.sink-item.result at
          (sym c.is_too_long.ensures ∙ c.if-is_too_long.true) c.loop-sink.invariant ∙ ap Some (sym c.in_ok-name.ensures);
    }

pub returns-clause-short : goal.returns-clause-short
returns-clause-short c = none_of (is_too_long c.args.plan.now c.args.ticks) c.args.plan.now.sinks (λ j s at.
    let within = slice_get_within c.args.plan.now.sinks j s at in
    let all : length c.args.plan.now.sinks ≡ length c.as_slice-sink-items.result.now = ap length (sym c.as_slice-sink-items.ensures) in
    c.loop-sink.invariant j s (omega (arith, within, all, c.loop-sink-test.false)) at)
