use Rattle.std.proofs.Common.{◌≡◌, ◌∙◌, false, Some, ap, get_or, refl, subst, sym}
use Rattle.std.proofs.lemmas.Option.{get_or_from_slice_get, slice_get_within}
use Rattle.fallible_infer.specs.Infallible.{IsMarking, mark_at, refuses}
use Rattle.stations.specs.Findings.{sink_name}
use Rattle.station_check.proofs.Firsts.{first_at, none_of}
use Rattle.station_check.proofs.gaps.check_gaps.Goals as goal

pub returns-in-Err-clause-fault : goal.returns-in-Err-clause-fault
returns-in-Err-clause-fault c =
    let told = c.in-Err.ensures.refused in
    let same : c.index-as_slice-fault.result ≡ told.0 =
    c.index-as_slice-fault.is ∙ ap (λ xs. get_or xs c.in-Err.fault.sink c.index-as_slice-fault.result) c.as_slice.ensures
    ∙ get_or_from_slice_get c.args.plan.now.sinks c.in-Err.fault.sink told.0 c.index-as_slice-fault.result told.1 in
    record {
      name = c.in_ok-name.name;
      fault_is = refl;
      mark = mark_at c.deref.result.now;
      marking = subst (λ m. IsMarking c.args.plan.now.nodes (mark_at m)) (sym c.deref.ensures.value) c.in_ok-marks.ensures.exact;
      first = first_at (refuses (mark_at c.deref.result.now)) c.args.plan.now.sinks c.in-Err.fault.sink told.0 told.1 told.2 c.in-Err.ensures.first
          ∙ ap (λ s. Some (sink_name s)) (sym same) ∙ ap Some (sym c.in_ok-name.ensures);
    }

pub returns-clause-safe : goal.returns-clause-safe
returns-clause-safe c = record {
  mark = mark_at c.deref.result.now;
  marking = subst (λ m. IsMarking c.args.plan.now.nodes (mark_at m)) (sym c.deref.ensures.value) c.in_ok-marks.ensures.exact;
  none = none_of (refuses (mark_at c.deref.result.now)) c.args.plan.now.sinks (λ j s at.
      subst (λ x. refuses (mark_at c.deref.result.now) x ≡ false) (get_or_from_slice_get c.args.plan.now.sinks j s s at)
      (c.in_default.ensures.accepted j s (slice_get_within c.args.plan.now.sinks j s at)));
}
