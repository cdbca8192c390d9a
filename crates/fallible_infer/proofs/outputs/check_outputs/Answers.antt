use Rattle.std.proofs.Common.{◌≡◌, ℕ, List, Some, slice_get, sym, ap, ◌∙◌, subst, refl, inl, inr, arith, length, get_or}
use Rattle.std.proofs.lemmas.Bool.{cases_eq}
use Rattle.std.proofs.lemmas.Option.{slice_get_read, slice_get-get_or}
use Rattle.plan_core.specs.declared.sink.SinkPlan.{SinkPlan as Sink}
use Rattle.fallible_infer.specs.Infallible.{mark_at, refuses}
use Rattle.fallible_infer.proofs.Marking.{some_same}
use Rattle.fallible_infer.proofs.outputs.check_outputs.Goals as goal

pub returns-then-refuses-clause-refused : goal.returns-then-refuses-clause-refused
returns-then-refuses-clause-refused c =
    let P : List Sink → Type 0 = λ sinks. slice_get sinks c.loop-k.k ≡ Some c.sink-item.result in
    (c.sink-item.result, subst P c.as_slice-sink-items.ensures (slice_get_read c.as_slice-sink-items.result.now _ c.loop-k.k c.sink-item.result refl c.loop-k-test.true c.sink-item.is), sym c.refuses.ensures ∙ c.if-refuses.true)

pub returns-then-refuses-clause-first : goal.returns-then-refuses-clause-first
returns-then-refuses-clause-first c k sink less there =
    let P : List Sink → Type 0 = λ sinks. slice_get sinks k ≡ Some sink in
    c.loop-k.invariant k sink less (subst P (sym c.as_slice-sink-items.ensures) there)

pub loop-k-preserved : goal.loop-k-preserved
loop-k-preserved c k sink less there = elim (cases_eq k c.loop-k.k) [
  | inl e ↦ (let P : ℕ → Type 0 = λ n. slice_get c.as_slice-sink-items.result.now n ≡ Some sink in
      let same : c.sink-item.result ≡ sink = some_same (slice_get_read c.as_slice-sink-items.result.now _ c.loop-k.k c.sink-item.result refl c.loop-k-test.true c.sink-item.is) (subst P e there) in
      ap (refuses (mark_at c.args.marks.now)) (sym same) ∙ sym c.refuses.ensures ∙ c.if-refuses.false)
  | inr apart ↦ c.loop-k.invariant k sink (omega (arith, apart)) there
]

pub returns-clause-accepted : goal.returns-clause-accepted
returns-clause-accepted c k d less =
    let P : List Sink → Type 0 = λ sinks. slice_get sinks k ≡ Some (get_or c.args.plan.now.sinks k d) in
    c.loop-k.invariant k (get_or c.args.plan.now.sinks k d) (omega (arith, ap length c.as_slice-sink-items.ensures)) (subst P (sym c.as_slice-sink-items.ensures) (slice_get-get_or c.args.plan.now.sinks k d less))
