use Rattle.std.proofs.Common.{◌≡◌, ◌∙◌, ℕ, subst, sym, arith, inl, inr, slice_index_or}
use Rattle.std.proofs.lemmas.Bool.{cases_lt}
use Rattle.std.proofs.lemmas.List.{get_or_default}
use Rattle.trace_turns.specs.declared.ends.Ends.{Ends}
use Rattle.trace_turns.specs.Answering.{BufferState}
use Rattle.trace_turns.specs.Turns.{IsAtEnd}
use Rattle.trace_turns.proofs.ends.at_ends.Goals as goal

pub loop-b-preserved : goal.loop-b-preserved
loop-b-preserved c = record {
  so_far = λ k s e low. elim (cases_lt k c.loop-b.b) [
    | inl less ↦ c.loop-b.invariant.so_far k s e less
    | inr over ↦ (let here : c.loop-b.b ≡ k = omega (arith, low, over) in
        let within = c.loop-b-test.true in
        let size = c.requires in
        let buffer : slice_index_or c.args.buffers.now c.loop-b.b s ≡ c.index-buffers-b.result = get_or_default c.args.buffers.now c.loop-b.b s c.index-buffers-b.result within ∙ sym c.index-buffers-b.is in
        let ends : slice_index_or c.args.ends.now c.loop-b.b e ≡ c.index-ends-b.result = get_or_default c.args.ends.now c.loop-b.b e c.index-ends-b.result (omega (arith, within, size)) ∙ sym c.index-ends-b.is in
        let at : IsAtEnd c.index-buffers-b.result c.index-ends-b.result c.args.window = c.at_end.ensures.right c.if-not-at_end.false in
        subst (λ (j : ℕ). IsAtEnd (slice_index_or c.args.buffers.now j s) (slice_index_or c.args.ends.now j e) c.args.window) here
        (subst (λ (x : BufferState). IsAtEnd x (slice_index_or c.args.ends.now c.loop-b.b e) c.args.window) (sym buffer)
        (subst (λ (x : Ends). IsAtEnd c.index-buffers-b.result x c.args.window) (sym ends) at)))
  ];
}
