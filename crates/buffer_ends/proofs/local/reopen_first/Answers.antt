use Rattle.std.proofs.Common.{◌≡◌, ℕ, suc, ◌-◌, length, ap, ◌∙◌, arith, get_or}
use Rattle.buffer_ends.specs.Local.{closed_first}
use Rattle.buffer_ends.proofs.Windows.{first_length, was_closed, reopened}
use Rattle.buffer_ends.proofs.local.reopen_first.Goals as goal

pub index_mut-requires : goal.index_mut-requires
index_mut-requires c =
    let items : c.loop-left.lists.items ≡ closed_first c.loop-left.left c.requires.0 = c.loop-left.invariant.1 c.requires.0 c.requires.1 c.requires.2 in
    let long : length c.loop-left.lists.items ≡ length c.requires.0 = ap length items ∙ first_length c.loop-left.left c.requires.0 in
    omega (arith, long, c.requires.1, c.loop-left.invariant.0, c.loop-left-test.true, c.loop-left.lists.ok)

pub reopen-requires : goal.reopen-requires
reopen-requires c =
    let n : ℕ = c.loop-left.left - 1 in
    let left : c.loop-left.left ≡ suc n = omega (arith, c.loop-left-test.true) in
    let items : c.loop-left.lists.items ≡ closed_first (suc n) c.requires.0 = c.loop-left.invariant.1 c.requires.0 c.requires.1 c.requires.2 ∙ ap (λ k. closed_first k c.requires.0) left in
    (get_or c.requires.0 n c.index_mut.result.now, was_closed n c.loop-left.lists.items c.requires.0 c.index_mut.result.now items (omega (arith, left, c.loop-left.invariant.0, c.requires.1)) c.index_mut.ensures.value)

pub loop-left-preserved : goal.loop-left-preserved
loop-left-preserved c =
    let n : ℕ = c.loop-left.left - 1 in
    let left : c.loop-left.left ≡ suc n = omega (arith, c.loop-left-test.true) in (
      omega (arith, c.loop-left.invariant.0),
      λ bs many e.
          let items : c.loop-left.lists.items ≡ closed_first (suc n) bs = c.loop-left.invariant.1 bs many e ∙ ap (λ k. closed_first k bs) left in
          reopened n c.loop-left.lists.items bs c.index_mut.result.now c.reopen.new.self items (omega (arith, left, c.loop-left.invariant.0, many)) c.index_mut.ensures.value c.reopen.ensures,
    )
