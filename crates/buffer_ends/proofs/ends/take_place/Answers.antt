use Rattle.std.proofs.Common.{◌≡◌, rules, ◌∙◌, ap, subst, sym, List, true, false, arith, length}
use Rattle.std.specs.List.Sorted.{IsPartitionPoint, IsPartitionedBy}
use Rattle.std.proofs.lemmas.List.{get_or_default}
use Rattle.std.proofs.lemmas.List.Sorted.{IsPartitionPoint-from_clause}
use Rattle.buffer_ends.specs.Sides.{Side}
use Rattle.buffer_ends.proofs.Places.{is_later, later_first, none_there}
use Rattle.buffer_ends.proofs.ends.take_place.Goals.{else-place-len-via-then-place-len+else-buffer, else-place-len-via-else-place-len}
use Rattle.buffer_ends.proofs.ends.take_place.Goals as goal

pub returns-else-place-len-clause-none : goal.returns-else-place-len-clause-none
returns-else-place-len-clause-none c =
    let ends = c.args.ends.now.items in let b = c.args.buffer in let place = c.partition_point-place.result in
    let same = c.deref.ensures.value in
    let many : c.len.result ≡ length ends = search rules in
    let parted : IsPartitionedBy (is_later b) c.deref.result.now = subst (λ (xs : List Side). IsPartitionedBy (is_later b) xs) (sym same) (later_first ends b c.requires) in
    let point = IsPartitionPoint-from_clause (is_later b) _ _ c.partition_point-place.ensures.partitioned parted (λ a r q k. search rules) in
    none_there ends b place c.requires (subst (λ (xs : List Side). IsPartitionPoint (λ s. is_later b s ≡ true) (λ s. is_later b s ≡ false) xs place) same point)
    (λ d low is. elim c.else-place-len.branch [
      | else-place-len-via-then-place-len+else-buffer w ↦ w.if-buffer.false (w.buffer.ensures ∙ ap (λ (s : Side). s.buffer) (w.index.ensures ∙ get_or_default ends place w.index.result.now d low) ∙ is)
      | else-place-len-via-else-place-len w ↦ (let past = w.if-place-len.false in omega (arith, past, low, many))
    ])
