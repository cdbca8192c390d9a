use Rattle.std.proofs.Common.{◌≡◌, false, nat_eq, slice_index, take}
use Rattle.std.specs.List.{list_any}
use Rattle.plan_blames.proofs.faults.shares.Given as goal

abbrev pub invariant-loop-source : goal.invariant-loop-source
invariant-loop-source l = list_any (λ source. nat_eq (slice_index l.groups source) (slice_index l.groups l.k)) (take l.source-index l.these) ≡ false
