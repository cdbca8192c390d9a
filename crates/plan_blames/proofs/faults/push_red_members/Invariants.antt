use Rattle.std.proofs.Common.{◌≡◌, ◌++◌, ℕ, slice_index, take}
use Rattle.plan_blames.specs.Texts.{numbered}
use Rattle.plan_blames.specs.Faults.{red_member, shares}
use Rattle.plan_blames.proofs.faults.push_red_members.Given as goal

abbrev pub invariant-loop-k : goal.invariant-loop-k
invariant-loop-k l = l.into.items ≡ l.initial.into.items ++ numbered (λ k node. red_member (shares (λ (source : ℕ). slice_index l.groups source) l.these k) k) 0 (take l.k l.nodes)
