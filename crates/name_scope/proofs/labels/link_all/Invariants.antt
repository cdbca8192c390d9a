use Rattle.std.proofs.Common.{◌≡◌, ◌-◌, drop, length, map}
use Rattle.name_scope.specs.Labelled.{AreHeads, AreLinked, head_at, next_at, placed, seen_label}
use Rattle.name_scope.proofs.labels.link_all.Given as goal

abbrev pub invariant-loop-back : goal.invariant-loop-back
invariant-loop-back l = record {
  long : length l.next ≡ length l.labels;
  linked : AreLinked (next_at l.next) (placed (length l.labels - l.back) (map seen_label (drop (length l.labels - l.back) l.labels)));
  heads : AreHeads (head_at l.named l.plain) (placed (length l.labels - l.back) (map seen_label (drop (length l.labels - l.back) l.labels)));
}
