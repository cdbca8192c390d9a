use Rattle.std.proofs.Common.{◌≡◌, ◌+◌, ℕ, Some, length, take}
use Rattle.op_leaf.specs.Inner.{lefts_of, rights_of}
use Rattle.op_leaf.specs.Leaves.{square_cell}
use Rattle.op_leaf.specs.Standing.{SquareStandsAt}
use Rattle.op_leaf.proofs.square.Square.run.Given as goal

abbrev pub invariant-loop-at : goal.invariant-loop-at
invariant-loop-at l = record {
  left_long : length l.left ≡ length l.initial.left;
  right_long : length l.right ≡ length l.initial.left;
  pitch : l.self.pitch ≡ l.initial.self.pitch;
  rate : l.self.rate ≡ l.initial.self.rate;
  kind : l.self.kind ≡ l.initial.self.kind;
  stands : (p : ℕ) → SquareStandsAt l.initial.self p → SquareStandsAt l.self (p + l.at);
  left : (p : ℕ) → SquareStandsAt l.initial.self p → take l.at l.left ≡ lefts_of (λ q. Some (square_cell l.initial.self.pitch l.initial.self.rate l.initial.self.kind q)) p l.at;
  right : (p : ℕ) → SquareStandsAt l.initial.self p → take l.at l.right ≡ rights_of (λ q. Some (square_cell l.initial.self.pitch l.initial.self.rate l.initial.self.kind q)) p l.at;
}
