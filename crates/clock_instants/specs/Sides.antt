-- What there is on the left side, and on the right one.
pub record Sides (A : Type 0) : Type 0 where
  pub left : A
  pub right : A

-- the pair of what there is on the left side and what there is on the right one
abbrev pub both : {A : Type 0} → (left right : A) → Sides A
both left right = record {
  left = left;
  right = right;
}
