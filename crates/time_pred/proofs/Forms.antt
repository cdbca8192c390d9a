-- What is always true by its form holds at every second, and what is never true by its form at none.
use Rattle.std.proofs.Common.{◌≡◌, ℕ, true, false, not, refl, ap, inl, inr}
use Rattle.std.proofs.lemmas.Bool.{and_parts, and_from, or_cases}
use Rattle.std.proofs.Math.Bool.{or-true, and-false}
use Rattle.time_pred.specs.Predicates.{PredicateTree, OnePredicate, PredicateParts, Always, Never, At, Between, Negated, All, Any, no_parts, first_part, holds, all_hold, some_holds, is_always, is_never, all_always, some_always, all_never, some_never}

mutual
  pub always_holds : (p : PredicateTree OnePredicate) (at : ℕ) → is_always p ≡ true → holds p at ≡ true
  always_holds Always at is = refl
  always_holds Never at is = cc
  always_holds (At mark) at is = cc
  always_holds (Between from to) at is = cc
  always_holds (Negated p) at is = ap not (never_holds p at is)
  always_holds (All ps) at is = all_always_hold ps at is
  always_holds (Any ps) at is = some_always_holds ps at is

  pub never_holds : (p : PredicateTree OnePredicate) (at : ℕ) → is_never p ≡ true → holds p at ≡ false
  never_holds Always at is = cc
  never_holds Never at is = refl
  never_holds (At mark) at is = cc
  never_holds (Between from to) at is = cc
  never_holds (Negated p) at is = ap not (always_holds p at is)
  never_holds (All ps) at is = some_never_hold ps at is
  never_holds (Any ps) at is = all_never_hold ps at is

  all_always_hold : (ps : PredicateTree PredicateParts) (at : ℕ) → all_always ps ≡ true → all_hold ps at ≡ true
  all_always_hold no_parts at is = refl
  all_always_hold (first_part p ps) at is =
      let both = and_parts (is_always p) (all_always ps) is in
      and_from (holds p at) (all_hold ps at) (always_holds p at both.0) (all_always_hold ps at both.1)

  some_always_holds : (ps : PredicateTree PredicateParts) (at : ℕ) → some_always ps ≡ true → some_holds ps at ≡ true
  some_always_holds no_parts at is = cc
  some_always_holds (first_part p ps) at is =
      elim (or_cases (is_always p) (some_always ps) is) [
        | inl first ↦ rw (always_holds p at first) refl
        | inr rest ↦ rw (some_always_holds ps at rest) (or-true (holds p at))
      ]

  all_never_hold : (ps : PredicateTree PredicateParts) (at : ℕ) → all_never ps ≡ true → some_holds ps at ≡ false
  all_never_hold no_parts at is = refl
  all_never_hold (first_part p ps) at is =
      let both = and_parts (is_never p) (all_never ps) is in
      rw (never_holds p at both.0, all_never_hold ps at both.1) refl

  some_never_hold : (ps : PredicateTree PredicateParts) (at : ℕ) → some_never ps ≡ true → all_hold ps at ≡ false
  some_never_hold no_parts at is = cc
  some_never_hold (first_part p ps) at is =
      elim (or_cases (is_never p) (some_never ps) is) [
        | inl first ↦ rw (never_holds p at first) refl
        | inr rest ↦ rw (some_never_hold ps at rest) (and-false (holds p at))
      ]
