-- The ticks with which windows begin.
use Rattle.std.proofs.Common.{◌≡◌, ℕ, zero, suc, ◌<◌, ◌≤◌, ◌+◌, ◌-◌, ◌*◌, min, ◌∙◌, ap, subst, arith, inl, inr}
use Rattle.std.proofs.Math.Nat.{min-eq_left, min-eq_right, suc-mul}
use Rattle.run_records.specs.Records.{start}
use Rattle.clock_threads.proofs.Meeting.{low_or_high}

pub start_zero : (W N : ℕ) → start W N 0 ≡ 0
start_zero W N = let z : 0 * W ≡ 0 = grind arith in ap (min N) z ∙ min-eq_right (omega arith)

pub start_most : (W N j : ℕ) → start W N j ≤ N
start_most W N j = elim (low_or_high N (j * W)) [
  | inl low ↦ (let e = min-eq_left {n = N} {m = j * W} (omega (arith, low)) in omega (arith, e))
  | inr high ↦ (let e = min-eq_right {n = j * W} {m = N} high in omega (arith, e, high))
]

pub start_up : (W N j : ℕ) → start W N j ≤ start W N (suc j)
start_up W N j =
    let m = suc-mul j W in
    elim (low_or_high N (j * W)) [
      | inl low ↦ (let e = min-eq_left {n = N} {m = j * W} (omega (arith, low)) in let f = min-eq_left {n = N} {m = suc j * W} (omega (arith, low, m)) in omega (arith, e, f))
      | inr high ↦ (let e = min-eq_right {n = j * W} {m = N} high in elim (low_or_high N (suc j * W)) [
        | inl low ↦ (let f = min-eq_left {n = N} {m = suc j * W} (omega (arith, low)) in omega (arith, e, f, high))
        | inr high' ↦ (let f = min-eq_right {n = suc j * W} {m = N} high' in omega (arith, e, f, m))
      ])
    ]

pub start_next : (W N j t count : ℕ) → t ≡ start W N j → t < N → count ≡ min W (N - t) → start W N (suc j) ≡ start W N j + count
start_next W N j t count is less c =
    let m = suc-mul j W in
    elim (low_or_high N (j * W)) [
      | inl low ↦ (let e = min-eq_left {n = N} {m = j * W} (omega (arith, low)) in absurd (omega (arith, e, is, less)))
      | inr high ↦ (let e = min-eq_right {n = j * W} {m = N} high in elim (low_or_high N (suc j * W)) [
        | inl low ↦ (let f = min-eq_left {n = N} {m = suc j * W} (omega (arith, low)) in
            let g = min-eq_right {n = N - t} {m = W} (omega (arith, low, m, e, is)) in omega (arith, e, f, g, is, c, less))
        | inr high' ↦ (let f = min-eq_right {n = suc j * W} {m = N} high' in let g = min-eq_left {n = W} {m = N - t} (omega (arith, high', m, e, is)) in omega (arith, e, f, g, c, m))
      ])
    ]

pub start_climbs : (W N i n j : ℕ) → i + n ≡ j → start W N i ≤ start W N j
start_climbs W N i zero j e = let same : i ≡ j = omega (arith, e) in subst (λ k. start W N i ≤ start W N k) same (omega arith)
start_climbs W N i (suc n) j e = let a = start_up W N i in let b = start_climbs W N (suc i) n j (omega (arith, e)) in omega (arith, a, b)
