-- Causality by places: where the first calls of a clock's ticks agree, so does the next one but for its answer.
use Rattle.std.proofs.Common.{◌≡◌, ℕ, zero, suc, Bool, Option, Some, None, List, [], ◌∷◌, ◌++◌, length, take, slice_get, refl, sym, subst, ◌∙◌, inl, inr}
use Rattle.clock_infer.specs.declared.clock_map.ClockMap.{ClockMap}
use Rattle.frame_core.specs.Calls.{Call, Took, Given, Answer}
use Rattle.stream_meaning.specs.Instants.{Setting, answered}
use Rattle.stream_meaning.specs.Settings.{IsSetting}
use Rattle.run_records.specs.Parting.{Differ, Goes, IsSameCall, AreSameCalls}
use Rattle.run_records.specs.Alike.{IsTickAlike}
use Rattle.run_records.specs.Outputs.{HasSameOutputs, first_calls}
use Rattle.run_records.proofs.Parting.{goes_by}
use Rattle.run_records.proofs.Ticking.{ticks_go, bytes_alike, gaps_alike}

same_call : (call : Call) → IsSameCall call call
same_call (Took b answer) = refl
same_call (Given b chunk accepted) = (refl, refl)

differ_same : (buffers : ℕ) (one other : Call) → Differ buffers one other → IsSameCall one other
differ_same buffers (Took b answer) (Took c got) differ = differ.1
differ_same buffers (Took b answer) (Given c chunk accepted) differ = differ
differ_same buffers (Given b chunk accepted) (Took c answer) differ = differ
differ_same buffers (Given b chunk accepted) (Given c cells full) differ = (differ.1, differ.2)

not_same : (buffers : ℕ) (one other : Call) → Differ buffers one other → one ≡ other → ⊥
not_same buffers (Took b answer) (Took c got) differ e = differ.2 cc
not_same buffers (Took b answer) (Given c chunk accepted) differ e = differ
not_same buffers (Given b chunk accepted) (Took c answer) differ e = differ
not_same buffers (Given b chunk accepted) (Given c cells full) differ e = differ.3 cc

same_calls : (found : Option Call) → AreSameCalls found found
same_calls None = tt
same_calls (Some call) = same_call call

next_of : (buffers : ℕ) (front behind others : List Call) (one other : Call) → Differ buffers one other → (n : ℕ) → take n (front ++ one ∷ behind) ≡ take n (front ++ other ∷ others)
    → AreSameCalls (slice_get (front ++ one ∷ behind) n) (slice_get (front ++ other ∷ others) n)
next_of buffers [] behind others one other differ zero e = differ_same buffers one other differ
next_of buffers [] behind others one other differ (suc n) e = absurd (not_same buffers one other differ (let heads : one ∷ take n behind ≡ other ∷ take n others = e in cc))
next_of buffers (call ∷ front) behind others one other differ zero e = same_call call
next_of buffers (call ∷ front) behind others one other differ (suc n) e =
    next_of buffers front behind others one other differ n (let tails : call ∷ take n (front ++ one ∷ behind) ≡ call ∷ take n (front ++ other ∷ others) = e in cc)

-- Two settings that differ in their answers alone: where the first n calls that a clock makes in its first ticks are the same, the
-- next one is, but for its answer, or there is none in both.
pub next_call : (base : Setting) (clocks : ClockMap) → IsSetting base clocks → (one other : ℕ → List Answer) (first second : ℕ → ℕ → Bool) (m ticks n : ℕ)
    → take n (first_calls (answered base one) first m ticks) ≡ take n (first_calls (answered base other) second m ticks)
    → AreSameCalls (slice_get (first_calls (answered base one) first m ticks) n) (slice_get (first_calls (answered base other) second m ticks) n)
next_call base clocks is one other first second m ticks n same =
    go (first_calls (answered base one) first m ticks) (first_calls (answered base other) second m ticks) same (ticks_go base clocks is one other first second m ticks)
  where
    go : (xs ys : List Call) → take n xs ≡ take n ys → Goes (length base.plan.buffers) xs ys (IsTickAlike base one other m ticks) → AreSameCalls (slice_get xs n) (slice_get ys n)
    go xs ys same (inr are) = subst (λ (l : List Call). AreSameCalls (slice_get xs n) (slice_get l n)) are.same (same_calls (slice_get xs n))
    go xs ys same (inl part) =
        subst (λ (l : List Call). AreSameCalls (slice_get l n) (slice_get ys n)) (sym part.first)
        (subst (λ (l : List Call). AreSameCalls (slice_get (part.front ++ part.one ∷ part.behind) n) (slice_get l n)) (sym part.second)
        (next_of (length base.plan.buffers) part.front part.behind part.others part.one part.other part.differ n
        ((λ i. take n (sym part.first i)) ∙ same ∙ (λ i. take n (part.second i)))))

tail_same : (x y : Call) (xs ys : List Call) → x ∷ xs ≡ y ∷ ys → xs ≡ ys
tail_same x y xs ys e = cc

head_same : (x y : Call) (xs ys : List Call) → x ∷ xs ≡ y ∷ ys → x ≡ y
head_same x y xs ys e = cc

apart : (buffers : ℕ) (front behind others : List Call) (call got : Call) → Differ buffers call got → front ++ call ∷ behind ≡ front ++ got ∷ others → ⊥
apart buffers [] behind others call got differ e = not_same buffers call got differ (head_same call got behind others e)
apart buffers (x ∷ front) behind others call got differ e = apart buffers front behind others call got differ (tail_same x x (front ++ call ∷ behind) (front ++ got ∷ others) e)

-- what is alike up to a tick has had the same outputs
alike_outputs : (base : Setting) (clocks : ClockMap) → IsSetting base clocks → (one other : ℕ → List Answer) (m ticks : ℕ) → IsTickAlike base one other m ticks
    → HasSameOutputs (answered base one) (answered base other) m ticks
alike_outputs base clocks is one other m ticks alike = record {
  same_bytes = λ wide i at. bytes_alike base clocks is one other wide m ticks i alike at;
  same_gaps = λ i at. gaps_alike base clocks is one other m ticks i alike at;
}

pub outputs_go : (base : Setting) (clocks : ClockMap) → IsSetting base clocks → (one other : ℕ → List Answer) (first second : ℕ → ℕ → Bool) (m ticks : ℕ)
    → Goes (length base.plan.buffers) (first_calls (answered base one) first m ticks) (first_calls (answered base other) second m ticks) (HasSameOutputs (answered base one) (answered base other) m ticks)
outputs_go base clocks is one other first second m ticks =
    goes_by (length base.plan.buffers) (first_calls (answered base one) first m ticks) (first_calls (answered base other) second m ticks) (alike_outputs base clocks is one other m ticks)
    (ticks_go base clocks is one other first second m ticks)

-- where all calls of the first ticks are the same, so are the bytes and the gaps of the clock's outputs
pub outputs_same : (base : Setting) (clocks : ClockMap) → IsSetting base clocks → (one other : ℕ → List Answer) (first second : ℕ → ℕ → Bool) (m ticks : ℕ)
    → first_calls (answered base one) first m ticks ≡ first_calls (answered base other) second m ticks → HasSameOutputs (answered base one) (answered base other) m ticks
outputs_same base clocks is one other first second m ticks same =
    go (first_calls (answered base one) first m ticks) (first_calls (answered base other) second m ticks) same (outputs_go base clocks is one other first second m ticks)
  where
    go : (xs ys : List Call) → xs ≡ ys → Goes (length base.plan.buffers) xs ys (HasSameOutputs (answered base one) (answered base other) m ticks) → HasSameOutputs (answered base one) (answered base other) m ticks
    go xs ys same (inr are) = are.now
    go xs ys same (inl part) = absurd (apart (length base.plan.buffers) part.front part.behind part.others part.one part.other part.differ (sym part.first ∙ same ∙ part.second))
