-- The calls of the clocks that run.
use Rattle.std.proofs.Common.{◌≡◌, ◌<◌, ◌≤◌, ℕ, Bool, cond, List, [], inl, inr, ap, sym, subst}
use Rattle.std.proofs.lemmas.Bool.{cases_lt, lt-ltb, le-ltb}
use Rattle.clock_infer.specs.declared.clock_map.ClockMap.{ClockMap}
use Rattle.frame_core.specs.Calls.{Answer}
use Rattle.stream_meaning.specs.Instants.{Setting, answered}
use Rattle.stream_meaning.specs.Calls.{joined_upto}
use Rattle.stream_meaning.specs.Settings.{IsSetting}
use Rattle.stream_meaning.proofs.Answering.{joined_same}
use Rattle.run_records.specs.Records.{ticks_of, rounds_of, calls_in}
use Rattle.run_records.specs.Owning.{IsOwn}
use Rattle.run_records.proofs.Owning.{own_tick}
use Rattle.std.specs.Prelude.{All}
use Rattle.std.proofs.lemmas.List.Elements.{All-nil}

module _ (setting : Setting) (clocks : ℕ) (accepted : ℕ → ℕ → ℕ → Bool) where
  pub runs_in : (m t : ℕ) → m < clocks → calls_in setting clocks accepted m t ≡ ticks_of setting accepted m t
  runs_in m t low = ap (λ (b : Bool). cond b (ticks_of setting accepted m t) []) (lt-ltb m clocks low)

  pub rests_in : (m t : ℕ) → clocks ≤ m → calls_in setting clocks accepted m t ≡ []
  rests_in m t high = ap (λ (b : Bool). cond b (ticks_of setting accepted m t) []) (le-ltb m clocks high)

  pub rounds_in : (N : ℕ) → rounds_of setting accepted clocks N ≡ joined_upto (λ t. joined_upto (λ m. calls_in setting clocks accepted m t) clocks) N
  rounds_in N = joined_same (λ t. joined_upto (λ m. ticks_of setting accepted m t) clocks) (λ t. joined_upto (λ m. calls_in setting clocks accepted m t) clocks) N
      (λ t less. joined_same (λ m. ticks_of setting accepted m t) (λ m. calls_in setting clocks accepted m t) clocks (λ m low. sym (runs_in m t low)))

pub own_in : (setting : Setting) (clock_map : ClockMap) → IsSetting setting clock_map → (answers : ℕ → List Answer) (clocks : ℕ) (accepted : ℕ → ℕ → ℕ → Bool) (m t : ℕ)
    → All (IsOwn setting m) (calls_in (answered setting answers) clocks accepted m t)
own_in setting clock_map is answers clocks accepted m t = elim (cases_lt m clocks) [
  | inl low ↦ subst (All (IsOwn setting m)) (sym (runs_in (answered setting answers) clocks accepted m t low)) (own_tick setting clock_map is answers (accepted m t) m t)
  | inr high ↦ subst (All (IsOwn setting m)) (sym (rests_in (answered setting answers) clocks accepted m t high)) (All-nil (IsOwn setting m))
]
