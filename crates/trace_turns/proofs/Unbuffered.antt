-- A clock of a plan without buffers makes no call, so it comes to its end without being run.
use Rattle.std.proofs.Common.{◌≡◌, ℕ, zero, suc, Bool, true, List, [], ◌∷◌, length, ap, arith, refl, subst, sym}
use Rattle.clock_infer.specs.declared.clock_map.ClockMap.{ClockMap}
use Rattle.frame_core.specs.declared.cell.Cell.{Cell}
use Rattle.frame_core.specs.Calls.{Answer}
use Rattle.stream_meaning.specs.Instants.{Setting, answered}
use Rattle.stream_meaning.specs.Settings.{HasNoBuffers, IsSetting}
use Rattle.stream_meaning.proofs.Unbuffered.{has_none, no_calls}
use Rattle.run_records.specs.Outputs.{first_calls}
use Rattle.trace_turns.specs.declared.turn.Turn.{Turn}
use Rattle.trace_turns.specs.declared.turn.Turn.TheVariants.{Made, Refused}
use Rattle.trace_records.specs.Clocks.{Log}
use Rattle.trace_records.specs.Passes.{HasTurned}

pub is_none : {A : Type 0} (xs : List A) → length xs ≡ 0 → xs ≡ []
is_none [] e = refl
is_none (x ∷ xs) e = absurd (omega (arith, e))

none_made : (setting : Setting) → HasNoBuffers setting.plan → (accepted : ℕ → ℕ → Bool) (m n : ℕ) → first_calls setting accepted m n ≡ []
none_made setting free accepted m zero = refl
none_made setting free accepted m (suc n) = rw (none_made setting free accepted m n, no_calls setting free (accepted n) m n) refl

module _ (base : Setting) (clocks : ClockMap) (is : IsSetting base clocks) (none : base.plan.buffers ≡ []) (text : ℕ → Log) (W N m : ℕ) (chunks : ℕ → List (List Cell)) where
  free : HasNoBuffers base.plan
  free = has_none base.plan is.plan none

  calls_are : (given : ℕ → List Answer) (accepted : ℕ → ℕ → Bool) (n : ℕ) → first_calls (answered base given) accepted m n ≡ []
  calls_are given accepted n = none_made (answered base given) free accepted m n

  pub at_end : HasTurned base W N text m N chunks chunks
  at_end = record {
    come = record {
      calls = [];
      accepted = λ t b. true;
      within = omega arith;
      are = λ rest. sym (calls_are (λ b. rest b) (λ t b. true) N);
      replayed = record {
        answered_so = record {
          puts = λ b low. absurd (omega (arith, low, ap length none));
          takes = λ b low. absurd (omega (arith, low, ap length none));
          got = λ b low joins. absurd (omega (arith, low, ap length none));
        };
        in_order = record { each = λ front behind call e low same. absurd (omega (arith, low, ap length none)) };
        whole = record {
          puts = λ j b came within low fed. absurd (omega (arith, low, ap length none));
          takes = λ j b came within low read. absurd (omega (arith, low, ap length none));
        };
      };
      fed = λ b low fed. absurd (omega (arith, low, ap length none));
      kept = λ b low other. refl;
    };
    halted = λ less. absurd (omega (arith, less));
  }

  -- what its turn tells
  pub ended : (n : ℕ) → Made N ≡ Made n → HasTurned base W N text m n chunks chunks
  ended n e = subst (λ turn. HasMade turn) e at_end
    where
      HasMade : Turn → Type 0
      HasMade (Made k) = HasTurned base W N text m k chunks chunks
      HasMade Refused = HasTurned base W N text m N chunks chunks
