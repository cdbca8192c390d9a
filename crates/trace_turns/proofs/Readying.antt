-- A run of a clock's new engine over buffers that begin it.
use Rattle.std.proofs.Common.{◌≡◌, ◌∙◌, ℕ, List, [], length, Result, Ok, Err, IfOk, refl, sym, subst}
use Rattle.clock_infer.specs.declared.clock_map.ClockMap.{ClockMap}
use Rattle.stream_meaning.specs.Instants.{Setting}
use Rattle.stream_meaning.specs.Settings.{IsSetting}
use Rattle.clock_ticks.specs.declared.engine.EngineParts.{EngineParts}
use Rattle.clock_ticks.specs.Engines.{EngineStands, setting_of}
use Rattle.trace_turns.specs.declared.ends.Ends.{Ends}
use Rattle.trace_turns.specs.declared.turn.Turn.{Turn}
use Rattle.trace_turns.specs.declared.turn.Turn.TheVariants.{Made, Refused}
use Rattle.trace_records.specs.Clocks.{Log}
use Rattle.trace_records.specs.Passes.{HasTurned, IsRefused}
use Rattle.trace_turns.specs.Answering.{BufferState, SameBuffers}
use Rattle.trace_turns.specs.Turns.{AreFit, AreOf, AreSides, HaveBegun, MayTurn, Score, chunks_of}
use Rattle.trace_turns.proofs.Beginning.{of_begun, stand_begun, told_begun, told_same}

pub ok_map : {T E : Type 0} {P Q : T → Type 0} (r : Result T E) → ((x : T) → P x → Q x) → IfOk r P → IfOk r Q
ok_map (Ok x) f p = f x p
ok_map (Err e) f p = p

module _ (base : Setting) (clocks : ClockMap) (is : IsSetting base clocks) (W N m : ℕ) (feeders readers f r : List ℕ) (feeders_are : f ≡ feeders) (readers_are : r ≡ readers) (sides : AreSides base feeders readers)
    (ends : List Ends) (old new : List BufferState) (many : length new ≡ length old) (are : HaveBegun f r m old new) (long : length ends ≡ length old)
    (parts : EngineParts) (clock_is : parts.clock ≡ m) (over : setting_of parts ≡ base) (fresh : EngineStands parts 0 (λ b. [])) where
  begun_is : HaveBegun feeders readers m old new
  begun_is = subst (λ (l : List ℕ). HaveBegun l readers m old new) feeders_are (subst (λ (l : List ℕ). HaveBegun f l m old new) readers_are are)

  abbrev pub score_of : (ℕ → Log) → Score
  score_of text = record { base = base; clocks = clocks; text = text; chunks = chunks_of old }

  pub may : (text : ℕ → Log) → AreFit base W N text old ends → MayTurn (score_of text) W N parts.clock parts new ends
  may text fit = record {
    is = is;
    over = over;
    clock = refl;
    fresh = fresh;
    of = subst (λ (k : ℕ). AreOf base text k (chunks_of old) new) (sym clock_is) (of_begun base text m feeders readers old new fit.told sides many begun_is);
    stand = stand_begun base text m feeders readers old new fit.told sides many begun_is;
    formed = fit.formed;
    long = long ∙ sym many;
    ends_are = fit.ends_are;
  }

  -- what the run tells
  module _ {E : Type 0} (result : Result Turn E) (after : List BufferState) where
    pub made : IfOk result (λ turn. (n : ℕ) (score : Score) → turn ≡ Made n → MayTurn score W N parts.clock parts new ends → HasTurned score.base W N score.text parts.clock n score.chunks (chunks_of after))
        → IfOk result (λ turn. (n : ℕ) (text : ℕ → Log) → turn ≡ Made n → AreFit base W N text old ends → HasTurned base W N text m n (chunks_of old) (chunks_of after))
    made told = ok_map result (λ turn h n text e fit. subst (λ (k : ℕ). HasTurned base W N text k n (chunks_of old) (chunks_of after)) clock_is (h n (score_of text) e (may text fit))) told

    pub refused : IfOk result (λ turn. (score : Score) → turn ≡ Refused → MayTurn score W N parts.clock parts new ends → IsRefused score.base W N score.text score.chunks parts.clock)
        → IfOk result (λ turn. (text : ℕ → Log) → turn ≡ Refused → AreFit base W N text old ends → IsRefused base W N text (chunks_of old) m)
    refused told = ok_map result (λ turn h text e fit. subst (IsRefused base W N text (chunks_of old)) clock_is (h (score_of text) e (may text fit))) told

    pub still_fit : IfOk result (λ turn. SameBuffers new after) → IfOk result (λ turn. (text : ℕ → Log) → AreFit base W N text old ends → AreFit base W N text after ends)
    still_fit told = ok_map result (λ turn same text fit. record {
      told = told_same base text new after (told_begun base text m feeders readers old new fit.told sides many begun_is) same;
      formed = fit.formed;
      ends_are = fit.ends_are;
    }) told
