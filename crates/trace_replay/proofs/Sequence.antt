-- Calls that are answered from the chunks of a turn are those of the turn, and those of the record that the text tells.
use Rattle.std.proofs.Common.{◌≡◌, ◌<◌, ◌≤◌, ◌∙◌, ℕ, Bool, List, [], ◌∷◌, length, inl, ap, sym, subst, arith, append-nil}
use Rattle.clock_infer.specs.declared.clock_map.ClockMap.{ClockMap}
use Rattle.frame_core.specs.declared.cell.Cell.{Cell}
use Rattle.frame_core.specs.Calls.{Call, puts_to, takes_of}
use Rattle.stream_meaning.specs.Instants.{Setting, answered}
use Rattle.stream_meaning.specs.Settings.{IsSetting}
use Rattle.run_records.specs.Outputs.{first_calls}
use Rattle.run_records.specs.Records.{AreWindows, Run, answers_of, start}
use Rattle.trace_turns.specs.declared.course.TurnMade.{TurnMade}
use Rattle.trace_records.specs.Clocks.{AreAnswered, AreInOrder, AreWhole, Log}
use Rattle.trace_turns.specs.Orders.{AreTurns}
use Rattle.trace_records.specs.Passes.{AreAt, HasCome, IsMadeBy, IsTold, got_then, nothing, ticks_in}
use Rattle.trace_records.proofs.Alike.{same_ticks}
use Rattle.trace_records.proofs.Fronts.{agree_all, answered_more}
use Rattle.trace_records.proofs.Passing.{chunks_agree}
use Rattle.trace_records.proofs.Recorded.{chunks_in, replayed}

-- Calls of a clock that are answered from the chunks of a turn are those of the turn.
module _ (base : Setting) (clocks : ClockMap) (is : IsSetting base clocks) (W N : ℕ) (text : ℕ → Log) (m n : ℕ) (chunks others : ℕ → List (List Cell)) (come : HasCome base W N text m n chunks others)
    (calls : List Call) (accepted : ℕ → ℕ → Bool) (are : IsMadeBy base m n accepted calls) (answered_so : AreAnswered base text chunks calls) (in_order : AreInOrder base calls) where
  same_upto : (t : ℕ) → t ≤ n → ticks_in base accepted calls m t ≡ ticks_in base come.accepted come.calls m t
  same_upto t low = same_ticks base clocks is text m chunks chunks (λ b known joins. agree_all (chunks b)) (got_then calls nothing) (got_then come.calls nothing) accepted come.accepted n n t low low
      (subst (AreAnswered base text chunks) (are nothing) answered_so) come.replayed.answered_so (subst (AreInOrder base) (are nothing) in_order) come.replayed.in_order

  pub same_come : calls ≡ come.calls
  same_come = are nothing ∙ same_upto n (omega arith) ∙ sym (come.are nothing)

  pub whole_come : AreWhole base text W N m n (λ t. ticks_in base accepted calls m t)
  whole_come = record {
    puts = λ j b low high known fed. ap (λ (l : List Call). length (puts_to b l)) (same_upto (start W N j) low) ∙ come.replayed.whole.puts j b low high known fed;
    takes = λ j b low high known read. ap (λ (l : List Call). length (takes_of b l)) (same_upto (start W N j) low) ∙ come.replayed.whole.takes j b low high known read;
  }

module _ (base : Setting) (clocks : ClockMap) (is : IsSetting base clocks) (W N : ℕ) (text : ℕ → Log) where
  -- calls of a clock that are answered from the chunks of all clocks are those of each record with this text
  pub calls_forced : (made : ℕ → ℕ) (chunks : ℕ → List (List Cell)) → AreAt base clocks.running W N text made chunks → (m n : ℕ) → m < clocks.running → n ≤ N
      → (calls : List Call) (accepted : ℕ → ℕ → Bool) → IsMadeBy base m n accepted calls → AreAnswered base text chunks calls → AreInOrder base calls
      → (run : Run) (lawful : AreWindows base clocks.running W N run) → IsTold base text run → calls ≡ first_calls (answered base (answers_of run)) (lawful.accepted m) m n
  calls_forced made chunks at m n low within calls accepted are answered_so in_order run lawful is_told =
      let rec = replayed base clocks is W N text run lawful is_told m low in
      are nothing ∙ same_ticks base clocks is text m chunks (chunks_in base clocks is W N text run lawful is_told)
      (λ b known joins. inl (chunks_agree base clocks is W N text made chunks at run lawful is_told b known)) (got_then calls nothing) (answers_of run) accepted (lawful.accepted m)
      n N n (omega arith) within (subst (AreAnswered base text chunks) (are nothing) answered_so) rec.answered_so (subst (AreInOrder base) (are nothing) in_order) rec.in_order

-- turns fit the chunks of the buffers that there are
pub turns_fit : (base : Setting) (clocks W N : ℕ) (text : ℕ → Log) (turns : List TurnMade) (made : ℕ → ℕ) (chunks others : ℕ → List (List Cell)) → ((b : ℕ) → b < length base.plan.buffers → others b ≡ chunks b)
    → AreTurns base clocks W N text turns made chunks → AreTurns base clocks W N text turns made others
turns_fit base clocks W N text [] made chunks others same are = are
turns_fit base clocks W N text (turn ∷ turns) made chunks others same are =
    let it = are.1 in
    let come = it.come in (
      are.0,
      record {
        runs = it.runs;
        on = it.on;
        come = record {
          calls = come.calls;
          accepted = come.accepted;
          within = come.within;
          are = come.are;
          replayed = record {
            answered_so = answered_more base text chunks others (ticks_in base come.accepted come.calls turn.clock turn.ticks) (λ b known joins. record { rest = []; are = same b known ∙ sym (append-nil (chunks b)) }) come.replayed.answered_so;
            in_order = come.replayed.in_order;
            whole = come.replayed.whole;
          };
          fed = come.fed;
          kept = λ b known other. come.kept b known other ∙ sym (same b known);
        };
      },
      are.2,
    )
