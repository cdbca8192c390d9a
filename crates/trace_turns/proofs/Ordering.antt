-- Turns of clocks, one after another.
use Rattle.std.proofs.Common.{◌≡◌, ◌<◌, ◌∙◌, ◌++◌, ℕ, List, [], ◌∷◌, length, ap, sym, subst, append_assoc, append-nil}
use Rattle.std.specs.Prelude.{slice_set}
use mathlib.Core.Path.{fun_ext}
use Rattle.clock_infer.specs.declared.clock_map.ClockMap.{ClockMap}
use Rattle.frame_core.specs.declared.cell.Cell.{Cell}
use Rattle.stream_meaning.specs.Instants.{Setting}
use Rattle.stream_meaning.specs.Settings.{IsSetting}
use Rattle.trace_turns.specs.declared.course.TurnMade.{TurnMade}
use Rattle.trace_records.specs.Clocks.{Log}
use Rattle.trace_turns.proofs.Searching.{HaveFound, made_of, LeadTo}
use Rattle.trace_turns.specs.Orders.{AreTurns, IsTurn, made_then, no_chunks, no_ticks}
use Rattle.trace_records.specs.Passes.{AreAt, IsFormed}
use Rattle.trace_records.proofs.Completing.{begun as begun_clocks}
use Rattle.trace_turns.proofs.Finding.{made_now}
use Rattle.trace_records.proofs.Turning.{turned}
use Rattle.trace_turns.specs.Timed.{timed}

module _ (base : Setting) (clocks : ClockMap) (is : IsSetting base clocks) (W N : ℕ) (text : ℕ → Log) where
  abbrev Turns : List TurnMade → (ℕ → ℕ) → (ℕ → List (List Cell)) → Type 0
  Turns turns made chunks = AreTurns base clocks.running W N text turns made chunks

  abbrev Led : List TurnMade → (ℕ → ℕ) → (ℕ → List (List Cell)) → Type 0
  Led turns made chunks = LeadTo base clocks.running W N text turns made chunks

  -- the chunks to which turns lead
  turns_from : (turns : List TurnMade) (made : ℕ → ℕ) (chunks : ℕ → List (List Cell)) → Turns turns made chunks → AreAt base clocks.running W N text made chunks → (last : ℕ → List (List Cell)) × HaveFound base clocks W N text last
  turns_from [] made chunks all at = (chunks, record { made = made; all = all; at = at })
  turns_from (turn ∷ turns) made chunks all at =
      turns_from turns (made_then turn made) all.0 all.2 (turned base clocks is W N text made chunks at turn.clock all.1.runs turn.ticks all.1.on all.0 all.1.come)

  pub turns_found : IsFormed (length base.plan.buffers) W N text → (turns : List TurnMade) → Turns turns no_ticks no_chunks → (last : ℕ → List (List Cell)) × HaveFound base clocks W N text last
  turns_found formed turns all = turns_from turns no_ticks no_chunks all (begun_clocks base clocks is W N text formed)

  -- no turn
  pub led_none : (turns : List TurnMade) (made : List ℕ) (chunks : ℕ → List (List Cell)) → turns ≡ [] → ((k : ℕ) → made_of made k ≡ 0) → ((b : ℕ) → chunks b ≡ []) → Led turns (made_of made) chunks
  led_none turns made chunks none no_made no_chunk rest all = subst (λ (l : List TurnMade). Turns (l ++ rest) no_ticks no_chunks) (sym none)
      (subst (λ (f : ℕ → ℕ). Turns rest f no_chunks) (fun_ext no_made) (subst (Turns rest (made_of made)) (fun_ext no_chunk) all))

  -- a turn more
  pub led_more : (turns more : List TurnMade) (made : List ℕ) (chunks next : ℕ → List (List Cell)) (turn : TurnMade) → more ≡ turns ++ turn ∷ [] → turn.clock < length made → Led turns (made_of made) chunks
      → IsTurn base clocks.running (timed text W N) turn (made_of made) chunks next → Led more (made_of (slice_set made turn.clock turn.ticks)) next
  led_more turns more made chunks next turn are low led here rest all = subst (λ (l : List TurnMade). Turns l no_ticks no_chunks) (sym (append_assoc turns (turn ∷ []) rest) ∙ ap (λ (l : List TurnMade). l ++ rest) (sym are))
      (led (turn ∷ rest) (next, here, subst (λ (f : ℕ → ℕ). Turns rest f next) (sym (fun_ext (made_now made turn.clock turn.ticks low))) all))

  -- all turns
  pub led_all : (turns : List TurnMade) (made : List ℕ) (chunks : ℕ → List (List Cell)) → Led turns (made_of made) chunks → ((k : ℕ) → k < clocks.running → made_of made k ≡ N) → Turns turns no_ticks no_chunks
  led_all turns made chunks led all = subst (λ (l : List TurnMade). Turns l no_ticks no_chunks) (append-nil turns) (led [] all)
