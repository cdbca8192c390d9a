-- A turn of a clock whose engine goes on, over buffers that let chunks go.
use Rattle.std.proofs.Common.{◌≡◌, ◌≢◌, ◌<◌, ◌≤◌, ◌∙◌, ℕ, true, false, nat_eq, List, length, slice_index_or, refl, ap, sym, subst, arith}
use Rattle.std.proofs.lemmas.Bool.Decides.{nat_tests}
use Rattle.clock_infer.specs.declared.clock_map.ClockMap.{ClockMap}
use Rattle.stream_meaning.specs.Instants.{Setting}
use Rattle.stream_meaning.specs.Settings.{IsSetting}
use Rattle.clock_ticks.specs.declared.engine.EngineParts.{EngineParts}
use Rattle.trace_turns.specs.declared.ends.Ends.{Ends}
use Rattle.trace_turns.specs.declared.told.Mark.{Mark}
use Rattle.trace_records.specs.Clocks.{Log}
use Rattle.trace_turns.specs.Answering.{BufferState, SameBuffers}
use Rattle.trace_turns.specs.Live.{HasFlown, HasFlownOn, IsPaused, MayFlow, mains}
use Rattle.trace_turns.specs.Marks.{AreWithin, HaveLetGo, HaveMarked, HaveResumed, mark_of, no_mark}
use Rattle.trace_turns.specs.Thin.{AreFull, AreUnlost}
use Rattle.trace_turns.specs.Turns.{AreFit, AreSides, AreTold, RunsAt, Score, chunks_of}
use Rattle.trace_turns.proofs.Resuming.{fit_after, may_go, pauses}
use Rattle.trace_turns.proofs.Thinning.{fills_resumed, full_let_go, full_resumed, have_resumed, long_resumed, unlost_resumed}
use Rattle.trace_turns.proofs.Turned.{come_to}
use Rattle.trace_turns.specs.Timed.{timed}

-- buffers with all their chunks tell the same
pub told_full : (base : Setting) (text : ℕ → Log) (states full : List BufferState) → AreFull states full → AreTold base text states → AreTold base text full
told_full base text states full fills told = record {
  many = fills.many ∙ told.many;
  puts = λ b d known. ap (λ (s : BufferState). s.puts) (fills.each b d (low b known)).same ∙ told.puts b d known;
  takes = λ b d known. ap (λ (s : BufferState). s.takes) (fills.each b d (low b known)).same ∙ told.takes b d known;
  capacity = λ b d known. ap (λ (s : BufferState). s.capacity) (fills.each b d (low b known)).same ∙ told.capacity b d known;
}
  where
    low : (b : ℕ) → b < length base.plan.buffers → b < length states
    low b known = (let many = told.many in omega (arith, known, many))

pub fit_full : (base : Setting) (W N : ℕ) (text : ℕ → Log) (ends : List Ends) (states full : List BufferState) → AreFull states full → AreFit base W N text states ends → AreFit base W N text full ends
fit_full base W N text ends states full fills fit = record { told = told_full base text states full fills fit.told; formed = fit.formed; ends_are = fit.ends_are }

-- and so do those that let chunks go
pub fit_gone : (base : Setting) (W N : ℕ) (text : ℕ → Log) (ends : List Ends) (old new : List BufferState) → length new ≡ length old → HaveLetGo old new → AreFit base W N text old ends → AreFit base W N text new ends
fit_gone base W N text ends old new many go fit = record {
  told = record {
    many = many ∙ fit.told.many;
    puts = λ b d known. ap (λ (s : BufferState). s.puts) (go b d (low b known)).same ∙ fit.told.puts b d known;
    takes = λ b d known. ap (λ (s : BufferState). s.takes) (go b d (low b known)).same ∙ fit.told.takes b d known;
    capacity = λ b d known. ap (λ (s : BufferState). s.capacity) (go b d (low b known)).same ∙ fit.told.capacity b d known;
  };
  formed = fit.formed;
  ends_are = fit.ends_are;
}
  where
    low : (b : ℕ) → b < length base.plan.buffers → b < length old
    low b known = (let size = fit.told.many in omega (arith, known, size))

-- marks within them are within those that let chunks go
pub within_thin : (states full : List BufferState) (marks : List Mark) → AreFull states full → AreWithin full marks → AreWithin states marks
within_thin states full marks fills within b d e low =
    let fill = fills.each b d low in
    let w = within b d e (let many = fills.many in omega (arith, low, many)) in
    let got = w.got in
    let many = fill.many in
    record {
      puts = subst (λ (s : BufferState). (slice_index_or marks b e).put_at ≤ length s.puts) fill.same w.puts;
      takes = subst (λ (s : BufferState). (slice_index_or marks b e).take_at ≤ length s.takes) fill.same w.takes;
      got = omega (arith, got, many);
    }

-- the marks of buffers are those of the same with all their chunks
pub marked_full : (states full : List BufferState) (marks : List Mark) → AreFull states full → HaveMarked states marks → HaveMarked full marks
marked_full states full marks fills marked b d e within =
    let low : b < length states = (let many = fills.many in omega (arith, within, many)) in
    marked b d e low ∙ sym (ap (λ (s : BufferState). mark_of s) (fills.each b d low).same)

module _ (W N m c : ℕ) (clock_is : c ≡ m) (feeders readers f r : List ℕ) (feeders_are : f ≡ feeders) (readers_are : r ≡ readers) (marks k : List Mark) (marks_are : k ≡ marks) (ends : List Ends) (old new : List BufferState)
    (many : length new ≡ length old) (are : HaveResumed f r c k old new) (long : length ends ≡ length old) where
  abbrev pub are_resumed : HaveResumed feeders readers m marks old new
  are_resumed = subst (λ (l : List Mark). HaveResumed feeders readers m l old new) marks_are (subst (λ (l : List ℕ). HaveResumed feeders l m k old new) readers_are
      (subst (λ (l : List ℕ). HaveResumed l r m k old new) feeders_are (subst (λ (j : ℕ). HaveResumed f r j k old new) clock_is are)))

  -- the buffers tell the same text
  pub fit_behind : (base : Setting) (text : ℕ → Log) (after gone : List BufferState) → SameBuffers new after → length gone ≡ length after → HaveLetGo after gone → AreFit base W N text old ends → AreFit base W N text gone ends
  fit_behind base text after gone same size go fit =
      fit_gone base W N text ends after gone size go
      (fit_after W N m c clock_is feeders readers f r feeders_are readers_are marks k marks_are ends old new many are long base text after same fit)

  -- what other clocks are to get is there
  pub stays_unlost : (after gone : List BufferState) → SameBuffers new after → length gone ≡ length after → HaveLetGo after gone → (j : ℕ) (others : List Mark) → j ≢ m → AreUnlost readers j others old → AreUnlost readers j others gone
  stays_unlost after gone same size go j others other unlost b d e low reads =
      let one : b < length after = omega (arith, low, size) in
      let two : b < length new = (let s = same.many in omega (arith, one, s)) in
      let three : b < length old = omega (arith, two, many) in
      let now = are_resumed b d no_mark three in
      let x = same.each b d two in
      let g = go b d one in
      let off : nat_eq (slice_index_or readers b 0) m ≡ false = (let n : slice_index_or readers b 0 ≢ m = (λ h. other (sym reads ∙ h)) in grind (arith, nat_tests, n)) in
      let unread : (slice_index_or after b d).read ≡ false = x.read ∙ ap (λ (s : BufferState). s.read) now ∙ off in
      let kept = g.unread unread in
      let before = x.gone in
      let first = ap (λ (s : BufferState). s.gone) now in
      let few = unlost b d e three reads in
      omega (arith, kept, before, first, few)

  module _ (full : List BufferState) (fills : AreFull old full) where
    abbrev pub opening : List BufferState
    opening = full_resumed feeders readers m marks old new full many are_resumed fills

    long_full : length ends ≡ length full
    long_full = long ∙ sym fills.many

    opening_long : length opening ≡ length full
    opening_long = long_resumed feeders readers m marks old new full many are_resumed fills

    opening_resumed : HaveResumed feeders readers m marks full opening
    opening_resumed = have_resumed feeders readers m marks old new full many are_resumed fills

    module _ (base : Setting) (clocks : ClockMap) (is : IsSetting base clocks) (text : ℕ → Log) (sides : AreSides base feeders readers) (fit : AreFit base W N text old ends) where
      abbrev pub score_full : Score
      score_full = record { base = base; clocks = clocks; text = text; chunks = chunks_of full }

      pub may_flow : (n : ℕ) (parts : EngineParts) → AreUnlost readers m marks old → IsPaused base (timed text W N) (mains feeders readers) m n parts marks full → MayFlow score_full W N m n parts new ends
      may_flow n parts unlost paused = record {
        full = opening;
        fills = fills_resumed feeders readers m marks old new full many are_resumed fills;
        unlost = unlost_resumed feeders readers m marks old new full many are_resumed fills unlost;
        may = may_go W N m m refl feeders readers feeders readers refl refl marks marks refl ends full opening opening_long opening_resumed long_full base clocks is text sides (fit_full base W N text ends old full fills fit) n parts paused;
      }

      -- where it stops
      pub has_flown : (from n : ℕ) → n ≤ N → (before parts : EngineParts) (marks_now : List Mark) (after gone : List BufferState) → AreUnlost readers m marks old → IsPaused base (timed text W N) (mains feeders readers) m from before marks full
          → ((score : Score) → MayFlow score W N m from before new ends → HasFlown score.base (timed score.text W N) m n score.chunks parts after) → HaveMarked after marks_now → length gone ≡ length after → HaveLetGo after gone
          → HasFlownOn base (timed text W N) (mains feeders readers) m n parts marks_now full gone
      has_flown from n low before parts marks_now after gone unlost paused flows marked size go =
          let flown = flows score_full (may_flow from before unlost paused) in
          let run : RunsAt base text W N m n (chunks_of full) parts flown.full = flown.run in
          record {
            full = flown.full;
            fills = full_let_go after gone flown.full size go flown.fills;
            gone = record {
              come = come_to base clocks is text W N m n low (chunks_of full) flown.full run.of run.calls run.accepted run.are run.stand run.whole;
              paused = pauses base text feeders readers sides clocks is W N m n (chunks_of full) parts marks_now flown.full run (marked_full after flown.full marks_now flown.fills marked);
            };
            unlost = λ b d e within reads.
                let one : b < length after = omega (arith, within, size) in
                let fill = flown.fills.each b d one in
                let known : b < length base.plan.buffers = (let most = run.of.many in let less = flown.fills.many in omega (arith, one, most, less)) in
                let read : (slice_index_or after b d).read ≡ true = sym (ap (λ (s : BufferState). s.read) fill.same) ∙ run.of.read b d known (sym (sides.read b known) ∙ reads) in
                let few = (go b d one).low (flown.unlost b d one read) in
                let here = ap (λ (k : Mark). k.got) (marked b d e one) in
                omega (arith, few, here);
          }
