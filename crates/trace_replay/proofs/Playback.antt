-- A turn of the engine of a clock.
use Rattle.std.proofs.Common.{◌≡◌, ◌<◌, ◌≤◌, ◌∙◌, ℕ, Bool, true, false, List, length, slice_index_or, inl, inr, ap, sym, subst, arith}
use Rattle.std.specs.Prelude.{All}
use Rattle.std.proofs.lemmas.Bool.{cases_eq}
use Rattle.liq_base.specs.Pieces.{SinkTold}
use Rattle.frame_core.specs.Frames.{somes}
use Rattle.frame_core.specs.Calls.{Call, puts_to}
use Rattle.run_records.specs.Buffers.{feeder, reader}
use Rattle.run_records.specs.Owning.{IsOwn}
use Rattle.clock_ticks.specs.declared.engine.ClockEngine.{ClockEngine}
use Rattle.trace_turns.specs.declared.station.Sides.{Sides}
use Rattle.trace_turns.specs.declared.told.Mark.{Mark}
use Rattle.trace_turns.specs.Answering.{BufferState, SameBuffers, StandsFor}
use Rattle.trace_records.specs.Clocks.{AreAnswered, AreInOrder, AreWhole}
use Rattle.trace_turns.specs.Marks.{AreWithin, HaveLetGo, HaveMarked, HaveResumed, mark_of, no_mark}
use Rattle.trace_records.specs.Passes.{HasCome, got_then, nothing, ticks_in}
use Rattle.trace_replay.specs.Replaying.{HasPlayed, IsReplaying, MayPlay, MayReplay, Tale, score_over, progress}
use Rattle.trace_turns.specs.Turns.{chunks_of, no_state}
use Rattle.trace_turns.proofs.Resuming.{marks_within, of_resumed, stands_paused}
use Rattle.trace_replay.proofs.Sequence.{calls_forced, same_come, whole_come}
use Rattle.trace_turns.proofs.Thinning.{fills_resumed, full_let_go, full_resumed, have_resumed, long_resumed, unlost_resumed}
use Rattle.trace_turns.proofs.Turned.{answered_by, come_to, order_by, own_made}

module _ {S : Type 0} {told : S → SinkTold} {tale : Tale} {sides : Sides} {m made n : ℕ} {first old : ClockEngine S} {marks : List Mark} {states : List BufferState}
    (may : MayPlay told tale sides m made n (progress first old marks) states) where
  abbrev B : ℕ
  B = length tale.base.plan.buffers

  long : length states ≡ B
  long = sym may.fills.many ∙ may.tell.many

  -- the marks are as many as the buffers then
  pub marks_fit : (opens after : List BufferState) → length opens ≡ length states → SameBuffers opens after → length marks ≡ length after
  marks_fit opens after many same = may.rests.many ∙ sym many ∙ sym same.many

  -- what the resuming of the buffers asks
  pub feeders_long : length sides.feeders.items ≡ length states
  feeders_long = may.ends.feeders_many ∙ sym long

  pub readers_long : length sides.readers.items ≡ length states
  readers_long = may.ends.readers_many ∙ sym long

  pub marks_low : AreWithin states marks
  marks_low b d e low =
      let fill = may.fills.each b d low in
      let all = marks_within tale.base tale.text sides.feeders.items sides.readers.items may.ends tale.window tale.ticks m made old.parts marks may.full may.rests.paused b d e (let many = may.fills.many in omega (arith, low, many)) in
      let size = fill.many in
      let got = all.got in
      record {
        puts = subst (λ (l : List Bool). (slice_index_or marks b e).put_at ≤ length l) (ap (λ (s : BufferState). s.puts) fill.same) all.puts;
        takes = subst (λ (l : List Bool). (slice_index_or marks b e).take_at ≤ length l) (ap (λ (s : BufferState). s.takes) fill.same) all.takes;
        got = omega (arith, got, size);
      }

  module _ {c : ℕ} (clock_is : c ≡ m) {f r : List ℕ} (feeders_are : f ≡ sides.feeders.items) (readers_are : r ≡ sides.readers.items) {k : List Mark} (marks_are : k ≡ marks) (opens : List BufferState) (many : length opens ≡ length states) (are : HaveResumed f r c k states opens) where
    resumed_is : HaveResumed sides.feeders.items sides.readers.items m marks states opens
    resumed_is = subst (λ (l : List Mark). HaveResumed sides.feeders.items sides.readers.items m l states opens) marks_are (subst (λ (l : List ℕ). HaveResumed sides.feeders.items l m k states opens) readers_are
        (subst (λ (l : List ℕ). HaveResumed l r m k states opens) feeders_are (subst (λ (j : ℕ). HaveResumed f r j k states opens) clock_is are)))

    abbrev full_open : List BufferState
    full_open = full_resumed sides.feeders.items sides.readers.items m marks states opens may.full many resumed_is may.fills

    full_are : HaveResumed sides.feeders.items sides.readers.items m marks may.full full_open
    full_are = have_resumed sides.feeders.items sides.readers.items m marks states opens may.full many resumed_is may.fills

    full_long : length full_open ≡ length may.full
    full_long = long_resumed sides.feeders.items sides.readers.items m marks states opens may.full many resumed_is may.fills

    -- the run goes on
    pub goes_on : IsReplaying told (score_over tale may.full) tale.ticks m made first old opens
    goes_on = record {
      calls = may.rests.paused.calls;
      accepted = may.rests.paused.accepted;
      over = may.rests.paused.over;
      clock = may.rests.paused.clock;
      are = may.rests.paused.are;
      engine = may.rests.paused.engine;
      full = full_open;
      fills = fills_resumed sides.feeders.items sides.readers.items m marks states opens may.full many resumed_is may.fills;
      unlost = unlost_resumed sides.feeders.items sides.readers.items m marks states opens may.full many resumed_is may.fills may.rests.unlost;
      stand = λ b d low. (let within : b < length may.full = (let size = full_long in omega (arith, low, size)) in
          subst (λ (s : BufferState). StandsFor s b may.rests.paused.calls) (sym (full_are b d no_mark within)) (may.rests.paused.stand b d no_mark within));
      of = of_resumed tale.base tale.text sides.feeders.items sides.readers.items may.ends m marks may.full full_open may.tell full_long full_are;
      run = may.rests.run;
      rooms = may.rests.rooms;
    }

    pub may_replay : MayReplay told (score_over tale may.full) tale.ticks m made n first old opens
    may_replay = record {
      is = may.is;
      before = goes_on;
      on = may.on;
      within = may.come.within;
      window = tale.window;
      given = got_then may.come.calls nothing;
      taken = may.come.accepted;
      whole = may.come.replayed;
    }

    -- all ticks of the turn were made, and the engine rests again
    module _ {new : ClockEngine S} {after : List BufferState} (same : SameBuffers opens after) (run : IsReplaying told (score_over tale may.full) tale.ticks m n first new after)
        (marks_new : List Mark) (marks_many : length marks_new ≡ length marks) (marked : HaveMarked after marks_new) (left : List BufferState) (left_many : length left ≡ length after) (go : HaveLetGo after left) where
      own : All (IsOwn tale.base m) run.calls
      own = own_made tale.base tale.clocks may.is m n run.accepted run.calls run.are

      answered_now : AreAnswered tale.base tale.text (chunks_of may.full) run.calls
      answered_now = answered_by tale.base tale.text m (chunks_of may.full) run.full run.of run.calls run.stand own no_state

      order_now : AreInOrder tale.base run.calls
      order_now = order_by tale.base tale.text m (chunks_of may.full) run.full run.of run.calls run.stand own no_state

      whole_now : AreWhole tale.base tale.text tale.window tale.ticks m n (λ t. ticks_in tale.base run.accepted run.calls m t)
      whole_now = whole_come tale.base tale.clocks may.is tale.window tale.ticks tale.text m n (chunks_of may.full) may.next may.come run.calls run.accepted run.are answered_now order_now

      come_now : HasCome tale.base tale.window tale.ticks tale.text m n (chunks_of may.full) (chunks_of run.full)
      come_now = come_to tale.base tale.clocks may.is tale.text tale.window tale.ticks m n may.come.within (chunks_of may.full) run.full run.of run.calls run.accepted run.are run.stand whole_now

      calls_same : run.calls ≡ may.come.calls
      calls_same = same_come tale.base tale.clocks may.is tale.window tale.ticks tale.text m n (chunks_of may.full) may.next may.come run.calls run.accepted run.are answered_now order_now

      chunks_same : (b : ℕ) → b < B → chunks_of run.full b ≡ may.next b
      chunks_same b known = elim (cases_eq (feeder tale.base b) m) [
        | inl fed ↦ come_now.fed b known fed ∙ ap (λ (l : List Call). somes (puts_to b l)) (come_calls ∙ calls_same) ∙ sym (may.come.fed b known fed)
        | inr other ↦ come_now.kept b known other ∙ sym (may.come.kept b known other)
      ]
        where
          come_calls : come_now.calls ≡ run.calls
          come_calls = sym (same_come tale.base tale.clocks may.is tale.window tale.ticks tale.text m n (chunks_of may.full) (chunks_of run.full) come_now run.calls run.accepted run.are answered_now order_now)

      full_marked : HaveMarked run.full marks_new
      full_marked b d e low =
          let within : b < length after = (let size = run.fills.many in omega (arith, low, size)) in
          marked b d e within ∙ sym (ap mark_of (run.fills.each b d within).same)

      after_long : length after ≡ length states
      after_long = same.many ∙ many

      known_of : (b : ℕ) → b < length left → b < B
      known_of b low = (let one = left_many in let two = after_long in let three = long in omega (arith, low, one, two, three))

      reader_is : (b j : ℕ) → b < B → slice_index_or sides.readers.items b 0 ≡ j → reader tale.base b ≡ j
      reader_is b j known e = sym (may.ends.read b known) ∙ e

      pub has_played : HasPlayed told tale sides m n (progress first new marks_new) may.full states left may.next
      has_played = record {
        full = run.full;
        fills = full_let_go after left run.full left_many go run.fills;
        tell = record { many = run.of.many; puts = run.of.puts; takes = run.of.takes; capacity = run.of.capacity };
        come = come_now;
        same = chunks_same;
        rests = record {
          paused = record {
            calls = run.calls;
            accepted = run.accepted;
            over = run.over;
            clock = run.clock;
            are = run.are;
            engine = run.engine;
            whole = whole_now;
            stand = stands_paused tale.base tale.text sides.feeders.items sides.readers.items may.ends tale.clocks may.is m n (chunks_of may.full) run.calls run.accepted run.are marks_new run.full run.of run.stand full_marked;
          };
          forced = λ record_run lawful is_told. calls_forced tale.base tale.clocks may.is tale.window tale.ticks tale.text may.ticks (chunks_of may.full) may.at m n may.runs may.come.within run.calls run.accepted run.are answered_now order_now record_run lawful is_told;
          run = run.run;
          rooms = run.rooms;
          unlost = λ b d e low read.
              let within : b < length after = (let size = left_many in omega (arith, low, size)) in
              let known = known_of b low in
              let reads : (slice_index_or after b d).read ≡ true = sym (ap (λ (s : BufferState). s.read) (run.fills.each b d within).same) ∙ run.of.read b d known (reader_is b m known read) in
              let few = (go b d within).low (run.unlost b d within reads) in
              let got = ap (λ (x : Mark). x.got) (marked b d e within) in
              omega (arith, few, got);
          many = marks_many ∙ may.rests.many ∙ sym (left_many ∙ after_long);
        };
        unlost = λ j other_marks other unlost b d e low read.
            let within : b < length after = (let size = left_many in omega (arith, low, size)) in
            let at_open : b < length opens = (let size = same.many in omega (arith, within, size)) in
            let at_first : b < length states = (let size = many in omega (arith, at_open, size)) in
            let known = known_of b low in
            let unread : (slice_index_or after b d).read ≡ false =
            sym (ap (λ (s : BufferState). s.read) (run.fills.each b d within).same) ∙ run.of.not_read b d known (λ own_reader. other (sym (reader_is b j known read) ∙ own_reader)) in
            let gone : (slice_index_or left b d).gone ≡ (slice_index_or states b d).gone =
            (go b d within).unread unread ∙ (same.each b d at_open).gone ∙ ap (λ (s : BufferState). s.gone) (resumed_is b d no_mark at_first) in
            let few = unlost b d e at_first read in
            omega (arith, few, gone);
      }
