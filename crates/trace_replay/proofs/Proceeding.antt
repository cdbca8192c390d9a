-- The engines of all clocks, turn after turn.
use Rattle.std.proofs.Common.{◌≡◌, ◌<◌, ◌≤◌, ◌+◌, ◌∙◌, ◌++◌, ℕ, zero, suc, true, Some, List, [], ◌∷◌, drop, get_or, length, slice_get, slice_index_or, nat_eq, inl, inr, refl, ap, sym, subst, arith}
use mathlib.Core.Path.{fun_ext}
use Rattle.std.proofs.lemmas.List.{get_or_default}
use Rattle.std.proofs.lemmas.Option.{slice_get_within, slice_get-get_or as read}
use Rattle.liq_base.specs.Pieces.{SinkTold}
use Rattle.clock_infer.proofs.Exact.{some_inj}
use Rattle.clock_outputs.proofs.Places.{same_or_other}
use Rattle.frame_core.specs.declared.cell.Cell.{Cell}
use Rattle.frame_core.specs.Calls.{Call}
use Rattle.stream_meaning.specs.Settings.{IsSetting}
use Rattle.run_records.specs.Records.{AreWindows, Run, setting_in}
use Rattle.clock_ticks.specs.declared.engine.ClockEngine.{ClockEngine}
use Rattle.clock_ticks.specs.Engines.{setting_of}
use Rattle.clock_ticks.specs.Ticks.{HaveTicksRoom}
use Rattle.rounds_run.specs.Rounds.{AreEngines, HasRunPart, MayRun}
use Rattle.rounds_run.specs.Runs.{HasRunTicks, HaveRunTicks}
use Rattle.rounds_run.proofs.Going.{run_none}
use Rattle.trace_turns.specs.declared.course.TurnMade.{TurnMade}
use Rattle.trace_replay.specs.declared.engines.Rest.{Rest}
use Rattle.trace_turns.specs.declared.station.Sides.{Sides}
use Rattle.trace_turns.specs.declared.told.Mark.{Mark}
use Rattle.trace_turns.specs.Answering.{BufferState, StandsFor}
use Rattle.trace_records.specs.Clocks.{AreAnswered, AreInOrder, IsFront}
use Rattle.trace_turns.specs.Marks.{resumed}
use Rattle.trace_turns.specs.Orders.{AreTurns, IsTurn, made_then, no_chunks, no_ticks}
use Rattle.trace_records.specs.Passes.{AreAt, HasCome, IsFormed, IsTold, got_then, nothing}
use Rattle.trace_replay.specs.Replaying.{AreNewRests, ArePlaying, HasPlayed, IsBrokenOff, IsNewRest, IsResting, MayPlay, Tale, score_over, progress}
use Rattle.trace_turns.specs.Thin.{AreKept}
use Rattle.trace_turns.specs.Turns.{AreSides, AreTold, chunks_of, no_state}
use Rattle.trace_records.proofs.Completing.{begun}
use Rattle.trace_records.proofs.Fronts.{front_front}
use Rattle.trace_replay.proofs.Lasting.{IsChanged, put_here, put_other}
use Rattle.trace_turns.proofs.Playing.{whole_none}
use Rattle.trace_replay.proofs.Recalling.{part_matches, record_calls, record_front, ticks_match, ticks_part}
use Rattle.trace_turns.proofs.Resuming.{stands_empty, stands_on}
use Rattle.trace_replay.proofs.Sequence.{calls_forced, turns_fit}
use Rattle.trace_turns.proofs.Thinning.{full_kept}
use Rattle.trace_records.proofs.Turning.{chunks_stay, turned}
use Rattle.trace_turns.specs.Timed.{timed}

pub there : {A : Type 0} (xs : List A) (i : ℕ) → i < length xs → (x : A) × (slice_get xs i ≡ Some x)
there [] i low = absurd (omega (arith, low))
there (x ∷ xs) zero low = (x, refl)
there (x ∷ xs) (suc i) low = there xs i (omega (arith, low))

pub drop_here : {A : Type 0} (xs : List A) (i : ℕ) (x : A) → slice_get xs i ≡ Some x → drop i xs ≡ x ∷ drop (suc i) xs
drop_here [] i x e = absurd cc
drop_here (y ∷ xs) zero x e = (let same : y ≡ x = some_inj e in ap (λ z. z ∷ xs) same)
drop_here (y ∷ xs) (suc i) x e = drop_here xs i x e

-- before the first turn
module _ {S : Type 0} (told : S → SinkTold) (tale : Tale) (is : IsSetting tale.base tale.clocks) (sides : Sides) where
  module _ (formed : IsFormed (length tale.base.plan.buffers) tale.window tale.ticks tale.text) (states : List BufferState) (tell : AreTold tale.base tale.text states) (empty : (b : ℕ) → chunks_of states b ≡ []) (kept : AreKept states) where
    rests_first : (k : ℕ) (engine : ClockEngine S) (rest : Rest) → MayRun told tale.ticks engine → setting_of engine.parts ≡ tale.base → engine.parts.clock ≡ k → IsNewRest (length states) rest → IsResting told tale sides k 0 (progress engine engine rest.marks.items) states states
    rests_first k engine rest may over number new = record {
      paused = record {
        calls = [];
        accepted = λ t b. true;
        over = over;
        clock = number;
        are = λ rest. refl;
        engine = may.fresh;
        whole = whole_none tale.base tale.text tale.window tale.ticks k formed;
        stand = λ b d e low. subst (λ (mark : Mark). StandsFor (resumed (slice_index_or states b d) (nat_eq (slice_index_or sides.feeders.items b 0) k) (nat_eq (slice_index_or sides.readers.items b 0) k) mark) b []) (sym (new.none b e low))
            (stands_empty (slice_index_or states b d) (nat_eq (slice_index_or sides.feeders.items b 0) k) (nat_eq (slice_index_or sides.readers.items b 0) k) b (ap (λ (s : BufferState). s.chunks) (get_or_default states b d no_state low) ∙ empty b));
      };
      forced = λ run lawful is_told. refl;
      run = run_none told tale.ticks engine may;
      rooms = λ left e. subst (HaveTicksRoom told engine.parts engine.outs) (sym e ∙ (let z : 0 + left ≡ left = omega arith in z)) may.rooms;
      unlost = λ b d e low read. (let none = kept b d low in omega (arith, none));
      many = new.many;
    }

    pub begin_playing : (engines : List (ClockEngine S)) (rests : List Rest) (turns : List TurnMade) → AreEngines told tale.ticks tale.base engines → AreNewRests (length engines) (length states) rests
        → AreTurns tale.base tale.clocks.running tale.window tale.ticks tale.text turns no_ticks no_chunks → ArePlaying told tale sides turns engines engines rests states
    begin_playing engines rests turns are new left = record {
      full = states;
      fills = full_kept states kept;
      tell = tell;
      made = no_ticks;
      few = λ k. omega arith;
      at = subst (AreAt tale.base tale.clocks.running tale.window tale.ticks tale.text no_ticks) (fun_ext (λ b. sym (empty b))) (begun tale.base tale.clocks is tale.window tale.ticks tale.text formed);
      left = turns_fit tale.base tale.clocks.running tale.window tale.ticks tale.text turns no_ticks no_chunks (chunks_of states) (λ b known. empty b) left;
      size = refl;
      long = new.size;
      counts = λ k rest at. (new.each k rest at).made;
      each = λ k before after rest was is_now at. subst (λ (x : ClockEngine S). IsResting told tale sides k 0 (progress before x rest.marks.items) states states) (some_inj (sym was ∙ is_now))
          (rests_first k before rest (are.each k before was) (are.over k before was) (are.in_order k before was) (new.each k rest at));
    }

-- the next turn of a list
pub at_hand : {S : Type 0} {told : S → SinkTold} {tale : Tale} {sides : Sides} (all : List TurnMade) {first now : List (ClockEngine S)} {rests : List Rest} {states : List BufferState} (i : ℕ) {turn : TurnMade} → i < length all → turn ≡ get_or all i turn
    → ArePlaying told tale sides (drop i all) first now rests states → ArePlaying told tale sides (turn ∷ drop (suc i) all) first now rests states
at_hand {S} {told} {tale} {sides} all {first} {now} {rests} {states} i {turn} low here playing =
    subst (λ (l : List TurnMade). ArePlaying told tale sides l first now rests states) (drop_here all i turn (read all i turn low ∙ ap (λ (t : TurnMade). Some t) (sym here))) playing

-- the engines beside the record that is told
module _ {S : Type 0} {told : S → SinkTold} {tale : Tale} {sides : Sides} {turns : List TurnMade} {first now : List (ClockEngine S)} {rests : List Rest} {states : List BufferState}
    (playing : ArePlaying told tale sides turns first now rests states) (is : IsSetting tale.base tale.clocks) (are : AreEngines told tale.ticks tale.base first) (all : length first ≡ tale.clocks.running) where
  module _ (run : Run) (lawful : AreWindows tale.base tale.clocks.running tale.window tale.ticks run) (told_is : IsTold tale.base tale.text run) where
    module _ (k : ℕ) {before after : ClockEngine S} (was : slice_get first k ≡ Some before) (is_now : slice_get now k ≡ Some after) where
      low : k < tale.clocks.running
      low = let within = slice_get_within first k before was in omega (arith, within, all)

      rest_at : (rest : Rest) × (slice_get rests k ≡ Some rest)
      rest_at = let within = slice_get_within first k before was in let long = playing.long in there rests k (omega (arith, within, long))

      resting : IsResting told tale sides k (playing.made k) (progress before after rest_at.0.marks.items) playing.full states
      resting = playing.each k before after rest_at.0 was is_now rest_at.1

      front : IsFront resting.paused.calls (record_calls tale.base tale.clocks is tale.text tale.window tale.ticks run lawful told_is k low tale.ticks)
      front = subst (λ (l : List Call). IsFront l (record_calls tale.base tale.clocks is tale.text tale.window tale.ticks run lawful told_is k low tale.ticks)) (sym (resting.forced run lawful told_is))
          (record_front tale.base tale.clocks is tale.text tale.window tale.ticks run lawful told_is k low (playing.made k) (playing.few k))

      pub part_now : HasRunPart told (λ rest. setting_in tale.base run) (playing.made k) (playing.made k) before after
      part_now = ticks_part tale.base tale.clocks is tale.text tale.window tale.ticks run lawful told_is k low resting.paused.calls front told before after (are.over k before was) (playing.made k) resting.run

      ticks_now : playing.made k ≡ tale.ticks → HasRunTicks told (setting_in tale.base run) tale.ticks before after
      ticks_now e = subst (λ (n : ℕ). HasRunTicks told (setting_in tale.base run) n before after) e
          (ticks_match tale.base tale.clocks is tale.text tale.window tale.ticks run lawful told_is k low resting.paused.calls front told before after (are.over k before was) (playing.made k) resting.run)

    -- where no turn is left
    pub all_played : ((k : ℕ) → k < tale.clocks.running → playing.made k ≡ tale.ticks) → HaveRunTicks told (setting_in tale.base run) tale.ticks first now
    all_played full = record {
      size = playing.size;
      each = λ k before after was is_now. ticks_now k was is_now (full k (low k was is_now));
    }

-- a turn
module _ {S : Type 0} {told : S → SinkTold} {tale : Tale} {sides : Sides} {turn : TurnMade} {turns : List TurnMade} {first now : List (ClockEngine S)} {rests : List Rest} {states : List BufferState}
    (playing : ArePlaying told tale sides (turn ∷ turns) first now rests states) (is : IsSetting tale.base tale.clocks) (lie : AreSides tale.base sides.feeders.items sides.readers.items)
    {before old : ClockEngine S} {rest : Rest} (was : slice_get first turn.clock ≡ Some before) (here : slice_get now turn.clock ≡ Some old) (at_rest : slice_get rests turn.clock ≡ Some rest) where
  abbrev pub next : ℕ → List (List Cell)
  next = playing.left.0

  abbrev pub it : IsTurn tale.base tale.clocks.running (timed tale.text tale.window tale.ticks) turn playing.made (chunks_of playing.full) next
  it = playing.left.1

  pub here_rests : IsResting told tale sides turn.clock (playing.made turn.clock) (progress before old rest.marks.items) playing.full states
  here_rests = playing.each turn.clock before old rest was here at_rest

  pub number : old.parts.clock ≡ turn.clock
  number = here_rests.paused.clock

  pub count : rest.made ≡ playing.made turn.clock
  count = playing.counts turn.clock rest at_rest

  abbrev pub may_play : MayPlay told tale sides old.parts.clock rest.made turn.ticks (progress before old rest.marks.items) states
  may_play = record {
    is = is;
    ends = lie;
    runs = subst (λ (k : ℕ). k < tale.clocks.running) (sym number) it.runs;
    full = playing.full;
    fills = playing.fills;
    tell = playing.tell;
    ticks = playing.made;
    at = playing.at;
    rests = subst (λ (k : ℕ). IsResting told tale sides k rest.made (progress before old rest.marks.items) playing.full states) (sym number)
        (subst (λ (n : ℕ). IsResting told tale sides turn.clock n (progress before old rest.marks.items) playing.full states) (sym count) here_rests);
    on = subst (λ (n : ℕ). n ≤ turn.ticks) (sym count) it.on;
    next = next;
    come = subst (λ (k : ℕ). HasCome tale.base tale.window tale.ticks tale.text k turn.ticks (chunks_of playing.full) next) (sym number) it.come;
  }

  -- it was made
  module _ {new : ClockEngine S} {rest_new : Rest} (made_is : rest_new.made ≡ turn.ticks) {others : List BufferState}
      (has_played : HasPlayed told tale sides old.parts.clock turn.ticks (progress before new rest_new.marks.items) playing.full states others next)
      {after : List (ClockEngine S)} (changed : IsChanged turn.clock new now after) {rests_after : List Rest} (rests_changed : IsChanged turn.clock rest_new rests rests_after) where
    played : HasPlayed told tale sides turn.clock turn.ticks (progress before new rest_new.marks.items) playing.full states others next
    played = subst (λ (k : ℕ). HasPlayed told tale sides k turn.ticks (progress before new rest_new.marks.items) playing.full states others next) number has_played

    abbrev made_now : ℕ → ℕ
    made_now = made_then turn playing.made

    made_here : (k : ℕ) → turn.clock ≡ k → made_now k ≡ turn.ticks
    made_here k e = put_here turn.clock turn.ticks playing.made k e

    made_other : (k : ℕ) → (turn.clock ≡ k → ⊥) → made_now k ≡ playing.made k
    made_other k other = put_other turn.clock turn.ticks playing.made k other

    states_long : length others ≡ length states
    states_long = sym played.fills.many ∙ played.tell.many ∙ sym playing.tell.many ∙ playing.fills.many

    -- the other engines rest on
    rests_on : (k : ℕ) (one two : ClockEngine S) (marks : List Mark) → (turn.clock ≡ k → ⊥) → IsResting told tale sides k (playing.made k) (progress one two marks) playing.full states → IsResting told tale sides k (playing.made k) (progress one two marks) played.full others
    rests_on k one two marks other r = record {
      paused = record {
        calls = r.paused.calls;
        accepted = r.paused.accepted;
        over = r.paused.over;
        clock = r.paused.clock;
        are = r.paused.are;
        engine = r.paused.engine;
        whole = r.paused.whole;
        stand = stands_on tale.base tale.text sides.feeders.items sides.readers.items lie tale.window tale.ticks turn.clock k turn.ticks r.paused.calls marks playing.full played.full playing.tell played.tell played.come
            (λ b known. chunks_stay tale.base tale.clocks is tale.window tale.ticks tale.text playing.made (chunks_of playing.full) playing.at turn.clock it.runs turn.ticks it.on (chunks_of played.full) played.come b known) (λ e. other (sym e)) r.paused.stand;
      };
      forced = r.forced;
      run = r.run;
      rooms = r.rooms;
      unlost = played.unlost k marks (λ e. other (sym e)) r.unlost;
      many = r.many ∙ sym states_long;
    }

    pub plays_on : ArePlaying told tale sides turns first after rests_after others
    plays_on = record {
      full = played.full;
      fills = played.fills;
      tell = played.tell;
      made = made_now;
      few = λ k. elim (same_or_other turn.clock k) [
        | inl e ↦ (let now_is = made_here k e in let most = it.come.within in omega (arith, now_is, most))
        | inr other ↦ (let now_is = made_other k other in let most = playing.few k in omega (arith, now_is, most))
      ];
      at = turned tale.base tale.clocks is tale.window tale.ticks tale.text playing.made (chunks_of playing.full) playing.at turn.clock it.runs turn.ticks it.on (chunks_of played.full) played.come;
      left = turns_fit tale.base tale.clocks.running tale.window tale.ticks tale.text turns made_now next (chunks_of played.full) played.same playing.left.2;
      size = changed.size ∙ playing.size;
      long = rests_changed.size ∙ playing.long;
      counts = λ k rest at. elim (same_or_other turn.clock k) [
        | inl e ↦ (let one : rest_new ≡ rest = some_inj (sym rests_changed.here ∙ ap (slice_get rests_after) e ∙ at) in ap (λ (r : Rest). r.made) (sym one) ∙ made_is ∙ sym (made_here k e))
        | inr other ↦ playing.counts k rest (sym (rests_changed.other k other) ∙ at) ∙ sym (made_other k other)
      ];
      each = λ k one two rest was_at is_at at. elim (same_or_other turn.clock k) [
        | inl e ↦ (let engine_is : new ≡ two = some_inj (sym changed.here ∙ ap (slice_get after) e ∙ is_at) in
            let first_is : before ≡ one = some_inj (sym was ∙ ap (slice_get first) e ∙ was_at) in
            let rest_is : rest_new ≡ rest = some_inj (sym rests_changed.here ∙ ap (slice_get rests_after) e ∙ at) in
            subst (λ (n : ℕ). IsResting told tale sides k n (progress one two rest.marks.items) played.full others) (sym (made_here k e))
            (subst (λ (j : ℕ). IsResting told tale sides j turn.ticks (progress one two rest.marks.items) played.full others) e
            (subst (λ (x : ClockEngine S). IsResting told tale sides turn.clock turn.ticks (progress x two rest.marks.items) played.full others) first_is
            (subst (λ (x : ClockEngine S). IsResting told tale sides turn.clock turn.ticks (progress before x rest.marks.items) played.full others) engine_is
            (subst (λ (r : Rest). IsResting told tale sides turn.clock turn.ticks (progress before new r.marks.items) played.full others) rest_is played.rests)))))
        | inr other ↦ subst (λ (n : ℕ). IsResting told tale sides k n (progress one two rest.marks.items) played.full others) (sym (made_other k other))
            (rests_on k one two rest.marks.items other (playing.each k one two rest was_at (sym (changed.other k other) ∙ is_at) (sym (rests_changed.other k other) ∙ at)))
      ];
    }

  -- a fault ended it
  module _ {new : ClockEngine S} (has_broken : IsBrokenOff told (score_over tale playing.full) tale.ticks old.parts.clock turn.ticks before new) (over : setting_of before.parts ≡ tale.base) where
    abbrev pub broken : IsBrokenOff told (score_over tale playing.full) tale.ticks turn.clock turn.ticks before new
    broken = subst (λ (k : ℕ). IsBrokenOff told (score_over tale playing.full) tale.ticks k turn.ticks before new) number has_broken

    abbrev pub broken_tick : ℕ
    broken_tick = broken.tick

    pub broken_low : broken_tick < tale.ticks
    broken_low = let low = broken.low in let most = it.come.within in omega (arith, low, most)

    module _ (run : Run) (lawful : AreWindows tale.base tale.clocks.running tale.window tale.ticks run) (told_is : IsTold tale.base tale.text run) where
      come_forced : it.come.calls ≡ record_calls tale.base tale.clocks is tale.text tale.window tale.ticks run lawful told_is turn.clock it.runs turn.ticks
      come_forced = calls_forced tale.base tale.clocks is tale.window tale.ticks tale.text playing.made (chunks_of playing.full) playing.at turn.clock turn.ticks it.runs it.come.within it.come.calls it.come.accepted it.come.are
          (subst (AreAnswered tale.base tale.text (chunks_of playing.full)) (sym (it.come.are nothing)) it.come.replayed.answered_so) (subst (AreInOrder tale.base) (sym (it.come.are nothing)) it.come.replayed.in_order) run lawful told_is

      front_broken : IsFront (broken.calls ++ broken.made) (record_calls tale.base tale.clocks is tale.text tale.window tale.ticks run lawful told_is turn.clock it.runs tale.ticks)
      front_broken = front_front (broken.calls ++ broken.made) (record_calls tale.base tale.clocks is tale.text tale.window tale.ticks run lawful told_is turn.clock it.runs turn.ticks) (record_calls tale.base tale.clocks is tale.text tale.window tale.ticks run lawful told_is turn.clock it.runs tale.ticks)
          (subst (IsFront (broken.calls ++ broken.made)) (sym (it.come.are nothing) ∙ come_forced) (broken.front tale.window (got_then it.come.calls nothing) it.come.accepted it.come.replayed))
          (record_front tale.base tale.clocks is tale.text tale.window tale.ticks run lawful told_is turn.clock it.runs turn.ticks it.come.within)

      pub part_broken : HasRunPart told (λ rest. setting_in tale.base run) broken_tick (suc broken_tick) before new
      part_broken = part_matches tale.base tale.clocks is tale.text tale.window tale.ticks run lawful told_is turn.clock it.runs (broken.calls ++ broken.made) front_broken told before new over broken.tick (suc broken.tick) broken.part
