-- The run of an engine over the chunks of more ticks.
use Rattle.std.proofs.Common.{◌≡◌, ◌<◌, ◌≤◌, ◌+◌, ◌-◌, ◌*◌, ◌∙◌, ◌++◌, ◌⊎◌, ℕ, suc, Bool, inl, inr, Some, List, length, add-one, suc-mul, refl, ap, slice_get, sym, subst, arith}
use Rattle.std.specs.Prelude.{All}
use mathlib.Core.Path.{fun_ext}
use Rattle.liq_base.specs.Pieces.{SinkTold}
use Rattle.frame_core.specs.Calls.{Call, Answer}
use Rattle.stream_meaning.specs.Instants.{Setting, answered}
use Rattle.stream_meaning.specs.Calls.{IsBegin, answers_in, calls_of_tick}
use Rattle.stream_meaning.proofs.Answering.{answers_in-append}
use Rattle.run_records.specs.Outputs.{first_calls}
use Rattle.run_records.specs.Owning.{IsOwn}
use Rattle.node_states.specs.Ticks.{HasStopped, HasTicked}
use Rattle.clock_ticks.proofs.Pieces.{kept_got, rose_since}
use Rattle.clock_ticks.specs.declared.engine.ClockEngine.{ClockEngine}
use Rattle.clock_ticks.specs.declared.fault.TickFault.{TickFault}
use Rattle.clock_ticks.specs.declared.fault.TickFault.TheVariants.{Write as TickWrite}
use Rattle.clock_ticks.specs.Engines.{AreParts, EngineStands, held_in, outputs_of, setting_of}
use Rattle.clock_ticks.specs.Pieces.{GotSomePieces}
use Rattle.clock_ticks.specs.Ticks.{HasFailed as TickFailed, HasMade, HaveTickRoom, HaveTicksRoom, IsWriteFault, TookTick, piece_size}
use Rattle.rounds_run.proofs.Going.{run_failed, run_more}
use Rattle.trace_turns.specs.declared.course.Course.{Course}
use Rattle.trace_turns.specs.declared.course.Course.TheVariants.{Goes, Waits, Fails}
use Rattle.trace_turns.specs.declared.taps.ToldTaps.{ToldTaps}
use Rattle.trace_turns.specs.Answering.{AllStand, BufferState, SameBuffers, TapsStand}
use Rattle.trace_turns.specs.Thin.{AreFull, TapsFollow}
use Rattle.trace_records.specs.Clocks.{HasReplayed, IsFront}
use Rattle.trace_replay.specs.Replaying.{HasSinkFailed, IsBrokenOff, IsReplaying, MayReplay}
use Rattle.trace_records.specs.Passes.{IsMadeBy}
use Rattle.trace_turns.specs.Turns.{AreOf, Score}
use Rattle.trace_replay.proofs.Stopping.{own_then, stopped_fails, stopped_front, stopped_waits}
use Rattle.trace_turns.proofs.Thinning.{follows, unlost_then}
use Rattle.trace_turns.proofs.Turned.{accepted_then, made_more, never_fails, never_waits, of_same, own_made}

abbrev pub taps_stand : ToldTaps → List Call → Type 0
taps_stand t calls = TapsFollow t.course t.buffers.items calls

course_is : (c : Course) → (c ≡ Goes) ⊎ ((c ≡ Waits) ⊎ (c ≡ Fails))
course_is Goes = inl refl
course_is Waits = inr (inl refl)
course_is Fails = inr (inr refl)

-- room for a tick, of the room for more
pub room_now : {S : Type 0} (told : S → SinkTold) (N n : ℕ) (engine : ClockEngine S) → n < N → ((left : ℕ) → n + left ≡ N → HaveTicksRoom told engine.parts engine.outs left) → HaveTickRoom told engine.parts engine.outs
room_now room N n engine low rooms = record {
  each = λ k sink node out at_output at_out m e.
      let size : ℕ = piece_size (setting_of engine.parts) sink node in
      let left : ℕ = N - n - 1 in
      let more : (left + 1) * size ≤ m = (rooms (left + 1) (omega (arith, low))).each k sink node out at_output at_out m e in
      let parts : (left + 1) * size ≡ left * size + size = ap (λ n. n * size) (add-one left) ∙ suc-mul left size in
      omega (arith, more, parts);
}

module _ {S : Type 0} (told : S → SinkTold) (score : Score) (N m to : ℕ) (made_first : ℕ) (first begin : ClockEngine S) (opening : List BufferState) (may : MayReplay told score N m made_first to first begin opening)
    (n : ℕ) (less : n < to) (old new : ClockEngine S) (taps taps_new : ToldTaps)
    (now : IsReplaying told score N m n first old taps.buffers.items) (goes : taps.course ≡ Goes) (changed : SameBuffers taps.buffers.items taps_new.buffers.items)
    (over_new : setting_of new.parts ≡ setting_of old.parts) (clock_new : new.parts.clock ≡ old.parts.clock) where
  abbrev states : List BufferState
  states = taps.buffers.items

  abbrev others : List BufferState
  others = taps_new.buffers.items

  -- what the buffers stand for, with all their chunks
  abbrev Follows : List Call → Type 0
  Follows calls = (full : List BufferState) × AreFull others full × SameBuffers now.full full × TapsStand taps_new.course full calls

  follow : (more : List Call) → All (IsOwn score.base m) (now.calls ++ more) → ((calls : List Call) → taps_stand taps calls → taps_stand taps_new (calls ++ more)) → Follows (now.calls ++ more)
  follow more own on =
      let found = follows score.base score.text m score.chunks states others now.full now.fills changed now.of now.calls more own now.stand now.unlost taps_new.course
      (on now.calls (subst (λ (c : Course). TapsFollow c states now.calls) (sym goes) (now.full, now.fills, now.stand))) in
      (found.full_now, found.fills_now, found.same_now, found.stand_now)

  -- a tick that was made
  module _ (made : HasMade told taps_stand old.parts new.parts old.outs new.outs taps taps_new) (fit : AreParts old.parts) (many : length new.outs ≡ length old.outs)
      (took : TookTick told old.parts old.outs new.outs) (keeping : new.parts.cues.keeping ≡ old.parts.cues.keeping) (rooms : (ticks : ℕ) → HaveTicksRoom told old.parts old.outs (ticks + 1) → HaveTicksRoom told new.parts new.outs ticks) where
    abbrev more : List Call
    more = made.more

    ticked : HasTicked (EngineStands new.parts) (setting_of old.parts) old.parts.clock n (λ b. answers_in b now.calls) more (held_in told (outputs_of (setting_of old.parts) old.parts.clock) old.outs) (held_in told (outputs_of (setting_of new.parts) new.parts.clock) new.outs)
    ticked = made.engine n (λ b. answers_in b now.calls) now.engine

    tick : (rest : ℕ → List Answer) → more ≡ calls_of_tick (answered score.base (λ b. (answers_in b now.calls ++ answers_in b more) ++ rest b)) ticked.accepted m n
    tick rest = subst (λ (k : ℕ). more ≡ calls_of_tick (answered score.base (λ b. (answers_in b now.calls ++ answers_in b more) ++ rest b)) ticked.accepted k n) now.clock
        (subst (λ (s : Setting). more ≡ calls_of_tick (answered s (λ b. (answers_in b now.calls ++ answers_in b more) ++ rest b)) ticked.accepted old.parts.clock n) now.over (ticked.are rest))

    abbrev accepted_now : ℕ → ℕ → Bool
    accepted_now = accepted_then score.base m n now.accepted now.calls now.are more ticked.accepted tick

    made_now : IsMadeBy score.base m (suc n) accepted_now (now.calls ++ more)
    made_now = made_more score.base m n now.accepted now.calls now.are more ticked.accepted tick

    own_now : All (IsOwn score.base m) (now.calls ++ more)
    own_now = own_made score.base score.clocks may.is m (suc n) accepted_now (now.calls ++ more) made_now

    behind : Follows (now.calls ++ more)
    behind = follow more own_now made.taps

    pub still_goes : taps_new.course ≡ Goes
    still_goes = by (course_is taps_new.course)
      where
        by : (taps_new.course ≡ Goes) ⊎ ((taps_new.course ≡ Waits) ⊎ (taps_new.course ≡ Fails)) → taps_new.course ≡ Goes
        by (inl e) = e
        by (inr (inl e)) = absurd (never_waits score.base score.clocks may.is score.text may.window N m n score.chunks now.full behind.0 now.of behind.2 now.calls now.accepted now.are now.stand more ticked.accepted tick to less
            may.given may.taken may.whole (subst (λ (c : Course). TapsStand c behind.0 (now.calls ++ more)) e behind.3))
        by (inr (inr e)) = absurd (never_fails score.base score.clocks may.is score.text may.window N m n score.chunks now.full behind.0 now.of behind.2 now.calls now.accepted now.are now.stand more ticked.accepted tick to less
            may.given may.taken may.whole (subst (λ (c : Course). TapsStand c behind.0 (now.calls ++ more)) e behind.3))

    pub replay_goes_on : IsReplaying told score N m (suc n) first new others
    replay_goes_on = record {
      calls = now.calls ++ more;
      accepted = accepted_now;
      over = over_new ∙ now.over;
      clock = clock_new ∙ now.clock;
      are = made_now;
      engine = subst (EngineStands new.parts (suc n)) (fun_ext (λ b. sym (answers_in-append b now.calls more))) ticked.stand;
      full = behind.0;
      fills = behind.1;
      unlost = unlost_then score.base score.text m score.chunks states others now.full now.fills changed now.of now.calls more own_now now.stand now.unlost;
      stand = subst (λ (c : Course). TapsStand c behind.0 (now.calls ++ more)) still_goes behind.3;
      of = of_same score.base score.text m score.chunks now.full now.of behind.0 behind.2;
      run = run_more told n now.calls first old new now.run taps_stand taps taps_new (record {
        fit = fit;
        setting = over_new;
        clock = clock_new;
        keeping = keeping;
        ticked = made;
        outs = many;
        took = took;
        rooms = rooms;
      });
      rooms = λ left e. rooms left (now.rooms (left + 1) (omega (arith, e)));
    }

  -- a fault
  module _ (failed : TickFailed told taps_stand old.parts new.parts old.outs new.outs taps taps_new) where
    stopped : HasStopped (setting_of old.parts) old.parts.clock n (λ b. answers_in b now.calls) failed.made (held_in told (outputs_of (setting_of old.parts) old.parts.clock) old.outs) (held_in told (outputs_of (setting_of new.parts) new.parts.clock) new.outs)
    stopped = failed.engine n (λ b. answers_in b now.calls) now.engine

    begun : (rest : ℕ → List Answer) → IsBegin failed.made (calls_of_tick (answered score.base (λ b. (answers_in b now.calls ++ answers_in b failed.made) ++ rest b)) stopped.accepted m n)
    begun rest = subst (λ (k : ℕ). IsBegin failed.made (calls_of_tick (answered score.base (λ b. (answers_in b now.calls ++ answers_in b failed.made) ++ rest b)) stopped.accepted k n)) now.clock
        (subst (λ (s : Setting). IsBegin failed.made (calls_of_tick (answered s (λ b. (answers_in b now.calls ++ answers_in b failed.made) ++ rest b)) stopped.accepted old.parts.clock n)) now.over (stopped.begun rest))

    after : Follows (now.calls ++ failed.made)
    after = follow failed.made (own_then score.base score.clocks may.is score.text to m n less score.chunks now.full now.of now.accepted now.calls now.are failed.made stopped.accepted begun) failed.taps

    of_now : AreOf score.base score.text m score.chunks after.0
    of_now = of_same score.base score.text m score.chunks now.full now.of after.0 after.2

    module _ (W : ℕ) (given : ℕ → List Answer) (taken : ℕ → ℕ → Bool) (whole : HasReplayed score.base score.text W N m to score.chunks given taken) where
      all_stand : (taps_new.course ≡ Goes) ⊎ ((taps_new.course ≡ Waits) ⊎ (taps_new.course ≡ Fails)) → AllStand after.0 (now.calls ++ failed.made)
      all_stand (inl e) = subst (λ (c : Course). TapsStand c after.0 (now.calls ++ failed.made)) e after.3
      all_stand (inr (inl e)) = absurd (stopped_waits score.base score.clocks may.is score.text to m n less score.chunks after.0 of_now now.accepted now.calls now.are failed.made stopped.accepted begun
          W N given taken whole (subst (λ (c : Course). TapsStand c after.0 (now.calls ++ failed.made)) e after.3))
      all_stand (inr (inr e)) = absurd (stopped_fails score.base score.clocks may.is score.text to m n less score.chunks after.0 of_now now.accepted now.calls now.are failed.made stopped.accepted begun
          W N given taken whole (subst (λ (c : Course). TapsStand c after.0 (now.calls ++ failed.made)) e after.3))

      front_now : IsFront (now.calls ++ failed.made) (first_calls (answered score.base given) taken m to)
      front_now = stopped_front score.base score.clocks may.is score.text to m n less score.chunks after.0 of_now now.accepted now.calls now.are failed.made stopped.accepted begun
          W N given taken whole (all_stand (course_is taps_new.course))

    pub replay_breaks : GotSomePieces told old.outs new.outs → length new.outs ≡ length old.outs → IsBrokenOff told score N m to first new
    replay_breaks some many = record {
      tick = n;
      low = less;
      calls = now.calls;
      made = failed.made;
      front = front_now;
      part = run_failed told n now.calls first old new now.run taps_stand taps taps_new n (suc n) (omega arith) (omega arith) failed some many over_new clock_new;
    }

-- whose sink failed
pub sink_failed : {S : Type 0} (told : S → SinkTold) (score : Score) (N m n : ℕ) (first old new : ClockEngine S) (states : List BufferState) → IsReplaying told score N m n first old states
    → (fault : TickFault) → IsWriteFault told old.parts old.outs new.outs fault → (sink : ℕ) → fault ≡ TickWrite sink → HasSinkFailed told sink first new
sink_failed told score N m n first old new states now fault cause sink e =
    let both : TickWrite cause.sink ≡ TickWrite sink = sym cause.fault_is ∙ e in
    let same : cause.sink ≡ sink = cc in
    record {
      place = cause.place;
      node = cause.node;
      there = subst (λ (s : ℕ). slice_get (outputs_of (setting_of first.parts) first.parts.clock) cause.place ≡ Some (s, cause.node)) same
          (ap (λ (s : Setting). slice_get (outputs_of s first.parts.clock) cause.place) (sym now.run.setting) ∙ ap (λ (k : ℕ). slice_get (outputs_of (setting_of old.parts) k) cause.place) (sym now.run.clock) ∙ cause.there);
      rose = rose_since told cause.place first.outs old.outs new.outs now.run.outs (kept_got told n first.outs old.outs now.run.pieces) cause.rose;
    }
