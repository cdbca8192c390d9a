-- A run between two ticks.
use Rattle.std.proofs.Common.{◌≡◌, ◌<◌, ◌≤◌, ◌+◌, ◌-◌, ◌*◌, ◌/◌, ◌%◌, ◌∙◌, ◌++◌, ℕ, suc, true, false, Some, List, [], length, get_or, nat_lt, set, slice_get, add-one, arith, refl, ap, sym, subst, ◌⊎◌, inl, inr}
use Rattle.std.proofs.lemmas.Bool.{le-ltb, lt-ltb}
use Rattle.std.proofs.lemmas.Option.{slice_get-get_or as read, slice_get_within}
use native.Mathlib.Nat.{min-eq_right, min-le_right}
use Rattle.std.proofs.Math.ListN.{length-set}
use Rattle.std.proofs.Math.Nat.{suc-mul}
use Rattle.liq_base.specs.Pieces.{IsPrefix, SinkTold, grown}
use Rattle.frame_core.specs.Calls.{Adds, Call, Answer}
use Rattle.stream_meaning.specs.Sinks.{tick_bytes, ticks_bytes, IsOutput}
use Rattle.clock_infer.specs.declared.clock_map.NodeClock.TheVariants.{Main}
use Rattle.stream_meaning.specs.Instants.{Setting, with_rest}
use Rattle.stream_meaning.specs.Calls.{IsBegin, IsUnread, after_calls, answers_in, calls_of_tick}
use Rattle.stream_meaning.proofs.Unread.{no_tick_takes}
use Rattle.clock_outputs.proofs.Gives.{adds_more, adds_nothing}
use Rattle.node_states.proofs.Outputs.{output_moved}
use Rattle.clock_outputs.proofs.Places.{low_or_high, same_or_other, slice_get-set_other, slice_get-set_same}
use Rattle.clock_ticks.specs.declared.engine.ClockEngine.{ClockEngine}
use Rattle.clock_ticks.specs.declared.fault.TickFault.{TickFault}
use Rattle.clock_ticks.specs.declared.fault.TickFault.TheVariants.{Memory as OutOfMemory, Write as TickWrite}
use Rattle.clock_ticks.specs.Engines.{AreParts, held_of, outputs_of, setting_of}
use Rattle.clock_ticks.specs.Pieces.{GotSomePieces}
use Rattle.clock_ticks.specs.Ticks.{HasFailed, HasMade, HaveTickRoom, HaveTicksRoom, IsWriteFault, TookTick, piece_size}
use Rattle.clock_ticks.proofs.Made.{behind_calls, world_is}
use Rattle.clock_ticks.proofs.Pieces.{got_between, got_more, got_none, got_part, kept_got, rose_since}
use Rattle.buffer_ends.specs.declared.run_end.End.{End}
use Rattle.buffer_ends.specs.declared.run_end.End.TheVariants.{Write, Memory as NoMemory}
use Rattle.rounds_run.specs.Rounds.{AreEngines, AreGoing, AreTurns, AreTurnsUpto, HasRunTurns, HasRunPart, IsWriteEnd, MayRun, RoundsMade, RoundsStopped, made_by, nothing, ticks_by, world}
use Rattle.rounds_run.proofs.Worlds.{meets, meets_is, none_begun, own_other, own_this, turned_more, turned_part, turned_upto}
use Rattle.rounds_run.proofs.Apart.{unread_or}
use Rattle.rounds_run.proofs.Fronts.{front_of, grown_nothing, grown_twice, next_front, ticks_front}

-- a fault is an output's or memory's
pub fault_is : (fault : TickFault) → ((sink : ℕ) × (fault ≡ TickWrite sink)) ⊎ (fault ≡ OutOfMemory)
fault_is (TickWrite sink) = inl (sink, refl)
fault_is OutOfMemory = inr refl

-- what a tick of an engine that answered Ok owes
pub record DidTick {S T : Type 0} (told : S → SinkTold) (taps_stand : T → List Call → Type 0) (old new : ClockEngine S) (taps_old taps_new : T) : Type 0 where
  pub fit : AreParts old.parts
  pub setting : setting_of new.parts ≡ setting_of old.parts
  pub clock : new.parts.clock ≡ old.parts.clock
  pub keeping : new.parts.cues.keeping ≡ old.parts.cues.keeping
  pub ticked : HasMade told taps_stand old.parts new.parts old.outs new.outs taps_old taps_new
  pub outs : length new.outs ≡ length old.outs
  pub took : TookTick told old.parts old.outs new.outs
  pub rooms : (ticks : ℕ) → HaveTicksRoom told old.parts old.outs (ticks + 1) → HaveTicksRoom told new.parts new.outs ticks

module _ {S : Type 0} (told : S → SinkTold) where
  pub run_none : (total : ℕ) (engine : ClockEngine S) → MayRun told total engine → HasRunTurns told [] 0 engine engine
  run_none total engine may = record {
    setting = refl;
    clock = refl;
    keeping = refl;
    answers = nothing;
    own = λ buffer. inl refl;
    stands = may.fresh;
    grew = record { each = λ rest sink node output. grown_nothing (held_of told engine sink) };
    pieces = got_none told engine.outs;
    outs = refl;
  }

  -- the same run with calls that bring this engine no answers
  pub run_unbuffered : (calls more : List Call) (t : ℕ) (first now : ClockEngine S) → ((buffer : ℕ) → (answers_in buffer more ≡ []) ⊎ IsUnread (setting_of first.parts) (Main first.parts.clock) buffer)
      → HasRunTurns told calls t first now → HasRunTurns told (calls ++ more) t first now
  run_unbuffered calls more t first now apart run = record {
    setting = run.setting;
    clock = run.clock;
    keeping = run.keeping;
    answers = run.answers;
    own = λ buffer. own_other (setting_of first.parts) (Main first.parts.clock) calls more buffer (run.answers buffer) (run.own buffer) (apart buffer);
    stands = run.stands;
    grew = run.grew;
    pieces = run.pieces;
    outs = run.outs;
  }

  module _ (t : ℕ) (calls : List Call) (first old new : ClockEngine S) (run : HasRunTurns told calls t first old) where
    abbrev output_now : (sink node : ℕ) → IsOutput (setting_of first.parts) first.parts.clock sink node → IsOutput (setting_of old.parts) old.parts.clock sink node
    output_now sink node output =
        output_moved (setting_of first.parts) (setting_of old.parts) first.parts.clock old.parts.clock sink node (sym run.setting) (sym run.clock) output

    -- no answers of buffers that the clock does not read
    pub none_read : (buffer : ℕ) → IsUnread (setting_of first.parts) (Main first.parts.clock) buffer → run.answers buffer ≡ []
    none_read buffer unread = run.stands.others buffer
        (subst (λ s. IsUnread s (Main old.parts.clock) buffer) (sym run.setting) (subst (λ m. IsUnread (setting_of first.parts) (Main m) buffer) (sym run.clock) unread))

    -- the same with one tick more
    pub run_more : {T : Type 0} (taps_stand : T → List Call → Type 0) (taps_old taps_new : T) (did : DidTick told taps_stand old new taps_old taps_new)
        → HasRunTurns told (calls ++ did.ticked.more) (suc t) first new
    run_more taps_stand taps_old taps_new did =
        let made = did.ticked in
        let ticked = made.engine t run.answers run.stands in
        record {
          setting = did.setting ∙ run.setting;
          clock = did.clock ∙ run.clock;
          keeping = did.keeping ∙ run.keeping;
          answers = after_calls run.answers made.more;
          own = λ buffer. own_this (setting_of first.parts) (Main first.parts.clock) calls made.more buffer (run.answers buffer) (run.own buffer);
          stands = ticked.stand;
          grew = record {
            each = λ rest sink node output.
                let W = with_rest (setting_of first.parts) (after_calls run.answers made.more) rest in
                let here : held_of told new sink ≡ grown (tick_bytes W output.wide node t) (held_of told old sink) =
                subst (λ s. held_of told new sink ≡ grown (tick_bytes (with_rest s (after_calls run.answers made.more) rest) output.wide node t) (held_of told old sink)) run.setting
                (ticked.grew rest sink node (output_now sink node output)) in
                let before : held_of told old sink ≡ grown (ticks_bytes W output.wide node t) (held_of told first sink) =
                run.grew.each (behind_calls made.more rest) sink node output
                ∙ ap (λ V. grown (ticks_bytes V output.wide node t) (held_of told first sink)) (world_is (setting_of first.parts) run.answers made.more rest) in
                here ∙ ap (grown (tick_bytes W output.wide node t)) before ∙ grown_twice (tick_bytes W output.wide node t) (ticks_bytes W output.wide node t) (held_of told first sink);
          };
          pieces = got_more told old.parts t first.outs old.outs new.outs run.outs run.pieces did.took;
          outs = did.outs ∙ run.outs;
        }

    -- a run of so many ticks is one of at least and at most so many
    pub run_part : (least most : ℕ) → least ≤ t → t ≤ most → HasRunPart told (world (setting_of first.parts) calls) least most first old
    run_part least most low high = record {
      setting = run.setting;
      clock = run.clock;
      part = λ rest sink node output.
          let W = world (setting_of first.parts) calls rest in (
            ticks_bytes W output.wide node t,
            ticks_front W output.wide node least t low,
            ticks_front W output.wide node t most high,
            run.grew.each (meets (setting_of first.parts) (Main first.parts.clock) calls run.answers run.own rest) sink node output
                ∙ ap (λ V. grown (ticks_bytes V output.wide node t) (held_of told first sink)) (meets_is (setting_of first.parts) (Main first.parts.clock) calls run.answers run.own rest none_read),
          );
      pieces = got_between told t least most first.outs old.outs low high run.pieces;
      outs = run.outs;
    }

    -- so are those ticks and a part of the next one
    pub run_failed : {T : Type 0} (taps_stand : T → List Call → Type 0) (taps_old taps_new : T) (least most : ℕ) → least ≤ t → t < most
        → (failed : HasFailed told taps_stand old.parts new.parts old.outs new.outs taps_old taps_new) → GotSomePieces told old.outs new.outs → length new.outs ≡ length old.outs
        → setting_of new.parts ≡ setting_of old.parts → new.parts.clock ≡ old.parts.clock
        → HasRunPart told (world (setting_of first.parts) (calls ++ failed.made)) least most first new
    run_failed taps_stand taps_old taps_new least most low high failed some many setting clock =
        let stopped = failed.engine t run.answers run.stands in
        let F = setting_of first.parts in
        let M = Main first.parts.clock in
        let all = calls ++ failed.made in
        let answers = after_calls run.answers failed.made in
        let own : (buffer : ℕ) → (answers buffer ≡ answers_in buffer all) ⊎ IsUnread F M buffer = λ buffer. own_this F M calls failed.made buffer (run.answers buffer) (run.own buffer) in
        let none : (buffer : ℕ) → IsUnread F M buffer → answers buffer ≡ [] = λ buffer unread.
        let begun = stopped.begun nothing in
        let W = with_rest (setting_of old.parts) answers nothing in
        let un : IsUnread (setting_of old.parts) (Main old.parts.clock) buffer = subst (λ s. IsUnread s (Main old.parts.clock) buffer) (sym run.setting) (subst (λ m. IsUnread F (Main m) buffer) (sym run.clock) unread) in
        let quiet : answers_in buffer failed.made ≡ [] = none_begun buffer failed.made begun.rest
        (ap (answers_in buffer) (sym begun.are) ∙ no_tick_takes W stopped.accepted old.parts.clock t buffer (record { none = un.none })) in
        ap (λ (xs : List Answer). xs ++ answers_in buffer failed.made) (none_read buffer unread) ∙ quiet in
        record {
          setting = setting ∙ run.setting;
          clock = clock ∙ run.clock;
          part = λ rest sink node output.
              let behind = meets F M all answers own rest in
              let W = world F all rest in
              let same : with_rest F answers behind ≡ W = meets_is F M all answers own rest none in
              let part = stopped.part behind sink node (output_now sink node output) in
              let inside : IsPrefix part.0 (tick_bytes W output.wide node t) =
              subst (λ V. IsPrefix part.0 (tick_bytes V output.wide node t)) same
              (subst (λ s. IsPrefix part.0 (tick_bytes (with_rest s answers behind) output.wide node t)) run.setting part.1) in
              let before : held_of told old sink ≡ grown (ticks_bytes W output.wide node t) (held_of told first sink) =
              run.grew.each (behind_calls failed.made behind) sink node output
              ∙ ap (λ V. grown (ticks_bytes V output.wide node t) (held_of told first sink)) (world_is F run.answers failed.made behind ∙ same) in (
                ticks_bytes W output.wide node t ++ part.0,
                front_of (ticks_bytes W output.wide node least) (ticks_bytes W output.wide node t) (ticks_bytes W output.wide node t ++ part.0)
                    (ticks_front W output.wide node least t low) (record { rest = part.0; whole_is = refl }),
                front_of (ticks_bytes W output.wide node t ++ part.0) (ticks_bytes W output.wide node (suc t)) (ticks_bytes W output.wide node most)
                    (next_front W output.wide node t part.0 inside) (ticks_front W output.wide node (suc t) most (omega (arith, high))),
                part.2 ∙ ap (grown part.0) before ∙ grown_twice part.0 (ticks_bytes W output.wide node t) (held_of told first sink),
              );
          pieces = got_part told t least most first.outs old.outs new.outs low high run.outs run.pieces some;
          outs = many ∙ run.outs;
        }

  below : (k m : ℕ) → k < m → nat_lt k m ≡ true
  below k m h = lt-ltb k m h

  not_below : (k m : ℕ) → m ≤ k → nat_lt k m ≡ false
  not_below k m h = le-ltb k m h

  module _ {T : Type 0} (stands : T → List Call → Type 0) (setting : Setting) where
    -- before any tick
    pub begin : (total : ℕ) (first : List (ClockEngine S)) (a : T) → AreEngines told total setting first → AreGoing told (Adds stands a a) setting total (made_by 0 0) 0 first first
    begin total first a are = record {
      calls = [];
      taps = adds_nothing stands a;
      turned = record { accepted = λ turn buffer. true; are = λ rest. refl };
      run = record {
        size = refl;
        each = λ k before after was is.
            let same_some : Some before ≡ Some after = sym was ∙ is in
            let same : before ≡ after = cc in
            rw (not_below k 0 (omega arith)) (subst (λ e. HasRunTurns told [] 0 before e) same (run_none total before (are.each k before was)));
      };
      rooms = λ k left engine is made.
          let all : total ≡ left = (let none = not_below k 0 (omega arith) in let m : made_by 0 0 k ≡ 0 = rw none refl in omega (arith, made, m)) in
          subst (HaveTicksRoom told engine.parts engine.outs) all (are.each k engine is).rooms;
    }

    module _ (total r m turns : ℕ) (first now : List (ClockEngine S)) (old : ClockEngine S) (a b : T) (going : AreGoing told (Adds stands a b) setting total (made_by r m) turns first now)
        (was : slice_get now m ≡ Some old) where
      made_here : made_by r m m ≡ r
      made_here = rw (not_below m m (omega arith)) refl

      -- the engine whose turn it is has run so many ticks
      pub run_here : (before : ClockEngine S) → slice_get first m ≡ Some before → HasRunTurns told going.calls r before old
      run_here before at = subst (λ n. HasRunTurns told going.calls n before old) made_here (going.run.each m before old at was)

      made_next : made_by r (m + 1) m ≡ suc r
      made_next = rw (below m (m + 1) (omega arith)) refl

      made_more : (k : ℕ) → (m ≡ k → ⊥) → made_by r (m + 1) k ≡ made_by r m k
      made_more k other = elim (low_or_high k m) [
        | inl low ↦ rw (below k (m + 1) (omega (arith, low)), below k m low) refl
        | inr high ↦ rw (not_below k (m + 1) (omega (arith, high, other)), not_below k m high) refl
      ]

      left_here : (left : ℕ) → r + left ≡ total → HaveTicksRoom told old.parts old.outs left
      left_here left is = going.rooms m left old was (ap (λ n. n + left) made_here ∙ is)

      -- there is room for the next tick
      pub tick_room : r < total → HaveTickRoom told old.parts old.outs
      tick_room low = one_of (r_left r total low)
        where
          r_left : (r total : ℕ) → r < total → (left : ℕ) × (r + (left + 1) ≡ total)
          r_left r total low = (total - r - 1, omega (arith, low))

          one_of : ((left : ℕ) × (r + (left + 1) ≡ total)) → HaveTickRoom told old.parts old.outs
          one_of (left, is) = record {
            each = λ k sink node out at_output at_out n e.
                let size : ℕ = piece_size (setting_of old.parts) sink node in
                let more : (left + 1) * size ≤ n = (left_here (left + 1) is).each k sink node out at_output at_out n e in
                let parts : (left + 1) * size ≡ left * size + size = ap (λ n. n * size) (add-one left) ∙ suc-mul left size in
                omega (arith, more, parts);
          }

      module _ (new : ClockEngine S) where
        -- the other engines are as they were
        other_at : (k : ℕ) (engine : ClockEngine S) → (m ≡ k → ⊥) → slice_get (set now m new) k ≡ Some engine → slice_get now k ≡ Some engine
        other_at k engine other at = sym (slice_get-set_other now m k new other) ∙ at

        this_at : (k : ℕ) (engine : ClockEngine S) → m ≡ k → slice_get (set now m new) k ≡ Some engine → new ≡ engine
        this_at k engine same at =
            let here : Some new ≡ Some engine = sym (slice_get-set_same now m new (slice_get_within now m old was)) ∙ ap (slice_get (set now m new)) same ∙ at in
            cc

        many : length (set now m new) ≡ length first
        many = length-set now m new ∙ going.run.size

        -- what calls bring the other engines
        module _ (may : AreEngines told total setting first) (before : ClockEngine S) (at_first : slice_get first m ≡ Some before) (more : List Call)
            (quiet : (buffer : ℕ) → IsUnread setting (Main m) buffer → answers_in buffer more ≡ []) (fit : AreParts old.parts) where
          apart_here : (k : ℕ) (engine : ClockEngine S) → (m ≡ k → ⊥) → slice_get first k ≡ Some engine → (buffer : ℕ)
              → (answers_in buffer more ≡ []) ⊎ IsUnread (setting_of engine.parts) (Main engine.parts.clock) buffer
          apart_here k engine other at buffer =
              let world_of : setting_of old.parts ≡ setting = (run_here before at_first).setting ∙ may.over m before at_first in
              elim (unread_or (setting_of old.parts) fit.clocks fit.in_clocks fit.plan buffer m k other) [
                | inl unread ↦ inl (quiet buffer (subst (λ s. IsUnread s (Main m) buffer) world_of unread))
                | inr unread ↦ inr (subst (λ s. IsUnread s (Main engine.parts.clock) buffer) (world_of ∙ sym (may.over k engine at))
                    (subst (λ c. IsUnread (setting_of old.parts) (Main c) buffer) (sym (may.in_order k engine at)) unread))
              ]

        -- the answers of the engine whose turn it is, and of more calls
        module _ (may : AreEngines told total setting first) (before : ClockEngine S) (at_first : slice_get first m ≡ Some before) (more : List Call) where
          own_here : (buffer : ℕ) → (after_calls (run_here before at_first).answers more buffer ≡ answers_in buffer (going.calls ++ more)) ⊎ IsUnread setting (Main m) buffer
          own_here buffer =
              let run_m = run_here before at_first in
              subst (λ s. (after_calls run_m.answers more buffer ≡ answers_in buffer (going.calls ++ more)) ⊎ IsUnread s (Main m) buffer) (may.over m before at_first)
              (subst (λ q. (after_calls run_m.answers more buffer ≡ answers_in buffer (going.calls ++ more)) ⊎ IsUnread (setting_of before.parts) (Main q) buffer) (may.in_order m before at_first)
              (own_this (setting_of before.parts) (Main before.parts.clock) going.calls more buffer (run_m.answers buffer) (run_m.own buffer)))

          none_here : ((buffer : ℕ) → IsUnread setting (Main m) buffer → answers_in buffer more ≡ []) → (buffer : ℕ) → IsUnread setting (Main m) buffer
              → after_calls (run_here before at_first).answers more buffer ≡ []
          none_here quiet buffer unread =
              let run_m = run_here before at_first in
              ap (λ (xs : List Answer). xs ++ answers_in buffer more)
              (none_read r going.calls before old new run_m buffer (subst (λ s. IsUnread s (Main before.parts.clock) buffer) (sym (may.over m before at_first)) (subst (λ q. IsUnread setting (Main q) buffer) (sym (may.in_order m before at_first)) unread)))
              ∙ quiet buffer unread

        pub tick_more : (may : AreEngines told total setting first) (before : ClockEngine S) → slice_get first m ≡ Some before → (c : T) → turns % length first ≡ m → turns / length first ≡ r
            → DidTick told stands old new b c
            → AreGoing told (Adds stands a c) setting total (made_by r (m + 1)) (suc turns) first (set now m new)
        unfolding run_here run_more
        tick_more may before at_first c this_clock this_round did =
            let made = did.ticked in
            let run_m = run_here before at_first in
            let ticked = made.engine r run_m.answers run_m.stands in
            let setting_is : setting_of old.parts ≡ setting = run_m.setting ∙ may.over m before at_first in
            let clock_is : old.parts.clock ≡ m = run_m.clock ∙ may.in_order m before at_first in
            let quiet : (buffer : ℕ) → IsUnread setting (Main m) buffer → answers_in buffer made.more ≡ [] = λ buffer unread.
            let W = with_rest (setting_of old.parts) (after_calls run_m.answers made.more) nothing in
            let un : IsUnread (setting_of old.parts) (Main old.parts.clock) buffer = subst (λ s. IsUnread s (Main old.parts.clock) buffer) (sym setting_is) (subst (λ q. IsUnread setting (Main q) buffer) (sym clock_is) unread) in
            ap (answers_in buffer) (ticked.are nothing) ∙ no_tick_takes W ticked.accepted old.parts.clock r buffer (record { none = un.none }) in
            record {
              calls = going.calls ++ made.more;
              taps = adds_more stands a b c going.calls made.more going.taps made.taps;
              turned = turned_more setting (length first) turns going.calls made.more ticked.accepted going.turned (Main m) (after_calls run_m.answers made.more)
                  (own_here may before at_first made.more) (none_here may before at_first made.more quiet)
                  (λ rest. subst (λ s. made.more ≡ calls_of_tick (with_rest s (after_calls run_m.answers made.more) rest) ticked.accepted (turns % length first) (turns / length first)) setting_is
                  (subst (λ q. made.more ≡ calls_of_tick (with_rest (setting_of old.parts) (after_calls run_m.answers made.more) rest) ticked.accepted q (turns / length first)) (clock_is ∙ sym this_clock)
                  (subst (λ n. made.more ≡ calls_of_tick (with_rest (setting_of old.parts) (after_calls run_m.answers made.more) rest) ticked.accepted old.parts.clock n) (sym this_round) (ticked.are rest))));
              run = record {
                size = many;
                each = λ k engine after at is. elim (same_or_other m k) [
                  | inl same ↦ (let run = run_more r going.calls engine old new (run_here engine (ap (slice_get first) same ∙ at)) stands b c did in
                      let count : suc r ≡ made_by r (m + 1) k = sym made_next ∙ ap (made_by r (m + 1)) same in
                      subst (λ e. HasRunTurns told (going.calls ++ made.more) (made_by r (m + 1) k) engine e) (this_at k after same is) (subst (λ n. HasRunTurns told (going.calls ++ made.more) n engine new) count run))
                  | inr other ↦ subst (λ n. HasRunTurns told (going.calls ++ made.more) n engine after) (sym (made_more k other))
                      (run_unbuffered going.calls made.more (made_by r m k) engine after (apart_here may before at_first made.more quiet did.fit k engine other at) (going.run.each k engine after at (other_at k after other is)))
                ];
              };
              rooms = λ k left engine is made. elim (same_or_other m k) [
                | inl same ↦ (let count : suc r ≡ made_by r (m + 1) k = sym made_next ∙ ap (made_by r (m + 1)) same in
                    let all : r + (left + 1) ≡ total = omega (arith, made, count) in
                    subst (λ e. HaveTicksRoom told e.parts e.outs left) (this_at k engine same is) (did.rooms left (left_here (left + 1) all)))
                | inr other ↦ going.rooms k left engine (other_at k engine other is) (ap (λ n. n + left) (sym (made_more k other)) ∙ made)
              ];
            }

        -- a fault of a tick leaves each engine where it was, and this one with at most a part of its tick
        pub tick_failed : (may : AreEngines told total setting first) (before : ClockEngine S) → slice_get first m ≡ Some before → (c : T) → r < total
            → turns % length first ≡ m → turns / length first ≡ r → turns ≡ r * length first + m → turns < total * length first
            → HasFailed told stands old.parts new.parts old.outs new.outs b c → GotSomePieces told old.outs new.outs → length new.outs ≡ length old.outs
            → AreParts old.parts → setting_of new.parts ≡ setting_of old.parts → new.parts.clock ≡ old.parts.clock
            → (end : End) → (end ≡ NoMemory) ⊎ IsWriteEnd told m first (set now m new) end
            → RoundsStopped told (Adds stands a c) setting total first (set now m new) end
        unfolding run_here
        tick_failed may before at_first c low this_clock this_round this_turn turn_low failed some same_outs fit setting' clock end cause =
            let run_m = run_here before at_first in
            let stopped = failed.engine r run_m.answers run_m.stands in
            let setting_is : setting_of old.parts ≡ setting = run_m.setting ∙ may.over m before at_first in
            let clock_is : old.parts.clock ≡ m = run_m.clock ∙ may.in_order m before at_first in
            let quiet : (buffer : ℕ) → IsUnread setting (Main m) buffer → answers_in buffer failed.made ≡ [] = λ buffer unread.
            let W = with_rest (setting_of old.parts) (after_calls run_m.answers failed.made) nothing in
            let begun = stopped.begun nothing in
            let un : IsUnread (setting_of old.parts) (Main old.parts.clock) buffer = subst (λ s. IsUnread s (Main old.parts.clock) buffer) (sym setting_is) (subst (λ q. IsUnread setting (Main q) buffer) (sym clock_is) unread) in
            none_begun buffer failed.made begun.rest (ap (answers_in buffer) (sym begun.are) ∙ no_tick_takes W stopped.accepted old.parts.clock r buffer (record { none = un.none })) in
            let step : (rest : ℕ → List Answer) → IsBegin failed.made (calls_of_tick (with_rest setting (after_calls run_m.answers failed.made) rest) stopped.accepted (turns % length first) (turns / length first)) =
            λ rest. subst (λ s. IsBegin failed.made (calls_of_tick (with_rest s (after_calls run_m.answers failed.made) rest) stopped.accepted (turns % length first) (turns / length first))) setting_is
            (subst (λ q. IsBegin failed.made (calls_of_tick (with_rest (setting_of old.parts) (after_calls run_m.answers failed.made) rest) stopped.accepted q (turns / length first))) (clock_is ∙ sym this_clock)
            (subst (λ n. IsBegin failed.made (calls_of_tick (with_rest (setting_of old.parts) (after_calls run_m.answers failed.made) rest) stopped.accepted old.parts.clock n)) (sym this_round) (stopped.begun rest))) in
            record {
              calls = going.calls ++ failed.made;
              taps = adds_more stands a b c going.calls failed.made going.taps failed.taps;
              begun = turned_part setting (length first) turns going.calls failed.made stopped.accepted going.turned (Main m) (after_calls run_m.answers failed.made)
                  (own_here may before at_first failed.made) (none_here may before at_first failed.made quiet) (total * length first) turn_low step;
              round = r;
              clock = m;
              below = slice_get_within first m before at_first;
              turn = subst (λ n. AreTurnsUpto setting (length first) n (going.calls ++ failed.made)) this_turn
                  (turned_upto setting (length first) turns going.calls failed.made stopped.accepted going.turned (Main m) (after_calls run_m.answers failed.made)
                  (own_here may before at_first failed.made) (none_here may before at_first failed.made quiet) step);
              part = record {
                size = many;
                each = λ k engine after at is.
                    let over : setting_of engine.parts ≡ setting = may.over k engine at in
                    subst (λ s. HasRunPart told (world s (going.calls ++ failed.made)) (ticks_by total r m k) (ticks_by total r (m + 1) k) engine after) over
                    (elim (same_or_other m k) [
                      | inl same ↦ subst (λ e. HasRunPart told (world (setting_of engine.parts) (going.calls ++ failed.made)) (ticks_by total r m k) (ticks_by total r (m + 1) k) engine e) (this_at k after same is)
                          (run_failed r going.calls engine old new (run_here engine (ap (slice_get first) same ∙ at)) stands b c (ticks_by total r m k) (ticks_by total r (m + 1) k) (least_here k same) (most_here k same) failed some same_outs setting' clock)
                      | inr other ↦ run_part (made_by r m k) (going.calls ++ failed.made) engine after after
                          (run_unbuffered going.calls failed.made (made_by r m k) engine after (apart_here may before at_first failed.made quiet fit k engine other at) (going.run.each k engine after at (other_at k after other is)))
                          (ticks_by total r m k) (ticks_by total r (m + 1) k) (min-le_right total (made_by r m k)) (most_other k other)
                    ]);
              };
              cause = cause;
            }
          where
            least_here : (k : ℕ) → m ≡ k → ticks_by total r m k ≤ r
            least_here k same =
                let is : made_by r m k ≡ r = ap (made_by r m) (sym same) ∙ made_here in
                let low = min-le_right total (made_by r m k) in
                omega (arith, is, low)

            most_here : (k : ℕ) → m ≡ k → r < ticks_by total r (m + 1) k
            most_here k same =
                let is : made_by r (m + 1) k ≡ suc r = ap (made_by r (m + 1)) (sym same) ∙ made_next in
                let all = min-eq_right {n = made_by r (m + 1) k} {m = total} (omega (arith, low, is)) in
                omega (arith, is, all)

            few : (k : ℕ) → made_by r m k ≤ total
            few k = elim (low_or_high k m) [
              | inl below_it ↦ (let is : made_by r m k ≡ suc r = rw (below k m below_it) refl in omega (arith, low, is))
              | inr high ↦ (let is : made_by r m k ≡ r = rw (not_below k m high) refl in omega (arith, low, is))
            ]

            most_other : (k : ℕ) → (m ≡ k → ⊥) → made_by r m k ≤ ticks_by total r (m + 1) k
            most_other k other =
                let is = made_more k other in
                let less = few k in
                let all = min-eq_right {n = made_by r (m + 1) k} {m = total} (omega (arith, less, is)) in
                omega (arith, is, all)

        -- the end names the sink of the fault
        pub write_end : (may : AreEngines told total setting first) (before : ClockEngine S) → slice_get first m ≡ Some before → (fault : TickFault) (end : End)
            → IsWriteFault told old.parts old.outs new.outs fault → ((sink : ℕ) → fault ≡ TickWrite sink → end ≡ Write new.parts.clock sink)
            → new.parts.clock ≡ old.parts.clock → IsWriteEnd told m first (set now m new) end
        write_end may before at fault end cause tells clock =
            let run = run_here before at in
            let order : before.parts.clock ≡ m = may.in_order m before at in
            record {
              before = before;
              after = new;
              was = at;
              is = slice_get-set_same now m new (slice_get_within now m old was);
              place = cause.place;
              sink = cause.sink;
              node = cause.node;
              there = ap (λ s. slice_get (outputs_of s m) cause.place) (sym run.setting) ∙ ap (λ c. slice_get (outputs_of (setting_of old.parts) c) cause.place) (sym (run.clock ∙ order)) ∙ cause.there;
              end_is = tells cause.sink cause.fault_is ∙ ap (λ c. Write c cause.sink) (clock ∙ run.clock ∙ order);
              rose = rose_since told cause.place before.outs old.outs new.outs run.outs (kept_got told r before.outs old.outs run.pieces) cause.rose;
            }

    -- what the engine whose turn it is has run
    pub turn : (total r m turns : ℕ) (first now : List (ClockEngine S)) (d : ClockEngine S) (a b : T) → m < length now
        → (going : AreGoing told (Adds stands a b) setting total (made_by r m) turns first now) → HasRunTurns told going.calls r (get_or first m d) (get_or now m d)
    turn total r m turns first now d a b within going =
        let size = going.run.size in
        run_here total r m turns first now (get_or now m d) a b going (read now m d within) (get_or first m d) (read first m d (omega (arith, within, size)))

    -- a whole round
    pub next_round : (total r n turns : ℕ) (first now : List (ClockEngine S)) (a b : T) → length now ≤ n
        → AreGoing told (Adds stands a b) setting total (made_by r n) turns first now → AreGoing told (Adds stands a b) setting total (made_by (r + 1) 0) turns first now
    next_round total r n turns first now a b all going = record {
      calls = going.calls;
      taps = going.taps;
      turned = going.turned;
      run = record {
        size = going.run.size;
        each = λ k before after at is. subst (λ t. HasRunTurns told going.calls t before after) (same k (omega (arith, all, slice_get_within now k after is))) (going.run.each k before after at is);
      };
      rooms = λ k left engine is made. going.rooms k left engine is (ap (λ t. t + left) (same k (omega (arith, all, slice_get_within now k engine is))) ∙ made);
    }
      where
        same : (k : ℕ) → k < n → made_by r n k ≡ made_by (r + 1) 0 k
        same k low = rw (below k n low, not_below k 0 (omega arith)) (sym (add-one r))

    -- all rounds
    pub all_rounds : (total r : ℕ) (first now : List (ClockEngine S)) (a b : T) → r ≡ total → AreGoing told (Adds stands a b) setting total (made_by r 0) (r * length first) first now
        → RoundsMade told (Adds stands a b) setting total first now
    all_rounds total r first now a b is going = record {
      calls = going.calls;
      taps = going.taps;
      turned = subst (λ n. AreTurns setting (length first) (n * length first) going.calls) is going.turned;
      run = record {
        size = going.run.size;
        each = λ k before after at there. subst (λ t. HasRunTurns told going.calls t before after) (same k) (going.run.each k before after at there);
      };
    }
      where
        same : (k : ℕ) → made_by r 0 k ≡ total
        same k = rw (not_below k 0 (omega arith)) is
