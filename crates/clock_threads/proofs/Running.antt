-- A task's ticks.
use Rattle.std.proofs.Common.{◌≡◌, ℕ, suc, ◌<◌, ◌≤◌, ◌+◌, ◌*◌, List, ◌++◌, length, sym, refl, ap, ◌∙◌, subst, arith, append_assoc, append-nil, add-zero, add-suc, Option, Some, None, true}
use Rattle.frame_core.specs.Calls.{Call, Answer}
use Rattle.stream_meaning.specs.Instants.{Setting, with_rest}
use Rattle.stream_meaning.specs.Calls.{IsBegin, after_calls, calls_of_tick}
use Rattle.stream_meaning.specs.Sinks.{ticks_bytes, IsOutput}
use Rattle.liq_base.specs.Pieces.{IsPrefix, SinkTold, grown}
use Rattle.clock_ticks.specs.declared.engine.ClockEngine.{ClockEngine}
use Rattle.clock_ticks.specs.Engines.{EngineStands, setting_of, held_of}
use Rattle.clock_ticks.proofs.Pieces.{got_more, got_none, got_part, kept_none, kept_then}
use Rattle.clock_ticks.specs.Pieces.{GotSomePieces}
use Rattle.clock_ticks.specs.Ticks.{HasMade, HasFailed, HaveTicksRoom, HaveTickRoom, IsWriteFault, TookTick, piece_size}
use Rattle.clock_ticks.specs.declared.fault.TickFault.{TickFault}
use Rattle.clock_ticks.specs.declared.fault.TickFault.TheVariants.{Memory as OutOfMemory, Write}
use Rattle.clock_ticks.specs.declared.engine.EngineParts.{EngineParts}
use Rattle.std.proofs.Math.Nat.{mul-le-mul_right}
use Rattle.clock_threads.specs.declared.task.Task.{Task}
use Rattle.clock_threads.specs.TickCalls.{AreTicks, TickCalls, answers_by, joined_from, Agree, HasGone, HasGonePart}
use Rattle.clock_threads.specs.TaskRuns.{IsSameClock, stands_for, stopped_for, EngineGone, WentOn, WasRun}
use Rattle.clock_threads.proofs.Writing.{write_of, write_since}
use Rattle.clock_threads.proofs.Walking.{agree_none, agree_then, joined_alike, extended, extended_at, extended_below, gone_more, gone_part}

pub same_then : {S : Type 0} (told : S → SinkTold) (a b c : ClockEngine S) → IsSameClock told a b → IsSameClock told b c → IsSameClock told a c
same_then told a b c x y = record {
  setting = y.setting ∙ x.setting;
  clock = y.clock ∙ x.clock;
  outs = y.outs ∙ x.outs;
  kept = kept_then told a.outs b.outs c.outs x.outs x.kept y.kept;
  keeping = y.keeping ∙ x.keeping;
}

-- what is known of a task after so many ticks without a fault
pub record Running {S T : Type 0} (told : S → SinkTold) (stands : T → List Call → Type 0) (buffers : T → ℕ) (same : T → T → Type 0)
    (count : ℕ) (old new : Task S T) : Type 0 where
  pub clock : IsSameClock told old.engine new.engine
  pub taps : same old.taps new.taps
  pub many : buffers new.taps ≡ buffers old.taps
  pub on : (t : ℕ) (tick_calls : TickCalls) (first : ℕ → Option (List ℕ)) → EngineGone told t tick_calls first old.engine → WentOn told stands count t tick_calls first old new
  pub rooms : (n : ℕ) → HaveTicksRoom told old.engine.parts old.engine.outs (n + count) → HaveTicksRoom told new.engine.parts new.engine.outs n
  pub engine : (t : ℕ) (answers : ℕ → List Answer) → EngineStands old.engine.parts t answers → (more : ℕ → List Answer) × EngineStands new.engine.parts (t + count) more
  pub runs : new.engine.parts.stopped ≡ None

-- an engine that stopped, by another name of its setting and its clock
pub part_moved : {S : Type 0} (setting other : Setting) (m k : ℕ) (held : ClockEngine S → ℕ → Option (List ℕ)) (t : ℕ) (tick_calls : TickCalls) (first : ℕ → Option (List ℕ)) (e : ClockEngine S) → setting ≡ other → m ≡ k
    → (part : HasGonePart setting stopped_for held m t tick_calls first e) → (moved : HasGonePart other stopped_for held k t tick_calls first e) × (moved.made ≡ part.made)
part_moved setting other m k held t tick_calls first e same clock part = (
  record {
    ticks = subst (λ (z : Setting × ℕ). AreTicks z.0 z.1 t tick_calls) (λ i. (same i, clock i)) part.ticks;
    made = part.made;
    halted = part.halted;
    accepted = part.accepted;
    begun = subst (λ (z : Setting × ℕ). (rest : ℕ → List Answer) → IsBegin part.made (calls_of_tick (with_rest z.0 (after_calls (answers_by tick_calls t) part.made) rest) part.accepted z.1 t)) (λ i. (same i, clock i)) part.begun;
    part = subst (λ (z : Setting × ℕ). (rest : ℕ → List Answer) (sink node : ℕ) (output : IsOutput z.0 z.1 sink node) → (front : List ℕ)
        × IsPrefix (ticks_bytes (with_rest z.0 (after_calls (answers_by tick_calls t) part.made) rest) output.wide node t) front
        × IsPrefix front (ticks_bytes (with_rest z.0 (after_calls (answers_by tick_calls t) part.made) rest) output.wide node (suc t)) × (held e sink ≡ grown front (first sink))) (λ i. (same i, clock i)) part.part;
  },
  refl,
)

-- what stopped is not nothing, and is one fault
some_not_none : {A : Type 0} {o : Option A} {x : A} → o ≡ Some x → o ≡ None → ⊥
some_not_none is none = cc

some_is : {A : Type 0} {o : Option A} (x y : A) → o ≡ Some x → o ≡ Some y → x ≡ y
some_is x y one other = cc

module _ {S T : Type 0} (told : S → SinkTold) (stands : T → List Call → Type 0) (buffers : T → ℕ) (same : T → T → Type 0) where
  pub running_none : (x : Task S T) → same x.taps x.taps → x.engine.parts.stopped ≡ None → Running told stands buffers same 0 x x
  running_none x s runs = record {
    clock = record { setting = refl; clock = refl; outs = refl; kept = kept_none told x.engine.outs; keeping = refl };
    taps = s;
    many = refl;
    on = λ t h first gone. record {
      after = h;
      agree = agree_none t h;
      gone = subst (λ n. EngineGone told n h first x.engine) (sym (add-zero t)) gone;
      pieces = got_none told x.engine.outs;
      taps = λ calls st. subst (λ l. stands x.taps l) (sym (append-nil calls)) st;
    };
    rooms = λ n r. subst (λ k. HaveTicksRoom told x.engine.parts x.engine.outs k) (add-zero n) r;
    engine = λ t answers st. (answers, subst (λ n. EngineStands x.engine.parts n answers) (sym (add-zero t)) st);
    runs = runs;
  }

  module _ (count : ℕ) (x y : Task S T) (e : ClockEngine S) (s : T) (running : Running told stands buffers same count x y) (same_clock : IsSameClock told y.engine e) where
    pub running_more : same x.taps s → buffers s ≡ buffers y.taps
        → HasMade told stands y.engine.parts e.parts y.engine.outs e.outs y.taps s
        → TookTick told y.engine.parts y.engine.outs e.outs
        → ((n : ℕ) → HaveTicksRoom told y.engine.parts y.engine.outs (n + 1) → HaveTicksRoom told e.parts e.outs n) → e.parts.stopped ≡ None
        → Running told stands buffers same (suc count) x (record { engine = e; taps = s })
    running_more taps many made took rooms runs = record {
      clock = same_then told x.engine y.engine e running.clock same_clock;
      taps = taps;
      many = many ∙ running.many;
      on = λ t h first gone.
          let w = running.on t h first gone in
          let ticked = made.engine (t + count) _ w.gone.stand in
          let after : TickCalls = extended w.after (t + count) made.more ticked.accepted in
          let below : Agree (t + count) w.after after = extended_below w.after (t + count) made.more ticked.accepted in
          let all = gone_more (setting_of y.engine.parts) stands_for (held_of told) y.engine.parts.clock (t + count) w.after first y.engine e w.gone made.more ticked in
          record {
            after = after;
            agree = agree_then t (t + count) h w.after after (omega arith) w.agree below;
            gone = subst (λ (z : Setting × ℕ × ℕ). HasGone z.0 stands_for (held_of told) z.1 z.2 after first e)
                (λ i. (sym same_clock.setting i, sym same_clock.clock i, sym (add-suc t count) i)) all;
            pieces = got_more told y.engine.parts count x.engine.outs y.engine.outs e.outs running.clock.outs w.pieces took;
            taps = λ calls st.
                let old : joined_from after.calls t count ≡ joined_from w.after.calls t count =
                joined_alike (λ j. after.calls (t + j)) (λ j. w.after.calls (t + j)) count (λ j less. below.calls (t + j) (omega (arith, less))) in
                let at : after.calls (t + count) ≡ made.more = extended_at w.after (t + count) made.more ticked.accepted in
                subst (λ l. stands s l) (append_assoc calls (joined_from w.after.calls t count) made.more ∙ (λ i. calls ++ (sym old i ++ sym at i))) (made.taps (calls ++ joined_from w.after.calls t count) (w.taps calls st));
          };
      rooms = λ n r. rooms n (running.rooms (n + 1) (subst (λ k. HaveTicksRoom told x.engine.parts x.engine.outs k) (grind arith) r));
      engine = λ t answers st. (let m = running.engine t answers st in let ticked = made.engine (t + count) m.0 m.1 in
          (after_calls m.0 made.more, subst (λ n. EngineStands e.parts n (after_calls m.0 made.more)) (sym (add-suc t count)) ticked.stand));
      runs = runs;
    }

    pub running_broke : (whole : ℕ) → count < whole → same x.taps s → buffers s ≡ buffers y.taps
        → HasFailed told stands y.engine.parts e.parts y.engine.outs e.outs y.taps s → GotSomePieces told y.engine.outs e.outs
        → (fault : TickFault) → e.parts.stopped ≡ Some fault → ((sink : ℕ) → fault ≡ Write sink → IsWriteFault told y.engine.parts y.engine.outs e.outs fault)
        → ((y.engine.parts.cues.keeping ≡ true → ⊥) → fault ≡ OutOfMemory → 0 < length y.engine.parts.scene.plan.now.buffers)
        → WasRun told stands buffers same whole x (record { engine = e; taps = s })
    running_broke whole fewer taps many failed some fault stopped cause memory = record {
      clock = same_then told x.engine y.engine e running.clock same_clock;
      taps = taps;
      many = many ∙ running.many;
      ran = record {
        on = λ t h first gone runs. absurd (some_not_none stopped runs);
        halted = λ t h first gone no.
            let w = running.on t h first gone in
            let part = gone_part (setting_of y.engine.parts) stands_for (held_of told) y.engine.parts.clock (t + count) w.after first y.engine e w.gone stopped_for failed.made
            (failed.engine (t + count) _ w.gone.stand) (failed.halted (t + count) _ w.gone.stand) in
            let moved = part_moved (setting_of y.engine.parts) (setting_of e.parts) y.engine.parts.clock e.parts.clock (held_of told) (t + count) w.after first e (sym same_clock.setting) (sym same_clock.clock) part.0 in
            record {
              made = count;
              fewer = fewer;
              after = w.after;
              agree = w.agree;
              part = moved.0;
              pieces = got_part told count count (suc count) x.engine.outs y.engine.outs e.outs (omega arith) (omega arith) running.clock.outs w.pieces some;
              taps = λ calls st. subst (λ l. stands s l) (append_assoc calls (joined_from w.after.calls t count) failed.made ∙ ap (λ l. calls ++ (joined_from w.after.calls t count ++ l)) (sym (moved.1 ∙ part.1)))
                  (failed.taps (calls ++ joined_from w.after.calls t count) (w.taps calls st));
            };
      };
      write = λ sink is. (let e' : fault ≡ Write sink = some_is fault (Write sink) stopped is in
          write_since told x.engine y.engine e sink running.clock
          (write_of told y.engine e sink (subst (IsWriteFault told y.engine.parts y.engine.outs e.outs) e' (cause sink e'))));
      rooms = λ n runs. absurd (some_not_none stopped runs);
      memory = λ none is. subst (λ n. 0 < n) (ap (λ (set : Setting). length set.plan.buffers) running.clock.setting)
          (memory (λ keeps. none (sym running.clock.keeping ∙ keeps)) (some_is fault OutOfMemory stopped is));
    }

  pub running_all : (count whole : ℕ) (x y : Task S T) → count ≡ whole → Running told stands buffers same count x y → WasRun told stands buffers same whole x y
  running_all count whole x y is running = subst (λ n. WasRun told stands buffers same n x y) is (record {
    clock = running.clock;
    taps = running.taps;
    many = running.many;
    ran = record { on = λ t h first gone runs. running.on t h first gone; halted = λ t h first gone no. absurd (no running.runs) };
    write = λ sink is. absurd (some_not_none is running.runs);
    rooms = λ n runs. running.rooms n;
    memory = λ none is. absurd (some_not_none is running.runs);
  })

module _ {S : Type 0} (told : S → SinkTold) (parts : EngineParts) (outs : List S) where
  pub rooms_fewer : (m n : ℕ) → m ≤ n → HaveTicksRoom told parts outs n → HaveTicksRoom told parts outs m
  rooms_fewer m n h r = record {
    each = λ k sink node out p o left e. (let most = r.each k sink node out p o left e in
        let less : m * piece_size (setting_of parts) sink node ≤ n * piece_size (setting_of parts) sink node = mul-le-mul_right (piece_size (setting_of parts) sink node) h in omega (arith, most, less));
  }

  pub room_one : HaveTicksRoom told parts outs 1 → HaveTickRoom told parts outs
  room_one r = record {
    each = λ k sink node out p o left e. (let most = r.each k sink node out p o left e in
        let one : 1 * piece_size (setting_of parts) sink node ≡ piece_size (setting_of parts) sink node = grind arith in omega (arith, most, one));
  }
