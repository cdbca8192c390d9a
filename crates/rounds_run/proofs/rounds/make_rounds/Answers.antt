use Rattle.std.proofs.Common.{rules, ◌≡◌, ◌<◌, ◌≤◌, ◌+◌, ◌*◌, ◌∙◌, suc, length, get_or, set, arith, ap, sym, refl, subst, inl, inr, true}
use Rattle.frame_core.specs.Calls.{Adds}
use Rattle.std.proofs.lemmas.List.{get_or-set_same}
use Rattle.std.proofs.lemmas.Nat.{mod-mul-add, div-mul-add}
use Rattle.std.proofs.Math.Nat.{suc-mul, mul-le-mul_right}
use Rattle.std.proofs.lemmas.Option.{slice_get-get_or as read}
use Rattle.buffer_ends.specs.declared.run_end.End.TheVariants.{Write}
use Rattle.rounds_run.specs.Rounds.{AreGoing, made_by}
use Rattle.clock_ticks.specs.declared.fault.TickFault.TheVariants.{Memory as OutOfMemory}
use Rattle.clock_ticks.proofs.Needing.{has_buffers}
use Rattle.rounds_run.proofs.Going.{all_rounds, begin, fault_is, next_round, tick_failed, tick_more, tick_room, turn, write_end}
use Rattle.rounds_run.proofs.rounds.make_rounds.Goals as goal

pub loop-round-init : goal.loop-round-init
loop-round-init g c = record {
  buffers = refl;
  same = g.met.T.Taps.same_refl c.args.taps.now;
  goes = λ setting are.
      let none : 0 ≡ 0 * length c.args.engines.now = omega arith in
      subst (λ n. AreGoing g.O.Sink.told (Adds g.T.Taps.stands c.args.taps.now c.args.taps.now) setting c.args.ticks (made_by 0 0) n c.args.engines.now c.args.engines.now) none
      (begin g.O.Sink.told g.T.Taps.stands setting c.args.ticks c.args.engines.now c.args.taps.now are);
}

pub loop-k-init : goal.loop-k-init
loop-k-init g c = record {
  buffers = c.loop-round.invariant.buffers;
  same = c.loop-round.invariant.same;
  goes = λ setting are.
      let same : c.loop-round._round * length c.args.engines.now ≡ c.loop-round._round * length c.args.engines.now + 0 = omega arith in
      subst (λ n. AreGoing g.O.Sink.told (Adds g.T.Taps.stands c.args.taps.now c.loop-round.taps) setting c.args.ticks (made_by c.loop-round._round 0) n c.args.engines.now c.loop-round.engines) same (c.loop-round.invariant.goes setting are);
}

pub tick-requires-clause-runs : goal.tick-requires-clause-runs
tick-requires-clause-runs g c =
    let within : c.loop-k.k < length c.loop-k.engines = search rules in
    let setting = c.requires.engines.0 in
    let going = c.loop-k.invariant.goes setting c.requires.engines.1 in
    (turn g.O.Sink.told g.T.Taps.stands setting c.args.ticks c.loop-round._round c.loop-k.k _ c.args.engines.now c.loop-k.engines c.index-engines-k.result _ _ within going).stands.runs

pub tick-requires-clause-few : goal.tick-requires-clause-few
tick-requires-clause-few g c =
    let within : c.loop-k.k < length c.loop-k.engines = search rules in
    let setting = c.requires.engines.0 in
    let going = c.loop-k.invariant.goes setting c.requires.engines.1 in
    let made = (turn g.O.Sink.told g.T.Taps.stands setting c.args.ticks c.loop-round._round c.loop-k.k _ c.args.engines.now c.loop-k.engines c.index-engines-k.result _ _ within going).stands.made in
    omega (arith, made, c.loop-round-test.true, c.requires.few)

pub tick-requires-clause-room : goal.tick-requires-clause-room
tick-requires-clause-room g c =
    let within : c.loop-k.k < length c.loop-k.engines = search rules in
    let setting = c.requires.engines.0 in
    let going = c.loop-k.invariant.goes setting c.requires.engines.1 in
    tick_room g.O.Sink.told g.T.Taps.stands setting c.args.ticks c.loop-round._round c.loop-k.k _ c.args.engines.now c.loop-k.engines
    (get_or c.loop-k.engines c.loop-k.k c.index-engines-k.result) _ _ going (read c.loop-k.engines c.loop-k.k c.index-engines-k.result within) c.loop-round-test.true

pub tick-requires-clause-buffers : goal.tick-requires-clause-buffers
tick-requires-clause-buffers g c =
    let within : c.loop-k.k < length c.loop-k.engines = search rules in
    let setting = c.requires.engines.0 in
    let going = c.loop-k.invariant.goes setting c.requires.engines.1 in
    let run = turn g.O.Sink.told g.T.Taps.stands setting c.args.ticks c.loop-round._round c.loop-k.k _ c.args.engines.now c.loop-k.engines c.index-engines-k.result _ _ within going in
    let size = going.run.size in
    c.loop-k.invariant.buffers
    ∙ c.requires.buffers.each c.loop-k.k (get_or c.args.engines.now c.loop-k.k c.index-engines-k.result) (read c.args.engines.now c.loop-k.k c.index-engines-k.result (omega (arith, within, size)))
    ∙ ap (λ s. length s.plan.buffers) (sym run.setting)

pub returns-in-Err-clause-stopped : goal.returns-in-Err-clause-stopped
returns-in-Err-clause-stopped g c = λ setting are.
    let within : c.loop-k.k < length c.loop-k.engines = search rules in
    let going = c.loop-k.invariant.goes setting are in
    let size = going.run.size in
    let low : c.loop-k.k < length c.args.engines.now = omega (arith, within, size) in
    let next = suc-mul c.loop-round._round (length c.args.engines.now) in
    let all = mul-le-mul_right (length c.args.engines.now) c.loop-round-test.true in
    let turns : c.loop-round._round * length c.args.engines.now + c.loop-k.k < c.args.ticks * length c.args.engines.now = omega (arith, low, next, all) in
    let here = read c.loop-k.engines c.loop-k.k c.index-engines-k.result within in
    let before = read c.args.engines.now c.loop-k.k c.index-engines-k.result low in
    tick_failed g.O.Sink.told g.T.Taps.stands setting c.args.ticks c.loop-round._round c.loop-k.k (c.loop-round._round * length c.args.engines.now + c.loop-k.k) c.args.engines.now c.loop-k.engines
    (get_or c.loop-k.engines c.loop-k.k c.index-engines-k.result) _ _ going here
    c.tick.new.self are (get_or c.args.engines.now c.loop-k.k c.index-engines-k.result) before
    c.tick.new.taps c.loop-round-test.true
    (mod-mul-add c.loop-round._round (length c.args.engines.now) c.loop-k.k low) (div-mul-add c.loop-round._round (length c.args.engines.now) c.loop-k.k low) refl turns
    c.in-Err.ensures.stopped c.in-Err.ensures.part c.tick.ensures.outs
    c.tick.ensures.whole.parts c.tick.ensures.setting c.tick.ensures.clock c.end_of.result
    (elim (fault_is c.in-Err.fault) [
      | inr memory ↦ inl (c.end_of.ensures.memory memory)
      | inl write ↦ inr (write_end g.O.Sink.told g.T.Taps.stands setting c.args.ticks c.loop-round._round c.loop-k.k _ c.args.engines.now c.loop-k.engines
          (get_or c.loop-k.engines c.loop-k.k c.index-engines-k.result) _ _ going here
          c.tick.new.self are (get_or c.args.engines.now c.loop-k.k c.index-engines-k.result) before c.in-Err.fault c.end_of.result (c.in-Err.ensures.cause write.0 write.1)
          (λ sink e. c.end_of.ensures.write sink e ∙ ap (λ n. Write n sink) c.clock.ensures
          ∙ ap (λ x. Write x.parts.clock sink) (get_or-set_same c.loop-k.engines c.loop-k.k c.tick.new.self c.index-engines-k-in-Err.result within))
          c.tick.ensures.clock)
    ])

pub loop-k-preserved : goal.loop-k-preserved
loop-k-preserved g c =
    let within : c.loop-k.k < length c.loop-k.engines = search rules in
    let turns : suc (c.loop-round._round * length c.args.engines.now + c.loop-k.k) ≡ c.loop-round._round * length c.args.engines.now + (c.loop-k.k + 1) = omega arith in
    record {
      buffers = c.tick.ensures.buffers ∙ c.loop-k.invariant.buffers;
      same = g.met.T.Taps.same_trans c.args.taps.now c.loop-k.taps c.tick.new.taps c.loop-k.invariant.same c.tick.ensures.taps;
      goes = λ setting are.
          let going = c.loop-k.invariant.goes setting are in
          let size = going.run.size in
          let low : c.loop-k.k < length c.args.engines.now = omega (arith, within, size) in
          subst (λ n. AreGoing g.O.Sink.told (Adds g.T.Taps.stands c.args.taps.now c.tick.new.taps) setting c.args.ticks (made_by c.loop-round._round (c.loop-k.k + 1)) n c.args.engines.now (set c.loop-k.engines c.loop-k.k c.tick.new.self)) turns
          (tick_more g.O.Sink.told g.T.Taps.stands setting c.args.ticks c.loop-round._round c.loop-k.k (c.loop-round._round * length c.args.engines.now + c.loop-k.k) c.args.engines.now c.loop-k.engines
          (get_or c.loop-k.engines c.loop-k.k c.index-engines-k.result) _ _ going (read c.loop-k.engines c.loop-k.k c.index-engines-k.result within)
          c.tick.new.self are (get_or c.args.engines.now c.loop-k.k c.index-engines-k.result) (read c.args.engines.now c.loop-k.k c.index-engines-k.result low) c.tick.new.taps
          (mod-mul-add c.loop-round._round (length c.args.engines.now) c.loop-k.k low) (div-mul-add c.loop-round._round (length c.args.engines.now) c.loop-k.k low)
          (record {
            fit = c.tick.ensures.whole.parts;
            setting = c.tick.ensures.setting;
            clock = c.tick.ensures.clock;
            keeping = c.in_default.ensures.keeping;
            ticked = c.in_default.ensures.ticked;
            outs = c.tick.ensures.outs;
            took = c.in_default.ensures.took;
            rooms = c.in_default.ensures.room;
          }));
    }

pub loop-round-preserved : goal.loop-round-preserved
loop-round-preserved g c =
    let all : length c.loop-k.engines ≤ c.loop-k.k = search rules in
    let low : c.loop-k.k ≤ length c.loop-k.engines = search rules in
    let next = suc-mul c.loop-round._round (length c.args.engines.now) in
    let one : c.loop-round._round + 1 ≡ suc c.loop-round._round = omega arith in
    record {
      buffers = c.loop-k.invariant.buffers;
      same = c.loop-k.invariant.same;
      goes = λ setting are.
          let going = c.loop-k.invariant.goes setting are in
          let size = going.run.size in
          let count : c.loop-round._round * length c.args.engines.now + c.loop-k.k ≡ (c.loop-round._round + 1) * length c.args.engines.now =
          (let more = ap (λ n. n * length c.args.engines.now) one in omega (arith, all, low, size, next, more)) in
          subst (λ n. AreGoing g.O.Sink.told (Adds g.T.Taps.stands c.args.taps.now c.loop-k.taps) setting c.args.ticks (made_by (c.loop-round._round + 1) 0) n c.args.engines.now c.loop-k.engines) count
          (next_round g.O.Sink.told g.T.Taps.stands setting c.args.ticks c.loop-round._round c.loop-k.k _ c.args.engines.now c.loop-k.engines _ _ all going);
    }

pub returns-clause-done : goal.returns-clause-done
returns-clause-done g c = λ setting are.
    let is : c.loop-round._round ≡ c.args.ticks = search rules in
    all_rounds g.O.Sink.told g.T.Taps.stands setting c.args.ticks c.loop-round._round c.args.engines.now c.loop-round.engines _ _ is (c.loop-round.invariant.goes setting are)

pub returns-in-Err-clause-memory : goal.returns-in-Err-clause-memory
returns-in-Err-clause-memory g c = λ none is.
    let within : c.loop-k.k < length c.loop-k.engines = search rules in
    let setting = c.requires.engines.0 in
    let going = c.loop-k.invariant.goes setting c.requires.engines.1 in
    let run = turn g.O.Sink.told g.T.Taps.stands setting c.args.ticks c.loop-round._round c.loop-k.k _ c.args.engines.now c.loop-k.engines c.index-engines-k.result _ _ within going in
    let size = going.run.size in
    let many = c.requires.buffers.each c.loop-k.k (get_or c.args.engines.now c.loop-k.k c.index-engines-k.result) (read c.args.engines.now c.loop-k.k c.index-engines-k.result (omega (arith, within, size)))
    ∙ ap (λ s. length s.plan.buffers) (sym run.setting) in
    let refused : c.in-Err.fault ≡ OutOfMemory = elim (fault_is c.in-Err.fault) [
      | inr memory ↦ memory
      | inl write ↦ absurd (let w = c.end_of.ensures.write write.0 write.1 in cc)
    ] in
    let kept : (get_or c.loop-k.engines c.loop-k.k c.index-engines-k.result).parts.cues.keeping ≡ true → ⊥ =
    λ keeping. none.each c.loop-k.k (get_or c.args.engines.now c.loop-k.k c.index-engines-k.result) (read c.args.engines.now c.loop-k.k c.index-engines-k.result (omega (arith, within, size))) (sym run.keeping ∙ keeping) in
    let some = has_buffers _ c.tick.ensures.whole.parts kept (c.in-Err.ensures.memory refused) in
    omega (arith, many, some)
