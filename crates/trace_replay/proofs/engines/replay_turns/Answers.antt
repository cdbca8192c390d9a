use Rattle.std.proofs.Common.{rules, ◌≡◌, ◌<◌, ◌≤◌, ◌+◌, ◌∙◌, ℕ, suc, List, [], drop, length, set, sym, subst, arith}
use Rattle.std.proofs.lemmas.Option.{slice_get-get_or as read}
use Rattle.std.proofs.lemmas.List.{drop_all}
use Rattle.clock_infer.proofs.Exact.{some_inj}
use Rattle.run_records.specs.Records.{setting_in}
use Rattle.trace_turns.specs.declared.course.TurnMade.{TurnMade}
use Rattle.rounds_run.specs.Rounds.{HasRunPart}
use Rattle.trace_turns.specs.Turns.{base_at, chunks_of}
use Rattle.trace_turns.specs.Orders.{AreTurns}
use Rattle.trace_replay.specs.Replaying.{ArePlaying, tale_at}
use Rattle.trace_records.specs.Traces.{text_of}
use Rattle.trace_replay.proofs.Lasting.{changed_set, one_broke, write_end}
use Rattle.trace_replay.proofs.Proceeding.{all_played, at_hand, broken_low, broken_tick, may_play, part_broken, part_now, plays_on, there}
use Rattle.trace_records.proofs.Retelling.{told_by}
use Rattle.trace_replay.proofs.engines.replay_turns.Goals as goal

pub replay_turn-requires-clause-few : goal.replay_turn-requires-clause-few
replay_turn-requires-clause-few g c =
    let low : c.loop-i.i < length c.args.turns.now = search rules in
    let playing = at_hand c.args.turns.now c.loop-i.i low c.turn_at-turn.ensures c.loop-i.invariant.playing in
    let most = playing.left.1.come.within in omega (arith, most, c.requires.few)

pub replay_turn-requires-clause-play : goal.replay_turn-requires-clause-play
replay_turn-requires-clause-play g c =
    let k = c.turn_at-turn.result.clock in
    let low : c.loop-i.i < length c.args.turns.now = search rules in
    let playing = at_hand c.args.turns.now c.loop-i.i low c.turn_at-turn.ensures c.loop-i.invariant.playing in
    let runs = playing.left.1.runs in let size = playing.size in let long = playing.long in
    let first = there c.args.engines.now k (omega (arith, runs, c.requires.all)) in (
      tale_at c.args.station.now c.args.trace.now,
      first.0,
      may_play playing c.requires.setting c.requires.sides first.1 (read c.loop-i.engines k c.index-engines-k.result (omega (arith, runs, c.requires.all, size))) (read c.loop-i.rests k c.index-rests-k.result (omega (arith, runs, c.requires.all, long))),
    )

pub loop-i-preserved : goal.loop-i-preserved
loop-i-preserved g c =
    let k = c.turn_at-turn.result.clock in
    let low : c.loop-i.i < length c.args.turns.now = search rules in
    let playing = at_hand c.args.turns.now c.loop-i.i low c.turn_at-turn.ensures c.loop-i.invariant.playing in
    let runs = playing.left.1.runs in let size = playing.size in let long = playing.long in
    let within : k < length c.loop-i.engines = omega (arith, runs, c.requires.all, size) in
    let inside : k < length c.loop-i.rests = omega (arith, runs, c.requires.all, long) in
    let first = there c.args.engines.now k (omega (arith, runs, c.requires.all)) in
    let here = read c.loop-i.engines k c.index-engines-k.result within in
    let at_rest = read c.loop-i.rests k c.index-rests-k.result inside in
    let next : suc c.loop-i.i ≡ c.loop-i.i + 1 = omega arith in
    record {
      playing = subst (λ (n : ℕ). ArePlaying g.O.Sink.told (tale_at c.args.station.now c.args.trace.now) c.args.sides.now
          (drop n c.args.turns.now) c.args.engines.now (set c.loop-i.engines k c.replay_turn.new.engine) (set c.loop-i.rests k c.replay_turn.new.rest) c.replay_turn.new.taps.buffers.items) next
          (plays_on playing c.requires.setting c.requires.sides first.1 here at_rest c.in_default.ensures.made
          (c.in_default.ensures.done (tale_at c.args.station.now c.args.trace.now) first.0 (may_play playing c.requires.setting c.requires.sides first.1 here at_rest))
          (changed_set k c.replay_turn.new.engine c.loop-i.engines within) (changed_set k c.replay_turn.new.rest c.loop-i.rests inside));
    }

pub returns-in-Err-clause-part : goal.returns-in-Err-clause-part
returns-in-Err-clause-part g c = λ run of.
    let k = c.turn_at-turn.result.clock in
    let base = base_at c.args.station.now in
    let told_is = told_by base c.args.station.now.clocks.now.running c.args.trace.now run of in
    let low : c.loop-i.i < length c.args.turns.now = search rules in
    let playing = at_hand c.args.turns.now c.loop-i.i low c.turn_at-turn.ensures c.loop-i.invariant.playing in
    let runs = playing.left.1.runs in let size = playing.size in let long = playing.long in
    let within : k < length c.loop-i.engines = omega (arith, runs, c.requires.all, size) in
    let inside : k < length c.loop-i.rests = omega (arith, runs, c.requires.all, long) in
    let first = there c.args.engines.now k (omega (arith, runs, c.requires.all)) in
    let here = read c.loop-i.engines k c.index-engines-k.result within in
    let at_rest = read c.loop-i.rests k c.index-rests-k.result inside in
    let over = c.requires.engines.over k first.0 first.1 in
    let may = may_play playing c.requires.setting c.requires.sides first.1 here at_rest in
    let broken = c.in-Err.ensures.part (tale_at c.args.station.now c.args.trace.now) first.0 may in
    let changed = changed_set k c.replay_turn.new.engine c.loop-i.engines within in
    one_broke g.O.Sink.told (setting_in base run) c.args.trace.now.ticks c.args.engines.now c.loop-i.engines playing.size playing.made playing.few
    (λ j before after was is. part_now playing c.requires.setting c.requires.engines c.requires.all run of.lawful told_is j was is)
    k c.replay_turn.new.engine _ changed
    (broken_tick playing c.requires.setting c.requires.sides first.1 here at_rest broken over) (broken_low playing c.requires.setting c.requires.sides first.1 here at_rest broken over)
    (λ before was. subst (λ x. HasRunPart g.O.Sink.told (λ rest. setting_in base run) (broken_tick playing c.requires.setting c.requires.sides first.1 here at_rest broken over) (suc (broken_tick playing c.requires.setting c.requires.sides first.1 here at_rest broken over)) x c.replay_turn.new.engine)
    (some_inj (sym first.1 ∙ was)) (part_broken playing c.requires.setting c.requires.sides first.1 here at_rest broken over run of.lawful told_is))
    c.end_of.result
    (write_end g.O.Sink.told (setting_in base run) c.args.trace.now.ticks c.args.engines.now c.loop-i.engines playing.size playing.made playing.few
    (λ j before after was is. part_now playing c.requires.setting c.requires.engines c.requires.all run of.lawful told_is j was is)
    k c.replay_turn.new.engine _ changed first.0 first.1 (c.requires.engines.in_order k first.0 first.1) c.in-Err.fault c.end_of.result c.end_of.ensures.write c.end_of.ensures.memory
    (λ sink e. c.in-Err.ensures.cause (tale_at c.args.station.now c.args.trace.now) first.0 sink may e))

pub returns-clause-done : goal.returns-clause-done
returns-clause-done g c = λ run of.
    let base = base_at c.args.station.now in
    let playing = c.loop-i.invariant.playing in
    let full : length c.args.turns.now ≤ c.loop-i.i = search rules in
    let none : drop c.loop-i.i c.args.turns.now ≡ [] = drop_all c.loop-i.i c.args.turns.now full in
    all_played playing c.requires.setting c.requires.engines c.requires.all run of.lawful (told_by base c.args.station.now.clocks.now.running c.args.trace.now run of)
    (subst (λ (l : List TurnMade). AreTurns base c.args.station.now.clocks.now.running c.args.trace.now.window c.args.trace.now.ticks (text_of c.args.trace.now.buffers) l playing.made (chunks_of playing.full)) none playing.left)
