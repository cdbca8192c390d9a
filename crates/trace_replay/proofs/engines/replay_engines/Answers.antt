use Rattle.std.proofs.Common.{rules, List, length, refl, sym, subst}
use Rattle.run_records.specs.Records.{setting_in}
use Rattle.buffer_ends.specs.declared.run_end.End.TheVariants.{Memory as NoMemory}
use Rattle.trace_replay.specs.declared.engines.Rest.{Rest}
use Rattle.trace_turns.specs.Turns.{base_at}
use Rattle.trace_replay.specs.Replaying.{AreNewRests, ArePlaying, tale_at}
use Rattle.trace_replay.proofs.Lasting.{none_made}
use Rattle.trace_replay.proofs.Proceeding.{begin_playing}
use Rattle.trace_replay.proofs.engines.replay_engines.Goals as goal

pub replay_turns-requires-clause-playing : goal.replay_turns-requires-clause-playing
replay_turns-requires-clause-playing g c =
    let tale = tale_at c.args.station.now c.args.trace.now in
    let new : AreNewRests (length c.args.engines.now) (length c.args.taps.now.buffers.items) c.in-Ok.rests.items = search rules in
    subst (λ (l : List Rest). ArePlaying g.O.Sink.told tale c.args.sides.now c.args.turns.now c.args.engines.now c.args.engines.now l c.args.taps.now.buffers.items) (sym c.deref_mut.ensures.value)
    (begin_playing g.O.Sink.told tale c.requires.setting c.args.sides.now c.requires.formed c.args.taps.now.buffers.items c.requires.told c.requires.empty c.requires.kept c.args.engines.now c.in-Ok.rests.items c.args.turns.now
    c.requires.engines new c.requires.turns)

pub returns-in_default-clause-part : goal.returns-in_default-clause-part
returns-in_default-clause-part g c = λ run of. none_made g.O.Sink.told (setting_in (base_at c.args.station.now) run) c.args.trace.now.ticks c.args.engines.now NoMemory refl
