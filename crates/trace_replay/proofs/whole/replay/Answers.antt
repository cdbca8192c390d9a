use Rattle.std.proofs.Common.{◌∙◌, map, rules, ap, sym}
use Rattle.run_records.specs.Records.{setting_in}
use Rattle.trace_replay.specs.Replays.{counts_in}
use Rattle.trace_records.specs.Traces.{text_of, base_of}
use Rattle.trace_replay.proofs.Lasting.{all_to, ended_so}
use Rattle.trace_replay.proofs.Counting.{counts_told, logs_told}
use Rattle.trace_records.proofs.Retelling.{record_of}
use Rattle.trace_records.proofs.Completing.{record_formed}
use Rattle.trace_replay.proofs.whole.replay.Goals as goal

pub replay_engines-requires : goal.replay_engines-requires
replay_engines-requires g c = record {
  few = c.requires.trace.bounds.ticks_most;
  setting = c.requires.setting;
  sides = search rules;
  engines = c.requires.engines;
  all = c.requires.all;
  formed = record_formed (base_of c.args.plan.now c.args.library.now c.args.clocks.now c.args.start.second) c.args.clocks.now c.requires.setting c.args.trace.now.window c.args.trace.now.ticks (text_of c.args.trace.now.buffers)
      c.requires.accepted.ordered.run c.requires.accepted.ordered.lawful c.requires.accepted.ordered.told;
  told = search rules;
  empty = search rules;
  kept = search rules;
  turns = search rules;
}

pub returns-in-Ok-clause-done : goal.returns-in-Ok-clause-done
returns-in-Ok-clause-done g c = λ is. record {
  run = c.requires.accepted.ordered.run;
  of = record_of (base_of c.args.plan.now c.args.library.now c.args.clocks.now c.args.start.second) c.args.clocks.now.running c.args.trace.now c.requires.accepted;
  engines = c.in-Ok.ensures.done c.requires.accepted.ordered.run (record_of (base_of c.args.plan.now c.args.library.now c.args.clocks.now c.args.start.second) c.args.clocks.now.running c.args.trace.now c.requires.accepted);
  counts_are = c.told_or_ended.ensures.counts is ∙ ap (map counts_in) c.logs_of-logs.ensures ∙ counts_told (base_of c.args.plan.now c.args.library.now c.args.clocks.now c.args.start.second) c.args.clocks.now.running c.args.trace.now c.requires.accepted.ordered.run (record_of (base_of c.args.plan.now c.args.library.now c.args.clocks.now c.args.start.second) c.args.clocks.now.running c.args.trace.now c.requires.accepted);
  logs_are = c.told_or_ended.ensures.logs is ∙ c.logs_of-logs.ensures ∙ logs_told (base_of c.args.plan.now c.args.library.now c.args.clocks.now c.args.start.second) c.args.clocks.now.running c.args.trace.now c.requires.accepted.ordered.run (record_of (base_of c.args.plan.now c.args.library.now c.args.clocks.now c.args.start.second) c.args.clocks.now.running c.args.trace.now c.requires.accepted);
}

pub returns-in-Ok-clause-part : goal.returns-in-Ok-clause-part
returns-in-Ok-clause-part g c = record {
  run = c.requires.accepted.ordered.run;
  of = record_of (base_of c.args.plan.now c.args.library.now c.args.clocks.now c.args.start.second) c.args.clocks.now.running c.args.trace.now c.requires.accepted;
  part = all_to g.O.Sink.told (setting_in (base_of c.args.plan.now c.args.library.now c.args.clocks.now c.args.start.second) c.requires.accepted.ordered.run) c.args.trace.now.ticks c.args.engines.now c.replay_engines.new.engines (c.in-Ok.ensures.done c.requires.accepted.ordered.run (record_of (base_of c.args.plan.now c.args.library.now c.args.clocks.now c.args.start.second) c.args.clocks.now.running c.args.trace.now c.requires.accepted)) c.told_or_ended.result.end c.told_or_ended.ensures.ended;
}

pub returns-clause-part : goal.returns-clause-part
returns-clause-part g c = record {
  run = c.requires.accepted.ordered.run;
  of = record_of (base_of c.args.plan.now c.args.library.now c.args.clocks.now c.args.start.second) c.args.clocks.now.running c.args.trace.now c.requires.accepted;
  part = ended_so g.O.Sink.told (setting_in (base_of c.args.plan.now c.args.library.now c.args.clocks.now c.args.start.second) c.requires.accepted.ordered.run) c.args.trace.now.ticks c.args.engines.now c.replay_engines.new.engines c.in-Err.end c.ended.result.end c.ended.ensures (c.in-Err.ensures.part c.requires.accepted.ordered.run (record_of (base_of c.args.plan.now c.args.library.now c.args.clocks.now c.args.start.second) c.args.clocks.now.running c.args.trace.now c.requires.accepted));
}

pub returns-clause-done : goal.returns-clause-done
returns-clause-done g c = λ is. absurd (c.in-Err.ensures.stopped (sym c.ended.ensures ∙ is))
