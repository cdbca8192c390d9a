use Rattle.std.proofs.Common.{map, sym, subst}
use Rattle.buffer_ends.specs.Local.{all_answers, counts_of}
use Rattle.rounds_run.specs.Runs.{HasRunAll, HasRunSome}
use Rattle.rounds_run.proofs.Endings.{all_made, all_told, none_made, one_stopped}
use Rattle.rounds_run.proofs.run.run_rounds.Goals as goal

pub returns-in_default-clause-part : goal.returns-in_default-clause-part
returns-in_default-clause-part g c = λ setting over. none_made g.O.Sink.told c.args.plan.now c.args.ticks setting c.args.engines.now over c.ended.result.end c.ended.ensures

pub returns-in-Ok-make_rounds-clause-done : goal.returns-in-Ok-make_rounds-clause-done
returns-in-Ok-make_rounds-clause-done g c = λ is setting over.
    subst (λ counts. HasRunAll g.O.Sink.told setting c.args.ticks c.args.engines.now c.make_rounds.new.engines counts c.told_or_ended.result.logs.items)
    (sym (c.told_or_ended.ensures.counts is))
    (subst (λ logs. HasRunAll g.O.Sink.told setting c.args.ticks c.args.engines.now c.make_rounds.new.engines (map (λ list. counts_of (all_answers list)) c.make_rounds.new.taps) logs)
    (sym (c.told_or_ended.ensures.logs is))
    (all_told g.O.Sink.told c.args.plan.now c.args.ticks setting c.args.engines.now c.make_rounds.new.engines over c.in-Ok.taps c.make_rounds.new.taps
    c.in-Ok.ensures.empty c.in-Ok.ensures.stands c.make_rounds.ensures.same (c.in-Ok-make_rounds.ensures.done setting over.are)))

pub returns-in-Ok-make_rounds-clause-part : goal.returns-in-Ok-make_rounds-clause-part
returns-in-Ok-make_rounds-clause-part g c = λ setting over.
    all_made g.O.Sink.told c.args.plan.now c.args.ticks setting c.args.engines.now c.make_rounds.new.engines over c.in-Ok.taps c.make_rounds.new.taps
    c.in-Ok.ensures.empty c.in-Ok.ensures.stands c.make_rounds.ensures.same (c.in-Ok-make_rounds.ensures.done setting over.are) c.told_or_ended.result.end c.told_or_ended.ensures.ended

pub returns-in-Err-clause-part : goal.returns-in-Err-clause-part
returns-in-Err-clause-part g c = λ setting over.
    subst (λ end. HasRunSome g.O.Sink.told setting c.args.ticks c.args.engines.now c.make_rounds.new.engines end) (sym c.ended-in-Err.ensures)
    (one_stopped g.O.Sink.told c.args.plan.now c.args.ticks setting c.args.engines.now c.make_rounds.new.engines over c.in-Ok.taps c.make_rounds.new.taps
    c.in-Ok.ensures.empty c.in-Ok.ensures.stands c.make_rounds.ensures.same c.in-Err.end (c.in-Err.ensures.stopped setting over.are))
