use Rattle.std.proofs.Common.{◌∙◌, rules, List, length, sym, subst}
use Rattle.clock_threads.specs.declared.wires.Wire.{Wire}
use Rattle.plan_core.specs.declared.plan.Plan.{Plan}
use Rattle.plan_core.specs.Plans.{IsWellFormed}
use Rattle.clock_threads.specs.WiredRuns.{AreFresh, AreLaid, AreSomeFresh}
use Rattle.clock_threads.proofs.Idling.{done_no_write, memory_no_write, none_made, none_run}
use Rattle.clock_threads.proofs.Wiring.{fresh_is, laid}
use Rattle.clock_threads.proofs.run.run_threads.Goals as goal

pub wires_of-requires : goal.wires_of-requires
wires_of-requires g c = subst (λ (p : Plan). IsWellFormed p) c.requires.engines.are.plan_is c.requires.engines.are.is.plan

pub run_wired-end-requires-clause-wires : goal.run_wired-end-requires-clause-wires
run_wired-end-requires-clause-wires g c = λ κs lives.
    let are = c.requires.engines.are in
    subst (λ (wires : List Wire). AreLaid c.args.plan.now (length c.args.engines.items) wires) (sym c.as_slice.ensures.value)
    (subst (λ n. AreLaid c.args.plan.now n c.in-Ok.wires.items) (sym are.all)
    (laid c.args.plan.now c.args.clocks.now c.requires.engines.setting are.is are.plan_is c.in-Ok.wires.items c.in-Ok.ensures.few c.in-Ok.ensures.wires))

pub run_wired-end-requires-clause-fresh : goal.run_wired-end-requires-clause-fresh
run_wired-end-requires-clause-fresh g c = λ κs lives.
    subst (λ (wires : List Wire). AreSomeFresh g.O.Sink.told c.args.plan.now wires c.args.ticks c.args.engines.items) (sym c.as_slice.ensures.value) (record {
      setting = c.requires.engines.setting;
      clocks = c.args.clocks.now;
      are = fresh_is g.O.Sink.told c.args.plan.now c.args.clocks.now c.args.ticks c.requires.engines.setting c.args.engines.items c.in-Ok.wires.items c.requires.engines.are c.in-Ok.ensures.wires;
    })

pub returns-clause-done : goal.returns-clause-done
returns-clause-done g c = λ e setting are.
    c.run_wired-end.ensures.done e setting c.args.clocks.now
    (subst (λ (wires : List Wire). AreFresh g.O.Sink.told c.args.plan.now wires c.args.ticks setting c.args.clocks.now c.args.engines.items) (sym c.as_slice.ensures.value)
    (fresh_is g.O.Sink.told c.args.plan.now c.args.clocks.now c.args.ticks setting c.args.engines.items c.in-Ok.wires.items are c.in-Ok.ensures.wires))

pub returns-clause-part : goal.returns-clause-part
returns-clause-part g c = λ setting are.
    c.run_wired-end.ensures.part setting c.args.clocks.now
    (subst (λ (wires : List Wire). AreFresh g.O.Sink.told c.args.plan.now wires c.args.ticks setting c.args.clocks.now c.args.engines.items) (sym c.as_slice.ensures.value)
    (fresh_is g.O.Sink.told c.args.plan.now c.args.clocks.now c.args.ticks setting c.args.engines.items c.in-Ok.wires.items are c.in-Ok.ensures.wires))

pub returns-in_default-clause-part : goal.returns-in_default-clause-part
returns-in_default-clause-part g c = λ setting are.
    none_made g.O.Sink.told c.args.plan.now setting c.args.clocks.now c.args.window c.args.ticks c.args.engines.items _
    (λ clock sink e. memory_no_write clock sink (sym c.ended-in_default.ensures.end ∙ e)) are

pub returns-then-is_empty-clause-done : goal.returns-then-is_empty-clause-done
returns-then-is_empty-clause-done g c = λ e setting are.
    none_run g.O.Sink.told c.args.plan.now setting c.args.clocks.now c.args.window c.args.ticks c.args.engines.items
    (search rules) c.requires.window are _ _ c.ended.ensures.none.0 c.ended.ensures.none.1

pub returns-then-is_empty-clause-part : goal.returns-then-is_empty-clause-part
returns-then-is_empty-clause-part g c = λ setting are.
    none_made g.O.Sink.told c.args.plan.now setting c.args.clocks.now c.args.window c.args.ticks c.args.engines.items _
    (λ clock sink e. done_no_write clock sink (sym c.ended.ensures.end ∙ e)) are
