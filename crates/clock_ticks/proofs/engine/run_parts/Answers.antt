use Rattle.std.proofs.Common.{rules, ◌<◌, length, arith, sym, subst}
use Rattle.std.proofs.lemmas.List.{get_or-map, length-map}
use Rattle.clock_outputs.specs.Ports.{HasRoomLeft, emptied}
use Rattle.clock_ticks.proofs.Mapped.{has_levels}
use Rattle.clock_ticks.proofs.Starting.{main_is}
use Rattle.clock_ticks.proofs.Ticking.{times_few}
use Rattle.clock_ticks.proofs.Rooted.{feeds_low, ports_low}
use Rattle.clock_ticks.proofs.engine.run_parts.Goals as goal

pub run_tick-requires-clause-makes : goal.run_tick-requires-clause-makes
run_tick-requires-clause-makes g c = record {
  scene_is = record { nodes = c.requires.parts.plan.nodes; few = c.requires.parts.few; in_clocks = c.requires.parts.in_clocks };
  in_own = search rules;
  main = main_is c.args.parts.now.clock;
  levels = has_levels c.args.parts.now.scene.plan.now c.args.parts.now.scene.clocks.now c.requires.parts.clocks c.requires.parts.in_clocks c.args.parts.now.clock;
  state_is = c.requires.parts.state;
}

pub run_tick-requires-clause-hearing : goal.run_tick-requires-clause-hearing
run_tick-requires-clause-hearing g c = record {
  heard = ports_low c.args.parts.now c.requires.parts;
  fed = feeds_low c.args.parts.now c.requires.parts;
  room = λ k d h.
      let within : k < length c.args.parts.now.ports.items = (let long = length-map c.args.parts.now.ports.items emptied in omega (arith, long, h)) in
      let room = c.requires.parts.rooms k d within in
      subst (λ p. HasRoomLeft c.args.parts.now.scene.plan.now.frame p) (sym (get_or-map emptied c.args.parts.now.ports.items k d d within)) (omega (arith, room));
  frames = c.requires.parts.frames;
  marks = c.requires.parts.lists;
  late = (let bound = times_few c.args.parts.now.ticks c.args.parts.now.scene.plan.now.frame c.requires.few c.requires.parts.frame in omega (arith, bound, c.requires.parts.frame));
}

pub run_tick-requires-clause-readers : goal.run_tick-requires-clause-readers
run_tick-requires-clause-readers g c = record {
  each = λ i buffer node found op. (let low = c.requires.parts.plan.read buffer i (node, found, op) in omega (arith, low, c.requires.buffers));
}
