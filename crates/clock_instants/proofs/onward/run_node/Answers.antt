use Rattle.std.proofs.Common.{rules, set, ◌≡◌, ◌<◌, ◌∙◌, ◌++◌, ℤ, length, take, drop, arith, ap, sym}
use Rattle.std.specs.Prelude.{Vec, is_some}
use Rattle.std.specs.declared.alloc.Global.{Global}
use Rattle.std.proofs.lemmas.List.{get_or_default, length-take-le, take-append-drop, with_items_is}
use Rattle.stream_meaning.specs.declared.part.Part.{Part}
use Rattle.stream_meaning.specs.Instants.{moment_after, silent}
use Rattle.clock_nodes.specs.Scenes.{setting_over}
use Rattle.clock_instants.proofs.Gone.{has_run, kept_run}
use Rattle.clock_instants.proofs.Kept.{gives_now}
use Rattle.clock_instants.proofs.Samples.{samples_own}
use Rattle.clock_instants.proofs.onward.run_node.Goals as goal

pub returns-then-not-gives-clause-run : goal.returns-then-not-gives-clause-run
returns-then-not-gives-clause-run c = record {
  run = λ other sub clock past filled node before.
      let S = setting_over c.args.scene.now other in
      let in_parts : c.args.i < length c.args.parts.now = omega (arith, c.requires.node.in_parts, c.requires.node.within) in
      kept_run S sub clock past c.args.count filled c.args.i node c.args.state.now c.args.left.now c.args.right.now c.requires.node.scene.nodes c.requires.node.count.some before.stretch before.is
      (gives_now (moment_after S sub clock past) c.args.parts.now c.args.i (before.given c.args.i (omega arith))
      ∙ ap (λ (p : Part). is_some p.slot) (get_or_default _ _ silent _ in_parts) ∙ sym c.gives.ensures ∙ (search rules))
      before.begun before.stands;
}

pub make_samples-requires-clause-gave : goal.make_samples-requires-clause-gave
make_samples-requires-clause-gave c =
    let in_parts : c.args.i < length c.args.parts.now = omega (arith, c.requires.node.in_parts, c.requires.node.within) in
    ap (λ (p : Part). is_some p.slot) (get_or_default _ _ silent _ in_parts) ∙ sym c.gives.ensures ∙ (search rules)

pub make_samples-requires-clause-ahead : goal.make_samples-requires-clause-ahead
make_samples-requires-clause-ahead c =
    let in_parts : c.args.i < length c.args.parts.now = omega (arith, c.requires.node.in_parts, c.requires.node.within) in
    c.requires.ahead (ap (λ (p : Part). is_some p.slot) (get_or_default _ _ silent _ in_parts) ∙ sym c.gives.ensures ∙ (search rules))

pub returns-clause-run : goal.returns-clause-run
returns-clause-run c = record {
  run = λ other sub clock past filled node before.
      let S = setting_over c.args.scene.now other in
      let in_left : c.args.i < length c.args.left.now = omega (arith, c.requires.in_left, c.requires.node.within) in
      let in_right : c.args.i < length c.args.right.now = omega (arith, c.requires.in_right, c.requires.node.within) in
      let made = c.make_samples.ensures.made.made other sub clock past filled node before in
      let size_left : length c.make_samples.new.own_left ≡ c.args.spare.now.left.len = omega (arith, c.deref_mut.ensures.len) in
      let own_left : c.swap.new.x.items ≡ take c.args.count c.make_samples.new.own_left ++ drop c.args.count c.make_samples.new.own_left =
      ap (λ (lane : Vec ℤ Global). lane.items) c.swap.ensures.x_after ∙ with_items_is c.args.spare.now.left c.make_samples.new.own_left size_left ∙ sym (take-append-drop c.args.count c.make_samples.new.own_left) in
      let long_left : length (take c.args.count c.make_samples.new.own_left) ≡ c.args.count =
      length-take-le c.args.count c.make_samples.new.own_left (omega (arith, size_left, c.args.spare.now.left.ok.0, c.requires.spare.on_left, c.requires.node.count.short)) in
      let size_right : length c.make_samples.new.own_right ≡ c.args.spare.now.right.len = omega (arith, c.deref_mut-2.ensures.len) in
      let own_right : c.swap-2.new.x.items ≡ take c.args.count c.make_samples.new.own_right ++ drop c.args.count c.make_samples.new.own_right =
      ap (λ (lane : Vec ℤ Global). lane.items) c.swap-2.ensures.x_after ∙ with_items_is c.args.spare.now.right c.make_samples.new.own_right size_right ∙ sym (take-append-drop c.args.count c.make_samples.new.own_right) in
      let long_right : length (take c.args.count c.make_samples.new.own_right) ≡ c.args.count =
      length-take-le c.args.count c.make_samples.new.own_right (omega (arith, size_right, c.args.spare.now.right.ok.0, c.requires.spare.on_right, c.requires.node.count.short)) in
      has_run S sub clock past c.args.count filled c.args.i node c.args.state.now (take c.args.count c.make_samples.new.own_left) (set c.args.left.now c.args.i c.swap.new.x)
      (take c.args.count c.make_samples.new.own_right) (set c.args.right.now c.args.i c.swap-2.new.x) c.make_samples.new.state made.gave
      (samples_own c.args.i c.args.count c.args.left.now c.swap.new.x (take c.args.count c.make_samples.new.own_left) (drop c.args.count c.make_samples.new.own_left) in_left own_left long_left)
      (samples_own c.args.i c.args.count c.args.right.now c.swap-2.new.x (take c.args.count c.make_samples.new.own_right) (drop c.args.count c.make_samples.new.own_right) in_right own_right long_right)
      made.stands made.lane_is;
}
