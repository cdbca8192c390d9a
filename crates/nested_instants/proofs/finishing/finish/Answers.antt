use Rattle.std.proofs.Common.{◌≡◌, ◌∙◌, ◌∷◌, List, length, slice_get, ap, arith, refl, subst, sym}
use Rattle.std.proofs.lemmas.List.{with_items_is}
use Rattle.stream_meaning.specs.Instants.{moment_after, part_at}
use Rattle.stream_meaning.specs.declared.part.Part.{Part}
use Rattle.clock_instants.specs.Held.{IsHeld}
use Rattle.clock_nodes.specs.States.{AllFit, ClockStands, HasRoomFor}
use Rattle.clock_nodes.specs.Scenes.{setting_over}
use Rattle.nested_instants.proofs.Restful.{resting_own}
use Rattle.nested_instants.proofs.finishing.finish.Goals as goal

pub returns-clause-clocks : goal.returns-clause-clocks
returns-clause-clocks c =
    let many : length c.finish_instant.new.states ≡ c.args.clocks.now.states.len = omega (arith, c.deref_mut.ensures.len) in
    let items = with_items_is c.args.clocks.now.states c.finish_instant.new.states many in
    let few : length c.finish_instant.new.held ≡ c.args.clocks.now.room.held.len = omega (arith, c.deref_mut-2.ensures.len) in
    let held = with_items_is c.args.clocks.now.room.held c.finish_instant.new.held few in
    record {
      fit = subst (AllFit c.args.scene.now) (sym items) c.finish_instant.ensures.fit;
      in_times = c.requires.clocks.in_times;
      chains = c.requires.clocks.chains;
      latest = c.finish_instant.ensures.latest;
      room = subst (HasRoomFor c.args.scene.now.plan.now) (sym c.finish_instant.ensures.room) c.requires.clocks.room;
      stretch_room = record {
        in_left = c.requires.clocks.stretch_room.in_left;
        in_right = c.requires.clocks.stretch_room.in_right;
        in_spare = c.requires.clocks.stretch_room.in_spare;
        in_held = (let long = ap length held in let was = ap length c.deref_mut-2.ensures.value in omega (arith, long, few, was, c.deref_mut-2.ensures.len, c.requires.clocks.stretch_room.in_held));
        in_rests = c.requires.clocks.stretch_room.in_rests;
        in_parts = c.requires.clocks.stretch_room.in_parts;
        clear = c.requires.clocks.stretch_room.clear;
      };
      resting = resting_own c.args.scene.now c.args.clocks.now _ c.requires.clocks.resting c.args.clock c.requires.idle (λ i. refl)
          (λ i outside. ap (λ xs. slice_get xs i) items ∙ c.finish_instant.ensures.others i outside ∙ ap (λ xs. slice_get xs i) c.deref_mut.ensures.value)
          (λ i outside. ap (λ ps. part_at ps i) held ∙ c.finish_instant.ensures.kept i outside ∙ ap (λ ps. part_at ps i) c.deref_mut-2.ensures.value);
      rates = c.requires.clocks.rates;
      frames = c.requires.clocks.frames;
    }

pub returns-clause-kept : goal.returns-clause-kept
returns-clause-kept c i outside =
    let few : length c.finish_instant.new.held ≡ c.args.clocks.now.room.held.len = omega (arith, c.deref_mut-2.ensures.len) in
    ap (λ ps. part_at ps i) (with_items_is c.args.clocks.now.room.held c.finish_instant.new.held few) ∙ c.finish_instant.ensures.kept i outside ∙ ap (λ ps. part_at ps i) c.deref_mut-2.ensures.value

pub returns-clause-finished : goal.returns-clause-finished
returns-clause-finished c =
    let many : length c.finish_instant.new.states ≡ c.args.clocks.now.states.len = omega (arith, c.deref_mut.ensures.len) in
    let few : length c.finish_instant.new.held ≡ c.args.clocks.now.room.held.len = omega (arith, c.deref_mut-2.ensures.len) in
    record {
      made = λ other sub past filled can.
          let S = setting_over c.args.scene.now other in
          let f = c.finish_instant.ensures.finished.made other sub past filled (record {
            at = can.at;
            long = can.long;
            stands = subst (λ states. ClockStands S sub c.args.clock past filled states) (sym c.deref_mut.ensures.value) can.stands;
            settled = can.settled;
            roots = can.roots;
          }) in
          record {
            parts_are = f.parts_are;
            held_are = subst (λ (ps : List Part). IsHeld S sub c.args.clock past ps) (sym (with_items_is c.args.clocks.now.room.held c.finish_instant.new.held few)) f.held_are;
            stands = subst (λ states. ClockStands S sub c.args.clock (moment_after S sub c.args.clock past ∷ past) filled states) (sym (with_items_is c.args.clocks.now.states c.finish_instant.new.states many)) f.stands;
          };
    }
