use Rattle.std.proofs.Common.{◌∙◌, rules, length, slice_get, ap, arith, subst}
use Rattle.std.proofs.lemmas.Option.{slice_get_within}
use Rattle.clock_instants.specs.Stretches.{HasStretchRoom}
use Rattle.clock_ticks.proofs.parts.clocks_of.Goals as goal

pub returns-clause-clocks : goal.returns-clause-clocks
returns-clause-clocks c = record {
  fit = record {
    size = c.in_ok-states.ensures.size;
    each = λ i node state found stored. (c.in_ok-states.ensures.each i node state found stored).fits c.args.scene.now.library.now c.requires.library
        (let within = slice_get_within c.args.scene.now.plan.now.nodes i node found in omega (arith, within, c.requires.leaves));
  };
  in_times = search rules;
  chains = c.in_ok-nodes.ensures;
  latest = c.in_ok-latest.ensures;
  room = search rules;
  stretch_room = subst (λ n. HasStretchRoom n c.in_ok-room.room) (ap length c.deref.ensures.value ∙ c.in_ok-states.ensures.size) c.in_ok-room.ensures.room;
  resting = record {
    ahead = λ k some. (let none = c.in_ok-room.ensures.none k in absurd (omega (arith, none, some)));
    through = λ k some. (let none = c.in_ok-room.ensures.none k in absurd (omega (arith, none, some)));
  };
  rates = λ k time at. ap (λ t. t.rate) (c.in_ok-times.ensures.each k time at) ∙ c.requires.rate;
  frames = λ k time at. ap (λ t. t.frame) (c.in_ok-times.ensures.each k time at) ∙ c.requires.frame;
}

pub returns-clause-laned : goal.returns-clause-laned
returns-clause-laned c = λ i state found busy. c.in_ok-room.ensures.laned i state (ap (λ xs. slice_get xs i) c.deref.ensures.value ∙ found) busy
