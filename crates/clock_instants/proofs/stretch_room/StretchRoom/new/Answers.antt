use Rattle.std.proofs.Common.{rules}
use Rattle.std.proofs.lemmas.Option.{slice_get_within}
use Rattle.clock_instants.proofs.Laning.{none_given}
use Rattle.clock_instants.proofs.stretch_room.StretchRoom.new.Goals as goal

pub returns-clause-room : goal.returns-clause-room
returns-clause-room c = record {
  in_left = c.in_ok-left.ensures.size;
  in_right = c.in_ok-right.ensures.size;
  in_spare = c.in_ok-spare.ensures;
  in_held = search rules;
  in_rests = search rules;
  in_parts = search rules;
  clear = none_given _ _ (c.in_ok-parts.ensures.items_if_clones_equal (λ y e. e));
}

pub returns-clause-laned : goal.returns-clause-laned
returns-clause-laned c i state found busy =
    let within = slice_get_within c.args.states.now i state found in
    record { on_left = c.in_ok-left.ensures.each i state within found busy; on_right = c.in_ok-right.ensures.each i state within found busy }
