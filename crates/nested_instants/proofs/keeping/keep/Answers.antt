use Rattle.std.proofs.Common.{◌<◌, ◌∙◌, length, arith, refl}
use Rattle.std.proofs.Math.ListN.{length-set}
use Rattle.std.proofs.lemmas.List.{get_or-set_other, get_or-set_same}
use Rattle.nested_instants.proofs.Restful.{resting_kept}
use Rattle.nested_instants.proofs.keeping.keep.Goals as goal

pub returns-clause-clocks : goal.returns-clause-clocks
returns-clause-clocks c =
    let in_clocks : c.args.k < length c.args.scene.now.clocks.now = omega (arith, c.requires.within, c.requires.scene.in_clocks) in
    let in_rests : c.args.k < length c.args.clocks.now.room.rests.items = omega (arith, c.requires.clocks.stretch_room.in_rests, c.requires.within) in
    record {
      fit = c.requires.clocks.fit;
      in_times = c.requires.clocks.in_times;
      chains = c.requires.clocks.chains;
      latest = c.requires.clocks.latest;
      room = c.requires.clocks.room;
      stretch_room = record {
        in_left = c.requires.clocks.stretch_room.in_left;
        in_right = c.requires.clocks.stretch_room.in_right;
        in_spare = c.requires.clocks.stretch_room.in_spare;
        in_held = c.requires.clocks.stretch_room.in_held;
        in_rests = length-set _ _ _ ∙ c.requires.clocks.stretch_room.in_rests;
        in_parts = c.requires.clocks.stretch_room.in_parts;
        clear = c.requires.clocks.stretch_room.clear;
      };
      resting = resting_kept c.args.scene.now c.args.clocks.now _ c.requires.clocks.resting c.requires.ranks.0 c.args.k c.args.rest c.requires.ranks.1 in_clocks
          c.requires.idle (get_or-set_same c.args.clocks.now.room.rests.items c.args.k c.args.rest 0 in_rests)
          (λ i other. get_or-set_other c.args.clocks.now.room.rests.items c.args.k i c.args.rest 0 other) refl refl c.requires.ahead c.requires.through;
      rates = c.requires.clocks.rates;
      frames = c.requires.clocks.frames;
    }

pub returns-clause-kept : goal.returns-clause-kept
returns-clause-kept c =
    let in_rests : c.args.k < length c.args.clocks.now.room.rests.items = omega (arith, c.requires.clocks.stretch_room.in_rests, c.requires.within) in
    get_or-set_same c.args.clocks.now.room.rests.items c.args.k c.args.rest 0 in_rests

pub returns-clause-others : goal.returns-clause-others
returns-clause-others c i other = get_or-set_other c.args.clocks.now.room.rests.items c.args.k i c.args.rest 0 other
