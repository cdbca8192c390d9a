use Rattle.std.proofs.Common.{◌∙◌, length, map, pos, replicate, ap, sym, subst}
use Rattle.op_leaf.specs.Lanes.{IsLane}
use Rattle.stream_meaning.specs.Arithmetic.{mix_slot}
use Rattle.op_mix.specs.Mixings.{mixing_of}
use Rattle.op_mix.specs.Stretches.{levels_of, many_give, offers_in, samples_of, summed_lanes}
use Rattle.op_mix.proofs.Summing.{first_changed, summed_lane}
use Rattle.op_mix.proofs.mixer.Mixer.run.Goals as goal

pub returns-in-Adds : goal.returns-in-Adds
returns-in-Adds c = record {
  lane = λ slots heard some.
      subst (λ mixer. IsLane (λ j. mix_slot (mixing_of mixer) (map (slots j) c.args.children.now)) (length c.args.left.now) c.sum.new.into c.sum-in-Adds.new.into) (sym c.in-Adds.is)
      (summed_lane slots (offers_in c.args.before.now.parts.now) (λ child. samples_of c.args.before.now.left.now child (length c.args.left.now)) (λ child. samples_of c.args.before.now.right.now child (length c.args.left.now))
      (length c.args.left.now) c.args.children.now c.in-Adds.normalize c.sum.new.into c.sum-in-Adds.new.into heard some (c.sum.ensures.sum some)
      (c.sum-in-Adds.ensures.sum some
      ∙ ap (λ n. levels_of c.in-Adds.normalize (many_give (offers_in c.args.before.now.parts.now) c.args.children.now)
      (summed_lanes (offers_in c.args.before.now.parts.now) (λ child. samples_of c.args.before.now.right.now child n) (replicate n (pos 0)) c.args.children.now)) c.requires.same));
}

pub returns-in_default : goal.returns-in_default
returns-in_default c = record {
  lane = λ slots heard some.
      first_changed slots (offers_in c.args.before.now.parts.now) (λ child. samples_of c.args.before.now.left.now child (length c.args.left.now)) (λ child. samples_of c.args.before.now.right.now child (length c.args.left.now))
      (length c.args.left.now) c.args.children.now c.args.self.now c.change_first.new.left c.change_first.new.right c.in_default.not-Adds heard some
      c.change_first.ensures.left c.change_first.ensures.right;
}
