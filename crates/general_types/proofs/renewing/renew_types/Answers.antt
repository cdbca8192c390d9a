use Rattle.general_types.specs.Walks.{held_of}
use Rattle.general_types.proofs.Members.{number_there}
use Rattle.general_types.proofs.Names.{renews_next_type, renews_none, renews_types}
use Rattle.general_types.proofs.renewing.renew_types.Goals as goal

pub renew_type-requires : goal.renew_type-requires
renew_type-requires c = record { inside = c.requires.there _ (number_there c.args.numbers.now c.loop-number.number-index c.loop-number-test.true) }

pub loop-number-init : goal.loop-number-init
loop-number-init c = renews_none c.args.subst.now (held_of c.args.reached.now)

pub loop-number-preserved : goal.loop-number-preserved
loop-number-preserved c =
    renews_next_type c.args.subst.now c.args.numbers.now c.loop-number.number-index
    (held_of c.args.reached.now) (held_of c.loop-number.reached) (held_of c.renew_type.new.reached)
    c.loop-number-test.true c.loop-number.invariant c.in_ok-renew_type.ensures

pub returns : goal.returns
returns c =
    renews_types c.args.subst.now c.args.numbers.now c.loop-number.number-index
    (held_of c.args.reached.now) (held_of c.loop-number.reached)
    c.loop-number-test.false c.loop-number.invariant
