use Rattle.general_types.specs.Walks.{held_of}
use Rattle.general_types.proofs.Names.{renews_all}
use Rattle.general_types.proofs.renewing.renew_both.Goals as goal

pub renew_types-requires : goal.renew_types-requires
renew_types-requires c = record { there = c.requires.types }

pub renew_kinds-requires : goal.renew_kinds-requires
renew_kinds-requires c = record { there = c.requires.kinds }

pub returns : goal.returns
returns c =
    renews_all c.args.subst.now c.args.type_numbers.now c.args.kind_numbers.now
    (held_of c.args.reached.now) (held_of c.renew_types.new.reached) (held_of c.renew_kinds.new.reached)
    c.in_ok-renew_types.ensures c.in_ok-renew_kinds.ensures
