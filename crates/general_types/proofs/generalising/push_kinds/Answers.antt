use Rattle.general_types.proofs.KindLists.{kinds_pushed}
use Rattle.general_types.proofs.generalising.push_kinds.Goals as goal

pub returns : goal.returns
returns c =
    kinds_pushed c.args.held.now c.args.read c.args.numbers.now _ _ _ _ _ c.requires.none c.split_at.ensures.front c.split_at.ensures.back c.in_ok-push_parameters.ensures c.in_ok-push_parameters-2.ensures
