use Rattle.general_types.proofs.Ordering.{place_counted}
use Rattle.general_types.proofs.numbering.place.Goals as goal

pub returns-clause-next : goal.returns-clause-next
returns-clause-next c = place_counted c.args.numbers.now.keys _ c.args.number _ c.in_ok-place.ensures.keys c.in_ok-place.ensures.index
