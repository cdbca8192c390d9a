use Rattle.stream_meaning.proofs.Unfailing.{offers, no_gaps}
use Rattle.stream_meaning.proofs.laws.infallible_nodes_offer.Goals as goal

pub returns-clause-cells : goal.returns-clause-cells
returns-clause-cells c = λ setting clocks mark i n is marks h so. offers setting clocks mark is marks i h so n

pub returns-clause-gaps : goal.returns-clause-gaps
returns-clause-gaps c = λ setting clocks mark i ticks is marks h so. no_gaps setting clocks mark i ticks is marks h so
