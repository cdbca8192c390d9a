use Rattle.place_laws.proofs.Same.{none, numbers, outputs, rules}
use Rattle.place_laws.proofs.laws.both_say_one_thing.Goals as goal

pub returns-clause-numbers : goal.returns-clause-numbers
returns-clause-numbers c = numbers

pub returns-clause-rules : goal.returns-clause-rules
returns-clause-rules c = rules

pub returns-clause-none : goal.returns-clause-none
returns-clause-none c = none

pub returns-clause-outputs : goal.returns-clause-outputs
returns-clause-outputs c = outputs
