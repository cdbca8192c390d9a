use Rattle.std.proofs.lemmas.Nat.{or_lt}
use Rattle.week_plan.proofs.Bits.{set_both, set_either, set_without}
use Rattle.week_plan.proofs.table.joined_words.Goals as goal

pub returns-in-Both-clause-same : goal.returns-in-Both-clause-same
returns-in-Both-clause-same c = λ second low. rw c.in-Both.is (set_both c.args.one c.args.other second)

pub returns-in-Either-clause-small : goal.returns-in-Either-clause-small
returns-in-Either-clause-small c = or_lt 60 c.args.one c.args.other c.requires.one c.requires.other

pub returns-in-Either-clause-same : goal.returns-in-Either-clause-same
returns-in-Either-clause-same c = λ second low. rw c.in-Either.is (set_either c.args.one c.args.other second)

pub returns-in-Without-clause-same : goal.returns-in-Without-clause-same
returns-in-Without-clause-same c = λ second low. rw c.in-Without.is (set_without c.args.one c.args.other second low)
