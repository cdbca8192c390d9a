use Rattle.std.proofs.Common.{◌<◌, ◌/◌, ◌^◌, arith}
use Rattle.week_plan.proofs.Bits.{fits, more_than_none, none_before, none_behind, some_before}
use Rattle.week_plan.proofs.stretch.stays_in.Goals as goal

pub returns-then-behind-eq0-clause-same : goal.returns-then-behind-eq0-clause-same
returns-then-behind-eq0-clause-same c = λ later first low.
    c.others.ensures.apart later (omega (arith, low)) (none_behind c.others.result c.args.second later first c.if-behind-eq0.true)

pub returns-clause-some : goal.returns-clause-some
returns-clause-some c =
    let some : 0 < c.others.result / 2 ^ c.args.second = more_than_none (c.others.result / 2 ^ c.args.second) c.if-behind-eq0.false in
    let least = some_before c.others.result c.args.second some (fits c.others.result c.args.second c.others.type_inv) (c.others.ensures.alike c.args.second c.requires.minute c.requires.here) in
    omega (arith, c.min.ensures, least, c.requires.minute)

pub returns-clause-same : goal.returns-clause-same
returns-clause-same c = λ later first low.
    let some : 0 < c.others.result / 2 ^ c.args.second = more_than_none (c.others.result / 2 ^ c.args.second) c.if-behind-eq0.false in
    c.others.ensures.apart later (omega (arith, c.min.ensures, low))
    (none_before c.others.result c.args.second later first some (fits c.others.result c.args.second c.others.type_inv) (omega (arith, c.min.ensures, low)))
