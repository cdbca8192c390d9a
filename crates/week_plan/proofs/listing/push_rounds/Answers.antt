use Rattle.std.proofs.Common.{◌≡◌, ◌≤◌, ◌+◌, ◌++◌, false, get_or, nat_eq, arith, rules}
use Rattle.std.proofs.lemmas.Bool.Decides.{nat_tests}
use Rattle.week_plan.specs.Listing.{comma, no_round, round_text}
use Rattle.week_plan.proofs.Rounds.{told_more, told_one}
use Rattle.week_plan.proofs.listing.push_rounds.Goals as goal

pub returns-then-k-eq-MOST : goal.returns-then-k-eq-MOST
returns-then-k-eq-MOST c =
    let eight : c.loop-k.k ≡ 8 = search rules in
    told_more c.args.daily c.args.rounds.now c.loop-k.k _ c.loop-k.into.items _ c.loop-k-test.true eight c.loop-k.invariant.1 c.in_ok-push_more.ensures

pub loop-k-preserved : goal.loop-k-preserved
loop-k-preserved c =
    let few : nat_eq c.loop-k.k 8 ≡ false = search rules in
    let next : c.loop-k.k + 1 ≤ 8 = (let most = c.loop-k.invariant.0 in grind (arith, nat_tests, few, most)) in
    let new : c.push_round.new.into.items ≡ c.loop-k.into.items ++ (comma c.loop-k.k ++ round_text c.args.daily (get_or c.args.rounds.now c.loop-k.k no_round)) = search rules in
    (next, told_one c.args.daily c.args.rounds.now c.loop-k.k _ c.loop-k.into.items c.push_round.new.into.items c.loop-k-test.true few c.loop-k.invariant.1 new)
