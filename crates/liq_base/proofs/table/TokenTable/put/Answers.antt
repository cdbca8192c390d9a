use Rattle.std.proofs.Common.{◌≡◌, ◌+◌, ◌∙◌, ap, arith, length}
use Rattle.std.proofs.lemmas.Result.{err_from_is_err_and}
use Rattle.liq_base.proofs.Places.{seen_same, seen_more}
use Rattle.liq_base.proofs.table.TokenTable.put.Goals as goal

pub returns-in_err-reach-clause-err : goal.returns-in_err-reach-clause-err
returns-in_err-reach-clause-err g c =
    let p = err_from_is_err_and c.from_residual-in_err-reach.result c.from_residual-in_err-reach.ensures.1 in
    rw p.1 (seen_same c.self.inside.places.items c.reach.new.places.items c.self.inside.values.items c.reserve.new.self.items c.args.self.now c.reserve.ensures.items c.reach.ensures.same c.self.view_is)

pub returns-in_err-place-clause-err : goal.returns-in_err-place-clause-err
returns-in_err-place-clause-err g c =
    let p = err_from_is_err_and c.from_residual-in_err-place.result c.from_residual-in_err-place.ensures.1 in
    rw p.1 (seen_same c.self.inside.places.items c.reach.new.places.items c.self.inside.values.items c.reserve.new.self.items c.args.self.now c.reserve.ensures.items c.reach.ensures.same c.self.view_is)

pub returns-clause-put : goal.returns-clause-put
returns-clause-put g c =
    let old = c.self.inside in
    let long : c.len.result ≡ length old.values.items = c.len.ensures ∙ c.reserve.new.self.ok.0 ∙ ap length c.reserve.ensures.items in
    let last : c.in_ok-place.place ≡ length old.values.items + 1 = omega (arith, long, c.in_ok-place.ensures.next) in
    seen_more old.places.items c.reach.new.places.items old.values.items c.reserve.new.self.items c.push_reserved.new.self.items c.args.self.now c.args.value c.args.at c.in_ok-place.place c.reserve.ensures.items c.push_reserved.ensures.items last c.in_ok-reach.ensures.there c.reach.ensures.same c.self.invariant c.self.view_is
