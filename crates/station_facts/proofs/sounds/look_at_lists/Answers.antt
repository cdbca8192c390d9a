use Rattle.std.proofs.Common.{ap, arith, length, refl}
use Rattle.sound_looks.specs.Looks.{IsListLook}
use Rattle.station_facts.proofs.Found.{found_on, none_found}
use Rattle.station_facts.proofs.sounds.look_at_lists.Goals as goal

pub loop-name-init : goal.loop-name-init
loop-name-init g c =
    let none = none_found IsListLook c.args.names.now (g.S.Shelf.told c.args.shelf.now) in
    record { read = none.read; are = rw c.new-looks.ensures.items none.are; kept = λ empty. refl }

pub loop-name-preserved : goal.loop-name-preserved
loop-name-preserved g c =
    let on = found_on IsListLook c.args.names.now c.loop-name.name-index c.name-item.result c.in_ok-found.found c.loop-name.looks.items c.push.new.self.items
    (g.S.Shelf.told c.args.shelf.now) (g.S.Shelf.told c.loop-name.shelf) (g.S.Shelf.told c.look_at_list.new.shelf) c.loop-name-test.true c.name-item.is
    (record { read = c.loop-name.invariant.read; are = c.loop-name.invariant.are }) (rw c.as_str.ensures.same at c.in_ok-found.ensures.looked)
    c.in_ok-found.ensures.shelf c.in_ok-push.ensures.items in
    record { read = on.read; are = on.are; kept = λ empty. absurd (omega (arith, ap length empty, c.loop-name-test.true)) }

pub returns-in_err-found-clause-untouched : goal.returns-in_err-found-clause-untouched
returns-in_err-found-clause-untouched g c = λ empty. absurd (omega (arith, ap length empty, c.loop-name-test.true))

pub returns-in_err-push-clause-untouched : goal.returns-in_err-push-clause-untouched
returns-in_err-push-clause-untouched g c = λ empty. absurd (omega (arith, ap length empty, c.loop-name-test.true))
