use Rattle.std.proofs.Common.{refl, take}
use Rattle.script_places.proofs.Naming.{each_found, leads_from, leads_number, leads_there}
use Rattle.script_places.proofs.numbers.number_in_front.Goals as goal

pub returns-in_err-at-clause-only : goal.returns-in_err-at-clause-only
returns-in_err-at-clause-only c = λ n small h.
    let there = leads_there c.args.text.now c.args.byte n small c.requires h in
    let none = c.in_err-at.ensures in
    cc

pub returns-clause-found : goal.returns-clause-found
returns-clause-found c =
    each_found c.read_u64.result (λ n is. leads_from c.args.text.now (take c.in_ok-at.at c.args.text.now) c.args.byte n c.in_ok-at.at c.in_ok-at.ensures refl is) c.read_u64.ensures.found

pub returns-clause-only : goal.returns-clause-only
returns-clause-only c = λ n small h. c.read_u64.ensures.only n small (leads_number c.args.text.now c.args.byte n c.in_ok-at.at small c.requires h c.in_ok-at.ensures)
