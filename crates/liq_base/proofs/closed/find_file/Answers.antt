use Rattle.std.proofs.Common.{◌≡◌, ◌∙◌, ap, ◌++◌}
use Rattle.liq_base.specs.Entries.{entries, given_entries, stored, stored_is_file, stored_first, first_of}
use Rattle.liq_base.proofs.closed.find_file.Goals as goal

pub returns-in-Some : goal.returns-in-Some
returns-in-Some c =
    let closed = entries c.args.closed.now in
    let given = given_entries c.args.given.now in
    stored_is_file (closed ++ given) c.args.name.now ∙ stored_first closed given c.args.name.now
    ∙ ap (λ o. first_of o (stored c.args.name.now given)) c.in-Some.ensures

pub returns-in-None : goal.returns-in-None
returns-in-None c =
    let closed = entries c.args.closed.now in
    let given = given_entries c.args.given.now in
    let e : stored c.args.name.now (closed ++ given) ≡ stored c.args.name.now given = stored_first closed given c.args.name.now ∙ ap (λ o. first_of o (stored c.args.name.now given)) c.in-None.ensures in
    rw (stored_is_file (closed ++ given) c.args.name.now) (rw e c.find_given.ensures)
