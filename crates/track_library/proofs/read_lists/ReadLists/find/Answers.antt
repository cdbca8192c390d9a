use Rattle.std.proofs.Common.{rules, ◌≡◌, ◌∙◌, ap, sym}
use Rattle.std.specs.Prelude.{◌^◌, None}
use Rattle.liq_base.specs.Files.{file_at}
use Rattle.track_library.specs.Walk.{Ends, list_of, list_in, bytes_in, items_of, use_list, entry_of}
use Rattle.track_library.specs.Reads.{FirstRead}
use Rattle.track_library.specs.Lists.{names_listed}
use Rattle.track_library.specs.States.{lists_of}
use Rattle.track_library.proofs.Names.{found_list, absent_list, fresh_list, failed_list}
use Rattle.track_library.proofs.Ending.{read_ends, told_ends}
use Rattle.track_library.proofs.read_lists.ReadLists.find.Goals as goal

pub returns-in-Some-clause-used : goal.returns-in-Some-clause-used
returns-in-Some-clause-used g c = λ files told.
    ap (λ o. list_of (lists_of c.args.self.now) c.args.name.now o (list_in c.args.name.now (bytes_in (2 ^ 20) (file_at files c.args.name.now))))
    (found_list c.args.self.now.lists.entries c.args.name.now c.in-Some.at c.in-Some.ensures.value (sym c.in-Some.ensures.found))

pub returns-in_err-bytes-clause-fault : goal.returns-in_err-bytes-clause-fault
returns-in_err-bytes-clause-fault g c =
    let none : entry_of c.args.name.now (lists_of c.args.self.now) ≡ None =
    absent_list c.args.self.now.lists.entries c.args.name.now (sym c.in_default.ensures.found) in
    let ends : Ends (g.S.Shelf.told c.args.shelf.now) (g.S.Shelf.told c.fetch.new.shelf)
    (λ _. FirstRead (lists_of c.args.self.now) c.args.name.now) (λ files. use_list files (lists_of c.args.self.now) c.args.name.now) c.in_err-bytes.field-0.0 =
    read_ends c.args.name.now (g.S.Shelf.told c.args.shelf.now) (g.S.Shelf.told c.fetch.new.shelf)
    (λ _. FirstRead (lists_of c.args.self.now) c.args.name.now) (λ files. use_list files (lists_of c.args.self.now) c.args.name.now) c.in_err-bytes.field-0.0
    (λ files t name same. (same, none)) c.in_err-bytes.ensures.fault in
    search rules

pub add-requires : goal.add-requires
add-requires g c = absent_list c.args.self.now.lists.entries c.args.name.now (sym c.in_default.ensures.found)

pub returns-in_ok-add-in-Ok-clause-used : goal.returns-in_ok-add-in-Ok-clause-used
returns-in_ok-add-in-Ok-clause-used g c = λ files told.
    fresh_list files (lists_of c.args.self.now) c.args.name.now c.in-Ok.bytes.items c.in_ok-names-in-Ok.names.items (lists_of c.add.new.self) c.in_ok-add-in-Ok.field-0
    (absent_list c.args.self.now.lists.entries c.args.name.now (sym c.in_default.ensures.found))
    (c.in_ok-bytes.ensures.fetched files told ∙ ap items_of c.in-Ok.is)
    (c.in_ok-names-in-Ok.ensures.names ∙ ap names_listed c.deref.ensures.value)
    c.in_ok-add-in-Ok.ensures.added c.in_ok-add-in-Ok.ensures.at

pub returns-in_ok-fault_of-in-Err-clause-fault : goal.returns-in_ok-fault_of-in-Err-clause-fault
returns-in_ok-fault_of-in-Err-clause-fault g c =
    told_ends (g.S.Shelf.told c.args.shelf.now) (g.S.Shelf.told c.fetch.new.shelf) _ (λ files. use_list files (lists_of c.args.self.now) c.args.name.now) c.args.name.now c.in-Err.fault c.in_ok-fault_of-in-Err.field-0
    c.in_ok-fault_of-in-Err.ensures
    (λ files told. failed_list files (lists_of c.args.self.now) c.args.name.now c.in-Err.fault
    (absent_list c.args.self.now.lists.entries c.args.name.now (sym c.in_default.ensures.found))
    (c.in_ok-bytes.ensures.fetched files told ∙ ap items_of c.in-Err.is))
