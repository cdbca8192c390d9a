use Rattle.std.proofs.Common.{◌≡◌, ◌∙◌, ◌++◌, ◌∷◌, [], List, ℕ, ap}
use Rattle.std.specs.Prelude.{string_bytes, Vec}
use Rattle.std.specs.declared.alloc.Global.{Global}
use Rattle.track_library.specs.Walk.{entry_of}
use Rattle.track_library.specs.States.{listed}
use Rattle.track_library.proofs.Names.{added}
use Rattle.track_library.proofs.read_lists.ReadLists.add.Goals as goal

pub returns-clause-added : goal.returns-clause-added
returns-clause-added c =
    let key : string_bytes c.in_ok-from_str.field-0 ≡ c.args.name.now = c.in_ok-from_str.ensures.ok in
    let old = c.args.self.now.lists.entries in
    ap listed c.in_ok-insert.ensures.entries
    ∙ added (λ (v : Vec (List ℕ) Global). v.items) old c.in_ok-from_str.field-0 c.args.names (ap (λ (name : List ℕ). entry_of name (listed old)) key ∙ c.requires)
    ∙ ap (λ (name : List ℕ). listed old ++ (name, c.args.names.items) ∷ []) key
