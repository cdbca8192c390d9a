use Rattle.std.proofs.Common.{◌≡◌, ◌∙◌, ◌++◌, ◌∷◌, [], List, ℕ, ap, refl}
use Rattle.std.specs.Prelude.{string_bytes}
use Rattle.track_library.specs.Walk.{entry_of}
use Rattle.track_library.specs.States.{named}
use Rattle.track_library.proofs.Names.{added}
use Rattle.track_library.proofs.audio.AudioFiles.note.Goals as goal

pub returns-clause-noted : goal.returns-clause-noted
returns-clause-noted c =
    let key : string_bytes c.in_ok-from_str.field-0 ≡ c.args.name.now = c.in_ok-from_str.ensures.ok in
    let old = c.args.self.now.names.entries in
    let names : named c.insert.new.self.entries ≡ named old ++ (c.args.name.now, c.args.found) ∷ [] =
    ap named c.in_ok-insert.ensures.entries
    ∙ added (λ v. v) old c.in_ok-from_str.field-0 c.args.found (ap (λ (name : List ℕ). entry_of name (named old)) key ∙ c.requires)
    ∙ ap (λ (name : List ℕ). named old ++ (name, c.args.found) ∷ []) key in
    λ i. record { names = names i; titles = c.args.self.now.titles.items; bytes = c.args.self.now.bytes }

pub returns-clause-kept : goal.returns-clause-kept
returns-clause-kept c = λ rules told. record { same = refl; kept = λ k. k }
