use Rattle.std.proofs.Common.{◌≡◌, true, sym}
use Rattle.std.specs.Prelude.{Option, IfOk}
use Rattle.std.specs.Option.{ForSome}
use Rattle.liq_base.specs.Files.{Files}
use Rattle.track_library.specs.Walk.{audio_at, count_of}
use Rattle.track_library.specs.States.{heard_of, IsHeld, Keeps}
use Rattle.track_library.specs.declared.rules.Rules.{Rules}
use Rattle.track_library.proofs.Finding.{known_finds}
use Rattle.track_library.proofs.Keeping.{if_kept, keeps_all}
use Rattle.track_library.proofs.audio.AudioFiles.find.Goals as goal

pub returns-in-Some-clause-finds : goal.returns-in-Some-clause-finds
returns-in-Some-clause-finds g c = known_finds (heard_of c.args.self.now) c.args.name.now c.in-Some.found c.requires.heard (sym c.in-Some.ensures)

pub returns-in-Some-clause-kept : goal.returns-in-Some-clause-kept
returns-in-Some-clause-kept g c = keeps_all c.args.rules (g.S.Shelf.told c.args.shelf.now).files c.args.self.now

pub returns-clause-kept : goal.returns-clause-kept
returns-clause-kept g c =
    if_kept c.add.result
    (λ (h : (rules : Rules) (told : Option Files) → ForSome told (λ files. count_of (audio_at rules files c.args.name.now) ≡ count_of c.in_ok-found.found)
    → (c.args.self.now.keeps ≡ true → IfOk c.in_ok-found.found (λ audio. IsHeld rules told c.args.name.now audio.0)) → Keeps rules told c.args.self.now c.add.new.self).
    h c.args.rules (g.S.Shelf.told c.args.shelf.now).files c.in_ok-found.ensures.counted c.in_ok-found.ensures.kept)
    c.add.ensures.kept
