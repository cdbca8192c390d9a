use Rattle.std.proofs.Common.{rules, ◌∙◌, ◌+◌, [], List, ℕ, ap, sym, subst, drop}
use Rattle.std.specs.Prelude.{Ok}
use Rattle.liq_base.proofs.Shelves.{read_then}
use Rattle.track_library.specs.Walk.{Ends, entries_played, entry_played, use_audio}
use Rattle.track_library.specs.Reads.{EntriesRead, FirstRead}
use Rattle.track_library.specs.States.{heard_of}
use Rattle.track_library.proofs.Ending.{ends_through}
use Rattle.track_library.proofs.Keeping.{keeps_on, keeps_since}
use Rattle.track_library.proofs.Played.{PlaysSoFar, plays_found, played_found}
use Rattle.track_library.proofs.Steps.{next_entry_of, entries_end, next_read, later_read}
use Rattle.track_library.proofs.walk.play_entries.Goals as goal

pub returns-in_err-found-clause-fault : goal.returns-in_err-found-clause-fault
returns-in_err-found-clause-fault g c =
    let ends : Ends (g.S.Shelf.told c.args.shelf.now) (g.S.Shelf.told c.find.new.shelf)
    (λ files. EntriesRead c.args.rules files c.args.names.now (Ok (heard_of c.args.audio.now, [])))
    (λ files. entries_played c.args.rules files c.args.names.now (Ok (heard_of c.args.audio.now, []))) c.in_err-found.field-0.0 =
    ends_through (g.S.Shelf.told c.args.shelf.now) (g.S.Shelf.told c.loop-name.shelf) (g.S.Shelf.told c.find.new.shelf)
    (λ _. FirstRead (heard_of c.loop-name.audio).names c.as_str.result.now)
    (λ files. EntriesRead c.args.rules files c.args.names.now (Ok (heard_of c.args.audio.now, [])))
    (λ files. use_audio c.args.rules files (heard_of c.loop-name.audio) c.as_str.result.now)
    (λ files. entries_played c.args.rules files c.args.names.now (Ok (heard_of c.args.audio.now, []))) c.in_err-found.field-0.0
    c.loop-name.invariant.0
    (λ files t e h.
    c.loop-name.invariant.2 files t
    ∙ next_entry_of c.args.rules files c.args.names.now c.loop-name.name-index (heard_of c.loop-name.audio) c.loop-name.leaf.items c.name-item.result c.as_str.result.now
    c.loop-name-test.true c.name-item.is c.as_str.ensures.same
    ∙ ap (λ r. entries_played c.args.rules files (drop (c.loop-name.name-index + 1) c.args.names.now) (entry_played c.loop-name.leaf.items r))
    h
    ∙ entries_end c.args.rules files (drop (c.loop-name.name-index + 1) c.args.names.now) e)
    (λ files t read h. c.loop-name.invariant.3 files t read
    (next_read c.args.rules files c.args.names.now c.loop-name.name-index (heard_of c.loop-name.audio) c.loop-name.leaf.items c.name-item.result c.as_str.result.now read
    c.loop-name-test.true c.name-item.is c.as_str.ensures.same h))
    c.in_err-found.ensures.fault in
    search rules

pub loop-name-preserved : goal.loop-name-preserved
loop-name-preserved g c =
    let pushed = c.in_ok-push_found.ensures in (
      read_then (g.S.Shelf.told c.args.shelf.now) (g.S.Shelf.told c.loop-name.shelf) (g.S.Shelf.told c.find.new.shelf) c.loop-name.invariant.0 c.in_ok-found.ensures.shelf,
      subst (λ (l : List ℕ). PlaysSoFar (heard_of c.args.audio.now) (heard_of c.find.new.self) l) (sym pushed)
          (plays_found (heard_of c.args.audio.now) (heard_of c.loop-name.audio) (heard_of c.find.new.self) c.loop-name.leaf.items c.in_ok-found.found c.loop-name.invariant.1 c.in_ok-found.ensures.finds),
      λ files t.
          c.loop-name.invariant.2 files t
          ∙ next_entry_of c.args.rules files c.args.names.now c.loop-name.name-index (heard_of c.loop-name.audio) c.loop-name.leaf.items c.name-item.result c.as_str.result.now
          c.loop-name-test.true c.name-item.is c.as_str.ensures.same
          ∙ ap (λ r. entries_played c.args.rules files (drop (c.loop-name.name-index + 1) c.args.names.now) (entry_played c.loop-name.leaf.items r))
          (c.in_ok-found.ensures.used files (c.loop-name.invariant.0.files ∙ t))
          ∙ ap (λ r. entries_played c.args.rules files (drop (c.loop-name.name-index + 1) c.args.names.now) r)
          (played_found (heard_of c.find.new.self) c.loop-name.leaf.items c.in_ok-found.found ∙ ap (λ (l : List ℕ). Ok (heard_of c.find.new.self, l)) (sym pushed)),
      λ files t read h.
          c.loop-name.invariant.3 files t read
          (later_read c.args.rules files c.args.names.now c.loop-name.name-index (heard_of c.loop-name.audio) c.loop-name.leaf.items c.name-item.result c.as_str.result.now read
          (Ok (heard_of c.find.new.self, c.push_found.new.leaf.items)) c.loop-name-test.true c.name-item.is c.as_str.ensures.same
          (ap (entry_played c.loop-name.leaf.items) (c.in_ok-found.ensures.used files (c.loop-name.invariant.0.files ∙ t))
          ∙ (played_found (heard_of c.find.new.self) c.loop-name.leaf.items c.in_ok-found.found ∙ ap (λ (l : List ℕ). Ok (heard_of c.find.new.self, l)) (sym pushed))) h),
      keeps_on c.args.rules (g.S.Shelf.told c.args.shelf.now).files c.args.audio.now c.loop-name.audio c.find.new.self c.loop-name.invariant.4
          (keeps_since c.args.rules (g.S.Shelf.told c.args.shelf.now).files (g.S.Shelf.told c.loop-name.shelf).files c.loop-name.audio c.find.new.self c.loop-name.invariant.0.files c.in_ok-found.ensures.kept),
    )
