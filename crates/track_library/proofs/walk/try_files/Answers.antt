use Rattle.std.proofs.Common.{ap}
use Rattle.std.proofs.lemmas.List.{length-map}
use Rattle.track_library.specs.Walk.{audio_at, sound_from, sounds_named, sounds_or_fault}
use Rattle.track_library.specs.Loads.{rules_for}
use Rattle.track_library.proofs.Leaves.{library_of}
use Rattle.track_library.proofs.walk.try_files.Goals as goal

pub returns-clause-can : goal.returns-clause-can
returns-clause-can g c = λ files t.
    let by = rules_for c.args.plan.now c.args.sizes in
    let found = c.in_ok-walk_nodes.ensures.walked in
    let kept = c.in_ok-walk_nodes.ensures.kept.kept (c.new-walk.ensures.kept by (g.S.Shelf.told c.args.shelf.now).files) in
    let titles = c.walk_nodes.new.walk.audio.titles.items in
    record {
      library = record { files = sounds_named by files titles; names = titles; leaves = c.walk_nodes.new.leaves };
      loaded = ap (sounds_or_fault by files) (found.walked files t);
      sounds = library_of (sounds_named by files titles) titles c.walk_nodes.new.leaves (length-map titles (λ name. sound_from (audio_at by files name))) (kept.usable files t) found.heard.many found.below found.few;
    }
