use Rattle.std.proofs.Common.{arith, length, ◌≡◌, ◌∙◌, true, List, ℕ, ap, sym, subst}
use Rattle.std.specs.Prelude.{Ok, Result}
use Rattle.track_library.specs.Walk.{sounds_or_fault}
use Rattle.track_library.specs.Loads.{rules_for}
use Rattle.frame_core.specs.Library.{Sounds}
use Rattle.frame_core.specs.Sounds.{Sound}
use Rattle.track_library.specs.Singles.{HaveSingles}
use Rattle.track_library.specs.declared.fault.LoadFault.{LoadFault}
use Rattle.track_library.proofs.Leaves.{library_of}
use Rattle.track_library.proofs.walk.find_files.Goals as goal

pub into_files-requires : goal.into_files-requires
into_files-requires g c =
    let found = c.in_ok-walk_nodes.ensures.walked in
    let keeps = c.in_ok-walk_nodes.ensures.kept in
    let kept = keeps.kept (c.new-walk.ensures.kept (rules_for c.args.plan.now c.args.sizes) (g.S.Shelf.told c.args.shelf.now).files) in
    let audio = c.walk_nodes.new.walk.audio in
    let all : audio.keeps ≡ true = keeps.same ∙ c.new-walk.ensures.keeps in
    library_of audio.files.items audio.titles.items c.walk_nodes.new.leaves (kept.many all) (kept.sound all) found.heard.many found.below found.few

pub returns-clause-loaded : goal.returns-clause-loaded
returns-clause-loaded g c =
    let by = rules_for c.args.plan.now c.args.sizes in
    let found = c.in_ok-walk_nodes.ensures.walked in
    let keeps = c.in_ok-walk_nodes.ensures.kept in
    let kept = keeps.kept (c.new-walk.ensures.kept by (g.S.Shelf.told c.args.shelf.now).files) in
    let audio = c.walk_nodes.new.walk.audio in
    let all : audio.keeps ≡ true = keeps.same ∙ c.new-walk.ensures.keeps in
    let leaves = c.walk_nodes.new.leaves in
    let many : length c.into_files.result.leaves ≡ length leaves = ap (λ (s : Sounds). length s.leaves) c.into_files.ensures.same in
    let same : ◌≡◌ {A = Result Sounds LoadFault} (Ok (record { files = audio.files.items; names = audio.titles.items; leaves = leaves })) (Ok c.into_files.result) =
    ap Ok (sym c.into_files.ensures.same) in
    record {
      loaded = λ files t.
          ap (sounds_or_fault by files) (found.walked files t)
          ∙ ap (λ (sounds : List Sound). Ok (record { files = sounds; names = audio.titles.items; leaves = leaves })) (kept.named all files t) ∙ same;
      leaves = omega (arith, many, found.many);
      singles = subst (λ (ls : List (List ℕ)). HaveSingles c.args.plan.now.nodes ls) (sym (ap (λ (s : Sounds). s.leaves) c.into_files.ensures.same)) found.singles;
      sounds = c.into_files.ensures.library;
    }
