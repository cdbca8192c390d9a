use Rattle.std.proofs.Common.{rules, ◌≡◌, List, ℕ, [], ◌∷◌, map, subst}
use Rattle.std.specs.Prelude.{OnOk}
use Rattle.stations.specs.Cues.{cue_name, cue_text}
use Rattle.station_render.specs.Shelves.{WroteFiles, WroteUpto, one_file}
use Rattle.station_render.specs.Marks.{cue_of}
use Rattle.station_render.proofs.Filing.{none_yet}
use Rattle.station_render.proofs.cues.leave_one.Goals as goal

pub returns-in_err-file-clause-some : goal.returns-in_err-file-clause-some
returns-in_err-file-clause-some g c = none_yet (g.S.Shelf.told c.args.shelf.now) _ _

pub returns-in_err-text-clause-some : goal.returns-in_err-text-clause-some
returns-in_err-text-clause-some g c = none_yet (g.S.Shelf.told c.args.shelf.now) _ _

pub returns-clause-some : goal.returns-clause-some
returns-clause-some g c =
    let name_is : c.as_str.result.now ≡ cue_name c.args.name.now = search rules in
    let text_is : c.as_bytes.result.now ≡ cue_text c.args.library.now (map cue_of c.args.marks.now) = search rules in
    subst (λ (z : List ℕ × List ℕ). WroteUpto (g.S.Shelf.told c.args.shelf.now) (g.S.Shelf.told c.write_file.new.shelf) (z.0 ∷ []) (one_file z.0 z.1))
    (λ i. (name_is i, text_is i)) c.write_file.ensures.some

pub returns-clause-all : goal.returns-clause-all
returns-clause-all g c =
    let name_is : c.as_str.result.now ≡ cue_name c.args.name.now = search rules in
    let text_is : c.as_bytes.result.now ≡ cue_text c.args.library.now (map cue_of c.args.marks.now) = search rules in
    subst (λ (z : List ℕ × List ℕ). OnOk c.write_file.result (WroteFiles (g.S.Shelf.told c.args.shelf.now) (g.S.Shelf.told c.write_file.new.shelf) (z.0 ∷ []) (one_file z.0 z.1)))
    (λ i. (name_is i, text_is i)) c.write_file.ensures.all
