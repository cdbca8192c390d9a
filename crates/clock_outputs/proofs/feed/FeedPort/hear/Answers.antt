use Rattle.std.proofs.Common.{◌≡◌, ◌∙◌, ◌++◌, ◌∷◌, [], suc, length, ap, sym, to_z, of_z, w16, FitsSigned, arith, rules}
use Rattle.std.proofs.lemmas.Int.{to_z-of_z}
use Rattle.std.proofs.lemmas.List.{length-append}
use Rattle.frame_core.specs.declared.cell.Cell.{Cell}
use Rattle.frame_core.specs.Frames.{Laid}
use Rattle.clock_outputs.specs.Feeds.{fed}
use Rattle.clock_outputs.specs.Segments.{segment_slots}
use Rattle.clock_outputs.proofs.Fed.{fed_cells, fed_none}
use Rattle.clock_outputs.proofs.feed.FeedPort.hear.Goals as goal

pub lay-requires-2-clause-room : goal.lay-requires-2-clause-room
lay-requires-2-clause-room c =
    let cell = c.in-Some.cell in
    let one = c.lay.ensures in
    let more : Cell = record { left = to_z w16 (of_z w16 cell.left); right = to_z w16 (of_z w16 cell.right); first = cell.first; title = cell.title } in
    let long = ap (λ (f : Laid). length f.cells) one ∙ length-append c.args.self.now.frame.cells (more ∷ []) in
    omega (arith, long, ap (λ (f : Laid). f.room) one, c.requires.room)

pub returns-in_default : goal.returns-in_default
returns-in_default c =
    let feed = c.args.self.now in
    fed_none feed (suc (length c.args.left.now))
    ∙ sym (ap (λ s. fed feed (segment_slots s (length c.args.left.now) c.args.left.now c.args.right.now)) c.in_default.is)

pub returns : goal.returns
returns c =
    let feed = c.args.self.now in
    let cell = c.in-Some.cell in
    let fits_left : FitsSigned w16 cell.left = search rules in
    let fits_right : FitsSigned w16 cell.right = search rules in
    let one : c.lay.new.self ≡ record { cells = feed.frame.cells ++ cell ∷ []; room = feed.frame.room } =
    c.lay.ensures
    ∙ ap (λ l. record { cells = feed.frame.cells ++ record { left = l; right = to_z w16 (of_z w16 cell.right); first = cell.first; title = cell.title } ∷ []; room = feed.frame.room }) (to_z-of_z w16 cell.left fits_left)
    ∙ ap (λ r. record { cells = feed.frame.cells ++ record { left = cell.left; right = r; first = cell.first; title = cell.title } ∷ []; room = feed.frame.room }) (to_z-of_z w16 cell.right fits_right) in
    fed_cells feed cell c.args.left.now c.args.right.now c.lay.new.self c.lay-2.new.self c.requires.same one c.lay-2.ensures
    ∙ sym (ap (λ s. fed feed (segment_slots s (length c.args.left.now) c.args.left.now c.args.right.now)) c.in-Some.is)
