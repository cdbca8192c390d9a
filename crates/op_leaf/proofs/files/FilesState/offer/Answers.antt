use Rattle.std.proofs.Common.{◌<◌, ◌≤◌, ◌∙◌, Some, ap, sym, length, arith}
use Rattle.frame_core.specs.Library.{tracks_of}
use Rattle.op_leaf.proofs.Cursors.{files-here, files-over}
use Rattle.op_leaf.proofs.files.FilesState.offer.Goals as goal

pub returns-then-self-tracks-clause-offered : goal.returns-then-self-tracks-clause-offered
returns-then-self-tracks-clause-offered c p stands =
    let there : c.args.self.now.track < length (tracks_of c.args.library.now c.args.self.now.node) = omega (arith, c.if-self-tracks.true, c.tracks.ensures.count) in
    ap Some c.cell.ensures ∙ sym (files-here c.args.library.now c.args.self.now p c.requires stands there)

pub returns-else-self-tracks-clause-offered : goal.returns-else-self-tracks-clause-offered
returns-else-self-tracks-clause-offered c p stands =
    let over : length (tracks_of c.args.library.now c.args.self.now.node) ≤ c.args.self.now.track = omega (arith, c.if-self-tracks.false, c.tracks.ensures.count) in
    sym (files-over c.args.library.now c.args.self.now p stands over)
