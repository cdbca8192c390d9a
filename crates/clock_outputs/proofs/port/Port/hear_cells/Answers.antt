use Rattle.std.proofs.Common.{◌∙◌, ap}
use Rattle.clock_outputs.specs.Filled.{Filled}
use Rattle.clock_outputs.proofs.Pieces.{after_cells}
use Rattle.clock_outputs.proofs.port.Port.hear_cells.Goals as goal

pub returns : goal.returns
returns c = λ title.
    let port = c.args.self.now in
    ap (λ (piece : Filled). record { sink = port.sink; node = port.node; kind = port.kind; wide = port.wide; piece = piece; gaps = port.gaps; gaps_before = port.gaps_before }) c.add_cells.ensures
    ∙ after_cells port title c.args.left.now c.args.right.now c.requires.same
