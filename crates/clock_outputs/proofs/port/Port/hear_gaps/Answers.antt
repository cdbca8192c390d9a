use Rattle.std.proofs.Common.{◌≡◌, ◌+◌, ◌-◌, ◌^◌, ◌∙◌, ◌++◌, None, min, replicate, ap, arith}
use Rattle.std.specs.List.{flat_map}
use Rattle.stream_meaning.specs.Sinks.{slot_block}
use Rattle.clock_outputs.specs.Filled.{Filled}
use Rattle.clock_outputs.specs.Ports.{with_bytes}
use Rattle.clock_outputs.proofs.Pieces.{after_gaps}
use Rattle.clock_outputs.proofs.port.Port.hear_gaps.Goals as goal

pub returns : goal.returns
returns c =
    let port = c.args.self.now in
    let gaps : c.saturating_add-self.result ≡ min (port.gaps + c.args.count) (2 ^ 64 - 1) = omega (arith, c.saturating_add-self.ensures) in
    ap (λ (piece : Filled). record { sink = port.sink; node = port.node; kind = port.kind; wide = port.wide; piece = piece; gaps = c.saturating_add-self.result; gaps_before = port.gaps_before }) c.add_gaps.ensures
    ∙ ap (λ n. with_bytes port (port.piece.bytes ++ flat_map (slot_block port.wide port.kind) (replicate c.args.count None)) n) gaps
    ∙ after_gaps port c.args.count c.requires.some
