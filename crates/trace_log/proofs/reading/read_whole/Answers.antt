use Rattle.std.proofs.Common.{rules, ◌≡◌, ◌<◌, ◌^◌, ◌++◌, ◌*◌, [], length, replicate, sym, ap, ◌∙◌, subst, arith}
use Rattle.std.proofs.lemmas.List.{length-replicate}
use Rattle.trace_log.specs.Texts.{header, lines_below, window_count, InBounds}
use Rattle.trace_log.specs.Stops.{Lines}
use Rattle.trace_log.proofs.Whole.{lines_behind, places_fit, whole_trace}
use Rattle.trace_log.proofs.reading.read_whole.Goals as goal

pub returns : goal.returns
returns c =
    let found : InBounds c.unwrap-ticks.result.0 c.unwrap-ticks.result.1 c.unwrap-ticks.result.2 × (c.args.text.now ≡ header c.unwrap-ticks.result.0 c.unwrap-ticks.result.1 c.unwrap-ticks.result.2 ++ c.unwrap-ticks.result.3.now) = search rules in
    let many : length c.in_ok-buffers.buffers.items ≡ c.unwrap-ticks.result.2 = ap length c.in_ok-buffers.ensures ∙ length-replicate c.unwrap-ticks.result.2 _ in
    let ended = c.in_ok-read_lines.ensures in
    let windows = window_count c.unwrap-ticks.result.0 c.unwrap-ticks.result.1 in
    whole_trace c.args.text.now c.unwrap-ticks.result.0 c.unwrap-ticks.result.1 c.unwrap-ticks.result.2 c.unwrap-ticks.result.3.now c.read_lines.new.buffers.items found.0 found.1 (ended.all ∙ many)
    (λ k h. ended.each k (omega (arith, h, many)))
    (subst (λ m. c.unwrap-ticks.result.3.now ≡ lines_below c.read_lines.new.buffers.items m (windows * m)) many ended.lines)

pub read_lines-requires-clause-empty : goal.read_lines-requires-clause-empty
read_lines-requires-clause-empty c =
    let many : length c.in_ok-buffers.buffers.items ≡ c.unwrap-ticks.result.2 = ap length c.in_ok-buffers.ensures ∙ length-replicate c.unwrap-ticks.result.2 _ in
    c.in_ok-buffers.ensures ∙ ap (λ n. replicate n []) (sym many)

pub read_lines-requires-clause-fit : goal.read_lines-requires-clause-fit
read_lines-requires-clause-fit c =
    let found : InBounds c.unwrap-ticks.result.0 c.unwrap-ticks.result.1 c.unwrap-ticks.result.2 = search rules in
    let many : length c.in_ok-buffers.buffers.items ≡ c.unwrap-ticks.result.2 = ap length c.in_ok-buffers.ensures ∙ length-replicate c.unwrap-ticks.result.2 _ in
    subst (λ m. window_count c.unwrap-ticks.result.0 c.unwrap-ticks.result.1 * m < 2 ^ 64) (sym many) (places_fit _ _ _ found)

pub read_lines-requires-clause-lines : goal.read_lines-requires-clause-lines
read_lines-requires-clause-lines c =
    let found : InBounds c.unwrap-ticks.result.0 c.unwrap-ticks.result.1 c.unwrap-ticks.result.2 × (c.args.text.now ≡ header c.unwrap-ticks.result.0 c.unwrap-ticks.result.1 c.unwrap-ticks.result.2 ++ c.unwrap-ticks.result.3.now) = search rules in
    let many : length c.in_ok-buffers.buffers.items ≡ c.unwrap-ticks.result.2 = ap length c.in_ok-buffers.ensures ∙ length-replicate c.unwrap-ticks.result.2 _ in
    subst (λ m. Lines m (window_count c.unwrap-ticks.result.0 c.unwrap-ticks.result.1 * m) c.unwrap-ticks.result.3.now) (sym many) (lines_behind c.args.text.now _ _ _ _ c.requires found.0 found.1)
