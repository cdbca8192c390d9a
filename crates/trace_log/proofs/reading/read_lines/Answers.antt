use Rattle.std.proofs.Common.{rules, ◌≡◌, ◌<◌, ◌*◌, ◌^◌, [], length, replicate, sym, ap, ◌∙◌, subst, arith}
use Rattle.trace_log.specs.Stops.{Lines}
use Rattle.trace_log.specs.Texts.{lines_below}
use Rattle.trace_log.proofs.Joins.{some_inside}
use Rattle.trace_log.proofs.Filling.{none_read, more_read, with_log}
use Rattle.trace_log.proofs.Whole.{line_there, lines_end, windows_end}
use Rattle.trace_log.proofs.reading.read_lines.Goals as goal

pub overflow_mul-place-end : goal.overflow_mul-place-end
overflow_mul-place-end c =
    let many : c.len-many.result ≡ length c.args.buffers.now.items = search rules in
    let fit : c.args.windows * c.len-many.result < 2 ^ 64 = subst (λ m. c.args.windows * m < 2 ^ 64) (sym many) c.requires.fit in
    search rules

pub loop-place-init : goal.loop-place-init
loop-place-init c =
    let many : c.len-many.result ≡ length c.args.buffers.now.items = search rules in
    record { read = none_read c.args.text.now c.args.buffers.now.items c.len-many.result (c.requires.empty ∙ ap (λ n. replicate n []) (sym many)) }

pub read_line-requires : goal.read_line-requires
read_line-requires c =
    let many : c.len-many.result ≡ length c.args.buffers.now.items = search rules in
    let form : Lines c.len-many.result (c.args.windows * c.len-many.result) c.args.text.now = subst (λ m. Lines m (c.args.windows * m) c.args.text.now) (sym many) c.requires.lines in
    line_there c.args.text.now c.loop-place.buffers.items c.len-many.result (c.args.windows * c.len-many.result) c.loop-place.place c.loop-place.rest.now form c.loop-place.invariant.read c.loop-place-test.true

pub loop-place-preserved : goal.loop-place-preserved
loop-place-preserved c =
    let some : 0 < c.len-many.result = some_inside c.loop-place.place c.args.windows c.len-many.result c.loop-place-test.true in
    let added : c.add_log.new.buffers.items ≡ with_log c.loop-place.buffers.items c.len-many.result c.loop-place.place c.in_ok-log.log = search rules in
    record { read = more_read c.args.text.now c.loop-place.buffers.items c.add_log.new.buffers.items c.len-many.result c.loop-place.place c.in_ok-log.log c.loop-place.rest.now c.in_ok-log.after.now some c.loop-place.invariant.read added c.in_ok-log.ensures }

pub returns-clause-each : goal.returns-clause-each
returns-clause-each c =
    let many : c.len-many.result ≡ length c.args.buffers.now.items = search rules in
    let all : c.loop-place.place ≡ c.args.windows * c.len-many.result = search rules in
    λ b h. windows_end c.args.text.now c.loop-place.buffers.items c.len-many.result c.args.windows c.loop-place.place c.loop-place.rest.now c.loop-place.invariant.read all b (omega (arith, h, many))

pub returns-clause-lines : goal.returns-clause-lines
returns-clause-lines c =
    let many : c.len-many.result ≡ length c.args.buffers.now.items = search rules in
    let all : c.loop-place.place ≡ c.args.windows * c.len-many.result = search rules in
    let form : Lines c.len-many.result (c.args.windows * c.len-many.result) c.args.text.now = subst (λ m. Lines m (c.args.windows * m) c.args.text.now) (sym many) c.requires.lines in
    subst (λ m. c.args.text.now ≡ lines_below c.loop-place.buffers.items m (c.args.windows * m)) many
    (lines_end c.args.text.now c.loop-place.buffers.items c.len-many.result (c.args.windows * c.len-many.result) c.loop-place.place c.loop-place.rest.now form c.loop-place.invariant.read all)
