use Rattle.std.proofs.Common.{rules, ◌<◌, length}
use Rattle.std.specs.Prelude.{string_bytes}
use Rattle.station_render.proofs.Lists.{got}
use Rattle.station_render.proofs.Reporting.{buffer_more}
use Rattle.station_render.proofs.reports.push_buffers.Goals as goal

pub loop-buffer-preserved : goal.loop-buffer-preserved
loop-buffer-preserved c =
    let low : c.loop-buffer.buffer < length c.args.counts.now = search rules in
    buffer_more c.args.counts.now c.loop-buffer.buffer _ (got c.args.counts.now c.loop-buffer.buffer _ low)
    (string_bytes c.args.text.now) (string_bytes c.loop-buffer.text) (string_bytes c.push_puts.new.text) (string_bytes c.push_takes.new.text)
    c.loop-buffer.invariant c.in_ok-push_puts.ensures c.in_ok-push_takes.ensures
