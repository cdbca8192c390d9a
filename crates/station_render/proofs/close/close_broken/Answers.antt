use Rattle.std.proofs.Common.{◌⊎◌, inl, inr, sym, true≢false, refl}
use Rattle.station_render.specs.Sinks.{lists_of}
use Rattle.station_render.proofs.Ending.{some_written, with_failed}
use Rattle.station_render.proofs.close.close_broken.Goals as goal

pub close_each-closed-requires-clause-rooms : goal.close_each-closed-requires-clause-rooms
close_each-closed-requires-clause-rooms g c = λ κs lives well. absurd (true≢false (sym well))

pub returns-clause-part : goal.returns-clause-part
returns-clause-part g c = λ station first same ran idle risen files at.
    inl (some_written g.S.Out.Sink.told station first _ _ same c.args.order.now (lists_of c.args.groups.items) _ ran (inr idle)
    (λ device. with_failed (risen device) c.close_each-closed.ensures.failed)
    c.close_each-closed.ensures.shelf.created_kept c.close_each-closed.ensures.closed (c.close_each-closed.ensures.part refl) files at)

pub returns-clause-closed : goal.returns-clause-closed
returns-clause-closed g c = c.close_each-closed.ensures.closed
