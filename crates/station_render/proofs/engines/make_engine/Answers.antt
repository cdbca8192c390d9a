use Rattle.std.proofs.Common.{◌∙◌, ap, set, slice_get, []}
use Rattle.station_render.specs.Sinks.{lists_of}
use Rattle.station_render.proofs.Lists.{set_here}
use Rattle.station_render.proofs.Pooling.{put_again}
use Rattle.station_render.proofs.engines.make_engine.Goals as goal

pub put_back-requires : goal.put_back-requires
put_back-requires g c =
    ap (λ gs. slice_get gs c.args.clock) c.take_out-outs.ensures.left ∙ set_here (lists_of c.args.groups.now.items) c.args.clock [] c.requires.below

pub returns-in-Err-clause-back : goal.returns-in-Err-clause-back
returns-in-Err-clause-back g c =
    c.put_back.ensures ∙ ap (λ gs. set gs c.args.clock c.in-Err.outs.items) c.take_out-outs.ensures.left
    ∙ put_again (lists_of c.args.groups.now.items) c.args.clock c.take_out-outs.result.items c.in-Err.outs.items c.take_out-outs.ensures.outs c.in-Err.ensures.back
