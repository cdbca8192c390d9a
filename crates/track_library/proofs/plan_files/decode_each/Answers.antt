use Rattle.std.proofs.Common.{◌∙◌}
use Rattle.track_library.proofs.Taken.{all_taken}
use Rattle.track_library.proofs.plan_files.decode_each.Goals as goal

pub returns : goal.returns
returns c = record {
  tracks =
      c.loop-file.invariant
      ∙ all_taken c.args.files.items c.loop-file.yielded _ c.loop-file.file-iterator c.next.new.self c.into_iter-file-iterator.ensures.into_iter_gives.0 (c.into_iter-file-iterator.ensures.into_iter_gives.1 ∙ c.args.files.ok.0) c.loop-file.yielded_by c.in-None.ensures.steps;
}
