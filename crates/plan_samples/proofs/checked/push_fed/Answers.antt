use Rattle.std.proofs.Common.{rules, ◌<◌, length}
use Rattle.plan_core.specs.Plans.{IsBuffer}
use Rattle.plan_samples.proofs.Grown.{stereo_buffer}
use Rattle.plan_samples.proofs.checked.push_fed.Goals as goal

pub returns-in-Ok-clause-stereo : goal.returns-in-Ok-clause-stereo
returns-in-Ok-clause-stereo c =
    let below : c.args.source < length c.args.draft.now.nodes = search rules in
    let fits : IsBuffer c.args.buffer = search rules in
    stereo_buffer c.args.draft.now c.push_buffer.new.self c.args.source c.args.buffer c.requires.stereo fits below c.in-Ok.ensures.added c.in-Ok.ensures.well_formed
