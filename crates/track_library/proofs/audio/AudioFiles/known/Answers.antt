use Rattle.std.proofs.Common.{◌∙◌}
use Rattle.track_library.proofs.Names.{looked_up}
use Rattle.track_library.proofs.audio.AudioFiles.known.Goals as goal

pub returns : goal.returns
returns c = c.copied.ensures ∙ c.get.ensures.value ∙ looked_up c.args.self.now.names.entries c.args.name.now
