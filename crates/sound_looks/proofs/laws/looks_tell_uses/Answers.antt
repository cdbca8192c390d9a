use Rattle.liq_base.specs.Files.{file_at}
use Rattle.track_library.specs.Walk.{bytes_in}
use Rattle.sound_looks.proofs.Looking.{tells}
use Rattle.sound_looks.proofs.laws.looks_tell_uses.Goals as goal

pub returns : goal.returns
returns c = λ rules files name. tells rules (bytes_in rules.file (file_at files name))
