use Rattle.wav_io.proofs.Own.{own_is_read}
use Rattle.wav_io.proofs.laws.own_files_are_read.Goals as goal

pub returns : goal.returns
returns c = λ wide kind rate samples header body pad some small many is as_many odd. own_is_read wide kind rate samples header body pad some small many is as_many
