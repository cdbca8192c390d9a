use Rattle.wav_io.proofs.Steps.{are_chunks}
use Rattle.wav_io.proofs.laws.chunks_are_all.Goals as goal

pub returns : goal.returns
returns c = λ bytes. are_chunks bytes 12
