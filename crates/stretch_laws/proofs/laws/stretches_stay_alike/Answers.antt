use Rattle.stretch_laws.proofs.Stretching.{alike_all, on_all}
use Rattle.stretch_laws.proofs.laws.stretches_stay_alike.Goals as goal

pub returns : goal.returns
returns c = record {
  like = λ setting sub clock past instants j nodes stretch some within. alike_all setting sub clock past instants nodes stretch j some within;
  on = λ setting sub clock past instants j nodes stretch within. on_all setting sub clock past instants nodes stretch j within;
}
