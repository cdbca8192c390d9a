use Rattle.stretch_laws.proofs.Laning.{chosen, faded, mixed, played, read}
use Rattle.stretch_laws.proofs.laws.stretches_have_lanes.Goals as goal

pub returns : goal.returns
returns c = record {
  played = λ over leaf j at within gave. played over.setting over.sub over.clock over.past over.instants over.nodes over.stretch over.i over.node over.there leaf j at within gave;
  faded = λ over overlap j at within gave. faded over.setting over.sub over.clock over.past over.instants over.nodes over.stretch over.i over.node over.there overlap j at within gave;
  read = λ over buffer j at some within gave. read over.setting over.sub over.clock over.past over.instants over.nodes over.stretch over.i over.node over.there buffer j at some within gave;
  mixed = λ over mixing j at. mixed over.setting over.sub over.clock over.past over.instants over.nodes over.stretch over.i over.node over.there mixing j at;
  chosen = λ over choice eligible place child j at some within gave pick there.
      chosen over.setting over.sub over.clock over.past over.instants over.nodes over.stretch over.i over.node over.there choice eligible place child j at some within gave pick there;
}
