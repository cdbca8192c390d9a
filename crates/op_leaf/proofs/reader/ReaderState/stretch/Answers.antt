use Rattle.std.proofs.Common.{◌∙◌, ap, arith, sym}
use Rattle.frame_core.specs.Slots.{title_of}
use Rattle.op_leaf.proofs.Reading.{lies_ahead, stretches}
use Rattle.op_leaf.proofs.reader.ReaderState.stretch.Goals as goal

pub returns-clause-stretch : goal.returns-clause-stretch
returns-clause-stretch c = λ here.
    stretches c.args.self.now c.self.inside.playing c.self.inside.fresh c.self.inside.queue.cells c.self.inside.prefill c.self.inside.frame (sym c.self.view_is) here
    c.title_of.result c.args.most c.inner.result (c.title_of.ensures ∙ ap title_of c.front.ensures) (let w = c.inner.ensures.within in omega (arith, w, c.requires.some)) c.inner.ensures.inner c.inner.ensures.ends

pub returns-clause-ahead : goal.returns-clause-ahead
returns-clause-ahead c = λ here.
    lies_ahead c.args.self.now c.self.inside.playing c.self.inside.fresh c.self.inside.queue.cells c.self.inside.prefill c.self.inside.frame (sym c.self.view_is) here
    c.title_of.result c.args.most c.inner.result (c.title_of.ensures ∙ ap title_of c.front.ensures) (let w = c.inner.ensures.within in omega (arith, w, c.requires.some)) c.inner.ensures.inner c.inner.ensures.ends
