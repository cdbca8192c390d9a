use Rattle.std.proofs.Common.{◌∙◌, length, false, ap, sym}
use Rattle.cell_ring.specs.Rings.{Ring}
use Rattle.op_leaf.specs.Readers.{read_by, reader_slot}
use Rattle.op_leaf.proofs.Reading.{are_there, lefts_are, reader_of, reads_on, rights_are, stretch_lane}
use Rattle.op_leaf.proofs.reader.ReaderState.run.Goals as goal

pub take_into-requires-clause-there : goal.take_into-requires-clause-there
take_into-requires-clause-there c = are_there c.args.self.now c.self.inside.playing c.self.inside.fresh c.self.inside.queue.cells c.self.inside.prefill c.self.inside.frame
    (sym c.self.view_is) c.requires.ahead.here (length c.args.left.now) c.requires.some c.requires.ahead

pub returns-clause-read : goal.returns-clause-read
returns-clause-read c =
    ap (λ (r : Ring). reader_of c.self.inside.playing false r.cells c.self.inside.prefill c.self.inside.frame) c.take_into.ensures.rest
    ∙ sym (reads_on c.args.self.now c.self.inside.playing c.self.inside.fresh c.self.inside.queue.cells c.self.inside.prefill c.self.inside.frame
    (sym c.self.view_is) c.requires.ahead.here (length c.args.left.now) c.requires.some c.requires.ahead)

pub returns-clause-left : goal.returns-clause-left
returns-clause-left c = c.take_into.ensures.left
    ∙ lefts_are c.args.self.now c.self.inside.playing c.self.inside.fresh c.self.inside.queue.cells c.self.inside.prefill c.self.inside.frame
    (sym c.self.view_is) c.requires.ahead.here (length c.args.left.now) c.requires.some c.requires.ahead

pub returns-clause-right : goal.returns-clause-right
returns-clause-right c = c.take_into.ensures.right
    ∙ rights_are c.args.self.now c.self.inside.playing c.self.inside.fresh c.self.inside.queue.cells c.self.inside.prefill c.self.inside.frame
    (sym c.self.view_is) c.requires.ahead.here (length c.args.left.now) c.requires.some c.requires.ahead

pub returns-clause-lane : goal.returns-clause-lane
returns-clause-lane c = λ first.
    stretch_lane (λ j. reader_slot (read_by j c.args.self.now)) (length c.args.left.now) c.take_into.new.left c.take_into.new.right c.requires.ahead
    (c.take_into.ensures.left
    ∙ lefts_are c.args.self.now c.self.inside.playing c.self.inside.fresh c.self.inside.queue.cells c.self.inside.prefill c.self.inside.frame
    (sym c.self.view_is) c.requires.ahead.here (length c.args.left.now) c.requires.some c.requires.ahead)
    (c.take_into.ensures.right
    ∙ rights_are c.args.self.now c.self.inside.playing c.self.inside.fresh c.self.inside.queue.cells c.self.inside.prefill c.self.inside.frame
    (sym c.self.view_is) c.requires.ahead.here (length c.args.left.now) c.requires.some c.requires.ahead) first
