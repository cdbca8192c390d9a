use Rattle.std.proofs.Common.{◌≡◌, ◌∙◌, suc, length, ap, subst, sym}
use Rattle.clock_outputs.specs.Ports.{HasRoomLeft, after_slots}
use Rattle.stream_meaning.specs.Instants.{part_at}
use Rattle.clock_outputs.specs.Segments.{segment_slots}
use Rattle.op_mix.specs.Stretches.{samples_of}
use Rattle.clock_ticks.proofs.heard.hear_one.Goals as goal

pub hear-requires-clause-same : goal.hear-requires-clause-same
hear-requires-clause-same c = c.right_of.ensures.long ∙ sym c.left_of.ensures.long

pub hear-requires-clause-room : goal.hear-requires-clause-room
hear-requires-clause-room c =
    let long : length c.left_of.result.now ≡ c.args.many = c.left_of.ensures.long in
    subst (λ n. HasRoomLeft (suc n) c.args.port.now) (sym long) c.requires.room

pub returns : goal.returns
returns c =
    let room = c.args.clocks.now.room in
    let long : length c.left_of.result.now ≡ c.args.many = c.left_of.ensures.long in
    let port = c.args.port.now in
    let slot = c.slot_of-slot.ensures ∙ ap (λ ps. (part_at ps port.node).slot) c.deref.ensures.value in
    c.hear.ensures
    ∙ ap (λ n. after_slots port (segment_slots c.slot_of-slot.result n c.left_of.result.now c.right_of.result.now)) long
    ∙ ap (λ s. after_slots port (segment_slots s c.args.many c.left_of.result.now c.right_of.result.now)) slot
    ∙ ap (λ xs. after_slots port (segment_slots (part_at c.args.clocks.now.latest.parts.items port.node).slot c.args.many xs c.right_of.result.now)) c.left_of.ensures.is
    ∙ ap (λ xs. after_slots port (segment_slots (part_at c.args.clocks.now.latest.parts.items port.node).slot c.args.many (samples_of room.left.items port.node c.args.many) xs)) c.right_of.ensures.is
