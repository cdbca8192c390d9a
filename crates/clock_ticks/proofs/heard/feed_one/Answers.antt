use Rattle.std.proofs.Common.{◌≡◌, ◌∙◌, suc, length, ap, subst, sym}
use Rattle.clock_outputs.specs.Feeds.{HasFeedRoom, fed}
use Rattle.stream_meaning.specs.Instants.{part_at}
use Rattle.clock_outputs.specs.Segments.{segment_slots}
use Rattle.op_mix.specs.Stretches.{samples_of}
use Rattle.clock_ticks.proofs.heard.feed_one.Goals as goal

pub hear-requires-clause-same : goal.hear-requires-clause-same
hear-requires-clause-same c = c.right_of.ensures.long ∙ sym c.left_of.ensures.long

pub hear-requires-clause-room : goal.hear-requires-clause-room
hear-requires-clause-room c =
    let long : length c.left_of.result.now ≡ c.args.many = c.left_of.ensures.long in
    subst (λ n. HasFeedRoom (suc n) c.args.feed.now) (sym long) c.requires.room

pub returns : goal.returns
returns c =
    let room = c.args.clocks.now.room in
    let long : length c.left_of.result.now ≡ c.args.many = c.left_of.ensures.long in
    let feed = c.args.feed.now in
    let slot = c.slot_of-slot.ensures ∙ ap (λ ps. (part_at ps feed.node).slot) c.deref.ensures.value in
    c.hear.ensures
    ∙ ap (λ n. fed feed (segment_slots c.slot_of-slot.result n c.left_of.result.now c.right_of.result.now)) long
    ∙ ap (λ s. fed feed (segment_slots s c.args.many c.left_of.result.now c.right_of.result.now)) slot
    ∙ ap (λ xs. fed feed (segment_slots (part_at c.args.clocks.now.latest.parts.items feed.node).slot c.args.many xs c.right_of.result.now)) c.left_of.ensures.is
    ∙ ap (λ xs. fed feed (segment_slots (part_at c.args.clocks.now.latest.parts.items feed.node).slot c.args.many (samples_of room.left.items feed.node c.args.many) xs)) c.right_of.ensures.is
