use Rattle.std.proofs.Common.{◌≡◌, ◌≤◌, ◌+◌, ◌*◌, ◌-◌, ◌∙◌, None, length, take, drop, replicate, ap, arith, sym}
use Rattle.std.specs.List.{flat_map}
use Rattle.std.proofs.lemmas.List.{length-drop, length-replicate, length-take, length-take-le, with_items_is}
use Rattle.std.proofs.lemmas.Simd.{length-put_chunk}
use Rattle.stream_meaning.specs.Sinks.{block_length, slot_block}
use Rattle.clock_outputs.proofs.Pieces.{more_filled, part_put, zeros_are}
use Rattle.clock_outputs.proofs.piece.Piece.add_gaps.Goals as goal
use borrow.Rule.Slice.PartMut.{put_mid}

pub returns : goal.returns
returns c =
    let v = c.self.inside in
    let items = v.bytes.items in
    let start = v.filled in
    let size = c.args.count * block_length c.args.wide c.args.kind in
    let end = start + c.args.count * c.block_size.result in
    let more = flat_map (slot_block c.args.wide c.args.kind) (replicate c.args.count None) in
    let as_many : c.args.count * c.block_size.result ≡ size = ap (λ n. c.args.count * n) c.block_size.ensures in
    let long : length more ≡ size = ap length (sym (zeros_are c.args.wide c.args.kind c.args.count)) ∙ length-replicate size 0 in
    let held : length c.args.self.now.bytes ≡ start = ap (λ f. length f.bytes) (sym c.self.view_is) ∙ length-take-le start items c.self.invariant in
    let room : c.args.self.now.room ≡ length items = ap (λ f. f.room) (sym c.self.view_is) in
    let fits : start + size ≤ length items = omega (arith, held, room, c.requires) in
    let many : end - start ≡ size = omega (arith, as_many) in
    let part : length (take (end - start) (drop start c.deref_mut.result.now)) ≡ size =
    (let t = length-take (end - start) (drop start c.deref_mut.result.now) in let d = length-drop start c.deref_mut.result.now in let value = ap length c.deref_mut.ensures.value in omega (arith, t, d, value, fits, many)) in
    let laid = part_put start (end - start) size items c.deref_mut.result.now c.fill.new.self more many c.deref_mut.ensures.value
    (c.fill.ensures.after (λ y e. e) ∙ ap (λ n. replicate n 0) part ∙ zeros_are c.args.wide c.args.kind c.args.count) long fits in
    let now = with_items_is v.bytes (put_mid start (end - start) c.deref_mut.result.now c.fill.new.self) (ap length laid ∙ length-put_chunk start items more ∙ sym v.bytes.ok.0) ∙ laid in
    more_filled items _ more start end c.args.self.now now (omega (arith, as_many, long)) (omega (arith, as_many, fits)) c.self.view_is
