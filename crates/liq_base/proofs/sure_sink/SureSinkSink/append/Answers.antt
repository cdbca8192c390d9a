use Rattle.std.proofs.Common.{◌≡◌, ◌≤◌, ◌+◌, ◌-◌, length, ap, refl, arith}
use Rattle.std.specs.Vec.{vec_len}
use Rattle.liq_base.specs.SinkStates.{SureState}
use Rattle.liq_base.proofs.sure_sink.SureSinkSink.append.Goals as goal

pub unwrap-requires : goal.unwrap-requires
unwrap-requires c =
    let fits : length c.args.piece.now ≤ c.args.self.now.room - length c.args.self.now.held = c.requires _ refl in
    let room : c.self.inside.room ≡ c.args.self.now.room = ap (λ (s : SureState). s.room) c.self.view_is in
    let held : length c.self.inside.bytes.items ≡ length c.args.self.now.held = ap (λ (s : SureState). length s.held) c.self.view_is in
    c.extend_from_slice.ensures.succeeds (omega (arith, c.self.invariant, c.self.inside.bytes.ok))

pub invariant_of-self : goal.invariant_of-self
invariant_of-self c =
    let fits : length c.args.piece.now ≤ c.args.self.now.room - length c.args.self.now.held = c.requires _ refl in
    let room : c.self.inside.room ≡ c.args.self.now.room = ap (λ (s : SureState). s.room) c.self.view_is in
    let held : length c.self.inside.bytes.items ≡ length c.args.self.now.held = ap (λ (s : SureState). length s.held) c.self.view_is in
    let long : vec_len c.extend_from_slice.new.self ≡ vec_len c.self.inside.bytes + length c.args.piece.now = rw c.unwrap.ensures at c.extend_from_slice.ensures.len in
    (omega (arith, c.self.invariant, c.self.inside.bytes.ok), omega (arith, c.self.invariant, c.extend_from_slice.ensures.capacity))
