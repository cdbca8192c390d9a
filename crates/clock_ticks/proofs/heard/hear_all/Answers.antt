use Rattle.std.proofs.Common.{◌<◌, ◌∙◌, suc, length, arith, ap, subst, sym}
use Rattle.std.proofs.Math.ListN.{length-set}
use Rattle.clock_outputs.specs.declared.port.Port.{Port}
use Rattle.clock_outputs.specs.Ports.{HasRoomLeft, after_slots}
use Rattle.clock_outputs.proofs.Mapped.{mapped_more}
use Rattle.clock_ticks.specs.Hearings.{segment_of}
use Rattle.clock_ticks.proofs.Hearing.{still_there}
use Rattle.clock_ticks.proofs.heard.hear_all.Goals as goal

pub hear_one-requires-clause-within : goal.hear_one-requires-clause-within
hear_one-requires-clause-within c =
    let k = c.loop-k.k in
    let before : k < length c.args.ports.now.items = (let sizes = c.loop-k.invariant.sizes in omega (arith, sizes, c.loop-k-test.true)) in
    let is = still_there (λ (port : Port). after_slots port (segment_of c.args.clocks.now c.args.many port.node)) c.args.ports.now.items c.loop-k.ports.items k c.index_mut.result.now c.loop-k.invariant.are c.index_mut.ensures.value before in
    subst (λ (port : Port). port.node < c.args.nodes) (sym is) (c.requires.within k c.index_mut.result.now before)

pub hear_one-requires-clause-room : goal.hear_one-requires-clause-room
hear_one-requires-clause-room c =
    let k = c.loop-k.k in
    let before : k < length c.args.ports.now.items = (let sizes = c.loop-k.invariant.sizes in omega (arith, sizes, c.loop-k-test.true)) in
    let is = still_there (λ (port : Port). after_slots port (segment_of c.args.clocks.now c.args.many port.node)) c.args.ports.now.items c.loop-k.ports.items k c.index_mut.result.now c.loop-k.invariant.are c.index_mut.ensures.value before in
    subst (λ (port : Port). HasRoomLeft (suc c.args.many) port) (sym is) (c.requires.room k c.index_mut.result.now before)

pub loop-k-preserved : goal.loop-k-preserved
loop-k-preserved c =
    let k = c.loop-k.k in
    let before : k < length c.args.ports.now.items = (let sizes = c.loop-k.invariant.sizes in omega (arith, sizes, c.loop-k-test.true)) in
    let heard : Port → Port = λ port. after_slots port (segment_of c.args.clocks.now c.args.many port.node) in
    record {
      sizes = length-set _ _ _ ∙ c.loop-k.invariant.sizes;
      are = mapped_more heard c.args.ports.now.items c.loop-k.ports.items k c.index_mut.result.now _ before c.loop-k.invariant.are (c.hear_one.ensures ∙ ap heard c.index_mut.ensures.value);
    }
