use Rattle.std.proofs.Common.{◌≡◌, ◌<◌, ◌*◌, ◌∙◌, Option, Some, length, slice_get, ap, arith, refl, sym, subst}
use Rattle.std.specs.Option.{option_map_or}
use Rattle.std.proofs.lemmas.Option.{slice_get_read}
use Rattle.liq_base.specs.declared.memory.Kind.TheVariants.{Stereo}
use Rattle.plan_core.specs.declared.node.Node.{Node}
use Rattle.clock_ticks.proofs.outputs.port_of.Goals as goal

pub returns-clause-new : goal.returns-clause-new
returns-clause-new c =
    let nodes = c.args.scene.now.plan.now.nodes in
    let within : c.args.node < length c.as_slice.result.now = subst (λ xs. c.args.node < length xs) (sym c.as_slice.ensures) c.requires.within in
    let read : slice_get nodes c.args.node ≡ Some c.index-as_slice-node.result =
    ap (λ xs. slice_get xs c.args.node) (sym c.as_slice.ensures) ∙ slice_get_read _ _ _ _ refl within c.index-as_slice-node.is in
    let kind : option_map_or (λ node. node.kind) (slice_get nodes c.args.node) Stereo ≡ c.index-as_slice-node.result.kind =
    ap (λ (found : Option Node). option_map_or (λ node. node.kind) found Stereo) read in
    λ other. record {
      kind = ap (λ (node : Node). node.kind) (sym c.index-as_slice-node.is) ∙ sym kind;
      wide = c.requires.width other;
      room = (let block = ap (λ n. c.args.scene.now.plan.now.frame * n) c.block_size.ensures in let room = ap (λ p. p.room) c.in_ok-piece.ensures in omega (arith, block, room));
      gaps = refl;
    }
