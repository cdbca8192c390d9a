use Rattle.std.proofs.Common.{◌<◌, ◌∙◌, false, length, get_or, set, arith, ap, sym, inl, inr}
use Rattle.std.proofs.lemmas.List.{get_or-set_other, get_or-set_same, get_or_default, length-set}
use Rattle.clock_infer.specs.declared.clock_map.NodeClock.TheVariants.{Main}
use Rattle.stream_meaning.specs.Instants.{is_root}
use Rattle.clock_nodes.specs.Scenes.{setting_over}
use Rattle.clock_nodes.proofs.Places.{below_or_same}
use Rattle.clock_ticks.proofs.parts.keep_roots.Goals as goal

pub is_own_root-requires : goal.is_own_root-requires
is_own_root-requires c =
    let here : c.loop-i.i < length c.loop-i.own = omega (arith, c.loop-i-test.true, c.loop-i.invariant.size, c.requires.in_clocks) in
    get_or_default _ c.loop-i.i _ false here ∙ c.loop-i.invariant.left c.loop-i.i (omega arith) ∙ c.requires.demanded c.loop-i.i

pub loop-i-preserved : goal.loop-i-preserved
loop-i-preserved c =
    let within : c.loop-i.i < length c.loop-i.own = omega (arith, c.loop-i-test.true, c.loop-i.invariant.size, c.requires.in_clocks) in
    let here : c.loop-i.i < length c.args.scene.now.clocks.now = omega (arith, c.loop-i-test.true) in
    record {
      size = length-set c.loop-i.own c.loop-i.i c.is_own_root.result ∙ c.loop-i.invariant.size;
      done = λ j below other. elim (below_or_same j c.loop-i.i below) [
        | inl low ↦ get_or-set_other c.loop-i.own c.loop-i.i j c.is_own_root.result false (λ e. omega (arith, low, e)) ∙ c.loop-i.invariant.done j low other
        | inr same ↦ ap (λ k. get_or (set c.loop-i.own c.loop-i.i c.is_own_root.result) k false) same
            ∙ get_or-set_same c.loop-i.own c.loop-i.i c.is_own_root.result false within
            ∙ c.is_own_root.ensures other
            ∙ ap (λ of. is_root (setting_over c.args.scene.now other) of c.loop-i.i) (sym (get_or_default _ c.loop-i.i (Main 0) _ here))
            ∙ ap (λ k. is_root (setting_over c.args.scene.now other) (get_or c.args.scene.now.clocks.now k (Main 0)) k) (sym same)
      ];
      left = λ j high. get_or-set_other c.loop-i.own c.loop-i.i j c.is_own_root.result false (λ e. omega (arith, high, e)) ∙ c.loop-i.invariant.left j (omega (arith, high));
    }

pub returns : goal.returns
returns c other i within = c.loop-i.invariant.done i (omega (arith, within, c.loop-i-test.false, c.requires.in_clocks)) other
