use Rattle.std.proofs.Common.{rules, ◌≡◌, ◌<◌, ◌≤◌, ◌-◌, ◌∙◌, ◌++◌, ℕ, suc, Some, Bool, false, length, get_or, slice_get, drop, take, arith, ap, sym, refl, subst}
use Rattle.std.proofs.lemmas.List.{get_or_default, length-append, length-drop, length-take, length-take-le}
use Rattle.std.proofs.lemmas.Option.{slice_get_read}
use Rattle.stream_meaning.specs.Instants.{part_at, silent}
use Rattle.clock_instants.specs.Demands.{uses_in, with_plan}
use Rattle.clock_nodes.specs.Nodes.{lies_at}
use Rattle.clock_instants.proofs.Marking.{Marked-all, Marked-used, Marked-unused}
use Rattle.clock_instants.proofs.Unmarked.{Marked-over, not_used, stays_unmarked}
use Rattle.clock_nodes.proofs.Walking.{end_own}
use Rattle.clock_instants.proofs.demand.find_demanded.Goals as goal

pub demand_used-requires-clause-in_demanded : goal.demand_used-requires-clause-in_demanded
demand_used-requires-clause-in_demanded c k d h =
    let in_nodes : c.loop-i.i - 1 < length c.args.scene.now.plan.now.nodes = omega (arith, c.requires.in_demanded, ap length c.as_slice-all.ensures, c.loop-i.invariant.within) in
    let found : slice_get c.args.scene.now.plan.now.nodes (c.loop-i.i - 1) ≡ Some c.index-all-at.result =
    slice_get_read _ _ _ _ refl in_nodes (c.index-all-at.is ∙ ap (λ nodes. get_or nodes (c.loop-i.i - 1) c.index-all-at.result) c.as_slice-all.ensures) in
    let same : c.as_slice.result.now ≡ c.index-all-at.result.children = search rules in
    let low = (c.requires.scene.nodes (c.loop-i.i - 1) c.index-all-at.result found).children k d (subst (λ xs. k < length xs) same h) in
    let low' : get_or c.as_slice.result.now k d < length (take (c.loop-i.i - 1) c.args.scene.now.plan.now.nodes) = subst (λ xs. get_or xs k d < length (take (c.loop-i.i - 1) c.args.scene.now.plan.now.nodes)) (sym same) low in
    let short : c.loop-i.i - 1 ≤ length c.args.scene.now.plan.now.nodes = omega (arith, in_nodes) in
    let short' : c.loop-i.i - 1 ≤ length c.loop-i.demanded = omega (arith, c.requires.in_demanded, in_nodes) in
    let one = length-take-le (c.loop-i.i - 1) c.args.scene.now.plan.now.nodes short in
    let two = length-take-le (c.loop-i.i - 1) c.loop-i.demanded short' in
    omega (arith, low', one, two)

pub demand_used-requires-clause-in_parts : goal.demand_used-requires-clause-in_parts
demand_used-requires-clause-in_parts c k d h =
    let in_nodes : c.loop-i.i - 1 < length c.args.scene.now.plan.now.nodes = omega (arith, c.requires.in_demanded, ap length c.as_slice-all.ensures, c.loop-i.invariant.within) in
    let found : slice_get c.args.scene.now.plan.now.nodes (c.loop-i.i - 1) ≡ Some c.index-all-at.result =
    slice_get_read _ _ _ _ refl in_nodes (c.index-all-at.is ∙ ap (λ nodes. get_or nodes (c.loop-i.i - 1) c.index-all-at.result) c.as_slice-all.ensures) in
    let same : c.as_slice.result.now ≡ c.index-all-at.result.children = search rules in
    let low = (c.requires.scene.nodes (c.loop-i.i - 1) c.index-all-at.result found).children k d (subst (λ xs. k < length xs) same h) in
    let low' : get_or c.as_slice.result.now k d < length (take (c.loop-i.i - 1) c.args.scene.now.plan.now.nodes) = subst (λ xs. get_or xs k d < length (take (c.loop-i.i - 1) c.args.scene.now.plan.now.nodes)) (sym same) low in
    let short : c.loop-i.i - 1 ≤ length c.args.scene.now.plan.now.nodes = omega (arith, in_nodes) in
    let one = length-take-le (c.loop-i.i - 1) c.args.scene.now.plan.now.nodes short in
    omega (arith, low', one, c.requires.in_parts, in_nodes)

pub loop-i-init : goal.loop-i-init
loop-i-init c =
    let end = c.end-i.ensures c.args.scene.now.clocks.now c.requires.chains in
    let high = end.high in
    let all : length c.as_slice-all.result.now ≡ length c.args.scene.now.plan.now.nodes = ap length c.as_slice-all.ensures in
    let many : length c.args.demanded.now ≡ length c.as_slice-all.result.now = omega (arith, c.requires.in_demanded, all) in
    record {
      within = omega (arith, high, all, c.requires.scene.in_clocks);
      own = end.own;
      others = c.requires.demanded;
      marked = λ setting picks.
          Marked-over (with_plan c.args.scene.now.plan.now setting) _ _ _ _ (length c.args.scene.now.clocks.now) c.end-i.result many (omega (arith, all, c.requires.scene.in_clocks)) high
          (λ j from upto. c.requires.demanded j (end.skips j from upto))
          (Marked-all (with_plan c.args.scene.now.plan.now setting) _ _ _ (length c.args.scene.now.clocks.now) (omega (arith, c.requires.in_demanded, c.requires.scene.in_clocks)) (omega (arith, all, c.requires.scene.in_clocks)));
    }

pub loop-i-smaller : goal.loop-i-smaller
loop-i-smaller c =
    let before = c.before-i.ensures c.args.scene.now.clocks.now c.requires.chains in
    let high = before.high in
    omega (arith, high, c.loop-i-test.true)

pub loop-i-preserved-then-demanded-at : goal.loop-i-preserved-then-demanded-at
loop-i-preserved-then-demanded-at c =
    let all : length c.as_slice-all.result.now ≡ length c.args.scene.now.plan.now.nodes = ap length c.as_slice-all.ensures in
    let within = c.loop-i.invariant.within in
    let in_nodes : c.loop-i.i - 1 < length c.as_slice-all.result.now = omega (arith, within, c.loop-i-test.true) in
    let in_demanded : c.loop-i.i - 1 < length c.loop-i.demanded = omega (arith, c.requires.in_demanded, all, in_nodes) in
    let in_parts : c.loop-i.i - 1 < length c.args.parts.now = omega (arith, c.requires.in_parts, all, in_nodes) in
    let next : c.loop-i.i ≡ suc (c.loop-i.i - 1) = omega (arith, c.loop-i-test.true) in
    let long : length c.demand_used.new.demanded ≡ c.loop-i.i - 1 = omega (arith, length-take {A = Bool}) in
    let same : c.as_slice.result.now ≡ c.index-all-at.result.children = search rules in
    let low : c.loop-i.i - 1 < length c.args.scene.now.plan.now.nodes = omega (arith, in_nodes, all) in
    let found : slice_get c.args.scene.now.plan.now.nodes (c.loop-i.i - 1) ≡ Some c.index-all-at.result =
    slice_get_read _ _ _ _ refl low (c.index-all-at.is ∙ ap (λ nodes. get_or nodes (c.loop-i.i - 1) c.index-all-at.result) c.as_slice-all.ensures) in
    let end = end_own c.args.scene.now.clocks.now c.args.clock (c.loop-i.i - 1) c.before-i.result (c.loop-i.invariant.own (c.loop-i.i - 1) next) (c.before-i.ensures c.args.scene.now.clocks.now c.requires.chains) in
    let high = end.high in
    let short : c.loop-i.i - 1 ≤ length c.loop-i.demanded = omega (arith, in_demanded) in
    let others : (j : ℕ) → lies_at c.args.scene.now.clocks.now c.args.clock j ≡ false → get_or (c.demand_used.new.demanded ++ drop (c.loop-i.i - 1) c.loop-i.demanded) j false ≡ false =
    λ j outside. stays_unmarked c.loop-i.demanded c.demand_used.new.demanded (c.loop-i.i - 1) j _ short long (c.demand_used.ensures j)
    (not_used c.args.parts.now j (c.requires.parts j outside) c.demand_of.result c.as_slice.result.now (get_or c.args.parts.now (c.loop-i.i - 1) _).pick) (c.loop-i.invariant.others j outside) in
    let many : length (c.demand_used.new.demanded ++ drop (c.loop-i.i - 1) c.loop-i.demanded) ≡ length c.as_slice-all.result.now =
    (let sum = length-append c.demand_used.new.demanded (drop (c.loop-i.i - 1) c.loop-i.demanded) in let rest = length-drop (c.loop-i.i - 1) c.loop-i.demanded in omega (arith, sum, rest, long, in_demanded, c.requires.in_demanded, all)) in
    record {
      within = omega (arith, high, within, next);
      own = end.own;
      others = others;
      marked = λ setting picks.
          Marked-over (with_plan c.args.scene.now.plan.now setting) _ _ _ _ (c.loop-i.i - 1) c.before-i.result many (omega (arith, in_nodes)) high
          (λ j from upto. others j (end.skips j from upto))
          (Marked-used (with_plan c.args.scene.now.plan.now setting) _ _ _ _ _ _ _ _ in_nodes in_demanded c.index-all-at.is
          (c.demand_of.ensures c.args.scene.now.plan.now.rate (c.loop-i.i - 1) c.index-all-at.result.kind c.args.parts.now c.index-all-at.result.children (part_at c.args.parts.now (c.loop-i.i - 1)).pick
          (picks.each (c.loop-i.i - 1) c.index-all-at.result found)
          ∙ ap (λ xs. uses_in c.demand_of.result c.args.parts.now xs (part_at c.args.parts.now (c.loop-i.i - 1)).pick) (sym same)
          ∙ ap (λ p. uses_in c.demand_of.result c.args.parts.now c.as_slice.result.now p.pick) (get_or_default _ _ silent _ in_parts))
          _ next (c.loop-i.invariant.marked setting picks) c.if-demanded-at.true long c.demand_used.ensures);
    }

pub loop-i-preserved : goal.loop-i-preserved
loop-i-preserved c =
    let all : length c.as_slice-all.result.now ≡ length c.args.scene.now.plan.now.nodes = ap length c.as_slice-all.ensures in
    let within = c.loop-i.invariant.within in
    let in_nodes : c.loop-i.i - 1 < length c.as_slice-all.result.now = omega (arith, within, c.loop-i-test.true) in
    let in_demanded : c.loop-i.i - 1 < length c.loop-i.demanded = omega (arith, c.requires.in_demanded, all, in_nodes) in
    let next : c.loop-i.i ≡ suc (c.loop-i.i - 1) = omega (arith, c.loop-i-test.true) in
    let many : length c.loop-i.demanded ≡ length c.as_slice-all.result.now = omega (arith, c.requires.in_demanded, all) in
    let end = end_own c.args.scene.now.clocks.now c.args.clock (c.loop-i.i - 1) c.before-i.result (c.loop-i.invariant.own (c.loop-i.i - 1) next) (c.before-i.ensures c.args.scene.now.clocks.now c.requires.chains) in
    let high = end.high in
    record {
      within = omega (arith, high, within, next);
      own = end.own;
      others = c.loop-i.invariant.others;
      marked = λ setting picks.
          Marked-over (with_plan c.args.scene.now.plan.now setting) _ _ _ _ (c.loop-i.i - 1) c.before-i.result many (omega (arith, in_nodes)) high
          (λ j from upto. c.loop-i.invariant.others j (end.skips j from upto))
          (Marked-unused (with_plan c.args.scene.now.plan.now setting) _ _ _ _ _ in_nodes in_demanded _ next (c.loop-i.invariant.marked setting picks) c.if-demanded-at.false);
    }
