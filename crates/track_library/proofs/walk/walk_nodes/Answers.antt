use Rattle.std.proofs.Common.{rules, arith, length, length-append, ◌≡◌, ◌≤◌, ◌∙◌, ◌+◌, ◌∷◌, ◌++◌, [], List, ℕ, ap, sym, subst, drop}
use Rattle.std.specs.Prelude.{Ok}
use Rattle.std.proofs.lemmas.List.{at_drop_all}
use Rattle.plan_core.specs.declared.node.Node.{Node}
use Rattle.liq_base.proofs.Shelves.{read_then}
use Rattle.track_library.specs.Walk.{Ends, load_of, leaf_of, leaf_added, nodes_walked, sounds_or_fault}
use Rattle.track_library.specs.Reads.{LeafReads, LoadReads}
use Rattle.track_library.specs.States.{heard_of, walked_of}
use Rattle.track_library.proofs.Ending.{ends_through}
use Rattle.track_library.proofs.Keeping.{keeps_on, keeps_since}
use Rattle.track_library.proofs.Leaves.{LeavesSoFar, one_leaf_more}
use Rattle.track_library.proofs.OneFile.{SinglesSoFar, all_singles, one_single_more}
use Rattle.track_library.proofs.Steps.{next_node_of, nodes_end, next_node_reads, later_node_reads}
use Rattle.track_library.proofs.walk.walk_nodes.Goals as goal

pub returns-in_err-leaf-clause-fault : goal.returns-in_err-leaf-clause-fault
returns-in_err-leaf-clause-fault g c =
    let by = c.args.rules in
    let leaves = c.loop-node.leaves in
    let ends : Ends (g.S.Shelf.told c.args.shelf.now) (g.S.Shelf.told c.find_leaf.new.shelf)
    (λ files. LoadReads by files c.args.plan.now.nodes)
    (λ files. load_of by files c.args.plan.now.nodes) c.in_err-leaf.field-0.0 =
    ends_through (g.S.Shelf.told c.args.shelf.now) (g.S.Shelf.told c.loop-node.shelf) (g.S.Shelf.told c.find_leaf.new.shelf)
    (λ files. LeafReads by files c.node-item.result.op (walked_of c.loop-node.walk))
    (λ files. LoadReads by files c.args.plan.now.nodes)
    (λ files. leaf_of by files c.node-item.result.op (walked_of c.loop-node.walk))
    (λ files. load_of by files c.args.plan.now.nodes) c.in_err-leaf.field-0.0
    c.loop-node.invariant.0
    (λ files t e h.
    ap (sounds_or_fault by files)
    (c.loop-node.invariant.2 files t
    ∙ next_node_of by files c.as_slice-node-items.result.now c.args.plan.now.nodes c.loop-node.node-index (walked_of c.loop-node.walk) leaves c.node-item.result
    c.as_slice-node-items.ensures c.loop-node-test.true c.node-item.is
    ∙ ap (λ r. nodes_walked by files (drop (c.loop-node.node-index + 1) c.args.plan.now.nodes) (leaf_added leaves r)) h
    ∙ nodes_end by files (drop (c.loop-node.node-index + 1) c.args.plan.now.nodes) e))
    (λ files t read h. c.loop-node.invariant.3 files t read
    (next_node_reads by files c.as_slice-node-items.result.now c.args.plan.now.nodes c.loop-node.node-index (walked_of c.loop-node.walk) leaves c.node-item.result read
    c.as_slice-node-items.ensures c.loop-node-test.true c.node-item.is h))
    c.in_err-leaf.ensures.fault in
    search rules

pub loop-node-preserved : goal.loop-node-preserved
loop-node-preserved g c =
    let by = c.args.rules in
    let leaves = c.loop-node.leaves in
    let pushed : c.push.new.self ≡ leaves ++ c.in_ok-leaf.leaf.items ∷ [] = c.in_ok-push.ensures in
    let many : length c.push.new.self ≡ length leaves + 1 = ap length pushed ∙ length-append leaves (c.in_ok-leaf.leaf.items ∷ []) in (
      read_then (g.S.Shelf.told c.args.shelf.now) (g.S.Shelf.told c.loop-node.shelf) (g.S.Shelf.told c.find_leaf.new.shelf) c.loop-node.invariant.0 c.in_ok-leaf.ensures.shelf,
      subst (λ (ls : List (List ℕ)). LeavesSoFar (heard_of c.find_leaf.new.self.audio) ls) (sym pushed)
          (one_leaf_more (heard_of c.loop-node.walk.audio) (heard_of c.find_leaf.new.self.audio) leaves c.in_ok-leaf.leaf.items c.loop-node.invariant.1 c.in_ok-leaf.ensures.plays),
      λ files t.
          c.loop-node.invariant.2 files t
          ∙ next_node_of by files c.as_slice-node-items.result.now c.args.plan.now.nodes c.loop-node.node-index (walked_of c.loop-node.walk) leaves c.node-item.result
          c.as_slice-node-items.ensures c.loop-node-test.true c.node-item.is
          ∙ ap (λ r. nodes_walked by files (drop (c.loop-node.node-index + 1) c.args.plan.now.nodes) (leaf_added leaves r)) (c.in_ok-leaf.ensures.leaf files (c.loop-node.invariant.0.files ∙ t))
          ∙ ap (λ (ls : List (List ℕ)). nodes_walked by files (drop (c.loop-node.node-index + 1) c.args.plan.now.nodes) (Ok (walked_of c.find_leaf.new.self, ls))) (sym pushed),
      λ files t read h.
          c.loop-node.invariant.3 files t read
          (later_node_reads by files c.as_slice-node-items.result.now c.args.plan.now.nodes c.loop-node.node-index (walked_of c.loop-node.walk) leaves c.node-item.result read
          (Ok (walked_of c.find_leaf.new.self, c.push.new.self))
          c.as_slice-node-items.ensures c.loop-node-test.true c.node-item.is
          (ap (leaf_added leaves) (c.in_ok-leaf.ensures.leaf files (c.loop-node.invariant.0.files ∙ t)) ∙ ap (λ (ls : List (List ℕ)). Ok (walked_of c.find_leaf.new.self, ls)) (sym pushed)) h),
      omega (arith, many),
      subst (λ (ls : List (List ℕ)). SinglesSoFar (c.loop-node.node-index + 1) c.args.plan.now.nodes ls) (sym pushed)
          (one_single_more c.as_slice-node-items.result.now c.args.plan.now.nodes c.loop-node.node-index leaves c.in_ok-leaf.leaf.items c.node-item.result
          c.as_slice-node-items.ensures c.loop-node-test.true c.node-item.is c.loop-node.invariant.4 c.in_ok-leaf.ensures.single c.loop-node.invariant.5),
      keeps_on by (g.S.Shelf.told c.args.shelf.now).files c.args.walk.now.audio c.loop-node.walk.audio c.find_leaf.new.self.audio c.loop-node.invariant.6
          (keeps_since by (g.S.Shelf.told c.args.shelf.now).files (g.S.Shelf.told c.loop-node.shelf).files c.loop-node.walk.audio c.find_leaf.new.self.audio c.loop-node.invariant.0.files c.in_ok-leaf.ensures.kept),
    )

pub returns-clause-walked : goal.returns-clause-walked
returns-clause-walked g c =
    let leaves = c.loop-node.leaves in
    let long : length c.as_slice-node-items.result.now ≡ length c.args.plan.now.nodes = ap length c.as_slice-node-items.ensures in
    let low : length c.args.plan.now.nodes ≤ c.loop-node.node-index = omega (arith, long, c.loop-node-test.false) in
    let high : c.loop-node.node-index ≤ length c.args.plan.now.nodes = omega (arith, long, c.loop-node.auto.node-index-end) in
    record {
      walked = λ files t.
          c.loop-node.invariant.2 files t
          ∙ at_drop_all (λ (nodes : List Node). nodes_walked c.args.rules files nodes (Ok (walked_of c.loop-node.walk, leaves))) c.args.plan.now.nodes c.loop-node.node-index low;
      heard = c.loop-node.invariant.1.is_heard;
      below = c.loop-node.invariant.1.below;
      few = c.loop-node.invariant.1.few;
      many = omega (arith, low, high, c.loop-node.invariant.4);
      singles = all_singles c.as_slice-node-items.result.now c.args.plan.now.nodes c.loop-node.node-index leaves c.as_slice-node-items.ensures (λ below. omega (arith, below, c.loop-node-test.false)) c.loop-node.invariant.5;
    }
