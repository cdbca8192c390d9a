use Rattle.std.proofs.Common.{rules, ◌≡◌, ◌<◌, ◌∙◌, suc, Some, false, length, get_or, slice_get, arith, ap, sym, refl, subst}
use Rattle.std.proofs.lemmas.List.{get_or_default}
use Rattle.std.proofs.lemmas.Option.{slice_get_read, slice_get-get_or}
use Rattle.stream_meaning.specs.Instants.{silent, work_at}
use Rattle.node_states.specs.States.{Fits}
use Rattle.clock_nodes.specs.Scenes.{setting_over}
use Rattle.clock_nodes.proofs.Going.{fit_set, goes_on, gone_all, gone_none, gone_skip, gone_step}
use Rattle.clock_nodes.proofs.Places.{slice_get-set_other}
use Rattle.clock_nodes.proofs.Walking.{next_own, not_here}
use Rattle.clock_nodes.proofs.advance.advance_all.Goals as goal

pub loop-i-init : goal.loop-i-init
loop-i-init c =
    let first = c.first-i.ensures c.args.scene.now.clocks.now c.requires.chains in
    record {
      high = first.high;
      own = first.own;
      fit = c.requires.fit;
      others = λ k outside. refl;
      left = λ k high. refl;
      done = λ other sub past moment filled long stands settled parts same_parts same_demands.
          gone_skip (setting_over c.args.scene.now other) sub c.args.clock past moment filled 0 c.first-i.result c.args.states.now first
          (gone_none (setting_over c.args.scene.now other) sub c.args.clock past moment filled c.args.states.now);
    }

pub loop-i-smaller : goal.loop-i-smaller
loop-i-smaller c =
    let next = c.after-i.ensures c.args.scene.now.clocks.now c.requires.chains in
    let low = next.low in
    omega (arith, low, c.loop-i-test.true)

pub next-requires : goal.next-requires
next-requires c =
    let in_nodes : c.loop-i.i < length c.args.scene.now.plan.now.nodes = omega (arith, c.requires.scene.in_clocks, c.loop-i-test.true) in
    let in_states : c.loop-i.i < length c.loop-i.states = omega (arith, c.loop-i.invariant.fit.size, in_nodes) in
    let found : slice_get c.args.scene.now.plan.now.nodes c.loop-i.i ≡ Some c.index-as_slice-i.result =
    slice_get_read _ _ _ _ refl in_nodes (c.index-as_slice-i.is ∙ ap (λ nodes. get_or nodes c.loop-i.i c.index-as_slice-i.result) c.as_slice.ensures) in
    let many : length c.index-as_slice-i.result.children ≡ c.len-children.result = search rules in
    record {
      fits = subst (λ n. Fits c.args.scene.now.library.now n (get_or c.loop-i.states c.loop-i.i c.index-states-i.result)) many
          (c.loop-i.invariant.fit.each c.loop-i.i c.index-as_slice-i.result _ found (slice_get-get_or _ _ _ in_states));
    }

pub loop-i-preserved : goal.loop-i-preserved
loop-i-preserved c =
    let in_nodes : c.loop-i.i < length c.args.scene.now.plan.now.nodes = omega (arith, c.requires.scene.in_clocks, c.loop-i-test.true) in
    let in_states : c.loop-i.i < length c.loop-i.states = omega (arith, c.loop-i.invariant.fit.size, in_nodes) in
    let in_parts : c.loop-i.i < length c.args.parts.now = omega (arith, c.requires.in_parts, in_nodes) in
    let in_demanded : c.loop-i.i < length c.args.demanded.now = omega (arith, c.requires.in_demanded, in_nodes) in
    let inside = c.loop-i.invariant.own c.loop-i-test.true in
    let after = next_own c.args.scene.now.clocks.now c.args.clock c.loop-i.i c.after-i.result inside (c.after-i.ensures c.args.scene.now.clocks.now c.requires.chains) in
    let found : slice_get c.args.scene.now.plan.now.nodes c.loop-i.i ≡ Some c.index-as_slice-i.result =
    slice_get_read _ _ _ _ refl in_nodes (c.index-as_slice-i.is ∙ ap (λ nodes. get_or nodes c.loop-i.i c.index-as_slice-i.result) c.as_slice.ensures) in
    let many : length c.index-as_slice-i.result.children ≡ c.len-children.result = search rules in
    record {
      high = after.high;
      own = after.own;
      fit = fit_set _ _ _ _ in_states
          (λ node at.
          let one : Some c.index-as_slice-i.result ≡ Some node = sym found ∙ at in
          let same : c.index-as_slice-i.result ≡ node = cc in
          subst (λ n. Fits c.args.scene.now.library.now n c.next.new.self) (sym many ∙ ap (λ x. length x.children) same) c.next.ensures.fits)
          c.loop-i.invariant.fit;
      others = λ k outside. slice_get-set_other c.loop-i.states c.loop-i.i k c.next.new.self (λ e. not_here c.args.scene.now.clocks.now c.args.clock c.loop-i.i k inside outside (sym e))
          ∙ c.loop-i.invariant.others k outside;
      left = λ k high. slice_get-set_other c.loop-i.states c.loop-i.i k c.next.new.self (λ e. (let low = after.low in omega (arith, high, low, e)))
          ∙ c.loop-i.invariant.left k (let low = after.low in omega (arith, high, low));
      done = λ other sub past moment filled long stands settled parts same_parts same_demands.
          gone_skip (setting_over c.args.scene.now other) sub c.args.clock past moment filled (suc c.loop-i.i) c.after-i.result _ after
          (gone_step (setting_over c.args.scene.now other) sub c.args.clock past moment filled c.loop-i.i c.loop-i.states c.next.new.self in_states
          (λ node is.
          let one : Some c.index-as_slice-i.result ≡ Some node = sym found ∙ is.there in
          let same : c.index-as_slice-i.result ≡ node = cc in
          goes_on (setting_over c.args.scene.now other) sub c.args.clock past moment filled c.loop-i.i node c.args.parts.now c.args.demanded.now c.args.states.now
          _ c.next.new.self _ _ c.len-children.result
          (λ slots. c.next.ensures.stands (setting_over c.args.scene.now other) sub past moment (filled c.loop-i.i) c.loop-i.i
          (work_at (setting_over c.args.scene.now other) c.loop-i.i node) slots refl long)
          (ap (λ x. length x.children) (sym same) ∙ many)
          (sym (c.loop-i.invariant.left c.loop-i.i (omega arith)) ∙ slice_get-get_or _ _ _ in_states)
          (get_or_default _ _ silent _ in_parts) (get_or_default _ _ false _ in_demanded)
          stands settled parts same_parts same_demands is)
          (c.loop-i.invariant.done other sub past moment filled long stands settled parts same_parts same_demands));
    }

pub returns-clause-stand : goal.returns-clause-stand
returns-clause-stand c setting sub past moment filled long stands settled parts same_parts same_demands =
    gone_all (setting_over c.args.scene.now setting) sub c.args.clock past moment filled c.loop-i.i c.loop-i.states (let high = c.loop-i.invariant.high in omega (arith, high, c.requires.scene.in_clocks, c.loop-i-test.false))
    (c.loop-i.invariant.done setting sub past moment filled long stands settled parts same_parts same_demands)
