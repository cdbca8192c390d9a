use Rattle.std.proofs.Common.{◌<◌, ◌∙◌, length, get_or, arith, sym, refl}
use Rattle.std.proofs.lemmas.Option.{slice_get-get_or}
use Rattle.clock_infer.specs.declared.clock_map.NodeClock.TheVariants.{Main}
use Rattle.stream_meaning.proofs.Existence.{same_clock-true}
use Rattle.node_states.proofs.Chunks.{on_err}
use Rattle.clock_nodes.proofs.Going.{fit_set}
use Rattle.clock_instants.proofs.Beginning.{beginning_all, beginning_more, beginning_none, beginning_stopped}
use Rattle.clock_nodes.proofs.Places.{item_there, slice_get-set_other}
use Rattle.clock_nodes.proofs.Walking.{next_own, not_here}
use Rattle.clock_instants.proofs.takes.begin_readers.Goals as goal

pub loop-i-init : goal.loop-i-init
loop-i-init g c =
    let first = c.first-i.ensures c.args.scene.now.clocks.now c.requires.chains in
    record {
      high = first.high;
      own = first.own;
      fit = c.requires.fit;
      others = λ k outside. refl;
      left = λ k high. refl;
      buffers = refl;
      same = g.met.T.Taps.same_refl c.args.taps.now;
      beginning = beginning_none g.T.Taps.stands c.args.scene.now c.args.clock c.args.states.now c.args.taps.now c.first-i.result first;
    }

pub loop-i-smaller : goal.loop-i-smaller
loop-i-smaller g c =
    let next = c.after-i.ensures c.args.scene.now.clocks.now c.requires.chains in
    let low = next.low in
    omega (arith, low, c.loop-i-test.true)

pub returns-in_err-take_at-clause-fit : goal.returns-in_err-take_at-clause-fit
returns-in_err-take_at-clause-fit g c =
    let in_nodes : c.loop-i.i < length c.args.scene.now.plan.now.nodes = omega (arith, c.requires.scene.in_clocks, c.loop-i-test.true) in
    let in_states : c.loop-i.i < length c.loop-i.states = omega (arith, c.loop-i.invariant.fit.size, in_nodes) in
    fit_set _ _ _ _ in_states (λ node at. c.take_at.ensures.fits node at (c.loop-i.invariant.fit.each c.loop-i.i node _ at (slice_get-get_or _ _ _ in_states))) c.loop-i.invariant.fit

pub returns-in_err-take_at-clause-others : goal.returns-in_err-take_at-clause-others
returns-in_err-take_at-clause-others g c j outside =
    slice_get-set_other c.loop-i.states c.loop-i.i j c.take_at.new.state (λ same. not_here c.args.scene.now.clocks.now c.args.clock c.loop-i.i j (c.loop-i.invariant.own c.loop-i-test.true) outside (sym same))
    ∙ c.loop-i.invariant.others j outside

pub returns-in_err-take_at-clause-stopped : goal.returns-in_err-take_at-clause-stopped
returns-in_err-take_at-clause-stopped g c =
    let in_nodes : c.loop-i.i < length c.args.scene.now.plan.now.nodes = omega (arith, c.requires.scene.in_clocks, c.loop-i-test.true) in
    let in_states : c.loop-i.i < length c.loop-i.states = omega (arith, c.loop-i.invariant.fit.size, in_nodes) in
    let node = item_there c.args.scene.now.plan.now.nodes c.loop-i.i in_nodes in
    on_err c.from_residual.result (beginning_stopped g.T.Taps.stands c.args.scene.now c.args.clock c.args.states.now c.args.taps.now
    c.loop-i.states c.loop-i.taps c.take_at.new.taps c.loop-i.i node.0 _ node.1 (λ other. c.loop-i.invariant.own c.loop-i-test.true)
    (slice_get-get_or _ _ _ in_states) (c.loop-i.invariant.left c.loop-i.i (omega arith)) c.in_err-take_at.ensures.stopped c.loop-i.invariant.beginning)

pub loop-i-preserved : goal.loop-i-preserved
loop-i-preserved g c =
    let in_nodes : c.loop-i.i < length c.args.scene.now.plan.now.nodes = omega (arith, c.requires.scene.in_clocks, c.loop-i-test.true) in
    let in_states : c.loop-i.i < length c.loop-i.states = omega (arith, c.loop-i.invariant.fit.size, in_nodes) in
    let node = item_there c.args.scene.now.plan.now.nodes c.loop-i.i in_nodes in
    let inside = c.loop-i.invariant.own c.loop-i-test.true in
    let after = next_own c.args.scene.now.clocks.now c.args.clock c.loop-i.i c.after-i.result inside (c.after-i.ensures c.args.scene.now.clocks.now c.requires.chains) in
    record {
      high = after.high;
      own = after.own;
      fit = fit_set _ _ _ _ in_states (λ node at. c.take_at.ensures.fits node at (c.loop-i.invariant.fit.each c.loop-i.i node _ at (slice_get-get_or _ _ _ in_states))) c.loop-i.invariant.fit;
      others = λ j outside.
          slice_get-set_other c.loop-i.states c.loop-i.i j c.take_at.new.state (λ same. not_here c.args.scene.now.clocks.now c.args.clock c.loop-i.i j inside outside (sym same))
          ∙ c.loop-i.invariant.others j outside;
      left = λ j high. slice_get-set_other c.loop-i.states c.loop-i.i j c.take_at.new.state (λ same. let low = after.low in omega (arith, same, low, high))
          ∙ c.loop-i.invariant.left j (let low = after.low in omega (arith, low, high));
      buffers = c.take_at.ensures.buffers ∙ c.loop-i.invariant.buffers;
      same = g.met.T.Taps.same_trans c.args.taps.now c.loop-i.taps c.take_at.new.taps c.loop-i.invariant.same c.take_at.ensures.same;
      beginning = beginning_more g.T.Taps.stands c.args.scene.now c.args.clock c.args.states.now c.args.taps.now
          c.loop-i.states c.loop-i.taps c.take_at.new.taps c.loop-i.i c.after-i.result node.0 _ c.take_at.new.state node.1 (λ other. inside) in_states
          (slice_get-get_or _ _ _ in_states) (c.loop-i.invariant.left c.loop-i.i (omega arith)) after c.in_ok-take_at.ensures.begun c.loop-i.invariant.beginning;
    }

pub returns-clause-begun : goal.returns-clause-begun
returns-clause-begun g c =
    beginning_all g.T.Taps.stands c.args.scene.now c.args.clock c.args.states.now c.args.taps.now c.loop-i.states c.loop-i.taps c.loop-i.i
    (let high = c.loop-i.invariant.high in omega (arith, high, c.requires.scene.in_clocks, c.loop-i-test.false)) c.loop-i.invariant.beginning

pub returns-in_err-take_at-clause-reads : goal.returns-in_err-take_at-clause-reads
returns-in_err-take_at-clause-reads g c =
    let inside = c.loop-i.invariant.own c.loop-i-test.true in
    on_err c.from_residual.result (record {
      rank = 0;
      i = c.loop-i.i;
      under = same_clock-true (get_or c.args.scene.now.clocks.now c.loop-i.i (Main 0)) c.args.clock inside;
      reader = c.in_err-take_at.ensures.reads;
    })
