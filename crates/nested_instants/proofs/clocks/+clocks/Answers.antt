use Rattle.std.proofs.Common.{◌≡◌, ◌<◌, ◌∙◌, ◌++◌, sym, ap, Some, false, length, get_or, slice_get, arith, refl, subst}
use Rattle.std.specs.Prelude.{slice_index_or}
use Rattle.std.specs.Option.{option_map_or}
use Rattle.std.proofs.lemmas.Option.{slice_get_read}
use Rattle.clock_infer.specs.declared.clock_map.NodeClock.TheVariants.{Main}
use Rattle.clock_nodes.specs.Scenes.{setting_over}
use Rattle.nested_instants.specs.Clocks.{AllSettled, begun_progress}
use Rattle.stream_meaning.specs.Instants.{first_instants, moment_after, part_at, second_at}
use Rattle.stream_meaning.proofs.Answering.{answers_first, answers_then}
use Rattle.stream_meaning.proofs.Existence.{same_clock-true}
use Rattle.node_states.specs.States.{left, wants}
use Rattle.node_states.proofs.Begun.{as_many}
use Rattle.node_states.proofs.Chunks.{adds_then, on_err}
use Rattle.clock_instants.specs.Takes.{HasReader, ReadersAreIn}
use Rattle.clock_nodes.proofs.Walking.{next_own}
use Rattle.clock_instants.specs.Held.{IsHeld}
use Rattle.nested_instants.specs.Clocks.{IsIdle, clock_at, is_in, is_node}
use Rattle.nested_instants.proofs.Above.{idle_left}
use Rattle.clock_instants.specs.Stretches.{HasLanes}
use Rattle.nested_instants.proofs.Levels.{kept_at, lanes_same, left_filled, left_finished, left_kept, left_none, left_settled, left_then, left_under, levels_at, levels_some, levels_under, rest_kept}
use Rattle.nested_instants.proofs.Settling.{all_more, all_none, all_stopped, node_closed, node_more, node_none, node_settled, node_stopped, opening_stopped, settling_stopped}
use Rattle.nested_instants.proofs.Readers.{reader_above}
use Rattle.nested_instants.proofs.SubSteps.{sub_idle}
use Rattle.nested_instants.proofs.Taking.{second_of}
use Rattle.nested_instants.proofs.Making.{are_ready, are_settled, clock_stands, long_first_instants, made, ran_is, roots_are}
use Rattle.nested_instants.proofs.clocks.+clocks.Goals as goal

pub settle-loop-clocks-init : goal.settle-loop-clocks-init
settle-loop-clocks-init g t c = record {
  clocks = c.requires.ready.clocks;
  buffers = refl;
  same = g.met.T.Taps.same_refl c.args.taps.now;
  left = λ rank ranks. left_none c.args.scene.now.clocks.now rank (rank (get_or c.args.scene.now.clocks.now c.args.k (Main 0))) (is_node c.args.k) c.args.clocks.now;
  filling = node_none g.T.Taps.stands c.args.scene.now c.args.own.now c.requires.ready.scene.in_clocks c.args.clocks.now c.args.taps.now c.args.k;
}

pub settle-keep-requires-clause-idle : goal.settle-keep-requires-clause-idle
settle-keep-requires-clause-idle g t c =
    idle_left c.args.scene.now.clocks.now c.requires.ready.levels.rank (clock_at c.args.scene.now.clocks.now c.args.k) (is_node c.args.k) (c.requires.ready.levels.rank (clock_at c.args.scene.now.clocks.now c.args.k))
    c.args.clocks.now c.loop-clocks.clocks (length c.args.scene.now.plan.now.nodes) c.requires.ready.levels.ranks (sym c.requires.ready.scene.in_clocks) c.loop-clocks.invariant.clocks.stretch_room.in_rests (omega arith)
    (λ i same. let e : c.requires.ready.levels.rank (clock_at c.args.scene.now.clocks.now i) ≡ c.requires.ready.levels.rank (clock_at c.args.scene.now.clocks.now c.args.k) = ap (λ n. c.requires.ready.levels.rank (clock_at c.args.scene.now.clocks.now n)) same in omega (arith, e))
    (c.loop-clocks.invariant.left c.requires.ready.levels.rank c.requires.ready.levels.ranks) c.requires.idle

pub settle-keep-requires-clause-ranks : goal.settle-keep-requires-clause-ranks
settle-keep-requires-clause-ranks g t c = (c.requires.ready.levels.rank, c.requires.ready.levels.ranks)

pub settle-fill_child-requires-clause-idle : goal.settle-fill_child-requires-clause-idle
settle-fill_child-requires-clause-idle g t c =
    let in_clocks : c.args.k < length c.args.scene.now.clocks.now = omega (arith, c.requires.within, c.requires.ready.scene.in_clocks) in
    idle_left c.args.scene.now.clocks.now c.requires.ready.levels.rank (clock_at c.args.scene.now.clocks.now c.args.k) (is_node c.args.k) (c.requires.ready.levels.rank (clock_at c.args.scene.now.clocks.now c.args.k))
    c.args.clocks.now c.make_instant.new.clocks (length c.args.scene.now.plan.now.nodes) c.requires.ready.levels.ranks (sym c.requires.ready.scene.in_clocks) c.make_instant.ensures.clocks.stretch_room.in_rests (omega arith)
    (λ i same. let e : c.requires.ready.levels.rank (clock_at c.args.scene.now.clocks.now i) ≡ c.requires.ready.levels.rank (clock_at c.args.scene.now.clocks.now c.args.k) = ap (λ n. c.requires.ready.levels.rank (clock_at c.args.scene.now.clocks.now n)) same in omega (arith, e))
    (left_under c.args.scene.now.clocks.now c.requires.ready.levels.rank c.args.k c.args.clocks.now c.keep.new.clocks c.make_instant.new.clocks c.requires.ready.levels.ranks in_clocks
    (left_then c.args.scene.now.clocks.now c.requires.ready.levels.rank (c.requires.ready.levels.rank (clock_at c.args.scene.now.clocks.now c.args.k)) (c.requires.ready.levels.rank (clock_at c.args.scene.now.clocks.now c.args.k)) (is_node c.args.k) (is_node c.args.k)
    c.args.clocks.now c.loop-clocks.clocks c.keep.new.clocks (omega arith) (λ i low same. same) (c.loop-clocks.invariant.left c.requires.ready.levels.rank c.requires.ready.levels.ranks)
    (left_kept c.args.scene.now.clocks.now c.requires.ready.levels.rank (c.requires.ready.levels.rank (clock_at c.args.scene.now.clocks.now c.args.k)) c.args.k c.loop-clocks.clocks c.keep.new.clocks c.keep.ensures.states c.keep.ensures.times c.keep.ensures.held c.keep.ensures.others c.keep.ensures.left c.keep.ensures.right))
    (c.in_ok-make_instant.ensures.left c.requires.ready.levels.rank c.requires.ready.levels.ranks)) c.requires.idle

pub settle-fill_on-requires-clause-idle : goal.settle-fill_on-requires-clause-idle
settle-fill_on-requires-clause-idle g t c =
    let in_clocks : c.args.k < length c.args.scene.now.clocks.now = omega (arith, c.requires.within, c.requires.ready.scene.in_clocks) in
    idle_left c.args.scene.now.clocks.now c.requires.ready.levels.rank (clock_at c.args.scene.now.clocks.now c.args.k) (is_node c.args.k) (c.requires.ready.levels.rank (clock_at c.args.scene.now.clocks.now c.args.k))
    c.args.clocks.now c.fill_child.new.clocks (length c.args.scene.now.plan.now.nodes) c.requires.ready.levels.ranks (sym c.requires.ready.scene.in_clocks) c.fill_child.ensures.clocks.stretch_room.in_rests (omega arith)
    (λ i same. let e : c.requires.ready.levels.rank (clock_at c.args.scene.now.clocks.now i) ≡ c.requires.ready.levels.rank (clock_at c.args.scene.now.clocks.now c.args.k) = ap (λ n. c.requires.ready.levels.rank (clock_at c.args.scene.now.clocks.now n)) same in omega (arith, e))
    (left_filled c.args.scene.now.clocks.now c.requires.ready.levels.rank c.args.k c.args.clocks.now c.keep.new.clocks c.make_instant.new.clocks c.fill_child.new.clocks c.requires.ready.levels.ranks in_clocks
    (left_then c.args.scene.now.clocks.now c.requires.ready.levels.rank (c.requires.ready.levels.rank (clock_at c.args.scene.now.clocks.now c.args.k)) (c.requires.ready.levels.rank (clock_at c.args.scene.now.clocks.now c.args.k)) (is_node c.args.k) (is_node c.args.k)
    c.args.clocks.now c.loop-clocks.clocks c.keep.new.clocks (omega arith) (λ i low same. same) (c.loop-clocks.invariant.left c.requires.ready.levels.rank c.requires.ready.levels.ranks)
    (left_kept c.args.scene.now.clocks.now c.requires.ready.levels.rank (c.requires.ready.levels.rank (clock_at c.args.scene.now.clocks.now c.args.k)) c.args.k c.loop-clocks.clocks c.keep.new.clocks c.keep.ensures.states c.keep.ensures.times c.keep.ensures.held c.keep.ensures.others c.keep.ensures.left c.keep.ensures.right))
    (c.in_ok-make_instant.ensures.left c.requires.ready.levels.rank c.requires.ready.levels.ranks) c.fill_child.ensures.states c.fill_child.ensures.times c.fill_child.ensures.room) c.requires.idle

pub settle-fill_on-requires-clause-none : goal.settle-fill_on-requires-clause-none
settle-fill_on-requires-clause-none g t c =
    let in_clocks : c.args.k < length c.args.scene.now.clocks.now = omega (arith, c.requires.within, c.requires.ready.scene.in_clocks) in
    ap (λ r. slice_index_or r.rests.items c.args.k 0) c.fill_child.ensures.room
    ∙ rest_kept c.args.scene.now.clocks.now c.requires.ready.levels.rank c.args.k c.keep.new.clocks c.make_instant.new.clocks c.requires.ready.levels.ranks in_clocks
    (c.in_ok-make_instant.ensures.left c.requires.ready.levels.rank c.requires.ready.levels.ranks) ∙ c.keep.ensures.kept

pub settle-fill_child-requires-clause-wants : goal.settle-fill_child-requires-clause-wants
settle-fill_child-requires-clause-wants g t c =
    let in_clocks : c.args.k < length c.args.scene.now.clocks.now = omega (arith, c.requires.within, c.requires.ready.scene.in_clocks) in
    let in_states : c.args.k < length c.loop-clocks.clocks.states.items = omega (arith, c.loop-clocks.invariant.clocks.fit.size, c.requires.within) in
    let at : slice_get c.loop-clocks.clocks.states.items c.args.k ≡ Some c.index.result.now = slice_get_read _ _ _ _ refl in_states c.index.ensures in
    let kept = kept_at c.args.scene.now.clocks.now c.requires.ready.levels.rank c.args.k c.keep.new.clocks c.make_instant.new.clocks c.requires.ready.levels.ranks in_clocks
    (c.in_ok-make_instant.ensures.left c.requires.ready.levels.rank c.requires.ready.levels.ranks) ∙ ap (λ xs. slice_get xs.items c.args.k) c.keep.ensures.states in
    ap (λ s. option_map_or wants s false) (kept ∙ at) ∙ sym c.wants.ensures.wants ∙ c.loop-clocks-test.true

pub settle-loop-clocks-smaller : goal.settle-loop-clocks-smaller
settle-loop-clocks-smaller g t c =
    let in_clocks : c.args.k < length c.args.scene.now.clocks.now = omega (arith, c.requires.within, c.requires.ready.scene.in_clocks) in
    let kept = kept_at c.args.scene.now.clocks.now c.requires.ready.levels.rank c.args.k c.keep.new.clocks c.make_instant.new.clocks c.requires.ready.levels.ranks in_clocks
    (c.in_ok-make_instant.ensures.left c.requires.ready.levels.rank c.requires.ready.levels.ranks) ∙ ap (λ xs. slice_get xs.items c.args.k) c.keep.ensures.states in
    let same = ap (λ s. option_map_or left s 0) kept in
    omega (arith, same, c.fill_child.ensures.less, c.fill_on.ensures.no_more)

pub settle-loop-clocks-preserved : goal.settle-loop-clocks-preserved
settle-loop-clocks-preserved g t c =
    let in_clocks : c.args.k < length c.args.scene.now.clocks.now = omega (arith, c.requires.within, c.requires.ready.scene.in_clocks) in
    let in_times : c.args.k < length c.loop-clocks.clocks.times.items = omega (arith, c.loop-clocks.invariant.clocks.in_times, c.requires.within) in
    let timed : slice_get c.keep.new.clocks.times.items c.args.k ≡ Some c.index-time.result.now = ap (λ xs. slice_get xs.items c.args.k) c.keep.ensures.times ∙ slice_get_read _ _ _ _ refl in_times c.index-time.ensures in
    let in_states : c.args.k < length c.loop-clocks.clocks.states.items = omega (arith, c.loop-clocks.invariant.clocks.fit.size, c.requires.within) in
    let at : slice_get c.keep.new.clocks.states.items c.args.k ≡ Some c.index.result.now = ap (λ xs. slice_get xs.items c.args.k) c.keep.ensures.states ∙ slice_get_read _ _ _ _ refl in_states c.index.ensures in
    record {
      clocks = c.fill_on.ensures.clocks;
      buffers = c.make_instant.ensures.buffers ∙ c.loop-clocks.invariant.buffers;
      same = g.met.T.Taps.same_trans c.args.taps.now c.loop-clocks.taps c.make_instant.new.taps c.loop-clocks.invariant.same c.make_instant.ensures.same;
      left = λ rank ranks.
          left_then c.args.scene.now.clocks.now rank (rank (get_or c.args.scene.now.clocks.now c.args.k (Main 0))) (rank (get_or c.args.scene.now.clocks.now c.args.k (Main 0))) (is_node c.args.k) (is_node c.args.k)
          c.args.clocks.now c.fill_child.new.clocks c.fill_on.new.clocks (omega arith) (λ i low same. same)
          (left_filled c.args.scene.now.clocks.now rank c.args.k c.args.clocks.now c.keep.new.clocks c.make_instant.new.clocks c.fill_child.new.clocks ranks in_clocks
          (left_then c.args.scene.now.clocks.now rank (rank (get_or c.args.scene.now.clocks.now c.args.k (Main 0))) (rank (get_or c.args.scene.now.clocks.now c.args.k (Main 0))) (is_node c.args.k) (is_node c.args.k)
          c.args.clocks.now c.loop-clocks.clocks c.keep.new.clocks (omega arith) (λ i low same. same) (c.loop-clocks.invariant.left rank ranks)
          (left_kept c.args.scene.now.clocks.now rank (rank (get_or c.args.scene.now.clocks.now c.args.k (Main 0))) c.args.k c.loop-clocks.clocks c.keep.new.clocks c.keep.ensures.states c.keep.ensures.times c.keep.ensures.held c.keep.ensures.others c.keep.ensures.left c.keep.ensures.right))
          (c.in_ok-make_instant.ensures.left rank ranks) c.fill_child.ensures.states c.fill_child.ensures.times c.fill_child.ensures.room)
          (c.fill_on.ensures.left rank ranks);
      filling = node_more g.T.Taps.stands c.args.scene.now c.args.own.now c.requires.ready.scene.in_clocks c.args.clocks.now c.args.taps.now c.args.k
          c.requires.within c.keep.new.clocks c.loop-clocks.taps c.index.result.now at
          (node_closed g.T.Taps.stands c.args.scene.now c.args.own.now c.requires.ready.scene.in_clocks c.args.clocks.now c.args.taps.now c.args.k
          c.requires.within c.loop-clocks.clocks c.keep.new.clocks c.loop-clocks.taps c.keep.ensures.states c.keep.ensures.times c.keep.ensures.held c.keep.ensures.kept c.keep.ensures.others c.keep.ensures.left c.keep.ensures.right c.loop-clocks.invariant.filling)
          (λ setting sub past filled i work long stands. c.wants.ensures.more setting sub past filled i work long stands c.loop-clocks-test.true)
          c.make_instant.new.taps c.index-time.result.now timed c.keep.ensures.kept c.make_instant.new.clocks c.fill_child.new.clocks c.fill_on.new.clocks
          (λ rank ranks. c.in_ok-make_instant.ensures.left rank ranks) c.make_instant.ensures.clocks.fit.size c.make_instant.ensures.clocks.in_times
          (λ other sub. record {
            states = c.fill_child.ensures.states;
            times = c.fill_child.ensures.times;
            room = c.fill_child.ensures.room;
            filled = λ past n work before after was is stands grows. c.fill_child.ensures.filled (setting_over c.args.scene.now other) sub past n work before after was is stands grows;
            time = λ n before after was is stands. c.fill_child.ensures.time other.start n before after was is stands;
          })
          c.fill_child.ensures.latest c.fill_child.ensures.room c.in_ok-make_instant.ensures.made c.fill_on.ensures.filled;
    }

pub settle-returns-in_err-make_instant-clause-stopped : goal.settle-returns-in_err-make_instant-clause-stopped
settle-returns-in_err-make_instant-clause-stopped g t c =
    let in_times : c.args.k < length c.loop-clocks.clocks.times.items = omega (arith, c.loop-clocks.invariant.clocks.in_times, c.requires.within) in
    let timed : slice_get c.keep.new.clocks.times.items c.args.k ≡ Some c.index-time.result.now = ap (λ xs. slice_get xs.items c.args.k) c.keep.ensures.times ∙ slice_get_read _ _ _ _ refl in_times c.index-time.ensures in
    let in_states : c.args.k < length c.loop-clocks.clocks.states.items = omega (arith, c.loop-clocks.invariant.clocks.fit.size, c.requires.within) in
    let at : slice_get c.keep.new.clocks.states.items c.args.k ≡ Some c.index.result.now = ap (λ xs. slice_get xs.items c.args.k) c.keep.ensures.states ∙ slice_get_read _ _ _ _ refl in_states c.index.ensures in
    on_err c.from_residual.result (node_stopped g.T.Taps.stands c.args.scene.now c.args.own.now c.requires.ready.scene.in_clocks c.args.clocks.now c.args.taps.now c.args.k
    c.requires.within c.keep.new.clocks c.loop-clocks.taps c.index.result.now at
    (node_closed g.T.Taps.stands c.args.scene.now c.args.own.now c.requires.ready.scene.in_clocks c.args.clocks.now c.args.taps.now c.args.k
    c.requires.within c.loop-clocks.clocks c.keep.new.clocks c.loop-clocks.taps c.keep.ensures.states c.keep.ensures.times c.keep.ensures.held c.keep.ensures.kept c.keep.ensures.others c.keep.ensures.left c.keep.ensures.right c.loop-clocks.invariant.filling)
    (λ setting sub past filled i work long stands. c.wants.ensures.more setting sub past filled i work long stands c.loop-clocks-test.true)
    c.make_instant.new.taps c.index-time.result.now timed c.in_err-make_instant.ensures.stopped)

pub settle-returns-clause-settled : goal.settle-returns-clause-settled
settle-returns-clause-settled g t c =
    let in_states : c.args.k < length c.loop-clocks.clocks.states.items = omega (arith, c.loop-clocks.invariant.clocks.fit.size, c.requires.within) in
    let at : slice_get c.loop-clocks.clocks.states.items c.args.k ≡ Some c.index.result.now = slice_get_read _ _ _ _ refl in_states c.index.ensures in
    node_settled g.T.Taps.stands c.args.scene.now c.args.own.now c.requires.ready.scene.in_clocks c.args.clocks.now c.args.taps.now c.args.k
    c.requires.within c.loop-clocks.clocks c.loop-clocks.taps c.index.result.now at c.loop-clocks.invariant.filling
    (λ setting sub past filled i work stands begun. c.wants.ensures.settled setting sub past filled i work stands c.loop-clocks-test.false begun)
    (λ setting sub past filled i overlap long stands. c.wants.ensures.run setting sub past filled i overlap long stands c.loop-clocks-test.false)

pub settle_all-loop-i-init : goal.settle_all-loop-i-init
settle_all-loop-i-init g t c =
    let first = c.first-i.ensures c.args.scene.now.clocks.now c.requires.ready.clocks.chains in
    record {
      high = first.high;
      own = first.own;
      clocks = c.requires.ready.clocks;
      buffers = refl;
      same = g.met.T.Taps.same_refl c.args.taps.now;
      left = λ rank ranks. left_none c.args.scene.now.clocks.now rank (rank c.args.clock) (is_in c.args.scene.now.clocks.now c.args.clock) c.args.clocks.now;
      settled = all_none g.T.Taps.stands c.args.scene.now c.args.own.now c.requires.ready.scene.in_clocks c.args.clocks.now c.args.taps.now c.args.clock c.first-i.result first;
    }

pub settle_all-loop-i-smaller : goal.settle_all-loop-i-smaller
settle_all-loop-i-smaller g t c =
    let next = c.after-i.ensures c.args.scene.now.clocks.now c.settle.ensures.clocks.chains in
    let low = next.low in
    omega (arith, low, c.loop-i-test.true)

pub settle_all-loop-i-preserved : goal.settle_all-loop-i-preserved
settle_all-loop-i-preserved g t c =
    let within : c.loop-i.i < length c.args.scene.now.plan.now.nodes = omega (arith, c.requires.ready.scene.in_clocks, c.loop-i-test.true) in
    let inside = c.loop-i.invariant.own c.loop-i-test.true in
    let own_clock : get_or c.args.scene.now.clocks.now c.loop-i.i (Main 0) ≡ c.args.clock = same_clock-true (get_or c.args.scene.now.clocks.now c.loop-i.i (Main 0)) c.args.clock inside in
    let next = next_own c.args.scene.now.clocks.now c.args.clock c.loop-i.i c.after-i.result inside (c.after-i.ensures c.args.scene.now.clocks.now c.settle.ensures.clocks.chains) in
    record {
      high = next.high;
      own = next.own;
      clocks = c.settle.ensures.clocks;
      buffers = c.settle.ensures.buffers ∙ c.loop-i.invariant.buffers;
      same = g.met.T.Taps.same_trans c.args.taps.now c.loop-i.taps c.settle.new.taps c.loop-i.invariant.same c.settle.ensures.same;
      left = λ rank ranks. left_settled c.args.scene.now.clocks.now rank c.args.clock c.loop-i.i c.args.clocks.now c.loop-i.clocks c.settle.new.clocks own_clock
          (c.loop-i.invariant.left rank ranks) (c.in_ok-settle.ensures.left rank ranks);
      settled = all_more g.T.Taps.stands c.args.scene.now c.args.own.now c.requires.ready.scene.in_clocks c.args.clocks.now c.args.taps.now c.args.clock
          c.loop-i.i within inside c.loop-i.clocks c.loop-i.taps c.settle.new.taps c.loop-i.invariant.settled c.settle.new.clocks c.after-i.result next c.in_ok-settle.ensures.settled;
    }

pub settle_all-returns-in_err-settle-clause-stopped : goal.settle_all-returns-in_err-settle-clause-stopped
settle_all-returns-in_err-settle-clause-stopped g t c =
    let within : c.loop-i.i < length c.args.scene.now.plan.now.nodes = omega (arith, c.requires.ready.scene.in_clocks, c.loop-i-test.true) in
    on_err c.from_residual.result (all_stopped g.T.Taps.stands c.args.scene.now c.args.own.now c.requires.ready.scene.in_clocks c.args.clocks.now c.args.taps.now c.args.clock
    c.loop-i.i within (c.loop-i.invariant.own c.loop-i-test.true) c.loop-i.clocks c.loop-i.taps c.settle.new.taps c.loop-i.invariant.settled c.in_err-settle.ensures.stopped)

pub settle_all-returns-clause-settled : goal.settle_all-returns-clause-settled
settle_all-returns-clause-settled g t c =
    let high = c.loop-i.invariant.high in
    let all : c.loop-i.i ≡ length c.args.scene.now.plan.now.nodes = omega (arith, high, c.requires.ready.scene.in_clocks, c.loop-i-test.false) in
    subst (λ n. AllSettled g.T.Taps.stands c.args.scene.now c.args.own.now c.args.clock n c.args.clocks.now c.loop-i.clocks c.args.taps.now c.loop-i.taps) all
    c.loop-i.invariant.settled

pub make_instant-returns-in_err-begin_clock-clause-stopped : goal.make_instant-returns-in_err-begin_clock-clause-stopped
make_instant-returns-in_err-begin_clock-clause-stopped g t c =
    on_err c.from_residual.result (opening_stopped g.T.Taps.stands c.args.scene.now c.args.own.now c.requires.ready.scene.in_clocks c.args.clocks.now c.args.taps.now c.args.clock
    c.args.time c.begin_clock.new.taps c.in_err-begin_clock.ensures.stopped)

pub make_instant-returns-in_err-settle_all-clause-stopped : goal.make_instant-returns-in_err-settle_all-clause-stopped
make_instant-returns-in_err-settle_all-clause-stopped g t c =
    on_err c.from_residual-in_err-settle_all.result (settling_stopped g.T.Taps.stands c.args.scene.now c.args.own.now c.requires.ready.scene.in_clocks c.args.clocks.now c.args.taps.now c.args.clock
    c.args.time c.begin_clock.new.clocks c.begin_clock.new.taps c.settle_all.new.taps c.in_ok-begin_clock.ensures.opened c.in_err-settle_all.ensures.stopped)

pub make_instant-returns-clause-left : goal.make_instant-returns-clause-left
make_instant-returns-clause-left g t c rank ranks =
    left_finished c.args.scene.now.clocks.now rank c.args.clock c.args.clocks.now c.settle_all.new.clocks c.finish.new.clocks
    (left_then c.args.scene.now.clocks.now rank (rank c.args.clock) (rank c.args.clock) (is_in c.args.scene.now.clocks.now c.args.clock) (is_in c.args.scene.now.clocks.now c.args.clock)
    c.args.clocks.now c.begin_clock.new.clocks c.settle_all.new.clocks (omega arith) (λ i low inside. inside)
    (left_finished c.args.scene.now.clocks.now rank c.args.clock c.args.clocks.now c.args.clocks.now c.begin_clock.new.clocks
    (left_none c.args.scene.now.clocks.now rank (rank c.args.clock) (is_in c.args.scene.now.clocks.now c.args.clock) c.args.clocks.now) c.begin_clock.ensures.others c.begin_clock.ensures.times (λ i other. ap (λ r. part_at r.held.items i) c.begin_clock.ensures.room) (λ i. ap (λ r. slice_index_or r.rests.items i 0) c.begin_clock.ensures.room)
    (λ i has. subst (λ r. HasLanes r.left.items r.right.items i) (sym c.begin_clock.ensures.room) has))
    (c.in_ok-settle_all.ensures.left rank ranks)) c.finish.ensures.others c.finish.ensures.times c.finish.ensures.kept (λ i. ap (λ xs. slice_index_or xs.items i 0) c.finish.ensures.rests)
    (lanes_same c.settle_all.new.clocks c.finish.new.clocks c.finish.ensures.left c.finish.ensures.right)

pub make_instant-returns-clause-made : goal.make_instant-returns-clause-made
make_instant-returns-clause-made g t c =
    let opened = c.in_ok-begin_clock.ensures.opened in
    let settled = c.in_ok-settle_all.ensures.settled in
    record {
      more = opened.more ++ settled.more;
      taps = adds_then g.T.Taps.stands c.args.taps.now c.begin_clock.new.taps c.settle_all.new.taps opened.more settled.more opened.taps settled.taps;
      made = λ other sub rank progress world has stand needed at.
          let o = opened.opened other sub rank progress world.ranks world.readers (answers_first (setting_over c.args.scene.now other) progress.front opened.more settled.more has) stand needed at in
          let u = settled.settled other sub rank (begun_progress (setting_over c.args.scene.now other) c.args.clock progress opened.more) world
          (answers_then (setting_over c.args.scene.now other) progress.front opened.more settled.more has) o.stand
          (are_ready (setting_over c.args.scene.now other) sub rank c.args.clock progress opened.more c.args.clocks.now stand needed) in
          let past = first_instants (setting_over c.args.scene.now other) sub c.args.clock (u.reached.now.ran c.args.clock) in
          let same = ran_is (setting_over c.args.scene.now other) sub rank c.args.clock progress opened.more settled.more c.settle_all.new.clocks u in
          let second = second_of (setting_over c.args.scene.now other) (progress.ran c.args.clock) c.args.time c.requires.rate at
          ∙ ap (second_at (setting_over c.args.scene.now other)) (sym same ∙ long_first_instants (setting_over c.args.scene.now other) sub c.args.clock (u.reached.now.ran c.args.clock)) in
          let long = as_many (setting_over c.args.scene.now other) sub world.meaning in
          let clocked = clock_stands (setting_over c.args.scene.now other) sub rank c.args.clock progress opened.more settled.more c.settle_all.new.clocks u in
          let roots = roots_are (setting_over c.args.scene.now other) c.args.clock c.args.own.now world.roots in
          let items = are_settled (setting_over c.args.scene.now other) sub rank c.args.clock progress opened.more settled.more c.settle_all.new.clocks u in
          let f = c.finish.ensures.finished.made other sub past u.reached.now.filled (record { at = second; long = long; stands = clocked; settled = items; roots = roots }) in
          made (setting_over c.args.scene.now other) sub rank c.args.clock progress opened.more settled.more c.settle_all.new.clocks u
          world.ranks c.requires.ready.scene.in_clocks c.args.clocks.now c.finish.new.clocks stand needed
          f.stands
          c.finish.ensures.others c.finish.ensures.times c.finish.ensures.kept (λ i. ap (λ xs. slice_index_or xs.items i 0) c.finish.ensures.rests)
          (lanes_same c.settle_all.new.clocks c.finish.new.clocks c.finish.ensures.left c.finish.ensures.right) c.settle_all.ensures.clocks.in_times world.down o.calls
          (f.parts_are
          ∙ ap (λ n. (moment_after (setting_over c.args.scene.now other) sub c.args.clock (first_instants (setting_over c.args.scene.now other) sub c.args.clock n)).parts) same)
          (subst (λ n. IsHeld (setting_over c.args.scene.now other) sub c.args.clock (first_instants (setting_over c.args.scene.now other) sub c.args.clock n) c.finish.new.clocks.room.held.items) same
          f.held_are);
    }

pub settle-make_instant-requires : goal.settle-make_instant-requires
settle-make_instant-requires g t c κs lives =
    let in_clocks : c.args.k < length c.args.scene.now.clocks.now = omega (arith, c.requires.within, c.requires.ready.scene.in_clocks) in
    let in_times : c.args.k < length c.loop-clocks.clocks.times.items = omega (arith, c.loop-clocks.invariant.clocks.in_times, c.requires.within) in
    let at : slice_get c.loop-clocks.clocks.times.items c.args.k ≡ Some c.index-time.result.now = slice_get_read _ _ _ _ refl in_times c.index-time.ensures in
    let some = levels_some c.args.scene.now.clocks.now c.args.k c.args.levels in_clocks c.requires.ready.levels in (
      omega (arith, some),
      (
        lives,
        (
          record {
            scene = c.requires.ready.scene;
            in_own = c.requires.ready.in_own;
            clocks = c.keep.ensures.clocks;
            levels = levels_under c.args.scene.now.clocks.now c.args.k c.args.levels in_clocks c.requires.ready.levels;
            readers = subst (λ n. ReadersAreIn c.args.scene.now.plan.now n) (sym c.loop-clocks.invariant.buffers) c.requires.ready.readers;
          },
          (
            sub_idle c.args.k c.keep.new.clocks c.keep.ensures.kept,
            (
              c.loop-clocks.invariant.clocks.rates c.args.k c.index-time.result.now at,
              c.loop-clocks.invariant.clocks.frames c.args.k c.index-time.result.now at,
            ),
          ),
        ),
      ),
    )

pub settle_all-settle-requires : goal.settle_all-settle-requires
settle_all-settle-requires g t c κs lives =
    let within : c.loop-i.i < length c.args.scene.now.plan.now.nodes = omega (arith, c.requires.ready.scene.in_clocks, c.loop-i-test.true) in
    let inside = c.loop-i.invariant.own c.loop-i-test.true in
    let here : clock_at c.args.scene.now.clocks.now c.loop-i.i ≡ c.args.clock = same_clock-true (clock_at c.args.scene.now.clocks.now c.loop-i.i) c.args.clock inside in (
      omega arith,
      (
        lives,
        (
          record {
            scene = c.requires.ready.scene;
            in_own = c.requires.ready.in_own;
            clocks = c.loop-i.invariant.clocks;
            levels = levels_at c.args.scene.now.clocks.now c.loop-i.i c.args.levels c.args.clock here c.requires.ready.levels;
            readers = subst (λ n. ReadersAreIn c.args.scene.now.plan.now n) (sym c.loop-i.invariant.buffers) c.requires.ready.readers;
          },
          (
            subst (λ clock. IsIdle clock c.loop-i.clocks) (sym here)
                (idle_left c.args.scene.now.clocks.now c.requires.ready.levels.rank c.args.clock (is_in c.args.scene.now.clocks.now c.args.clock) (c.requires.ready.levels.rank c.args.clock) c.args.clocks.now c.loop-i.clocks
                (length c.args.scene.now.plan.now.nodes) c.requires.ready.levels.ranks (sym c.requires.ready.scene.in_clocks) c.loop-i.invariant.clocks.stretch_room.in_rests (omega arith)
                (λ k same. let e : c.requires.ready.levels.rank (clock_at c.args.scene.now.clocks.now k) ≡ c.requires.ready.levels.rank c.args.clock = ap c.requires.ready.levels.rank same in omega (arith, e))
                (c.loop-i.invariant.left c.requires.ready.levels.rank c.requires.ready.levels.ranks) c.requires.idle),
            within,
          ),
        ),
      ),
    )

pub settle-returns-in_err-make_instant-clause-reads : goal.settle-returns-in_err-make_instant-clause-reads
settle-returns-in_err-make_instant-clause-reads g t c =
    on_err c.from_residual.result (reader_above c.args.scene.now.plan.now c.args.scene.now.clocks.now (get_or c.args.scene.now.clocks.now c.args.k (Main 0)) c.args.k refl c.in_err-make_instant.ensures.reads)

pub settle_all-returns-in_err-settle-clause-reads : goal.settle_all-returns-in_err-settle-clause-reads
settle_all-returns-in_err-settle-clause-reads g t c =
    let own_clock : get_or c.args.scene.now.clocks.now c.loop-i.i (Main 0) ≡ c.args.clock =
    same_clock-true (get_or c.args.scene.now.clocks.now c.loop-i.i (Main 0)) c.args.clock (c.loop-i.invariant.own c.loop-i-test.true) in
    on_err c.from_residual.result (subst (λ clock. HasReader c.args.scene.now.plan.now c.args.scene.now.clocks.now clock) own_clock c.in_err-settle.ensures.reads)

pub make_instant-returns-in_err-begin_clock-clause-reads : goal.make_instant-returns-in_err-begin_clock-clause-reads
make_instant-returns-in_err-begin_clock-clause-reads g t c = on_err c.from_residual.result c.in_err-begin_clock.ensures.reads

pub make_instant-returns-in_err-settle_all-clause-reads : goal.make_instant-returns-in_err-settle_all-clause-reads
make_instant-returns-in_err-settle_all-clause-reads g t c = on_err c.from_residual-in_err-settle_all.result c.in_err-settle_all.ensures.reads

pub settle-fill_on-requires-clause-ready : goal.settle-fill_on-requires-clause-ready
settle-fill_on-requires-clause-ready g t c =
    let in_times : c.args.k < length c.loop-clocks.clocks.times.items = omega (arith, c.loop-clocks.invariant.clocks.in_times, c.requires.within) in
    let at : slice_get c.loop-clocks.clocks.times.items c.args.k ≡ Some c.index-time.result.now = slice_get_read _ _ _ _ refl in_times c.index-time.ensures in
    record {
      scene = c.requires.ready.scene;
      clocks = c.fill_child.ensures.clocks;
      rate = c.loop-clocks.invariant.clocks.rates c.args.k c.index-time.result.now at;
      frame = c.loop-clocks.invariant.clocks.frames c.args.k c.index-time.result.now at;
    }
