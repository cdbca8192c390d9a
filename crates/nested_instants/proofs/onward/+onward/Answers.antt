use Rattle.std.proofs.Common.{◌≡◌, ◌<◌, ◌≤◌, ◌∙◌, length, arith, refl, ap, sym, subst}
use Rattle.stream_meaning.proofs.Existence.{same_clock-true}
use Rattle.clock_instants.specs.declared.stretch_room.StretchRoom.{StretchRoom}
use Rattle.clock_nodes.proofs.Walking.{next_own}
use Rattle.clock_nodes.specs.Scenes.{setting_over}
use Rattle.nested_instants.specs.Clocks.{IsIdle, clock_at, is_in, is_none, is_upto, rest_at}
use Rattle.nested_instants.specs.Stretches.{SubClocksMade}
use Rattle.nested_instants.proofs.Above.{above_none, above_then, ahead_above, idle_above, left_above, pass_above, samples_none, samples_then}
use Rattle.nested_instants.proofs.Behind.{has_run_on}
use Rattle.nested_instants.proofs.Equal.{they_differ}
use Rattle.nested_instants.proofs.Levels.{levels_at, levels_some, levels_under}
use Rattle.nested_instants.proofs.SubSteps.{above_step, above_sub, samples_step, samples_sub, sub_ahead, sub_idle, sub_run, sub_skipped, sub_through, subs_next, subs_start}
use Rattle.nested_instants.proofs.onward.+onward.Goals as goal

pub run_clock-run_own-requires-clause-ready : goal.run_clock-run_own-requires-clause-ready
run_clock-run_own-requires-clause-ready t c = record {
  scene = c.requires.ready.scene;
  clocks = c.run_subs.ensures.clocks;
  idle = idle_above c.args.scene.now.clocks.now c.requires.levels.rank c.args.clock (is_in c.args.scene.now.clocks.now c.args.clock) c.args.clocks.now c.run_subs.new.clocks (length c.args.scene.now.plan.now.nodes)
      c.requires.levels.ranks (sym c.requires.ready.scene.in_clocks) c.run_subs.ensures.clocks.stretch_room.in_rests
      (λ i inside. let e : c.requires.levels.rank (clock_at c.args.scene.now.clocks.now i) ≡ c.requires.levels.rank c.args.clock = ap c.requires.levels.rank inside in omega (arith, e))
      (c.run_subs.ensures.above c.requires.levels.rank c.requires.levels.ranks) c.requires.ready.idle;
  some = c.requires.ready.some;
  short = c.requires.ready.short;
  later = c.requires.ready.later;
}

pub run_clock-run_own-requires-clause-ahead : goal.run_clock-run_own-requires-clause-ahead
run_clock-run_own-requires-clause-ahead t c =
    ahead_above c.args.scene.now c.requires.levels.rank c.args.clock (is_in c.args.scene.now.clocks.now c.args.clock) c.args.clocks.now c.run_subs.new.clocks c.args.many
    (c.run_subs.ensures.above c.requires.levels.rank c.requires.levels.ranks) c.requires.ahead

pub run_clock-returns-clause-left : goal.run_clock-returns-clause-left
run_clock-returns-clause-left t c rank ranks =
    left_above c.args.scene.now.clocks.now rank c.args.clock c.args.clocks.now c.run_subs.new.clocks c.run_own.new.clocks (c.run_subs.ensures.above rank ranks)
    c.run_own.ensures.others c.run_own.ensures.times c.run_own.ensures.held c.run_own.ensures.rests c.run_own.ensures.laned

pub run_clock-returns-clause-samples : goal.run_clock-returns-clause-samples
run_clock-returns-clause-samples t c rank ranks =
    samples_then c.args.scene.now.clocks.now rank (rank c.args.clock) (rank c.args.clock) (is_in c.args.scene.now.clocks.now c.args.clock) is_none (is_in c.args.scene.now.clocks.now c.args.clock) c.args.many
    c.args.clocks.now c.run_subs.new.clocks c.run_own.new.clocks (omega arith) (λ i low none. absurd none) (λ i low inside. inside) (c.run_subs.ensures.samples rank ranks)
    (record {
      left = λ i other low. c.run_own.ensures.left i (they_differ (clock_at c.args.scene.now.clocks.now i) c.args.clock other);
      right = λ i other low. c.run_own.ensures.right i (they_differ (clock_at c.args.scene.now.clocks.now i) c.args.clock other);
    })

pub run_clock-returns-clause-run : goal.run_clock-returns-clause-run
run_clock-returns-clause-run t c = record {
  run = λ other sub rank progress own n can.
      let S = setting_over c.args.scene.now other in
      has_run_on S sub rank own c.requires.ready.scene.in_clocks c.requires.ready.scene.nodes c.args.clock n c.args.many c.requires.ready.some progress c.args.clocks.now c.run_subs.new.clocks c.run_own.new.clocks can
      (c.run_subs.ensures.run.run other sub rank progress own n can) (c.run_subs.ensures.above rank can.world.ranks)
      c.run_own.ensures.times c.run_own.ensures.held c.run_own.ensures.rests c.run_own.ensures.others c.run_subs.ensures.clocks.in_times c.run_subs.ensures.clocks.fit.size c.run_own.ensures.laned
      (λ past filled going. c.run_own.ensures.run other sub past filled going);
}

pub run_subs-loop-i-init : goal.run_subs-loop-i-init
run_subs-loop-i-init t c =
    let first = c.first-i.ensures c.args.scene.now.clocks.now c.requires.ready.clocks.chains in
    record {
      high = first.high;
      own = first.own;
      clocks = c.requires.ready.clocks;
      latest = refl;
      held = refl;
      above = λ rank ranks. above_none c.args.scene.now.clocks.now rank (rank c.args.clock) (is_upto c.args.scene.now.clocks.now c.args.clock c.first-i.result) c.args.clocks.now;
      samples = λ rank ranks. samples_none c.args.scene.now.clocks.now rank (rank c.args.clock) is_none c.args.many c.args.clocks.now;
      run = subs_start c.args.scene.now c.requires.ready.scene.in_clocks c.args.clock c.args.many c.args.clocks.now c.first-i.result first;
    }

pub run_subs-loop-i-smaller : goal.run_subs-loop-i-smaller
run_subs-loop-i-smaller t c =
    let next = c.after-i.ensures c.args.scene.now.clocks.now c.run_sub.ensures.clocks.chains in
    let low = next.low in
    omega (arith, low, c.loop-i-test.true)

pub run_subs-run_sub-requires : goal.run_subs-run_sub-requires
run_subs-run_sub-requires t c =
    let within : c.loop-i.i < length c.args.scene.now.plan.now.nodes = omega (arith, c.requires.ready.scene.in_clocks, c.loop-i-test.true) in
    let inside = c.loop-i.invariant.own c.loop-i-test.true in
    let here : clock_at c.args.scene.now.clocks.now c.loop-i.i ≡ c.args.clock = same_clock-true (clock_at c.args.scene.now.clocks.now c.loop-i.i) c.args.clock inside in
    let above = c.loop-i.invariant.above c.requires.levels.rank c.requires.levels.ranks in
    let in_states : c.loop-i.i < length c.loop-i.clocks.states.items = omega (arith, c.loop-i.invariant.clocks.fit.size, within) in (
      omega arith,
      (
        record {
          scene = c.requires.ready.scene;
          clocks = c.loop-i.invariant.clocks;
          idle = subst (λ clock. IsIdle clock c.loop-i.clocks) (sym here)
              (idle_above c.args.scene.now.clocks.now c.requires.levels.rank c.args.clock (is_upto c.args.scene.now.clocks.now c.args.clock c.loop-i.i) c.args.clocks.now c.loop-i.clocks (length c.args.scene.now.plan.now.nodes)
              c.requires.levels.ranks (sym c.requires.ready.scene.in_clocks) c.loop-i.invariant.clocks.stretch_room.in_rests
              (λ k upto. let e : c.requires.levels.rank (clock_at c.args.scene.now.clocks.now k) ≡ c.requires.levels.rank c.args.clock = ap c.requires.levels.rank upto.1 in omega (arith, e)) above c.requires.ready.idle);
          some = c.requires.ready.some;
          short = c.requires.ready.short;
          later = c.requires.ready.later;
        },
        (
          levels_at c.args.scene.now.clocks.now c.loop-i.i c.args.levels c.args.clock here c.requires.levels,
          (
            within,
            λ both. pass_above c.args.scene.now c.requires.levels.rank c.args.clock (is_upto c.args.scene.now.clocks.now c.args.clock c.loop-i.i) c.args.clocks.now c.loop-i.clocks c.loop-i.i c.args.many here inside
                c.loop-i-test.true in_states (λ upto. let less = upto.0 in omega (arith, less)) above c.requires.through both,
          ),
        ),
      ),
    )

pub run_subs-loop-i-preserved : goal.run_subs-loop-i-preserved
run_subs-loop-i-preserved t c =
    let within : c.loop-i.i < length c.args.scene.now.plan.now.nodes = omega (arith, c.requires.ready.scene.in_clocks, c.loop-i-test.true) in
    let inside = c.loop-i.invariant.own c.loop-i-test.true in
    let here : clock_at c.args.scene.now.clocks.now c.loop-i.i ≡ c.args.clock = same_clock-true (clock_at c.args.scene.now.clocks.now c.loop-i.i) c.args.clock inside in
    let after = c.after-i.ensures c.args.scene.now.clocks.now c.run_sub.ensures.clocks.chains in
    let next = next_own c.args.scene.now.clocks.now c.args.clock c.loop-i.i c.after-i.result inside after in
    record {
      high = next.high;
      own = next.own;
      clocks = c.run_sub.ensures.clocks;
      latest = c.run_sub.ensures.latest ∙ c.loop-i.invariant.latest;
      held = c.run_sub.ensures.held ∙ c.loop-i.invariant.held;
      above = λ rank ranks. above_step c.args.scene.now.clocks.now rank c.args.clock c.loop-i.i c.after-i.result c.args.clocks.now c.loop-i.clocks c.run_sub.new.clocks here next (c.loop-i.invariant.above rank ranks) (c.run_sub.ensures.above rank ranks);
      samples = λ rank ranks. samples_step c.args.scene.now.clocks.now rank c.args.clock c.loop-i.i c.args.many c.args.clocks.now c.loop-i.clocks c.run_sub.new.clocks ranks c.loop-i-test.true here (c.loop-i.invariant.samples rank ranks) (c.run_sub.ensures.samples rank ranks);
      run = subs_next c.args.scene.now c.requires.ready.scene.in_clocks c.args.clock c.args.many c.args.clocks.now c.loop-i.clocks c.run_sub.new.clocks c.loop-i.i c.after-i.result
          within here next (λ rank ranks. c.loop-i.invariant.above rank ranks) c.loop-i.invariant.run c.run_sub.ensures.run;
    }

pub run_subs-returns-clause-above : goal.run_subs-returns-clause-above
run_subs-returns-clause-above t c rank ranks =
    above_then c.args.scene.now.clocks.now rank (rank c.args.clock) (rank c.args.clock) (is_in c.args.scene.now.clocks.now c.args.clock) (is_upto c.args.scene.now.clocks.now c.args.clock c.loop-i.i) is_none
    c.args.clocks.now c.loop-i.clocks c.loop-i.clocks (omega arith) (λ i low upto. upto.1) (λ i low none. absurd none) (c.loop-i.invariant.above rank ranks)
    (above_none c.args.scene.now.clocks.now rank (rank c.args.clock) is_none c.loop-i.clocks)

pub run_subs-returns-clause-run : goal.run_subs-returns-clause-run
run_subs-returns-clause-run t c =
    let high = c.loop-i.invariant.high in
    let all : c.loop-i.i ≡ length c.args.scene.now.plan.now.nodes = omega (arith, high, c.requires.ready.scene.in_clocks, c.loop-i-test.false) in
    subst (λ n. SubClocksMade c.args.scene.now c.args.clock c.args.many n c.args.clocks.now c.loop-i.clocks) all c.loop-i.invariant.run

pub run_sub-returns-then-not-passes_on-clause-run : goal.run_sub-returns-then-not-passes_on-clause-run
run_sub-returns-then-not-passes_on-clause-run t c =
    sub_skipped c.args.scene.now c.requires.ready.scene.in_clocks c.args.i c.args.many c.requires.within c.args.clocks.now
    (sym c.passes_on.ensures ∙ c.if-not-passes_on.true)

pub run_sub-run_clock-requires : goal.run_sub-run_clock-requires
run_sub-run_clock-requires t c =
    let in_clocks : c.args.i < length c.args.scene.now.clocks.now = omega (arith, c.requires.within, c.requires.ready.scene.in_clocks) in
    let some = levels_some c.args.scene.now.clocks.now c.args.i c.args.levels in_clocks c.requires.levels in
    let under = levels_under c.args.scene.now.clocks.now c.args.i c.args.levels in_clocks c.requires.levels in
    let rest : c.args.many ≤ rest_at c.args.clocks.now c.args.i = c.requires.through (sym c.passes_on.ensures ∙ c.if-not-passes_on.false) in (
      omega (arith, some),
      (
        record {
          scene = c.requires.ready.scene;
          clocks = c.keep.ensures.clocks;
          idle = sub_idle c.args.i c.keep.new.clocks c.keep.ensures.kept;
          some = c.requires.ready.some;
          short = c.requires.ready.short;
          later = c.requires.ready.later;
        },
        (
          under,
          (
            sub_ahead c.args.scene.now c.args.i c.args.many c.args.clocks.now c.keep.new.clocks c.requires.ready.clocks.resting c.requires.ready.some rest c.keep.ensures.states c.keep.ensures.held,
            sub_through c.args.scene.now c.args.i c.args.many c.args.clocks.now c.keep.new.clocks c.requires.ready.clocks.resting c.requires.ready.some rest c.keep.ensures.states c.keep.ensures.held
                c.requires.levels.rank c.requires.levels.ranks in_clocks c.keep.ensures.others,
          ),
        ),
      ),
    )

pub run_sub-returns-clause-above : goal.run_sub-returns-clause-above
run_sub-returns-clause-above t c rank ranks =
    let in_clocks : c.args.i < length c.args.scene.now.clocks.now = omega (arith, c.requires.within, c.requires.ready.scene.in_clocks) in
    above_sub c.args.scene.now.clocks.now rank c.args.i c.args.clocks.now c.keep.new.clocks c.run_clock.new.clocks c.take_on.new.clocks ranks in_clocks
    c.keep.ensures.states c.keep.ensures.times c.keep.ensures.held c.keep.ensures.others c.keep.ensures.left c.keep.ensures.right (c.run_clock.ensures.left rank ranks) c.take_on.ensures.states c.take_on.ensures.room c.take_on.ensures.times

pub run_sub-returns-clause-samples : goal.run_sub-returns-clause-samples
run_sub-returns-clause-samples t c rank ranks =
    samples_sub c.args.scene.now.clocks.now rank c.args.i c.args.many c.args.clocks.now c.keep.new.clocks c.run_clock.new.clocks c.take_on.new.clocks c.keep.ensures.left c.keep.ensures.right
    (c.run_clock.ensures.samples rank ranks) c.take_on.ensures.room

pub run_sub-returns-clause-run : goal.run_sub-returns-clause-run
run_sub-returns-clause-run t c =
    let both = sym c.passes_on.ensures ∙ c.if-not-passes_on.false in
    sub_run c.args.scene.now c.requires.ready.scene.in_clocks c.args.i c.args.many c.requires.within
    c.args.clocks.now c.keep.new.clocks c.run_clock.new.clocks c.take_on.new.clocks both c.requires.ready.some (c.requires.through both)
    c.keep.ensures.states c.keep.ensures.times c.keep.ensures.held c.keep.ensures.left c.keep.ensures.right c.keep.ensures.kept c.keep.ensures.others
    c.run_clock.ensures.run c.run_clock.ensures.held c.run_clock.ensures.left c.run_clock.ensures.samples c.take_on.ensures.states c.take_on.ensures.room c.take_on.ensures.times c.take_on.ensures.time
    c.run_clock.ensures.clocks.in_times c.take_on.ensures.clocks.in_times

pub run_sub-returns-clause-held : goal.run_sub-returns-clause-held
run_sub-returns-clause-held t c = ap (λ (r : StretchRoom). r.held) c.take_on.ensures.room ∙ c.run_clock.ensures.held ∙ c.keep.ensures.held
