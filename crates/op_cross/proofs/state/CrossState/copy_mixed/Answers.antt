use Rattle.std.proofs.Common.{◌≡◌, ◌≤◌, ◌+◌, ◌-◌, ◌∙◌, length, take, drop, arith, ap, subst, sym, take_all}
use Rattle.op_cross.specs.States.{IsCrossing, StandsFor, mixed_on, mixed_side}
use Rattle.op_cross.proofs.MixedStretch.{long_after, long_part, mixed_given, mixed_lefts, mixed_rights, mixed_twice, taken_after}
use Rattle.op_cross.proofs.state.CrossState.copy_mixed.Goals as goal

pub loop-done-preserved : goal.loop-done-preserved
loop-done-preserved c =
    let s = c.args.self.now in
    let is : IsCrossing s = subst IsCrossing c.self.view_is c.self.invariant.0 in
    let now = c.loop-done.self in
    let sofar = c.loop-done.invariant in
    let done = c.loop-done.done in
    let many = c.min.result in
    let part = done + many - done in
    let part_is : part ≡ many = omega arith in
    let within : done + many ≤ length c.loop-done.left = omega (arith, c.min.ensures, sofar.within) in
    let also : done + many ≤ length c.loop-done.right = omega (arith, within, sofar.same) in
    let few : done + many ≤ s.ready = omega (arith, within, sofar.long, c.requires.ready) in
    let whole = (is.mixing (omega (arith, c.loop-done-test.true, sofar.long, c.requires.ready))).1 in
    let cells : done + many ≤ length s.cells = omega (arith, few, is.ready) in
    let next : done + many ≤ length s.next = omega (arith, few, c.requires.mixed) in
    let cut = length (take part (drop done c.loop-done.left)) in
    let cut_is = long_part c.loop-done.left done many part within part_is in
    let long_left = long_after (λ cell. cell.left) s now done many cut part c.loop-done.left c.mix_block.new.left sofar.state cells next whole cut_is part_is within c.mix_block.ensures.left in
    let long_right = long_after (λ cell. cell.right) s now done many cut part c.loop-done.right c.mix_block.new.right sofar.state cells next whole cut_is part_is also c.mix_block.ensures.right in
    record {
      within = omega (arith, long_left, within);
      same = omega (arith, long_left, long_right, sofar.same);
      long = omega (arith, long_left, sofar.long);
      state = c.mix_block.ensures.goes ∙ ap (mixed_on cut) sofar.state ∙ ap (λ n. mixed_on n (mixed_on done s)) cut_is ∙ mixed_twice s done many;
      lefts = taken_after (λ cell. cell.left) s now done many cut part c.loop-done.left c.mix_block.new.left sofar.state cells next whole cut_is part_is within c.mix_block.ensures.left sofar.lefts;
      rights = taken_after (λ cell. cell.right) s now done many cut part c.loop-done.right c.mix_block.new.right sofar.state cells next whole cut_is part_is also c.mix_block.ensures.right sofar.rights;
    }

pub returns-clause-stands : goal.returns-clause-stands
returns-clause-stands c = λ slots p stands.
    let s = c.args.self.now in
    let is : IsCrossing s = subst IsCrossing c.self.view_is c.self.invariant.0 in
    let sofar = c.loop-done.invariant in
    let all : c.loop-done.done ≡ length c.args.left.now = omega (arith, c.loop-done-test.false, sofar.within, sofar.long) in
    subst (λ t. StandsFor t slots (p + length c.args.left.now)) (sym (sofar.state ∙ ap (λ n. mixed_on n s) all))
    (mixed_given s slots p (length c.args.left.now) is stands c.requires.mixed c.requires.ready)

pub returns-clause-left : goal.returns-clause-left
returns-clause-left c = λ slots p stands.
    let s = c.args.self.now in
    let is : IsCrossing s = subst IsCrossing c.self.view_is c.self.invariant.0 in
    let sofar = c.loop-done.invariant in
    let all : c.loop-done.done ≡ length c.args.left.now = omega (arith, c.loop-done-test.false, sofar.within, sofar.long) in
    sym (take_all c.loop-done.done c.loop-done.left (omega (arith, c.loop-done-test.false)))
    ∙ sofar.lefts ∙ ap (λ n. mixed_side (λ cell. cell.left) n s) all
    ∙ mixed_lefts s slots p (length c.args.left.now) is stands c.requires.mixed c.requires.ready

pub returns-clause-right : goal.returns-clause-right
returns-clause-right c = λ slots p stands.
    let s = c.args.self.now in
    let is : IsCrossing s = subst IsCrossing c.self.view_is c.self.invariant.0 in
    let sofar = c.loop-done.invariant in
    let all : c.loop-done.done ≡ length c.args.left.now = omega (arith, c.loop-done-test.false, sofar.within, sofar.long) in
    sym (take_all c.loop-done.done c.loop-done.right (omega (arith, c.loop-done-test.false, sofar.same)))
    ∙ sofar.rights ∙ ap (λ n. mixed_side (λ cell. cell.right) n s) all
    ∙ mixed_rights s slots p (length c.args.left.now) is stands c.requires.mixed c.requires.ready
