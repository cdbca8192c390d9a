use Rattle.std.proofs.Common.{rules, nat_eq, ℕ, ◌≡◌, ◌<◌, ◌∙◌, ◌++◌, ◌∷◌, true, ℤ, Some, List, length, get_or, slice_get, take, drop, arith, ap, sym, refl, subst}
use Rattle.std.specs.List.{list_any}
use Rattle.std.proofs.lemmas.List.{get_or_default, length-take-le}
use Rattle.std.proofs.lemmas.Option.{slice_get_read}
use Rattle.plan_core.specs.declared.node.Node.{Node}
use Rattle.frame_core.specs.Slots.{title_of}
use Rattle.stream_meaning.specs.declared.part.Part.{Part}
use Rattle.stream_meaning.specs.Instants.{crossfaded, gives, moment_after, part_at, silent}
use Rattle.node_states.specs.States.{Fits}
use Rattle.op_mix.specs.Stretches.{samples_of}
use Rattle.node_states.specs.Histories.{history_of}
use Rattle.clock_instants.specs.Sides.{both}
use Rattle.clock_instants.specs.Stretches.{NodeGivesOn, NodeHasMade}
use Rattle.clock_nodes.specs.Scenes.{setting_over}
use Rattle.node_states.specs.Passing.{ChildFills, LaneFills, passes}
use Rattle.node_states.proofs.Hearing.{given_yes}
use Rattle.clock_instants.proofs.Gone.{child_low, goes_on}
use Rattle.clock_instants.proofs.Kept.{gives_now}
use Rattle.clock_instants.proofs.Samples.{take_front}
use Rattle.clock_instants.proofs.Supplied.{child_fills}
use Rattle.clock_instants.proofs.onward.make_samples.Goals as goal

pub run-requires-clause-fits : goal.run-requires-clause-fits
run-requires-clause-fits c =
    let found : slice_get c.args.scene.now.plan.now.nodes c.args.i ≡ Some c.index-as_slice-i.result =
    slice_get_read _ _ _ _ refl c.requires.node.within (c.index-as_slice-i.is ∙ ap (λ nodes. get_or nodes c.args.i c.index-as_slice-i.result) c.as_slice-2.ensures) in
    c.requires.node.fits c.index-as_slice-i.result found

pub run-requires-clause-few : goal.run-requires-clause-few
run-requires-clause-few c =
    let found : slice_get c.args.scene.now.plan.now.nodes c.args.i ≡ Some c.index-as_slice-i.result =
    slice_get_read _ _ _ _ refl c.requires.node.within (c.index-as_slice-i.is ∙ ap (λ nodes. get_or nodes c.args.i c.index-as_slice-i.result) c.as_slice-2.ensures) in
    (c.requires.node.scene.nodes c.args.i c.index-as_slice-i.result found).few

pub returns-clause-fits : goal.returns-clause-fits
returns-clause-fits c = λ node at.
    let found : slice_get c.args.scene.now.plan.now.nodes c.args.i ≡ Some c.index-as_slice-i.result =
    slice_get_read _ _ _ _ refl c.requires.node.within (c.index-as_slice-i.is ∙ ap (λ nodes. get_or nodes c.args.i c.index-as_slice-i.result) c.as_slice-2.ensures) in
    let one : Some c.index-as_slice-i.result ≡ Some node = sym found ∙ at in
    let same : c.index-as_slice-i.result ≡ node = cc in
    subst (λ (n : Node). Fits c.args.scene.now.library.now (length n.children) c.run.new.self) same c.run.ensures.fits

pub returns-clause-made : goal.returns-clause-made
returns-clause-made c = record {
  made = λ other sub clock past filled node before.
      let S = setting_over c.args.scene.now other in
      let H = history_of S sub clock past in
      let found : slice_get c.args.scene.now.plan.now.nodes c.args.i ≡ Some c.index-as_slice-i.result =
      slice_get_read _ _ _ _ refl c.requires.node.within (c.index-as_slice-i.is ∙ ap (λ nodes. get_or nodes c.args.i c.index-as_slice-i.result) c.as_slice-2.ensures) in
      let one : Some c.index-as_slice-i.result ≡ Some node = sym found ∙ before.is.there in
      let same : node ≡ c.index-as_slice-i.result = cc in
      let in_parts : c.args.i < length c.args.parts.now = omega (arith, c.requires.node.in_parts, c.requires.node.within) in
      let long_left : length c.run.new.left ≡ c.args.count = search rules in
      let long_right : length c.run.new.right ≡ c.args.count = search rules in
      let many_is : c.args.count ≡ length (take c.args.count c.args.own_left.now) =
      sym (length-take-le c.args.count c.args.own_left.now (omega (arith, c.requires.own_left, c.requires.node.count.short))) in
      let gave : gives (moment_after S sub clock past) c.args.i ≡ true =
      gives_now (moment_after S sub clock past) c.args.parts.now c.args.i (before.given c.args.i (omega arith))
      ∙ c.requires.gave in
      let now : NodeGivesOn H c.args.count filled c.args.i c.index-as_slice-i.result c.args.held.now c.args.parts.now (both c.args.left.now c.args.right.now) c.args.state.now =
      subst (λ (n : Node). NodeGivesOn H c.args.count filled c.args.i n c.args.held.now c.args.parts.now (both c.args.left.now c.args.right.now) c.args.state.now) same before in
      let there : NodeGivesOn H (length (take c.args.count c.args.own_left.now)) filled c.args.i c.index-as_slice-i.result c.args.held.now c.args.parts.now (both c.args.left.now c.args.right.now) c.args.state.now =
      subst (λ m. NodeGivesOn H m filled c.args.i c.index-as_slice-i.result c.args.held.now c.args.parts.now (both c.args.left.now c.args.right.now) c.args.state.now) many_is now in
      let goes = goes_on S sub clock past (length (take c.args.count c.args.own_left.now)) filled c.args.i c.index-as_slice-i.result c.args.held.now c.args.parts.now c.args.left.now c.args.right.now c.args.state.now c.requires.node.scene.nodes there gave in
      let title_is : title_of (part_at c.args.held.now (crossfaded c.args.scene.now.plan.now.nodes c.args.i)).slot ≡ c.title_below-below.result =
      ap (λ ns. title_of (part_at c.args.held.now (crossfaded ns c.args.i)).slot) (sym c.as_slice.ensures) ∙ sym c.title_below-below.ensures in
      let fills : passes c.args.state.now ≡ true → ChildFills (sub c.args.i) filled (length (take c.args.count c.args.own_left.now)) c.title_below-below.result c.index-as_slice-i.result.children c.args.left.now c.args.right.now =
      λ through. child_fills S sub (moment_after S sub clock past ∷ past) (length (take c.args.count c.args.own_left.now)) filled c.args.i c.title_below-below.result c.index-as_slice-i.result c.args.state.now c.args.left.now c.args.right.now c.requires.node.scene.nodes found there.stands through
      (subst (λ t. LaneFills (sub c.args.i) filled (length (take c.args.count c.args.own_left.now)) t (samples_of c.args.left.now (crossfaded c.args.scene.now.plan.now.nodes c.args.i) (length (take c.args.count c.args.own_left.now)))
      (samples_of c.args.right.now (crossfaded c.args.scene.now.plan.now.nodes c.args.i) (length (take c.args.count c.args.own_left.now)))) title_is (there.supplied gave through)) in
      let stands = c.run.ensures.stands H filled c.args.i (record { library = refl; goes_on = goes; begun = there.begun; supplied = fills; stands = there.stands }) in
      let pick_is = ap (λ (p : Part). p.pick) (sym (get_or_default _ _ silent _ in_parts) ∙ there.given c.args.i (omega arith) ∙ given_yes (moment_after S sub clock past) c.args.i gave) in
      let low : (k : ℕ) → list_any (nat_eq k) c.index-as_slice-i.result.children ≡ true → k < c.args.i = λ k among. child_low S sub clock past c.args.i k c.index-as_slice-i.result c.requires.node.scene.nodes found among in
      let lane_is = c.run.ensures.lane H filled c.args.i (record { library = refl; goes_on = goes; begun = there.begun; supplied = fills; stands = there.stands }) (record {
        given = λ k among. there.given k (let under = low k among in omega (arith, under));
        used = pick_is;
        lanes = λ k among g. there.lanes k (low k among) g;
      }) in
      let front_left : take c.args.count (c.run.new.left ++ drop c.args.count c.args.own_left.now) ≡ c.run.new.left = take_front c.args.count c.run.new.left (drop c.args.count c.args.own_left.now) long_left in
      let front_right : take c.args.count (c.run.new.right ++ drop c.args.count c.args.own_right.now) ≡ c.run.new.right = take_front c.args.count c.run.new.right (drop c.args.count c.args.own_right.now) long_right in
      subst (λ (xs : List ℤ). NodeHasMade H c.args.count filled c.args.i node c.args.state.now (both xs (take c.args.count (c.run.new.right ++ drop c.args.count c.args.own_right.now))) c.run.new.self) (sym front_left)
      (subst (λ (xs : List ℤ). NodeHasMade H c.args.count filled c.args.i node c.args.state.now (both c.run.new.left xs) c.run.new.self) (sym front_right)
      (subst (λ m. NodeHasMade H m filled c.args.i node c.args.state.now (both c.run.new.left c.run.new.right) c.run.new.self) (sym many_is)
      (subst (λ (n : Node). NodeHasMade H (length (take c.args.count c.args.own_left.now)) filled c.args.i n c.args.state.now (both c.run.new.left c.run.new.right) c.run.new.self) (sym same)
      (record { gave = gave; stands = stands; lane_is = lane_is }))));
}
