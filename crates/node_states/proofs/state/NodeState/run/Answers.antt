use Rattle.std.proofs.Common.{◌≡◌, ◌<◌, ◌∙◌, ◌||◌, ℕ, Bool, true, false, Some, suc, length, map, slice_get, rules, refl, ap, sym, subst}
use Rattle.frame_core.specs.Slots.{Slot}
use Rattle.op_leaf.specs.Lanes.{IsLane}
use Rattle.op_leaf.specs.Readers.{read_by, reader_slot}
use Rattle.op_leaf.proofs.Laid.{inner_track}
use Rattle.stream_meaning.specs.Arithmetic.{mix_slot}
use Rattle.stream_meaning.specs.Instants.{work_at}
use Rattle.node_states.specs.declared.state.NodeState.{NodeState}
use Rattle.node_states.specs.declared.state.NodeState.TheVariants.{Leaf, Mix, Cross, Read}
use Rattle.op_mix.specs.Mixings.{mixing_of}
use Rattle.op_mix.specs.Stretches.{AreHeard, many_give, offers_in, samples_of}
use Rattle.node_states.specs.Passing.{passes}
use Rattle.node_states.specs.Histories.{StandsOn}
use Rattle.node_states.specs.Stretches.{LiesAhead, filled_on}
use Rattle.node_states.specs.States.{reads}
use Rattle.node_states.proofs.Ran.{cross_lane, cross_stands, leaf_lane, leaf_stands, mix_lane, mix_stands, none_idle, pick_lane, pick_stands, reader_lane, reader_stands, turn_lane, turn_stands}
use Rattle.node_states.proofs.Through.{through_lane, through_stands}
use Rattle.node_states.proofs.state.NodeState.run.Goals as goal

pub run-requires-in-Read-clause-ahead : goal.run-requires-in-Read-clause-ahead
run-requires-in-Read-clause-ahead c =
    inner_track (λ j. reader_slot (read_by j c.in-Read.state)) (length c.args.left.now) c.requires.some
    (subst (λ (s : NodeState). LiesAhead c.args.library.now s (length c.args.left.now)) c.in-Read.is c.requires.ahead)

pub returns-in-Leaf-clause-stands : goal.returns-in-Leaf-clause-stands
returns-in-Leaf-clause-stands c = λ history filled i gives.
    subst (λ (s : NodeState). StandsOn history (suc (length c.args.left.now)) (filled_on (passes s || reads (work_at history.setting i c.args.node.now)) (length c.args.left.now) filled) i c.args.node.now (Leaf c.run.new.self)) (sym c.in-Leaf.is)
    (leaf_stands history.setting history.sub history.clock history.past (length c.args.left.now) i filled c.args.node.now gives.goes_on c.requires.some c.args.library.now c.in-Leaf.state c.run.new.self gives.library c.run.ensures.leaf c.run.ensures.stands (work_at history.setting i c.args.node.now)
    (subst (λ (s : NodeState). StandsOn history 1 filled i c.args.node.now s) c.in-Leaf.is gives.stands))

pub returns-in-Leaf-clause-lane : goal.returns-in-Leaf-clause-lane
returns-in-Leaf-clause-lane c = λ history filled i gives children.
    leaf_lane history.setting history.sub history.clock history.past (length c.args.left.now) i filled c.args.node.now gives.goes_on c.args.library.now c.in-Leaf.state c.run.new.left c.run.new.right gives.library c.run.ensures.left c.run.ensures.right (work_at history.setting i c.args.node.now) refl
    (subst (λ (s : NodeState). StandsOn history 1 filled i c.args.node.now s) c.in-Leaf.is gives.stands)

pub returns-in-Select-clause-stands : goal.returns-in-Select-clause-stands
returns-in-Select-clause-stands c = λ history filled i gives.
    subst (λ (s : NodeState). StandsOn history (suc (length c.args.left.now)) (filled_on (passes s || reads (work_at history.setting i c.args.node.now)) (length c.args.left.now) filled) i c.args.node.now s) (sym c.in-Select.is)
    (pick_stands history.setting history.sub history.clock history.past (length c.args.left.now) i filled c.args.node.now gives.goes_on c.requires.some c.in-Select.field-0 (work_at history.setting i c.args.node.now)
    (subst (λ (s : NodeState). StandsOn history 1 filled i c.args.node.now s) c.in-Select.is gives.stands))

pub returns-in-Select-clause-lane : goal.returns-in-Select-clause-lane
returns-in-Select-clause-lane c = λ history filled i gives children.
    let same : c.as_slice-children.result.now ≡ c.args.node.now.children = search rules in
    pick_lane history.setting history.sub history.clock history.past (length c.args.left.now) i filled c.args.node.now gives.goes_on c.args.pick c.args.before.now children c.copy_picked.new.left c.copy_picked.new.right
    (λ place child picks there. c.copy_picked.ensures.left place child picks (ap (λ xs. slice_get xs place) same ∙ there))
    (λ place child picks there. c.copy_picked.ensures.right place child picks (ap (λ xs. slice_get xs place) same ∙ there)) c.in-Select.field-0 (work_at history.setting i c.args.node.now) refl
    (subst (λ (s : NodeState). StandsOn history 1 filled i c.args.node.now s) c.in-Select.is gives.stands)

pub returns-in-Turn-clause-stands : goal.returns-in-Turn-clause-stands
returns-in-Turn-clause-stands c = λ history filled i gives.
    subst (λ (s : NodeState). StandsOn history (suc (length c.args.left.now)) (filled_on (passes s || reads (work_at history.setting i c.args.node.now)) (length c.args.left.now) filled) i c.args.node.now s) (sym c.in-Turn.is)
    (turn_stands history.setting history.sub history.clock history.past (length c.args.left.now) i filled c.args.node.now gives.goes_on c.requires.some c.in-Turn.field-0 (work_at history.setting i c.args.node.now)
    (subst (λ (s : NodeState). StandsOn history 1 filled i c.args.node.now s) c.in-Turn.is gives.stands))

pub returns-in-Turn-clause-lane : goal.returns-in-Turn-clause-lane
returns-in-Turn-clause-lane c = λ history filled i gives children.
    let same : c.as_slice-children.result.now ≡ c.args.node.now.children = search rules in
    turn_lane history.setting history.sub history.clock history.past (length c.args.left.now) i filled c.args.node.now gives.goes_on c.args.pick c.args.before.now children c.copy_picked-in-Turn.new.left c.copy_picked-in-Turn.new.right
    (λ place child picks there. c.copy_picked-in-Turn.ensures.left place child picks (ap (λ xs. slice_get xs place) same ∙ there))
    (λ place child picks there. c.copy_picked-in-Turn.ensures.right place child picks (ap (λ xs. slice_get xs place) same ∙ there)) c.in-Turn.field-0 (work_at history.setting i c.args.node.now) refl
    (subst (λ (s : NodeState). StandsOn history 1 filled i c.args.node.now s) c.in-Turn.is gives.stands)

pub returns-in-Mix-clause-stands : goal.returns-in-Mix-clause-stands
returns-in-Mix-clause-stands c = λ history filled i gives.
    subst (λ (s : NodeState). StandsOn history (suc (length c.args.left.now)) (filled_on (passes s || reads (work_at history.setting i c.args.node.now)) (length c.args.left.now) filled) i c.args.node.now (Mix c.in-Mix.mixer)) (sym c.in-Mix.is)
    (mix_stands history.setting history.sub history.clock history.past (length c.args.left.now) i filled c.args.node.now gives.goes_on c.in-Mix.mixer (work_at history.setting i c.args.node.now)
    (subst (λ (s : NodeState). StandsOn history 1 filled i c.args.node.now s) c.in-Mix.is gives.stands))

pub returns-in-Mix-clause-lane : goal.returns-in-Mix-clause-lane
returns-in-Mix-clause-lane c = λ history filled i gives children.
    let same : c.as_slice-children.result.now ≡ c.args.node.now.children = search rules in
    mix_lane history.setting history.sub history.clock history.past (length c.args.left.now) i filled c.args.node.now gives.goes_on c.args.pick c.args.before.now children c.in-Mix.mixer c.run-in-Mix.new.left c.run-in-Mix.new.right
    (subst (λ xs. (slots : ℕ → ℕ → Slot) → AreHeard slots (offers_in c.args.before.now.parts.now) (λ child. samples_of c.args.before.now.left.now child (length c.args.left.now)) (λ child. samples_of c.args.before.now.right.now child (length c.args.left.now)) (length c.args.left.now) xs
    → 0 < many_give (offers_in c.args.before.now.parts.now) xs → IsLane (λ j. mix_slot (mixing_of c.in-Mix.mixer) (map (slots j) xs)) (length c.args.left.now) c.run-in-Mix.new.left c.run-in-Mix.new.right) same c.run-in-Mix.ensures.lane)
    (work_at history.setting i c.args.node.now) refl
    (subst (λ (s : NodeState). StandsOn history 1 filled i c.args.node.now s) c.in-Mix.is gives.stands)

pub returns-then-passes-clause-stands : goal.returns-then-passes-clause-stands
returns-then-passes-clause-stands c = λ history filled i gives.
    let same : c.as_slice-children.result.now ≡ c.args.node.now.children = search rules in
    let through : passes c.args.self.now ≡ true = ap passes c.in-Cross.is ∙ sym c.passes.ensures ∙ c.if-passes.true in
    let child = gives.supplied through in
    let there : slice_get c.as_slice-children.result.now 0 ≡ Some child.child = ap (λ xs. slice_get xs 0) same ∙ child.there in
    let before_run : StandsOn history 1 filled i c.args.node.now (Cross c.in-Cross.state) =
    subst (λ (s : NodeState). StandsOn history 1 filled i c.args.node.now s) c.in-Cross.is gives.stands in
    subst (λ (b : Bool). StandsOn history (suc (length c.args.left.now)) (filled_on (b || reads (work_at history.setting i c.args.node.now)) (length c.args.left.now) filled) i c.args.node.now (Cross c.pass_child.new.state)) (sym through)
    (through_stands history.setting history.sub history.clock history.past (length c.args.left.now) i filled c.args.node.now gives.goes_on c.requires.some c.args.below
    (samples_of c.args.before.now.left.now child.child (length c.args.left.now)) (samples_of c.args.before.now.right.now child.child (length c.args.left.now)) child.fills c.in-Cross.state c.pass_child.new.state
    (c.pass_child.ensures.overlap child.child there) (λ slots p s. c.pass_child.ensures.stands child.child p slots there s)
    (λ slots p m s few. c.pass_child.ensures.least child.child p m slots there s few) (work_at history.setting i c.args.node.now) before_run)

pub returns-then-passes-clause-lane : goal.returns-then-passes-clause-lane
returns-then-passes-clause-lane c = λ history filled i gives children.
    let same : c.as_slice-children.result.now ≡ c.args.node.now.children = search rules in
    let through : passes c.args.self.now ≡ true = ap passes c.in-Cross.is ∙ sym c.passes.ensures ∙ c.if-passes.true in
    let child = gives.supplied through in
    let there : slice_get c.as_slice-children.result.now 0 ≡ Some child.child = ap (λ xs. slice_get xs 0) same ∙ child.there in
    let before_run : StandsOn history 1 filled i c.args.node.now (Cross c.in-Cross.state) =
    subst (λ (s : NodeState). StandsOn history 1 filled i c.args.node.now s) c.in-Cross.is gives.stands in
    through_lane history.setting history.sub history.clock history.past (length c.args.left.now) i filled c.args.node.now gives.goes_on c.requires.some c.args.below
    (samples_of c.args.before.now.left.now child.child (length c.args.left.now)) (samples_of c.args.before.now.right.now child.child (length c.args.left.now)) child.fills c.in-Cross.state c.pass_child.new.state
    c.pass_child.new.left c.pass_child.new.right (λ slots p m s few. c.pass_child.ensures.least child.child p m slots there s few)
    (λ slots p s. c.pass_child.ensures.left child.child p slots there s) (λ slots p s. c.pass_child.ensures.right child.child p slots there s) (work_at history.setting i c.args.node.now) refl before_run

pub returns-else-passes-clause-stands : goal.returns-else-passes-clause-stands
returns-else-passes-clause-stands c = λ history filled i gives.
    let not : passes c.args.self.now ≡ false = ap passes c.in-Cross.is ∙ sym c.passes.ensures ∙ c.if-passes.false in
    subst (λ (b : Bool). StandsOn history (suc (length c.args.left.now)) (filled_on (b || reads (work_at history.setting i c.args.node.now)) (length c.args.left.now) filled) i c.args.node.now (Cross c.copy.new.self)) (sym not)
    (cross_stands history.setting history.sub history.clock history.past (length c.args.left.now) i filled c.args.node.now gives.goes_on c.requires.some c.in-Cross.state c.copy.new.self c.copy.ensures.overlap c.copy.ensures.stands (work_at history.setting i c.args.node.now)
    (subst (λ (s : NodeState). StandsOn history 1 filled i c.args.node.now s) c.in-Cross.is gives.stands))

pub returns-else-passes-clause-lane : goal.returns-else-passes-clause-lane
returns-else-passes-clause-lane c = λ history filled i gives children.
    cross_lane history.setting history.sub history.clock history.past (length c.args.left.now) i filled c.args.node.now gives.goes_on c.in-Cross.state c.copy.new.left c.copy.new.right c.copy.ensures.settled c.copy.ensures.left c.copy.ensures.right (work_at history.setting i c.args.node.now) refl
    (subst (λ (s : NodeState). StandsOn history 1 filled i c.args.node.now s) c.in-Cross.is gives.stands)

pub returns-in-Read-clause-stands : goal.returns-in-Read-clause-stands
returns-in-Read-clause-stands c = λ history filled i gives.
    subst (λ (s : NodeState). StandsOn history (suc (length c.args.left.now)) (filled_on (passes s || reads (work_at history.setting i c.args.node.now)) (length c.args.left.now) filled) i c.args.node.now (Read c.run-in-Read.new.self)) (sym c.in-Read.is)
    (reader_stands history.setting history.sub history.clock history.past (length c.args.left.now) i filled c.args.node.now gives.goes_on c.requires.some c.in-Read.state c.run-in-Read.new.self c.run-in-Read.ensures.read (work_at history.setting i c.args.node.now) refl gives.begun
    (subst (λ (s : NodeState). StandsOn history 1 filled i c.args.node.now s) c.in-Read.is gives.stands))

pub returns-in-Read-clause-lane : goal.returns-in-Read-clause-lane
returns-in-Read-clause-lane c = λ history filled i gives children.
    let inner : LiesAhead c.args.library.now (Read c.in-Read.state) (length c.args.left.now) =
    subst (λ (s : NodeState). LiesAhead c.args.library.now s (length c.args.left.now)) c.in-Read.is c.requires.ahead in
    reader_lane history.setting history.sub history.clock history.past (length c.args.left.now) i filled c.args.node.now gives.goes_on c.in-Read.state c.run-in-Read.new.left c.run-in-Read.new.right (c.run-in-Read.ensures.lane (inner 0 c.requires.some)) (work_at history.setting i c.args.node.now) refl gives.begun
    (subst (λ (s : NodeState). StandsOn history 1 filled i c.args.node.now s) c.in-Read.is gives.stands)

pub returns-in-Idle-clause-stands : goal.returns-in-Idle-clause-stands
returns-in-Idle-clause-stands c = λ history filled i gives.
    absurd (none_idle history.setting history.sub history.clock history.past (length c.args.left.now) i filled c.args.node.now gives.goes_on (work_at history.setting i c.args.node.now) (subst (λ (s : NodeState). StandsOn history 1 filled i c.args.node.now s) c.in-Idle.is gives.stands))

pub returns-in-Idle-clause-lane : goal.returns-in-Idle-clause-lane
returns-in-Idle-clause-lane c = λ history filled i gives children.
    absurd (none_idle history.setting history.sub history.clock history.past (length c.args.left.now) i filled c.args.node.now gives.goes_on (work_at history.setting i c.args.node.now) (subst (λ (s : NodeState). StandsOn history 1 filled i c.args.node.now s) c.in-Idle.is gives.stands))
