use Rattle.std.proofs.Common.{◌≡◌, ◌+◌, IsSome, Some, refl, sym, subst, arith}
use Rattle.frame_core.specs.Slots.{title_of}
use Rattle.op_leaf.specs.Inner.{stretch_from}
use Rattle.op_leaf.specs.Leaves.{leaf_slot, square_cell}
use Rattle.op_leaf.specs.Standing.{CursorStandsAt, played_by}
use Rattle.op_leaf.proofs.Stretching.{further_is, stretch_is}
use Rattle.op_leaf.proofs.leaf.LeafState.stretch.Goals as goal

pub returns-in-Track-clause-stretch : goal.returns-in-Track-clause-stretch
returns-in-Track-clause-stretch c = λ p stands some.
    subst (λ cursor. CursorStandsAt c.args.library.now cursor p → IsSome (leaf_slot c.args.library.now (played_by cursor) p)
    → c.stretch.result ≡ stretch_from (leaf_slot c.args.library.now (played_by cursor)) p c.args.most) (sym c.in-Track.is)
    (λ s is. c.stretch.ensures.stretch p s is) stands some

pub returns-in-Silence-clause-stretch : goal.returns-in-Silence-clause-stretch
returns-in-Silence-clause-stretch c = λ p stands some.
    subst (λ cursor. CursorStandsAt c.args.library.now cursor p → c.stretch-in-Silence.result ≡ stretch_from (leaf_slot c.args.library.now (played_by cursor)) p c.args.most)
    (sym c.in-Silence.is) (λ s. c.stretch-in-Silence.ensures.stretch p s) stands

pub returns-in-Wave-clause-stretch : goal.returns-in-Wave-clause-stretch
returns-in-Wave-clause-stretch c = λ p stands some.
    subst (λ cursor. c.args.most ≡ stretch_from (leaf_slot c.args.library.now (played_by cursor)) p c.args.most) (sym c.in-Wave.is)
    (stretch_is (λ q. Some (square_cell c.in-Wave.field-0.pitch c.in-Wave.field-0.rate c.in-Wave.field-0.kind q)) p c.args.most c.args.most c.requires.some (omega arith)
    (λ i more less. further_is p i more) (λ less. absurd (omega (arith, less))))

pub returns-in-Track-clause-titled : goal.returns-in-Track-clause-titled
returns-in-Track-clause-titled c = λ p j stands some low.
    subst (λ cursor. CursorStandsAt c.args.library.now cursor p → IsSome (leaf_slot c.args.library.now (played_by cursor) p)
    → title_of (leaf_slot c.args.library.now (played_by cursor) (p + j)) ≡ title_of (leaf_slot c.args.library.now (played_by cursor) p)) (sym c.in-Track.is)
    (λ s is. c.stretch.ensures.titled p j s is low) stands some

pub returns-in-Silence-clause-titled : goal.returns-in-Silence-clause-titled
returns-in-Silence-clause-titled c = λ p j stands some low.
    subst (λ cursor. title_of (leaf_slot c.args.library.now (played_by cursor) (p + j)) ≡ title_of (leaf_slot c.args.library.now (played_by cursor) p)) (sym c.in-Silence.is) refl

pub returns-in-Wave-clause-titled : goal.returns-in-Wave-clause-titled
returns-in-Wave-clause-titled c = λ p j stands some low.
    subst (λ cursor. title_of (leaf_slot c.args.library.now (played_by cursor) (p + j)) ≡ title_of (leaf_slot c.args.library.now (played_by cursor) p)) (sym c.in-Wave.is) refl

pub returns-in-Nothing-clause-titled : goal.returns-in-Nothing-clause-titled
returns-in-Nothing-clause-titled c = λ p j stands some low.
    subst (λ cursor. title_of (leaf_slot c.args.library.now (played_by cursor) (p + j)) ≡ title_of (leaf_slot c.args.library.now (played_by cursor) p)) (sym c.in-Nothing.is) refl
