use Rattle.std.proofs.Common.{◌≡◌, ◌∙◌, pos, length, map, ap, sym, subst}
use Rattle.std.specs.List.{range_with_len}
use Rattle.op_leaf.specs.Inner.{lefts_of, rights_of}
use Rattle.op_leaf.specs.Leaves.{leaf_slot}
use Rattle.op_leaf.specs.Standing.{CursorStandsAt, played_by}
use Rattle.op_leaf.proofs.leaf.LeafState.run.Goals as goal

pub returns-in-Silence-clause-left : goal.returns-in-Silence-clause-left
returns-in-Silence-clause-left c = λ p stands.
    c.silence.ensures p ∙ ap (λ cursor. lefts_of (leaf_slot c.args.library.now (played_by cursor)) p (length c.args.left.now)) (sym c.in-Silence.is)

pub returns-in-Silence-clause-right : goal.returns-in-Silence-clause-right
returns-in-Silence-clause-right c = λ p stands.
    c.silence-in-Silence.ensures p ∙ ap (λ n. map (λ q. pos 0) (range_with_len p n)) c.requires.same
    ∙ ap (λ cursor. rights_of (leaf_slot c.args.library.now (played_by cursor)) p (length c.args.left.now)) (sym c.in-Silence.is)

pub returns-in-Wave-clause-left : goal.returns-in-Wave-clause-left
returns-in-Wave-clause-left c = λ p stands.
    subst (λ cursor. CursorStandsAt c.args.library.now cursor p → c.run-in-Wave.new.left ≡ lefts_of (leaf_slot c.args.library.now (played_by cursor)) p (length c.args.left.now))
    (sym c.in-Wave.is) (λ s. c.run-in-Wave.ensures.left p s) stands

pub returns-in-Wave-clause-right : goal.returns-in-Wave-clause-right
returns-in-Wave-clause-right c = λ p stands.
    subst (λ cursor. CursorStandsAt c.args.library.now cursor p → c.run-in-Wave.new.right ≡ rights_of (leaf_slot c.args.library.now (played_by cursor)) p (length c.args.left.now))
    (sym c.in-Wave.is) (λ s. c.run-in-Wave.ensures.right p s) stands
