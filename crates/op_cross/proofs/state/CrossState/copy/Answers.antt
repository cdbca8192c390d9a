use Rattle.std.proofs.Common.{◌≤◌, ◌+◌, length, subst, sym}
use Rattle.op_cross.specs.Crossfade.{cross}
use Rattle.op_cross.specs.States.{StandsFor, ready_stretch}
use Rattle.op_cross.proofs.Stretching.{settled_ahead}
use Rattle.op_cross.specs.contracts.state.CrossState.{the_view}
use Rattle.op_cross.proofs.state.CrossState.copy.Goals as goal

pub returns-then-len-self-clause-settled : goal.returns-then-len-self-clause-settled
returns-then-len-self-clause-settled c = λ slots p stands.
    subst (λ s. p + length c.args.left.now ≤ length (cross s.overlap slots)) c.self.view_is
    (settled_ahead (the_view c.self.inside) slots p (length c.args.left.now) c.self.invariant.0
    (subst (λ s. StandsFor s slots p) (sym c.self.view_is) stands) (subst (λ s. length c.args.left.now ≤ ready_stretch s) (sym c.self.view_is) c.requires.ready))

pub returns-else-len-self-clause-settled : goal.returns-else-len-self-clause-settled
returns-else-len-self-clause-settled c = λ slots p stands.
    subst (λ s. p + length c.args.left.now ≤ length (cross s.overlap slots)) c.self.view_is
    (settled_ahead (the_view c.self.inside) slots p (length c.args.left.now) c.self.invariant.0
    (subst (λ s. StandsFor s slots p) (sym c.self.view_is) stands) (subst (λ s. length c.args.left.now ≤ ready_stretch s) (sym c.self.view_is) c.requires.ready))
