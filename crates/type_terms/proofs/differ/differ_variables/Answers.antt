use Rattle.std.proofs.Common.{sym}
use Rattle.type_terms.proofs.Basics.{on_false, on_true}
use Rattle.type_terms.proofs.Settling.{forced_variable, forced_flipped}
use Rattle.type_terms.proofs.differ.differ_variables.Goals as goal

pub returns-then-stays_free : goal.returns-then-stays_free
returns-then-stays_free c ks =
    forced_flipped _ _ _ _ _ (forced_variable c.args.types.now ks c.args.y c.args.x c.args.left.now c.requires.left c.requires.inside_too c.requires.inside c.requires.free_too c.requires.free (λ e. c.if-x-y.false (sym e)) (on_true _ c.if-stays_free.ensures.yes))

pub returns-else-stays_free : goal.returns-else-stays_free
returns-else-stays_free c ks =
    forced_variable c.args.types.now ks c.args.x c.args.y c.args.right.now c.requires.right c.requires.inside c.requires.inside_too c.requires.free c.requires.free_too c.if-x-y.false (on_false _ c.if-stays_free.ensures.no)
