use Rattle.std.proofs.Common.{sym, ◌∙◌}
use Rattle.script_grammar.specs.declared.tree.Expr as expr
use Rattle.script_grammar.specs.declared.tree.And as and_
use Rattle.script_grammar.specs.declared.tree.Sum as sum
use Rattle.script_grammar.specs.declared.tree.Product as product
use Rattle.script_grammar.proofs.OneOperand.{and_in, empty_vec, is_lone, product_in, sum_in}
use Rattle.script_grammar.proofs.lone.lone_operand.Goals as goal

pub returns-in-None : goal.returns-in-None
returns-in-None c =
    let ands = empty_vec (expr.out-Expr c.args.expr.now).rest (sym c.is_empty.ensures ∙ c.if-not-is_empty.false) in
    let nots = empty_vec (and_.out-And (and_in c.args.expr.now)).rest (sym c.is_empty-else-not-is_empty.ensures ∙ c.if-not-is_empty-2.false) in
    let addends = empty_vec (sum.out-Sum (sum_in c.args.expr.now)).rest (sym c.is_empty-2.ensures ∙ c.if-not-is_empty-3.false) in
    let factors = empty_vec (product.out-Product (product_in c.args.expr.now)).rest (sym c.is_empty-else-not-is_empty-3.ensures ∙ c.if-not-is_empty-4.false) in
    is_lone c.args.expr.now ands nots c.if-not.false addends factors c.in-None.is
