-- An expression that is one operand, behind `not` or not.
use Rattle.std.specs.Prelude.{◌≡◌, ◌<◌, Bool, false}
use Rattle.script_grammar.specs.Tree.{Tree, AnExpr, AnOperand, none, Expr, And, Not, Alone, Sum, Product}
use Rattle.script_grammar.specs.View.{view_expr, view_operand}
use Rattle.script_grammar.specs.declared.tree.Expr as expr
use Rattle.script_grammar.specs.declared.tree.Operand as operand

-- the expression of one operand alone, behind `not` if `negated`: all levels of operators around it join nothing
abbrev pub lone : Bool → Tree AnOperand → Tree AnExpr
lone negated p = Expr (And (Not negated (Alone (Sum (Product p none) none))) none) none

-- The expression e is the operand p alone, without any operator. Its tree of the grammar says so, and p is smaller than
-- e, so that recursion from e to p ends.
pub record IsLone (e : expr.Expr) (p : operand.Operand) : Type 0 where
  pub seen : view_expr e ≡ lone false (view_operand p)
  pub below : operand.size-Operand p < expr.size-Expr e
