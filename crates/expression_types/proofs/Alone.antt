-- An expression that is one operand has the types and the uses of the operand.
use Rattle.std.proofs.Common.{◌≡◌, ◌∙◌, false, sym, ap, subst, ℕ, List, [], ◌++◌, Option, Result, IfOk}
use Rattle.std.proofs.lemmas.List.{append-nil}
use Rattle.liq_base.specs.declared.memory.Memory.{Memory}
use Rattle.script_grammar.specs.Lone.{IsLone, lone}
use Rattle.script_grammar.specs.Tree.{Tree, AnExpr, AnOperand, Plain}
use Rattle.script_grammar.specs.View.{view_expr, view_operand}
use Rattle.script_grammar.specs.declared.tree.Expr as expr
use Rattle.script_grammar.specs.declared.tree.Operand as operand
use Rattle.type_terms.specs.Table.{Table}
use Rattle.type_steps.specs.Environment.{Env, Found}
use Rattle.type_steps.specs.Flow.{IsTypeOf}
use Rattle.expression_types.specs.declared.environment.Names.{Names}
use Rattle.expression_types.specs.Order.{AreAddedIf, tokens_used}
use Rattle.expression_types.proofs.Operands.{answered_as}

lone_used : (p : Tree AnOperand) → tokens_used (lone false p) ≡ tokens_used p
lone_used p =
    let ts = tokens_used p in
    append-nil (ts ++ [] ++ [] ++ []) ∙ append-nil (ts ++ [] ++ []) ∙ append-nil (ts ++ []) ∙ append-nil ts

pub lone_typed : (e : expr.Expr) (p : operand.Operand) → IsLone e p → (s s' : Table) (env : Env) (old new : List Found) (x : Result (Option ℕ) Memory) →
    IfOk x (λ r. IsTypeOf s s' env (view_operand p) old new r) → IfOk x (λ r. IsTypeOf s s' env (Plain (view_expr e)) old new r)
lone_typed e p is s s' env old new x f =
    subst (λ (t : Tree AnExpr). IfOk x (λ r. IsTypeOf s s' env (Plain t) old new r)) (sym is.seen)
    (answered_as (view_operand p) (Plain (lone false (view_operand p))) (λ z g h. ((((h, tt, tt), tt, tt), tt, tt), tt, tt)) (λ z g h. h.0.0.0.0) s s' env old new x f)

pub lone_added : (e : expr.Expr) (p : operand.Operand) → IsLone e p → (ns : Names) (old new : List Found) (x : Result (Option ℕ) Memory) →
    IfOk x (λ r. AreAddedIf ns (tokens_used (view_operand p)) old new r) → IfOk x (λ r. AreAddedIf ns (tokens_used (view_expr e)) old new r)
lone_added e p is ns old new x f = subst (λ (ts : List ℕ). IfOk x (λ r. AreAddedIf ns ts old new r)) (sym (ap tokens_used is.seen ∙ lone_used (view_operand p))) f
