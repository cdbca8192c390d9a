-- An expression that is one operand means what the operand means.
use Rattle.std.proofs.Common.{◌≡◌, Ok, Err, false, refl, ap, ◌∙◌}
use Rattle.script_grammar.specs.Lone.{lone}
use Rattle.script_grammar.specs.Tree.{Tree, AnExpr, AnOperand, none, Product}
use Rattle.script_grammar.specs.View.{view_full, view_expr}
use Rattle.script_grammar.specs.declared.tree.Full.{Full}
use Rattle.script_grammar.specs.declared.tree.Full.TheVariants as full
use Rattle.script_grammar.specs.declared.tree.Expr as expr
use Rattle.script_values.specs.Outcomes.{◌>>=◌, Outcome}
use Rattle.script_values.specs.declared.machine.Machine.{Machine}
use Rattle.eval_meaning.specs.Meaning as meaning
use Rattle.eval_meaning.specs.Meaning.{Surroundings}

same : (r : Outcome) → (r >>= λ x. Ok (x.0, x.1)) ≡ r
same (Ok x) = refl
same (Err e) = refl

product_lone : (s : Surroundings) (p : Tree AnOperand) (m : Machine) → meaning.product s (Product p none) m ≡ meaning.operand s p m
unfolding meaning.product meaning.factors
product_lone s p m = same (meaning.operand s p m)

pub lone_means : (s : Surroundings) (p : Tree AnOperand) (m : Machine) → meaning.expr s (lone false p) m ≡ meaning.operand s p m
unfolding meaning.expr meaning.ors meaning.conjunction meaning.ands meaning.negation meaning.compare meaning.sum meaning.addends
lone_means s p m =
    let whole : Outcome = meaning.product s (Product p none) m in
    same (((whole >>= λ x. Ok (x.0, x.1)) >>= λ x. Ok (x.0, x.1))) ∙ same (whole >>= λ x. Ok (x.0, x.1)) ∙ same whole ∙ product_lone s p m

pub full_lone : (s : Surroundings) (f : Full) (e : expr.Expr) (p : Tree AnOperand) (m : Machine) → f ≡ full.Plain e → view_expr e ≡ lone false p → meaning.full s (view_full f) m ≡ meaning.operand s p m
unfolding meaning.full
full_lone s f e p m is seen = ap (λ (g : Full). meaning.full s (view_full g) m) is ∙ ap (λ (t : Tree AnExpr). meaning.expr s t m) seen ∙ lone_means s p m
