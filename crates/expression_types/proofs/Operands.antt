-- Operands: leaves, and forms that stand for another tree.
use Rattle.std.proofs.Common.{◌≡◌, ◌∙◌, sym, ap, refl, ℕ, List, map, Option, Some, None, Result, Ok, Err, IfOk}
use Rattle.std.specs.Global.{Vec}
use Rattle.liq_base.specs.declared.memory.Memory.{Memory}
use Rattle.script_grammar.specs.Tree.{Sort, Tree, Constant, Negative, Listed}
use Rattle.script_grammar.specs.View.{listed, tuple_of, view_full, view_operand}
use Rattle.script_grammar.specs.declared.tree.Full.{Full}
use Rattle.script_grammar.specs.declared.tree.Literal.{Literal}
use Rattle.script_grammar.specs.declared.tree.Literal.TheVariants as literal
use Rattle.script_grammar.specs.declared.tree.Operand as operand
use Rattle.type_terms.specs.Ground.{Ground}
use Rattle.type_terms.specs.Term.{variable}
use Rattle.type_terms.specs.Table.{Table}
use Rattle.type_terms.specs.declared.ty.Base.TheVariants as base
use Rattle.typing_rules.specs.Typing.{Sight, Has}
use Rattle.script_grammar.proofs.Rows.{fulls_listed}
use Rattle.type_steps.specs.Environment.{Env, Found, AreUsesOver, IsEnvOver}
use Rattle.type_steps.specs.Flow.{Defines, Infers, IsTypeOf}
use Rattle.type_steps.proofs.Ends.{leaf_infers}
use Rattle.type_steps.proofs.Forms.{infers_as, none_as}
use Rattle.expression_types.specs.Literals.{literal_term}

pub constant_infers : (s s' : Table) (env : Env) (at : ℕ) (l : Literal) (n : ℕ) (fs : List Found) → IsEnvOver s env → AreUsesOver s fs → Defines s s' n (literal_term l) → Infers s s' env (Constant at l) (variable n) fs fs
constant_infers s s' env at (literal.Int k) n fs o us d = leaf_infers s s' env (Constant at (literal.Int k)) base.Int n fs (λ z. refl) (λ z g h. h) o us d
constant_infers s s' env at (literal.Number k) n fs o us d = leaf_infers s s' env (Constant at (literal.Number k)) base.Decimal n fs (λ z. refl) (λ z g h. h) o us d

pub negative_infers : (s s' : Table) (env : Env) (at : ℕ) (l : Literal) (n : ℕ) (fs : List Found) → IsEnvOver s env → AreUsesOver s fs → Defines s s' n (literal_term l) → Infers s s' env (Negative at l) (variable n) fs fs
negative_infers s s' env at (literal.Int k) n fs o us d = leaf_infers s s' env (Negative at (literal.Int k)) base.Int n fs (λ z. refl) (λ z g h. h) o us d
negative_infers s s' env at (literal.Number k) n fs o us d = leaf_infers s s' env (Negative at (literal.Number k)) base.Decimal n fs (λ z. refl) (λ z g h. h) o us d

-- a tree that has the same types as another
pub typed_as : {r r' : Sort} (e : Tree r) (e' : Tree r') → ((z : Sight) (g : Ground) → Has z e g → Has z e' g) → ((z : Sight) (g : Ground) → Has z e' g → Has z e g) → (s s' : Table) (env : Env) (old new : List Found) (answer : Option ℕ) → IsTypeOf s s' env e old new answer → IsTypeOf s s' env e' old new answer
typed_as e e' to back s s' env old new None f = none_as e e' to back s env old f
typed_as e e' to back s s' env old new (Some n) f = infers_as e e' to back s s' env (variable n) old new f

pub answered_as : {r r' : Sort} (e : Tree r) (e' : Tree r') → ((z : Sight) (g : Ground) → Has z e g → Has z e' g) → ((z : Sight) (g : Ground) → Has z e' g → Has z e g) → (s s' : Table) (env : Env) (old new : List Found) (x : Result (Option ℕ) Memory) → IfOk x (λ r. IsTypeOf s s' env e old new r) → IfOk x (λ r. IsTypeOf s s' env e' old new r)
answered_as e e' to back s s' env old new (Ok answer) f = typed_as e e' to back s s' env old new answer f
answered_as e e' to back s s' env old new (Err m) f = tt

-- values in parentheses and in square brackets
pub operand_tuple : (at : ℕ) (v : Vec Full) (l : List Full) → l ≡ v.items → view_operand (operand.Tuple at v) ≡ tuple_of at (listed (map view_full l))
operand_tuple at v l is = ap (tuple_of at) (fulls_listed v) ∙ ap (λ (k : List Full). tuple_of at (listed (map view_full k))) (sym is)

pub operand_list : (at : ℕ) (v : Vec Full) (l : List Full) → l ≡ v.items → view_operand (operand.List at v) ≡ Listed at (listed (map view_full l))
operand_list at v l is = ap (Listed at) (fulls_listed v) ∙ ap (λ (k : List Full). Listed at (listed (map view_full k))) (sym is)
