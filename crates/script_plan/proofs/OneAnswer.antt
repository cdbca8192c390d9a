-- A text has one plan or one fault.
use Rattle.std.proofs.Common.{◌≡◌, ⊎_elim, ℕ, List, Some, Result, Ok, Err, sym, ap, ◌∙◌, subst}
use Rattle.parse_base.specs.Gives.{kinds}
use Rattle.plan_core.specs.declared.plan.Plan.{Plan}
use Rattle.script_grammar.specs.Placed.{IsPlaced}
use Rattle.script_grammar.specs.Spelling.{spelling}
use Rattle.script_grammar.specs.Tree.{Script}
use Rattle.script_grammar.proofs.Settled.{one_placed_script}
use Rattle.script_lex.specs.declared.token.Token.{Token}
use Rattle.script_lex.specs.declared.token.TokenKind.{TokenKind}
use Rattle.script_parse.specs.declared.fault.ParseFault.{ParseFault}
use Rattle.script_parse.specs.declared.fault.ParseFault.TheVariants.{Syntax, TooDeep, Memory}
use Rattle.script_parse.specs.Answer.{IsFault, IsShallow}
use Rattle.typing_rules.specs.declared.fault.TypeFault.{TypeFault}
use Rattle.typing_rules.specs.declared.uses.Use.{Use}
use Rattle.typing_rules.specs.Answers.{IsTyped, IsTypeFault}
use Rattle.typing_rules.proofs.TypedScripts.{typed_or_fault}
use Rattle.typing_rules.proofs.OneFault.{one_fault}
use Rattle.script_values.specs.declared.fault.EvalFault.{EvalFault}
use Rattle.eval_meaning.specs.Scripts.{Ending, evaluation}
use Rattle.script_plan.specs.declared.fault.ScriptFault.{ScriptFault}
use Rattle.script_plan.specs.declared.fault.ScriptFault.TheVariants as fault
use Rattle.script_plan.specs.Plans.{IsPlan, IsPlanFault, IsSyntaxFault, IsTypingFault, Spells, Types}
use Rattle.script_plan.proofs.Lexical.{lexical_one, tokens_one, tokens_or_fault}

-- the laws of parsing and of evaluation that this rests on
abbrev OneFault : Type 0
OneFault = (tokens : List TokenKind) (a b : ParseFault) → IsFault tokens a → IsFault tokens b → a ≡ b

abbrev OnePlan : Type 0
OnePlan = (script : Script) (uses others : List Use) → IsPlaced 0 script → IsTyped script uses → IsTyped script others → evaluation script uses ≡ evaluation script others

-- ---- the tree

pub spelled_one : (text : List ℕ) (s r : Script) → Spells text s → Spells text r → s ≡ r
spelled_one text s r a b = one_placed_script s r a.placed b.placed (a.spelled ∙ ap kinds (tokens_one text a.tokens b.tokens a.lexed b.lexed) ∙ sym b.spelled)

no_fault : (w : List TokenKind) (s : Script) (e : ParseFault) → spelling s ≡ w → IsShallow w → IsFault w e → ⊥
no_fault w s (Syntax k) is shallow p = p.0.no_script s is
no_fault w s (TooDeep d) is shallow p = shallow d p.0.within p.0.here
no_fault w s Memory is shallow p = p

spelled_or_fault : (text : List ℕ) (s : Script) (e : ParseFault) → Spells text s → IsSyntaxFault text e → ⊥
spelled_or_fault text s e a b =
    let same = tokens_one text a.tokens b.tokens a.lexed b.lexed in
    no_fault (kinds a.tokens) s e a.spelled a.shallow (subst (λ (ts : List Token). IsFault (kinds ts) e) (sym same) b.told)

syntax_one : OneFault → (text : List ℕ) (e f : ParseFault) → IsSyntaxFault text e → IsSyntaxFault text f → e ≡ f
syntax_one law text e f a b =
    let same = tokens_one text a.tokens b.tokens a.lexed b.lexed in
    law (kinds a.tokens) e f a.told (subst (λ (ts : List Token). IsFault (kinds ts) f) (sym same) b.told)

-- ---- typing

typed_or_not : (text : List ℕ) (s : Script) (uses : List Use) (f : TypeFault) → Types text s uses → IsTypingFault text f → ⊥
typed_or_not text s uses f a b =
    let same = spelled_one text s b.script a.spelled b.spelled in
    b.meant (typed_or_fault b.script uses f (subst (λ (r : Script). IsTyped r uses) same a.typed) b.told)

typing_one : (text : List ℕ) (f g : TypeFault) → IsTypingFault text f → IsTypingFault text g → f ≡ g
typing_one text f g a b =
    let same = spelled_one text a.script b.script a.spelled b.spelled in
    ⊎_elim (λ m. absurd (a.meant m)) (λ r. ⊎_elim (λ m. absurd (b.meant m)) (λ e. e) r) (one_fault b.script f g (subst (λ (r : Script). IsTypeFault r f) same a.told) b.told)

-- ---- evaluation

evaluated_one : OnePlan → (text : List ℕ) (s r : Script) (us vs : List Use) → Types text s us → Types text r vs → evaluation s us ≡ evaluation r vs
evaluated_one law text s r us vs a b =
    let same = spelled_one text s r a.spelled b.spelled in
    ap (λ (x : Script). evaluation x us) same ∙ law r us vs b.spelled.placed (subst (λ (x : Script). IsTyped x us) same a.typed) b.typed

ok_is : (p q : Plan) → ◌≡◌ {A = Result Plan Ending} (Ok p) (Ok q) → p ≡ q
ok_is p q is = cc

ok_or_err : (p : Plan) (e : Ending) → ◌≡◌ {A = Result Plan Ending} (Ok p) (Err e) → ⊥
ok_or_err p e is = cc

err_is : (f g : EvalFault) → ◌≡◌ {A = Result Plan Ending} (Err (Some f)) (Err (Some g)) → f ≡ g
err_is f g is = cc

pub plan_one : OnePlan → (text : List ℕ) (p q : Plan) → IsPlan text p → IsPlan text q → p ≡ q
plan_one plans text p q a b = ok_is p q (sym a.evaluated ∙ evaluated_one plans text a.script b.script a.uses b.uses a.typed b.typed ∙ b.evaluated)

pub plan_or_fault : OnePlan → (text : List ℕ) (p : Plan) (f : ScriptFault) → IsPlan text p → IsPlanFault text f → ⊥
plan_or_fault plans text p (fault.Lex f) a b = tokens_or_fault text a.typed.spelled.tokens f a.typed.spelled.lexed b
plan_or_fault plans text p (fault.Parse f) a b = spelled_or_fault text a.script f a.typed.spelled b
plan_or_fault plans text p (fault.Type f) a b = typed_or_not text a.script a.uses f a.typed b
plan_or_fault plans text p (fault.Eval f) a b = ok_or_err p (Some f) (sym a.evaluated ∙ evaluated_one plans text a.script b.script a.uses b.uses a.typed b.typed ∙ b.told)
plan_or_fault plans text p fault.Memory a b = b

pub fault_one : OneFault → OnePlan → (text : List ℕ) (f g : ScriptFault) → IsPlanFault text f → IsPlanFault text g → f ≡ g
fault_one faults plans text (fault.Lex f) (fault.Lex g) a b = ap fault.Lex (lexical_one text f g a b)
fault_one faults plans text (fault.Lex f) (fault.Parse g) a b = absurd (tokens_or_fault text b.tokens f b.lexed a)
fault_one faults plans text (fault.Lex f) (fault.Type g) a b = absurd (tokens_or_fault text b.spelled.tokens f b.spelled.lexed a)
fault_one faults plans text (fault.Lex f) (fault.Eval g) a b = absurd (tokens_or_fault text b.typed.spelled.tokens f b.typed.spelled.lexed a)
fault_one faults plans text (fault.Lex f) fault.Memory a b = absurd b
fault_one faults plans text (fault.Parse f) (fault.Lex g) a b = absurd (tokens_or_fault text a.tokens g a.lexed b)
fault_one faults plans text (fault.Parse f) (fault.Parse g) a b = ap fault.Parse (syntax_one faults text f g a b)
fault_one faults plans text (fault.Parse f) (fault.Type g) a b = absurd (spelled_or_fault text b.script f b.spelled a)
fault_one faults plans text (fault.Parse f) (fault.Eval g) a b = absurd (spelled_or_fault text b.script f b.typed.spelled a)
fault_one faults plans text (fault.Parse f) fault.Memory a b = absurd b
fault_one faults plans text (fault.Type f) (fault.Lex g) a b = absurd (tokens_or_fault text a.spelled.tokens g a.spelled.lexed b)
fault_one faults plans text (fault.Type f) (fault.Parse g) a b = absurd (spelled_or_fault text a.script g a.spelled b)
fault_one faults plans text (fault.Type f) (fault.Type g) a b = ap fault.Type (typing_one text f g a b)
fault_one faults plans text (fault.Type f) (fault.Eval g) a b = absurd (typed_or_not text b.script b.uses f b.typed a)
fault_one faults plans text (fault.Type f) fault.Memory a b = absurd b
fault_one faults plans text (fault.Eval f) (fault.Lex g) a b = absurd (tokens_or_fault text a.typed.spelled.tokens g a.typed.spelled.lexed b)
fault_one faults plans text (fault.Eval f) (fault.Parse g) a b = absurd (spelled_or_fault text a.script g a.typed.spelled b)
fault_one faults plans text (fault.Eval f) (fault.Type g) a b = absurd (typed_or_not text a.script a.uses g a.typed b)
fault_one faults plans text (fault.Eval f) (fault.Eval g) a b = ap fault.Eval (err_is f g (sym a.told ∙ evaluated_one plans text a.script b.script a.uses b.uses a.typed b.typed ∙ b.told))
fault_one faults plans text (fault.Eval f) fault.Memory a b = absurd b
fault_one faults plans text fault.Memory g a b = absurd a
