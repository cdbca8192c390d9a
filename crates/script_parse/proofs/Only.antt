-- Nothing else is answered: a script that is spelled has no fault, and there is one fault.
use Rattle.std.proofs.Common.{◌≡◌, ◌≢◌, ℕ, ◌⊎◌, inl, inr, List, Ok, Err, refl, sym, ap, ◌∙◌, arith}
use Rattle.std.specs.Prelude.{Result, IfOk, IfErr, IsOkUnless}
use Rattle.std.proofs.lemmas.Bool.{cases_lt}
use Rattle.script_lex.specs.declared.token.TokenKind.{TokenKind}
use Rattle.script_grammar.specs.declared.tree.Script as program
use Rattle.script_grammar.specs.Tree.{Script}
use Rattle.script_grammar.specs.Spelling.{spelling}
use Rattle.script_grammar.specs.Placed.{IsPlaced}
use Rattle.script_grammar.specs.View.{view_script}
use Rattle.script_parse.specs.declared.fault.ParseFault.{ParseFault}
use Rattle.script_parse.specs.declared.fault.ParseFault.TheVariants.{Syntax, TooDeep, Memory}
use Rattle.script_parse.specs.Places.{IsSyntaxPlace, IsDepthPlace}
use Rattle.script_parse.specs.Answer.{IsShallow, IsFault}
use Rattle.script_parse.proofs.Exact.{no_place_in_front}

syntax_unique : (w : List TokenKind) (j k : ℕ) → IsSyntaxPlace w j → IsSyntaxPlace w k → j ≡ k
syntax_unique w j k p q =
    let a = no_place_in_front j w p.within p.begun k q in
    let b = no_place_in_front k w q.within q.begun j p in
    omega arith

depth_unique : (w : List TokenKind) (j k : ℕ) → IsDepthPlace w j → IsDepthPlace w k → j ≡ k
depth_unique w j k p q =
    elim (cases_lt j k) [
      | inl less ↦ absurd (q.first j less p.here)
      | inr most ↦
          elim (cases_lt k j) [
            | inl less ↦ absurd (p.first k less q.here)
            | inr least ↦ omega (arith, most, least)
          ]
    ]

-- there is one fault
pub fault_unique : (w : List TokenKind) (a b : ParseFault) → IsFault w a → IsFault w b → a ≡ b
fault_unique w (Syntax j) (Syntax k) p q = ap Syntax (syntax_unique w j k p.0 q.0)
fault_unique w (Syntax k) (TooDeep d) p q = absurd (p.1 d (q.1 k p.0) q.0.here)
fault_unique w (TooDeep d) (Syntax k) p q = absurd (q.1 d (p.1 k q.0) p.0.here)
fault_unique w (TooDeep j) (TooDeep k) p q = ap TooDeep (depth_unique w j k p.0 q.0)
fault_unique w Memory b p q = absurd p
fault_unique w (Syntax j) Memory p q = absurd q
fault_unique w (TooDeep j) Memory p q = absurd q

no_fault : (w : List TokenKind) (s : Script) (e : ParseFault) → spelling s ≡ w → IsShallow w → IsFault w e → ⊥
no_fault w s (Syntax k) is shallow p = p.0.no_script s is
no_fault w s (TooDeep d) is shallow p = shallow d p.0.within p.0.here
no_fault w s Memory is shallow p = p

by_memory : (e : ParseFault) → ((e ≢ Memory) → ⊥) → e ≡ Memory
by_memory (Syntax k) h = absurd (h (λ same. cc))
by_memory (TooDeep d) h = absurd (h (λ same. cc))
by_memory Memory h = refl

-- a script that is spelled, placed and shallow is answered, unless memory is wanted
pub only : ((a b : Script) → IsPlaced 0 a → IsPlaced 0 b → spelling a ≡ spelling b → a ≡ b) → (w : List TokenKind) (r : Result program.Script ParseFault)
    → IfOk r (λ t. spelling (view_script t) ≡ w) → IfOk r (λ t. IsPlaced 0 (view_script t)) → IfErr r (λ e. e ≢ Memory → IsFault w e)
    → (s : Script) → spelling s ≡ w → IsPlaced 0 s → IsShallow w → IsOkUnless r Memory × IfOk r (λ t. view_script t ≡ s)
only one w (Ok t) spelled placed fault s is at shallow = (tt, one (view_script t) s placed at (spelled ∙ sym is))
only one w (Err e) spelled placed fault s is at shallow = (by_memory e (λ some. no_fault w s e is shallow (fault some)), tt)

-- and so is a fault
pub only_fault : (w : List TokenKind) (r : Result program.Script ParseFault)
    → IfOk r (λ t. spelling (view_script t) ≡ w) → IfOk r (λ t. IsShallow w) → IfErr r (λ e. e ≢ Memory → IsFault w e)
    → (e : ParseFault) → IsFault w e → (r ≡ Err e) ⊎ (r ≡ Err Memory)
only_fault w (Ok t) spelled shallow fault e is = absurd (no_fault w (view_script t) e spelled shallow is)
only_fault w (Err (Syntax k)) spelled shallow fault e is = inl (ap Err (fault_unique w (Syntax k) e (fault (λ same. cc)) is))
only_fault w (Err (TooDeep d)) spelled shallow fault e is = inl (ap Err (fault_unique w (TooDeep d) e (fault (λ same. cc)) is))
only_fault w (Err Memory) spelled shallow fault e is = inr refl
