-- An `if`, by its word.
use Rattle.std.proofs.Common.{◌≡◌, ℕ, List, [], ◌∷◌, length, Ok, refl, sym, ap, ◌∙◌}
use Rattle.script_lex.specs.declared.token.TokenKind.{TokenKind}
use Rattle.script_lex.specs.declared.token.TokenKind.TheVariants.{Keyword}
use Rattle.script_lex.specs.declared.token.Keyword.TheVariants as word
use Rattle.script_grammar.specs.Tree.{Tree, AFull}
use Rattle.script_grammar.specs.Read.{Reader, Read, ◌>>=◌, expect}
use Rattle.script_grammar.specs.ReadValue.{choice}
use Rattle.parse_base.specs.declared.fault.Fault.{Fault}
use Rattle.parse_base.specs.declared.fault.Fault.TheVariants as faults
use Rattle.parse_base.specs.Gives.{Fails}
use Rattle.parse_base.specs.Classes.{is_if}
use Rattle.value_parse.specs.Operand.{chosen}

by_word : (stamp : ℕ → ℕ) (full : Reader (Tree AFull)) (w : List TokenKind) → choice stamp full w ≡ (expect is_if w >>= λ x. chosen (stamp (length w)) full x.1)
unfolding choice
by_word stamp full [] = refl
by_word stamp full (Keyword word.If ∷ r) = refl
by_word stamp full (k ∷ r) = refl

pub choice_goes : (stamp : ℕ → ℕ) (full : Reader (Tree AFull)) (w : List TokenKind) (at : ℕ) (r : List TokenKind) → at ≡ stamp (length w) → expect is_if w ≡ Ok (tt, r) → choice stamp full w ≡ chosen at full r
choice_goes stamp full w at r is found =
    by_word stamp full w
    ∙ ap (λ (x : Read (Unit {0})). x >>= λ y. chosen (stamp (length w)) full y.1) found
    ∙ ap (λ (k : ℕ). chosen k full r) (sym is)

pub choice_fails : (stamp : ℕ → ℕ) (full : Reader (Tree AFull)) (w : List TokenKind) (e : Fault) → Fails e (expect is_if w) → Fails e (choice stamp full w)
choice_fails stamp full w faults.Memory is = tt
choice_fails stamp full w (faults.Syntax k) is = by_word stamp full w ∙ ap (λ (x : Read (Unit {0})). x >>= λ y. chosen (stamp (length w)) full y.1) is
