-- An argument, by its label.
use Rattle.std.proofs.Common.{◌≡◌, ℕ, List, ◌∷◌, length, Option, refl, sym, ap, ◌∙◌}
use Rattle.script_lex.specs.declared.token.TokenKind.{TokenKind}
use Rattle.script_lex.specs.declared.token.TokenKind.TheVariants.{Name, Symbol}
use Rattle.script_lex.specs.declared.token.Symbol.TheVariants as sign
use Rattle.script_grammar.specs.Tree.{Tree, AFull}
use Rattle.script_grammar.specs.Read.{Reader}
use Rattle.script_grammar.specs.ReadValue.{arg}
use Rattle.value_parse.specs.Operand.{label_of, labelled}

by_label : (stamp : ℕ → ℕ) (full : Reader (Tree AFull)) (w : List TokenKind) → arg stamp full w ≡ labelled (stamp (length w)) (label_of w).0 full (label_of w).1
unfolding arg
by_label stamp full (Name n ∷ Symbol sign.Assign ∷ r) = refl
by_label stamp full w = refl

pub arg_labelled : (stamp : ℕ → ℕ) (full : Reader (Tree AFull)) (w : List TokenKind) (at : ℕ) (label : Option (List ℕ)) (r : List TokenKind) → at ≡ stamp (length w) → label_of w ≡ (label, r) → arg stamp full w ≡ labelled at label full r
arg_labelled stamp full w at label r is parts =
    by_label stamp full w
    ∙ ap (λ (x : Option (List ℕ) × List TokenKind). labelled (stamp (length w)) x.0 full x.1) parts
    ∙ ap (λ (k : ℕ). labelled k label full r) (sym is)
