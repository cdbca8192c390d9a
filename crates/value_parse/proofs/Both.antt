-- Two readers, one after the other.
use Rattle.std.proofs.Common.{◌≡◌, ℕ, List, Ok, Err, ap, ◌∙◌}
use Rattle.script_lex.specs.declared.token.TokenKind.{TokenKind}
use Rattle.script_grammar.specs.Read.{Reader, Read, ◌>>=◌, both}

module _ {A B : Type 0} (f : Reader A) (g : Reader B) (w : List TokenKind) where
  pub both_goes : (r r' : List TokenKind) (a : A) (b : B) → f w ≡ Ok (a, r) → g r ≡ Ok (b, r') → both f g w ≡ Ok ((a, b), r')
  both_goes r r' a b first second =
      ap (λ (x : Read A). x >>= λ y. g y.1 >>= λ z. Ok ((y.0, z.0), z.1)) first
      ∙ ap (λ (x : Read B). x >>= λ z. Ok ((a, z.0), z.1)) second

  pub first_fails : (left : ℕ) → f w ≡ Err left → both f g w ≡ Err left
  first_fails left first = ap (λ (x : Read A). x >>= λ y. g y.1 >>= λ z. Ok ((y.0, z.0), z.1)) first

  pub second_fails : (r : List TokenKind) (a : A) (left : ℕ) → f w ≡ Ok (a, r) → g r ≡ Err left → both f g w ≡ Err left
  second_fails r a left first second =
      ap (λ (x : Read A). x >>= λ y. g y.1 >>= λ z. Ok ((y.0, z.0), z.1)) first
      ∙ ap (λ (x : Read B). x >>= λ z. Ok ((a, z.0), z.1)) second
