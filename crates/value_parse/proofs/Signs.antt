-- A part of a sum or of a product, by its operator.
use Rattle.std.proofs.Common.{◌≡◌, ℕ, List, [], ◌∷◌, length, Bool, Ok, refl, sym, ap, ◌∙◌}
use Rattle.script_lex.specs.declared.token.TokenKind.{TokenKind}
use Rattle.script_lex.specs.declared.token.TokenKind.TheVariants.{Symbol}
use Rattle.script_lex.specs.declared.token.Symbol.TheVariants as sign
use Rattle.script_grammar.specs.Tree.{Tree, AFull, AProduct, AnOperand, Added, Multiplied}
use Rattle.script_grammar.specs.Read.{Reader, Read, ◌>>=◌, made}
use Rattle.script_grammar.specs.ReadValue.{product, added, operand, multiplied}
use Rattle.parse_base.specs.declared.fault.Fault.{Fault}
use Rattle.parse_base.specs.declared.fault.Fault.TheVariants as faults
use Rattle.parse_base.specs.Gives.{Fails}
use Rattle.value_parse.specs.Operand.{sum_sign, product_sign}

added_by_sign : (loose : Bool) (stamp : ℕ → ℕ) (full : Reader (Tree AFull)) (w : List TokenKind) → added loose stamp full w ≡ (sum_sign w >>= λ x. product loose stamp full x.1 >>= made (Added (stamp (length w)) x.0))
unfolding added
added_by_sign loose stamp full [] = refl
added_by_sign loose stamp full (Symbol sign.Plus ∷ r) = refl
added_by_sign loose stamp full (Symbol sign.Minus ∷ r) = refl
added_by_sign loose stamp full (k ∷ r) = refl

multiplied_by_sign : (loose : Bool) (stamp : ℕ → ℕ) (full : Reader (Tree AFull)) (w : List TokenKind) → multiplied loose stamp full w ≡ (product_sign w >>= λ x. operand loose stamp full x.1 >>= made (Multiplied (stamp (length w)) x.0))
unfolding multiplied
multiplied_by_sign loose stamp full [] = refl
multiplied_by_sign loose stamp full (Symbol sign.Star ∷ r) = refl
multiplied_by_sign loose stamp full (Symbol sign.Slash ∷ r) = refl
multiplied_by_sign loose stamp full (k ∷ r) = refl

-- the sign fails, the part behind it fails, and none does
pub added_fails : (loose : Bool) (stamp : ℕ → ℕ) (full : Reader (Tree AFull)) (w : List TokenKind) (e : Fault) → Fails e (sum_sign w) → Fails e (added loose stamp full w)
added_fails loose stamp full w faults.Memory is = tt
added_fails loose stamp full w (faults.Syntax k) is = added_by_sign loose stamp full w ∙ ap (λ (s : Read Bool). s >>= λ x. product loose stamp full x.1 >>= made (Added (stamp (length w)) x.0)) is

pub added_part_fails : (loose : Bool) (stamp : ℕ → ℕ) (full : Reader (Tree AFull)) (w : List TokenKind) (e : Fault) (minus : Bool) (r : List TokenKind) → sum_sign w ≡ Ok (minus, r) → Fails e (product loose stamp full r) → Fails e (added loose stamp full w)
added_part_fails loose stamp full w faults.Memory minus r found is = tt
added_part_fails loose stamp full w (faults.Syntax k) minus r found is =
    added_by_sign loose stamp full w
    ∙ ap (λ (s : Read Bool). s >>= λ x. product loose stamp full x.1 >>= made (Added (stamp (length w)) x.0)) found
    ∙ ap (λ (p : Read (Tree AProduct)). p >>= made (Added (stamp (length w)) minus)) is

pub added_goes : (loose : Bool) (stamp : ℕ → ℕ) (full : Reader (Tree AFull)) (w : List TokenKind) (at : ℕ) (minus : Bool) (r r' : List TokenKind) (p : Tree AProduct) → at ≡ stamp (length w) → sum_sign w ≡ Ok (minus, r) → product loose stamp full r ≡ Ok (p, r') → added loose stamp full w ≡ Ok (Added at minus p, r')
added_goes loose stamp full w at minus r r' p place found is =
    added_by_sign loose stamp full w
    ∙ ap (λ (s : Read Bool). s >>= λ x. product loose stamp full x.1 >>= made (Added (stamp (length w)) x.0)) found
    ∙ ap (λ (p : Read (Tree AProduct)). p >>= made (Added (stamp (length w)) minus)) is
    ∙ ap (λ (k : ℕ). Ok (Added k minus p, r')) (sym place)

pub multiplied_fails : (loose : Bool) (stamp : ℕ → ℕ) (full : Reader (Tree AFull)) (w : List TokenKind) (e : Fault) → Fails e (product_sign w) → Fails e (multiplied loose stamp full w)
multiplied_fails loose stamp full w faults.Memory is = tt
multiplied_fails loose stamp full w (faults.Syntax k) is = multiplied_by_sign loose stamp full w ∙ ap (λ (s : Read Bool). s >>= λ x. operand loose stamp full x.1 >>= made (Multiplied (stamp (length w)) x.0)) is

pub multiplied_part_fails : (loose : Bool) (stamp : ℕ → ℕ) (full : Reader (Tree AFull)) (w : List TokenKind) (e : Fault) (divide : Bool) (r : List TokenKind) → product_sign w ≡ Ok (divide, r) → Fails e (operand loose stamp full r) → Fails e (multiplied loose stamp full w)
multiplied_part_fails loose stamp full w faults.Memory divide r found is = tt
multiplied_part_fails loose stamp full w (faults.Syntax k) divide r found is =
    multiplied_by_sign loose stamp full w
    ∙ ap (λ (s : Read Bool). s >>= λ x. operand loose stamp full x.1 >>= made (Multiplied (stamp (length w)) x.0)) found
    ∙ ap (λ (p : Read (Tree AnOperand)). p >>= made (Multiplied (stamp (length w)) divide)) is

pub multiplied_goes : (loose : Bool) (stamp : ℕ → ℕ) (full : Reader (Tree AFull)) (w : List TokenKind) (at : ℕ) (divide : Bool) (r r' : List TokenKind) (p : Tree AnOperand) → at ≡ stamp (length w) → product_sign w ≡ Ok (divide, r) → operand loose stamp full r ≡ Ok (p, r') → multiplied loose stamp full w ≡ Ok (Multiplied at divide p, r')
multiplied_goes loose stamp full w at divide r r' p place found is =
    multiplied_by_sign loose stamp full w
    ∙ ap (λ (s : Read Bool). s >>= λ x. operand loose stamp full x.1 >>= made (Multiplied (stamp (length w)) x.0)) found
    ∙ ap (λ (p : Read (Tree AnOperand)). p >>= made (Multiplied (stamp (length w)) divide)) is
    ∙ ap (λ (k : ℕ). Ok (Multiplied k divide p, r')) (sym place)
