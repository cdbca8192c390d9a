-- Each predicate is read from its spelling.
use Rattle.std.proofs.Common.{◌≡◌, ℕ, zero, suc, ◌<◌, List, [], ◌∷◌, ◌++◌, length, false, Ok, refl, arith}
use Rattle.script_lex.specs.declared.token.TokenKind.{TokenKind}
use Rattle.script_lex.specs.declared.token.TokenKind.TheVariants.{Keyword, Symbol}
use Rattle.script_lex.specs.declared.token.Keyword.TheVariants as word
use Rattle.script_lex.specs.declared.token.Symbol.TheVariants as sign
use Rattle.fixed_text.specs.declared.time_mark.TimeMark.{TimeMark}
use Rattle.script_grammar.specs.Tree.{Tree, APOr, APAnd, APNot, APAtom, POr, PAnd, PNot, TrueAtom, FalseAtom, Mark, IntervalAtom, Grouped}
use Rattle.script_grammar.specs.Spelling.{spell, token_if}
use Rattle.script_grammar.specs.Bare.{bare}
use Rattle.script_grammar.specs.Read.{Reader, both, next, expect, perhaps}
use Rattle.script_grammar.specs.Kinds.{is_or, is_and, is_not, is_minus, is_close_round}
use Rattle.script_grammar.specs.ReadPredicate.{interval, patom, pnot, pand, por_step, por_by, por}
use Rattle.script_grammar.proofs.Rules.{Reads, Anything, same, lift, pair_sp, pair_pl, both_reads, expect_reads, perhaps_reads, chain_reads}
use Rattle.script_grammar.proofs.Firsts.{strength, stop_or, stop_and, stop_minus}

-- nothing that stands behind belongs to a predicate of this level
abbrev pub Below : ℕ → List TokenKind → Type 0
Below level u = strength u < level

mark_again : (a : TimeMark) (u : List TokenKind) → next is_minus u ≡ false → interval a u ≡ Ok (Mark a, u)
unfolding interval
mark_again a [] e = refl
mark_again a (Symbol sign.Minus ∷ u) e = absurd cc
mark_again a (k ∷ u) e = refl

atom_no_not : (t : Tree APAtom) (u : List TokenKind) → next is_not (spell t ++ u) ≡ false
atom_no_not TrueAtom u = refl
atom_no_not FalseAtom u = refl
atom_no_not (Mark a) u = refl
atom_no_not (IntervalAtom a b) u = refl
atom_no_not (Grouped p) u = refl

module _ (por : Reader (Tree APOr)) (n : ℕ) (lp : Reads por spell bare (Below 1) n) where
  grouped_reads : Reads (both por (expect is_close_round)) (pair_sp spell (λ (x : Unit {0}). Symbol sign.CloseRound ∷ [])) (pair_pl bare same) Anything n
  grouped_reads = both_reads lp (expect_reads is_close_round (Symbol sign.CloseRound) refl) (λ b u e. omega arith)

  patom_again : (t : Tree APAtom) (u : List TokenKind) → Below 4 u → length (spell t ++ u) < suc n → patom por (spell t ++ u) ≡ Ok (bare t, u)
  unfolding patom interval
  patom_again TrueAtom u e short = refl
  patom_again FalseAtom u e short = refl
  patom_again (Mark a) u e short = mark_again a u (stop_minus u e)
  patom_again (IntervalAtom a b) u e short = refl
  patom_again (Grouped p) u e short = lift (grouped_reads.again (p, tt) u tt (omega arith)) (λ x. Grouped x.0)

  patom_reads : Reads (patom por) spell bare (Below 4) (suc n)
  patom_reads = record { again = patom_again }

  negated_reads : Reads (both (perhaps is_not) (patom por)) (pair_sp (token_if (Keyword word.Not)) spell) (pair_pl same bare) (Below 4) (suc n)
  negated_reads = both_reads (perhaps_reads is_not (Keyword word.Not) refl) patom_reads (λ t u e. atom_no_not t u)

  pnot_again : (t : Tree APNot) (u : List TokenKind) → Below 3 u → length (spell t ++ u) < suc n → pnot por (spell t ++ u) ≡ Ok (bare t, u)
  unfolding pnot
  pnot_again (PNot negated atom) u e short = lift (negated_reads.again (negated, atom) u (omega arith) short) (λ x. PNot x.0 x.1)

  pnot_reads : Reads (pnot por) spell bare (Below 3) (suc n)
  pnot_reads = record { again = pnot_again }

  pand_again : (t : Tree APAnd) (u : List TokenKind) → Below 2 u → length (spell t ++ u) < suc n → pand por (spell t ++ u) ≡ Ok (bare t, u)
  unfolding pand
  pand_again (PAnd first rest) u e short = lift ((chain_reads is_and (Keyword word.And) refl (pnot por) (Below 3) (suc n) pnot_reads (λ u. omega arith)).again (first, rest) u (omega arith, stop_and u e) short) (λ x. PAnd x.0 x.1)

  pand_reads : Reads (pand por) spell bare (Below 2) (suc n)
  pand_reads = record { again = pand_again }

  step_again : (t : Tree APOr) (u : List TokenKind) → Below 1 u → length (spell t ++ u) < suc n → por_step por (spell t ++ u) ≡ Ok (bare t, u)
  unfolding por_step
  step_again (POr first rest) u e short = lift ((chain_reads is_or (Keyword word.Or) refl (pand por) (Below 2) (suc n) pand_reads (λ u. omega arith)).again (first, rest) u (omega arith, stop_or u e) short) (λ x. POr x.0 x.1)

  por_step_reads : Reads (por_step por) spell bare (Below 1) (suc n)
  por_step_reads = record { again = step_again }

-- every depth
por_by_reads : (n : ℕ) → Reads (por_by n) spell bare (Below 1) n
unfolding por_by
por_by_reads zero = record { again = λ t u e short. absurd (omega arith) }
por_by_reads (suc n) = record { again = λ t u e short. (por_step_reads (por_by n) n (por_by_reads n)).again t u e short }

pub por_reads : (n : ℕ) → Reads por spell bare (Below 1) n
unfolding por
por_reads n = record { again = λ t u e short. (por_by_reads (suc (length (spell t ++ u)))).again t u e (omega arith) }
