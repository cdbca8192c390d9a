-- Predicates are read alike as far as the tokens are shared.
use Rattle.std.proofs.Common.{◌≡◌, ℕ, zero, suc, ◌∷◌, Bool, true, false, refl, arith}
use Rattle.script_lex.specs.declared.token.TokenKind.{TokenKind}
use Rattle.script_lex.specs.declared.token.TokenKind.TheVariants.{Time, Keyword, Symbol}
use Rattle.script_lex.specs.declared.token.Keyword.TheVariants as word
use Rattle.script_lex.specs.declared.token.Symbol.TheVariants as sign
use Rattle.fixed_text.specs.declared.time_mark.TimeMark.{TimeMark}
use Rattle.script_grammar.specs.Tree.{Tree, Many, APOr, APAnd, APNot, APAtom, POr, PAnd, PNot, TrueAtom, FalseAtom, Mark, IntervalAtom, Grouped}
use Rattle.script_grammar.specs.Bare.{bare}
use Rattle.script_grammar.specs.Read.{Reader}
use Rattle.script_grammar.specs.Kinds.{is_or, is_and, is_not, is_close_round}
use Rattle.script_grammar.specs.ReadPredicate.{interval, patom, pnot, pand, por_step, por_by, por}
use Rattle.script_grammar.proofs.SteadyRules.{Steady, quiet, cut, at_length, given, made_at, both_near, fails, gives, Arm, fault, idle, reads, by_first}
use Rattle.script_grammar.proofs.SteadyLists.{expect_steady, perhaps_steady, chain_steady}

pub loud_or : (k : TokenKind) → is_or k ≡ true → quiet k ≡ true
loud_or (Keyword k) e = refl
loud_or k e = absurd cc

pub loud_and : (k : TokenKind) → is_and k ≡ true → quiet k ≡ true
loud_and (Keyword k) e = refl
loud_and k e = absurd cc

second_arm : (n n' : ℕ) (a : TimeMark) (k : TokenKind) → Arm bare false n n' (λ u. interval a (Symbol sign.Minus ∷ u)) (λ u. interval a (Symbol sign.Minus ∷ u)) k
unfolding interval
second_arm n n' a (Time b) = reads (given (λ l. IntervalAtom a b) (IntervalAtom a b) (λ l. refl))
second_arm n n' a k = fault (λ u. refl) (λ u. refl)

interval_arm : (n n' : ℕ) (a : TimeMark) (k : TokenKind) → Arm bare false (suc n) (suc n') (interval a) (interval a) k
unfolding interval
interval_arm n n' a (Symbol sign.Minus) = reads (by_first (fails refl refl) (second_arm n n' a))
interval_arm n n' a k = idle (λ l. Mark a) (Mark a) (λ u. refl) (λ u. refl) (λ l. refl)

interval_steady : (n n' : ℕ) (a : TimeMark) → Steady bare false n n' (interval a) (interval a)
unfolding interval
interval_steady n n' a = cut n n' (omega arith) (omega arith) (by_first (gives (Mark a) refl refl) (interval_arm n n' a))

module _ (por por' : Reader (Tree APOr)) (n n' : ℕ) (lp : Steady bare false n n' por por') where
  patom_arm : (k : TokenKind) → Arm bare false n n' (patom por) (patom por') k
  unfolding patom
  patom_arm (Keyword word.True) = reads (given (λ l. TrueAtom) TrueAtom (λ l. refl))
  patom_arm (Keyword word.False) = reads (given (λ l. FalseAtom) FalseAtom (λ l. refl))
  patom_arm (Time a) = reads (interval_steady n n' a)
  patom_arm (Symbol sign.OpenRound) = reads (made_at (λ l (x : Tree APOr × Unit {0}). Grouped x.0) (λ (x : Tree APOr × Unit {0}). Grouped x.0) (λ l x. refl) (both_near lp (expect_steady is_close_round)))
  patom_arm k = fault (λ u. refl) (λ u. refl)

  patom_steady : Steady bare false (suc n) (suc n') (patom por) (patom por')
  unfolding patom
  patom_steady = by_first (fails refl refl) patom_arm

  pnot_steady : Steady bare false (suc n) (suc n') (pnot por) (pnot por')
  unfolding pnot
  pnot_steady = made_at (λ l (x : Bool × Tree APAtom). PNot x.0 x.1) (λ (x : Bool × Tree APAtom). PNot x.0 x.1) (λ l x. refl) (both_near (perhaps_steady is_not) patom_steady)

  pand_steady : Steady bare false (suc n) (suc n') (pand por) (pand por')
  unfolding pand
  pand_steady = made_at (λ l (x : Tree APNot × Tree (Many APNot)). PAnd x.0 x.1) (λ (x : Tree APNot × Tree (Many APNot)). PAnd x.0 x.1) (λ l x. refl) (chain_steady is_and loud_and pnot_steady)

  step_steady : Steady bare false (suc n) (suc n') (por_step por) (por_step por')
  unfolding por_step
  step_steady = made_at (λ l (x : Tree APAnd × Tree (Many APAnd)). POr x.0 x.1) (λ (x : Tree APAnd × Tree (Many APAnd)). POr x.0 x.1) (λ l x. refl) (chain_steady is_or loud_or pand_steady)

-- every depth
by_steady : (n n' : ℕ) → Steady bare false n n' (por_by n) (por_by n')
unfolding por_by
by_steady zero n' = record { within = λ w. omega arith; kept = λ p v v' pk s s'. absurd (omega arith) }
by_steady (suc n) zero = record { within = (step_steady (por_by n) (por_by zero) n zero (by_steady n zero)).within; kept = λ p v v' pk s s'. absurd (omega arith) }
by_steady (suc n) (suc n') = record { within = (step_steady (por_by n) (por_by n') n n' (by_steady n n')).within; kept = (step_steady (por_by n) (por_by n') n n' (by_steady n n')).kept }

pub por_steady : {n n' : ℕ} → Steady bare false n n' por por
unfolding por
por_steady = at_length (λ m. por_by (suc m)) (λ m. por_by (suc m)) (λ m m'. by_steady (suc m) (suc m'))
