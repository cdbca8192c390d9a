-- A predicate that is read has the tokens read for its spelling, and a fault stands where a spelling has begun.
use Rattle.std.proofs.Common.{◌≡◌, ℕ, zero, suc, List, [], ◌∷◌, length, true, false, refl}
use Rattle.script_lex.specs.declared.token.TokenKind.{TokenKind}
use Rattle.script_lex.specs.declared.token.TokenKind.TheVariants.{Time, Keyword, Symbol}
use Rattle.script_lex.specs.declared.token.Keyword.TheVariants as word
use Rattle.script_lex.specs.declared.token.Symbol.TheVariants as sign
use Rattle.fixed_text.specs.declared.time_mark.TimeMark.{TimeMark}
use Rattle.script_grammar.specs.Tree.{Tree, none, APOr, APAnd, APNot, POr, PAnd, PNot, TrueAtom, FalseAtom, Mark, IntervalAtom, Grouped}
use Rattle.script_grammar.specs.Spelling.{spell}
use Rattle.script_grammar.specs.Placed.{IsPlaced}
use Rattle.script_grammar.specs.Read.{Reader}
use Rattle.script_grammar.specs.Kinds.{is_or, is_and, is_not, is_close_round}
use Rattle.script_grammar.specs.ReadPredicate.{interval, patom, pnot, pand, por_step, por_by, por}
use Rattle.script_grammar.proofs.SoundRules.{Outcome, found, Sound, stop, refused, behind_front, made_of, both_sound, expect_sound, perhaps_sound, chain_sound}

pub only_or : (k : TokenKind) → is_or k ≡ true → k ≡ Keyword word.Or
only_or (Keyword word.Or) e = refl
only_or k e = absurd cc

pub only_and : (k : TokenKind) → is_and k ≡ true → k ≡ Keyword word.And
only_and (Keyword word.And) e = refl
only_and k e = absurd cc

pub only_not : (k : TokenKind) → is_not k ≡ true → k ≡ Keyword word.Not
only_not (Keyword word.Not) e = refl
only_not k e = absurd cc

pub only_close_round : (k : TokenKind) → is_close_round k ≡ true → k ≡ Symbol sign.CloseRound
only_close_round (Symbol sign.CloseRound) e = refl
only_close_round k e = absurd cc

-- one predicate of each level
some_pnot : Tree APNot
some_pnot = PNot false TrueAtom

some_pand : Tree APAnd
some_pand = PAnd some_pnot none

pub some_por : Tree APOr
some_por = POr some_pand none

module _ {stamp : ℕ → ℕ} {total : ℕ} where
  interval_out : (a : TimeMark) (r : List TokenKind) → Outcome stamp total spell IsPlaced (Time a ∷ r) (interval a r)
  unfolding interval
  interval_out a (Symbol sign.Minus ∷ Time b ∷ r) = found (IntervalAtom a b) r refl (λ i h. tt)
  interval_out a (Symbol sign.Minus ∷ r) = stop (Time a ∷ Symbol sign.Minus ∷ []) r (IntervalAtom a a) (Time a ∷ []) refl refl
  interval_out a w = found (Mark a) w refl (λ i h. tt)

  module _ {por : Reader (Tree APOr)} (lp : Sound stamp total por spell IsPlaced) where
    patom_out : (w : List TokenKind) → Outcome stamp total spell IsPlaced w (patom por w)
    unfolding patom
    patom_out (Keyword word.True ∷ r) = found TrueAtom r refl (λ i h. tt)
    patom_out (Keyword word.False ∷ r) = found FalseAtom r refl (λ i h. tt)
    patom_out (Time a ∷ r) = interval_out a r
    patom_out (Symbol sign.OpenRound ∷ r) = behind_front (λ x. Grouped x.0) (Symbol sign.OpenRound ∷ []) refl (λ x. refl) (λ i x h p. tt) ((both_sound tt lp (expect_sound is_close_round (Symbol sign.CloseRound) only_close_round)).outcome r)
    patom_out w = refused w TrueAtom

    patom_sound : Sound stamp total (patom por) spell IsPlaced
    patom_sound = record { outcome = patom_out }

    pnot_sound : Sound stamp total (pnot por) spell IsPlaced
    unfolding pnot
    pnot_sound = record { outcome = λ w. made_of (λ x. PNot x.0 x.1) (λ x. refl) (λ i x h p. tt) ((both_sound TrueAtom (perhaps_sound is_not (Keyword word.Not) only_not) patom_sound).outcome w) }

    pand_sound : Sound stamp total (pand por) spell IsPlaced
    unfolding pand
    pand_sound = record { outcome = λ w. made_of (λ x. PAnd x.0 x.1) (λ x. refl) (λ i x h p. tt) ((chain_sound is_and (Keyword word.And) only_and some_pnot pnot_sound).outcome w) }

    por_step_sound : Sound stamp total (por_step por) spell IsPlaced
    unfolding por_step
    por_step_sound = record { outcome = λ w. made_of (λ x. POr x.0 x.1) (λ x. refl) (λ i x h p. tt) ((chain_sound is_or (Keyword word.Or) only_or some_pand pand_sound).outcome w) }

  -- every depth
  por_by_sound : (n : ℕ) → Sound stamp total (por_by n) spell IsPlaced
  unfolding por_by
  por_by_sound zero = record { outcome = λ w. refused w some_por }
  por_by_sound (suc n) = record { outcome = λ w. (por_step_sound (por_by_sound n)).outcome w }

  pub por_sound : Sound stamp total por spell IsPlaced
  unfolding por
  por_sound = record { outcome = λ w. (por_by_sound (suc (length w))).outcome w }
