-- How a predicate is read. A reader of POr stands for the recursion.
use Rattle.std.specs.Prelude.{ℕ, zero, suc, ◌∷◌, length, Ok, Err}
use Rattle.script_lex.specs.declared.token.TokenKind.TheVariants.{Time, Keyword, Symbol}
use Rattle.script_lex.specs.declared.token.Keyword.TheVariants as word
use Rattle.script_lex.specs.declared.token.Symbol.TheVariants as sign
use Rattle.fixed_text.specs.declared.time_mark.TimeMark.{TimeMark}
use Rattle.script_grammar.specs.Tree.{Tree, APOr, APAnd, APNot, APAtom, POr, PAnd, PNot, TrueAtom, FalseAtom, Mark, IntervalAtom, Grouped}
use Rattle.script_grammar.specs.Read.{Reader, ◌>>=◌, made, both, expect, perhaps, chain}
use Rattle.script_grammar.specs.Kinds.{is_or, is_and, is_not, is_close_round}

-- a time mark that was read, or the interval from it to one behind "-"
unfoldable pub interval : TimeMark → Reader (Tree APAtom)
interval a (Symbol sign.Minus ∷ Time b ∷ r) = Ok (IntervalAtom a b, r)
interval a (Symbol sign.Minus ∷ r) = Err (length r)
interval a w = Ok (Mark a, w)

-- an atom of a predicate; `por` reads a predicate in parentheses
unfoldable pub patom : Reader (Tree APOr) → Reader (Tree APAtom)
patom por (Keyword word.True ∷ r) = Ok (TrueAtom, r)
patom por (Keyword word.False ∷ r) = Ok (FalseAtom, r)
patom por (Time a ∷ r) = interval a r
patom por (Symbol sign.OpenRound ∷ r) = both por (expect is_close_round) r >>= made (λ x. Grouped x.0)
patom por w = Err (length w)

-- an atom, perhaps behind `not`
unfoldable pub pnot : Reader (Tree APOr) → Reader (Tree APNot)
pnot por w = both (perhaps is_not) (patom por) w >>= made (λ x. PNot x.0 x.1)

-- parts with `and` between
unfoldable pub pand : Reader (Tree APOr) → Reader (Tree APAnd)
pand por w = chain is_and (pnot por) w >>= made (λ x. PAnd x.0 x.1)

-- parts with `or` between; `por` reads a predicate in parentheses
unfoldable pub por_step : Reader (Tree APOr) → Reader (Tree APOr)
por_step por w = chain is_or (pand por) w >>= made (λ x. POr x.0 x.1)

-- a predicate in which fewer than n others nest, one in the other
unfoldable pub por_by : ℕ → Reader (Tree APOr)
por_by zero w = Err (length w)
por_by (suc n) w = por_step (por_by n) w

-- a predicate, in which others nest as deep as they like
unfoldable pub por : Reader (Tree APOr)
por w = por_by (suc (length w)) w
