-- The spellings of lists of trees, as the program writes them.
use Rattle.std.specs.Prelude.{List, [], ◌∷◌, ◌++◌}
use Rattle.std.specs.List.{flat_map}
use Rattle.script_lex.specs.declared.token.TokenKind.{TokenKind}
use Rattle.script_lex.specs.declared.token.TokenKind.TheVariants.{Keyword, Symbol}
use Rattle.script_lex.specs.declared.token.Keyword.TheVariants as word
use Rattle.script_lex.specs.declared.token.Symbol.{Symbol as Sign}
use Rattle.script_lex.specs.declared.token.Symbol.TheVariants as sign
use Rattle.script_grammar.specs.Tree.{Sort, Tree, APAnd, APNot}
use Rattle.script_grammar.specs.Spelling.{spell}

-- the tokens that spell these trees, one after another
abbrev pub each : {s : Sort} → List (Tree s) → List TokenKind
each ts = flat_map spell ts

-- the spellings of these trees, each behind the token k, as `or` or a comma
abbrev pub each_behind : {s : Sort} → TokenKind → List (Tree s) → List TokenKind
each_behind k ts = flat_map (λ t. k ∷ spell t) ts

-- the tokens that spell these trees, with commas between
abbrev pub between_commas : {s : Sort} → List (Tree s) → List TokenKind
between_commas [] = []
between_commas (t ∷ ts) = spell t ++ each_behind (Symbol sign.Comma) ts

-- the tokens that spell these trees with commas between, in the brackets `first` and `last`
abbrev pub in_brackets : {s : Sort} → Sign → List (Tree s) → Sign → List TokenKind
in_brackets first ts last = Symbol first ∷ (between_commas ts ++ (Symbol last ∷ []))

-- the spellings of parts, with `or` between; no part at all is spelled `false`, which it means
abbrev pub por_parts : List (Tree APAnd) → List TokenKind
por_parts [] = Keyword word.False ∷ []
por_parts (t ∷ ts) = spell t ++ each_behind (Keyword word.Or) ts

-- the spellings of parts, with `and` between; no part at all is spelled `true`, which it means
abbrev pub pand_parts : List (Tree APNot) → List TokenKind
pand_parts [] = Keyword word.True ∷ []
pand_parts (t ∷ ts) = spell t ++ each_behind (Keyword word.And) ts
