use Rattle.std.proofs.Common.{◌≡◌, ◌++◌, map, take}
use Rattle.script_lex.specs.declared.token.TokenKind.TheVariants.{Keyword}
use Rattle.script_lex.specs.declared.token.Keyword.TheVariants as word
use Rattle.script_grammar.specs.Pieces.{each_behind}
use Rattle.script_grammar.specs.View.{view_pand, view_pnot}
use Rattle.script_grammar.proofs.predicate_tokens.+predicate.Given as goal

abbrev pub invariant-put_por_parts-others : goal.invariant-put_por_parts-others
invariant-put_por_parts-others l = l.out.items ≡ l.initial.out.items ++ each_behind (Keyword word.Or) (map view_pand (take l.part-index l.rest))

abbrev pub invariant-put_pand_parts-others : goal.invariant-put_pand_parts-others
invariant-put_pand_parts-others l = l.out.items ≡ l.initial.out.items ++ each_behind (Keyword word.And) (map view_pnot (take l.part-index l.rest))
