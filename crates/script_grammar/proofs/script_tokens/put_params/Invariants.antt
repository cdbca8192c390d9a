use Rattle.std.proofs.Common.{◌≡◌, ◌++◌, map, take}
use Rattle.script_lex.specs.declared.token.TokenKind.TheVariants.{Symbol}
use Rattle.script_lex.specs.declared.token.Symbol.TheVariants as sign
use Rattle.script_grammar.specs.Pieces.{each_behind}
use Rattle.script_grammar.specs.View.{view_param}
use Rattle.script_grammar.proofs.script_tokens.put_params.Given as goal

abbrev pub invariant-others : goal.invariant-others
invariant-others l = l.out.items ≡ l.initial.out.items ++ each_behind (Symbol sign.Comma) (map view_param (take l.param-index l.rest))
