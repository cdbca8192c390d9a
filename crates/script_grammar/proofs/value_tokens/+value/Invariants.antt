use Rattle.std.proofs.Common.{◌≡◌, ◌++◌, map, take}
use Rattle.script_lex.specs.declared.token.TokenKind.TheVariants.{Keyword, Symbol}
use Rattle.script_lex.specs.declared.token.Keyword.TheVariants as word
use Rattle.script_lex.specs.declared.token.Symbol.TheVariants as sign
use Rattle.script_grammar.specs.Pieces.{each, each_behind}
use Rattle.script_grammar.specs.View.{view_and, view_not, view_added, view_multiplied, view_full, view_arg}
use Rattle.script_grammar.proofs.value_tokens.+value.Given as goal

abbrev pub invariant-put_ands-loop-and : goal.invariant-put_ands-loop-and
invariant-put_ands-loop-and l = l.out.items ≡ l.fn.out.items ++ each_behind (Keyword word.Or) (map view_and (take l.and-index l.ands))

abbrev pub invariant-put_nots-loop-not : goal.invariant-put_nots-loop-not
invariant-put_nots-loop-not l = l.out.items ≡ l.fn.out.items ++ each_behind (Keyword word.And) (map view_not (take l.not-index l.nots))

abbrev pub invariant-put_addends-loop-added : goal.invariant-put_addends-loop-added
invariant-put_addends-loop-added l = l.out.items ≡ l.fn.out.items ++ each (map view_added (take l.added-index l.addends))

abbrev pub invariant-put_factors-loop-multiplied : goal.invariant-put_factors-loop-multiplied
invariant-put_factors-loop-multiplied l = l.out.items ≡ l.fn.out.items ++ each (map view_multiplied (take l.multiplied-index l.factors))

abbrev pub invariant-put_fulls-others : goal.invariant-put_fulls-others
invariant-put_fulls-others l = l.out.items ≡ l.initial.out.items ++ each_behind (Symbol sign.Comma) (map view_full (take l.part-index l.rest))

abbrev pub invariant-put_args-others : goal.invariant-put_args-others
invariant-put_args-others l = l.out.items ≡ l.initial.out.items ++ each_behind (Symbol sign.Comma) (map view_arg (take l.arg-index l.rest))
