use Rattle.std.proofs.Common.{◌≡◌, ◌++◌, map, take}
use Rattle.script_grammar.specs.Pieces.{each}
use Rattle.script_grammar.specs.View.{view_stmt}
use Rattle.script_grammar.proofs.script_tokens.put_stmts.Given as goal

abbrev pub invariant-loop-stmt : goal.invariant-loop-stmt
invariant-loop-stmt l = l.out.items ≡ l.fn.out.items ++ each (map view_stmt (take l.stmt-index l.stmts))
