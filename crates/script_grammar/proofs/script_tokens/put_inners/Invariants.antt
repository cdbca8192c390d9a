use Rattle.std.proofs.Common.{◌≡◌, ◌++◌, map, take}
use Rattle.script_grammar.specs.Pieces.{each}
use Rattle.script_grammar.specs.View.{view_inner}
use Rattle.script_grammar.proofs.script_tokens.put_inners.Given as goal

abbrev pub invariant-loop-inner : goal.invariant-loop-inner
invariant-loop-inner l = l.out.items ≡ l.fn.out.items ++ each (map view_inner (take l.inner-index l.inners))
