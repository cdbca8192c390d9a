use Rattle.std.proofs.Common.{◌≡◌, ◌++◌, map, take}
use Rattle.script_grammar.specs.View.{listed, view_inner}
use Rattle.typing_rules.specs.Scoping.{inner_names, with_inners}
use Rattle.name_scope.specs.Noted.{noted, with_names}
use Rattle.name_scope.specs.Seen.{in_scope}
use Rattle.name_scope.proofs.statements.note_inners.Given as goal

abbrev pub invariant-loop-one : goal.invariant-loop-one
invariant-loop-one l =
    (noted l.notes ≡ with_names (noted l.fn.notes) (inner_names (in_scope l.fn.inner ++ in_scope l.outer) (listed (map view_inner (take l.one-index l.inners)))))
    × (in_scope l.inner ++ in_scope l.outer ≡ with_inners (listed (map view_inner (take l.one-index l.inners))) (in_scope l.fn.inner ++ in_scope l.outer))
