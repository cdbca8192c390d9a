use Rattle.std.proofs.Common.{◌≡◌, ◌++◌, map, take}
use Rattle.name_scope.specs.Noted.{resolved}
use Rattle.type_infer.proofs.front.add_all.Given as goal

abbrev pub invariant-loop-one : goal.invariant-loop-one
invariant-loop-one l = map resolved l.all.items ≡ map resolved l.fn.all.items ++ map resolved (take l.one-index l.more)
