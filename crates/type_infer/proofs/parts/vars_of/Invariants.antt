use Rattle.std.proofs.Common.{◌≡◌, map, take}
use Rattle.type_infer.proofs.parts.vars_of.Given as goal

abbrev pub invariant-loop-binding : goal.invariant-loop-binding
invariant-loop-binding l = l.vars.items ≡ map (λ b. b.var) (take l.binding-index l.bindings)
