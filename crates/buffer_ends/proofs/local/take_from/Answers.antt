use Rattle.std.proofs.Common.{sym, subst, refl}
use Rattle.frame_core.specs.Calls.Call.{Took}
use Rattle.buffer_ends.specs.Local.{LocalBuffer, held, Step}
use Rattle.buffer_ends.proofs.Steps.{read, ok_map}
use Rattle.buffer_ends.proofs.local.take_from.Goals as goal

pub returns-clause-ok : goal.returns-clause-ok
returns-clause-ok c =
    ok_map c.take.result
    (λ o h. (c.take.new.self, refl, λ d. subst (λ (q : LocalBuffer). Step (held q) (Took c.args.buffer o) (held c.take.new.self)) (sym (read _ _ _ d c.index_mut.ensures.value c.requires)) (h c.args.buffer)))
    c.take.ensures.step
