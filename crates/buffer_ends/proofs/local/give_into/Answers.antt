use Rattle.std.proofs.Common.{sym, subst, refl}
use Rattle.buffer_ends.specs.Local.{LocalBuffer, held, Step}
use Rattle.buffer_ends.proofs.Steps.{read, ok_map}
use Rattle.buffer_ends.proofs.local.give_into.Goals as goal

pub returns-clause-ok : goal.returns-clause-ok
returns-clause-ok c =
    ok_map c.give.result
    (λ g h. let s = h c.args.buffer in
    (c.give.new.self, refl, s.0, s.1, λ d. subst (λ (q : LocalBuffer). Step (held q) s.0 (held c.give.new.self)) (sym (read _ _ _ d c.index_mut.ensures.value c.requires)) s.2))
    c.give.ensures.step
