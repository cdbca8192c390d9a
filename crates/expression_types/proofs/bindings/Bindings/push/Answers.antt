use Rattle.std.proofs.Common.{◌≡◌, ◌∙◌, ◌++◌, ◌∷◌, [], List, ap}
use Rattle.liq_base.specs.At.{at_token}
use Rattle.expression_types.proofs.Lookups.{numbers_more}
use Rattle.expression_types.specs.declared.environment.Known.{Known}
use Rattle.expression_types.proofs.bindings.Bindings.push.Goals as goal

pub invariant_of-self-2 : goal.invariant_of-self-2
invariant_of-self-2 c =
    let after : c.push_reserved.new.self.items ≡ c.self.inside.all.items ++ c.args.known ∷ [] =
    c.push_reserved.ensures.items ∙ ap (λ (ks : List Known). ks ++ c.args.known ∷ []) c.in_ok-reserve.ensures.items in
    numbers_more c.self.inside.all.items c.push_reserved.new.self.items c.args.known (λ t. at_token t c.self.inside.vars) (λ t. at_token t c.note.new.vars) after c.self.invariant c.in_ok-note.ensures.noted
