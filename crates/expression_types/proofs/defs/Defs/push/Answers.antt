use Rattle.std.proofs.Common.{rules, ◌≡◌, ◌∙◌, ◌++◌, ◌∷◌, [], List, ap, length}
use Rattle.expression_types.proofs.Lookups.{places_more}
use Rattle.expression_types.specs.declared.environment.KnownDef.{KnownDef}
use Rattle.expression_types.proofs.defs.Defs.push.Goals as goal

pub invariant_of-self-2 : goal.invariant_of-self-2
invariant_of-self-2 c =
    let after : c.push_reserved.new.self.items ≡ c.self.inside.all.items ++ c.args.def ∷ [] =
    c.push_reserved.ensures.items ∙ ap (λ (ds : List KnownDef). ds ++ c.args.def ∷ []) c.in_ok-reserve.ensures.items in
    let last : c.len-place.result ≡ length c.self.inside.all.items = search rules in
    places_more c.self.inside.all.items c.push_reserved.new.self.items c.args.def c.len-place.result c.self.inside.places c.note.new.places after last c.self.invariant c.in_ok-note.ensures.noted
