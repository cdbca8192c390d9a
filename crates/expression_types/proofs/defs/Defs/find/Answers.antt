use Rattle.std.proofs.Common.{◌≡◌, List, Option, None, Some, Bor, slice_get, ap, ◌∙◌, rules}
use Rattle.std.specs.Prelude.{option_map}
use Rattle.expression_types.specs.Tables.{def_seen}
use Rattle.expression_types.specs.declared.environment.KnownDef.{KnownDef}
use Rattle.expression_types.proofs.Lookups.{def_at_place, def_placed}
use Rattle.expression_types.proofs.defs.Defs.find.Goals as goal

pub returns-in_err-place : goal.returns-in_err-place
returns-in_err-place c =
    let none : c.from_residual.result ≡ None = search rules in
    ap (λ (o : Option (Bor KnownDef)). option_map (λ d. d.now) o) none
    ∙ def_placed c.args.at c.self.inside.all.items c.self.inside.places None c.self.invariant c.in_err-place.ensures
    ∙ ap (def_seen c.args.at) c.self.view_is

pub returns : goal.returns
returns c =
    let place = c.in_ok-place.place in
    def_at_place c.get-2.result c.deref.result.now place c.get-2.ensures.lookup.1 c.get-2.ensures.lookup.3
    ∙ ap (λ (ds : List KnownDef). slice_get ds place) c.deref.ensures.value
    ∙ def_placed c.args.at c.self.inside.all.items c.self.inside.places (Some place) c.self.invariant c.in_ok-place.ensures
    ∙ ap (def_seen c.args.at) c.self.view_is
