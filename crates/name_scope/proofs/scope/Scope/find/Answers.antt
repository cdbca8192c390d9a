use Rattle.std.proofs.Common.{◌∙◌, ◌<◌, Some, ap, arith, length, sym}
use Rattle.name_scope.specs.Seen.{seen_bound}
use Rattle.name_scope.specs.declared.scope.Binding.{Binding}
use Rattle.name_scope.proofs.Newest.{absent_at_last, found_at_last, last_place_below}
use Rattle.name_scope.proofs.scope.Scope.find.Goals as goal

pub index-requires : goal.index-requires
index-requires c =
    let bs = c.args.self.now.bindings in
    let below : c.in-Some.place.now < length bs.items = last_place_below c.args.name.now bs.items c.in-Some.place.now (sym (c.args.self.now.newest c.args.name.now) ∙ sym c.in-Some.ensures.value) in
    omega (arith, below, bs.ok.0)

pub returns-in-Some : goal.returns-in-Some
returns-in-Some c =
    let bs = c.args.self.now.bindings in
    record {
      found = ap (λ (b : Binding). Some (seen_bound b.bound)) c.index.ensures
          ∙ found_at_last c.index.result.now c.args.name.now bs.items c.in-Some.place.now (sym (c.args.self.now.newest c.args.name.now) ∙ sym c.in-Some.ensures.value);
    }

pub returns-in-None : goal.returns-in-None
returns-in-None c = record { found = absent_at_last c.args.name.now c.args.self.now.bindings.items (sym (c.args.self.now.newest c.args.name.now) ∙ sym c.in-None.ensures.value) }
