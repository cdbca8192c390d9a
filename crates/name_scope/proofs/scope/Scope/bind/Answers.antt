use Rattle.std.proofs.Common.{◌≡◌, List, ap, ◌∙◌, ◌++◌, ◌∷◌, [], length}
use Rattle.name_scope.specs.Seen.{newest_first}
use Rattle.name_scope.specs.declared.scope.Binding.{Binding}
use Rattle.name_scope.proofs.Newest.{table_more}
use Rattle.name_scope.proofs.Searches.{newest}
use Rattle.name_scope.proofs.scope.Scope.bind.Goals as goal

pub invariant_of-self-2 : goal.invariant_of-self-2
invariant_of-self-2 c =
    let old = c.args.self.now in
    let binding : Binding = record { name = c.args.name; bound = c.args.bound } in
    let last : c.len-place.result ≡ length old.bindings.items =
    c.len-place.ensures ∙ c.reserve.new.self.ok.0 ∙ ap (λ (bs : List Binding). length bs) c.in_ok-reserve.ensures.items in
    let after : c.push_reserved.new.self.items ≡ old.bindings.items ++ binding ∷ [] =
    c.push_reserved.ensures.items ∙ ap (λ (bs : List Binding). bs ++ binding ∷ []) c.in_ok-reserve.ensures.items in
    record { newest = table_more old.bindings.items c.push_reserved.new.self.items binding old.places c.insert.new.self c.len-place.result old.newest last after c.in_ok-insert.ensures.updates }

pub returns : goal.returns
returns c =
    let old = c.args.self.now in
    let binding : Binding = record { name = c.args.name; bound = c.args.bound } in
    record {
      bound = ap newest_first (c.push_reserved.ensures.items ∙ ap (λ (bs : List Binding). bs ++ binding ∷ []) c.in_ok-reserve.ensures.items)
          ∙ newest old.bindings.items binding;
    }
