use Rattle.std.proofs.Common.{rules, ◌≡◌, ◌∙◌, [], ap, sym}
use Rattle.std.proofs.lemmas.List.{get_or-map}
use Rattle.track_library.proofs.leaf_lists.if_same.Goals as goal

pub returns-in-Some : goal.returns-in-Some
returns-in-Some c =
    let low = c.in-Some.ensures.lookup.3.0 in
    let same : c.as_slice.result.now ≡ c.args.leaf.now = search rules in
    let here = get_or-map (λ v. v.items) c.args.lists.now c.in_ok-number.number c.in-Some.list.now [] low in
    (low, here ∙ ap (λ v. v.items) (sym c.in-Some.ensures.lookup.1) ∙ sym c.as_slice.ensures.value ∙ same)
