use Rattle.std.proofs.Common.{◌≡◌, ◌∙◌, ◌++◌, ◌∷◌, [], List, ℕ, length, ap, arith}
use Rattle.track_library.proofs.Chosen.{pushed_own}
use Rattle.track_library.proofs.leaf_lists.LeafLists.push_own.Goals as goal

pub returns : goal.returns
returns c =
    let many = c.self.inside.lists.ok.0 in
    let last : c.in_ok-number.number ≡ length c.self.inside.lists.items = omega (arith, c.in_ok-number.ensures.number, c.len.ensures, many) in
    pushed_own c.self.inside.lists.items c.push.new.self.items c.args.leaf c.self.inside.numbers.items c.push-2.new.self.items c.in_ok-number.number
    c.in_ok-push.ensures.items c.in_ok-push-2.ensures.items last c.self.invariant
    ∙ ap (λ (ls : List (List ℕ)). ls ++ c.args.leaf.items ∷ []) c.self.view_is
