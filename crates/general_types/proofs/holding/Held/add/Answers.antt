use Rattle.std.proofs.Common.{◌∷◌, subst, sym}
use Rattle.type_terms.specs.Term.{term_of}
use Rattle.general_types.specs.Holding.{HeldVariables, IsHeldBy}
use Rattle.general_types.specs.Walks.{held_of}
use Rattle.general_types.proofs.Counted.{all_counted, lists_of}
use Rattle.general_types.proofs.holding.Held.add.Goals as goal

pub returns : goal.returns
returns c =
    let s = c.args.subst.now in
    let t = term_of c.args.name.now in
    let h1 : HeldVariables = held_of c.add_name.new.reached in
    record {
      held = λ names o. subst (IsHeldBy s (t ∷ names)) (sym c.count.ensures) (all_counted s (t ∷ names) h1 (c.in_ok-add_name.ensures names (lists_of s names _ (subst (IsHeldBy s names) (sym c.self.view_is) o))));
    }
