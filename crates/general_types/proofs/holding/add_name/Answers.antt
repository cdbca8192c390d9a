use Rattle.std.proofs.Common.{◌≡◌, ◌∷◌, [], ap, subst, sym, List}
use Rattle.type_terms.specs.Nested.{terms}
use Rattle.type_terms.specs.Table.{IsOver}
use Rattle.type_terms.specs.Term.{Term, term_of}
use Rattle.general_types.specs.Walks.{Every, Leads, held_of}
use Rattle.general_types.proofs.Leads.{ok_then}
use Rattle.general_types.proofs.Names.{held_more}
use Rattle.general_types.proofs.holding.add_name.Goals as goal

pub walk-requires : goal.walk-requires
walk-requires c =
    let one : terms c.push.new.self.items ≡ term_of c.args.name.now ∷ [] = ap terms (rw c.new-work.ensures.items at c.in_ok-push.ensures.items) in
    record { over = subst (λ (ts : List Term). Every (IsOver c.args.subst.now) ts) (sym one) (c.requires.over, tt) }

pub returns : goal.returns
returns c =
    let one : terms c.push.new.self.items ≡ term_of c.args.name.now ∷ [] = ap terms (rw c.new-work.ensures.items at c.in_ok-push.ensures.items) in
    let s = c.args.subst.now in
    let h = held_of c.args.reached.now in
    let h1 = held_of c.walk.new.reached in
    ok_then c.walk.result
    (λ w names old. held_more s names (term_of c.args.name.now) h h1 (subst (λ (ts : List Term). Leads s ts [] h h1) one w) old)
    c.walk.ensures
