use Rattle.std.proofs.Common.{◌≡◌, sym, subst, length, true, ℕ, List, None}
use Rattle.type_terms.specs.Table.{bound_at, kind_at}
use Rattle.general_types.specs.Holding.{AreThere, HeldVariables, is_held}
use Rattle.general_types.specs.Renewing.{AreHeldBy, FindsBut}
use Rattle.general_types.specs.Walks.{held, held_of}
use Rattle.general_types.proofs.Leads.{ok_then}
use Rattle.general_types.proofs.Names.{found_there, held_later}
use Rattle.general_types.proofs.holding.Held.renew_bound.Goals as goal

pub renew_both-requires : goal.renew_both-requires
renew_both-requires c =
    let s = c.args.subst.now in
    let seen = subst (AreThere s) (sym c.self.view_is) c.requires.there in
    let there : AreThere s (held_of c.self.inside.reached) = record { types = seen.types; kinds = seen.kinds } in
    record {
      types = λ k e. found_there (length s.types) c.as_slice.result.now c.push_bound_types.new.found.items (λ j. bound_at s.types j ≡ None) c.in_ok-push_bound_types.ensures
          (λ j f. there.types j (subst (λ (xs : List ℕ). is_held xs j ≡ true) c.as_slice.ensures.keys f)) k (subst (λ (xs : List ℕ). is_held xs k ≡ true) c.deref.ensures.value e);
      kinds = λ k e. found_there (length s.kinds) c.as_slice-2.result.now c.push_bound_kinds.new.found.items (λ j. kind_at s.kinds j ≡ None) c.in_ok-push_bound_kinds.ensures
          (λ j f. there.kinds j (subst (λ (xs : List ℕ). is_held xs j ≡ true) c.as_slice-2.ensures.keys f)) k (subst (λ (xs : List ℕ). is_held xs k ≡ true) c.deref-2.ensures.value e);
    }

pub returns : goal.returns
returns c =
    let t = c.args.subst.now in
    let h = held_of c.self.inside.reached in
    let h1 = held_of c.renew_both.new.reached in
    let seen = subst (AreThere t) (sym c.self.view_is) c.requires.there in
    let there : AreThere t h = record { types = seen.types; kinds = seen.kinds } in
    let types : FindsBut (λ j. bound_at t.types j ≡ None) c.self.inside.reached.types.keys c.deref.result.now =
    subst (λ (xs : List ℕ). FindsBut (λ j. bound_at t.types j ≡ None) xs c.deref.result.now) c.as_slice.ensures.keys
    (subst (λ (ys : List ℕ). FindsBut (λ j. bound_at t.types j ≡ None) c.as_slice.result.now ys) (sym c.deref.ensures.value) c.in_ok-push_bound_types.ensures) in
    let kinds : FindsBut (λ j. kind_at t.kinds j ≡ None) c.self.inside.reached.kinds.keys c.deref-2.result.now =
    subst (λ (xs : List ℕ). FindsBut (λ j. kind_at t.kinds j ≡ None) xs c.deref-2.result.now) c.as_slice-2.ensures.keys
    (subst (λ (ys : List ℕ). FindsBut (λ j. kind_at t.kinds j ≡ None) c.as_slice-2.result.now ys) (sym c.deref-2.ensures.value) c.in_ok-push_bound_kinds.ensures) in
    record {
      held = ok_then c.renew_both.result
          (λ r s names f o. held_later s t names h h1 c.deref.result.now c.deref-2.result.now there types kinds r f (subst (λ (x : HeldVariables). AreHeldBy s names (held x.types x.kinds x.passed)) (sym c.self.view_is) o))
          c.renew_both.ensures;
    }
