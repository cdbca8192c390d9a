-- Held variables and the variables that were counted with them.
use Rattle.std.proofs.Common.{◌≡◌, refl, List, arith}
use Rattle.type_terms.specs.Agrees.{Follows}
use Rattle.type_terms.specs.Counting.{free_among}
use Rattle.type_terms.specs.Table.{Table}
use Rattle.type_terms.specs.Term.{Term}
use Rattle.type_terms.proofs.Counting.{still_free}
use Rattle.general_types.specs.Holding.{HeldVariables, IsHeldBy}
use Rattle.general_types.specs.Renewing.{AreHeldBy, counted_in}
use Rattle.general_types.specs.Walks.{held}
use Rattle.general_types.proofs.Names.{fixed_later}

-- the lists alone
module _ (s : Table) (names : List Term) (h : HeldVariables) where
  pub lists_of : IsHeldBy s names h → AreHeldBy s names (held h.types h.kinds h.passed)
  lists_of o = record {
    free_types = o.free_types;
    free_kinds = o.free_kinds;
    fixed_by = record {
      fixed = λ a b m n e. let g = o.fixed a b m n e in record { types = g.types; kinds = g.kinds };
      enough = λ a b m n g. o.enough a b m n (record { types = g.types; kinds = g.kinds });
      behind = λ a b m n i g. o.behind a b m n i (record { types = g.types; kinds = g.kinds });
    };
  }

  -- and with all that is there counted
  pub all_counted : AreHeldBy s names (held h.types h.kinds h.passed) → IsHeldBy s names (counted_in s h)
  all_counted o = record {
    free_types = o.free_types;
    free_kinds = o.free_kinds;
    fixed = λ a b m n e. let g = o.fixed_by.fixed a b m n e in record { types = g.types; kinds = g.kinds };
    enough = λ a b m n g. o.fixed_by.enough a b m n (record { types = g.types; kinds = g.kinds });
    behind = λ a b m n i g. o.fixed_by.behind a b m n i (record { types = g.types; kinds = g.kinds });
    counted = record {
      enough_types = omega arith;
      enough_kinds = omega arith;
      types = λ k e. (o.free_types k e).0;
      kinds = λ k e. (o.free_kinds k e).0;
      free = refl;
    };
  }

-- where as many variables are free as before, the names hold what they held
pub still_held : (s s1 : Table) (names : List Term) (h : HeldVariables) → free_among s1 h.type_count h.kind_count ≡ h.free_count → Follows s s1 → IsHeldBy s names h → IsHeldBy s1 names (counted_in s1 h)
still_held s s1 names h e f o =
    let c = o.counted in
    let free = still_free s s1 h.type_count h.kind_count f c.enough_types c.enough_kinds (rw (e, c.free) refl) in
    let before = lists_of s names h o in
    all_counted s1 names h (record {
      free_types = λ k g. ((let l = c.types k g in let m = c.enough_types in let n = f.types in omega (arith, l, m, n)), free.free_types k (c.types k g) (o.free_types k g).1);
      free_kinds = λ k g. ((let l = c.kinds k g in let m = c.enough_kinds in let n = f.kinds in omega (arith, l, m, n)), free.free_kinds k (c.kinds k g) (o.free_kinds k g).1);
      fixed_by = fixed_later s s1 names (held h.types h.kinds h.passed) f before.fixed_by;
    })
