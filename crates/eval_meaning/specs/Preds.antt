-- The predicate that stands in braces.
use Rattle.std.specs.Prelude.{true, false}
use Rattle.script_grammar.specs.Tree.{Tree, Many, none, more, APOr, APAnd, APNot, APAtom, POr, PAnd, PNot, TrueAtom, FalseAtom, Mark, IntervalAtom, Grouped}
use Rattle.time_pred.specs.Predicates as pred
use Rattle.time_pred.specs.Predicates.{Predicate}

-- a predicate alone, or with further parts one that holds where any of them holds
abbrev pub any_of : Predicate → pred.PredicateTree pred.PredicateParts → Predicate
any_of p pred.no_parts = p
any_of p (pred.first_part q qs) = pred.Any (pred.first_part p (pred.first_part q qs))

-- a predicate of time that holds where p and all further parts hold; p alone without further parts
abbrev pub all_of : Predicate → pred.PredicateTree pred.PredicateParts → Predicate
all_of p pred.no_parts = p
all_of p (pred.first_part q qs) = pred.All (pred.first_part p (pred.first_part q qs))

-- the predicate that a text in braces means
unfoldable mutual
  -- the predicate of parts joined by `or`
  pub or_pred : Tree APOr → Predicate
  or_pred (POr first rest) = any_of (and_pred first) (and_preds rest)

  -- the predicates of further parts of an `or`, as a list
  pub and_preds : Tree (Many APAnd) → pred.PredicateTree pred.PredicateParts
  and_preds none = pred.no_parts
  and_preds (more p ps) = pred.first_part (and_pred p) (and_preds ps)

  -- the predicate of parts joined by `and`
  pub and_pred : Tree APAnd → Predicate
  and_pred (PAnd first rest) = all_of (not_pred first) (not_preds rest)

  -- the predicates of further parts of an `and`, as a list
  pub not_preds : Tree (Many APNot) → pred.PredicateTree pred.PredicateParts
  not_preds none = pred.no_parts
  not_preds (more p ps) = pred.first_part (not_pred p) (not_preds ps)

  -- the predicate of an atom, perhaps behind `not`
  pub not_pred : Tree APNot → Predicate
  not_pred (PNot true atom) = pred.Negated (atom_pred atom)
  not_pred (PNot false atom) = atom_pred atom

  -- the predicate of an atom: true or false, a single time such as `12h` (`Mark`), an interval of times, or a predicate
  -- in parentheses
  pub atom_pred : Tree APAtom → Predicate
  atom_pred TrueAtom = pred.Always
  atom_pred FalseAtom = pred.Never
  atom_pred (Mark at) = pred.At at
  atom_pred (IntervalAtom from to) = pred.Between from to
  atom_pred (Grouped inside) = or_pred inside
