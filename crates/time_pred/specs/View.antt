-- The plain tree that a predicate stands for.
use Rattle.std.specs.Arc.{arc_value}
use Rattle.time_pred.specs.declared.pred.Pred as pred
use Rattle.time_pred.specs.declared.shared.SharedPred.{SharedPred}
use Rattle.time_pred.specs.Predicates.{PredicateTree, OnePredicate, PredicateParts, Always, Never, At, Between, Negated, All, Any, no_parts, first_part}

-- the plain tree that a predicate of the program stands for, and the one for a list of its parts
abbrev mutual
  pub view_pred : pred.Pred → PredicateTree OnePredicate
  view_pred pred.Always = Always
  view_pred pred.Never = Never
  view_pred (pred.At mark) = At mark
  view_pred (pred.Between from to) = Between from to
  view_pred (pred.Not' p inner) = Negated (view_pred inner)
  view_pred (pred.All' shape parts) = All (view_parts parts)
  view_pred (pred.Any' shape parts) = Any (view_parts parts)

  pub view_parts : {m : _} → pred.Row_of-Pred m → PredicateTree PredicateParts
  view_parts pred.end_of-Pred = no_parts
  view_parts (pred.more_of-Pred p rest) = first_part (view_pred p) (view_parts rest)

-- the plain tree of a predicate that is held in several places
abbrev pub view_shared : SharedPred → PredicateTree OnePredicate
view_shared shared = view_pred (arc_value shared.pred)
