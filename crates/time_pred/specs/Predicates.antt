-- Predicates as plain trees, and what they mean.
use Rattle.std.specs.Prelude.{ℕ, Bool, true, false, not, ◌&&◌, ◌||◌, List, [], ◌∷◌}
use Rattle.fixed_text.specs.declared.time_mark.TimeMark.{TimeMark}
use Rattle.time_pred.specs.Marks.{is_at, is_between}

-- the two sorts of trees of a predicate: one predicate, and a list of those that `and` or `or` joins
pub data PredicateSort : Type 0 where
  OnePredicate : PredicateSort
  PredicateParts : PredicateSort

-- the trees of predicates over the time of the week, as `9h-17h and not 2w`, and the lists of parts in them
pub data PredicateTree : PredicateSort → Type 0 where
  Always : PredicateTree OnePredicate
  Never : PredicateTree OnePredicate
  At : TimeMark → PredicateTree OnePredicate
  Between : TimeMark → TimeMark → PredicateTree OnePredicate
  Negated : PredicateTree OnePredicate → PredicateTree OnePredicate
  All : PredicateTree PredicateParts → PredicateTree OnePredicate
  Any : PredicateTree PredicateParts → PredicateTree OnePredicate
  no_parts : PredicateTree PredicateParts
  first_part : PredicateTree OnePredicate → PredicateTree PredicateParts → PredicateTree PredicateParts

-- a predicate over the time of the week, as a switch has one for each child
abbrev pub Predicate : Type 0
Predicate = PredicateTree OnePredicate

-- a list of predicates as the parts of one, which are joined by `and` or by `or`
abbrev pub parts_of : List Predicate → PredicateTree PredicateParts
parts_of [] = no_parts
parts_of (p ∷ ps) = first_part p (parts_of ps)

-- whether a predicate holds at a second of the week
abbrev mutual
  pub holds : PredicateTree OnePredicate → ℕ → Bool
  holds Always at = true
  holds Never at = false
  holds (At mark) at = is_at mark at
  holds (Between from to) at = is_between from to at
  holds (Negated p) at = not (holds p at)
  holds (All ps) at = all_hold ps at
  holds (Any ps) at = some_holds ps at

  pub all_hold : PredicateTree PredicateParts → ℕ → Bool
  all_hold no_parts at = true
  all_hold (first_part p ps) at = holds p at && all_hold ps at

  pub some_holds : PredicateTree PredicateParts → ℕ → Bool
  some_holds no_parts at = false
  some_holds (first_part p ps) at = holds p at || some_holds ps at

-- whether a predicate is always true by its form, and whether it is never true by its form
abbrev mutual
  pub is_always : PredicateTree OnePredicate → Bool
  is_always Always = true
  is_always Never = false
  is_always (At mark) = false
  is_always (Between from to) = false
  is_always (Negated p) = is_never p
  is_always (All ps) = all_always ps
  is_always (Any ps) = some_always ps

  pub is_never : PredicateTree OnePredicate → Bool
  is_never Always = false
  is_never Never = true
  is_never (At mark) = false
  is_never (Between from to) = false
  is_never (Negated p) = is_always p
  is_never (All ps) = some_never ps
  is_never (Any ps) = all_never ps

  pub all_always : PredicateTree PredicateParts → Bool
  all_always no_parts = true
  all_always (first_part p ps) = is_always p && all_always ps

  pub some_always : PredicateTree PredicateParts → Bool
  some_always no_parts = false
  some_always (first_part p ps) = is_always p || some_always ps

  pub all_never : PredicateTree PredicateParts → Bool
  all_never no_parts = true
  all_never (first_part p ps) = is_never p && all_never ps

  pub some_never : PredicateTree PredicateParts → Bool
  some_never no_parts = false
  some_never (first_part p ps) = is_never p || some_never ps
