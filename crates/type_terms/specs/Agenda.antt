-- What is still to be compared, and which variables were taken apart for it.
use Rattle.std.specs.Prelude.{◌≡◌, ℕ, Bool, true, false, suc, ◌+◌, ◌<◌, List, [], ◌∷◌}
use Rattle.type_terms.specs.Ground.{Assignment, size}
use Rattle.type_terms.specs.Term.{Term, term_of, variable, meaning}
use Rattle.type_terms.specs.Table.{Table, Solves, extra}
use Rattle.type_terms.specs.Pairs.{AllEqual, AllOver}
use Rattle.type_terms.specs.Differ.{AreNeverSame, IsForced, IsKindForced}
use Rattle.type_terms.specs.declared.agenda.Agenda.{Agenda as AgendaLists}
use Rattle.type_terms.specs.declared.differ.Difference.{Difference}
use Rattle.type_terms.specs.declared.differ.Difference.TheVariants.{Same, Clash, Bind, BindKind}
use Rattle.type_terms.specs.declared.ty.Ty.{Ty}

-- pairs of types of the program, which are to be compared, as plain data
abbrev pub pairs_of : List (Ty × Ty) → List (Term × Term)
pairs_of [] = []
pairs_of (p ∷ ps) = (term_of p.0, term_of p.1) ∷ pairs_of ps

-- pairs of type variables, given by their numbers, as pairs of types
abbrev pub variable_pairs : List (ℕ × ℕ) → List (Term × Term)
variable_pairs [] = []
variable_pairs (p ∷ ps) = (variable p.0, variable p.1) ∷ variable_pairs ps

-- If type t has fewer than n nodes under the assignment a, or at most n where it is no variable, t and u are equal
-- there. It serves induction on n, by which pairs that were taken apart are shown to be equal.
abbrev pub EqualBelow : Assignment → ℕ → Term → Term → Type 0
EqualBelow a n t u = size (meaning a t) < n + extra t → meaning a t ≡ meaning a u

-- the two types of each pair are equal under the assignment a, if the first has fewer than n nodes there, or at most n
-- where it is no variable; this serves induction on n
abbrev pub AllEqualBelow : Assignment → ℕ → List (Term × Term) → Type 0
AllEqualBelow a n [] = Unit {0}
AllEqualBelow a n (p ∷ ps) = EqualBelow a n p.0 p.1 × AllEqualBelow a n ps

-- What unification has still to do, and what it has taken apart: `todo` has the pairs of types to compare, and `seen`
-- the pairs whose parts were put there, which it need not take apart again.
pub record Agenda : Type 0 where
  pub todo : List (Term × Term)
  pub seen : List (Term × Term)

-- the plain data of the pairs to compare, and of the pairs of variables that were taken apart
abbrev pub agenda : List (Ty × Ty) → List (ℕ × ℕ) → Agenda
agenda work seen = record { todo = pairs_of work; seen = variable_pairs seen }

-- the agenda of unification as plain data: the pairs of types to compare, and the pairs of variables taken apart
abbrev pub agenda_of : AgendaLists → Agenda
agenda_of lists = agenda lists.work.items lists.seen.keys

-- the agenda of unification at its start: nothing is to be compared, and nothing was taken apart
abbrev pub empty_agenda : Agenda
empty_agenda = record { todo = []; seen = [] }

-- Unification has taken up two types, with their parts put on the agenda. At each solution of s the two are equal if
-- the pairs of `new` are, and these are equal if the two and the pairs of `old` are.
pub record IsTakenUp (s : Table) (old new : Agenda) (left right : Term) : Type 0 where
  pub over : AllOver s old.todo → AllOver s new.todo
  pub needed : (a : Assignment) → Solves a s → meaning a left ≡ meaning a right → AllEqual a old.todo
      → AllEqual a new.todo
  pub enough : (a : Assignment) (n : ℕ) → Solves a s → AllEqualBelow a n new.todo → AllEqualBelow a n new.seen
      → EqualBelow a n left right
  -- nothing is forgotten
  pub todo_kept : (a : Assignment) (n : ℕ) → AllEqualBelow a n new.todo → AllEqualBelow a n old.todo
  pub seen_kept : (a : Assignment) (n : ℕ) → AllEqualBelow a n new.seen → AllEqualBelow a n old.seen
  -- what is new among the seen is equal where smaller pairs are
  pub learnt : (a : Assignment) (n : ℕ) → Solves a s → AllEqualBelow a n new.todo → AllEqualBelow a n new.seen
      → AllEqualBelow a (suc n) old.seen → AllEqualBelow a (suc n) new.seen

-- What the comparison of two types answers is right: `Same`, the agenda `new` has their parts; `Clash`, they are equal
-- at no solution of the substitution; `Bind` and `BindKind`, they are equal exactly where variable x is t, and the
-- agenda is as it was.
abbrev pub TakesUp : Table → Agenda → Agenda → Term → Term → Difference → Type 0
TakesUp s old new left right Same = IsTakenUp s old new left right
TakesUp s old new left right Clash = AreNeverSame s left right
TakesUp s old new left right (Bind x t) = IsForced s left right x (term_of t.now) × (new ≡ old)
TakesUp s old new left right (BindKind x t) = IsKindForced s left right x t × (new ≡ old)

-- what the comparison of two types answers is right: true, the agenda `new` has their parts, which are still to be
-- compared; false, they are equal at no solution of the substitution
abbrev pub IsTaken : Table → Agenda → Agenda → Term → Term → Bool → Type 0
IsTaken s old new left right true = IsTakenUp s old new left right
IsTaken s old new left right false = AreNeverSame s left right
