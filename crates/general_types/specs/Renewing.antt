-- What names hold, where more is bound. No contract of a public call cites this.
use Rattle.std.specs.Prelude.{◌≡◌, ◌⊎◌, ℕ, suc, true, List, length}
use Rattle.type_terms.specs.Counting.{free_among}
use Rattle.type_terms.specs.Ground.{Assignment}
use Rattle.type_terms.specs.Resolved.{IsFreeType, IsFreeKind}
use Rattle.type_terms.specs.Table.{Table, Solves}
use Rattle.type_terms.specs.Term.{Term}
use Rattle.general_types.specs.Holding.{HeldVariables, AgreeBelow, AgreeOn, AgreeOnPassed, SameTypes, is_held}

-- Under the substitution s the types of these names depend on just the variables h: two solutions give the names the
-- same types where they agree on h. Some of h may be bound by now.
pub record IsFixedBy (s : Table) (names : List Term) (h : HeldVariables) : Type 0 where
  pub fixed : (a b : Assignment) → Solves a s → Solves b s → SameTypes names a b → AgreeOn h a b
  pub enough : (a b : Assignment) → Solves a s → Solves b s → AgreeOn h a b → SameTypes names a b
  pub behind : (a b : Assignment) → Solves a s → Solves b s → (n : ℕ) → AgreeBelow h n a b → AgreeOnPassed h (suc n) a b

-- Under the substitution s the types of these names hold exactly the variables h, all of them free. The counts kept in
-- h may be anything.
pub record AreHeldBy (s : Table) (names : List Term) (h : HeldVariables) : Type 0 where
  pub free_types : (k : ℕ) → is_held h.types k ≡ true → IsFreeType s k
  pub free_kinds : (k : ℕ) → is_held h.kinds k ≡ true → IsFreeKind s k
  pub fixed_by : IsFixedBy s names h

-- the held variables h with their counts set to those of the substitution s as it is now
abbrev pub counted_in : Table → HeldVariables → HeldVariables
counted_in s h = record {
  types = h.types;
  kinds = h.kinds;
  passed = h.passed;
  type_count = length s.types;
  kind_count = length s.kinds;
  free_count = free_among s (length s.types) (length s.kinds);
}

-- the number k is in the list `old` and not in the list `gone`
abbrev pub IsLeft : List ℕ → List ℕ → ℕ → Type 0
IsLeft old gone k = (is_held old k ≡ true) × (is_held gone k ≡ true → ⊥)

-- Held variables were renewed from `old` to `new`, since the substitution s bound some of them: `types` and `kinds`.
-- In place of these stand the free variables of what they are bound to. Names whose types held `old` hold `new`.
pub record Renews (s : Table) (types kinds : List ℕ) (old new : HeldVariables) : Type 0 where
  pub fixed : (names : List Term) → IsFixedBy s names old → IsFixedBy s names new
  pub types_only : (k : ℕ) → is_held new.types k ≡ true → IsLeft old.types types k ⊎ IsFreeType s k
  pub kinds_only : (k : ℕ) → is_held new.kinds k ≡ true → IsLeft old.kinds kinds k ⊎ IsFreeKind s k

-- a search through the numbers gave the list `found`: some of them, and P holds of all that it leaves out
pub record FindsBut (P : ℕ → Type 0) (numbers found : List ℕ) : Type 0 where
  pub among : (k : ℕ) → is_held found k ≡ true → is_held numbers k ≡ true
  pub others : (k : ℕ) → is_held numbers k ≡ true → (is_held found k ≡ true) ⊎ P k
