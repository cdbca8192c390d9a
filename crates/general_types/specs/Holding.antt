-- The variables that the types of names hold.
use Rattle.std.specs.Prelude.{◌≡◌, ℕ, suc, ◌<◌, ◌≤◌, Bool, true, List, map, length, nat_eq}
use Rattle.std.specs.List.{list_any}
use Rattle.std.specs.Coded.{Coded, code_by, coded×, coded_list, coded_ℕ}
use Rattle.std.specs.Prelude.{refl}
use Rattle.type_terms.specs.Counting.{free_among}
use Rattle.type_terms.specs.Ground.{Assignment, size}
use Rattle.type_terms.specs.Resolved.{IsFreeType, IsFreeKind}
use Rattle.type_terms.specs.Table.{Table, Solves}
use Rattle.type_terms.specs.Term.{Term, meaning}

-- The free variables of the types of outer names, which a def may not make general: type and kind variables. `passed`
-- are bound type variables that were gone through; what they are bound to holds no others. The counts say how many
-- variables, and how many free ones, there were at the search.
pub record HeldVariables : Type 0 where
  pub types : List ℕ
  pub kinds : List ℕ
  pub passed : List ℕ
  pub type_count : ℕ
  pub kind_count : ℕ
  pub free_count : ℕ

-- whether the number k of a variable is in the list, such as that of the held variables
abbrev pub is_held : List ℕ → ℕ → Bool
is_held ks k = list_any (nat_eq k) ks

-- The assignments a and b give the same types and kinds to the variables h, those that the types of outer names hold.
pub record AgreeOn (h : HeldVariables) (a b : Assignment) : Type 0 where
  pub types : (k : ℕ) → is_held h.types k ≡ true → a.type_of k ≡ b.type_of k
  pub kinds : (k : ℕ) → is_held h.kinds k ≡ true → a.kind_of k ≡ b.kind_of k

-- The assignments a and b give the held kind variables of h the same kinds. They give the same types to those held
-- type variables whose type under a has fewer than n nodes. Proofs by induction on n use it.
pub record AgreeBelow (h : HeldVariables) (n : ℕ) (a b : Assignment) : Type 0 where
  pub types : (k : ℕ) → is_held h.types k ≡ true → size (a.type_of k) < n → a.type_of k ≡ b.type_of k
  pub kinds : (k : ℕ) → is_held h.kinds k ≡ true → a.kind_of k ≡ b.kind_of k

-- The assignments a and b give the same types to those passed variables of h (bound ones that a search went through)
-- whose type under a has fewer than n nodes.
abbrev pub AgreeOnPassed : HeldVariables → ℕ → Assignment → Assignment → Type 0
AgreeOnPassed h n a b = (k : ℕ) → is_held h.passed k ≡ true → size (a.type_of k) < n → a.type_of k ≡ b.type_of k

-- the types of these names mean the same under both assignments, a and b
abbrev pub SameTypes : List Term → Assignment → Assignment → Type 0
SameTypes names a b = map (meaning a) names ≡ map (meaning b) names

-- each of the held variables h is one of the substitution s
pub record AreThere (s : Table) (h : HeldVariables) : Type 0 where
  pub types : (k : ℕ) → is_held h.types k ≡ true → k < length s.types
  pub kinds : (k : ℕ) → is_held h.kinds k ≡ true → k < length s.kinds

-- The counts that are kept with the held variables h fit the substitution s. It has at least as many variables, the
-- held ones are among those counted, and as many of these are free as is kept.
pub record AreCounted (s : Table) (h : HeldVariables) : Type 0 where
  pub enough_types : h.type_count ≤ length s.types
  pub enough_kinds : h.kind_count ≤ length s.kinds
  pub types : (k : ℕ) → is_held h.types k ≡ true → k < h.type_count
  pub kinds : (k : ℕ) → is_held h.kinds k ≡ true → k < h.kind_count
  pub free : free_among s h.type_count h.kind_count ≡ h.free_count

-- h are exactly the free variables on which the types of these names depend: two solutions of s give the names the same
-- types just where they agree on h. A passed variable is bound to a larger type, which the held ones in it fix.
pub record IsHeldBy (s : Table) (names : List Term) (h : HeldVariables) : Type 0 where
  pub free_types : (k : ℕ) → is_held h.types k ≡ true → IsFreeType s k
  pub free_kinds : (k : ℕ) → is_held h.kinds k ≡ true → IsFreeKind s k
  pub fixed : (a b : Assignment) → Solves a s → Solves b s → SameTypes names a b → AgreeOn h a b
  pub enough : (a b : Assignment) → Solves a s → Solves b s → AgreeOn h a b → SameTypes names a b
  pub behind : (a b : Assignment) → Solves a s → Solves b s → (n : ℕ) → AgreeBelow h n a b → AgreeOnPassed h (suc n) a b
  pub counted : AreCounted s h

-- how held variables are coded as a number, by way of nested pairs, so that contracts may see a value that holds them
abbrev pub held_code : Coded HeldVariables
held_code =
    code_by (List ℕ × (List ℕ
    × (List ℕ × (ℕ × (ℕ × ℕ)))))
    (coded× (coded_list coded_ℕ)
    (coded× (coded_list coded_ℕ) (coded× (coded_list coded_ℕ) (coded× coded_ℕ (coded× coded_ℕ coded_ℕ)))))
    (λ h. (h.types, (h.kinds, (h.passed, (h.type_count, (h.kind_count, h.free_count)))))) (λ p. record {
      types = p.0;
      kinds = p.1.0;
      passed = p.1.1.0;
      type_count = p.1.1.1.0;
      kind_count = p.1.1.1.1.0;
      free_count = p.1.1.1.1.1;
    }) (λ _. refl)
