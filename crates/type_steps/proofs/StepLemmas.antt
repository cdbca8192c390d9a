-- New variables, and facts of types.
use Rattle.std.proofs.Common.{◌≡◌, ◌∙◌, sym, subst, refl, ℕ, ◌<◌, true, false, length, Bool}
use Rattle.std.specs.Prelude.{IsTrue}
use Rattle.type_terms.specs.Ground.{Assignment, IsNumber}
use Rattle.type_terms.specs.Term.{Term, variable}
use Rattle.type_terms.specs.Table.{Table, Solves}
use Rattle.type_terms.specs.Agrees.{Agrees, HasBoundType, HasNewType}
use Rattle.type_steps.specs.Flow.{Restricts, Never, Defines, IsMade}
use Rattle.type_steps.proofs.Tables.{follows_both, agrees_both}

-- a new variable that is bound to a type
pub defined : (s s' : Table) (n : ℕ) (t : Term) → HasBoundType s s' n t → Defines s s' n t
defined s s' n t f = record { inside = f.inside; follows = f.follows; sound = λ a m. ((f.exactly a).0 m).1; complete = f.each }

-- a variable that is to be the same as a new number variable
module _ (s s1 : Table) (n m : ℕ) (o : n < length s.types) (f : HasNewType s s1 (IsTrue true) m) where
  pub numbered : (a : Assignment) → Solves a s → IsNumber (a.type_of n) → (b : Assignment) × Solves b s1 × Agrees s a b × (b.type_of n ≡ b.type_of m)
  numbered a p h = with_same (f.each a p (a.type_of n) (λ _. h)) where
    with_same : ((b : Assignment) × Solves b s1 × Agrees s a b × (b.type_of m ≡ a.type_of n)) → (b : Assignment) × Solves b s1 × Agrees s a b × (b.type_of n ≡ b.type_of m)
    with_same r = (r.0, r.1, r.2, sym (r.2.types n o) ∙ sym r.3)

  pub number_made : (s2 : Table) → Restricts s1 s2 (λ a. a.type_of n ≡ a.type_of m) → Restricts s s2 (λ a. IsNumber (a.type_of n))
  number_made s2 h = record {
    follows = follows_both s s1 s2 f.follows h.follows;
    sound = λ a p. subst IsNumber (sym (h.sound a p)) (f.is_number refl a (h.follows.solves a p));
    complete = λ a p c. with_number a (numbered a p c);
  } where
    with_number : (a : Assignment) → ((b : Assignment) × Solves b s1 × Agrees s a b × (b.type_of n ≡ b.type_of m)) → (c : Assignment) × Solves c s2 × Agrees s a c
    with_number a r = let z = h.complete r.0 r.1 r.3 in (z.0, z.1, agrees_both s s1 a r.0 z.0 f.follows r.2 z.2)

  pub number_never : Never s1 (λ a. a.type_of n ≡ a.type_of m) → Never s (λ a. IsNumber (a.type_of n))
  number_never h a p c = let r = numbered a p c in h r.0 r.1 r.3

pub number_by : (yes : Bool) (s s1 s2 : Table) (n m : ℕ) → n < length s.types → HasNewType s s1 (IsTrue true) m → IsMade yes s1 s2 (λ a. a.type_of n ≡ a.type_of m) → IsMade yes s s2 (λ a. IsNumber (a.type_of n))
number_by true s s1 s2 n m o f h = number_made s s1 n m o f s2 h
number_by false s s1 s2 n m o f h = number_never s s1 n m o f h
