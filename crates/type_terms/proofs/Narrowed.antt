-- Substitutions in which variables were bound so that two types become the same.
use Rattle.std.proofs.Common.{◌≡◌, ◌∙◌, sym, ap, subst, refl, ℕ, Bool, true, false, IfOk, Result, Ok, Err, ◌↔◌, ◌≢◌, List, [], ◌++◌, ◌∷◌, length, length-append, ◌+◌, ◌≤◌, arith}
use Rattle.std.specs.Bool.{OnFalse, OnTrue}
use Rattle.liq_base.specs.declared.memory.Memory.{Memory}
use Rattle.type_terms.specs.Agrees.{SameVariables}
use Rattle.type_terms.specs.Ground.{Assignment}
use Rattle.type_terms.specs.Term.{Term, meaning}
use Rattle.type_terms.specs.Nested.{AreMarked, mark_at}
use Rattle.type_terms.specs.Table.{Table, Binds, BindsKind, IsSound, Solves, number_at}
use Rattle.type_terms.specs.Differ.{AreNeverSame, AreSame, IsForced, IsKindForced}
use Rattle.type_terms.specs.Narrowed.{IsAnswer, IsNarrowed, IsTrailed, Tells}
use Rattle.type_terms.specs.declared.ty.KindTerm.{KindTerm}
use Rattle.type_terms.specs.declared.unifier.Trail.{Trail}
use Rattle.type_terms.proofs.Bindings.{marked_more, sound_bind, sound_bind_kind, solves_after, solves_after_kind, solves_before, solves_before_kind}
use Rattle.type_terms.proofs.Counting.{count_kind, count_type, keeps_both, keeps_itself, keeps_kind, keeps_type}
use Rattle.type_terms.proofs.Solutions.{solvable}
use Rattle.type_terms.proofs.Trails.{kind_trail_none, kind_trail_push, trail_none, trail_push}

-- nothing is bound, and marks have grown
pub narrowed_none : (left right : Term) (s : Table) (m m' : List Bool) → IsSound s → AreMarked s.types m → length s.types ≤ length m' → ((k : ℕ) → mark_at m k ≡ true → mark_at m' k ≡ true) → IsNarrowed left right s s m m'
narrowed_none left right s m m' h marked l kept = record {
  sound = h;
  marked = marked_more s.types m m' l kept marked;
  marks_kept = kept;
  narrower = λ a n. n;
  kept = λ a n e. n;
  same_variables = record { types = refl; kinds = refl; numbers = λ k. refl; bound = keeps_itself s };
}

-- nothing is bound or marked
pub unchanged : (left right : Term) (s : Table) (m : List Bool) → IsSound s → AreMarked s.types m → IsNarrowed left right s s m m
unchanged left right s m h marked = narrowed_none left right s m m h marked marked.enough (λ k i. i)

pub trailed_none : (s : Table) (trail : Trail) → IsTrailed s s trail trail
trailed_none s trail = record { told = λ o i. i; free = refl }

-- what is bound for one pair, which is equal where the two are, is bound after what was bound before
pub narrowed_both : (left right l r : Term) (s s' s'' : Table) (m m' m'' : List Bool) → IsNarrowed left right s s' m m' → IsNarrowed l r s' s'' m' m'' → ((a : Assignment) → Solves a s' → meaning a left ≡ meaning a right → meaning a l ≡ meaning a r) → IsNarrowed left right s s'' m m''
narrowed_both left right l r s s' s'' m m' m'' f g e = record {
  sound = g.sound;
  marked = g.marked;
  marks_kept = λ k i. g.marks_kept k (f.marks_kept k i);
  narrower = λ a n. f.narrower a (g.narrower a n);
  kept = λ a n q. let o = f.kept a n q in g.kept a o (e a o q);
  same_variables = record {
    types = g.same_variables.types ∙ f.same_variables.types;
    kinds = g.same_variables.kinds ∙ f.same_variables.kinds;
    numbers = λ k. g.same_variables.numbers k ∙ f.same_variables.numbers k;
    bound = keeps_both s s' s'' f.same_variables.bound g.same_variables.bound;
  };
}

pub trailed_both : (s s' s'' : Table) (p p' p'' : Trail) → IsTrailed s s' p p' → IsTrailed s' s'' p' p'' → IsTrailed s s'' p p''
trailed_both s s' s'' p p' p'' f g = record {
  told = λ o i. g.told o (f.told o i);
  free = let a = f.free in let b = g.free in omega (arith, a, b);
}

-- the type variable that makes the two equal is bound
module _ (left right : Term) (s s' : Table) (x : ℕ) (t : Term) (f : IsForced s left right x t) (b : Binds x t s.types s'.types) (ks : s'.kinds ≡ s.kinds) where
  pub narrowed_type : (m m' : List Bool) → IsSound s → AreMarked s'.types m' → ((k : ℕ) → mark_at m k ≡ true → mark_at m' k ≡ true) → IsNarrowed left right s s' m m'
  narrowed_type m m' h marked kept = record {
    sound = sound_bind s s' x t b ks f.avoids f.over f.number h;
    marked = marked;
    marks_kept = kept;
    narrower = solves_before s s' x t b ks;
    kept = λ a n e. solves_after s s' x t b ks a n (f.forced a n e);
    same_variables = record { types = b.same_length; kinds = ap length ks; numbers = b.same_numbers; bound = keeps_type s s' x t b ks };
  }

  pub same_type : AreSame s' left right
  same_type a n = f.enough a (solves_before s s' x t b ks a n) (n.types x t b.here)

  pub trailed_type : (p p' : Trail) → p'.types.items ≡ p.types.items ++ (x ∷ []) → p'.kinds.items ≡ p.kinds.items → IsTrailed s s' p p'
  trailed_type p p' is same = record {
    told = λ o i. record { types = rw is (trail_push x t p.types.items o.types s.types s'.types f.inside i.types b); kinds = rw (same, ks) i.kinds };
    free = let c = count_type s s' x t f.inside b ks in let l : length p'.types.items ≡ length p.types.items + 1 = ap length is ∙ length-append p.types.items (x ∷ []) in let k = ap length same in omega (arith, c, l, k);
  }

-- the same of a kind variable
module _ (left right : Term) (s s' : Table) (x : ℕ) (t : KindTerm) (f : IsKindForced s left right x t) (b : BindsKind x t s.kinds s'.kinds) (vs : s'.types ≡ s.types) where
  pub narrowed_kind : (m : List Bool) → IsSound s → AreMarked s.types m → IsNarrowed left right s s' m m
  narrowed_kind m h marked = record {
    sound = sound_bind_kind s s' x t b vs f.lower h;
    marked = subst (λ us. AreMarked us m) (sym vs) marked;
    marks_kept = λ k i. i;
    narrower = solves_before_kind s s' x t b vs;
    kept = λ a n e. solves_after_kind s s' x t b vs a n (f.forced a n e);
    same_variables = record { types = ap length vs; kinds = b.same_length; numbers = λ k. ap (λ us. number_at us k) vs; bound = keeps_kind s s' x t b vs };
  }

  pub same_kind : AreSame s' left right
  same_kind a n = f.enough a (solves_before_kind s s' x t b vs a n) (n.kinds x t b.here)

  pub trailed_kind : (p p' : Trail) → p'.kinds.items ≡ p.kinds.items ++ (x ∷ []) → p'.types.items ≡ p.types.items → IsTrailed s s' p p'
  trailed_kind p p' is same = record {
    told = λ o i. record { types = rw (same, vs) i.types; kinds = rw is (kind_trail_push x t p.kinds.items o.kinds s.kinds s'.kinds f.inside i.kinds b) };
    free = let c = count_kind s s' x t f.inside b vs in let l : length p'.kinds.items ≡ length p.kinds.items + 1 = ap length is ∙ length-append p.kinds.items (x ∷ []) in let k = ap length same in omega (arith, c, l, k);
  }

-- a trail that began empty tells all that was bound
pub all_told : (s s' : Table) (p p' : Trail) → IsTrailed s s' p p' → p.types.items ≡ [] → p.kinds.items ≡ [] → Tells p' s s'
all_told s s' p p' f types kinds = f.told s (record { types = rw types (trail_none s.types); kinds = rw kinds (kind_trail_none s.kinds) })

-- what is said of the solutions, by what has come out
module _ (left right : Term) (s s' : Table) (m m' : List Bool) (f : IsNarrowed left right s s' m m') where
  pub never_before : AreNeverSame s' left right → AreNeverSame s left right
  never_before n a o e = n a (f.kept a o e) e

  pub most_general : (r : Result Bool Memory) → IfOk r (IsAnswer s' left right) → IfOk r (λ yes. OnTrue yes ((a : Assignment) → Solves a s' ↔ (Solves a s × (meaning a left ≡ meaning a right))))
  most_general (Ok true) h = λ a. (λ n. (f.narrower a n, h a n), λ p. f.kept a p.0 p.1)
  most_general (Ok false) h = tt
  most_general (Err e) h = tt

  pub some_solution : (r : Result Bool Memory) → IfOk r (λ yes. OnTrue yes ((a : Assignment) × Solves a s'))
  some_solution (Ok true) = solvable s' f.sound
  some_solution (Ok false) = tt
  some_solution (Err e) = tt

  pub none : (r : Result Bool Memory) → IfOk r (IsAnswer s' left right) → IfOk r (λ yes. OnFalse yes ((a : Assignment) → Solves a s → meaning a left ≢ meaning a right))
  none (Ok true) h = tt
  none (Ok false) h = never_before h
  none (Err e) h = tt

  pub same_variables : (r : Result Bool Memory) → IfOk r (λ yes. OnTrue yes (SameVariables s s'))
  same_variables (Ok true) = f.same_variables
  same_variables (Ok false) = tt
  same_variables (Err e) = tt
