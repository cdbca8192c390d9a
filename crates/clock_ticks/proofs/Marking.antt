-- Lists of marks that are changed in place, one by one.
use Rattle.std.proofs.Common.{◌≡◌, ◌<◌, ◌≤◌, ◌∙◌, ℕ, suc, Some, List, [], length, set, slice_get, append-nil, arith, refl, ap, sym, subst, inl, inr}
use Rattle.std.proofs.lemmas.Bool.{cases_lt}
use Rattle.std.proofs.lemmas.Option.{slice_get_within}
use Rattle.std.proofs.Math.ListN.{length-set}
use Rattle.clock_nodes.proofs.Places.{same_or_other, slice_get-set_other, slice_get-set_same}
use Rattle.clock_ticks.specs.declared.cues.CueList.{CueList}
use Rattle.clock_ticks.specs.Cues.{HasGrown, HasKept}

-- the first n lists were changed in this way
pub record AreChanged (R : ℕ → CueList → CueList → Type 0) (n : ℕ) (first now : List CueList) : Type 0 where
  pub size : length now ≡ length first
  pub done : (k : ℕ) (old new : CueList) → k < n → slice_get first k ≡ Some old → slice_get now k ≡ Some new → R k old new
  pub rest : (k : ℕ) → n ≤ k → slice_get now k ≡ slice_get first k

module _ (R : ℕ → CueList → CueList → Type 0) where
  pub none_changed : (first : List CueList) → AreChanged R 0 first first
  none_changed first = record { size = refl; done = λ k old new low. absurd (omega (arith, low)); rest = λ k high. refl }

  -- one more
  pub one_changed : (n next : ℕ) (first now : List CueList) (old new : CueList) → next ≡ suc n → slice_get now n ≡ Some old → R n old new → AreChanged R n first now
      → AreChanged R next first (set now n new)
  one_changed n next first now old new sum at one changed = record {
    size = length-set now n new ∙ changed.size;
    done = λ k a b low at_a at_b. elim (same_or_other n k) [
      | inl same ↦ (
          let within : n < length now = slice_get_within now n old at in
          let is_b : Some new ≡ Some b = sym (slice_get-set_same now n new within) ∙ ap (slice_get (set now n new)) same ∙ at_b in
          let is_a : Some old ≡ Some a = sym at ∙ changed.rest n (omega arith) ∙ ap (slice_get first) same ∙ at_a in
          let b_is : new ≡ b = cc in
          let a_is : old ≡ a = cc in
          subst (λ m. R m a b) same (subst (λ x. R n x b) a_is (subst (λ y. R n old y) b_is one)))
      | inr other ↦ changed.done k a b (omega (arith, low, sum, other)) at_a (sym (slice_get-set_other now n k new other) ∙ at_b)
    ];
    rest = λ k high. slice_get-set_other now n k new (λ e. omega (arith, high, sum, e)) ∙ changed.rest k (omega (arith, high, sum));
  }

  -- all were
  pub all_changed : (n : ℕ) (first now : List CueList) → length first ≤ n → AreChanged R n first now
      → (k : ℕ) (old new : CueList) → slice_get first k ≡ Some old → slice_get now k ≡ Some new → R k old new
  all_changed n first now all changed k old new at_old at_new =
      changed.done k old new (let within = slice_get_within first k old at_old in omega (arith, within, all)) at_old at_new

-- no marks more
pub same_kept : (list : CueList) → HasKept [] list list
same_kept list = record { marks = sym (append-nil list.marks.items); before = refl }

pub same_grown : (list : CueList) → HasGrown list list
same_grown list = record { more = []; kept = same_kept list }

-- where the first ones have grown, and the next one has or has not, all have
pub grown_upto : (n : ℕ) (first now : List CueList) (old new : CueList) → slice_get now n ≡ Some old → HasGrown old new → AreChanged (λ k a b. HasGrown a b) n first now
    → (k : ℕ) (a b : CueList) → slice_get first k ≡ Some a → slice_get (set now n new) k ≡ Some b → HasGrown a b
grown_upto n first now old new at grown changed k a b at_a at_b =
    by (one_changed (λ j x y. HasGrown x y) n (suc n) first now old new refl at grown changed)
  where
    by : AreChanged (λ j x y. HasGrown x y) (suc n) first (set now n new) → HasGrown a b
    by all = elim (cases_lt k (suc n)) [
      | inl low ↦ all.done k a b low at_a at_b
      | inr high ↦ (let same : Some b ≡ Some a = sym at_b ∙ all.rest k high ∙ at_a in
          let is : b ≡ a = cc in
          subst (λ y. HasGrown a y) (sym is) (same_grown a))
    ]
