-- No buffer is read under two main clocks.
use Rattle.std.proofs.Common.{◌≡◌, ◌<◌, ◌∙◌, ℕ, zero, suc, Bool, true, false, Some, length, arith, refl, ap, sym, subst, ◌⊎◌, inl, inr}
use Rattle.std.proofs.lemmas.Bool.{cases_lt, false≢true}
use Rattle.std.proofs.lemmas.Option.{slice_get_within}
use Rattle.plan_core.specs.Plans.{IsWellFormed}
use Rattle.clock_infer.specs.declared.clock_map.NodeClock.{NodeClock}
use Rattle.clock_infer.specs.declared.clock_map.NodeClock.TheVariants.{Main, Sub}
use Rattle.clock_infer.proofs.MapLaws.{ranks}
use Rattle.stream_meaning.specs.Instants.{Setting, clock_of}
use Rattle.stream_meaning.specs.Calls.{IsBelow, IsUnread}
use Rattle.stream_meaning.proofs.Ranks.{AreNested, deeper}
use Rattle.clock_nodes.proofs.Places.{same_or_other}
use Rattle.stream_meaning.proofs.Sorted.{op_of_reads}
use Rattle.clock_ticks.specs.Engines.{AreClocksOf}
use Rattle.clock_ticks.proofs.Mapped.{nested}

abbrev main_of : NodeClock → ℕ
main_of (Main m) = m
main_of (Sub k) = 0

abbrev sub_in : NodeClock → ℕ
sub_in (Main m) = 0
sub_in (Sub k) = k

abbrev is_sub : NodeClock → Bool
is_sub (Main m) = false
is_sub (Sub k) = true

main_twice : (m n : ℕ) (clock : NodeClock) → clock ≡ Main m → clock ≡ Main n → m ≡ n
main_twice m n clock a b = ap main_of (sym a ∙ b)

sub_twice : (j k : ℕ) (clock : NodeClock) → clock ≡ Sub j → clock ≡ Sub k → j ≡ k
sub_twice j k clock a b = ap sub_in (sym a ∙ b)

main_and_sub : (m k : ℕ) (clock : NodeClock) → clock ≡ Main m → clock ≡ Sub k → ⊥
main_and_sub m k clock a b = false≢true (ap is_sub (sym a ∙ b))

-- a node lies under one main clock
below_one : (setting : Setting) (m n rank other i : ℕ) → IsBelow setting (Main m) rank i → IsBelow setting (Main n) other i → m ≡ n
below_one setting m n zero zero i a b = main_twice m n (clock_of setting i) a b
below_one setting m n zero (suc other) i a b = absurd (main_and_sub m b.0 (clock_of setting i) a b.1)
below_one setting m n (suc rank) zero i a b = absurd (main_and_sub n a.0 (clock_of setting i) b a.1)
below_one setting m n (suc rank) (suc other) i a b =
    let same : b.0 ≡ a.0 = sub_twice b.0 a.0 (clock_of setting i) b.1 a.1 in
    below_one setting m n rank other a.0 a.2 (subst (λ k. IsBelow setting (Main n) other k) same b.2)

-- each node lies under a main clock
abbrev HasMain : Setting → ℕ → Type 0
HasMain setting i = (m : ℕ) × (rank : ℕ) × IsBelow setting (Main m) rank i

module _ (setting : Setting) (of : AreClocksOf setting.plan setting.clocks) (in_clocks : length setting.clocks ≡ length setting.plan.nodes) where
  abbrev rank_of : ℕ → ℕ
  rank_of = (ranks setting.plan of.map of.assigned).0

  nested_here : AreNested of.map (clock_of setting) (length setting.plan.nodes) rank_of (ranks setting.plan of.map of.assigned).1
  nested_here = nested setting.plan setting.clocks of in_clocks

  above_step : (r i : ℕ) → i < length setting.plan.nodes → rank_of i ≡ r → ((k : ℕ) → k < length setting.plan.nodes → suc (rank_of k) ≡ r → HasMain setting k)
      → (clock : NodeClock) → clock_of setting i ≡ clock → HasMain setting i
  above_step r i within is rec (Main m) at = (m, 0, at)
  above_step r i within is rec (Sub k) at =
      let down = deeper of.map (clock_of setting) (length setting.plan.nodes) rank_of (ranks setting.plan of.map of.assigned).1 nested_here i k within at in
      let there = nested_here.within i k (nested_here.there i within ∙ ap Some at) in
      let up = rec k there (sym down ∙ is) in
      (up.0, suc up.1, (k, at, up.2))

  above : (r i : ℕ) → i < length setting.plan.nodes → rank_of i ≡ r → HasMain setting i
  above zero i within is = above_step zero i within is (λ k low e. absurd (omega (arith, e))) (clock_of setting i) refl
  above (suc r) i within is = above_step (suc r) i within is (λ k low e. above r k low (omega (arith, e))) (clock_of setting i) refl

  -- of two main clocks one does not read a buffer
  pub unread_or : IsWellFormed setting.plan → (buffer m n : ℕ) → (m ≡ n → ⊥) → IsUnread setting (Main m) buffer ⊎ IsUnread setting (Main n) buffer
  unread_or well buffer m n apart = elim (cases_lt buffer (length setting.plan.buffers)) [
    | inr high ↦ inl (record { none = λ rank i node found work below. let low = well.read buffer i (node, found, op_of_reads setting i buffer node work) in omega (arith, low, high) })
    | inl low ↦ (let one = well.one_reader buffer low in
        let its = above (rank_of one.0) one.0 (slice_get_within setting.plan.nodes one.0 one.1.0 one.1.1) refl in
        let unread : (q : ℕ) → (q ≡ its.0 → ⊥) → IsUnread setting (Main q) buffer = λ q other. record {
          none = λ rank i node found work below.
              let same = one.2 i (node, found, op_of_reads setting i buffer node work) in
              other (below_one setting q its.0 rank its.1 one.0 (subst (λ k. IsBelow setting (Main q) rank k) same below) its.2);
        } in
        elim (same_or_other m its.0) [
          | inl same ↦ inr (unread n (λ e. apart (same ∙ sym e)))
          | inr other ↦ inl (unread m other)
        ])
  ]
