-- Behind the first instant of a stretch no call is made.
use Rattle.std.proofs.Common.{◌≡◌, ◌<◌, ◌≤◌, ◌+◌, ◌-◌, ◌%◌, ◌∙◌, ◌++◌, ℕ, suc, Bool, true, false, Option, Some, None, List, [], length, nat_eq, slice_get, arith, refl, ap, sym, subst}
use Rattle.std.specs.Prelude.{is_some}
use Rattle.std.proofs.lemmas.Bool.{false≢true}
use Rattle.plan_core.specs.declared.node.Node.{Node}
use Rattle.plan_core.specs.Plans.{AreNodes}
use Rattle.clock_infer.specs.declared.clock_map.NodeClock.{NodeClock}
use Rattle.clock_infer.specs.declared.clock_map.NodeClock.TheVariants.{Sub}
use Rattle.frame_core.specs.Calls.{Call}
use Rattle.frame_core.specs.Slots.{Slot}
use Rattle.op_cross.specs.Runs.{run_of}
use Rattle.stream_meaning.specs.Operators.{Work, Plays, Picks, Mixes, Fades, Reads}
use Rattle.stream_meaning.specs.Instants.{Setting, Moment, gives, first_instants, lies_in, moment_after, offer, position, work_at}
use Rattle.stream_meaning.specs.Calls.{GoDown, calls_of, fades_by, fades_in, joined_between, joined_upto, takes_at, takes_by, takes_in}
use Rattle.stream_meaning.proofs.Answering.{joined_skip}
use Rattle.stretch_laws.specs.Stretches.{AreQuiet, IsNode, IsOn, IsStretch, going_on}
use Rattle.stretch_laws.proofs.Stretching.{on_all}

none_upto : (calls : ℕ → List Call) (n : ℕ) → ((j : ℕ) → j < n → calls j ≡ []) → joined_upto calls n ≡ []
none_upto calls n none = joined_skip calls 0 n (omega arith) (λ j above low. none j low)

none_between : (calls : ℕ → List Call) (from to : ℕ) → ((m : ℕ) → from ≤ m → m < to → calls m ≡ []) → joined_between calls from to ≡ []
none_between calls from to none = none_upto (λ j. calls (from + j)) (to - from) (λ j low. none (from + j) (omega arith) (omega (arith, low)))

module _ (setting : Setting) (sub : ℕ → ℕ → List Slot) (clock : NodeClock) (past : List Moment) (instants : ℕ) (nodes : AreNodes setting.plan.nodes)
    (stretch : IsStretch setting sub clock past instants) (i : ℕ) (within : suc i < instants) where
  abbrev First : Moment
  First = moment_after setting sub clock past

  abbrev Before : List Moment
  Before = going_on setting sub clock i past

  abbrev Later : List Moment
  Later = going_on setting sub clock (suc i) past

  on_before : IsOn setting sub clock past i Before
  on_before = on_all setting sub clock past instants nodes stretch i (omega (arith, within))

  on_later : IsOn setting sub clock past (suc i) Later
  on_later = on_all setting sub clock past instants nodes stretch (suc i) (omega (arith, within))

  reads_none : (k : ℕ) (node : Node) → IsNode setting clock k node → nat_eq (length Later % setting.plan.frame) 0 ≡ true → (work : Work) → work_at setting k node ≡ work
      → takes_by setting Later k work ≡ []
  reads_none k node is tick (Plays leaf) at = refl
  reads_none k node is tick (Picks choice eligible) at = refl
  reads_none k node is tick (Mixes mixing) at = refl
  reads_none k node is tick (Fades overlap) at = refl
  reads_none k node is tick (Reads buffer) at =
      let none = ap (λ n. nat_eq (n % setting.plan.frame) 0) on_later.long ∙ stretch.ticks k node buffer (suc i) is at (omega arith) within in
      absurd (false≢true (sym none ∙ tick))

  takes_none : (k : ℕ) (inside : Bool) (found : Option Node) → lies_in setting clock k ≡ inside → slice_get setting.plan.nodes k ≡ found
      → nat_eq (length Later % setting.plan.frame) 0 ≡ true → takes_in setting inside Later k found ≡ []
  takes_none k inside None e at tick = refl
  takes_none k false (Some node) e at tick = refl
  takes_none k true (Some node) e at tick = reads_none k node (record { there = at; inside = e }) tick (work_at setting k node) refl

  pub no_takes : takes_at setting clock Later ≡ []
  no_takes = by (nat_eq (length Later % setting.plan.frame) 0) refl
    where
      by : (tick : Bool) → nat_eq (length Later % setting.plan.frame) 0 ≡ tick → takes_at setting clock Later ≡ []
      by false e = rw e refl
      by true e = rw e (none_upto (λ k. takes_in setting (lies_in setting clock k) Later k (slice_get setting.plan.nodes k)) (length setting.plan.nodes)
          (λ k low. takes_none k (lies_in setting clock k) (slice_get setting.plan.nodes k) refl refl e))

  abbrev Below : ℕ → ℕ → List Call
  Below k m = calls_of setting sub (Sub k) (first_instants setting sub (Sub k) m)

  fades_none : AreQuiet setting sub clock past instants → (k : ℕ) (node : Node) → IsNode setting clock k node → (work : Work) → work_at setting k node ≡ work
      → fades_by sub Below Later k work ≡ []
  fades_none quiet k node is (Plays leaf) at = refl
  fades_none quiet k node is (Picks choice eligible) at = refl
  fades_none quiet k node is (Mixes mixing) at = refl
  fades_none quiet k node is (Reads buffer) at = refl
  fades_none quiet k node is (Fades overlap) at =
      none_between (Below k) (run_of overlap (sub k) (position Before k)) (run_of overlap (sub k) (position Later k)) (by (gives First k) refl)
    where
      by : (gave : Bool) → gives First k ≡ gave → (m : ℕ) → run_of overlap (sub k) (position Before k) ≤ m → m < run_of overlap (sub k) (position Later k) → Below k m ≡ []
      by true g m high low =
          quiet.each k node overlap i m is at g within
          (subst (λ p. run_of overlap (sub k) p ≤ m) (on_before.passed k g) high)
          (subst (λ p. m < run_of overlap (sub k) p) (on_later.passed k g) low)
      by false g m high low =
          let there : is_some (offer First k) ≡ true = stretch.items k node overlap (suc i) is at (omega arith) within in
          let same : run_of overlap (sub k) (position Before k) ≡ run_of overlap (sub k) (position Later k) =
          ap (run_of overlap (sub k)) (on_before.held k g there ∙ sym (on_later.held k g there)) in
          absurd (omega (arith, same, high, low))

  fades_in_none : AreQuiet setting sub clock past instants → (k : ℕ) (inside : Bool) (found : Option Node) → lies_in setting clock k ≡ inside → slice_get setting.plan.nodes k ≡ found
      → fades_in setting sub Below inside Later k found ≡ []
  fades_in_none quiet k inside None e at = refl
  fades_in_none quiet k false (Some node) e at = refl
  fades_in_none quiet k true (Some node) e at = fades_none quiet k node (record { there = at; inside = e }) (work_at setting k node) refl

  pub no_calls : GoDown setting sub → AreQuiet setting sub clock past instants → calls_of setting sub clock Later ≡ []
  no_calls down quiet =
      let fades : joined_upto (λ k. fades_in setting sub Below (lies_in setting clock k) Later k (slice_get setting.plan.nodes k)) (length setting.plan.nodes) ≡ [] =
      none_upto (λ k. fades_in setting sub Below (lies_in setting clock k) Later k (slice_get setting.plan.nodes k)) (length setting.plan.nodes)
      (λ k low. fades_in_none quiet k (lies_in setting clock k) (slice_get setting.plan.nodes k) refl refl) in
      down.each clock Later
      ∙ ap (λ (l : List Call). l ++ joined_upto (λ k. fades_in setting sub Below (lies_in setting clock k) Later k (slice_get setting.plan.nodes k)) (length setting.plan.nodes)) no_takes
      ∙ fades
