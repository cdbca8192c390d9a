-- A crossfade that wants, and that is filled.
use Rattle.std.proofs.Common.{◌≡◌, ◌∙◌, ◌<◌, ◌≤◌, ◌↔◌, ◌+◌, ◌*◌, ℕ, zero, suc, List, length, nat_lt, Bool, true, false, cond, IsTrue, arith, ap, sym, subst, inl, inr}
use Rattle.std.proofs.lemmas.Bool.Decides.{nat_tests}
use Rattle.op_cross.proofs.CrossLaws.{cross-many}
use Rattle.std.proofs.lemmas.Bool.{false≢true, cases_lt}
use Rattle.frame_core.specs.Slots.{Slot}
use Rattle.op_cross.specs.Crossfade.{cross}
use Rattle.op_cross.specs.Runs.{least_from, run_of}
use Rattle.op_cross.specs.States.{Crossing, StandsFor}
use Rattle.op_cross.proofs.LeastRuns.{run_of-is}
use Rattle.stream_meaning.specs.Operators.{Work, Plays, Picks, Mixes, Fades, Reads}
use Rattle.stream_meaning.specs.Instants.{Setting, Moment, position}
use Rattle.node_states.specs.declared.state.NodeState.TheVariants.{Cross}
use Rattle.node_states.specs.States.{AreLong, CrossStands, FadesOn, IsSettled, StateStands}

-- what `wants` of a crossfade tells
abbrev pub Tells : Crossing → Bool → Type 0
Tells state wanting = (slots : List Slot) (p : ℕ) → StandsFor state slots p → IsTrue wanting ↔ (length (cross state.overlap slots) ≤ p)

pub cross_settled : (setting : Setting) (sub : ℕ → ℕ → List Slot) (past : List Moment) (filled i : ℕ) (work : Work) (state : Crossing) (wanting : Bool)
    → Tells state wanting → StateStands setting sub past filled i work (Cross state) → wanting ≡ false → IsSettled sub past filled i work
cross_settled setting sub past filled i (Plays leaf) state wanting tells stands is = absurd stands
cross_settled setting sub past filled i (Picks rule eligible) state wanting tells stands is = absurd stands
cross_settled setting sub past filled i (Mixes mixing) state wanting tells stands is = absurd stands
cross_settled setting sub past filled i (Fades overlap) state wanting tells stands is =
    elim (cases_lt (position past i) (length (cross overlap (sub i filled)))) [
      | inl low ↦ low
      | inr high ↦ absurd (false≢true (sym is ∙ (tells (sub i filled) (position past i) stands.stands).1
          (subst (λ (o : ℕ). length (cross o (sub i filled)) ≤ position past i) (sym stands.overlap_is) high)))
    ]
cross_settled setting sub past filled i (Reads buffer) state wanting tells stands is = absurd stands

-- a crossfade's item is settled by more slots than those that settle none
least_from-low : (test : ℕ → Bool) (at most : ℕ) → at ≤ least_from test at most
least_from-low test at zero = omega arith
least_from-low test at (suc most) = by (test at) (least_from-low test (suc at) most)
  where
    by : (b : Bool) → suc at ≤ least_from test (suc at) most → at ≤ cond b at (least_from test (suc at) most)
    by true low = omega arith
    by false low = omega (arith, low)

least_from-above : (test : ℕ → Bool) (at most m : ℕ) → at ≤ m → m ≤ at + most → ((n : ℕ) → at ≤ n → n < m → test n ≡ false) → m ≤ least_from test at most
least_from-above test at zero m low high fails = omega (arith, high)
least_from-above test at (suc most) m low high fails = elim (cases_lt at m) [
  | inl below ↦ (let here : test at ≡ false = fails at (omega arith) below in
      let next = least_from-above test (suc at) most m (omega (arith, below)) (omega (arith, high)) (λ n lower less. fails n (omega (arith, lower)) less) in
      subst (λ (k : ℕ). m ≤ k) (sym (ap (λ (b : Bool). cond b at (least_from test (suc at) most)) here)) next)
  | inr above ↦ (let least = least_from-low test at (suc most) in omega (arith, above, least))
]

lt_false : (a b : ℕ) → b ≤ a → nat_lt a b ≡ false
lt_false a b h = grind (arith, nat_tests)

pub run_of-above : (overlap : ℕ) (slots : ℕ → List Slot) (p filled : ℕ) → ((m : ℕ) → length (slots m) ≡ m)
    → ((m : ℕ) → m < filled → length (cross overlap (slots m)) ≤ p) → length (cross overlap (slots filled)) ≤ p → filled < run_of overlap slots p
run_of-above overlap slots p filled long least here =
    least_from-above (λ m. nat_lt p (length (cross overlap (slots m)))) 0 (2 * p + 2 * overlap + 2) (suc filled) (omega arith) bound
    (λ n low below. lt_false p (length (cross overlap (slots n))) (few n below))
  where
    few : (n : ℕ) → n < suc filled → length (cross overlap (slots n)) ≤ p
    few n below = elim (cases_lt n filled) [
      | inl less ↦ least n less
      | inr high ↦ (let same : filled ≡ n = omega (arith, below, high) in subst (λ (m : ℕ). length (cross overlap (slots m)) ≤ p) same here)
    ]

    bound : suc filled ≤ 0 + (2 * p + 2 * overlap + 2)
    bound = elim (cases_lt filled (2 * p + 2 * overlap + 2)) [
      | inl less ↦ omega (arith, less)
      | inr high ↦ (let is = long filled in let many = cross-many overlap (slots filled) p (omega (arith, is, high)) in omega (arith, here, many))
    ]

-- a crossfade that wants a slot asks for more than it was filled
pub cross_more : (setting : Setting) (sub : ℕ → ℕ → List Slot) (past : List Moment) (filled i : ℕ) (work : Work) (state : Crossing) (wanting : Bool) → AreLong sub
    → Tells state wanting → StateStands setting sub past filled i work (Cross state) → wanting ≡ true → FadesOn sub past filled i work
cross_more setting sub past filled i (Plays leaf) state wanting long tells stands is = absurd stands
cross_more setting sub past filled i (Picks rule eligible) state wanting long tells stands is = absurd stands
cross_more setting sub past filled i (Mixes mixing) state wanting long tells stands is = absurd stands
cross_more setting sub past filled i (Fades overlap) state wanting long tells stands is =
    run_of-above overlap (sub i) (position past i) filled (long.each i) stands.least
    (subst (λ (o : ℕ). length (cross o (sub i filled)) ≤ position past i) stands.overlap_is ((tells (sub i filled) (position past i) stands.stands).0 is))
cross_more setting sub past filled i (Reads buffer) state wanting long tells stands is = absurd stands

-- a settled crossfade was filled the least number of slots
pub cross_run : (sub : ℕ → ℕ → List Slot) (past : List Moment) (filled i overlap : ℕ) (state : Crossing) → AreLong sub
    → CrossStands (sub i) filled (position past i) overlap state → position past i < length (cross overlap (sub i filled))
    → run_of overlap (sub i) (position past i) ≡ filled
cross_run sub past filled i overlap state long stands settled = run_of-is overlap (sub i) (position past i) filled (long.each i) settled stands.least
