-- The windows of a reader that is drawn are those of its ticks.
use Rattle.std.proofs.Common.{◌≡◌, ◌<◌, ◌≤◌, ◌+◌, ◌-◌, ◌*◌, ℕ, zero, suc, Bool, List, [], ◌∷◌, ◌++◌, slice_get, Some, refl, ap, sym, subst, ◌∙◌, arith}
use Rattle.std.proofs.Math.Nat.{suc-mul}
use Rattle.frame_core.specs.Calls.{Call, takes_of, puts_to, Answer}
use Rattle.plan_core.specs.declared.node.Node.{Node}
use Rattle.plan_core.specs.declared.sink.SinkPlan.TheVariants.{Feed}
use Rattle.op_leaf.specs.Readers.{Reader}
use Rattle.op_leaf.specs.Readers as R
use Rattle.stream_meaning.specs.Operators.{Reads}
use Rattle.stream_meaning.specs.Instants.{Setting, next_answers, work_at, new_reading, Reading}
use Rattle.stream_meaning.specs.Calls.{joined_upto, joined_between}
use Rattle.run_records.specs.Buffers.{feeder, reader}
use Rattle.run_records.specs.Records.{Window, calls_in, start, windows_in}
use Rattle.run_records.specs.Pace.{IsDrawn, AreTicks, takes_in, answers_after, reader_after}
use Rattle.run_records.proofs.Flattening.{takes-append, start_up, start_zero}
use Rattle.run_records.proofs.Turning.{joined_split}
use Rattle.run_records.proofs.Running.{runs_in}
use Rattle.run_records.proofs.Putting.{window_puts}
use Rattle.run_records.proofs.Drawing.{At, Before, next_reader, next_untaken}
use Rattle.run_records.proofs.Drawn.{tick_takes}

-- the windows from j on
from : (ℕ → Window) → (j count : ℕ) → List Window
from w j zero = []
from w j (suc count) = w j ∷ from w (suc j) count

from_last : (w : ℕ → Window) (j count : ℕ) → from w j (suc count) ≡ from w j count ++ w (j + count) ∷ []
unfolding from
from_last w j zero = let none : j ≡ j + 0 = omega arith in ap (λ (n : ℕ). w n ∷ []) none
from_last w j (suc count) =
    let up : suc j + count ≡ j + suc count = omega arith in
    ap (λ (l : List Window). w j ∷ l) (from_last w (suc j) count) ∙ ap (λ (n : ℕ). w j ∷ (from w (suc j) count ++ w n ∷ [])) up

pub start_next : (W N j : ℕ) → start W N (suc j) ≤ start W N j + W
start_next W N j = omega (arith, suc-mul j W)

module _ (setting : Setting) (clocks : ℕ) (accepted : ℕ → ℕ → ℕ → Bool) (b W N m i : ℕ) (node : Node) (is : IsDrawn setting b m i node) (some : 1 ≤ setting.plan.frame)
    (only : (k : ℕ) (other : Node) → slice_get setting.plan.nodes k ≡ Some other → work_at setting k other ≡ Reads b → k ≡ i)
    (fed : (p q x y : ℕ) → slice_get setting.plan.sinks p ≡ Some (Feed b x) → slice_get setting.plan.sinks q ≡ Some (Feed b y) → p ≡ q)
    (reads : reader setting b ≡ m) (runs : m < clocks) where
  abbrev Left : ℕ → List Answer
  Left t = next_answers (setting.answers b) (At setting b m i node is some t)

  abbrev Now : ℕ → Reader
  Now t = (At setting b m i node is some t).reader

  tick_in : (t : ℕ) → takes_of b (calls_in setting clocks accepted m t) ≡ R.reader_takes (Left t) (Now t)
  tick_in t = ap (takes_of b) (runs_in setting clocks accepted m t runs) ∙ tick_takes b setting m i node is some only (accepted m t) t

  span : (n s : ℕ) (calls : ℕ → List Call) → ((j : ℕ) → calls j ≡ calls_in setting clocks accepted m (s + j)) → takes_of b (joined_upto calls n) ≡ takes_in n (Left s) (Now s)
  span zero s calls same = refl
  span (suc n) s calls same =
      let one : suc n ≡ 1 + n = omega arith in
      let none : s + 0 ≡ s = omega arith in
      let rest : takes_of b (joined_upto (λ j. calls (1 + j)) n) ≡ takes_in n (Left (suc s)) (Now (suc s)) =
      span n (suc s) (λ j. calls (1 + j)) (λ j. let up : s + (1 + j) ≡ suc s + j = omega arith in same (1 + j) ∙ ap (calls_in setting clocks accepted m) up) in
      let first : takes_of b (calls 0) ≡ R.reader_takes (Left s) (Now s) = ap (takes_of b) (same 0 ∙ ap (calls_in setting clocks accepted m) none) ∙ tick_in s in
      ap (λ (k : ℕ). takes_of b (joined_upto calls k)) one ∙ ap (takes_of b) (joined_split calls 1 n)
      ∙ takes-append b (calls 0) (joined_upto (λ j. calls (1 + j)) n)
      ∙ (λ x. first x ++ rest x)
      ∙ (λ x. R.reader_takes (Left s) (Now s) ++ takes_in n (next_untaken setting b m i node is some s x) (next_reader setting b m i node is some s x))

  left_at : (n s : ℕ) → answers_after n (Left s) (Now s) ≡ Left (s + n)
  left_at zero s = let none : s ≡ s + 0 = omega arith in ap Left none
  left_at (suc n) s =
      let up : suc s + n ≡ s + suc n = omega arith in
      sym (λ x. answers_after n (next_untaken setting b m i node is some s x) (next_reader setting b m i node is some s x)) ∙ left_at n (suc s) ∙ ap Left up

  now_at : (n s : ℕ) → reader_after n (Left s) (Now s) ≡ Now (s + n)
  now_at zero s = let none : s ≡ s + 0 = omega arith in ap Now none
  now_at (suc n) s =
      let up : suc s + n ≡ s + suc n = omega arith in
      sym (λ x. reader_after n (next_untaken setting b m i node is some s x) (next_reader setting b m i node is some s x)) ∙ now_at n (suc s) ∙ ap Now up

  abbrev window : ℕ → Window
  window j = (
    puts_to b (joined_between (calls_in setting clocks accepted (feeder setting b)) (start W N j) (start W N (suc j))),
    takes_of b (joined_between (calls_in setting clocks accepted (reader setting b)) (start W N j) (start W N (suc j))),
  )

  windows_are : (count : ℕ) → windows_in setting clocks accepted b W N count ≡ from window 0 count
  unfolding from
  windows_are zero = refl
  windows_are (suc count) =
      let none : count ≡ 0 + count = omega arith in
      ap (λ (l : List Window). l ++ window count ∷ []) (windows_are count) ∙ ap (λ (n : ℕ). from window 0 count ++ window n ∷ []) none ∙ sym (from_last window 0 count)

  are_ticks : (count j : ℕ) → AreTicks W (Left (start W N j)) (Now (start W N j)) (from window j count)
  unfolding from
  are_ticks zero j = tt
  are_ticks (suc count) j =
      let n = start W N (suc j) - start W N j in
      let up = start_up W N j in
      let whole : start W N j + n ≡ start W N (suc j) = omega (arith, up) in (
        n,
        omega (arith, start_next W N j),
        window_puts setting clocks accepted b (feeder setting b) (start W N j) (start W N (suc j)) fed,
        span n (start W N j) (λ k. calls_in setting clocks accepted (reader setting b) (start W N j + k)) (λ k. ap (λ (q : ℕ). calls_in setting clocks accepted q (start W N j + k)) reads),
        subst (λ (l : List Answer). AreTicks W l (reader_after n (Left (start W N j)) (Now (start W N j))) (from window (suc j) count)) (sym (left_at n (start W N j) ∙ ap Left whole))
            (subst (λ (r : Reader). AreTicks W (Left (start W N (suc j))) r (from window (suc j) count)) (sym (now_at n (start W N j) ∙ ap Now whole))
            (are_ticks count (suc j))),
      )

  at_first : At setting b m i node is some (start W N 0) ≡ new_reading setting b
  at_first = let none : start W N 0 * setting.plan.frame ≡ 0 = (let zero_is = start_zero W N in ap (λ (n : ℕ). n * setting.plan.frame) zero_is ∙ omega arith) in
      ap (Before setting b m i node is some) none

  pub drawn_ticks : (count : ℕ) → AreTicks W (setting.answers b) (new_reading setting b).reader (windows_in setting clocks accepted b W N count)
  drawn_ticks count =
      subst (λ (l : List Window). AreTicks W (setting.answers b) (new_reading setting b).reader l) (sym (windows_are count))
      (subst (λ (r : Reading). AreTicks W (next_answers (setting.answers b) r) r.reader (from window 0 count)) at_first (are_ticks count 0))
