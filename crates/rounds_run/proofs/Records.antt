-- The record of calls, by buffers.
use Rattle.std.proofs.Common.{◌≡◌, ◌<◌, ◌≤◌, ◌∙◌, ◌+◌, ◌*◌, ◌++◌, ◌/◌, ◌%◌, ℕ, zero, suc, Bool, true, false, cond, Some, List, [], ◌∷◌, length, map, nat_eq, slice_get, slice_index_or, flat_map, ◌==◌, append-nil, inl, inr, arith, ap, refl, sym, subst}
use mathlib.Core.Path.{fun_ext}
use Rattle.std.proofs.lemmas.Bool.{cases_lt}
use Rattle.std.proofs.lemmas.Bool.Decides.{nat_tests}
use Rattle.plan_core.specs.Plans.{IsWellFormed}
use Rattle.frame_core.specs.declared.cell.Cell.{Cell}
use Rattle.frame_core.specs.Calls.{Call, Took, Given, takes_of, Answer}
use Rattle.stream_meaning.specs.Instants.{Setting, answered}
use Rattle.stream_meaning.specs.Calls.{IsBegin, answers_in, calls_of_tick, joined_upto}
use Rattle.stream_meaning.proofs.Answering.{begin_all, joined_same}
use Rattle.stream_meaning.proofs.Unread.{no_tick_takes, none_in_joined}
use Rattle.stream_meaning.proofs.Sorted.{op_of_reads}
use Rattle.run_records.specs.Records.{AreRoundsBegun, Follows, IsRounds, Run, Window, answers_of, capacity_of, on, rounds_of, rounds_to, setting_in, ticks_of, setting_then, windows_of}
use Rattle.run_records.proofs.Turning.{joined_split, turns_are_rounds}
use Rattle.std.proofs.lemmas.Nat.{mod-mul-add, div-mul-add}
use Rattle.rounds_run.specs.Rounds.{AreTurns, AreTurnsBegun, AreTurnsUpto, calls_of_turns, nothing, world}
use Rattle.rounds_run.proofs.Lawful.{window_of}
use Rattle.rounds_run.proofs.Worlds.{none_begun}

flip : (a b : ℕ) → (b == a) ≡ nat_eq a b
flip a b = by (nat_eq a b) (nat_eq b a) refl refl
  where
    by : (p q : Bool) → nat_eq a b ≡ p → nat_eq b a ≡ q → nat_eq b a ≡ nat_eq a b
    by true true e f = f ∙ sym e
    by false false e f = f ∙ sym e
    by true false e f = absurd (grind (arith, nat_tests, e, f))
    by false true e f = absurd (grind (arith, nat_tests, e, f))

-- the two spellings of the answers of a buffer
pub takes_are : (buffer : ℕ) (calls : List Call) → takes_of buffer calls ≡ answers_in buffer calls
takes_are buffer [] = refl
takes_are buffer (Took of answer ∷ calls) = ap (λ (t : Bool). cond t (answer ∷ takes_of buffer calls) (takes_of buffer calls)) (flip of buffer) ∙ ap (λ (rest : List Answer). cond (nat_eq of buffer) (answer ∷ rest) rest) (takes_are buffer calls)
takes_are buffer (Given to chunk accepted ∷ calls) = takes_are buffer calls

-- the windows of so many buffers from this one on, one each
abbrev pub windows_from : List Call → (b n : ℕ) → List (List Window)
windows_from calls b zero = []
windows_from calls b (suc n) = (window_of b calls ∷ []) ∷ windows_from calls (suc b) n

abbrev pub run_of : (buffers : ℕ) → List Call → Run
run_of buffers calls = record { buffers = windows_from calls 0 buffers }

pub windows_many : (calls : List Call) (b n : ℕ) → length (windows_from calls b n) ≡ n
windows_many calls b zero = refl
windows_many calls b (suc n) = ap suc (windows_many calls (suc b) n)

windows_at : (calls : List Call) (b n k : ℕ) → k < n → slice_index_or (windows_from calls b n) k [] ≡ window_of (b + k) calls ∷ []
windows_at calls b zero k low = absurd (omega (arith, low))
windows_at calls b (suc n) zero low = let same : b ≡ b + 0 = omega arith in ap (λ (m : ℕ). window_of m calls ∷ []) same
windows_at calls b (suc n) (suc k) low = let same : suc b + k ≡ b + suc k = omega arith in windows_at calls (suc b) n k (omega (arith, low)) ∙ ap (λ (m : ℕ). window_of m calls ∷ []) same

windows_past : (calls : List Call) (b n k : ℕ) → n ≤ k → slice_index_or (windows_from calls b n) k [] ≡ []
windows_past calls b zero k high = refl
windows_past calls b (suc n) zero high = absurd (omega (arith, high))
windows_past calls b (suc n) (suc k) high = windows_past calls (suc b) n k (omega (arith, high))

pub window_at : (n : ℕ) (calls : List Call) (b : ℕ) → b < n → windows_of (run_of n calls) b ≡ window_of b calls ∷ []
window_at n calls b low = let same : 0 + b ≡ b = omega arith in windows_at calls 0 n b low ∙ ap (λ (m : ℕ). window_of m calls ∷ []) same

-- what is told of each window of a list of buffers
pub windows_mapped : {A B : Type 0} (f : A → B) (g : List Window → B) (calls : List Call) (b : ℕ) (xs : List A) → ((k : ℕ) (x : A) → slice_get xs k ≡ Some x → f x ≡ g (window_of (b + k) calls ∷ []))
    → map f xs ≡ map g (windows_from calls b (length xs))
windows_mapped f g calls b [] each = refl
windows_mapped {A} {B} f g calls b (x ∷ xs) each =
    let here : b + 0 ≡ b = omega arith in
    let first : f x ≡ g (window_of b calls ∷ []) = each 0 x refl ∙ ap (λ (m : ℕ). g (window_of m calls ∷ [])) here in
    let others = windows_mapped f g calls (suc b) xs (λ k y at. let next : b + suc k ≡ suc b + k = omega arith in each (suc k) y at ∙ ap (λ (m : ℕ). g (window_of m calls ∷ [])) next) in
    λ i. first i ∷ others i

-- the calls of the turns up to one of a clock, by rounds
turns_to : (setting : Setting) (accepted : ℕ → ℕ → Bool) (M r m : ℕ) → m ≤ M
    → calls_of_turns setting accepted M (r * M + m) ≡ rounds_to setting (λ k t. accepted (t * M + k)) M r m
turns_to setting accepted M r m low =
    let calls : ℕ → List Call = λ j. calls_of_tick setting (accepted j) (j % M) (j / M) in
    joined_split calls (r * M) m
    ∙ (λ i. turns_are_rounds setting accepted M r i ++ joined_same (λ j. calls (r * M + j)) (λ k. calls_of_tick setting (accepted (r * M + k)) k r) m
    (λ j below. let inside : j < M = omega (arith, low, below) in (λ n. calls_of_tick setting (accepted (r * M + j)) (mod-mul-add r M j inside n) (div-mul-add r M j inside n))) i)

-- the record of calls that begin those of turns
module _ (setting : Setting) (well : IsWellFormed setting.plan) (clocks turns : ℕ) (calls : List Call) (begun : AreTurnsBegun setting clocks turns calls) where
  -- a buffer that the plan has not got has no answer
  none_past : (buffer : ℕ) → length setting.plan.buffers ≤ buffer → answers_in buffer calls ≡ []
  none_past buffer high =
      let start = begun.begun nothing in
      none_begun buffer calls start.rest (ap (answers_in buffer) (sym start.are)
      ∙ none_in_joined buffer (λ j. calls_of_tick (world setting calls nothing) (begun.accepted j) (j % clocks) (j / clocks))
      (λ j. no_tick_takes (world setting calls nothing) (begun.accepted j) (j % clocks) (j / clocks) buffer
      (record { none = λ rank i node found work below. let low = well.read buffer i (node, found, op_of_reads setting i buffer node work) in omega (arith, low, high) })) turns)

  abbrev run : Run
  run = run_of (length setting.plan.buffers) calls

  answers_are : (buffer : ℕ) → answers_of run buffer ≡ answers_in buffer calls
  answers_are buffer = elim (cases_lt buffer (length setting.plan.buffers)) [
    | inl low ↦ ap (λ (ws : List Window). flat_map (λ (window : Window). window.1) ws) (window_at (length setting.plan.buffers) calls buffer low) ∙ append-nil (takes_of buffer calls) ∙ takes_are buffer calls
    | inr high ↦ ap (λ (ws : List Window). flat_map (λ (window : Window). window.1) ws) (windows_past calls 0 (length setting.plan.buffers) buffer high) ∙ sym (none_past buffer high)
  ]

  pub then_is : (rest : ℕ → List Answer) → setting_then setting run rest ≡ world setting calls rest
  then_is rest = ap (answered setting) (fun_ext (λ buffer. ap (λ (xs : List Answer). xs ++ rest buffer) (answers_are buffer)))

  pub in_is : setting_in setting run ≡ world setting calls nothing
  in_is = ap (answered setting) (fun_ext (λ buffer. answers_are buffer ∙ sym (append-nil (answers_in buffer calls))))

  -- each buffer follows the calls on it
  -- they begin those of the rounds
  pub begun_rounds : (N : ℕ) → turns ≡ N * clocks → (rest : ℕ → List Answer) → (accepted : ℕ → ℕ → ℕ → Bool) × IsBegin calls (rounds_of (setting_then setting run rest) accepted clocks N)
  begun_rounds N all rest = (
    (λ m t. begun.accepted (t * clocks + m)),
    subst (IsBegin calls) (turns_are_rounds (setting_then setting run rest) begun.accepted clocks N)
        (subst (λ (V : Setting). IsBegin calls (calls_of_turns V begun.accepted clocks (N * clocks))) (sym (then_is rest))
        (subst (λ (n : ℕ). IsBegin calls (calls_of_turns (world setting calls rest) begun.accepted clocks n)) all (begun.begun rest))),
  )

  -- they are those of the turns before one of a clock, and a beginning of those of this one
  pub turn_is : (r m : ℕ) → m < clocks → AreTurnsUpto setting clocks (r * clocks + m) calls → (rest : ℕ → List Answer)
      → (accepted : ℕ → ℕ → ℕ → Bool) × IsBegin (rounds_to (setting_then setting run rest) accepted clocks r m) calls × IsBegin calls (rounds_to (setting_then setting run rest) accepted clocks r (suc m))
  turn_is r m low turn rest =
      let V = setting_then setting run rest in let same = then_is rest in let next : suc (r * clocks + m) ≡ r * clocks + suc m = omega arith in (
        (λ k t. turn.accepted (t * clocks + k)),
        subst (λ (cs : List Call). IsBegin cs calls) (ap (λ (W : Setting). calls_of_turns W turn.accepted clocks (r * clocks + m)) (sym same) ∙ turns_to V turn.accepted clocks r m (omega (arith, low))) (turn.whole rest),
        subst (IsBegin calls) (ap (λ (W : Setting). calls_of_turns W turn.accepted clocks (suc (r * clocks + m))) (sym same) ∙ ap (calls_of_turns V turn.accepted clocks) next ∙ turns_to V turn.accepted clocks r (suc m) low) (turn.begun rest),
      )

  -- or all of N rounds
  pub all_turns : (N : ℕ) → turns ≡ N * clocks → AreTurns setting clocks turns calls → (rest : ℕ → List Answer)
      → (accepted : ℕ → ℕ → ℕ → Bool) × IsBegin (rounds_to (setting_then setting run rest) accepted clocks N 0) calls × IsBegin calls (rounds_to (setting_then setting run rest) accepted clocks N 1)
  all_turns N all turned rest =
      let V = setting_then setting run rest in let accepted : ℕ → ℕ → ℕ → Bool = λ k t. turned.accepted (t * clocks + k) in
      let rounds = rounds_of V accepted clocks N in let more = joined_upto (λ m. ticks_of V accepted m N) 1 in
      let is : calls ≡ rounds =
      turned.are rest ∙ ap (λ (n : ℕ). calls_of_turns (world setting calls rest) turned.accepted clocks n) all
      ∙ ap (λ (W : Setting). calls_of_turns W turned.accepted clocks (N * clocks)) (sym (then_is rest)) ∙ turns_are_rounds V turned.accepted clocks N in (
        accepted,
        record { rest = []; are = is ∙ sym (append-nil rounds) ∙ sym (append-nil (rounds ++ [])) },
        record { rest = more; are = ap (λ (cs : List Call). cs ++ more) (sym is) },
      )

  module _ (N : ℕ) (all : turns ≡ N * clocks) (round clock : ℕ)
      (turn : (rest : ℕ → List Answer) → (accepted : ℕ → ℕ → ℕ → Bool)
      × IsBegin (rounds_to (setting_then setting run rest) accepted clocks round clock) calls × IsBegin calls (rounds_to (setting_then setting run rest) accepted clocks round (suc clock))) (in_order : (buffer : ℕ) → buffer < length setting.plan.buffers → (rest : List (List Cell)) × Follows (capacity_of setting buffer) [] (on buffer calls) rest) where
    abbrev pub rounds_begun : AreRoundsBegun setting clocks N run
    rounds_begun = record {
      buffers = windows_many calls 0 (length setting.plan.buffers);
      calls = calls;
      round = round;
      clock = clock;
      turn = turn;
      begun = begun_rounds N all;
      are = window_at (length setting.plan.buffers) calls;
      in_order = in_order;
    }

  module _ (N : ℕ) (all : turns ≡ N * clocks) (in_order : (buffer : ℕ) → buffer < length setting.plan.buffers → (rest : List (List Cell)) × Follows (capacity_of setting buffer) [] (on buffer calls) rest) where
    pub rounds_made : AreTurns setting clocks turns calls → IsRounds setting clocks N run
    rounds_made turned =
        let is : calls ≡ rounds_of (setting_in setting run) (λ m t. turned.accepted (t * clocks + m)) clocks N =
        turned.are nothing ∙ ap (λ (n : ℕ). calls_of_turns (world setting calls nothing) turned.accepted clocks n) all
        ∙ ap (λ (V : Setting). calls_of_turns V turned.accepted clocks (N * clocks)) (sym in_is) ∙ turns_are_rounds (setting_in setting run) turned.accepted clocks N in
        record {
          buffers = windows_many calls 0 (length setting.plan.buffers);
          accepted = λ m t. turned.accepted (t * clocks + m);
          are = λ buffer low. window_at (length setting.plan.buffers) calls buffer low ∙ ap (λ (cs : List Call). window_of buffer cs ∷ []) is;
          in_order = λ buffer low. (
            (in_order buffer low).0,
            subst (λ (cs : List Call). Follows (capacity_of setting buffer) [] (on buffer cs) (in_order buffer low).0) is (in_order buffer low).1,
          );
        }

-- all turns are a beginning of them
pub turned_begun : (setting : Setting) (clocks turns : ℕ) (calls : List Call) → AreTurns setting clocks turns calls → AreTurnsBegun setting clocks turns calls
turned_begun setting clocks turns calls turned = record {
  accepted = turned.accepted;
  begun = λ rest. subst (IsBegin calls) (turned.are rest) (begin_all calls);
}
