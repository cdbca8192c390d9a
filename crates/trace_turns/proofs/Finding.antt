-- Passes over the clocks.
use Rattle.std.proofs.Common.{◌≡◌, ◌≢◌, ◌<◌, ◌≤◌, ◌+◌, ◌-◌, ◌*◌, ◌∙◌, ◌⊎◌, ℕ, zero, suc, Bool, true, false, cond, nat_eq, List, [], ◌∷◌, length, replicate, slice_index_or, inl, inr, refl, ap, sym, subst, arith, suc-mul, get_or-set_same, get_or-set_other, length-set}
use Rattle.std.specs.Prelude.{slice_set}
use mathlib.Core.Path.{fun_ext}
use Rattle.std.proofs.lemmas.Bool.{cases_lt, cases_eq}
use Rattle.std.proofs.lemmas.List.{get_or_default}
use Rattle.std.proofs.lemmas.Bool.Decides.{nat_tests}
use Rattle.clock_infer.specs.declared.clock_map.ClockMap.{ClockMap}
use Rattle.frame_core.specs.declared.cell.Cell.{Cell}
use Rattle.stream_meaning.specs.Instants.{Setting}
use Rattle.stream_meaning.specs.Settings.{IsSetting}
use Rattle.trace_turns.specs.declared.ends.Ends.{Ends}
use Rattle.trace_records.specs.Clocks.{Log}
use Rattle.trace_records.specs.Passes.{AreAt, HasCome, HasTurned, IsHalted, IsOrderedText, IsRefused}
use Rattle.trace_turns.specs.Answering.{BufferState}
use Rattle.trace_turns.specs.Turns.{AreFit, chunks_of}
use Rattle.trace_turns.proofs.Searching.{ArePassing, AreStuck, made_of, total}
use Rattle.trace_records.proofs.Completing.{begun as begun_clocks}
use Rattle.trace_records.proofs.Passing.{put_at, refused_none, stuck_none}
use Rattle.trace_records.proofs.Turning.{ahead, halted_same, none_comes, turned}

total_set : (ns : List ℕ) (k n : ℕ) → k < length ns → total (slice_set ns k n) + made_of ns k ≡ total ns + n
total_set [] k n low = absurd (omega (arith, low))
total_set (x ∷ ns) zero n low = omega arith
total_set (x ∷ ns) (suc k) n low = (let more = total_set ns k n (omega (arith, low)) in omega (arith, more))

total_most : (ns : List ℕ) (N : ℕ) → ((k : ℕ) → k < length ns → made_of ns k ≤ N) → total ns ≤ length ns * N
total_most [] N each = omega arith
total_most (x ∷ ns) N each =
    let more = total_most ns N (λ k low. each (suc k) (omega (arith, low))) in
    let here = each 0 (omega arith) in
    let m = suc-mul (length ns) N in omega (arith, more, here, m)

both_full : (x r L N : ℕ) → x ≤ N → r ≤ L * N → x + r ≡ suc L * N → (x ≡ N) × (r ≡ L * N)
both_full x r L N low most full = (let m = suc-mul L N in (omega (arith, m, low, most, full), omega (arith, m, low, most, full)))

total_full : (ns : List ℕ) (N : ℕ) → ((k : ℕ) → k < length ns → made_of ns k ≤ N) → total ns ≡ length ns * N → (k : ℕ) → k < length ns → made_of ns k ≡ N
total_full [] N each full k low = absurd (omega (arith, low))
total_full (x ∷ ns) N each full zero low = (both_full x (total ns) (length ns) N (each 0 (omega arith)) (total_most ns N (λ k low. each (suc k) (omega (arith, low)))) full).0
total_full (x ∷ ns) N each full (suc k) low = total_full ns N (λ k low. each (suc k) (omega (arith, low)))
    (both_full x (total ns) (length ns) N (each 0 (omega arith)) (total_most ns N (λ k low. each (suc k) (omega (arith, low)))) full).1 k (omega (arith, low))

-- a clock came to n ticks
pub made_now : (made : List ℕ) (m n : ℕ) → m < length made → (k : ℕ) → put_at m n (made_of made) k ≡ made_of (slice_set made m n) k
made_now made m n there k = by (cases_eq k m)
  where
    by : (k ≡ m) ⊎ (k ≢ m) → put_at m n (made_of made) k ≡ made_of (slice_set made m n) k
    by (inl e) = (let on : nat_eq k m ≡ true = grind (arith, nat_tests, e) in
        ap (λ (s : Bool). cond s n (made_of made k)) on ∙ sym (ap (λ j. made_of (slice_set made m n) j) e ∙ get_or-set_same made m n 0 there))
    by (inr other) = (let off : nat_eq k m ≡ false = grind (arith, nat_tests, other) in
        ap (λ (s : Bool). cond s n (made_of made k)) off ∙ sym (get_or-set_other made m k n 0 other))

-- clocks that have made some ticks as a text tells
module _ (base : Setting) (clocks : ClockMap) (is : IsSetting base clocks) (W N : ℕ) (text : ℕ → Log) (made : List ℕ) (left : ℕ) (chunks : ℕ → List (List Cell)) (size : length made ≡ clocks.running)
    (counts : left + total made ≡ clocks.running * N) (at : AreAt base clocks.running W N text (made_of made) chunks) where
  pub within_here : (k : ℕ) → k < length made → made_of made k ≤ N
  within_here k low = ((at.clock k (omega (arith, low, size))).within)

  -- one of them comes to n ticks, as far as before or farther
  module _ (m : ℕ) (low : m < clocks.running) (n : ℕ) (next : ℕ → List (List Cell)) (come : HasCome base W N text m n chunks next) (far : made_of made m ≤ n) where
    there : m < length made
    there = omega (arith, low, size)

    pub at_next : AreAt base clocks.running W N text (made_of (slice_set made m n)) next
    at_next = subst (λ (f : ℕ → ℕ). AreAt base clocks.running W N text f next) (fun_ext (made_now made m n there)) (turned base clocks is W N text (made_of made) chunks at m low n far next come)

    -- so many ticks fewer are left
    pub few_left : n - made_of made m ≤ left
    few_left =
        let sum = total_set made m n there in
        let long = length-set made m n in
        let now = at_next in
        let most = total_most (slice_set made m n) N (λ k less. (now.clock k (omega (arith, less, long, size))).within) in
        let same : length (slice_set made m n) * N ≡ clocks.running * N = ap (λ j. j * N) (long ∙ size) in
        omega (arith, sum, most, same, counts)

    pub counts_next : (left - (n - made_of made m)) + total (slice_set made m n) ≡ clocks.running * N
    counts_next = (let few = few_left in let sum = total_set made m n there in omega (arith, far, few, sum, counts))

  -- all ticks were made
  pub done_here : left ≡ 0 → (k : ℕ) → k < clocks.running → made_of made k ≡ N
  done_here none k low = (let e = ap (λ j. j * N) size in total_full made N within_here (omega (arith, counts, none, e)) k (omega (arith, low, size)))

module _ (base : Setting) (clocks : ClockMap) (is : IsSetting base clocks) (W N : ℕ) (ends : List Ends) (first : List BufferState) where
  abbrev Passing : List ℕ → ℕ → List BufferState → Type 0
  Passing made left states = ArePassing base clocks W N ends first made left states

  -- before the first pass
  pub begin_passes : (made : List ℕ) (left : ℕ) → length made ≡ clocks.running → ((k : ℕ) → made_of made k ≡ 0) → total made ≡ 0 → left ≡ clocks.running * N → ((b : ℕ) → chunks_of first b ≡ []) → Passing made left first
  begin_passes made left size none sum count empty = record {
    size = size;
    counts = omega (arith, sum, count);
    many = refl;
    fit = λ text fit. fit;
    at = λ text fit. subst (AreAt base clocks.running W N text (made_of made)) (fun_ext (λ b. sym (empty b)))
        (subst (λ (f : ℕ → ℕ). AreAt base clocks.running W N text f (λ b. [])) (fun_ext (λ k. sym (none k))) (begun_clocks base clocks is W N text fit.formed));
  }

  -- no clock made more ticks than there are
  within_all : (made : List ℕ) (left : ℕ) (states : List BufferState) → Passing made left states → (text : ℕ → Log) → AreFit base W N text first ends → (k : ℕ) → k < length made → made_of made k ≤ N
  within_all made left states passing text fit = within_here base clocks is W N text made left (chunks_of states) passing.size passing.counts (passing.at text fit)

  -- a turn of clock m
  module _ (made : List ℕ) (left : ℕ) (states : List BufferState) (passing : Passing made left states) (m : ℕ) (low : m < clocks.running) (n : ℕ) (others : List BufferState)
      (turns : (text : ℕ → Log) → AreFit base W N text states ends → HasTurned base W N text m n (chunks_of states) (chunks_of others)) (text : ℕ → Log) (fit : AreFit base W N text first ends) where
    pub came_on : made_of made m ≤ n
    came_on = ahead base clocks is W N text (made_of made) (chunks_of states) (passing.at text fit) m low n (chunks_of others) (turns text (passing.fit text fit))

    -- so many ticks fewer are left
    pub fewer : n - made_of made m ≤ left
    fewer = few_left base clocks is W N text made left (chunks_of states) passing.size passing.counts (passing.at text fit) m low n (chunks_of others) (turns text (passing.fit text fit)).come came_on

  pub passes_on : (made : List ℕ) (left : ℕ) (states : List BufferState) → Passing made left states → (m : ℕ) → m < clocks.running → (n : ℕ) (others : List BufferState)
      → ((text : ℕ → Log) → AreFit base W N text states ends → HasTurned base W N text m n (chunks_of states) (chunks_of others))
      → ((text : ℕ → Log) → AreFit base W N text states ends → AreFit base W N text others ends) → length others ≡ length states → (some : (text : ℕ → Log) × AreFit base W N text first ends)
      → Passing (slice_set made m n) (left - (n - made_of made m)) others
  passes_on made left states passing m low n others turns fits long some = record {
    size = length-set made m n ∙ passing.size;
    counts = counts_next base clocks is W N some.0 made left (chunks_of states) passing.size passing.counts (passing.at some.0 some.1) m low n (chunks_of others) (turns some.0 (passing.fit some.0 some.1)).come
        (came_on made left states passing m low n others turns some.0 some.1);
    many = long ∙ passing.many;
    fit = λ text fit. fits text (passing.fit text fit);
    at = λ text fit. at_next base clocks is W N text made left (chunks_of states) passing.size passing.counts (passing.at text fit) m low n (chunks_of others) (turns text (passing.fit text fit)).come
        (came_on made left states passing m low n others turns text fit);
  }

  -- the clocks that wait wait on where the turn brought nothing
  pub still_stuck : (made : List ℕ) (before left : ℕ) (states : List BufferState) → Passing made left states → (m : ℕ) → m < clocks.running → left ≤ before → AreStuck base W N ends first made states before left m → (n : ℕ) (others : List BufferState)
      → ((text : ℕ → Log) → AreFit base W N text states ends → HasTurned base W N text m n (chunks_of states) (chunks_of others))
      → AreStuck base W N ends first (slice_set made m n) others before (left - (n - made_of made m)) (m + 1)
  still_stuck made before left states passing m low within stuck n others turns same text fit k less more =
      let on = came_on made left states passing m low n others turns text fit in
      let few = fewer made left states passing m low n others turns text fit in
      let all : n ≡ made_of made m = omega (arith, on, few, same, within) in
      let kept : left ≡ before = omega (arith, on, few, same, within) in
      let turn = turns text (passing.fit text fit) in
      let now : (j : ℕ) → made_of (slice_set made m n) j ≡ made_of made j = λ j. elim (cases_eq j m) [
        | inl e ↦ ap (made_of (slice_set made m n)) e ∙ get_or-set_same made m n 0 (let size = passing.size in omega (arith, low, size)) ∙ all ∙ ap (made_of made) (sym e)
        | inr other ↦ get_or-set_other made m j n 0 other
      ] in
      let stays = none_comes base clocks is W N text (made_of made) (chunks_of states) (passing.at text fit) m low n on (chunks_of others) turn.come all in
      let here : made_of made k < N = (let e = now k in omega (arith, e, more)) in
      let halt : IsHalted base text (chunks_of states) k (made_of made k) = elim (cases_eq k m) [
        | inl e ↦ subst (λ j. IsHalted base text (chunks_of states) j (made_of made j)) (sym e) (subst (IsHalted base text (chunks_of states) m) all (turn.halted (let h = ap (made_of made) e in omega (arith, h, all, here))))
        | inr other ↦ stuck kept text fit k (omega (arith, less, other)) here
      ] in
      subst (IsHalted base text (chunks_of others) k) (sym (now k)) (halted_same base text (chunks_of states) (chunks_of others) k (made_of made k) stays halt)

  -- a pass in which no tick was made
  pub passes_end : (made : List ℕ) (left : ℕ) (states : List BufferState) → Passing made left states → 0 < left → (before : ℕ) → left ≡ before → AreStuck base W N ends first made states before left clocks.running
      → (text : ℕ → Log) → AreFit base W N text first ends → IsOrderedText base clocks.running W N text → ⊥
  passes_end made left states passing some before same stuck text fit ordered = by (unfinished made (within_all made left states passing text fit) (let size = passing.size in let counts = passing.counts in
      let e = ap (λ j. j * N) size in omega (arith, e, counts, some)))
    where
      by : (k : ℕ) × (k < length made) × (made_of made k < N) → ⊥
      by found = stuck_none base clocks is W N text (made_of made) (chunks_of states) (passing.at text fit) (λ k low more. stuck same text fit k low more) ordered found.0 (let size = passing.size in let low = found.1 in omega (arith, size, low)) found.2

      unfinished : (ns : List ℕ) → ((k : ℕ) → k < length ns → made_of ns k ≤ N) → total ns < length ns * N → (k : ℕ) × (k < length ns) × (made_of ns k < N)
      unfinished [] each less = absurd (omega (arith, less))
      unfinished (x ∷ ns) each less = elim (cases_lt x N) [
        | inl low ↦ (0, omega arith, low)
        | inr full ↦ (let m = suc-mul (length ns) N in let most = each 0 (omega arith) in
            let more = unfinished ns (λ k low. each (suc k) (omega (arith, low))) (omega (arith, less, m, full, most)) in (suc more.0, (let low = more.1 in omega (arith, low)), more.2))
      ]

  pub passes_refuse : (made : List ℕ) (left : ℕ) (states : List BufferState) → Passing made left states → (m : ℕ) → m < clocks.running → ((text : ℕ → Log) → AreFit base W N text states ends → IsRefused base W N text (chunks_of states) m)
      → (text : ℕ → Log) → AreFit base W N text first ends → IsOrderedText base clocks.running W N text → ⊥
  passes_refuse made left states passing m low refused text fit ordered =
      refused_none base clocks is W N text (made_of made) (chunks_of states) m (passing.at text fit) low (refused text (passing.fit text fit)) ordered

  -- all ticks were made
  pub passes_done : (made : List ℕ) (left : ℕ) (states : List BufferState) → Passing made left states → left ≡ 0 → (text : ℕ → Log) → AreFit base W N text first ends → (k : ℕ) → k < clocks.running → made_of made k ≡ N
  passes_done made left states passing none text fit = done_here base clocks is W N text made left (chunks_of states) passing.size passing.counts (passing.at text fit) none

pub read_made : (xs : List ℕ) (k x : ℕ) → x ≡ slice_index_or xs k x → k < length xs → made_of xs k ≡ x
read_made xs k x e low = get_or_default xs k 0 x low ∙ sym e

pub none_made : (n k : ℕ) → made_of (replicate n 0) k ≡ 0
none_made zero k = refl
none_made (suc n) zero = refl
none_made (suc n) (suc k) = none_made n k

pub none_total : (n : ℕ) → total (replicate n 0) ≡ 0
none_total zero = refl
none_total (suc n) = (let more = none_total n in omega (arith, more))

pub long_made : (n : ℕ) → length {A = ℕ} (replicate n 0) ≡ n
long_made zero = refl
long_made (suc n) = ap suc (long_made n)
