-- An instant of a clock, over two lists of answers: its calls are one, and the clocks are alike at the next, or the calls part.
use Rattle.std.proofs.Common.{◌≡◌, ◌<◌, ◌≤◌, ◌∙◌, ◌+◌, ◌-◌, ◌++◌, ℕ, zero, suc, Bool, true, false, Option, Some, None, List, [], ◌∷◌, length, slice_get, inl, inr, refl, ap, sym, subst, arith}
use Rattle.std.proofs.lemmas.Bool.{cases_lt}
use Rattle.std.proofs.lemmas.Option.{slice_get_within}
use Rattle.plan_core.specs.declared.node.Node.{Node}
use Rattle.clock_infer.specs.declared.clock_map.ClockMap.{ClockMap}
use Rattle.clock_infer.specs.declared.clock_map.NodeClock.{NodeClock}
use Rattle.clock_infer.specs.declared.clock_map.NodeClock.TheVariants.{Sub}
use Rattle.clock_infer.proofs.Exact.{some_inj}
use Rattle.frame_core.specs.Slots.{Slot}
use Rattle.frame_core.specs.Calls.{Call, Answer}
use Rattle.op_cross.specs.Runs.{run_of, item_of}
use Rattle.op_leaf.specs.Readers.{reader_slot}
use Rattle.stream_meaning.specs.declared.part.Part.{Part}
use Rattle.stream_meaning.specs.Operators.{Work, Plays, Picks, Mixes, Fades, Reads}
use Rattle.stream_meaning.specs.Instants.{Setting, Moment, Reading, IsMeaning, answered, clock_of, lies_in, work_at, position, gives, unpicked, slots_at, part_by, part_in, parts_upto, moment_of, moment_after, first_instants, slots_of, crossfaded, read_on, reading_after}
use Rattle.stream_meaning.specs.Calls.{joined_upto, joined_between, takes_at, ran_by, fades_by, fades_in, calls_at}
use Rattle.stream_meaning.proofs.Ranks.{AreNested, deeper, rank_below}
use Rattle.stream_meaning.proofs.Existence.{same_clock-true}
use Rattle.run_records.specs.Parting.{Goes}
use Rattle.run_records.specs.Alike.{IsAt, AreAlike}
use Rattle.run_records.proofs.Parting.{goes_by, goes_then, goes_joined, goes_each}
use Rattle.run_records.proofs.Runs.{run_same, run_ahead, item_same}
use Rattle.run_records.proofs.Starting.{ReadsOn, takes_go}

-- a clock of this rank
pub record HasRank (base : Setting) (rank : ℕ → ℕ) (clock : NodeClock) (s : ℕ) : Type 0 where
  pub low : s ≤ length base.plan.nodes
  pub each : (i : ℕ) → i < length base.plan.nodes → clock_of base i ≡ clock → rank i ≡ s

module _ (base : Setting) (one other : ℕ → List Answer) (sub subs : ℕ → ℕ → List Slot)
    (means : IsMeaning (answered base one) sub) (mean : IsMeaning (answered base other) subs)
    (known : (clock : NodeClock) (i buffer : ℕ) → IsAt base clock i (Reads buffer) → buffer < length base.plan.buffers) where
  -- earlier it was alike too
  pub alike_before : (depth : ℕ) (clock : NodeClock) (m n : ℕ) → m ≤ n → AreAlike base one other sub subs depth clock n → AreAlike base one other sub subs depth clock m
  alike_before zero clock m n low is = tt
  alike_before (suc depth) clock m n low is = record {
    past = λ k less. is.past k (omega (arith, less, low));
    readings = λ k less. is.readings k (omega (arith, less, low));
    ran = λ k less. is.ran k (omega (arith, less, low));
  }

  -- before its first instant each clock is alike
  pub alike_first : (depth : ℕ) (clock : NodeClock) → AreAlike base one other sub subs depth clock 0
  alike_first zero clock = tt
  alike_first (suc depth) clock = record {
    past = λ m low. past m low;
    readings = λ m low i buffer at. readings m low i buffer;
    ran = λ m low k overlap at. ran (λ k. alike_first depth (Sub k)) m low k overlap;
  }
    where
      past : (m : ℕ) → m ≤ 0 → first_instants (answered base one) sub clock m ≡ first_instants (answered base other) subs clock m
      past zero low = refl
      past (suc m) low = absurd (omega (arith, low))

      readings : (m : ℕ) → m ≤ 0 → (i buffer : ℕ) → reading_after (answered base one) i buffer (first_instants (answered base one) sub clock m) ≡ reading_after (answered base other) i buffer (first_instants (answered base one) sub clock m)
      readings zero low i buffer = refl
      readings (suc m) low i buffer = absurd (omega (arith, low))

      ran : ((k : ℕ) → AreAlike base one other sub subs depth (Sub k) 0) → (m : ℕ) → m ≤ 0 → (k overlap : ℕ) → AreAlike base one other sub subs depth (Sub k) (ran_by sub k overlap (first_instants (answered base one) sub clock m))
      ran first zero low k overlap = first k
      ran first (suc m) low k overlap = absurd (omega (arith, low))

  -- the parts of an instant
  module _ (clock : NodeClock) (past : List Moment) (reads : (i : ℕ) → ReadsOn base one other clock past i)
      (fades : (k overlap : ℕ) → IsAt base clock k (Fades overlap) → item_of overlap (sub k) (position past k) ≡ item_of overlap (subs k) (position past k)) where
    part_work : (i : ℕ) (node : Node) (slots : List Slot) → lies_in base clock i ≡ true → slice_get base.plan.nodes i ≡ Some node → (work : Work) → work_at base i node ≡ work
        → part_by (answered base one) sub past i work slots ≡ part_by (answered base other) subs past i work slots
    part_work i node slots inside found (Plays leaf) does = refl
    part_work i node slots inside found (Picks choice eligible) does = refl
    part_work i node slots inside found (Mixes mixing) does = refl
    part_work i node slots inside found (Fades overlap) does = ap unpicked (fades i overlap (record { inside = inside; node = node; found = found; does = does }))
    part_work i node slots inside found (Reads buffer) does = ap (λ (r : Reading). unpicked (reader_slot r.reader)) (reads i buffer (record { inside = inside; node = node; found = found; does = does }))

    part_node : (i : ℕ) (before : List Part) (inside : Bool) → lies_in base clock i ≡ inside → (found : Option Node) → slice_get base.plan.nodes i ≡ found
        → part_in (answered base one) sub inside past i found before ≡ part_in (answered base other) subs inside past i found before
    part_node i before inside is None there = refl
    part_node i before false is (Some node) there = refl
    part_node i before true is (Some node) there = part_work i node (slots_at before node.children) is there (work_at base i node) refl

    parts_same : (n : ℕ) → parts_upto (answered base one) sub clock past n ≡ parts_upto (answered base other) subs clock past n
    parts_same zero = refl
    parts_same (suc i) =
        ap (λ (before : List Part). before ++ part_in (answered base one) sub (lies_in base clock i) past i (slice_get base.plan.nodes i) before ∷ []) (parts_same i)
        ∙ ap (λ (part : Part). parts_upto (answered base other) subs clock past i ++ part ∷ [])
        (part_node i (parts_upto (answered base other) subs clock past i) (lies_in base clock i) refl (slice_get base.plan.nodes i) refl)

    pub moment_same : moment_after (answered base one) sub clock past ≡ moment_after (answered base other) subs clock past
    moment_same = ap (λ (parts : List Part). moment_of base clock parts) (parts_same (length base.plan.nodes))

  module _ (clocks : ClockMap) (rank : ℕ → ℕ) (deepest : ℕ) (nested : AreNested clocks (clock_of base) (length base.plan.nodes) rank deepest) where
    -- the children of crossfades, as far as their sub-clocks are alike
    slots_same : (depth k n : ℕ) → k < length base.plan.nodes → length base.plan.nodes < depth + suc (rank k) → AreAlike base one other sub subs depth (Sub k) n → (j : ℕ) → j ≤ n → sub k j ≡ subs k j
    slots_same zero k n there enough is j low = let deep = rank_below clocks (clock_of base) (length base.plan.nodes) rank deepest nested k there in absurd (omega (arith, deep, enough))
    slots_same (suc depth) k n there enough is j low =
        means k j ∙ ap (λ (past : List Moment). slots_of past (crossfaded base.plan.nodes k)) (is.past j low) ∙ sym (mean k j)

    sub_ranked : (k : ℕ) → k < length base.plan.nodes → HasRank base rank (Sub k) (suc (rank k))
    sub_ranked k h = record {
      low = (let low = rank_below clocks (clock_of base) (length base.plan.nodes) rank deepest nested k h in omega (arith, low));
      each = λ i inside e. deeper clocks (clock_of base) (length base.plan.nodes) rank deepest nested i k inside e;
    }

    -- a crossfade's sub-clock runs on, where each of its instants goes as `step` tells
    module _ (depth k : ℕ) (there : k < length base.plan.nodes) (enough : length base.plan.nodes < depth + suc (rank k)) (overlap : ℕ)
        (step : (n : ℕ) → AreAlike base one other sub subs depth (Sub k) n
        → Goes (length base.plan.buffers) (calls_at (answered base one) sub depth (Sub k) (first_instants (answered base one) sub (Sub k) n))
        (calls_at (answered base other) subs depth (Sub k) (first_instants (answered base other) subs (Sub k) n)) (AreAlike base one other sub subs depth (Sub k) (suc n))) where
      ran_same : (past : List Moment) → AreAlike base one other sub subs depth (Sub k) (ran_by sub k overlap past) → ran_by sub k overlap past ≡ ran_by subs k overlap past
      ran_same [] is = refl
      ran_same (moment ∷ past) is = run_same overlap (sub k) (subs k) (position past k) (slots_same depth k (run_of overlap (sub k) (position past k)) there enough is)

      abbrev of_one : ℕ → List Call
      of_one n = calls_at (answered base one) sub depth (Sub k) (first_instants (answered base one) sub (Sub k) n)

      abbrev of_other : ℕ → List Call
      of_other n = calls_at (answered base other) subs depth (Sub k) (first_instants (answered base other) subs (Sub k) n)

      between : (p from : ℕ) → AreAlike base one other sub subs depth (Sub k) from
          → Goes (length base.plan.buffers) (joined_between of_one from (run_of overlap (sub k) p)) (joined_between of_other from (run_of overlap (subs k) p))
          (AreAlike base one other sub subs depth (Sub k) (run_of overlap (sub k) p))
      between p from start =
          let to : ℕ = run_of overlap (sub k) p in
          goes_by (length base.plan.buffers) (joined_between of_one from to) (joined_between of_other from (run_of overlap (subs k) p))
          (λ now. alike_before depth (Sub k) to (from + (to - from)) (omega arith) now)
          (goes_joined (length base.plan.buffers) (λ j. of_one (from + j)) (λ j. of_other (from + j)) (to - from) (run_of overlap (subs k) p - from)
          (λ j. AreAlike base one other sub subs depth (Sub k) (from + j))
          (λ j low now. goes_by (length base.plan.buffers) (of_one (from + j)) (of_other (from + j))
          (λ after. let e : suc (from + j) ≡ from + suc j = omega arith in subst (AreAlike base one other sub subs depth (Sub k)) e after) (step (from + j) now))
          (λ j low now.
          let less : from + j < to = omega (arith, low) in
          let further : from + j < run_of overlap (subs k) p = run_ahead overlap (sub k) (subs k) p (from + j) (slots_same depth k (from + j) there enough now) less in
          omega (arith, further))
          (let e : from ≡ from + 0 = omega arith in subst (AreAlike base one other sub subs depth (Sub k)) e start)
          (λ now. ap (λ (m : ℕ). m - from) (run_same overlap (sub k) (subs k) p (λ j low. slots_same depth k (from + (to - from)) there enough now j (omega (arith, low))))))

    -- an instant of a clock, where those of its sub-clocks go
    module _ (depth : ℕ) (clock : NodeClock) (s : ℕ) (has : HasRank base rank clock s) (enough : length base.plan.nodes < suc depth + s)
        (step : (k : ℕ) → k < length base.plan.nodes → length base.plan.nodes < depth + suc (rank k) → (n : ℕ) → AreAlike base one other sub subs depth (Sub k) n
        → Goes (length base.plan.buffers) (calls_at (answered base one) sub depth (Sub k) (first_instants (answered base one) sub (Sub k) n))
        (calls_at (answered base other) subs depth (Sub k) (first_instants (answered base other) subs (Sub k) n)) (AreAlike base one other sub subs depth (Sub k) (suc n)))
        (n : ℕ) (is : AreAlike base one other sub subs (suc depth) clock n) where
      abbrev before : List Moment
      before = first_instants (answered base one) sub clock n

      -- the sub-clock of crossfade k has run on
      abbrev RunsOn : ℕ → Type 0
      RunsOn k = (overlap : ℕ) → IsAt base clock k (Fades overlap) → AreAlike base one other sub subs depth (Sub k) (run_of overlap (sub k) (position before k))

      abbrev below_one : ℕ → ℕ → List Call
      below_one k m = calls_at (answered base one) sub depth (Sub k) (first_instants (answered base one) sub (Sub k) m)

      abbrev below_other : ℕ → ℕ → List Call
      below_other k m = calls_at (answered base other) subs depth (Sub k) (first_instants (answered base other) subs (Sub k) m)

      deep : (k : ℕ) → k < length base.plan.nodes → lies_in base clock k ≡ true → length base.plan.nodes < depth + suc (rank k)
      deep k there inside = let same = has.each k there (same_clock-true (clock_of base k) clock inside) in omega (arith, same, enough)

      no_fade : (k : ℕ) (node : Node) (work : Work) → slice_get base.plan.nodes k ≡ Some node → work_at base k node ≡ work → ((overlap : ℕ) → work ≡ Fades overlap → ⊥) → RunsOn k
      no_fade k node work found does none overlap at =
          let same : at.node ≡ node = some_inj (sym at.found ∙ found) in
          absurd (none overlap (sym does ∙ ap (λ (n : Node). work_at base k n) (sym same) ∙ at.does))

      fade_work : (k : ℕ) (node : Node) → lies_in base clock k ≡ true → slice_get base.plan.nodes k ≡ Some node → (work : Work) → work_at base k node ≡ work
          → Goes (length base.plan.buffers) (fades_by sub below_one before k work) (fades_by subs below_other before k work) (RunsOn k)
      fade_work k node inside found (Plays leaf) does = inr (record { same = refl; now = no_fade k node (Plays leaf) found does (λ overlap e. absurd cc) })
      fade_work k node inside found (Picks choice eligible) does = inr (record { same = refl; now = no_fade k node (Picks choice eligible) found does (λ overlap e. absurd cc) })
      fade_work k node inside found (Mixes mixing) does = inr (record { same = refl; now = no_fade k node (Mixes mixing) found does (λ overlap e. absurd cc) })
      fade_work k node inside found (Reads buffer) does = inr (record { same = refl; now = no_fade k node (Reads buffer) found does (λ overlap e. absurd cc) })
      fade_work k node inside found (Fades overlap) does =
          let there : k < length base.plan.nodes = slice_get_within base.plan.nodes k node found in
          let at : IsAt base clock k (Fades overlap) = record { inside = inside; node = node; found = found; does = does } in
          let from : AreAlike base one other sub subs depth (Sub k) (ran_by sub k overlap before) = is.ran n (omega arith) k overlap at in
          let enough' = deep k there inside in
          subst (λ (m : ℕ). Goes (length base.plan.buffers) (fades_by sub below_one before k (Fades overlap)) (joined_between (below_other k) m (run_of overlap (subs k) (position before k))) (RunsOn k))
          (ran_same depth k there enough' overlap (step k there enough') before from)
          (goes_by (length base.plan.buffers) (fades_by sub below_one before k (Fades overlap)) (joined_between (below_other k) (ran_by sub k overlap before) (run_of overlap (subs k) (position before k)))
          (λ now over at'. alike over at' now)
          (between depth k there enough' overlap (step k there enough') (position before k) (ran_by sub k overlap before) from))
        where
          alike : (over : ℕ) → IsAt base clock k (Fades over) → AreAlike base one other sub subs depth (Sub k) (run_of overlap (sub k) (position before k))
              → AreAlike base one other sub subs depth (Sub k) (run_of over (sub k) (position before k))
          alike over at' now =
              let alike_node : at'.node ≡ node = some_inj (sym at'.found ∙ found) in
              let work : Fades over ≡ Fades overlap = sym at'.does ∙ ap (λ (n : Node). work_at base k n) alike_node ∙ does in
              let number : overlap ≡ over = cc in
              subst (λ (o : ℕ). AreAlike base one other sub subs depth (Sub k) (run_of o (sub k) (position before k))) number now

      fade_node : (k : ℕ) (inside : Bool) → lies_in base clock k ≡ inside → (found : Option Node) → slice_get base.plan.nodes k ≡ found
          → Goes (length base.plan.buffers) (fades_in (answered base one) sub below_one inside before k found) (fades_in (answered base other) subs below_other inside before k found) (RunsOn k)
      fade_node k inside at None there = inr (record { same = refl; now = (λ overlap is'. absurd (let e = is'.found in cc)) })
      fade_node k false at (Some node) there = inr (record { same = refl; now = (λ overlap is'. absurd (let e = is'.inside in cc)) })
      fade_node k true at (Some node) there = fade_work k node at there (work_at base k node) refl

      fades_go : Goes (length base.plan.buffers) (joined_upto (λ k. fades_in (answered base one) sub below_one (lies_in base clock k) before k (slice_get base.plan.nodes k)) (length base.plan.nodes))
          (joined_upto (λ k. fades_in (answered base other) subs below_other (lies_in base clock k) before k (slice_get base.plan.nodes k)) (length base.plan.nodes))
          ((k : ℕ) → k < length base.plan.nodes → RunsOn k)
      fades_go = goes_each (length base.plan.buffers) (λ k. fades_in (answered base one) sub below_one (lies_in base clock k) before k (slice_get base.plan.nodes k))
          (λ k. fades_in (answered base other) subs below_other (lies_in base clock k) before k (slice_get base.plan.nodes k)) (length base.plan.nodes) RunsOn
          (λ k low. fade_node k (lies_in base clock k) refl (slice_get base.plan.nodes k) refl)

      -- the next instant
      alike_next : ((i : ℕ) → ReadsOn base one other clock before i) → ((k : ℕ) → k < length base.plan.nodes → RunsOn k) → AreAlike base one other sub subs (suc depth) clock (suc n)
      alike_next reads runs = record {
        past = λ m low. (elim (cases_lt m (suc n)) [
          | inl under ↦ is.past m (omega (arith, under))
          | inr over ↦ (let e : suc n ≡ m = omega (arith, over, low) in subst (λ (m : ℕ). first_instants (answered base one) sub clock m ≡ first_instants (answered base other) subs clock m) e past_next)
        ]);
        readings = λ m low i buffer at. (elim (cases_lt m (suc n)) [
          | inl under ↦ is.readings m (omega (arith, under)) i buffer at
          | inr over ↦ (let e : suc n ≡ m = omega (arith, over, low) in
              subst (λ (m : ℕ). reading_after (answered base one) i buffer (first_instants (answered base one) sub clock m) ≡ reading_after (answered base other) i buffer (first_instants (answered base one) sub clock m)) e
              (ap (read_on (gives (moment_after (answered base one) sub clock before) i)) (reads i buffer at)))
        ]);
        ran = λ m low k overlap at. (elim (cases_lt m (suc n)) [
          | inl under ↦ is.ran m (omega (arith, under)) k overlap at
          | inr over ↦ (let e : suc n ≡ m = omega (arith, over, low) in
              subst (λ (m : ℕ). AreAlike base one other sub subs depth (Sub k) (ran_by sub k overlap (first_instants (answered base one) sub clock m))) e
              (runs k (slice_get_within base.plan.nodes k at.node at.found) overlap at))
        ]);
      }
        where
          past_next : first_instants (answered base one) sub clock (suc n) ≡ first_instants (answered base other) subs clock (suc n)
          past_next =
              ap (λ (moment : Moment). moment ∷ before) (moment_same clock before reads (λ k overlap at.
              let there : k < length base.plan.nodes = slice_get_within base.plan.nodes k at.node at.found in
              item_same overlap (sub k) (subs k) (position before k) (slots_same depth k (run_of overlap (sub k) (position before k)) there (deep k there at.inside) (runs k there overlap at))))
              ∙ ap (λ (past : List Moment). moment_after (answered base other) subs clock past ∷ past) (is.past n (omega arith))

      instant_goes : Goes (length base.plan.buffers) (calls_at (answered base one) sub (suc depth) clock (first_instants (answered base one) sub clock n))
          (calls_at (answered base other) subs (suc depth) clock (first_instants (answered base other) subs clock n)) (AreAlike base one other sub subs (suc depth) clock (suc n))
      instant_goes =
          subst (λ (past : List Moment). Goes (length base.plan.buffers) (calls_at (answered base one) sub (suc depth) clock before)
          (calls_at (answered base other) subs (suc depth) clock past) (AreAlike base one other sub subs (suc depth) clock (suc n))) (is.past n (omega arith))
          (goes_then (length base.plan.buffers) (takes_at (answered base one) clock before) (takes_at (answered base other) clock before)
          (joined_upto (λ k. fades_in (answered base one) sub below_one (lies_in base clock k) before k (slice_get base.plan.nodes k)) (length base.plan.nodes))
          (joined_upto (λ k. fades_in (answered base other) subs below_other (lies_in base clock k) before k (slice_get base.plan.nodes k)) (length base.plan.nodes))
          (takes_go base one other known clock before (λ i buffer at. is.readings n (omega arith) i buffer at))
          (λ reads. goes_by (length base.plan.buffers) (joined_upto (λ k. fades_in (answered base one) sub below_one (lies_in base clock k) before k (slice_get base.plan.nodes k)) (length base.plan.nodes))
          (joined_upto (λ k. fades_in (answered base other) subs below_other (lies_in base clock k) before k (slice_get base.plan.nodes k)) (length base.plan.nodes))
          (λ runs. alike_next reads runs) fades_go))

    -- an instant of a clock of this rank
    pub instant : (depth : ℕ) (clock : NodeClock) (s : ℕ) → HasRank base rank clock s → length base.plan.nodes < depth + s → (n : ℕ) → AreAlike base one other sub subs depth clock n
        → Goes (length base.plan.buffers) (calls_at (answered base one) sub depth clock (first_instants (answered base one) sub clock n))
        (calls_at (answered base other) subs depth clock (first_instants (answered base other) subs clock n)) (AreAlike base one other sub subs depth clock (suc n))
    instant zero clock s has enough n is = let low = has.low in absurd (omega (arith, low, enough))
    instant (suc depth) clock s has enough n is =
        instant_goes depth clock s has enough (λ k there deep m alike. instant depth (Sub k) (suc (rank k)) (sub_ranked k there) deep m alike) n is
