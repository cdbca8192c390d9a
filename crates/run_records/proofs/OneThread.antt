-- The calls that follow from a setting are those of its rounds.
use Rattle.std.proofs.Common.{◌≡◌, ◌≢◌, ◌⊎◌, ◌<◌, ◌≤◌, ◌∙◌, ◌+◌, ◌-◌, ◌*◌, ◌%◌, ◌++◌, ◌==◌, ℕ, zero, suc, Bool, true, false, cond, Option, Some, None, List, [], ◌∷◌, length, map, drop, nat_eq, nat_lt, slice_get, slice_index_or, flat_map, refl, ap, sym, subst, arith, inl, inr, append_assoc, append-nil, length-append}
use Rattle.std.specs.Prelude.{All, ⊤}
use Rattle.std.proofs.lemmas.Bool.{cases_eq, cases_lt, le-ltb, lt-ltb}
use Rattle.std.proofs.lemmas.Bool.Decides.{nat_tests}
use Rattle.std.proofs.lemmas.List.Elements.{All-append, All-cons, All-head, All-nil, All-tail}
use mathlib.Core.Path.{fun_ext}
use Rattle.plan_core.specs.declared.node.Node.{Node}
use Rattle.plan_core.specs.declared.sink.SinkPlan.{SinkPlan}
use Rattle.plan_core.specs.declared.sink.SinkPlan.TheVariants.{Output, Feed}
use Rattle.clock_infer.specs.declared.clock_map.ClockMap.{ClockMap}
use Rattle.clock_infer.specs.declared.clock_map.NodeClock.{NodeClock}
use Rattle.clock_infer.specs.declared.clock_map.NodeClock.TheVariants.{Main, Sub}
use Rattle.frame_core.specs.declared.cell.Cell.{Cell}
use Rattle.frame_core.specs.Slots.{Slot}
use Rattle.frame_core.specs.Calls.{Call, Took, Given, Answer, puts_to, takes_of}
use Rattle.op_cross.specs.Runs.{run_of}
use Rattle.op_leaf.specs.Readers as readers
use Rattle.stream_meaning.specs.Operators.{Work, Plays, Picks, Mixes, Fades, Reads}
use Rattle.stream_meaning.specs.Instants.{Setting, Moment, answered, first_instants, lies_in, next_answers, position, reading_after, sub_of, work_at}
use Rattle.stream_meaning.specs.Sinks.{feed_cells}
use Rattle.stream_meaning.specs.Calls.{answers_in, calls_at, calls_of, calls_of_tick, fades_by, fades_in, give_by, given, gives_of_tick, joined_upto, ran_by, takes_at, takes_by, takes_in, takes_of_tick}
use Rattle.stream_meaning.specs.Settings.{IsSetting}
use Rattle.stream_meaning.proofs.Answering.{answers_in-append}
use Rattle.stream_meaning.proofs.Unread.{no_tick_takes, none_in_joined}
use Rattle.run_records.specs.Alike.{IsTickAlike}
use Rattle.run_records.specs.Buffers.{reader}
use Rattle.run_records.specs.OneThread.{accepted_after, answers_after, calls_in_rounds, held_after, held_by, round_after, rounds_record, windows_from}
use Rattle.run_records.specs.Owning.{IsOwn}
use Rattle.run_records.specs.Parting.{ArePart, Differ, Goes}
use Rattle.run_records.specs.Records.{Follows, IsRounds, Run, Window, answers_of, capacity_of, on, rounds_of, rounds_to, setting_in, ticks_of, windows_of}
use Rattle.run_records.proofs.Beginning.{front_none}
use Rattle.run_records.proofs.Flattening.{takes-append}
use Rattle.run_records.proofs.Gaining.{gives_take_none, takes_are, ticks_get}
use Rattle.run_records.proofs.Gotten.{first_of}
use Rattle.run_records.proofs.OneWindow.{all_told, round_told}
use Rattle.run_records.proofs.Owning.{all_at, all_joined, own_tick}
use Rattle.run_records.proofs.Replaying.{takes_all, takes_now}
use Rattle.run_records.proofs.Resting.{follows_then, none_took}
use Rattle.run_records.proofs.Rounding.{on-append}
use Rattle.stream_meaning.proofs.Sorted.{reads_op}
use Rattle.run_records.proofs.Ticking.{tick_first, tick_goes}

-- calls that take
abbrev IsTook : Call → Type 0
IsTook (Took b answer) = ⊤
IsTook (Given b chunk accepted) = ⊥

-- what is given is answered so
abbrev IsBy : (ℕ → Bool) → Call → Type 0
IsBy accepted (Took b answer) = ⊤
IsBy accepted (Given b chunk kept) = kept ≡ accepted b

-- before it gives, a tick only takes
module _ (P : Call → Type 0) (took : (b : ℕ) (answer : Answer) → P (Took b answer)) where
  took_each : (b : ℕ) (answers : List Answer) → All P (map (Took b) answers)
  took_each b [] = All-nil P
  took_each b (answer ∷ answers) = All-cons P (Took b answer) (map (Took b) answers) (took b answer) (took_each b answers)

  took_by : (setting : Setting) (past : List Moment) (i : ℕ) (work : Work) → All P (takes_by setting past i work)
  took_by setting past i (Plays leaf) = All-nil P
  took_by setting past i (Picks choice eligible) = All-nil P
  took_by setting past i (Mixes mixing) = All-nil P
  took_by setting past i (Fades overlap) = All-nil P
  took_by setting past i (Reads buffer) =
      took_each buffer (readers.reader_takes (next_answers (setting.answers buffer) (reading_after setting i buffer past)) (reading_after setting i buffer past).reader)

  took_in : (setting : Setting) (inside : Bool) (past : List Moment) (i : ℕ) (found : Option Node) → All P (takes_in setting inside past i found)
  took_in setting inside past i None = All-nil P
  took_in setting false past i (Some node) = All-nil P
  took_in setting true past i (Some node) = took_by setting past i (work_at setting i node)

  took_at : (setting : Setting) (clock : NodeClock) (past : List Moment) → All P (takes_at setting clock past)
  took_at setting clock past = by (nat_eq (length past % setting.plan.frame) 0)
    where
      calls : List Call
      calls = joined_upto (λ i. takes_in setting (lies_in setting clock i) past i (slice_get setting.plan.nodes i)) (length setting.plan.nodes)

      by : (t : Bool) → All P (cond t calls [])
      by true = all_joined P (λ i. takes_in setting (lies_in setting clock i) past i (slice_get setting.plan.nodes i)) (length setting.plan.nodes)
          (λ i. took_in setting (lies_in setting clock i) past i (slice_get setting.plan.nodes i))
      by false = All-nil P

  took_fade : (sub : ℕ → ℕ → List Slot) (below : ℕ → ℕ → List Call) (past : List Moment) (k : ℕ) (work : Work) → ((m : ℕ) → All P (below k m)) → All P (fades_by sub below past k work)
  took_fade sub below past k (Plays leaf) each = All-nil P
  took_fade sub below past k (Picks choice eligible) each = All-nil P
  took_fade sub below past k (Mixes mixing) each = All-nil P
  took_fade sub below past k (Fades overlap) each = all_joined P (λ j. below k (ran_by sub k overlap past + j)) (run_of overlap (sub k) (position past k) - ran_by sub k overlap past) (λ j. each (ran_by sub k overlap past + j))
  took_fade sub below past k (Reads buffer) each = All-nil P

  took_fades : (setting : Setting) (sub : ℕ → ℕ → List Slot) (below : ℕ → ℕ → List Call) (inside : Bool) (past : List Moment) (k : ℕ) (found : Option Node) → ((m : ℕ) → All P (below k m)) → All P (fades_in setting sub below inside past k found)
  took_fades setting sub below inside past k None each = All-nil P
  took_fades setting sub below false past k (Some node) each = All-nil P
  took_fades setting sub below true past k (Some node) each = took_fade sub below past k (work_at setting k node) each

  took_instant : (setting : Setting) (sub : ℕ → ℕ → List Slot) (depth : ℕ) (clock : NodeClock) (past : List Moment) → All P (calls_at setting sub depth clock past)
  took_instant setting sub zero clock past = All-nil P
  took_instant setting sub (suc depth) clock past =
      All-append P (takes_at setting clock past)
      (joined_upto (λ k. fades_in setting sub (λ j m. calls_at setting sub depth (Sub j) (first_instants setting sub (Sub j) m)) (lies_in setting clock k) past k (slice_get setting.plan.nodes k)) (length setting.plan.nodes))
      (took_at setting clock past)
      (all_joined P (λ k. fades_in setting sub (λ j m. calls_at setting sub depth (Sub j) (first_instants setting sub (Sub j) m)) (lies_in setting clock k) past k (slice_get setting.plan.nodes k)) (length setting.plan.nodes)
      (λ k. took_fades setting sub (λ j m. calls_at setting sub depth (Sub j) (first_instants setting sub (Sub j) m)) (lies_in setting clock k) past k (slice_get setting.plan.nodes k)
      (λ m. took_instant setting sub depth (Sub k) (first_instants setting sub (Sub k) m))))

  took_tick : (setting : Setting) (m t : ℕ) → All P (takes_of_tick setting m t)
  took_tick setting m t = all_joined P (λ j. calls_of setting (sub_of setting) (Main m) (first_instants setting (sub_of setting) (Main m) (t * setting.plan.frame + j))) setting.plan.frame
      (λ j. took_instant setting (sub_of setting) (suc (length setting.plan.nodes)) (Main m) (first_instants setting (sub_of setting) (Main m) (t * setting.plan.frame + j)))

-- what a tick gives is answered as is said
gave_by : (setting : Setting) (accepted : ℕ → Bool) (m t : ℕ) (sink : SinkPlan) → All (IsBy accepted) (give_by setting accepted m t sink)
gave_by setting accepted m t (Output name node fallible wide) = All-nil (IsBy accepted)
gave_by setting accepted m t (Feed buffer node) = by (lies_in setting (Main m) node)
  where
    some : (cells : List Cell) → All (IsBy accepted) (given buffer cells (accepted buffer))
    some [] = All-nil (IsBy accepted)
    some (cell ∷ cells) = All-cons (IsBy accepted) (Given buffer (cell ∷ cells) (accepted buffer)) [] refl (All-nil (IsBy accepted))

    by : (b : Bool) → All (IsBy accepted) (cond b (given buffer (feed_cells setting node t) (accepted buffer)) [])
    by true = some (feed_cells setting node t)
    by false = All-nil (IsBy accepted)

gave_each : (setting : Setting) (accepted : ℕ → Bool) (m t : ℕ) (sinks : List SinkPlan) → All (IsBy accepted) (flat_map (give_by setting accepted m t) sinks)
gave_each setting accepted m t [] = All-nil (IsBy accepted)
gave_each setting accepted m t (sink ∷ sinks) =
    All-append (IsBy accepted) (give_by setting accepted m t sink) (flat_map (give_by setting accepted m t) sinks) (gave_by setting accepted m t sink) (gave_each setting accepted m t sinks)

by_tick : (setting : Setting) (accepted : ℕ → Bool) (m t : ℕ) → All (IsBy accepted) (calls_of_tick setting accepted m t)
by_tick setting accepted m t = All-append (IsBy accepted) (takes_of_tick setting m t) (gives_of_tick setting accepted m t) (took_tick (IsBy accepted) (λ b answer. tt) setting m t) (gave_each setting accepted m t setting.plan.sinks)

-- of calls that only take
on_taken : (b : ℕ) (calls : List Call) → All IsTook calls → on b calls ≡ map (Took b) (takes_of b calls)
on_taken b [] all = refl
on_taken b (Given c chunk accepted ∷ calls) all = absurd (All-head IsTook (Given c chunk accepted) calls all)
on_taken b (Took c answer ∷ calls) all = by (nat_eq b c) (b == c) refl refl (on_taken b calls (All-tail IsTook (Took c answer) calls all))
  where
    by : (s u : Bool) → nat_eq b c ≡ s → (b == c) ≡ u → on b calls ≡ map (Took b) (takes_of b calls)
        → cond s (Took c answer ∷ on b calls) (on b calls) ≡ map (Took b) (cond u (answer ∷ takes_of b calls) (takes_of b calls))
    by true true e f more = (let same : c ≡ b = grind (arith, nat_tests) in λ i. Took (same i) answer ∷ more i)
    by false false e f more = more
    by true false e f more = absurd (grind (arith, nat_tests, e, f))
    by false true e f more = absurd (grind (arith, nat_tests, e, f))

-- the next answer of a list is the next one that is taken
next_is : (xs : List Answer) (count : ℕ) (x y : Answer) (more ys : List Answer) → xs ++ y ∷ ys ≡ first_of count (xs ++ x ∷ more) → y ≡ x
next_is [] zero x y more ys e = absurd cc
next_is [] (suc count) x y more ys e = cc
next_is (z ∷ xs) zero x y more ys e = absurd cc
next_is (z ∷ xs) (suc count) x y more ys e = next_is xs count x y more ys (let tails : z ∷ (xs ++ y ∷ ys) ≡ z ∷ first_of count (xs ++ x ∷ more) = e in cc)

behind_first : (xs ys more : List Answer) (count : ℕ) → xs ++ ys ≡ first_of count (xs ++ more) → (n : ℕ) × (ys ≡ first_of n more)
behind_first [] ys more count e = (count, e)
behind_first (x ∷ xs) ys more zero e = absurd cc
behind_first (x ∷ xs) ys more (suc count) e = behind_first xs ys more count (let tails : x ∷ (xs ++ ys) ≡ x ∷ first_of count (xs ++ more) = e in cc)

-- what a list holds after calls, and that it never held too much
held-append : (queue : List (List Cell)) (xs ys : List Call) → held_after queue (xs ++ ys) ≡ held_after (held_after queue xs) ys
held-append queue [] ys = refl
held-append queue (Took b None ∷ xs) ys = held-append queue xs ys
held-append queue (Took b (Some chunk) ∷ xs) ys = held-append (drop 1 queue) xs ys
held-append queue (Given b chunk true ∷ xs) ys = held-append (queue ++ chunk ∷ []) xs ys
held-append queue (Given b chunk false ∷ xs) ys = held-append queue xs ys

abbrev Fits : ℕ → List (List Cell) → List Call → Type 0
Fits C queue calls = Follows C queue calls (held_after queue calls) × (length (held_after queue calls) ≤ C)

fits_then : (C : ℕ) (queue : List (List Cell)) (xs ys : List Call) → Fits C queue xs → Fits C (held_after queue xs) ys → Fits C queue (xs ++ ys)
fits_then C queue xs ys one two =
    subst (λ (l : List (List Cell)). Follows C queue (xs ++ ys) l × (length l ≤ C)) (sym (held-append queue xs ys)) (follows_then C xs ys queue (held_after queue xs) (held_after (held_after queue xs) ys) one.0 two.0, two.1)

-- takes get what is held, and then nothing
took_fits : (C b n : ℕ) (queue : List (List Cell)) → length queue ≤ C → Fits C queue (map (Took b) (first_of n (map Some queue)))
took_fits C b zero queue low = (refl, low)
took_fits C b (suc n) [] low = let more = took_fits C b n [] low in ((refl, more.0), more.1)
took_fits C b (suc n) (chunk ∷ queue) low = let more = took_fits C b n queue (omega (arith, low)) in ((queue, refl, more.0), more.1)

-- sinks that give nothing to a buffer
other_feed : (setting : Setting) (accepted : ℕ → Bool) (m t b c node : ℕ) → (b ≡ c → ⊥) → on b (give_by setting accepted m t (Feed c node)) ≡ []
other_feed setting accepted m t b c node off = by (lies_in setting (Main m) node) (feed_cells setting node t)
  where
    apart : nat_eq b c ≡ false
    apart = grind (arith, nat_tests)

    by : (inside : Bool) (cells : List Cell) → on b (cond inside (given c cells (accepted c)) []) ≡ []
    by true [] = refl
    by true (cell ∷ cells) = ap (λ (s : Bool). cond s (Given c (cell ∷ cells) (accepted c) ∷ []) []) apart
    by false cells = refl

no_feed : (setting : Setting) (accepted : ℕ → Bool) (m t b : ℕ) (sinks : List SinkPlan) → ((p node : ℕ) → slice_get sinks p ≡ Some (Feed b node) → ⊥) → on b (flat_map (give_by setting accepted m t) sinks) ≡ []
no_feed setting accepted m t b [] none = refl
no_feed setting accepted m t b (Output name node fallible wide ∷ sinks) none = no_feed setting accepted m t b sinks (λ p other at. none (suc p) other at)
no_feed setting accepted m t b (Feed c node ∷ sinks) none =
    on-append b (give_by setting accepted m t (Feed c node)) (flat_map (give_by setting accepted m t) sinks)
    ∙ (λ i. other_feed setting accepted m t b c node (λ e. none 0 node (ap (λ n. Some (Feed n node)) (sym e))) i ++ no_feed setting accepted m t b sinks (λ p other at. none (suc p) other at) i)

-- a buffer is given one chunk, or none
abbrev GaveOne : (b : ℕ) → Bool → List Call → Type 0
GaveOne b kept calls = (calls ≡ []) ⊎ (chunk : List Cell) × (calls ≡ Given b chunk kept ∷ [])

own_feed : (setting : Setting) (accepted : ℕ → Bool) (m t b node : ℕ) → GaveOne b (accepted b) (on b (give_by setting accepted m t (Feed b node)))
own_feed setting accepted m t b node = by (lies_in setting (Main m) node) (feed_cells setting node t)
  where
    here : nat_eq b b ≡ true
    here = grind (arith, nat_tests)

    by : (inside : Bool) (cells : List Cell) → GaveOne b (accepted b) (on b (cond inside (given b cells (accepted b)) []))
    by true [] = inl refl
    by true (cell ∷ cells) = inr (cell ∷ cells, ap (λ (s : Bool). cond s (Given b (cell ∷ cells) (accepted b) ∷ []) []) here)
    by false cells = inl refl

one_feed : (setting : Setting) (accepted : ℕ → Bool) (m t b : ℕ) (sinks : List SinkPlan)
    → ((p q one other : ℕ) → slice_get sinks p ≡ Some (Feed b one) → slice_get sinks q ≡ Some (Feed b other) → p ≡ q) → GaveOne b (accepted b) (on b (flat_map (give_by setting accepted m t) sinks))
one_feed setting accepted m t b [] same = inl refl
one_feed setting accepted m t b (Output name node fallible wide ∷ sinks) same =
    one_feed setting accepted m t b sinks (λ p q one other at there. let e : suc p ≡ suc q = same (suc p) (suc q) one other at there in omega (arith, e))
one_feed setting accepted m t b (Feed c node ∷ sinks) same =
    by (cases_eq b c) (one_feed setting accepted m t b sinks (λ p q one other at there. let e : suc p ≡ suc q = same (suc p) (suc q) one other at there in omega (arith, e)))
  where
    gives : List Call
    gives = flat_map (give_by setting accepted m t) sinks

    by : (b ≡ c) ⊎ (b ≢ c) → GaveOne b (accepted b) (on b gives) → GaveOne b (accepted b) (on b (give_by setting accepted m t (Feed c node) ++ gives))
    by (inl e) more =
        (let none : on b gives ≡ [] = no_feed setting accepted m t b sinks (λ p other at. let wrong : 0 ≡ suc p = same 0 (suc p) node other (ap (λ n. Some (Feed n node)) (sym e)) at in omega (arith, wrong)) in
        let own : GaveOne b (accepted b) (on b (give_by setting accepted m t (Feed c node))) = subst (λ n. GaveOne b (accepted b) (on b (give_by setting accepted m t (Feed n node)))) e (own_feed setting accepted m t b node) in
        let all : on b (give_by setting accepted m t (Feed c node) ++ gives) ≡ on b (give_by setting accepted m t (Feed c node)) =
        on-append b (give_by setting accepted m t (Feed c node)) gives ∙ ap (λ l. on b (give_by setting accepted m t (Feed c node)) ++ l) none ∙ append-nil (on b (give_by setting accepted m t (Feed c node))) in
        subst (GaveOne b (accepted b)) (sym all) own)
    by (inr off) more =
        subst (GaveOne b (accepted b))
        (sym (on-append b (give_by setting accepted m t (Feed c node)) gives ∙ ap (λ l. l ++ on b gives) (other_feed setting accepted m t b c node off))) more

-- a chunk is accepted where there is room
gave_fits : (C b : ℕ) (kept : Bool) (queue : List (List Cell)) (calls : List Call) → length queue ≤ C → kept ≡ nat_lt (length queue) C → GaveOne b kept calls → Fits C queue calls
gave_fits C b kept queue calls low is (inl none) = subst (Fits C queue) (sym none) (refl, low)
gave_fits C b kept queue calls low is (inr one) = subst (Fits C queue) (sym one.1) (elim (cases_lt (length queue) C) [
  | inl less ↦ subst (λ (k : Bool). Fits C queue (Given b one.0 k ∷ [])) (sym (is ∙ lt-ltb (length queue) C less)) ((less, refl), (let long = length-append queue (one.0 ∷ []) in omega (arith, long, less)))
  | inr high ↦ subst (λ (k : Bool). Fits C queue (Given b one.0 k ∷ [])) (sym (is ∙ le-ltb (length queue) C high)) (((let full : length queue ≡ C = omega (arith, low, high) in full), refl), low)
])

-- calls that were made so far, with the answers that they got and any others behind them
abbrev world : Setting → List Call → (rest : ℕ → List Answer) → Setting
world setting calls rest = answered setting (λ b. answers_in b calls ++ rest b)

module _ (setting : Setting) (map_of : ClockMap) (is : IsSetting setting map_of) (clocks : ℕ) (accepted : ℕ → ℕ → ℕ → Bool) where
  -- they are those of the turns up to this one, whatever answers follow, and each buffer's list followed them
  record IsMade (t m : ℕ) (calls : List Call) : Type 0 where
    same : (rest : ℕ → List Answer) → calls ≡ rounds_to (world setting calls rest) accepted clocks t m
    fits : (b : ℕ) → b < length setting.plan.buffers → Fits (capacity_of setting b) [] (on b calls)

  module _ (t m : ℕ) (low : m < clocks) (calls : List Call) (made : IsMade t m calls) (accepted_is : accepted m t ≡ accepted_after setting calls m t) where
    abbrev S : Setting
    S = answered setting (answers_after calls)

    abbrev takes : List Call
    takes = takes_of_tick S m t

    abbrev gives : List Call
    gives = gives_of_tick S (accepted m t) m t

    abbrev tick : List Call
    tick = calls_of_tick S (accepted m t) m t

    -- the first ticks of this clock
    abbrev first : Setting → ℕ → List Call
    first W n = joined_upto (λ j. calls_of_tick W (accepted m j) m j) n

    -- what was taken of a buffer that it reads, its ticks before took
    past_takes : (answers : ℕ → List Answer) (b : ℕ) → reader setting b ≡ m → calls ≡ rounds_to (answered setting answers) accepted clocks t m → takes_of b calls ≡ takes_of b (first (answered setting answers) t)
    past_takes answers b own same =
        let W = answered setting answers in
        let others : (k j : ℕ) → k ≢ m → takes_of b (ticks_of W accepted k j) ≡ [] =
        λ k j off. none_took setting b k (λ e. off (sym e ∙ own)) (ticks_of W accepted k j) (own_tick setting map_of is answers (accepted k j) k j) in
        ap (takes_of b) same ∙ takes-append b (rounds_of W accepted clocks t) (joined_upto (λ k. ticks_of W accepted k t) m)
        ∙ (λ i. all_told (takes_of b) refl (takes-append b) m (λ k j. ticks_of W accepted k j) clocks t low others i
        ++ (round_told (takes_of b) refl (takes-append b) m (λ k. ticks_of W accepted k t) m (λ k off. others k t off)).0 (omega arith) i)
        ∙ append-nil (takes_of b (first W t))

    -- with this tick
    all_takes : (b : ℕ) → reader setting b ≡ m → takes_of b (first S (suc t)) ≡ answers_in b (calls ++ tick)
    all_takes b own =
        takes-append b (first S t) tick ∙ ap (λ l. l ++ takes_of b tick) (sym (past_takes (answers_after calls) b own (made.same (λ c. map Some (held_by c calls)))))
        ∙ sym (takes-append b calls tick) ∙ takes_are b (calls ++ tick)

    module _ (rest : ℕ → List Answer) where
      abbrev later : ℕ → List Answer
      later b = answers_in b (calls ++ tick) ++ rest b

      abbrev V : Setting
      V = answered setting later

      record Agree (n : ℕ) : Type 0 where
        same : first S n ≡ first V n
        alike : IsTickAlike setting (answers_after calls) later m n

      no_part : (n : ℕ) → n < suc t → Agree n → ArePart (length setting.plan.buffers) (calls_of_tick S (accepted m n) m n) (calls_of_tick V (accepted m n) m n) → ⊥
      no_part n less now part = by part.one part.other part.first part.second part.differ
        where
          by : (one other : Call) → calls_of_tick S (accepted m n) m n ≡ part.front ++ one ∷ part.behind → calls_of_tick V (accepted m n) m n ≡ part.front ++ other ∷ part.others
              → Differ (length setting.plan.buffers) one other → ⊥
          by (Took b answer) (Took c got) e o differ =
              (let o' : calls_of_tick V (accepted m n) m n ≡ part.front ++ Took b got ∷ part.others = o ∙ ap (λ k. part.front ++ Took k got ∷ part.others) (sym differ.1) in
              let own : reader setting b ≡ m = all_at (IsOwn setting m) part.front part.behind (Took b answer) (subst (All (IsOwn setting m)) e (own_tick setting map_of is (answers_after calls) (accepted m n) m n)) in
              let xs = takes_of b (first S n) ++ takes_of b part.front in
              let f = takes_all b (λ j. calls_of_tick S (accepted m j) m j) n (suc t) part.front part.behind answer less e in
              let all : later b ≡ xs ++ answer ∷ (f.0 ++ rest b) =
              ap (λ l. l ++ rest b) (sym (all_takes b own) ∙ f.1) ∙ append_assoc xs (answer ∷ f.0) (rest b) in
              let g = takes_now b (λ j. calls_of_tick V (accepted m j) m j) n part.front part.others got o' in
              let k = ticks_get setting map_of is later b differ.0 (accepted m) m (suc n) own in
              let next : xs ++ got ∷ takes_of b part.others ≡ first_of k.0 (xs ++ answer ∷ (f.0 ++ rest b)) =
              ap (λ l. (takes_of b l ++ takes_of b part.front) ++ got ∷ takes_of b part.others) now.same ∙ sym g ∙ k.1 ∙ ap (first_of k.0) all in
              differ.2 (sym (next_is xs k.0 answer got (f.0 ++ rest b) (takes_of b part.others) next)))
          by (Took b answer) (Given c chunk kept) e o differ = differ
          by (Given b chunk kept) (Took c answer) e o differ = differ
          by (Given b chunk kept) (Given c cells keeps) e o differ =
              (let one : kept ≡ accepted m n b = all_at (IsBy (accepted m n)) part.front part.behind (Given b chunk kept) (subst (All (IsBy (accepted m n))) e (by_tick S (accepted m n) m n)) in
              let other : keeps ≡ accepted m n c = all_at (IsBy (accepted m n)) part.front part.others (Given c cells keeps) (subst (All (IsBy (accepted m n))) o (by_tick V (accepted m n) m n)) in
              differ.3 (one ∙ ap (accepted m n) differ.1 ∙ sym other))

      next_tick : (n : ℕ) → n < suc t → Agree n → (calls_of_tick S (accepted m n) m n ≡ calls_of_tick V (accepted m n) m n) × IsTickAlike setting (answers_after calls) later m (suc n)
      next_tick n less now = by (tick_goes setting map_of is (answers_after calls) later (accepted m n) (accepted m n) m n now.alike)
        where
          by : Goes (length setting.plan.buffers) (calls_of_tick S (accepted m n) m n) (calls_of_tick V (accepted m n) m n) (IsTickAlike setting (answers_after calls) later m (suc n))
              → (calls_of_tick S (accepted m n) m n ≡ calls_of_tick V (accepted m n) m n) × IsTickAlike setting (answers_after calls) later m (suc n)
          by (inl part) = absurd (no_part n less now part)
          by (inr one) = (one.same, one.now)

      agree : (n : ℕ) → n ≤ t → Agree n
      agree zero less = record { same = refl; alike = tick_first setting map_of is (answers_after calls) later m }
      agree (suc n) less =
          let before = agree n (omega (arith, less)) in
          let more = next_tick n (omega (arith, less)) before in
          record { same = λ i. before.same i ++ more.0 i; alike = more.1 }

      tick_same : tick ≡ ticks_of V accepted m t
      tick_same = (next_tick t (omega arith) (agree t (omega arith))).0

      later_is : V ≡ world setting calls (λ b. answers_in b tick ++ rest b)
      later_is = ap (answered setting) (fun_ext (λ b. ap (λ l. l ++ rest b) (answers_in-append b calls tick) ∙ append_assoc (answers_in b calls) (answers_in b tick) (rest b)))

      turn_made : calls ++ tick ≡ rounds_to V accepted clocks t (suc m)
      turn_made =
          (λ i. (made.same (λ b. answers_in b tick ++ rest b) ∙ ap (λ W. rounds_to W accepted clocks t m) (sym later_is)) i ++ tick_same i)
          ∙ append_assoc (rounds_of V accepted clocks t) (joined_upto (λ k. ticks_of V accepted k t) m) (ticks_of V accepted m t)

    -- what the tick takes of a buffer is what this holds, and then nothing
    took_of : (b : ℕ) → b < length setting.plan.buffers → (n : ℕ) × (takes_of b takes ≡ first_of n (map Some (held_by b calls)))
    took_of b known = elim (cases_eq (reader setting b) m) [
      | inl own ↦ (
          let k = ticks_get setting map_of is (answers_after calls) b known (accepted m) m (suc t) own in
          let all : answers_in b calls ++ takes_of b takes ≡ first_of k.0 (answers_in b calls ++ map Some (held_by b calls)) =
          ap (λ l. l ++ takes_of b takes) (sym (takes_are b calls) ∙ past_takes (answers_after calls) b own (made.same (λ c. map Some (held_by c calls))))
          ∙ ap (λ l. takes_of b (first S t) ++ l) (sym (takes-append b takes gives ∙ ap (λ l. takes_of b takes ++ l) (gives_take_none S (accepted m t) m t b) ∙ append-nil (takes_of b takes)))
          ∙ sym (takes-append b (first S t) tick) ∙ k.1 in
          behind_first (answers_in b calls) (takes_of b takes) (map Some (held_by b calls)) k.0 all)
      | inr off ↦ (0, front_none (takes_of b takes) (takes_of b gives) (sym (takes-append b takes gives) ∙ none_took setting b m off tick (own_tick setting map_of is (answers_after calls) (accepted m t) m t)))
    ]

    tick_fits : (b : ℕ) → b < length setting.plan.buffers → Fits (capacity_of setting b) [] (on b (calls ++ tick))
    tick_fits b known =
        let C = capacity_of setting b in
        let before = made.fits b known in
        let queue = held_by b calls in
        let got = took_of b known in
        let taken : on b takes ≡ map (Took b) (first_of got.0 (map Some queue)) = on_taken b takes (took_tick IsTook (λ c answer. tt) S m t) ∙ ap (map (Took b)) got.1 in
        let one : Fits C queue (on b takes) = subst (Fits C queue) (sym taken) (took_fits C b got.0 queue before.1) in
        let held : held_by b (calls ++ takes) ≡ held_after queue (on b takes) = ap (held_after []) (on-append b calls takes) ∙ held-append [] (on b calls) (on b takes) in
        let kept : accepted m t b ≡ nat_lt (length (held_after queue (on b takes))) C = ap (λ (f : ℕ → Bool). f b) accepted_is ∙ ap (λ l. nat_lt (length l) C) held in
        let only = is.plan.one_feed b known in
        let gave : GaveOne b (accepted m t b) (on b gives) = one_feed S (accepted m t) m t b setting.plan.sinks (λ p q x y at there. only.2 p (x, at) ∙ sym (only.2 q (y, there))) in
        let two : Fits C (held_after queue (on b takes)) (on b gives) = gave_fits C b (accepted m t b) (held_after queue (on b takes)) (on b gives) one.1 kept gave in
        subst (Fits C []) (sym (on-append b calls tick)) (fits_then C [] (on b calls) (on b tick) before
        (subst (Fits C queue) (sym (on-append b takes gives)) (fits_then C queue (on b takes) (on b gives) one two)))

    made_on : IsMade t (suc m) (calls ++ tick)
    made_on = record { same = turn_made; fits = tick_fits }

-- the windows of calls
windows_many : (calls : List Call) (b n : ℕ) → length (windows_from calls b n) ≡ n
windows_many calls b zero = refl
windows_many calls b (suc n) = ap suc (windows_many calls (suc b) n)

windows_at : (calls : List Call) (b n k : ℕ) → k < n → slice_index_or (windows_from calls b n) k [] ≡ (puts_to (b + k) calls, takes_of (b + k) calls) ∷ []
windows_at calls b zero k low = absurd (omega (arith, low))
windows_at calls b (suc n) zero low = let same : b ≡ b + 0 = omega arith in ap (λ (m : ℕ). (puts_to m calls, takes_of m calls) ∷ []) same
windows_at calls b (suc n) (suc k) low = let same : suc b + k ≡ b + suc k = omega arith in windows_at calls (suc b) n k (omega (arith, low)) ∙ ap (λ (m : ℕ). (puts_to m calls, takes_of m calls) ∷ []) same

windows_past : (calls : List Call) (b n k : ℕ) → n ≤ k → slice_index_or (windows_from calls b n) k [] ≡ []
windows_past calls b zero k high = refl
windows_past calls b (suc n) zero high = absurd (omega (arith, high))
windows_past calls b (suc n) (suc k) high = windows_past calls (suc b) n k (omega (arith, high))

module _ (setting : Setting) (map_of : ClockMap) (is : IsSetting setting map_of) (clocks : ℕ) where
  -- how the puts of each tick are answered
  abbrev answered_so : (m t b : ℕ) → Bool
  answered_so m t = accepted_after setting (round_after setting (calls_in_rounds setting clocks t) t m) m t

  abbrev Made : (t m : ℕ) → List Call → Type 0
  Made t m calls = IsMade setting map_of is clocks answered_so t m calls

  round_made : (t : ℕ) → Made t 0 (calls_in_rounds setting clocks t) → (m : ℕ) → m ≤ clocks → Made t m (round_after setting (calls_in_rounds setting clocks t) t m)
  round_made t made zero low = made
  round_made t made (suc m) low =
      made_on setting map_of is clocks answered_so t m (omega (arith, low)) (round_after setting (calls_in_rounds setting clocks t) t m) (round_made t made m (omega (arith, low))) refl

  all_made : (t : ℕ) → Made t 0 (calls_in_rounds setting clocks t)
  all_made zero = record { same = λ rest. refl; fits = λ b known. (refl, omega arith) }
  all_made (suc t) =
      let whole = round_made t (all_made t) clocks (omega arith) in
      let calls = calls_in_rounds setting clocks (suc t) in
      record { same = λ rest. whole.same rest ∙ sym (append-nil (rounds_of (world setting calls rest) answered_so clocks (suc t))); fits = whole.fits }

  module _ (N : ℕ) where
    abbrev calls : List Call
    calls = calls_in_rounds setting clocks N

    abbrev none : ℕ → List Answer
    none b = []

    abbrev run : Run
    run = rounds_record setting clocks N

    rounds_are : (rest : ℕ → List Answer) → calls ≡ rounds_of (world setting calls rest) answered_so clocks N
    rounds_are rest = (all_made N).same rest ∙ append-nil (rounds_of (world setting calls rest) answered_so clocks N)

    window_at : (b : ℕ) → b < length setting.plan.buffers → windows_of run b ≡ (puts_to b calls, takes_of b calls) ∷ []
    window_at b low = let same : 0 + b ≡ b = omega arith in windows_at calls 0 (length setting.plan.buffers) b low ∙ ap (λ (m : ℕ). (puts_to m calls, takes_of m calls) ∷ []) same

    -- a buffer that the plan has not got has no answer
    none_past : (b : ℕ) → length setting.plan.buffers ≤ b → answers_in b calls ≡ []
    none_past b high =
        let W = world setting calls none in
        ap (answers_in b) (rounds_are none)
        ∙ none_in_joined b (λ t. joined_upto (λ m. ticks_of W answered_so m t) clocks)
        (λ t. none_in_joined b (λ m. ticks_of W answered_so m t)
        (λ m. no_tick_takes W (answered_so m t) m t b
        (record { none = λ rank i node found work below. let low = is.plan.read b i (node, found, reads_op setting.plan.rate i node.kind node.op b work) in omega (arith, low, high) })) clocks) N

    answers_are : (b : ℕ) → answers_of run b ≡ answers_in b calls
    answers_are b = elim (cases_lt b (length setting.plan.buffers)) [
      | inl low ↦ ap (λ (ws : List Window). flat_map (λ (window : Window). window.1) ws) (window_at b low) ∙ append-nil (takes_of b calls) ∙ takes_are b calls
      | inr high ↦ ap (λ (ws : List Window). flat_map (λ (window : Window). window.1) ws) (windows_past calls 0 (length setting.plan.buffers) b high) ∙ sym (none_past b high)
    ]

    in_is : setting_in setting run ≡ world setting calls none
    in_is = ap (answered setting) (fun_ext (λ b. answers_are b ∙ sym (append-nil (answers_in b calls))))

    calls_are : calls ≡ rounds_of (setting_in setting run) answered_so clocks N
    calls_are = rounds_are none ∙ ap (λ W. rounds_of W answered_so clocks N) (sym in_is)

    its_rounds : IsRounds setting clocks N run
    its_rounds = record {
      buffers = windows_many calls 0 (length setting.plan.buffers);
      accepted = answered_so;
      are = λ b low. window_at b low ∙ ap (λ (cs : List Call). (puts_to b cs, takes_of b cs) ∷ []) calls_are;
      in_order = λ b low. (held_by b calls, subst (λ (cs : List Call). Follows (capacity_of setting b) [] (on b cs) (held_by b calls)) calls_are ((all_made N).fits b low).0);
    }

-- rounds on one thread have this record
pub rounds_have_a_record : (setting : Setting) (map_of : ClockMap) → IsSetting setting map_of → (clocks N : ℕ) → IsRounds setting clocks N (rounds_record setting clocks N)
rounds_have_a_record setting map_of is clocks N = its_rounds setting map_of is clocks N
