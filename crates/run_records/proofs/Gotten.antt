-- Each take of a buffer gets the next answer of its list.
use Rattle.std.proofs.Common.{◌≡◌, ◌≢◌, ◌<◌, ◌≤◌, ◌∙◌, ◌+◌, ◌-◌, ◌*◌, ◌%◌, ◌++◌, ℕ, zero, suc, Bool, true, false, cond, not, Option, Some, None, List, [], ◌∷◌, length, map, drop, nat_eq, slice_get, is_some, ◌&&◌, ◌||◌, refl, ap, sym, subst, arith, inl, inr, append-nil}
use Rattle.std.proofs.lemmas.Bool.{cases_lt, eq-eqb}
use Rattle.std.proofs.lemmas.Option.{slice_get_within}
use Rattle.plan_core.specs.declared.node.Node.{Node}
use Rattle.clock_infer.specs.declared.clock_map.ClockMap.{ClockMap}
use Rattle.clock_infer.specs.declared.clock_map.NodeClock.{NodeClock}
use Rattle.clock_infer.specs.declared.clock_map.NodeClock.TheVariants.{Main, Sub}
use Rattle.frame_core.specs.Slots.{Slot}
use Rattle.frame_core.specs.Calls.{Call, Answer}
use Rattle.op_cross.specs.Runs.{run_of}
use Rattle.op_leaf.specs.Readers.{Reader, reader_takes, wants}
use Rattle.stream_meaning.specs.Operators.{Work, Plays, Picks, Mixes, Fades, Reads}
use Rattle.stream_meaning.specs.Instants.{Setting, Moment, Reading, clock_of, first_instants, gives, lies_in, moment_after, next_answers, offer, position, reading_after, reading_at, read_on, same_clock, started, work_at}
use Rattle.stream_meaning.specs.Calls.{IsBelow, IsUnread, answers_in, calls_at, fades_by, fades_in, joined_between, joined_upto, ran_by, takes_at, takes_by, takes_in}
use Rattle.stream_meaning.proofs.Answering.{answers_in-append, answers_in-other, answers_in-own}
use Rattle.stream_meaning.proofs.Existence.{same_clock-true}
use Rattle.stream_meaning.proofs.Ranks.{AreNested, deeper}
use Rattle.stream_meaning.proofs.Unread.{no_called, none_in_joined}
use Rattle.run_records.proofs.OneWindow.{round_told}
use Rattle.run_records.proofs.Runs.{run_more}
use Rattle.run_records.proofs.Turning.{joined_split}

-- the first n answers of a list; past its end an answer is empty
abbrev pub first_of : ℕ → List Answer → List Answer
first_of zero answers = []
first_of (suc n) [] = None ∷ first_of n []
first_of (suc n) (answer ∷ answers) = answer ∷ first_of n answers

drop_none : (n : ℕ) → ◌≡◌ {A = List Answer} (drop n []) []
drop_none zero = refl
drop_none (suc n) = refl

pub first_split : (n k : ℕ) (answers : List Answer) → first_of (n + k) answers ≡ first_of n answers ++ first_of k (drop n answers)
first_split zero k answers = let e : zero + k ≡ k = omega arith in ap (λ j. first_of j answers) e
first_split (suc n) k [] =
    let e : suc n + k ≡ suc (n + k) = omega arith in
    ap (λ j. first_of j []) e ∙ ap (λ (l : List Answer). None ∷ l) (first_split n k [] ∙ ap (λ l. first_of n [] ++ first_of k l) (drop_none n))
first_split (suc n) k (answer ∷ answers) =
    let e : suc n + k ≡ suc (n + k) = omega arith in
    ap (λ j. first_of j (answer ∷ answers)) e ∙ ap (λ l. answer ∷ l) (first_split n k answers)

same_clock-refl : (clock : NodeClock) → same_clock clock clock ≡ true
same_clock-refl (Main m) = eq-eqb m m refl
same_clock-refl (Sub k) = eq-eqb k k refl

-- the takes of a reader at a tick's start
abbrev one_empty : List Answer
one_empty = None ∷ []

takes_first : (answers : List Answer) (reader : Reader) → reader_takes answers reader ≡ first_of (length (reader_takes answers reader)) answers
takes_first [] reader = by (wants reader)
  where
    by : (b : Bool) → cond b one_empty [] ≡ first_of (length (cond b one_empty [])) []
    by true = refl
    by false = refl
takes_first (None ∷ answers) reader = by (wants reader)
  where
    by : (b : Bool) → cond b one_empty [] ≡ first_of (length (cond b one_empty [])) (None ∷ answers)
    by true = refl
    by false = refl
takes_first (Some chunk ∷ answers) reader = by (reader_takes answers (record reader { cells = reader.cells ++ chunk })) (takes_first answers (record reader { cells = reader.cells ++ chunk })) (wants reader)
  where
    by : (more : List Answer) → more ≡ first_of (length more) answers → (b : Bool) → cond b (Some chunk ∷ more) [] ≡ first_of (length (cond b (Some chunk ∷ more) [])) (Some chunk ∷ answers)
    by more e true = ap (λ (l : List Answer). Some chunk ∷ l) e
    by more e false = refl

taken_on : (gave : Bool) (reading : Reading) → (read_on gave reading).taken ≡ reading.taken
taken_on true reading = refl
taken_on false reading = refl

-- nothing is taken of a buffer by a node that does not read it, and by sub-clocks that take nothing of it
no_taken : (setting : Setting) (past : List Moment) (i buffer : ℕ) (work : Work) → (work ≡ Reads buffer → ⊥) → answers_in buffer (takes_by setting past i work) ≡ []
no_taken setting past i buffer (Plays leaf) other = refl
no_taken setting past i buffer (Picks choice eligible) other = refl
no_taken setting past i buffer (Mixes mixing) other = refl
no_taken setting past i buffer (Fades overlap) other = refl
no_taken setting past i buffer (Reads read) other =
    answers_in-other buffer read (reader_takes (next_answers (setting.answers read) (reading_after setting i read past)) (reading_after setting i read past).reader) (λ same. other (ap Reads same))

no_faded : (sub : ℕ → ℕ → List Slot) (below : ℕ → ℕ → List Call) (past : List Moment) (k buffer : ℕ) (work : Work) → ((m : ℕ) → answers_in buffer (below k m) ≡ []) → answers_in buffer (fades_by sub below past k work) ≡ []
no_faded sub below past k buffer (Plays leaf) none = refl
no_faded sub below past k buffer (Picks choice eligible) none = refl
no_faded sub below past k buffer (Mixes mixing) none = refl
no_faded sub below past k buffer (Fades overlap) none =
    none_in_joined buffer (λ j. below k (ran_by sub k overlap past + j)) (λ j. none (ran_by sub k overlap past + j)) (run_of overlap (sub k) (position past k) - ran_by sub k overlap past)
no_faded sub below past k buffer (Reads read) none = refl

no_fades : (setting : Setting) (sub : ℕ → ℕ → List Slot) (below : ℕ → ℕ → List Call) (past : List Moment) (k buffer : ℕ) (inside : Bool) (found : Option Node)
    → (inside ≡ true → (m : ℕ) → answers_in buffer (below k m) ≡ []) → answers_in buffer (fades_in setting sub below inside past k found) ≡ []
no_fades setting sub below past k buffer inside None none = refl
no_fades setting sub below past k buffer false (Some node) none = refl
no_fades setting sub below past k buffer true (Some node) none = no_faded sub below past k buffer (work_at setting k node) (none refl)

-- a sub-clock never runs back
position_more : (moment : Moment) (past : List Moment) (k : ℕ) → position past k ≤ position (moment ∷ past) k
position_more moment past k = by (gives moment k || not (is_some (offer moment k)))
  where
    by : (b : Bool) → position past k ≤ cond b (suc (position past k)) (position past k)
    by true = omega arith
    by false = omega arith

ran_on : (sub : ℕ → ℕ → List Slot) (k overlap : ℕ) (past : List Moment) → ran_by sub k overlap past ≤ run_of overlap (sub k) (position past k)
ran_on sub k overlap [] = omega arith
ran_on sub k overlap (moment ∷ past) = run_more overlap (sub k) (position past k) (position (moment ∷ past) k) (position_more moment past k)

-- a buffer with its one reader, which is node i
module _ (setting : Setting) (sub : ℕ → ℕ → List Slot) (b i : ℕ) (node : Node) (there : slice_get setting.plan.nodes i ≡ Some node) (reads : work_at setting i node ≡ Reads b)
    (only : (j : ℕ) (other : Node) → slice_get setting.plan.nodes j ≡ Some other → work_at setting j other ≡ Reads b → j ≡ i) where
  abbrev instants : NodeClock → ℕ → List Moment
  instants clock n = first_instants setting sub clock n

  -- the calls of the first n instants of a clock
  abbrev calls_by : (depth : ℕ) → NodeClock → ℕ → List Call
  calls_by depth clock n = joined_upto (λ j. calls_at setting sub depth clock (instants clock j)) n

  abbrev fades_at : (depth : ℕ) → NodeClock → List Moment → ℕ → List Call
  fades_at depth clock past k = fades_in setting sub (λ j m. calls_at setting sub depth (Sub j) (instants (Sub j) m)) (lies_in setting clock k) past k (slice_get setting.plan.nodes k)

  -- of a clock in which nothing below reads it, but the sub-clock of one crossfade
  fades_one : (depth : ℕ) (clock : NodeClock) (past : List Moment) (k : ℕ) → ((j : ℕ) → j ≢ k → clock_of setting j ≡ clock → IsUnread setting (Sub j) b)
      → (j : ℕ) → j ≢ k → answers_in b (fades_at depth clock past j) ≡ []
  fades_one depth clock past k unread j off = no_fades setting sub (λ h m. calls_at setting sub depth (Sub h) (instants (Sub h) m)) past j b (lies_in setting clock j) (slice_get setting.plan.nodes j)
      (λ inside m. no_called setting sub b depth (Sub j) (instants (Sub j) m) (unread j off (same_clock-true (clock_of setting j) clock inside)))

  takes_other : (past : List Moment) (j : ℕ) (inside : Bool) (found : Option Node) → slice_get setting.plan.nodes j ≡ found → (inside ≡ true → j ≡ i → ⊥) → answers_in b (takes_in setting inside past j found) ≡ []
  takes_other past j inside None at off = refl
  takes_other past j false (Some other) at off = refl
  takes_other past j true (Some other) at off = no_taken setting past j b (work_at setting j other) (λ work. off refl (only j other at work))

  -- in the reader's own clock
  module _ (clock : NodeClock) (inside : lies_in setting clock i ≡ true) where
    abbrev reading : ℕ → Reading
    reading n = reading_after setting i b (instants clock n)

    abbrev got_at : Bool → ℕ → List Answer
    got_at starts n = cond starts (reader_takes (next_answers (setting.answers b) (reading n)) (reading n).reader) []

    takes_own : (n : ℕ) → answers_in b (takes_at setting clock (instants clock n)) ≡ got_at (nat_eq (length (instants clock n) % setting.plan.frame) 0) n
    takes_own n = by (nat_eq (length (instants clock n) % setting.plan.frame) 0)
      where
        calls : ℕ → List Call
        calls j = takes_in setting (lies_in setting clock j) (instants clock n) j (slice_get setting.plan.nodes j)

        mine : answers_in b (calls i) ≡ reader_takes (next_answers (setting.answers b) (reading n)) (reading n).reader
        mine = (λ k. answers_in b (takes_in setting (inside k) (instants clock n) i (there k))) ∙ ap (λ work. answers_in b (takes_by setting (instants clock n) i work)) reads
            ∙ answers_in-own b (reader_takes (next_answers (setting.answers b) (reading n)) (reading n).reader)

        by : (t : Bool) → answers_in b (cond t (joined_upto calls (length setting.plan.nodes)) []) ≡ got_at t n
        by true = (round_told (answers_in b) refl (answers_in-append b) i calls (length setting.plan.nodes)
            (λ j off. takes_other (instants clock n) j (lies_in setting clock j) (slice_get setting.plan.nodes j) refl (λ at e. off e))).1 (slice_get_within setting.plan.nodes i node there) ∙ mine
        by false = refl

    taken_next : (n : ℕ) → (reading (suc n)).taken ≡ (reading n).taken + length (got_at (nat_eq (length (instants clock n) % setting.plan.frame) 0) n)
    taken_next n = taken_on (gives (moment_after setting sub clock (instants clock n)) i) (reading_at setting b (length (instants clock n)) (reading n)) ∙ by (nat_eq (length (instants clock n) % setting.plan.frame) 0)
      where
        by : (t : Bool) → (cond t (started (setting.answers b) (reading n)) (reading n)).taken ≡ (reading n).taken + length (got_at t n)
        by true = refl
        by false = omega arith

    got_first : (t : Bool) (n : ℕ) → got_at t n ≡ first_of (length (got_at t n)) (drop (reading n).taken (setting.answers b))
    got_first true n = takes_first (next_answers (setting.answers b) (reading n)) (reading n).reader
    got_first false n = refl

    -- what was taken so far
    direct : (depth n : ℕ) → ((k : ℕ) → clock_of setting k ≡ clock → IsUnread setting (Sub k) b) → answers_in b (calls_by (suc depth) clock n) ≡ first_of (reading n).taken (setting.answers b)
    direct depth zero unread = refl
    direct depth (suc n) unread =
        let past = instants clock n in
        let t = nat_eq (length past % setting.plan.frame) 0 in
        let fades = joined_upto (fades_at depth clock past) (length setting.plan.nodes) in
        let none : answers_in b fades ≡ [] = none_in_joined b (fades_at depth clock past)
        (λ k. no_fades setting sub (λ h m. calls_at setting sub depth (Sub h) (instants (Sub h) m)) past k b (lies_in setting clock k) (slice_get setting.plan.nodes k)
        (λ at m. no_called setting sub b depth (Sub k) (instants (Sub k) m) (unread k (same_clock-true (clock_of setting k) clock at)))) (length setting.plan.nodes) in
        answers_in-append b (calls_by (suc depth) clock n) (takes_at setting clock past ++ fades)
        ∙ ap (λ l. answers_in b (calls_by (suc depth) clock n) ++ l) (answers_in-append b (takes_at setting clock past) fades ∙ ap (λ l. answers_in b (takes_at setting clock past) ++ l) none ∙ append-nil (answers_in b (takes_at setting clock past)) ∙ takes_own n)
        ∙ ap (λ l. l ++ got_at t n) (direct depth n unread)
        ∙ ap (λ l. first_of (reading n).taken (setting.answers b) ++ l) (got_first t n)
        ∙ sym (first_split (reading n).taken (length (got_at t n)) (setting.answers b))
        ∙ ap (λ m. first_of m (setting.answers b)) (sym (taken_next n))

  -- the takes of a clock are the first answers
  abbrev AreFirst : List Answer → Type 0
  AreFirst got = (count : ℕ) × (got ≡ first_of count (setting.answers b))

  -- in a clock above that of its reader
  module _ (depth : ℕ) (clock : NodeClock) (k : ℕ) (of : clock_of setting k ≡ clock) (unread : (j : ℕ) → j ≢ k → clock_of setting j ≡ clock → IsUnread setting (Sub j) b) (off : clock_of setting i ≡ clock → ⊥) where
    takes_none : (n : ℕ) → answers_in b (takes_at setting clock (instants clock n)) ≡ []
    takes_none n = by (nat_eq (length (instants clock n) % setting.plan.frame) 0)
      where
        calls : ℕ → List Call
        calls j = takes_in setting (lies_in setting clock j) (instants clock n) j (slice_get setting.plan.nodes j)

        by : (t : Bool) → answers_in b (cond t (joined_upto calls (length setting.plan.nodes)) []) ≡ []
        by true = none_in_joined b calls (λ j. takes_other (instants clock n) j (lies_in setting clock j) (slice_get setting.plan.nodes j) refl
            (λ at e. off (ap (clock_of setting) (sym e) ∙ same_clock-true (clock_of setting j) clock at))) (length setting.plan.nodes)
        by false = refl

    -- of an instant only this crossfade's calls are left
    instant_is : (n : ℕ) → answers_in b (calls_at setting sub (suc depth) clock (instants clock n)) ≡ answers_in b (fades_at depth clock (instants clock n) k)
    instant_is n =
        let past = instants clock n in
        let fades = joined_upto (fades_at depth clock past) (length setting.plan.nodes) in
        let round = round_told (answers_in b) refl (answers_in-append b) k (fades_at depth clock past) (length setting.plan.nodes) (λ j away. fades_one depth clock past k unread j away) in
        answers_in-append b (takes_at setting clock past) fades ∙ ap (λ l. l ++ answers_in b fades) (takes_none n)
        ∙ elim (cases_lt k (length setting.plan.nodes)) [
          | inl low ↦ round.1 low
          | inr high ↦ round.0 high ∙ sym (past_none (slice_get setting.plan.nodes k) refl high)
        ]
      where
        past_none : (found : Option Node) → slice_get setting.plan.nodes k ≡ found → length setting.plan.nodes ≤ k → answers_in b (fades_at depth clock (instants clock n) k) ≡ []
        past_none None at high = ap (λ f. answers_in b (fades_in setting sub (λ j m. calls_at setting sub depth (Sub j) (instants (Sub j) m)) (lies_in setting clock k) (instants clock n) k f)) at
        past_none (Some found) at high = absurd (let low = slice_get_within setting.plan.nodes k found at in omega (arith, low, high))

    abbrev below : ℕ → List Call
    below m = calls_at setting sub depth (Sub k) (instants (Sub k) m)

    -- where it is no crossfade, nothing is taken
    quiet : ((n : ℕ) → answers_in b (fades_at depth clock (instants clock n) k) ≡ []) → (n : ℕ) → AreFirst (answers_in b (calls_by (suc depth) clock n))
    quiet none n = (0, none_in_joined b (λ j. calls_at setting sub (suc depth) clock (instants clock j)) (λ j. instant_is j ∙ none j) n)

    -- as far as its sub-clock has run
    runs : (overlap : ℕ) → ((n : ℕ) → fades_at depth clock (instants clock n) k ≡ joined_between below (ran_by sub k overlap (instants clock n)) (run_of overlap (sub k) (position (instants clock n) k)))
        → (n : ℕ) → answers_in b (calls_by (suc depth) clock n) ≡ answers_in b (joined_upto below (ran_by sub k overlap (instants clock n)))
    runs overlap are zero = refl
    runs overlap are (suc n) =
        let past = instants clock n in
        let from = ran_by sub k overlap past in
        let to = run_of overlap (sub k) (position past k) in
        let up = ran_on sub k overlap past in
        let e : to ≡ from + (to - from) = omega (arith, up) in
        answers_in-append b (calls_by (suc depth) clock n) (calls_at setting sub (suc depth) clock past)
        ∙ (λ i. runs overlap are n i ++ (instant_is n ∙ ap (answers_in b) (are n)) i)
        ∙ sym (answers_in-append b (joined_upto below from) (joined_between below from to))
        ∙ ap (answers_in b) (sym (ap (joined_upto below) e ∙ joined_split below from (to - from)))

    through : ((n : ℕ) → AreFirst (answers_in b (calls_by depth (Sub k) n))) → (n : ℕ) → AreFirst (answers_in b (calls_by (suc depth) clock n))
    through each = by (lies_in setting clock k) refl (slice_get setting.plan.nodes k) refl
      where
        fade : Bool → Option Node → ℕ → List Call
        fade inside found n = fades_in setting sub (λ j m. calls_at setting sub depth (Sub j) (instants (Sub j) m)) inside (instants clock n) k found

        works : (n : ℕ) (found : Node) → lies_in setting clock k ≡ true → slice_get setting.plan.nodes k ≡ Some found → (work : Work) → work_at setting k found ≡ work
            → fades_at depth clock (instants clock n) k ≡ fades_by sub (λ j m. calls_at setting sub depth (Sub j) (instants (Sub j) m)) (instants clock n) k work
        works n found inside at work does = (λ h. fade (inside h) (at h) n) ∙ ap (λ w. fades_by sub (λ j m. calls_at setting sub depth (Sub j) (instants (Sub j) m)) (instants clock n) k w) does

        with_work : (found : Node) → lies_in setting clock k ≡ true → slice_get setting.plan.nodes k ≡ Some found → (work : Work) → work_at setting k found ≡ work → (n : ℕ) → AreFirst (answers_in b (calls_by (suc depth) clock n))
        with_work found inside at (Plays leaf) does = quiet (λ n. ap (answers_in b) (works n found inside at (Plays leaf) does))
        with_work found inside at (Picks choice eligible) does = quiet (λ n. ap (answers_in b) (works n found inside at (Picks choice eligible) does))
        with_work found inside at (Mixes mixing) does = quiet (λ n. ap (answers_in b) (works n found inside at (Mixes mixing) does))
        with_work found inside at (Reads read) does = quiet (λ n. ap (answers_in b) (works n found inside at (Reads read) does))
        with_work found inside at (Fades overlap) does = λ n.
            let sum = each (ran_by sub k overlap (instants clock n)) in
            (sum.0, runs overlap (λ j. works j found inside at (Fades overlap) does) n ∙ sum.1)

        by : (inside : Bool) → lies_in setting clock k ≡ inside → (found : Option Node) → slice_get setting.plan.nodes k ≡ found → (n : ℕ) → AreFirst (answers_in b (calls_by (suc depth) clock n))
        by inside e None at = quiet (λ n. (λ h. answers_in b (fade (lies_in setting clock k) (at h) n)))
        by false e (Some found) at = quiet (λ n. (λ h. answers_in b (fade (e h) (at h) n)))
        by true e (Some found) at = with_work found e at (work_at setting k found) refl

  -- the clocks on the way down to the reader
  module _ (clocks : ClockMap) (rank : ℕ → ℕ) (deepest : ℕ) (nested : AreNested clocks (clock_of setting) (length setting.plan.nodes) rank deepest) where
    abbrev many : ℕ
    many = length setting.plan.nodes

    same_inside : (clock : NodeClock) → clock_of setting i ≡ clock → lies_in setting clock i ≡ true
    same_inside clock own = ap (same_clock (clock_of setting i)) (sym own) ∙ same_clock-refl (clock_of setting i)

    inside_i : i < many
    inside_i = slice_get_within setting.plan.nodes i node there

    sub_inside : (j k : ℕ) → j < many → clock_of setting j ≡ Sub k → k < many
    sub_inside j k low e = nested.within j k (nested.there j low ∙ ap (λ (c : NodeClock). Some c) e)

    below_inside : (r j k : ℕ) → j < many → IsBelow setting (Sub k) r j → k < many
    below_inside zero j k low is = sub_inside j k low is
    below_inside (suc r) j k low is = below_inside r is.0 k (sub_inside j is.0 low is.1) is.2

    below_rank : (r j k : ℕ) → j < many → IsBelow setting (Sub k) r j → rank j ≡ suc (rank k) + r
    below_rank zero j k low is = let down = deeper clocks (clock_of setting) many rank deepest nested j k low is in omega (arith, down)
    below_rank (suc r) j k low is =
        let down = deeper clocks (clock_of setting) many rank deepest nested j is.0 low is.1 in
        let more = below_rank r is.0 k (sub_inside j is.0 low is.1) is.2 in
        omega (arith, down, more)

    same_rank : (j k : ℕ) → j < many → k < many → (clock : NodeClock) → clock_of setting j ≡ clock → clock_of setting k ≡ clock → rank j ≡ rank k
    same_rank j k low less (Main m) e f =
        let one = nested.ranks.main j m (nested.there j low ∙ ap (λ (c : NodeClock). Some c) e) in
        let other = nested.ranks.main k m (nested.there k less ∙ ap (λ (c : NodeClock). Some c) f) in
        omega (arith, one, other)
    same_rank j k low less (Sub q) e f =
        let one = deeper clocks (clock_of setting) many rank deepest nested j q low e in
        let other = deeper clocks (clock_of setting) many rank deepest nested k q less f in
        omega (arith, one, other)

    one_sub : (k q : ℕ) → ◌≡◌ {A = NodeClock} (Sub k) (Sub q) → k ≡ q
    one_sub k q e = cc

    chain_one : (r j : ℕ) (one other : NodeClock) → IsBelow setting one r j → IsBelow setting other r j → one ≡ other
    chain_one zero j one other is are = sym is ∙ are
    chain_one (suc r) j one other is are =
        let same : is.0 ≡ are.0 = one_sub is.0 are.0 (sym is.1 ∙ are.1) in
        chain_one r is.0 one other is.2 (subst (λ q. IsBelow setting other r q) (sym same) are.2)

    -- the crossfade in a clock that leads down to it
    top : (clock : NodeClock) (r j : ℕ) → IsBelow setting clock (suc r) j → (k : ℕ) × (clock_of setting k ≡ clock) × IsBelow setting (Sub k) r j
    top clock zero j is = (is.0, is.2, is.1)
    top clock (suc r) j is = let more = top clock r is.0 is.2 in (more.0, more.1, (is.0, is.1, more.2))

    unread_all : (clock : NodeClock) → clock_of setting i ≡ clock → (k : ℕ) → clock_of setting k ≡ clock → IsUnread setting (Sub k) b
    unread_all clock own k of = record {
      none = λ r j found at work is.
          let here : j ≡ i = only j found at work in
          let is_i = subst (λ q. IsBelow setting (Sub k) r q) here is in
          let more = below_rank r i k inside_i is_i in
          let level = same_rank i k inside_i (below_inside r i k inside_i is_i) clock own of in
          omega (arith, more, level);
    }

    unread_others : (clock : NodeClock) (r k : ℕ) → clock_of setting k ≡ clock → IsBelow setting (Sub k) r i → (q : ℕ) → q ≢ k → clock_of setting q ≡ clock → IsUnread setting (Sub q) b
    unread_others clock r k of is q off at_q = record {
      none = λ s j found at work below_q.
          let here : j ≡ i = only j found at work in
          let is_q = subst (λ h. IsBelow setting (Sub q) s h) here below_q in
          let one = below_rank r i k inside_i is in
          let other = below_rank s i q inside_i is_q in
          let level = same_rank k q (below_inside r i k inside_i is) (below_inside s i q inside_i is_q) clock of at_q in
          let same : s ≡ r = omega (arith, one, other, level) in
          off (one_sub q k (chain_one r i (Sub q) (Sub k) (subst (λ n. IsBelow setting (Sub q) n i) same is_q) is));
    }

    off_clock : (clock : NodeClock) (r k : ℕ) → clock_of setting k ≡ clock → IsBelow setting (Sub k) r i → clock_of setting i ≡ clock → ⊥
    off_clock clock r k of is own =
        let more = below_rank r i k inside_i is in
        let level = same_rank i k inside_i (below_inside r i k inside_i is) clock own of in
        omega (arith, more, level)

    pub down : (r depth : ℕ) (clock : NodeClock) → r < depth → IsBelow setting clock r i → (n : ℕ) → AreFirst (answers_in b (calls_by depth clock n))
    down r zero clock low is n = absurd (omega (arith, low))
    down zero (suc depth) clock low is n = ((reading clock (same_inside clock is) n).taken, direct clock (same_inside clock is) depth n (unread_all clock is))
    down (suc r) (suc depth) clock low is n =
        let next = top clock r i is in
        through depth clock next.0 next.1 (unread_others clock r next.0 next.1 next.2) (off_clock clock r next.0 next.1 next.2)
        (λ m. down r depth (Sub next.0) (omega (arith, low)) next.2 m) n
