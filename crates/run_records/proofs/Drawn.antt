-- What a tick takes of a buffer is what its reader takes.
use Rattle.std.proofs.Common.{◌≡◌, ◌<◌, ◌≤◌, ◌⊎◌, ◌+◌, ◌-◌, ◌*◌, ◌%◌, ℕ, zero, suc, Bool, true, false, Option, Some, None, List, [], ◌∷◌, ◌++◌, length, map, nat_eq, slice_get, flat_map, if◌then◌else◌, inl, inr, refl, ap, sym, ◌∙◌, arith, append-nil, true≢false}
use Rattle.std.proofs.lemmas.Bool.{cases_lt}
use Rattle.std.proofs.lemmas.Bool.Decides.{nat_tests}
use Rattle.std.proofs.lemmas.Option.{slice_get_within}
use Rattle.frame_core.specs.declared.cell.Cell.{Cell}
use Rattle.frame_core.specs.Slots.{Slot}
use Rattle.frame_core.specs.Calls.{Call, Took, takes_of, Answer}
use Rattle.plan_core.specs.declared.node.Node.{Node}
use Rattle.plan_core.specs.declared.sink.SinkPlan.{SinkPlan}
use Rattle.plan_core.specs.declared.sink.SinkPlan.TheVariants.{Output, Feed}
use Rattle.clock_infer.specs.declared.clock_map.NodeClock.{NodeClock}
use Rattle.clock_infer.specs.declared.clock_map.NodeClock.TheVariants.{Main, Sub}
use Rattle.op_leaf.specs.Readers as R
use Rattle.op_cross.specs.Runs.{run_of}
use Rattle.stream_meaning.specs.Operators.{Work, Plays, Picks, Mixes, Fades, Reads}
use Rattle.stream_meaning.specs.Instants.{Setting, Moment, same_clock, lies_in, next_answers, reading_after, work_at, first_instants, position, sub_of}
use Rattle.stream_meaning.specs.Calls.{joined_upto, takes_by, takes_in, takes_at, fades_by, fades_in, ran_by, calls_at, calls_of, given, give_by, calls_of_tick, takes_of_tick, gives_of_tick}
use Rattle.stream_meaning.specs.Sinks.{feed_cells}
use Rattle.run_records.specs.Pace.{IsDrawn}
use Rattle.run_records.proofs.Flattening.{takes-append}
use Rattle.run_records.proofs.Drawing.{At, first_place, later_place}

module _ (b : ℕ) where
  joined_none : (calls : ℕ → List Call) (n : ℕ) → ((j : ℕ) → j < n → takes_of b (calls j) ≡ []) → takes_of b (joined_upto calls n) ≡ []
  joined_none calls zero each = refl
  joined_none calls (suc n) each =
      let more : (j : ℕ) → j < n → takes_of b (calls j) ≡ [] = λ j low. each j (omega (arith, low)) in
      let last : n < suc n = omega arith in
      takes-append b (joined_upto calls n) (calls n) ∙ (λ i. joined_none calls n more i ++ each n last i)

  joined_one : (calls : ℕ → List Call) (n k : ℕ) → k < n → ((j : ℕ) → j < n → (j ≡ k → ⊥) → takes_of b (calls j) ≡ []) → takes_of b (joined_upto calls n) ≡ takes_of b (calls k)
  joined_one calls zero k low each = absurd (omega (arith, low))
  joined_one calls (suc n) k low each = by (cases_lt k n) (λ less. joined_one calls n k less (λ j into off. each j (omega (arith, into)) off))
    where
      by : (k < n) ⊎ (n ≤ k) → (k < n → takes_of b (joined_upto calls n) ≡ takes_of b (calls k)) → takes_of b (joined_upto calls (suc n)) ≡ takes_of b (calls k)
      by (inl less) more =
          let last : n < suc n = omega arith in
          let off : n ≡ k → ⊥ = λ e. omega (arith, e, less) in
          takes-append b (joined_upto calls n) (calls n) ∙ (λ i. more less i ++ each n last off i) ∙ append-nil (takes_of b (calls k))
      by (inr most) more =
          let same : n ≡ k = omega (arith, most, low) in
          takes-append b (joined_upto calls n) (calls n)
          ∙ ap (λ (l : List Answer). l ++ takes_of b (calls n)) (joined_none calls n (λ j into. each j (omega (arith, into)) (λ e. omega (arith, e, into, same))))
          ∙ ap (λ (x : ℕ). takes_of b (calls x)) same

  other_taken : (buffer : ℕ) (answers : List Answer) → nat_eq b buffer ≡ false → takes_of b (map (Took buffer) answers) ≡ []
  other_taken buffer [] off = refl
  other_taken buffer (answer ∷ answers) off = rw off (other_taken buffer answers off)

  own_taken : (answers : List Answer) → takes_of b (map (Took b) answers) ≡ answers
  own_taken [] = refl
  own_taken (answer ∷ answers) =
      let same : nat_eq b b ≡ true = grind (arith, nat_tests) in
      ap (λ (t : Bool). if t then answer ∷ takes_of b (map (Took b) answers) else takes_of b (map (Took b) answers)) same ∙ ap (λ (l : List Answer). answer ∷ l) (own_taken answers)

  given_none : (to : ℕ) (cells : List Cell) (kept : Bool) → takes_of b (given to cells kept) ≡ []
  given_none to [] kept = refl
  given_none to (cell ∷ cells) kept = refl

  gives_none : (setting : Setting) (accepted : ℕ → Bool) (m t : ℕ) (sinks : List SinkPlan) → takes_of b (flat_map (give_by setting accepted m t) sinks) ≡ []
  gives_none setting accepted m t [] = refl
  gives_none setting accepted m t (Output name node fallible wide ∷ sinks) = gives_none setting accepted m t sinks
  gives_none setting accepted m t (Feed to node ∷ sinks) =
      takes-append b (give_by setting accepted m t (Feed to node)) (flat_map (give_by setting accepted m t) sinks)
      ∙ (λ i. by (lies_in setting (Main m) node) i ++ gives_none setting accepted m t sinks i)
    where
      by : (inside : Bool) → takes_of b (if inside then given to (feed_cells setting node t) (accepted to) else []) ≡ []
      by true = given_none to (feed_cells setting node t) (accepted to)
      by false = refl

  module _ (setting : Setting) (m i : ℕ) (node : Node) (is : IsDrawn setting b m i node) (some : 1 ≤ setting.plan.frame)
      (only : (k : ℕ) (other : Node) → slice_get setting.plan.nodes k ≡ Some other → work_at setting k other ≡ Reads b → k ≡ i) where
    not_by : (past : List Moment) (k : ℕ) (work : Work) → (work ≡ Reads b → ⊥) → takes_of b (takes_by setting past k work) ≡ []
    not_by past k (Plays leaf) off = refl
    not_by past k (Picks choice eligible) off = refl
    not_by past k (Mixes mixing) off = refl
    not_by past k (Fades overlap) off = refl
    not_by past k (Reads buffer) off = by (nat_eq b buffer) refl
      where
        by : (t : Bool) → nat_eq b buffer ≡ t → takes_of b (takes_by setting past k (Reads buffer)) ≡ []
        by true e = (let same : buffer ≡ b = grind (arith, nat_tests) in absurd (off (ap Reads same)))
        by false e = other_taken buffer (R.reader_takes (next_answers (setting.answers buffer) (reading_after setting k buffer past)) (reading_after setting k buffer past).reader) e

    not_in : (past : List Moment) (k : ℕ) (inside : Bool) → (inside ≡ true → k ≡ i → ⊥) → (found : Option Node) → slice_get setting.plan.nodes k ≡ found
        → takes_of b (takes_in setting inside past k found) ≡ []
    not_in past k inside off None at = refl
    not_in past k false off (Some other) at = refl
    not_in past k true off (Some other) at = not_by past k (work_at setting k other) (λ e. off refl (only k other at e))

    takes : NodeClock → List Moment → ℕ → List Call
    takes clock past k = takes_in setting (lies_in setting clock k) past k (slice_get setting.plan.nodes k)

    not_at : (clock : NodeClock) (past : List Moment) → lies_in setting clock i ≡ false → takes_of b (takes_at setting clock past) ≡ []
    not_at clock past off = by (nat_eq (length past % setting.plan.frame) 0)
      where
        by : (t : Bool) → takes_of b (if t then joined_upto (λ k. takes_in setting (lies_in setting clock k) past k (slice_get setting.plan.nodes k)) (length setting.plan.nodes) else []) ≡ []
        by true = joined_none (λ k. takes_in setting (lies_in setting clock k) past k (slice_get setting.plan.nodes k)) (length setting.plan.nodes)
            (λ k low. not_in past k (lies_in setting clock k) (λ e same. true≢false (sym e ∙ ap (lies_in setting clock) same ∙ off)) (slice_get setting.plan.nodes k) refl)
        by false = refl

    sub_off : (j : ℕ) → lies_in setting (Sub j) i ≡ false
    sub_off j = ap (λ clock. same_clock clock (Sub j)) is.lies

    not_fade : (sub : ℕ → ℕ → List Slot) (below : ℕ → ℕ → List Call) → ((k n : ℕ) → takes_of b (below k n) ≡ []) → (past : List Moment) (k : ℕ) (work : Work) → takes_of b (fades_by sub below past k work) ≡ []
    not_fade sub below each past k (Plays leaf) = refl
    not_fade sub below each past k (Picks choice eligible) = refl
    not_fade sub below each past k (Mixes mixing) = refl
    not_fade sub below each past k (Fades overlap) =
        joined_none (λ j. below k (ran_by sub k overlap past + j)) (run_of overlap (sub k) (position past k) - ran_by sub k overlap past) (λ j low. each k (ran_by sub k overlap past + j))
    not_fade sub below each past k (Reads buffer) = refl

    not_fades : (sub : ℕ → ℕ → List Slot) (below : ℕ → ℕ → List Call) → ((k n : ℕ) → takes_of b (below k n) ≡ []) → (inside : Bool) (past : List Moment) (k : ℕ) (found : Option Node)
        → takes_of b (fades_in setting sub below inside past k found) ≡ []
    not_fades sub below each inside past k None = refl
    not_fades sub below each false past k (Some other) = refl
    not_fades sub below each true past k (Some other) = not_fade sub below each past k (work_at setting k other)

    not_called : (sub : ℕ → ℕ → List Slot) (depth : ℕ) (clock : NodeClock) (past : List Moment) → lies_in setting clock i ≡ false → takes_of b (calls_at setting sub depth clock past) ≡ []
    not_called sub zero clock past off = refl
    not_called sub (suc depth) clock past off =
        let below : ℕ → ℕ → List Call = λ j n. calls_at setting sub depth (Sub j) (first_instants setting sub (Sub j) n) in
        let fades : ℕ → List Call = λ k. fades_in setting sub below (lies_in setting clock k) past k (slice_get setting.plan.nodes k) in
        takes-append b (takes_at setting clock past) (joined_upto fades (length setting.plan.nodes))
        ∙ (λ x. not_at clock past off x ++ joined_none fades (length setting.plan.nodes)
        (λ k low. not_fades sub below (λ j n. not_called sub depth (Sub j) (first_instants setting sub (Sub j) n) (sub_off j)) (lies_in setting clock k) past k (slice_get setting.plan.nodes k)) x)

    main_called : (sub : ℕ → ℕ → List Slot) (past : List Moment) → takes_of b (calls_of setting sub (Main m) past) ≡ takes_of b (takes_at setting (Main m) past)
    main_called sub past =
        let depth = length setting.plan.nodes in
        let below : ℕ → ℕ → List Call = λ j n. calls_at setting sub depth (Sub j) (first_instants setting sub (Sub j) n) in
        let fades : ℕ → List Call = λ k. fades_in setting sub below (lies_in setting (Main m) k) past k (slice_get setting.plan.nodes k) in
        takes-append b (takes_at setting (Main m) past) (joined_upto fades (length setting.plan.nodes))
        ∙ ap (λ (l : List Answer). takes_of b (takes_at setting (Main m) past) ++ l) (joined_none fades (length setting.plan.nodes)
        (λ k low. not_fades sub below (λ j n. not_called sub depth (Sub j) (first_instants setting sub (Sub j) n) (sub_off j)) (lies_in setting (Main m) k) past k (slice_get setting.plan.nodes k)))
        ∙ append-nil (takes_of b (takes_at setting (Main m) past))

    -- the takes of the reader where a tick begins
    inside : lies_in setting (Main m) i ≡ true
    inside = (let same : nat_eq m m ≡ true = grind (arith, nat_tests) in ap (λ clock. same_clock clock (Main m)) is.lies ∙ same)

    read : List Moment → List Answer
    read past = R.reader_takes (next_answers (setting.answers b) (reading_after setting i b past)) (reading_after setting i b past).reader

    mine : (past : List Moment) → takes_of b (takes_in setting (lies_in setting (Main m) i) past i (slice_get setting.plan.nodes i)) ≡ R.reader_takes (next_answers (setting.answers b) (reading_after setting i b past)) (reading_after setting i b past).reader
    mine past =
        ap (λ (t : Bool). takes_of b (takes_in setting t past i (slice_get setting.plan.nodes i))) inside
        ∙ ap (λ (found : Option Node). takes_of b (takes_in setting true past i found)) is.found
        ∙ ap (λ (work : Work). takes_of b (takes_by setting past i work)) is.does
        ∙ own_taken (R.reader_takes (next_answers (setting.answers b) (reading_after setting i b past)) (reading_after setting i b past).reader)

    main_first : (past : List Moment) → nat_eq (length past % setting.plan.frame) 0 ≡ true
        → takes_of b (takes_at setting (Main m) past) ≡ R.reader_takes (next_answers (setting.answers b) (reading_after setting i b past)) (reading_after setting i b past).reader
    main_first past e =
        let all : ℕ → List Call = λ k. takes_in setting (lies_in setting (Main m) k) past k (slice_get setting.plan.nodes k) in
        ap (λ (t : Bool). takes_of b (if t then joined_upto all (length setting.plan.nodes) else [])) e
        ∙ joined_one all (length setting.plan.nodes) i (slice_get_within setting.plan.nodes i node is.found)
        (λ k low off. not_in past k (lies_in setting (Main m) k) (λ into same. off same) (slice_get setting.plan.nodes k) refl)
        ∙ mine past

    main_later : (past : List Moment) → nat_eq (length past % setting.plan.frame) 0 ≡ false → takes_of b (takes_at setting (Main m) past) ≡ []
    main_later past e = ap (λ (t : Bool). takes_of b (if t then joined_upto (λ k. takes_in setting (lies_in setting (Main m) k) past k (slice_get setting.plan.nodes k)) (length setting.plan.nodes) else [])) e

    -- the takes of a tick
    pub tick_takes : (accepted : ℕ → Bool) (t : ℕ) → takes_of b (calls_of_tick setting accepted m t)
        ≡ R.reader_takes (next_answers (setting.answers b) (At setting b m i node is some t)) (At setting b m i node is some t).reader
    tick_takes accepted t =
        let sub = sub_of setting in
        let first = t * setting.plan.frame in
        let calls : ℕ → List Call = λ j. calls_of setting sub (Main m) (first_instants setting sub (Main m) (first + j)) in
        let none : first + 0 ≡ first = omega arith in
        takes-append b (takes_of_tick setting m t) (gives_of_tick setting accepted m t)
        ∙ ap (λ (l : List Answer). takes_of b (takes_of_tick setting m t) ++ l) (gives_none setting accepted m t setting.plan.sinks)
        ∙ append-nil (takes_of b (takes_of_tick setting m t))
        ∙ joined_one calls setting.plan.frame 0 (omega (arith, some)) (λ j low off. later j low off)
        ∙ ap (λ (n : ℕ). takes_of b (calls_of setting (sub_of setting) (Main m) (first_instants setting (sub_of setting) (Main m) n))) none
        ∙ main_called sub (first_instants setting sub (Main m) first)
        ∙ main_first (first_instants setting sub (Main m) first) (first_place setting b m i node is some t)
      where
        later : (j : ℕ) → j < setting.plan.frame → (j ≡ 0 → ⊥) → takes_of b (calls_of setting (sub_of setting) (Main m) (first_instants setting (sub_of setting) (Main m) (t * setting.plan.frame + j))) ≡ []
        later zero low off = absurd (off refl)
        later (suc j) low off = main_called (sub_of setting) (first_instants setting (sub_of setting) (Main m) (t * setting.plan.frame + suc j))
            ∙ main_later (first_instants setting (sub_of setting) (Main m) (t * setting.plan.frame + suc j)) (later_place setting b m i node is some t j low)
