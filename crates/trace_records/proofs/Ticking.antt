-- The takes of a tick come before its gives.
use Rattle.std.proofs.Common.{◌≡◌, ◌∙◌, ◌++◌, ◌+◌, ◌-◌, ◌*◌, ◌%◌, ℕ, zero, suc, Bool, true, false, Option, Some, None, List, [], ◌∷◌, length, map, nat_eq, slice_get, flat_map, refl, ap}
use Rattle.plan_core.specs.declared.node.Node.{Node}
use Rattle.plan_core.specs.declared.sink.SinkPlan.{SinkPlan}
use Rattle.plan_core.specs.declared.sink.SinkPlan.TheVariants.{Output, Feed}
use Rattle.clock_infer.specs.declared.clock_map.NodeClock.{NodeClock}
use Rattle.clock_infer.specs.declared.clock_map.NodeClock.TheVariants.{Main, Sub}
use Rattle.frame_core.specs.declared.cell.Cell.{Cell}
use Rattle.frame_core.specs.Slots.{Slot}
use Rattle.frame_core.specs.Calls.{Call, Took, puts_to, takes_of, Answer}
use Rattle.op_cross.specs.Runs.{run_of}
use Rattle.op_leaf.specs.Readers.{reader_takes as takes_of_reader}
use Rattle.run_records.proofs.Flattening.{puts-append, takes-append}
use Rattle.stream_meaning.specs.Operators.{Work, Plays, Picks, Mixes, Fades, Reads}
use Rattle.stream_meaning.specs.Instants.{Setting, Moment, lies_in, position, next_answers, reading_after, work_at, first_instants, sub_of}
use Rattle.stream_meaning.specs.Sinks.{feed_cells}
use Rattle.stream_meaning.specs.Calls.{calls_at, calls_of, fades_by, fades_in, give_by, given, gives_of_tick, joined_upto, ran_by, takes_at, takes_by, takes_in, takes_of_tick}

none_joined : (b : ℕ) (calls : ℕ → List Call) → ((j : ℕ) → puts_to b (calls j) ≡ []) → (n : ℕ) → puts_to b (joined_upto calls n) ≡ []
none_joined b calls none zero = refl
none_joined b calls none (suc n) =
    puts-append b (joined_upto calls n) (calls n) ∙ ap (λ (l : List Answer). l ++ puts_to b (calls n)) (none_joined b calls none n) ∙ none n

none_taken : (b buffer : ℕ) (answers : List Answer) → puts_to b (map (Took buffer) answers) ≡ []
none_taken b buffer [] = refl
none_taken b buffer (answer ∷ answers) = none_taken b buffer answers

none_by : (setting : Setting) (past : List Moment) (i b : ℕ) (work : Work) → puts_to b (takes_by setting past i work) ≡ []
none_by setting past i b (Plays leaf) = refl
none_by setting past i b (Picks choice eligible) = refl
none_by setting past i b (Mixes mixing) = refl
none_by setting past i b (Fades overlap) = refl
none_by setting past i b (Reads read) = none_taken b read (takes_of_reader (next_answers (setting.answers read) (reading_after setting i read past)) (reading_after setting i read past).reader)

none_in : (setting : Setting) (past : List Moment) (b i : ℕ) (inside : Bool) (found : Option Node) → puts_to b (takes_in setting inside past i found) ≡ []
none_in setting past b i inside None = refl
none_in setting past b i false (Some node) = refl
none_in setting past b i true (Some node) = none_by setting past i b (work_at setting i node)

none_at : (setting : Setting) (clock : NodeClock) (past : List Moment) (b : ℕ) → puts_to b (takes_at setting clock past) ≡ []
none_at setting clock past b = by (nat_eq (length past % setting.plan.frame) 0) refl
  where
    by : (s : Bool) → nat_eq (length past % setting.plan.frame) 0 ≡ s → puts_to b (takes_at setting clock past) ≡ []
    by true e = rw e (none_joined b _ (λ i. none_in setting past b i (lies_in setting clock i) (slice_get setting.plan.nodes i)) (length setting.plan.nodes))
    by false e = rw e refl

none_faded_by : (sub : ℕ → ℕ → List Slot) (below : ℕ → ℕ → List Call) (past : List Moment) (k b : ℕ) (work : Work) → ((m : ℕ) → puts_to b (below k m) ≡ []) → puts_to b (fades_by sub below past k work) ≡ []
none_faded_by sub below past k b (Plays leaf) none = refl
none_faded_by sub below past k b (Picks choice eligible) none = refl
none_faded_by sub below past k b (Mixes mixing) none = refl
none_faded_by sub below past k b (Fades overlap) none =
    none_joined b (λ j. below k (ran_by sub k overlap past + j)) (λ j. none (ran_by sub k overlap past + j)) (run_of overlap (sub k) (position past k) - ran_by sub k overlap past)
none_faded_by sub below past k b (Reads read) none = refl

none_faded_in : (setting : Setting) (sub : ℕ → ℕ → List Slot) (below : ℕ → ℕ → List Call) (past : List Moment) (k b : ℕ) (inside : Bool) (found : Option Node)
    → ((m : ℕ) → puts_to b (below k m) ≡ []) → puts_to b (fades_in setting sub below inside past k found) ≡ []
none_faded_in setting sub below past k b inside None none = refl
none_faded_in setting sub below past k b false (Some node) none = refl
none_faded_in setting sub below past k b true (Some node) none = none_faded_by sub below past k b (work_at setting k node) none

none_called : (setting : Setting) (sub : ℕ → ℕ → List Slot) (b depth : ℕ) (clock : NodeClock) (past : List Moment) → puts_to b (calls_at setting sub depth clock past) ≡ []
none_called setting sub b zero clock past = refl
none_called setting sub b (suc depth) clock past =
    let fades : (k : ℕ) → puts_to b (fades_in setting sub (λ j m. calls_at setting sub depth (Sub j) (first_instants setting sub (Sub j) m)) (lies_in setting clock k) past k (slice_get setting.plan.nodes k)) ≡ [] =
    λ k. none_faded_in setting sub (λ j m. calls_at setting sub depth (Sub j) (first_instants setting sub (Sub j) m)) past k b (lies_in setting clock k) (slice_get setting.plan.nodes k)
    (λ m. none_called setting sub b depth (Sub k) (first_instants setting sub (Sub k) m)) in
    puts-append b (takes_at setting clock past) (joined_upto (λ k. fades_in setting sub (λ j m. calls_at setting sub depth (Sub j) (first_instants setting sub (Sub j) m)) (lies_in setting clock k) past k (slice_get setting.plan.nodes k)) (length setting.plan.nodes))
    ∙ ap (λ (l : List Answer). l ++ puts_to b (joined_upto (λ k. fades_in setting sub (λ j m. calls_at setting sub depth (Sub j) (first_instants setting sub (Sub j) m)) (lies_in setting clock k) past k (slice_get setting.plan.nodes k)) (length setting.plan.nodes))) (none_at setting clock past b)
    ∙ none_joined b (λ k. fades_in setting sub (λ j m. calls_at setting sub depth (Sub j) (first_instants setting sub (Sub j) m)) (lies_in setting clock k) past k (slice_get setting.plan.nodes k)) fades (length setting.plan.nodes)

pub takes_put_none : (setting : Setting) (b m t : ℕ) → puts_to b (takes_of_tick setting m t) ≡ []
takes_put_none setting b m t = none_joined b (λ j. calls_of setting (sub_of setting) (Main m) (first_instants setting (sub_of setting) (Main m) (t * setting.plan.frame + j)))
    (λ j. none_called setting (sub_of setting) b (suc (length setting.plan.nodes)) (Main m) (first_instants setting (sub_of setting) (Main m) (t * setting.plan.frame + j))) setting.plan.frame

given_takes : (b buffer : ℕ) (cells : List Cell) (accepted : Bool) → takes_of b (given buffer cells accepted) ≡ []
given_takes b buffer [] accepted = refl
given_takes b buffer (cell ∷ cells) accepted = refl

give_takes : (setting : Setting) (accepted : ℕ → Bool) (b m t : ℕ) (sink : SinkPlan) → takes_of b (give_by setting accepted m t sink) ≡ []
give_takes setting accepted b m t (Output name node fallible wide) = refl
give_takes setting accepted b m t (Feed buffer node) = by (lies_in setting (Main m) node) refl
  where
    by : (s : Bool) → lies_in setting (Main m) node ≡ s → takes_of b (give_by setting accepted m t (Feed buffer node)) ≡ []
    by true e = rw e (given_takes b buffer (feed_cells setting node t) (accepted buffer))
    by false e = rw e refl

pub gives_take_none : (setting : Setting) (accepted : ℕ → Bool) (b m t : ℕ) → takes_of b (gives_of_tick setting accepted m t) ≡ []
gives_take_none setting accepted b m t = go setting.plan.sinks
  where
    go : (sinks : List SinkPlan) → takes_of b (flat_map (give_by setting accepted m t) sinks) ≡ []
    go [] = refl
    go (sink ∷ sinks) = takes-append b (give_by setting accepted m t sink) (flat_map (give_by setting accepted m t) sinks) ∙ ap (λ (l : List Answer). l ++ takes_of b (flat_map (give_by setting accepted m t) sinks)) (give_takes setting accepted b m t sink) ∙ go sinks
