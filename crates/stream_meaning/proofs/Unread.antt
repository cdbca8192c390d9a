-- A clock takes from the buffers alone that nodes in it or below it read.
use Rattle.std.proofs.Common.{◌≡◌, ◌∙◌, ◌++◌, ◌+◌, ◌-◌, ◌*◌, ◌%◌, ℕ, zero, suc, Bool, true, false, Option, Some, None, List, [], ◌∷◌, length, nat_eq, slice_get, flat_map, refl, ap}
use Rattle.plan_core.specs.declared.node.Node.{Node}
use Rattle.plan_core.specs.declared.sink.SinkPlan.{SinkPlan}
use Rattle.plan_core.specs.declared.sink.SinkPlan.TheVariants.{Output, Feed}
use Rattle.clock_infer.specs.declared.clock_map.NodeClock.{NodeClock}
use Rattle.clock_infer.specs.declared.clock_map.NodeClock.TheVariants.{Main, Sub}
use Rattle.frame_core.specs.declared.cell.Cell.{Cell}
use Rattle.frame_core.specs.Slots.{Slot}
use Rattle.frame_core.specs.Calls.{Call, Answer}
use Rattle.op_cross.specs.Runs.{run_of}
use Rattle.op_leaf.specs.Readers.{reader_takes}
use Rattle.stream_meaning.specs.Operators.{Work, Plays, Picks, Mixes, Fades, Reads}
use Rattle.stream_meaning.specs.Instants.{Setting, Moment, clock_of, lies_in, position, next_answers, reading_after, work_at, first_instants, sub_of}
use Rattle.stream_meaning.specs.Sinks.{feed_cells}
use Rattle.stream_meaning.specs.Calls.{IsBelow, IsUnread, answers_in, calls_at, calls_of_tick, fades_by, fades_in, give_by, given, joined_upto, ran_by, takes_at, takes_by, takes_in}
use Rattle.stream_meaning.proofs.Answering.{answers_in-append, answers_in-other}
use Rattle.stream_meaning.proofs.Existence.{same_clock-true}

pub none_in_joined : (buffer : ℕ) (calls : ℕ → List Call) → ((j : ℕ) → answers_in buffer (calls j) ≡ []) → (n : ℕ) → answers_in buffer (joined_upto calls n) ≡ []
none_in_joined buffer calls none zero = refl
none_in_joined buffer calls none (suc n) =
    answers_in-append buffer (joined_upto calls n) (calls n)
    ∙ ap (λ (answers : List Answer). answers ++ answers_in buffer (calls n)) (none_in_joined buffer calls none n) ∙ none n

-- one clock more above
deeper : (setting : Setting) (clock : NodeClock) (k : ℕ) → clock_of setting k ≡ clock → (rank i : ℕ) → IsBelow setting (Sub k) rank i → IsBelow setting clock (suc rank) i
deeper setting clock k of zero i below = (k, below, of)
deeper setting clock k of (suc rank) i below = (below.0, below.1, deeper setting clock k of rank below.0 below.2)

unread_below : (setting : Setting) (clock : NodeClock) (k buffer : ℕ) → clock_of setting k ≡ clock → IsUnread setting clock buffer → IsUnread setting (Sub k) buffer
unread_below setting clock k buffer of unread = record { none = λ rank i node found work below. unread.none (suc rank) i node found work (deeper setting clock k of rank i below) }

no_taken_by : (setting : Setting) (past : List Moment) (i buffer : ℕ) (work : Work) → (work ≡ Reads buffer → ⊥) → answers_in buffer (takes_by setting past i work) ≡ []
no_taken_by setting past i buffer (Plays leaf) other = refl
no_taken_by setting past i buffer (Picks choice eligible) other = refl
no_taken_by setting past i buffer (Mixes mixing) other = refl
no_taken_by setting past i buffer (Fades overlap) other = refl
no_taken_by setting past i buffer (Reads read) other =
    answers_in-other buffer read (reader_takes (next_answers (setting.answers read) (reading_after setting i read past)) (reading_after setting i read past).reader) (λ same. other (ap Reads same))

no_taken_in : (setting : Setting) (clock : NodeClock) (past : List Moment) (buffer : ℕ) → IsUnread setting clock buffer → (i : ℕ) (inside : Bool) (found : Option Node) → lies_in setting clock i ≡ inside → slice_get setting.plan.nodes i ≡ found
    → answers_in buffer (takes_in setting inside past i found) ≡ []
no_taken_in setting clock past buffer unread i inside None is at = refl
no_taken_in setting clock past buffer unread i false (Some node) is at = refl
no_taken_in setting clock past buffer unread i true (Some node) is at =
    no_taken_by setting past i buffer (work_at setting i node) (λ work. unread.none 0 i node at work (same_clock-true (clock_of setting i) clock is))

no_taken : (setting : Setting) (clock : NodeClock) (past : List Moment) (buffer : ℕ) → IsUnread setting clock buffer → answers_in buffer (takes_at setting clock past) ≡ []
no_taken setting clock past buffer unread = by (nat_eq (length past % setting.plan.frame) 0) refl
  where
    by : (b : Bool) → nat_eq (length past % setting.plan.frame) 0 ≡ b → answers_in buffer (takes_at setting clock past) ≡ []
    by true e = rw e (none_in_joined buffer _ (λ i. no_taken_in setting clock past buffer unread i (lies_in setting clock i) (slice_get setting.plan.nodes i) refl refl) (length setting.plan.nodes))
    by false e = rw e refl

no_faded_by : (sub : ℕ → ℕ → List Slot) (below : ℕ → ℕ → List Call) (past : List Moment) (k buffer : ℕ) (work : Work) → ((m : ℕ) → answers_in buffer (below k m) ≡ []) → answers_in buffer (fades_by sub below past k work) ≡ []
no_faded_by sub below past k buffer (Plays leaf) none = refl
no_faded_by sub below past k buffer (Picks choice eligible) none = refl
no_faded_by sub below past k buffer (Mixes mixing) none = refl
no_faded_by sub below past k buffer (Fades overlap) none =
    none_in_joined buffer (λ j. below k (ran_by sub k overlap past + j)) (λ j. none (ran_by sub k overlap past + j)) (run_of overlap (sub k) (position past k) - ran_by sub k overlap past)
no_faded_by sub below past k buffer (Reads read) none = refl

no_faded_in : (setting : Setting) (sub : ℕ → ℕ → List Slot) (below : ℕ → ℕ → List Call) (past : List Moment) (k buffer : ℕ) (inside : Bool) (found : Option Node)
    → (inside ≡ true → (m : ℕ) → answers_in buffer (below k m) ≡ []) → answers_in buffer (fades_in setting sub below inside past k found) ≡ []
no_faded_in setting sub below past k buffer inside None none = refl
no_faded_in setting sub below past k buffer false (Some node) none = refl
no_faded_in setting sub below past k buffer true (Some node) none = no_faded_by sub below past k buffer (work_at setting k node) (none refl)

pub no_called : (setting : Setting) (sub : ℕ → ℕ → List Slot) (buffer depth : ℕ) (clock : NodeClock) (past : List Moment) → IsUnread setting clock buffer → answers_in buffer (calls_at setting sub depth clock past) ≡ []
no_called setting sub buffer zero clock past unread = refl
no_called setting sub buffer (suc depth) clock past unread =
    let fades : (k : ℕ) → answers_in buffer (fades_in setting sub (λ j m. calls_at setting sub depth (Sub j) (first_instants setting sub (Sub j) m)) (lies_in setting clock k) past k (slice_get setting.plan.nodes k)) ≡ [] =
    λ k. no_faded_in setting sub (λ j m. calls_at setting sub depth (Sub j) (first_instants setting sub (Sub j) m)) past k buffer (lies_in setting clock k) (slice_get setting.plan.nodes k)
    (λ inside m. no_called setting sub buffer depth (Sub k) (first_instants setting sub (Sub k) m) (unread_below setting clock k buffer (same_clock-true (clock_of setting k) clock inside) unread)) in
    answers_in-append buffer (takes_at setting clock past) (joined_upto (λ k. fades_in setting sub (λ j m. calls_at setting sub depth (Sub j) (first_instants setting sub (Sub j) m)) (lies_in setting clock k) past k (slice_get setting.plan.nodes k)) (length setting.plan.nodes))
    ∙ ap (λ (answers : List Answer). answers ++ answers_in buffer (joined_upto (λ k. fades_in setting sub (λ j m. calls_at setting sub depth (Sub j) (first_instants setting sub (Sub j) m)) (lies_in setting clock k) past k (slice_get setting.plan.nodes k)) (length setting.plan.nodes))) (no_taken setting clock past buffer unread)
    ∙ none_in_joined buffer (λ k. fades_in setting sub (λ j m. calls_at setting sub depth (Sub j) (first_instants setting sub (Sub j) m)) (lies_in setting clock k) past k (slice_get setting.plan.nodes k)) fades (length setting.plan.nodes)

pub no_given : (buffer to : ℕ) (cells : List Cell) (accepted : Bool) → answers_in buffer (given to cells accepted) ≡ []
no_given buffer to [] accepted = refl
no_given buffer to (cell ∷ cells) accepted = refl

no_given_by : (setting : Setting) (accepted : ℕ → Bool) (m t buffer : ℕ) (sink : SinkPlan) → answers_in buffer (give_by setting accepted m t sink) ≡ []
no_given_by setting accepted m t buffer (Output name node fallible wide) = refl
no_given_by setting accepted m t buffer (Feed to node) = by (lies_in setting (Main m) node) refl
  where
    by : (b : Bool) → lies_in setting (Main m) node ≡ b → answers_in buffer (give_by setting accepted m t (Feed to node)) ≡ []
    by true e = rw e (no_given buffer to (feed_cells setting node t) (accepted to))
    by false e = rw e refl

no_gives : (setting : Setting) (accepted : ℕ → Bool) (m t buffer : ℕ) (sinks : List SinkPlan) → answers_in buffer (flat_map (give_by setting accepted m t) sinks) ≡ []
no_gives setting accepted m t buffer [] = refl
no_gives setting accepted m t buffer (sink ∷ sinks) =
    answers_in-append buffer (give_by setting accepted m t sink) (flat_map (give_by setting accepted m t) sinks)
    ∙ ap (λ (answers : List Answer). answers ++ answers_in buffer (flat_map (give_by setting accepted m t) sinks)) (no_given_by setting accepted m t buffer sink)
    ∙ no_gives setting accepted m t buffer sinks

-- a tick takes from no other buffer
pub no_tick_takes : (setting : Setting) (accepted : ℕ → Bool) (m t buffer : ℕ) → IsUnread setting (Main m) buffer → answers_in buffer (calls_of_tick setting accepted m t) ≡ []
no_tick_takes setting accepted m t buffer unread =
    answers_in-append buffer (joined_upto (λ j. calls_at setting (sub_of setting) (suc (length setting.plan.nodes)) (Main m) (first_instants setting (sub_of setting) (Main m) (t * setting.plan.frame + j))) setting.plan.frame) (flat_map (give_by setting accepted m t) setting.plan.sinks)
    ∙ ap (λ (answers : List Answer). answers ++ answers_in buffer (flat_map (give_by setting accepted m t) setting.plan.sinks))
    (none_in_joined buffer (λ j. calls_at setting (sub_of setting) (suc (length setting.plan.nodes)) (Main m) (first_instants setting (sub_of setting) (Main m) (t * setting.plan.frame + j)))
    (λ j. no_called setting (sub_of setting) buffer (suc (length setting.plan.nodes)) (Main m) (first_instants setting (sub_of setting) (Main m) (t * setting.plan.frame + j)) unread) setting.plan.frame)
    ∙ no_gives setting accepted m t buffer setting.plan.sinks
