-- A plan without buffers makes no calls.
use Rattle.std.proofs.Common.{◌≡◌, ◌<◌, ℕ, zero, suc, ◌+◌, ◌-◌, ◌*◌, ◌%◌, Bool, true, false, Option, Some, None, List, [], ◌∷◌, length, refl, ap, arith, nat_eq, slice_get, flat_map}
use Rattle.plan_core.specs.declared.node.Node.{Node}
use Rattle.plan_core.specs.declared.plan.Plan.{Plan}
use Rattle.plan_core.specs.declared.sink.SinkPlan.{SinkPlan}
use Rattle.plan_core.specs.declared.sink.SinkPlan.TheVariants.{Output, Feed}
use Rattle.plan_core.specs.Plans.{IsWellFormed}
use Rattle.clock_infer.specs.declared.clock_map.NodeClock.{NodeClock}
use Rattle.clock_infer.specs.declared.clock_map.NodeClock.TheVariants.{Main, Sub}
use Rattle.frame_core.specs.Slots.{Slot}
use Rattle.frame_core.specs.Calls.{Call}
use Rattle.op_cross.specs.Runs.{run_of}
use Rattle.stream_meaning.specs.Operators.{Work, Fades}
use Rattle.stream_meaning.specs.Instants.{Setting, Moment, lies_in, position, first_instants, sub_of, work_at}
use Rattle.stream_meaning.specs.Calls.{joined_upto, takes_in, takes_at, ran_by, fades_by, fades_in, calls_at, give_by, calls_of_tick}
use Rattle.stream_meaning.specs.Settings.{HasNoBuffers}
use Rattle.stream_meaning.proofs.Sorted.{no_takes, op_of_reads}

none_joined : (calls : ℕ → List Call) → ((n : ℕ) → calls n ≡ []) → (n : ℕ) → joined_upto calls n ≡ []
none_joined calls none zero = refl
none_joined calls none (suc n) = rw (none_joined calls none n, none n) refl

none_by : (setting : Setting) → HasNoBuffers setting.plan → (inside : Bool) (past : List Moment) (i : ℕ) (there : Option Node) → slice_get setting.plan.nodes i ≡ there → takes_in setting inside past i there ≡ []
none_by setting free inside past i None e = refl
none_by setting free false past i (Some node) e = refl
none_by setting free true past i (Some node) e = no_takes setting past i (work_at setting i node) (λ buffer is. free.nodes i node buffer e (op_of_reads setting i buffer node is))

none_taken : (setting : Setting) → HasNoBuffers setting.plan → (clock : NodeClock) (past : List Moment) → takes_at setting clock past ≡ []
none_taken setting free clock past = by_phase (nat_eq (length past % setting.plan.frame) 0) refl
  where
    by_phase : (starts : Bool) → nat_eq (length past % setting.plan.frame) 0 ≡ starts → takes_at setting clock past ≡ []
    by_phase true e = rw e (none_joined _ (λ i. none_by setting free (lies_in setting clock i) past i (slice_get setting.plan.nodes i) refl) (length setting.plan.nodes))
    by_phase false e = rw e refl

none_below : (sub : ℕ → ℕ → List Slot) (below : ℕ → ℕ → List Call) → ((j m : ℕ) → below j m ≡ []) → (past : List Moment) (k : ℕ) (work : Work) → fades_by sub below past k work ≡ []
none_below sub below none past k (Fades overlap) = none_joined _ (λ j. none k (ran_by sub k overlap past + j)) (run_of overlap (sub k) (position past k) - ran_by sub k overlap past)
none_below sub below none past k _ = refl

none_faded : (setting : Setting) (sub : ℕ → ℕ → List Slot) (below : ℕ → ℕ → List Call) → ((j m : ℕ) → below j m ≡ []) → (inside : Bool) (past : List Moment) (k : ℕ) (there : Option Node) → fades_in setting sub below inside past k there ≡ []
none_faded setting sub below none inside past k None = refl
none_faded setting sub below none false past k (Some node) = refl
none_faded setting sub below none true past k (Some node) = none_below sub below none past k (work_at setting k node)

none_called : (setting : Setting) (sub : ℕ → ℕ → List Slot) → HasNoBuffers setting.plan → (depth : ℕ) (clock : NodeClock) (past : List Moment) → calls_at setting sub depth clock past ≡ []
none_called setting sub free zero clock past = refl
none_called setting sub free (suc depth) clock past =
    let below : (j m : ℕ) → calls_at setting sub depth (Sub j) (first_instants setting sub (Sub j) m) ≡ [] = λ j m. none_called setting sub free depth (Sub j) (first_instants setting sub (Sub j) m) in
    rw (none_taken setting free clock past) (none_joined _ (λ k. none_faded setting sub _ below (lies_in setting clock k) past k (slice_get setting.plan.nodes k)) (length setting.plan.nodes))

none_given : (setting : Setting) (accepted : ℕ → Bool) (m t : ℕ) (sinks : List SinkPlan) → ((k buffer node : ℕ) → slice_get sinks k ≡ Some (Feed buffer node) → ⊥) → flat_map (give_by setting accepted m t) sinks ≡ []
none_given setting accepted m t [] free = refl
none_given setting accepted m t (Output name node fallible wide ∷ sinks) free = none_given setting accepted m t sinks (λ k. free (suc k))
none_given setting accepted m t (Feed buffer node ∷ sinks) free = absurd (free 0 buffer node refl)

-- a plan without buffers makes no calls
pub no_calls : (setting : Setting) → HasNoBuffers setting.plan → (accepted : ℕ → Bool) (m t : ℕ) → calls_of_tick setting accepted m t ≡ []
no_calls setting free accepted m t =
    rw (none_joined _ (λ j. none_called setting (sub_of setting) free (suc (length setting.plan.nodes)) (Main m) (first_instants setting (sub_of setting) (Main m) (t * setting.plan.frame + j))) setting.plan.frame)
    (none_given setting accepted m t setting.plan.sinks free.sinks)

-- a well-formed plan that counts no buffer has none
pub has_none : (plan : Plan) → IsWellFormed plan → plan.buffers ≡ [] → HasNoBuffers plan
has_none plan well none = record {
  nodes = λ i node buffer there op. let below : buffer < length plan.buffers = well.read buffer i (node, there, op) in absurd (omega (arith, below, ap length none));
  sinks = λ k buffer node there. let below : buffer < length plan.buffers = well.fed buffer k (node, there) in absurd (omega (arith, below, ap length none));
}
