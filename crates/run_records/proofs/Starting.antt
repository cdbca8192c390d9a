-- The takes of a clock's readers at an instant, over two lists of answers.
use Rattle.std.proofs.Common.{◌≡◌, ◌<◌, ◌∙◌, ◌%◌, ℕ, Bool, true, false, Option, Some, None, List, length, map, nat_eq, slice_get, inr, refl, ap, sym, subst}
use Rattle.std.proofs.lemmas.Option.{slice_get_within}
use Rattle.plan_core.specs.declared.node.Node.{Node}
use Rattle.clock_infer.specs.declared.clock_map.NodeClock.{NodeClock}
use Rattle.clock_infer.proofs.Exact.{some_inj}
use Rattle.frame_core.specs.Calls.{Call, Took, Answer}
use Rattle.op_leaf.specs.Readers.{reader_takes}
use Rattle.stream_meaning.specs.Operators.{Work, Plays, Picks, Mixes, Fades, Reads}
use Rattle.stream_meaning.specs.Instants.{Setting, Moment, Reading, answered, lies_in, work_at, next_answers, started, reading_at, reading_after}
use Rattle.stream_meaning.specs.Calls.{joined_upto, takes_by, takes_in, takes_at}
use Rattle.run_records.specs.Parting.{Goes}
use Rattle.run_records.specs.Alike.{IsAt}
use Rattle.run_records.proofs.Parting.{goes_by, goes_each}
use Rattle.run_records.proofs.Taking.{TakesAlike, reads, started_same}

-- the reader i is alike at the instant after these
abbrev pub ReadsOn : (base : Setting) → (one other : ℕ → List Answer) → NodeClock → List Moment → ℕ → Type 0
ReadsOn base one other clock past i = (buffer : ℕ) → IsAt base clock i (Reads buffer)
    → reading_at (answered base one) buffer (length past) (reading_after (answered base one) i buffer past) ≡ reading_at (answered base other) buffer (length past) (reading_after (answered base other) i buffer past)

module _ (base : Setting) (one other : ℕ → List Answer)
    (known : (clock : NodeClock) (i buffer : ℕ) → IsAt base clock i (Reads buffer) → buffer < length base.plan.buffers)
    (clock : NodeClock) (past : List Moment)
    (readings : (i buffer : ℕ) → IsAt base clock i (Reads buffer) → reading_after (answered base one) i buffer past ≡ reading_after (answered base other) i buffer past) where
  -- the reader i begins a tick alike
  abbrev pub Begins : ℕ → Type 0
  Begins i = (buffer : ℕ) → IsAt base clock i (Reads buffer)
      → started (one buffer) (reading_after (answered base one) i buffer past) ≡ started (other buffer) (reading_after (answered base other) i buffer past)

  no_reader : (i : ℕ) (node : Node) (work : Work) → slice_get base.plan.nodes i ≡ Some node → work_at base i node ≡ work → ((buffer : ℕ) → work ≡ Reads buffer → ⊥) → Begins i
  no_reader i node work found does none buffer at =
      let same : at.node ≡ node = some_inj (sym at.found ∙ found) in
      absurd (none buffer (sym does ∙ ap (λ (n : Node). work_at base i n) (sym same) ∙ at.does))

  takes_work : (i : ℕ) (node : Node) → lies_in base clock i ≡ true → slice_get base.plan.nodes i ≡ Some node → (work : Work) → work_at base i node ≡ work
      → Goes (length base.plan.buffers) (takes_by (answered base one) past i work) (takes_by (answered base other) past i work) (Begins i)
  takes_work i node inside found (Plays leaf) does = inr (record { same = refl; now = no_reader i node (Plays leaf) found does (λ buffer e. absurd cc) })
  takes_work i node inside found (Picks choice eligible) does = inr (record { same = refl; now = no_reader i node (Picks choice eligible) found does (λ buffer e. absurd cc) })
  takes_work i node inside found (Mixes mixing) does = inr (record { same = refl; now = no_reader i node (Mixes mixing) found does (λ buffer e. absurd cc) })
  takes_work i node inside found (Fades overlap) does = inr (record { same = refl; now = no_reader i node (Fades overlap) found does (λ buffer e. absurd cc) })
  takes_work i node inside found (Reads buffer) does =
      let at : IsAt base clock i (Reads buffer) = record { inside = inside; node = node; found = found; does = does } in
      let first : Reading = reading_after (answered base one) i buffer past in
      let same : first ≡ reading_after (answered base other) i buffer past = readings i buffer at in
      subst (λ (r : Reading). Goes (length base.plan.buffers) (map (Took buffer) (reader_takes (next_answers (one buffer) first) first.reader)) (map (Took buffer) (reader_takes (next_answers (other buffer) r) r.reader)) (Begins i)) same
      (goes_by (length base.plan.buffers) (map (Took buffer) (reader_takes (next_answers (one buffer) first) first.reader)) (map (Took buffer) (reader_takes (next_answers (other buffer) first) first.reader))
      (λ alike b at'. begins b at' first same alike)
      (reads (length base.plan.buffers) buffer (known clock i buffer at) (next_answers (one buffer) first) (next_answers (other buffer) first) first.reader))
    where
      begins : (b : ℕ) (at' : IsAt base clock i (Reads b)) (first : Reading) → first ≡ reading_after (answered base other) i buffer past
          → TakesAlike (next_answers (one buffer) first) (next_answers (other buffer) first) first.reader
          → started (one b) (reading_after (answered base one) i b past) ≡ started (other b) (reading_after (answered base other) i b past)
      begins b at' first same alike =
          let alike_node : at'.node ≡ node = some_inj (sym at'.found ∙ found) in
          let work : Reads b ≡ Reads buffer = sym at'.does ∙ ap (λ (n : Node). work_at base i n) alike_node ∙ does in
          let number : b ≡ buffer = cc in
          let now : first ≡ reading_after (answered base one) i buffer past = same ∙ sym (readings i buffer (record { inside = inside; node = node; found = found; does = does })) in
          subst (λ (n : ℕ). started (one n) (reading_after (answered base one) i n past) ≡ started (other n) (reading_after (answered base other) i n past)) (sym number)
          (ap (started (one buffer)) (sym now) ∙ started_same (one buffer) (other buffer) first alike ∙ ap (started (other buffer)) same)

  takes_node : (i : ℕ) (inside : Bool) → lies_in base clock i ≡ inside → (found : Option Node) → slice_get base.plan.nodes i ≡ found
      → Goes (length base.plan.buffers) (takes_in (answered base one) inside past i found) (takes_in (answered base other) inside past i found) (Begins i)
  takes_node i inside is None there = inr (record { same = refl; now = (λ buffer at. absurd (let e = at.found in cc)) })
  takes_node i false is (Some node) there = inr (record { same = refl; now = (λ buffer at. absurd (let e = at.inside in cc)) })
  takes_node i true is (Some node) there = takes_work i node is there (work_at base i node) refl

  abbrev all_takes : (ℕ → List Answer) → List Call
  all_takes answers = joined_upto (λ i. takes_in (answered base answers) (lies_in base clock i) past i (slice_get base.plan.nodes i)) (length base.plan.nodes)

  pub takes_go : Goes (length base.plan.buffers) (takes_at (answered base one) clock past) (takes_at (answered base other) clock past) ((i : ℕ) → ReadsOn base one other clock past i)
  takes_go = by (nat_eq (length past % base.plan.frame) 0) refl
    where
      each : Goes (length base.plan.buffers) (all_takes one) (all_takes other) ((i : ℕ) → i < length base.plan.nodes → Begins i)
      each = goes_each (length base.plan.buffers) (λ i. takes_in (answered base one) (lies_in base clock i) past i (slice_get base.plan.nodes i))
          (λ i. takes_in (answered base other) (lies_in base clock i) past i (slice_get base.plan.nodes i)) (length base.plan.nodes) Begins
          (λ i low. takes_node i (lies_in base clock i) refl (slice_get base.plan.nodes i) refl)

      by : (t : Bool) → nat_eq (length past % base.plan.frame) 0 ≡ t
          → Goes (length base.plan.buffers) (takes_at (answered base one) clock past) (takes_at (answered base other) clock past) ((i : ℕ) → ReadsOn base one other clock past i)
      by true e = rw e (goes_by (length base.plan.buffers) (all_takes one) (all_takes other) (λ begins i buffer at. begins i (slice_get_within base.plan.nodes i at.node at.found) buffer at) each)
      by false e = rw e (inr (record { same = refl; now = (λ i buffer at. readings i buffer at) }))
