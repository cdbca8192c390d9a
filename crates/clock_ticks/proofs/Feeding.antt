-- The feeds of a clock, among the sinks of its plan.
use Rattle.std.proofs.Common.{◌≡◌, ◌<◌, ◌∙◌, ℕ, zero, suc, Bool, true, false, Some, List, [], ◌∷◌, All, length, get_or, map, slice_get, cond, arith, refl, ap, sym, subst, inl, inr, ◌⊎◌}
use Rattle.std.specs.Prelude.{IfErr, Result, Ok, Err}
use Rattle.std.proofs.lemmas.List.{length-map}
use Rattle.clock_ticks.specs.declared.engine.EngineParts.{EngineParts}
use Rattle.clock_ticks.specs.Ticks.{HasEnds}
use Rattle.std.proofs.lemmas.Option.{slice_get-get_or}
use Rattle.plan_core.specs.declared.sink.SinkPlan.{SinkPlan}
use Rattle.plan_core.specs.declared.sink.SinkPlan.TheVariants.{Output, Feed}
use Rattle.plan_core.specs.Plans.{IsWellFormed, ReadsBuffer}
use Rattle.clock_infer.specs.declared.clock_map.NodeClock.TheVariants.{Main}
use Rattle.stream_meaning.specs.Instants.{Setting, clock_of, lies_in}
use Rattle.stream_meaning.proofs.Existence.{same_clock-true}
use Rattle.clock_outputs.specs.declared.feed.FeedPort.{FeedPort}
use Rattle.clock_outputs.specs.Feeds.{HaveOwnBuffers}
use Rattle.clock_instants.specs.Takes.{HasOwnReaders, HasReader}
use Rattle.stream_meaning.proofs.Sorted.{op_of_reads}
use Rattle.clock_ticks.specs.Engines.{feed_of, feeds_from, feeds_of, setting_of}
use Rattle.clock_ticks.proofs.Numbered.{got_mapped, no_item}

-- where a pair of the feeds stands among the sinks
pub record IsFeed (setting : Setting) (m : ℕ) (sinks : List SinkPlan) (pair : ℕ × ℕ) (k : ℕ) : Type 0 where
  pub place : ℕ
  pub there : slice_get sinks place ≡ Some (Feed pair.0 pair.1)
  pub inside : lies_in setting (Main m) pair.1 ≡ true

behind : (setting : Setting) (m : ℕ) (sink : SinkPlan) (sinks : List SinkPlan) (pair : ℕ × ℕ) (k j : ℕ) → IsFeed setting m sinks pair k → IsFeed setting m (sink ∷ sinks) pair j
behind setting m sink sinks pair k j is = record { place = suc is.place; there = is.there; inside = is.inside }

first : (setting : Setting) (m buffer node : ℕ) (sinks : List SinkPlan)
    → ((k : ℕ) (pair : ℕ × ℕ) → slice_get (feeds_from setting m sinks) k ≡ Some pair → IsFeed setting m sinks pair k)
    → (inside : Bool) → lies_in setting (Main m) node ≡ inside → (k : ℕ) (pair : ℕ × ℕ)
    → slice_get (cond inside ((buffer, node) ∷ feeds_from setting m sinks) (feeds_from setting m sinks)) k ≡ Some pair
    → IsFeed setting m (Feed buffer node ∷ sinks) pair k
first setting m buffer node sinks rest true e zero pair at =
    let same : (buffer, node) ≡ pair = cc in
    subst (λ p. IsFeed setting m (Feed buffer node ∷ sinks) p 0) same (record { place = 0; there = refl; inside = e })
first setting m buffer node sinks rest true e (suc k) pair at = behind setting m (Feed buffer node) sinks pair k (suc k) (rest k pair at)
first setting m buffer node sinks rest false e k pair at = behind setting m (Feed buffer node) sinks pair k k (rest k pair at)

pub feeds_there : (setting : Setting) (m : ℕ) (sinks : List SinkPlan) (k : ℕ) (pair : ℕ × ℕ) → slice_get (feeds_from setting m sinks) k ≡ Some pair → IsFeed setting m sinks pair k
feeds_there setting m [] k pair at = absurd (no_item k pair at)
feeds_there setting m (Output name node fallible wide ∷ sinks) k pair at = behind setting m (Output name node fallible wide) sinks pair k k (feeds_there setting m sinks k pair at)
feeds_there setting m (Feed buffer node ∷ sinks) k pair at = first setting m buffer node sinks (λ j p. feeds_there setting m sinks j p) (lies_in setting (Main m) node) refl k pair at

pub feed_inside : (setting : Setting) (m : ℕ) (feeds : List FeedPort) → map feed_of feeds ≡ feeds_of setting m → (k : ℕ) (feed : FeedPort) → slice_get feeds k ≡ Some feed → clock_of setting feed.node ≡ Main m
feed_inside setting m feeds are k feed at =
    same_clock-true (clock_of setting feed.node) (Main m)
    (feeds_there setting m setting.plan.sinks k (feed_of feed) (sym (ap (λ xs. slice_get xs k) are) ∙ got_mapped feed_of feeds k feed at)).inside

-- no buffer has two readers
pub own_readers : (setting : Setting) → IsWellFormed setting.plan → HasOwnReaders setting
own_readers setting well = record {
  each = λ i j buffer one other at_one at_other reads_one reads_other.
      let a : ReadsBuffer setting.plan buffer i = (one, at_one, op_of_reads setting i buffer one reads_one) in
      let b : ReadsBuffer setting.plan buffer j = (other, at_other, op_of_reads setting j buffer other reads_other) in
      let only = well.one_reader buffer (well.read buffer i a) in
      only.2 i a ∙ sym (only.2 j b);
}

-- no buffer has two feeds among these sinks
abbrev Unique : List SinkPlan → Type 0
Unique sinks = (p q buffer one other : ℕ) → slice_get sinks p ≡ Some (Feed buffer one) → slice_get sinks q ≡ Some (Feed buffer other) → p ≡ q

abbrev Own : List (ℕ × ℕ) → Type 0
Own pairs = (j k : ℕ) (one other : ℕ × ℕ) → slice_get pairs j ≡ Some one → slice_get pairs k ≡ Some other → one.0 ≡ other.0 → j ≡ k

own_step : (b : Bool) (buffer node : ℕ) (pairs : List (ℕ × ℕ)) → Own pairs → ((k : ℕ) (other : ℕ × ℕ) → slice_get pairs k ≡ Some other → buffer ≡ other.0 → ⊥)
    → Own (cond b ((buffer, node) ∷ pairs) pairs)
own_step false buffer node pairs own none j k one other at_j at_k same = own j k one other at_j at_k same
own_step true buffer node pairs own none zero zero one other at_j at_k same = refl
own_step true buffer node pairs own none zero (suc k) one other at_j at_k same =
    let is : (buffer, node) ≡ one = cc in absurd (none k other at_k (ap (λ pair. pair.0) is ∙ same))
own_step true buffer node pairs own none (suc j) zero one other at_j at_k same =
    let is : (buffer, node) ≡ other = cc in absurd (none j one at_j (ap (λ pair. pair.0) is ∙ sym same))
own_step true buffer node pairs own none (suc j) (suc k) one other at_j at_k same = ap suc (own j k one other at_j at_k same)

tail_unique : (sink : SinkPlan) (sinks : List SinkPlan) → Unique (sink ∷ sinks) → Unique sinks
tail_unique sink sinks unique p q buffer one other at_p at_q = let e = unique (suc p) (suc q) buffer one other at_p at_q in omega (arith, e)

pairs_own : (setting : Setting) (m : ℕ) (sinks : List SinkPlan) → Unique sinks → Own (feeds_from setting m sinks)
pairs_own setting m [] unique = λ j k one other at_j at_k same. absurd (no_item j one at_j)
pairs_own setting m (Output name node fallible wide ∷ sinks) unique = pairs_own setting m sinks (tail_unique (Output name node fallible wide) sinks unique)
pairs_own setting m (Feed buffer node ∷ sinks) unique =
    own_step (lies_in setting (Main m) node) buffer node (feeds_from setting m sinks) (pairs_own setting m sinks (tail_unique (Feed buffer node) sinks unique))
    (λ k other at same.
    let is = feeds_there setting m sinks k other at in
    let e = unique 0 (suc is.place) buffer node other.1 refl (subst (λ (b : ℕ). slice_get sinks is.place ≡ Some (Feed b other.1)) (sym same) is.there) in omega (arith, e))

pub own_buffers : (setting : Setting) (m : ℕ) → IsWellFormed setting.plan → (feeds : List FeedPort) → map feed_of feeds ≡ feeds_of setting m → HaveOwnBuffers feeds
own_buffers setting m well feeds are = record {
  each = λ j k one other at_j at_k same.
      pairs_own setting m setting.plan.sinks
      (λ p q buffer a b at_p at_q.
      let only = well.one_feed buffer (well.fed buffer p (a, at_p)) in
      only.2 p (a, at_p) ∙ sym (only.2 q (b, at_q)))
      j k (feed_of one) (feed_of other)
      (sym (ap (λ xs. slice_get xs j) are) ∙ got_mapped feed_of feeds j one at_j)
      (sym (ap (λ xs. slice_get xs k) are) ∙ got_mapped feed_of feeds k other at_k) same;
}

-- the buffer of a feed is one of the plan
pub feeds_within : (setting : Setting) (m buffers : ℕ) → IsWellFormed setting.plan → buffers ≡ length setting.plan.buffers → (feeds : List FeedPort) → map feed_of feeds ≡ feeds_of setting m → All (λ feed. feed.buffer < buffers) feeds
feeds_within setting m buffers well many feeds are k d h =
    let at : slice_get feeds k ≡ Some (get_or feeds k d) = slice_get-get_or feeds k d h in
    let is = feeds_there setting m setting.plan.sinks k (feed_of (get_or feeds k d)) (sym (ap (λ xs. slice_get xs k) are) ∙ got_mapped feed_of feeds k (get_or feeds k d) at) in
    let low = well.fed (get_or feeds k d).buffer is.place ((get_or feeds k d).node, is.there) in
    omega (arith, low, many)

pub if_fault : {A E : Type 0} (P : E → Type 0) (r : Result A E) → ((e : E) → P e) → IfErr r P
if_fault P (Ok x) all = tt
if_fault P (Err e) all = all e

-- an engine that has feed ports has feeds
pub feeds_some : (parts other : EngineParts) → map feed_of other.feeds.items ≡ feeds_of (setting_of parts) parts.clock → 0 < length other.feeds.items → HasEnds parts
feeds_some parts other feeds some =
    let long = length-map other.feeds.items feed_of in
    let same = ap length feeds in
    inr (inl (omega (arith, long, same, some)))

-- an engine with a reader, or that keeps marks
pub needs_ends : (parts : EngineParts) → HasReader parts.scene.plan.now parts.scene.clocks.now (Main parts.clock) ⊎ (parts.cues.keeping ≡ true) → HasEnds parts
needs_ends parts (inl reads) = inl reads
needs_ends parts (inr keeping) = inr (inr keeping)
