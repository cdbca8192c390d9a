-- The feeds of a clock, one sink after another.
use Rattle.std.proofs.Common.{◌≡◌, ◌+◌, ◌∙◌, ◌++◌, ℕ, suc, true, Some, List, [], ◌∷◌, map, drop, slice_get, append_assoc, add-one, ap, sym}
use Rattle.std.proofs.lemmas.List.{map-append}
use Rattle.plan_core.specs.declared.sink.SinkPlan.{SinkPlan}
use Rattle.plan_core.specs.declared.sink.SinkPlan.TheVariants.{Feed}
use Rattle.clock_infer.specs.declared.clock_map.NodeClock.TheVariants.{Main}
use Rattle.stream_meaning.specs.Instants.{Setting, lies_in}
use Rattle.clock_outputs.specs.declared.feed.FeedPort.{FeedPort}
use Rattle.clock_ticks.proofs.Sinks.{dropped}
use Rattle.clock_ticks.specs.Engines.{feed_of, feeds_from}

module _ (setting : Setting) (m i : ℕ) (sinks : List SinkPlan) where
  next_is : feeds_from setting m (drop (suc i) sinks) ≡ feeds_from setting m (drop (i + 1) sinks)
  next_is = ap (λ n. feeds_from setting m (drop n sinks)) (sym (add-one i))

  pub feed_here : (buffer node : ℕ) → slice_get sinks i ≡ Some (Feed buffer node) → lies_in setting (Main m) node ≡ true
      → feeds_from setting m (drop i sinks) ≡ (buffer, node) ∷ feeds_from setting m (drop (i + 1) sinks)
  feed_here buffer node at inside =
      ap (feeds_from setting m) (dropped sinks i (Feed buffer node) at) ∙ rw inside (ap (λ os. (buffer, node) ∷ os) next_is)

-- one feed more
pub feeds_more : (feeds : List FeedPort) (feed : FeedPort) (key : ℕ × ℕ) (rest : List (ℕ × ℕ)) → feed_of feed ≡ key
    → map feed_of (feeds ++ feed ∷ []) ++ rest ≡ map feed_of feeds ++ key ∷ rest
feeds_more feeds feed key rest is =
    ap (λ os. os ++ rest) (map-append feed_of feeds (feed ∷ []))
    ∙ append_assoc (map feed_of feeds) (feed_of feed ∷ []) rest
    ∙ ap (λ o. map feed_of feeds ++ o ∷ rest) is
