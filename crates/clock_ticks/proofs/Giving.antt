-- The gives of a tick are those of its feeds.
use Rattle.std.proofs.Common.{◌≡◌, ◌∙◌, ◌++◌, ℕ, zero, suc, Bool, true, false, cond, Some, List, [], ◌∷◌, length, map, slice_get, flat_map, append-nil, append_assoc, refl, ap, sym}
use Rattle.plan_core.specs.declared.sink.SinkPlan.{SinkPlan}
use Rattle.plan_core.specs.declared.sink.SinkPlan.TheVariants.{Output, Feed}
use Rattle.clock_infer.specs.declared.clock_map.NodeClock.TheVariants.{Main}
use Rattle.frame_core.specs.declared.cell.Cell.{Cell}
use Rattle.frame_core.specs.Calls.{Call}
use Rattle.stream_meaning.specs.Instants.{Setting, lies_in}
use Rattle.stream_meaning.specs.Sinks.{feed_cells}
use Rattle.stream_meaning.specs.Calls.{give_by, given, joined_upto}
use Rattle.clock_outputs.specs.declared.feed.FeedPort.{FeedPort}
use Rattle.clock_outputs.specs.Feeds.{given_by}
use Rattle.clock_ticks.specs.Engines.{feed_of, feeds_from}

joined_front : (calls : ℕ → List Call) (n : ℕ) → joined_upto calls (suc n) ≡ calls 0 ++ joined_upto (λ j. calls (suc j)) n
joined_front calls zero = sym (append-nil (calls 0))
joined_front calls (suc n) =
    ap (λ (cs : List Call). cs ++ calls (suc n)) (joined_front calls n) ∙ append_assoc (calls 0) (joined_upto (λ j. calls (suc j)) n) (calls (suc n))

pub gives_flat : (accepted : ℕ → Bool) (feeds : List FeedPort) → joined_upto (λ k. given_by accepted (slice_get feeds k)) (length feeds) ≡ flat_map (λ feed. given_by accepted (Some feed)) feeds
gives_flat accepted [] = refl
gives_flat accepted (feed ∷ feeds) =
    joined_front (λ k. given_by accepted (slice_get (feed ∷ feeds) k)) (length feeds) ∙ ap (λ (cs : List Call). given_by accepted (Some feed) ++ cs) (gives_flat accepted feeds)

-- the chunk of a feed is the one of its node in the tick
abbrev Gives : Setting → (t : ℕ) → List FeedPort → Type 0
Gives setting t feeds = (k : ℕ) (feed : FeedPort) → slice_get feeds k ≡ Some feed → feed.frame.cells ≡ feed_cells setting feed.node t

one_given : (setting : Setting) (accepted : ℕ → Bool) (t buffer node : ℕ) (feed : FeedPort) → feed_of feed ≡ (buffer, node) → feed.frame.cells ≡ feed_cells setting feed.node t
    → given_by accepted (Some feed) ≡ given buffer (feed_cells setting node t) (accepted buffer)
one_given setting accepted t buffer node feed key cells =
    ap (λ (cs : List Cell). given feed.buffer cs (accepted feed.buffer)) cells
    ∙ ap (λ pair. given pair.0 (feed_cells setting pair.1 t) (accepted pair.0)) key

module _ (setting : Setting) (accepted : ℕ → Bool) (m t : ℕ) where
  feed_step : (buffer node : ℕ) (sinks : List SinkPlan) → ((feeds : List FeedPort) → map feed_of feeds ≡ feeds_from setting m sinks → Gives setting t feeds → flat_map (λ feed. given_by accepted (Some feed)) feeds ≡ flat_map (give_by setting accepted m t) sinks)
      → (b : Bool) (feeds : List FeedPort) → map feed_of feeds ≡ cond b ((buffer, node) ∷ feeds_from setting m sinks) (feeds_from setting m sinks) → Gives setting t feeds
      → flat_map (λ feed. given_by accepted (Some feed)) feeds ≡ cond b (given buffer (feed_cells setting node t) (accepted buffer)) [] ++ flat_map (give_by setting accepted m t) sinks
  feed_step buffer node sinks rest false feeds are gives = rest feeds are gives
  feed_step buffer node sinks rest true [] are gives = absurd cc
  feed_step buffer node sinks rest true (feed ∷ feeds) are gives =
      let key : feed_of feed ≡ (buffer, node) = cc in
      let more : map feed_of feeds ≡ feeds_from setting m sinks = cc in
      ap (λ (cs : List Call). cs ++ flat_map (λ feed. given_by accepted (Some feed)) feeds) (one_given setting accepted t buffer node feed key (gives 0 feed refl))
      ∙ ap (λ (cs : List Call). given buffer (feed_cells setting node t) (accepted buffer) ++ cs) (rest feeds more (λ k f at. gives (suc k) f at))

  pub gives_are : (sinks : List SinkPlan) (feeds : List FeedPort) → map feed_of feeds ≡ feeds_from setting m sinks → Gives setting t feeds
      → flat_map (λ feed. given_by accepted (Some feed)) feeds ≡ flat_map (give_by setting accepted m t) sinks
  gives_are [] [] are gives = refl
  gives_are [] (feed ∷ feeds) are gives = absurd cc
  gives_are (Output name node fallible wide ∷ sinks) feeds are gives = gives_are sinks feeds are gives
  gives_are (Feed buffer node ∷ sinks) feeds are gives = feed_step buffer node sinks (λ fs a g. gives_are sinks fs a g) (lies_in setting (Main m) node) feeds are gives
