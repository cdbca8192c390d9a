-- An engine with feeds or readers is over a plan with buffers.
use Rattle.std.proofs.Common.{◌≡◌, ◌<◌, List, [], ◌∷◌, length, arith, refl, ap, inl, inr, true}
use Rattle.std.proofs.lemmas.List.{length-map}
use Rattle.clock_ticks.specs.declared.engine.EngineParts.{EngineParts}
use Rattle.clock_ticks.specs.Engines.{AreParts, feed_of, setting_of}
use Rattle.clock_ticks.specs.Ticks.{HasEnds}
use Rattle.clock_ticks.proofs.Feeding.{feeds_within}

first_item : {A : Type 0} (xs : List A) → 0 < length xs → A
first_item [] some = absurd (omega (arith, some))
first_item (x ∷ xs) some = x

pub has_buffers : (parts : EngineParts) → AreParts parts → (parts.cues.keeping ≡ true → ⊥) → HasEnds parts → 0 < length parts.scene.plan.now.buffers
has_buffers parts are none (inl has) = (let low = are.plan.read has.reader.buffer has.i (has.reader.node, has.reader.found, has.reader.reads) in omega (arith, low))
has_buffers parts are none (inr (inr keeping)) = absurd (none keeping)
has_buffers parts are none (inr (inl some)) =
    let long = length-map parts.feeds.items feed_of in
    let same = ap length are.feeds in
    let feeds : 0 < length parts.feeds.items = omega (arith, long, same, some) in
    let low = feeds_within (setting_of parts) parts.clock (length parts.scene.plan.now.buffers) are.plan refl parts.feeds.items are.feeds 0 (first_item parts.feeds.items feeds) feeds in
    omega (arith, low)
