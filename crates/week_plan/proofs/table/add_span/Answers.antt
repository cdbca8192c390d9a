use Rattle.std.proofs.Common.{ℕ, ◌≡◌, ◌<◌, ◌-◌, ◌+◌, ◌*◌, ◌^◌, ◌∙◌, length, min, max, ap, arith}
use Rattle.std.proofs.lemmas.Grind.{common_steps}
use Rattle.std.proofs.lemmas.Nat.{or_lt}
use Rattle.std.proofs.Math.ListN.{length-set}
use Rattle.std.specs.Prelude.{bit_or, get_or}
use Rattle.week_plan.proofs.Tables.{rest_set, small_set, small_span, span_more}
use Rattle.week_plan.proofs.table.add_span.Goals as goal

pub loop-k-preserved : goal.loop-k-preserved
loop-k-preserved c =
    let k = c.loop-k.k in
    let words = c.loop-k.into in
    let word = c.ones-word.result in
    let week : k < 10080 = grind (arith, common_steps) in
    let here : k < length words = omega (arith, week, c.loop-k.invariant.size) in
    let is : word ≡ 2 ^ (min c.args.to (k * 60 + 60) - k * 60) - 2 ^ (max c.args.from (k * 60) - k * 60) =
    c.ones-word.ensures ∙ ap (λ (n : ℕ). 2 ^ (n - k * 60) - 2 ^ (c.max.result - k * 60)) c.min.ensures
    ∙ ap (λ (n : ℕ). 2 ^ (min c.args.to (k * 60 + 60) - k * 60) - 2 ^ (n - k * 60)) c.max.ensures in
    let small = small_span (max c.args.from (k * 60) - k * 60) (min c.args.to (k * 60 + 60) - k * 60) (omega arith) in
    let low : word < 2 ^ 60 = omega (arith, is, small) in
    record {
      size = length-set words k (bit_or (get_or words k 0) word) ∙ c.loop-k.invariant.size;
      small = small_set words k (bit_or (get_or words k 0) word) here c.loop-k.invariant.small (or_lt 60 (get_or words k 0) word (c.loop-k.invariant.small k) low);
      done = span_more c.args.into.now words c.args.from c.args.to k word here c.loop-k.invariant.done c.loop-k.invariant.rest is;
      rest = rest_set c.args.into.now words k (bit_or (get_or words k 0) word) c.loop-k.invariant.rest;
    }
