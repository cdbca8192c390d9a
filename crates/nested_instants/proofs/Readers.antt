-- A reader below a sub-clock is below the clock of its crossfade.
use Rattle.std.proofs.Common.{◌≡◌, ℕ, zero, suc, List, get_or}
use Rattle.plan_core.specs.declared.plan.Plan.{Plan}
use Rattle.clock_infer.specs.declared.clock_map.NodeClock.{NodeClock}
use Rattle.clock_infer.specs.declared.clock_map.NodeClock.TheVariants.{Main, Sub}
use Rattle.clock_instants.specs.Takes.{HasReader, IsUnder}

under_more : (clocks : List NodeClock) (clock : NodeClock) (k : ℕ) → get_or clocks k (Main 0) ≡ clock → (rank i : ℕ) → IsUnder clocks (Sub k) rank i → IsUnder clocks clock (suc rank) i
under_more clocks clock k of zero i under = (k, under, of)
under_more clocks clock k of (suc rank) i under = (under.0, under.1, under_more clocks clock k of rank under.0 under.2)

pub reader_above : (plan : Plan) (clocks : List NodeClock) (clock : NodeClock) (k : ℕ) → get_or clocks k (Main 0) ≡ clock → HasReader plan clocks (Sub k) → HasReader plan clocks clock
reader_above plan clocks clock k of has = record {
  rank = suc has.rank;
  i = has.i;
  under = under_more clocks clock k of has.rank has.i has.under;
  reader = has.reader;
}
