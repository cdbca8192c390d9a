use Rattle.std.proofs.Common.{◌≡◌, ℕ, ◌<◌, ◌≤◌, take, count_by}
use Rattle.parse_base.specs.Gives.{kinds}
use Rattle.script_parse.specs.Places.{opens, closes, IsDeepAt}
use Rattle.script_parse.proofs.script.depth_place.Given as goal

abbrev pub invariant-loop-i : goal.invariant-loop-i
invariant-loop-i l = (l.opened ≡ count_by opens (take l.i (kinds l.tokens))) × (l.closed ≡ count_by closes (take l.i (kinds l.tokens))) × (l.opened ≤ l.i) × (l.closed ≤ l.i) × ((j : ℕ) → j < l.i → IsDeepAt (kinds l.tokens) j → ⊥)
