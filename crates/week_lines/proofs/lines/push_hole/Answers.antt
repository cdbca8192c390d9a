use Rattle.std.proofs.Common.{◌++◌, ◌∙◌, ℕ, List, ap}
use Rattle.week_lines.proofs.Chains.{seven}
use Rattle.week_lines.proofs.lines.push_hole.Goals as goal

pub returns : goal.returns
returns c =
    seven _ _ _ _ _ _ _ _ _ _ _ _ _ _ _ c.in_ok-push_switch.ensures c.in_ok-push_plain.ensures c.in_ok-push_when.ensures
    (c.in_ok-push_plain-2.ensures ∙ ap (λ (t : List ℕ). c.push_when.new.into.items ++ t) c.words_of.ensures)
    c.in_ok-push_track.ensures c.in_ok-push_clock.ensures c.in_ok-push_plain-3.ensures
