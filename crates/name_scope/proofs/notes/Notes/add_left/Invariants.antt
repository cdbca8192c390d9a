use Rattle.std.proofs.Common.{◌≡◌, drop, map}
use Rattle.typing_rules.specs.declared.fault.NameFault.TheVariants.{Extra}
use Rattle.name_scope.specs.Labelled.{left_in}
use Rattle.name_scope.specs.Noted.{all_sooner}
use Rattle.name_scope.specs.Seen.{left_of, seen_label, token_at}
use Rattle.name_scope.proofs.notes.Notes.add_left.Given as goal

abbrev pub invariant-loop-index : goal.invariant-loop-index
invariant-loop-index l = (
    all_sooner l.self.fault (map (λ g. Extra (token_at l.given g.1)) (left_in l.index (drop l.index (map seen_label l.labels.labels.items)) (drop l.index l.labels.taken.items)))
    ≡ all_sooner l.fn.self.fault (map (λ g. Extra (token_at l.given g.1)) (left_of l.labels))) × (l.self.found ≡ l.fn.self.found)
