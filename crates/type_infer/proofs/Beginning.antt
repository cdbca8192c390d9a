-- No statement yet.
use Rattle.std.proofs.Common.{◌≡◌, refl, []}
use Rattle.script_grammar.specs.Tree.{none}
use Rattle.type_terms.specs.Extends.{HasDefaults}
use Rattle.type_terms.specs.Table.{Table}
use Rattle.typing_rules.specs.Scripts.{Targets}
use Rattle.general_types.specs.Holding.{HeldVariables, IsHeldBy}
use Rattle.type_steps.proofs.Going.{typings_none}
use Rattle.type_infer.specs.States.{IsAfter}
use Rattle.type_infer.specs.declared.steps.Typing.{Typing}
use Rattle.type_infer.proofs.After.{State, state_as}
use Rattle.type_infer.proofs.Later.{later_now}

none_yet : (targets : Targets) (s : Table) (h : HeldVariables) → HasDefaults s → IsHeldBy s [] h → State s h [] [] [] [] targets none
none_yet targets s h d held = record {
  seen = record { here = tt; over = tt; calls = λ t at a m kinds gs g c. c.2 };
  holds = later_now s [] h (record { held = held; texts = λ a b m n same. refl });
  numbered = record { each = λ t d is. cc };
  there = tt;
  known = refl;
  typings = typings_none s targets (d.at, d.solves);
  whole = record { placed = tt; done = tt; counted = tt };
}

pub begun_after : (targets : Targets) (t : Typing) → HasDefaults t.subst → t.pending.items ≡ [] → t.before ≡ [] → t.defs ≡ [] → t.steps.items ≡ [] → ((s : Table) → IsHeldBy s [] t.held) → IsAfter targets none t
begun_after targets t d ep eb ed ex held = state_as t t.subst t.held [] [] [] [] targets none refl refl ep eb ed ex (none_yet targets t.subst t.held d (held t.subst))
