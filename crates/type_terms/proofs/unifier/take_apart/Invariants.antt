use Rattle.type_terms.specs.Bound.{table_of}
use Rattle.type_terms.specs.Agenda.{agenda_of}
use Rattle.type_terms.specs.Narrowed.{IsTrailed, Narrows}
use Rattle.type_terms.specs.Pairs.{pairs}
use Rattle.type_terms.specs.Term.{term_of}
use Rattle.type_terms.proofs.Agendas.{IsPartly}
use Rattle.type_terms.proofs.unifier.take_apart.Given as goal

abbrev pub invariant-loop-step : goal.invariant-loop-step
invariant-loop-step l = record {
  narrowed : Narrows (term_of l.left) (term_of l.right) l.initial.bindings l.bindings;
  trailed : IsTrailed (table_of l.initial.bindings) (table_of l.bindings) l.initial.trail l.trail;
  parts : IsPartly (table_of l.bindings) (agenda_of l.initial.agenda) (agenda_of l.agenda) (term_of l.left) (term_of l.right) (pairs l.parts.items);
}
