use Rattle.type_terms.specs.Bound.{table_of}
use Rattle.type_terms.specs.Agenda.{agenda_of}
use Rattle.type_terms.specs.Narrowed.{IsTrailed, Narrows}
use Rattle.type_terms.specs.Term.{term_of}
use Rattle.type_terms.proofs.Agendas.{IsComparison}
use Rattle.type_terms.proofs.unifier.compare.Given as goal

abbrev pub invariant-loop-step : goal.invariant-loop-step
invariant-loop-step l = record {
  narrowed : Narrows (term_of l.left) (term_of l.right) l.initial.bindings l.bindings;
  trailed : IsTrailed (table_of l.initial.bindings) (table_of l.bindings) l.initial.trail l.trail;
  agenda : IsComparison (table_of l.bindings) (term_of l.left) (term_of l.right) (agenda_of l.agenda);
}
