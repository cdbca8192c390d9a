use Rattle.std.proofs.Common.{drop, map}
use Rattle.type_terms.specs.Term.{term_of}
use Rattle.name_scope.specs.Seen.{seen_parameter}
use Rattle.type_steps.specs.Fitting.{left_given, seen_argument}
use Rattle.type_steps.proofs.Fits.{Fitting}
use Rattle.type_steps.proofs.arguments.fit_labelled.Given as goal

abbrev pub invariant-loop-i : goal.invariant-loop-i
invariant-loop-i l = Fitting l.fn.subst l.subst (map seen_parameter l.params) (map seen_parameter (drop l.i l.params)) (map term_of l.types) (map term_of (drop l.i l.types)) (map seen_argument l.given) (left_given l.given l.labels)
