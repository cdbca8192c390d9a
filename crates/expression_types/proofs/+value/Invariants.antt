use Rattle.std.proofs.Common.{map, take}
use Rattle.script_grammar.specs.View.{listed, view_added, view_and, view_arg, view_full, view_multiplied, view_not}
use Rattle.type_steps.specs.Fitting.{seen_argument}
use Rattle.expression_types.specs.Seen.{founds}
use Rattle.expression_types.proofs.Turns.{GivenSo, JoinedSo, TypedSo}
use Rattle.expression_types.proofs.+value.Given as goal

abbrev pub invariant-logic::join_ands-loop-and : goal.invariant-logic::join_ands-loop-and
invariant-logic::join_ands-loop-and l = JoinedSo l.fn.subst l.subst l.names (listed (map view_and (take l.and-index l.ands))) l.n (founds l.fn.uses.items) (founds l.uses.items)

abbrev pub invariant-logic::join_nots-loop-not : goal.invariant-logic::join_nots-loop-not
invariant-logic::join_nots-loop-not l = JoinedSo l.fn.subst l.subst l.names (listed (map view_not (take l.not-index l.nots))) l.n (founds l.fn.uses.items) (founds l.uses.items)

abbrev pub invariant-arithmetic::join_addends-loop-added : goal.invariant-arithmetic::join_addends-loop-added
invariant-arithmetic::join_addends-loop-added l = JoinedSo l.fn.subst l.subst l.names (listed (map view_added (take l.added-index l.addends))) l.n (founds l.fn.uses.items) (founds l.uses.items)

abbrev pub invariant-arithmetic::join_factors-loop-multiplied : goal.invariant-arithmetic::join_factors-loop-multiplied
invariant-arithmetic::join_factors-loop-multiplied l = JoinedSo l.fn.subst l.subst l.names (listed (map view_multiplied (take l.multiplied-index l.factors))) l.n (founds l.fn.uses.items) (founds l.uses.items)

abbrev pub invariant-values::join_fulls-loop-full : goal.invariant-values::join_fulls-loop-full
invariant-values::join_fulls-loop-full l = JoinedSo l.fn.subst l.subst l.names (listed (map view_full (take l.full-index l.fulls))) l.n (founds l.fn.uses.items) (founds l.uses.items)

abbrev pub invariant-values::type_fulls-loop-full : goal.invariant-values::type_fulls-loop-full
invariant-values::type_fulls-loop-full l = TypedSo l.fn.subst l.subst l.names (listed (map view_full (take l.full-index l.fulls))) l.vars.items (founds l.fn.uses.items) (founds l.uses.items)

abbrev pub invariant-calls::type_args-loop-arg : goal.invariant-calls::type_args-loop-arg
invariant-calls::type_args-loop-arg l = GivenSo l.fn.subst l.subst l.names (listed (map view_arg (take l.arg-index l.args))) (map seen_argument l.given.items) (founds l.fn.uses.items) (founds l.uses.items)
