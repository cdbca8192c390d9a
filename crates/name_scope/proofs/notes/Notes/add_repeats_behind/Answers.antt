use Rattle.std.proofs.Common.{◌∙◌, sym, ap, [], take, refl}
use Rattle.std.proofs.lemmas.List.{at_drop_all}
use Rattle.std.specs.Borrow.{Bor}
use Rattle.name_scope.specs.Noted.{all_sooner}
use Rattle.name_scope.specs.Seen.{in_scope, seen_bound}
use Rattle.name_scope.specs.declared.scope.Bound.{Bound}
use Rattle.name_scope.proofs.Matching.{param_names, repeat_next, repeats_listed, repeats_of}
use Rattle.name_scope.proofs.Repeating.{bound_next, known_is, none_bound}
use Rattle.name_scope.proofs.notes.Notes.add_repeats_behind.Goals as goal

pub loop-param-init : goal.loop-param-init
loop-param-init c = record { fault = refl; found = refl; bound = none_bound (in_scope c.args.earlier.now) c.requires.empty }

pub loop-param-preserved : goal.loop-param-preserved
loop-param-preserved c =
    let known = known_is (λ (b : Bor Bound). seen_bound b.now) c.find-known.result c.is_some.result c.as_str.result.now c.param-item.result.name (in_scope c.loop-param.earlier) _ c.loop-param.invariant.bound c.as_str.ensures.same c.find-known.ensures.found c.is_some.ensures in
    record {
      fault = repeat_next c.args.params.now c.loop-param.param-index c.param-item.result _ _ _ c.is_some.result c.loop-param.invariant.fault c.loop-param-test.true c.param-item.is known c.add_repeated.ensures.fault;
      found = c.add_repeated.ensures.found ∙ c.loop-param.invariant.found;
      bound = bound_next c.args.params.now c.loop-param.param-index c.param-item.result _ (in_scope c.loop-param.earlier) _ c.loop-param-test.true c.param-item.is c.as_str-in-loop-param.ensures.same c.loop-param.invariant.bound c.in_ok-bind.ensures.bound;
    }

pub returns : goal.returns
returns c = record {
  fault =
      sym (at_drop_all (λ l. all_sooner c.loop-param.self.fault (repeats_of (param_names (take c.loop-param.param-index c.args.params.now)) l)) c.args.params.now c.loop-param.param-index c.loop-param-test.false)
      ∙ c.loop-param.invariant.fault ∙ ap (all_sooner c.args.self.now.fault) (repeats_listed [] c.args.params.now);
  found = c.loop-param.invariant.found;
}
