use Rattle.expression_types.specs.Seen.{founds}
use Rattle.expression_types.proofs.Seeing.{seen_later}
use Rattle.type_infer.proofs.Answered.{token_seen}
use Rattle.type_infer.proofs.Loops.{params_so_next, params_so_stop}
use Rattle.type_infer.proofs.parts.type_params.Goals as goal

pub type_param-requires : goal.type_param-requires
type_param-requires c =
    let f = c.loop-param.invariant.typed.typed in
    record { seen = seen_later c.args.subst.now c.loop-param.subst c.args.names c.args.uses.now.items c.loop-param.uses.items c.requires.seen f.follows f.uses }

pub returns-in-None-clause-typed : goal.returns-in-None-clause-typed
returns-in-None-clause-typed c =
    params_so_stop c.args.params.now c.loop-param.param-index c.param-item.result c.loop-param-test.true c.param-item.is c.args.subst.now c.loop-param.subst c.args.names c.loop-param.typed.items (founds c.args.uses.now.items) (founds c.loop-param.uses.items) c.requires.seen.over c.loop-param.invariant (rw c.in-None.is at c.in_ok-type_param.ensures.typed)

pub loop-param-preserved : goal.loop-param-preserved
loop-param-preserved c =
    params_so_next c.args.params.now c.loop-param.param-index c.param-item.result c.loop-param-test.true c.param-item.is c.args.subst.now c.loop-param.subst c.type_param.new.subst c.args.names c.loop-param.typed.items c.push.new.self.items
    (record { at = c.param-item.result.at; var = c.in-Some.var }) (founds c.args.uses.now.items) (founds c.loop-param.uses.items) (founds c.type_param.new.uses.items) c.requires.seen.over c.in_ok-push-in-Some.ensures.items (token_seen c.param-item.result) c.loop-param.invariant
    (rw c.in-Some.is at c.in_ok-type_param.ensures.typed) (rw c.in-Some.is at c.in_ok-type_param.ensures.order)
