use Rattle.expression_types.specs.Seen.{env_of, founds}
use Rattle.type_infer.proofs.Answered.{default_answered, labelled_answered, plain_answered}
use Rattle.type_infer.proofs.parts.type_param.Goals as goal

pub returns-in-Optional-clause-typed : goal.returns-in-Optional-clause-typed
returns-in-Optional-clause-typed c =
    rw c.in-Optional.is (default_answered c.args.subst.now c.type_full.new.subst (env_of c.args.names) c.args.param.now.at c.args.param.now.name c.in-Optional.default (founds c.args.uses.now.items) (founds c.type_full.new.uses.items) c.type_full.result c.type_full.ensures.typed)

pub returns-in_ok-var-in-Plain-clause-typed : goal.returns-in_ok-var-in-Plain-clause-typed
returns-in_ok-var-in-Plain-clause-typed c =
    rw c.in-Plain.is (plain_answered c.args.subst.now c.new_var.new.subst (env_of c.args.names) c.args.param.now.at c.args.param.now.name c.in_ok-var-in-Plain.var (founds c.args.uses.now.items) c.requires.seen.over c.requires.seen.uses_over c.in_ok-var-in-Plain.ensures)

pub returns-in_ok-var-in-Labelled-clause-typed : goal.returns-in_ok-var-in-Labelled-clause-typed
returns-in_ok-var-in-Labelled-clause-typed c =
    rw c.in-Labelled.is (labelled_answered c.args.subst.now c.new_var-in-Labelled.new.subst (env_of c.args.names) c.args.param.now.at c.args.param.now.name c.in_ok-var-in-Labelled.var (founds c.args.uses.now.items) c.requires.seen.over c.requires.seen.uses_over c.in_ok-var-in-Labelled.ensures)
