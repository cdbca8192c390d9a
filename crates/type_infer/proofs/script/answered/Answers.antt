use Rattle.std.proofs.Common.{◌≡◌, ◌≢◌, Some, map}
use Rattle.std.proofs.lemmas.Result.{IfErr-weaker, IfOk-weaker, err_from_is_err_and}
use Rattle.name_scope.specs.Noted.{resolved}
use Rattle.type_infer.proofs.Ending.{early_answer, late_answer, typed_answer}
use Rattle.typing_rules.specs.Answers.{IsTypeFault, IsTyped}
use Rattle.typing_rules.specs.Scoping.{target_in}
use Rattle.typing_rules.specs.declared.fault.TypeFault.TheVariants as fault
use Rattle.typing_rules.specs.Scripts.{first_of}
use Rattle.script_grammar.specs.View.{listed, view_stmt}
use Rattle.type_infer.proofs.Overs.{typed_over}
use Rattle.type_infer.specs.States.{AreDefaultUses}
use Rattle.type_infer.proofs.script.answered.Goals as goal

pub uses_or_fault-requires : goal.uses_or_fault-requires
uses_or_fault-requires c = record {
  over = typed_over (target_in (map resolved c.args.front.all.items)) (first_of c.args.front.count (listed (map view_stmt c.args.statements.now))) c.in_ok-typing.typing c.in_ok-typing.ensures.typed;
}

pub returns-in_err-typing-clause-fault : goal.returns-in_err-typing-clause-fault
returns-in_err-typing-clause-fault c =
    let p = err_from_is_err_and c.from_residual.result c.from_residual.ensures.1 in
    rw (p.1, p.2) (early_answer (map view_stmt c.args.statements.now) c.args.front.count (map resolved c.args.front.all.items) c.args.front.fault c.in_err-typing.field-0.0 c.requires.front c.in_err-typing.ensures.clash)

pub returns-clause-typed : goal.returns-clause-typed
returns-clause-typed c =
    let xs = map view_stmt c.args.statements.now in
    let all = map resolved c.args.front.all.items in
    IfOk-weaker c.uses_or_fault.result (λ us. AreDefaultUses c.in_ok-typing.typing c.args.front.fault us.items) (λ us. IsTyped (listed xs) us.items)
    (λ us default. typed_answer xs c.args.front.count all c.args.front.fault c.in_ok-typing.typing us.items c.requires.front c.in_ok-typing.ensures.typed default) c.uses_or_fault.ensures.uses

pub returns-clause-fault : goal.returns-clause-fault
returns-clause-fault c =
    let xs = map view_stmt c.args.statements.now in
    let all = map resolved c.args.front.all.items in
    IfErr-weaker c.uses_or_fault.result (λ f. f ≢ fault.Memory → c.args.front.fault ≡ Some f) (IsTypeFault (listed xs))
    (λ f told. late_answer xs c.args.front.count all c.args.front.fault c.in_ok-typing.typing f c.requires.front c.in_ok-typing.ensures.typed told) c.uses_or_fault.ensures.fault
