use Rattle.std.proofs.Common.{◌≡◌, arith, map, subst}
use Rattle.std.proofs.lemmas.Result.{err_from_is_err_and}
use Rattle.script_grammar.specs.View.{listed, view_stmt}
use Rattle.typing_rules.specs.Scoping.{target_in}
use Rattle.typing_rules.specs.Scripts.{first_of}
use Rattle.name_scope.specs.Noted.{resolved}
use Rattle.type_infer.specs.States.{IsTypedSo}
use Rattle.type_infer.proofs.Ending.{memory_clash}
use Rattle.type_infer.proofs.script.type_each.Goals as goal

pub loop-index-init : goal.loop-index-init
loop-index-init c =
    let a = c.requires.begun in
    record { ready = a.ready; typed = a.typed }

pub returns-clause-typed : goal.returns-clause-typed
returns-clause-typed c =
    let e : c.loop-index.index ≡ c.args.front.now.count = omega (arith, c.loop-index-test.false, c.loop-index.auto.index-end) in
    subst (λ n. IsTypedSo (target_in (map resolved c.args.front.now.all.items)) (first_of n (listed (map view_stmt c.args.statements.now))) c.loop-index.typing) e c.loop-index.invariant.typed

pub returns-in_err-typed-clause-clash : goal.returns-in_err-typed-clause-clash
returns-in_err-typed-clause-clash c =
    let p = err_from_is_err_and c.from_residual.result c.from_residual.ensures.1 in
    rw (p.1, p.2) (memory_clash (target_in (map resolved c.args.front.now.all.items)) (listed (map view_stmt c.args.statements.now)) c.args.front.now.count c.in_err-typed.field-0.0 c.in_err-typed.ensures.refused)
