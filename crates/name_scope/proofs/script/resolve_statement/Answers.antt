use Rattle.std.proofs.Common.{◌∙◌, ap, option_map, sym}
use Rattle.std.proofs.lemmas.Result.{err_from_is_err_and}
use Rattle.typing_rules.specs.NameFaults.{name_fault_in}
use Rattle.name_scope.proofs.script.resolve_statement.Goals as goal

pub returns-in_err-note_or_refuse-clause-told : goal.returns-in_err-note_or_refuse-clause-told
returns-in_err-note_or_refuse-clause-told c =
    let p = err_from_is_err_and c.from_residual.result c.from_residual.ensures.1 in
    rw (p.1, p.2) (λ some. absurd (some c.in_err-note_or_refuse.ensures.refused))

pub returns-in_err-check_fault-clause-told : goal.returns-in_err-check_fault-clause-told
returns-in_err-check_fault-clause-told c =
    let p = err_from_is_err_and c.from_residual-in_err-check_fault.result c.from_residual-in_err-check_fault.ensures.1 in
    rw (p.1, p.2) (λ some. ap (option_map (name_fault_in c.args.number)) (sym c.in_ok-note_or_refuse.ensures.fault) ∙ c.in_err-check_fault.ensures.told)

pub returns-clause-names : goal.returns-clause-names
returns-clause-names c = c.in_ok-check_fault.ensures.kept ∙ c.in_ok-note_or_refuse.ensures.names c.in_ok-check_fault.ensures.faultless

pub returns-clause-faultless : goal.returns-clause-faultless
returns-clause-faultless c = sym c.in_ok-note_or_refuse.ensures.fault ∙ c.in_ok-check_fault.ensures.faultless
