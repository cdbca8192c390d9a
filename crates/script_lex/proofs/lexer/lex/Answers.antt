use Rattle.std.proofs.Common.{sym, ap, ◌∙◌, subst, Err, None, arith, ⊎_elim, inl, inr}
use Rattle.script_lex.specs.Tokens.{HasFault}
use Rattle.script_lex.specs.declared.token.LexFault.{LexFault}
use Rattle.script_lex.proofs.Runs.{runs_one}
use Rattle.script_lex.proofs.Lexed.{no_fault, told_fault, told_memory, told_only}
use Rattle.script_lex.proofs.lexer.lex.Goals as goal

pub returns-in-Ok-clause-only : goal.returns-in-Ok-clause-only
returns-in-Ok-clause-only c = λ ts are. (tt, (runs_one c.args.text.now c.in-Ok.tokens.items ts None None c.in-Ok.ensures.tokens are.1).0)

pub returns-in-Ok-clause-only_fault : goal.returns-in-Ok-clause-only_fault
returns-in-Ok-clause-only_fault c = λ e fault. absurd (no_fault c.args.text.now c.in-Ok.tokens.items e (omega arith) c.in-Ok.ensures.tokens fault)

pub returns-in-Err-clause-only : goal.returns-in-Err-clause-only
returns-in-Err-clause-only c = λ ts are. (c.told_as.ensures ∙ told_memory c.args.text.now c.in-Err.refusal ts c.in-Err.ensures.fault are, tt)

pub returns-in-Err-clause-fault : goal.returns-in-Err-clause-fault
returns-in-Err-clause-fault c = λ some.
    let F : LexFault → Type 0 = λ e. HasFault c.args.text.now e in
    subst F (sym c.told_as.ensures) (told_fault c.args.text.now c.in-Err.refusal (omega arith) c.in-Err.ensures.fault (λ is. some (c.told_as.ensures ∙ is)))

pub returns-in-Err-clause-only_fault : goal.returns-in-Err-clause-only_fault
returns-in-Err-clause-only_fault c = λ e fault.
    ⊎_elim (λ is. inl (ap Err (c.told_as.ensures ∙ is))) (λ is. inr (ap Err (c.told_as.ensures ∙ is))) (told_only c.args.text.now c.in-Err.refusal e (omega arith) c.in-Err.ensures.fault fault)
