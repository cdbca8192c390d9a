use Rattle.std.proofs.Common.{rules, ◌≢◌, [], List, length, sym, ap, subst, arith}
use Rattle.script_lex.specs.Tokens.{Leads}
use Rattle.script_lex.specs.Gives.{IfFault, RunsTo}
use Rattle.script_lex.specs.declared.token.Token.{Token}
use Rattle.script_lex.proofs.Runs.{turn, gives_token, token_shorter, fault_run}
use Rattle.script_lex.proofs.lexer.read_tokens.Goals as goal

pub returns-in_err-kind-clause-fault : goal.returns-in_err-kind-clause-fault
returns-in_err-kind-clause-fault c =
    let i = c.loop-rest.invariant in
    let some : c.loop-rest.rest.now ≢ [] = λ empty. let size = ap length empty in grind (arith, c.loop-rest-test.true, c.is_empty.ensures, size) in
    let fault : IfFault c.in_err-kind.field-0.0 (RunsTo c.args.text.now c.loop-rest.made.items) = fault_run c.args.text.now i.0 c.loop-rest.rest.now c.loop-rest.made.items c.in_err-kind.field-0.0 i.1 i.2 some c.in_err-kind.ensures.gives in
    search (rules, fault)

pub place-end-requires-clause-within : goal.place-end-requires-clause-within
place-end-requires-clause-within c =
    let token = gives_token (λ x. x.0) (λ x. x.1.now) c.loop-rest.rest.now (length c.loop-rest.rest.now) (c.in_ok-kind.kind, c.in_ok-kind.after) c.in_ok-kind.ensures.gives in
    let less = token_shorter c.loop-rest.rest.now c.in_ok-kind.kind c.in_ok-kind.after.now token in
    let low = c.loop-rest.invariant.3 in
    omega arith

pub loop-rest-smaller : goal.loop-rest-smaller
loop-rest-smaller c =
    let token = gives_token (λ x. x.0) (λ x. x.1.now) c.loop-rest.rest.now (length c.loop-rest.rest.now) (c.in_ok-kind.kind, c.in_ok-kind.after) c.in_ok-kind.ensures.gives in
    let less = token_shorter c.loop-rest.rest.now c.in_ok-kind.kind c.in_ok-kind.after.now token in
    omega (arith, c.after_blanks-rest-in-loop-rest.ensures.shorter)

pub loop-rest-preserved : goal.loop-rest-preserved
loop-rest-preserved c =
    let i = c.loop-rest.invariant in
    let token = gives_token (λ x. x.0) (λ x. x.1.now) c.loop-rest.rest.now (length c.loop-rest.rest.now) (c.in_ok-kind.kind, c.in_ok-kind.after) c.in_ok-kind.ensures.gives in
    let less = token_shorter c.loop-rest.rest.now c.in_ok-kind.kind c.in_ok-kind.after.now token in
    let made : Token = record { kind = c.in_ok-kind.kind; start = c.place-start.result; end = c.place-end.result } in
    let P : List Token → Type 0 = λ ts. Leads (length c.args.text.now) c.args.text.now ts c.in_ok-kind.after.now in
    (c.in_ok-kind.after.now, subst P (sym c.in_ok-push.ensures.items) (turn c.args.text.now i.0 c.loop-rest.rest.now c.in_ok-kind.after.now c.loop-rest.made.items made i.1 i.2 token c.place-start.ensures c.place-end.ensures), sym c.after_blanks-rest-in-loop-rest.ensures.rest, omega (arith, c.after_blanks-rest-in-loop-rest.ensures.shorter))
