use Rattle.std.proofs.Common.{◌-◌, sym, ap, ◌∙◌, subst, length, IsUtf8}
use Rattle.script_lex.specs.Reading.{front, unescaped}
use Rattle.script_lex.specs.Spelling.{Bad}
use Rattle.script_lex.proofs.Stops.{text_valid, text_invalid}
use Rattle.script_lex.proofs.Texts.{closed_utf8}
use Rattle.script_lex.proofs.Firsts.{is_quote_of}
use Rattle.script_lex.proofs.scan.text_at.Goals as goal

pub text_from-requires-clause-utf8 : goal.text_from-requires-clause-utf8
text_from-requires-clause-utf8 c = λ closed.
    let whole = c.front-body.ensures in
    let utf8 : IsUtf8 (front c.args.bytes.now c.body_end-end.result.1.now) = subst IsUtf8 whole c.in-Ok.ensures.cases.1 in
    subst (λ x. IsUtf8 (unescaped x)) (sym whole) (closed_utf8 c.args.quote (is_quote_of c.args.quote c.requires.quote) c.args.bytes.now c.body_end-end.result.0 c.body_end-end.result.1.now c.body_end-end.ensures.stop closed utf8)

pub returns-in-Ok-clause-gives : goal.returns-in-Ok-clause-gives
returns-in-Ok-clause-gives c =
    let whole = c.front-body.ensures in
    let utf8 : IsUtf8 (front c.args.bytes.now c.body_end-end.result.1.now) = subst IsUtf8 whole c.in-Ok.ensures.cases.1 in
    rw (text_valid c.args.quote c.args.bytes.now c.body_end-end.result.0 c.body_end-end.result.1.now c.body_end-end.ensures.stop utf8, ← whole) c.text_from.ensures.gives

pub returns-in-Err-clause-gives : goal.returns-in-Err-clause-gives
returns-in-Err-clause-gives c =
    let whole = c.front-body.ensures in
    let never : IsUtf8 (front c.args.bytes.now c.body_end-end.result.1.now) → ⊥ = λ u. c.in-Err.ensures.cases.0 (subst IsUtf8 (sym whole) u) in
    rw (text_invalid c.args.quote c.args.bytes.now c.body_end-end.result.0 c.body_end-end.result.1.now c.body_end-end.ensures.stop never, ← whole) (ap (λ n. Bad (length c.args.bytes.now - n)) (sym (c.valid_up_to.ensures ∙ c.in-Err.ensures.valid_len)))
