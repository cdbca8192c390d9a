use Rattle.std.proofs.Common.{◌≡◌, ◌∙◌, None, ap, sym}
use Rattle.where_lines.specs.Texts.{text_among}
use Rattle.where_lines.proofs.Faults.{no_tokens}
use Rattle.where_lines.proofs.texts.text_place.Goals as goal

pub returns-in-Ok-clause-none : goal.returns-in-Ok-clause-none
returns-in-Ok-clause-none c = λ none ts are.
    ap (text_among c.args.name.now) (sym (c.deref.ensures.value ∙ (c.in-Ok.ensures.only ts are).1)) ∙ sym c.text_among.ensures ∙ none

pub returns-in-Err-clause-none : goal.returns-in-Err-clause-none
returns-in-Err-clause-none c =
    no_tokens (λ ts. text_among c.args.name.now ts ≡ None) c.args.text.now c.in-Err.fault c.no_tokens.result (λ ts are. (c.in-Err.ensures.only ts are).0) c.no_tokens.ensures.fault
