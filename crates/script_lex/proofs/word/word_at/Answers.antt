use Rattle.std.proofs.Common.{◌∙◌, sym, ap, subst, IsUtf8}
use Rattle.script_lex.specs.Reading.{front}
use Rattle.script_lex.proofs.Ascii.{name_utf8}
use Rattle.script_lex.proofs.word.word_at.Goals as goal

pub name_or_open-requires-clause-utf8 : goal.name_or_open-requires-clause-utf8
name_or_open-requires-clause-utf8 c =
    subst IsUtf8 (sym (c.front-word.ensures ∙ ap (front c.args.bytes.now) c.after_name-rest.ensures.rest)) (name_utf8 c.args.bytes.now)
