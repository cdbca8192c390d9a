use Rattle.std.proofs.Common.{ap, refl}
use Rattle.script_lex.specs.Parts.{time_of, mark_in}
use Rattle.script_lex.specs.Spelling.{is_within}
use Rattle.script_lex.specs.declared.token.TokenKind.TheVariants as kinds
use Rattle.script_lex.proofs.Bounds.{given}
use Rattle.script_lex.proofs.time.timed.Goals as goal

pub returns-in-Some-clause-gives : goal.returns-in-Some-clause-gives
returns-in-Some-clause-gives c =
    let g = given (is_within (time_of c.args.parts)) (mark_in c.args.parts) c.in-Some.mark c.in-Some.ensures in
    (g.0, ap kinds.Time g.1, refl)
