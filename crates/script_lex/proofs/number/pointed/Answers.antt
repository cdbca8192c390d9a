use Rattle.std.proofs.Common.{pos, refl, length, leb, ◌&&◌}
use Rattle.fixed_text.specs.Texts.{millionths}
use Rattle.script_lex.proofs.Bounds.{given}
use Rattle.script_lex.proofs.number.pointed.Goals as goal

pub returns-in-Some-clause-gives : goal.returns-in-Some-clause-gives
returns-in-Some-clause-gives c =
    let m = millionths c.args.digits.now c.args.fraction.now in
    let g = given (leb (length c.args.fraction.now) 6 && leb m 1000000000000000) (pos m) c.in-Some.value.millionths c.in-Some.ensures in
    (g.0, (c.in-Some.value, refl, g.1), refl)
