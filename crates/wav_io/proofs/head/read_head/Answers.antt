use Rattle.std.proofs.Common.{rules, ◌≡◌, ◌≤◌, ◌<◌, ◌+◌, ◌∙◌, arith, false, length, codes, ap, sym}
use Rattle.std.specs.Prelude.{is_some}
use Rattle.wav_io.specs.Reading.{is_riff}
use Rattle.wav_io.proofs.Fronts.{told_not_riff}
use Rattle.wav_io.proofs.Steps.{first_never}
use Rattle.wav_io.proofs.head.read_head.Goals as goal

pub returns-then-not-is_riff-clause-told : goal.returns-then-not-is_riff-clause-told
returns-then-not-is_riff-clause-told c =
    let long : 12 ≤ length c.args.front.now = omega (arith, c.if-front-lt-RIFF_BYTES.false) in
    let other : is_riff c.args.front.now ≡ false = search rules in
    told_not_riff c.args.front.now c.args.size long other

pub returns-then-front-lt-RIFF_BYTES-clause-tells : goal.returns-then-front-lt-RIFF_BYTES-clause-tells
returns-then-front-lt-RIFF_BYTES-clause-tells c = λ some.
    let short : length c.args.front.now < 12 + 8 = omega (arith, c.if-front-lt-RIFF_BYTES.true) in
    sym (ap is_some (first_never c.args.front.now 12 (codes "data") short)) ∙ some
