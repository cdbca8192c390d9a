use Rattle.std.proofs.Common.{◌+◌}
use Rattle.std.proofs.lemmas.List.{take-map}
use Rattle.parse_base.specs.Gives.{token_kind, kinds}
use Rattle.script_parse.proofs.Parsed.{deep_by_script, deep_by_place, syntax_first}
use Rattle.script_parse.proofs.script.front.Goals as goal
use Rattle.script_parse.proofs.script.front.Goals.{in-Ok, in-Err-At+then-k-d, in-Err-At+else-k-d, in-Err-Memory}

pub returns : goal.returns
returns c =
    let w = kinds c.args.tokens.now in
    let d = c.args.d in
    let front = take-map token_kind (d + 1) c.args.tokens.now in
    elim c.match-whole.branch [
      | in-Ok x ↦ λ some. rw x.result-is (deep_by_script w d x.in-Ok.field-0 c.requires.deep (rw front x.in-Ok.ensures))
      | in-Err-At+then-k-d x ↦ λ some. rw x.result-is (syntax_first w d x.in-Err-At.k c.requires.deep x.if-k-d.true (rw front (rw x.in-Err-At.field-0-is at x.in-Err-At.ensures)))
      | in-Err-At+else-k-d x ↦ λ some. rw x.result-is (deep_by_place w d x.in-Err-At.k c.requires.deep x.if-k-d.false (rw front (rw x.in-Err-At.field-0-is at x.in-Err-At.ensures)))
      | in-Err-Memory x ↦ λ some. absurd (some x.result-is)
    ]
