use Rattle.std.proofs.Common.{rules, ◌≡◌, ◌++◌}
use Rattle.buffer_ends.specs.Local.{Answers}
use Rattle.trace_log.specs.Texts.{letters, line}
use Rattle.trace_log.proofs.Whole.{line_read}
use Rattle.trace_log.proofs.reading.read_line.Goals as goal

pub returns : goal.returns
returns c =
    let found : (log : Answers) × (c.unwrap.result.0.now ≡ letters 65 70 log.puts) × (c.unwrap.result.1.now ≡ letters 71 69 log.takes) × (c.args.text.now ≡ line c.args.window c.args.buffer log ++ c.unwrap.result.2.now) = search rules in
    line_read c.args.text.now c.unwrap.result.0.now c.unwrap.result.1.now c.args.window c.args.buffer found.0 _ _ c.unwrap.result.2.now found.1 found.2 found.3 c.in_ok-puts.ensures c.in_ok-takes.ensures
