use Rattle.std.proofs.Common.{[]}
use Rattle.trace_records.proofs.Deciding.{test_legal, legal_test}
use Rattle.trace_records.proofs.windows.is_legal.Goals as goal

pub returns-clause-legal : goal.returns-clause-legal
returns-clause-legal c = rw c.passes.ensures (
  test_legal [] c.args.capacity c.args.opening c.args.puts.now c.args.takes.now c.requires.some c.requires.fits,
  legal_test c.args.capacity c.args.opening c.args.puts.now c.args.takes.now c.requires.fits,
)
