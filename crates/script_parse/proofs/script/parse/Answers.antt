use Rattle.parse_base.specs.Gives.{kinds}
use Rattle.script_parse.proofs.Only.{only, only_fault}
use Rattle.script_parse.proofs.script.parse.Goals as goal

pub returns-clause-only : goal.returns-clause-only
returns-clause-only c = only c.one_placed_script.ensures.one (kinds c.args.tokens.now) c.answer.result c.answer.ensures.spelled c.answer.ensures.placed c.answer.ensures.fault

pub returns-clause-only_fault : goal.returns-clause-only_fault
returns-clause-only_fault c = only_fault (kinds c.args.tokens.now) c.answer.result c.answer.ensures.spelled c.answer.ensures.shallow c.answer.ensures.fault
