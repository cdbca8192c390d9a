use Rattle.script_places.proofs.Naming.{same_found, same_only}
use Rattle.script_places.proofs.named.named_in.Goals as goal

pub returns-clause-found : goal.returns-clause-found
returns-clause-found c = same_found c.named_by.result c.form_of.result c.as_bytes-line.result.now c.args.line.now c.form_of.ensures c.as_bytes-line.ensures.value c.named_by.ensures.found

pub returns-clause-only : goal.returns-clause-only
returns-clause-only c = same_only c.named_by.result c.form_of.result c.as_bytes-line.result.now c.args.line.now c.form_of.ensures c.as_bytes-line.ensures.value c.named_by.ensures.only
