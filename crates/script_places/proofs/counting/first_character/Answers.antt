use Rattle.script_places.proofs.Counts.{first_of_them}
use Rattle.script_places.proofs.counting.first_character.Goals as goal

pub returns-clause-characters : goal.returns-clause-characters
returns-clause-characters c = rw c.split_at.ensures.back (first_of_them c.args.bytes.now c.width.result c.requires c.width.ensures.width c.width.ensures.some)
