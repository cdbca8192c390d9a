use Rattle.where_lines.proofs.Beginnings.{no_token}
use Rattle.where_lines.proofs.places.place_of.Goals as goal

pub returns-in-Token-clause-none : goal.returns-in-Token-clause-none
returns-in-Token-clause-none c = no_token c.args.line.now c.args.text.now c.in-Token.token c.args.named c.token_place.result c.in-Token.is c.token_place.ensures.none
