use Rattle.std.specs.Option.{option_map}
use Rattle.where_lines.proofs.Breaking.{broke_first}
use Rattle.where_lines.proofs.pass_on.Goals as goal

pub returns-in_default-clause-broken : goal.returns-in_default-clause-broken
returns-in_default-clause-broken g c =
    broke_first c.args.file.now (option_map (λ bytes. bytes.now) c.args.text) (g.I.Read.remaining c.args.input) (g.O.Sink.told c.args.out.now)
