use Rattle.std.proofs.Common.{subst, sym}
use Rattle.liq_base.specs.Shelves.{ShelfTold}
use Rattle.about_cli.specs.Ends.{TellsLong}
use Rattle.about_cli.specs.declared.verb.Question.{Question}
use Rattle.about_cli.proofs.call.tell_long.Goals as goal

pub returns-in-Tokens : goal.returns-in-Tokens
returns-in-Tokens g c =
    subst (λ (q : Question). (shelf : ShelfTold) → TellsLong q shelf (g.O.Sink.told c.args.out.now) (g.O.Sink.told c.put_long.new.out) c.put_long.result)
    (sym c.in-Tokens.is) c.put_long.ensures
