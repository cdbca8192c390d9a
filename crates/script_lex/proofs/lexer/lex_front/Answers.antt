use Rattle.std.proofs.Common.{arith}
use Rattle.script_lex.proofs.Lexed.{told_fronts}
use Rattle.script_lex.proofs.lexer.lex_front.Goals as goal

pub returns-in-Err : goal.returns-in-Err
returns-in-Err c =
    told_fronts c.args.text.now c.read_tokens.new.made c.in-Err.refusal c.front_of.result (omega arith) c.in-Err.ensures.fault c.front_of.ensures.made c.front_of.ensures.stop
