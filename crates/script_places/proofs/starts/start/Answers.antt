use Rattle.std.proofs.Common.{sym, ap, ◌∙◌, arith}
use Rattle.script_lex.specs.declared.token.Token.{Token}
use Rattle.script_places.proofs.Placed.{start_there, start_past}
use Rattle.script_places.proofs.starts.start.Goals as goal

pub returns-then-token-tokens : goal.returns-then-token-tokens
returns-then-token-tokens c =
    let is = c.index-tokens-token.is in
    ap (λ (t : Token). t.start) (sym is) ∙ sym (start_there c.args.total c.args.tokens.now c.args.token c.index-tokens-token.result c.if-token-tokens.true is)

pub returns-else-token-tokens : goal.returns-else-token-tokens
returns-else-token-tokens c = sym (start_past c.args.total c.args.tokens.now c.args.token (omega (arith, c.if-token-tokens.false)))
