use Rattle.std.proofs.Common.{sym, ap, ◌∙◌, ◌-◌, arith, inr, Some, ℕ}
use Rattle.script_places.proofs.Placed.{first_there, first_missing}
use Rattle.script_places.proofs.starts.first_token.Goals as goal

pub returns-then-index-len : goal.returns-then-index-len
returns-then-index-len c = sym (first_missing c.args.script.now.statements.items c.args.statement (inr (omega (arith, c.if-statement-eq0.false, c.len.ensures, c.if-index-len.true))))

pub returns : goal.returns
returns c =
    let there = first_there c.args.script.now.statements.items c.args.statement (c.args.statement - 1) c.index.result.now (grind (arith, c.if-statement-eq0.false)) (grind (arith, c.if-index-len.false, c.len.ensures)) c.index.ensures c.requires in
    ap (λ (n : ℕ). Some n) c.first_at.ensures ∙ sym there
