use Rattle.std.proofs.Common.{rules, ◌≡◌, ◌-◌, ℕ, ap, arith, length}
use Rattle.std.proofs.lemmas.Result.{IfOk-equal}
use Rattle.plan_picture.proofs.Cutting.{long, short}
use Rattle.plan_picture.proofs.preds.cut.Goals as goal

pub returns-then-count-le200 : goal.returns-then-count-le200
returns-then-count-le200 c =
    let is : c.len.result ≡ length c.args.into.now.items = first_of (search rules, omega (arith, c.len.ensures)) in
    short c.args.before (c.len.result - c.args.before) c.args.into.now.items (ap (λ (n : ℕ). n - c.args.before) is)
    (omega (arith, c.if-count-le200.true))

pub returns : goal.returns
returns c =
    let is : c.len.result ≡ length c.args.into.now.items = first_of (search rules, omega (arith, c.len.ensures)) in
    IfOk-equal c.push_between.result c.push_between.new.into.items _ _ c.push_between.ensures
    (long c.args.before (c.len.result - c.args.before) c.args.into.now.items c.truncate.new.self.items (ap (λ (n : ℕ). n - c.args.before) is)
    (omega (arith, c.if-count-le200.false)) c.truncate.ensures.items)
