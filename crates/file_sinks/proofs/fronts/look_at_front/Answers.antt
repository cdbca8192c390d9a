use Rattle.std.proofs.Common.{rules, ◌≡◌, ◌≤◌, ◌+◌, ℕ, None, arith, length, subst}
use Rattle.liq_base.specs.Files.{FrontFound}
use Rattle.file_sinks.proofs.Looked.{front_alone}
use Rattle.file_sinks.proofs.fronts.look_at_front.Goals as goal

pub returns-then-branch-clause-found : goal.returns-then-branch-clause-found
returns-then-branch-clause-found g c = λ name told is.
    let same : c.args.size ≡ told = cc in
    let long : length c.read_front.new.into.items ≡ length c.args.into.now.items + c.args.front = search rules in
    let fits : c.args.size ≤ c.args.most = omega (arith, c.if-size-most.false) in
    subst (λ (size : ℕ). FrontFound None name c.args.front c.args.most size c.args.into.now.items c.read_front.new.into.items) same
    (front_alone name c.args.front c.args.most c.args.size c.args.into.now.items c.read_front.new.into.items c.in_ok-read_front.ensures.extends long c.requires fits)
