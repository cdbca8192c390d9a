use Rattle.std.proofs.Common.{◌≡◌, ◌+◌, ◌*◌, arith, ap}
use Rattle.resample.proofs.Changing.{room_there}
use Rattle.resample.proofs.changed.are_inside.Goals as goal

pub overflow_mul-result : goal.overflow_mul-result
overflow_mul-result c =
    let room = room_there c.args.source c.args.way.now c.args.blocks 0 c.requires.source c.requires.way (omega (arith, c.requires.there)) in
    let is : c.args.blocks * c.from.result ≡ c.args.blocks * c.args.way.now.from = ap (λ n. c.args.blocks * n) c.from.ensures in
    record { fits = omega (arith, is, room) }
