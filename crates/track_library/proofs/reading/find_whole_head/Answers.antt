use Rattle.std.proofs.Common.{rules, ◌≡◌, ◌≤◌, length}
use Rattle.std.specs.Prelude.{Ok}
use Rattle.std.specs.Option.{ForSome}
use Rattle.liq_base.specs.Files.{file_at}
use Rattle.track_library.specs.Walk.{bytes_in}
use Rattle.track_library.proofs.Counting.{head_read}
use Rattle.track_library.proofs.reading.find_whole_head.Goals as goal

pub returns-in-Ok-clause-head : goal.returns-in-Ok-clause-head
returns-in-Ok-clause-head g c =
    let is : ForSome (g.S.Shelf.told c.args.shelf.now).files (λ all. bytes_in c.args.most (file_at all c.args.name.now) ≡ Ok c.deref.result.now) = search rules in
    let few : length c.deref.result.now ≤ c.args.most = search rules in
    head_read c.args.name.now c.args.most (g.S.Shelf.told c.args.shelf.now).files c.deref.result.now c.head_in.result is few c.head_in.ensures
