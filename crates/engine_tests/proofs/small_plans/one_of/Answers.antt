use Rattle.std.proofs.Common.{rules, map}
use Rattle.frame_core.specs.Library.{IsLibrary}
use Rattle.engine_tests.proofs.Fronts.{front_library}
use Rattle.engine_tests.proofs.small_plans.one_of.Goals as goal

pub new-requires-5 : goal.new-requires-5
new-requires-5 c =
    let whole : IsLibrary (record { files = c.in_ok-files.files.items; names = c.in_ok-names.names.items; leaves = map (λ v. v.items) c.in_ok-leaves.leaves.items }) = search rules in
    front_library c.in_ok-files.files.items c.in_ok-names.names.items c.in_ok-leaves.leaves.items c.truncate.new.self.items c.args.count c.truncate.ensures.items whole
