use Rattle.std.proofs.Common.{rules}
use Rattle.track_library.proofs.Keeping.{nothing_kept}
use Rattle.track_library.proofs.walk.Walk.new.Goals as goal

pub returns-clause-kept : goal.returns-clause-kept
returns-clause-kept c = λ by told. nothing_kept by told c.args.keeps _ _ (search rules) (search rules)
