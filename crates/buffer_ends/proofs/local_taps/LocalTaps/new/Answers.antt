use Rattle.std.proofs.Common.{subst, sym, List, []}
use Rattle.buffer_ends.specs.Local.{LocalBuffer}
use Rattle.buffer_ends.specs.Ends.{LocalStands}
use Rattle.buffer_ends.proofs.Windows.{stand_planned}
use Rattle.buffer_ends.proofs.local_taps.LocalTaps.new.Goals as goal

pub returns-clause-stands : goal.returns-clause-stands
returns-clause-stands c = subst (λ (l : List LocalBuffer). LocalStands l []) (sym c.in_ok-lists.ensures.empty) (stand_planned c.as_slice.result.now)
