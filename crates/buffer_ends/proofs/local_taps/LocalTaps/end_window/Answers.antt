use Rattle.std.proofs.Common.{subst, sym, ◌≡◌, List, [], map, append-nil, Result, Ok, Err, OnOk, OnErr}
use Rattle.frame_core.specs.Calls.{Call, Adds}
use Rattle.buffer_ends.specs.Local.{LocalBuffer, closed}
use Rattle.buffer_ends.specs.Ends.{LocalStands}
use Rattle.buffer_ends.proofs.Windows.{stand_closed}
use Rattle.buffer_ends.proofs.local_taps.LocalTaps.end_window.Goals as goal

either : {T E : Type 0} (r : Result T E) (old new : List LocalBuffer) → OnOk r (new ≡ map closed old) → OnErr r (new ≡ old) → Adds LocalStands old new []
either (Ok x) old new e f calls s = subst (λ (y : List LocalBuffer × List Call). LocalStands y.0 y.1) (λ i. (sym e i, sym (append-nil calls) i)) (stand_closed (λ b. ⊥) old calls s)
either (Err x) old new e f calls s = subst (λ (y : List LocalBuffer × List Call). LocalStands y.0 y.1) (λ i. (sym f i, sym (append-nil calls) i)) s

pub returns-clause-stands : goal.returns-clause-stands
returns-clause-stands c =
    subst (λ (old : List LocalBuffer). Adds LocalStands old c.close_all.new.lists.items []) c.self.view_is
    (either c.close_all.result c.self.inside.lists.items c.close_all.new.lists.items c.close_all.ensures.closed c.close_all.ensures.memory)
