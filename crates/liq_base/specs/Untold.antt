-- What objects tell that tell of their failures alone.
use Rattle.std.specs.Prelude.{ℕ, None}
use Rattle.liq_base.specs.Pieces.{SinkTold}
use Rattle.liq_base.specs.Shelves.{ShelfTold}

-- What a byte sink tells of itself that tells only how often it failed, and neither its bytes, name, room nor appends.
abbrev pub faults_alone : ℕ → SinkTold
faults_alone faults = record { held = None; name = None; room = None; appends = None; faults = faults }

-- What a shelf tells of itself that tells only its counts of faults: how many reads failed, and how many creations and
-- closings.
abbrev pub counts_alone : (reads writes : ℕ) → ShelfTold
counts_alone reads writes = record { files = None; created = None; closed = None; reads = reads; writes = writes }
