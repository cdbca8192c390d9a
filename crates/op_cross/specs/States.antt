-- What a crossfade's state holds, and for which slots and which item it stands.
use Rattle.std.specs.Prelude.{◌≡◌, ◌<◌, ◌≤◌, ◌+◌, ◌-◌, ◌*◌, Bool, true, false, not, ◌&&◌, Some, None, List, [], ◌∷◌, ◌++◌, ℕ, ℤ, zero, suc, length, take, drop, map, nat_eq, nat_lt, if◌then◌else◌}
use Rattle.liq_base.specs.declared.limits.TheConstants.{MAX_OVERLAP}
use Rattle.frame_core.specs.declared.cell.Cell.{Cell}
use Rattle.frame_core.specs.Slots.{Slot}
use Rattle.sample_kernels.specs.Mixing.{mixed}
use Rattle.op_cross.specs.Crossfade.{mixed_cells, cross}

-- what a crossfade keeps from slot to slot: cells held back or ready, and the front of the next track
pub record Crossing : Type 0 where
  -- the most cells that overlap
  pub overlap : ℕ
  -- the cells of the items that are ready, and behind them those that are held back of a track
  pub cells : List Cell
  -- while items are ready: the cells that are to be mixed with the last of theirs. Else: what is there of the next
  -- track
  pub next : List Cell
  -- how many of the cells are ready
  pub ready : ℕ
  -- over how many cells the mix goes
  pub whole : ℕ
  -- an empty item is ready behind the cells
  pub gap : Bool

-- none of these cells begins a track, so that they go on with the track before them
abbrev pub AllInner : List Cell → Type 0
AllInner [] = Unit {0}
AllInner (cell ∷ cells) = (cell.first ≡ false) × AllInner cells

-- these cells are of one track, from some place of it on: only the first may begin it
abbrev pub IsTrack : List Cell → Type 0
IsTrack [] = Unit {0}
IsTrack (cell ∷ cells) = AllInner cells

-- these cells are of one track from its beginning on: just the first begins it; or there is no cell
abbrev pub BeginsTrack : List Cell → Type 0
BeginsTrack [] = Unit {0}
BeginsTrack (cell ∷ cells) = (cell.first ≡ true) × AllInner cells

-- the cells of the present track that are held back, since they may still be faded into the next one
abbrev pub held : Crossing → List Cell
held state = drop state.ready state.cells

-- The cells `next` of the next track, while more may come to it. That is so where the first argument, how many cells
-- are ready to be given, is 0; otherwise the list is empty.
abbrev pub growing_at : ℕ → List Cell → List Cell
growing_at zero next = next
growing_at (suc ready) next = []

-- the cells of the next track that a crossfade has, while more may come to it; otherwise none
abbrev pub growing : Crossing → List Cell
growing state = growing_at state.ready state.next

-- the cells of the output that are settled and wait to be given: first those of one track alone, then the faded ones
abbrev pub ready_cells : Crossing → List Slot
ready_cells state =
    map Some (take (state.ready - length state.next) state.cells)
    ++ mixed_cells (drop (state.ready - length state.next) (take state.ready state.cells)) state.next
    (state.whole - length state.next) state.whole

-- an empty item as a list of one if there is such a gap, and otherwise no item
abbrev pub gap_of : Bool → List Slot
gap_of gap = if gap then None ∷ [] else []

-- the items of the output that wait to be given: settled cells, and then maybe an empty one
abbrev pub ready_items : Crossing → List Slot
ready_items state = ready_cells state ++ gap_of state.gap

-- the state of a crossfade after its next n items were given, all of them mixed of two tracks
abbrev pub mixed_on : ℕ → Crossing → Crossing
mixed_on n state = record state { cells = drop n state.cells; next = drop n state.next; ready = state.ready - n }

-- The left or right samples, which `side` picks, of a crossfade's next n items, all of them mixed of two tracks.
abbrev pub mixed_side : (Cell → ℤ) → ℕ → Crossing → List ℤ
mixed_side side n state = mixed (map side (take n state.cells)) (map side (take n state.next))
    (state.whole - length state.next) state.whole

-- The slots from which later items of the output have yet to be mixed: the cells held back, those of the next track so
-- far, and then the slots `more` that follow from the source.
abbrev pub unsettled : Crossing → List Slot → List Slot
unsettled state more = map Some (held state) ++ (map Some (growing state) ++ more)

-- whether the item at which a crossfade stands is not settled, so that it wants a further slot of its source
abbrev pub wants : Crossing → Bool
wants state = nat_eq state.ready 0 && not state.gap

-- how many further cells of the track that is going on settle the item at which a crossfade stands, where it is not
-- settled
abbrev pub track_room : Crossing → ℕ
track_room state =
    if nat_lt 0 (length state.next) then length state.cells - length state.next
    else suc state.overlap - length state.cells

-- whether each further cell of the present track settles just one item: as many cells are held back as may overlap, and
-- nothing else is kept
abbrev pub passes : Crossing → Bool
passes state = wants state && (nat_eq (length state.next) 0 && nat_eq (length state.cells) state.overlap)

-- A bound on how many further slots of its source a crossfade needs before the item at which it stands is settled; 0
-- where it is settled already.
abbrev pub left : Crossing → ℕ
left state = if wants state then 2 * state.overlap - length state.cells - length state.next else 0

-- What always holds of a crossfade's state. The overlap is legal, no more cells are held back than may be faded, and
-- those of a growing next track are fewer. A fade to come is as long as the next track's front, and a gap leaves
-- nothing held back.
pub record IsCrossing (state : Crossing) : Type 0 where
  pub overlap : (0 < state.overlap) × (state.overlap ≤ MAX_OVERLAP)
  pub ready : state.ready ≤ length state.cells
  pub held : length state.cells ≤ state.ready + state.overlap
  pub growing : state.ready ≡ 0 → 0 < length state.next → length state.next < length state.cells
  pub mixing : 0 < state.ready → (length state.next ≤ state.ready) × (length state.next ≤ state.whole)
  pub begun : 0 < length state.next → length state.next < state.ready → state.whole ≡ length state.next
  pub whole : state.whole ≤ state.overlap
  pub ended : state.gap ≡ true → length state.cells ≡ state.ready

-- A crossfade's state stands for the slots taken so far and for item p of the output. Whatever slots `more` follow, the
-- output is p past items, then those that are ready, and then what comes of the slots that are not settled.
pub record StandsFor (state : Crossing) (slots : List Slot) (p : ℕ) : Type 0 where
  pub past : List Slot
  pub count : length past ≡ p
  pub items : (more : List Slot) → cross state.overlap (slots ++ more)
      ≡ past ++ (ready_items state ++ cross state.overlap (unsettled state more))
  pub plain : IsTrack (take (state.ready - length state.next) state.cells)
  pub track : IsTrack (held state)
  pub next : BeginsTrack (growing state)

-- The number of the item at which a crossfade stands at the next instant, where item p is the given slot. It is p + 1
-- if the crossfade gave (the Bool) or the item is empty, and otherwise p again.
abbrev pub position_after : Bool → Slot → ℕ → ℕ
position_after gave None p = suc p
position_after gave (Some cell) p = if gave then suc p else p

-- how many settled items wait in a row of which none but the first begins a track: those of one track alone, or else
-- the faded ones
abbrev pub ready_stretch : Crossing → ℕ
ready_stretch state = if nat_lt (length state.next) state.ready then state.ready - length state.next else state.ready
