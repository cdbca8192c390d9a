-- A crossfade through which cells pass, behind a run.
use Rattle.std.proofs.Common.{◌≡◌, ◌<◌, ◌≤◌, ◌+◌, ◌-◌, ◌∙◌, ◌++◌, ℕ, ℤ, suc, Some, List, ◌∷◌, length, map, take, drop, arith, ap, sym, subst, inl, inr, append_assoc}
use Rattle.std.proofs.lemmas.Bool.{cases_lt}
use Rattle.std.proofs.lemmas.List.{get_or_append_left, map-append, take-append-drop, take_all}
use Rattle.plan_core.specs.declared.node.Node.{Node}
use Rattle.clock_infer.specs.declared.clock_map.NodeClock.{NodeClock}
use Rattle.cell_ring.specs.Rings.{inner_cells}
use Rattle.frame_core.specs.declared.cell.Cell.{Cell}
use Rattle.frame_core.specs.Slots.{Slot, slot_at, slot_left, slot_right}
use Rattle.op_leaf.specs.Lanes.{IsLane}
use Rattle.op_cross.specs.Crossfade.{cross}
use Rattle.op_cross.specs.Runs.{item_of}
use Rattle.op_cross.specs.States.{Crossing, StandsFor}
use Rattle.op_cross.proofs.CrossGrows.{cross-begins}
use Rattle.op_cross.proofs.LeastRuns.{item_of-is}
use Rattle.stream_meaning.specs.Operators.{Work, Plays, Picks, Mixes, Fades, Reads}
use Rattle.stream_meaning.specs.Instants.{Setting, Moment, moment_after, position, work_at}
use Rattle.stretch_laws.specs.Stretches.{going_on, lane}
use Rattle.node_states.specs.declared.state.NodeState.TheVariants.{Cross}
use Rattle.node_states.specs.Passing.{LaneFills}
use Rattle.node_states.specs.Histories.{history_of}
use Rattle.node_states.specs.Stretches.{GoesOn}
use Rattle.node_states.specs.States.{CrossStands, StateStands}
use Rattle.node_states.proofs.FilledStretch.{filled_cells, many_cells}
use Rattle.node_states.proofs.Hearing.{fade_run}
use Rattle.node_states.proofs.Rested.{gave_position}
use Rattle.node_states.proofs.Running.{passed_stands}

-- an item that fewer slots settle
item_stays : (most : ℕ) (slots more : List Slot) (q : ℕ) → q < length (cross most slots) → slot_at (cross most (slots ++ more)) q ≡ slot_at (cross most slots) q
item_stays most slots more q low =
    let begins = cross-begins most slots more in
    sym (ap (λ items. slot_at items q) begins.is) ∙ get_or_append_left (cross most slots) begins.rest _ q low

module _ (setting : Setting) (sub : ℕ → ℕ → List Slot) (clock : NodeClock) (past : List Moment) (many i filled : ℕ) (node : Node) (goes : GoesOn (history_of setting sub clock past) many i node)
    (some : 0 < many) (title : ℕ) (lefts rights : List ℤ) (fills : LaneFills (sub i) filled many title lefts rights) (old new : Crossing) where
  abbrev First : Moment
  First = moment_after setting sub clock past

  abbrev Past : List Moment
  Past = First ∷ past

  abbrev Later : List Moment
  Later = going_on setting sub clock (suc many) past

  abbrev Cells : List Cell
  Cells = inner_cells title lefts rights

  cells_filled : (m : ℕ) → m ≤ many → sub i (filled + m) ≡ sub i filled ++ map Some (take m Cells)
  cells_filled m few = filled_cells fills.slots (sub i) filled many title lefts rights fills.lane fills.titled fills.filled m few

  cells_many : length Cells ≡ many
  cells_many = many_cells fills.slots (sub i) filled many title lefts rights fills.lane fills.titled fills.filled

  next : 1 + many ≡ suc many
  next = omega arith

  pub through_stands : new.overlap ≡ old.overlap
      → ((slots : List Slot) (p : ℕ) → StandsFor old slots p → StandsFor new (slots ++ map Some Cells) (p + many))
      → ((slots : List Slot) (p m : ℕ) → StandsFor old slots p → m ≤ many → length (cross old.overlap (slots ++ map Some (take m Cells))) ≡ p + m)
      → (work : Work) → StateStands setting sub Past filled i work (Cross old) → StateStands setting sub Later (filled + many) i work (Cross new)
  through_stands same goes_to least (Plays leaf) s = absurd s
  through_stands same goes_to least (Picks rule eligible) s = absurd s
  through_stands same goes_to least (Mixes mixing) s = absurd s
  through_stands same goes_to least (Fades overlap) s =
      subst (λ n. CrossStands (sub i) (filled + many) (position (going_on setting sub clock n past) i) overlap new) next
      (passed_stands setting sub clock past (suc many) 1 many goes.nodes goes.stretch (omega arith) (omega arith) some i node goes.is filled overlap old goes.long s new Cells goes.gave same
      cells_many cells_filled goes_to least)
  through_stands same goes_to least (Reads buffer) s = absurd s

  module _ (overlap : ℕ) (s : CrossStands (sub i) filled (position Past i) overlap old)
      (least : (slots : List Slot) (p m : ℕ) → StandsFor old slots p → m ≤ many → length (cross old.overlap (slots ++ map Some (take m Cells))) ≡ p + m) where
    settled_at : (m : ℕ) → m ≤ many → length (cross old.overlap (sub i (filled + m))) ≡ position Past i + m
    settled_at m few = ap (λ l. length (cross old.overlap l)) (cells_filled m few) ∙ least (sub i filled) (position Past i) m s.stands few

    unsettled_at : (j m : ℕ) → j < many → m < filled + suc j → length (cross old.overlap (sub i m)) ≤ position Past i + j
    unsettled_at j m low less = elim (cases_lt m filled) [
      | inl under ↦ (let l : length (cross old.overlap (sub i m)) ≤ position Past i = subst (λ most. length (cross most (sub i m)) ≤ position Past i) (sym s.overlap_is) (s.least m under) in omega (arith, l))
      | inr over ↦ (let e : filled + (m - filled) ≡ m = omega (arith, over) in
          let is = settled_at (m - filled) (omega (arith, over, low, less)) in
          let same : length (cross old.overlap (sub i m)) ≡ position Past i + (m - filled) = ap (λ n. length (cross old.overlap (sub i n))) (sym e) ∙ is in
          omega (arith, same, over, less))
    ]

    -- behind the slots that settle item j come the rest of the cells
    whole_cells : (j : ℕ) → j < many → sub i filled ++ map Some Cells ≡ sub i (filled + suc j) ++ map Some (drop (suc j) Cells)
    whole_cells j low =
        ap (λ l. sub i filled ++ map Some l) (sym (take-append-drop (suc j) Cells))
        ∙ ap (λ l. sub i filled ++ l) (map-append Some (take (suc j) Cells) (drop (suc j) Cells))
        ∙ sym (append_assoc (sub i filled) (map Some (take (suc j) Cells)) (map Some (drop (suc j) Cells)))
        ∙ ap (λ l. l ++ map Some (drop (suc j) Cells)) (sym (cells_filled (suc j) (omega (arith, low))))

    item_at : (j : ℕ) → j < many → item_of old.overlap (sub i) (position Past i + j) ≡ slot_at (cross old.overlap (sub i filled ++ map Some Cells)) (position Past i + j)
    item_at j low =
        let settled : position Past i + j < length (cross old.overlap (sub i (filled + suc j))) = (let c = settled_at (suc j) (omega (arith, low)) in omega (arith, c)) in
        item_of-is old.overlap (sub i) (position Past i + j) (filled + suc j) (goes.long.each i) settled (λ m less. unsettled_at j m low less)
        ∙ sym (item_stays old.overlap (sub i (filled + suc j)) (map Some (drop (suc j) Cells)) (position Past i + j) settled)
        ∙ ap (λ l. slot_at (cross old.overlap l) (position Past i + j)) (sym (whole_cells j low))

    fade_through : (left right : List ℤ) → work_at setting i node ≡ Fades overlap
        → left ≡ map slot_left (take many (drop (position Past i) (cross old.overlap (sub i filled ++ map Some Cells))))
        → right ≡ map slot_right (take many (drop (position Past i) (cross old.overlap (sub i filled ++ map Some Cells))))
        → IsLane (λ j. lane setting sub clock past (suc j) i) many left right
    fade_through left right at left_is right_is =
        let gone : position Past i ≡ suc (position past i) = gave_position past First i goes.gave in
        let items : List Slot = cross old.overlap (sub i filled ++ map Some Cells) in
        fade_run setting sub clock past many i node goes overlap at left right (cross old.overlap (sub i filled ++ map Some Cells))
        (λ j less. subst (λ p. item_of overlap (sub i) (p + j) ≡ slot_at (cross old.overlap (sub i filled ++ map Some Cells)) (p + j)) gone
        (subst (λ most. item_of most (sub i) (position Past i + j) ≡ slot_at (cross old.overlap (sub i filled ++ map Some Cells)) (position Past i + j)) s.overlap_is (item_at j less)))
        (let c = least (sub i filled) (position Past i) many s.stands (omega arith) in
        let all : length (cross old.overlap (sub i filled ++ map Some (take many Cells))) ≡ length (cross old.overlap (sub i filled ++ map Some Cells)) =
        ap (λ l. length (cross old.overlap (sub i filled ++ map Some l))) (take_all many Cells (let n = cells_many in omega (arith, n))) in omega (arith, c, all, gone))
        (left_is ∙ ap (λ p. map slot_left (take many (drop p (cross old.overlap (sub i filled ++ map Some Cells))))) gone)
        (right_is ∙ ap (λ p. map slot_right (take many (drop p (cross old.overlap (sub i filled ++ map Some Cells))))) gone)

  pub through_lane : (left right : List ℤ)
      → ((slots : List Slot) (p m : ℕ) → StandsFor old slots p → m ≤ many → length (cross old.overlap (slots ++ map Some (take m Cells))) ≡ p + m)
      → ((slots : List Slot) (p : ℕ) → StandsFor old slots p → left ≡ map slot_left (take many (drop p (cross old.overlap (slots ++ map Some Cells)))))
      → ((slots : List Slot) (p : ℕ) → StandsFor old slots p → right ≡ map slot_right (take many (drop p (cross old.overlap (slots ++ map Some Cells)))))
      → (work : Work) → work_at setting i node ≡ work → StateStands setting sub Past filled i work (Cross old) → IsLane (λ j. lane setting sub clock past (suc j) i) many left right
  through_lane left right least left_is right_is (Plays leaf) at s = absurd s
  through_lane left right least left_is right_is (Picks rule eligible) at s = absurd s
  through_lane left right least left_is right_is (Mixes mixing) at s = absurd s
  through_lane left right least left_is right_is (Fades overlap) at s =
      fade_through overlap s least left right at (left_is (sub i filled) (position Past i) s.stands) (right_is (sub i filled) (position Past i) s.stands)
  through_lane left right least left_is right_is (Reads buffer) at s = absurd s
