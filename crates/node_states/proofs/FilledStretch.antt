-- A crossfade that is filled a run of cells.
use Rattle.std.proofs.Common.{◌≡◌, ◌<◌, ◌≤◌, ◌+◌, ◌-◌, ◌∙◌, ◌++◌, ℕ, ℤ, zero, suc, Some, List, [], ◌∷◌, length, map, take, arith, refl, ap, sym, subst, inl, inr, append_assoc}
use Rattle.std.specs.List.{range_with_len}
use Rattle.std.proofs.lemmas.Bool.{cases_lt}
use Rattle.std.proofs.lemmas.List.{append-nil, length-map, take_all}
use Rattle.frame_core.specs.declared.cell.Cell.{Cell}
use Rattle.frame_core.specs.Slots.{Slot}
use Rattle.cell_ring.specs.Rings.{inner_cells}
use Rattle.op_cross.specs.Crossfade.{cross}
use Rattle.op_cross.specs.States.{Crossing, StandsFor}
use Rattle.op_leaf.specs.Lanes.{AreTitled, IsLane}
use Rattle.op_leaf.proofs.Laid.{lane_cells}
use Rattle.stream_meaning.specs.Operators.{Work, Plays, Picks, Mixes, Fades, Reads}
use Rattle.stream_meaning.specs.Instants.{Setting, Moment, position}
use Rattle.node_states.specs.declared.state.NodeState.TheVariants.{Cross}
use Rattle.node_states.specs.States.{CrossStands, StateStands}

-- one slot more, from position `at` on
range_more : (slots : ℕ → Slot) (at n : ℕ) → map slots (range_with_len at (suc n)) ≡ map slots (range_with_len at n) ++ slots (at + n) ∷ []
range_more slots at zero = let e : at + 0 ≡ at = omega arith in ap (λ i. slots i ∷ []) (sym e)
range_more slots at (suc n) =
    let e : at + 1 + n ≡ at + suc n = omega arith in
    ap (λ l. slots at ∷ l) (range_more slots (at + 1) n) ∙ ap (λ i. slots at ∷ (map slots (range_with_len (at + 1) n) ++ slots i ∷ [])) e

range_taken : (slots : ℕ → Slot) (at m n : ℕ) → m ≤ n → take m (map slots (range_with_len at n)) ≡ map slots (range_with_len at m)
range_taken slots at zero n few = refl
range_taken slots at (suc m) zero few = absurd (omega (arith, few))
range_taken slots at (suc m) (suc n) few = ap (λ l. slots at ∷ l) (range_taken slots (at + 1) m n (omega (arith, few)))

map_taken : (m : ℕ) (cells : List Cell) → map Some (take m cells) ≡ take m (map Some cells)
map_taken zero cells = refl
map_taken (suc m) [] = refl
map_taken (suc m) (cell ∷ cells) = ap (λ l. Some cell ∷ l) (map_taken m cells)

range_many : (slots : ℕ → Slot) (at n : ℕ) → length (map slots (range_with_len at n)) ≡ n
range_many slots at zero = refl
range_many slots at (suc n) = ap suc (range_many slots (at + 1) n)

module _ (slots : ℕ → Slot) (sub : ℕ → List Slot) (filled many title : ℕ) (left right : List ℤ) (lane : IsLane slots many left right)
    (titled : AreTitled slots many title)
    (steps : (m : ℕ) → m < many → sub (suc (filled + m)) ≡ sub (filled + m) ++ slots m ∷ []) where
  -- the slots behind those that were filled
  filled_slots : (m : ℕ) → m ≤ many → sub (filled + m) ≡ sub filled ++ map slots (range_with_len 0 m)
  filled_slots zero few = let e : filled + 0 ≡ filled = omega arith in ap sub e ∙ sym (append-nil (sub filled))
  filled_slots (suc m) few =
      let e : filled + suc m ≡ suc (filled + m) = omega arith in
      let z : 0 + m ≡ m = omega arith in
      ap sub e ∙ steps m (omega (arith, few)) ∙ ap (λ l. l ++ slots m ∷ []) (filled_slots m (omega (arith, few)))
      ∙ append_assoc (sub filled) (map slots (range_with_len 0 m)) (slots m ∷ [])
      ∙ ap (λ i. sub filled ++ (map slots (range_with_len 0 m) ++ slots i ∷ [])) (sym z)
      ∙ ap (λ l. sub filled ++ l) (sym (range_more slots 0 m))

  -- they are the cells of the lane
  pub filled_cells : (m : ℕ) → m ≤ many → sub (filled + m) ≡ sub filled ++ map Some (take m (inner_cells title left right))
  filled_cells m few =
      filled_slots m few ∙ ap (λ l. sub filled ++ l) (sym (map_taken m (inner_cells title left right)
      ∙ ap (take m) (lane_cells slots many title left right lane titled) ∙ range_taken slots 0 m many few))

  pub many_cells : length (inner_cells title left right) ≡ many
  many_cells =
      sym (length-map (inner_cells title left right) Some) ∙ ap length (lane_cells slots many title left right lane titled) ∙ range_many slots 0 many

  pub run_filled : (p overlap : ℕ) (old new : Crossing) → new.overlap ≡ old.overlap
      → ((slots : List Slot) (p : ℕ) → StandsFor old slots p → StandsFor new (slots ++ map Some (inner_cells title left right)) p)
      → ((slots : List Slot) (p m : ℕ) → StandsFor old slots p → m < many → length (cross old.overlap (slots ++ map Some (take m (inner_cells title left right)))) ≤ p)
      → CrossStands sub filled p overlap old → CrossStands sub (filled + many) p overlap new
  run_filled p overlap old new same goes least s = record {
    overlap_is = same ∙ s.overlap_is;
    stands = subst (λ l. StandsFor new l p)
        (sym (filled_cells many (omega arith) ∙ ap (λ l. sub filled ++ map Some l) (take_all many (inner_cells title left right) (let n = many_cells in omega (arith, n)))))
        (goes (sub filled) p s.stands);
    least = λ k less. elim (cases_lt k filled) [
      | inl low ↦ s.least k low
      | inr high ↦ (let e : filled + (k - filled) ≡ k = omega (arith, high) in
          let few : k - filled < many = omega (arith, high, less) in
          subst (λ n. n ≤ p)
          (ap (λ most. length (cross most (sub filled ++ map Some (take (k - filled) (inner_cells title left right))))) s.overlap_is
          ∙ ap (λ l. length (cross overlap l)) (sym (filled_cells (k - filled) (omega (arith, few)))) ∙ ap (λ n. length (cross overlap (sub n))) e)
          (least (sub filled) p (k - filled) s.stands few))
    ];
  }

-- what a state stands for behind a run
pub state_filled : (setting : Setting) (sub : ℕ → ℕ → List Slot) (past : List Moment) (filled many i title : ℕ) (work : Work) (slots : ℕ → Slot) (left right : List ℤ) (old new : Crossing)
    → new.overlap ≡ old.overlap
    → ((slots : List Slot) (p : ℕ) → StandsFor old slots p → StandsFor new (slots ++ map Some (inner_cells title left right)) p)
    → ((slots : List Slot) (p m : ℕ) → StandsFor old slots p → m < many → length (cross old.overlap (slots ++ map Some (take m (inner_cells title left right)))) ≤ p)
    → StateStands setting sub past filled i work (Cross old) → IsLane slots many left right → AreTitled slots many title
    → ((m : ℕ) → m < many → sub i (suc (filled + m)) ≡ sub i (filled + m) ++ slots m ∷ [])
    → StateStands setting sub past (filled + many) i work (Cross new)
state_filled setting sub past filled many i title (Plays leaf) slots left right old new same goes least s lane titled steps = absurd s
state_filled setting sub past filled many i title (Picks rule eligible) slots left right old new same goes least s lane titled steps = absurd s
state_filled setting sub past filled many i title (Mixes mixing) slots left right old new same goes least s lane titled steps = absurd s
state_filled setting sub past filled many i title (Fades overlap) slots left right old new same goes least s lane titled steps =
    run_filled slots (sub i) filled many title left right lane titled steps (position past i) overlap old new same goes least s
state_filled setting sub past filled many i title (Reads buffer) slots left right old new same goes least s lane titled steps = absurd s
