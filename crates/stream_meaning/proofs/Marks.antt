-- What the marks of children say of their slots.
use Rattle.std.proofs.Common.{◌≡◌, ◌<◌, ◌-◌, ℕ, zero, suc, Some, None, List, [], ◌∷◌, length, map, slice_get, Bool, true, false, arith, refl}
use Rattle.std.specs.Prelude.{IsSome, ⊤, slice_index_or, ◌&&◌, ◌||◌, replicate}
use Rattle.std.specs.List.{list_any, zip}
use Rattle.std.specs.Option.{option_map_or}
use Rattle.std.proofs.lemmas.Bool.{false≢true}
use Rattle.time_pred.specs.Predicates.{Predicate, holds, is_always}
use Rattle.time_pred.proofs.Forms.{always_holds}
use Rattle.fallible_infer.specs.Infallible.{last_of}
use Rattle.frame_core.specs.declared.cell.Cell.{Cell}
use Rattle.frame_core.specs.Slots.{Slot, slot_at}
use Rattle.stream_meaning.specs.Arithmetic.{Mixing, Adds, Scales, Halves, Doubles, Passes, cells_of, summed_slot, changed_slot, mix_slot}

-- each child with a mark has a cell
abbrev pub AreMarked : (mark : ℕ → Bool) (slot : ℕ → Slot) → List ℕ → Type 0
AreMarked mark slot [] = ⊤
AreMarked mark slot (child ∷ children) = (mark child ≡ true → IsSome (slot child)) × AreMarked mark slot children

-- the child at a place offers
abbrev pub Offers : (slot : ℕ → Slot) → List ℕ → Type 0
Offers slot children = (j : ℕ) × IsSome (slot_at (map slot children) j)

any_by : (mark : ℕ → Bool) (slot : ℕ → Slot) (child : ℕ) (children : List ℕ) (now : Bool) → mark child ≡ now → (mark child ≡ true → IsSome (slot child))
    → (list_any mark children ≡ true → Offers slot children) → (now || list_any mark children) ≡ true → Offers slot (child ∷ children)
any_by mark slot child children true is has more any = (0, has is)
any_by mark slot child children false is has more any = let found = more any in (suc found.0, found.1)

pub any_offers : (mark : ℕ → Bool) (slot : ℕ → Slot) (children : List ℕ) → AreMarked mark slot children → list_any mark children ≡ true → Offers slot children
any_offers mark slot [] marked any = absurd (false≢true any)
any_offers mark slot (child ∷ children) (has, marked) any = any_by mark slot child children (mark child) refl has (any_offers mark slot children marked) any

-- a marked child at a place
at_offers : (mark : ℕ → Bool) (slot : ℕ → Slot) (children : List ℕ) (j : ℕ) → AreMarked mark slot children → option_map_or mark (slice_get children j) false ≡ true
    → (j < length children) × IsSome (slot_at (map slot children) j)
at_offers mark slot [] j marked is = absurd (false≢true is)
at_offers mark slot (child ∷ children) zero (has, marked) is = (omega arith, has is)
at_offers mark slot (child ∷ children) (suc j) (has, marked) is = let found = at_offers mark slot children j marked is in let low = found.0 in (omega (arith, low), found.1)

pub last_offers : (mark : ℕ → Bool) (slot : ℕ → Slot) (children : List ℕ) → AreMarked mark slot children → option_map_or mark (last_of children) false ≡ true
    → (j : ℕ) × (suc j ≡ length children) × IsSome (slot_at (map slot children) j)
last_offers mark slot children marked is =
    let found = at_offers mark slot children (length children - 1) marked is in
    let low = found.0 in (length children - 1, omega (arith, low), found.1)

always_by : (mark : ℕ → Bool) (slot : ℕ → Slot) (second child : ℕ) (children : List ℕ) (pred : Predicate) (preds : List Predicate) (always now : Bool) → is_always pred ≡ always → mark child ≡ now
    → (mark child ≡ true → IsSome (slot child))
    → (list_any (λ pair. is_always pair.0 && mark pair.1) (zip preds children) ≡ true
    → (j : ℕ) × IsSome (slot_at (map slot children) j) × (slice_index_or (map (λ pred. holds pred second) preds) j false ≡ true))
    → ((always && now) || list_any (λ pair. is_always pair.0 && mark pair.1) (zip preds children)) ≡ true
    → (j : ℕ) × IsSome (slot_at (map slot (child ∷ children)) j) × (slice_index_or (map (λ pred. holds pred second) (pred ∷ preds)) j false ≡ true)
always_by mark slot second child children pred preds true true form is has more some = (0, has is, always_holds pred second form)
always_by mark slot second child children pred preds true false form is has more some = let found = more some in (suc found.0, found.1, found.2)
always_by mark slot second child children pred preds false now form is has more some = let found = more some in (suc found.0, found.1, found.2)

pub always_offers : (mark : ℕ → Bool) (slot : ℕ → Slot) (second : ℕ) (children : List ℕ) (preds : List Predicate) → AreMarked mark slot children
    → list_any (λ pair. is_always pair.0 && mark pair.1) (zip preds children) ≡ true
    → (j : ℕ) × IsSome (slot_at (map slot children) j) × (slice_index_or (map (λ pred. holds pred second) preds) j false ≡ true)
always_offers mark slot second children [] marked some = absurd (false≢true some)
always_offers mark slot second [] (pred ∷ preds) marked some = absurd (false≢true some)
always_offers mark slot second (child ∷ children) (pred ∷ preds) (has, marked) some =
    always_by mark slot second child children pred preds (is_always pred) (mark child) refl refl has (always_offers mark slot second children preds marked) some

pub every_marked : (slots : List Slot) (j : ℕ) → IsSome (slot_at slots j) → slice_index_or (replicate (length slots) true) j false ≡ true
every_marked [] j is = absurd (false≢true is)
every_marked (slot ∷ slots) zero is = refl
every_marked (slot ∷ slots) (suc j) is = every_marked slots j is

-- some cell among the slots
abbrev pub HasCell : List Cell → Type 0
HasCell [] = ⊥
HasCell (cell ∷ cells) = ⊤

pub cells_there : (slots : List Slot) (j : ℕ) → IsSome (slot_at slots j) → HasCell (cells_of slots)
cells_there [] j is = absurd (false≢true is)
cells_there (Some cell ∷ slots) j is = tt
cells_there (None ∷ slots) zero is = absurd (false≢true is)
cells_there (None ∷ slots) (suc j) is = cells_there slots j is

summed_some : (normalize : Bool) (cells : List Cell) → HasCell cells → IsSome (summed_slot normalize cells)
summed_some normalize [] has = absurd has
summed_some normalize (cell ∷ cells) has = refl

changed_some : (mixing : Mixing) (cells : List Cell) → HasCell cells → IsSome (changed_slot mixing cells)
changed_some mixing [] has = absurd has
changed_some mixing (cell ∷ cells) has = refl

pub mixed_some : (mixing : Mixing) (slots : List Slot) (j : ℕ) → IsSome (slot_at slots j) → IsSome (mix_slot mixing slots)
mixed_some (Adds normalize) slots j is = summed_some normalize (cells_of slots) (cells_there slots j is)
mixed_some (Scales factor) slots j is = changed_some (Scales factor) (cells_of slots) (cells_there slots j is)
mixed_some Halves slots j is = changed_some Halves (cells_of slots) (cells_there slots j is)
mixed_some Doubles slots j is = changed_some Doubles (cells_of slots) (cells_there slots j is)
mixed_some Passes slots j is = changed_some Passes (cells_of slots) (cells_there slots j is)
