-- Infallible nodes offer a cell at every instant.
use Rattle.std.proofs.Common.{◌≡◌, ◌<◌, ◌∙◌, ◌%◌, ℕ, suc, Some, List, [], ◌∷◌, length, map, Bool, true, false, arith, refl, ap, sym, subst, get_or}
use Rattle.std.specs.Prelude.{⊤, IsSome}
use Rattle.std.specs.List.{list_any}
use Rattle.std.proofs.lemmas.Bool.{false≢true}
use Rattle.std.proofs.lemmas.List.Sums.{sum_by-cons}
use Rattle.std.proofs.lemmas.Nat.{mod_below}
use Rattle.liq_base.specs.declared.memory.Kind.{Kind}
use Rattle.frame_core.specs.Library.{Sounds, no_sound, sound_at, tracks_of}
use Rattle.frame_core.specs.Sounds.{Sound, length_of}
use Rattle.frame_core.specs.Slots.{Slot}
use Rattle.plan_core.specs.declared.node.Op.{Op}
use Rattle.plan_core.specs.declared.node.Op.TheVariants.{Single, Switch, Crossfade}
use Rattle.clock_infer.specs.Ties.{fades}
use Rattle.fallible_infer.specs.Infallible.{Rests, ByNothing, ByItself, OnSome, OnCases, OnLast, infallible_by, rests_of, rests_on}
use Rattle.time_pred.specs.Predicates.{Predicate}
use Rattle.op_leaf.specs.declared.leaf.Leaf.{Leaf}
use Rattle.op_leaf.specs.Leaves.{file_of, joined_slot, place_in_round, total_of}
use Rattle.op_leaf.proofs.Positions.{joined-within, sounds_in}
use Rattle.op_leaf.proofs.Cursors.{sounds-at}
use Rattle.stream_meaning.specs.Operators.{Work, Plays, Picks, Mixes, Selects, TakesTurns, Every, Where, work_of}
use Rattle.op_select.specs.declared.rule.Rule.TheVariants.{First, Turns}
use Rattle.stream_meaning.specs.Instants.{Setting, Moment, choices, second_at, position, last_pick, part_by}
use Rattle.stream_meaning.proofs.Crossed.{AreCells, item_cell}
use Rattle.stream_meaning.proofs.Choosing.{picked_some, first_picked, turn_picked, turn_some}
use Rattle.stream_meaning.proofs.Marks.{AreMarked, any_offers, last_offers, always_offers, every_marked, mixed_some}

-- a file that is repeated has a cell at each position
single_some : (library : Sounds) (files : List ℕ) (kind : Kind) (position : ℕ) → length files ≡ 1 → 0 < length_of (get_or (sounds_in library files) 0 no_sound)
    → IsSome (joined_slot library files kind (place_in_round (sounds_in library files) true position))
single_some library [] kind position one some = cc
single_some library (file ∷ []) kind position one some =
    let whole = sum_by-cons length_of (file_of library file) [] in
    let low = mod_below position (total_of (sounds_in library (file ∷ []))) (omega (arith, some, whole)) in
    subst IsSome (sym (joined-within library (file ∷ []) kind 0 (position % total_of (sounds_in library (file ∷ []))) (position % total_of (sounds_in library (file ∷ [])))
    (omega arith) (omega (arith, low, whole)) (omega arith))) refl
single_some library (file ∷ other ∷ files) kind position one some = absurd (omega (arith, one))

-- what makes a node offer, for a node of each operator
pub record Offered (setting : Setting) (sub : ℕ → ℕ → List Slot) (past : List Moment) (i : ℕ) (op : Op) (work : Work) (children : List ℕ) (mark : ℕ → Bool) (slot : ℕ → Slot) : Type 0 where
  pub marked : fades op ≡ false → AreMarked mark slot children
  pub single : (file : List ℕ) → op ≡ Single file → (length (tracks_of setting.library i) ≡ 1) × (0 < length_of (sound_at setting.library i 0))
  pub long : (m : ℕ) → length (sub i m) ≡ m
  pub crossed : (overlap : ℕ) → op ≡ Crossfade overlap → list_any mark children ≡ true → (m : ℕ) → AreCells (sub i m)
  pub turns : work ≡ Picks (Selects Turns) Every → (child : ℕ) → last_pick past i ≡ Some child → child < length (map slot children)

length_mapped : {A B : Type 0} (f : A → B) (xs : List A) → length (map f xs) ≡ length xs
length_mapped f [] = refl
length_mapped f (x ∷ xs) = ap suc (length_mapped f xs)

-- a work that offers where what it rests on does
abbrev GoesWith : Rests → Work → Type 0
GoesWith ByNothing work = ⊤
GoesWith ByItself (Plays (Leaf.Blank track)) = ⊤
GoesWith ByItself (Plays (Leaf.Square pitch rate kind)) = ⊤
GoesWith OnSome (Picks (Selects (First sensitive)) Every) = ⊤
GoesWith OnSome (Picks (TakesTurns turn) eligible) = ⊤
GoesWith OnSome (Mixes mixing) = ⊤
GoesWith (OnCases preds) (Picks (Selects (First sensitive)) (Where own)) = own ≡ preds
GoesWith OnLast (Picks (Selects Turns) Every) = ⊤
GoesWith _ _ = ⊥

module _ (setting : Setting) (sub : ℕ → ℕ → List Slot) (past : List Moment) (i : ℕ) (children : List ℕ) (mark : ℕ → Bool) (slot : ℕ → Slot) where
  abbrev IsWithin : Work → Type 0
  IsWithin work = work ≡ Picks (Selects Turns) Every → (child : ℕ) → last_pick past i ≡ Some child → child < length (map slot children)

  offers_by : (rests : Rests) (work : Work) → GoesWith rests work → AreMarked mark slot children → IsWithin work → rests_on mark rests children ≡ true
      → IsSome (part_by setting sub past i work (map slot children)).slot
  offers_by ByNothing work goes marked within so = absurd (false≢true so)
  offers_by ByItself (Plays (Leaf.Blank track)) goes marked within so = refl
  offers_by ByItself (Plays (Leaf.Square pitch rate kind)) goes marked within so = refl
  offers_by OnSome (Picks (Selects (First sensitive)) Every) goes marked within so =
      let found = any_offers mark slot children marked so in
      picked_some (map slot children) (last_pick past i) _
      (first_picked sensitive (map slot children) _ (last_pick past i) found.0 found.1 (every_marked (map slot children) found.0 found.1))
  offers_by OnSome (Picks (TakesTurns turn) eligible) goes marked within so =
      let found = any_offers mark slot children marked so in
      turn_some turn (record { last = last_pick past i; choices = choices past i }) (map slot children) found.0 found.1
  offers_by OnSome (Mixes mixing) goes marked within so = let found = any_offers mark slot children marked so in mixed_some mixing (map slot children) found.0 found.1
  offers_by (OnCases preds) (Picks (Selects (First sensitive)) (Where own)) goes marked within so =
      let found = always_offers mark slot (second_at setting (length past)) children own marked (subst (λ (preds : List Predicate). rests_on mark (OnCases preds) children ≡ true) (sym goes) so) in
      picked_some (map slot children) (last_pick past i) _ (first_picked sensitive (map slot children) _ (last_pick past i) found.0 found.1 found.2)
  offers_by OnLast (Picks (Selects Turns) Every) goes marked within so =
      let found = last_offers mark slot children marked so in
      picked_some (map slot children) (last_pick past i) _
      (turn_picked (map slot children) (last_pick past i) found.0 (within refl) (found.1 ∙ sym (length_mapped slot children)) found.2)
  offers_by _ _ goes marked within so = absurd goes

  pub op_offers : (kind : Kind) (op : Op) → Offered setting sub past i op (work_of setting.plan.rate i kind op) children mark slot → infallible_by mark op children ≡ true
      → IsSome (part_by setting sub past i (work_of setting.plan.rate i kind op) (map slot children)).slot
  op_offers kind (Single file) is so =
      let one = is.single file refl in
      single_some setting.library (tracks_of setting.library i) kind _ one.0
      (subst (λ (sound : Sound). 0 < length_of sound) (sym (sounds-at setting.library i 0 (omega (arith, one.0)))) one.1)
  op_offers kind (Switch sensitive preds) is so = offers_by (OnCases preds) (work_of setting.plan.rate i kind (Switch sensitive preds)) refl (is.marked refl) is.turns so
  op_offers kind (Crossfade overlap) is so = item_cell overlap (sub i) (position past i) is.long (is.crossed overlap refl so)
  op_offers kind op is so = offers_by (rests_of op) (work_of setting.plan.rate i kind op) tt (is.marked refl) is.turns so
