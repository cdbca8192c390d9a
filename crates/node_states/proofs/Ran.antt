-- A node behind a run: what its state stands for, and what lies in its samples.
use Rattle.std.proofs.Common.{◌≡◌, ◌<◌, ◌≤◌, ◌+◌, ◌∙◌, ℕ, ℤ, suc, Bool, true, Some, Option, List, ◌∷◌, length, map, take, drop, slice_get, arith, refl, ap, sym, subst}
use Rattle.plan_core.specs.declared.node.Node.{Node}
use Rattle.clock_infer.specs.declared.clock_map.NodeClock.{NodeClock}
use Rattle.frame_core.specs.Library.{Sounds}
use Rattle.frame_core.specs.Slots.{Slot, slot_at, slot_left, slot_right}
use Rattle.op_leaf.specs.declared.leaf.LeafState.{LeafState}
use Rattle.op_leaf.specs.Inner.{lefts_of, rights_of}
use Rattle.op_leaf.specs.Lanes.{IsLane}
use Rattle.op_leaf.specs.Leaves.{leaf_slot}
use Rattle.op_leaf.specs.Readers.{Reader, after_cell, read_by, reader_slot}
use Rattle.op_leaf.specs.Standing.{StandsAt, leaf_of}
use Rattle.op_cross.specs.Crossfade.{cross}
use Rattle.op_cross.specs.Runs.{item_of}
use Rattle.op_cross.specs.States.{Crossing, StandsFor}
use Rattle.op_cross.proofs.LeastRuns.{item_of-is}
use Rattle.op_select.specs.Selection.{Selection}
use Rattle.op_turn.specs.Turns.{Turning}
use Rattle.op_mix.specs.declared.before.Before.{Before}
use Rattle.op_mix.specs.declared.mixer.Mixer.{Mixer}
use Rattle.op_mix.specs.Mixings.{mixing_of}
use Rattle.op_mix.specs.Stretches.{AreHeard, many_give, offers_in, samples_of}
use Rattle.stream_meaning.specs.Arithmetic.{mix_slot}
use Rattle.stream_meaning.specs.Operators.{Choice, Eligible, Work, Plays, Picks, Mixes, Fades, Reads}
use Rattle.stream_meaning.specs.Instants.{Setting, Moment, Reading, choices, gives_before, last_pick, moment_after, position, read_on, reading_after, reading_at, work_at}
use Rattle.stretch_laws.specs.Stretches.{going_on, lane}
use Rattle.node_states.specs.declared.state.NodeState.TheVariants.{Leaf, Select, Turn, Mix, Cross, Read, Idle}
use Rattle.node_states.specs.Histories.{history_of}
use Rattle.node_states.specs.Stretches.{ChildrenGive, GoesOn, filled_on}
use Rattle.node_states.specs.States.{HasSelected, HasTurned, StateStands, reading_by, reads}
use Rattle.node_states.proofs.Chunks.{reading_closed}
use Rattle.node_states.proofs.Hearing.{are_heard, fade_run, given_child, heard_same, leaf_run, many_same, mix_run, pick_run, read_run, some_offer, the_child}
use Rattle.node_states.proofs.Rested.{gave_count, gave_position}
use Rattle.node_states.proofs.Running.{chosen_same, count_later, picked_same, position_later, read_stands}

module _ (setting : Setting) (sub : ℕ → ℕ → List Slot) (clock : NodeClock) (past : List Moment) (many i filled : ℕ) (node : Node) (goes : GoesOn (history_of setting sub clock past) many i node) where
  abbrev First : Moment
  First = moment_after setting sub clock past

  abbrev Past : List Moment
  Past = First ∷ past

  abbrev Later : List Moment
  Later = going_on setting sub clock (suc many) past

  abbrev Lane : ℕ → ℕ → Slot
  Lane j c = lane setting sub clock past (suc j) c

  e : 1 + many ≡ suc many
  e = omega arith

  -- ---- a leaf

  pub leaf_stands : (some : 0 < many) (library : Sounds) (old new : LeafState) → setting.library ≡ library → leaf_of new ≡ leaf_of old
      → ((p : ℕ) → StandsAt library old p → StandsAt library new (p + many)) → (work : Work) → StateStands setting sub Past filled i work (Leaf old)
      → StateStands setting sub Later (filled_on (reads work) many filled) i work (Leaf new)
  leaf_stands some library old new same leaf_is on (Plays leaf) s = record {
    plays = leaf_is ∙ s.plays;
    stands = subst (λ n. StandsAt setting.library new n) (sym on_count)
        (subst (λ l. StandsAt l new (gives_before Past i + many)) (sym same) (on (gives_before Past i) (subst (λ l. StandsAt l old (gives_before Past i)) same s.stands)));
  }
    where
      on_count : gives_before Later i ≡ gives_before Past i + many
      on_count = subst (λ n. gives_before (going_on setting sub clock n past) i ≡ gives_before Past i + many) e
          (count_later setting sub clock past (suc many) 1 many goes.nodes goes.stretch (omega arith) (omega arith) some i node goes.is goes.gave)
  leaf_stands some library old new same leaf_is on (Picks rule eligible) s = absurd s
  leaf_stands some library old new same leaf_is on (Mixes mixing) s = absurd s
  leaf_stands some library old new same leaf_is on (Fades overlap) s = absurd s
  leaf_stands some library old new same leaf_is on (Reads buffer) s = absurd s

  pub leaf_lane : (library : Sounds) (old : LeafState) (left right : List ℤ) → setting.library ≡ library
      → ((p : ℕ) → StandsAt library old p → left ≡ lefts_of (leaf_slot library (leaf_of old)) p many)
      → ((p : ℕ) → StandsAt library old p → right ≡ rights_of (leaf_slot library (leaf_of old)) p many)
      → (work : Work) → work_at setting i node ≡ work → StateStands setting sub Past filled i work (Leaf old) → IsLane (λ j. Lane j i) many left right
  leaf_lane library old left right same left_is right_is (Plays leaf) at s =
      let stands : StandsAt library old (gives_before Past i) = subst (λ l. StandsAt l old (gives_before Past i)) same s.stands in
      let gone : gives_before Past i ≡ suc (gives_before past i) = gave_count past First i goes.gave in
      leaf_run setting sub clock past many i node goes leaf at left right
      (left_is (gives_before Past i) stands ∙ ap (λ n. lefts_of (leaf_slot library (leaf_of old)) n many) gone
      ∙ ap (λ l. lefts_of (leaf_slot library l) (suc (gives_before past i)) many) s.plays ∙ ap (λ l. lefts_of (leaf_slot l leaf) (suc (gives_before past i)) many) (sym same))
      (right_is (gives_before Past i) stands ∙ ap (λ n. rights_of (leaf_slot library (leaf_of old)) n many) gone
      ∙ ap (λ l. rights_of (leaf_slot library l) (suc (gives_before past i)) many) s.plays ∙ ap (λ l. rights_of (leaf_slot l leaf) (suc (gives_before past i)) many) (sym same))
  leaf_lane library old left right same left_is right_is (Picks rule eligible) at s = absurd s
  leaf_lane library old left right same left_is right_is (Mixes mixing) at s = absurd s
  leaf_lane library old left right same left_is right_is (Fades overlap) at s = absurd s
  leaf_lane library old left right same left_is right_is (Reads buffer) at s = absurd s

  -- ---- a selection, and a node that takes turns

  same_pick : (some : 0 < many) → last_pick Later i ≡ last_pick Past i
  same_pick some = subst (λ n. last_pick (going_on setting sub clock n past) i ≡ last_pick Past i) e
      (picked_same setting sub clock past (suc many) 1 many goes.nodes goes.stretch (omega arith) (omega arith) some i node goes.is goes.gave)

  same_choices : (some : 0 < many) → choices Later i ≡ choices Past i
  same_choices some = subst (λ n. choices (going_on setting sub clock n past) i ≡ choices Past i) e
      (chosen_same setting sub clock past (suc many) 1 many goes.nodes goes.stretch (omega arith) (omega arith) some i node goes.is goes.gave)

  pub pick_stands : (some : 0 < many) (state : Selection) (work : Work) → StateStands setting sub Past filled i work (Select state)
      → StateStands setting sub Later (filled_on (reads work) many filled) i work (Select state)
  pick_stands some state (Plays leaf) s = absurd s
  pick_stands some state (Picks choice eligible) s = subst (λ last. HasSelected choice last state) (sym (same_pick some)) s
  pick_stands some state (Mixes mixing) s = absurd s
  pick_stands some state (Fades overlap) s = absurd s
  pick_stands some state (Reads buffer) s = absurd s

  pub turn_stands : (some : 0 < many) (state : Turning) (work : Work) → StateStands setting sub Past filled i work (Turn state)
      → StateStands setting sub Later (filled_on (reads work) many filled) i work (Turn state)
  turn_stands some state (Plays leaf) s = absurd s
  turn_stands some state (Picks choice eligible) s =
      subst (λ n. HasTurned choice (last_pick Later i) n state) (sym (same_choices some)) (subst (λ last. HasTurned choice last (choices Past i) state) (sym (same_pick some)) s)
  turn_stands some state (Mixes mixing) s = absurd s
  turn_stands some state (Fades overlap) s = absurd s
  turn_stands some state (Reads buffer) s = absurd s

  -- the samples of the child that was picked were laid
  module _ (pick : Option ℕ) (before : Before) (children : ChildrenGive (history_of setting sub clock past) many i node pick before) (left right : List ℤ)
      (left_is : (place child : ℕ) → pick ≡ Some place → slice_get node.children place ≡ Some child → left ≡ samples_of before.left.now child many)
      (right_is : (place child : ℕ) → pick ≡ Some place → slice_get node.children place ≡ Some child → right ≡ samples_of before.right.now child many) where
    laid : (choice : Choice) (eligible : Eligible) → work_at setting i node ≡ Picks choice eligible → IsLane (λ j. Lane j i) many left right
    laid choice eligible at =
        let one = the_child setting sub clock past many i node goes choice eligible at in
        let picks : pick ≡ Some one.place = children.used ∙ one.pick_is in
        let own = children.lanes one.child one.among one.gave in
        pick_run setting sub clock past many i node goes choice eligible at left right
        (record {
          left_is = left_is one.place one.child picks one.there ∙ own.left_is;
          right_is = right_is one.place one.child picks one.there ∙ own.right_is;
          inner = own.inner;
        })

    pub pick_lane : (state : Selection) (work : Work) → work_at setting i node ≡ work → StateStands setting sub Past filled i work (Select state) → IsLane (λ j. Lane j i) many left right
    pick_lane state (Plays leaf) at s = absurd s
    pick_lane state (Picks choice eligible) at s = laid choice eligible at
    pick_lane state (Mixes mixing) at s = absurd s
    pick_lane state (Fades overlap) at s = absurd s
    pick_lane state (Reads buffer) at s = absurd s

    pub turn_lane : (state : Turning) (work : Work) → work_at setting i node ≡ work → StateStands setting sub Past filled i work (Turn state) → IsLane (λ j. Lane j i) many left right
    turn_lane state (Plays leaf) at s = absurd s
    turn_lane state (Picks choice eligible) at s = laid choice eligible at
    turn_lane state (Mixes mixing) at s = absurd s
    turn_lane state (Fades overlap) at s = absurd s
    turn_lane state (Reads buffer) at s = absurd s

  -- ---- a mix

  pub mix_stands : (mixer : Mixer) (work : Work) → StateStands setting sub Past filled i work (Mix mixer)
      → StateStands setting sub Later (filled_on (reads work) many filled) i work (Mix mixer)
  mix_stands mixer (Plays leaf) s = absurd s
  mix_stands mixer (Picks rule eligible) s = absurd s
  mix_stands mixer (Mixes mixing) s = s
  mix_stands mixer (Fades overlap) s = absurd s
  mix_stands mixer (Reads buffer) s = absurd s

  module _ (pick : Option ℕ) (before : Before) (children : ChildrenGive (history_of setting sub clock past) many i node pick before) where
    pub mix_lane : (mixer : Mixer) (left right : List ℤ)
        → ((slots : ℕ → ℕ → Slot) → AreHeard slots (offers_in before.parts.now) (λ child. samples_of before.left.now child many) (λ child. samples_of before.right.now child many) many node.children
        → 0 < many_give (offers_in before.parts.now) node.children → IsLane (λ j. mix_slot (mixing_of mixer) (map (slots j) node.children)) many left right)
        → (work : Work) → work_at setting i node ≡ work → StateStands setting sub Past filled i work (Mix mixer) → IsLane (λ j. Lane j i) many left right
    mix_lane mixer left right made (Plays leaf) at s = absurd s
    mix_lane mixer left right made (Picks rule eligible) at s = absurd s
    mix_lane mixer left right made (Mixes mixing) at s =
        let same = given_child setting sub clock past many i node goes mixing at before.parts.now children.given in
        mix_run setting sub clock past many i node goes mixing at left right
        (subst (λ m. IsLane (λ j. mix_slot m (map (Lane j) node.children)) many left right) s
        (made Lane
        (heard_same Lane (offers_in First.parts) (offers_in before.parts.now) (λ child. samples_of before.left.now child many) (λ child. samples_of before.right.now child many) many node.children same
        (are_heard setting sub clock past many i node goes mixing at (λ child. samples_of before.left.now child many) (λ child. samples_of before.right.now child many) children.lanes))
        (subst (λ n. 0 < n) (sym (many_same (offers_in First.parts) (offers_in before.parts.now) node.children same))
        (some_offer setting sub clock past many i node goes mixing at))))
    mix_lane mixer left right made (Fades overlap) at s = absurd s
    mix_lane mixer left right made (Reads buffer) at s = absurd s

  -- ---- a crossfade

  pub cross_stands : (some : 0 < many) (old new : Crossing) → new.overlap ≡ old.overlap → ((slots : List Slot) (p : ℕ) → StandsFor old slots p → StandsFor new slots (p + many))
      → (work : Work) → StateStands setting sub Past filled i work (Cross old) → StateStands setting sub Later (filled_on (reads work) many filled) i work (Cross new)
  cross_stands some old new same on (Plays leaf) s = absurd s
  cross_stands some old new same on (Picks rule eligible) s = absurd s
  cross_stands some old new same on (Mixes mixing) s = absurd s
  cross_stands some old new same on (Fades overlap) s = record {
    overlap_is = same ∙ s.overlap_is;
    stands = subst (λ p. StandsFor new (sub i filled) p) (sym on_position) (on (sub i filled) (position Past i) s.stands);
    least = λ m less. (let l = s.least m less in let p = on_position in omega (arith, l, p));
  }
    where
      on_position : position Later i ≡ position Past i + many
      on_position = subst (λ n. position (going_on setting sub clock n past) i ≡ position Past i + many) e
          (position_later setting sub clock past (suc many) 1 many goes.nodes goes.stretch (omega arith) (omega arith) some i node goes.is goes.gave)
  cross_stands some old new same on (Reads buffer) s = absurd s

  pub cross_lane : (old : Crossing) (left right : List ℤ) → ((slots : List Slot) (p : ℕ) → StandsFor old slots p → p + many ≤ length (cross old.overlap slots))
      → ((slots : List Slot) (p : ℕ) → StandsFor old slots p → left ≡ map slot_left (take many (drop p (cross old.overlap slots))))
      → ((slots : List Slot) (p : ℕ) → StandsFor old slots p → right ≡ map slot_right (take many (drop p (cross old.overlap slots))))
      → (work : Work) → work_at setting i node ≡ work → StateStands setting sub Past filled i work (Cross old) → IsLane (λ j. Lane j i) many left right
  cross_lane old left right settled left_is right_is (Plays leaf) at s = absurd s
  cross_lane old left right settled left_is right_is (Picks rule eligible) at s = absurd s
  cross_lane old left right settled left_is right_is (Mixes mixing) at s = absurd s
  cross_lane old left right settled left_is right_is (Fades overlap) at s =
      let gone : position Past i ≡ suc (position past i) = gave_position past First i goes.gave in
      let stands : StandsFor old (sub i filled) (suc (position past i)) = subst (λ p. StandsFor old (sub i filled) p) gone s.stands in
      let there : suc (position past i) + many ≤ length (cross old.overlap (sub i filled)) = settled (sub i filled) (suc (position past i)) stands in
      fade_run setting sub clock past many i node goes overlap at left right (cross old.overlap (sub i filled))
      (λ j less. subst (λ most. item_of most (sub i) (suc (position past i) + j) ≡ slot_at (cross old.overlap (sub i filled)) (suc (position past i) + j)) s.overlap_is
      (item_of-is old.overlap (sub i) (suc (position past i) + j) filled (goes.long.each i) (omega (arith, there, less))
      (λ m low. let l : length (cross old.overlap (sub i m)) ≤ position Past i = subst (λ most. length (cross most (sub i m)) ≤ position Past i) (sym s.overlap_is) (s.least m low) in omega (arith, l, gone))))
      there (left_is (sub i filled) (suc (position past i)) stands) (right_is (sub i filled) (suc (position past i)) stands)
  cross_lane old left right settled left_is right_is (Reads buffer) at s = absurd s

  -- ---- a reader

  -- what it holds behind the instant before the run
  holds : (reader : Reader) (buffer : ℕ) → filled ≡ suc (length past) → StateStands setting sub Past filled i (Reads buffer) (Read reader)
      → reader ≡ after_cell (reading_at setting buffer (length past) (reading_after setting i buffer past)).reader
  holds reader buffer closed s =
      let now : Reading = reading_at setting buffer (length past) (reading_after setting i buffer past) in
      s ∙ ap (λ (n : ℕ). (reading_by setting i buffer Past n).reader) closed
      ∙ ap (λ (r : Reading). r.reader) (reading_closed setting i buffer Past) ∙ ap (λ (on : Bool). (read_on on now).reader) goes.gave

  pub reader_stands : (some : 0 < many) (old new : Reader) → new ≡ read_by many old → (work : Work) → work_at setting i node ≡ work → (reads work ≡ true → filled ≡ suc (length past))
      → StateStands setting sub Past filled i work (Read old) → StateStands setting sub Later (filled_on (reads work) many filled) i work (Read new)
  reader_stands some old new on (Plays leaf) at closed s = absurd s
  reader_stands some old new on (Picks rule eligible) at closed s = absurd s
  reader_stands some old new on (Mixes mixing) at closed s = absurd s
  reader_stands some old new on (Fades overlap) at closed s = absurd s
  reader_stands some old new on (Reads buffer) at closed s =
      subst (λ n. StateStands setting sub (going_on setting sub clock n past) (filled + many) i (Reads buffer) (Read new)) e
      (read_stands setting sub clock past (suc many) 1 many goes.nodes goes.stretch (omega arith) (omega arith) some i node goes.is filled buffer old new at goes.gave (closed refl) on s)

  pub reader_lane : (old : Reader) (left right : List ℤ) → IsLane (λ j. reader_slot (read_by j old)) many left right → (work : Work) → work_at setting i node ≡ work
      → (reads work ≡ true → filled ≡ suc (length past)) → StateStands setting sub Past filled i work (Read old) → IsLane (λ j. Lane j i) many left right
  reader_lane old left right made (Plays leaf) at closed s = absurd s
  reader_lane old left right made (Picks rule eligible) at closed s = absurd s
  reader_lane old left right made (Mixes mixing) at closed s = absurd s
  reader_lane old left right made (Fades overlap) at closed s = absurd s
  reader_lane old left right made (Reads buffer) at closed s =
      read_run setting sub clock past many i node goes buffer at left right old (holds old buffer (closed refl) s) made

  -- ---- an idle state stands for no past

  pub none_idle : (work : Work) → StateStands setting sub Past filled i work Idle → ⊥
  none_idle (Plays leaf) s = s
  none_idle (Picks rule eligible) s = s
  none_idle (Mixes mixing) s = s
  none_idle (Fades overlap) s = s
  none_idle (Reads buffer) s = s
