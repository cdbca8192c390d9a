-- How far a node goes on.
use Rattle.std.proofs.Common.{◌≡◌, ◌<◌, ◌≤◌, ◌+◌, ◌∙◌, ℕ, suc, None, List, ◌∷◌, length, Bool, true, false, arith, refl, ap, sym, subst, inl, inr}
use Rattle.std.specs.Prelude.{is_some, slice_get, ◌&&◌}
use Rattle.std.proofs.lemmas.Bool.{false≢true, cases_lt}
use Rattle.std.proofs.lemmas.List.{get_or_past}
use Rattle.frame_core.specs.Slots.{Slot, slot_at, title_of, is_inner}
use Rattle.op_cross.specs.Crossfade.{cross}
use Rattle.op_cross.specs.Runs.{item_of, run_of}
use Rattle.op_cross.specs.States.{AllInner, Crossing, IsCrossing, StandsFor, passes}
use Rattle.op_cross.proofs.LeastRuns.{item_of-is, run_of-is}
use Rattle.op_cross.proofs.Running.{passing}
use Rattle.op_leaf.specs.Readers.{Reader, after_cell, read_by, reader_slot}
use Rattle.op_leaf.proofs.Onward.{one_before}
use Rattle.stream_meaning.specs.Operators.{Work, Plays, Picks, Mixes, Fades, Reads}
use Rattle.op_leaf.specs.declared.leaf.Leaf.{Leaf as TheLeaf}
use Rattle.op_leaf.specs.declared.leaf.LeafState.{LeafState}
use Rattle.op_leaf.specs.Leaves.{leaf_slot}
use Rattle.op_leaf.specs.Standing.{StandsAt, leaf_of}
use Rattle.node_states.specs.declared.state.NodeState.TheVariants.{Leaf, Cross, Read}
use Rattle.stream_meaning.specs.Instants.{Setting, Moment, Reading, gives_before, demanded, gives, offer, position, reading_after, reading_at, read_on}
use Rattle.stretch_laws.specs.Stretches.{AreFilled, NodeGoes, NodeKeeps}
use Rattle.stretch_laws.proofs.Reaching.{item_more, item_titled, run_more}
use Rattle.node_states.specs.Passing.{asked}
use Rattle.node_states.specs.States.{AreLong, CrossStands, StateStands, reading_by}
use Rattle.node_states.proofs.Chunks.{reading_closed}

inner_within : (items : List Slot) (p : ℕ) → is_inner (slot_at items p) ≡ true → p < length items
inner_within items p e = elim (cases_lt p (length items)) [
  | inl low ↦ low
  | inr high ↦ absurd (false≢true (sym (ap is_inner (get_or_past items p None high)) ∙ e))
]

-- a crossfade that gave: its next items
pub cross_goes : (setting : Setting) (sub : ℕ → ℕ → List Slot) (filled i p overlap below under rest : ℕ) (state : Crossing) → AreLong sub → CrossStands (sub i) filled p overlap state
    → (passes state ≡ true → AreFilled setting sub i filled below under) → IsCrossing state → (passes state ≡ false → (j : ℕ) → j < rest → is_inner (slot_at (cross state.overlap (sub i filled)) (p + j)) ≡ true)
    → (passes state ≡ true → 0 < rest → AllInner state.cells) → (passes state ≡ true → rest ≤ below)
    → (j : ℕ) → j < rest → is_inner (item_of overlap (sub i) (p + j)) ≡ true
cross_goes setting sub filled i p overlap below under rest state long stands are is ready plain few j low =
    subst (λ most. is_inner (item_of most (sub i) (p + j)) ≡ true) stands.overlap_is (by (passes state) refl)
  where
    least : (m : ℕ) → m < filled → length (cross state.overlap (sub i m)) ≤ p
    least m less = subst (λ most. length (cross most (sub i m)) ≤ p) (sym stands.overlap_is) (stands.least m less)

    by : (through : Bool) → passes state ≡ through → is_inner (item_of state.overlap (sub i) (p + j)) ≡ true
    by true e = item_more setting sub i filled below p under state (long.each i) (are e) is stands.stands (passing state e) (plain e (omega (arith, low))) least j (let f = few e in omega (arith, f, low))
    by false e =
        let inner = ready e j low in
        ap is_inner (item_of-is state.overlap (sub i) (p + j) filled (long.each i) (inner_within (cross state.overlap (sub i filled)) (p + j) inner)
        (λ m less. let l = least m less in omega (arith, l))) ∙ inner

-- how many slots they ask for
cross_asks : (setting : Setting) (sub : ℕ → ℕ → List Slot) (filled i p overlap below under rest : ℕ) (state : Crossing) → AreLong sub → CrossStands (sub i) filled p overlap state
    → (passes state ≡ true → AreFilled setting sub i filled below under) → IsCrossing state → (passes state ≡ false → (j : ℕ) → j < rest → is_inner (slot_at (cross state.overlap (sub i filled)) (p + j)) ≡ true)
    → (passes state ≡ true → 0 < rest → AllInner state.cells) → (passes state ≡ true → rest ≤ below)
    → (j : ℕ) → j < rest → run_of overlap (sub i) (p + j) ≡ filled + asked (passes state) j
cross_asks setting sub filled i p overlap below under rest state long stands are is ready plain few j low =
    subst (λ most. run_of most (sub i) (p + j) ≡ filled + asked (passes state) j) stands.overlap_is (by (passes state) refl)
  where
    least : (m : ℕ) → m < filled → length (cross state.overlap (sub i m)) ≤ p
    least m less = subst (λ most. length (cross most (sub i m)) ≤ p) (sym stands.overlap_is) (stands.least m less)

    by : (through : Bool) → passes state ≡ through → run_of state.overlap (sub i) (p + j) ≡ filled + asked through j
    by true e = run_more setting sub i filled below p under state (long.each i) (are e) is stands.stands (passing state e) (plain e (omega (arith, low))) least j (let f = few e in omega (arith, f, low))
    by false e =
        let none : filled ≡ filled + 0 = omega arith in
        run_of-is state.overlap (sub i) (p + j) filled (long.each i) (inner_within (cross state.overlap (sub i filled)) (p + j) (ready e j low)) (λ m less. let l = least m less in omega (arith, l)) ∙ none

-- what a node that gave has gone on by
pub gave_count : (past : List Moment) (moment : Moment) (i : ℕ) → gives moment i ≡ true → gives_before (moment ∷ past) i ≡ suc (gives_before past i)
gave_count past moment i e = rw e refl

pub gave_position : (past : List Moment) (moment : Moment) (i : ℕ) → gives moment i ≡ true → position (moment ∷ past) i ≡ suc (position past i)
gave_position past moment i e = rw e refl

pub cross_rest : (setting : Setting) (sub : ℕ → ℕ → List Slot) (past : List Moment) (moment : Moment) (filled i : ℕ) (work : Work) (begins : Bool) (below under rest : ℕ) (state : Crossing)
    → AreLong sub → StateStands setting sub (moment ∷ past) filled i work (Cross state) → gives moment i ≡ true → (passes state ≡ true → AreFilled setting sub i filled below under) → IsCrossing state
    → ((slots : List Slot) (p j : ℕ) → StandsFor state slots p → passes state ≡ false → j < rest → is_inner (slot_at (cross state.overlap slots) (p + j)) ≡ true)
    → ((slots : List Slot) (p : ℕ) → StandsFor state slots p → passes state ≡ true → 0 < rest → AllInner state.cells) → (passes state ≡ true → rest ≤ below)
    → NodeGoes setting sub past moment i work begins rest
cross_rest setting sub past moment filled i (Plays leaf) begins below under rest state long stands gave are is ready plain few = absurd stands
cross_rest setting sub past moment filled i (Picks rule eligible) begins below under rest state long stands gave are is ready plain few = absurd stands
cross_rest setting sub past moment filled i (Mixes mixing) begins below under rest state long stands gave are is ready plain few = absurd stands
cross_rest setting sub past moment filled i (Reads buffer) begins below under rest state long stands gave are is ready plain few = absurd stands
cross_rest setting sub past moment filled i (Fades overlap) begins below under rest state long stands gave are is ready plain few = (
  λ some. and_right (demanded moment i) (is_some (offer moment i)) gave,
  λ g j low. ap (λ p. is_inner (item_of overlap (sub i) (p + j))) (sym (gave_position past moment i gave))
      ∙ cross_goes setting sub filled i (position (moment ∷ past) i) overlap below under rest state long stands are is
      (λ e k less. ready (sub i filled) (position (moment ∷ past) i) k stands.stands e less)
      (λ e more. plain (sub i filled) (position (moment ∷ past) i) stands.stands e more) few j low,
)
  where
    and_right : (a b : Bool) → (a && b) ≡ true → b ≡ true
    and_right true b e = e
    and_right false b e = absurd (false≢true e)

-- a crossfade that gave: what its next items ask for
pub cross_asked : (setting : Setting) (sub : ℕ → ℕ → List Slot) (past : List Moment) (moment : Moment) (filled i overlap below under rest j : ℕ) (state : Crossing)
    → AreLong sub → StateStands setting sub (moment ∷ past) filled i (Fades overlap) (Cross state) → gives moment i ≡ true → (passes state ≡ true → AreFilled setting sub i filled below under) → IsCrossing state
    → ((slots : List Slot) (p j : ℕ) → StandsFor state slots p → passes state ≡ false → j < rest → is_inner (slot_at (cross state.overlap slots) (p + j)) ≡ true)
    → ((slots : List Slot) (p : ℕ) → StandsFor state slots p → passes state ≡ true → 0 < rest → AllInner state.cells) → (passes state ≡ true → rest ≤ below)
    → j < rest → run_of overlap (sub i) (suc (position past i) + j) ≡ filled + asked (passes state) j
cross_asked setting sub past moment filled i overlap below under rest j state long stands gave are is ready plain few low =
    ap (λ p. run_of overlap (sub i) (p + j)) (sym (gave_position past moment i gave))
    ∙ cross_asks setting sub filled i (position (moment ∷ past) i) overlap below under rest state long stands are is
    (λ e k less. ready (sub i filled) (position (moment ∷ past) i) k stands.stands e less)
    (λ e more. plain (sub i filled) (position (moment ∷ past) i) stands.stands e more) few j low

-- the titles of the next items of a crossfade that gave
cross_titles : (setting : Setting) (sub : ℕ → ℕ → List Slot) (filled i p overlap below under rest title : ℕ) (state : Crossing) → AreLong sub → CrossStands (sub i) filled p overlap state
    → (passes state ≡ true → AreFilled setting sub i filled below under) → IsCrossing state
    → (passes state ≡ false → (j : ℕ) → j < rest → is_inner (slot_at (cross state.overlap (sub i filled)) (p + j)) ≡ true)
    → (passes state ≡ false → (j : ℕ) → j < rest → title_of (slot_at (cross state.overlap (sub i filled)) (p + j)) ≡ title)
    → (passes state ≡ true → 0 < rest → AllInner state.cells) → (passes state ≡ true → rest ≤ below)
    → ((j : ℕ) → passes state ≡ true → j < rest → j < length state.cells → title_of (slice_get state.cells j) ≡ title) → (passes state ≡ true → length state.cells < rest → under ≡ title)
    → (j : ℕ) → j < rest → title_of (item_of overlap (sub i) (p + j)) ≡ title
cross_titles setting sub filled i p overlap below under rest title state long stands are is ready titled plain few held over j low =
    subst (λ most. title_of (item_of most (sub i) (p + j)) ≡ title) stands.overlap_is (by (passes state) refl)
  where
    least : (m : ℕ) → m < filled → length (cross state.overlap (sub i m)) ≤ p
    least m less = subst (λ most. length (cross most (sub i m)) ≤ p) (sym stands.overlap_is) (stands.least m less)

    by : (through : Bool) → passes state ≡ through → title_of (item_of state.overlap (sub i) (p + j)) ≡ title
    by true e = item_titled setting sub i filled below p under state (long.each i) (are e) is stands.stands (passing state e) (plain e (omega (arith, low))) least title rest (few e)
        (λ k less there. held k e less there) (over e) j low
    by false e =
        ap title_of (item_of-is state.overlap (sub i) (p + j) filled (long.each i) (inner_within (cross state.overlap (sub i filled)) (p + j) (ready e j low))
        (λ m less. let l = least m less in omega (arith, l))) ∙ titled e j low

pub cross_keeps : (setting : Setting) (sub : ℕ → ℕ → List Slot) (past : List Moment) (moment : Moment) (filled i : ℕ) (work : Work) (below under rest : ℕ) (state : Crossing)
    → AreLong sub → StateStands setting sub (moment ∷ past) filled i work (Cross state) → gives moment i ≡ true → (passes state ≡ true → AreFilled setting sub i filled below under) → IsCrossing state
    → ((slots : List Slot) (p j : ℕ) → StandsFor state slots p → passes state ≡ false → j < rest → is_inner (slot_at (cross state.overlap slots) (p + j)) ≡ true)
    → ((slots : List Slot) (p j : ℕ) → StandsFor state slots p → passes state ≡ false → j < rest → title_of (slot_at (cross state.overlap slots) (p + j)) ≡ title_of (offer moment i))
    → ((slots : List Slot) (p : ℕ) → StandsFor state slots p → passes state ≡ true → 0 < rest → AllInner state.cells) → (passes state ≡ true → rest ≤ below)
    → ((j : ℕ) → passes state ≡ true → j < rest → j < length state.cells → title_of (slice_get state.cells j) ≡ title_of (offer moment i))
    → (passes state ≡ true → length state.cells < rest → under ≡ title_of (offer moment i))
    → NodeKeeps setting sub past moment i work rest
cross_keeps setting sub past moment filled i (Plays leaf) below under rest state long stands gave are is ready titled plain few held over = absurd stands
cross_keeps setting sub past moment filled i (Picks rule eligible) below under rest state long stands gave are is ready titled plain few held over = absurd stands
cross_keeps setting sub past moment filled i (Mixes mixing) below under rest state long stands gave are is ready titled plain few held over = absurd stands
cross_keeps setting sub past moment filled i (Reads buffer) below under rest state long stands gave are is ready titled plain few held over = absurd stands
cross_keeps setting sub past moment filled i (Fades overlap) below under rest state long stands gave are is ready titled plain few held over = λ g j low.
    ap (λ p. title_of (item_of overlap (sub i) (p + j))) (sym (gave_position past moment i gave))
    ∙ cross_titles setting sub filled i (position (moment ∷ past) i) overlap below under rest (title_of (offer moment i)) state long stands are is
    (λ e k less. ready (sub i filled) (position (moment ∷ past) i) k stands.stands e less)
    (λ e k less. titled (sub i filled) (position (moment ∷ past) i) k stands.stands e less)
    (λ e more. plain (sub i filled) (position (moment ∷ past) i) stands.stands e more) few held over j low

-- the titles of the next cells of a leaf that gave
pub leaf_keeps : (setting : Setting) (sub : ℕ → ℕ → List Slot) (past : List Moment) (moment : Moment) (filled i : ℕ) (work : Work) (rest : ℕ) (state : LeafState)
    → StateStands setting sub (moment ∷ past) filled i work (Leaf state) → gives moment i ≡ true
    → ((p j : ℕ) → StandsAt setting.library state p → j < rest → title_of (leaf_slot setting.library (leaf_of state) (p + j)) ≡ title_of (offer moment i))
    → NodeKeeps setting sub past moment i work rest
leaf_keeps setting sub past moment filled i (Plays leaf) rest state stands gave titled = λ g j low.
    ap (λ p. title_of (leaf_slot setting.library leaf (p + j))) (sym (gave_count past moment i gave))
    ∙ ap (λ (l : TheLeaf). title_of (leaf_slot setting.library l (gives_before (moment ∷ past) i + j))) (sym stands.plays)
    ∙ titled (gives_before (moment ∷ past) i) j stands.stands low
leaf_keeps setting sub past moment filled i (Picks rule eligible) rest state stands gave titled = absurd stands
leaf_keeps setting sub past moment filled i (Mixes mixing) rest state stands gave titled = absurd stands
leaf_keeps setting sub past moment filled i (Fades overlap) rest state stands gave titled = absurd stands
leaf_keeps setting sub past moment filled i (Reads buffer) rest state stands gave titled = absurd stands

-- the titles of the cells that a reader holds which gave
pub read_keeps : (setting : Setting) (sub : ℕ → ℕ → List Slot) (past : List Moment) (moment : Moment) (filled i : ℕ) (work : Work) (rest : ℕ) (state : Reader)
    → StateStands setting sub (moment ∷ past) filled i work (Read state) → ((buffer : ℕ) → work ≡ Reads buffer → filled ≡ suc (length past)) → gives moment i ≡ true
    → ((j : ℕ) → j < rest → title_of (reader_slot (read_by j state)) ≡ title_of (offer moment i)) → NodeKeeps setting sub past moment i work rest
read_keeps setting sub past moment filled i (Plays leaf) rest state stands settled gave titled = absurd stands
read_keeps setting sub past moment filled i (Picks rule eligible) rest state stands settled gave titled = absurd stands
read_keeps setting sub past moment filled i (Mixes mixing) rest state stands settled gave titled = absurd stands
read_keeps setting sub past moment filled i (Fades overlap) rest state stands settled gave titled = absurd stands
read_keeps setting sub past moment filled i (Reads buffer) rest state stands settled gave titled = λ g j low.
    let now : Reading = reading_at setting buffer (length past) (reading_after setting i buffer past) in
    let was : state ≡ after_cell now.reader =
    stands ∙ ap (λ (n : ℕ). (reading_by setting i buffer (moment ∷ past) n).reader) (settled buffer refl)
    ∙ ap (λ (r : Reading). r.reader) (reading_closed setting i buffer (moment ∷ past)) ∙ ap (λ (on : Bool). (read_on on now).reader) gave in
    ap (λ (r : Reader). title_of (reader_slot r)) (sym (one_before j now.reader) ∙ ap (read_by j) (sym was)) ∙ titled j low

-- a reader that gave: the cells that it holds
pub read_rest : (setting : Setting) (sub : ℕ → ℕ → List Slot) (past : List Moment) (moment : Moment) (filled i : ℕ) (work : Work) (begins : Bool) (rest : ℕ) (state : Reader)
    → StateStands setting sub (moment ∷ past) filled i work (Read state) → ((buffer : ℕ) → work ≡ Reads buffer → filled ≡ suc (length past)) → gives moment i ≡ true
    → ((j : ℕ) → j < rest → is_inner (reader_slot (read_by j state)) ≡ true) → NodeGoes setting sub past moment i work begins rest
read_rest setting sub past moment filled i (Plays leaf) begins rest state stands settled gave inner = absurd stands
read_rest setting sub past moment filled i (Picks rule eligible) begins rest state stands settled gave inner = absurd stands
read_rest setting sub past moment filled i (Mixes mixing) begins rest state stands settled gave inner = absurd stands
read_rest setting sub past moment filled i (Fades overlap) begins rest state stands settled gave inner = absurd stands
read_rest setting sub past moment filled i (Reads buffer) begins rest state stands settled gave inner = λ g j low.
    let now : Reading = reading_at setting buffer (length past) (reading_after setting i buffer past) in
    let was : state ≡ after_cell now.reader =
    stands ∙ ap (λ (n : ℕ). (reading_by setting i buffer (moment ∷ past) n).reader) (settled buffer refl)
    ∙ ap (λ (r : Reading). r.reader) (reading_closed setting i buffer (moment ∷ past)) ∙ ap (λ (on : Bool). (read_on on now).reader) gave in
    ap (λ (r : Reader). is_inner (reader_slot r)) (sym (one_before j now.reader) ∙ ap (read_by j) (sym was)) ∙ inner j low
