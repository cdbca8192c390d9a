-- What states stand for behind a run of instants.
use Rattle.std.proofs.Common.{◌≡◌, ◌<◌, ◌≤◌, ◌+◌, ◌-◌, ◌∙◌, ◌++◌, ℕ, zero, suc, Some, List, [], length, map, take, true, false, arith, refl, ap, sym, subst, inl, inr}
use Rattle.std.specs.Prelude.{is_some, not}
use Rattle.std.proofs.lemmas.Bool.{cases_lt}
use Rattle.std.proofs.lemmas.List.{append-nil, take_all}
use Rattle.plan_core.specs.declared.node.Node.{Node}
use Rattle.plan_core.specs.Plans.{AreNodes}
use Rattle.clock_infer.specs.declared.clock_map.NodeClock.{NodeClock}
use Rattle.frame_core.specs.declared.cell.Cell.{Cell}
use Rattle.frame_core.specs.Slots.{Slot}
use Rattle.op_cross.specs.Crossfade.{cross}
use Rattle.op_cross.specs.Runs.{run_of}
use Rattle.op_cross.specs.States.{Crossing, StandsFor}
use Rattle.stream_meaning.specs.Operators.{Work, Plays, Picks, Mixes, Fades, Reads}
use Rattle.op_leaf.specs.Readers.{Reader, after_cell, read_by}
use Rattle.stream_meaning.specs.Instants.{Setting, Moment, Reading, choices, gives_before, gives, last_pick, moment_after, offer, position, reading_after, reading_at, work_at}
use Rattle.stream_meaning.specs.Calls.{ran_by}
use Rattle.stretch_laws.specs.Stretches.{AreFilled, IsNode, IsOn, IsStretch, going_on}
use Rattle.stretch_laws.proofs.Stretching.{on_all}
use Rattle.node_states.specs.declared.state.NodeState.{NodeState}
use Rattle.node_states.specs.declared.state.NodeState.TheVariants.{Leaf, Select, Turn, Mix, Cross, Read}
use Rattle.node_states.specs.States.{AreLong, CrossStands, HasSelected, HasTurned, LeafStands, StateStands, reading_by, reads}
use Rattle.node_states.specs.Stretches.{filled_on}
use Rattle.node_states.proofs.Chunks.{reading_closed}

-- two pasts are the same to a node of this work
abbrev pub SamePast : Setting → Work → ℕ → List Moment → List Moment → Type 0
SamePast setting (Plays leaf) i past later = gives_before later i ≡ gives_before past i
SamePast setting (Picks choice eligible) i past later = (last_pick later i ≡ last_pick past i) × (choices later i ≡ choices past i)
SamePast setting (Mixes mixing) i past later = Unit {0}
SamePast setting (Fades overlap) i past later = position later i ≡ position past i
SamePast setting (Reads buffer) i past later = (reading_after setting i buffer later).reader ≡ (reading_after setting i buffer past).reader

-- a reader that has begun each instant of its past holds what they left
closed_reader : (setting : Setting) (i buffer : ℕ) (past : List Moment) (filled : ℕ) → filled ≡ length past → (reading_by setting i buffer past filled).reader ≡ (reading_after setting i buffer past).reader
closed_reader setting i buffer past filled closed =
    ap (λ (n : ℕ). (reading_by setting i buffer past n).reader) closed ∙ ap (λ (r : Reading). r.reader) (reading_closed setting i buffer past)

pub stands_same : (setting : Setting) (sub : ℕ → ℕ → List Slot) (past later : List Moment) (many filled i : ℕ) (work : Work) (state : NodeState) → SamePast setting work i past later
    → length later ≡ length past + many → (reads work ≡ true → filled ≡ length past)
    → StateStands setting sub past filled i work state → StateStands setting sub later (filled_on (reads work) many filled) i work state
stands_same setting sub past later many filled i (Plays leaf) (Leaf state) same long closed s = subst (λ n. LeafStands setting.library leaf n state) (sym same) s
stands_same setting sub past later many filled i (Picks choice eligible) (Select state) same long closed s = subst (λ last. HasSelected choice last state) (sym same.0) s
stands_same setting sub past later many filled i (Picks choice eligible) (Turn state) same long closed s =
    subst (λ n. HasTurned choice (last_pick later i) n state) (sym same.1) (subst (λ last. HasTurned choice last (choices past i) state) (sym same.0) s)
stands_same setting sub past later many filled i (Mixes mixing) (Mix mixer) same long closed s = s
stands_same setting sub past later many filled i (Fades overlap) (Cross state) same long closed s = subst (λ p. CrossStands (sub i) filled p overlap state) (sym same) s
stands_same setting sub past later many filled i (Reads buffer) (Read reader) same long closed s =
    let now = closed refl in
    s ∙ closed_reader setting i buffer past filled now ∙ sym same ∙ sym (closed_reader setting i buffer later (filled + many) (omega (arith, now, long)))
stands_same setting sub past later many filled i work state same long closed s = absurd s

-- no slot more is filled
pub filled_none : (setting : Setting) (sub : ℕ → ℕ → List Slot) (k n title : ℕ) → AreFilled setting sub k n 0 title
filled_none setting sub k n title = record { cells = []; inner = tt; titled = λ m d low. absurd (omega (arith, low)); long = refl; filled = λ m few. none m few }
  where
    none : (m : ℕ) → m ≤ 0 → sub k (n + m) ≡ sub k n ++ map Some (take m [])
    none zero few = let e : n + 0 ≡ n = omega arith in ap (sub k) e ∙ sym (append-nil (sub k n))
    none (suc m) few = absurd (omega (arith, few))

-- so many cells more of a reader
pub read_more : (m n : ℕ) (reader : Reader) → read_by (m + n) reader ≡ read_by n (read_by m reader)
read_more m zero reader = let e : m + 0 ≡ m = omega arith in ap (λ k. read_by k reader) e
read_more m (suc n) reader = let e : m + suc n ≡ suc (m + n) = omega arith in ap (λ k. read_by k reader) e ∙ ap after_cell (read_more m n reader)

module _ (setting : Setting) (sub : ℕ → ℕ → List Slot) (clock : NodeClock) (past : List Moment) (instants m many : ℕ) (nodes : AreNodes setting.plan.nodes)
    (stretch : IsStretch setting sub clock past instants) (begun : 0 < m) (within : m + many ≤ instants) (some : 0 < many) (i : ℕ) (node : Node) (is : IsNode setting clock i node) where
  abbrev First : Moment
  First = moment_after setting sub clock past

  abbrev Past : List Moment
  Past = going_on setting sub clock m past

  abbrev Later : List Moment
  Later = going_on setting sub clock (m + many) past

  on_now : IsOn setting sub clock past m Past
  on_now = on_all setting sub clock past instants nodes stretch m (omega (arith, within))

  on_later : IsOn setting sub clock past (m + many) Later
  on_later = on_all setting sub clock past instants nodes stretch (m + many) within

  later_long : length Later ≡ length Past + many
  later_long = let a = on_now.long in let b = on_later.long in omega (arith, a, b)

  same_by : (work : Work) → work_at setting i node ≡ work → gives First i ≡ false → SamePast setting work i Past Later
  same_by (Plays leaf) at not = on_later.kept i not ∙ sym (on_now.kept i not)
  same_by (Picks choice eligible) at not = (on_later.stayed i not ∙ sym (on_now.stayed i not), on_later.unchosen i not ∙ sym (on_now.unchosen i not))
  same_by (Mixes mixing) at not = tt
  same_by (Fades overlap) at not =
      let there = stretch.items i node overlap 1 is at (omega arith) (omega (arith, begun, within, some)) in
      on_later.held i not there ∙ sym (on_now.held i not there)
  same_by (Reads buffer) at not = on_later.unread i node buffer is at (omega (arith, begun)) not ∙ sym (on_now.unread i node buffer is at begun not)

  -- a node that does not give keeps its state
  pub kept_stands : (filled : ℕ) (state : NodeState) → gives First i ≡ false → (reads (work_at setting i node) ≡ true → filled ≡ length Past)
      → StateStands setting sub Past filled i (work_at setting i node) state
      → StateStands setting sub Later (filled_on (reads (work_at setting i node)) many filled) i (work_at setting i node) state
  kept_stands filled state not closed s =
      stands_same setting sub Past Later many filled i (work_at setting i node) state (same_by (work_at setting i node) refl not) later_long closed s

  -- a reader that gives holds as many cells less
  pub read_stands : (filled buffer : ℕ) (old new : Reader) → work_at setting i node ≡ Reads buffer → gives First i ≡ true → filled ≡ length Past → new ≡ read_by many old
      → StateStands setting sub Past filled i (Reads buffer) (Read old) → StateStands setting sub Later (filled + many) i (Reads buffer) (Read new)
  read_stands filled buffer old new at gave closed goes s =
      let R : Reader = (reading_at setting buffer (length past) (reading_after setting i buffer past)).reader in
      let was : old ≡ read_by m R = s ∙ closed_reader setting i buffer Past filled closed ∙ on_now.read i node buffer is at begun gave in
      let long = later_long in
      goes ∙ ap (read_by many) was ∙ sym (read_more m many R) ∙ sym (on_later.read i node buffer is at (omega (arith, begun)) gave)
      ∙ sym (closed_reader setting i buffer Later (filled + many) (omega (arith, closed, long)))

  -- so do a selection and a mix that give
  pub picked_same : gives First i ≡ true → last_pick Later i ≡ last_pick Past i
  picked_same gave = on_later.picked i gave (omega (arith, begun)) ∙ sym (on_now.picked i gave begun)

  -- a node that takes turns and gives has made its choice at the first of these instants
  pub chosen_same : gives First i ≡ true → choices Later i ≡ choices Past i
  chosen_same gave = on_later.chosen i gave (omega (arith, begun)) ∙ sym (on_now.chosen i gave begun)

  -- and the others have gone on by as many cells or items
  pub count_later : gives First i ≡ true → gives_before Later i ≡ gives_before Past i + many
  count_later gave = let a = on_later.given i gave in let b = on_now.given i gave in omega (arith, a, b)

  pub position_later : gives First i ≡ true → position Later i ≡ position Past i + many
  position_later gave = let a = on_later.passed i gave in let b = on_now.passed i gave in omega (arith, a, b)

  position_kept : gives First i ≡ false → is_some (offer First i) ≡ true → position (going_on setting sub clock (m + many - 1) past) i ≡ position past i
  position_kept not there = (on_all setting sub clock past instants nodes stretch (m + many - 1) (omega (arith, within))).held i not there

  position_first : gives First i ≡ false → is_some (offer First i) ≡ true → position (going_on setting sub clock (m - 1) past) i ≡ position past i
  position_first not there = (on_all setting sub clock past instants nodes stretch (m - 1) (omega (arith, within))).held i not there

  -- how many instants of the sub-clock the crossfade has asked for, by its last instant
  ran_at : (n overlap : ℕ) → 0 < n → ran_by sub i overlap (going_on setting sub clock n past) ≡ run_of overlap (sub i) (position (going_on setting sub clock (n - 1) past) i)
  ran_at zero overlap more = absurd (omega (arith, more))
  ran_at (suc n) overlap more = let e : suc n - 1 ≡ n = omega arith in ap (λ k. run_of overlap (sub i) (position (going_on setting sub clock k past) i)) (sym e)

  -- a crossfade that does not give asks for no more
  pub needed_kept : (overlap : ℕ) → work_at setting i node ≡ Fades overlap → gives First i ≡ false → ran_by sub i overlap Later ≡ ran_by sub i overlap Past
  needed_kept overlap at not =
      let there = stretch.items i node overlap 1 is at (omega arith) (omega (arith, begun, within, some)) in
      ran_at (m + many) overlap (omega (arith, begun)) ∙ ap (run_of overlap (sub i)) (position_kept not there ∙ sym (position_first not there)) ∙ sym (ran_at m overlap begun)

  module _ (filled overlap : ℕ) (state : Crossing) (long : AreLong sub) (stands : CrossStands (sub i) filled (position Past i) overlap state) where
    -- and the state behind `pass`
    pub passed_stands : (new : Crossing) (cells : List Cell) → gives First i ≡ true → new.overlap ≡ state.overlap → length cells ≡ many
        → ((k : ℕ) → k ≤ many → sub i (filled + k) ≡ sub i filled ++ map Some (take k cells))
        → ((slots : List Slot) (p : ℕ) → StandsFor state slots p → StandsFor new (slots ++ map Some cells) (p + many))
        → ((slots : List Slot) (p k : ℕ) → StandsFor state slots p → k ≤ many → length (cross state.overlap (slots ++ map Some (take k cells))) ≡ p + k)
        → CrossStands (sub i) (filled + many) (position Later i) overlap new
    passed_stands new cells gave same many_cells filled_cells goes least = record {
      overlap_is = same ∙ stands.overlap_is;
      stands = subst (λ p. StandsFor new (sub i (filled + many)) p) (sym (position_later gave))
          (subst (λ slots. StandsFor new slots (position Past i + many))
          (sym (filled_cells many (omega arith) ∙ ap (λ l. sub i filled ++ map Some l) (take_all many cells (omega (arith, many_cells)))))
          (goes (sub i filled) (position Past i) stands.stands));
      least = λ k less. elim (cases_lt k filled) [
        | inl low ↦ (let l = stands.least k low in let p = position_later gave in omega (arith, l, p))
        | inr high ↦ (let e : filled + (k - filled) ≡ k = omega (arith, high) in
            let few : k - filled ≤ many = omega (arith, high, less) in
            let gives_before : length (cross overlap (sub i k)) ≡ position Past i + (k - filled) =
            ap (λ n. length (cross overlap (sub i n))) (sym e) ∙ ap (λ slots. length (cross overlap slots)) (filled_cells (k - filled) few)
            ∙ ap (λ most. length (cross most (sub i filled ++ map Some (take (k - filled) cells)))) (sym stands.overlap_is)
            ∙ least (sub i filled) (position Past i) (k - filled) stands.stands few in
            let p = position_later gave in omega (arith, gives_before, p, few))
      ];
    }
