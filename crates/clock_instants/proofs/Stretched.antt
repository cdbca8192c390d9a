-- How far a node goes on, and with it its clock.
use Rattle.std.proofs.Common.{◌≡◌, ◌<◌, ◌≤◌, ◌+◌, ◌-◌, ◌/◌, ◌%◌, ◌∙◌, ℕ, nat_eq, suc, Bool, true, false, Option, Some, None, List, [], ◌∷◌, length, cond, arith, refl, ap, sym, subst, inl, inr}
use Rattle.std.specs.Prelude.{is_some, ◌&&◌}
use Rattle.std.proofs.lemmas.Bool.{false≢true, true≢false, cases_lt}
use Rattle.std.proofs.lemmas.Option.{slice_get_within}
use Rattle.plan_core.specs.declared.node.Node.{Node}
use Rattle.plan_core.specs.Plans.{AreNodes}
use Rattle.plan_core.proofs.Paths.{child_below}
use Rattle.clock_infer.specs.declared.clock_map.NodeClock.{NodeClock}
use Rattle.frame_core.specs.Slots.{Slot, slot_at, is_first, title_of, is_inner}
use Rattle.op_cross.specs.Runs.{item_of}
use Rattle.op_leaf.specs.Leaves.{leaf_slot}
use Rattle.op_leaf.specs.Readers.{read_by, reader_slot}
use Rattle.op_select.specs.declared.rule.Rule.{Rule}
use Rattle.op_select.specs.Selection.{pick_of, picked}
use Rattle.stream_meaning.specs.declared.part.Part.{Part}
use Rattle.stream_meaning.specs.Operators.{Work, Choice, Selects, TakesTurns, Eligible, Plays, Picks, Mixes, Fades, Reads, marks_at}
use Rattle.stream_meaning.specs.Instants.{Setting, Moment, gives_before, demanded, gives, last_pick, moment_after, offer, part_at, part_by, parts_upto, picked_part, position, reading_after, reading_at, second_at, slots_at, work_at}
use Rattle.stretch_laws.specs.Steady.{IsFree}
use Rattle.stretch_laws.specs.Stretches.{IsNode, IsStretch, KeepsTitle, NodeGoes, NodeKeeps}
use Rattle.stretch_laws.proofs.Parts.{own_part, part_stays}
use Rattle.stretch_laws.proofs.Following.{AreBelow, below_from}
use Rattle.node_states.specs.declared.time.WeekTime.{WeekTime}
use Rattle.clock_nodes.specs.Nodes.{IsFirst}
use Rattle.clock_instants.specs.Resting.{IsSameTick, NodeStretches, begins_at}
use Rattle.clock_nodes.proofs.Places.{same_or_other}

pick_some : (slots : List Slot) (last pick : Option ℕ) → is_some (picked_part (picked slots last pick)).slot ≡ true → is_some pick ≡ true
pick_some slots last None e = absurd (false≢true e)
pick_some slots last (Some child) e = refl

not_given : (demand some : Bool) → some ≡ false → (demand && some) ≡ false
not_given true some e = e
not_given false some e = refl

stays : {A : Type 0} (gave : Bool) (a b : A) → gave ≡ false → cond gave a b ≡ b
stays true a b e = absurd (true≢false e)
stays false a b e = refl

slots_same : (before after : List Part) (i : ℕ) (children : List ℕ) → AreBelow i children → ((c : ℕ) → c < i → part_at before c ≡ part_at after c)
    → slots_at before children ≡ slots_at after children
slots_same before after i [] below same = refl
slots_same before after i (c ∷ children) (here, below) same =
    ap (λ (p : Part). p.slot ∷ slots_at before children) (same c here)
    ∙ ap (λ rest. (part_at after c).slot ∷ rest) (slots_same before after i children below same)

module _ (setting : Setting) (sub : ℕ → ℕ → List Slot) (clock : NodeClock) (past : List Moment) (i : ℕ) (node : Node) (nodes : AreNodes setting.plan.nodes) (is : IsNode setting clock i node)
    (begins : Bool) (last : Option ℕ) (rest more tick : ℕ) (few : rest ≤ more) (goes : NodeGoes setting sub past (moment_after setting sub clock past) i (work_at setting i node) begins more)
    (keeps : NodeKeeps setting sub past (moment_after setting sub clock past) i (work_at setting i node) more)
    (steady : (choice : Choice) (eligible : Eligible) (j children : ℕ) → work_at setting i node ≡ Picks choice eligible → j ≤ rest
    → marks_at eligible (second_at setting (length past + j)) children ≡ marks_at eligible (second_at setting (length past)) children)
    (begun : begins ≡ begins_at (moment_after setting sub clock past).parts node.children last)
    (last_is : (rule : Rule) (eligible : Eligible) → work_at setting i node ≡ Picks (Selects rule) eligible → last ≡ last_pick (moment_after setting sub clock past ∷ past) i)
    (border : (buffer : ℕ) → work_at setting i node ≡ Reads buffer → rest ≤ tick)
    (within : IsSameTick setting (length past) tick) where
  abbrev First : Moment
  First = moment_after setting sub clock past

  abbrev Slots : List Slot
  Slots = slots_at (parts_upto setting sub clock past i) node.children

  low : i < length setting.plan.nodes
  low = slice_get_within setting.plan.nodes i node is.there

  goes_at : (work : Work) → work_at setting i node ≡ work → NodeGoes setting sub past First i work begins more
  goes_at work at = subst (λ w. NodeGoes setting sub past First i w begins more) at goes

  from_one : (n j : ℕ) → 0 < j → suc n + (j - 1) ≡ n + j
  from_one n j some = omega (arith, some)

  slots_all : slots_at First.parts node.children ≡ Slots
  slots_all = slots_same First.parts (parts_upto setting sub clock past i) i node.children
      (below_from i node.children (λ child among. child_below setting.plan.nodes i child node nodes is.there among))
      (λ c under. part_stays setting sub clock past (length setting.plan.nodes) i c (let l = low in omega (arith, l, under)) under)

  free_by : (choice : Choice) (eligible : Eligible) → work_at setting i node ≡ Picks choice eligible → 0 < rest → (used : Option ℕ) → last_pick past i ≡ used
      → IsFree choice Slots (marks_at eligible (second_at setting (length past)) (length Slots)) used
  free_by (TakesTurns turn) eligible at some used e = tt
  free_by (Selects rule) eligible at some None e = tt
  free_by (Selects rule) eligible at some (Some child) e = λ first. by_offer first (is_some (offer First i)) refl
    where
      by_offer : is_first (slot_at Slots child) ≡ true → (present : Bool) → is_some (offer First i) ≡ present
          → is_some (pick_of rule Slots (marks_at eligible (second_at setting (length past)) (length Slots)) (Some child)) ≡ true
      by_offer first true p =
          let part : part_at First.parts i ≡ part_by setting sub past i (Picks (Selects rule) eligible) Slots =
          own_part setting sub clock past (length setting.plan.nodes) i node low is ∙ ap (λ w. part_by setting sub past i w Slots) at in
          ap (λ l. is_some (pick_of rule Slots (marks_at eligible (second_at setting (length past)) (length Slots)) l)) (sym e)
          ∙ pick_some Slots (last_pick past i) (pick_of rule Slots (marks_at eligible (second_at setting (length past)) (length Slots)) (last_pick past i))
          (ap (λ (q : Part). is_some q.slot) (sym part) ∙ p)
      by_offer first false p =
          let none : begins ≡ false = goes_at (Picks (Selects rule) eligible) at (omega (arith, some, few)) p in
          let used : last ≡ Some child = last_is rule eligible at ∙ stays (gives First i) (part_at First.parts i).pick (last_pick past i) (not_given (demanded First i) (is_some (offer First i)) p) ∙ e in
          let clash : begins ≡ true = begun ∙ ap (begins_at First.parts node.children) used ∙ ap (λ slots. is_first (slot_at slots child)) slots_all ∙ first in
          absurd (false≢true (sym none ∙ clash))

  to_one : (j : ℕ) → 0 < j → suc (j - 1) ≡ j
  to_one j some = omega (arith, some)

  keeps_at : (work : Work) → work_at setting i node ≡ work → NodeKeeps setting sub past First i work more
  keeps_at work at = subst (λ w. NodeKeeps setting sub past First i w more) at keeps

  titles_by : (work : Work) → work_at setting i node ≡ work → (j : ℕ) → 0 < j → j ≤ rest → gives First i ≡ true → KeepsTitle setting sub past i work j (title_of (offer First i))
  titles_by (Plays leaf) at j some low g = ap (λ n. title_of (leaf_slot setting.library leaf n)) (sym (from_one (gives_before past i) j some))
      ∙ keeps_at (Plays leaf) at g (j - 1) (omega (arith, some, low, few))
  titles_by (Picks choice eligible) at j some low g = tt
  titles_by (Mixes mixing) at j some low g = tt
  titles_by (Fades overlap) at j some low g = ap (λ n. title_of (item_of overlap (sub i) n)) (sym (from_one (position past i) j some))
      ∙ keeps_at (Fades overlap) at g (j - 1) (omega (arith, some, low, few))
  titles_by (Reads buffer) at j some low g =
      ap (λ n. title_of (reader_slot (read_by n (reading_at setting buffer (length past) (reading_after setting i buffer past)).reader))) (sym (to_one j some))
      ∙ keeps_at (Reads buffer) at g (j - 1) (omega (arith, some, low, few))

  pub node_stretches : NodeStretches setting sub clock past i node rest
  node_stretches = record {
    leaves = λ leaf j at some low g. ap (λ n. is_inner (leaf_slot setting.library leaf n)) (sym (from_one (gives_before past i) j some))
        ∙ goes_at (Plays leaf) at g (j - 1) (omega (arith, some, low, few));
    ticks = λ buffer j at some low. within.each j some (let bound = border buffer at in omega (arith, low, bound));
    readers = λ buffer j at some low g.
        ap (λ n. is_inner (reader_slot (read_by n (reading_at setting buffer (length past) (reading_after setting i buffer past)).reader))) (sym (to_one j some))
        ∙ goes_at (Reads buffer) at g (j - 1) (omega (arith, some, low, few));
    items = λ overlap at some. (goes_at (Fades overlap) at).0 (omega (arith, some, few));
    settled = λ overlap j at some low g. ap (λ n. is_inner (item_of overlap (sub i) n)) (sym (from_one (position past i) j some))
        ∙ (goes_at (Fades overlap) at).1 g (j - 1) (omega (arith, some, low, few));
    marks = λ choice eligible j children at some low. steady choice eligible j children at low;
    free = λ choice eligible at some. free_by choice eligible at some (last_pick past i) refl;
    titles = λ j some low g. titles_by (work_at setting i node) refl j some low g;
  }

-- fewer instants
pub fewer : (setting : Setting) (sub : ℕ → ℕ → List Slot) (clock : NodeClock) (past : List Moment) (i : ℕ) (node : Node) (rest less : ℕ) → less ≤ rest
    → NodeStretches setting sub clock past i node rest → NodeStretches setting sub clock past i node less
fewer setting sub clock past i node rest less few s = record {
  leaves = λ leaf j at some within g. s.leaves leaf j at some (omega (arith, within, few)) g;
  ticks = λ buffer j at some within. s.ticks buffer j at some (omega (arith, within, few));
  readers = λ buffer j at some within g. s.readers buffer j at some (omega (arith, within, few)) g;
  items = λ overlap at some. s.items overlap at (omega (arith, some, few));
  settled = λ overlap j at some within g. s.settled overlap j at some (omega (arith, within, few)) g;
  marks = λ choice eligible j children at some within. s.marks choice eligible j children at some (omega (arith, within, few));
  free = λ choice eligible at some. s.free choice eligible at (omega (arith, some, few));
  titles = λ j some within g. s.titles j some (omega (arith, within, few)) g;
}

-- the nodes of a clock below this one go on
pub record GoOn (setting : Setting) (sub : ℕ → ℕ → List Slot) (clock : NodeClock) (past : List Moment) (below rest : ℕ) : Type 0 where
  pub each : (i : ℕ) (node : Node) → i < below → IsNode setting clock i node → NodeStretches setting sub clock past i node rest

pub on_none : (setting : Setting) (sub : ℕ → ℕ → List Slot) (clock : NodeClock) (past : List Moment) (rest : ℕ) → GoOn setting sub clock past 0 rest
on_none setting sub clock past rest = record { each = λ i node low is. absurd (omega (arith, low)) }

pub on_skip : (setting : Setting) (sub : ℕ → ℕ → List Slot) (clock : NodeClock) (past : List Moment) (i n rest : ℕ) → IsFirst setting.clocks clock i n → GoOn setting sub clock past i rest → GoOn setting sub clock past n rest
on_skip setting sub clock past i n rest first go = record {
  each = λ k node low is. elim (cases_lt k i) [
    | inl less ↦ go.each k node less is
    | inr high ↦ absurd (true≢false (sym is.inside ∙ first.skips k high low))
  ];
}

pub on_step : (setting : Setting) (sub : ℕ → ℕ → List Slot) (clock : NodeClock) (past : List Moment) (i rest less : ℕ) → less ≤ rest
    → ((node : Node) → IsNode setting clock i node → NodeStretches setting sub clock past i node less) → GoOn setting sub clock past i rest → GoOn setting sub clock past (suc i) less
on_step setting sub clock past i rest less few here go = record {
  each = λ k node low is. elim (same_or_other i k) [
    | inl same ↦ subst (λ j. IsNode setting clock j node → NodeStretches setting sub clock past j node less) same (here node) is
    | inr apart ↦ fewer setting sub clock past k node rest less few (go.each k node (omega (arith, low, apart)) is)
  ];
}

-- all of them: a stretch
pub on_all : (setting : Setting) (sub : ℕ → ℕ → List Slot) (clock : NodeClock) (past : List Moment) (n rest : ℕ) → n ≡ length setting.plan.nodes → GoOn setting sub clock past n rest
    → IsStretch setting sub clock past (suc rest)
on_all setting sub clock past n rest all go = record {
  leaves = λ i node leaf j is at some within g. (at_node i node is).leaves leaf j at some (omega (arith, within)) g;
  ticks = λ i node buffer j is at some within. (at_node i node is).ticks buffer j at some (omega (arith, within));
  readers = λ i node buffer j is at some within g. (at_node i node is).readers buffer j at some (omega (arith, within)) g;
  items = λ i node overlap j is at some within. (at_node i node is).items overlap at (omega (arith, some, within));
  settled = λ i node overlap j is at some within g. (at_node i node is).settled overlap j at some (omega (arith, within)) g;
  marks = λ i node choice eligible j children is at some within. (at_node i node is).marks choice eligible j children at some (omega (arith, within));
  free = λ i node choice eligible j is at some within. (at_node i node is).free choice eligible at (omega (arith, some, within));
  titles = λ i node j is some within g. (at_node i node is).titles j some (omega (arith, within)) g;
}
  where
    at_node : (i : ℕ) (node : Node) → IsNode setting clock i node → NodeStretches setting sub clock past i node rest
    at_node i node is = go.each i node (let low = slice_get_within setting.plan.nodes i node is.there in omega (arith, low, all)) is

-- no change of what is eligible, in the seconds of the setting
pub marks_are : (setting : Setting) (n : ℕ) (time : WeekTime) (eligible : Eligible) (j children : ℕ) → time.rate ≡ setting.plan.rate
    → marks_at eligible ((setting.start + (n + j) / time.rate) % 604800) children ≡ marks_at eligible ((setting.start + n / time.rate) % 604800) children
    → marks_at eligible (second_at setting (n + j)) children ≡ marks_at eligible (second_at setting n) children
marks_are setting n time eligible j children rate same =
    subst (λ r. marks_at eligible ((setting.start + (n + j) / r) % 604800) children ≡ marks_at eligible ((setting.start + n / r) % 604800) children) rate same

-- what the time says of the tick of the instants behind this one
pub tick_is : (setting : Setting) (n : ℕ) (time : WeekTime) (tick : ℕ) → time.frame ≡ setting.plan.frame
    → ((j : ℕ) → 0 < j → j ≤ tick → nat_eq ((n + j) % time.frame) 0 ≡ false) → IsSameTick setting n tick
tick_is setting n time tick frame stays = record {
  each = λ j some within. subst (λ f. nat_eq ((n + j) % f) 0 ≡ false) frame (stays j some within);
}
