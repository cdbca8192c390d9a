-- A reader that is always heard is drawn, and its clock runs.
use Rattle.std.proofs.Common.{◌≡◌, ◌<◌, ◌+◌, ◌&&◌, ◌||◌, ℕ, zero, suc, Bool, true, false, Option, Some, None, is_some, List, [], ◌∷◌, length, replicate, nat_eq, slice_get, get_or, Contains, if◌then◌else◌, refl, ap, sym, subst, ◌∙◌, arith}
use Rattle.std.specs.List.{list_any}
use Rattle.std.proofs.lemmas.Bool.{false≢true}
use Rattle.std.proofs.lemmas.List.Elements.{All-contains}
use Rattle.std.proofs.lemmas.Bool.Decides.{nat_tests}
use Rattle.std.proofs.lemmas.Option.{slice_get_within, get_or_from_slice_get}
use Rattle.frame_core.specs.declared.cell.Cell.{Cell}
use Rattle.frame_core.specs.Slots.{Slot}
use Rattle.plan_core.specs.declared.node.Node.{Node}
use Rattle.plan_core.specs.declared.node.Op.TheVariants.{Buffer}
use Rattle.plan_core.specs.declared.sink.SinkPlan.{SinkPlan}
use Rattle.plan_core.specs.Plans.{sink_node}
use Rattle.plan_core.proofs.Paths.{child_below}
use Rattle.clock_infer.specs.declared.clock_map.ClockMap.{ClockMap}
use Rattle.clock_infer.specs.declared.clock_map.NodeClock.{NodeClock}
use Rattle.clock_infer.specs.declared.clock_map.NodeClock.TheVariants.{Main}
use Rattle.clock_infer.proofs.MapLaws.{sinks}
use Rattle.clock_infer.proofs.Exact.{some_inj, there_more}
use Rattle.frame_core.specs.Calls.{Answer}
use Rattle.op_select.specs.declared.rule.Rule.TheVariants.{First}
use Rattle.op_select.specs.Selection.{first_ready, picked}
use Rattle.stream_meaning.specs.declared.part.Part.{Part}
use Rattle.stream_meaning.specs.Arithmetic.{Mixing, Adds, Scales, Halves, Doubles, Passes, cells_of, summed_slot, changed_slot, mix_slot}
use Rattle.stream_meaning.specs.Operators.{Work, Plays, Picks, Mixes, Fades, Reads, Choice, Selects, Eligible, Every, work_of}
use Rattle.stream_meaning.specs.Instants.{Setting, Moment, answered, child_at, clock_of, demanded, first_instants, is_root, last_pick, lies_in, moment_after, offer, offering, part_at, part_by, parts_upto, picked_part, same_clock, slots_at, sub_of, uses_by, uses_from, work_at}
use Rattle.stream_meaning.specs.Settings.{IsSetting}
use Rattle.stretch_laws.proofs.Demanding.{used_demanded}
use Rattle.stretch_laws.proofs.Parts.{own_part, part_stays, uses_at}
use Rattle.stream_meaning.proofs.Existence.{clock_there}
use Rattle.stream_meaning.proofs.Sorted.{reads_op}
use Rattle.run_records.specs.Buffers.{main_of, main_within, read_from}
use Rattle.run_records.specs.Heard.{AlwaysUses, IsHeard}
use Rattle.run_records.specs.Pace.{IsDrawn}
use Rattle.run_records.proofs.Owning.{read_is}
use Rattle.run_records.proofs.Sunk.{root_is_demanded}

or_left : (a b : Bool) → a ≡ true → (a || b) ≡ true
or_left true b e = refl
or_left false b e = absurd (false≢true e)

or_right : (a b : Bool) → b ≡ true → (a || b) ≡ true
or_right true b e = refl
or_right false b e = e

self_eq : (n : ℕ) → nat_eq n n ≡ true
self_eq n = grind (arith, nat_tests)

-- a mix of children of which one offers offers
some_cells : (parts : List Part) (children : List ℕ) (place i : ℕ) → slice_get children place ≡ Some i → is_some (part_at parts i).slot ≡ true
    → (cell : Cell) × (cells : List Cell) × (cells_of (slots_at parts children) ≡ cell ∷ cells)
some_cells parts [] place i at some = absurd cc
some_cells parts (child ∷ children) zero i at some = by (part_at parts child).slot refl
  where
    by : (slot : Slot) → (part_at parts child).slot ≡ slot → (cell : Cell) × (cells : List Cell) × (cells_of (slots_at parts (child ∷ children)) ≡ cell ∷ cells)
    by None e = (let same : child ≡ i = cc in absurd (false≢true (sym (ap is_some e) ∙ ap (λ (c : ℕ). is_some (part_at parts c).slot) same ∙ some)))
    by (Some cell) e = (cell, cells_of (slots_at parts children), rw e refl)
some_cells parts (child ∷ children) (suc place) i at some = by (part_at parts child).slot refl (some_cells parts children place i at some)
  where
    by : (slot : Slot) → (part_at parts child).slot ≡ slot → (cell : Cell) × (cells : List Cell) × (cells_of (slots_at parts children) ≡ cell ∷ cells)
        → (cell : Cell) × (cells : List Cell) × (cells_of (slots_at parts (child ∷ children)) ≡ cell ∷ cells)
    by None e more = (more.0, more.1, rw e more.2)
    by (Some cell) e more = (cell, cells_of (slots_at parts children), rw e refl)

mixed : (mixing : Mixing) (slots : List Slot) (cell : Cell) (cells : List Cell) → cells_of slots ≡ cell ∷ cells → is_some (mix_slot mixing slots) ≡ true
mixed (Adds normalize) slots cell cells e = ap (λ (l : List Cell). is_some (summed_slot normalize l)) e
mixed (Scales millionths) slots cell cells e = ap (λ (l : List Cell). is_some (changed_slot (Scales millionths) l)) e
mixed Halves slots cell cells e = ap (λ (l : List Cell). is_some (changed_slot Halves l)) e
mixed Doubles slots cell cells e = ap (λ (l : List Cell). is_some (changed_slot Doubles l)) e
mixed Passes slots cell cells e = ap (λ (l : List Cell). is_some (changed_slot Passes l)) e

-- and uses it
among : (parts : List Part) (children : List ℕ) (place i : ℕ) → slice_get children place ≡ Some i → is_some (part_at parts i).slot ≡ true → list_any (nat_eq i) (offering parts children) ≡ true
among parts [] place i at some = absurd cc
among parts (child ∷ children) zero i at some =
    let same : child ≡ i = cc in
    ap (λ (t : Bool). list_any (nat_eq i) (if t then child ∷ offering parts children else offering parts children)) (ap (λ (c : ℕ). is_some (part_at parts c).slot) same ∙ some)
    ∙ or_left (nat_eq i child) (list_any (nat_eq i) (offering parts children)) (ap (nat_eq i) same ∙ self_eq i)
among parts (child ∷ children) (suc place) i at some = by (is_some (part_at parts child).slot) (among parts children place i at some)
  where
    by : (t : Bool) → list_any (nat_eq i) (offering parts children) ≡ true → list_any (nat_eq i) (if t then child ∷ offering parts children else offering parts children) ≡ true
    by true more = or_right (nat_eq i child) (list_any (nat_eq i) (offering parts children)) more
    by false more = more

-- the first of these slots is picked where it offers
record IsFirst (part : Part) : Type 0 where
  offers : is_some part.slot ≡ true
  picks : part.pick ≡ Some 0

first_picked : (slot : Slot) (slots : List Slot) (marks : List Bool) (last : Option ℕ) → is_some slot ≡ true → IsFirst (picked_part (picked (slot ∷ slots) last (first_ready (slot ∷ slots) (true ∷ marks) 0)))
first_picked None slots marks last some = absurd (false≢true some)
first_picked (Some cell) slots marks last some = record { offers = refl; picks = refl }

module _ (setting : Setting) (sub : ℕ → ℕ → List Slot) (past : List Moment) (p : ℕ) (before parts : List Part) where
  abbrev Own : Work → List ℕ → Part
  Own work children = part_by setting sub past p work (slots_at before children)

  -- it offers where its child does, and uses it
  record IsUsed (work : Work) (children : List ℕ) (i : ℕ) : Type 0 where
    offers : is_some (Own work children).slot ≡ true
    uses : list_any (nat_eq i) (uses_by parts work children (Own work children).pick) ≡ true

  picks : (children : List ℕ) (i : ℕ) → slice_get children 0 ≡ Some i → is_some (part_at before i).slot ≡ true → IsUsed (Picks (Selects (First false)) Every) children i
  picks [] i at here = absurd cc
  picks (child ∷ children) i at here =
      let same : child ≡ i = cc in
      let first = first_picked (part_at before child).slot (slots_at before children) (replicate (length (slots_at before children)) true) (last_pick past p)
      (ap (λ (c : ℕ). is_some (part_at before c).slot) same ∙ here) in
      record {
        offers = first.offers;
        uses = ap (λ (pick : Option ℕ). list_any (nat_eq i) (child_at (child ∷ children) pick)) first.picks ∙ or_left (nat_eq i child) false (ap (nat_eq i) same ∙ self_eq i);
      }

  used : (work : Work) (children : List ℕ) (place i : ℕ) → slice_get children place ≡ Some i → AlwaysUses work place → is_some (part_at before i).slot ≡ true
      → is_some (part_at parts i).slot ≡ true → IsUsed work children i
  used (Plays leaf) children place i at always here there = absurd always
  used (Picks choice eligible) children place i at always here there =
      subst (λ (c : Choice). IsUsed (Picks c eligible) children i) (sym always.0)
      (subst (λ (e : Eligible). IsUsed (Picks (Selects (First false)) e) children i) (sym always.1)
      (picks children i (ap (slice_get children) (sym always.2) ∙ at) here))
  used (Mixes mixing) children place i at always here there =
      let some = some_cells before children place i at here in
      record { offers = mixed mixing (slots_at before children) some.0 some.1 some.2; uses = among parts children place i at there }
  used (Fades overlap) children place i at always here there = absurd always
  used (Reads buffer) children place i at always here there = absurd always

played_by : (i : ℕ) (sinks : List SinkPlan) → list_any (λ sink. nat_eq (sink_node sink) i) sinks ≡ true → (sink : SinkPlan) × Contains sinks sink × (sink_node sink ≡ i)
played_by i [] e = absurd (false≢true e)
played_by i (sink ∷ sinks) e = by (nat_eq (sink_node sink) i) refl e (λ more. played_by i sinks more)
  where
    by : (t : Bool) → nat_eq (sink_node sink) i ≡ t → (t || list_any (λ sink. nat_eq (sink_node sink) i) sinks) ≡ true
        → (list_any (λ sink. nat_eq (sink_node sink) i) sinks ≡ true → (other : SinkPlan) × Contains sinks other × (sink_node other ≡ i))
        → (other : SinkPlan) × Contains (sink ∷ sinks) other × (sink_node other ≡ i)
    by true is more later = (sink, (0, omega arith, refl), grind (arith, nat_tests))
    by false is more later = (let found = later more in (found.0, there_more sink sinks found.0 found.1, found.2))

module _ (setting : Setting) (clocks : ClockMap) (is : IsSetting setting clocks) (m : ℕ) where
  abbrev Past : ℕ → List Moment
  Past n = first_instants setting (sub_of setting) (Main m) n

  abbrev Now : ℕ → Moment
  Now n = moment_after setting (sub_of setting) (Main m) (Past n)

  abbrev Parts : ℕ → List Part
  Parts n = parts_upto setting (sub_of setting) (Main m) (Past n) (length setting.plan.nodes)

  lies : (above : List ℕ) (i : ℕ) → IsHeard setting m above i → clock_of setting i ≡ Main m
  lies [] i heard = heard.0
  lies (parent ∷ above) i heard = heard.0

  inside : (i : ℕ) → clock_of setting i ≡ Main m → lies_in setting (Main m) i ≡ true
  inside i e = ap (λ (clock : NodeClock). same_clock clock (Main m)) e ∙ self_eq m

  pub heard_demanded : (above : List ℕ) (i : ℕ) → IsHeard setting m above i → i < length setting.plan.nodes → (n : ℕ) → is_some (offer (Now n) i) ≡ true → demanded (Now n) i ≡ true
  heard_demanded [] i heard low n some = root_is_demanded setting m i low heard.0 heard.1 n
  heard_demanded (parent ∷ above) i heard low n some =
      let node : Node = heard.1 in
      let nodes : List Node = setting.plan.nodes in
      let roots : ℕ → Bool = λ k. lies_in setting (Main m) k && is_root setting (Main m) k in
      let high = slice_get_within nodes parent node heard.3 in
      let below = child_below nodes parent i node is.plan.nodes heard.3 (heard.2, slice_get_within node.children heard.2 i heard.4, get_or_from_slice_get node.children heard.2 i i heard.4) in
      let before : List Part = parts_upto setting (sub_of setting) (Main m) (Past n) parent in
      let stays = part_stays setting (sub_of setting) (Main m) (Past n) parent (length nodes) i below low in
      let own = own_part setting (sub_of setting) (Main m) (Past n) (length nodes) parent node high (record { there = heard.3; inside = inside parent (lies above parent heard.6) }) in
      let way = used setting (sub_of setting) (Past n) parent before (Parts n) (work_at setting parent node) node.children heard.2 i heard.4 heard.5 (ap (λ (part : Part). is_some part.slot) stays ∙ some) some in
      let offers : is_some (offer (Now n) parent) ≡ true = ap (λ (part : Part). is_some part.slot) own ∙ way.offers in
      let none : 0 + parent ≡ parent = omega arith in
      let same : 0 + i ≡ i = omega arith in
      let uses : get_or (uses_from setting (Parts n) 0 nodes) parent [] ≡ uses_by (Parts n) (work_at setting parent node) node.children (part_at (Parts n) parent).pick =
      uses_at setting (Parts n) 0 parent nodes node heard.3 ∙ ap (λ (k : ℕ). uses_by (Parts n) (work_at setting k node) node.children (part_at (Parts n) k).pick) none in
      used_demanded roots 0 (uses_from setting (Parts n) 0 nodes) parent i (heard_demanded above parent heard.6 high n offers) below
      (subst (λ (k : ℕ). list_any (nat_eq k) (get_or (uses_from setting (Parts n) 0 nodes) parent []) ≡ true) (sym same)
      (ap (list_any (nat_eq i)) (uses ∙ ap (λ (part : Part). uses_by (Parts n) (work_at setting parent node) node.children part.pick) own) ∙ way.uses))

  -- a clock in which a sink plays runs
  pub heard_runs : (above : List ℕ) (i : ℕ) → IsHeard setting m above i → m < clocks.running
  heard_runs [] i heard =
      let found = played_by i setting.plan.sinks heard.1 in
      let runs = sinks setting.plan clocks found.0 is.plan is.map found.1 in
      let low : sink_node found.0 < length setting.plan.nodes = All-contains (λ (s : SinkPlan). sink_node s < length setting.plan.nodes) setting.plan.sinks found.0 is.plan.sinks found.1 in
      let place : Main m ≡ Main runs.0 = sym heard.0 ∙ ap (clock_of setting) (sym found.2) ∙ some_inj (sym (clock_there setting clocks is (sink_node found.0) low) ∙ runs.2) in
      let same : m ≡ runs.0 = cc in
      let less = runs.1 in omega (arith, same, less)
  heard_runs (parent ∷ above) i heard = heard_runs above parent heard.6

  -- a reader that is always heard is drawn
  pub heard_is_drawn : (b : ℕ) (above : List ℕ) (i : ℕ) (node : Node) → slice_get setting.plan.nodes i ≡ Some node → node.op ≡ Buffer b → IsHeard setting m above i → IsDrawn setting b m i node
  heard_is_drawn b above i node found op heard =
      let does : work_at setting i node ≡ Reads b = ap (work_of setting.plan.rate i node.kind) op in
      let none : i ≡ 0 + i = omega arith in
      let known : b < length setting.plan.buffers = is.plan.read b i (node, found, op) in
      let only = is.plan.one_reader b known in
      let mine : i ≡ only.0 = only.2 i (node, found, op) in
      let at : read_from setting b 0 setting.plan.nodes ≡ 0 + i = read_is setting b 0 setting.plan.nodes i node found (ap (λ (k : ℕ). work_at setting k node) (sym none) ∙ does)
      (λ q other there work. only.2 q (other, there, reads_op setting.plan.rate (0 + q) other.kind other.op b work) ∙ sym mine) in
      record {
        found = found;
        does = does;
        lies = lies above i heard;
        reads = ap (main_of setting) (at ∙ sym none) ∙ ap (main_within setting (length setting.plan.nodes)) (lies above i heard);
        drawn = heard_demanded above i heard (slice_get_within setting.plan.nodes i node found);
      }

-- and so it is with any answers
pub heard_with : (setting : Setting) (answers : ℕ → List Answer) (m : ℕ) (above : List ℕ) (i : ℕ) → IsHeard setting m above i → IsHeard (answered setting answers) m above i
heard_with setting answers m [] i heard = heard
heard_with setting answers m (parent ∷ above) i heard = (heard.0, heard.1, heard.2, heard.3, heard.4, heard.5, heard_with setting answers m above parent heard.6)
