-- Over a run the samples that a node lays are those of what it offers.
use Rattle.std.proofs.Common.{◌≡◌, ◌<◌, ◌≤◌, ◌+◌, ◌∙◌, ℕ, ℤ, zero, suc, Bool, true, false, Option, Some, None, List, [], ◌∷◌, length, map, take, drop, slice_get, nat_eq, get_or, cond, arith, refl, ap, sym, subst}
use Rattle.std.specs.Prelude.{is_some, ◌&&◌, ◌||◌}
use Rattle.std.specs.List.{list_any, range_with_len}
use Rattle.std.proofs.lemmas.Bool.{false≢true, eq-eqb, eqb-true}
use Rattle.std.proofs.lemmas.List.{get_or-drop, length-drop}
use Rattle.std.proofs.lemmas.Option.{none-some, slice_get_within}
use Rattle.plan_core.specs.declared.node.Node.{Node}
use Rattle.plan_core.proofs.Paths.{child_below}
use Rattle.clock_infer.specs.declared.clock_map.NodeClock.{NodeClock}
use Rattle.frame_core.specs.declared.cell.Cell.{Cell}
use Rattle.frame_core.specs.Slots.{Slot, slot_at, slot_left, slot_right, is_inner}
use Rattle.op_leaf.specs.declared.leaf.Leaf.{Leaf}
use Rattle.op_leaf.specs.Inner.{lefts_of, rights_of}
use Rattle.op_leaf.specs.Lanes.{IsLane}
use Rattle.op_leaf.specs.Leaves.{leaf_slot}
use Rattle.op_leaf.specs.Readers.{Reader, after_cell, read_by, reader_slot}
use Rattle.op_leaf.proofs.Laid.{lane_from, lane_of_same}
use Rattle.op_leaf.proofs.Onward.{one_before}
use Rattle.op_cross.specs.Runs.{item_of}
use Rattle.op_select.specs.Selection.{picked}
use Rattle.stream_meaning.specs.declared.part.Part.{Part}
use Rattle.stream_meaning.specs.Arithmetic.{Mixing, Adds, Scales, Halves, Doubles, Passes, cells_of, changed_slot, mix_slot, summed_slot}
use Rattle.stream_meaning.specs.Operators.{Choice, Eligible, Plays, Picks, Mixes, Fades, Reads, child_used, marks_at}
use Rattle.stream_meaning.specs.Instants.{Setting, Moment, child_at, choices, gives_before, demanded, gives, is_root, last_pick, lies_in, moment_after, offer, offering, part_at, part_by, parts_upto, picked_part, position, reading_after, reading_at, second_at, silent, slots_at, uses_by, uses_from, work_at}
use Rattle.stretch_laws.specs.Stretches.{lane}
use Rattle.stretch_laws.proofs.Demanding.{used_demanded}
use Rattle.stretch_laws.proofs.Following.{AreBelow, at_place, below_from, child_is_below, one_used, place_is, slot_is}
use Rattle.stretch_laws.proofs.Parts.{own_part, part_stays, uses_at}
use Rattle.stretch_laws.proofs.Stretching.{alike_all}
use Rattle.stretch_laws.proofs.Laning.{chosen, faded, mixed, played, read}
use Rattle.stretch_laws.proofs.Works.{pick_offers_there, some_pick}
use Rattle.op_mix.specs.Stretches.{AreHeard, IsHeard, many_give, offers_in}
use Rattle.node_states.specs.Passing.{given_part}
use Rattle.node_states.specs.Histories.{history_of}
use Rattle.node_states.specs.Stretches.{GoesOn}

both : (a b : Bool) → a ≡ true → b ≡ true → (a && b) ≡ true
both true b d e = e
both false b d e = absurd (false≢true d)

and_first : (a b : Bool) → (a && b) ≡ true → a ≡ true
and_first true b e = refl
and_first false b e = e

or_left : (a b : Bool) → a ≡ true → (a || b) ≡ true
or_left true b e = refl
or_left false b e = absurd (false≢true e)

or_right : (a b : Bool) → b ≡ true → (a || b) ≡ true
or_right true b e = refl
or_right false b e = e

-- a child among those that offer
offers_by : (parts : List Part) (child c : ℕ) (children : List ℕ) → (here : Bool) → nat_eq c child ≡ here → (here || list_any (nat_eq c) children) ≡ true → is_some (part_at parts c).slot ≡ true
    → (list_any (nat_eq c) children ≡ true → list_any (nat_eq c) (offering parts children) ≡ true) → (there : Bool) → is_some (part_at parts child).slot ≡ there
    → list_any (nat_eq c) (cond there (child ∷ offering parts children) (offering parts children)) ≡ true
offers_by parts child c children true e among offers rest true f = or_left (nat_eq c child) (list_any (nat_eq c) (offering parts children)) e
offers_by parts child c children true e among offers rest false f =
    let same : c ≡ child = eqb-true c child e in absurd (false≢true (sym f ∙ ap (λ n. is_some (part_at parts n).slot) (sym same) ∙ offers))
offers_by parts child c children false e among offers rest true f = or_right (nat_eq c child) (list_any (nat_eq c) (offering parts children)) (rest among)
offers_by parts child c children false e among offers rest false f = rest among

offers_among : (parts : List Part) (children : List ℕ) (c : ℕ) → list_any (nat_eq c) children ≡ true → is_some (part_at parts c).slot ≡ true → list_any (nat_eq c) (offering parts children) ≡ true
offers_among parts [] c among offers = among
offers_among parts (child ∷ children) c among offers =
    offers_by parts child c children (nat_eq c child) refl among offers (λ e. offers_among parts children c e offers) (is_some (part_at parts child).slot) refl

below_by : (i c child : ℕ) (children : List ℕ) → (here : Bool) → nat_eq c child ≡ here → (here || list_any (nat_eq c) children) ≡ true → child < i
    → (list_any (nat_eq c) children ≡ true → c < i) → c < i
below_by i c child children true e among low rest = subst (λ n. n < i) (sym (eqb-true c child e)) low
below_by i c child children false e among low rest = rest among

below_any : (i c : ℕ) (children : List ℕ) → AreBelow i children → list_any (nat_eq c) children ≡ true → c < i
below_any i c [] below among = absurd (false≢true among)
below_any i c (child ∷ children) (low, below) among = below_by i c child children (nat_eq c child) refl among low (λ e. below_any i c children below e)

none_by : (slot : Slot) → (is_some slot ≡ true → ⊥) → slot ≡ None
none_by None other = refl
none_by (Some cell) other = absurd (other refl)

heard_from : (slots : ℕ → ℕ → Slot) (given : ℕ → Bool) (lefts rights : ℕ → List ℤ) (many : ℕ) (children : List ℕ)
    → ((c : ℕ) → list_any (nat_eq c) children ≡ true → IsHeard slots given lefts rights many c) → AreHeard slots given lefts rights many children
heard_from slots given lefts rights many [] each = tt
heard_from slots given lefts rights many (child ∷ children) each = (
  each child (or_left (nat_eq child child) (list_any (nat_eq child) children) (eq-eqb child child refl)),
  heard_from slots given lefts rights many children (λ c e. each c (or_right (nat_eq c child) (list_any (nat_eq c) children) e)),
)

and_second : (a b : Bool) → (a && b) ≡ true → b ≡ true
and_second true b e = e
and_second false b e = absurd (false≢true e)

-- the child that a node picked, which gives
pub record IsPicked (first : Moment) (i : ℕ) (children : List ℕ) : Type 0 where
  pub place : ℕ
  pub child : ℕ
  pub pick_is : (part_at first.parts i).pick ≡ Some place
  pub there : slice_get children place ≡ Some child
  pub among : list_any (nat_eq child) children ≡ true
  pub gave : gives first child ≡ true

among_at : (children : List ℕ) (place child : ℕ) → slice_get children place ≡ Some child → list_any (nat_eq child) children ≡ true
among_at [] place child at = absurd (none-some child at)
among_at (first ∷ children) zero child at = (let same : first ≡ child = cc in or_left (nat_eq child first) (list_any (nat_eq child) children) (eq-eqb child first (sym same)))
among_at (first ∷ children) (suc place) child at = or_right (nat_eq child first) (list_any (nat_eq child) children) (among_at children place child at)

-- ---- a mix offers where one of its children does

cells_by : (parts : List Part) (child : ℕ) (children : List ℕ) → (slot : Slot) → (part_at parts child).slot ≡ slot
    → length (cells_of (map (λ c. (part_at parts c).slot) children)) ≡ many_give (offers_in parts) children
    → length (cells_of (slot ∷ map (λ c. (part_at parts c).slot) children)) ≡ cond (is_some slot) (suc (many_give (offers_in parts) children)) (many_give (offers_in parts) children)
cells_by parts child children None e rest = rest
cells_by parts child children (Some cell) e rest = ap suc rest

offered_cells : (parts : List Part) (children : List ℕ) → length (cells_of (map (λ c. (part_at parts c).slot) children)) ≡ many_give (offers_in parts) children
offered_cells parts [] = refl
offered_cells parts (child ∷ children) = cells_by parts child children (part_at parts child).slot refl (offered_cells parts children)

some_changed : (mixing : Mixing) (cells : List Cell) → is_some (changed_slot mixing cells) ≡ true → 0 < length cells
some_changed mixing [] e = absurd (false≢true e)
some_changed mixing (cell ∷ cells) e = omega arith

some_summed : (normalize : Bool) (cells : List Cell) → is_some (summed_slot normalize cells) ≡ true → 0 < length cells
some_summed normalize [] e = absurd (false≢true e)
some_summed normalize (cell ∷ cells) e = omega arith

some_mixed : (mixing : Mixing) (slots : List Slot) → is_some (mix_slot mixing slots) ≡ true → 0 < length (cells_of slots)
some_mixed (Adds normalize) slots e = some_summed normalize (cells_of slots) e
some_mixed (Scales millionths) slots e = some_changed (Scales millionths) (cells_of slots) e
some_mixed Halves slots e = some_changed Halves (cells_of slots) e
some_mixed Doubles slots e = some_changed Doubles (cells_of slots) e
some_mixed Passes slots e = some_changed Passes (cells_of slots) e

mix_some : (mixing : Mixing) (parts : List Part) (children : List ℕ) → is_some (mix_slot mixing (map (λ c. (part_at parts c).slot) children)) ≡ true
    → 0 < many_give (offers_in parts) children
mix_some mixing parts children e = subst (λ n. 0 < n) (offered_cells parts children) (some_mixed mixing (map (λ c. (part_at parts c).slot) children) e)

-- ---- the items of a crossfade as a lane

slots_taken : (side : Slot → ℤ) (items : List Slot) (many at : ℕ) (slots : ℕ → Slot) → many ≤ length items
    → ((j : ℕ) → j < many → slots (at + j) ≡ slot_at items j) → map side (take many items) ≡ map (λ q. side (slots q)) (range_with_len at many)
slots_taken side items zero at slots there are = refl
slots_taken side [] (suc many) at slots there are = absurd (omega (arith, there))
slots_taken side (item ∷ items) (suc many) at slots there are =
    let e : at + 0 ≡ at = omega arith in
    ap (λ x. x ∷ map side (take many items)) (ap side (sym (are 0 (omega arith)) ∙ ap slots e))
    ∙ ap (λ l. side (slots at) ∷ l) (slots_taken side items many (at + 1) slots (omega (arith, there))
    (λ j less. let f : at + 1 + j ≡ at + suc j = omega arith in ap slots f ∙ are (suc j) (omega (arith, less))))

items_lane : (items : List Slot) (p many : ℕ) (left right : List ℤ) → p + many ≤ length items
    → left ≡ map slot_left (take many (drop p items)) → right ≡ map slot_right (take many (drop p items))
    → ((j : ℕ) → j < many → is_inner (slot_at items (p + j)) ≡ true) → IsLane (λ j. slot_at items (p + j)) many left right
items_lane items p many left right settled left_is right_is inner = record {
  left_is = left_is ∙ slots_taken slot_left (drop p items) many 0 (λ j. slot_at items (p + j)) there at;
  right_is = right_is ∙ slots_taken slot_right (drop p items) many 0 (λ j. slot_at items (p + j)) there at;
  inner = inner;
}
  where
    there : many ≤ length (drop p items)
    there = let rest = length-drop p items in omega (arith, rest, settled)

    at : (j : ℕ) → j < many → slot_at items (p + (0 + j)) ≡ slot_at (drop p items) j
    at j less = let e : p + (0 + j) ≡ p + j = omega arith in ap (slot_at items) e ∙ sym (get_or-drop p items j None)

-- ---- who is heard, told in another way

pub heard_same : (slots : ℕ → ℕ → Slot) (one other : ℕ → Bool) (lefts rights : ℕ → List ℤ) (many : ℕ) (children : List ℕ)
    → ((c : ℕ) → list_any (nat_eq c) children ≡ true → other c ≡ one c) → AreHeard slots one lefts rights many children → AreHeard slots other lefts rights many children
heard_same slots one other lefts rights many [] same heard = tt
heard_same slots one other lefts rights many (child ∷ children) same (here, rest) =
    let own : other child ≡ one child = same child (or_left (nat_eq child child) (list_any (nat_eq child) children) (eq-eqb child child refl)) in (
      record { given = λ e. here.given (sym own ∙ e); silent = λ e. here.silent (sym own ∙ e) },
      heard_same slots one other lefts rights many children (λ c e. same c (or_right (nat_eq c child) (list_any (nat_eq c) children) e)) rest,
    )

pub many_same : (one other : ℕ → Bool) (children : List ℕ) → ((c : ℕ) → list_any (nat_eq c) children ≡ true → other c ≡ one c) → many_give other children ≡ many_give one children
many_same one other [] same = refl
many_same one other (child ∷ children) same =
    let own : other child ≡ one child = same child (or_left (nat_eq child child) (list_any (nat_eq child) children) (eq-eqb child child refl)) in
    let rest : many_give other children ≡ many_give one children = many_same one other children (λ c e. same c (or_right (nat_eq c child) (list_any (nat_eq c) children) e)) in
    ap (λ (b : Bool). cond b (suc (many_give other children)) (many_give other children)) own ∙ ap (λ n. cond (one child) (suc n) n) rest

pub given_yes : (moment : Moment) (c : ℕ) → gives moment c ≡ true → given_part moment c ≡ part_at moment.parts c
given_yes moment c e = ap (λ (b : Bool). cond b (part_at moment.parts c) silent) e

pub given_no : (moment : Moment) (c : ℕ) → gives moment c ≡ false → given_part moment c ≡ silent
given_no moment c e = ap (λ (b : Bool). cond b (part_at moment.parts c) silent) e

and_none : (a b : Bool) → b ≡ false → (a && b) ≡ false
and_none true b e = e
and_none false b e = refl

-- node i, over `many` instants behind the one after these
module _ (setting : Setting) (sub : ℕ → ℕ → List Slot) (clock : NodeClock) (past : List Moment) (many i : ℕ) (node : Node) (goes : GoesOn (history_of setting sub clock past) many i node) where
  abbrev First : Moment
  First = moment_after setting sub clock past

  abbrev Parts : List Part
  Parts = parts_upto setting sub clock past (length setting.plan.nodes)

  abbrev Before : List Part
  Before = parts_upto setting sub clock past i

  abbrev Lane : ℕ → ℕ → Slot
  Lane j c = lane setting sub clock past (suc j) c

  low : i < length setting.plan.nodes
  low = slice_get_within setting.plan.nodes i node goes.is.there

  are_below : AreBelow i node.children
  are_below = below_from i node.children (λ child among. child_below setting.plan.nodes i child node goes.nodes goes.is.there among)

  demand : demanded First i ≡ true
  demand = and_first (demanded First i) (is_some (offer First i)) goes.gave

  -- what it uses is demanded
  used : (c : ℕ) → c < i → list_any (nat_eq c) (uses_by Parts (work_at setting i node) node.children (part_at Parts i).pick) ≡ true → demanded First c ≡ true
  used c under among =
      let e : 0 + i ≡ i = omega arith in
      let f : 0 + c ≡ c = omega arith in
      let uses : get_or (uses_from setting Parts 0 setting.plan.nodes) i [] ≡ uses_by Parts (work_at setting i node) node.children (part_at Parts i).pick =
      uses_at setting Parts 0 i setting.plan.nodes node goes.is.there
      ∙ ap (λ k. uses_by Parts (work_at setting k node) node.children (part_at Parts k).pick) e in
      used_demanded (λ k. lies_in setting clock k && is_root setting clock k) 0 (uses_from setting Parts 0 setting.plan.nodes) i c demand under
      (subst (λ n. list_any (nat_eq n) (get_or (uses_from setting Parts 0 setting.plan.nodes) i []) ≡ true) (sym f) (ap (list_any (nat_eq c)) uses ∙ among))

  child_gives : (mixing : Mixing) → work_at setting i node ≡ Mixes mixing → (c : ℕ) → list_any (nat_eq c) node.children ≡ true → is_some (offer First c) ≡ true → gives First c ≡ true
  child_gives mixing at c among offers =
      both (demanded First c) (is_some (offer First c))
      (used c (below_any i c node.children are_below among)
      (ap (λ work. list_any (nat_eq c) (uses_by Parts work node.children (part_at Parts i).pick)) at ∙ offers_among Parts node.children c among offers)) offers

  -- the children of a mix are heard, by the lanes of those that give
  pub are_heard : (mixing : Mixing) → work_at setting i node ≡ Mixes mixing → (lefts rights : ℕ → List ℤ)
      → ((c : ℕ) → list_any (nat_eq c) node.children ≡ true → gives First c ≡ true → IsLane (λ j. Lane j c) many (lefts c) (rights c))
      → AreHeard Lane (offers_in First.parts) lefts rights many node.children
  are_heard mixing at lefts rights lanes = heard_from Lane (offers_in First.parts) lefts rights many node.children (λ c among. record {
    given = λ offers. lanes c among (child_gives mixing at c among offers);
    silent = λ quiet j less. none_by (Lane j c) (λ there.
        let like = alike_all setting sub clock past (suc many) goes.nodes goes.stretch (suc j) (omega arith) (omega (arith, less)) in
        false≢true (sym quiet ∙ (sym ((like.slots c).there) ∙ there)));
  })

  -- a child offers where it gives
  pub given_child : (mixing : Mixing) → work_at setting i node ≡ Mixes mixing → (parts : List Part)
      → ((c : ℕ) → list_any (nat_eq c) node.children ≡ true → part_at parts c ≡ given_part First c)
      → (c : ℕ) → list_any (nat_eq c) node.children ≡ true → offers_in parts c ≡ offers_in First.parts c
  given_child mixing at parts given c among = ap (λ (p : Part). is_some p.slot) (given c among) ∙ by (is_some (offer First c)) refl
    where
      by : (there : Bool) → is_some (offer First c) ≡ there → is_some (given_part First c).slot ≡ is_some (part_at First.parts c).slot
      by true e = ap (λ (p : Part). is_some p.slot) (given_yes First c (child_gives mixing at c among e))
      by false e = ap (λ (p : Part). is_some p.slot) (given_no First c (and_none (demanded First c) (is_some (offer First c)) e)) ∙ sym e

  -- and one of them offers
  pub some_offer : (mixing : Mixing) → work_at setting i node ≡ Mixes mixing → 0 < many_give (offers_in First.parts) node.children
  some_offer mixing at =
      let offers : is_some (offer First i) ≡ true = and_second (demanded First i) (is_some (offer First i)) goes.gave in
      mix_some mixing First.parts node.children
      (sym (ap is_some (mixed setting sub clock past (suc many) goes.nodes goes.stretch i node goes.is mixing 0 at)) ∙ offers)

  -- a mix
  pub mix_run : (mixing : Mixing) → work_at setting i node ≡ Mixes mixing → (left right : List ℤ) → IsLane (λ j. mix_slot mixing (map (Lane j) node.children)) many left right → IsLane (λ j. Lane j i) many left right
  mix_run mixing at left right made = lane_of_same (λ j. mix_slot mixing (map (Lane j) node.children)) (λ j. Lane j i) many left right
      (λ j less. mixed setting sub clock past (suc many) goes.nodes goes.stretch i node goes.is mixing (suc j) at) made

  -- the child that a selection or a node that takes turns picked
  pub the_child : (choice : Choice) (eligible : Eligible) → work_at setting i node ≡ Picks choice eligible → IsPicked First i node.children
  the_child choice eligible at =
      let slots : List Slot = slots_at Before node.children in
      let last : Option ℕ = last_pick past i in
      let marks : List Bool = marks_at eligible (second_at setting (length past)) (length slots) in
      let used_by : Option ℕ = child_used choice slots marks last (choices past i) in
      let same : part_at Parts i ≡ picked_part (picked slots last used_by) =
      own_part setting sub clock past (length setting.plan.nodes) i node low goes.is ∙ ap (λ work. part_by setting sub past i work slots) at in
      let there : is_some (picked_part (picked slots last used_by)).slot ≡ true =
      sym (ap (λ (p : Part). is_some p.slot) same) ∙ and_second (demanded First i) (is_some (offer First i)) goes.gave in
      let found = some_pick (picked slots last used_by) there in
      let offers : is_some (slot_at slots found.0) ≡ true = pick_offers_there slots last used_by found.0 found.1 in
      let child = place_is Before node.children found.0 offers in
      let under : child.0 < i = child_is_below i node.children found.0 child.0 are_below child.1 in
      let shown : is_some (offer First child.0) ≡ true =
      ap (λ (p : Part). is_some p.slot) (sym (part_stays setting sub clock past i (length setting.plan.nodes) child.0 under (let l = low in omega (arith, l, under))))
      ∙ ap is_some (sym (slot_is Before node.children found.0 child.0 child.1)) ∙ offers in
      let pick : (part_at Parts i).pick ≡ Some found.0 = ap (λ (p : Part). p.pick) same ∙ found.1 in
      let uses : uses_by Parts (work_at setting i node) node.children (part_at Parts i).pick ≡ child.0 ∷ [] =
      ap (λ work. uses_by Parts work node.children (part_at Parts i).pick) at ∙ ap (child_at node.children) pick ∙ at_place node.children found.0 child.0 child.1 in
      record {
        place = found.0;
        child = child.0;
        pick_is = pick;
        there = child.1;
        among = among_at node.children found.0 child.0 child.1;
        gave = both (demanded First child.0) (is_some (offer First child.0)) (used child.0 under (ap (list_any (nat_eq child.0)) uses ∙ one_used child.0)) shown;
      }

  -- a node that chooses
  pub pick_run : (choice : Choice) (eligible : Eligible) → (at : work_at setting i node ≡ Picks choice eligible) → (left right : List ℤ)
      → IsLane (λ j. Lane j (the_child choice eligible at).child) many left right → IsLane (λ j. Lane j i) many left right
  pick_run choice eligible at left right own =
      let one = the_child choice eligible at in
      lane_of_same (λ j. Lane j one.child) (λ j. Lane j i) many left right
      (λ j less. chosen setting sub clock past (suc many) goes.nodes goes.stretch i node goes.is choice eligible one.place one.child (suc j) at (omega arith) (omega (arith, less)) goes.gave one.pick_is one.there) own

  -- a leaf
  pub leaf_run : (leaf : Leaf) → work_at setting i node ≡ Plays leaf → (left right : List ℤ) → left ≡ lefts_of (leaf_slot setting.library leaf) (suc (gives_before past i)) many
      → right ≡ rights_of (leaf_slot setting.library leaf) (suc (gives_before past i)) many → IsLane (λ j. Lane j i) many left right
  leaf_run leaf at left right left_is right_is = lane_of_same (λ j. leaf_slot setting.library leaf (suc (gives_before past i) + j)) (λ j. Lane j i) many left right
      (λ j less. let e : gives_before past i + suc j ≡ suc (gives_before past i) + j = omega arith in
      played setting sub clock past (suc many) goes.nodes goes.stretch i node goes.is leaf (suc j) at (omega (arith, less)) goes.gave ∙ ap (leaf_slot setting.library leaf) e)
      (lane_from (leaf_slot setting.library leaf) (suc (gives_before past i)) many left right left_is right_is
      (λ j less. let e : gives_before past i + suc j ≡ suc (gives_before past i) + j = omega arith in
      sym (ap (λ n. is_inner (leaf_slot setting.library leaf n)) e)
      ∙ goes.stretch.leaves i node leaf (suc j) goes.is at (omega arith) (omega (arith, less)) goes.gave))

  -- a reader
  pub read_run : (buffer : ℕ) → work_at setting i node ≡ Reads buffer → (left right : List ℤ) (reader : Reader)
      → reader ≡ after_cell (reading_at setting buffer (length past) (reading_after setting i buffer past)).reader
      → IsLane (λ j. reader_slot (read_by j reader)) many left right → IsLane (λ j. Lane j i) many left right
  read_run buffer at left right reader was made =
      lane_of_same (λ j. reader_slot (read_by j reader)) (λ j. Lane j i) many left right
      (λ j less. read setting sub clock past (suc many) goes.nodes goes.stretch i node goes.is buffer (suc j) at (omega arith) (omega (arith, less)) goes.gave
      ∙ ap reader_slot (sym (one_before j (reading_at setting buffer (length past) (reading_after setting i buffer past)).reader)) ∙ ap (λ r. reader_slot (read_by j r)) (sym was)) made

  -- a crossfade, by its items
  pub fade_run : (overlap : ℕ) → work_at setting i node ≡ Fades overlap → (left right : List ℤ) (items : List Slot)
      → ((j : ℕ) → j < many → item_of overlap (sub i) (suc (position past i) + j) ≡ slot_at items (suc (position past i) + j))
      → suc (position past i) + many ≤ length items
      → left ≡ map slot_left (take many (drop (suc (position past i)) items)) → right ≡ map slot_right (take many (drop (suc (position past i)) items))
      → IsLane (λ j. Lane j i) many left right
  fade_run overlap at left right items are settled left_is right_is = lane_of_same (λ j. slot_at items (suc (position past i) + j)) (λ j. Lane j i) many left right
      (λ j less. let e : position past i + suc j ≡ suc (position past i) + j = omega arith in
      faded setting sub clock past (suc many) goes.nodes goes.stretch i node goes.is overlap (suc j) at (omega (arith, less)) goes.gave
      ∙ ap (item_of overlap (sub i)) e ∙ are j less)
      (items_lane items (suc (position past i)) many left right settled left_is right_is
      (λ j less. let e : position past i + suc j ≡ suc (position past i) + j = omega arith in
      ap is_inner (sym (are j less)) ∙ sym (ap (λ n. is_inner (item_of overlap (sub i) n)) e)
      ∙ goes.stretch.settled i node overlap (suc j) goes.is at (omega arith) (omega (arith, less)) goes.gave))
