-- A selection whose children go on as they were stays with its pick.
use Rattle.std.proofs.Common.{◌≡◌, ◌+◌, ◌∙◌, ◌⊎◌, ℕ, zero, suc, Some, None, Option, List, [], ◌∷◌, length, drop, Bool, true, false, cond, arith, refl, ap, sym, subst, nat_eq, inl, inr}
use Rattle.std.specs.Prelude.{is_some, ◌&&◌, ◌||◌, not}
use Rattle.std.proofs.lemmas.Bool.{false≢true, true≢false, eq-eqb, eqb-true}
use Rattle.frame_core.specs.declared.cell.Cell.{Cell}
use Rattle.frame_core.specs.Slots.{Slot, slot_at, is_first, is_inner}
use Rattle.op_select.specs.declared.rule.Rule.{Rule}
use Rattle.op_select.specs.declared.rule.Rule.TheVariants.{First, Turns}
use Rattle.op_select.specs.Selection.{first_ready, first_offering, goes_on, offers, first_pick, turn_pick, pick_of, is_last, picked_cell, picked}
use Rattle.stream_meaning.specs.Operators.{Selects}
use Rattle.stream_meaning.specs.Instants.{picked_part}
use Rattle.stretch_laws.specs.Steady.{Follows, AllFollow, IsFree}

pub none_follows : Follows None None
none_follows = record { there = refl; first = λ e. e }

pub follow_at : (slots others : List Slot) → AllFollow slots others → (i : ℕ) → Follows (slot_at slots i) (slot_at others i)
follow_at [] [] all i = none_follows
follow_at [] (o ∷ os) all i = absurd all
follow_at (s ∷ ss) [] all i = absurd all
follow_at (s ∷ ss) (o ∷ os) (here, all) zero = here
follow_at (s ∷ ss) (o ∷ os) (here, all) (suc i) = follow_at ss os all i

pub follow_length : (slots others : List Slot) → AllFollow slots others → length others ≡ length slots
follow_length [] [] all = refl
follow_length [] (o ∷ os) all = absurd all
follow_length (s ∷ ss) [] all = absurd all
follow_length (s ∷ ss) (o ∷ os) (here, all) = ap suc (follow_length ss os all)

follow_drop : (n : ℕ) (slots others : List Slot) → AllFollow slots others → AllFollow (drop n slots) (drop n others)
follow_drop zero slots others all = all
follow_drop (suc n) [] [] all = all
follow_drop (suc n) [] (o ∷ os) all = absurd all
follow_drop (suc n) (s ∷ ss) [] all = absurd all
follow_drop (suc n) (s ∷ ss) (o ∷ os) (here, all) = follow_drop n ss os all

ready_same : (slots others : List Slot) (eligible : List Bool) (from : ℕ) → AllFollow slots others → first_ready others eligible from ≡ first_ready slots eligible from
ready_same [] [] eligible from all = refl
ready_same [] (o ∷ os) eligible from all = absurd all
ready_same (s ∷ ss) [] eligible from all = absurd all
ready_same (s ∷ ss) (o ∷ os) [] from all = refl
ready_same (s ∷ ss) (o ∷ os) (mark ∷ eligible) from (here, all) =
    ap (λ now. cond (mark && now) (Some from) (first_ready os eligible (suc from))) here.there
    ∙ ap (λ rest. cond (mark && is_some s) (Some from) rest) (ready_same ss os eligible (suc from) all)

offering_same : (slots others : List Slot) (from : ℕ) → AllFollow slots others → first_offering others from ≡ first_offering slots from
offering_same [] [] from all = refl
offering_same [] (o ∷ os) from all = absurd all
offering_same (s ∷ ss) [] from all = absurd all
offering_same (s ∷ ss) (o ∷ os) from (here, all) =
    ap (λ now. cond now (Some from) (first_offering os (suc from))) here.there
    ∙ ap (λ rest. cond (is_some s) (Some from) rest) (offering_same ss os (suc from) all)

-- a child goes on or not as before, or it began a track
goes_by : (before after : Bool) → (after ≡ true → before ≡ true) → (not after ≡ not before) ⊎ (before ≡ true)
goes_by true after h = inr refl
goes_by false false h = inl refl
goes_by false true h = absurd (false≢true (h refl))

goes_turned : (slot other : Slot) → Follows slot other → (is_inner other ≡ is_inner slot) ⊎ (is_first slot ≡ true)
goes_turned None None f = inl refl
goes_turned None (Some b) f = absurd (true≢false f.there)
goes_turned (Some a) None f = absurd (false≢true f.there)
goes_turned (Some a) (Some b) f = elim (goes_by a.first b.first f.first) [ inl e ↦ inl e | inr h ↦ inr h ]

begins_stops : (slot : Slot) → is_first slot ≡ true → is_inner slot ≡ false
begins_stops None e = refl
begins_stops (Some a) e = ap (λ f. not f) e

-- the pick is the same, or both name a child and the child used last began a track
abbrev Turned : List Slot → Option ℕ → (pick later : Option ℕ) → Type 0
Turned slots last pick later = (later ≡ pick) ⊎ ((child : ℕ) × (last ≡ Some child) × (is_first (slot_at slots child) ≡ true) × (is_some pick ≡ true) × (is_some later ≡ true))

some_either : (goes : Bool) (child : ℕ) (rest : Option ℕ) → is_some rest ≡ true → is_some (cond goes (Some child) rest) ≡ true
some_either true child rest is = refl
some_either false child rest is = is

some_rest : (goes : Bool) (child : ℕ) (rest : Option ℕ) → goes ≡ false → is_some (cond goes (Some child) rest) ≡ true → is_some rest ≡ true
some_rest true child rest stops is = absurd (true≢false stops)
some_rest false child rest stops is = is

-- a child that is played on while it goes on, and else another search
going_turned : (slots others : List Slot) (child : ℕ) (rest later : Option ℕ) → Follows (slot_at slots child) (slot_at others child) → later ≡ rest
    → (is_first (slot_at slots child) ≡ true → is_some (cond (goes_on slots child) (Some child) rest) ≡ true)
    → Turned slots (Some child) (cond (goes_on slots child) (Some child) rest) (cond (goes_on others child) (Some child) later)
going_turned slots others child rest later follows same free = elim (goes_turned (slot_at slots child) (slot_at others child) follows) [
  | inl e ↦ inl (ap (λ goes. cond goes (Some child) later) e ∙ ap (λ r. cond (goes_on slots child) (Some child) r) same)
  | inr begins ↦ inr (
    child,
    refl,
    begins,
    free begins,
    some_either (goes_on others child) child later
        (ap is_some same ∙ some_rest (goes_on slots child) child rest (begins_stops (slot_at slots child) begins) (free begins)),
  )
]

first_turned : (sensitive : Bool) (slots others : List Slot) (eligible : List Bool) (last : Option ℕ) → AllFollow slots others → IsFree (Selects (First sensitive)) slots eligible last
    → Turned slots last (first_pick sensitive slots eligible last) (first_pick sensitive others eligible last)
first_turned false slots others eligible last all free = inl (ready_same slots others eligible 0 all)
first_turned true slots others eligible None all free = inl (ready_same slots others eligible 0 all)
first_turned true slots others eligible (Some child) all free =
    going_turned slots others child (first_ready slots eligible 0) (first_ready others eligible 0) (follow_at slots others all child) (ready_same slots others eligible 0 all) free

abbrev turn_of : (slots : List Slot) (child : ℕ) (ends : Bool) → Option ℕ
turn_of slots child ends =
    cond ends (cond (offers slots child) (Some child) None) (cond (goes_on slots child) (Some child) (first_offering (drop (suc child) slots) (suc child)))

turn_at : (slots others : List Slot) (child : ℕ) (ends : Bool) → AllFollow slots others → (is_first (slot_at slots child) ≡ true → is_some (turn_of slots child ends) ≡ true)
    → Turned slots (Some child) (turn_of slots child ends) (turn_of others child ends)
turn_at slots others child true all free = inl (ap (λ now. cond now (Some child) None) (follow_at slots others all child).there)
turn_at slots others child false all free =
    going_turned slots others child (first_offering (drop (suc child) slots) (suc child)) (first_offering (drop (suc child) others) (suc child)) (follow_at slots others all child)
    (offering_same (drop (suc child) slots) (drop (suc child) others) (suc child) (follow_drop (suc child) slots others all)) free

turn_turned : (slots others : List Slot) (eligible : List Bool) (last : Option ℕ) → AllFollow slots others → IsFree (Selects Turns) slots eligible last
    → Turned slots last (turn_pick slots last) (turn_pick others last)
turn_turned slots others eligible None all free = inl (offering_same slots others 0 all)
turn_turned slots others eligible (Some child) all free =
    subst (λ long. Turned slots (Some child) (turn_of slots child (nat_eq (suc child) (length slots))) (turn_of others child (nat_eq (suc child) long)))
    (sym (follow_length slots others all)) (turn_at slots others child (nat_eq (suc child) (length slots)) all free)

pick_turned : (rule : Rule) (slots others : List Slot) (eligible : List Bool) (last : Option ℕ) → AllFollow slots others → IsFree (Selects rule) slots eligible last
    → Turned slots last (pick_of rule slots eligible last) (pick_of rule others eligible last)
pick_turned (First sensitive) slots others eligible last all free = first_turned sensitive slots others eligible last all free
pick_turned Turns slots others eligible last all free = turn_turned slots others eligible last all free

-- a child that is named offers
abbrev FoundFrom : List Slot → ℕ → ℕ → Type 0
FoundFrom slots from child = (i : ℕ) × (child ≡ from + i) × (is_some (slot_at slots i) ≡ true)

found_by : (now : Bool) (rest : Option ℕ) (from child : ℕ) → cond now (Some from) rest ≡ Some child → ((now ≡ true) × (child ≡ from)) ⊎ (rest ≡ Some child)
found_by true rest from child e = (let same : from ≡ child = cc in inl (refl, sym same))
found_by false rest from child e = inr e

and_right : (a b : Bool) → (a && b) ≡ true → b ≡ true
and_right true b e = e
and_right false b e = absurd (false≢true e)

and_left : (a b : Bool) → (a && b) ≡ true → a ≡ true
and_left true b e = refl
and_left false b e = e

later_found : (slot : Slot) (slots : List Slot) (from child : ℕ) → FoundFrom slots (suc from) child → FoundFrom (slot ∷ slots) from child
later_found slot slots from child (i, at, is) = (suc i, omega (arith, at), is)

ready_found : (slots : List Slot) (eligible : List Bool) (from child : ℕ) → first_ready slots eligible from ≡ Some child → FoundFrom slots from child
ready_found [] eligible from child e = cc
ready_found (s ∷ ss) [] from child e = cc
ready_found (s ∷ ss) (mark ∷ eligible) from child e = elim (found_by (mark && is_some s) (first_ready ss eligible (suc from)) from child e) [
  | inl h ↦ (0, omega (arith, h.1), and_right mark (is_some s) h.0)
  | inr h ↦ later_found s ss from child (ready_found ss eligible (suc from) child h)
]

offering_found : (slots : List Slot) (from child : ℕ) → first_offering slots from ≡ Some child → FoundFrom slots from child
offering_found [] from child e = cc
offering_found (s ∷ ss) from child e = elim (found_by (is_some s) (first_offering ss (suc from)) from child e) [
  | inl h ↦ (0, omega (arith, h.1), h.0)
  | inr h ↦ later_found s ss from child (offering_found ss (suc from) child h)
]

found_offers : (slots : List Slot) (child : ℕ) → FoundFrom slots 0 child → is_some (slot_at slots child) ≡ true
found_offers slots child (i, at, is) = let e : child ≡ i = omega (arith, at) in subst (λ n. is_some (slot_at slots n) ≡ true) (sym e) is

dropped_at : (slots : List Slot) (n i : ℕ) → slot_at (drop n slots) i ≡ slot_at slots (n + i)
dropped_at [] zero i = refl
dropped_at [] (suc n) i = refl
dropped_at (slot ∷ slots) zero i = let e : i ≡ 0 + i = omega arith in ap (slot_at (slot ∷ slots)) e
dropped_at (slot ∷ slots) (suc n) i = let e : suc (n + i) ≡ suc n + i = omega arith in dropped_at slots n i ∙ ap (slot_at (slot ∷ slots)) e

dropped_offers : (slots : List Slot) (n child : ℕ) → FoundFrom (drop n slots) n child → is_some (slot_at slots child) ≡ true
dropped_offers slots n child (i, at, is) =
    subst (λ k. is_some (slot_at slots k) ≡ true) (sym at) (ap is_some (sym (dropped_at slots n i)) ∙ is)

going_offers : (slots : List Slot) (last : ℕ) (rest : Option ℕ) (child : ℕ) → (rest ≡ Some child → is_some (slot_at slots child) ≡ true)
    → cond (goes_on slots last) (Some last) rest ≡ Some child → is_some (slot_at slots child) ≡ true
going_offers slots last rest child more e = elim (found_by (goes_on slots last) rest last child e) [
  | inl h ↦ subst (λ n. is_some (slot_at slots n) ≡ true) (sym h.1) (and_left (is_some (slot_at slots last)) (not (is_first (slot_at slots last))) h.0)
  | inr h ↦ more h
]

turn_offers : (slots : List Slot) (last : ℕ) (ends : Bool) (child : ℕ) → turn_of slots last ends ≡ Some child → is_some (slot_at slots child) ≡ true
turn_offers slots last true child e = elim (found_by (offers slots last) None last child e) [
  | inl h ↦ subst (λ n. is_some (slot_at slots n) ≡ true) (sym h.1) h.0
  | inr h ↦ cc
]
turn_offers slots last false child e =
    going_offers slots last (first_offering (drop (suc last) slots) (suc last)) child
    (λ h. dropped_offers slots (suc last) child (offering_found (drop (suc last) slots) (suc last) child h)) e

pick_offers : (rule : Rule) (slots : List Slot) (eligible : List Bool) (last : Option ℕ) (child : ℕ) → pick_of rule slots eligible last ≡ Some child → is_some (slot_at slots child) ≡ true
pick_offers (First false) slots eligible last child e = found_offers slots child (ready_found slots eligible 0 child e)
pick_offers (First true) slots eligible None child e = found_offers slots child (ready_found slots eligible 0 child e)
pick_offers (First true) slots eligible (Some last) child e =
    going_offers slots last (first_ready slots eligible 0) child (λ h. found_offers slots child (ready_found slots eligible 0 child h)) e
pick_offers Turns slots eligible None child e = found_offers slots child (offering_found slots 0 child e)
pick_offers Turns slots eligible (Some last) child e = turn_offers slots last (nat_eq (suc last) (length slots)) child e

-- what is offered with a child
abbrev pub picked_slot : List Slot → (last pick : Option ℕ) → Slot
picked_slot slots last pick = (picked_part (picked slots last pick)).slot

pub picked-none : (slots : List Slot) (last : Option ℕ) (child : ℕ) → slot_at slots child ≡ None → picked slots last (Some child) ≡ None
picked-none slots last child at = rw at refl

pub picked-some : (slots : List Slot) (last : Option ℕ) (child : ℕ) (cell : Cell) → slot_at slots child ≡ Some cell
    → picked slots last (Some child) ≡ Some (record { child = child; cell = picked_cell last child cell })
picked-some slots last child cell at = rw at refl

or_falls : (before after more : Bool) → (after ≡ true → before ≡ true) → (after || more) ≡ true → (before || more) ≡ true
or_falls true after more h e = refl
or_falls false false more h e = e
or_falls false true more h e = absurd (false≢true (h refl))

same_by : (slots others : List Slot) (last : Option ℕ) (child : ℕ) (slot other : Slot) → slot_at slots child ≡ slot → slot_at others child ≡ other → Follows slot other
    → Follows (picked_slot slots last (Some child)) (picked_slot others last (Some child))
same_by slots others last child None None at then f =
    subst (λ p. Follows p (picked_part (picked others last (Some child))).slot) (ap (λ found. (picked_part found).slot) (sym (picked-none slots last child at)))
    (subst (λ p. Follows None p) (ap (λ found. (picked_part found).slot) (sym (picked-none others last child then))) none_follows)
same_by slots others last child None (Some b) at then f = absurd (true≢false f.there)
same_by slots others last child (Some a) None at then f = absurd (false≢true f.there)
same_by slots others last child (Some a) (Some b) at then f =
    subst (λ p. Follows p (picked_part (picked others last (Some child))).slot) (ap (λ found. (picked_part found).slot) (sym (picked-some slots last child a at)))
    (subst (λ p. Follows (Some (picked_cell last child a)) p) (ap (λ found. (picked_part found).slot) (sym (picked-some others last child b then)))
    (record { there = refl; first = or_falls a.first b.first (not (is_last last child)) f.first }))

same_follows : (slots others : List Slot) (last pick : Option ℕ) → AllFollow slots others → Follows (picked_slot slots last pick) (picked_slot others last pick)
same_follows slots others last None all = none_follows
same_follows slots others last (Some child) all =
    same_by slots others last child (slot_at slots child) (slot_at others child) refl refl (follow_at slots others all child)

-- a child that is picked behind one that began a track begins one too
or_begins : (first last : Bool) → (last ≡ true → first ≡ true) → (first || not last) ≡ true
or_begins true last h = refl
or_begins false true h = absurd (false≢true (h refl))
or_begins false false h = refl

begun_by : (slots : List Slot) (last child : ℕ) (slot : Slot) → slot_at slots child ≡ slot → is_some slot ≡ true → is_first (slot_at slots last) ≡ true
    → is_first (picked_slot slots (Some last) (Some child)) ≡ true
begun_by slots last child None at is begins = absurd (false≢true is)
begun_by slots last child (Some a) at is begins =
    ap (λ found. is_first (picked_part found).slot) (picked-some slots (Some last) child a at)
    ∙ or_begins a.first (nat_eq last child) (λ e. ap is_first (sym at) ∙ ap (λ n. is_first (slot_at slots n)) (sym (same e)) ∙ begins)
  where
    same : nat_eq last child ≡ true → last ≡ child
    same e = eqb-true last child e

some_by : (slots : List Slot) (last : Option ℕ) (child : ℕ) (slot : Slot) → slot_at slots child ≡ slot → is_some slot ≡ true
    → is_some (picked_slot slots last (Some child)) ≡ true
some_by slots last child None at is = absurd (false≢true is)
some_by slots last child (Some a) at is = ap (λ found. is_some (picked_part found).slot) (picked-some slots last child a at)

-- what a selection offers goes on as its children do
pub selection_follows : (rule : Rule) (slots others : List Slot) (eligible : List Bool) (last : Option ℕ) → AllFollow slots others → IsFree (Selects rule) slots eligible last
    → Follows (picked_slot slots last (pick_of rule slots eligible last)) (picked_slot others last (pick_of rule others eligible last))
selection_follows rule slots others eligible last all free = elim (pick_turned rule slots others eligible last all free) [
  | inl same ↦ subst (λ pick. Follows (picked_slot slots last (pick_of rule slots eligible last)) (picked_slot others last pick)) (sym same)
      (same_follows slots others last (pick_of rule slots eligible last) all)
  | inr h ↦ turned h.0 (pick_of rule slots eligible last) (pick_of rule others eligible last) refl refl h.1 h.2 h.3 h.4
]
  where
    turned : (child : ℕ) (pick later : Option ℕ) → pick_of rule slots eligible last ≡ pick → pick_of rule others eligible last ≡ later → last ≡ Some child
        → is_first (slot_at slots child) ≡ true → is_some pick ≡ true → is_some later ≡ true
        → Follows (picked_slot slots last pick) (picked_slot others last later)
    turned child None later e l at begins some then = absurd (false≢true some)
    turned child (Some k) None e l at begins some then = absurd (false≢true then)
    turned child (Some k) (Some m) e l at begins some then =
        let before : is_some (slot_at slots k) ≡ true = pick_offers rule slots eligible last k e in
        let after : is_some (slot_at others m) ≡ true = pick_offers rule others eligible last m l in
        record {
          there = some_by others last m (slot_at others m) refl after ∙ sym (some_by slots last k (slot_at slots k) refl before);
          first = λ any. subst (λ l. is_first (picked_slot slots l (Some k)) ≡ true) (sym at) (begun_by slots child k (slot_at slots k) refl before begins);
        }

-- a selection that gave picks the same child, while that goes on with its track
turn_kept : (others : List Slot) (child : ℕ) (ends : Bool) → goes_on others child ≡ true → turn_of others child ends ≡ Some child
turn_kept others child true goes = ap (λ now. cond now (Some child) None) (and_left (is_some (slot_at others child)) (not (is_first (slot_at others child))) goes)
turn_kept others child false goes = ap (λ now. cond now (Some child) (first_offering (drop (suc child) others) (suc child))) goes

pub pick_kept : (rule : Rule) (slots others : List Slot) (eligible : List Bool) (last : Option ℕ) (child : ℕ) → AllFollow slots others → pick_of rule slots eligible last ≡ Some child
    → goes_on others child ≡ true → pick_of rule others eligible (Some child) ≡ Some child
pick_kept (First false) slots others eligible last child all e goes = ready_same slots others eligible 0 all ∙ e
pick_kept (First true) slots others eligible last child all e goes = ap (λ now. cond now (Some child) (first_ready others eligible 0)) goes
pick_kept Turns slots others eligible last child all e goes = turn_kept others child (nat_eq (suc child) (length others)) goes

kept_by : (others : List Slot) (child : ℕ) (slot : Slot) → slot_at others child ≡ slot → is_inner slot ≡ true → is_inner (picked_slot others (Some child) (Some child)) ≡ true
kept_by others child None at is = absurd (false≢true is)
kept_by others child (Some a) at is =
    ap (λ found. is_inner (picked_part found).slot) (picked-some others (Some child) child a at)
    ∙ ap (λ last. not (a.first || not last)) (eq-eqb child child refl) ∙ stays a.first is
  where
    stays : (first : Bool) → not first ≡ true → not (first || false) ≡ true
    stays true e = e
    stays false e = e

-- and goes on with that track itself
pub kept_inner : (others : List Slot) (child : ℕ) → goes_on others child ≡ true → is_inner (picked_slot others (Some child) (Some child)) ≡ true
kept_inner others child goes = kept_by others child (slot_at others child) refl goes
