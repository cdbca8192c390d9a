-- What a node does goes on as its children do.
use Rattle.std.proofs.Common.{◌≡◌, ◌∙◌, ℕ, Some, None, Option, List, [], ◌∷◌, Bool, true, false, refl, ap, sym, subst}
use Rattle.std.specs.Prelude.{is_some, ◌&&◌, not}
use Rattle.std.proofs.lemmas.Bool.{false≢true, true≢false}
use Rattle.frame_core.specs.declared.cell.Cell.{Cell}
use Rattle.frame_core.specs.Slots.{Slot, slot_at, is_first, is_inner}
use Rattle.op_select.specs.declared.rule.Picked.{Picked}
use Rattle.op_select.specs.Selection.{goes_on, picked}
use Rattle.stream_meaning.specs.declared.part.Part.{Part}
use Rattle.stream_meaning.specs.Arithmetic.{Mixing, Adds, Scales, Halves, Doubles, Passes, cells_of, changed, summed_slot, changed_slot, mix_slot}
use Rattle.stream_meaning.specs.Operators.{Choice, child_used}
use Rattle.stream_meaning.specs.Instants.{picked_part, unpicked}
use Rattle.stretch_laws.specs.Steady.{Follows, AllFollow, IsFree}
use Rattle.std.proofs.lemmas.Option.{none-some}
use Rattle.stretch_laws.proofs.Staying.{none_follows, kept_inner, picked-none, picked-some}
use Rattle.stretch_laws.proofs.Turning.{choice_follows, choice_kept}

-- a part at a later instant: what is demanded picks the same, and what gives goes on with its track
pub record KeptPart (demand : Bool) (before after : Part) : Type 0 where
  pub slot : Follows before.slot after.slot
  pub pick : demand ≡ true → after.pick ≡ before.pick
  pub inner : (demand && is_some before.slot) ≡ true → is_inner after.slot ≡ true

pub and_right : (a b : Bool) → (a && b) ≡ true → b ≡ true
and_right true b e = e
and_right false b e = absurd (false≢true e)

pub inner_some : (slot : Slot) → is_inner slot ≡ true → is_some slot ≡ true
inner_some None e = e
inner_some (Some cell) e = refl

pub inner_first : (slot : Slot) → is_inner slot ≡ true → is_first slot ≡ false
inner_first None e = refl
inner_first (Some cell) e = stops cell.first e
  where
    stops : (first : Bool) → not first ≡ true → first ≡ false
    stops true e = absurd (false≢true e)
    stops false e = refl

same_follows : (slot other : Slot) → other ≡ slot → Follows slot other
same_follows slot other e = record { there = ap is_some e; first = λ is. ap is_first (sym e) ∙ is }

inner_follows : (slot other : Slot) → is_some slot ≡ true → is_inner other ≡ true → Follows slot other
inner_follows slot other is inner = record { there = inner_some other inner ∙ sym is; first = λ e. absurd (true≢false (sym e ∙ inner_first other inner)) }

-- a node that has no pick: where it gives it goes on with its track, and else it stays
pub kept_alone : (demand : Bool) (before after : Slot) → ((demand && is_some before) ≡ true → is_inner after ≡ true) → ((demand && is_some before) ≡ false → after ≡ before)
    → KeptPart demand (unpicked before) (unpicked after)
kept_alone demand before after gave stayed = by (demand && is_some before) refl
  where
    by : (gives : Bool) → (demand && is_some before) ≡ gives → KeptPart demand (unpicked before) (unpicked after)
    by true e = record { slot = inner_follows before after (and_right demand (is_some before) e) (gave e); pick = λ d. refl; inner = gave }
    by false e = record { slot = same_follows before after (stayed e); pick = λ d. refl; inner = gave }

-- each of these offers nothing, or a cell that begins no track
abbrev pub NoneBegins : List Slot → Type 0
NoneBegins [] = Unit {0}
NoneBegins (slot ∷ slots) = (is_first slot ≡ false) × NoneBegins slots

-- the first cell among slots
abbrev front : List Cell → Slot
front [] = None
front (cell ∷ cells) = Some cell

front_follows : (slots others : List Slot) → AllFollow slots others → Follows (front (cells_of slots)) (front (cells_of others))
front_follows [] [] all = none_follows
front_follows [] (o ∷ os) all = absurd all
front_follows (s ∷ ss) [] all = absurd all
front_follows (None ∷ ss) (None ∷ os) (here, all) = front_follows ss os all
front_follows (None ∷ ss) (Some b ∷ os) (here, all) = absurd (true≢false here.there)
front_follows (Some a ∷ ss) (None ∷ os) (here, all) = absurd (false≢true here.there)
front_follows (Some a ∷ ss) (Some b ∷ os) (here, all) = record { there = refl; first = here.first }

front_begins : (slots : List Slot) → NoneBegins slots → is_first (front (cells_of slots)) ≡ false
front_begins [] none = refl
front_begins (None ∷ ss) (here, none) = front_begins ss none
front_begins (Some a ∷ ss) (here, none) = here

changed_like : (mixing : Mixing) (cells : List Cell)
    → (is_some (changed_slot mixing cells) ≡ is_some (front cells)) × (is_first (changed_slot mixing cells) ≡ is_first (front cells))
changed_like mixing [] = (refl, refl)
changed_like mixing (cell ∷ cells) = (refl, same mixing cell)
  where
    same : (mixing : Mixing) (cell : Cell) → (changed mixing cell).first ≡ cell.first
    same (Adds normalize) cell = refl
    same (Scales factor) cell = refl
    same Halves cell = refl
    same Doubles cell = refl
    same Passes cell = refl

-- a mix offers where one of its children does, and begins a track where the first of them does
mix_like : (mixing : Mixing) (slots : List Slot) → (is_some (mix_slot mixing slots) ≡ is_some (front (cells_of slots))) × (is_first (mix_slot mixing slots) ≡ is_first (front (cells_of slots)))
mix_like (Adds normalize) slots = by (cells_of slots)
  where
    by : (cells : List Cell) → (is_some (summed_slot normalize cells) ≡ is_some (front cells)) × (is_first (summed_slot normalize cells) ≡ is_first (front cells))
    by [] = (refl, refl)
    by (cell ∷ cells) = (refl, refl)
mix_like (Scales factor) slots = changed_like (Scales factor) (cells_of slots)
mix_like Halves slots = changed_like Halves (cells_of slots)
mix_like Doubles slots = changed_like Doubles (cells_of slots)
mix_like Passes slots = changed_like Passes (cells_of slots)

pub mix_kept : (demand : Bool) (mixing : Mixing) (slots others : List Slot) → AllFollow slots others → (demand ≡ true → NoneBegins others)
    → KeptPart demand (unpicked (mix_slot mixing slots)) (unpicked (mix_slot mixing others))
mix_kept demand mixing slots others all quiet =
    let before = mix_like mixing slots in
    let after = mix_like mixing others in
    let f = front_follows slots others all in
    let there : is_some (mix_slot mixing others) ≡ is_some (mix_slot mixing slots) = after.0 ∙ f.there ∙ sym before.0 in
    record {
      slot = record { there = there; first = λ e. before.1 ∙ f.first (sym after.1 ∙ e) };
      pick = λ d. refl;
      inner = λ e. both_inner (mix_slot mixing others) (there ∙ and_right demand (is_some (mix_slot mixing slots)) e)
          (after.1 ∙ front_begins others (quiet (and_left demand (is_some (mix_slot mixing slots)) e)));
    }
  where
    both_inner : (slot : Slot) → is_some slot ≡ true → is_first slot ≡ false → is_inner slot ≡ true
    both_inner None is first = is
    both_inner (Some cell) is first = ap (λ f. not f) first

    and_left : (a b : Bool) → (a && b) ≡ true → a ≡ true
    and_left true b e = refl
    and_left false b e = e

picked_pick : (found : Option Picked) → is_some (picked_part found).slot ≡ false → (picked_part found).pick ≡ None
picked_pick None e = refl
picked_pick (Some p) e = absurd (true≢false e)

pub named : (slots : List Slot) (last pick : Option ℕ) (child : ℕ) → (picked_part (picked slots last pick)).pick ≡ Some child → pick ≡ Some child
named slots last None child e = cc
named slots last (Some at) child e = by (slot_at slots at) refl e
  where
    by : (slot : Slot) → slot_at slots at ≡ slot → (picked_part (picked slots last (Some at))).pick ≡ Some child → Some at ≡ Some child
    by None is e = absurd (none-some child (sym (ap (λ (found : Option Picked). (picked_part found).pick) (picked-none slots last at is)) ∙ e))
    by (Some cell) is e = sym (ap (λ (found : Option Picked). (picked_part found).pick) (picked-some slots last at cell is)) ∙ e

pub some_pick : (found : Option Picked) → is_some (picked_part found).slot ≡ true → (child : ℕ) × ((picked_part found).pick ≡ Some child)
some_pick None e = absurd (false≢true e)
some_pick (Some p) e = (p.child, refl)

picked_child : (others : List Slot) (child : ℕ) → goes_on others child ≡ true → (picked_part (picked others (Some child) (Some child))).pick ≡ Some child
picked_child others child goes = by (slot_at others child) refl goes
  where
    by : (slot : Slot) → slot_at others child ≡ slot → is_inner slot ≡ true → (picked_part (picked others (Some child) (Some child))).pick ≡ Some child
    by None is goes = absurd (false≢true goes)
    by (Some cell) is goes = ap (λ (found : Option Picked). (picked_part found).pick) (picked-some others (Some child) child cell is)

none_given : (demand some : Bool) → demand ≡ true → (demand && some) ≡ false → some ≡ false
none_given true some d e = e
none_given false some d e = absurd (false≢true d)

-- a child that is picked offers
pub pick_offers_there : (slots : List Slot) (last pick : Option ℕ) (place : ℕ) → (picked_part (picked slots last pick)).pick ≡ Some place → is_some (slot_at slots place) ≡ true
pick_offers_there slots last None place e = absurd (none-some place e)
pick_offers_there slots last (Some at) place e = by (slot_at slots at) refl e
  where
    by : (slot : Slot) → slot_at slots at ≡ slot → (picked_part (picked slots last (Some at))).pick ≡ Some place → is_some (slot_at slots place) ≡ true
    by None is e = absurd (none-some place (sym (ap (λ (found : Option Picked). (picked_part found).pick) (picked-none slots last at is)) ∙ e))
    by (Some cell) is e =
        let named : Some at ≡ Some place = sym (ap (λ (found : Option Picked). (picked_part found).pick) (picked-some slots last at cell is)) ∙ e in
        let same : at ≡ place = cc in
        ap (λ n. is_some (slot_at slots n)) (sym same) ∙ ap is_some is

-- a node that uses one of its children, behind so many choices, and at a later instant behind so many more
module _ (demand : Bool) (choice : Choice) (slots others : List Slot) (eligible : List Bool) (last later : Option ℕ) (made more : ℕ) (all : AllFollow slots others)
    (free : IsFree choice slots eligible last) where
  abbrev Before : Part
  Before = picked_part (picked slots last (child_used choice slots eligible last made))

  abbrev After : Option ℕ → ℕ → Part
  After last made = picked_part (picked others last (child_used choice others eligible last made))

  stayed : (demand && is_some Before.slot) ≡ false → KeptPart demand Before (After last made)
  stayed e =
      let follows : Follows Before.slot (After last made).slot = choice_follows choice slots others eligible last made all free in
      record {
        slot = follows;
        pick = λ d. (let none : is_some Before.slot ≡ false = none_given demand (is_some Before.slot) d e in
            picked_pick (picked others last (child_used choice others eligible last made)) (follows.there ∙ none)
            ∙ sym (picked_pick (picked slots last (child_used choice slots eligible last made)) none));
        inner = λ g. absurd (true≢false (sym g ∙ e));
      }

  gone_on : (child : ℕ) → is_some Before.slot ≡ true → Before.pick ≡ Some child → goes_on others child ≡ true → KeptPart demand Before (After (Some child) more)
  gone_on child some at goes =
      let kept : child_used choice others eligible (Some child) more ≡ Some child =
      choice_kept choice slots others eligible last child made more all (named slots last (child_used choice slots eligible last made) child at) goes in
      let inner : is_inner (picked_part (picked others (Some child) (Some child))).slot ≡ true = kept_inner others child goes in
      subst (λ pick. KeptPart demand Before (picked_part (picked others (Some child) pick))) (sym kept) (record {
        slot = inner_follows Before.slot (picked_part (picked others (Some child) (Some child))).slot some inner;
        pick = λ d. picked_child others child goes ∙ sym at;
        inner = λ g. inner;
      })

  pub used_kept : ((demand && is_some Before.slot) ≡ false → later ≡ last) → ((demand && is_some Before.slot) ≡ false → more ≡ made)
      → ((demand && is_some Before.slot) ≡ true → later ≡ Before.pick)
      → ((demand && is_some Before.slot) ≡ true → (child : ℕ) → Before.pick ≡ Some child → goes_on others child ≡ true) → KeptPart demand Before (After later more)
  used_kept stays waits gave goes = by (demand && is_some Before.slot) refl
    where
      by : (gives : Bool) → (demand && is_some Before.slot) ≡ gives → KeptPart demand Before (After later more)
      by false e = subst (λ l. KeptPart demand Before (After l more)) (sym (stays e)) (subst (λ n. KeptPart demand Before (After last n)) (sym (waits e)) (stayed e))
      by true e =
          let some : is_some Before.slot ≡ true = and_right demand (is_some Before.slot) e in
          let found = some_pick (picked slots last (child_used choice slots eligible last made)) some in
          subst (λ l. KeptPart demand Before (After l more)) (sym (gave e ∙ found.1)) (gone_on found.0 some found.1 (goes e found.0 found.1))
