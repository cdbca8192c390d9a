-- A reader that is drawn gives a frame of cells in each tick, or all that it holds.
use Rattle.std.proofs.Common.{◌≡◌, ◌<◌, ◌≤◌, ◌+◌, ◌*◌, ◌%◌, ◌&&◌, ℕ, zero, suc, Bool, true, false, is_some, List, [], ◌∷◌, length, drop, nat_eq, if◌then◌else◌, refl, ap, sym, subst, ◌∙◌, arith, true≢false}
use Rattle.std.proofs.lemmas.List.{drop-drop}
use Rattle.std.proofs.Math.Nat.{mul-add-mod_self_right, mod-eq_of_lt, suc-mul}
use Rattle.std.proofs.lemmas.Bool.Decides.{nat_tests}
use Rattle.frame_core.specs.declared.cell.Cell.{Cell}
use Rattle.plan_core.specs.declared.node.Node.{Node}
use Rattle.clock_infer.specs.declared.clock_map.NodeClock.TheVariants.{Main}
use Rattle.op_leaf.specs.Readers.{Reader, after_cell, read_by, reader_slot, reader_takes}
use Rattle.stream_meaning.specs.declared.part.Part.{Part}
use Rattle.stream_meaning.specs.Instants.{Setting, Moment, Reading, clock_of, gives, offer, first_instants, moment_after, part_by, parts_upto, slots_at, demanded, sub_of, next_answers, started, reading_at, read_on, reading_after}
use Rattle.stream_meaning.proofs.Unfailing.{own_part}
use Rattle.run_records.specs.Pace.{IsDrawn, ticked, untaken}
use Rattle.run_records.proofs.Owing.{ticked_sized}

idle_fields : (cells : List Cell) (playing : Bool) (p f : ℕ) → is_some (reader_slot (record { cells = cells; playing = playing; prefill = p; frame = f })) ≡ false
    → after_cell (record { cells = cells; playing = playing; prefill = p; frame = f }) ≡ record { cells = cells; playing = playing; prefill = p; frame = f }
idle_fields cells false p f e = refl
idle_fields [] true p f e = refl
idle_fields (cell ∷ cells) true p f e = absurd (true≢false e)

idle_cell : (r : Reader) → is_some (reader_slot r) ≡ false → after_cell r ≡ r
idle_cell r e = idle_fields r.cells r.playing r.prefill r.frame e

and_drawn : (d s : Bool) → (s ≡ true → d ≡ true) → (d && s) ≡ s
and_drawn true s h = refl
and_drawn false true h = h refl
and_drawn false false h = refl

-- what a reader leaves where it gives what it offers
given_on : (r : Reading) (gave : Bool) → gave ≡ is_some (reader_slot r.reader) → read_on gave r ≡ record { reader = after_cell r.reader; taken = r.taken }
given_on r true e = refl
given_on r false e = ap (λ (x : Reader). record { reader = x; taken = r.taken }) (sym (idle_cell r.reader (sym e)))

module _ (setting : Setting) (b m i : ℕ) (node : Node) (is : IsDrawn setting b m i node) (some : 1 ≤ setting.plan.frame) where
  abbrev pub Gone : ℕ → List Moment
  Gone n = first_instants setting (sub_of setting) (Main m) n

  abbrev Next : ℕ → Moment
  Next n = moment_after setting (sub_of setting) (Main m) (Gone n)

  abbrev pub Before : ℕ → Reading
  Before n = reading_after setting i b (Gone n)

  long : (n : ℕ) → length (Gone n) ≡ n
  long zero = refl
  long (suc n) = ap suc (long n)

  offer_is : (n : ℕ) → offer (Next n) i ≡ reader_slot (reading_at setting b (length (Gone n)) (Before n)).reader
  offer_is n = subst (λ clock. offer (moment_after setting (sub_of setting) clock (first_instants setting (sub_of setting) clock n)) i
      ≡ reader_slot (reading_at setting b (length (first_instants setting (sub_of setting) clock n)) (reading_after setting i b (first_instants setting (sub_of setting) clock n))).reader) is.lies
      (ap (λ (part : Part). part.slot) (own_part setting (sub_of setting) (first_instants setting (sub_of setting) (clock_of setting i) n) i node is.found
      ∙ ap (λ w. part_by setting (sub_of setting) (first_instants setting (sub_of setting) (clock_of setting i) n) i w
      (slots_at (parts_upto setting (sub_of setting) (clock_of setting i) (first_instants setting (sub_of setting) (clock_of setting i) n) i) node.children)) is.does))

  gives_is : (n : ℕ) → gives (Next n) i ≡ is_some (reader_slot (reading_at setting b (length (Gone n)) (Before n)).reader)
  gives_is n = and_drawn (demanded (Next n) i) (is_some (offer (Next n) i)) (is.drawn n) ∙ ap is_some (offer_is n)

  step : (n : ℕ) → Before (suc n) ≡ record { reader = after_cell (reading_at setting b (length (Gone n)) (Before n)).reader; taken = (reading_at setting b (length (Gone n)) (Before n)).taken }
  step n = given_on (reading_at setting b (length (Gone n)) (Before n)) (gives (Next n) i) (gives_is n)

  -- tick t
  module _ (t : ℕ) where
    abbrev pub First : ℕ
    First = t * setting.plan.frame

    abbrev pub Start : Reading
    Start = started (setting.answers b) (Before First)

    place : (k : ℕ) → k < setting.plan.frame → length (Gone (First + k)) % setting.plan.frame ≡ k
    place k low = ap (λ (n : ℕ). n % setting.plan.frame) (long (First + k)) ∙ mul-add-mod_self_right t setting.plan.frame k ∙ mod-eq_of_lt low

    pub first_place : nat_eq (length (Gone First) % setting.plan.frame) 0 ≡ true
    first_place = (let none : First + 0 ≡ First = omega arith in
        let at : length (Gone First) % setting.plan.frame ≡ 0 = ap (λ (n : ℕ). length (Gone n) % setting.plan.frame) (sym none) ∙ place 0 (omega (arith, some)) in
        grind (arith, nat_tests, at))

    pub later_place : (k : ℕ) → suc k < setting.plan.frame → nat_eq (length (Gone (First + suc k)) % setting.plan.frame) 0 ≡ false
    later_place k low = (let at = place (suc k) low in grind (arith, nat_tests, at))

    along : (k : ℕ) → suc k ≤ setting.plan.frame → Before (First + suc k) ≡ record { reader = read_by (suc k) Start.reader; taken = Start.taken }
    along zero low =
        let up : First + 1 ≡ suc First = omega arith in
        ap Before up ∙ step First
        ∙ ap (λ (t : Bool). (let r = if t then Start else Before First in record { reader = after_cell r.reader; taken = r.taken })) first_place
    along (suc k) low =
        let up : First + suc (suc k) ≡ suc (First + suc k) = omega arith in
        ap Before up ∙ step (First + suc k)
        ∙ ap (λ (t : Bool). (let r = if t then started (setting.answers b) (Before (First + suc k)) else Before (First + suc k) in record { reader = after_cell r.reader; taken = r.taken })) (later_place k low)
        ∙ ap (λ (r : Reading). record { reader = after_cell r.reader; taken = r.taken }) (along k (omega (arith, low)))

    whole : Before (suc t * setting.plan.frame) ≡ record { reader = read_by setting.plan.frame Start.reader; taken = Start.taken }
    whole = by setting.plan.frame refl
      where
        by : (f : ℕ) → f ≡ setting.plan.frame → Before (suc t * setting.plan.frame) ≡ record { reader = read_by setting.plan.frame Start.reader; taken = Start.taken }
        by zero e = absurd (omega (arith, some, e))
        by (suc k) e =
            ap Before (suc-mul t setting.plan.frame ∙ ap (λ (f : ℕ). First + f) (sym e)) ∙ along k (omega (arith, e))
            ∙ ap (λ (f : ℕ). record { reader = read_by f Start.reader; taken = Start.taken }) e

  abbrev pub At : ℕ → Reading
  At t = Before (t * setting.plan.frame)

  frame_is : (t : ℕ) → (At t).reader.frame ≡ setting.plan.frame
  frame_is zero = let none : 0 * setting.plan.frame ≡ 0 = omega arith in ap (λ (n : ℕ). (Before n).reader.frame) none
  frame_is (suc t) = ap (λ (r : Reading). r.reader.frame) (whole t)
      ∙ ap (λ (f : ℕ). (read_by f (Start t).reader).frame) (sym (frame_is t))
      ∙ (ticked_sized (next_answers (setting.answers b) (At t)) (At t).reader).frame ∙ frame_is t

  pub next_reader : (t : ℕ) → (At (suc t)).reader ≡ ticked (next_answers (setting.answers b) (At t)) (At t).reader
  next_reader t = ap (λ (r : Reading). r.reader) (whole t) ∙ ap (λ (f : ℕ). read_by f (Start t).reader) (sym (frame_is t))

  pub next_untaken : (t : ℕ) → next_answers (setting.answers b) (At (suc t)) ≡ untaken (next_answers (setting.answers b) (At t)) (At t).reader
  next_untaken t = ap (λ (r : Reading). drop r.taken (setting.answers b)) (whole t)
      ∙ sym (drop-drop (length (reader_takes (next_answers (setting.answers b) (At t)) (At t).reader)) (At t).taken (setting.answers b))
