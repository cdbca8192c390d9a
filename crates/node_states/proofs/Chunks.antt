-- One take more of a reader, and all of them.
use Rattle.std.proofs.Common.{◌≡◌, ◌∙◌, ◌++◌, ◌+◌, ◌%◌, ℕ, suc, Some, None, List, [], ◌∷◌, length, map, nat_eq, drop, Bool, true, false, cond, refl, ap, sym, subst, append_assoc, append-nil, arith}
use Rattle.std.specs.Prelude.{OnErr, Result, Ok, Err}
use Rattle.std.proofs.lemmas.Bool.Decides.{nat_tests}
use Rattle.std.proofs.lemmas.List.{length-append}
use Rattle.frame_core.specs.declared.cell.Cell.{Cell}
use Rattle.frame_core.specs.Slots.{Slot}
use Rattle.frame_core.specs.Calls.{Adds, Call, Took, Answer}
use Rattle.op_leaf.specs.Readers.{Reader, after_takes, at_start, begun, reader_takes, wants}
use Rattle.stream_meaning.specs.Operators.{Reads}
use Rattle.stream_meaning.specs.Instants.{Setting, Moment, next_answers, reading_after, reading_at, started}
use Rattle.node_states.specs.declared.state.NodeState.{NodeState}
use Rattle.node_states.specs.declared.state.NodeState.TheVariants.{Read}
use Rattle.node_states.specs.States.{StateStands, reading_by}
use Rattle.node_states.specs.Takes.{HasBegun, HasHeld, HasTaken, HasTakenSome, IsTaken, IsTaking}

pub map-append : {A B : Type 0} (f : A → B) (xs ys : List A) → map f (xs ++ ys) ≡ map f xs ++ map f ys
map-append f [] ys = refl
map-append f (x ∷ xs) ys = ap (λ zs. f x ∷ zs) (map-append f xs ys)

-- what holds holds of a fault
pub on_err : {A E P : Type 0} (r : Result A E) → P → OnErr r P
on_err (Ok x) p = tt
on_err (Err e) p = p

-- calls after calls
pub adds_none : {T : Type 0} (stands : T → List Call → Type 0) (taps : T) → Adds stands taps taps []
adds_none stands taps = λ calls at. subst (stands taps) (sym (append-nil calls)) at

pub adds_then : {T : Type 0} (stands : T → List Call → Type 0) (a b c : T) (first next : List Call) → Adds stands a b first → Adds stands b c next → Adds stands a c (first ++ next)
adds_then stands a b c first next one two = λ calls at. subst (stands c) (append_assoc calls first next) (two (calls ++ first) (one calls at))

more_calls : (buffer : ℕ) (more : List Answer) (answer : Answer) → map (Took buffer) more ++ Took buffer answer ∷ [] ≡ map (Took buffer) (more ++ answer ∷ [])
more_calls buffer more answer = sym (map-append (Took buffer) more (answer ∷ []))

module _ {T : Type 0} (stands : T → List Call → Type 0) (buffer : ℕ) where
  pub taking_none : (reader : Reader) (taps : T) → IsTaking stands buffer reader reader taps taps
  taking_none reader taps = record { more = []; taps = adds_none stands taps; takes = λ rest. refl; holds = λ rest. refl }

  adds_one : (a b c : T) (more : List Answer) (answer : Answer) → Adds stands a b (map (Took buffer) more) → Adds stands b c (Took buffer answer ∷ [])
      → Adds stands a c (map (Took buffer) (more ++ answer ∷ []))
  adds_one a b c more answer one two = subst (Adds stands a c) (more_calls buffer more answer) (adds_then stands a b c (map (Took buffer) more) (Took buffer answer ∷ []) one two)

  -- a chunk more
  pub taking_more : (before now next : Reader) (chunk : List Cell) (a b c : T) → wants now ≡ true → next ≡ record now { cells = now.cells ++ chunk }
      → Adds stands b c (Took buffer (Some chunk) ∷ []) → IsTaking stands buffer before now a b → IsTaking stands buffer before next a c
  taking_more before now next chunk a b c wanting is call so = record {
    more = so.more ++ Some chunk ∷ [];
    taps = adds_one a b c so.more (Some chunk) so.taps call;
    takes = λ rest.
        ap (λ answers. reader_takes answers before) (append_assoc so.more (Some chunk ∷ []) rest)
        ∙ so.takes (Some chunk ∷ rest)
        ∙ ap (λ (w : Bool). so.more ++ cond w (Some chunk ∷ reader_takes rest (record now { cells = now.cells ++ chunk })) []) wanting
        ∙ ap (λ (r : Reader). so.more ++ Some chunk ∷ reader_takes rest r) (sym is)
        ∙ sym (append_assoc so.more (Some chunk ∷ []) (reader_takes rest next));
    holds = λ rest.
        ap (λ answers. after_takes answers before) (append_assoc so.more (Some chunk ∷ []) rest)
        ∙ so.holds (Some chunk ∷ rest)
        ∙ ap (λ (w : Bool). cond w (after_takes rest (record now { cells = now.cells ++ chunk })) now) wanting
        ∙ ap (λ (r : Reader). after_takes rest r) (sym is);
  }

  -- an empty answer is the last one
  pub held_empty : (before now : Reader) (a b c : T) → wants now ≡ true → Adds stands b c (Took buffer None ∷ []) → IsTaking stands buffer before now a b → HasHeld stands buffer before now a c
  held_empty before now a b c wanting call so = record {
    more = so.more ++ None ∷ [];
    taps = adds_one a b c so.more None so.taps call;
    takes = λ rest.
        ap (λ answers. reader_takes answers before) (append_assoc so.more (None ∷ []) rest)
        ∙ so.takes (None ∷ rest)
        ∙ ap (λ (w : Bool). so.more ++ cond w (None ∷ []) []) wanting;
    holds = λ rest. ap (λ answers. after_takes answers before) (append_assoc so.more (None ∷ []) rest) ∙ so.holds (None ∷ rest);
  }

  none_wanted : (now : Reader) (rest : List Answer) → wants now ≡ false → reader_takes rest now ≡ []
  none_wanted now [] full = ap (λ (w : Bool). cond w (None ∷ []) []) full
  none_wanted now (None ∷ rest) full = ap (λ (w : Bool). cond w (None ∷ []) []) full
  none_wanted now (Some chunk ∷ rest) full = ap (λ (w : Bool). cond w (Some chunk ∷ reader_takes rest (record now { cells = now.cells ++ chunk })) []) full

  none_held : (now : Reader) (rest : List Answer) → wants now ≡ false → after_takes rest now ≡ now
  none_held now [] full = refl
  none_held now (None ∷ rest) full = refl
  none_held now (Some chunk ∷ rest) full = ap (λ (w : Bool). cond w (after_takes rest (record now { cells = now.cells ++ chunk })) now) full

  -- a reader that wants no chunk has made its takes
  pub held_full : (before now : Reader) (a b : T) → wants now ≡ false → IsTaking stands buffer before now a b → HasHeld stands buffer before now a b
  held_full before now a b full so = record {
    more = so.more;
    taps = so.taps;
    takes = λ rest. so.takes rest ∙ ap (λ answers. so.more ++ answers) (none_wanted now rest full) ∙ append-nil so.more;
    holds = λ rest. so.holds rest ∙ none_held now rest full;
  }

  -- where memory is refused
  pub taken_some : (before now : Reader) (a b c : T) → Adds stands b c [] → IsTaking stands buffer before now a b → IsTaken stands buffer before a c
  taken_some before now a b c call so = record {
    more = so.more;
    taps = subst (Adds stands a c) (append-nil (map (Took buffer) so.more)) (adds_then stands a b c (map (Took buffer) so.more) [] so.taps call);
    begins = λ rest. (reader_takes rest now, so.takes rest);
  }

  pub has_taken : (before now new : Reader) (a b : T) → new ≡ begun now → HasHeld stands buffer before now a b → HasTaken stands buffer before new a b
  has_taken before now new a b is held = record {
    more = held.more;
    taps = held.taps;
    takes = held.takes;
    begun = λ rest. ap begun (held.holds rest) ∙ sym is;
  }

-- the answers behind the first ones
drop_front : (front more rest : List Answer) → drop (length front) ((front ++ more) ++ rest) ≡ more ++ rest
drop_front [] more rest = refl
drop_front (answer ∷ front) more rest = drop_front front more rest

behind : (setting : Setting) (i buffer : ℕ) (past : List Moment) (front more rest : List Answer) → setting.answers buffer ≡ (front ++ more) ++ rest
    → (reading_after setting i buffer past).taken ≡ length front → next_answers (setting.answers buffer) (reading_after setting i buffer past) ≡ more ++ rest
behind setting i buffer past front more rest are taken = ap (λ n. drop n (setting.answers buffer)) taken ∙ ap (λ answers. drop (length front) answers) are ∙ drop_front front more rest

eq_same : (n : ℕ) → nat_eq n n ≡ true
eq_same n = grind (arith, nat_tests)

eq_more : (n : ℕ) → nat_eq (suc n) n ≡ false
eq_more n = grind (arith, nat_tests)

-- before and behind the takes of an instant
pub reading_closed : (setting : Setting) (i buffer : ℕ) (past : List Moment) → reading_by setting i buffer past (length past) ≡ reading_after setting i buffer past
reading_closed setting i buffer past = ap (λ (b : Bool). cond b (reading_after setting i buffer past) (reading_at setting buffer (length past) (reading_after setting i buffer past))) (eq_same (length past))

pub reading_open : (setting : Setting) (i buffer : ℕ) (past : List Moment) → reading_by setting i buffer past (suc (length past)) ≡ reading_at setting buffer (length past) (reading_after setting i buffer past)
reading_open setting i buffer past = ap (λ (b : Bool). cond b (reading_after setting i buffer past) (reading_at setting buffer (length past) (reading_after setting i buffer past))) (eq_more (length past))

-- where an instant begins a tick
reading_starts : (setting : Setting) (i buffer : ℕ) (past : List Moment) → nat_eq (length past % setting.plan.frame) 0 ≡ true
    → reading_by setting i buffer past (suc (length past)) ≡ started (setting.answers buffer) (reading_after setting i buffer past)
reading_starts setting i buffer past starts =
    reading_open setting i buffer past
    ∙ ap (λ (b : Bool). cond b (started (setting.answers buffer) (reading_after setting i buffer past)) (reading_after setting i buffer past)) starts

-- within a tick
pub reading_stays : (setting : Setting) (i buffer : ℕ) (past : List Moment) → nat_eq (length past % setting.plan.frame) 0 ≡ false
    → reading_by setting i buffer past (suc (length past)) ≡ reading_by setting i buffer past (length past)
reading_stays setting i buffer past starts =
    reading_open setting i buffer past
    ∙ ap (λ (b : Bool). cond b (started (setting.answers buffer) (reading_after setting i buffer past)) (reading_after setting i buffer past)) starts
    ∙ sym (reading_closed setting i buffer past)

pub has_begun : {T : Type 0} (stands : T → List Call → Type 0) (buffer : ℕ) (before now : Reader) (a b : T) → HasTaken stands buffer before now a b → HasBegun stands buffer (Read before) (Read now) a b
has_begun stands buffer before now a b has = record {
  more = has.more;
  taps = has.taps;
  begun = λ setting sub past i front rest at starts are taken.
      let was : before ≡ (reading_after setting i buffer past).reader = at ∙ ap (λ r. r.reader) (reading_closed setting i buffer past) in
      let next = behind setting i buffer past front has.more rest are taken in
      let open' = reading_starts setting i buffer past starts in
      let all : reader_takes (next_answers (setting.answers buffer) (reading_after setting i buffer past)) (reading_after setting i buffer past).reader ≡ has.more =
      ap (λ answers. reader_takes answers (reading_after setting i buffer past).reader) next ∙ ap (λ r. reader_takes (has.more ++ rest) r) (sym was) ∙ has.takes rest in
      record {
        stands = sym (ap (λ r. r.reader) open' ∙ ap (λ answers. at_start answers (reading_after setting i buffer past).reader) next ∙ ap (λ r. at_start (has.more ++ rest) r) (sym was) ∙ has.begun rest);
        takes = all;
        taken = ap (λ r. r.taken) open' ∙ ap (λ n. n + length (reader_takes (next_answers (setting.answers buffer) (reading_after setting i buffer past)) (reading_after setting i buffer past).reader)) taken
            ∙ ap (λ answers. length front + length answers) all ∙ sym (length-append front has.more);
      };
}

pub has_taken_some : {T : Type 0} (stands : T → List Call → Type 0) (buffer : ℕ) (before : Reader) (a b : T) → IsTaken stands buffer before a b → HasTakenSome stands buffer (Read before) a b
has_taken_some stands buffer before a b has = record {
  more = has.more;
  taps = has.taps;
  begins = λ setting sub past i front rest at are taken.
      let was : before ≡ (reading_after setting i buffer past).reader = at ∙ ap (λ r. r.reader) (reading_closed setting i buffer past) in
      let next = behind setting i buffer past front has.more rest are taken in
      let left = has.begins rest in
      (left.0, ap (λ answers. reader_takes answers (reading_after setting i buffer past).reader) next ∙ ap (λ r. reader_takes (has.more ++ rest) r) (sym was) ∙ left.1);
}

-- no state but a reader's stands for a reader
pub begun_other : {T : Type 0} (stands : T → List Call → Type 0) (buffer : ℕ) (state : NodeState) (a : T)
    → ((setting : Setting) (sub : ℕ → ℕ → List Slot) (past : List Moment) (filled i buffer : ℕ) → StateStands setting sub past filled i (Reads buffer) state → ⊥)
    → HasBegun stands buffer state state a a
begun_other stands buffer state a other = record {
  more = [];
  taps = adds_none stands a;
  begun = λ setting sub past i front rest at starts are taken. absurd (other setting sub past (length past) i buffer at);
}
