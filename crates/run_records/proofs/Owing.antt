-- What a tick of a reader takes, and what it owes then.
use Rattle.std.proofs.Common.{◌≡◌, ◌<◌, ◌≤◌, ◌⊎◌, ◌+◌, ◌-◌, ◌*◌, ℕ, zero, suc, Bool, true, false, Some, None, List, [], ◌∷◌, ◌++◌, length, drop, nat_lt, nat_le, if◌then◌else◌, inl, inr, refl, ap, sym, subst, ◌∙◌, arith, length-append, true≢false}
use Rattle.std.proofs.lemmas.Bool.{cases_lt}
use Rattle.std.proofs.lemmas.Bool.Decides.{nat_tests}
use Rattle.std.proofs.lemmas.List.{length-drop}
use Rattle.frame_core.specs.declared.cell.Cell.{Cell}
use Rattle.frame_core.specs.Calls.{Answer}
use Rattle.op_leaf.specs.Readers.{Reader, wants, wanted, reader_takes, after_takes, begun, at_start, after_cell, read_by, holds_some, flag_front}
use Rattle.run_records.specs.Records.{Window}
use Rattle.run_records.specs.Pace.{has_none, Owes, KeepsPace, KeepPace, AreSmall, AreTicks, ticked, untaken, takes_in, reader_after, answers_after}

lt_yes : (a b : ℕ) → nat_lt a b ≡ true → a < b
lt_yes a b h = grind (arith, nat_tests)

lt_no : (a b : ℕ) → nat_lt a b ≡ false → b ≤ a
lt_no a b h = grind (arith, nat_tests)

le_is : (a b : ℕ) → a ≤ b → nat_le a b ≡ true
le_is a b h = grind (arith, nat_tests)

le_not : (a b : ℕ) → b < a → nat_le a b ≡ false
le_not a b h = grind (arith, nat_tests)

-- the takes of a tick that wants a chunk
none_takes : (answers : List Answer) (reader : Reader) → wants reader ≡ true → reader_takes (None ∷ answers) reader ≡ None ∷ []
none_takes answers reader e = rw e refl

no_takes : (reader : Reader) → wants reader ≡ true → reader_takes [] reader ≡ None ∷ []
no_takes reader e = rw e refl

abbrev with_chunk : (chunk : List Cell) → Reader → Reader
with_chunk chunk reader = record reader { cells = reader.cells ++ chunk }

some_takes : (chunk : List Cell) (answers : List Answer) (reader : Reader) → wants reader ≡ true → reader_takes (Some chunk ∷ answers) reader ≡ Some chunk ∷ reader_takes answers (with_chunk chunk reader)
some_takes chunk answers reader e = rw e refl

some_after : (chunk : List Cell) (answers : List Answer) (reader : Reader) → wants reader ≡ true → after_takes (Some chunk ∷ answers) reader ≡ after_takes answers (with_chunk chunk reader)
some_after chunk answers reader e = rw e refl

still_after : (answers : List Answer) (reader : Reader) → wants reader ≡ false → after_takes answers reader ≡ reader
still_after [] reader e = refl
still_after (None ∷ answers) reader e = refl
still_after (Some chunk ∷ answers) reader e = rw e refl

-- a take got nothing, and the reader still wants; or it wanted nothing; or it took, up to what it wanted and less than a frame more
abbrev Ran : List Answer → Reader → Type 0
Ran answers reader =
    ((has_none (reader_takes answers reader) ≡ true) × (length (after_takes answers reader).cells < wanted reader))
    ⊎ (((wanted reader ≤ length reader.cells) × (after_takes answers reader ≡ reader))
    ⊎ ((1 ≤ length (reader_takes answers reader)) × (wanted reader ≤ length (after_takes answers reader).cells) × (length (after_takes answers reader).cells < wanted reader + reader.frame)))

ran_still : (answers : List Answer) (reader : Reader) → wants reader ≡ false → Ran answers reader
ran_still answers reader e = inr (inl (lt_no (length reader.cells) (wanted reader) e, still_after answers reader e))

ran_some : (chunk : List Cell) (answers : List Answer) (reader : Reader) → length chunk ≤ reader.frame → wants reader ≡ true
    → Ran answers (with_chunk chunk reader) → Ran (Some chunk ∷ answers) reader
ran_some chunk answers reader small e (inl none) = inl (
  ap has_none (some_takes chunk answers reader e) ∙ none.0,
  subst (λ (r : Reader). length r.cells < wanted reader) (sym (some_after chunk answers reader e)) none.1,
)
ran_some chunk answers reader small e (inr (inl still)) =
    let after = ap (λ (r : Reader). length r.cells) (some_after chunk answers reader e ∙ still.1) in
    let takes = ap (λ (l : List Answer). length l) (some_takes chunk answers reader e) in
    let long = length-append reader.cells chunk in
    let few = lt_yes (length reader.cells) (wanted reader) e in
    let enough = still.0 in
    inr (inr (omega (arith, takes), omega (arith, enough, after), omega (arith, small, few, long, after)))
ran_some chunk answers reader small e (inr (inr some)) =
    let takes = ap (λ (l : List Answer). length l) (some_takes chunk answers reader e) in
    inr (inr (
      omega (arith, takes),
      subst (λ (r : Reader). wanted reader ≤ length r.cells) (sym (some_after chunk answers reader e)) some.1,
      subst (λ (r : Reader). length r.cells < wanted reader + reader.frame) (sym (some_after chunk answers reader e)) some.2,
    ))

ran : (answers : List Answer) (reader : Reader) → AreSmall reader.frame answers → Ran answers reader
ran [] reader small = by (wants reader) refl
  where
    by : (t : Bool) → wants reader ≡ t → Ran [] reader
    by false e = ran_still [] reader e
    by true e = inl (ap has_none (no_takes reader e), lt_yes (length reader.cells) (wanted reader) e)
ran (None ∷ answers) reader small = by (wants reader) refl
  where
    by : (t : Bool) → wants reader ≡ t → Ran (None ∷ answers) reader
    by false e = ran_still (None ∷ answers) reader e
    by true e = inl (ap has_none (none_takes answers reader e), lt_yes (length reader.cells) (wanted reader) e)
ran (Some chunk ∷ answers) reader small = by (ran answers (with_chunk chunk reader) small.1) (wants reader) refl
  where
    by : Ran answers (with_chunk chunk reader) → (t : Bool) → wants reader ≡ t → Ran (Some chunk ∷ answers) reader
    by more false e = ran_still (Some chunk ∷ answers) reader e
    by more true e = ran_some chunk answers reader small.0 e more

-- the takes of a tick change the cells alone
record Kept (old new : Reader) : Type 0 where
  pub playing : new.playing ≡ old.playing
  pub prefill : new.prefill ≡ old.prefill
  pub frame : new.frame ≡ old.frame

kept : (answers : List Answer) (reader : Reader) → Kept reader (after_takes answers reader)
kept [] reader = record { playing = refl; prefill = refl; frame = refl }
kept (None ∷ answers) reader = record { playing = refl; prefill = refl; frame = refl }
kept (Some chunk ∷ answers) reader = by (kept answers (with_chunk chunk reader)) (wants reader) refl
  where
    by : Kept (with_chunk chunk reader) (after_takes answers (with_chunk chunk reader)) → (t : Bool) → wants reader ≡ t → Kept reader (after_takes (Some chunk ∷ answers) reader)
    by more false e = subst (Kept reader) (sym (still_after (Some chunk ∷ answers) reader e)) (record { playing = refl; prefill = refl; frame = refl })
    by more true e = subst (Kept reader) (sym (some_after chunk answers reader e)) (record { playing = more.playing; prefill = more.prefill; frame = more.frame })

-- the same reader, its mark spelled out
abbrev marked : Reader → Bool → Reader
marked r t = record r { playing = t }

is_marked : (r : Reader) (t : Bool) → r.playing ≡ t → r ≡ marked r t
is_marked r t e = λ i. record { cells = r.cells; playing = e i; prefill = r.prefill; frame = r.frame }

-- cells that a playing reader gave
record Gave (old new : Reader) (n : ℕ) : Type 0 where
  pub playing : new.playing ≡ true
  pub cells : length new.cells ≡ length old.cells - n
  pub prefill : new.prefill ≡ old.prefill
  pub frame : new.frame ≡ old.frame

one_cell : (r : Reader) → r.playing ≡ true → Gave r (after_cell r) 1
one_cell r e = subst (λ (x : Reader). Gave r (after_cell x) 1) (sym (is_marked r true e))
    (record { playing = refl; cells = length-drop 1 r.cells; prefill = refl; frame = refl })

gave : (n : ℕ) (r : Reader) → r.playing ≡ true → Gave r (read_by n r) n
gave zero r e = record { playing = e; cells = omega arith; prefill = refl; frame = refl }
gave (suc n) r e = let before = gave n r e in let one = one_cell (read_by n r) before.playing in
    record { playing = one.playing; cells = omega (arith, one.cells, before.cells); prefill = one.prefill ∙ before.prefill; frame = one.frame ∙ before.frame }

still_cell : (r : Reader) → r.playing ≡ false → after_cell r ≡ r
still_cell r e = rw e refl

still : (n : ℕ) (r : Reader) → r.playing ≡ false → read_by n r ≡ r
still zero r e = refl
still (suc n) r e = ap after_cell (still n r e) ∙ still_cell r e

flag_long : (cells : List Cell) → length (flag_front cells) ≡ length cells
flag_long [] = refl
flag_long (cell ∷ cells) = refl

-- how a reader goes on after its takes
begun_on : (r : Reader) → r.playing ≡ true → begun r ≡ marked r (holds_some r.cells)
begun_on r e = subst (λ (x : Reader). begun x ≡ marked r (holds_some r.cells)) (sym (is_marked r true e)) refl

begun_off : (r : Reader) → r.playing ≡ false → begun r ≡ (if nat_le r.prefill (length r.cells) then record r { cells = flag_front r.cells; playing = true } else r)
begun_off r e = subst (λ (x : Reader). begun x ≡ (if nat_le x.prefill (length x.cells) then record x { cells = flag_front x.cells; playing = true } else x)) (sym (is_marked r false e)) refl

holds : (cells : List Cell) → 1 ≤ length cells → holds_some cells ≡ true
holds [] h = absurd (omega (arith, h))
holds (cell ∷ cells) h = refl

holds_not : (cells : List Cell) → length cells ≡ 0 → holds_some cells ≡ false
holds_not [] h = refl
holds_not (cell ∷ cells) h = absurd (omega (arith, h))

plays_on : (n : ℕ) (r : Reader) → r.playing ≡ true → 1 ≤ length r.cells → Gave r (read_by n (begun r)) n
plays_on n r e some =
    let is : begun r ≡ marked r true = begun_on r e ∙ ap (marked r) (holds r.cells some) in
    subst (λ (x : Reader). Gave r (read_by n x) n) (sym is)
    (let more = gave n (marked r true) refl in record { playing = more.playing; cells = more.cells; prefill = more.prefill; frame = more.frame })

stops : (n : ℕ) (r : Reader) → r.playing ≡ true → length r.cells ≡ 0 → read_by n (begun r) ≡ marked r false
stops n r e none =
    let is : begun r ≡ marked r false = begun_on r e ∙ ap (marked r) (holds_not r.cells none) in
    ap (read_by n) is ∙ still n (marked r false) refl

begins : (n : ℕ) (r : Reader) → r.playing ≡ false → r.prefill ≤ length r.cells → Gave r (read_by n (begun r)) n
begins n r e enough =
    let new : Reader = record r { cells = flag_front r.cells; playing = true } in
    let is : begun r ≡ new = begun_off r e ∙ ap (λ (t : Bool). if t then new else r) (le_is r.prefill (length r.cells) enough) in
    subst (λ (x : Reader). Gave r (read_by n x) n) (sym is)
    (let more = gave n new refl in record { playing = more.playing; cells = omega (arith, more.cells, flag_long r.cells); prefill = more.prefill; frame = more.frame })

waits : (n : ℕ) (r : Reader) → r.playing ≡ false → length r.cells < r.prefill → read_by n (begun r) ≡ r
waits n r e few =
    let new : Reader = record r { cells = flag_front r.cells; playing = true } in
    let is : begun r ≡ r = begun_off r e ∙ ap (λ (t : Bool). if t then new else r) (le_not r.prefill (length r.cells) few) in
    ap (read_by n) is ∙ still n r e

-- a reader's prefill and its frame stay
pub record Sized (old new : Reader) : Type 0 where
  pub prefill : new.prefill ≡ old.prefill
  pub frame : new.frame ≡ old.frame

cell_sized : (r : Reader) → Sized r (after_cell r)
cell_sized r = by r.playing refl
  where
    by : (t : Bool) → r.playing ≡ t → Sized r (after_cell r)
    by true e = let one = one_cell r e in record { prefill = one.prefill; frame = one.frame }
    by false e = subst (Sized r) (sym (still_cell r e)) (record { prefill = refl; frame = refl })

cells_sized : (n : ℕ) (r : Reader) → Sized r (read_by n r)
cells_sized zero r = record { prefill = refl; frame = refl }
cells_sized (suc n) r = let before = cells_sized n r in let one = cell_sized (read_by n r) in record { prefill = one.prefill ∙ before.prefill; frame = one.frame ∙ before.frame }

begun_sized : (r : Reader) → Sized r (begun r)
begun_sized r = by r.playing refl
  where
    pick : (t : Bool) → Sized r (if t then record r { cells = flag_front r.cells; playing = true } else r)
    pick true = record { prefill = refl; frame = refl }
    pick false = record { prefill = refl; frame = refl }

    by : (t : Bool) → r.playing ≡ t → Sized r (begun r)
    by true e = subst (Sized r) (sym (begun_on r e)) (record { prefill = refl; frame = refl })
    by false e = subst (Sized r) (sym (begun_off r e)) (pick (nat_le r.prefill (length r.cells)))

pub ticked_sized : (answers : List Answer) (r : Reader) → Sized r (ticked answers r)
ticked_sized answers r =
    let taken = kept answers r in let begins = begun_sized (after_takes answers r) in let gives = cells_sized r.frame (begun (after_takes answers r)) in
    record { prefill = gives.prefill ∙ begins.prefill ∙ taken.prefill; frame = gives.frame ∙ begins.frame ∙ taken.frame }

more_frames : (n frame : ℕ) → suc n * frame ≡ frame + n * frame
more_frames n frame = omega arith

-- a tick of a reader that gives a frame of cells, or all that it holds, lowers what it owes by one for each take that it does not
-- make, or a take of it got nothing
module _ (D : ℕ) (answers : List Answer) (reader : Reader) (some : 1 ≤ reader.frame) (held : 1 ≤ reader.prefill) (low : reader.prefill ≤ suc D * reader.frame)
    (small : AreSmall reader.frame answers) where
  abbrev taken : Reader
  taken = after_takes answers reader

  abbrev after : Reader
  after = read_by reader.frame (at_start answers reader)

  abbrev Tick : (owed : ℕ) → Type 0
  Tick owed = KeepsPace D 1 reader after (reader_takes answers reader) owed

  wanted_on : reader.playing ≡ true → wanted reader ≡ reader.frame
  wanted_on e = rw e refl

  wanted_off : reader.playing ≡ false → wanted reader ≡ reader.prefill
  wanted_off e = rw e refl

  sized : Sized reader after
  sized = ticked_sized answers reader

  same : Kept reader taken
  same = kept answers reader

  -- it plays on, and owes so many
  owes_on : (left : ℕ) → left ≤ D → Gave taken after reader.frame → length taken.cells < reader.frame + suc left * reader.frame → Owes D after left
  owes_on left most gave short = (
    most,
    inl (
      gave.playing,
      subst (λ (f : ℕ). length after.cells < suc left * f) (sym (gave.frame ∙ same.frame)) (omega (arith, gave.cells, short, more_frames left reader.frame, some)),
    ),
  )

  -- it does not play
  owes_off : (r : Reader) → r.playing ≡ false → length r.cells < r.prefill → after ≡ r → Owes D after D
  owes_off r off few is = subst (λ (x : Reader). Owes D x D) (sym is) (omega arith, inr (off, few, refl))

  on : (owed : ℕ) → owed ≤ D → reader.playing ≡ true → length reader.cells < suc owed * reader.frame → Ran answers reader → Tick owed
  on owed most e short (inl none) = by (cases_lt 0 (length taken.cells))
    where
      by : (0 < length taken.cells) ⊎ (length taken.cells ≤ 0) → Tick owed
      by (inl holds) = record {
        left = 0;
        owes = owes_on 0 (omega arith) (plays_on reader.frame taken (same.playing ∙ e) (omega (arith, holds))) (omega (arith, none.1, wanted_on e));
        takes_enough = inl none.0;
        prefill = sized.prefill;
        frame = sized.frame;
      }
      by (inr nothing) = record {
        left = D;
        owes = owes_off (marked taken false) refl (omega (arith, nothing, same.prefill, held)) (stops reader.frame taken (same.playing ∙ e) (omega (arith, nothing)));
        takes_enough = inl none.0;
        prefill = sized.prefill;
        frame = sized.frame;
      }
  on zero most e short (inr (inl full)) = absurd (omega (arith, short, full.0, wanted_on e))
  on (suc owed) most e short (inr (inl full)) =
      let long = ap (λ (r : Reader). length r.cells) full.1 in
      let enough = full.0 in
      let is = wanted_on e in
      record {
        left = owed;
        owes = owes_on owed (omega (arith, most)) (plays_on reader.frame taken (same.playing ∙ e) (omega (arith, long, enough, is, some))) (omega (arith, long, short, more_frames (suc owed) reader.frame));
        takes_enough = inr (omega arith);
        prefill = sized.prefill;
        frame = sized.frame;
      }
  on owed most e short (inr (inr more)) = record {
    left = 0;
    owes = owes_on 0 (omega arith) (plays_on reader.frame taken (same.playing ∙ e) (omega (arith, more.1, wanted_on e, some))) (omega (arith, more.2, wanted_on e));
    takes_enough = inr (omega (arith, more.0));
    prefill = sized.prefill;
    frame = sized.frame;
  }

  off : (owed : ℕ) → reader.playing ≡ false → length reader.cells < reader.prefill → owed ≡ D → Ran answers reader → Tick owed
  off owed e few all (inl none) = record {
    left = D;
    owes = owes_off taken (same.playing ∙ e) (omega (arith, none.1, wanted_off e, same.prefill))
        (waits reader.frame taken (same.playing ∙ e) (omega (arith, none.1, wanted_off e, same.prefill)));
    takes_enough = inl none.0;
    prefill = sized.prefill;
    frame = sized.frame;
  }
  off owed e few all (inr (inl full)) = absurd (omega (arith, few, full.0, wanted_off e))
  off owed e few all (inr (inr more)) = record {
    left = D;
    owes = owes_on D (omega arith) (begins reader.frame taken (same.playing ∙ e) (omega (arith, more.1, wanted_off e, same.prefill))) (omega (arith, more.2, wanted_off e, low));
    takes_enough = inr (omega (arith, more.0, all));
    prefill = sized.prefill;
    frame = sized.frame;
  }

  pub tick_keeps_pace : (owed : ℕ) → Owes D reader owed → Tick owed
  tick_keeps_pace owed (most, inl plays) = on owed most plays.0 plays.1 (ran answers reader small)
  tick_keeps_pace owed (most, inr rests) = off owed rests.0 rests.1 rests.2 (ran answers reader small)

small_after : (n frame : ℕ) (answers : List Answer) → AreSmall frame answers → AreSmall frame (drop n answers)
small_after zero frame answers small = small
small_after (suc n) frame [] small = tt
small_after (suc n) frame (None ∷ answers) small = small_after n frame answers small
small_after (suc n) frame (Some chunk ∷ answers) small = small_after n frame answers small.1

none_first : (xs ys : List Answer) → has_none xs ≡ true → has_none (xs ++ ys) ≡ true
none_first [] ys e = absurd (true≢false (sym e))
none_first (None ∷ xs) ys e = refl
none_first (Some chunk ∷ xs) ys e = none_first xs ys e

none_then : (xs ys : List Answer) → has_none ys ≡ true → has_none (xs ++ ys) ≡ true
none_then [] ys e = e
none_then (None ∷ xs) ys e = refl
none_then (Some chunk ∷ xs) ys e = none_then xs ys e

module _ (D : ℕ) where
  -- a reader that can be held to pace
  pub record CanKeep (reader : Reader) (answers : List Answer) : Type 0 where
    pub some : 1 ≤ reader.frame
    pub held : 1 ≤ reader.prefill
    pub low : reader.prefill ≤ suc D * reader.frame
    pub small : AreSmall reader.frame answers

  can_still : (reader new : Reader) (answers rest : List Answer) → CanKeep reader answers → new.prefill ≡ reader.prefill → new.frame ≡ reader.frame
      → AreSmall reader.frame rest → CanKeep new rest
  can_still reader new answers rest can prefill frame small = record {
    some = omega (arith, can.some, frame);
    held = omega (arith, can.held, prefill);
    low = subst (λ (f : ℕ). new.prefill ≤ suc D * f) (sym frame) (omega (arith, can.low, prefill));
    small = subst (λ (f : ℕ). AreSmall f rest) (sym frame) small;
  }

  enough : (n owed one left : ℕ) (xs ys : List Answer) → (has_none xs ≡ true) ⊎ (1 + one ≤ length xs + owed) → (has_none ys ≡ true) ⊎ (n + left ≤ length ys + one)
      → (has_none (xs ++ ys) ≡ true) ⊎ (suc n + left ≤ length (xs ++ ys) + owed)
  enough n owed one left xs ys (inl none) rest = inl (none_first xs ys none)
  enough n owed one left xs ys (inr first) (inl none) = inl (none_then xs ys none)
  enough n owed one left xs ys (inr first) (inr rest) = inr (omega (arith, first, rest, length-append xs ys))

  pub ticks_keep_pace : (n : ℕ) (answers : List Answer) (reader : Reader) → CanKeep reader answers → (owed : ℕ) → Owes D reader owed
      → KeepsPace D n reader (reader_after n answers reader) (takes_in n answers reader) owed
  ticks_keep_pace zero answers reader can owed owes = record { left = owed; owes = owes; takes_enough = inr (omega arith); prefill = refl; frame = refl }
  ticks_keep_pace (suc n) answers reader can owed owes =
      let one = tick_keeps_pace D answers reader can.some can.held can.low can.small owed owes in
      let next = can_still reader (ticked answers reader) answers (untaken answers reader) can one.prefill one.frame (small_after (length (reader_takes answers reader)) reader.frame answers can.small) in
      let rest = ticks_keep_pace n (untaken answers reader) (ticked answers reader) next one.left one.owes in
      record {
        left = rest.left;
        owes = rest.owes;
        takes_enough = enough n owed one.left rest.left (reader_takes answers reader) (takes_in n (untaken answers reader) (ticked answers reader)) one.takes_enough rest.takes_enough;
        prefill = rest.prefill ∙ one.prefill;
        frame = rest.frame ∙ one.frame;
      }

  untaken_small : (n : ℕ) (answers : List Answer) (reader : Reader) → AreSmall reader.frame answers → AreSmall reader.frame (answers_after n answers reader)
  untaken_small zero answers reader small = small
  untaken_small (suc n) answers reader small =
      let frame = (ticked_sized answers reader).frame in
      subst (λ (f : ℕ). AreSmall f (answers_after n (untaken answers reader) (ticked answers reader))) frame
      (untaken_small n (untaken answers reader) (ticked answers reader)
      (subst (λ (f : ℕ). AreSmall f (untaken answers reader)) (sym frame) (small_after (length (reader_takes answers reader)) reader.frame answers small)))

  -- the windows of a reader's ticks keep pace
  pub windows_keep_pace : (W : ℕ) (windows : List Window) (answers : List Answer) (reader : Reader) → CanKeep reader answers → (owed : ℕ) → Owes D reader owed
      → AreTicks W answers reader windows → KeepPace W D owed windows
  windows_keep_pace W [] answers reader can owed owes ticks = owes.0
  windows_keep_pace W (window ∷ windows) answers reader can owed owes ticks =
      let n = ticks.0 in
      let pace = ticks_keep_pace n answers reader can owed owes in
      let next = can_still reader (reader_after n answers reader) answers (answers_after n answers reader) can pace.prefill pace.frame (untaken_small n answers reader can.small) in (
        omega (arith, ticks.1, ticks.2),
        owes.0,
        pace.left,
        go n pace.left pace.takes_enough ticks.2 (sym ticks.3),
        windows_keep_pace W windows (answers_after n answers reader) (reader_after n answers reader) next pace.left pace.owes ticks.4,
      )
    where
      go : (n left : ℕ) → (has_none (takes_in n answers reader) ≡ true) ⊎ (n + left ≤ length (takes_in n answers reader) + owed) → length window.0 ≤ n
          → takes_in n answers reader ≡ window.1 → (has_none window.1 ≡ true) ⊎ (length window.0 + left ≤ length window.1 + owed)
      go n left (inl none) puts same = inl (ap has_none (sym same) ∙ none)
      go n left (inr more) puts same = inr (omega (arith, more, puts, ap (λ (l : List Answer). length l) same))
