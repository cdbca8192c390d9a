-- Records by hand: of a buffer whose reader's clock does not run, and one whose ticks can be ordered; and calls that part.
use Rattle.std.proofs.Common.{◌≡◌, ◌<◌, ◌≤◌, ℕ, zero, suc, Some, None, List, [], ◌∷◌, Bool, true, false, inl, inr, flat_map, refl, ap, sym, subst, ◌++◌, length, length-append, arith, map, int_eq, true≢false}
use Rattle.std.specs.Prelude.{Option, pos, ⊤}
use Rattle.frame_core.specs.declared.cell.Cell.{Cell}
use Rattle.frame_core.specs.Legal.{Legal, IsHistory}
use Rattle.frame_core.specs.Calls.{Took, takes_of, puts_to, Answer}
use Rattle.plan_core.specs.declared.node.Op.TheVariants.{Single, Blank, Fallback, Add, Buffer}
use Rattle.plan_core.specs.declared.sink.SinkPlan.TheVariants.{Feed}
use Rattle.clock_infer.specs.declared.clock_map.NodeClock.TheVariants.{Main}
use Rattle.stream_meaning.specs.Arithmetic.{cells_of}
use Rattle.stream_meaning.specs.Instants.{Setting, answered}
use Rattle.stream_meaning.specs.Calls.{joined_upto, calls_of_tick}
use Rattle.run_records.proofs.Plans.{new, more, under, file, node, out, setting}
use Rattle.run_records.specs.Pace.{IsDrawn, KeepPace, has_none}
use Rattle.run_records.specs.Heard.{HasRoom, IsHeard}
use Rattle.run_records.proofs.Sunk.{sink_is_drawn}
use Rattle.run_records.specs.Buffers.{feeder, reader}
use Rattle.run_records.specs.Records.{AreWindowsBegun, Run, AreWindows, IsRounds, rounds_of, Window, Follows, windows_of, setting_in, capacity_of, on, start, calls_in, windows_in}
use Rattle.run_records.specs.Parting.{ArePart}
use Rattle.run_records.specs.Ordered.{HasSameText, text_of_window, made, got_by, kept_by, IsOrdered}

one_alone : (P : ℕ → Type 0) → P 0 → (b : ℕ) → b < 1 → P b
one_alone P p zero less = p
one_alone P p (suc b) less = absurd (omega (arith, less))

two_alone : (P : ℕ → Type 0) → P 0 → P 1 → (b : ℕ) → b < 2 → P b
two_alone P p q zero less = p
two_alone P p q (suc zero) less = q
two_alone P p q (suc (suc b)) less = absurd (omega (arith, less))

zero_one : {A : Type 0} → zero ≡ suc zero → A
zero_one e = absurd (omega (arith, e))

abbrev one : List Cell
one = cells_of (map (under 1) (new 1 ∷ more 2 ∷ more 3 ∷ new 1 ∷ more 2 ∷ more 3 ∷ new 1 ∷ more 2 ∷ []))

-- a source in clock 0, which an output writes, feeds a buffer of one chunk; its reader alone lies in clock 1, which has no sink
abbrev unread : Setting
unread = setting (node (Single []) [] ∷ node (Buffer 0) [] ∷ []) (Feed 0 0 ∷ out 0 ∷ []) (record { pre = 0; capacity = 1 } ∷ []) (file (1 ∷ 2 ∷ 3 ∷ []) ∷ []) ((0 ∷ []) ∷ [] ∷ []) (Main 0 ∷ Main 1 ∷ [])

-- two ticks of clock 0: the first put is accepted, the second one finds it full, and nobody takes
abbrev filled : Run
filled = record { buffers = ((Some one ∷ None ∷ [], []) ∷ []) ∷ [] }

abbrev first_only : (m t buffer : ℕ) → Bool
first_only m zero buffer = true
first_only m (suc t) buffer = false

filled_is_lawful : AreWindows unread 1 2 2 filled
filled_is_lawful = record {
  buffers = refl;
  accepted = first_only;
  count = 1;
  whole = refl;
  tight = one_alone (λ j. start 2 2 j < 2) (omega arith);
  are = one_alone (λ b. windows_of filled b ≡ windows_in (setting_in unread filled) 1 first_only b 2 2 1) refl;
  legal = one_alone (λ b. (rest : List (List Cell)) × IsHistory (capacity_of unread b) [] (windows_of filled b) rest) (one ∷ [], (one ∷ [], Legal.accepted (omega arith) (Legal.put_refused refl Legal.all_done), refl));
  in_order = one_alone (λ b. feeder unread b ≡ reader unread b → (rest : List (List Cell)) × Follows (capacity_of unread b) [] (on b (joined_upto (calls_in (setting_in unread filled) 1 first_only (feeder unread b)) 2)) rest)
      (λ e. zero_one e);
}

-- the same buffer read in clock 1, which runs
abbrev joined : Setting
joined = setting (node (Single []) [] ∷ node (Buffer 0) [] ∷ []) (Feed 0 0 ∷ out 1 ∷ []) (record { pre = 0; capacity = 1 } ∷ []) (file (1 ∷ 2 ∷ 3 ∷ []) ∷ []) ((0 ∷ []) ∷ [] ∷ []) (Main 0 ∷ Main 1 ∷ [])

-- one window of two ticks of each: the first take is empty, the second put is full
abbrev late : Run
late = record { buffers = ((Some one ∷ None ∷ [], None ∷ Some one ∷ []) ∷ []) ∷ [] }

late_is_lawful : AreWindows joined 2 2 2 late
late_is_lawful = record {
  buffers = refl;
  accepted = first_only;
  count = 1;
  whole = refl;
  tight = one_alone (λ j. start 2 2 j < 2) (omega arith);
  are = one_alone (λ b. windows_of late b ≡ windows_in (setting_in joined late) 2 first_only b 2 2 1) refl;
  legal = one_alone (λ b. (rest : List (List Cell)) × IsHistory (capacity_of joined b) [] (windows_of late b) rest)
      ([], ([], Legal.empty (Legal.accepted (omega arith) (Legal.put_refused refl (Legal.got Legal.all_done))), refl));
  in_order = one_alone (λ b. feeder joined b ≡ reader joined b → (rest : List (List Cell)) × Follows (capacity_of joined b) [] (on b (joined_upto (calls_in (setting_in joined late) 2 first_only (feeder joined b)) 2)) rest)
      (λ e. zero_one e);
}

-- the same source with both ends in one clock: a record of two windows of a tick, and that of rounds
abbrev alone : Setting
alone = setting (node (Single []) [] ∷ node (Buffer 0) [] ∷ []) (Feed 0 0 ∷ out 1 ∷ []) (record { pre = 0; capacity = 1 } ∷ []) (file (1 ∷ 2 ∷ 3 ∷ []) ∷ []) ((0 ∷ []) ∷ [] ∷ []) (Main 0 ∷ Main 0 ∷ [])

abbrev two : List Cell
two = cells_of (map (under 1) (more 3 ∷ new 1 ∷ more 2 ∷ more 3 ∷ new 1 ∷ more 2 ∷ more 3 ∷ new 1 ∷ []))

abbrev windows : Run
windows = record { buffers = ((Some one ∷ [], None ∷ []) ∷ (Some two ∷ [], Some one ∷ []) ∷ []) ∷ [] }

abbrev rounds : Run
rounds = record { buffers = ((Some one ∷ Some two ∷ [], None ∷ Some one ∷ []) ∷ []) ∷ [] }

abbrev all : (m t buffer : ℕ) → Bool
all m t buffer = true

rounds_are : IsRounds alone 1 2 rounds
rounds_are = record {
  buffers = refl;
  accepted = all;
  are = one_alone (λ b. windows_of rounds b ≡ (puts_to b (rounds_of (setting_in alone rounds) all 1 2), takes_of b (rounds_of (setting_in alone rounds) all 1 2)) ∷ []) refl;
  in_order = one_alone (λ b. (rest : List (List Cell)) × Follows (capacity_of alone b) [] (on b (rounds_of (setting_in alone rounds) all 1 2)) rest)
      (two ∷ [], (refl, (omega arith, ([], refl, (omega arith, refl)))));
}

windows_are : AreWindows alone 1 1 2 windows
windows_are = record {
  buffers = refl;
  accepted = all;
  count = 2;
  whole = refl;
  tight = two_alone (λ j. start 1 2 j < 2) (omega arith) (omega arith);
  are = one_alone (λ b. windows_of windows b ≡ windows_in (setting_in alone windows) 1 all b 1 2 2) refl;
  legal = one_alone (λ b. (rest : List (List Cell)) × IsHistory (capacity_of alone b) [] (windows_of windows b) rest)
      (two ∷ [], (one ∷ [], Legal.empty (Legal.accepted (omega arith) Legal.all_done), (two ∷ [], Legal.got (Legal.accepted (omega arith) Legal.all_done), refl)));
  in_order = one_alone (λ b. feeder alone b ≡ reader alone b → (rest : List (List Cell)) × Follows (capacity_of alone b) [] (on b (joined_upto (calls_in (setting_in alone windows) 1 all (feeder alone b)) 2)) rest)
      (λ e. (two ∷ [], (refl, (omega arith, ([], refl, (omega arith, refl))))));
}

-- one tick of each, in which the chunk was got
abbrev prompt : Run
prompt = record { buffers = ((Some one ∷ [], Some one ∷ []) ∷ []) ∷ [] }

abbrev order : List (ℕ × ℕ)
order = (0, 0) ∷ (1, 0) ∷ []

two_ticks : (P : List (ℕ × ℕ) → ℕ → ℕ → Type 0) → P [] 0 0 → P ((0, 0) ∷ []) 1 0 → (before behind : List (ℕ × ℕ)) (m t : ℕ) → order ≡ before ++ (m, t) ∷ behind → P before m t
two_ticks P p q [] behind m t e = subst (λ (x : ℕ × ℕ). P [] x.0 x.1) (head (0, 0) (m, t) ((1, 0) ∷ []) behind e) p
  where
    head : (x y : ℕ × ℕ) (xs ys : List (ℕ × ℕ)) → x ∷ xs ≡ y ∷ ys → x ≡ y
    head x y xs ys e = cc
two_ticks P p q (x ∷ []) behind m t e =
    subst (λ (l : ℕ × ℕ). P (l ∷ []) m t) (head (0, 0) x ((1, 0) ∷ []) ((m, t) ∷ behind) e)
    (subst (λ (y : ℕ × ℕ). P ((0, 0) ∷ []) y.0 y.1) (head (1, 0) (m, t) [] behind (tail (0, 0) x ((1, 0) ∷ []) ((m, t) ∷ behind) e)) q)
  where
    head : (x y : ℕ × ℕ) (xs ys : List (ℕ × ℕ)) → x ∷ xs ≡ y ∷ ys → x ≡ y
    head x y xs ys e = cc

    tail : (x y : ℕ × ℕ) (xs ys : List (ℕ × ℕ)) → x ∷ xs ≡ y ∷ ys → xs ≡ ys
    tail x y xs ys e = cc
two_ticks P p q (x ∷ y ∷ before) behind m t e =
    let size : length order ≡ length (x ∷ y ∷ before ++ (m, t) ∷ behind) = ap (λ (l : List (ℕ × ℕ)). length l) e in
    let sum = length-append before ((m, t) ∷ behind) in absurd (omega (arith, size, sum))

prompt_is_ordered : IsOrdered (setting_in joined prompt) 2 first_only 1
prompt_is_ordered = record {
  order = order;
  all = λ m less. all m less;
  each = two_ticks (λ before m t. (m < 2) × (t ≡ made m before)) (omega arith, refl) (omega arith, refl);
  earlier = λ before behind m t b e less read. two_ticks (λ before m t. (b : ℕ) → b < 1 → reader joined b ≡ m → got_by (setting_in joined prompt) 2 first_only b (suc t) ≤ kept_by (setting_in joined prompt) 2 first_only b (made (feeder joined b) before))
      (one_alone (λ b. reader joined b ≡ 0 → got_by (setting_in joined prompt) 2 first_only b 1 ≤ kept_by (setting_in joined prompt) 2 first_only b (made (feeder joined b) [])) (λ read. zero_one (sym read)))
      (one_alone (λ b. reader joined b ≡ 1 → got_by (setting_in joined prompt) 2 first_only b 1 ≤ kept_by (setting_in joined prompt) 2 first_only b (made (feeder joined b) ((0, 0) ∷ []))) (λ read. omega arith))
      before behind m t e b less read;
}
  where
    all : (m : ℕ) → m < 2 → made m order ≡ 1
    all zero less = refl
    all (suc zero) less = refl
    all (suc (suc m)) less = absurd (omega (arith, less))

-- a chunk or none: the calls part at the first take
parted : ArePart 1 (calls_of_tick (answered joined (λ b. Some one ∷ [])) (λ b. true) 1 0) (calls_of_tick (answered joined (λ b. [])) (λ b. true) 1 0)
parted = record {
  front = [];
  one = Took 0 (Some one);
  other = Took 0 None;
  behind = [];
  others = [];
  first = refl;
  second = refl;
  differ = (omega arith, refl, λ (e : ◌≡◌ {A = Answer} (Some one) None). absurd cc);
}

-- Two clocks that feed each other: each tick gets what the other one gives. Both records are lawful, they have the same text, and they are
-- not the same; no order of their ticks is there.
abbrev ring : Setting
ring = setting (node (Buffer 1) [] ∷ node (Buffer 0) [] ∷ []) (Feed 0 0 ∷ Feed 1 1 ∷ []) (record { pre = 0; capacity = 1 } ∷ record { pre = 0; capacity = 1 } ∷ []) [] ([] ∷ [] ∷ []) (Main 0 ∷ Main 1 ∷ [])

abbrev other : List Cell
other = cells_of (new 5 ∷ more 5 ∷ more 5 ∷ more 5 ∷ more 5 ∷ more 5 ∷ more 5 ∷ more 5 ∷ [])

abbrev turning : List Cell → Run
turning chunk = record { buffers = ((Some chunk ∷ [], Some chunk ∷ []) ∷ []) ∷ ((Some chunk ∷ [], Some chunk ∷ []) ∷ []) ∷ [] }

once : (chunk : List Cell) → (b : ℕ) → b < 2 → (rest : List (List Cell)) × IsHistory (capacity_of ring b) [] (windows_of (turning chunk) b) rest
once chunk = two_alone (λ b. (rest : List (List Cell)) × IsHistory (capacity_of ring b) [] (windows_of (turning chunk) b) rest)
    ([], ([], Legal.accepted (omega arith) (Legal.got Legal.all_done), refl)) ([], ([], Legal.accepted (omega arith) (Legal.got Legal.all_done), refl))

turns : (chunk : List Cell) → ((b : ℕ) → b < 2 → windows_of (turning chunk) b ≡ windows_in (setting_in ring (turning chunk)) 2 first_only b 1 1 1) → AreWindows ring 2 1 1 (turning chunk)
turns chunk are = record {
  buffers = refl;
  accepted = first_only;
  count = 1;
  whole = refl;
  tight = one_alone (λ j. start 1 1 j < 1) (omega arith);
  are = are;
  legal = once chunk;
  in_order = two_alone (λ b. feeder ring b ≡ reader ring b → (rest : List (List Cell)) × Follows (capacity_of ring b) [] (on b (joined_upto (calls_in (setting_in ring (turning chunk)) 2 first_only (feeder ring b)) 1)) rest)
      (λ e. zero_one e) (λ e. zero_one (sym e));
}

turns_one : AreWindows ring 2 1 1 (turning one)
turns_one = turns one (two_alone (λ b. windows_of (turning one) b ≡ windows_in (setting_in ring (turning one)) 2 first_only b 1 1 1) refl refl)

turns_other : AreWindows ring 2 1 1 (turning other)
turns_other = turns other (two_alone (λ b. windows_of (turning other) b ≡ windows_in (setting_in ring (turning other)) 2 first_only b 1 1 1) refl refl)

same_text : HasSameText ring (turning one) (turning other)
same_text = two_alone (λ b. map text_of_window (windows_of (turning one) b) ≡ map text_of_window (windows_of (turning other) b)) refl refl

-- whether the first chunk begins with a sample of 1
abbrev begins_one : List (List Window) → Bool
begins_one (((Some (cell ∷ cells) ∷ puts, takes) ∷ ws) ∷ buffers) = int_eq cell.left (pos 1)
begins_one _ = false

not_the_same : turning one ≡ turning other → ⊥
not_the_same e = true≢false (ap (λ (run : Run). begins_one run.buffers) e)

-- a chunk that no file has
abbrev nine : List Cell
nine = cells_of (new 9 ∷ more 9 ∷ more 9 ∷ more 9 ∷ more 9 ∷ more 9 ∷ more 9 ∷ more 9 ∷ [])

-- its reader got it, and nobody gave it
abbrev invented : Run
invented = record { buffers = (([], Some nine ∷ []) ∷ []) ∷ [] }

abbrev GetsNothing : (q : List (List Cell)) → (puts takes : List (Option (List Cell))) → Type 0
GetsNothing [] [] (Some x ∷ takes) = ⊥
GetsNothing [] [] (None ∷ takes) = ⊤
GetsNothing [] [] [] = ⊤
GetsNothing [] (put ∷ puts) takes = ⊤
GetsNothing (x ∷ q) puts takes = ⊤

gets_nothing : {C : ℕ} {rest q : List (List Cell)} {puts takes : List (Option (List Cell))} → Legal C rest q puts takes → GetsNothing q puts takes
gets_nothing {q = []} Legal.all_done = tt
gets_nothing {q = x ∷ q} Legal.all_done = tt
gets_nothing {q = []} (Legal.accepted low more) = tt
gets_nothing {q = x ∷ q} (Legal.accepted low more) = tt
gets_nothing {q = []} (Legal.put_refused all more) = tt
gets_nothing {q = x ∷ q} (Legal.put_refused all more) = tt
gets_nothing (Legal.got more) = tt
gets_nothing {puts = []} (Legal.empty more) = tt
gets_nothing {puts = put ∷ puts} (Legal.empty more) = tt

-- so no run that was broken off has this record, with however many windows closed: between two clocks, and within one
invented_is_refused : (W N : ℕ) → AreWindowsBegun joined 2 W N invented → ⊥
invented_is_refused W N begun = gets_nothing (begun.legal 0 (omega arith)).1.1

invented_alone_is_refused : (W N : ℕ) → AreWindowsBegun alone 1 W N invented → ⊥
invented_alone_is_refused W N begun = gets_nothing (begun.legal 0 (omega arith)).1.1

-- its reader is the node of an output, so it is drawn; and one chunk is less than two windows of two ticks
late_is_drawn : IsDrawn (setting_in joined late) 0 1 1 (node (Buffer 0) [])
late_is_drawn = sink_is_drawn (setting_in joined late) 0 1 1 (node (Buffer 0) []) refl refl refl refl refl

-- a reader below a fallback to silence that is not track-sensitive, the way of `mksafe`, below a mix that an output writes; its buffer holds
-- two chunks, and the reader gathers at most a tick
abbrev safe : Setting
safe = setting (node (Single []) [] ∷ node (Buffer 0) [] ∷ node (Blank 0) [] ∷ node (Fallback false) (1 ∷ 2 ∷ []) ∷ node (Add true) (0 ∷ 3 ∷ []) ∷ []) (Feed 0 0 ∷ out 4 ∷ [])
    (record { pre = 5; capacity = 2 } ∷ []) [] ([] ∷ [] ∷ [] ∷ [] ∷ [] ∷ []) (Main 0 ∷ Main 0 ∷ Main 0 ∷ Main 0 ∷ Main 0 ∷ [])

-- so it is always heard, and has room for windows of one tick, but not of two
safe_is_heard : IsHeard safe 0 (3 ∷ 4 ∷ []) 1
safe_is_heard = (refl, node (Fallback false) (1 ∷ 2 ∷ []), 0, refl, refl, (refl, refl, refl), (refl, node (Add true) (0 ∷ 3 ∷ []), 1, refl, refl, tt, (refl, refl)))

safe_has_room : HasRoom safe 1 0
safe_has_room = omega arith

safe_has_no_room : HasRoom safe 2 0 → ⊥
safe_has_no_room fits = omega (arith, fits)

-- the reader of `late_is_lawful` is always heard, and a put of it is refused: its buffer has no room for two windows of two ticks
late_is_heard : IsHeard joined 1 [] 1
late_is_heard = (refl, refl)

-- windows of one tick that keep pace, over a buffer of one chunk: one less than two windows, and a put is refused
abbrev narrow : List Window
narrow = (Some one ∷ [], None ∷ []) ∷ (None ∷ [], Some one ∷ []) ∷ []

narrow_keeps_pace : KeepPace 1 0 0 narrow
narrow_keeps_pace = (omega arith, omega arith, 0, inl refl, (omega arith, omega arith, 0, inr (omega arith), omega arith))

narrow_is_history : IsHistory 1 [] narrow []
narrow_is_history = (one ∷ [], Legal.empty (Legal.accepted (omega arith) Legal.all_done), ([], Legal.put_refused refl (Legal.got Legal.all_done), refl))

narrow_refuses : has_none (flat_map (λ (window : Window). window.0) narrow) ≡ true
narrow_refuses = refl
