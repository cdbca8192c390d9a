-- Where all ticks were made the text is that of a lawful record whose ticks can be ordered.
use Rattle.std.proofs.Common.{◌≡◌, ◌≢◌, ◌<◌, ◌≤◌, ◌+◌, ◌-◌, ◌*◌, ◌∙◌, ◌++◌, ◌⊎◌, ◌==◌, ℕ, zero, suc, min, Bool, true, false, cond, is_some, nat_eq, nat_lt, List, [], ◌∷◌, length, drop, map, take, flat_map, slice_get, slice_index_or, inl, inr, refl, ap, sym, subst, arith, suc-mul, append_assoc, append-nil}
use Rattle.std.specs.Prelude.{All}
use Rattle.std.specs.Option.{option_map_or}
use mathlib.Core.Path.{fun_ext}
use Rattle.std.proofs.lemmas.Bool.{cases_lt, cases_eq, lt-ltb, le-ltb}
use Rattle.std.proofs.lemmas.Bool.Decides.{nat_tests}
use Rattle.std.proofs.lemmas.List.{take_all}
use Rattle.std.proofs.lemmas.List.Elements.{All-head, All-tail}
use Rattle.std.proofs.Math.Nat.{min-eq_left, min-eq_right}
use Rattle.plan_core.specs.declared.sink.BufferPlan.{BufferPlan}
use Rattle.plan_core.specs.Plans.{IsBuffer}
use Rattle.clock_infer.specs.declared.clock_map.ClockMap.{ClockMap}
use Rattle.frame_core.specs.declared.cell.Cell.{Cell}
use Rattle.frame_core.specs.Frames.{somes}
use Rattle.frame_core.specs.Calls.{Call, Took, Given, puts_to, takes_of, Answer}
use Rattle.stream_meaning.specs.Instants.{Setting, answered}
use Rattle.stream_meaning.specs.Calls.{answers_in, calls_of_tick, joined_between, joined_upto}
use Rattle.stream_meaning.specs.Settings.{IsSetting}
use Rattle.stream_meaning.proofs.Answering.{joined_same}
use Rattle.stream_meaning.proofs.Unread.{no_tick_takes, none_in_joined}
use Rattle.run_records.specs.Outputs.{first_calls}
use Rattle.stream_meaning.proofs.Sorted.{reads_op}
use Rattle.run_records.specs.Buffers.{feeder, reader}
use Rattle.run_records.specs.Ordered.{IsOrdered, made as counted, text_of_window}
use Rattle.run_records.specs.Owning.{IsOwn}
use Rattle.run_records.specs.Records.{AreWindows, Follows, Run, Window, answers_of, calls_in, capacity_of, on, puts_of, setting_in, start, windows_in, windows_of}
use Rattle.run_records.proofs.Alone.{feeder_runs}
use Rattle.run_records.proofs.Flattening.{all_puts, all_takes, start_most}
use Rattle.run_records.proofs.Owning.{own_tick}
use Rattle.run_records.proofs.Running.{rests_in, runs_in}
use Rattle.run_records.proofs.Turning.{joined_split}
use Rattle.trace_records.specs.Told.{are_legal}
use Rattle.trace_records.specs.Clocks.{AreAnswered, AreInOrder, IsFront, Log, got_in, put_by, puts_in, takes_in}
use Rattle.trace_records.specs.Passes.{AreAt, IsFormed, IsLegalText, IsOrderedText, IsTold, got_then, nothing, ticks_in}
use Rattle.trace_records.proofs.Fronts.{agree_all, front_none, head_same, no_items, tail_same, told_puts, told_takes}
use Rattle.trace_records.proofs.Alike.{answered_upto, same_ticks}
use Rattle.trace_records.proofs.Histories.{run_told, told_run}
use Rattle.trace_records.proofs.Listed.{suits_follow}
use Rattle.trace_records.proofs.Passing.{counted_more, counted_snoc}
use Rattle.trace_records.proofs.Recorded.{map_long, no_takes, follows_whole, own_joined, record_takes, takes_told, text_long}

-- the two spellings of the answers of a buffer
flip : (a b : ℕ) → (b == a) ≡ nat_eq a b
flip a b = by (nat_eq a b) (nat_eq b a) refl refl
  where
    by : (p q : Bool) → nat_eq a b ≡ p → nat_eq b a ≡ q → nat_eq b a ≡ nat_eq a b
    by true true e f = f ∙ sym e
    by false false e f = f ∙ sym e
    by true false e f = absurd (grind (arith, nat_tests, e, f))
    by false true e f = absurd (grind (arith, nat_tests, e, f))

pub takes_are : (buffer : ℕ) (calls : List Call) → takes_of buffer calls ≡ answers_in buffer calls
takes_are buffer [] = refl
takes_are buffer (Took of answer ∷ calls) = ap (λ (t : Bool). cond t (answer ∷ takes_of buffer calls) (takes_of buffer calls)) (flip of buffer) ∙ ap (λ (rest : List Answer). cond (nat_eq of buffer) (answer ∷ rest) rest) (takes_are buffer calls)
takes_are buffer (Given to chunk accepted ∷ calls) = takes_are buffer calls

-- a buffer holds at least one chunk
capacity_some : (buffers : List BufferPlan) → All IsBuffer buffers → (b : ℕ) → b < length buffers → 1 ≤ option_map_or (λ plan. plan.capacity) (slice_get buffers b) 0
capacity_some [] all b low = absurd (omega (arith, low))
capacity_some (x ∷ xs) all zero low = (All-head IsBuffer x xs all).1
capacity_some (x ∷ xs) all (suc b) low = capacity_some xs (All-tail IsBuffer x xs all) b (omega (arith, low))

equal_self : (n : ℕ) → nat_eq n n ≡ true
equal_self n = grind (arith, nat_tests)

-- before any tick
pub start_zero : (W N : ℕ) → start W N 0 ≡ 0
start_zero W N = let z : 0 * W ≡ 0 = grind arith in ap (min N) z ∙ min-eq_right (omega arith)

start_up : (W N j : ℕ) → start W N j ≤ start W N (suc j)
start_up W N j =
    let m = suc-mul j W in
    elim (cases_lt N (j * W)) [
      | inl low ↦ (let e = min-eq_left {n = N} {m = j * W} (omega (arith, low)) in let f = min-eq_left {n = N} {m = suc j * W} (omega (arith, low, m)) in omega (arith, e, f))
      | inr high ↦ (let e = min-eq_right {n = j * W} {m = N} high in elim (cases_lt N (suc j * W)) [
        | inl low ↦ (let f = min-eq_left {n = N} {m = suc j * W} (omega (arith, low)) in omega (arith, e, f, high))
        | inr high' ↦ (let f = min-eq_right {n = suc j * W} {m = N} high' in omega (arith, e, f, m))
      ])
    ]

upto_next : (W N : ℕ) (f : ℕ → List Call) (j : ℕ) → joined_upto f (start W N (suc j)) ≡ joined_upto f (start W N j) ++ joined_between f (start W N j) (start W N (suc j))
upto_next W N f j =
    let up = start_up W N j in
    let e : start W N (suc j) ≡ start W N j + (start W N (suc j) - start W N j) = omega (arith, up) in
    ap (joined_upto f) e ∙ joined_split f (start W N j) (start W N (suc j) - start W N j)

pub start_some : (W N j count : ℕ) → suc j ≤ count → start W N count ≡ N → start W N j < N → start W N (suc j) ≤ 0 → ⊥
start_some W N j count low whole tight none =
    elim (cases_lt N (suc j * W)) [
      | inl less ↦ (let e = min-eq_left {n = N} {m = suc j * W} (omega (arith, less)) in omega (arith, e, none, tight))
      | inr high ↦ (let e = min-eq_right {n = suc j * W} {m = N} high in
          let m = suc-mul j W in
          let w : W ≡ 0 = omega (arith, e, none, m) in
          let z : count * W ≡ 0 = ap (λ n. count * n) w ∙ (let zz : count * 0 ≡ 0 = grind arith in zz) in
          let all : min N (count * W) ≡ 0 = ap (min N) z ∙ min-eq_right (omega arith) in
          omega (arith, all, whole, tight))
    ]

module _ (base : Setting) (map_of : ClockMap) (is : IsSetting base map_of) (W N : ℕ) (text : ℕ → Log) where
  abbrev B : ℕ
  B = length base.plan.buffers

  abbrev C : ℕ
  C = map_of.running

  pub begun : IsFormed B W N text → AreAt base C W N text (λ m. 0) (λ b. [])
  begun formed = record {
    calls = λ m. [];
    accepted = λ m t b. true;
    clock = λ m low. record {
      within = omega arith;
      are = λ rest. refl;
      replayed = record {
        answered_so = record {
          puts = λ b known. front_none (puts_in (text b));
          takes = λ b known. front_none (takes_in (text b));
          got = λ b known joins. front_none [];
        };
        in_order = record { each = λ front behind call e known local. absurd (none_there front behind call e) };
        whole = record {
          puts = λ j b ends high known fed. (let e : start W N j ≡ 0 = omega (arith, ends) in
              ap (λ t. length (puts_to b (first_calls (answered base (got_then [] nothing)) (λ t b. true) m t))) e ∙ ap (λ (l : Log). length (puts_in l)) (sym (no_window j b ends high known)));
          takes = λ j b ends high known read. (let e : start W N j ≡ 0 = omega (arith, ends) in
              ap (λ t. length (takes_of b (first_calls (answered base (got_then [] nothing)) (λ t b. true) m t))) e ∙ ap (λ (l : Log). length (takes_in l)) (sym (no_window j b ends high known)));
        };
      };
      forced = λ run lawful is_told. refl;
    };
    kept = λ b known. refl;
    order = [];
    ordered = record {
      all = λ m low. refl;
      each = λ before behind m t e. absurd (no_tick before behind m t e);
      earlier = λ before behind m t b e known read. absurd (no_tick before behind m t e);
    };
  }
    where
      none_there : (front behind : List Call) (call : Call) → [] ≡ front ++ call ∷ behind → ⊥
      none_there [] behind call e = no_items call behind e
      none_there (c ∷ front) behind call e = no_items c (front ++ call ∷ behind) e

      no_tick : (before behind : List (ℕ × ℕ)) (m t : ℕ) → [] ≡ before ++ (m, t) ∷ behind → ⊥
      no_tick [] behind m t e = no_items (m, t) behind e
      no_tick (c ∷ before) behind m t e = no_items c (before ++ (m, t) ∷ behind) e

      no_window : (j b : ℕ) → start W N j ≤ 0 → j ≤ length (text b) → b < B → take j (text b) ≡ []
      no_window zero b ends high known = refl
      no_window (suc j) b ends high known = absurd (let many = formed.many b known in start_some W N j formed.count (omega (arith, high, many)) formed.whole (formed.tight j (omega (arith, high, many))) ends)

  -- the text of a lawful record
  module _ (run : Run) (lawful : AreWindows base C W N run) (is_told : IsTold base text run) where
    pub record_formed : IsFormed B W N text
    record_formed = record { count = lawful.count; whole = lawful.whole; tight = lawful.tight; many = text_long base map_of is W N text run lawful is_told }

    pub record_legal : IsLegalText base C text
    record_legal = record {
      windows = λ b known. (let legal = lawful.legal b known in
          subst (λ (l : Log). are_legal (capacity_of base b) 0 l ≡ true) (is_told b known) (run_told (capacity_of base b) [] legal.0 (windows_of run b) (omega arith) legal.1));
      unread = λ b known high.
          let calls = calls_in (setting_in base run) C lawful.accepted (reader base b) in
          let none : joined_upto calls N ≡ joined_upto (λ t. []) N = joined_same calls (λ t. []) N (λ t low. rests_in (setting_in base run) C lawful.accepted (reader base b) t high) in
          ap takes_in (sym (is_told b known)) ∙ sym (takes_told (windows_of run b)) ∙ ap (map is_some) (record_takes base map_of is W N text run lawful is_told b known ∙ ap (takes_of b) (none ∙ nil N));
    }
      where
        nil : (n : ℕ) → joined_upto (λ t. []) n ≡ []
        nil zero = refl
        nil (suc n) = append-nil (joined_upto (λ t. []) n) ∙ nil n

  -- all ticks were made
  module _ (made : ℕ → ℕ) (chunks : ℕ → List (List Cell)) (at : AreAt base C W N text made chunks) (all_made : (m : ℕ) → m < C → made m ≡ N) (formed : IsFormed B W N text) (legal : IsLegalText base C text) where
    abbrev calls_of : ℕ → List Call
    calls_of m = cond (nat_lt m C) (at.calls m) []

    abbrev given : ℕ → List Answer
    given b = answers_in b (calls_of (reader base b))

    abbrev world : Setting
    world = answered base given

    runs_is : (m : ℕ) → m < C → calls_of m ≡ at.calls m
    runs_is m low = ap (λ (s : Bool). cond s (at.calls m) []) (lt-ltb m C low)

    rests_is : (m : ℕ) → C ≤ m → calls_of m ≡ []
    rests_is m high = ap (λ (s : Bool). cond s (at.calls m) []) (le-ltb m C high)

    -- a clock takes its own answers alone
    own_calls : (m : ℕ) → m < C → All (IsOwn base m) (at.calls m)
    own_calls m low = subst (All (IsOwn base m)) (sym ((at.clock m low).are nothing))
        (own_joined base m (λ t. calls_of_tick (answered base (got_then (at.calls m) nothing)) (at.accepted m t) m t) (λ t. own_tick base map_of is (got_then (at.calls m) nothing) (at.accepted m t) m t) (made m))

    rest_of : (m b : ℕ) → List Answer
    rest_of m b = cond (nat_eq (reader base b) m) [] (given b)

    given_by : (m : ℕ) → m < C → got_then (at.calls m) (rest_of m) ≡ given
    unfolding rest_of
    given_by m low = fun_ext (λ b. by b (nat_eq (reader base b) m) refl)
      where
        by : (b : ℕ) (s : Bool) → nat_eq (reader base b) m ≡ s → answers_in b (at.calls m) ++ cond s [] (given b) ≡ given b
        by b true e =
            let same : reader base b ≡ m = grind (arith, nat_tests) in
            append-nil (answers_in b (at.calls m)) ∙ ap (answers_in b) (sym (runs_is m low) ∙ ap calls_of (sym same))
        by b false e =
            let other : reader base b ≢ m = grind (arith, nat_tests) in
            ap (λ (l : List Answer). l ++ given b) (sym (takes_are b (at.calls m)) ∙ no_takes base b m other (at.calls m) (own_calls m low))

    -- the calls of a clock in this world
    made_in : (m : ℕ) → m < C → at.calls m ≡ first_calls world (at.accepted m) m N
    made_in m low =
        (at.clock m low).are (rest_of m) ∙ ap (λ (g : ℕ → List Answer). first_calls (answered base g) (at.accepted m) m (made m)) (given_by m low)
        ∙ ap (first_calls world (at.accepted m) m) (all_made m low)

    abbrev ticks : ℕ → ℕ → List Call
    ticks m t = calls_in world C at.accepted m t

    ticks_are : (m : ℕ) → m < C → (n : ℕ) → joined_upto (ticks m) n ≡ first_calls world (at.accepted m) m n
    ticks_are m low n = joined_same (ticks m) (λ t. calls_of_tick world (at.accepted m t) m t) n (λ t less. runs_in world C at.accepted m t low)

    ticks_none : (m : ℕ) → C ≤ m → (n : ℕ) → joined_upto (ticks m) n ≡ []
    ticks_none m high zero = refl
    ticks_none m high (suc n) = (λ i. ticks_none m high n i ++ rests_in world C at.accepted m n high i)

    ticks_all : (m : ℕ) → joined_upto (ticks m) N ≡ calls_of m
    ticks_all m = elim (cases_lt m C) [
      | inl low ↦ ticks_are m low N ∙ sym (made_in m low) ∙ sym (runs_is m low)
      | inr high ↦ ticks_none m high N ∙ sym (rests_is m high)
    ]

    -- each of its first ticks, in this world and by itself
    ticks_first : (m : ℕ) → m < C → (t : ℕ) → t ≤ N → first_calls world (at.accepted m) m t ≡ ticks_in base (at.accepted m) (at.calls m) m t
    ticks_first m low t within =
        let has = (at.clock m low).replayed in
        let full : first_calls (answered base (got_then (at.calls m) nothing)) (at.accepted m) m (made m) ≡ first_calls world (at.accepted m) m N = sym ((at.clock m low).are nothing) ∙ made_in m low in
        let far = all_made m low in
        same_ticks base map_of is text m chunks chunks (λ b known joins. agree_all (chunks b)) given (got_then (at.calls m) nothing) (at.accepted m) (at.accepted m) N (made m) t within (omega (arith, within, far))
        (subst (AreAnswered base text chunks) full has.answered_so) has.answered_so (subst (AreInOrder base) full has.in_order) has.in_order

    abbrev windows : ℕ → List Window
    windows b = windows_in world C at.accepted b W N formed.count

    windows_from : (b n : ℕ) → List (List Window)
    windows_from b zero = []
    windows_from b (suc n) = windows b ∷ windows_from (suc b) n

    abbrev run : Run
    run = record { buffers = windows_from 0 B }

    from_long : (b n : ℕ) → length (windows_from b n) ≡ n
    unfolding windows_from
    from_long b zero = refl
    from_long b (suc n) = ap suc (from_long (suc b) n)

    from_at : (b n k : ℕ) → k < n → slice_index_or (windows_from b n) k [] ≡ windows (b + k)
    unfolding windows_from
    from_at b zero k low = absurd (omega (arith, low))
    from_at b (suc n) zero low = let same : b ≡ b + 0 = omega arith in ap windows same
    from_at b (suc n) (suc k) low = let same : suc b + k ≡ b + suc k = omega arith in from_at (suc b) n k (omega (arith, low)) ∙ ap windows same

    from_past : (b n k : ℕ) → n ≤ k → slice_index_or (windows_from b n) k [] ≡ []
    unfolding windows_from
    from_past b zero k high = refl
    from_past b (suc n) zero high = absurd (omega (arith, high))
    from_past b (suc n) (suc k) high = from_past (suc b) n k (omega (arith, high))

    window_at : (b : ℕ) → b < B → windows_of run b ≡ windows b
    window_at b low = let same : 0 + b ≡ b = omega arith in from_at 0 B b low ∙ ap windows same

    puts_all : (b : ℕ) → b < B → puts_of run b ≡ puts_to b (calls_of (feeder base b))
    puts_all b known =
        ap (flat_map (λ (w : Window). w.0)) (window_at b known) ∙ all_puts world C at.accepted b W N formed.count
        ∙ ap (λ n. puts_to b (joined_upto (ticks (feeder base b)) n)) formed.whole ∙ ap (puts_to b) (ticks_all (feeder base b))

    takes_all : (b : ℕ) → b < B → answers_of run b ≡ takes_of b (calls_of (reader base b))
    takes_all b known =
        ap (flat_map (λ (w : Window). w.1)) (window_at b known) ∙ all_takes world C at.accepted b W N formed.count
        ∙ ap (λ n. takes_of b (joined_upto (ticks (reader base b)) n)) formed.whole ∙ ap (takes_of b) (ticks_all (reader base b))

    -- a buffer that the plan has not got has no answer
    none_past : (b : ℕ) → B ≤ b → given b ≡ []
    none_past b high = elim (cases_lt (reader base b) C) [
      | inl low ↦ ap (answers_in b) (runs_is (reader base b) low ∙ (at.clock (reader base b) low).are nothing)
          ∙ none_in_joined b (λ t. calls_of_tick (answered base (got_then (at.calls (reader base b)) nothing)) (at.accepted (reader base b) t) (reader base b) t)
          (λ t. no_tick_takes (answered base (got_then (at.calls (reader base b)) nothing)) (at.accepted (reader base b) t) (reader base b) t b
          (record { none = λ rank i node found work below. let less = is.plan.read b i (node, found, reads_op base.plan.rate i node.kind node.op b work) in omega (arith, less, high) })) (made (reader base b))
      | inr over ↦ ap (answers_in b) (rests_is (reader base b) over)
    ]

    answers_are : (b : ℕ) → answers_of run b ≡ given b
    answers_are b = elim (cases_lt b B) [
      | inl known ↦ takes_all b known ∙ takes_are b (calls_of (reader base b))
      | inr high ↦ ap (flat_map (λ (w : Window). w.1)) (from_past 0 B b high) ∙ sym (none_past b high)
    ]

    setting_is : setting_in base run ≡ world
    setting_is = ap (answered base) (fun_ext answers_are)

    -- the clock that feeds a buffer
    fed_calls : (b : ℕ) → b < B → calls_of (feeder base b) ≡ at.calls (feeder base b)
    fed_calls b known = runs_is (feeder base b) (feeder_runs base map_of is b known)

    fed_order : (b : ℕ) (known : b < B) → AreInOrder base (at.calls (feeder base b))
    fed_order b known =
        let f = feeder base b in let low = feeder_runs base map_of is b known in
        subst (AreInOrder base) (sym ((at.clock f low).are nothing)) (at.clock f low).replayed.in_order

    -- the chunks that were got are the first that were accepted
    abbrev GotFront : ℕ → Type 0
    GotFront b = (rest : List (List Cell)) × (somes (puts_of run b) ≡ somes (answers_of run b) ++ rest)

    abbrev left_of : ℕ → List (List Cell)
    left_of b = drop (got_in b (at.calls (feeder base b))) (somes (puts_to b (at.calls (feeder base b))))

    got_front : (b : ℕ) → b < B → GotFront b
    got_front b known = by (cases_eq (feeder base b) (reader base b)) (cases_lt (reader base b) C)
      where
        puts_here : somes (puts_of run b) ≡ somes (puts_to b (at.calls (feeder base b)))
        puts_here = ap somes (puts_all b known) ∙ ap (λ (l : List Call). somes (puts_to b l)) (fed_calls b known)

        by : (feeder base b ≡ reader base b) ⊎ (feeder base b ≢ reader base b) → (reader base b < C) ⊎ (C ≤ reader base b) → GotFront b
        by (inl local) which =
            let f = suits_follow base b known local [] (at.calls (feeder base b)) (fed_order b known) in
            let whole = follows_whole (capacity_of base b) (at.calls (feeder base b)) b [] (left_of b) f in
            let takes : somes (answers_of run b) ≡ somes (takes_of b (at.calls (feeder base b))) =
            ap somes (takes_all b known) ∙ ap (λ (k : ℕ). somes (takes_of b (calls_of k))) (sym local) ∙ ap (λ (l : List Call). somes (takes_of b l)) (fed_calls b known) in
            (left_of b, puts_here ∙ whole ∙ ap (λ (l : List (List Cell)). l ++ left_of b) (sym takes))
        by (inr joins) (inl low) =
            let front = (at.clock (reader base b) low).replayed.answered_so.got b known joins in
            let takes : somes (answers_of run b) ≡ somes (takes_of b (first_calls (answered base (got_then (at.calls (reader base b)) nothing)) (at.accepted (reader base b)) (reader base b) (made (reader base b)))) =
            ap somes (takes_all b known) ∙ ap (λ (l : List Call). somes (takes_of b l)) (runs_is (reader base b) low ∙ (at.clock (reader base b) low).are nothing) in
            (front.rest, puts_here ∙ sym (at.kept b known) ∙ front.are ∙ ap (λ (l : List (List Cell)). l ++ front.rest) (sym takes))
        by (inr joins) (inr high) =
            let takes : somes (answers_of run b) ≡ [] = ap somes (takes_all b known) ∙ ap (λ (l : List Call). somes (takes_of b l)) (rests_is (reader base b) high) in
            (somes (puts_of run b), ap (λ (l : List (List Cell)). l ++ somes (puts_of run b)) (sym takes))

    -- two fronts of one list that are as long are one
    front_one : {A : Type 0} (xs ys all : List A) → IsFront xs all → IsFront ys all → length xs ≡ length ys → xs ≡ ys
    front_one [] [] all one two long = refl
    front_one [] (y ∷ ys) all one two long = absurd (omega (arith, long))
    front_one (x ∷ xs) [] all one two long = absurd (omega (arith, long))
    front_one (x ∷ xs) (y ∷ ys) [] one two long = absurd (no_items x (xs ++ one.rest) one.are)
    front_one (x ∷ xs) (y ∷ ys) (z ∷ all) one two long =
        let here : x ≡ y = sym (head_same z x all (xs ++ one.rest) one.are) ∙ head_same z y all (ys ++ two.rest) two.are in
        let more = front_one xs ys all (record { rest = one.rest; are = tail_same z x all (xs ++ one.rest) one.are }) (record { rest = two.rest; are = tail_same z y all (ys ++ two.rest) two.are }) (omega (arith, long)) in
        (λ i. here i ∷ more i)

    cancel : {A : Type 0} (xs ys zs : List A) → xs ++ ys ≡ xs ++ zs → ys ≡ zs
    cancel [] ys zs e = e
    cancel (x ∷ xs) ys zs e = cancel xs ys zs (tail_same x x (xs ++ ys) (xs ++ zs) e)

    puts_front : (log : Log) (j : ℕ) → IsFront (puts_in (take j log)) (puts_in log)
    puts_front log zero = front_none (puts_in log)
    puts_front [] (suc j) = front_none []
    puts_front (w ∷ log) (suc j) = (let more = puts_front log j in record { rest = more.rest; are = ap (λ l. w.0 ++ l) more.are ∙ sym (append_assoc w.0 (puts_in (take j log)) more.rest) })

    takes_front : (log : Log) (j : ℕ) → IsFront (takes_in (take j log)) (takes_in log)
    takes_front log zero = front_none (takes_in log)
    takes_front [] (suc j) = front_none []
    takes_front (w ∷ log) (suc j) = (let more = takes_front log j in record { rest = more.rest; are = ap (λ l. w.1 ++ l) more.are ∙ sym (append_assoc w.1 (takes_in (take j log)) more.rest) })

    -- what is told of the first ticks of whole windows
    puts_by : (b j : ℕ) → b < B → j ≤ formed.count → map is_some (puts_to b (joined_upto (ticks (feeder base b)) (start W N j))) ≡ puts_in (take j (text b))
    puts_by b j known within =
        let f = feeder base b in let low = feeder_runs base map_of is b known in
        let has = (at.clock f low).replayed in
        let ends = start_most W N j in
        let far = all_made f low in
        let same : joined_upto (ticks f) (start W N j) ≡ ticks_in base (at.accepted f) (at.calls f) f (start W N j) = ticks_are f low (start W N j) ∙ ticks_first f low (start W N j) ends in
        let many = formed.many b known in
        let long = has.whole.puts j b (omega (arith, ends, far)) (omega (arith, within, many)) known refl in
        let front = answered_upto base map_of is text f chunks (got_then (at.calls f) nothing) (at.accepted f) (start W N j) (made f) (omega (arith, ends, far)) has.answered_so in
        let told_long = map_long is_some (puts_to b (ticks_in base (at.accepted f) (at.calls f) f (start W N j))) in
        ap (λ (l : List Call). map is_some (puts_to b l)) same
        ∙ front_one (map is_some (puts_to b (ticks_in base (at.accepted f) (at.calls f) f (start W N j)))) (puts_in (take j (text b))) (puts_in (text b)) (front.puts b known) (puts_front (text b) j) (told_long ∙ long)

    takes_by : (b j : ℕ) → b < B → j ≤ formed.count → map is_some (takes_of b (joined_upto (ticks (reader base b)) (start W N j))) ≡ takes_in (take j (text b))
    takes_by b j known within = by (cases_lt (reader base b) C)
      where
        by : (reader base b < C) ⊎ (C ≤ reader base b) → map is_some (takes_of b (joined_upto (ticks (reader base b)) (start W N j))) ≡ takes_in (take j (text b))
        by (inl low) =
            let f = reader base b in
            let has = (at.clock f low).replayed in
            let ends = start_most W N j in
            let far = all_made f low in
            let same : joined_upto (ticks f) (start W N j) ≡ ticks_in base (at.accepted f) (at.calls f) f (start W N j) = ticks_are f low (start W N j) ∙ ticks_first f low (start W N j) ends in
            let many = formed.many b known in
            let long = has.whole.takes j b (omega (arith, ends, far)) (omega (arith, within, many)) known refl in
            let front = answered_upto base map_of is text f chunks (got_then (at.calls f) nothing) (at.accepted f) (start W N j) (made f) (omega (arith, ends, far)) has.answered_so in
            let told_long = map_long is_some (takes_of b (ticks_in base (at.accepted f) (at.calls f) f (start W N j))) in
            ap (λ (l : List Call). map is_some (takes_of b l)) same
            ∙ front_one (map is_some (takes_of b (ticks_in base (at.accepted f) (at.calls f) f (start W N j)))) (takes_in (take j (text b))) (takes_in (text b)) (front.takes b known) (takes_front (text b) j) (told_long ∙ long)
        by (inr high) =
            let none = legal.unread b known high in
            let front = takes_front (text b) j in
            ap (λ (l : List Call). map is_some (takes_of b l)) (ticks_none (reader base b) high (start W N j)) ∙ sym (nothing_there (takes_in (take j (text b))) front.rest (sym none ∙ front.are))
          where
            nothing_there : (xs ys : List Bool) → [] ≡ xs ++ ys → xs ≡ []
            nothing_there [] ys e = refl
            nothing_there (x ∷ xs) ys e = absurd (no_items x (xs ++ ys) e)

    -- the windows are told as the text has them
    text_next : (log : Log) (j : ℕ) → j < length log → (w : List Bool × List Bool) × (take (suc j) log ≡ take j log ++ w ∷ [])
    text_next [] j low = absurd (omega (arith, low))
    text_next (w ∷ log) zero low = (w, refl)
    text_next (w ∷ log) (suc j) low = (let more = text_next log j (omega (arith, low)) in (more.0, ap (λ l. w ∷ l) more.1))

    puts_snoc : (log : Log) (w : List Bool × List Bool) → puts_in (log ++ w ∷ []) ≡ puts_in log ++ w.0
    puts_snoc [] w = append-nil w.0
    puts_snoc (x ∷ log) w = ap (λ l. x.0 ++ l) (puts_snoc log w) ∙ sym (append_assoc x.0 (puts_in log) w.0)

    takes_snoc : (log : Log) (w : List Bool × List Bool) → takes_in (log ++ w ∷ []) ≡ takes_in log ++ w.1
    takes_snoc [] w = append-nil w.1
    takes_snoc (x ∷ log) w = ap (λ l. x.1 ++ l) (takes_snoc log w) ∙ sym (append_assoc x.1 (takes_in log) w.1)

    map_snoc : (ws : List Window) (w : Window) → map text_of_window (ws ++ w ∷ []) ≡ map text_of_window ws ++ text_of_window w ∷ []
    map_snoc [] w = refl
    map_snoc (x ∷ ws) w = ap (λ l. text_of_window x ∷ l) (map_snoc ws w)

    windows_told : (b j : ℕ) → b < B → j ≤ formed.count → map text_of_window (windows_in world C at.accepted b W N j) ≡ take j (text b)
    windows_told b zero known within = refl
    windows_told b (suc j) known within =
        let many = formed.many b known in
        let next = text_next (text b) j (omega (arith, within, many)) in
        let f = ticks (feeder base b) in let g = ticks (reader base b) in
        let before = windows_told b j known (omega (arith, within)) in
        let puts : map is_some (puts_to b (joined_between f (start W N j) (start W N (suc j)))) ≡ next.0.0 = cancel (puts_in (take j (text b))) _ _ (
        ap (λ l. l ++ map is_some (puts_to b (joined_between f (start W N j) (start W N (suc j))))) (sym (puts_by b j known (omega (arith, within))))
        ∙ sym (told_puts b (joined_upto f (start W N j)) (joined_between f (start W N j) (start W N (suc j)))) ∙ ap (λ (l : List Call). map is_some (puts_to b l)) (sym (upto_next W N f j))
        ∙ puts_by b (suc j) known within ∙ ap puts_in next.1 ∙ puts_snoc (take j (text b)) next.0) in
        let takes : map is_some (takes_of b (joined_between g (start W N j) (start W N (suc j)))) ≡ next.0.1 = cancel (takes_in (take j (text b))) _ _ (
        ap (λ l. l ++ map is_some (takes_of b (joined_between g (start W N j) (start W N (suc j))))) (sym (takes_by b j known (omega (arith, within))))
        ∙ sym (told_takes b (joined_upto g (start W N j)) (joined_between g (start W N j) (start W N (suc j)))) ∙ ap (λ (l : List Call). map is_some (takes_of b l)) (sym (upto_next W N g j))
        ∙ takes_by b (suc j) known within ∙ ap takes_in next.1 ∙ takes_snoc (take j (text b)) next.0) in
        map_snoc (windows_in world C at.accepted b W N j) _ ∙ (λ i. before i ++ (puts i, takes i) ∷ []) ∙ sym next.1

    told_all : IsTold base text run
    told_all b known =
        let many = formed.many b known in
        ap (map text_of_window) (window_at b known) ∙ windows_told b formed.count known (omega arith) ∙ take_all formed.count (text b) (omega (arith, many))

    lawful_now : AreWindows base C W N run
    lawful_now = record {
      buffers = from_long 0 B;
      accepted = at.accepted;
      count = formed.count;
      whole = formed.whole;
      tight = formed.tight;
      are = λ b known. window_at b known ∙ ap (λ (s : Setting). windows_in s C at.accepted b W N formed.count) (sym setting_is);
      legal = λ b known. (let front = got_front b known in (
        front.0,
        told_run (capacity_of base b) [] front.0 (windows_of run b) (capacity_some base.plan.buffers is.plan.buffers b known) (omega arith)
            (subst (λ (l : Log). are_legal (capacity_of base b) 0 l ≡ true) (sym (told_all b known)) (legal.windows b known)) front.1,
      ));
      in_order = λ b known local. (
        left_of b,
        subst (λ (s : Setting). Follows (capacity_of base b) [] (on b (joined_upto (calls_in s C at.accepted (feeder base b)) N)) (left_of b)) (sym setting_is)
            (subst (λ (l : List Call). Follows (capacity_of base b) [] (on b l) (left_of b)) (sym (ticks_all (feeder base b) ∙ fed_calls b known)) (suits_follow base b known local [] (at.calls (feeder base b)) (fed_order b known))),
      );
    }

    ordered_now : IsOrdered (setting_in base run) C at.accepted N
    ordered_now = subst (λ (s : Setting). IsOrdered s C at.accepted N) (sym setting_is) (record {
      order = at.order;
      all = λ m low. at.ordered.all m low ∙ all_made m low;
      each = at.ordered.each;
      earlier = λ before behind m t b e known read.
          let this = at.ordered.each before behind m t e in
          let f = feeder base b in
          let runs : f < C = feeder_runs base map_of is b known in
          let snoc : counted m (before ++ (m, t) ∷ []) ≡ suc (counted m before) = counted_snoc m before m t ∙ ap (λ (s : Bool). cond s (suc (counted m before)) (counted m before)) (equal_self m) in
          let most = counted_more m (before ++ (m, t) ∷ []) behind in
          let parts = ap (counted m) (e ∙ sym (append_assoc before ((m, t) ∷ []) behind)) in
          let all = at.ordered.all m this.0 ∙ all_made m this.0 in
          let t_is = this.1 in
          let within : suc t ≤ N = omega (arith, t_is, snoc, most, parts, all) in
          let few = counted_more f before ((m, t) ∷ behind) in
          let whole = ap (counted f) e in
          let all_f = at.ordered.all f runs ∙ all_made f runs in
          let inside : counted f before ≤ N = omega (arith, few, whole, all_f) in
          let early = at.ordered.earlier before behind m t b e known read in
          let gets : got_in b (joined_upto (ticks (reader base b)) (suc t)) ≡ got_in b (ticks_in base (at.accepted m) (at.calls m) m (suc t)) =
          ap (λ (k : ℕ). got_in b (joined_upto (ticks k) (suc t))) read ∙ ap (got_in b) (ticks_are m this.0 (suc t) ∙ ticks_first m this.0 (suc t) within) in
          let puts : put_by b (joined_upto (ticks f) (counted f before)) ≡ put_by b (ticks_in base (at.accepted f) (at.calls f) f (counted f before)) =
          ap (put_by b) (ticks_are f runs (counted f before) ∙ ticks_first f runs (counted f before) inside) in
          omega (arith, early, gets, puts);
    })

    pub completed : IsOrderedText base C W N text
    unfolding lawful_now
    completed = record { run = run; lawful = lawful_now; told = told_all; ordered = ordered_now }
