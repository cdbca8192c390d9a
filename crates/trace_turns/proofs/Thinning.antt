-- Buffers that let chunks go, and the same ones with all their chunks.
use Rattle.std.proofs.Common.{◌≡◌, ◌<◌, ◌≤◌, ◌+◌, ◌-◌, ◌∙◌, ◌++◌, ◌⊎◌, ℕ, zero, suc, Bool, true, false, is_some, nat_eq, Some, None, List, [], ◌∷◌, length, drop, map, take, slice_get, slice_index_or, inl, inr, refl, ap, sym, subst, arith, append-nil, length-append}
use Rattle.std.specs.Prelude.{All}
use Rattle.std.proofs.lemmas.Bool.{cases_eq}
use Rattle.std.proofs.lemmas.Bool.Decides.{nat_tests}
use Rattle.std.proofs.lemmas.List.{drop-append-le, drop-drop, drop_all, ext_get_or, get_or_default, length-take-le, take-append-drop, take-append-le, take-take}
use Rattle.std.proofs.Math.Seq.{drop-append_seam}
use Rattle.frame_core.specs.declared.cell.Cell.{Cell}
use Rattle.frame_core.specs.Frames.{somes}
use Rattle.frame_core.specs.Calls.{Call, Took, puts_to, takes_of, Answer}
use Rattle.frame_core.proofs.Lanes.{somes-append}
use Rattle.stream_meaning.specs.Instants.{Setting}
use Rattle.run_records.specs.Buffers.{feeder, reader}
use Rattle.run_records.specs.Owning.{IsOwn}
use Rattle.run_records.proofs.Flattening.{puts-append, takes-append}
use Rattle.trace_turns.specs.declared.course.Course.{Course}
use Rattle.trace_turns.specs.declared.course.Course.TheVariants.{Goes, Waits, Fails}
use Rattle.trace_turns.specs.declared.told.Mark.{Mark}
use Rattle.trace_records.specs.Clocks.{IsFront, Log, Suits, buffer_of, got_in}
use Rattle.trace_turns.specs.Answering.{AllStand, BufferState, CanComeBy, HasFailed, HasWaited, SameBuffer, SameBuffers, StandsFor, TapsStand, gone_at, is_list}
use Rattle.trace_turns.specs.Marks.{HaveLetGo, HaveResumed, IsForgotten, no_mark, others_in, resumed}
use Rattle.trace_turns.specs.Thin.{AreFull, AreKept, AreUnlost, HasLost, IsFull, NoneLost, TapsFollow}
use Rattle.trace_turns.specs.Turns.{AreOf, HaveBegun, chunks_of, no_state}
use Rattle.trace_records.proofs.Histories.{cut}
use Rattle.trace_records.proofs.Recorded.{map_long, no_puts, no_takes, own_at}

same_number : (b c : ℕ) → nat_eq b c ≡ true → b ≡ c
same_number b c e = grind (arith, nat_tests)

-- buffers with these chunks
abbrev pub filled : (ℕ → List (List Cell)) → List BufferState → List BufferState
filled chunks [] = []
filled chunks (s ∷ states) = record s { chunks = chunks 0; gone = 0 } ∷ filled (λ b. chunks (suc b)) states

filled_long : (chunks : ℕ → List (List Cell)) (states : List BufferState) → length (filled chunks states) ≡ length states
filled_long chunks [] = refl
filled_long chunks (s ∷ states) = ap suc (filled_long (λ b. chunks (suc b)) states)

filled_at : (chunks : ℕ → List (List Cell)) (states : List BufferState) (b : ℕ) (d : BufferState) → b < length states → slice_index_or (filled chunks states) b d ≡ record (slice_index_or states b d) { chunks = chunks b; gone = 0 }
filled_at chunks [] b d low = absurd (omega (arith, low))
filled_at chunks (s ∷ states) zero d low = refl
filled_at chunks (s ∷ states) (suc b) d low = filled_at (λ b. chunks (suc b)) states b d (omega (arith, low))

-- lists that are equal from some item on
module _ {A : Type 0} where
  drop_later : (g n : ℕ) (xs ys : List A) → g ≤ n → drop g xs ≡ drop g ys → drop n xs ≡ drop n ys
  drop_later g n xs ys low same =
      let parts : g + (n - g) ≡ n = omega (arith, low) in
      ap (λ k. drop k xs) (sym parts) ∙ sym (drop-drop (n - g) g xs) ∙ ap (drop (n - g)) same ∙ drop-drop (n - g) g ys ∙ ap (λ k. drop k ys) parts

  joined : (g : ℕ) (xs ys : List A) → take g xs ≡ take g ys → drop g xs ≡ drop g ys → xs ≡ ys
  joined g xs ys front rest = sym (take-append-drop g xs) ∙ (λ i. front i ++ rest i) ∙ take-append-drop g ys

  long_of : (xs ys : List A) (n : ℕ) → xs ≡ take n ys → n ≤ length ys → length xs ≡ n
  long_of xs ys n e low = ap (λ (l : List A). length l) e ∙ length-take-le n ys low

  no_rest : (xs ys : List A) → xs ++ ys ≡ [] → xs ≡ []
  no_rest [] ys e = refl
  no_rest (x ∷ xs) ys e = absurd cc

  no_length : (xs : List A) → xs ≡ [] → length xs ≡ 0
  no_length xs e = ap (λ (l : List A). length l) e

  dropped_none : (n : ℕ) (xs : List A) → drop n xs ≡ [] → length xs ≤ n
  dropped_none zero xs e = (let none = no_length xs e in omega (arith, none))
  dropped_none (suc n) [] e = omega arith
  dropped_none (suc n) (x ∷ xs) e = (let low = dropped_none n xs e in omega (arith, low))

-- One buffer, before and behind some calls. What it holds behind them was put to it before or by them.
abbrev pub rest_of : BufferState → BufferState → List (List Cell)
rest_of s t = drop (length s.chunks) t.chunks

module _ (s t f f2 : BufferState) (fills : IsFull s f) (fills2 : IsFull t f2) (same : SameBuffer s t) where
  abbrev pub f3 : BufferState
  f3 = record t { chunks = f.chunks ++ rest_of s t; gone = 0 }

  there : t.chunks ≡ s.chunks ++ rest_of s t
  there = same.there.1 ∙ ap (λ (l : List (List Cell)). s.chunks ++ l) (sym (drop-append_seam s.chunks same.there.0) ∙ ap (drop (length s.chunks)) (sym same.there.1))

  long : length (f.chunks ++ rest_of s t) ≡ length t.chunks
  long = length-append f.chunks (rest_of s t) ∙ ap (λ n. n + length (rest_of s t)) fills.many ∙ sym (length-append s.chunks (rest_of s t)) ∙ ap (λ (l : List (List Cell)). length l) (sym there)

  low : s.gone ≤ length f.chunks
  low = (let many = fills.many in let few = fills.low in omega (arith, many, few))

  rest_same : drop s.gone (f.chunks ++ rest_of s t) ≡ drop s.gone t.chunks
  rest_same = drop-append-le s.gone f.chunks (rest_of s t) low ∙ ap (λ (l : List (List Cell)). l ++ rest_of s t) fills.rest ∙ sym (drop-append-le s.gone s.chunks (rest_of s t) fills.low) ∙ ap (drop s.gone) (sym there)

  pub fills_then : IsFull t f3
  fills_then = record {
    same = refl;
    many = long;
    rest = ap (λ n. drop n (f.chunks ++ rest_of s t)) same.gone ∙ rest_same ∙ ap (λ n. drop n t.chunks) (sym same.gone);
    low = fills2.low;
  }

  pub same_then : SameBuffer f f3
  same_then = record {
    capacity = same.capacity ∙ sym (ap (λ (x : BufferState). x.capacity) fills.same);
    puts = same.puts ∙ sym (ap (λ (x : BufferState). x.puts) fills.same);
    takes = same.takes ∙ sym (ap (λ (x : BufferState). x.takes) fills.same);
    fed = same.fed ∙ sym (ap (λ (x : BufferState). x.fed) fills.same);
    read = same.read ∙ sym (ap (λ (x : BufferState). x.read) fills.same);
    opened = same.opened ∙ sym (ap (λ (x : BufferState). x.opened) fills.same);
    gone = sym (ap (λ (x : BufferState). x.gone) fills.same);
    put_on = (let e = ap (λ (x : BufferState). x.put_at) fills.same in let on = same.put_on in omega (arith, e, on));
    take_on = (let e = ap (λ (x : BufferState). x.take_at) fills.same in let on = same.take_on in omega (arith, e, on));
    got_on = (let e = ap (λ (x : BufferState). x.got) fills.same in let on = same.got_on in omega (arith, e, on));
    there = (rest_of s t, refl);
  }

  module _ (b : ℕ) (calls more front behind : List Call) (all : calls ++ more ≡ front ++ behind) (stand : StandsFor f b calls) (stand2 : StandsFor f2 b front) where
    was : StandsFor (record s { chunks = f.chunks; gone = 0 }) b calls
    was = subst (λ (x : BufferState). StandsFor x b calls) fills.same stand

    now : StandsFor (record t { chunks = f2.chunks; gone = 0 }) b front
    now = subst (λ (x : BufferState). StandsFor x b front) fills2.same stand2

    takes_more : (l : List Answer) × (takes_of b front ≡ takes_of b calls ++ l)
    takes_more =
        let both : takes_of b front ++ takes_of b behind ≡ takes_of b calls ++ takes_of b more = sym (takes-append b front behind) ∙ ap (takes_of b) (sym all) ∙ takes-append b calls more in
        let first : length (takes_of b calls) ≡ s.take_at = sym (map_long is_some (takes_of b calls)) ∙ long_of (map is_some (takes_of b calls)) s.takes s.take_at was.takes was.take_low in
        let last : length (takes_of b front) ≡ t.take_at = sym (map_long is_some (takes_of b front)) ∙ long_of (map is_some (takes_of b front)) t.takes t.take_at now.takes now.take_low in
        let on = same.take_on in
        let parts = cut (takes_of b front) (takes_of b behind) (takes_of b calls) (takes_of b more) both (omega (arith, first, last, on)) in
        (parts.0, parts.1)

    puts_more : (l : List Answer) × (puts_to b front ≡ puts_to b calls ++ l)
    puts_more =
        let both : puts_to b front ++ puts_to b behind ≡ puts_to b calls ++ puts_to b more = sym (puts-append b front behind) ∙ ap (puts_to b) (sym all) ∙ puts-append b calls more in
        let first : length (puts_to b calls) ≡ s.put_at = sym (map_long is_some (puts_to b calls)) ∙ long_of (map is_some (puts_to b calls)) s.puts s.put_at was.puts was.put_low in
        let last : length (puts_to b front) ≡ t.put_at = sym (map_long is_some (puts_to b front)) ∙ long_of (map is_some (puts_to b front)) t.puts t.put_at now.puts now.put_low in
        let on = same.put_on in
        let parts = cut (puts_to b front) (puts_to b behind) (puts_to b calls) (puts_to b more) both (omega (arith, first, last, on)) in
        (parts.0, parts.1)

    -- the same chunks, where those that were let go are known
    same_chunks : take s.gone f2.chunks ≡ take s.gone f.chunks → f2.chunks ≡ f.chunks ++ rest_of s t
    same_chunks front_same = joined s.gone f2.chunks (f.chunks ++ rest_of s t) (front_same ∙ sym (take-append-le s.gone f.chunks (rest_of s t) low))
        (ap (λ n. drop n f2.chunks) (sym same.gone) ∙ fills2.rest ∙ ap (λ n. drop n t.chunks) same.gone ∙ sym rest_same)

    -- of a buffer that is read they were got
    got_same : s.gone ≤ s.got → take s.gone f2.chunks ≡ take s.gone f.chunks
    got_same few =
        let l = takes_more in
        let on = same.got_on in
        let most = was.got_low in
        let size = length-take-le s.got f.chunks most in
        let both : take t.got f2.chunks ≡ take s.got f.chunks ++ somes l.0 =
        sym now.got ∙ ap (λ (x : List Answer). somes x) l.1 ∙ somes-append (takes_of b calls) l.0 ∙ ap (λ (x : List (List Cell)). x ++ somes l.0) was.got in
        sym (take-take s.gone t.got f2.chunks (omega (arith, few, on))) ∙ ap (take s.gone) both ∙ take-append-le s.gone (take s.got f.chunks) (somes l.0) (omega (arith, size, few)) ∙ take-take s.gone s.got f.chunks few

    -- of one that is fed they were put
    fed_same : s.opened ≡ 0 → take s.gone f2.chunks ≡ take s.gone f.chunks
    fed_same anew =
        let l = puts_more in
        let all_now : f2.chunks ≡ somes (puts_to b front) = ap (λ n. drop n f2.chunks) (sym (same.opened ∙ anew)) ∙ now.fed in
        let all_was : f.chunks ≡ somes (puts_to b calls) = ap (λ n. drop n f.chunks) (sym anew) ∙ was.fed in
        let both : f2.chunks ≡ f.chunks ++ somes l.0 = all_now ∙ ap (λ (x : List Answer). somes x) l.1 ∙ somes-append (puts_to b calls) l.0 ∙ ap (λ (x : List (List Cell)). x ++ somes l.0) (sym all_was) in
        ap (take s.gone) both ∙ take-append-le s.gone f.chunks (somes l.0) low

    stands_same : f2.chunks ≡ f.chunks ++ rest_of s t → StandsFor f3 b front
    stands_same e = subst (λ (l : List (List Cell)). StandsFor (record t { chunks = l; gone = 0 }) b front) e now

    -- and one without a call has none
    stands_idle : takes_of b (calls ++ more) ≡ [] → puts_to b (calls ++ more) ≡ [] → StandsFor f3 b front
    stands_idle no_take no_put =
        let takes_none : takes_of b front ≡ [] = no_rest (takes_of b front) (takes_of b behind) (sym (takes-append b front behind) ∙ ap (takes_of b) (sym all) ∙ no_take) in
        let puts_none : puts_to b front ≡ [] = no_rest (puts_to b front) (puts_to b behind) (sym (puts-append b front behind) ∙ ap (puts_to b) (sym all) ∙ no_put) in
        let got_none : t.got ≡ 0 = sym (long_of (somes (takes_of b front)) f2.chunks t.got now.got now.got_low) ∙ ap (λ (x : List Answer). length (somes x)) takes_none in
        let most = dropped_none t.opened f2.chunks (now.fed ∙ ap (λ (x : List Answer). somes x) puts_none) in
        let size = fills2.many in
        let few = now.got_low in
        let opened_few = now.opened_low in
        let size3 = long in
        record {
          puts = now.puts;
          put_low = now.put_low;
          takes = now.takes;
          take_low = now.take_low;
          got = ap (λ (x : List Answer). somes x) takes_none ∙ ap (λ n. take n (f.chunks ++ rest_of s t)) (sym got_none);
          got_low = omega (arith, few, size, size3);
          opened_low = omega (arith, opened_few, size, size3);
          fed = drop_all t.opened (f.chunks ++ rest_of s t) (omega (arith, most, size, size3)) ∙ ap (λ (x : List Answer). somes x) (sym puts_none);
          list_opens = now.list_opens;
          in_order = now.in_order;
        }

    pub stands_then : (s.gone ≤ s.got) ⊎ ((s.opened ≡ 0) ⊎ ((takes_of b (calls ++ more) ≡ []) × (puts_to b (calls ++ more) ≡ []))) → StandsFor f3 b front
    stands_then (inl got) = stands_same (same_chunks (got_same got))
    stands_then (inr (inl fed)) = stands_same (same_chunks (fed_same fed))
    stands_then (inr (inr none)) = stands_idle none.0 none.1

-- all buffers, before and behind some calls of clock m
module _ (base : Setting) (text : ℕ → Log) (m : ℕ) (chunks : ℕ → List (List Cell)) (states others full : List BufferState) (fills : AreFull states full) (same : SameBuffers states others) (of : AreOf base text m chunks full)
    (calls more : List Call) (own : All (IsOwn base m) (calls ++ more)) (stand : AllStand full calls) (unlost : NoneLost states) where
  abbrev B : ℕ
  B = length base.plan.buffers

  -- the buffers then, with all chunks
  abbrev pub full_then : List BufferState
  full_then = filled (λ b. chunks_of full b ++ rest_of (slice_index_or states b no_state) (slice_index_or others b no_state)) others

  known_of : (b : ℕ) → b < length others → b < B
  known_of b low = (let one = same.many in let two = fills.many in let three = of.many in omega (arith, low, one, two, three))

  at_then : (b : ℕ) (d : BufferState) → b < length others
      → slice_index_or full_then b d ≡ record (slice_index_or others b d) { chunks = (slice_index_or full b d).chunks ++ rest_of (slice_index_or states b d) (slice_index_or others b d); gone = 0 }
  at_then b d low =
      let one = same.many in let two = fills.many in
      let f = get_or_default full b no_state d (omega (arith, low, one, two)) in
      let s = get_or_default states b no_state d (omega (arith, low, one)) in
      let t = get_or_default others b no_state d low in
      filled_at (λ b. chunks_of full b ++ rest_of (slice_index_or states b no_state) (slice_index_or others b no_state)) others b d low
      ∙ (λ i. record (slice_index_or others b d) { chunks = (f i).chunks ++ rest_of (s i) (t i); gone = 0 })

  each_fills : (b : ℕ) (d : BufferState) → b < length others → IsFull (slice_index_or states b d) (slice_index_or full b d)
  each_fills b d low = fills.each b d (let one = same.many in omega (arith, low, one))

  each_same : (b : ℕ) (d : BufferState) → b < length others → SameBuffer (slice_index_or states b d) (slice_index_or others b d)
  each_same b d low = same.each b d (let one = same.many in omega (arith, low, one))

  module _ (full2 : List BufferState) (fills2 : AreFull others full2) where
    pub are_full_then : AreFull others full_then
    are_full_then = record {
      many = filled_long (λ b. chunks_of full b ++ rest_of (slice_index_or states b no_state) (slice_index_or others b no_state)) others;
      each = λ b d low. subst (IsFull (slice_index_or others b d)) (sym (at_then b d low))
          (fills_then (slice_index_or states b d) (slice_index_or others b d) (slice_index_or full b d) (slice_index_or full2 b d) (each_fills b d low) (fills2.each b d low) (each_same b d low));
    }

    pub are_same_then : SameBuffers full full_then
    are_same_then = record {
      many = are_full_then.many ∙ same.many ∙ sym fills.many;
      each = λ b d within. (let low : b < length others = (let one = same.many in let two = fills.many in omega (arith, within, one, two)) in
          subst (SameBuffer (slice_index_or full b d)) (sym (at_then b d low))
          (same_then (slice_index_or states b d) (slice_index_or others b d) (slice_index_or full b d) (slice_index_or full2 b d) (each_fills b d low) (fills2.each b d low) (each_same b d low)));
    }

    stand_front : (front behind : List Call) → calls ++ more ≡ front ++ behind → AllStand full2 front → AllStand full_then front
    stand_front front behind all stand2 b d within =
        let low : b < length others = (let many = are_full_then.many in omega (arith, within, many)) in
        let known = known_of b low in
        let one = same.many in let two = fills.many in let three = fills2.many in
        let f_is = (each_fills b d low).same in
        subst (λ (x : BufferState). StandsFor x b front) (sym (at_then b d low))
        (stands_then (slice_index_or states b d) (slice_index_or others b d) (slice_index_or full b d) (slice_index_or full2 b d) (each_fills b d low) (fills2.each b d low) (each_same b d low)
        b calls more front behind all (stand b d (omega (arith, low, one, two))) (stand2 b d (omega (arith, low, three)))
        (elim (cases_eq (feeder base b) m) [
          | inl fed ↦ inr (inl (sym (ap (λ (x : BufferState). x.opened) f_is) ∙ of.anew b d known fed))
          | inr unfed ↦ elim (cases_eq (reader base b) m) [
            | inl read ↦ inl (unlost b d (omega (arith, low, one)) (sym (ap (λ (x : BufferState). x.read) f_is) ∙ of.read b d known read))
            | inr unread ↦ inr (inr (no_takes base b m unread (calls ++ more) own, no_puts base b m unfed (calls ++ more) own))
          ]
        ]))

    -- of both lists with all chunks the rest is the same
    then_is : (b : ℕ) (d : BufferState) → b < length others → slice_index_or full2 b d ≡ record (slice_index_or full_then b d) { chunks = (slice_index_or full2 b d).chunks }
    then_is b d low = (fills2.each b d low).same ∙ (λ i. record (sym (at_then b d low) i) { chunks = (slice_index_or full2 b d).chunks })

    long_then : (b : ℕ) (d : BufferState) → b < length others → length (slice_index_or full_then b d).chunks ≡ length (slice_index_or full2 b d).chunks
    long_then b d low = (are_full_then.each b d low).many ∙ sym (fills2.each b d low).many

    waited_then : HasWaited full2 (calls ++ more) → HasWaited full_then (calls ++ more)
    waited_then w =
        let low : w.buffer < length others = (let known = w.known in let many = fills2.many in omega (arith, known, many)) in
        record {
          front = w.front;
          behind = w.behind;
          buffer = w.buffer;
          are = w.are;
          stand = stand_front w.front (Took w.buffer None ∷ w.behind) w.are w.stand;
          known = (let many = are_full_then.many in omega (arith, low, many));
          gets = λ d. subst (λ (x : BufferState). slice_get x.takes x.take_at ≡ Some true) (then_is w.buffer d low) (w.gets d);
          missing = λ d. (let few = w.missing d in let long = long_then w.buffer d low in let got = ap (λ (x : BufferState). x.got) (then_is w.buffer d low) in omega (arith, few, long, got));
          joins = λ d. sym (ap (λ (x : BufferState). is_list x) (then_is w.buffer d low)) ∙ w.joins d;
        }

    can_then : (front : List Call) (call : Call) → CanComeBy full_then front call → CanComeBy full2 front call
    can_then front call can =
        let many = are_full_then.many in
        let many2 = fills2.many in
        record {
          puts = λ b d within. (let low : b < length others = omega (arith, within, many2) in
              subst (IsFront (map is_some (puts_to b (front ++ call ∷ [])))) (sym (ap (λ (x : BufferState). x.puts) (then_is b d low))) (can.puts b d (omega (arith, low, many))));
          takes = λ b d within. (let low : b < length others = omega (arith, within, many2) in
              subst (IsFront (map is_some (takes_of b (front ++ call ∷ [])))) (sym (ap (λ (x : BufferState). x.takes) (then_is b d low))) (can.takes b d (omega (arith, low, many))));
          suits = λ d within list. (let low : buffer_of call < length others = omega (arith, within, many2) in
              subst (λ n. Suits n (somes (puts_to (buffer_of call) front)) (got_in (buffer_of call) front) call) (sym (ap (λ (x : BufferState). x.capacity) (then_is (buffer_of call) d low)))
              (can.suits d (omega (arith, low, many)) (sym (ap (λ (x : BufferState). is_list x) (then_is (buffer_of call) d low)) ∙ list)));
        }

    failed_then : HasFailed full2 (calls ++ more) → HasFailed full_then (calls ++ more)
    failed_then f = record {
      front = f.front;
      behind = f.behind;
      call = f.call;
      are = f.are;
      stand = stand_front f.front (f.call ∷ f.behind) f.are f.stand;
      none = λ other alike can. f.none other alike (can_then f.front other can);
    }

    pub goes_then : AllStand full2 (calls ++ more) → AllStand full_then (calls ++ more)
    goes_then stand2 = stand_front (calls ++ more) [] (sym (append-nil (calls ++ more))) stand2

  pub unlost_then : NoneLost others
  unlost_then b d low read =
      let x = each_same b d low in
      let gone = x.gone in let on = x.got_on in
      let few = unlost b d (let one = same.many in omega (arith, low, one)) (sym x.read ∙ read) in
      omega (arith, gone, on, few)

  -- nothing is lost
  never_lost : (full2 : List BufferState) → HasLost others full2 (calls ++ more) → ⊥
  never_lost full2 lost =
      let low = lost.known in
      let read : reader base lost.buffer ≡ m = own_at base m lost.front lost.behind (Took lost.buffer None) (subst (All (IsOwn base m)) lost.are own) in
      let x = each_same lost.buffer no_state low in
      let f = (each_fills lost.buffer no_state low).same in
      let few = unlost_then lost.buffer no_state low (x.read ∙ sym (ap (λ (y : BufferState). y.read) f) ∙ of.read lost.buffer no_state (known_of lost.buffer low) read) in
      let less = lost.lost no_state in
      omega (arith, few, less)

  -- what the calls leave, with all chunks
  pub record Following (course : Course) : Type 0 where
    pub full_now : List BufferState
    pub fills_now : AreFull others full_now
    pub same_now : SameBuffers full full_now
    pub stand_now : TapsStand course full_now (calls ++ more)

  pub follows : (course : Course) → TapsFollow course others (calls ++ more) → Following course
  follows Goes follow = record { full_now = full_then; fills_now = are_full_then follow.0 follow.1; same_now = are_same_then follow.0 follow.1; stand_now = goes_then follow.0 follow.1 follow.2 }
  follows Waits follow = elim follow.2 [
    | inl waited ↦ record { full_now = full_then; fills_now = are_full_then follow.0 follow.1; same_now = are_same_then follow.0 follow.1; stand_now = waited_then follow.0 follow.1 waited }
    | inr lost ↦ absurd (never_lost follow.0 lost)
  ]
  follows Fails follow = record { full_now = full_then; fills_now = are_full_then follow.0 follow.1; same_now = are_same_then follow.0 follow.1; stand_now = failed_then follow.0 follow.1 follow.2 }

-- a run goes on
module _ (feeders readers : List ℕ) (m : ℕ) (marks : List Mark) (old new full : List BufferState) (many : length new ≡ length old) (are : HaveResumed feeders readers m marks old new) (fills : AreFull old full) where
  abbrev pub full_resumed : List BufferState
  full_resumed = filled (chunks_of full) new

  opened_same : (fed : Bool) (xs ys : List (List Cell)) → length xs ≡ length ys → others_in fed ys ≡ others_in fed xs
  opened_same true xs ys e = refl
  opened_same false xs ys e = sym e

  pub long_resumed : length full_resumed ≡ length full
  long_resumed = filled_long (chunks_of full) new ∙ many ∙ sym fills.many

  at_resumed : (b : ℕ) (d : BufferState) → b < length new → slice_index_or full_resumed b d ≡ record (slice_index_or new b d) { chunks = (slice_index_or full b d).chunks; gone = 0 }
  at_resumed b d low = filled_at (chunks_of full) new b d low
      ∙ ap (λ (x : BufferState). record (slice_index_or new b d) { chunks = x.chunks; gone = 0 }) (get_or_default full b no_state d (let two = fills.many in omega (arith, low, many, two)))

  pub have_resumed : HaveResumed feeders readers m marks full full_resumed
  have_resumed b d e within =
      let two = fills.many in
      let low : b < length old = omega (arith, within, two) in
      let s = slice_index_or old b d in
      let f = slice_index_or full b d in
      let fed = nat_eq (slice_index_or feeders b 0) m in
      let read = nat_eq (slice_index_or readers b 0) m in
      let mark = slice_index_or marks b e in
      let fill = fills.each b d low in
      let now : slice_index_or full_resumed b d ≡ record (resumed s fed read mark) { chunks = f.chunks; gone = 0 } =
      at_resumed b d (omega (arith, low, many)) ∙ ap (λ (x : BufferState). record x { chunks = f.chunks; gone = 0 }) (are b d e low) in
      let then' : record (resumed s fed read mark) { chunks = f.chunks; gone = 0 } ≡ resumed (record s { chunks = f.chunks; gone = 0 }) fed read mark =
      ap (λ n. record (resumed s fed read mark) { opened = n; chunks = f.chunks; gone = 0 }) (opened_same fed f.chunks s.chunks fill.many) in
      now ∙ then' ∙ ap (λ (x : BufferState). resumed x fed read mark) (sym fill.same)

  pub fills_resumed : AreFull new full_resumed
  fills_resumed = record {
    many = filled_long (chunks_of full) new;
    each = λ b d low.
        let within : b < length old = omega (arith, low, many) in
        let fill = fills.each b d within in
        let is = are b d no_mark within in
        let held : (slice_index_or new b d).chunks ≡ (slice_index_or old b d).chunks = ap (λ (x : BufferState). x.chunks) is in
        let gone : (slice_index_or new b d).gone ≡ (slice_index_or old b d).gone = ap (λ (x : BufferState). x.gone) is in
        let few = fill.low in
        let size = ap (λ (l : List (List Cell)). length l) held in
        subst (IsFull (slice_index_or new b d)) (sym (at_resumed b d low)) (record {
          same = refl;
          many = fill.many ∙ sym size;
          rest = ap (λ n. drop n (slice_index_or full b d).chunks) gone ∙ fill.rest ∙ (λ i. drop (sym gone i) (sym held i));
          low = omega (arith, few, size, gone);
        });
  }

  -- what the clock is to get is there
  pub unlost_resumed : AreUnlost readers m marks old → NoneLost new
  unlost_resumed unlost b d low read =
      let within : b < length old = omega (arith, low, many) in
      let is = are b d no_mark within in
      let gone = ap (λ (x : BufferState). x.gone) is in
      let got = ap (λ (x : BufferState). x.got) is in
      let reads : slice_index_or readers b 0 ≡ m = same_number (slice_index_or readers b 0) m (sym (ap (λ (x : BufferState). x.read) is) ∙ read) in
      let few = unlost b d no_mark within reads in
      omega (arith, gone, got, few)

-- chunks are let go
pub full_let_go : (old new full : List BufferState) → length new ≡ length old → HaveLetGo old new → AreFull old full → AreFull new full
full_let_go old new full many go fills = record {
  many = fills.many ∙ sym many;
  each = λ b d low.
      let within : b < length old = omega (arith, low, many) in
      let fill = fills.each b d within in
      let g = go b d within in
      record {
        same = fill.same ∙ sym (ap (λ (x : BufferState). record x { chunks = (slice_index_or full b d).chunks; gone = 0 }) g.same);
        many = fill.many ∙ sym g.many;
        rest = drop_later (slice_index_or old b d).gone (slice_index_or new b d).gone (slice_index_or full b d).chunks (slice_index_or old b d).chunks g.on fill.rest ∙ sym g.rest;
        low = g.most;
      };
}

-- nothing was let go
kept_full : (s : BufferState) → s.gone ≡ 0 → IsFull s s
kept_full s e = record {
  same = ap (λ n. record s { gone = n }) e;
  many = refl;
  rest = refl;
  low = omega (arith, e);
}

pub full_kept : (states : List BufferState) → AreKept states → AreFull states states
full_kept states kept = record { many = refl; each = λ b d low. kept_full (slice_index_or states b d) (kept b d low) }

pub full_is : (states full : List BufferState) → AreKept states → AreFull states full → full ≡ states
full_is states full kept fills = ext_get_or no_state full states fills.many (λ b within.
    let low : b < length states = (let many = fills.many in omega (arith, within, many)) in
    let fill = fills.each b no_state low in
    let none = kept b no_state low in
    let all : (slice_index_or full b no_state).chunks ≡ (slice_index_or states b no_state).chunks =
    ap (λ n. drop n (slice_index_or full b no_state).chunks) (sym none) ∙ fill.rest ∙ ap (λ n. drop n (slice_index_or states b no_state).chunks) none in
    fill.same ∙ (λ i. record (slice_index_or states b no_state) { chunks = all i; gone = sym none i }))

pub follow_kept : (course : Course) (states : List BufferState) (calls : List Call) → AreKept states → TapsStand course states calls → TapsFollow course states calls
follow_kept Goes states calls kept stand = (states, full_kept states kept, stand)
follow_kept Waits states calls kept stand = (states, full_kept states kept, inl stand)
follow_kept Fails states calls kept stand = (states, full_kept states kept, stand)

pub stand_kept : (course : Course) (states : List BufferState) (calls : List Call) → AreKept states → TapsFollow course states calls → TapsStand course states calls
stand_kept Goes states calls kept follow = subst (λ (l : List BufferState). AllStand l calls) (full_is states follow.0 kept follow.1) follow.2
stand_kept Waits states calls kept follow = elim follow.2 [
  | inl waited ↦ subst (λ (l : List BufferState). HasWaited l calls) (full_is states follow.0 kept follow.1) waited
  | inr lost ↦ absurd (let less = lost.lost no_state in let none = kept lost.buffer no_state lost.known in omega (arith, less, none))
]
stand_kept Fails states calls kept follow = subst (λ (l : List BufferState). HasFailed l calls) (full_is states follow.0 kept follow.1) follow.2

pub kept_same : (states others : List BufferState) → SameBuffers states others → AreKept states → AreKept others
kept_same states others same kept b d low =
    let within : b < length states = (let many = same.many in omega (arith, low, many)) in
    (same.each b d within).gone ∙ kept b d within

gone_none : (fed : Bool) (gone : ℕ) → gone ≡ 0 → gone_at fed gone ≡ 0
gone_none true gone e = refl
gone_none false gone e = e

pub kept_begun : (feeders readers : List ℕ) (m : ℕ) (old new : List BufferState) → length new ≡ length old → HaveBegun feeders readers m old new → AreKept old → AreKept new
kept_begun feeders readers m old new many are kept b d low =
    let within : b < length old = omega (arith, low, many) in
    ap (λ (s : BufferState). s.gone) (are b d within) ∙ gone_none (nat_eq (slice_index_or feeders b 0) m) (slice_index_or old b d).gone (kept b d within)

pub kept_forgotten : (old new : List BufferState) → length new ≡ length old → IsForgotten old new → AreKept new
kept_forgotten old new many are b d low = ap (λ (s : BufferState). s.gone) (are b d (omega (arith, low, many)))
