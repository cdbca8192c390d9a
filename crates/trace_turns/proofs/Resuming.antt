-- Buffers where a clock's run goes on.
use Rattle.std.proofs.Common.{◌≡◌, ◌≢◌, ◌<◌, ◌≤◌, ◌∙◌, ◌++◌, ◌&&◌, ℕ, Bool, true, false, nat_eq, List, [], ◌∷◌, length, drop, take, slice_index_or, inl, inr, refl, ap, sym, subst, arith, true≢false, append-nil}
use Rattle.std.proofs.lemmas.Bool.{cases_eq, cases_lt}
use Rattle.std.proofs.lemmas.List.{get_or_default, get_or_past, take-append-le}
use Rattle.std.proofs.Math.Seq.{drop-length}
use Rattle.clock_infer.specs.declared.clock_map.ClockMap.{ClockMap}
use Rattle.frame_core.specs.declared.cell.Cell.{Cell}
use Rattle.frame_core.specs.Frames.{somes}
use Rattle.frame_core.specs.Calls.{Call, puts_to}
use Rattle.stream_meaning.specs.Instants.{Setting}
use Rattle.stream_meaning.specs.Settings.{IsSetting}
use Rattle.run_records.specs.Buffers.{feeder, reader}
use Rattle.clock_ticks.specs.declared.engine.EngineParts.{EngineParts}
use Rattle.trace_turns.specs.declared.ends.Ends.{Ends}
use Rattle.trace_turns.specs.declared.live.LiveClock.{LiveClock}
use Rattle.trace_turns.specs.declared.told.Mark.{Mark}
use Rattle.trace_records.specs.Clocks.{IsFront, Log, Suits, got_in}
use Rattle.trace_records.specs.Passes.{HasCome, IsFormed, IsMadeBy}
use Rattle.trace_turns.specs.Answering.{AllStand, BufferState, SameBuffers, StandsFor, begun}
use Rattle.trace_turns.specs.Live.{IsNewClock, IsPaused, MayGoOn, mains}
use Rattle.trace_turns.specs.Marks.{AreWithin, IsForgotten, HaveMarked, HaveResumed, mark_of, no_mark, others_in, resumed}
use Rattle.trace_turns.specs.Turns.{AreFit, AreOf, AreSides, AreTold, RunsAt, Score, chunks_of, no_state}
use Rattle.trace_turns.proofs.Beginning.{fed_test, not_fed_test, not_read_test, read_test, told_same}
use Rattle.trace_records.proofs.Fronts.{front_long, no_items}
use Rattle.trace_turns.proofs.Playing.{whole_none}
use Rattle.trace_records.proofs.Recorded.{no_puts}
use Rattle.trace_turns.proofs.Turned.{own_made}
use Rattle.trace_turns.specs.Timed.{timed}

others_low : (fed : Bool) (chunks : List (List Cell)) → others_in fed chunks ≤ length chunks
others_low true chunks = omega arith
others_low false chunks = omega arith

list_none : (fed read : Bool) (chunks : List (List Cell)) → fed && read ≡ true → others_in fed chunks ≡ 0
list_none true read chunks list = refl
list_none false read chunks list = absurd (true≢false (sym list))

-- a buffer of a run, by its marks
pub stands_marked : (s : BufferState) (fed read : Bool) (mark : Mark) (b : ℕ) (calls : List Call) → s.fed ≡ fed → s.read ≡ read → mark ≡ mark_of s → (fed ≡ true → s.opened ≡ 0) → (fed ≡ false → puts_to b calls ≡ [])
    → StandsFor s b calls → StandsFor (resumed s fed read mark) b calls
stands_marked s fed read mark b calls fed_is read_is mark_is anew none is = subst (λ (k : Mark). StandsFor (resumed s fed read k) b calls) (sym mark_is) (record {
  puts = is.puts;
  put_low = is.put_low;
  takes = is.takes;
  take_low = is.take_low;
  got = is.got;
  got_low = is.got_low;
  opened_low = others_low fed s.chunks;
  fed = by fed anew none;
  list_opens = list_none fed read s.chunks;
  in_order = λ list. is.in_order ((λ i. fed_is i && read_is i) ∙ list);
})
  where
    by : (f : Bool) → (f ≡ true → s.opened ≡ 0) → (f ≡ false → puts_to b calls ≡ []) → drop (others_in f s.chunks) s.chunks ≡ somes (puts_to b calls)
    by true anew none = ap (λ (n : ℕ). drop n s.chunks) (sym (anew refl)) ∙ is.fed
    by false anew none = drop-length s.chunks ∙ ap somes (sym (none refl))

-- a buffer in the turn of another clock
pub stands_later : (s t : BufferState) (fed read : Bool) (mark : Mark) (b : ℕ) (calls : List Call) → t.puts ≡ s.puts → t.takes ≡ s.takes → t.capacity ≡ s.capacity → (fed ≡ true → t.chunks ≡ s.chunks) → IsFront s.chunks t.chunks
    → StandsFor (resumed s fed read mark) b calls → StandsFor (resumed t fed read mark) b calls
stands_later s t fed read mark b calls puts_are takes_are capacity_is kept front is = record {
  puts = is.puts ∙ ap (take mark.put_at) (sym puts_are);
  put_low = subst (λ (l : List Bool). mark.put_at ≤ length l) (sym puts_are) is.put_low;
  takes = is.takes ∙ ap (take mark.take_at) (sym takes_are);
  take_low = subst (λ (l : List Bool). mark.take_at ≤ length l) (sym takes_are) is.take_low;
  got = is.got ∙ sym (take-append-le mark.got s.chunks front.rest is.got_low) ∙ ap (take mark.got) (sym front.are);
  got_low = (let low = is.got_low in let long = front_long s.chunks t.chunks front in omega (arith, low, long));
  opened_low = others_low fed t.chunks;
  fed = by fed kept is.fed;
  list_opens = list_none fed read t.chunks;
  in_order = λ list before behind call at here. subst (λ (n : ℕ). Suits n (somes (puts_to b before)) (got_in b before) call) (sym capacity_is) (is.in_order list before behind call at here);
}
  where
    by : (f : Bool) → (f ≡ true → t.chunks ≡ s.chunks) → drop (others_in f s.chunks) s.chunks ≡ somes (puts_to b calls) → drop (others_in f t.chunks) t.chunks ≡ somes (puts_to b calls)
    by true kept e = kept refl ∙ e
    by false kept e = drop-length t.chunks ∙ sym (drop-length s.chunks) ∙ e

-- a buffer before the first call
pub stands_empty : (s : BufferState) (fed read : Bool) (b : ℕ) → s.chunks ≡ [] → StandsFor (resumed s fed read no_mark) b []
stands_empty s fed read b empty = record {
  puts = refl;
  put_low = omega arith;
  takes = refl;
  take_low = omega arith;
  got = refl;
  got_low = omega arith;
  opened_low = others_low fed s.chunks;
  fed = ap (λ (l : List (List Cell)). drop (others_in fed l) l) empty ∙ by fed;
  list_opens = list_none fed read s.chunks;
  in_order = λ list front behind call at here. absurd (no_call front behind call at);
}
  where
    by : (f : Bool) → drop (others_in f []) [] ≡ somes (puts_to b [])
    by true = refl
    by false = refl

    no_call : (front behind : List Call) (call : Call) → [] ≡ front ++ call ∷ behind → ⊥
    no_call [] behind call e = no_items call behind e
    no_call (c ∷ front) behind call e = no_items c (front ++ call ∷ behind) e

pub told_resumed : (base : Setting) (text : ℕ → Log) (feeders readers : List ℕ) (m : ℕ) (marks : List Mark) (old new : List BufferState) → length new ≡ length old → HaveResumed feeders readers m marks old new → AreTold base text old → AreTold base text new
told_resumed base text feeders readers m marks old new many are told = record {
  many = many ∙ told.many;
  puts = λ b d known. ap (λ (s : BufferState). s.puts) (at b d known) ∙ told.puts b d known;
  takes = λ b d known. ap (λ (s : BufferState). s.takes) (at b d known) ∙ told.takes b d known;
  capacity = λ b d known. ap (λ (s : BufferState). s.capacity) (at b d known) ∙ told.capacity b d known;
}
  where
    at : (b : ℕ) (d : BufferState) → b < length base.plan.buffers
        → slice_index_or new b d ≡ resumed (slice_index_or old b d) (nat_eq (slice_index_or feeders b 0) m) (nat_eq (slice_index_or readers b 0) m) (slice_index_or marks b no_mark)
    at b d known = are b d no_mark (let size = told.many in omega (arith, known, size))

module _ (base : Setting) (text : ℕ → Log) (feeders readers : List ℕ) (sides : AreSides base feeders readers) where
  -- the run goes on
  module _ (m : ℕ) (marks : List Mark) (old new : List BufferState) (told : AreTold base text old) (many : length new ≡ length old) (are : HaveResumed feeders readers m marks old new) where
    at : (b : ℕ) (d : BufferState) → b < length base.plan.buffers
        → slice_index_or new b d ≡ resumed (slice_index_or old b d) (nat_eq (slice_index_or feeders b 0) m) (nat_eq (slice_index_or readers b 0) m) (slice_index_or marks b no_mark)
    at b d known = are b d no_mark (let size = told.many in omega (arith, known, size))

    same_item : (b : ℕ) (d : BufferState) → b < length base.plan.buffers → slice_index_or old b d ≡ slice_index_or old b no_state
    same_item b d known = get_or_default old b d no_state (let size = told.many in omega (arith, known, size))

    pub of_resumed : AreOf base text m (chunks_of old) new
    of_resumed = record {
      many = many ∙ told.many;
      puts = λ b d known. ap (λ (s : BufferState). s.puts) (at b d known) ∙ told.puts b d known;
      takes = λ b d known. ap (λ (s : BufferState). s.takes) (at b d known) ∙ told.takes b d known;
      capacity = λ b d known. ap (λ (s : BufferState). s.capacity) (at b d known) ∙ told.capacity b d known;
      fed = λ b d known e. ap (λ (s : BufferState). s.fed) (at b d known) ∙ fed_test base m feeders readers sides b known e;
      not_fed = λ b d known e. ap (λ (s : BufferState). s.fed) (at b d known) ∙ not_fed_test base m feeders readers sides b known e;
      read = λ b d known e. ap (λ (s : BufferState). s.read) (at b d known) ∙ read_test base m feeders readers sides b known e;
      not_read = λ b d known e. ap (λ (s : BufferState). s.read) (at b d known) ∙ not_read_test base m feeders readers sides b known e;
      anew = λ b d known e. ap (λ (s : BufferState). s.opened) (at b d known) ∙ ap (λ (t : Bool). others_in t (slice_index_or old b d).chunks) (fed_test base m feeders readers sides b known e);
      there = λ b d known e. ap (λ (s : BufferState). s.opened) (at b d known) ∙ ap (λ (t : Bool). others_in t (slice_index_or old b d).chunks) (not_fed_test base m feeders readers sides b known e)
          ∙ ap (λ (s : BufferState). length s.chunks) (same_item b d known);
      front = λ b d known e. ([], ap (λ (s : BufferState). s.chunks) (at b d known) ∙ ap (λ (s : BufferState). s.chunks) (same_item b d known) ∙ sym (append-nil (chunks_of old b)));
    }

    pub runs_on : (W N n : ℕ) (parts : EngineParts) → IsPaused base (timed text W N) (mains feeders readers) m n parts marks old → RunsAt base text W N m n (chunks_of old) parts new
    runs_on W N n parts is = record {
      calls = is.calls;
      accepted = is.accepted;
      over = is.over;
      clock = is.clock;
      are = is.are;
      engine = is.engine;
      stand = λ b d low. (let known : b < length base.plan.buffers = (let size = told.many in omega (arith, low, many, size)) in
          subst (λ (s : BufferState). StandsFor s b is.calls) (sym (at b d known)) (is.stand b d no_mark (omega (arith, low, many))));
      of = of_resumed;
      whole = is.whole;
    }

  pub marks_within : (W N m n : ℕ) (parts : EngineParts) (marks : List Mark) (states : List BufferState) → IsPaused base (timed text W N) (mains feeders readers) m n parts marks states → AreWithin states marks
  marks_within W N m n parts marks states is b d e low = (let s = is.stand b d e low in record { puts = s.put_low; takes = s.take_low; got = s.got_low })

  -- the run stops: at the marks the buffers will stand for its calls
  module _ (clocks : ClockMap) (is : IsSetting base clocks) (m n : ℕ) (chunks : ℕ → List (List Cell)) (calls : List Call) (accepted : ℕ → ℕ → Bool) (are : IsMadeBy base m n accepted calls)
      (marks : List Mark) (states : List BufferState) (of : AreOf base text m chunks states) (stand : AllStand states calls) (marked : HaveMarked states marks) where
    pub stands_paused : (b : ℕ) (d : BufferState) (e : Mark) → b < length states
        → StandsFor (resumed (slice_index_or states b d) (nat_eq (slice_index_or feeders b 0) m) (nat_eq (slice_index_or readers b 0) m) (slice_index_or marks b e)) b calls
    stands_paused b d e low =
        let known : b < length base.plan.buffers = (let many = of.many in omega (arith, low, many)) in
        stands_marked (slice_index_or states b d) (nat_eq (slice_index_or feeders b 0) m) (nat_eq (slice_index_or readers b 0) m) (slice_index_or marks b e) b calls
        (fed_is b d known) (read_is b d known) (marked b d e low)
        (λ t. of.anew b d known (feeds b known t))
        (λ t. no_puts base b m (λ h. true≢false (sym (fed_test base m feeders readers sides b known h) ∙ t)) calls (own_made base clocks is m n accepted calls are))
        (stand b d low)
      where
        fed_is : (b : ℕ) (d : BufferState) → b < length base.plan.buffers → (slice_index_or states b d).fed ≡ nat_eq (slice_index_or feeders b 0) m
        fed_is b d known = elim (cases_eq (feeder base b) m) [
          | inl e ↦ of.fed b d known e ∙ sym (fed_test base m feeders readers sides b known e)
          | inr other ↦ of.not_fed b d known other ∙ sym (not_fed_test base m feeders readers sides b known other)
        ]

        read_is : (b : ℕ) (d : BufferState) → b < length base.plan.buffers → (slice_index_or states b d).read ≡ nat_eq (slice_index_or readers b 0) m
        read_is b d known = elim (cases_eq (reader base b) m) [
          | inl e ↦ of.read b d known e ∙ sym (read_test base m feeders readers sides b known e)
          | inr other ↦ of.not_read b d known other ∙ sym (not_read_test base m feeders readers sides b known other)
        ]

        feeds : (b : ℕ) → b < length base.plan.buffers → nat_eq (slice_index_or feeders b 0) m ≡ true → feeder base b ≡ m
        feeds b known t = elim (cases_eq (feeder base b) m) [
          | inl e ↦ e
          | inr other ↦ absurd (true≢false (sym t ∙ not_fed_test base m feeders readers sides b known other))
        ]

  pub pauses : (clocks : ClockMap) → IsSetting base clocks → (W N m n : ℕ) (chunks : ℕ → List (List Cell)) (parts : EngineParts) (marks : List Mark) (states : List BufferState) → RunsAt base text W N m n chunks parts states → HaveMarked states marks
      → IsPaused base (timed text W N) (mains feeders readers) m n parts marks states
  pauses clocks is W N m n chunks parts marks states run marked = record {
    calls = run.calls;
    accepted = run.accepted;
    over = run.over;
    clock = run.clock;
    are = run.are;
    engine = run.engine;
    whole = run.whole;
    stand = stands_paused clocks is m n chunks run.calls run.accepted run.are marks states run.of run.stand marked;
  }

  -- a clock waits on while another one has its turn
  module _ (W N m k c : ℕ) (calls : List Call) (marks : List Mark) (old new : List BufferState) (told : AreTold base text old) (told_new : AreTold base text new) (come : HasCome base W N text m c (chunks_of old) (chunks_of new))
      (fronts : (b : ℕ) → b < length base.plan.buffers → IsFront (chunks_of old b) (chunks_of new b)) (other : k ≢ m)
      (stand : (b : ℕ) (d : BufferState) (e : Mark) → b < length old
      → StandsFor (resumed (slice_index_or old b d) (nat_eq (slice_index_or feeders b 0) k) (nat_eq (slice_index_or readers b 0) k) (slice_index_or marks b e)) b calls) where
    pub stands_on : (b : ℕ) (d : BufferState) (e : Mark) → b < length new
        → StandsFor (resumed (slice_index_or new b d) (nat_eq (slice_index_or feeders b 0) k) (nat_eq (slice_index_or readers b 0) k) (slice_index_or marks b e)) b calls
    stands_on b d e low =
        let known : b < length base.plan.buffers = (let many = told_new.many in omega (arith, low, many)) in
        stands_later (slice_index_or old b d) (slice_index_or new b d) (nat_eq (slice_index_or feeders b 0) k) (nat_eq (slice_index_or readers b 0) k) (slice_index_or marks b e) b calls
        (told_new.puts b d known ∙ sym (told.puts b d known)) (told_new.takes b d known ∙ sym (told.takes b d known)) (told_new.capacity b d known ∙ sym (told.capacity b d known))
        (λ t. chunks_new b d known ∙ come.kept b known (not_of b known t) ∙ sym (chunks_old b d known))
        (record { rest = (fronts b known).rest; are = chunks_new b d known ∙ (fronts b known).are ∙ ap (λ (l : List (List Cell)). l ++ (fronts b known).rest) (sym (chunks_old b d known)) })
        (stand b d e (let many = told.many in omega (arith, known, many)))
      where
        chunks_old : (b : ℕ) (d : BufferState) → b < length base.plan.buffers → (slice_index_or old b d).chunks ≡ chunks_of old b
        chunks_old b d known = ap (λ (s : BufferState). s.chunks) (get_or_default old b d no_state (let size = told.many in omega (arith, known, size)))

        chunks_new : (b : ℕ) (d : BufferState) → b < length base.plan.buffers → (slice_index_or new b d).chunks ≡ chunks_of new b
        chunks_new b d known = ap (λ (s : BufferState). s.chunks) (get_or_default new b d no_state (let size = told_new.many in omega (arith, known, size)))

        not_of : (b : ℕ) → b < length base.plan.buffers → nat_eq (slice_index_or feeders b 0) k ≡ true → feeder base b ≡ m → ⊥
        not_of b known t fed = true≢false (sym t ∙ not_fed_test base k feeders readers sides b known (λ own. other (sym own ∙ fed)))

  pub waits_on : (W N m k n c : ℕ) (parts : EngineParts) (marks : List Mark) (old new : List BufferState) → AreTold base text old → AreTold base text new → HasCome base W N text m c (chunks_of old) (chunks_of new)
      → ((b : ℕ) → b < length base.plan.buffers → IsFront (chunks_of old b) (chunks_of new b)) → k ≢ m → IsPaused base (timed text W N) (mains feeders readers) k n parts marks old → IsPaused base (timed text W N) (mains feeders readers) k n parts marks new
  waits_on W N m k n c parts marks old new told told_new come fronts other is = record {
    calls = is.calls;
    accepted = is.accepted;
    over = is.over;
    clock = is.clock;
    are = is.are;
    engine = is.engine;
    whole = is.whole;
    stand = stands_on W N m k c is.calls marks old new told told_new come fronts other is.stand;
  }

  -- before the first tick
  pub new_paused : (W N m : ℕ) (live : LiveClock) (states : List BufferState) → IsFormed (length base.plan.buffers) W N text → AreTold base text states → ((b : ℕ) → chunks_of states b ≡ []) → IsNewClock base m live
      → IsPaused base (timed text W N) (mains feeders readers) m 0 live.engine.parts live.marks.items states
  new_paused W N m live states formed told empty is = record {
    calls = [];
    accepted = λ t b. true;
    over = is.over;
    clock = is.clock;
    are = λ rest. refl;
    engine = is.fresh;
    whole = whole_none base text W N m formed;
    stand = λ b d e low. (let known : b < length base.plan.buffers = (let many = told.many in omega (arith, low, many)) in
        subst (λ (mark : Mark). StandsFor (resumed (slice_index_or states b d) (nat_eq (slice_index_or feeders b 0) m) (nat_eq (slice_index_or readers b 0) m) mark) b []) (sym (is.none b e known))
        (stands_empty (slice_index_or states b d) (nat_eq (slice_index_or feeders b 0) m) (nat_eq (slice_index_or readers b 0) m) b
        (ap (λ (s : BufferState). s.chunks) (get_or_default states b d no_state low) ∙ empty b)));
  }

-- a turn of a clock
module _ (W N m c : ℕ) (clock_is : c ≡ m) (feeders readers f r : List ℕ) (feeders_are : f ≡ feeders) (readers_are : r ≡ readers) (marks k : List Mark) (marks_are : k ≡ marks) (ends : List Ends) (old new : List BufferState)
    (many : length new ≡ length old) (are : HaveResumed f r c k old new) (long : length ends ≡ length old) where
  are_resumed : HaveResumed feeders readers m marks old new
  are_resumed = subst (λ (l : List Mark). HaveResumed feeders readers m l old new) marks_are (subst (λ (l : List ℕ). HaveResumed feeders l m k old new) readers_are
      (subst (λ (l : List ℕ). HaveResumed l r m k old new) feeders_are (subst (λ (j : ℕ). HaveResumed f r j k old new) clock_is are)))

  -- the buffers tell the same text
  pub fit_after : (base : Setting) (text : ℕ → Log) (after : List BufferState) → SameBuffers new after → AreFit base W N text old ends → AreFit base W N text after ends
  fit_after base text after same fit = record {
    told = told_same base text new after (told_resumed base text feeders readers m marks old new many are_resumed fit.told) same;
    formed = fit.formed;
    ends_are = fit.ends_are;
  }

  module _ (base : Setting) (clocks : ClockMap) (is : IsSetting base clocks) (text : ℕ → Log) (sides : AreSides base feeders readers) (fit : AreFit base W N text old ends) where
    abbrev pub score_of : Score
    score_of = record { base = base; clocks = clocks; text = text; chunks = chunks_of old }

    pub may_go : (n : ℕ) (parts : EngineParts) → IsPaused base (timed text W N) (mains feeders readers) m n parts marks old → MayGoOn score_of W N m n parts new ends
    may_go n parts paused = record {
      move = record {
        is = is;
        formed = fit.formed;
        many = many ∙ fit.told.many;
        long = long ∙ sym many;
        ends_are = fit.ends_are;
      };
      run = runs_on base text feeders readers sides m marks old new fit.told many are_resumed W N n parts paused;
    }

-- buffers as before any run
module _ (old new : List BufferState) (many : length new ≡ length old) (are : IsForgotten old new) where
  pub empty_again : (b : ℕ) → chunks_of new b ≡ []
  empty_again b = elim (cases_lt b (length old)) [
    | inl low ↦ ap (λ (s : BufferState). s.chunks) (are b no_state low)
    | inr high ↦ ap (λ (s : BufferState). s.chunks) (get_or_past new b no_state (omega (arith, high, many)))
  ]

  pub fit_again : (base : Setting) (W N : ℕ) (text : ℕ → Log) (ends : List Ends) → AreFit base W N text old ends → AreFit base W N text new ends
  fit_again base W N text ends fit = record {
    told = record {
      many = many ∙ fit.told.many;
      puts = λ b d known. ap (λ (s : BufferState). s.puts) (at b d known) ∙ fit.told.puts b d known;
      takes = λ b d known. ap (λ (s : BufferState). s.takes) (at b d known) ∙ fit.told.takes b d known;
      capacity = λ b d known. ap (λ (s : BufferState). s.capacity) (at b d known) ∙ fit.told.capacity b d known;
    };
    formed = fit.formed;
    ends_are = fit.ends_are;
  }
    where
      at : (b : ℕ) (d : BufferState) → b < length base.plan.buffers → slice_index_or new b d ≡ begun (slice_index_or old b d) true true
      at b d known = are b d (let size = fit.told.many in omega (arith, known, size))
