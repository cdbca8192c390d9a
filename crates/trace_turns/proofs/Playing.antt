-- The run of an engine over buffers that answer as a text tells.
use Rattle.std.proofs.Common.{◌≡◌, ◌<◌, ◌≤◌, ◌-◌, ◌*◌, ◌/◌, ◌%◌, ◌∙◌, ◌++◌, ◌⊎◌, ℕ, zero, suc, true, false, Some, List, [], ◌∷◌, length, take, slice_index_or, Result, Ok, Err, OnOk, is_err, inl, inr, refl, ap, sym, subst, arith, suc-mul, true≢false, ⊎_elim}
use mathlib.Core.Path.{fun_ext}
use native.Mathlib.Nat.{mul_comm}
use Rattle.std.specs.Prelude.{All}
use Rattle.std.proofs.lemmas.Bool.{cases_lt}
use Rattle.std.proofs.Math.Nat.{div-add-mod, min-eq_left, min-eq_right, mod-lt, mul-le-mul_right}
use Rattle.liq_base.specs.Pieces.{SinkTold}
use Rattle.frame_core.specs.Calls.{Call, puts_to, takes_of, Answer}
use Rattle.stream_meaning.specs.Instants.{Setting, answered}
use Rattle.stream_meaning.specs.Calls.{answers_in, calls_of_tick}
use Rattle.stream_meaning.proofs.Answering.{answers_in-append}
use Rattle.run_records.specs.Outputs.{first_calls}
use Rattle.run_records.specs.Owning.{IsOwn}
use Rattle.run_records.specs.Records.{start}
use Rattle.node_states.specs.Ticks.{HasTicked}
use Rattle.clock_ticks.specs.declared.engine.EngineParts.{EngineParts}
use Rattle.clock_ticks.specs.Engines.{EngineStands, held_in, outputs_of, setting_of}
use Rattle.clock_ticks.specs.Ticks.{HasMade}
use Rattle.trace_turns.specs.declared.course.Course.{Course}
use Rattle.trace_turns.specs.declared.course.Course.TheVariants.{Goes, Waits, Fails}
use Rattle.trace_turns.specs.declared.ends.Ends.{Ends}
use Rattle.trace_turns.specs.declared.taps.ToldTaps.{ToldTaps}
use Rattle.trace_records.specs.Clocks.{AreWhole, Log, puts_in, takes_in}
use Rattle.trace_turns.specs.Live.{HasFlown, MayMove}
use Rattle.trace_records.specs.Passes.{HasTurned, IsFormed, IsRefused, got_then, nothing, ticks_in}
use Rattle.trace_turns.specs.Answering.{AllStand, BufferState, SameBuffers, TapsStand}
use Rattle.trace_turns.specs.Turns.{AreAtEnd, EndsWith, IsAtEnd, IsOffEnd, MayTurn, RunsAt, Score, chunks_of, no_state}
use Rattle.trace_turns.specs.Thin.{AreKept, TapsFollow}
use Rattle.trace_records.proofs.Completing.{start_some}
use Rattle.trace_turns.proofs.Thinning.{Following, follow_kept, follows, kept_same, stand_kept, unlost_then}
use Rattle.trace_turns.proofs.Turned.{accepted_then, border, failed_then, made_more, not_whole, of_same, own_made, turned_all, turned_wait, whole_then, window_is}
use Rattle.trace_turns.specs.Timed.{timed}

pub on_ok : {T E : Type 0} {P : Type 0} (r : Result T E) → is_err r ≡ false → OnOk r P → P
on_ok (Ok x) e p = p
on_ok (Err x) e p = absurd (true≢false e)

item : {A : Type 0} (xs : List A) (b : ℕ) → b < length xs → A
item [] b low = absurd (omega (arith, low))
item (x ∷ xs) zero low = x
item (x ∷ xs) (suc b) low = item xs b (omega (arith, low))

-- no window ends before the first tick
none_before : (W N : ℕ) (text : ℕ → Log) (B : ℕ) → IsFormed B W N text → (j b : ℕ) → start W N j ≤ 0 → j ≤ length (text b) → b < B → take j (text b) ≡ []
none_before W N text B formed zero b ends high known = refl
none_before W N text B formed (suc j) b ends high known = absurd (let many = formed.many b known in start_some W N j formed.count (omega (arith, high, many)) formed.whole (formed.tight j (omega (arith, high, many))) ends)

-- before the first tick no window has ended
pub whole_none : (base : Setting) (text : ℕ → Log) (W N m : ℕ) → IsFormed (length base.plan.buffers) W N text → AreWhole base text W N m 0 (λ t. ticks_in base (λ t b. true) [] m t)
whole_none base text W N m formed = record {
  puts = λ j b low high known fed. (let e : start W N j ≡ 0 = omega (arith, low) in
      ap (λ t. length (puts_to b (first_calls (answered base (got_then [] nothing)) (λ t b. true) m t))) e ∙ ap (λ (l : Log). length (puts_in l)) (sym (none_before W N text (length base.plan.buffers) formed j b low high known)));
  takes = λ j b low high known read. (let e : start W N j ≡ 0 = omega (arith, low) in
      ap (λ t. length (takes_of b (first_calls (answered base (got_then [] nothing)) (λ t b. true) m t))) e ∙ ap (λ (l : Log). length (takes_in l)) (sym (none_before W N text (length base.plan.buffers) formed j b low high known)));
}

module _ (score : Score) (W N m : ℕ) (ends : List Ends) (first : EngineParts) (opening : List BufferState) (may : MayTurn score W N m first opening ends) where
  pub begins : RunsAt score.base score.text W N m 0 score.chunks first opening
  begins = record {
    calls = [];
    accepted = λ t b. true;
    over = may.over;
    clock = may.clock;
    are = λ rest. refl;
    engine = may.fresh;
    stand = may.stand;
    of = may.of;
    whole = whole_none score.base score.text W N m may.formed;
  }

  -- its run moves over the buffers
  pub moves : MayMove score W N opening ends
  moves = record {
    is = may.is;
    formed = may.formed;
    many = may.of.many;
    long = may.long;
    ends_are = may.ends_are;
  }

module _ (score : Score) (W N m : ℕ) (ends : List Ends) (opening : List BufferState) (may : MayMove score W N opening ends) where
  abbrev base : Setting
  base = score.base

  abbrev Runs : ℕ → EngineParts → List BufferState → Type 0
  Runs n parts states = RunsAt base score.text W N m n score.chunks parts states

  -- a tick that was made
  module _ {S : Type 0} (told : S → SinkTold) (outs_old outs_new : List S) (n : ℕ) (less : n < N) (some : 1 ≤ W) (parts parts_new : EngineParts) (states : List BufferState) (run : Runs n parts states)
      (over_new : setting_of parts_new ≡ setting_of parts) (clock_new : parts_new.clock ≡ parts.clock) (more : List Call)
      (made : (t : ℕ) (answers : ℕ → List Answer) → EngineStands parts t answers
      → HasTicked (EngineStands parts_new) (setting_of parts) parts.clock t answers more (held_in told (outputs_of (setting_of parts) parts.clock) outs_old) (held_in told (outputs_of (setting_of parts_new) parts_new.clock) outs_new)) where
    ticked : HasTicked (EngineStands parts_new) (setting_of parts) parts.clock n (λ b. answers_in b run.calls) more (held_in told (outputs_of (setting_of parts) parts.clock) outs_old) (held_in told (outputs_of (setting_of parts_new) parts_new.clock) outs_new)
    ticked = made n (λ b. answers_in b run.calls) run.engine

    tick : (rest : ℕ → List Answer) → more ≡ calls_of_tick (answered base (λ b. (answers_in b run.calls ++ answers_in b more) ++ rest b)) ticked.accepted m n
    tick rest = subst (λ (k : ℕ). more ≡ calls_of_tick (answered base (λ b. (answers_in b run.calls ++ answers_in b more) ++ rest b)) ticked.accepted k n) run.clock
        (subst (λ (s : Setting). more ≡ calls_of_tick (answered s (λ b. (answers_in b run.calls ++ answers_in b more) ++ rest b)) ticked.accepted parts.clock n) run.over (ticked.are rest))

    engine_then : EngineStands parts_new (suc n) (λ b. answers_in b (run.calls ++ more))
    engine_then = subst (EngineStands parts_new (suc n)) (fun_ext (λ b. sym (answers_in-append b run.calls more))) ticked.stand

    -- the clock calls its own buffers
    pub own_more : All (IsOwn base m) (run.calls ++ more)
    own_more = own_made base score.clocks may.is m (suc n) (accepted_then base m n run.accepted run.calls run.are more ticked.accepted tick) (run.calls ++ more) (made_more base m n run.accepted run.calls run.are more ticked.accepted tick)

    pick : (b : ℕ) → b < length base.plan.buffers → Ends
    pick b known = item ends b (let long = may.long in let many = may.many in omega (arith, known, long, many))

    -- what a window's end asks
    ends_there : (i : ℕ) → i < may.formed.count → start W N (suc i) ≡ suc n → (n / W ≡ i) × EndsWith W N n
    ends_there i low e =
        let b = border W N n i (may.formed.tight i low) e in
        let w = window_is W n i b.0 b.1 in
        (w.0, by b w.1)
      where
        by : (i * W ≤ n) × (n < suc i * W) × ((suc n ≡ suc i * W) ⊎ (suc n ≡ N)) → n % W ≡ n - i * W → EndsWith W N n
        by b r = ⊎_elim (λ full. inl (let m' = suc-mul i W in let low' = b.0 in omega (arith, r, full, m', low'))) (λ last. inr last) b.2

    -- where a window ends it is the one of this number
    border_here : EndsWith W N n → (start W N (suc (n / W)) ≡ suc n) × (n / W < may.formed.count)
    border_here ends_now =
        let j : ℕ = n / W in
        let parts = div-add-mod n W in
        let turn = mul_comm W j in
        let rest = mod-lt n some in
        let next = suc-mul j W in
        let low : j * W ≤ n = omega (arith, parts, turn) in
        let high : n < suc j * W = omega (arith, parts, turn, rest, next) in
        let count = may.formed.count in (
          ⊎_elim
              (λ full. let e : suc j * W ≡ suc n = omega (arith, parts, turn, full, next, some) in min-eq_right {n = suc j * W} {m = N} (omega (arith, e, less)) ∙ e)
              (λ last. min-eq_left {n = N} {m = suc j * W} (omega (arith, last, high)) ∙ sym last) ends_now,
          ⊎_elim (λ below. below) (λ over. absurd (let most = mul-le-mul_right W over in let whole = may.formed.whole in
              let e = min-eq_right {n = count * W} {m = N} (omega (arith, most, low, less)) in omega (arith, e, whole, most, low, less))) (cases_lt j count),
        )

    -- over these buffers then
    module _ (others : List BufferState) (changed : SameBuffers states others) (course : Course) (stand_then : TapsStand course others (run.calls ++ more)) where
      pub goes_there : course ≡ Goes → (EndsWith W N n → AreAtEnd others ends (n / W)) → Runs (suc n) parts_new others
      goes_there going at_ends =
          let stand : AllStand others (run.calls ++ more) = subst (λ (c : Course). TapsStand c others (run.calls ++ more)) going stand_then in
          record {
            calls = run.calls ++ more;
            accepted = accepted_then base m n run.accepted run.calls run.are more ticked.accepted tick;
            over = over_new ∙ run.over;
            clock = clock_new ∙ run.clock;
            are = made_more base m n run.accepted run.calls run.are more ticked.accepted tick;
            engine = engine_then;
            stand = stand;
            of = of_same base score.text m score.chunks states run.of others changed;
            whole = whole_then base score.clocks may.is score.text W N m n score.chunks states others run.of changed run.calls run.accepted run.are run.stand more ticked.accepted tick stand may.formed ends may.ends_are run.whole
                (λ i low e b s x known. let there = ends_there i low e in let many = run.of.many in let size = changed.many in
                subst (λ (k : ℕ). IsAtEnd (slice_index_or others b s) (slice_index_or ends b x) k) there.0 (at_ends there.1 b s x (omega (arith, known, many, size)))) pick;
          }

      pub waits_there : course ≡ Waits → HasTurned base W N score.text m n score.chunks (chunks_of others)
      waits_there waiting = turned_wait base score.clocks may.is score.text W N m n score.chunks states others run.of changed run.calls run.accepted run.are run.stand more ticked.accepted tick
          (subst (λ (c : Course). TapsStand c others (run.calls ++ more)) waiting stand_then) run.whole (omega (arith, less))

      pub fails_there : (course ≡ Fails) ⊎ ((course ≡ Goes) × EndsWith W N n × IsOffEnd others ends (n / W)) → IsRefused base W N score.text score.chunks m
      fails_there (inl failing) = failed_then base score.clocks may.is score.text W N m n score.chunks states others run.of changed run.calls run.accepted run.are run.stand more ticked.accepted tick
          (subst (λ (c : Course). TapsStand c others (run.calls ++ more)) failing stand_then) less
      fails_there (inr off) =
          let o = off.2 in
          let size = changed.many in let many = run.of.many in
          let known : o.buffer < length base.plan.buffers = (let low = o.known in omega (arith, low, size, many)) in
          let here = border_here off.1 in
          let long = may.formed.many o.buffer known in
          not_whole base score.clocks may.is score.text W N m n score.chunks states others run.of changed run.calls run.accepted run.are run.stand more ticked.accepted tick
          (subst (λ (c : Course). TapsStand c others (run.calls ++ more)) off.0 stand_then) (n / W) o.buffer (slice_index_or ends o.buffer (pick o.buffer known)) less here.0
          (let within = here.1 in omega (arith, within, long)) known (may.ends_are o.buffer (pick o.buffer known) known) (o.off no_state (pick o.buffer known))

  -- the same of taps whose buffers let nothing go
  module _ {S : Type 0} (told : S → SinkTold) (outs_old outs_new : List S) (n : ℕ) (less : n < N) (some : 1 ≤ W) (parts parts_new : EngineParts) (taps taps_new : ToldTaps) (kept : AreKept taps.buffers.items) (run : Runs n parts taps.buffers.items)
      (goes : taps.course ≡ Goes) (over_new : setting_of parts_new ≡ setting_of parts) (clock_new : parts_new.clock ≡ parts.clock)
      (made : HasMade told (λ (t : ToldTaps) calls. TapsFollow t.course t.buffers.items calls) parts parts_new outs_old outs_new taps taps_new) (changed : SameBuffers taps.buffers.items taps_new.buffers.items) where
    stand_more : TapsStand taps_new.course taps_new.buffers.items (run.calls ++ made.more)
    stand_more = stand_kept taps_new.course taps_new.buffers.items (run.calls ++ made.more) (kept_same taps.buffers.items taps_new.buffers.items changed kept)
        (made.taps run.calls (follow_kept taps.course taps.buffers.items run.calls kept (subst (λ (c : Course). TapsStand c taps.buffers.items run.calls) (sym goes) run.stand)))

    pub goes_on : taps_new.course ≡ Goes → (EndsWith W N n → AreAtEnd taps_new.buffers.items ends (n / W)) → Runs (suc n) parts_new taps_new.buffers.items
    goes_on = goes_there told outs_old outs_new n less some parts parts_new taps.buffers.items run over_new clock_new made.more made.engine taps_new.buffers.items changed taps_new.course stand_more

    pub waits : taps_new.course ≡ Waits → HasTurned base W N score.text m n score.chunks (chunks_of taps_new.buffers.items)
    waits = waits_there told outs_old outs_new n less some parts parts_new taps.buffers.items run over_new clock_new made.more made.engine taps_new.buffers.items changed taps_new.course stand_more

    pub fails : (taps_new.course ≡ Fails) ⊎ ((taps_new.course ≡ Goes) × EndsWith W N n × IsOffEnd taps_new.buffers.items ends (n / W)) → IsRefused base W N score.text score.chunks m
    fails = fails_there told outs_old outs_new n less some parts parts_new taps.buffers.items run over_new clock_new made.more made.engine taps_new.buffers.items changed taps_new.course stand_more

  -- and of taps whose buffers let chunks go
  module _ {S : Type 0} (told : S → SinkTold) (outs_old outs_new : List S) (n : ℕ) (less : n < N) (some : 1 ≤ W) (parts parts_new : EngineParts) (taps taps_new : ToldTaps)
      (flown : HasFlown base (timed score.text W N) m n score.chunks parts taps.buffers.items)
      (goes : taps.course ≡ Goes) (over_new : setting_of parts_new ≡ setting_of parts) (clock_new : parts_new.clock ≡ parts.clock)
      (made : HasMade told (λ (t : ToldTaps) calls. TapsFollow t.course t.buffers.items calls) parts parts_new outs_old outs_new taps taps_new) (changed : SameBuffers taps.buffers.items taps_new.buffers.items) where
    abbrev run_now : Runs n parts flown.full
    run_now = flown.run

    own_now : All (IsOwn base m) (run_now.calls ++ made.more)
    own_now = own_more told outs_old outs_new n less some parts parts_new flown.full run_now over_new clock_new made.more made.engine

    follow_more : TapsFollow taps_new.course taps_new.buffers.items (run_now.calls ++ made.more)
    follow_more = made.taps run_now.calls (subst (λ (c : Course). TapsFollow c taps.buffers.items run_now.calls) (sym goes) (flown.full, flown.fills, run_now.stand))

    now : Following base score.text m score.chunks taps.buffers.items taps_new.buffers.items flown.full flown.fills changed run_now.of run_now.calls made.more own_now run_now.stand flown.unlost taps_new.course
    now = follows base score.text m score.chunks taps.buffers.items taps_new.buffers.items flown.full flown.fills changed run_now.of run_now.calls made.more own_now run_now.stand flown.unlost taps_new.course follow_more

    ends_full : AreAtEnd taps_new.buffers.items ends (n / W) → AreAtEnd now.full_now ends (n / W)
    ends_full at_ends b s e within =
        let low : b < length taps_new.buffers.items = (let many = now.fills_now.many in omega (arith, within, many)) in
        let fill = now.fills_now.each b s low in
        let end = at_ends b s e low in
        record {
          puts = λ fed. end.puts (sym (ap (λ (x : BufferState). x.fed) fill.same) ∙ fed) ∙ ap (λ (x : BufferState). Some x.put_at) (sym fill.same);
          takes = λ read. end.takes (sym (ap (λ (x : BufferState). x.read) fill.same) ∙ read) ∙ ap (λ (x : BufferState). Some x.take_at) (sym fill.same);
        }

    pub flows_on : taps_new.course ≡ Goes → (EndsWith W N n → AreAtEnd taps_new.buffers.items ends (n / W)) → HasFlown base (timed score.text W N) m (suc n) score.chunks parts_new taps_new.buffers.items
    flows_on going at_ends = record {
      full = now.full_now;
      fills = now.fills_now;
      unlost = unlost_then base score.text m score.chunks taps.buffers.items taps_new.buffers.items flown.full flown.fills changed run_now.of run_now.calls made.more own_now run_now.stand flown.unlost;
      run = goes_there told outs_old outs_new n less some parts parts_new flown.full run_now over_new clock_new made.more made.engine now.full_now now.same_now taps_new.course now.stand_now going
          (λ ends_now. ends_full (at_ends ends_now));
    }

    off_full : IsOffEnd taps_new.buffers.items ends (n / W) → IsOffEnd now.full_now ends (n / W)
    off_full o =
        let low : o.buffer < length taps_new.buffers.items = o.known in
        record {
          buffer = o.buffer;
          known = (let many = now.fills_now.many in omega (arith, low, many));
          off = λ s e end. let fill = now.fills_now.each o.buffer s low in o.off s e (record {
            puts = λ fed. end.puts (ap (λ (x : BufferState). x.fed) fill.same ∙ fed) ∙ ap (λ (x : BufferState). Some x.put_at) fill.same;
            takes = λ read. end.takes (ap (λ (x : BufferState). x.read) fill.same ∙ read) ∙ ap (λ (x : BufferState). Some x.take_at) fill.same;
          });
        }

    fails_full : (taps_new.course ≡ Fails) ⊎ ((taps_new.course ≡ Goes) × EndsWith W N n × IsOffEnd taps_new.buffers.items ends (n / W)) → (taps_new.course ≡ Fails) ⊎ ((taps_new.course ≡ Goes) × EndsWith W N n × IsOffEnd now.full_now ends (n / W))
    fails_full (inl failing) = inl failing
    fails_full (inr off) = inr (off.0, off.1, off_full off.2)

    -- a call that has no right answer
    pub flows_fail : (taps_new.course ≡ Fails) ⊎ ((taps_new.course ≡ Goes) × EndsWith W N n × IsOffEnd taps_new.buffers.items ends (n / W)) → IsRefused base W N score.text score.chunks m
    flows_fail failed = fails_there told outs_old outs_new n less some parts parts_new flown.full run_now over_new clock_new made.more made.engine now.full_now now.same_now taps_new.course now.stand_now (fails_full failed)

  pub all_made : (n : ℕ) (parts : EngineParts) (states : List BufferState) → n ≡ N → Runs n parts states → HasTurned base W N score.text m N score.chunks (chunks_of states)
  all_made n parts states e run =
      let last : Runs N parts states = subst (λ (k : ℕ). Runs k parts states) e run in
      turned_all base score.clocks may.is score.text W N m score.chunks states last.of last.calls last.accepted last.are last.stand last.whole
