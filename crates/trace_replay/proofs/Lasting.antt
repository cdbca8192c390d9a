-- Engines of which each has made some of its ticks, and one that a fault stopped.
use Rattle.std.proofs.Common.{◌≡◌, ◌<◌, ◌≤◌, ◌∙◌, ℕ, suc, Bool, true, false, cond, nat_eq, Some, List, [], length, set, slice_get, inl, inr, refl, ap, sym, subst, arith}
use Rattle.std.proofs.lemmas.Bool.Decides.{nat_tests}
use Rattle.liq_base.specs.Pieces.{SinkTold}
use Rattle.clock_infer.proofs.Exact.{some_inj}
use Rattle.clock_outputs.proofs.Places.{same_or_other, slice_get-set_other, slice_get-set_same}
use Rattle.std.proofs.Math.ListN.{length-set}
use Rattle.stream_meaning.specs.Instants.{Setting}
use Rattle.stream_meaning.specs.Sinks.{ticks_bytes}
use Rattle.buffer_ends.specs.declared.run_end.End.{End}
use Rattle.buffer_ends.specs.declared.run_end.End.TheVariants.{Done, Write, Memory as NoMemory}
use Rattle.clock_ticks.specs.declared.engine.ClockEngine.{ClockEngine}
use Rattle.clock_ticks.specs.declared.fault.TickFault.{TickFault}
use Rattle.clock_ticks.specs.declared.fault.TickFault.TheVariants.{Memory as OutOfMemory, Write as TickWrite}
use Rattle.clock_ticks.specs.Engines.{held_of, outputs_of, setting_of}
use Rattle.clock_ticks.proofs.Pieces.{got_between, got_none}
use Rattle.rounds_run.specs.Rounds.{HasRunPart, IsWriteEnd}
use Rattle.rounds_run.specs.Runs.{HasRunTicks, HaveRunTicks}
use Rattle.rounds_run.proofs.Fronts.{grown_nothing, itself}
use Rattle.rounds_run.proofs.Going.{fault_is}
use Rattle.run_records.specs.Records.{IsWithin}
use Rattle.trace_replay.specs.Replaying.{HasSinkFailed}
use Rattle.trace_replay.specs.Replays.{HasReplayedTo}
use Rattle.trace_records.proofs.Passing.{put_at}

-- one item of a list changed
pub record IsChanged {A : Type 0} (k : ℕ) (new : A) (old now : List A) : Type 0 where
  pub size : length now ≡ length old
  pub here : slice_get now k ≡ Some new
  pub other : (j : ℕ) → (k ≡ j → ⊥) → slice_get now j ≡ slice_get old j

pub changed_set : {A : Type 0} (k : ℕ) (new : A) (xs : List A) → k < length xs → IsChanged k new xs (set xs k new)
changed_set k new xs low = record {
  size = length-set xs k new;
  here = slice_get-set_same xs k new low;
  other = λ j other. slice_get-set_other xs k j new other;
}

pub put_here : {A : Type 0} (k : ℕ) (x : A) (f : ℕ → A) (j : ℕ) → k ≡ j → put_at k x f j ≡ x
put_here k x f j e = (let on : nat_eq j k ≡ true = grind (arith, nat_tests, e) in ap (λ (s : Bool). cond s x (f j)) on)

pub put_other : {A : Type 0} (k : ℕ) (x : A) (f : ℕ → A) (j : ℕ) → (k ≡ j → ⊥) → put_at k x f j ≡ f j
put_other k x f j other = (let off : nat_eq j k ≡ false = grind (arith, nat_tests, other) in ap (λ (s : Bool). cond s x (f j)) off)

-- the ticks that were made and tried
within_by : (here : Bool) (N n a : ℕ) → n < N → a ≤ N → IsWithin 0 N (cond here n a) (cond here (suc n) a)
within_by true N n a low few = record { least = omega arith; most = omega (arith, low); no_fewer = omega arith; one_more = omega arith }
within_by false N n a low few = record { least = omega arith; most = omega (arith, few); no_fewer = omega arith; one_more = omega arith }

-- the clock that stopped is this one
stopped_here : (here : Bool) (n a : ℕ) → cond here (suc n) a ≡ suc (cond here n a) → here ≡ true
stopped_here true n a is = refl
stopped_here false n a is = absurd (omega (arith, is))

is_here : (m k : ℕ) → nat_eq m k ≡ true → m ≡ k
is_here m k on = grind (arith, nat_tests, on)

module _ {S : Type 0} (told : S → SinkTold) (setting : Setting) (N : ℕ) where
  abbrev Part : (least most : ℕ) → ClockEngine S → ClockEngine S → Type 0
  Part least most before after = HasRunPart told (λ rest. setting) least most before after

  -- no tick
  part_none : (engine : ClockEngine S) → Part 0 0 engine engine
  part_none engine = record {
    setting = refl;
    clock = refl;
    part = λ rest sink node output. ([], itself [], itself [], grown_nothing (held_of told engine sink));
    pieces = got_between told 0 0 0 engine.outs engine.outs (omega arith) (omega arith) (got_none told engine.outs);
    outs = refl;
  }

  -- all ticks
  part_all : (before after : ClockEngine S) → HasRunTicks told setting N before after → Part N N before after
  part_all before after run = record {
    setting = run.over;
    clock = run.clock;
    part = λ rest sink node output. (
      ticks_bytes setting output.wide node N,
      itself (ticks_bytes setting output.wide node N),
      itself (ticks_bytes setting output.wide node N),
      run.grew sink node output,
    );
    pieces = got_between told N N N before.outs after.outs (omega arith) (omega arith) run.pieces;
    outs = run.outs;
  }

  no_write_here : (end : End) → ((end ≡ Done → ⊥) → end ≡ NoMemory) → (failed sink : ℕ) → end ≡ Write failed sink → ⊥
  no_write_here Done is failed sink e = cc
  no_write_here NoMemory is failed sink e = cc
  no_write_here (Write clock out) is failed sink e = (let refused : Write clock out ≡ NoMemory = is (λ done. cc) in cc)

  pub all_to : (first now : List (ClockEngine S)) → HaveRunTicks told setting N first now → (end : End) → ((end ≡ Done → ⊥) → end ≡ NoMemory) → HasReplayedTo told setting N first now end
  all_to first now run end is = record {
    made = λ m. N;
    tried = λ m. N;
    within = λ m. record { least = omega arith; most = omega arith; no_fewer = omega arith; one_more = omega arith };
    one = λ m n stopped other. absurd (omega (arith, stopped));
    part = record { size = run.size; each = λ j before after was at. part_all before after (run.each j before after was at) };
    write = λ failed sink e. absurd (no_write_here end is failed sink e);
  }

  -- the same end, told again
  pub ended_so : (first now : List (ClockEngine S)) (end said : End) → said ≡ end → HasReplayedTo told setting N first now end → HasReplayedTo told setting N first now said
  ended_so first now end said is to = subst (HasReplayedTo told setting N first now) (sym is) to

  -- before the first tick memory is wanted
  pub none_made : (first : List (ClockEngine S)) (end : End) → end ≡ NoMemory → HasReplayedTo told setting N first first end
  none_made first end is = record {
    made = λ m. 0;
    tried = λ m. 0;
    within = λ m. record { least = omega arith; most = omega arith; no_fewer = omega arith; one_more = omega arith };
    one = λ m n stopped other. absurd (omega (arith, stopped));
    part = record { size = refl; each = λ j before after was at. subst (Part 0 0 before) (some_inj (sym was ∙ at)) (part_none before) };
    write = λ failed sink e. absurd (no_write_here end (λ done. is) failed sink e);
  }

  module _ (first now : List (ClockEngine S)) (size : length now ≡ length first) (made : ℕ → ℕ) (few : (k : ℕ) → made k ≤ N)
      (each : (k : ℕ) (before after : ClockEngine S) → slice_get first k ≡ Some before → slice_get now k ≡ Some after → Part (made k) (made k) before after) where
    -- a fault of one engine, which had made so many ticks
    module _ (k : ℕ) (new : ClockEngine S) (after : List (ClockEngine S)) (changed : IsChanged k new now after) where
      pub one_broke : (n : ℕ) → n < N → ((before : ClockEngine S) → slice_get first k ≡ Some before → Part n (suc n) before new)
          → (end : End) → ((failed sink : ℕ) → end ≡ Write failed sink → IsWriteEnd told failed first after end) → HasReplayedTo told setting N first after end
      one_broke n less part end write = record {
        made = put_at k n made;
        tried = put_at k (suc n) made;
        within = λ m. within_by (nat_eq m k) N n (made m) less (few m);
        one = λ i j is other. is_here i k (stopped_here (nat_eq i k) n (made i) is) ∙ sym (is_here j k (stopped_here (nat_eq j k) n (made j) other));
        part = record {
          size = changed.size ∙ size;
          each = λ j before engine was is. elim (same_or_other k j) [
            | inl e ↦ (let same : Some new ≡ Some engine = sym changed.here ∙ ap (slice_get after) e ∙ is in
                let one : new ≡ engine = cc in
                subst (λ (a : ℕ). Part a (put_at k (suc n) made j) before engine) (sym (put_here k n made j e))
                (subst (λ (a : ℕ). Part n a before engine) (sym (put_here k (suc n) made j e))
                (subst (λ (x : ClockEngine S). Part n (suc n) before x) one (part before (ap (slice_get first) e ∙ was)))))
            | inr other ↦ subst (λ (a : ℕ). Part a (put_at k (suc n) made j) before engine) (sym (put_other k n made j other))
                (subst (λ (a : ℕ). Part (made j) a before engine) (sym (put_other k (suc n) made j other)) (each j before engine was (sym (changed.other j other) ∙ is)))
          ];
        };
        write = write;
      }

      -- where it is that of an output of the clock
      write_here : (failed sink : ℕ) (before : ClockEngine S) → slice_get first k ≡ Some before → before.parts.clock ≡ k → (out : ℕ) → HasSinkFailed told out before new → Write k out ≡ Write failed sink
          → IsWriteEnd told failed first after (Write k out)
      write_here failed sink before was number out fault e =
          let clock_is : k ≡ failed = cc in
          subst (λ (j : ℕ). IsWriteEnd told j first after (Write k out)) clock_is (record {
            before = before;
            after = new;
            was = was;
            is = changed.here;
            place = fault.place;
            sink = out;
            node = fault.node;
            there = subst (λ (m : ℕ). slice_get (outputs_of (setting_of before.parts) m) fault.place ≡ Some (out, fault.node)) number fault.there;
            end_is = refl;
            rose = fault.rose;
          })

      pub write_end : (before : ClockEngine S) → slice_get first k ≡ Some before → before.parts.clock ≡ k → (fault : TickFault) (end : End) → ((sink : ℕ) → fault ≡ TickWrite sink → end ≡ Write k sink) → (fault ≡ OutOfMemory → end ≡ NoMemory)
          → ((sink : ℕ) → fault ≡ TickWrite sink → HasSinkFailed told sink before new) → (failed sink : ℕ) → end ≡ Write failed sink → IsWriteEnd told failed first after end
      write_end before was number fault end writes memory rose failed sink e = elim (fault_is fault) [
        | inr none ↦ absurd (let is = memory none in cc)
        | inl write ↦ (let is = writes write.0 write.1 in
            subst (IsWriteEnd told failed first after) (sym is) (write_here failed sink before was number write.0 (rose write.0 write.1) (sym is ∙ e)))
      ]
