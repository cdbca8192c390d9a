-- An engine whose calls begin those of its clock in a record makes the record's ticks.
use Rattle.std.proofs.Common.{◌≡◌, ◌<◌, ◌≤◌, ◌∙◌, ◌++◌, ℕ, zero, suc, List, [], ◌∷◌, length, slice_index_or, flat_map, inl, inr, refl, ap, sym, subst, arith, append-nil}
use Rattle.std.specs.Prelude.{All}
use mathlib.Core.Path.{fun_ext}
use Rattle.std.proofs.lemmas.Bool.{cases_lt, cases_eq}
use Rattle.liq_base.specs.Pieces.{IsPrefix, SinkTold, grown}
use Rattle.clock_infer.specs.declared.clock_map.ClockMap.{ClockMap}
use Rattle.clock_infer.specs.declared.clock_map.NodeClock.TheVariants.{Main}
use Rattle.frame_core.specs.Calls.{Call, takes_of, Answer}
use Rattle.stream_meaning.specs.Instants.{Setting, answered, with_rest}
use Rattle.stream_meaning.specs.Calls.{answers_in, calls_of_tick, joined_upto}
use Rattle.stream_meaning.specs.Settings.{IsSetting}
use Rattle.stream_meaning.specs.Sinks.{ticks_bytes}
use Rattle.stream_meaning.proofs.Unread.{no_tick_takes, none_in_joined}
use Rattle.run_records.specs.Outputs.{first_calls}
use Rattle.stream_meaning.proofs.Sorted.{op_of_reads}
use Rattle.run_records.specs.Buffers.{reader}
use Rattle.run_records.specs.Owning.{IsOwn}
use Rattle.run_records.specs.Records.{AreWindows, Run, Window, answers_of, calls_in, setting_in}
use Rattle.run_records.proofs.Flattening.{takes-append}
use Rattle.run_records.proofs.Owning.{own_tick}
use Rattle.run_records.proofs.Parting.{joined_first}
use Rattle.clock_ticks.specs.declared.engine.ClockEngine.{ClockEngine}
use Rattle.clock_ticks.specs.Engines.{held_of, setting_of}
use Rattle.rounds_run.specs.Rounds.{HasRunPart, HasRunTurns, world}
use Rattle.rounds_run.specs.Runs.{HasRunTicks}
use Rattle.rounds_run.proofs.Going.{none_read, run_part}
use Rattle.rounds_run.proofs.Records.{takes_are}
use Rattle.rounds_run.proofs.Worlds.{meets, meets_is, none_begun}
use Rattle.trace_records.specs.Clocks.{IsFront, Log}
use Rattle.trace_records.specs.Passes.{IsTold}
use Rattle.trace_records.proofs.Recorded.{made_is, no_takes, own_joined, record_takes}

past : {A : Type 0} (xs : List A) (b : ℕ) (d : A) → length xs ≤ b → slice_index_or xs b d ≡ d
past [] b d high = refl
past (x ∷ xs) zero d high = absurd (omega (arith, high))
past (x ∷ xs) (suc b) d high = past xs b d (omega (arith, high))

module _ (base : Setting) (clocks : ClockMap) (is : IsSetting base clocks) (text : ℕ → Log) (W N : ℕ) (run : Run) (lawful : AreWindows base clocks.running W N run) (told_is : IsTold base text run)
    (m : ℕ) (low : m < clocks.running) where
  abbrev B : ℕ
  B = length base.plan.buffers

  -- the calls of its first ticks in the record
  abbrev pub record_calls : ℕ → List Call
  record_calls n = first_calls (answered base (answers_of run)) (lawful.accepted m) m n

  pub record_front : (n : ℕ) → n ≤ N → IsFront (record_calls n) (record_calls N)
  record_front n within =
      let more = joined_first (λ t. calls_of_tick (answered base (answers_of run)) (lawful.accepted m t) m t) n N within in record { rest = more.0; are = more.1 }

  own : All (IsOwn base m) (record_calls N)
  own = own_joined base m (λ t. calls_of_tick (answered base (answers_of run)) (lawful.accepted m t) m t) (λ t. own_tick base clocks is (answers_of run) (lawful.accepted m t) m t) N

  takes_here : (b : ℕ) → b < B → reader base b ≡ m → answers_of run b ≡ takes_of b (record_calls N)
  takes_here b known read =
      record_takes base clocks is W N text run lawful told_is b known
      ∙ ap (λ (k : ℕ). takes_of b (joined_upto (calls_in (setting_in base run) clocks.running lawful.accepted k) N)) read
      ∙ ap (takes_of b) (sym (made_is base clocks is W N text run lawful told_is m low N))

  -- calls that begin the clock's bring what begins the record's answers
  module _ (xs : List Call) (front : IsFront xs (record_calls N)) where
    none_here : (b : ℕ) → answers_in b (record_calls N) ≡ [] → answers_in b xs ≡ []
    none_here b e = none_begun b xs front.rest (ap (answers_in b) (sym front.are) ∙ e)

    none_past : (b : ℕ) → B ≤ b → answers_in b (record_calls N) ≡ []
    none_past b high =
        none_in_joined b (λ t. calls_of_tick (answered base (answers_of run)) (lawful.accepted m t) m t)
        (λ t. no_tick_takes (answered base (answers_of run)) (lawful.accepted m t) m t b
        (record { none = λ rank i node there work below. let within = is.plan.read b i (node, there, op_of_reads base i b node work) in omega (arith, within, high) })) N

    remains : (b : ℕ) → (rest : List Answer) × (answers_in b xs ++ rest ≡ answers_of run b)
    remains b = elim (cases_lt b B) [
      | inr high ↦ (
        [],
        append-nil (answers_in b xs) ∙ none_here b (none_past b high)
            ∙ sym (ap (λ (ws : List Window). flat_map (λ (window : Window). window.1) ws) (past run.buffers b [] (let many = lawful.buffers in omega (arith, high, many)))),
      )
      | inl known ↦ elim (cases_eq (reader base b) m) [
        | inl read ↦ (takes_of b front.rest, ap (λ (l : List Answer). l ++ takes_of b front.rest) (sym (takes_are b xs)) ∙ sym (takes-append b xs front.rest) ∙ ap (takes_of b) (sym front.are) ∙ sym (takes_here b known read))
        | inr other ↦ (answers_of run b, ap (λ (l : List Answer). l ++ answers_of run b) (none_here b (sym (takes_are b (record_calls N)) ∙ no_takes base b m other (record_calls N) own)))
      ]
    ]

    abbrev rest_of : ℕ → List Answer
    rest_of b = (remains b).0

    world_is : world base xs rest_of ≡ setting_in base run
    world_is = ap (answered base) (fun_ext (λ b. (remains b).1))

    module _ {S : Type 0} (told : S → SinkTold) (first now : ClockEngine S) (over : setting_of first.parts ≡ base) where
      -- whole ticks
      pub ticks_match : (n : ℕ) → HasRunTurns told xs n first now → HasRunTicks told (setting_in base run) n first now
      ticks_match n turns =
          let rest = meets (setting_of first.parts) (Main first.parts.clock) xs turns.answers turns.own rest_of in
          let given : with_rest (setting_of first.parts) turns.answers rest ≡ setting_in base run =
          meets_is (setting_of first.parts) (Main first.parts.clock) xs turns.answers turns.own rest_of (none_read told n xs first now now turns) ∙ ap (λ (s : Setting). world s xs rest_of) over ∙ world_is in
          record {
            over = turns.setting;
            clock = turns.clock;
            keeping = turns.keeping;
            answers = turns.answers;
            rest = rest;
            given = given;
            stands = turns.stands;
            grew = λ sink node output. turns.grew.each rest sink node output ∙ ap (λ (V : Setting). grown (ticks_bytes V output.wide node n) (held_of told first sink)) given;
            pieces = turns.pieces;
            outs = turns.outs;
          }

      -- and a part of one more
      pub part_matches : (least most : ℕ) → HasRunPart told (world (setting_of first.parts) xs) least most first now → HasRunPart told (λ rest. setting_in base run) least most first now
      part_matches least most part =
          let here : world (setting_of first.parts) xs rest_of ≡ setting_in base run = ap (λ (s : Setting). world s xs rest_of) over ∙ world_is in
          record {
            setting = part.setting;
            clock = part.clock;
            part = λ rest sink node output.
                subst (λ (V : Setting). (bytes : List ℕ) × IsPrefix (ticks_bytes V output.wide node least) bytes × IsPrefix bytes (ticks_bytes V output.wide node most) × (held_of told now sink ≡ grown bytes (held_of told first sink))) here
                (part.part rest_of sink node output);
            pieces = part.pieces;
            outs = part.outs;
          }

      -- so many ticks are no fewer and no more
      pub ticks_part : (n : ℕ) → HasRunTurns told xs n first now → HasRunPart told (λ rest. setting_in base run) n n first now
      ticks_part n turns = part_matches n n (run_part told n xs first now now turns n n (omega arith) (omega arith))
