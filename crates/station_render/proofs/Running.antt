-- What a run leaves in the sinks of a clock, place by place.
use Rattle.std.proofs.Common.{◌≡◌, ◌≤◌, ◌<◌, ◌+◌, ◌*◌, ◌^◌, ◌∙◌, ◌++◌, ℕ, zero, suc, Bool, true, false, List, [], ◌∷◌, length, map, slice_get, get_or, nat_eq, arith, refl, ap, sym, subst, append_assoc, inl, if◌then◌else◌}
use Rattle.std.specs.Prelude.{Some, is_some}
use Rattle.std.specs.Fn.{iterate}
use Rattle.liq_base.specs.Counts.{one_more_append}
use Rattle.std.specs.List.{AllZip}
use Rattle.std.specs.Option.{option_map_or}
use Rattle.std.proofs.lemmas.Bool.{eq-eqb, false_from_ne_true, eqb-true}
use Rattle.liq_base.specs.Pieces.{HasRoom, IsPrefix, SinkTold, grown}
use Rattle.liq_base.specs.Shelves.{ShelfTold}
use Rattle.plan_core.specs.declared.plan.Plan.{Plan}
use Rattle.plan_core.specs.declared.sink.SinkPlan.{SinkPlan}
use Rattle.plan_core.specs.declared.sink.SinkPlan.TheVariants.{Output, Feed}
use Rattle.clock_infer.specs.declared.clock_map.NodeClock.TheVariants.{Main}
use Rattle.stream_meaning.specs.Instants.{Setting, answered, clock_of, lies_in, same_clock, with_rest}
use Rattle.stream_meaning.specs.Sinks.{block_length, cues, gaps, is_wide, kind_of, ticks_bytes, wide_sink, IsOutput}
use Rattle.frame_core.specs.Calls.{Answer}
use Rattle.clock_infer.specs.declared.clock_map.ClockMap.{ClockMap}
use Rattle.stream_meaning.proofs.Existence.{same_clock-true}
use Rattle.clock_ticks.specs.declared.engine.ClockEngine.{ClockEngine}
use Rattle.clock_ticks.specs.Engines.{EngineStands, held_in, held_of, outputs_from, outputs_of, setting_of}
use Rattle.clock_ticks.specs.Ticks.{HaveTicksRoom, piece_size}
use Rattle.clock_ticks.specs.Cues.{mark_of}
use Rattle.clock_ticks.specs.Pieces.{HasGot}
use Rattle.clock_ticks.specs.declared.cues.CueMark.{CueMark}
use Rattle.clock_ticks.proofs.Numbered.{are_there}
use Rattle.rounds_run.specs.Rounds.{AreEngines, HasRunPart, HaveRunPart}
use Rattle.rounds_run.specs.Runs.{HasRunTicks, HaveRunTicks}
use Rattle.stations.specs.Streams.{body_size, header_for}
use Rattle.station_render.specs.Sinks.{AreCreated, of_clock}
use Rattle.station_render.specs.Engines.{AreAt, AreKeeping, ArePast, IsAt, IsPast, outs_of}
use Rattle.run_records.specs.Buffers.{main_of as main_clock, main_within}
use Rattle.station_render.specs.Renders.{IsPart, IsReady, IsWhole, Written, main_of, order_of, written}
use Rattle.station_render.proofs.Lists.{got_is, mapped, many_mapped, unmapped, within}
use Rattle.station_render.proofs.Dealing.{zip_at, zip_from, zip_size}
use Rattle.station_render.proofs.Closing.{in_list}
use Rattle.station_render.proofs.Measures.{count_many, known_alike, some_still}
use Rattle.station_render.specs.OutputSinks.{output_told}
use Rattle.station_render.specs.declared.output_sink.OutputSink.{OutputSink}

-- the nodes of these sinks lie in main clocks
abbrev pub LieInMain : Setting → List SinkPlan → Type 0
LieInMain setting sinks = (k : ℕ) (name : List ℕ) (node : ℕ) (fallible wide : Bool) → slice_get sinks k ≡ Some (Output name node fallible wide) → (m : ℕ) × (clock_of setting node ≡ Main m)

-- an output has this number and node
abbrev same_output : Setting → Written → ℕ × ℕ → Type 0
same_output setting output pair = (output.node ≡ pair.1) × (is_wide setting pair.0 ≡ output.wide)

-- these sinks are those of a plan from number i on
abbrev StandFrom : Setting → (i : ℕ) → List SinkPlan → Type 0
StandFrom setting i sinks = (k : ℕ) (sink : SinkPlan) → slice_get sinks k ≡ Some sink → slice_get setting.plan.sinks (i + k) ≡ Some sink

stand_next : (setting : Setting) (i : ℕ) (first : SinkPlan) (sinks : List SinkPlan) → StandFrom setting i (first ∷ sinks) → StandFrom setting (suc i) sinks
stand_next setting i first sinks from k sink at = let same : i + suc k ≡ suc i + k = omega arith in ap (slice_get setting.plan.sinks) (sym same) ∙ from (suc k) sink at

pub stand_all : (setting : Setting) → StandFrom setting 0 setting.plan.sinks
stand_all setting k sink at = let same : 0 + k ≡ k = omega arith in ap (slice_get setting.plan.sinks) same ∙ at

width_there : (setting : Setting) (i : ℕ) (name : List ℕ) (node : ℕ) (fallible wide : Bool) → slice_get setting.plan.sinks i ≡ Some (Output name node fallible wide) → is_wide setting i ≡ wide
width_there setting i name node fallible wide at = ap (λ sink. option_map_or wide_sink sink false) at

-- the outputs of a clock stand in one order
pub same_places : (setting : Setting) (m i : ℕ) (sinks : List SinkPlan) → LieInMain setting sinks → StandFrom setting i sinks
    → AllZip (same_output setting) (of_clock m (order_of setting (written sinks)) (written sinks)) (outputs_from setting m i sinks)
same_places setting m i [] main from = tt
same_places setting m i (Output name node fallible wide ∷ sinks) main from =
    let in_clock = main 0 name node fallible wide refl in
    let here : i + 0 ≡ i = omega arith in
    let width = width_there setting i name node fallible wide (ap (slice_get setting.plan.sinks) (sym here) ∙ from 0 (Output name node fallible wide) refl) in
    subst (λ clock. AllZip (same_output setting)
    (if nat_eq (main_of clock) m then (record { name = name; node = node; wide = wide }) ∷ of_clock m (order_of setting (written sinks)) (written sinks) else of_clock m (order_of setting (written sinks)) (written sinks))
    (if same_clock clock (Main m) then (i, node) ∷ outputs_from setting m (suc i) sinks else outputs_from setting m (suc i) sinks))
    (sym in_clock.1) (by_test width (nat_eq in_clock.0 m) (same_places setting m (suc i) sinks (λ k. main (suc k)) (stand_next setting i (Output name node fallible wide) sinks from)))
  where
    by_test : is_wide setting i ≡ wide → (b : Bool) → AllZip (same_output setting) (of_clock m (order_of setting (written sinks)) (written sinks)) (outputs_from setting m (suc i) sinks)
        → AllZip (same_output setting)
        (if b then (record { name = name; node = node; wide = wide }) ∷ of_clock m (order_of setting (written sinks)) (written sinks) else of_clock m (order_of setting (written sinks)) (written sinks))
        (if b then (i, node) ∷ outputs_from setting m (suc i) sinks else outputs_from setting m (suc i) sinks)
    by_test width true rest = ((refl, width), rest)
    by_test width false rest = rest
same_places setting m i (Feed buffer node ∷ sinks) main from = same_places setting m (suc i) sinks (λ k. main (suc k)) (stand_next setting i (Feed buffer node) sinks from)

-- the numbers of the outputs rise
abbrev Rising : List (ℕ × ℕ) → Type 0
Rising pairs = (j k : ℕ) (a b : ℕ × ℕ) → j < k → slice_get pairs j ≡ Some a → slice_get pairs k ≡ Some b → a.0 < b.0

rising_step : (t : Bool) (i node : ℕ) (rest : List (ℕ × ℕ)) → Rising rest → ((k : ℕ) (b : ℕ × ℕ) → slice_get rest k ≡ Some b → i < b.0) → Rising (if t then (i, node) ∷ rest else rest)
rising_step true i node rest rising above zero zero a b low at there = absurd (omega (arith, low))
rising_step true i node rest rising above zero (suc k) a b low at there = let same : (i, node) ≡ a = (cc) in subst (λ p. p.0 < b.0) same (above k b there)
rising_step true i node rest rising above (suc j) zero a b low at there = absurd (omega (arith, low))
rising_step true i node rest rising above (suc j) (suc k) a b low at there = rising j k a b (omega (arith, low)) at there
rising_step false i node rest rising above j k a b low at there = rising j k a b low at there

no_rising : Rising []
no_rising zero k a b low at there = absurd (cc)
no_rising (suc j) k a b low at there = absurd (cc)

pub rising : (setting : Setting) (m i : ℕ) (sinks : List SinkPlan) → Rising (outputs_from setting m i sinks)
rising setting m i [] = no_rising
rising setting m i (Output name node fallible wide ∷ sinks) =
    rising_step (lies_in setting (Main m) node) i node (outputs_from setting m (suc i) sinks) (rising setting m (suc i) sinks)
    (λ k b at. let n = (are_there setting m (suc i) sinks k b at).number in omega (arith, n))
rising setting m i (Feed buffer node ∷ sinks) = rising setting m (suc i) sinks

-- what the sink of a number holds, by its place
held_at : {S : Type 0} (told : S → SinkTold) (outputs : List (ℕ × ℕ)) (outs : List S) (j : ℕ) (output : ℕ × ℕ) (out : S)
    → ((k : ℕ) (other : ℕ × ℕ) → k < j → slice_get outputs k ≡ Some other → nat_eq other.0 output.0 ≡ false)
    → slice_get outputs j ≡ Some output → slice_get outs j ≡ Some out → held_in told outputs outs output.0 ≡ (told out).held
held_at told [] outs j output out before at there = absurd (cc)
held_at told (p ∷ outputs) [] j output out before at there = absurd (cc)
held_at told (p ∷ outputs) (o ∷ outs) zero output out before at there =
    let same : p ≡ output = (cc) in
    let same_out : o ≡ out = (cc) in
    ap (λ b. if b then (told o).held else held_in told outputs outs output.0) (eq-eqb p.0 output.0 (ap (λ (q : ℕ × ℕ). q.0) same)) ∙ ap (λ x. (told x).held) same_out
held_at told (p ∷ outputs) (o ∷ outs) (suc j) output out before at there =
    ap (λ b. if b then (told o).held else held_in told outputs outs output.0) (before 0 p (omega arith) refl)
    ∙ held_at told outputs outs j output out (λ k other low found. before (suc k) other (omega (arith, low)) found) at there

-- the place of an output among those of a clock
record IsPlaced (setting : Setting) (m j : ℕ) (output : Written) : Type 0 where
  sink : ℕ
  there : slice_get (outputs_of setting m) j ≡ Some (sink, output.node)
  is_output : IsOutput setting m sink output.node
  wide_is : is_output.wide ≡ output.wide
  width_is : is_wide setting sink ≡ output.wide
  before : (k : ℕ) (other : ℕ × ℕ) → k < j → slice_get (outputs_of setting m) k ≡ Some other → nat_eq other.0 sink ≡ false

placed_at : (setting : Setting) (m : ℕ) → LieInMain setting setting.plan.sinks → (j : ℕ) (output : Written)
    → slice_get (of_clock m (order_of setting (written setting.plan.sinks)) (written setting.plan.sinks)) j ≡ Some output → IsPlaced setting m j output
placed_at setting m main j output at =
    let places = same_places setting m 0 setting.plan.sinks main (stand_all setting) in
    let size = zip_size (same_output setting) (of_clock m (order_of setting (written setting.plan.sinks)) (written setting.plan.sinks)) (outputs_of setting m) places in
    let low = within (of_clock m (order_of setting (written setting.plan.sinks)) (written setting.plan.sinks)) j output at in
    let found = in_list (outputs_of setting m) j (omega (arith, size, low)) in
    let same = zip_at (same_output setting) (of_clock m (order_of setting (written setting.plan.sinks)) (written setting.plan.sinks)) (outputs_of setting m) j output found.0 places at found.1 in
    let node_is : output.node ≡ found.0.1 = same.0 in
    let there = are_there setting m 0 setting.plan.sinks j found.0 found.1 in
    let stands : slice_get setting.plan.sinks found.0.0 ≡ Some (Output there.name output.node there.fallible there.wide) =
    ap (slice_get setting.plan.sinks) (let n = there.number in omega (arith, n)) ∙ there.there ∙ ap (λ node. Some (Output there.name node there.fallible there.wide)) (sym node_is) in
    record {
      sink = found.0.0;
      there = found.1 ∙ ap (λ node. Some (found.0.0, node)) (sym node_is);
      is_output = record {
        name = there.name;
        fallible = there.fallible;
        wide = there.wide;
        there = stands;
        in_clock = ap (clock_of setting) node_is ∙ same_clock-true (clock_of setting found.0.1) (Main m) there.inside;
      };
      wide_is = sym (width_there setting found.0.0 there.name output.node there.fallible there.wide stands) ∙ same.1;
      width_is = same.1;
      before = λ k other lower at_other.
          let less : other.0 < found.0.0 = rising setting m 0 setting.plan.sinks k j other found.0 lower at_other found.1 in
          false_from_ne_true (nat_eq other.0 found.0.0) (λ e. let same : other.0 ≡ found.0.0 = eqb-true other.0 found.0.0 e in omega (arith, less, same));
    }

module _ {S : Type 0} (told : S → SinkTold) (ticks : ℕ) (old new : ClockEngine S) (main : LieInMain (setting_of old.parts) (setting_of old.parts).plan.sinks) where
  abbrev here : Setting
  here = setting_of old.parts

  abbrev mine : List Written
  mine = of_clock old.parts.clock (order_of here (written here.plan.sinks)) (written here.plan.sinks)

  held_both : setting_of new.parts ≡ here → new.parts.clock ≡ old.parts.clock → (j : ℕ) (output : Written) (before after : S)
      → slice_get mine j ≡ Some output → slice_get old.outs j ≡ Some before → slice_get new.outs j ≡ Some after
      → (sink : ℕ) × (is : IsOutput here old.parts.clock sink output.node) × (is.wide ≡ output.wide) × (held_of told old sink ≡ (told before).held) × (held_of told new sink ≡ (told after).held)
  held_both over clock j output before after at was is =
      let place = placed_at here old.parts.clock main j output at in (
        place.sink,
        place.is_output,
        place.wide_is,
        held_at told (outputs_of here old.parts.clock) old.outs j (place.sink, output.node) before place.before place.there was,
        ap (λ s. held_in told (outputs_of s new.parts.clock) new.outs place.sink) over
            ∙ ap (λ c. held_in told (outputs_of here c) new.outs place.sink) clock
            ∙ held_at told (outputs_of here old.parts.clock) new.outs j (place.sink, output.node) after place.before place.there is,
      )

  -- after all ticks
  pub whole_at : (world : Setting) → HasRunTicks told world ticks old new → (j : ℕ) (output : Written) (before after : S)
      → slice_get mine j ≡ Some output → slice_get old.outs j ≡ Some before → slice_get new.outs j ≡ Some after
      → HasGot ticks (told before) (told after) × ((told after).held ≡ grown (ticks_bytes world output.wide output.node ticks) (told before).held)
  whole_at world run j output before after at was is =
      let both = held_both run.over run.clock j output before after at was is in (
        run.pieces.each j before after was is,
        sym both.4 ∙ run.grew both.0 output.node both.1 ∙ ap (λ w. grown (ticks_bytes world w output.node ticks) (held_of told old both.0)) both.2 ∙ ap (grown (ticks_bytes world output.wide output.node ticks)) both.3,
      )

  -- after a part of them
  pub part_at : (worlds : (ℕ → List Answer) → Setting) (least most : ℕ) → HasRunPart told worlds least most old new → (rest : ℕ → List Answer) (j : ℕ) (output : Written) (before after : S)
      → slice_get mine j ≡ Some output → slice_get old.outs j ≡ Some before → slice_get new.outs j ≡ Some after
      → ((told after).name ≡ (told before).name) × ((pieces : ℕ) → (told before).appends ≡ Some pieces → 1 ≤ pieces → (now : ℕ) × ((told after).appends ≡ Some now) × (1 ≤ now))
      × ((bytes : List ℕ) × IsPrefix (ticks_bytes (worlds rest) output.wide output.node least) bytes × IsPrefix bytes (ticks_bytes (worlds rest) output.wide output.node most) × ((told after).held ≡ grown bytes (told before).held))
  part_at worlds least most run rest j output before after at was is =
      let both = held_both run.setting run.clock j output before after at was is in
      let part = run.part rest both.0 output.node both.1 in
      let got = run.pieces.each j before after was is in (
        got.3.name_kept,
        (λ pieces are some. let now = some_still got.0 pieces some in (now.0, got.3.appends_are ∙ ap (iterate one_more_append got.0) are ∙ now.1, now.2)),
        (
          part.0,
          subst (λ w. IsPrefix (ticks_bytes (worlds rest) w output.node least) part.0) both.2 part.1,
          subst (λ w. IsPrefix part.0 (ticks_bytes (worlds rest) w output.node most)) both.2 part.2,
          sym both.4 ∙ part.3 ∙ ap (grown part.0) both.3,
        ),
      )

  -- the output lies in this clock
  pub lies_here : (j : ℕ) (output : Written) → slice_get mine j ≡ Some output → clock_of here output.node ≡ Main old.parts.clock
  lies_here j output at = (placed_at here old.parts.clock main j output at).is_output.in_clock

  -- the room of each sink is that for its output
  pub rooms_at : ((j : ℕ) (output : Written) (out : S) → slice_get mine j ≡ Some output → slice_get old.outs j ≡ Some out → HasRoom (told out).room (body_size here output.wide ticks output.node))
      → length old.outs ≡ length mine → HaveTicksRoom told old.parts old.outs ticks
  rooms_at each size = record {
    each = λ k sink node out at there.
        let low = within old.outs k out there in
        let found = in_list mine k (omega (arith, size, low)) in
        let place = placed_at here old.parts.clock main k found.0 found.1 in
        let pairs : (place.sink, found.0.node) ≡ (sink, node) = (let e : Some (place.sink, found.0.node) ≡ Some (sink, node) = sym place.there ∙ at in cc) in
        let width : is_wide here sink ≡ found.0.wide = ap (λ (p : ℕ × ℕ). is_wide here p.0) (sym pairs) ∙ place.width_is in
        subst (λ n. HasRoom (told out).room (ticks * piece_size here sink n)) (ap (λ (p : ℕ × ℕ). p.1) pairs)
        (subst (λ w. HasRoom (told out).room (ticks * (here.plan.frame * block_length w (kind_of here found.0.node)))) (sym width) (each k found.0 out found.1 there));
  }

-- a front stays one behind a header
headed : (header part rest whole : List ℕ) → whole ≡ part ++ rest → header ++ whole ≡ header ++ part ++ rest
headed header part rest whole is = ap (λ b. header ++ b) is ∙ sym (append_assoc header part rest)

-- an engine before a run, at the place of one after it
before_at : {S : Type 0} (old new : List (ClockEngine S)) → length new ≡ length old → (m : ℕ) (group : List S) → slice_get (outs_of new) m ≡ Some group
    → (before : ClockEngine S) × (after : ClockEngine S) × (slice_get old m ≡ Some before) × (slice_get new m ≡ Some after) × (after.outs ≡ group)
before_at {S} old new size m group at =
    let after = unmapped (λ (e : ClockEngine S). e.outs) new m group at in
    let low = within new m after.0 after.1 in
    let before = in_list old m (omega (arith, low, size)) in
    (before.0, after.0, before.1, after.1, after.2)

-- the sinks of all clocks
module _ {S : Type 0} (setting : Setting) (ticks : ℕ) (main : LieInMain setting setting.plan.sinks) where
  main_here : (engine : ClockEngine S) → setting_of engine.parts ≡ setting → LieInMain (setting_of engine.parts) (setting_of engine.parts).plan.sinks
  main_here engine over = subst (λ s. LieInMain s s.plan.sinks) (sym over) main

  -- a clock has as many sinks as outputs
  pub many_sinks : (So : Written → S → Type 0) (groups : List (List S)) → AreCreated So (written setting.plan.sinks) (order_of setting (written setting.plan.sinks)) groups → (m : ℕ) (group : List S) → slice_get groups m ≡ Some group
      → length group ≡ length (outputs_of setting m)
  many_sinks So groups are m group at =
      zip_size So (of_clock m (order_of setting (written setting.plan.sinks)) (written setting.plan.sinks)) group (are.each m group at)
      ∙ sym (zip_size (same_output setting) (of_clock m (order_of setting (written setting.plan.sinks)) (written setting.plan.sinks)) (outputs_of setting m) (same_places setting m 0 setting.plan.sinks main (stand_all setting)))

  mine_is : (engine : ClockEngine S) (m : ℕ) → IsAt setting m engine → of_clock engine.parts.clock (order_of (setting_of engine.parts) (written (setting_of engine.parts).plan.sinks)) (written (setting_of engine.parts).plan.sinks)
      ≡ of_clock m (order_of setting (written setting.plan.sinks)) (written setting.plan.sinks)
  mine_is engine m is = ap (λ s. of_clock engine.parts.clock (order_of s (written s.plan.sinks)) (written s.plan.sinks)) is.over ∙ ap (λ c. of_clock c (order_of setting (written setting.plan.sinks)) (written setting.plan.sinks)) is.clock_is

  -- the engines may run
  pub may_run : (told : S → SinkTold) (engines : List (ClockEngine S)) → AreAt setting engines
      → AreCreated (λ output sink. HasRoom (told sink).room (body_size setting output.wide ticks output.node)) (written setting.plan.sinks) (order_of setting (written setting.plan.sinks)) (outs_of engines) → AreEngines told ticks setting engines
  may_run told engines at rooms = record {
    each = λ m engine there.
        let is = at.each m engine there in
        let zip = rooms.each m engine.outs (mapped (λ (e : ClockEngine S). e.outs) engines m engine there) in
        record {
          fresh = is.stands;
          rooms = rooms_at told ticks engine engine (main_here engine is.over)
              (λ j output out mine_at out_at.
              subst (λ s. HasRoom (told out).room (body_size s output.wide ticks output.node)) (sym is.over)
              (zip_at (λ output sink. HasRoom (told sink).room (body_size setting output.wide ticks output.node)) (of_clock m (order_of setting (written setting.plan.sinks)) (written setting.plan.sinks)) engine.outs j output out zip
              (ap (λ ws. slice_get ws j) (sym (mine_is engine m is)) ∙ mine_at) out_at))
              (zip_size (λ output sink. HasRoom (told sink).room (body_size setting output.wide ticks output.node)) (of_clock m (order_of setting (written setting.plan.sinks)) (written setting.plan.sinks)) engine.outs zip ∙ sym (ap length (mine_is engine m is)));
        };
    in_order = λ m engine there. (at.each m engine there).clock_is;
    over = λ m engine there. (at.each m engine there).over;
  }

-- the sinks of opened outputs, after a run
module _ {O : Type 0} (told : O → SinkTold) (shelf : ShelfTold) (setting : Setting) (ticks : ℕ) (main : LieInMain setting setting.plan.sinks) (old new : List (ClockEngine (OutputSink O))) (at : AreAt setting old)
    (ready : AreCreated (IsReady told shelf setting ticks) (written setting.plan.sinks) (order_of setting (written setting.plan.sinks)) (outs_of old)) where
  abbrev own : (m : ℕ) → List Written
  own m = of_clock m (order_of setting (written setting.plan.sinks)) (written setting.plan.sinks)

  same_many : length new ≡ length old → length (outs_of new) ≡ length (outs_of old)
  same_many size = many_mapped (λ (e : ClockEngine (OutputSink O)). e.outs) new ∙ size ∙ sym (many_mapped (λ (e : ClockEngine (OutputSink O)). e.outs) old)

  pub all_whole : ticks + 2 < 2 ^ 64 → (answers : ℕ → List Answer) → HaveRunTicks (output_told told) (answered setting answers) ticks old new
      → AreCreated (IsWhole told shelf (answered setting answers) ticks) (written setting.plan.sinks) (order_of setting (written setting.plan.sinks)) (outs_of new)
  all_whole few answers run = record {
    size = ready.size;
    below = λ k clock there. subst (λ n. clock < n) (sym (same_many run.size)) (ready.below k clock there);
    each = λ m group there.
        let found = before_at old new run.size m group there in
        let is = at.each m found.0 found.2 in
        let ran = run.each m found.0 found.1 found.2 found.3 in
        let zip = ready.each m found.0.outs (mapped (λ (e : ClockEngine (OutputSink O)). e.outs) old m found.0 found.2) in
        subst (λ g. AllZip (IsWhole told shelf (answered setting answers) ticks) (own m) g) found.4
        (zip_from (IsWhole told shelf (answered setting answers) ticks) (own m) found.1.outs
        (ran.outs ∙ zip_size (IsReady told shelf setting ticks) (own m) found.0.outs zip)
        (λ j output after mine_at after_at.
        let low = within found.1.outs j after after_at in
        let size = ran.outs in
        let before = in_list found.0.outs j (omega (arith, low, size)) in
        let was = zip_at (IsReady told shelf setting ticks) (own m) found.0.outs j output before.0 zip mine_at before.1 in
        let did = whole_at (output_told told) ticks found.0 found.1 (main_here setting ticks main found.0 is.over) (answered setting answers) ran j output before.0 after
        (ap (λ ws. slice_get ws j) (mine_is setting ticks main found.0 m is) ∙ mine_at) before.1 after_at in
        let same = known_alike told after before.0 did.0.name_kept in
        record {
          holds = λ tells. record {
            named = same.named ∙ (was.holds tells).named;
            holds = did.1 ∙ ap (grown (ticks_bytes (answered setting answers) output.wide output.node ticks)) (was.holds tells).holds;
          };
          measured = λ closings here.
              let measured = was.measured closings here in
              record { size_is = same.sized ∙ measured.size_is; pieces_are = did.0.appends_are ∙ ap (iterate one_more_append ticks) measured.pieces_are ∙ count_many ticks 1 (omega (arith, few)) };
          owes = same.owes ∙ was.owes;
        }));
  }

  pub all_part : (answers : (ℕ → List Answer) → ℕ → List Answer) (least most : ℕ → ℕ) → HaveRunPart (output_told told) (λ rest. answered setting (answers rest)) least most old new → (rest : ℕ → List Answer)
      → AreCreated (IsPart told shelf (answered setting (answers rest)) ticks least most) (written setting.plan.sinks) (order_of setting (written setting.plan.sinks)) (outs_of new)
  all_part answers least most run rest = record {
    size = ready.size;
    below = λ k clock there. subst (λ n. clock < n) (sym (same_many run.size)) (ready.below k clock there);
    each = λ m group there.
        let world : Setting = answered setting (answers rest) in
        let found = before_at old new run.size m group there in
        let is = at.each m found.0 found.2 in
        let ran = run.each m found.0 found.1 found.2 found.3 in
        let zip = ready.each m found.0.outs (mapped (λ (e : ClockEngine (OutputSink O)). e.outs) old m found.0 found.2) in
        subst (λ g. AllZip (IsPart told shelf world ticks least most) (own m) g) found.4
        (zip_from (IsPart told shelf world ticks least most) (own m) found.1.outs
        (ran.outs ∙ zip_size (IsReady told shelf setting ticks) (own m) found.0.outs zip)
        (λ j output after mine_at after_at.
        let low = within found.1.outs j after after_at in
        let size = ran.outs in
        let before = in_list found.0.outs j (omega (arith, low, size)) in
        let was = zip_at (IsReady told shelf setting ticks) (own m) found.0.outs j output before.0 zip mine_at before.1 in
        let mine_here = ap (λ ws. slice_get ws j) (mine_is setting ticks main found.0 m is) ∙ mine_at in
        let did = part_at (output_told told) ticks found.0 found.1 (main_here setting ticks main found.0 is.over) (λ more. answered setting (answers more)) (least m) (most m) ran rest j output before.0 after mine_here before.1 after_at in
        let same = known_alike told after before.0 did.0 in
        let lies : clock_of setting output.node ≡ Main m =
        (λ i. clock_of (sym is.over i) output.node) ∙ lies_here (output_told told) ticks found.0 found.1 (main_here setting ticks main found.0 is.over) j output mine_here ∙ ap Main is.clock_is in
        let clock : main_clock world output.node ≡ m = ap (main_within world (length world.plan.nodes)) lies in
        let header = header_for setting output.wide ticks output.node in
        record {
          holds = λ tells. record {
            named = same.named ∙ (was.holds tells).named;
            part = header ++ did.2.0;
            holds = did.2.3 ∙ ap (grown did.2.0) (was.holds tells).holds;
            most = record {
              rest = did.2.2.rest;
              whole_is = ap (λ k. header ++ ticks_bytes world output.wide output.node (most k)) clock ∙ headed header did.2.0 did.2.2.rest (ticks_bytes world output.wide output.node (most m)) did.2.2.whole_is;
            };
            least = inl (record {
              rest = did.2.1.rest;
              whole_is = headed header (ticks_bytes world output.wide output.node (least m)) did.2.1.rest did.2.0 did.2.1.whole_is ∙ ap (λ k. (header ++ ticks_bytes world output.wide output.node (least k)) ++ did.2.1.rest) (sym clock);
            });
          };
          measured = λ closings here.
              let measured = was.measured closings here in
              let now = did.1 1 measured.pieces_are (omega arith) in
              record { size_told = ap is_some same.sized ∙ ap is_some measured.size_is; pieces = now.0; pieces_are = now.1; enough = now.2 };
        }));
  }

-- and keep their marks as they did
pub keep_after : {S : Type 0} (told : S → SinkTold) (world : Setting) (ticks : ℕ) (wanted : Bool) (old new : List (ClockEngine S)) → AreKeeping wanted old
    → HaveRunTicks told world ticks old new → AreKeeping wanted new
keep_after told world ticks wanted old new keep run m after there =
    let low = within new m after there in
    let size = run.size in
    let before = in_list old m (omega (arith, low, size)) in
    (run.each m before.0 after before.1 there).keeping ∙ keep m before.0 before.1

-- after a run the engines stand for its ticks
pub stand_after : {S : Type 0} (told : S → SinkTold) (setting world : Setting) (ticks : ℕ) (old new : List (ClockEngine S)) → AreAt setting old
    → HaveRunTicks told world ticks old new → ArePast setting world ticks new
stand_after told setting world ticks old new at run = record {
  each = λ m after there.
      let low = within new m after there in
      let size = run.size in
      let before = in_list old m (omega (arith, low, size)) in
      let is = at.each m before.0 before.1 in
      let ran = run.each m before.0 after before.1 there in
      record {
        over = ran.over ∙ is.over;
        clock_is = ran.clock ∙ is.clock_is;
        answers = ran.answers;
        rest = ran.rest;
        given = ap (λ s. with_rest s ran.answers ran.rest) (sym is.over) ∙ ran.given;
        stands = ran.stands;
      };
}

-- the engine of an output
module _ {S : Type 0} (plan : Plan) (clocks : ClockMap) (setting world : Setting) (ticks : ℕ) (plan_is : setting.plan ≡ plan) (clocks_is : setting.clocks ≡ clocks.of)
    (k : ℕ) (name : List ℕ) (node : ℕ) (fallible wide : Bool) (at : slice_get plan.sinks k ≡ Some (Output name node fallible wide)) (clock : ℕ) (lies : slice_get clocks.of node ≡ Some (Main clock))
    (engine : ClockEngine S) (is : IsPast setting world ticks clock engine) where
  pub output_here : IsOutput (setting_of engine.parts) engine.parts.clock k node
  output_here =
      subst (λ s. IsOutput s engine.parts.clock k node) (sym is.over)
      (subst (λ c. IsOutput setting c k node) (sym is.clock_is)
      (record {
        name = name;
        fallible = fallible;
        wide = wide;
        there = ap (λ (p : Plan). slice_get p.sinks k) plan_is ∙ at;
        in_clock = ap (λ of. get_or of node (Main 0)) clocks_is ∙ got_is clocks.of node (Main clock) (Main 0) lies;
      }))

  pub marks_here : (marks : List CueMark) → ((t : ℕ) (answers rest : ℕ → List Answer) (other : ℕ) → EngineStands engine.parts t answers → engine.parts.cues.keeping ≡ true
      → IsOutput (setting_of engine.parts) engine.parts.clock k other → marks ≡ map mark_of (cues (with_rest (setting_of engine.parts) answers rest) other t)) → engine.parts.cues.keeping ≡ true
      → marks ≡ map mark_of (cues world node ticks)
  marks_here marks told keeping =
      told ticks is.answers is.rest node is.stands keeping output_here ∙ ap (λ s. map mark_of (cues (with_rest s is.answers is.rest) node ticks)) is.over ∙ ap (λ w. map mark_of (cues w node ticks)) is.given

  pub gaps_here : (count : ℕ) → ((t : ℕ) (answers rest : ℕ → List Answer) (other : ℕ) → EngineStands engine.parts t answers
      → IsOutput (setting_of engine.parts) engine.parts.clock k other → count ≡ gaps (with_rest (setting_of engine.parts) answers rest) other t) → count ≡ gaps world node ticks
  gaps_here count told =
      told ticks is.answers is.rest node is.stands output_here ∙ ap (λ s. gaps (with_rest s is.answers is.rest) node ticks) is.over ∙ ap (λ w. gaps w node ticks) is.given
