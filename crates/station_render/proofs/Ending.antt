-- What a rendering leaves in the files, once its sinks are closed.
use Rattle.std.proofs.Common.{◌≡◌, ◌<◌, ◌≤◌, ◌+◌, ◌*◌, ◌%◌, ◌^◌, ◌∙◌, ◌⊎◌, ◌++◌, ℕ, zero, suc, Bool, true, false, List, [], ◌∷◌, map, replicate, arith, refl, ap, sym, subst, inl, inr}
use Rattle.std.specs.Prelude.{Option, Some, None, Result, Ok, Err, IfOk, OnOk, IsSomeAnd, is_ok, is_some}
use Rattle.std.specs.Option.{ForSome}
use Rattle.std.proofs.Math.Nat.{mod-lt}
use Rattle.std.proofs.lemmas.Bool.{true≢false}
use Rattle.std.proofs.lemmas.List.{append-nil, map-append}
use Rattle.liq_base.specs.Counts.{Rose}
use Rattle.liq_base.specs.Files.{Files}
use Rattle.liq_base.specs.Kept.{rose_within, some_and}
use Rattle.liq_base.specs.Pieces.{HasRoom, SinkTold}
use Rattle.liq_base.specs.Shelves.{Closing, ShelfTold}
use Rattle.plan_core.specs.declared.sink.SinkPlan.{SinkPlan}
use Rattle.plan_core.specs.declared.sink.SinkPlan.TheVariants.{Output, Feed}
use Rattle.frame_core.specs.Calls.{Answer}
use Rattle.stream_meaning.specs.Instants.{Setting, answered}
use Rattle.stations.specs.Creations.{HaveListed, after_making, closings_in, names_in}
use Rattle.stations.specs.Outputs.{HaveClosed, HoldsEnds, HoldsParts, HoldsSome, OutputPart, whole_of, with_outputs}
use Rattle.stations.proofs.Parts.{ends_within}
use Rattle.stations.specs.Renderings.{StoppedBehindTicks, StoppedInTicks}
use Rattle.stations.specs.Stations.{Station, setting_of_run, setting_with}
use Rattle.stations.specs.Streams.{body_size, ends_in, ends_of, file_bytes, output_bytes, outputs_in, parts_with, zeros_after}
use Rattle.station_render.specs.Listed.{TellsSinks, WillClose, WillList}
use Rattle.station_render.specs.OutputSinks.{HaveRooms, HoldsBody, HoldsSoMuch, last_byte, owed_by}
use Rattle.station_render.specs.Shelves.{OnlyCreates}
use Rattle.station_render.specs.Sinks.{AreCreated, of_clock}
use Rattle.station_render.specs.declared.output_sink.OutputSink.{OutputSink}
use Rattle.station_render.specs.Renders.{AreBegun, IsPart, IsWhole, Written, debt_of, end_of, front_file, written}
use Rattle.station_render.specs.Runs.{RanPart, RanWhole, WroteOutputs}
use Rattle.station_render.specs.declared.rendered.Rendered.{Rendered}
use Rattle.station_render.proofs.Creating.{created_as, created_mapped, ends_are, fronts_are, names_written}
use Rattle.station_render.proofs.Lists.{within}
use Rattle.station_render.proofs.Dealing.{zip_at, zip_size}
use Rattle.station_render.proofs.Closing.{in_list}
use Rattle.station_render.proofs.Listing.{created_closed, will_list}

-- what an output's sink owes is the last byte of its file
owed_byte : (r : ℕ) (odd : Bool) (room : Option ℕ) → owed_by odd room ≡ 2 * r → r < 2 → replicate r 0 ≡ last_byte odd
owed_byte zero false room owes low = refl
owed_byte zero true None owes low = absurd (omega (arith, owes))
owed_byte zero true (Some zero) owes low = absurd (let e : 1 ≡ 0 = owes in omega (arith, e))
owed_byte zero true (Some (suc left)) owes low = absurd (let e : 2 ≡ 0 = owes in omega (arith, e))
owed_byte (suc zero) false room owes low = absurd (let e : 0 ≡ 2 = owes in omega (arith, e))
owed_byte (suc zero) true room owes low = refl
owed_byte (suc (suc r)) odd room owes low = absurd (omega (arith, low))

zeros_are : (size : ℕ) (odd : Bool) (room : Option ℕ) → owed_by odd room ≡ debt_of size → zeros_after size ≡ last_byte odd
zeros_are size odd room owes = owed_byte (size % 2) odd room owes (mod-lt size {m = 2} (omega arith))

module _ {O : Type 0} (told : O → SinkTold) (shelf : ShelfTold) (world : Setting) (ticks : ℕ) where
  pub body_held : TellsSinks shelf → (output : Written) (sink : OutputSink O) → IsWhole told shelf world ticks output sink → HoldsBody told (end_of world ticks output) sink
  body_held tells output sink is = record {
    named = (is.holds tells).named;
    holds = (is.holds tells).holds;
    whole = ap (λ zeros. output_bytes world output.wide ticks output.node ++ zeros) (zeros_are (body_size world output.wide ticks output.node) sink.odd (told sink.sink).room is.owes);
  }

  -- a sink that owes a byte has room for it
  has_room : (size : ℕ) (left : Option ℕ) → owed_by true left ≡ debt_of size → HasRoom left 1
  has_room size None owes more at = absurd cc
  has_room size (Some zero) owes more at = let e : 1 ≡ 2 * (size % 2) = owes in absurd (omega (arith, e))
  has_room size (Some (suc left)) owes more at = let same : Some (suc left) ≡ Some more = at in let is : suc left ≡ more = cc in omega (arith, is)

  pub rooms_are : (ys : List Written) (order : List ℕ) (groups : List (List (OutputSink O))) → AreCreated (IsWhole told shelf world ticks) ys order groups → HaveRooms told groups
  rooms_are ys order groups are m k group sink there at odd =
      let So = IsWhole told shelf world ticks in
      let zip = are.each m group there in
      let size = zip_size So (of_clock m order ys) group zip in
      let low = within group k sink at in
      let found = in_list (of_clock m order ys) k (omega (arith, size, low)) in
      let is = zip_at So (of_clock m order ys) group k found.0 sink zip found.1 at in
      has_room (body_size world found.0.wide ticks found.0.node) (told sink.sink).room (ap (λ b. owed_by b (told sink.sink).room) (sym odd) ∙ is.owes)

  -- all outputs, as files
  ends_whole : (sinks : List SinkPlan) → map whole_of (ends_in world ticks sinks) ≡ outputs_in world ticks sinks
  ends_whole [] = refl
  ends_whole (Output name node fallible wide ∷ sinks) = ap (λ zs. (record { name = name; bytes = file_bytes world wide ticks node }) ∷ zs) (ends_whole sinks)
  ends_whole (Feed buffer node ∷ sinks) = ends_whole sinks

  pub bodies_held : (files : Files) → shelf.files ≡ Some files → (sinks : List SinkPlan) (order : List ℕ) (groups : List (List (OutputSink O))) → AreCreated (IsWhole told shelf world ticks) (written sinks) order groups
      → AreCreated (HoldsBody told) (ends_in world ticks sinks) order groups
  bodies_held files at sinks order groups are =
      subst (λ ys. AreCreated (HoldsBody told) ys order groups) (sym (ends_are world ticks sinks))
      (created_mapped (end_of world ticks) (HoldsBody told) (written sinks) order groups
      (created_as (IsWhole told shelf world ticks) (λ output sink. HoldsBody told (end_of world ticks output) sink) (body_held (inl (ap is_some at))) (written sinks) order groups are))

-- where all went well, the sinks have room for what they owe
pub rooms_if : {T E O : Type 0} (told : O → SinkTold) (groups : List (List (OutputSink O))) (r : Result T E) → is_ok r ≡ true → OnOk r (HaveRooms told groups) → HaveRooms told groups
rooms_if told groups (Ok x) is rooms = rooms
rooms_if told groups (Err e) is rooms = absurd (true≢false (sym is))

-- the names of outputs, and of what was written of them
fronts_named : (setting : Setting) (ticks : ℕ) (made tried : ℕ → ℕ) (outputs : List Written) → map (λ (output : Written). output.name) outputs ≡ map (λ (output : OutputPart). output.name) (map (front_file setting ticks made tried) outputs)
fronts_named setting ticks made tried [] = refl
fronts_named setting ticks made tried (output ∷ outputs) = ap (λ ns. output.name ∷ ns) (fronts_named setting ticks made tried outputs)

module _ {O : Type 0} (told : O → SinkTold) (station : Station) (first old new : ShelfTold) (same : OnlyCreates first old) (order : List ℕ) (groups : List (List (OutputSink O))) where
  -- the sinks have room for what they owe
  pub rooms_of : {E : Type 0} (wrote : Result Rendered E) → IfOk wrote (RanWhole told first station order groups) → OnOk wrote (HaveRooms told groups)
  rooms_of (Ok rendered) whole = rooms_are told first (setting_of_run station whole.run) station.ticks (written station.plan.sinks) order groups whole.whole
  rooms_of (Err fault) whole = tt

  -- all outputs were created, and closed without a fault
  pub all_written : station.ticks + 2 < 2 ^ 64 → (rendered : Rendered) → RanWhole told first station order groups rendered
      → ForSome old.files (λ files. (outputs : List OutputPart) → AreCreated (HoldsBody told) outputs order groups → new.files ≡ Some (with_outputs files (map whole_of outputs)))
      → ((closings : List Closing) → AreCreated (WillList told old.closed) closings order groups → HaveListed closings old.closed new.closed)
      → WroteOutputs station first new rendered
  all_written few rendered whole closed lists =
      let world : Setting = setting_of_run station whole.run in
      let sinks = station.plan.sinks in
      record {
        run = whole.run;
        lawful = whole.lawful;
        told = whole.tells;
        outputs_written = λ files at.
            closed files (same.files_kept ∙ at) (ends_in world station.ticks sinks) (bodies_held told first world station.ticks files at sinks order groups whole.whole)
            ∙ ap (λ outputs. Some (with_outputs files outputs)) (ends_whole told first world station.ticks sinks);
        listed = subst (λ cs. HaveListed (closings_in world station.ticks sinks) cs new.closed) same.closed_kept
            (lists (closings_in world station.ticks sinks)
            (subst (λ cs. AreCreated (WillList told cs) (closings_in world station.ticks sinks) order groups) (sym same.closed_kept)
            (will_list told first world station.ticks few sinks order groups whole.whole)));
      }

  -- where no other is left, all were created
  all_created : (ran : RanPart told first station order groups old.created) → ran.parts.others ≡ [] → old.created ≡ after_making (names_in station.plan.sinks) first.created
  all_created ran none =
      let name : Written → List ℕ = λ output. output.name in
      let all : ran.parts.created ≡ written station.plan.sinks = sym (append-nil ran.parts.created) ∙ ap (λ (ys : List Written). ran.parts.created ++ ys) (sym none) ∙ sym ran.parts.all in
      ran.parts.made_are ∙ ap (λ (ys : List Written). after_making (map name ys) first.created) all ∙ ap (λ ns. after_making ns first.created) (sym (names_written station.plan.sinks))

  -- a fault came while they were closed
  pub ends_written : (rendered : Rendered) → RanWhole told first station order groups rendered → (ran : RanPart told first station order groups old.created) → ran.parts.others ≡ [] → new.created ≡ old.created
      → ForSome old.files (λ files. (outputs : List OutputPart) → AreCreated (HoldsBody told) outputs order groups → IsSomeAnd new.files (λ now. HoldsEnds old.writes files outputs now new.writes))
      → ForSome first.files (λ files. StoppedBehindTicks station files first new)
  ends_written rendered whole ran none kept closed files at =
      let world : Setting = setting_of_run station whole.run in
      let ends = closed files (same.files_kept ∙ at) (ends_of station whole.run) (bodies_held told first world station.ticks files at station.plan.sinks order groups whole.whole) in
      record {
        run = whole.run;
        lawful = whole.lawful;
        part = some_and new.files (λ now. HoldsEnds old.writes files (ends_of station whole.run) now new.writes) _
            (λ now found. inl (ends_within first.writes old.writes new.writes same.writes_grew files (ends_of station whole.run) now found)) ends;
        more = [];
        created = kept ∙ all_created ran none ∙ ap (λ ns. after_making ns first.created) (sym (append-nil (names_in station.plan.sinks)));
      }

  -- some were created, and all of them closed
  pub some_written : (device : Bool) (ran : RanPart told first station order groups old.created) → ((ran.parts.others ≡ []) ⊎ ((m : ℕ) → ran.begun.made m ≡ 0)) → (device ≡ true → (ran.parts.others ≡ []) ⊎ Rose first.writes old.writes ⊎ Rose old.writes new.writes) → new.created ≡ old.created
      → ((ns : List (List ℕ)) → AreCreated (WillClose told old.closed) ns order groups → HaveClosed 1 ns old.closed new.closed)
      → ForSome old.files (λ files. (outputs : List OutputPart) → AreCreated (HoldsSoMuch told) outputs order groups → IsSomeAnd new.files (λ now. HoldsParts old.writes files outputs now new.writes))
      → ForSome first.files (λ files. StoppedInTicks station device files first new)
  some_written device ran unbegun risen kept closes closed files at = record {
    run = ran.run;
    begun = ran.begun;
    parts = λ rest.
        let world : Setting = setting_with station ran.run rest in
        let made = ran.begun.made in let tried = ran.begun.tried in
        let front : Written → OutputPart = front_file world station.ticks made tried in
        let created = ran.parts.created in
        let are : AreCreated (λ output sink. HoldsSoMuch told (front_file world station.ticks made tried output) sink) created order groups =
        created_as (IsPart told first world station.ticks made tried) (λ output sink. HoldsSoMuch told (front_file world station.ticks made tried output) sink)
        (λ output sink is. is.holds (inl (ap is_some at))) created order groups (ran.parts.parts rest) in
        let parts = closed files (same.files_kept ∙ at) (map (front_file world station.ticks made tried) created) (created_mapped (front_file world station.ticks made tried) (HoldsSoMuch told) created order groups are) in
        some_and new.files (λ now. HoldsParts old.writes files (map (front_file world station.ticks made tried) created) now new.writes)
        (λ now. HoldsSome ((m : ℕ) → ran.begun.made m ≡ 0) device files (parts_with station ran.run ran.begun rest) now first new)
        (λ now found. record {
          created = map (front_file world station.ticks made tried) created;
          others = map (front_file world station.ticks made tried) ran.parts.others;
          unbegun = unbegun_by (front_file world station.ticks made tried) unbegun;
          told = kept ∙ ran.parts.made_are ∙ ap (λ ns. after_making ns first.created) (fronts_named world station.ticks made tried created);
          begun = subst (λ ns. HaveClosed 1 ns first.closed new.closed) (fronts_named world station.ticks made tried created) (created_closed told first old new order refl same.closed_kept ran.parts closes);
          outputs_are = fronts_are world station.ticks made tried station.plan.sinks ∙ ap (map (front_file world station.ticks made tried)) ran.parts.all ∙ map-append (front_file world station.ticks made tried) created ran.parts.others;
          first = old.writes;
          grew = same.writes_grew;
          risen = λ did. by_cause (front_file world station.ticks made tried) (risen did);
          parts = found;
        }) parts;
  }
    where
      unbegun_by : (f : Written → OutputPart) → ((ran.parts.others ≡ []) ⊎ ((m : ℕ) → ran.begun.made m ≡ 0)) → ((map f ran.parts.others ≡ []) ⊎ ((m : ℕ) → ran.begun.made m ≡ 0))
      unbegun_by f (inl none) = inl (ap (map f) none)
      unbegun_by f (inr idle) = inr idle

      by_cause : (f : Written → OutputPart) → (ran.parts.others ≡ []) ⊎ Rose first.writes old.writes ⊎ Rose old.writes new.writes
          → (map f ran.parts.others ≡ []) ⊎ Rose first.writes old.writes ⊎ Rose old.writes new.writes
      by_cause f (inl none) = inl (ap (map f) none)
      by_cause f (inr rose) = inr rose

-- a creation raised the count, or a sink that failed does at its closing
pub with_failed : {none rose later failed : Type 0} → rose ⊎ failed → (failed → later) → none ⊎ rose ⊎ later
with_failed (inl rose) close = inr (inl rose)
with_failed (inr failed) close = inr (inr (close failed))

-- all outputs of a plan are begun, where each holds a part of its bytes
abbrev pub begun_all : {O : Type 0} (told : O → SinkTold) (shelf : ShelfTold) (setting : Setting) (answers : (ℕ → List Answer) → ℕ → List Answer) (ticks : ℕ) (made tried : ℕ → ℕ) (order : List ℕ) (groups : List (List (OutputSink O)))
    (made_now : Option (List (List ℕ))) → made_now ≡ after_making (names_in setting.plan.sinks) shelf.created
    → ((rest : ℕ → List Answer) → AreCreated (IsPart told shelf (answered setting (answers rest)) ticks made tried) (written setting.plan.sinks) order groups) → AreBegun told shelf setting answers ticks made tried order groups made_now
begun_all told shelf setting answers ticks made tried order groups made_now is are = record {
  created = written setting.plan.sinks;
  others = [];
  all = sym (append-nil (written setting.plan.sinks));
  made_are = is ∙ ap (λ ns. after_making ns shelf.created) (names_written setting.plan.sinks);
  parts = are;
}

-- a fault of a sink that failed is one of the shelf, once the sink is closed
pub cause_later : (w0 w1 w2 : ℕ) (failed : Type 0) → w0 ≤ w1 → w1 ≤ w2 → Rose w0 w1 ⊎ failed → (failed → Rose w1 w2) → Rose w0 w2
cause_later w0 w1 w2 failed low high (inl rose) close = rose_within w0 w0 w1 w2 (omega arith) high rose
cause_later w0 w1 w2 failed low high (inr has) close = rose_within w0 w1 w2 w2 low (omega arith) (close has)

-- so is a fault of what was written, or one of a closing
pub cause_of : (w0 w1 w2 : ℕ) (failed wrote : Type 0) → w0 ≤ w1 → w1 ≤ w2 → wrote ⊎ Rose w1 w2 → (wrote → Rose w0 w1 ⊎ failed) → (failed → Rose w1 w2) → Rose w0 w2
cause_of w0 w1 w2 failed wrote low high (inl did) cause close = cause_later w0 w1 w2 failed low high (cause did) close
cause_of w0 w1 w2 failed wrote low high (inr rose) cause close = rose_within w0 w1 w2 w2 low (omega arith) rose
