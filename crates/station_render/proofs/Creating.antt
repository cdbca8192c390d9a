-- Outputs that are created one after another.
use Rattle.std.proofs.Common.{◌≡◌, ◌<◌, ◌≤◌, ◌+◌, ◌-◌, ◌*◌, ◌%◌, ◌∙◌, ◌++◌, ◌⊎◌, ℕ, zero, suc, Bool, List, [], ◌∷◌, length, map, take, drop, slice_get, arith, refl, ap, sym, subst, inl, inr, true, false, nat_eq, append_assoc, add-one, if◌then◌else◌}
use Rattle.std.specs.Prelude.{Option, Some, None, is_some}
use Rattle.std.specs.Option.{ForSome}
use Rattle.std.specs.List.{AllZip}
use Rattle.std.proofs.Math.Nat.{mod-lt}
use Rattle.std.proofs.lemmas.List.{map-append, append-nil}
use Rattle.liq_base.specs.Counts.{one_more_append}
use Rattle.liq_base.specs.Pieces.{HasRoom, SinkTold, TookPiece, TookPart, grown, narrowed}
use Rattle.liq_base.specs.Shelves.{IsFresh, ShelfTold, noted}
use Rattle.plan_core.specs.declared.sink.SinkPlan.{SinkPlan}
use Rattle.plan_core.specs.declared.sink.SinkPlan.TheVariants.{Output, Feed}
use Rattle.clock_infer.specs.declared.clock_map.NodeClock.TheVariants.{Main}
use Rattle.frame_core.specs.Calls.{Answer}
use Rattle.stream_meaning.specs.Instants.{Setting, answered, clock_of}
use Rattle.stream_meaning.specs.Sinks.{ticks_bytes}
use Rattle.run_records.specs.Buffers.{main_of as main_clock}
use Rattle.stations.specs.Creations.{after_making, names_in}
use Rattle.stations.proofs.Making.{names_both, one_more, then_made}
use Rattle.stations.specs.Streams.{body_size, ends_in, file_bytes, front_bytes, header_for, outputs_in, parts_in}
use Rattle.station_render.specs.Listed.{TellsSinks}
use Rattle.station_render.specs.OutputSinks.{but_one, but_one_if, owed_by}
use Rattle.station_render.specs.declared.output_sink.OutputSink.{OutputSink}
use Rattle.station_render.specs.Shelves.{OnlyCreates}
use Rattle.station_render.specs.Sinks.{AreCreated, HasFailed, WasAdded, of_clock}
use Rattle.station_render.specs.Renders.{AreBegun, IsCutShort, IsOpened, IsPart, IsReady, NoneCreated, WasCreated, Written, debt_of, end_of, file_of, front_file, main_of, order_of, whole_size, written}
use Rattle.station_render.proofs.Lists.{got_is, set_here, set_many, many_mapped}
use Rattle.station_render.proofs.Dealing.{one_added}
use Rattle.station_render.proofs.Measures.{fresh_empty, fresh_measured, fresh_named, fresh_told, took_size, took_told}

pub take_more : {A : Type 0} (xs : List A) (k : ℕ) (x : A) → slice_get xs k ≡ Some x → take (suc k) xs ≡ take k xs ++ x ∷ []
take_more [] k x at = absurd (cc)
take_more (y ∷ xs) zero x at = let same : y ≡ x = (cc) in ap (λ z. z ∷ []) same
take_more (y ∷ xs) (suc k) x at = ap (λ zs. y ∷ zs) (take_more xs k x at)

pub take_whole : {A : Type 0} (xs : List A) (k : ℕ) → length xs ≤ k → take k xs ≡ xs
take_whole [] zero low = refl
take_whole [] (suc k) low = refl
take_whole (x ∷ xs) zero low = absurd (omega (arith, low))
take_whole (x ∷ xs) (suc k) low = ap (λ zs. x ∷ zs) (take_whole xs k (omega (arith, low)))

pub taken_and_left : {A : Type 0} (xs : List A) (k : ℕ) → xs ≡ take k xs ++ drop k xs
taken_and_left [] zero = refl
taken_and_left [] (suc k) = refl
taken_and_left (x ∷ xs) zero = refl
taken_and_left (x ∷ xs) (suc k) = ap (λ zs. x ∷ zs) (taken_and_left xs k)

pub written_both : (xs ys : List SinkPlan) → written (xs ++ ys) ≡ written xs ++ written ys
written_both [] ys = refl
written_both (Output name node fallible wide ∷ xs) ys = ap (λ zs. (record { name = name; node = node; wide = wide }) ∷ zs) (written_both xs ys)
written_both (Feed buffer node ∷ xs) ys = written_both xs ys

pub written_more : (sinks : List SinkPlan) (k : ℕ) (name : List ℕ) (node : ℕ) (fallible wide : Bool) → slice_get sinks k ≡ Some (Output name node fallible wide)
    → written (take (suc k) sinks) ≡ written (take k sinks) ++ (record { name = name; node = node; wide = wide }) ∷ []
written_more sinks k name node fallible wide at = ap written (take_more sinks k (Output name node fallible wide) at) ∙ written_both (take k sinks) (Output name node fallible wide ∷ [])

pub written_same : (sinks : List SinkPlan) (k buffer node : ℕ) → slice_get sinks k ≡ Some (Feed buffer node) → written (take (suc k) sinks) ≡ written (take k sinks)
written_same sinks k buffer node at =
    ap written (take_more sinks k (Feed buffer node) at) ∙ written_both (take k sinks) (Feed buffer node ∷ []) ∙ append-nil (written (take k sinks))

pub files_are : (setting : Setting) (ticks : ℕ) (sinks : List SinkPlan) → outputs_in setting ticks sinks ≡ map (file_of setting ticks) (written sinks)
files_are setting ticks [] = refl
files_are setting ticks (Output name node fallible wide ∷ sinks) = ap (λ zs. (record { name = name; bytes = file_bytes setting wide ticks node }) ∷ zs) (files_are setting ticks sinks)
files_are setting ticks (Feed buffer node ∷ sinks) = files_are setting ticks sinks

pub fronts_are : (setting : Setting) (ticks : ℕ) (made tried : ℕ → ℕ) (sinks : List SinkPlan) → parts_in setting ticks made tried sinks ≡ map (front_file setting ticks made tried) (written sinks)
fronts_are setting ticks made tried [] = refl
fronts_are setting ticks made tried (Output name node fallible wide ∷ sinks) = ap (λ zs. front_file setting ticks made tried (record { name = name; node = node; wide = wide }) ∷ zs) (fronts_are setting ticks made tried sinks)
fronts_are setting ticks made tried (Feed buffer node ∷ sinks) = fronts_are setting ticks made tried sinks

pub ends_are : (setting : Setting) (ticks : ℕ) (sinks : List SinkPlan) → ends_in setting ticks sinks ≡ map (end_of setting ticks) (written sinks)
ends_are setting ticks [] = refl
ends_are setting ticks (Output name node fallible wide ∷ sinks) = ap (λ zs. end_of setting ticks (record { name = name; node = node; wide = wide }) ∷ zs) (ends_are setting ticks sinks)
ends_are setting ticks (Feed buffer node ∷ sinks) = ends_are setting ticks sinks

-- the names of outputs
pub names_written : (sinks : List SinkPlan) → names_in sinks ≡ map (λ (output : Written). output.name) (written sinks)
names_written [] = refl
names_written (Output name node fallible wide ∷ sinks) = ap (λ ns. name ∷ ns) (names_written sinks)
names_written (Feed buffer node ∷ sinks) = names_written sinks

zip_as : {Y S : Type 0} (So Other : Y → S → Type 0) → ((y : Y) (x : S) → So y x → Other y x) → (ys : List Y) (xs : List S) → AllZip So ys xs → AllZip Other ys xs
zip_as So Other f [] [] z = tt
zip_as So Other f [] (x ∷ xs) z = absurd z
zip_as So Other f (y ∷ ys) [] z = absurd z
zip_as So Other f (y ∷ ys) (x ∷ xs) z = (f y x z.0, zip_as So Other f ys xs z.1)

pub created_as : {Y S : Type 0} (So Other : Y → S → Type 0) → ((y : Y) (x : S) → So y x → Other y x) → (ys : List Y) (order : List ℕ) (groups : List (List S))
    → AreCreated So ys order groups → AreCreated Other ys order groups
created_as So Other f ys order groups are = record {
  size = are.size;
  below = are.below;
  each = λ m group at. zip_as So Other f (of_clock m order ys) group (are.each m group at);
}

pub dealt_mapped : {Y Z : Type 0} (f : Y → Z) (m : ℕ) (order : List ℕ) (ys : List Y) → of_clock m order (map f ys) ≡ map f (of_clock m order ys)
dealt_mapped f m [] ys = refl
dealt_mapped f m (c ∷ order) [] = refl
dealt_mapped f m (c ∷ order) (y ∷ ys) = by_test (nat_eq c m) (dealt_mapped f m order ys)
  where
    by_test : (b : Bool) → of_clock m order (map f ys) ≡ map f (of_clock m order ys)
        → (if b then f y ∷ of_clock m order (map f ys) else of_clock m order (map f ys)) ≡ map f (if b then y ∷ of_clock m order ys else of_clock m order ys)
    by_test true rest = ap (λ zs. f y ∷ zs) rest
    by_test false rest = rest

zip_mapped : {Y Z S : Type 0} (f : Y → Z) (So : Z → S → Type 0) (ys : List Y) (xs : List S) → AllZip (λ y x. So (f y) x) ys xs → AllZip So (map f ys) xs
zip_mapped f So [] [] z = tt
zip_mapped f So [] (x ∷ xs) z = absurd z
zip_mapped f So (y ∷ ys) [] z = absurd z
zip_mapped f So (y ∷ ys) (x ∷ xs) z = (z.0, zip_mapped f So ys xs z.1)

-- sinks of outputs are sinks of their files
pub created_mapped : {Y Z S : Type 0} (f : Y → Z) (So : Z → S → Type 0) (ys : List Y) (order : List ℕ) (groups : List (List S))
    → AreCreated (λ y x. So (f y) x) ys order groups → AreCreated So (map f ys) order groups
created_mapped f So ys order groups are = record {
  size = many_mapped f ys ∙ are.size;
  below = are.below;
  each = λ m group at. subst (λ zs. AllZip So zs group) (sym (dealt_mapped f m order ys)) (zip_mapped f So (of_clock m order ys) group (are.each m group at));
}

-- the room after the header, where a byte is kept back behind an odd body
module _ (header body : ℕ) (odd : Bool) (odd_is : odd ≡ nat_eq (body % 2) 1) where
  room_by : (r : ℕ) (b : Bool) → b ≡ nat_eq r 1 → r < 2 → (before after : Option ℕ) → ForSome before (λ told. told ≡ header + body + r) → after ≡ narrowed header before → HasRoom (but_one_if b after) body × (owed_by b after ≡ 2 * r)
  room_by zero false is low None after told fell = ((λ left at. absurd (let none : None ≡ Some left = sym fell ∙ at in cc)), refl)
  room_by zero false is low (Some before) after told fell = (
    (λ left at.
        let same : Some (before - header) ≡ Some left = sym fell ∙ at in
        let left_is : before - header ≡ left = cc in
        let whole : before ≡ header + body + 0 = told before refl in
        omega (arith, left_is, whole)),
    refl,
  )
  room_by zero true is low before after told fell = absurd cc
  room_by (suc zero) false is low before after told fell = absurd cc
  room_by (suc zero) true is low None after told fell = (subst (λ a. HasRoom (but_one a) body) (sym fell) (λ left at. absurd cc), ap (λ a. owed_by true a) fell)
  room_by (suc zero) true is low (Some before) after told fell =
      let whole : before ≡ header + body + 1 = told before refl in
      let least : before - header ≡ suc body = omega (arith, whole) in
      let is_after : after ≡ Some (suc body) = fell ∙ ap (λ n. Some n) least in
      (subst (λ a. HasRoom (but_one a) body) (sym is_after) (λ left at. let same : Some (suc body - 1) ≡ Some left = at in let left_is : suc body - 1 ≡ left = cc in omega (arith, left_is)), ap (λ a. owed_by true a) is_after)
  room_by (suc (suc r)) b is low before after told fell = absurd (omega (arith, low))

  pub room_left : (before after : Option ℕ) → ForSome before (λ told. told ≡ header + body + body % 2) → after ≡ narrowed header before → HasRoom (but_one_if odd after) body
  room_left before after told fell = let low = mod-lt body {m = 2} (omega arith) in (room_by (body % 2) odd odd_is low before after told fell).0

  pub owed_left : (before after : Option ℕ) → ForSome before (λ told. told ≡ header + body + body % 2) → after ≡ narrowed header before → owed_by odd after ≡ debt_of body
  owed_left before after told fell = let low = mod-lt body {m = 2} (omega arith) in (room_by (body % 2) odd odd_is low before after told fell).1

-- a shelf that only creates sinks tells its files and closings still
module _ (first now : ShelfTold) (same : OnlyCreates first now) where
  pub tells_now : TellsSinks first → TellsSinks now
  tells_now (inl files) = inl (ap is_some same.files_kept ∙ files)
  tells_now (inr closed) = inr (ap is_some same.closed_kept ∙ closed)

module _ {O : Type 0} (told : O → SinkTold) where
  -- a new sink that took its header whole, or a part of it
  pub is_opened : (shelf : ShelfTold) (name bytes : List ℕ) (body : ℕ) → length bytes ≡ 44 → (first : SinkTold) (sink : OutputSink O) → sink.odd ≡ nat_eq (body % 2) 1
      → IsFresh name (44 + body + body % 2) shelf first → TookPiece bytes first (told sink.sink) → IsOpened told shelf name bytes body sink
  is_opened shelf name bytes body long first sink odd fresh took =
      let fell : (told sink.sink).room ≡ narrowed 44 first.room = took.room_fell ∙ ap (λ n. narrowed n first.room) long in
      record {
        holds = λ tells. record {
          named = took.name_kept ∙ fresh_named name (44 + body + body % 2) shelf first fresh tells;
          holds = took.held_grew ∙ ap (grown bytes) (fresh_empty name (44 + body + body % 2) shelf first fresh tells);
        };
        measured = λ before at.
            let is = fresh_measured name (44 + body + body % 2) shelf first fresh before at in
            record {
              size_is = took_size bytes first (told sink.sink) (λ left there. let low : left ≡ 44 + body + body % 2 = fresh.roomy left there in omega (arith, low, long)) took ∙ is.size_is;
              pieces_are = took.once ∙ ap one_more_append is.pieces_are;
            };
        room = room_left 44 body sink.odd odd first.room (told sink.sink).room fresh.roomy fell;
        owes = owed_left 44 body sink.odd odd first.room (told sink.sink).room fresh.roomy fell;
      }

  pub is_cut_short : (shelf : ShelfTold) (name bytes : List ℕ) (room : ℕ) (first : SinkTold) (sink : OutputSink O)
      → IsFresh name room shelf first → TookPart bytes first (told sink.sink) → IsCutShort told shelf name bytes sink
  is_cut_short shelf name bytes room first sink fresh part = record {
    holds = λ tells. record {
      named = part.took.name_kept ∙ fresh_named name room shelf first fresh tells;
      part = part.taken;
      holds = part.took.held_grew ∙ ap (grown part.taken) (fresh_empty name room shelf first fresh tells);
      front = part.is_front;
    };
    measured = λ before at. took_told part.taken first (told sink.sink) part.took 0 (fresh_told name room shelf first fresh before at);
    failed = (let rose = part.rose in omega (arith, rose));
  }

  -- it was added
  pub was_created : (Is : OutputSink O → Type 0) (clock : ℕ) (name : List ℕ) (before after : Option (List (List ℕ))) (sink : OutputSink O) (order order_new : List ℕ) (old between new : List (List (OutputSink O)))
      → after ≡ noted name before → order_new ≡ order ++ clock ∷ [] → between ≡ old → WasAdded clock sink between new → Is sink → WasCreated Is clock name before after order order_new old new
  was_created Is clock name before after sink order order_new old between new made more same added is = record {
    sink = sink;
    order_is = more;
    added = subst (λ gs. WasAdded clock sink gs new) same added;
    made_is = made ∙ one_more name before;
    is = is;
  }

  module _ (shelf : ShelfTold) (setting : Setting) (ticks : ℕ) where
    -- the header is what an output has before any tick, whatever buffers answer
    pub part_of_ready : (made tried : ℕ → ℕ) → ((k : ℕ) → made k ≡ 0) → (answers : ℕ → List Answer) (output : Written) (sink : OutputSink O) → IsReady told shelf setting ticks output sink
        → IsPart told shelf (answered setting answers) ticks made tried output sink
    part_of_ready made tried none answers output sink ready =
        let world : Setting = answered setting answers in let m = main_clock world output.node in let header = header_for setting output.wide ticks output.node in
        record {
          holds = λ tells. record {
            named = (ready.holds tells).named;
            part = header;
            holds = (ready.holds tells).holds;
            most = record { rest = ticks_bytes world output.wide output.node (tried m); whole_is = refl };
            least = inl (record { rest = []; whole_is = sym (append-nil (header ++ ticks_bytes world output.wide output.node (made m)) ∙ ap (λ n. header ++ ticks_bytes world output.wide output.node n) (none m) ∙ append-nil header) });
          };
          measured = λ before at. let is = ready.measured before at in record { size_told = ap is_some is.size_is; pieces = 1; pieces_are = is.pieces_are; enough = omega arith };
        }

    -- an output that was opened by the shelf as it is now
    pub opened_ready : (now : ShelfTold) → OnlyCreates shelf now → (output : Written) (name bytes : List ℕ) (body : ℕ) (sink : OutputSink O) → name ≡ output.name → bytes ≡ header_for setting output.wide ticks output.node
        → body ≡ body_size setting output.wide ticks output.node → IsOpened told now name bytes body sink → IsReady told shelf setting ticks output sink
    opened_ready now same output name bytes body sink name_is header_is body_is opened = record {
      holds = λ tells. let held = opened.holds (tells_now shelf now same tells) in record { named = held.named ∙ ap (λ n. Some n) name_is; holds = held.holds ∙ ap (λ h. Some h) header_is };
      measured = λ before at.
          let is = opened.measured before (same.closed_kept ∙ at) in record { size_is = is.size_is ∙ ap (λ n. Some (whole_size n)) body_is; pieces_are = is.pieces_are };
      room = subst (λ n. HasRoom (but_one_if sink.odd (told sink.sink).room) n) body_is opened.room;
      owes = opened.owes ∙ ap debt_of body_is;
    }

    -- or one whose header broke off
    short_part : (made tried : ℕ → ℕ) (answers : ℕ → List Answer) (now : ShelfTold) → OnlyCreates shelf now → (output : Written) (name bytes : List ℕ) (sink : OutputSink O) → name ≡ output.name
        → bytes ≡ header_for setting output.wide ticks output.node → IsCutShort told now name bytes sink → IsPart told shelf (answered setting answers) ticks made tried output sink
    short_part made tried answers now same output name bytes sink name_is header_is short =
        let world : Setting = answered setting answers in let n = tried (main_clock world output.node) in
        record {
          holds = λ tells.
              let held = short.holds (tells_now shelf now same tells) in
              let whole : front_bytes world output.wide ticks n output.node ≡ bytes ++ ticks_bytes world output.wide output.node n = ap (λ h. h ++ ticks_bytes world output.wide output.node n) (sym header_is) in
              record {
                named = held.named ∙ ap (λ m. Some m) name_is;
                part = held.part;
                holds = held.holds;
                most = record {
                  rest = held.front.rest ++ ticks_bytes world output.wide output.node n;
                  whole_is = whole ∙ ap (λ h. h ++ ticks_bytes world output.wide output.node n) held.front.whole_is ∙ append_assoc held.part held.front.rest (ticks_bytes world output.wide output.node n);
                };
                least = inr short.failed;
              };
          measured = λ before at. short.measured before (same.closed_kept ∙ at);
        }

    -- what is begun, where the first sinks were gone through
    module _ (answers : (ℕ → List Answer) → ℕ → List Answer) (made tried : ℕ → ℕ) (none : (k : ℕ) → made k ≡ 0) where
      Ready : Written → OutputSink O → Type 0
      Ready = IsReady told shelf setting ticks

      pub begun_here : (k : ℕ) (order : List ℕ) (groups : List (List (OutputSink O))) (made_now : Option (List (List ℕ))) → made_now ≡ after_making (names_in (take k setting.plan.sinks)) shelf.created
          → AreCreated (IsReady told shelf setting ticks) (written (take k setting.plan.sinks)) order groups
          → AreBegun told shelf setting answers ticks made tried order groups made_now
      begun_here k order groups made_now is are = record {
        created = written (take k setting.plan.sinks);
        others = written (drop k setting.plan.sinks);
        all = ap written (taken_and_left setting.plan.sinks k) ∙ written_both (take k setting.plan.sinks) (drop k setting.plan.sinks);
        made_are = is ∙ ap (λ ns. after_making ns shelf.created) (names_written (take k setting.plan.sinks));
        parts = λ rest. created_as (IsReady told shelf setting ticks) (IsPart told shelf (answered setting (answers rest)) ticks made tried) (part_of_ready made tried none (answers rest))
            (written (take k setting.plan.sinks)) order groups are;
      }

      -- after a creation that broke off
      pub begun_broken : (k : ℕ) (name said : List ℕ) (node : ℕ) (fallible wide : Bool) (clock : ℕ) (header : List ℕ) (order order_new : List ℕ) (old new : List (List (OutputSink O))) → clock < length old
          → slice_get setting.plan.sinks k ≡ Some (Output name node fallible wide) → said ≡ name → header ≡ header_for setting wide ticks node
          → AreCreated (IsReady told shelf setting ticks) (written (take k setting.plan.sinks)) order old
          → (now : ShelfTold) → OnlyCreates shelf now → (made_now : Option (List (List ℕ))) → now.created ≡ after_making (names_in (take k setting.plan.sinks)) shelf.created
          → NoneCreated now.created made_now order order_new old new ⊎ WasCreated (IsCutShort told now said header) clock said now.created made_now order order_new old new
          → AreBegun told shelf setting answers ticks made tried order_new new made_now
      begun_broken k name said node fallible wide clock header order order_new old new low at said_is header_is are now same made_now so_far (inl none_made) =
          subst (λ (z : List ℕ × List (List (OutputSink O))). AreBegun told shelf setting answers ticks made tried z.0 z.1 made_now) (λ i. (sym none_made.order_is i, sym none_made.same i))
          (begun_here k order old made_now (none_made.made_none ∙ so_far) are)
      begun_broken k name said node fallible wide clock header order order_new old new low at said_is header_is are now same made_now so_far (inr short) =
          let output : Written = record { name = name; node = node; wide = wide } in
          record {
            created = written (take (suc k) setting.plan.sinks);
            others = written (drop (suc k) setting.plan.sinks);
            all = ap written (taken_and_left setting.plan.sinks (suc k)) ∙ written_both (take (suc k) setting.plan.sinks) (drop (suc k) setting.plan.sinks);
            made_are = then_made (names_in (take k setting.plan.sinks)) (said ∷ []) shelf.created now.created made_now so_far short.made_is
                ∙ ap (λ n. after_making (names_in (take k setting.plan.sinks) ++ n ∷ []) shelf.created) said_is
                ∙ ap (λ ns. after_making ns shelf.created) (sym (ap names_in (take_more setting.plan.sinks k (Output name node fallible wide) at) ∙ names_both (take k setting.plan.sinks) (Output name node fallible wide ∷ []))
                ∙ names_written (take (suc k) setting.plan.sinks));
            parts = λ rest.
                let Part = IsPart told shelf (answered setting (answers rest)) ticks made tried in
                subst (λ (z : List Written × List ℕ). AreCreated (IsPart told shelf (answered setting (answers rest)) ticks made tried) z.0 z.1 new)
                (λ i. (sym (written_more setting.plan.sinks k name node fallible wide at) i, sym short.order_is i))
                (one_added Part (written (take k setting.plan.sinks)) order old new output clock short.sink low
                (created_as (IsReady told shelf setting ticks) Part (part_of_ready made tried none (answers rest)) (written (take k setting.plan.sinks)) order old are)
                (short_part made tried (answers rest) now same output said header short.sink said_is header_is short.is) short.added);
          }

pub written_next : (sinks : List SinkPlan) (k : ℕ) (name : List ℕ) (node : ℕ) (fallible wide : Bool) → slice_get sinks k ≡ Some (Output name node fallible wide)
    → written (take (k + 1) sinks) ≡ written (take k sinks) ++ (record { name = name; node = node; wide = wide }) ∷ []
written_next sinks k name node fallible wide at = ap (λ n. written (take n sinks)) (add-one k) ∙ written_more sinks k name node fallible wide at

pub written_still : (sinks : List SinkPlan) (k buffer node : ℕ) → slice_get sinks k ≡ Some (Feed buffer node) → written (take (k + 1) sinks) ≡ written (take k sinks)
written_still sinks k buffer node at = ap (λ n. written (take n sinks)) (add-one k) ∙ written_same sinks k buffer node at

pub created_by : {S : Type 0} {So : Written → S → Type 0} (ys zs : List Written) (order : List ℕ) (groups : List (List S)) → zs ≡ ys → AreCreated So ys order groups → AreCreated So zs order groups
created_by {S} {So} ys zs order groups same are = subst (λ ws. AreCreated So ws order groups) (sym same) are

-- after one more creation
pub next_ready : {O : Type 0} (told : O → SinkTold) (shelf now : ShelfTold) → OnlyCreates shelf now → (setting : Setting) (ticks k : ℕ) (name said : List ℕ) (node : ℕ) (fallible wide : Bool)
    → slice_get setting.plan.sinks k ≡ Some (Output name node fallible wide) → said ≡ name
    → (clock : ℕ) (header : List ℕ) (body : ℕ) (order order_new : List ℕ) (old new : List (List (OutputSink O))) → clock < length old → header ≡ header_for setting wide ticks node → body ≡ body_size setting wide ticks node
    → AreCreated (IsReady told shelf setting ticks) (written (take k setting.plan.sinks)) order old
    → (before after : Option (List (List ℕ))) → WasCreated (IsOpened told now said header body) clock said before after order order_new old new
    → AreCreated (IsReady told shelf setting ticks) (written (take (k + 1) setting.plan.sinks)) order_new new
next_ready told shelf now same setting ticks k name said node fallible wide at said_is clock header body order order_new old new low header_is body_is are before after was =
    let output : Written = record { name = name; node = node; wide = wide } in
    let Ready = IsReady told shelf setting ticks in
    created_by (written (take k setting.plan.sinks) ++ output ∷ []) (written (take (k + 1) setting.plan.sinks)) order_new new (written_next setting.plan.sinks k name node fallible wide at)
    (subst (λ o. AreCreated (IsReady told shelf setting ticks) (written (take k setting.plan.sinks) ++ output ∷ []) o new) (sym was.order_is)
    (one_added Ready (written (take k setting.plan.sinks)) order old new output clock was.sink low are
    (opened_ready told shelf setting ticks now same output said header body was.sink said_is header_is body_is was.is) was.added))

pub added_many : {S : Type 0} (clock : ℕ) (sink : S) (old new : List (List S)) → WasAdded clock sink old new → length new ≡ length old
added_many clock sink old new added = ap length added.is ∙ set_many old clock (added.before ++ sink ∷ [])

-- the order, with one output more
pub order_more : (setting : Setting) (ys : List Written) (output : Written) (clock : ℕ) (order order_new : List ℕ) → order ≡ order_of setting ys → order_new ≡ order ++ clock ∷ []
    → slice_get setting.clocks output.node ≡ Some (Main clock) → order_new ≡ order_of setting (ys ++ output ∷ [])
order_more setting ys output clock order order_new is more at =
    more ∙ ap (λ o. o ++ clock ∷ []) is ∙ ap (λ c. order_of setting ys ++ c ∷ []) (sym (ap main_of (got_is setting.clocks output.node (Main clock) (Main 0) at)))
    ∙ sym (map-append (λ (output : Written). main_of (clock_of setting output.node)) ys (output ∷ []))

at_last : {A : Type 0} (xs : List A) (x : A) → slice_get (xs ++ x ∷ []) (length xs) ≡ Some x
at_last [] x = refl
at_last (y ∷ xs) x = at_last xs x

-- a sink that failed and was added
pub added_failed : {S : Type 0} (told : S → SinkTold) (clock : ℕ) (sink : S) (old new : List (List S)) → clock < length old → WasAdded clock sink old new → 0 < (told sink).faults → HasFailed told new
added_failed told clock sink old new low added failed = record {
  clock = clock;
  place = length added.before;
  group = added.before ++ sink ∷ [];
  sink = sink;
  there = ap (λ gs. slice_get gs clock) added.is ∙ set_here old clock (added.before ++ sink ∷ []) low;
  stands = at_last added.before sink;
  failed = failed;
}

-- sinks were only created
pub creates_then : (first between last : ShelfTold) → OnlyCreates first between → OnlyCreates between last → OnlyCreates first last
creates_then first between last one more = record {
  files_kept = more.files_kept ∙ one.files_kept;
  closed_kept = more.closed_kept ∙ one.closed_kept;
  reads_grew = (let a = one.reads_grew in let b = more.reads_grew in omega (arith, a, b));
  writes_grew = (let a = one.writes_grew in let b = more.writes_grew in omega (arith, a, b));
}
