-- Which sinks were made and closed, by what a shelf tells.
use Rattle.std.proofs.Common.{◌≡◌, ◌<◌, ◌≤◌, ◌+◌, ◌-◌, ◌*◌, ◌%◌, ◌^◌, ◌∙◌, ◌++◌, ℕ, zero, suc, List, [], ◌∷◌, Bool, true, false, length, length-append, map, refl, ap, sym, subst, inr, arith}
use Rattle.std.specs.Prelude.{Option, Some, None, IsSome, is_some, min}
use Rattle.std.specs.Option.{ForSome}
use Rattle.std.proofs.Math.Nat.{mod-lt}
use Rattle.std.proofs.lemmas.Bool.{true≢false}
use Rattle.std.proofs.lemmas.List.{length-replicate}
use Rattle.liq_base.specs.Counts.{one_more_append}
use Rattle.liq_base.specs.Pieces.{HasRoom, SinkTold, TookPiece, grown}
use Rattle.liq_base.specs.Shelves.{Closing, IsFresh, Lists, ShelfTold, closing_of as closing_told, without_faults}
use Rattle.plan_core.specs.declared.sink.SinkPlan.{SinkPlan}
use Rattle.plan_core.specs.declared.sink.SinkPlan.TheVariants.{Output, Feed}
use Rattle.frame_core.specs.Calls.{Answer}
use Rattle.stream_meaning.specs.Instants.{Setting, answered}
use Rattle.stations.specs.Creations.{CreatedFront, HaveClosed, HaveListed, after_making, closing_at_once, closings_in, names_in}
use Rattle.stations.specs.Outputs.{OutputFile}
use Rattle.run_records.specs.Buffers.{main_of as main_clock}
use Rattle.stream_meaning.specs.Sinks.{ticks_bytes}
use Rattle.stations.specs.Streams.{body_size, file_bytes, header_for, output_bytes, zeros_after}
use Rattle.stations.proofs.Lengths.{file_long, header_long}
use Rattle.stations.proofs.Making.{closed_any, none_closed, none_listed, one_closed, one_listed, then_closed, then_listed}
use Rattle.station_render.specs.Listed.{AreTold, EndsAs, HasHeader, IsMeasured, TellsSinks, WillClose, WillList}
use Rattle.station_render.specs.OutputSinks.{HasEnded, MayHaveTaken, has_one, last_byte, owed_by, size_by, size_of}
use Rattle.station_render.specs.Renders.{AreBegun, IsPart, IsWhole, Written, body_of, closing_of, debt_of, front_file, whole_size, written}
use Rattle.station_render.specs.Shelves.{TookAtOnce}
use Rattle.station_render.specs.declared.output_sink.OutputSink.{OutputSink}
use Rattle.station_render.specs.Sinks.{AreCreated, HoldsWhole, WasTaken}
use Rattle.station_render.proofs.Creating.{created_as, created_mapped, names_written}
use Rattle.station_render.proofs.Dealing.{first_so, others_so}
use Rattle.station_render.proofs.Measures.{fresh_empty, fresh_measured, fresh_named, fresh_told, front_header, moved_header, moved_named, moved_told, took_size, took_told}

-- what a size says of the bytes held and the room left
record IsSized (held : Option (List ℕ)) (left : Option ℕ) (size : ℕ) : Type 0 where
  bytes : List ℕ
  room : ℕ
  holds : held ≡ Some bytes
  leaves : left ≡ Some room
  sums : length bytes + room ≡ size

sized_by : (held : Option (List ℕ)) (left : Option ℕ) (size : ℕ) → size_by held left ≡ Some size → IsSized held left size
sized_by None left size is = absurd (cc)
sized_by (Some held) None size is = absurd (cc)
sized_by (Some held) (Some left) size is = record { bytes = held; room = left; holds = refl; leaves = refl; sums = (let same : Some (length held + left) ≡ Some size = is in cc) }

there_is : {A : Type 0} (told : Option A) → IsSome told → (item : A) × (told ≡ Some item)
there_is None some = absurd (true≢false (sym some))
there_is (Some item) some = (item, refl)

-- the closing of a sink that ends so lists this
pub listed_as : (closing : Closing) (last : SinkTold) (before after : Option (List Closing)) → EndsAs closing last → Lists last before after → HaveListed (closing ∷ []) before after
listed_as closing last before after ends lists =
    let sized = sized_by last.held last.room closing.room ends.size_is in
    let same : Some sized.bytes ≡ Some ends.held = sym sized.holds ∙ ends.holds in
    let held_is : sized.bytes ≡ ends.held = cc in
    let one : Closing = closing_told closing.name sized.bytes sized.room closing.pieces last.faults in
    let whole : without_faults one ≡ closing = λ i. record {
      name = closing.name;
      room = sized.sums i;
      bytes = (ap length held_is ∙ ends.long) i;
      pieces = closing.pieces;
      faults = (sym ends.sound) i;
    } in
    one_listed closing one before after whole (lists closing.name ends.named sized.bytes sized.holds sized.room sized.leaves closing.pieces ends.pieces_are)

-- that of a sink that tells all lists its name
pub closed_as : (least : ℕ) (name : List ℕ) (last : SinkTold) (before after : Option (List Closing)) → ForSome before (λ told. (last.name ≡ Some name) × (AreTold least last × (0 < least → HasHeader last))) → Lists last before after
    → HaveClosed least (name ∷ []) before after
closed_as least name last before after tells lists told at =
    let is = tells told at in
    let all = is.1.0 in
    let size = there_is (size_of last) all.size_told in
    let sized = sized_by last.held last.room size.0 size.1 in
    one_closed (closing_told name sized.bytes sized.room all.pieces last.faults) before after all.enough (λ more none. is.1.1 more none sized.bytes sized.holds)
    (lists name is.0 sized.bytes sized.holds sized.room sized.leaves all.pieces all.pieces_are) told at

-- the first sink was closed, and then the others
pub closed_then : {O : Type 0} (told : O → SinkTold) (order rest : List ℕ) (clock : ℕ) (split : order ≡ clock ∷ rest) (old new : List (List (OutputSink O))) (sink : OutputSink O) (taken : WasTaken clock old sink new)
    (last : SinkTold) → MayHaveTaken (told sink.sink) last → (before between after : Option (List Closing)) → Lists last before between
    → ((ns : List (List ℕ)) → AreCreated (WillClose told between) ns rest new → HaveClosed 1 ns between after)
    → (ns : List (List ℕ)) → AreCreated (WillClose told before) ns order old → HaveClosed 1 ns before after
closed_then told order rest clock split old new sink taken last moved before between after lists others [] are said at = (let size = are.size in let long = ap length split in absurd (omega (arith, size, long)))
closed_then told order rest clock split old new sink taken last moved before between after lists others (n ∷ ns) are said at =
    let So = WillClose told before in
    let these : AreCreated (WillClose told before) (n ∷ ns) (clock ∷ rest) old = subst (λ o. AreCreated (WillClose told before) (n ∷ ns) o old) split are in
    let first = (first_so So clock rest old new sink taken n ns these).0 in
    let left : AreCreated (WillClose told between) ns rest new =
    created_as So (WillClose told between) (λ y x is more there. is said at) ns rest new (others_so So clock rest old new sink taken n ns these) in
    then_closed (n ∷ []) ns before between after
    (closed_as 1 n last before between (λ more there. let was = first more there in (moved_named (told sink.sink) last moved ∙ was.0, (moved_told (told sink.sink) last moved was.1.0, λ low. moved_header (told sink.sink) last moved was.1.1))) lists)
    (others ns left) said at

-- no sink was there
pub closed_none : {Y S : Type 0} (So : Y → S → Type 0) (order : List ℕ) (groups : List (List S)) → length order ≡ 0 → (ys : List Y) → AreCreated So ys order groups → ys ≡ []
closed_none So order groups none [] are = refl
closed_none So order groups none (y ∷ ys) are = (let size = are.size in absurd (omega (arith, size, none)))

pub names_none : {O : Type 0} (told : O → SinkTold) (order : List ℕ) (groups : List (List (OutputSink O))) → length order ≡ 0 → (before : Option (List Closing)) (ns : List (List ℕ))
    → AreCreated (WillClose told before) ns order groups → HaveClosed 1 ns before before
names_none told order groups none before ns are = subst (λ xs. HaveClosed 1 xs before before) (sym (closed_none (WillClose told before) order groups none ns are)) (none_closed before before refl)

pub closings_none : {O : Type 0} (told : O → SinkTold) (order : List ℕ) (groups : List (List (OutputSink O))) → length order ≡ 0 → (before : Option (List Closing)) (closings : List Closing)
    → AreCreated (WillList told before) closings order groups → HaveListed closings before before
closings_none told order groups none before closings are = subst (λ xs. HaveListed xs before before) (sym (closed_none (WillList told before) order groups none closings are)) (none_listed before before refl)

-- the first sink got the byte that it owed and was closed, and then the others were
pub listed_then : {O : Type 0} (told : O → SinkTold) (order rest : List ℕ) (clock : ℕ) (split : order ≡ clock ∷ rest) (old new : List (List (OutputSink O))) (sink : OutputSink O) (taken : WasTaken clock old sink new)
    (last : SinkTold) → HasEnded sink.odd (told sink.sink) last → (before between after : Option (List Closing)) → Lists last before between
    → ((closings : List Closing) → AreCreated (WillList told between) closings rest new → HaveListed closings between after)
    → (closings : List Closing) → AreCreated (WillList told before) closings order old → HaveListed closings before after
listed_then told order rest clock split old new sink taken last ended before between after lists others [] are said at = (let size = are.size in let long = ap length split in absurd (omega (arith, size, long)))
listed_then told order rest clock split old new sink taken last ended before between after lists others (closing ∷ closings) are said at =
    let So = WillList told before in
    let these : AreCreated (WillList told before) (closing ∷ closings) (clock ∷ rest) old = subst (λ o. AreCreated (WillList told before) (closing ∷ closings) o old) split are in
    let first = (first_so So clock rest old new sink taken closing closings these).0 said at last ended in
    let left : AreCreated (WillList told between) closings rest new =
    created_as So (WillList told between) (λ y x is more there. is said at) closings rest new (others_so So clock rest old new sink taken closing closings these) in
    then_listed (closing ∷ []) closings before between after (listed_as closing last before between first lists) (others closings left) said at

-- such a sink holds its header
front_long : (world : Setting) (ticks : ℕ) (made tried : ℕ → ℕ) (output : Written) → 44 ≤ length (front_file world ticks made tried output).least
front_long world ticks made tried output =
    let header = header_for world output.wide ticks output.node in
    let sums = length-append header (ticks_bytes world output.wide output.node (made (main_clock world output.node))) in
    let long = header_long world output.wide ticks output.node in
    omega (arith, sums, long)

will_close : {O : Type 0} (told : O → SinkTold) (first : ShelfTold) (world : Setting) (ticks : ℕ) (made tried : ℕ → ℕ) (output : Written) (sink : OutputSink O) → IsPart told first world ticks made tried output sink
    → WillClose told first.closed output.name sink
will_close told first world ticks made tried output sink is before at =
    let holds = is.holds (inr (ap is_some at)) in
    (holds.named, (is.measured before at, front_header (front_file world ticks made tried output) (told sink.sink) holds (front_long world ticks made tried output)))

-- the sinks that were made were closed, and had got a piece
pub created_closed : {O : Type 0} {setting : Setting} {answers : (ℕ → List Answer) → ℕ → List Answer} {ticks : ℕ} {made tried : ℕ → ℕ} {order : List ℕ} {groups : List (List (OutputSink O))} {created_now : Option (List (List ℕ))}
    (told : O → SinkTold) (first now last : ShelfTold) (order_now : List ℕ) → order_now ≡ order → now.closed ≡ first.closed → (begun : AreBegun told first setting answers ticks made tried order groups created_now)
    → ((ns : List (List ℕ)) → AreCreated (WillClose told now.closed) ns order_now groups → HaveClosed 1 ns now.closed last.closed) → HaveClosed 1 (map (λ (output : Written). output.name) begun.created) first.closed last.closed
created_closed {setting = setting} {answers = answers} {ticks = ticks} {made = made} {tried = tried} {order = order} {groups = groups} told first now last order_now order_is same begun closes =
    let names : List (List ℕ) = map (λ (output : Written). output.name) begun.created in
    subst (λ (z : Option (List Closing) × List ℕ). AreCreated (WillClose told z.0) names z.1 groups → HaveClosed 1 names z.0 last.closed) (λ i. (same i, order_is i)) (closes names)
    (created_mapped (λ (output : Written). output.name) (WillClose told first.closed) begun.created order groups
    (created_as (IsPart told first (answered setting (answers (λ buffer. []))) ticks made tried) (λ output sink. WillClose told first.closed output.name sink)
    (will_close told first (answered setting (answers (λ buffer. []))) ticks made tried) begun.created order groups (begun.parts (λ buffer. []))))

-- they are the first ones
pub front_closed : {O : Type 0} (told : O → SinkTold) (first now last : ShelfTold) (setting : Setting) (answers : (ℕ → List Answer) → ℕ → List Answer) (ticks : ℕ) (made tried : ℕ → ℕ) (order order_now : List ℕ) (groups : List (List (OutputSink O)))
    → order_now ≡ order → now.closed ≡ first.closed → last.created ≡ now.created → AreBegun told first setting answers ticks made tried order groups now.created
    → ((ns : List (List ℕ)) → AreCreated (WillClose told now.closed) ns order_now groups → HaveClosed 1 ns now.closed last.closed) → CreatedFront (names_in setting.plan.sinks) first last
front_closed told first now last setting answers ticks made tried order order_now groups order_is same kept begun closes =
    let names : List (List ℕ) = map (λ (output : Written). output.name) begun.created in
    record {
      made = names;
      others = map (λ (output : Written). output.name) begun.others;
      names_are = names_written setting.plan.sinks ∙ ap (map (λ (output : Written). output.name)) begun.all ∙ map_both begun.created begun.others;
      told = kept ∙ begun.made_are;
      closed = closed_any 1 names first.closed last.closed (created_closed told first now last order_now order_is same begun closes);
    }
  where
    map_both : (xs ys : List Written) → map (λ (output : Written). output.name) (xs ++ ys) ≡ map (λ (output : Written). output.name) xs ++ map (λ (output : Written). output.name) ys
    map_both [] ys = refl
    map_both (x ∷ xs) ys = ap (λ ns. x.name ∷ ns) (map_both xs ys)

-- all outputs were closed, by their names
pub part_closed : {O : Type 0} (told : O → SinkTold) (first : ShelfTold) (world : Setting) (ticks : ℕ) (made tried : ℕ → ℕ) (sinks : List SinkPlan) (order : List ℕ) (groups : List (List (OutputSink O)))
    → AreCreated (IsPart told first world ticks made tried) (written sinks) order groups → AreCreated (WillClose told first.closed) (names_in sinks) order groups
part_closed told first world ticks made tried sinks order groups are =
    subst (λ ns. AreCreated (WillClose told first.closed) ns order groups) (sym (names_written sinks))
    (created_mapped (λ (output : Written). output.name) (WillClose told first.closed) (written sinks) order groups
    (created_as (IsPart told first world ticks made tried) (λ output sink. WillClose told first.closed output.name sink)
    (will_close told first world ticks made tried) (written sinks) order groups are))

-- the closings of the outputs of a plan
closings_are : (setting : Setting) (ticks : ℕ) (sinks : List SinkPlan) → closings_in setting ticks sinks ≡ map (closing_of setting ticks) (written sinks)
closings_are setting ticks [] = refl
closings_are setting ticks (Output name node fallible wide ∷ sinks) = ap (λ cs. closing_of setting ticks (record { name = name; node = node; wide = wide }) ∷ cs) (closings_are setting ticks sinks)
closings_are setting ticks (Feed buffer node ∷ sinks) = closings_are setting ticks sinks

-- what an output owes, by the rest of its size
owes_none : (rest : ℕ) (room : Option ℕ) → owed_by false room ≡ 2 * rest → rest ≡ 0
owes_none rest room owes = let e : 0 ≡ 2 * rest = owes in omega (arith, e)

owes_one : (rest : ℕ) (room : Option ℕ) → rest < 2 → owed_by true room ≡ 2 * rest → (rest ≡ 1) × HasRoom room 1
owes_one rest None low owes = (let e : 2 ≡ 2 * rest = owes in omega (arith, e), λ more at. absurd (cc))
owes_one rest (Some zero) low owes = absurd (let e : 1 ≡ 2 * rest = owes in omega (arith, e))
owes_one rest (Some (suc left)) low owes =
    (let e : 2 ≡ 2 * rest = owes in omega (arith, e), λ more at. let same : suc left ≡ more = (cc) in omega (arith, same))

-- once it got that, its closing lists this
module _ (world : Setting) (ticks : ℕ) (few : ticks + 2 < 2 ^ 64) (output : Written) where
  abbrev size : ℕ
  size = body_size world output.wide ticks output.node

  abbrev body : List ℕ
  body = output_bytes world output.wide ticks output.node

  zeros_long : length (zeros_after size) ≡ size % 2
  zeros_long = length-replicate {A = ℕ} (size % 2) 0

  body_long : length (file_bytes world output.wide ticks output.node) ≡ length body + size % 2
  body_long = let zeros = zeros_long in let both = length-append body (zeros_after size) in omega (arith, zeros, both)

  will_end : (odd : Bool) (sink last : SinkTold) → owed_by odd sink.room ≡ debt_of size → HoldsWhole (body_of world ticks output) sink → IsMeasured (whole_size size) (1 + ticks) sink
      → HasEnded odd sink last → EndsAs (closing_of world ticks output) last
  will_end false sink last owes held is same =
      let none : size % 2 ≡ 0 = owes_none (size % 2) sink.room owes in
      let long = body_long in
      let count : 1 + ticks ≡ suc ticks + size % 2 = omega (arith, none) in
      record {
        named = ap (λ (s : SinkTold). s.name) same ∙ held.named;
        size_is = ap size_of same ∙ is.size_is ∙ ap (λ n. Some n) (sym (file_long world output.wide ticks output.node));
        held = body;
        holds = ap (λ (s : SinkTold). s.held) same ∙ held.holds;
        long = omega (arith, long, none);
        pieces_are = ap (λ (s : SinkTold). s.appends) same ∙ is.pieces_are ∙ ap (λ n. Some n) count;
        sound = refl;
      }
  will_end true sink last owes held is took =
      let one = owes_one (size % 2) sink.room (mod-lt size {m = 2} (omega arith)) owes in
      let rest : size % 2 ≡ 1 = one.0 in
      let long = body_long in
      let more = length-append body (0 ∷ []) in
      let count : min (1 + ticks + 1) (2 ^ 64 - 1) ≡ suc ticks + size % 2 = omega (arith, rest, few) in
      record {
        named = took.name_kept ∙ held.named;
        size_is = took_size (0 ∷ []) sink last one.1 took ∙ is.size_is ∙ ap (λ n. Some n) (sym (file_long world output.wide ticks output.node));
        held = body ++ 0 ∷ [];
        holds = took.held_grew ∙ ap (grown (0 ∷ [])) held.holds;
        long = omega (arith, long, more, rest);
        pieces_are = took.once ∙ ap one_more_append is.pieces_are ∙ ap (λ n. Some n) count;
        sound = refl;
      }

-- after a run that made all ticks, the closings will list these
pub will_list : {O : Type 0} (told : O → SinkTold) (shelf : ShelfTold) (world : Setting) (ticks : ℕ) → ticks + 2 < 2 ^ 64 → (sinks : List SinkPlan) (order : List ℕ) (groups : List (List (OutputSink O)))
    → AreCreated (IsWhole told shelf world ticks) (written sinks) order groups → AreCreated (WillList told shelf.closed) (closings_in world ticks sinks) order groups
will_list told shelf world ticks few sinks order groups whole =
    subst (λ cs. AreCreated (WillList told shelf.closed) cs order groups) (sym (closings_are world ticks sinks))
    (created_mapped (closing_of world ticks) (WillList told shelf.closed) (written sinks) order groups
    (created_as (IsWhole told shelf world ticks) (λ output sink. WillList told shelf.closed (closing_of world ticks output) sink)
    (λ output sink is before at last ended. will_end world ticks few output sink.odd (told sink.sink) last is.owes (is.holds (inr (ap is_some at))) (is.measured before at) ended)
    (written sinks) order groups whole))

-- a file that was written at once
module _ (name : List ℕ) (bytes : List ℕ) (shelf : ShelfTold) (first : SinkTold) (fresh : IsFresh name (length bytes) shelf first) where
  ends_at_once : (text : List ℕ) → text ≡ bytes → (last : SinkTold) → TookAtOnce text first last → TellsSinks shelf → IsMeasured (length bytes) 0 first → EndsAs (closing_at_once (record { name = name; bytes = text })) last
  ends_at_once [] is last same tells measured = record {
    named = ap (λ (s : SinkTold). s.name) same ∙ fresh_named name (length bytes) shelf first fresh tells;
    size_is = ap size_of same ∙ measured.size_is ∙ ap (λ (bs : List ℕ). Some (length bs)) (sym is);
    held = [];
    holds = ap (λ (s : SinkTold). s.held) same ∙ fresh_empty name (length bytes) shelf first fresh tells;
    long = refl;
    pieces_are = ap (λ (s : SinkTold). s.appends) same ∙ measured.pieces_are;
    sound = refl;
  }
  ends_at_once (byte ∷ text) is last took tells measured =
      let whole = byte ∷ text in
      record {
        named = took.name_kept ∙ fresh_named name (length bytes) shelf first fresh tells;
        size_is = took_size whole first last (λ left at. let low : left ≡ length bytes = fresh.roomy left at in let long = ap length is in omega (arith, low, long)) took
            ∙ measured.size_is ∙ ap (λ (bs : List ℕ). Some (length bs)) (sym is);
        held = whole;
        holds = took.held_grew ∙ ap (grown whole) (fresh_empty name (length bytes) shelf first fresh tells);
        long = refl;
        pieces_are = took.once ∙ ap one_more_append measured.pieces_are ∙ refl;
        sound = refl;
      }

  pub listed_at_once : (last : SinkTold) → TookAtOnce bytes first last → (before after : Option (List Closing)) → before ≡ shelf.closed → Lists last before after
      → HaveListed (closing_at_once (record { name = name; bytes = bytes }) ∷ []) shelf.closed after
  listed_at_once last took before after same lists told at =
      let closing = closing_at_once (record { name = name; bytes = bytes }) in
      let ends = ends_at_once bytes refl last took (inr (ap is_some at)) (fresh_measured name (length bytes) shelf first fresh told at) in
      subst (λ cs. HaveListed (closing ∷ []) cs after) same (listed_as closing last before after ends lists) told at
