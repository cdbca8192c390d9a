-- What the outputs and feeds of a clock hear, one segment at a time.
use Rattle.std.proofs.Common.{◌≡◌, ◌<◌, ◌≤◌, ◌+◌, ◌∙◌, ◌++◌, ℕ, zero, suc, All, drop, Some, None, Bool, true, false, List, [], ◌∷◌, length, get_or, map, slice_get, take, append_assoc, append-nil, arith, refl, ap, sym, subst, inl, inr}
use Rattle.std.specs.List.{range_with_len}
use Rattle.std.proofs.lemmas.Bool.{cases_lt}
use Rattle.std.proofs.lemmas.Option.{slice_get_within, slice_get-get_or}
use Rattle.std.proofs.lemmas.List.{get_or-map, length-append, length-map}
use Rattle.std.proofs.Math.Nat.{mul-le-mul_right, suc-mul}
use Rattle.liq_base.specs.declared.memory.Kind.{Kind}
use Rattle.liq_base.specs.declared.memory.Kind.TheVariants.{Mono, Stereo}
use Rattle.clock_infer.specs.declared.clock_map.NodeClock.{NodeClock}
use Rattle.frame_core.specs.declared.cell.Cell.{Cell}
use Rattle.frame_core.specs.Slots.{Slot}
use Rattle.frame_core.specs.Calls.{Call, Answer}
use Rattle.stream_meaning.specs.Arithmetic.{cells_of}
use Rattle.stream_meaning.specs.Instants.{Setting, first_instants, part_at}
use Rattle.stream_meaning.specs.Calls.{HasAnswers, IsBegin, after_calls, calls_of, joined_upto}
use Rattle.stream_meaning.proofs.Answering.{after_calls-none, after_calls-then, answers_first, answers_then, begin_all, begin_joined, begin_none, joined_same}
use Rattle.stream_meaning.specs.Sinks.{block_length, slot_block}
use Rattle.clock_outputs.specs.declared.port.Port.{Port}
use Rattle.clock_outputs.specs.declared.feed.FeedPort.{FeedPort}
use Rattle.clock_outputs.specs.Feeds.{AllHaveFeedRoom, HasFeedRoom, fed, unfed}
use Rattle.clock_outputs.proofs.Fed.{cells_of-append}
use Rattle.clock_outputs.proofs.Gives.{adds_more, adds_nothing}
use Rattle.clock_outputs.specs.Ports.{AllHaveRoomLeft, HasRoomLeft, after_slot, after_slots, emptied}
use Rattle.clock_nodes.specs.declared.scene.Scene.{Scene}
use Rattle.clock_nodes.specs.Scenes.{setting_over}
use Rattle.nested_instants.specs.declared.clock_states.ClockStates.{ClockStates}
use Rattle.clock_ticks.specs.declared.clock_state.ClockState.{ClockState}
use Rattle.clock_ticks.specs.Standing.{ClockStateStands}
use Rattle.clock_ticks.specs.declared.cues.CueList.{CueList}
use Rattle.clock_ticks.specs.declared.cues.Cues.{Cues}
use Rattle.clock_ticks.specs.Cues.{HasGrown, HasKept, HasMarked, marks_if}
use Rattle.clock_ticks.proofs.Cueing.{marked_more, marked_some, marks_more, marks_none}
use Rattle.clock_ticks.proofs.Numbered.{got_mapped}
use Rattle.clock_ticks.specs.Hearings.{HasMadeInstants, Heard, HeardSome, IsMeant, Hearing, SegmentBroken, SegmentMade, calls_from, feed_key, outcome, segment_of, slot_in, tapped}

pub after_slots-append : (port : Port) (slots more : List Slot) → after_slots port (slots ++ more) ≡ after_slots (after_slots port slots) more
after_slots-append port [] more = refl
after_slots-append port (first ∷ slots) more = after_slots-append (after_slot port first) slots more

pub after_slots-node : (port : Port) (slots : List Slot) → (after_slots port slots).node ≡ port.node
after_slots-node port [] = refl
after_slots-node port (first ∷ slots) = after_slots-node (after_slot port first) slots

-- the slots that were heard before, and those of the latest segment
abbrev pub more_slots : (ℕ → List Slot) → ClockStates → (many i : ℕ) → List Slot
more_slots slots all many i = slots i ++ segment_of all many i

heard_one : (slots : ℕ → List Slot) (all : ClockStates) (many : ℕ) (port : Port)
    → after_slots (after_slots (emptied port) (slots port.node)) (segment_of all many (after_slots (emptied port) (slots port.node)).node)
    ≡ after_slots (emptied port) (more_slots slots all many port.node)
heard_one slots all many port =
    ap (λ i. after_slots (after_slots (emptied port) (slots port.node)) (segment_of all many i)) (after_slots-node (emptied port) (slots port.node))
    ∙ sym (after_slots-append (emptied port) (slots port.node) (segment_of all many port.node))

heard_all : (slots : ℕ → List Slot) (all : ClockStates) (many : ℕ) (first : List Port)
    → map (λ port. after_slots port (segment_of all many port.node)) (map (λ port. after_slots (emptied port) (slots port.node)) first)
    ≡ map (λ port. after_slots (emptied port) (more_slots slots all many port.node)) first
heard_all slots all many [] = refl
heard_all slots all many (port ∷ first) =
    let here = heard_one slots all many port in
    let rest = heard_all slots all many first in
    ap (λ p. p ∷ map (λ port. after_slots port (segment_of all many port.node)) (map (λ port. after_slots (emptied port) (slots port.node)) first)) here
    ∙ ap (λ ps. after_slots (emptied port) (more_slots slots all many port.node) ∷ ps) rest

pub block_long : (wide : Bool) (kind : Kind) (slot : Slot) → length (slot_block wide kind slot) ≡ block_length wide kind
block_long true Mono None = refl
block_long true Mono (Some cell) = refl
block_long true Stereo None = refl
block_long true Stereo (Some cell) = refl
block_long false Mono None = refl
block_long false Mono (Some cell) = refl
block_long false Stereo None = refl
block_long false Stereo (Some cell) = refl

room_one : (left : ℕ) (port : Port) (slot : Slot) → HasRoomLeft (suc left) port → HasRoomLeft left (after_slot port slot)
room_one left port slot room =
    let long = length-append port.piece.bytes (slot_block port.wide port.kind slot) in
    let block = block_long port.wide port.kind slot in
    let more = suc-mul left (block_length port.wide port.kind) in
    omega (arith, room, long, block, more)

room_many : (left : ℕ) (port : Port) (slots : List Slot) → HasRoomLeft (length slots + left) port → HasRoomLeft left (after_slots port slots)
room_many left port [] room = let none : 0 + left ≡ left = omega arith in subst (λ n. HasRoomLeft n port) none room
room_many left port (slot ∷ slots) room =
    let more : suc (length slots) + left ≡ suc (length slots + left) = omega arith in
    room_many left (after_slot port slot) slots (room_one (length slots + left) port slot (subst (λ n. HasRoomLeft n port) more room))

pub room_left : (many left : ℕ) (f : Port → List Slot) → ((port : Port) → length (f port) ≡ many) → (ports : List Port)
    → AllHaveRoomLeft (many + left) ports → AllHaveRoomLeft left (map (λ port. after_slots port (f port)) ports)
room_left many left f long ports room k d h =
    let within : k < length ports = (let same = length-map ports (λ port. after_slots port (f port)) in omega (arith, same, h)) in
    let port = get_or ports k d in
    subst (λ p. HasRoomLeft left p) (sym (get_or-map (λ port. after_slots port (f port)) ports k d d within))
    (room_many left port (f port) (subst (λ n. HasRoomLeft (n + left) port) (sym (long port)) (room k d within)))

-- room for more is room for fewer
pub room_less : (few many : ℕ) (ports : List Port) → few ≤ many → AllHaveRoomLeft many ports → AllHaveRoomLeft few ports
room_less few many ports less room k d h =
    let port = get_or ports k d in
    let more = mul-le-mul_right (block_length port.wide port.kind) less in
    omega (arith, room k d h, more)

-- a list whose first items were changed: an item behind them is as it was
behind_changed : {A : Type 0} (f : A → A) (first : List A) (k : ℕ) (d : A) → k < length first → get_or (map f (take k first) ++ drop k first) k d ≡ get_or first k d
behind_changed f [] k d within = absurd (omega (arith, within))
behind_changed f (x ∷ first) zero d within = refl
behind_changed f (x ∷ first) (suc k) d within = behind_changed f first k d (omega (arith, within))

pub still_there : {A : Type 0} (f : A → A) (first now : List A) (k : ℕ) (x : A) → now ≡ map f (take k first) ++ drop k first → x ≡ get_or now k x → k < length first → x ≡ get_or first k x
still_there f first now k x are read within = read ∙ ap (λ xs. get_or xs k x) are ∙ behind_changed f first k x within

-- an output keeps its node, and so does a feed
pub ports_within : (nodes : ℕ) (slots : ℕ → List Slot) (first now : List Port) → now ≡ map (λ port. after_slots (emptied port) (slots port.node)) first
    → All (λ port. port.node < nodes) first → All (λ port. port.node < nodes) now
ports_within nodes slots first now are within k d h =
    let hear : Port → Port = λ port. after_slots (emptied port) (slots port.node) in
    let here : k < length first = (let same = ap length are ∙ length-map first hear in omega (arith, same, h)) in
    let port = get_or first k d in
    let is : get_or now k d ≡ hear port = ap (λ ps. get_or ps k d) are ∙ get_or-map hear first k d d here in
    subst (λ n. n < nodes) (sym (ap (λ p. p.node) is ∙ after_slots-node (emptied port) (slots port.node))) (within k d here)

pub feeds_within : (nodes : ℕ) (slots : ℕ → List Slot) (first now : List FeedPort) → now ≡ map (λ feed. fed (unfed feed) (slots feed.node)) first
    → All (λ feed. feed.node < nodes) first → All (λ feed. feed.node < nodes) now
feeds_within nodes slots first now are within k d h =
    let feeds : FeedPort → FeedPort = λ feed. fed (unfed feed) (slots feed.node) in
    let here : k < length first = (let same = ap length are ∙ length-map first feeds in omega (arith, same, h)) in
    let is : get_or now k d ≡ feeds (get_or first k d) = ap (λ fs. get_or fs k d) are ∙ get_or-map feeds first k d d here in
    subst (λ n. n < nodes) (sym (ap (λ f. f.node) is)) (within k d here)

-- the cells of a tick so far, some slots later
fed_one : (slots : ℕ → List Slot) (all : ClockStates) (many : ℕ) (feed : FeedPort)
    → fed (fed (unfed feed) (slots feed.node)) (segment_of all many feed.node) ≡ fed (unfed feed) (more_slots slots all many feed.node)
fed_one slots all many feed =
    ap (λ (cells : List Cell). record { buffer = feed.buffer; node = feed.node; frame = record { cells = cells; room = feed.frame.room } })
    (sym (cells_of-append (slots feed.node) (segment_of all many feed.node)))

fed_all : (slots : ℕ → List Slot) (all : ClockStates) (many : ℕ) (first : List FeedPort)
    → map (λ feed. fed feed (segment_of all many feed.node)) (map (λ feed. fed (unfed feed) (slots feed.node)) first)
    ≡ map (λ feed. fed (unfed feed) (more_slots slots all many feed.node)) first
fed_all slots all many [] = refl
fed_all slots all many (feed ∷ first) =
    ap (λ f. f ∷ map (λ feed. fed feed (segment_of all many feed.node)) (map (λ feed. fed (unfed feed) (slots feed.node)) first)) (fed_one slots all many feed)
    ∙ ap (λ fs. fed (unfed feed) (more_slots slots all many feed.node) ∷ fs) (fed_all slots all many first)

-- each feed has room for what is left of the tick
few_cells : (slots : List Slot) → length (cells_of slots) ≤ length slots
few_cells [] = omega arith
few_cells (None ∷ slots) = omega (arith, few_cells slots)
few_cells (Some cell ∷ slots) = omega (arith, few_cells slots)

pub feed_room_left : (many left : ℕ) (f : FeedPort → List Slot) → ((feed : FeedPort) → length (f feed) ≡ many) → (feeds : List FeedPort)
    → AllHaveFeedRoom (many + left) feeds → AllHaveFeedRoom left (map (λ feed. fed feed (f feed)) feeds)
feed_room_left many left f long feeds room k d h =
    let within : k < length feeds = (let same = length-map feeds (λ feed. fed feed (f feed)) in omega (arith, same, h)) in
    let feed = get_or feeds k d in
    subst (λ p. HasFeedRoom left p) (sym (get_or-map (λ feed. fed feed (f feed)) feeds k d d within))
    (omega (arith, room k d within, length-append feed.frame.cells (cells_of (f feed)), few_cells (f feed), long feed))

pub feed_room_less : (few many : ℕ) (feeds : List FeedPort) → few ≤ many → AllHaveFeedRoom many feeds → AllHaveFeedRoom few feeds
feed_room_less few many feeds less room k d h = let at = room k d h in omega (arith, at, less)

pub unfed_room : (frame : ℕ) (feeds : List FeedPort) → All (λ feed. frame ≤ feed.frame.room) feeds → AllHaveFeedRoom frame (map unfed feeds)
unfed_room frame feeds all k d h =
    let within : k < length feeds = (let same = length-map feeds unfed in omega (arith, same, h)) in
    subst (λ p. HasFeedRoom frame p) (sym (get_or-map unfed feeds k d d within)) (omega (arith, all k d within))

pub frames_unfed : (frame : ℕ) (feeds : List FeedPort) → All (λ feed. frame ≤ feed.frame.room) feeds → All (λ feed. frame ≤ feed.frame.room) (map unfed feeds)
frames_unfed frame feeds all k d h =
    let within : k < length feeds = (let same = length-map feeds unfed in omega (arith, same, h)) in
    subst (λ feed. frame ≤ feed.frame.room) (sym (get_or-map unfed feeds k d d within)) (all k d within)

pub frames_fed : (frame : ℕ) (f : FeedPort → List Slot) (feeds : List FeedPort) → All (λ feed. frame ≤ feed.frame.room) feeds → All (λ feed. frame ≤ feed.frame.room) (map (λ feed. fed feed (f feed)) feeds)
frames_fed frame f feeds all k d h =
    let within : k < length feeds = (let long = length-map feeds (λ feed. fed feed (f feed)) in omega (arith, long, h)) in
    subst (λ feed. frame ≤ feed.frame.room) (sym (get_or-map (λ feed. fed feed (f feed)) feeds k d d within)) (all k d within)

pub keys_fed : (f : FeedPort → List Slot) (feeds : List FeedPort) → map feed_key (map (λ feed. fed feed (f feed)) feeds) ≡ map feed_key feeds
keys_fed f [] = refl
keys_fed f (feed ∷ feeds) = ap (λ keys. feed_key feed ∷ keys) (keys_fed f feeds)

pub keys_unfed : (feeds : List FeedPort) → map feed_key (map unfed feeds) ≡ map feed_key feeds
keys_unfed [] = refl
keys_unfed (feed ∷ feeds) = ap (λ keys. feed_key feed ∷ keys) (keys_unfed feeds)

-- some instants and those behind them
mapped_range : {A : Type 0} (f : ℕ → A) (from n m all : ℕ) → all ≡ n + m → map f (range_with_len from n) ++ map f (range_with_len (from + n) m) ≡ map f (range_with_len from all)
mapped_range f from zero m all sum =
    let same : from + 0 ≡ from = omega arith in
    let whole : m ≡ all = omega (arith, sum) in
    ap (λ k. map f (range_with_len k m)) same ∙ ap (λ k. map f (range_with_len from k)) whole
mapped_range f from (suc n) m zero sum = absurd (omega (arith, sum))
mapped_range {A} f from (suc n) m (suc all) sum =
    let same : from + suc n ≡ from + 1 + n = omega arith in
    ap (λ k. (f from ∷ map f (range_with_len (from + 1) n)) ++ map f (range_with_len k m)) same
    ∙ ap (λ (xs : List A). f from ∷ xs) (mapped_range f (from + 1) n m all (omega (arith, sum)))

joined_more : (calls : ℕ → List Call) (n m : ℕ) → joined_upto calls n ++ joined_upto (λ j. calls (n + j)) m ≡ joined_upto calls (n + m)
joined_more calls n zero = let same : n + 0 ≡ n = omega arith in append-nil (joined_upto calls n) ∙ ap (joined_upto calls) (sym same)
joined_more calls n (suc m) =
    let same : n + suc m ≡ suc (n + m) = omega arith in
    sym (append_assoc (joined_upto calls n) (joined_upto (λ j. calls (n + j)) m) (calls (n + m)))
    ∙ ap (λ (cs : List Call). cs ++ calls (n + m)) (joined_more calls n m)
    ∙ ap (joined_upto calls) (sym same)

-- the calls of some first ones
begin_upto : (calls : ℕ → List Call) (i n : ℕ) → i ≤ n → IsBegin (joined_upto calls i) (joined_upto calls n)
begin_upto calls i n low = elim (cases_lt i n) [
  | inl less ↦ subst (λ cs. IsBegin cs (joined_upto calls n)) (append-nil (joined_upto calls i)) (begin_joined calls i n [] less (begin_none (calls i)))
  | inr high ↦ (let same : i ≡ n = omega (arith, low, high) in subst (λ m. IsBegin (joined_upto calls i) (joined_upto calls m)) same (begin_all (joined_upto calls i)))
]

module _ {T : Type 0} (stands : T → List Call → Type 0) (scene : Scene) (clock : NodeClock) (own : List Bool) where
  pub heard_none : (state : ClockState) (first now : List Port) (feeds fresh : List FeedPort) (cues begun : Cues) (start : ℕ) (a : T) → now ≡ map emptied first → fresh ≡ map unfed feeds
      → begun.keeping ≡ cues.keeping → length begun.lists.items ≡ length cues.lists.items
      → ((k : ℕ) (old new : CueList) → slice_get cues.lists.items k ≡ Some old → slice_get begun.lists.items k ≡ Some new → HasMarked [] old new)
      → Heard stands scene clock own 0 (record { state = state; ports = first; feeds = feeds; cues = cues; start = start; taps = a })
      (record { state = state; ports = now; feeds = fresh; cues = begun; start = start; taps = a })
  heard_none state first now feeds fresh cues begun start a is anew keeping lists marked = record {
    slots = λ i. [];
    long = λ i. refl;
    ports_are = is;
    feeds_are = anew;
    keeping = keeping;
    lists = lists;
    cues_are = λ k port old new at_port at_old at_new. subst (λ marks. HasMarked marks old new) (sym (marks_none cues.keeping start)) (marked k old new at_old at_new);
    more = [];
    taps = adds_nothing stands a;
    run = λ other sub n front meant has stand. record {
      state_stands = (let same : n ≡ n + 0 = omega arith in subst (λ m. ClockStateStands (setting_over scene other) sub clock m (after_calls front []) state) same
          (subst (λ (f : ℕ → List Answer). ClockStateStands (setting_over scene other) sub clock n f state) (sym (after_calls-none front)) stand));
      slots_are = λ i marked. refl;
      calls = refl;
    };
  }

  -- a segment more
  module _ (count many upto : ℕ) (before mid after : Hearing T) (sum : upto ≡ count + suc many) (one : SegmentMade stands scene clock own many (tapped mid.state mid.taps) (tapped after.state after.taps))
      (is : after.ports ≡ map (λ port. after_slots port (segment_of after.state.clocks many port.node)) mid.ports)
      (heard : Heard stands scene clock own count before mid) where
    ports_now : after.ports ≡ map (λ port. after_slots (emptied port) (more_slots heard.slots after.state.clocks many port.node)) before.ports
    ports_now = is ∙ ap (map (λ port. after_slots port (segment_of after.state.clocks many port.node))) heard.ports_are ∙ heard_all heard.slots after.state.clocks many before.ports

    run_now : (other : Setting) (sub : ℕ → ℕ → List Slot) (n : ℕ) (front : ℕ → List Answer) → IsMeant (setting_over scene other) sub own
        → HasAnswers (setting_over scene other) (after_calls front (heard.more ++ one.more)) → ClockStateStands (setting_over scene other) sub clock n front before.state
        → HasMadeInstants (setting_over scene other) sub own clock n upto front (outcome (more_slots heard.slots after.state.clocks many) (heard.more ++ one.more) after.state)
    run_now other sub n front meant has stand =
        let S = setting_over scene other in
        let ran = heard.run other sub n front meant (answers_first S front heard.more one.more has) stand in
        let done = one.run other sub (n + count) (after_calls front heard.more) meant (answers_then S front heard.more one.more has) ran.state_stands in
        let same : n + count + suc many ≡ n + upto = omega (arith, sum) in
        record {
          state_stands = subst (λ m. ClockStateStands S sub clock m (after_calls front (heard.more ++ one.more)) after.state) same
              (subst (λ (f : ℕ → List Answer). ClockStateStands S sub clock (n + count + suc many) f after.state) (sym (after_calls-then front heard.more one.more)) done.state_stands);
          slots_are = λ i marked.
              ap (λ slots. slots ++ segment_of after.state.clocks many i) (ran.slots_are i marked)
              ∙ ap (λ slots. map (slot_in S sub clock i) (range_with_len n count) ++ slots) (done.slots_are i marked)
              ∙ mapped_range (slot_in S sub clock i) n count (suc many) upto sum;
          calls = ap (λ (cs : List Call). cs ++ one.more) ran.calls ∙ ap (λ (cs : List Call). calls_from S sub clock n count ++ cs) done.calls
              ∙ ap (λ (cs : List Call). calls_from S sub clock n count ++ cs) (joined_same (λ j. calls_of S sub clock (first_instants S sub clock (n + count + j))) (λ j. calls_of S sub clock (first_instants S sub clock (n + (count + j)))) (suc many)
              (λ j below. let together : n + count + j ≡ n + (count + j) = omega arith in ap (λ m. calls_of S sub clock (first_instants S sub clock m)) together))
              ∙ joined_more (λ j. calls_of S sub clock (first_instants S sub clock (n + j))) count (suc many)
              ∙ ap (calls_from S sub clock n) (sym sum);
        }

    -- the list of an output before the segment
    list_before : length mid.cues.lists.items ≡ length before.cues.lists.items → (k : ℕ) (old : CueList) → slice_get before.cues.lists.items k ≡ Some old
        → (list : CueList) × (slice_get mid.cues.lists.items k ≡ Some list)
    list_before lists k old at =
        let within = slice_get_within before.cues.lists.items k old at in
        (get_or mid.cues.lists.items k old, slice_get-get_or mid.cues.lists.items k old (omega (arith, within, lists)))

    pub heard_more : after.feeds ≡ map (λ feed. fed feed (segment_of after.state.clocks many feed.node)) mid.feeds
        → ((i : ℕ) → length (segment_of after.state.clocks many i) ≡ suc many)
        → after.cues.keeping ≡ mid.cues.keeping → length after.cues.lists.items ≡ length mid.cues.lists.items
        → ((k : ℕ) (port : Port) (old new : CueList) → slice_get after.ports k ≡ Some port → slice_get mid.cues.lists.items k ≡ Some old → slice_get after.cues.lists.items k ≡ Some new
        → HasKept (marks_if mid.cues.keeping (before.start + count) ((part_at after.state.clocks.latest.parts.items port.node).slot ∷ [])) old new)
        → Heard stands scene clock own upto before after
    heard_more filled size keeping lists kept = record {
      slots = more_slots heard.slots after.state.clocks many;
      long = λ i. (let both = length-append (heard.slots i) (segment_of after.state.clocks many i) in let first = heard.long i in let last = size i in omega (arith, both, first, last, sum));
      ports_are = ports_now;
      feeds_are = filled ∙ ap (map (λ feed. fed feed (segment_of after.state.clocks many feed.node))) heard.feeds_are
          ∙ fed_all heard.slots after.state.clocks many before.feeds;
      keeping = keeping ∙ heard.keeping;
      lists = lists ∙ heard.lists;
      cues_are = λ k port old new at_port at_old at_new.
          let was = list_before heard.lists k old at_old in
          let hear : Port → Port = λ p. after_slots (emptied p) (more_slots heard.slots after.state.clocks many p.node) in
          let there : slice_get after.ports k ≡ Some (hear port) = ap (λ ps. slice_get ps k) ports_now ∙ got_mapped hear before.ports k port at_port in
          let node : (hear port).node ≡ port.node = after_slots-node (emptied port) (more_slots heard.slots after.state.clocks many port.node) in
          let slot = (part_at after.state.clocks.latest.parts.items port.node).slot in
          marked_more (marks_if before.cues.keeping before.start (heard.slots port.node)) (marks_if before.cues.keeping (before.start + count) (slot ∷ [])) _ old was.0 new
          (marks_more before.cues.keeping before.start count (before.start + count) (heard.slots port.node) slot many _ _ (heard.long port.node) refl)
          (heard.cues_are k port old was.0 at_port at_old was.1)
          (subst (λ (b : Bool). HasKept (marks_if b (before.start + count) (slot ∷ [])) was.0 new) heard.keeping
          (subst (λ i. HasKept (marks_if mid.cues.keeping (before.start + count) ((part_at after.state.clocks.latest.parts.items i).slot ∷ [])) was.0 new) node
          (kept k (hear port) was.0 new there was.1 at_new)));
      more = heard.more ++ one.more;
      taps = adds_more stands before.taps mid.taps after.taps heard.more one.more heard.taps one.taps;
      run = run_now;
    }

    -- some of the marks of the segment were refused
    pub heard_part : (total : ℕ) → upto ≤ total → after.cues.keeping ≡ mid.cues.keeping → length after.cues.lists.items ≡ length mid.cues.lists.items
        → ((k : ℕ) (old new : CueList) → slice_get mid.cues.lists.items k ≡ Some old → slice_get after.cues.lists.items k ≡ Some new → HasGrown old new)
        → (ports : (k : ℕ) (old : CueList) → slice_get before.cues.lists.items k ≡ Some old → (port : Port) × (slice_get before.ports k ≡ Some port))
        → HeardSome stands scene clock own total before after
    heard_part total low keeping lists grown ports = record {
      slots = more_slots heard.slots after.state.clocks many;
      ports_are = ports_now;
      keeping = keeping ∙ heard.keeping;
      lists = lists ∙ heard.lists;
      cues_are = λ k old new at_old at_new.
          let was = list_before heard.lists k old at_old in
          let port = ports k old at_old in
          marked_some _ old was.0 new (heard.cues_are k port.0 old was.0 port.1 at_old was.1) (grown k was.0 new was.1 at_new);
      made = heard.more ++ one.more;
      taps = adds_more stands before.taps mid.taps after.taps heard.more one.more heard.taps one.taps;
      begins = λ other sub n front meant has stand.
          let S = setting_over scene other in
          subst (λ (cs : List Call). IsBegin cs (calls_from S sub clock n total)) (sym (run_now other sub n front meant has stand).calls)
          (begin_upto (λ j. calls_of S sub clock (first_instants S sub clock (n + j))) upto total low);
    }

  pub heard_broken : (count total : ℕ) (before mid after : Hearing T) → count < total → SegmentBroken stands scene clock own mid.state mid.taps after.taps → after.ports ≡ mid.ports
      → after.cues ≡ mid.cues
      → ((k : ℕ) (old : CueList) → slice_get before.cues.lists.items k ≡ Some old → (port : Port) × (slice_get before.ports k ≡ Some port))
      → Heard stands scene clock own count before mid → HeardSome stands scene clock own total before after
  heard_broken count total before mid after low one same same_cues ports heard = record {
    slots = heard.slots;
    ports_are = same ∙ heard.ports_are;
    keeping = ap (λ (cues : Cues). cues.keeping) same_cues ∙ heard.keeping;
    lists = ap (λ (cues : Cues). length cues.lists.items) same_cues ∙ heard.lists;
    cues_are = λ k old new at_old at_new.
        let port = ports k old at_old in
        record { more = _; marked = heard.cues_are k port.0 old new port.1 at_old (sym (ap (λ (cues : Cues). slice_get cues.lists.items k) same_cues) ∙ at_new) };
    made = heard.more ++ one.made;
    taps = adds_more stands before.taps mid.taps after.taps heard.more one.made heard.taps one.taps;
    begins = λ other sub n front meant has stand.
        let S = setting_over scene other in
        let ran = heard.run other sub n front meant (answers_first S front heard.more one.made has) stand in
        subst (λ (cs : List Call). IsBegin (cs ++ one.made) (calls_from S sub clock n total)) (sym ran.calls)
        (begin_joined (λ j. calls_of S sub clock (first_instants S sub clock (n + j))) count total one.made low
        (one.begins other sub (n + count) (after_calls front heard.more) meant (answers_then S front heard.more one.made has) ran.state_stands));
  }
