-- An engine after a tick.
use Rattle.std.proofs.Common.{◌≡◌, ◌++◌, append_assoc, Bool, ◌<◌, ◌≤◌, ◌+◌, ◌*◌, ◌∙◌, ℕ, suc, Some, Option, List, [], ◌∷◌, flat_map, All, length, get_or, map, slice_get, true, false, arith, refl, ap, sym, subst, ◌-◌, None, add-one}
use mathlib.Core.Path.{fun_ext}
use Rattle.std.proofs.Math.Nat.{suc-mul}
use Rattle.std.proofs.lemmas.Bool.{true≢false}
use Rattle.std.proofs.lemmas.List.{append-nil, get_or_default, get_or-map, length-map, map-append}
use Rattle.std.proofs.lemmas.Option.{none-some, slice_get_read, slice_get_within}
use Rattle.liq_base.specs.Pieces.{HasRoom, IsPrefix, SinkTold, grown, narrowed}
use Rattle.clock_infer.specs.declared.clock_map.NodeClock.TheVariants.{Main}
use Rattle.frame_core.specs.Slots.{Slot}
use Rattle.frame_core.specs.Calls.{Call, Answer}
use Rattle.stream_meaning.specs.Arithmetic.{cells_of}
use Rattle.stream_meaning.specs.Instants.{Setting, clock_of, sub_of, with_rest}
use Rattle.stream_meaning.specs.Sinks.{block_length, cues, feed_cells, gaps, is_wide, kind_of, tick_bytes, tick_cues, tick_slots, IsOutput}
use Rattle.stream_meaning.specs.Calls.{HasAnswers, IsBegin, IsUnread, after_calls, answers_in, calls_of_tick, give_by, joined_upto, takes_of_tick}
use Rattle.stream_meaning.proofs.Answering.{answers_first, answers_in-append, begin_all, begin_behind, begin_more}
use Rattle.stream_meaning.proofs.Unread.{no_given, no_tick_takes, none_in_joined}
use Rattle.node_states.specs.Ticks.{HasStopped, HasTicked}
use Rattle.clock_outputs.specs.declared.port.Port.{Port}
use Rattle.clock_outputs.specs.declared.feed.FeedPort.{FeedPort}
use Rattle.clock_outputs.specs.Feeds.{HaveGiven, HaveGivenSome, HaveOwnBuffers, fed, given_by, unfed}
use Rattle.clock_outputs.specs.Ports.{after_slots, emptied}
use Rattle.clock_outputs.specs.Appends.{BrokeAt, HaveRoom, TookAll}
use Rattle.clock_ticks.specs.Standing.{IsClockState, ClockStateStands}
use Rattle.clock_ticks.specs.Hearings.{HasMadeInstants, Heard, HeardSome, IsMeant, outcome}
use Rattle.clock_ticks.specs.declared.cues.CueList.{CueList}
use Rattle.clock_ticks.specs.Cues.{mark_of, marks_if, marks_of}
use Rattle.clock_ticks.proofs.Cueing.{AreHeld, its_port, taken_before, there_is}
use Rattle.clock_ticks.specs.declared.engine.EngineParts.{EngineParts}
use Rattle.clock_ticks.specs.declared.fault.TickFault.{TickFault}
use Rattle.clock_ticks.specs.Engines.{AreParts, EngineStands, EngineStopped, after_tick, feed_of, feeds_of, held_in, output_of, outputs_of, hearing_of, setting_of}
use Rattle.clock_ticks.specs.Ticks.{HasFailed, HaveTickRoom, HaveTicksRoom, TookTick, piece_size}
use Rattle.clock_ticks.proofs.Giving.{gives_are, gives_flat}
use Rattle.clock_ticks.proofs.Filling.{filled_before, filled_kind, filled_long, filled_room, filled_sink, filled_wide}
use Rattle.clock_ticks.proofs.Numbered.{all_at, from_mapped, got_mapped, output_wide, port_inside, port_node}
use Rattle.clock_ticks.proofs.Holding.{GrewPart, held_grew, held_part, parts_grew}
use Rattle.clock_ticks.proofs.Pieces.{some_one, there}
use Rattle.clock_ticks.proofs.Mapped.{goes_down, meaning_of}
use Rattle.clock_ticks.proofs.Feeding.{feed_inside, own_buffers, own_readers}
use Rattle.clock_ticks.proofs.Rooted.{feed_root, port_root}
use Rattle.clock_ticks.proofs.Ticking.{bytes_are, gaps_more, tick_heard}
use Rattle.clock_ticks.proofs.Hearing.{after_slots-node}

-- the room for one piece fewer, after one was taken
room_less : (room : Option ℕ) (ticks size : ℕ) → HasRoom room ((ticks + 1) * size) → HasRoom (narrowed size room) (ticks * size)
room_less None ticks size has = λ left e. absurd (none-some left e)
room_less (Some left) ticks size has = λ x e.
    let more : (ticks + 1) * size ≡ ticks * size + size = ap (λ n. n * size) (add-one ticks) ∙ suc-mul ticks size in
    let enough : (ticks + 1) * size ≤ left = has left refl in
    let same : left - size ≡ x = cc in
    omega (arith, enough, more, same)

-- outputs that heard their nodes are the same ones
heard_outputs : (slots : ℕ → List Slot) (ports : List Port) → map output_of (map (λ port. after_slots (emptied port) (slots port.node)) ports) ≡ map output_of ports
heard_outputs slots [] = refl
heard_outputs slots (port ∷ ports) =
    ap (λ n. (n, (after_slots (emptied port) (slots port.node)).node) ∷ map output_of (map (λ port. after_slots (emptied port) (slots port.node)) ports)) (filled_sink (emptied port) (slots port.node))
    ∙ ap (λ n. (port.sink, n) ∷ map output_of (map (λ port. after_slots (emptied port) (slots port.node)) ports)) (after_slots-node (emptied port) (slots port.node))
    ∙ ap (λ os. output_of port ∷ os) (heard_outputs slots ports)

not_false : (b : Bool) → (b ≡ false → ⊥) → b ≡ true
not_false true none = refl
not_false false none = absurd (none refl)

-- what is left of the marks
pub held_of_heard : {T : Type 0} (stands_for : T → List Call → Type 0) (parts other : EngineParts) (a b : T) → AreParts parts
    → Heard stands_for parts.scene (Main parts.clock) parts.own.items parts.scene.plan.now.frame (hearing_of parts a) (hearing_of other b)
    → AreHeld parts.cues other.cues
held_of_heard stands_for parts other a b fit heard = record {
  keeping = heard.keeping;
  lists = heard.lists;
  some = λ k old new at_old at_new.
      let port = its_port parts.cues.lists.items parts.ports.items fit.lists k old at_old in
      record { more = _; marked = heard.cues_are k port.0 old new port.1 at_old at_new };
}

pub held_of_some : {T : Type 0} (stands_for : T → List Call → Type 0) (parts other : EngineParts) (a b : T)
    → HeardSome stands_for parts.scene (Main parts.clock) parts.own.items parts.scene.plan.now.frame (hearing_of parts a) (hearing_of other b)
    → AreHeld parts.cues other.cues
held_of_some stands_for parts other a b heard = record { keeping = heard.keeping; lists = heard.lists; some = heard.cues_are }

-- an engine whose outputs heard some slots of their nodes
module _ (parts other : EngineParts) (fit : AreParts parts)
    (state_is : IsClockState parts.scene other.state)
    (slots : ℕ → List Slot) (ports_are : other.ports.items ≡ map (λ port. after_slots (emptied port) (slots port.node)) parts.ports.items) where
  -- an output that has heard its node in the tick
  abbrev hear : Port → Port
  hear port = after_slots (emptied port) (slots port.node)

  -- a fact of each output that hearing keeps
  kept : (P : Port → Type 0) → ((port : Port) → P port → P (hear port)) → All P parts.ports.items → All P other.ports.items
  kept P keeps all k d h =
      subst P (sym (ap (λ xs. get_or xs k d) ports_are ∙ get_or-map hear parts.ports.items k d d (within k h)))
      (keeps (get_or parts.ports.items k d) (all k d (within k h)))
    where
      within : (k : ℕ) → k < length other.ports.items → k < length parts.ports.items
      within k h = let same = ap length ports_are ∙ length-map parts.ports.items hear in omega (arith, same, h)

  pub parts_after : (ticks : ℕ) (stopped : Option TickFault) → map feed_of other.feeds.items ≡ map feed_of parts.feeds.items
      → All (λ feed. parts.scene.plan.now.frame ≤ feed.frame.room) other.feeds.items → length other.cues.lists.items ≡ length parts.cues.lists.items
      → AreParts (after_tick parts other ticks stopped)
  parts_after ticks stopped same_feeds frames lists = record {
    plan = fit.plan;
    nodes = fit.nodes;
    frame = fit.frame;
    few = fit.few;
    in_clocks = fit.in_clocks;
    clocks = fit.clocks;
    state = state_is;
    in_own = fit.in_own;
    own = record { each = fit.own.each };
    outputs = ap (map output_of) ports_are ∙ heard_outputs slots parts.ports.items ∙ fit.outputs;
    kinds = kept (λ port. port.kind ≡ kind_of (setting_of parts) port.node)
        (λ port is. filled_kind (emptied port) (slots port.node) ∙ is ∙ ap (kind_of (setting_of parts)) (sym (after_slots-node (emptied port) (slots port.node)))) fit.kinds;
    widths = kept (λ port. port.wide ≡ is_wide (setting_of parts) port.sink)
        (λ port is. filled_wide (emptied port) (slots port.node) ∙ is ∙ ap (is_wide (setting_of parts)) (sym (filled_sink (emptied port) (slots port.node)))) fit.widths;
    rooms = kept (λ port. parts.scene.plan.now.frame * block_length port.wide port.kind ≤ port.piece.room)
        (λ port is.
        let kind : parts.scene.plan.now.frame * block_length (hear port).wide (hear port).kind ≡ parts.scene.plan.now.frame * block_length port.wide port.kind =
        ap (λ w. parts.scene.plan.now.frame * block_length w (hear port).kind) (filled_wide (emptied port) (slots port.node))
        ∙ ap (λ k. parts.scene.plan.now.frame * block_length port.wide k) (filled_kind (emptied port) (slots port.node)) in
        let room = filled_room (emptied port) (slots port.node) in
        omega (arith, is, kind, room)) fit.rooms;
    feeds = same_feeds ∙ fit.feeds;
    frames = frames;
    lists = lists ∙ fit.lists ∙ sym (ap length ports_are ∙ length-map parts.ports.items hear);
  }

  -- an output, as it was before the tick
  pub port_before : (k : ℕ) (port : Port) → slice_get other.ports.items k ≡ Some port
      → (old : Port) × (slice_get parts.ports.items k ≡ Some old) × (port ≡ hear old)
  port_before k port at =
      let found = from_mapped hear parts.ports.items k port (sym (ap (λ xs. slice_get xs k) ports_are) ∙ at) in
      (found.0, found.1, sym found.2)

  -- it stopped in a tick, whose gaps are not counted
  halted_by : (t : ℕ) (answers : ℕ → List Answer) (made : List Call) (held now : ℕ → Option (List ℕ)) (fault : TickFault) → AreHeld parts.cues other.cues → EngineStands parts t answers
      → HasStopped (setting_of parts) parts.clock t answers made held now → EngineStopped (after_tick parts other parts.ticks (Some fault)) t answers made
  halted_by t answers made held now fault marks stands stopped = record {
    ticks_are = stands.made;
    fault = fault;
    stopped = refl;
    accepted = stopped.accepted;
    begun = stopped.begun;
    gaps_are = λ rest k port at.
        let found = port_before k port at in
        let before : port.gaps_before ≡ found.0.gaps = ap (λ p. p.gaps_before) found.2 ∙ filled_before (emptied found.0) (slots found.0.node) in
        let node : found.0.node ≡ port.node = sym (ap (λ p. p.node) found.2 ∙ after_slots-node (emptied found.0) (slots found.0.node)) in
        before ∙ stands.gaps_are rest k found.0 found.1 ∙ ap (λ i. gaps (with_rest (setting_of parts) answers rest) i t) node;
    cues_are = λ new rest k port list at_port at_list.
        let found = port_before k port at_port in
        let node : found.0.node ≡ port.node = sym (ap (λ p. p.node) found.2 ∙ after_slots-node (emptied found.0) (slots found.0.node)) in
        let within = slice_get_within other.cues.lists.items k list at_list in
        let same = marks.lists in
        let old = there_is parts.cues.lists.items k (omega (arith, within, same)) in
        taken_before old.0 list (marks.some k old.0 list old.1 at_list)
        ∙ stands.cues_are (λ e. new (marks.keeping ∙ e)) rest k found.0 old.0 found.1 old.1
        ∙ ap (λ i. map mark_of (cues (with_rest (setting_of parts) answers rest) i t)) node;
  }

  -- what it owes then
  pub failed_by : {X T : Type 0} (told : X → SinkTold) (stands_for : T → List Call → Type 0) (old new : List X) (a c : T) (made : List Call) (fault : TickFault) → AreHeld parts.cues other.cues
      → ((t : ℕ) (answers : ℕ → List Answer) → EngineStands parts t answers
      → HasStopped (setting_of parts) parts.clock t answers made (held_in told (outputs_of (setting_of parts) parts.clock) old) (held_in told (outputs_of (setting_of parts) parts.clock) new))
      → ((calls : List Call) → stands_for a calls → stands_for c (calls ++ made))
      → HasFailed told stands_for parts (after_tick parts other parts.ticks (Some fault)) old new a c
  failed_by told stands_for old new a c made fault marks stopped taps = record {
    made = made;
    engine = λ t answers stands. stopped t answers stands;
    halted = λ t answers stands. halted_by t answers made _ _ fault marks stands (stopped t answers stands);
    taps = taps;
  }

  pub sink_before : (old : Port) → (hear old).sink ≡ old.sink
  sink_before old = filled_sink (emptied old) (slots old.node)

  -- an output stands at its place among those of the clock
  pub output_at : (k : ℕ) (port : Port) → slice_get other.ports.items k ≡ Some port
      → (node : ℕ) × (slice_get (outputs_of (setting_of parts) parts.clock) k ≡ Some (port.sink, node))
  output_at k port at =
      let found = port_before k port at in (
        found.0.node,
        ap (λ xs. slice_get xs k) (sym fit.outputs) ∙ got_mapped output_of parts.ports.items k found.0 found.1
            ∙ ap (λ n. Some (n, found.0.node)) (sym (ap (λ p. p.sink) found.2 ∙ sink_before found.0)),
      )

  pub as_many : length other.ports.items ≡ length parts.ports.items
  as_many = ap length ports_are ∙ length-map parts.ports.items hear

  module _ (long : (i : ℕ) → length (slots i) ≡ parts.scene.plan.now.frame) where
    -- the length of a piece
    size_is : (k : ℕ) (port : Port) → slice_get parts.ports.items k ≡ Some port → length (hear port).piece.bytes ≡ piece_size (setting_of parts) port.sink port.node
    size_is k port at =
        filled_long (emptied port) (slots port.node) parts.scene.plan.now.frame refl (long port.node)
        ∙ ap (λ w. parts.scene.plan.now.frame * block_length w port.kind) (all_at (λ p. p.wide ≡ is_wide (setting_of parts) p.sink) parts.ports.items fit.widths k port at)
        ∙ ap (λ q. parts.scene.plan.now.frame * block_length (is_wide (setting_of parts) port.sink) q) (all_at (λ p. p.kind ≡ kind_of (setting_of parts) p.node) parts.ports.items fit.kinds k port at)

    -- the pieces have room where pieces of a tick have
    pub have_room : {S : Type 0} (told : S → SinkTold) (outs : List S) → HaveTickRoom told parts outs → HaveRoom told other.ports.items outs
    have_room told outs tick = record {
      each = λ k port out at_port at_out.
          let found = port_before k port at_port in
          subst (λ n. HasRoom (told out).room n) (sym (ap (λ p. length p.piece.bytes) found.2 ∙ size_is k found.0 found.1))
          (tick.each k found.0.sink found.0.node out (ap (λ xs. slice_get xs k) (sym fit.outputs) ∙ got_mapped output_of parts.ports.items k found.0 found.1) at_out);
    }

    -- the output at a place, and what a sink took of it
    output_port : (k sink node : ℕ) → slice_get (outputs_of (setting_of parts) parts.clock) k ≡ Some (sink, node)
        → (port : Port) × (slice_get other.ports.items k ≡ Some (hear port)) × (length (hear port).piece.bytes ≡ piece_size (setting_of parts) sink node)
    output_port k sink node at =
        let its = from_mapped output_of parts.ports.items k (sink, node) (ap (λ xs. slice_get xs k) fit.outputs ∙ at) in (
          its.0,
          ap (λ xs. slice_get xs k) ports_are ∙ got_mapped hear parts.ports.items k its.0 its.1,
          size_is k its.0 its.1 ∙ ap (λ o. piece_size (setting_of parts) o.0 o.1) its.2,
        )

    -- each sink took the piece of the tick
    pub took_tick : {S : Type 0} (told : S → SinkTold) (old new : List S) → length old ≡ length other.ports.items → TookAll told other.ports.items (length other.ports.items) old new
        → TookTick told parts old new
    took_tick told old new old_size took = record {
      each = λ k before after was is.
          let within : k < length other.ports.items = (let low = slice_get_within old k before was in omega (arith, low, old_size)) in
          let its = there other.ports.items k within in
          let output = output_at k its.0 its.1 in
          let known = output_port k its.0.sink output.0 output.1 in
          let same : its.0 ≡ hear known.0 = some_one its.1 known.1 in
          (its.0.sink, output.0, output.1, its.0.piece.bytes, ap (λ p. length p.piece.bytes) same ∙ known.2, took.each k its.0 before after within its.1 was is);
    }

    -- what the sinks took in the tick is off the room for so many ticks
    pub room_after : {S : Type 0} (told : S → SinkTold) (old new : List S) → length old ≡ length parts.ports.items → length new ≡ length old
        → TookAll told other.ports.items (length other.ports.items) old new
        → (stopped : Option TickFault) (count ticks : ℕ) → HaveTicksRoom told parts old (ticks + 1) → HaveTicksRoom told (after_tick parts other count stopped) new ticks
    room_after told old new old_size new_size took stopped count ticks all = record {
      each = λ k sink node out at_output at_out.
          let its = output_port k sink node at_output in
          let within : k < length old = (let here = slice_get_within new k out at_out in omega (arith, here, new_size)) in
          let before = get_or old k out in
          let was : slice_get old k ≡ Some before = slice_get_read old (length old) k before refl within (get_or_default old k out before within) in
          let fell = (took.each k (hear its.0) before out (slice_get_within other.ports.items k (hear its.0) its.1) its.1 was at_out).room_fell in
          subst (λ r. HasRoom r (ticks * piece_size (setting_of parts) sink node)) (sym fell)
          (subst (λ n. HasRoom (narrowed n (told before).room) (ticks * piece_size (setting_of parts) sink node)) (sym its.2)
          (room_less (told before).room ticks (piece_size (setting_of parts) sink node) (all.each k sink node before at_output was)));
    }

keys_same : (slots : ℕ → List Slot) (feeds : List FeedPort) → map feed_of (map (λ feed. fed (unfed feed) (slots feed.node)) feeds) ≡ map feed_of feeds
keys_same slots [] = refl
keys_same slots (feed ∷ feeds) = ap (λ keys. feed_of feed ∷ keys) (keys_same slots feeds)

none_given_by : (buffer : ℕ) (accepted : ℕ → Bool) (found : Option FeedPort) → answers_in buffer (given_by accepted found) ≡ []
none_given_by buffer accepted None = refl
none_given_by buffer accepted (Some feed) = no_given buffer feed.buffer feed.frame.cells (accepted feed.buffer)

pub none_given_in : (buffer : ℕ) (accepted : ℕ → Bool) (feeds : List FeedPort) (n : ℕ) → answers_in buffer (joined_upto (λ k. given_by accepted (slice_get feeds k)) n) ≡ []
none_given_in buffer accepted feeds n = none_in_joined buffer (λ k. given_by accepted (slice_get feeds k)) (λ k. none_given_by buffer accepted (slice_get feeds k)) n

grown_none : (held : Option (List ℕ)) → held ≡ grown [] held
grown_none None = refl
grown_none (Some bytes) = ap Some (sym (append-nil bytes))

-- other answers behind the same ones: first those of these calls
abbrev pub behind_calls : List Call → (ℕ → List Answer) → ℕ → List Answer
behind_calls more rest buffer = answers_in buffer more ++ rest buffer

pub world_is : (setting : Setting) (answers : ℕ → List Answer) (more : List Call) (rest : ℕ → List Answer)
    → with_rest setting answers (behind_calls more rest) ≡ with_rest setting (after_calls answers more) rest
world_is setting answers more rest =
    ap (λ (f : ℕ → List Answer). record { plan = setting.plan; library = setting.library; clocks = setting.clocks; start = setting.start; answers = f })
    (fun_ext (λ buffer. sym (append_assoc (answers buffer) (answers_in buffer more) (rest buffer))))

pub world_has : (setting : Setting) (answers : ℕ → List Answer) (more : List Call) (rest : ℕ → List Answer) → HasAnswers (with_rest setting answers (behind_calls more rest)) (after_calls answers more)
world_has setting answers more rest = record {
  rest = rest;
  are = λ buffer. sym (append_assoc (answers buffer) (answers_in buffer more) (rest buffer));
}

-- what holds of a plan whatever its answers
pub meant_by : (parts : EngineParts) → AreParts parts → (answers rest : ℕ → List Answer) → IsMeant (with_rest (setting_of parts) answers rest) (sub_of (with_rest (setting_of parts) answers rest)) parts.own.items
meant_by parts fit answers rest =
    let S = with_rest (setting_of parts) answers rest in
    record {
      meaning = meaning_of S fit.clocks fit.in_clocks;
      down = goes_down S fit.clocks fit.in_clocks (sub_of S);
      readers = own_readers S fit.plan;
      roots = record { each = fit.own.each };
    }

module _ (parts other : EngineParts) (fit : AreParts parts) {T : Type 0} (stands_for : T → List Call → Type 0) (a b : T)
    (heard : Heard stands_for parts.scene (Main parts.clock) parts.own.items parts.scene.plan.now.frame (hearing_of parts a) (hearing_of other b))
    (t : ℕ) (answers : ℕ → List Answer) (stands : EngineStands parts t answers) (few : parts.ticks < 1000000000) where
  module _ (rest : ℕ → List Answer) (has : HasAnswers (with_rest (setting_of parts) answers rest) (after_calls answers heard.more)) where
    abbrev S : Setting
    S = with_rest (setting_of parts) answers rest

    ran : HasMadeInstants S (sub_of S) parts.own.items (Main parts.clock) (t * parts.scene.plan.now.frame) parts.scene.plan.now.frame answers (outcome heard.slots heard.more other.state)
    ran = heard.run S (sub_of S) (t * parts.scene.plan.now.frame) answers (meant_by parts fit answers rest) has (stands.state rest)

    slots_are : (i : ℕ) → clock_of S i ≡ Main parts.clock → get_or parts.own.items i false ≡ true → heard.slots i ≡ tick_slots S i t
    slots_are i inside root = tick_heard S parts.clock t i (heard.slots i) inside (ran.slots_are i root)

    -- of the node of an output
    output_slots : (k : ℕ) (port : Port) → slice_get parts.ports.items k ≡ Some port → heard.slots port.node ≡ tick_slots S port.node t
    output_slots k port at =
        slots_are port.node (port_inside (setting_of parts) parts.clock parts.ports.items fit.outputs k port at) (port_root parts fit k port at).1

    -- an output after the tick
    port_after : (k : ℕ) (port : Port) → slice_get other.ports.items k ≡ Some port
        → (old : Port) × (slice_get parts.ports.items k ≡ Some old) × (after_slots (emptied old) (heard.slots old.node) ≡ port) × (clock_of S old.node ≡ Main parts.clock)
    port_after k port at =
        let found = from_mapped (λ p. after_slots (emptied p) (heard.slots p.node)) parts.ports.items k port (sym (ap (λ xs. slice_get xs k) heard.ports_are) ∙ at) in
        (found.0, found.1, found.2, port_inside (setting_of parts) parts.clock parts.ports.items fit.outputs k found.0 found.1)

    pub gaps_after : (k : ℕ) (port : Port) → slice_get other.ports.items k ≡ Some port → port.gaps ≡ gaps S port.node (suc t)
    gaps_after k port at =
        let found = port_after k port at in
        let small : t < 1000000000 = (let made = stands.made in omega (arith, made, few)) in
        sym (ap (λ p. p.gaps) found.2)
        ∙ gaps_more S t found.0 (heard.slots found.0.node) small fit.frame (stands.gaps_are rest k found.0 found.1) (output_slots k found.0 found.1)
        ∙ ap (λ i. gaps S i (suc t)) (sym (after_slots-node (emptied found.0) (heard.slots found.0.node)) ∙ ap (λ p. p.node) found.2)

    -- the marks of an output after the tick
    pub marks_after : parts.cues.keeping ≡ true → (k : ℕ) (port : Port) (list : CueList) → slice_get other.ports.items k ≡ Some port → slice_get other.cues.lists.items k ≡ Some list
        → list.marks.items ≡ map mark_of (cues S port.node (suc t))
    marks_after keeping k port list at_port at_list =
        let found = port_after k port at_port in
        let within = slice_get_within other.cues.lists.items k list at_list in
        let same = heard.lists in
        let old = there_is parts.cues.lists.items k (omega (arith, within, same)) in
        let node : found.0.node ≡ port.node = sym (after_slots-node (emptied found.0) (heard.slots found.0.node)) ∙ ap (λ p. p.node) found.2 in
        let start = t * parts.scene.plan.now.frame in
        (heard.cues_are k found.0 old.0 list found.1 old.1 at_list).marks
        ∙ ap (λ (b : Bool). old.0.marks.items ++ marks_if b (parts.ticks * parts.scene.plan.now.frame) (heard.slots found.0.node)) keeping
        ∙ ap (λ n. old.0.marks.items ++ marks_of (n * parts.scene.plan.now.frame) (heard.slots found.0.node)) stands.made
        ∙ ap (λ slots. old.0.marks.items ++ marks_of start slots) (output_slots k found.0 found.1)
        ∙ ap (λ marks. marks ++ marks_of start (tick_slots S found.0.node t)) (stands.cues_are (λ e. absurd (true≢false (sym keeping ∙ e))) rest k found.0 old.0 found.1 old.1)
        ∙ sym (map-append mark_of (cues S found.0.node t) (tick_cues S found.0.node t))
        ∙ ap (λ i. map mark_of (cues S i (suc t))) node

    pub bytes_after : (sink node : ℕ) (output : IsOutput (setting_of parts) parts.clock sink node) (k : ℕ) (port : Port) → slice_get other.ports.items k ≡ Some port → port.sink ≡ sink
        → port.piece.bytes ≡ tick_bytes S output.wide node t
    bytes_after sink node output k port at same =
        let found = port_after k port at in
        let number : found.0.sink ≡ sink = sym (filled_sink (emptied found.0) (heard.slots found.0.node)) ∙ ap (λ p. p.sink) found.2 ∙ same in
        let its = port_node (setting_of parts) parts.clock parts.ports.items fit.outputs sink node output k found.0 found.1 number in
        let width : found.0.wide ≡ output.wide = all_at (λ p. p.wide ≡ is_wide (setting_of parts) p.sink) parts.ports.items fit.widths k found.0 found.1
        ∙ ap (is_wide (setting_of parts)) number ∙ output_wide (setting_of parts) parts.clock sink node output in
        sym (ap (λ p. p.piece.bytes) found.2)
        ∙ bytes_are S t found.0 (heard.slots found.0.node) (all_at (λ p. p.kind ≡ kind_of (setting_of parts) p.node) parts.ports.items fit.kinds k found.0 found.1) (output_slots k found.0 found.1)
        ∙ ap (λ i. tick_bytes S found.0.wide i t) its
        ∙ ap (λ w. tick_bytes S w node t) width

    pub state_after : ClockStateStands S (sub_of S) (Main parts.clock) (suc t * parts.scene.plan.now.frame) (after_calls answers heard.more) other.state
    state_after = subst (λ n. ClockStateStands S (sub_of S) (Main parts.clock) n (after_calls answers heard.more) other.state) (sym (suc-mul t parts.scene.plan.now.frame)) ran.state_stands

    pub takes_are : heard.more ≡ takes_of_tick S parts.clock t
    takes_are = ran.calls

    -- a feed has the cells of its node
    feed_cells_are : (k : ℕ) (feed : FeedPort) → slice_get other.feeds.items k ≡ Some feed → feed.frame.cells ≡ feed_cells S feed.node t
    feed_cells_are k feed at =
        let found = from_mapped (λ f. fed (unfed f) (heard.slots f.node)) parts.feeds.items k feed (sym (ap (λ xs. slice_get xs k) heard.feeds_are) ∙ at) in
        let inside = feed_inside (setting_of parts) parts.clock parts.feeds.items fit.feeds k found.0 found.1 in
        ap (λ f. f.frame.cells) (sym found.2)
        ∙ ap cells_of (slots_are found.0.node inside (feed_root parts fit k found.0 found.1).1)
        ∙ ap (λ i. feed_cells S i t) (ap (λ f. f.node) found.2)

    same_feeds : map feed_of other.feeds.items ≡ feeds_of (setting_of parts) parts.clock
    same_feeds = ap (map feed_of) heard.feeds_are ∙ keys_same heard.slots parts.feeds.items ∙ fit.feeds

    -- the gives are those of the definition
    pub gives_of : (accepted : ℕ → Bool) → joined_upto (λ k. given_by accepted (slice_get other.feeds.items k)) (length other.feeds.items) ≡ flat_map (give_by S accepted parts.clock t) S.plan.sinks
    gives_of accepted = gives_flat accepted other.feeds.items ∙ gives_are S accepted parts.clock t S.plan.sinks other.feeds.items same_feeds feed_cells_are

  outputs_are : map output_of other.ports.items ≡ outputs_of (setting_of parts) parts.clock
  outputs_are = ap (map output_of) heard.ports_are ∙ heard_outputs heard.slots parts.ports.items ∙ fit.outputs

  pub own_feeds : HaveOwnBuffers other.feeds.items
  own_feeds = own_buffers (setting_of parts) parts.clock fit.plan other.feeds.items (ap (map feed_of) heard.feeds_are ∙ keys_same heard.slots parts.feeds.items ∙ fit.feeds)

  -- after all gives
  module _ (c : T) (given : HaveGiven stands_for other.feeds.items (length other.feeds.items) b c) where
    abbrev all_calls : List Call
    all_calls = heard.more ++ given.more

    -- a give brings no answer
    no_more : (buffer : ℕ) → answers_in buffer given.more ≡ []
    no_more buffer =
        ap (answers_in buffer) (given.are own_feeds)
        ∙ none_given_in buffer given.accepted other.feeds.items (length other.feeds.items)

    front_is : after_calls answers heard.more ≡ after_calls answers all_calls
    front_is = fun_ext (λ buffer. ap (λ (as' : List Answer). answers buffer ++ as')
        (sym (answers_in-append buffer heard.more given.more ∙ ap (λ (as' : List Answer). answers_in buffer heard.more ++ as') (no_more buffer) ∙ append-nil (answers_in buffer heard.more))))

    has_first : (rest : ℕ → List Answer) → HasAnswers (with_rest (setting_of parts) answers (behind_calls all_calls rest)) (after_calls answers heard.more)
    has_first rest = answers_first (with_rest (setting_of parts) answers (behind_calls all_calls rest)) answers heard.more given.more (world_has (setting_of parts) answers all_calls rest)

    calls_are_tick : (rest : ℕ → List Answer) → all_calls ≡ calls_of_tick (with_rest (setting_of parts) (after_calls answers all_calls) rest) given.accepted parts.clock t
    calls_are_tick rest =
        let S = with_rest (setting_of parts) answers (behind_calls all_calls rest) in
        ap (λ (cs : List Call). cs ++ given.more) (takes_are (behind_calls all_calls rest) (has_first rest))
        ∙ ap (λ (cs : List Call). takes_of_tick S parts.clock t ++ cs) (given.are own_feeds ∙ gives_of (behind_calls all_calls rest) (has_first rest) given.accepted)
        ∙ ap (λ W. calls_of_tick W given.accepted parts.clock t) (world_is (setting_of parts) answers all_calls rest)

    none_unread : (buffer : ℕ) → IsUnread (setting_of parts) (Main parts.clock) buffer → after_calls answers all_calls buffer ≡ []
    none_unread buffer unread =
        let W = with_rest (setting_of parts) (after_calls answers all_calls) (λ buffer. []) in
        let calls = calls_are_tick (λ buffer. []) in
        let none : answers_in buffer all_calls ≡ [] = ap (answers_in buffer) calls ∙ no_tick_takes W given.accepted parts.clock t buffer (record { none = unread.none }) in
        ap (λ (as' : List Answer). as' ++ answers_in buffer all_calls) (stands.others buffer unread) ∙ none

    kept_marks : (parts.cues.keeping ≡ false → suc t ≡ 0) → parts.cues.keeping ≡ true
    kept_marks none = not_false parts.cues.keeping (λ e. let wrong = none e in omega (arith, wrong))

    pub stands_after : EngineStands (after_tick parts other (parts.ticks + 1) parts.stopped) (suc t) (after_calls answers all_calls)
    stands_after = record {
      made = (let made = stands.made in omega (arith, made));
      runs = stands.runs;
      others = λ buffer unread. none_unread buffer (record { none = unread.none });
      state = λ rest.
          subst (λ W. ClockStateStands W (sub_of W) (Main parts.clock) (suc t * parts.scene.plan.now.frame) (after_calls answers all_calls) other.state) (world_is (setting_of parts) answers all_calls rest)
          (subst (λ (f : ℕ → List Answer). ClockStateStands (with_rest (setting_of parts) answers (behind_calls all_calls rest)) (sub_of (with_rest (setting_of parts) answers (behind_calls all_calls rest))) (Main parts.clock)
          (suc t * parts.scene.plan.now.frame) f other.state) front_is (state_after (behind_calls all_calls rest) (has_first rest)));
      gaps_are = λ rest k port at.
          gaps_after (behind_calls all_calls rest) (has_first rest) k port at ∙ ap (λ W. gaps W port.node (suc t)) (world_is (setting_of parts) answers all_calls rest);
      cues_are = λ new rest k port list at_port at_list.
          marks_after (behind_calls all_calls rest) (has_first rest) (kept_marks (λ e. new (heard.keeping ∙ e))) k port list at_port at_list
          ∙ ap (λ W. map mark_of (cues W port.node (suc t))) (world_is (setting_of parts) answers all_calls rest);
    }

    pub has_ticked : {X : Type 0} (told : X → SinkTold) (old new : List X) → length old ≡ length parts.ports.items → length new ≡ length old
        → TookAll told other.ports.items (length other.ports.items) old new
        → HasTicked (EngineStands (after_tick parts other (parts.ticks + 1) parts.stopped)) (setting_of parts) parts.clock t answers all_calls
        (held_in told (outputs_of (setting_of parts) parts.clock) old) (held_in told (outputs_of (setting_of parts) parts.clock) new)
    has_ticked told old new old_size new_size took =
        let in_ports : length other.ports.items ≡ length parts.ports.items = ap length heard.ports_are ∙ length-map parts.ports.items (λ port. after_slots (emptied port) (heard.slots port.node)) in
        record {
          accepted = given.accepted;
          are = calls_are_tick;
          stand = stands_after;
          grew = λ rest sink node output.
              subst (λ os. held_in told os new sink ≡ grown (tick_bytes (with_rest (setting_of parts) (after_calls answers all_calls) rest) output.wide node t) (held_in told os old sink)) outputs_are
              (held_grew told sink (tick_bytes (with_rest (setting_of parts) (after_calls answers all_calls) rest) output.wide node t) other.ports.items old new
              (old_size ∙ sym in_ports) (new_size ∙ old_size ∙ sym in_ports)
              (λ k port at same. bytes_after (behind_calls all_calls rest) (has_first rest) sink node output k port at same
              ∙ ap (λ W. tick_bytes W output.wide node t) (world_is (setting_of parts) answers all_calls rest)) took.each);
        }

  -- an output failed: no chunk was given
  pub has_stopped : {X : Type 0} (told : X → SinkTold) (old new : List X) → length old ≡ length parts.ports.items → length new ≡ length old
      → (place : ℕ) → BrokeAt told place other.ports.items old new
      → HasStopped (setting_of parts) parts.clock t answers heard.more (held_in told (outputs_of (setting_of parts) parts.clock) old) (held_in told (outputs_of (setting_of parts) parts.clock) new)
  has_stopped told old new old_size new_size place broke =
      let in_ports : length other.ports.items ≡ length parts.ports.items = ap length heard.ports_are ∙ length-map parts.ports.items (λ port. after_slots (emptied port) (heard.slots port.node)) in
      record {
        accepted = λ buffer. true;
        begun = λ rest.
            let S = with_rest (setting_of parts) answers (behind_calls heard.more rest) in
            subst (λ W. IsBegin heard.more (calls_of_tick W (λ buffer. true) parts.clock t)) (world_is (setting_of parts) answers heard.more rest)
            (begin_more heard.more (takes_of_tick S parts.clock t) (flat_map (give_by S (λ buffer. true) parts.clock t) S.plan.sinks)
            (subst (λ (cs : List Call). IsBegin heard.more cs) (takes_are (behind_calls heard.more rest) (world_has (setting_of parts) answers heard.more rest)) (begin_all heard.more)));
        part = λ rest sink node output.
            let S = with_rest (setting_of parts) answers (behind_calls heard.more rest) in
            let grew = subst (λ os. GrewPart (tick_bytes S output.wide node t) (held_in told os old sink) (held_in told os new sink)) outputs_are
            (held_part told sink (tick_bytes S output.wide node t) other.ports.items old new
            (old_size ∙ sym in_ports) (new_size ∙ old_size ∙ sym in_ports)
            (λ k port at same. bytes_after (behind_calls heard.more rest) (world_has (setting_of parts) answers heard.more rest) sink node output k port at same) (parts_grew told place other.ports.items old new broke)) in (
              grew.part,
              subst (λ W. IsPrefix grew.part (tick_bytes W output.wide node t)) (world_is (setting_of parts) answers heard.more rest) grew.front,
              grew.is,
            );
      }

  -- memory was refused at a feed: the outputs are whole
  pub has_stopped_giving : {X : Type 0} (told : X → SinkTold) (old new : List X) → length old ≡ length parts.ports.items → length new ≡ length old
      → TookAll told other.ports.items (length other.ports.items) old new → (c : T) (some : HaveGivenSome stands_for other.feeds.items b c)
      → HasStopped (setting_of parts) parts.clock t answers (heard.more ++ some.made) (held_in told (outputs_of (setting_of parts) parts.clock) old) (held_in told (outputs_of (setting_of parts) parts.clock) new)
  has_stopped_giving told old new old_size new_size took c some =
      let in_ports : length other.ports.items ≡ length parts.ports.items = ap length heard.ports_are ∙ length-map parts.ports.items (λ port. after_slots (emptied port) (heard.slots port.node)) in
      let made = heard.more ++ some.made in
      let first : (rest : ℕ → List Answer) → HasAnswers (with_rest (setting_of parts) answers (behind_calls made rest)) (after_calls answers heard.more) =
      λ rest. answers_first (with_rest (setting_of parts) answers (behind_calls made rest)) answers heard.more some.made (world_has (setting_of parts) answers made rest) in
      record {
        accepted = some.accepted;
        begun = λ rest.
            let S = with_rest (setting_of parts) answers (behind_calls made rest) in
            subst (λ W. IsBegin made (calls_of_tick W some.accepted parts.clock t)) (world_is (setting_of parts) answers made rest)
            (subst (λ (cs : List Call). IsBegin (cs ++ some.made) (takes_of_tick S parts.clock t ++ flat_map (give_by S some.accepted parts.clock t) S.plan.sinks)) (sym (takes_are (behind_calls made rest) (first rest)))
            (begin_behind (takes_of_tick S parts.clock t) some.made (flat_map (give_by S some.accepted parts.clock t) S.plan.sinks)
            (subst (λ (cs : List Call). IsBegin some.made cs) (gives_of (behind_calls made rest) (first rest) some.accepted) (some.begins own_feeds))));
        part = λ rest sink node output.
            let S = with_rest (setting_of parts) answers (behind_calls made rest) in (
              tick_bytes (with_rest (setting_of parts) (after_calls answers made) rest) output.wide node t,
              record { rest = []; whole_is = sym (append-nil (tick_bytes (with_rest (setting_of parts) (after_calls answers made) rest) output.wide node t)) },
              subst (λ os. held_in told os new sink ≡ grown (tick_bytes (with_rest (setting_of parts) (after_calls answers made) rest) output.wide node t) (held_in told os old sink)) outputs_are
                  (held_grew told sink (tick_bytes (with_rest (setting_of parts) (after_calls answers made) rest) output.wide node t) other.ports.items old new
                  (old_size ∙ sym in_ports) (new_size ∙ old_size ∙ sym in_ports)
                  (λ k port at same. bytes_after (behind_calls made rest) (first rest) sink node output k port at same ∙ ap (λ W. tick_bytes W output.wide node t) (world_is (setting_of parts) answers made rest)) took.each),
            );
      }

-- memory was refused within the instants: no output has grown
pub has_broken : (parts other : EngineParts) (fit : AreParts parts) {T : Type 0} (stands_for : T → List Call → Type 0) (a b : T)
    (heard : HeardSome stands_for parts.scene (Main parts.clock) parts.own.items parts.scene.plan.now.frame (hearing_of parts a) (hearing_of other b))
    (t : ℕ) (answers : ℕ → List Answer) → EngineStands parts t answers → {X : Type 0} (told : X → SinkTold) (outs : List X)
    → HasStopped (setting_of parts) parts.clock t answers heard.made (held_in told (outputs_of (setting_of parts) parts.clock) outs) (held_in told (outputs_of (setting_of parts) parts.clock) outs)
has_broken parts other fit stands_for a b heard t answers stands told outs = record {
  accepted = λ buffer. true;
  begun = λ rest.
      let S = with_rest (setting_of parts) answers (behind_calls heard.made rest) in
      subst (λ W. IsBegin heard.made (calls_of_tick W (λ buffer. true) parts.clock t)) (world_is (setting_of parts) answers heard.made rest)
      (begin_more heard.made (takes_of_tick S parts.clock t) (flat_map (give_by S (λ buffer. true) parts.clock t) S.plan.sinks)
      (heard.begins S (sub_of S) (t * parts.scene.plan.now.frame) answers (meant_by parts fit answers (behind_calls heard.made rest)) (world_has (setting_of parts) answers heard.made rest) (stands.state (behind_calls heard.made rest))));
  part = λ rest sink node output. (
    [],
    record { rest = tick_bytes (with_rest (setting_of parts) (after_calls answers heard.made) rest) output.wide node t; whole_is = refl },
    grown_none (held_in told (outputs_of (setting_of parts) parts.clock) outs sink),
  );
}
