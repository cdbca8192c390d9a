use Rattle.std.proofs.Common.{◌≡◌, ◌<◌, ◌≤◌, ◌-◌, ◌+◌, ◌∙◌, ℕ, suc, List, All, length, map, slice_get, ap, sym, arith, refl, subst, inl, inr}
use Rattle.frame_core.specs.Slots.{Slot}
use Rattle.clock_outputs.specs.declared.port.Port.{Port}
use Rattle.clock_outputs.specs.declared.feed.FeedPort.{FeedPort}
use Rattle.clock_outputs.specs.Ports.{AllHaveRoomLeft, after_slots}
use Rattle.clock_outputs.specs.Feeds.{AllHaveFeedRoom, fed}
use Rattle.node_states.proofs.Chunks.{on_err}
use Rattle.std.proofs.lemmas.List.{length-map}
use Rattle.clock_ticks.specs.Hearings.{Heard, feed_key, segment_of}
use Rattle.clock_ticks.proofs.Cueing.{its_port}
use Rattle.clock_ticks.proofs.Hearing.{feed_room_left, feed_room_less, feeds_within, frames_fed, frames_unfed, heard_broken, heard_more, heard_part, heard_none, keys_fed, keys_unfed, ports_within, room_left, room_less, unfed_room}
use Rattle.clock_ticks.proofs.Segments.{segment_long}
use Rattle.clock_ticks.proofs.run.run_tick.Goals as goal

pub loop-instant-init : goal.loop-instant-init
loop-instant-init g c = record {
  low = omega arith;
  state = c.requires.makes.state_is;
  room = (let all : c.args.scene.now.plan.now.frame ≡ c.args.scene.now.plan.now.frame - 0 = omega arith in
      subst (λ n. AllHaveRoomLeft n c.begin_tick.new.ports.items) all
      (subst (λ ports. AllHaveRoomLeft c.args.scene.now.plan.now.frame ports) (sym c.begin_tick.ensures) c.requires.hearing.room));
  feed_room = (let all : c.args.scene.now.plan.now.frame ≡ c.args.scene.now.plan.now.frame - 0 = omega arith in
      subst (λ n. AllHaveFeedRoom n c.begin_feeds.new.feeds.items) all
      (subst (λ feeds. AllHaveFeedRoom c.args.scene.now.plan.now.frame feeds) (sym c.begin_feeds.ensures) (unfed_room c.args.scene.now.plan.now.frame c.args.feeds.now.items c.requires.hearing.frames)));
  frames = subst (λ feeds. All (λ feed. c.args.scene.now.plan.now.frame ≤ feed.frame.room) feeds) (sym c.begin_feeds.ensures) (frames_unfed c.args.scene.now.plan.now.frame c.args.feeds.now.items c.requires.hearing.frames);
  keys = ap (map feed_key) c.begin_feeds.ensures ∙ keys_unfed c.args.feeds.now.items;
  buffers = refl;
  same = g.met.T.Taps.same_refl c.args.taps.now;
  heard = heard_none g.T.Taps.stands _ _ _ c.args.state.now c.args.ports.now.items c.begin_tick.new.ports.items c.args.feeds.now.items c.begin_feeds.new.feeds.items c.args.cues.now c.begin_cues.new.cues c.args.start c.args.taps.now c.begin_tick.ensures c.begin_feeds.ensures
      c.begin_cues.ensures.keeping c.begin_cues.ensures.size c.begin_cues.ensures.marked;
}

pub hear_all-requires-clause-within : goal.hear_all-requires-clause-within
hear_all-requires-clause-within g c =
    subst (λ n. All (λ port. port.node < n) c.loop-instant.ports.items) (sym c.len-nodes.ensures)
    (ports_within (length c.args.scene.now.plan.now.nodes) c.loop-instant.invariant.heard.slots c.args.ports.now.items c.loop-instant.ports.items c.loop-instant.invariant.heard.ports_are c.requires.hearing.heard)

pub hear_all-requires-clause-room : goal.hear_all-requires-clause-room
hear_all-requires-clause-room g c =
    let many = c.in_ok-many.many in
    let short : many ≤ c.args.scene.now.plan.now.frame - c.loop-instant.instant - 1 = omega (arith, c.in_ok-many.ensures.within, c.min-most.ensures) in
    let less : suc many ≤ c.args.scene.now.plan.now.frame - c.loop-instant.instant = omega (arith, short, c.loop-instant-test.true) in
    room_less (suc many) (c.args.scene.now.plan.now.frame - c.loop-instant.instant) c.loop-instant.ports.items less c.loop-instant.invariant.room

pub feed_all-requires-clause-within : goal.feed_all-requires-clause-within
feed_all-requires-clause-within g c =
    subst (λ n. All (λ feed. feed.node < n) c.loop-instant.feeds.items) (sym c.len-nodes.ensures)
    (feeds_within (length c.args.scene.now.plan.now.nodes) c.loop-instant.invariant.heard.slots c.args.feeds.now.items c.loop-instant.feeds.items c.loop-instant.invariant.heard.feeds_are c.requires.hearing.fed)

pub feed_all-requires-clause-room : goal.feed_all-requires-clause-room
feed_all-requires-clause-room g c =
    let many = c.in_ok-many.many in
    let short : many ≤ c.args.scene.now.plan.now.frame - c.loop-instant.instant - 1 = omega (arith, c.in_ok-many.ensures.within, c.min-most.ensures) in
    let less : suc many ≤ c.args.scene.now.plan.now.frame - c.loop-instant.instant = omega (arith, short, c.loop-instant-test.true) in
    feed_room_less (suc many) (c.args.scene.now.plan.now.frame - c.loop-instant.instant) c.loop-instant.feeds.items less c.loop-instant.invariant.feed_room

pub loop-instant-preserved : goal.loop-instant-preserved
loop-instant-preserved g c =
    let frame = c.args.scene.now.plan.now.frame in
    let many = c.in_ok-many.many in
    let instant = c.loop-instant.instant in
    let short : many ≤ frame - instant - 1 = omega (arith, c.in_ok-many.ensures.within, c.min-most.ensures) in
    let low : instant + suc many ≤ frame = omega (arith, short, c.loop-instant-test.true) in
    let left : frame - instant ≡ suc many + (frame - (instant + (1 + many))) = omega (arith, low) in
    let next : instant + (1 + many) ≡ instant + suc many = omega arith in
    let clocks = c.make_segment.new.state.clocks in
    let slots : ℕ → List Slot = segment_of clocks many in
    let long = segment_long clocks many in
    let is : c.hear_all.new.ports.items ≡ map (λ (port : Port). after_slots port (slots port.node)) c.loop-instant.ports.items = c.hear_all.ensures in
    let filled : c.feed_all.new.feeds.items ≡ map (λ (feed : FeedPort). fed feed (slots feed.node)) c.loop-instant.feeds.items = c.feed_all.ensures in
    record {
      low = omega (arith, low, next);
      state = c.make_segment.ensures.state;
      room = subst (λ ports. AllHaveRoomLeft (frame - (instant + (1 + many))) ports) (sym is)
          (room_left (suc many) (frame - (instant + (1 + many))) (λ port. slots port.node) (λ port. long port.node) c.loop-instant.ports.items
          (subst (λ n. AllHaveRoomLeft n c.loop-instant.ports.items) left c.loop-instant.invariant.room));
      feed_room = subst (λ feeds. AllHaveFeedRoom (frame - (instant + (1 + many))) feeds) (sym filled)
          (feed_room_left (suc many) (frame - (instant + (1 + many))) (λ feed. slots feed.node) (λ feed. long feed.node) c.loop-instant.feeds.items
          (subst (λ n. AllHaveFeedRoom n c.loop-instant.feeds.items) left c.loop-instant.invariant.feed_room));
      frames = subst (λ feeds. All (λ feed. frame ≤ feed.frame.room) feeds) (sym filled) (frames_fed frame (λ feed. slots feed.node) c.loop-instant.feeds.items c.loop-instant.invariant.frames);
      keys = ap (map feed_key) filled ∙ keys_fed (λ feed. slots feed.node) c.loop-instant.feeds.items ∙ c.loop-instant.invariant.keys;
      buffers = c.make_segment.ensures.buffers ∙ c.loop-instant.invariant.buffers;
      same = g.met.T.Taps.same_trans c.args.taps.now c.loop-instant.taps c.make_segment.new.taps c.loop-instant.invariant.same c.make_segment.ensures.same;
      heard = heard_more g.T.Taps.stands _ _ _ instant many (instant + (1 + many)) _ _ _ next c.in_ok-many.ensures.run is c.loop-instant.invariant.heard filled long c.mark_all.ensures.keeping c.mark_all.ensures.size
          (λ k port old new at_port at_old at_new. c.in_ok-mark_all.ensures.kept k port old new (ap (λ ps. slice_get ps k) c.deref.ensures.value ∙ at_port) at_old at_new);
    }

pub returns-in_err-many-clause-stopped : goal.returns-in_err-many-clause-stopped
returns-in_err-many-clause-stopped g c =
    on_err c.from_residual.result (heard_broken g.T.Taps.stands _ _ _ c.loop-instant.instant c.args.scene.now.plan.now.frame _ _ _ c.loop-instant-test.true c.in_err-many.ensures.broken refl refl
    (λ k list at. its_port c.args.cues.now.lists.items c.args.ports.now.items c.requires.hearing.marks k list at) c.loop-instant.invariant.heard)

pub returns-clause-heard : goal.returns-clause-heard
returns-clause-heard g c =
    let all : c.loop-instant.instant ≡ c.args.scene.now.plan.now.frame = omega (arith, c.loop-instant.invariant.low, c.loop-instant-test.false) in
    subst (λ n. Heard g.T.Taps.stands c.args.scene.now c.args.clock c.args.own.now n
    (record { state = c.args.state.now; ports = c.args.ports.now.items; feeds = c.args.feeds.now.items; cues = c.args.cues.now; start = c.args.start; taps = c.args.taps.now })
    (record { state = c.loop-instant.state; ports = c.loop-instant.ports.items; feeds = c.loop-instant.feeds.items; cues = c.loop-instant.cues; start = c.args.start; taps = c.loop-instant.taps })) all c.loop-instant.invariant.heard

pub returns-in_err-many-clause-needs : goal.returns-in_err-many-clause-needs
returns-in_err-many-clause-needs g c = on_err c.from_residual.result (inl c.in_err-many.ensures.reads)

pub mark_all-requires : goal.mark_all-requires
mark_all-requires g c =
    let lists = c.loop-instant.invariant.heard.lists in
    let many : c.hear_all.new.ports.items ≡ map (λ (port : Port). after_slots port (segment_of c.make_segment.new.state.clocks c.in_ok-many.many port.node)) c.loop-instant.ports.items = c.hear_all.ensures in
    record {
      sizes = lists ∙ c.requires.hearing.marks
          ∙ sym (ap length c.deref.ensures.value ∙ ap length many ∙ length-map c.loop-instant.ports.items _ ∙ ap length c.loop-instant.invariant.heard.ports_are ∙ length-map c.args.ports.now.items _);
    }

pub returns-in_err-mark_all-clause-stopped : goal.returns-in_err-mark_all-clause-stopped
returns-in_err-mark_all-clause-stopped g c =
    let frame = c.args.scene.now.plan.now.frame in
    let many = c.in_ok-many.many in
    let instant = c.loop-instant.instant in
    let short : many ≤ frame - instant - 1 = omega (arith, c.in_ok-many.ensures.within, c.min-most.ensures) in
    on_err c.from_residual-in_err-mark_all.result
    (heard_part g.T.Taps.stands _ _ _ instant many (instant + suc many) _ _ _ refl c.in_ok-many.ensures.run c.hear_all.ensures c.loop-instant.invariant.heard frame
    (omega (arith, short, c.loop-instant-test.true)) c.mark_all.ensures.keeping c.mark_all.ensures.size c.mark_all.ensures.grown
    (λ k list at. its_port c.args.cues.now.lists.items c.args.ports.now.items c.requires.hearing.marks k list at))

pub returns-in_err-mark_all-clause-needs : goal.returns-in_err-mark_all-clause-needs
returns-in_err-mark_all-clause-needs g c =
    on_err c.from_residual-in_err-mark_all.result (inr (sym c.loop-instant.invariant.heard.keeping ∙ c.in_err-mark_all.ensures.memory))

pub returns-in_err-mark_all-clause-frames : goal.returns-in_err-mark_all-clause-frames
returns-in_err-mark_all-clause-frames g c =
    let slots : ℕ → List Slot = segment_of c.make_segment.new.state.clocks c.in_ok-many.many in
    let filled : c.feed_all.new.feeds.items ≡ map (λ (feed : FeedPort). fed feed (slots feed.node)) c.loop-instant.feeds.items = c.feed_all.ensures in
    subst (λ feeds. All (λ feed. c.args.scene.now.plan.now.frame ≤ feed.frame.room) feeds) (sym filled)
    (frames_fed c.args.scene.now.plan.now.frame (λ feed. slots feed.node) c.loop-instant.feeds.items c.loop-instant.invariant.frames)

pub returns-in_err-mark_all-clause-keys : goal.returns-in_err-mark_all-clause-keys
returns-in_err-mark_all-clause-keys g c =
    let slots : ℕ → List Slot = segment_of c.make_segment.new.state.clocks c.in_ok-many.many in
    let filled : c.feed_all.new.feeds.items ≡ map (λ (feed : FeedPort). fed feed (slots feed.node)) c.loop-instant.feeds.items = c.feed_all.ensures in
    ap (map feed_key) filled ∙ keys_fed (λ feed. slots feed.node) c.loop-instant.feeds.items ∙ c.loop-instant.invariant.keys

pub returns-in_err-mark_all-clause-buffers : goal.returns-in_err-mark_all-clause-buffers
returns-in_err-mark_all-clause-buffers g c = c.make_segment.ensures.buffers ∙ c.loop-instant.invariant.buffers

pub returns-in_err-mark_all-clause-same : goal.returns-in_err-mark_all-clause-same
returns-in_err-mark_all-clause-same g c = g.met.T.Taps.same_trans c.args.taps.now c.loop-instant.taps c.make_segment.new.taps c.loop-instant.invariant.same c.make_segment.ensures.same

pub returns-in_err-mark_all-clause-keeping : goal.returns-in_err-mark_all-clause-keeping
returns-in_err-mark_all-clause-keeping g c = c.mark_all.ensures.keeping ∙ c.loop-instant.invariant.heard.keeping

pub returns-in_err-many-clause-keeping : goal.returns-in_err-many-clause-keeping
returns-in_err-many-clause-keeping g c = c.loop-instant.invariant.heard.keeping

pub returns-clause-keeping : goal.returns-clause-keeping
returns-clause-keeping g c = c.loop-instant.invariant.heard.keeping
