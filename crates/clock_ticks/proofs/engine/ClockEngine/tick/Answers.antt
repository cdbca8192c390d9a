use Rattle.std.proofs.Common.{rules, ◌≡◌, ◌<◌, ◌+◌, ◌∙◌, ◌++◌, Some, length, slice_get, arith, ap, sym, refl, subst}
use Rattle.std.specs.Prelude.{IfErr}
use Rattle.std.proofs.lemmas.Option.{slice_get_read, slice_get_within}
use Rattle.clock_outputs.specs.Appends.{BrokeAt, HaveRoom, TookAll}
use Rattle.clock_ticks.specs.declared.fault.TickFault.TheVariants.{Memory, Write}
use Rattle.clock_ticks.specs.Engines.{AreParts, after_tick, setting_of}
use Rattle.clock_ticks.specs.Ticks.{HasEnds, HasFailed, HasMade, HaveTickRoom, HaveTicksRoom}
use Rattle.clock_ticks.proofs.Made.{as_many, failed_by, has_broken, has_stopped, has_stopped_giving, has_ticked, have_room, held_of_heard, held_of_some, output_at, parts_after, room_after, took_tick}
use Rattle.clock_ticks.proofs.Feeding.{feeds_some, feeds_within, if_fault, needs_ends}
use Rattle.clock_outputs.proofs.Gives.{adds_more, on_fault}
use Rattle.clock_ticks.proofs.Pieces.{once_all, once_none, once_upto, rose_at}
use Rattle.clock_ticks.proofs.engine.ClockEngine.tick.Goals as goal

pub append_all-requires-clause-room : goal.append_all-requires-clause-room
append_all-requires-clause-room g c =
    let room = subst (λ w. HaveTickRoom g.O.Sink.told w.parts w.outs) (sym c.self.view_is) c.requires.room in
    let h = c.in_ok-run_or_stop.ensures.heard in
    subst (λ ports. HaveRoom g.O.Sink.told ports c.self.inside.outs.items) (sym c.deref.ensures.value)
    (have_room c.self.inside.parts c.run_or_stop.new.parts c.self.invariant.parts c.run_or_stop.ensures.state h.slots h.ports_are h.long g.O.Sink.told c.self.inside.outs.items room)

pub index-requires : goal.index-requires
index-requires g c =
    let h = c.in_ok-run_or_stop.ensures.heard in
    let within : c.in-Err.place < length c.self.inside.outs.items = slice_get_within c.self.inside.outs.items c.in-Err.place c.in-Err.ensures.broke.before c.in-Err.ensures.broke.was in
    let many = as_many c.self.inside.parts c.run_or_stop.new.parts c.self.invariant.parts c.run_or_stop.ensures.state h.slots h.ports_are in
    omega (arith, within, c.self.invariant.sinks, many, c.deref.ensures.len, ap length c.deref.ensures.value)

pub invariant_of-self-in-Err : goal.invariant_of-self-in-Err
invariant_of-self-in-Err g c =
    let h = c.in_ok-run_or_stop.ensures.heard in
    record {
      parts =
          subst AreParts (sym (ap (λ w. after_tick w c.run_or_stop.new.parts c.run_or_stop.new.parts.ticks (Some (Write c.index.result.now.sink))) c.in_ok-run_or_stop.ensures.kept))
          (parts_after c.self.inside.parts c.run_or_stop.new.parts c.self.invariant.parts c.run_or_stop.ensures.state h.slots h.ports_are c.run_or_stop.new.parts.ticks (Some (Write c.index.result.now.sink)) c.run_or_stop.ensures.feeds c.run_or_stop.ensures.frames h.lists);
      sinks = c.append_all.ensures.sizes ∙ c.self.invariant.sinks ∙ sym (as_many c.self.inside.parts c.run_or_stop.new.parts c.self.invariant.parts c.run_or_stop.ensures.state h.slots h.ports_are);
    }

pub returns-in-Err-clause-stopped : goal.returns-in-Err-clause-stopped
returns-in-Err-clause-stopped g c =
    let few : c.self.inside.parts.ticks < 1000000000 = (let same = ap (λ w. w.parts.ticks) c.self.view_is in omega (arith, same, c.requires.few)) in
    let h = c.in_ok-run_or_stop.ensures.heard in
    rw (← c.self.view_is) (
    subst (λ w. HasFailed g.O.Sink.told g.T.Taps.stands c.self.inside.parts w c.self.inside.outs.items c.append_all.new.outs.items c.args.taps.now c.run_or_stop.new.taps)
    (sym (ap (λ w. after_tick w c.run_or_stop.new.parts w.ticks (Some (Write c.index.result.now.sink))) c.in_ok-run_or_stop.ensures.kept))
    (failed_by c.self.inside.parts c.run_or_stop.new.parts c.self.invariant.parts c.run_or_stop.ensures.state h.slots h.ports_are g.O.Sink.told g.T.Taps.stands c.self.inside.outs.items c.append_all.new.outs.items
    c.args.taps.now c.run_or_stop.new.taps h.more (Write c.index.result.now.sink)
    (held_of_heard g.T.Taps.stands c.self.inside.parts c.run_or_stop.new.parts c.args.taps.now c.run_or_stop.new.taps c.self.invariant.parts h)
    (λ t answers stands.
    has_stopped c.self.inside.parts c.run_or_stop.new.parts c.self.invariant.parts g.T.Taps.stands c.args.taps.now c.run_or_stop.new.taps h t answers stands few g.O.Sink.told
    c.self.inside.outs.items c.append_all.new.outs.items c.self.invariant.sinks c.append_all.ensures.sizes
    c.in-Err.place
    (subst (λ ports. BrokeAt g.O.Sink.told c.in-Err.place ports c.self.inside.outs.items c.append_all.new.outs.items) c.deref.ensures.value c.in-Err.ensures.broke))
    h.taps))

pub returns-in-Err-clause-cause : goal.returns-in-Err-clause-cause
returns-in-Err-clause-cause g c = λ sink is.
    rw (← c.self.view_is) (
    let h = c.in_ok-run_or_stop.ensures.heard in
    let within : c.in-Err.place < length c.self.inside.outs.items = slice_get_within c.self.inside.outs.items c.in-Err.place c.in-Err.ensures.broke.before c.in-Err.ensures.broke.was in
    let many = as_many c.self.inside.parts c.run_or_stop.new.parts c.self.invariant.parts c.run_or_stop.ensures.state h.slots h.ports_are in
    let here : c.in-Err.place < length c.run_or_stop.new.parts.ports.items = omega (arith, within, c.self.invariant.sinks, many) in
    let at : slice_get c.run_or_stop.new.parts.ports.items c.in-Err.place ≡ Some c.index.result.now = slice_get_read _ _ _ _ refl here c.index.ensures in
    let output = output_at c.self.inside.parts c.run_or_stop.new.parts c.self.invariant.parts c.run_or_stop.ensures.state h.slots h.ports_are c.in-Err.place c.index.result.now at in
    record {
      place = c.in-Err.place;
      sink = c.index.result.now.sink;
      node = output.0;
      there = output.1;
      fault_is = refl;
      rose = rose_at g.O.Sink.told c.in-Err.place c.deref.result.now c.self.inside.outs.items c.append_all.new.outs.items c.in-Err.ensures.broke;
      once = once_upto g.O.Sink.told c.in-Err.place c.deref.result.now c.self.inside.outs.items c.append_all.new.outs.items c.in-Err.ensures.broke;
    })

pub returns-in-Err-clause-part : goal.returns-in-Err-clause-part
returns-in-Err-clause-part g c =
    rw (← c.self.view_is) (record {
      count = c.in-Err.place + 1;
      got = once_upto g.O.Sink.told c.in-Err.place c.deref.result.now c.self.inside.outs.items c.append_all.new.outs.items c.in-Err.ensures.broke;
    })

pub returns-in_err-run_or_stop-clause-part : goal.returns-in_err-run_or_stop-clause-part
returns-in_err-run_or_stop-clause-part g c =
    on_fault c.from_residual.result (rw (← c.self.view_is) (record { count = 0; got = once_none g.O.Sink.told c.self.inside.outs.items }))

pub returns-in_err-give_or_stop-clause-part : goal.returns-in_err-give_or_stop-clause-part
returns-in_err-give_or_stop-clause-part g c =
    let took : TookAll g.O.Sink.told c.deref.result.now (length c.deref.result.now) c.self.inside.outs.items c.append_all.new.outs.items = search rules in
    on_fault c.from_residual-in_err-give_or_stop.result
    (rw (← c.self.view_is) (record {
      count = length c.deref.result.now;
      got = once_all g.O.Sink.told c.deref.result.now c.self.inside.outs.items c.append_all.new.outs.items took;
    }))

pub invariant_of-self-2 : goal.invariant_of-self-2
invariant_of-self-2 g c =
    let h = c.in_ok-run_or_stop.ensures.heard in
    record {
      parts =
          subst AreParts (sym (ap (λ w. after_tick w w (w.ticks + 1) w.stopped) c.in_ok-give_or_stop.ensures.kept
          ∙ ap (λ w. after_tick w c.run_or_stop.new.parts (w.ticks + 1) w.stopped) c.in_ok-run_or_stop.ensures.kept))
          (parts_after c.self.inside.parts c.run_or_stop.new.parts c.self.invariant.parts c.run_or_stop.ensures.state h.slots h.ports_are (c.self.inside.parts.ticks + 1) c.self.inside.parts.stopped c.run_or_stop.ensures.feeds c.run_or_stop.ensures.frames h.lists);
      sinks = c.append_all.ensures.sizes ∙ c.self.invariant.sinks ∙ sym (as_many c.self.inside.parts c.run_or_stop.new.parts c.self.invariant.parts c.run_or_stop.ensures.state h.slots h.ports_are) ∙ ap (λ w. length w.ports.items) (sym c.in_ok-give_or_stop.ensures.kept);
    }

pub returns-clause-ticked : goal.returns-clause-ticked
returns-clause-ticked g c =
    rw (← c.self.view_is) (
    let few : c.self.inside.parts.ticks < 1000000000 = (let same = ap (λ w. w.parts.ticks) c.self.view_is in omega (arith, same, c.requires.few)) in
    let h = c.in_ok-run_or_stop.ensures.heard in
    let v = c.in_ok-give_or_stop.ensures.given in
    let took : TookAll g.O.Sink.told c.deref.result.now (length c.deref.result.now) c.self.inside.outs.items c.append_all.new.outs.items = search rules in
    subst (λ w. HasMade g.O.Sink.told g.T.Taps.stands c.self.inside.parts w c.self.inside.outs.items c.append_all.new.outs.items c.args.taps.now c.give_or_stop.new.taps)
    (sym (ap (λ w. after_tick w w (w.ticks + 1) w.stopped) c.in_ok-give_or_stop.ensures.kept
    ∙ ap (λ w. after_tick w c.run_or_stop.new.parts (w.ticks + 1) w.stopped) c.in_ok-run_or_stop.ensures.kept))
    (record {
      more = h.more ++ v.more;
      engine = λ t answers stands.
          has_ticked c.self.inside.parts c.run_or_stop.new.parts c.self.invariant.parts g.T.Taps.stands c.args.taps.now c.run_or_stop.new.taps h t answers stands few c.give_or_stop.new.taps v
          g.O.Sink.told c.self.inside.outs.items c.append_all.new.outs.items c.self.invariant.sinks c.append_all.ensures.sizes
          (subst (λ ports. TookAll g.O.Sink.told ports (length ports) c.self.inside.outs.items c.append_all.new.outs.items) c.deref.ensures.value took);
      taps = adds_more g.T.Taps.stands c.args.taps.now c.run_or_stop.new.taps c.give_or_stop.new.taps h.more v.more h.taps v.taps;
    })
    )

pub returns-in_err-give_or_stop-clause-stopped : goal.returns-in_err-give_or_stop-clause-stopped
returns-in_err-give_or_stop-clause-stopped g c =
    let few : c.self.inside.parts.ticks < 1000000000 = (let same = ap (λ w. w.parts.ticks) c.self.view_is in omega (arith, same, c.requires.few)) in
    let h = c.in_ok-run_or_stop.ensures.heard in
    let v = c.in_err-give_or_stop.ensures.stopped in
    let took : TookAll g.O.Sink.told c.deref.result.now (length c.deref.result.now) c.self.inside.outs.items c.append_all.new.outs.items = search rules in
    on_fault c.from_residual-in_err-give_or_stop.result
    (rw (← c.self.view_is) (
    subst (λ w. HasFailed g.O.Sink.told g.T.Taps.stands c.self.inside.parts w c.self.inside.outs.items c.append_all.new.outs.items c.args.taps.now c.give_or_stop.new.taps)
    (sym (c.in_err-give_or_stop.ensures.ended.1 ∙ ap (λ w. after_tick w c.run_or_stop.new.parts w.ticks (Some Memory)) c.in_ok-run_or_stop.ensures.kept))
    (failed_by c.self.inside.parts c.run_or_stop.new.parts c.self.invariant.parts c.run_or_stop.ensures.state h.slots h.ports_are g.O.Sink.told g.T.Taps.stands c.self.inside.outs.items c.append_all.new.outs.items
    c.args.taps.now c.give_or_stop.new.taps (h.more ++ v.made) Memory
    (held_of_heard g.T.Taps.stands c.self.inside.parts c.run_or_stop.new.parts c.args.taps.now c.run_or_stop.new.taps c.self.invariant.parts h)
    (λ t answers stands.
    has_stopped_giving c.self.inside.parts c.run_or_stop.new.parts c.self.invariant.parts g.T.Taps.stands c.args.taps.now c.run_or_stop.new.taps h t answers stands few
    g.O.Sink.told c.self.inside.outs.items c.append_all.new.outs.items c.self.invariant.sinks c.append_all.ensures.sizes
    (subst (λ ports. TookAll g.O.Sink.told ports (length ports) c.self.inside.outs.items c.append_all.new.outs.items) c.deref.ensures.value took) c.give_or_stop.new.taps v)
    (adds_more g.T.Taps.stands c.args.taps.now c.run_or_stop.new.taps c.give_or_stop.new.taps h.more v.made h.taps v.taps))))

pub returns-in_err-run_or_stop-clause-stopped : goal.returns-in_err-run_or_stop-clause-stopped
returns-in_err-run_or_stop-clause-stopped g c =
    let h = c.in_err-run_or_stop.ensures.stopped in
    on_fault c.from_residual.result
    (rw (← c.self.view_is) (
    subst (λ w. HasFailed g.O.Sink.told g.T.Taps.stands c.self.inside.parts w c.self.inside.outs.items c.self.inside.outs.items c.args.taps.now c.run_or_stop.new.taps) (sym c.in_err-run_or_stop.ensures.ended.1)
    (failed_by c.self.inside.parts c.run_or_stop.new.parts c.self.invariant.parts c.run_or_stop.ensures.state h.slots h.ports_are g.O.Sink.told g.T.Taps.stands c.self.inside.outs.items c.self.inside.outs.items
    c.args.taps.now c.run_or_stop.new.taps h.made Memory
    (held_of_some g.T.Taps.stands c.self.inside.parts c.run_or_stop.new.parts c.args.taps.now c.run_or_stop.new.taps h)
    (λ t answers stands.
    has_broken c.self.inside.parts c.run_or_stop.new.parts c.self.invariant.parts g.T.Taps.stands c.args.taps.now c.run_or_stop.new.taps h t answers stands g.O.Sink.told c.self.inside.outs.items)
    h.taps)))

pub returns-clause-took : goal.returns-clause-took
returns-clause-took g c =
    rw (← c.self.view_is) (
    let h = c.in_ok-run_or_stop.ensures.heard in
    let took : TookAll g.O.Sink.told c.deref.result.now (length c.deref.result.now) c.self.inside.outs.items c.append_all.new.outs.items = search rules in
    took_tick c.self.inside.parts c.run_or_stop.new.parts c.self.invariant.parts c.run_or_stop.ensures.state h.slots h.ports_are h.long g.O.Sink.told
    c.self.inside.outs.items c.append_all.new.outs.items
    (c.self.invariant.sinks ∙ sym (as_many c.self.inside.parts c.run_or_stop.new.parts c.self.invariant.parts c.run_or_stop.ensures.state h.slots h.ports_are))
    (subst (λ ports. TookAll g.O.Sink.told ports (length ports) c.self.inside.outs.items c.append_all.new.outs.items) c.deref.ensures.value took)
    )

pub returns-clause-room : goal.returns-clause-room
returns-clause-room g c ticks all =
    let h = c.in_ok-run_or_stop.ensures.heard in
    let took : TookAll g.O.Sink.told c.deref.result.now (length c.deref.result.now) c.self.inside.outs.items c.append_all.new.outs.items = search rules in
    subst (λ w. HaveTicksRoom g.O.Sink.told w c.append_all.new.outs.items ticks)
    (sym (ap (λ w. after_tick w w (w.ticks + 1) w.stopped) c.in_ok-give_or_stop.ensures.kept
    ∙ ap (λ w. after_tick w c.run_or_stop.new.parts (w.ticks + 1) w.stopped) c.in_ok-run_or_stop.ensures.kept))
    (room_after c.self.inside.parts c.run_or_stop.new.parts c.self.invariant.parts c.run_or_stop.ensures.state h.slots h.ports_are h.long g.O.Sink.told
    c.self.inside.outs.items c.append_all.new.outs.items c.self.invariant.sinks c.append_all.ensures.sizes
    (subst (λ ports. TookAll g.O.Sink.told ports (length ports) c.self.inside.outs.items c.append_all.new.outs.items) c.deref.ensures.value took)
    c.self.inside.parts.stopped (c.self.inside.parts.ticks + 1) ticks
    (subst (λ w. HaveTicksRoom g.O.Sink.told w.parts w.outs (ticks + 1)) (sym c.self.view_is) all))

pub give_or_stop-requires : goal.give_or_stop-requires
give_or_stop-requires g c =
    let buffers = subst (λ w. g.T.Taps.buffers c.args.taps.now ≡ length w.parts.scene.plan.now.buffers) (sym c.self.view_is) c.requires.buffers in
    feeds_within (setting_of c.self.inside.parts) c.self.inside.parts.clock (g.T.Taps.buffers c.run_or_stop.new.taps) c.self.invariant.parts.plan (c.run_or_stop.ensures.buffers ∙ buffers)
    c.run_or_stop.new.parts.feeds.items (c.run_or_stop.ensures.feeds ∙ c.self.invariant.parts.feeds)

pub invariant_of-self : goal.invariant_of-self
invariant_of-self g c =
    let h = c.in_err-run_or_stop.ensures.stopped in
    let ended = c.in_err-run_or_stop.ensures.ended in
    record {
      parts =
          subst AreParts (sym ended.1)
          (parts_after c.self.inside.parts c.run_or_stop.new.parts c.self.invariant.parts c.run_or_stop.ensures.state h.slots h.ports_are c.self.inside.parts.ticks (Some Memory) c.run_or_stop.ensures.feeds c.run_or_stop.ensures.frames h.lists);
      sinks = c.self.invariant.sinks ∙ sym (as_many c.self.inside.parts c.run_or_stop.new.parts c.self.invariant.parts c.run_or_stop.ensures.state h.slots h.ports_are) ∙ ap (λ w. length w.ports.items) (sym ended.1);
    }

pub invariant_of-self-in_err-give_or_stop : goal.invariant_of-self-in_err-give_or_stop
invariant_of-self-in_err-give_or_stop g c =
    let h = c.in_ok-run_or_stop.ensures.heard in
    let ended = c.in_err-give_or_stop.ensures.ended in
    record {
      parts =
          subst AreParts (sym (ended.1 ∙ ap (λ w. after_tick w c.run_or_stop.new.parts w.ticks (Some Memory)) c.in_ok-run_or_stop.ensures.kept))
          (parts_after c.self.inside.parts c.run_or_stop.new.parts c.self.invariant.parts c.run_or_stop.ensures.state h.slots h.ports_are c.self.inside.parts.ticks (Some Memory) c.run_or_stop.ensures.feeds c.run_or_stop.ensures.frames h.lists);
      sinks = c.append_all.ensures.sizes ∙ c.self.invariant.sinks ∙ sym (as_many c.self.inside.parts c.run_or_stop.new.parts c.self.invariant.parts c.run_or_stop.ensures.state h.slots h.ports_are) ∙ ap (λ w. length w.ports.items) (sym ended.1);
    }

pub returns-in_err-run_or_stop-clause-memory : goal.returns-in_err-run_or_stop-clause-memory
returns-in_err-run_or_stop-clause-memory g c =
    subst (λ w. IfErr c.from_residual.result (λ fault. fault ≡ Memory → HasEnds w.parts)) c.self.view_is
    (if_fault (λ fault. fault ≡ Memory → HasEnds c.self.inside.parts) c.from_residual.result (λ fault is. needs_ends c.self.inside.parts c.in_err-run_or_stop.ensures.needs))

pub returns-in_err-give_or_stop-clause-memory : goal.returns-in_err-give_or_stop-clause-memory
returns-in_err-give_or_stop-clause-memory g c =
    subst (λ w. IfErr c.from_residual-in_err-give_or_stop.result (λ fault. fault ≡ Memory → HasEnds w.parts)) c.self.view_is
    (if_fault (λ fault. fault ≡ Memory → HasEnds c.self.inside.parts) c.from_residual-in_err-give_or_stop.result
    (λ fault is. feeds_some c.self.inside.parts c.run_or_stop.new.parts (c.run_or_stop.ensures.feeds ∙ c.self.invariant.parts.feeds) c.in_err-give_or_stop.ensures.feeds))

pub returns-in-Err-clause-memory : goal.returns-in-Err-clause-memory
returns-in-Err-clause-memory g c is = absurd cc
