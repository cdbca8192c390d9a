use Rattle.std.proofs.Common.{arith, ◌≡◌, ◌∙◌, [], length, slice_get, ap, refl, subst, sym}
use Rattle.std.proofs.lemmas.List.{with_items_is}
use Rattle.stream_meaning.specs.Instants.{first_instants}
use Rattle.node_states.proofs.Chunks.{adds_none}
use Rattle.clock_nodes.specs.States.{AllFit}
use Rattle.clock_nodes.specs.Scenes.{setting_over}
use Rattle.nested_instants.proofs.Restful.{resting_own}
use Rattle.nested_instants.proofs.Opened.{err_then, ok_then, opened_by, opened_stand, opening_some, starts_at, takes_within, within_stands, within_taken}
use Rattle.nested_instants.proofs.opening.begin_clock.Goals as goal

pub returns-clause-opened : goal.returns-clause-opened
returns-clause-opened g c = record {
  more = [];
  taps = adds_none g.T.Taps.stands c.args.taps.now;
  opened = λ other sub rank progress ranks own has stand needed at.
      let within = starts_at (setting_over c.args.scene.now other) sub c.args.clock (progress.ran c.args.clock) c.args.time c.begins_tick.result c.requires.frame at c.begins_tick.ensures ∙ c.if-begins_tick.false in
      record {
        stand = opened_stand (setting_over c.args.scene.now other) sub rank c.args.clock progress c.args.clocks.now stand needed ranks c.requires.scene.in_clocks own [] c.args.clocks.now
            (within_stands (setting_over c.args.scene.now other) sub rank c.args.clock progress c.args.clocks.now stand needed within)
            (within_taken (setting_over c.args.scene.now other) sub rank c.args.clock progress c.args.clocks.now stand needed within)
            (λ buffer none. refl) (λ i outside. refl) refl refl;
        calls = takes_within (setting_over c.args.scene.now other) c.args.clock (first_instants (setting_over c.args.scene.now other) sub c.args.clock (progress.ran c.args.clock)) within;
      };
}

pub returns-then-begins_tick-clause-opened : goal.returns-then-begins_tick-clause-opened
returns-then-begins_tick-clause-opened g c =
    let many : length c.begin_readers.new.states ≡ c.args.clocks.now.states.len = omega (arith, c.deref_mut.ensures.len) in
    ok_then c.begin_readers.result
    (opened_by g.T.Taps.stands c.args.scene.now c.args.clock c.args.time c.requires.frame
    (sym c.if-begins_tick.true ∙ c.begins_tick.ensures) c.args.clocks.now c.deref_mut.result.now c.args.taps.now c.begin_readers.new.taps c.deref_mut.ensures.value c.requires.scene.in_clocks _
    c.begin_readers.new.states (with_items_is c.args.clocks.now.states c.begin_readers.new.states many) refl refl c.begin_readers.ensures.others)
    c.begin_readers.ensures.begun

pub returns-then-begins_tick-clause-stopped : goal.returns-then-begins_tick-clause-stopped
returns-then-begins_tick-clause-stopped g c =
    err_then c.begin_readers.result
    (opening_some g.T.Taps.stands c.args.scene.now c.args.clock c.args.time c.requires.frame
    (sym c.if-begins_tick.true ∙ c.begins_tick.ensures) c.args.clocks.now c.deref_mut.result.now c.args.taps.now c.begin_readers.new.taps c.deref_mut.ensures.value)
    c.begin_readers.ensures.stopped

pub returns-then-begins_tick-clause-reads : goal.returns-then-begins_tick-clause-reads
returns-then-begins_tick-clause-reads g c = err_then c.begin_readers.result (λ has. has) c.begin_readers.ensures.reads

pub returns-then-begins_tick-clause-clocks : goal.returns-then-begins_tick-clause-clocks
returns-then-begins_tick-clause-clocks g c =
    let many : length c.begin_readers.new.states ≡ c.args.clocks.now.states.len = omega (arith, c.deref_mut.ensures.len) in
    let items = with_items_is c.args.clocks.now.states c.begin_readers.new.states many in
    record {
      fit = subst (AllFit c.args.scene.now) (sym items) c.begin_readers.ensures.fit;
      in_times = c.requires.clocks.in_times;
      chains = c.requires.clocks.chains;
      latest = c.requires.clocks.latest;
      room = c.requires.clocks.room;
      stretch_room = c.requires.clocks.stretch_room;
      resting = resting_own c.args.scene.now c.args.clocks.now _ c.requires.clocks.resting c.args.clock c.requires.idle (λ i. refl)
          (λ i outside. ap (λ xs. slice_get xs i) items ∙ c.begin_readers.ensures.others i outside ∙ ap (λ xs. slice_get xs i) c.deref_mut.ensures.value)
          (λ i outside. refl);
      rates = c.requires.clocks.rates;
      frames = c.requires.clocks.frames;
    }
