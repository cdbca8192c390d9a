use Rattle.std.proofs.Common.{◌≡◌, ◌+◌, suc, arith, sym, subst}
use Rattle.stream_meaning.specs.Instants.{first_instants}
use Rattle.stream_meaning.specs.Calls.{IsBegin, calls_of}
use Rattle.node_states.specs.Times.{TimeStands}
use Rattle.node_states.proofs.Chunks.{on_err}
use Rattle.clock_nodes.specs.Scenes.{setting_over}
use Rattle.clock_ticks.proofs.Segments.{segment_made, taken_by}
use Rattle.clock_ticks.proofs.clock_state.make_segment.Goals as goal

pub returns-clause-run : goal.returns-clause-run
returns-clause-run g c =
    segment_made g.T.Taps.stands _ _ _ c.args.state.now _ c.make_instant.new.clocks c.args.taps.now c.make_instant.new.taps c.make_stretch-many.result
    c.in_ok-make_instant.ensures.made c.make_stretch-many.ensures.run c.make_stretch-many.ensures.latest
    (λ start n stands.
    let sum : suc n + c.make_stretch-many.result ≡ n + suc c.make_stretch-many.result = omega arith in
    subst (λ m. TimeStands start m c.later-state.result) sum (c.later-state.ensures.stands start (suc n) (c.next.ensures.stands start n stands)))

pub returns-in_err-make_instant-clause-broken : goal.returns-in_err-make_instant-clause-broken
returns-in_err-make_instant-clause-broken g c =
    let one = c.in_err-make_instant.ensures.stopped in
    on_err c.from_residual.result (record {
      made = one.made;
      taps = one.taps;
      begins = λ setting sub n front meant has stand.
          let S = setting_over c.args.scene.now setting in
          subst (λ m. IsBegin one.made (calls_of S sub c.args.clock (first_instants S sub c.args.clock m))) stand.made
          (one.begins setting sub stand.rank stand.now (record { ranks = stand.ranks; meaning = meant.meaning; down = meant.down; readers = meant.readers; roots = meant.roots }) (taken_by S stand.now front one.made stand.took has) stand.stand stand.needed
          (subst (λ m. TimeStands setting.start m c.args.state.now.time) (sym stand.made) stand.time));
    })

pub returns-in_err-make_instant-clause-reads : goal.returns-in_err-make_instant-clause-reads
returns-in_err-make_instant-clause-reads g c = on_err c.from_residual.result c.in_err-make_instant.ensures.reads

pub make_instant-requires-clause-idle : goal.make_instant-requires-clause-idle
make_instant-requires-clause-idle g c = record { none = λ k e. absurd (c.requires.makes.main k e) }

pub make_stretch-many-requires-clause-idle : goal.make_stretch-many-requires-clause-idle
make_stretch-many-requires-clause-idle g c = record { none = λ k e. absurd (c.requires.makes.main k e) }
