use Rattle.std.proofs.Common.{◌∙◌, [], length, refl}
use Rattle.stream_meaning.specs.Instants.{Setting, with_rest}
use Rattle.clock_ticks.specs.Beginnings.{IsNewPort}
use Rattle.clock_ticks.proofs.Numbered.{all_at}
use Rattle.clock_ticks.proofs.Mapped.{has_ranks, rank_low}
use Rattle.clock_ticks.proofs.Starting.{new_stand}
use Rattle.clock_ticks.proofs.engine.make_parts.Goals as goal

pub returns-clause-parts : goal.returns-clause-parts
returns-clause-parts c =
    let S : Setting = record { plan = c.args.scene.plan.now; library = c.args.scene.library.now; clocks = c.args.scene.clocks.now; start = c.args.start.second; answers = λ buffer. [] } in
    record {
      plan = c.requires.plan;
      nodes = c.requires.plan.nodes;
      frame = c.requires.plan.frame.1;
      few = c.requires.plan.few_nodes;
      in_clocks = c.requires.in_clocks;
      clocks = c.requires.clocks;
      state = record { below = c.in_ok-clocks.ensures.clocks; rate = c.new-time.ensures.rate; frame = c.new-time.ensures.frame };
      in_own = c.in_ok-own.ensures.size;
      own = record { each = (c.in_ok-own.ensures.roots S).each };
      outputs = c.in_ok-ports.ensures.outputs S;
      kinds = λ k d h. (c.in_ok-ports.ensures.new S k d h).kind;
      widths = λ k d h. (c.in_ok-ports.ensures.new S k d h).wide;
      rooms = λ k d h. (c.in_ok-ports.ensures.new S k d h).room;
      feeds = c.in_ok-feeds.ensures.feeds S;
      frames = λ k d h. (c.in_ok-feeds.ensures.new k d h).room;
      lists = c.in_ok-cues.ensures.size ∙ c.len.ensures ∙ c.in_ok-ports.ports.ok.0;
    }

pub returns-clause-stands : goal.returns-clause-stands
returns-clause-stands c =
    let S : Setting = record { plan = c.args.scene.plan.now; library = c.args.scene.library.now; clocks = c.args.scene.clocks.now; start = c.args.start.second; answers = λ buffer. [] } in
    record {
      made = refl;
      runs = refl;
      others = λ buffer unread. refl;
      state = λ rest. new_stand (with_rest S (λ buffer. []) rest) c.args.clock _ (length c.args.scene.plan.now.nodes) _ (has_ranks c.args.scene.plan.now c.args.scene.clocks.now c.requires.clocks c.requires.in_clocks) (rank_low c.args.scene.plan.now c.args.scene.clocks.now c.requires.clocks c.requires.in_clocks) c.in_ok-clocks.ensures.states c.new-time.ensures.stands c.in_ok-clocks.ensures.times c.in_ok-clocks.ensures.none refl
          c.in_ok-clocks.ensures.laned;
      gaps_are = λ rest k port at. (all_at (IsNewPort S) c.in_ok-ports.ports.items (c.in_ok-ports.ensures.new S) k port at).gaps;
      cues_are = λ new rest k port list at_port at_list. c.in_ok-cues.ensures.none k list at_list;
    }
