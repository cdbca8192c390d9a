use Rattle.engine_tests.proofs.node_states_tests.give.Goals as goal

pub returns : goal.returns
returns g c = c.feed.ensures.fits c.args.library.now 1 c.requires
