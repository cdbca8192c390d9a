use Rattle.std.proofs.Common.{◌≡◌, ◌∙◌, Some, slice_get, add-one, arith, refl, sym, subst}
use Rattle.std.proofs.lemmas.Option.{slice_get_read}
use Rattle.clock_outputs.specs.Feeds.{HaveGiven}
use Rattle.clock_outputs.proofs.Gives.{gives_more, gives_none, gives_stopped, on_fault}
use Rattle.clock_outputs.proofs.feed.give_each.Goals as goal

pub loop-k-init : goal.loop-k-init
loop-k-init g c = record {
  buffers = refl;
  same = g.met.T.Taps.same_refl c.args.taps.now;
  given = gives_none g.T.Taps.stands c.args.feeds.now c.args.taps.now;
}

pub returns-in_err-give_one-clause-stopped : goal.returns-in_err-give_one-clause-stopped
returns-in_err-give_one-clause-stopped g c =
    let there : slice_get c.args.feeds.now c.loop-k.k ≡ Some c.index-feeds-k.result = slice_get_read _ _ _ _ refl c.loop-k-test.true c.index-feeds-k.is in
    on_fault c.from_residual.result (gives_stopped g.T.Taps.stands c.args.feeds.now c.loop-k.k _ there c.args.taps.now c.loop-k.taps c.give_one.new.taps c.loop-k.invariant.given c.in_err-give_one.ensures.none)

pub loop-k-preserved : goal.loop-k-preserved
loop-k-preserved g c =
    let there : slice_get c.args.feeds.now c.loop-k.k ≡ Some c.index-feeds-k.result = slice_get_read _ _ _ _ refl c.loop-k-test.true c.index-feeds-k.is in
    record {
      buffers = c.give_one.ensures.buffers ∙ c.loop-k.invariant.buffers;
      same = g.met.T.Taps.same_trans c.args.taps.now c.loop-k.taps c.give_one.new.taps c.loop-k.invariant.same c.give_one.ensures.same;
      given = subst (λ n. HaveGiven g.T.Taps.stands c.args.feeds.now n c.args.taps.now c.give_one.new.taps) (sym (add-one c.loop-k.k))
          (gives_more g.T.Taps.stands c.args.feeds.now c.loop-k.k _ there c.args.taps.now c.loop-k.taps c.give_one.new.taps c.loop-k.invariant.given c.in_ok-give_one.ensures.given);
    }

pub returns-in_err-give_one-clause-feeds : goal.returns-in_err-give_one-clause-feeds
returns-in_err-give_one-clause-feeds g c = on_fault c.from_residual.result (omega (arith, c.loop-k-test.true))
