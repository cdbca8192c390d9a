use Rattle.std.proofs.Common.{◌≡◌, ◌∙◌, ◌<◌, ◌+◌, ◌/◌, ◌%◌, arith, ap, sym}
use Rattle.op_leaf.proofs.Turns.{mod-step, mod-round}
use Rattle.node_states.proofs.Seconds.{same_second, later_second, week_later}
use Rattle.node_states.proofs.time.WeekTime.next.Goals as goal

pub returns-then-self-clause-stands : goal.returns-then-self-clause-stands
returns-then-self-clause-stands c = λ start n stands. record {
  second = stands.second ∙ ap (λ k. (start + k) % 604800) (sym (same_second n c.args.self.rate c.args.self.samples stands.samples c.if-self.true));
  samples = sym (mod-step n c.args.self.rate c.args.self.samples stands.samples c.if-self.true);
  place = c.next_place-place.ensures.next n stands.place;
}

pub returns-clause-stands : goal.returns-clause-stands
returns-clause-stands c = λ start n stands.
    let some : 0 < c.args.self.rate = omega (arith, c.args.self.within) in
    let long : c.args.self.samples + 1 ≡ c.args.self.rate = omega (arith, c.args.self.within, c.if-self.false) in
    record {
      second = c.next_second.ensures ∙ week_later start (n / c.args.self.rate) c.args.self.second.second stands.second
          ∙ ap (λ k. (start + k) % 604800) (sym (later_second n c.args.self.rate c.args.self.samples some stands.samples long));
      samples = sym (mod-round n c.args.self.rate c.args.self.samples stands.samples long);
      place = c.next_place-place.ensures.next n stands.place;
    }
