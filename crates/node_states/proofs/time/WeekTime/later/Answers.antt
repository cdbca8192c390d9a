use Rattle.std.proofs.Common.{◌+◌, ◌-◌, ◌∙◌, ◌/◌, ◌%◌, arith, ap, sym}
use Rattle.node_states.proofs.Seconds.{next_second_by, week_later, within_second}
use Rattle.node_states.proofs.time.WeekTime.later.Goals as goal

pub returns-then-count-left-clause-stands : goal.returns-then-count-left-clause-stands
returns-then-count-left-clause-stands c = λ start n stands.
    let found = within_second n c.args.self.rate c.args.self.samples c.args.count stands.samples (omega (arith, c.if-count-left.true)) in
    record { second = stands.second ∙ ap (λ k. (start + k) % 604800) (sym found.0); samples = sym found.1; place = c.place_later-place.ensures.later n stands.place }

pub returns-clause-stands : goal.returns-clause-stands
returns-clause-stands c = λ start n stands.
    let found = next_second_by n c.args.self.rate c.args.self.samples c.args.count (c.args.count - (c.args.self.rate - c.args.self.samples)) stands.samples
    (omega (arith, c.if-count-left.false, c.args.self.within, c.requires)) (omega (arith, c.if-count-left.false, c.args.self.within, c.requires)) in
    record {
      second = c.next_second.ensures ∙ week_later start (n / c.args.self.rate) c.args.self.second.second stands.second ∙ ap (λ k. (start + k) % 604800) (sym found.0);
      samples = sym found.1;
      place = c.place_later-place.ensures.later n stands.place;
    }
