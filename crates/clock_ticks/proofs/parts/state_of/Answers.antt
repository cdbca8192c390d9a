use Rattle.clock_ticks.proofs.parts.state_of.Goals as goal

pub returns : goal.returns
returns c = record {
  fits = λ library is within. tt;
  stands = λ setting sub rank under same none. absurd (c.is_driven.ensures c.if-is_driven.false rank under);
}
