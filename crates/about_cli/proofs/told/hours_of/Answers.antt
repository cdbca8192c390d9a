use Rattle.about_cli.proofs.told.hours_of.Goals as goal

pub returns-clause-told : goal.returns-clause-told
returns-clause-told c = record {
  plan = c.in_ok-sources.sources.plan;
  calls = c.in_ok-sources.sources.calls;
  sources = c.in_ok-sources.ensures.sources;
  tokens = c.in-Ok.tokens.items;
  are_tokens = c.in-Ok.ensures.tokens;
  holds = rw (c.deref-2.ensures.value, c.in_ok-ats.ensures, c.deref.ensures.value, c.as_slice.ensures) at c.in_ok-tell_hours.ensures;
}
