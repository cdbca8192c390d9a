use Rattle.type_infer.proofs.script.uses_or_fault.Goals as goal

pub returns-in-Ok-clause-uses : goal.returns-in-Ok-clause-uses
returns-in-Ok-clause-uses c = record {
  faultless = c.in-None.is;
  default = c.has_defaults.ensures;
  uses_are = c.in-Ok.ensures c.has_defaults.ensures;
}
