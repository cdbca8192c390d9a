use Rattle.std.proofs.Common.{subst, sym}
use Rattle.type_instances.specs.Schemes.{scheme_of}
use Rattle.type_instances.specs.declared.general.General.{General}
use Rattle.expression_types.specs.Seen.{founds}
use Rattle.type_infer.specs.DefSteps.{IsGeneralType}
use Rattle.type_infer.proofs.defs.general_def.Goals as goal

pub returns : goal.returns
returns c = record {
  general = record {
    made = c.in_ok-made.made;
    known = c.in_ok-known.ensures;
    type = subst (λ (g : General). IsGeneralType c.args.subst.now c.renew.new.self c.args.parts.now (founds c.args.uses.now) (scheme_of g) c.in_ok-made.made.text.items) (sym c.in_ok-known.ensures.general) c.in_ok-made.ensures;
    solution = (c.has_defaults.ensures.at, c.has_defaults.ensures.solves);
    held = c.in_ok-renew.ensures.held;
  };
}
