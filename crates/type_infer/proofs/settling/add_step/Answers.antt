use Rattle.std.proofs.Common.{◌≡◌, ◌∙◌, OnOk, ap, option_map, subst, sym}
use Rattle.type_infer.specs.Settling.{AddsDones, AreDonesOver}
use Rattle.type_infer.specs.Steps.{defined_as, done_in}
use Rattle.type_infer.proofs.Settled.{def_found}
use Rattle.type_infer.proofs.settling.add_step.Goals as goal

pub add_def-requires : goal.add_def-requires
add_def-requires c =
    let same : defined_as (option_map (λ d. d.now) c.get.result) ≡ done_in c.args.defs.now c.args.step = ap defined_as (def_found c.get.result c.args.defs.now c.in-Defined.place c.get.ensures.lookup.1 c.get.ensures.lookup.3) ∙ ap (done_in c.args.defs.now) (sym c.in-Defined.is) in
    record { over = subst (AreDonesOver c.args.subst.now) (sym same) c.requires.over }

pub returns-in-Defined : goal.returns-in-Defined
returns-in-Defined c =
    let same : defined_as (option_map (λ d. d.now) c.get.result) ≡ done_in c.args.defs.now c.args.step = ap defined_as (def_found c.get.result c.args.defs.now c.in-Defined.place c.get.ensures.lookup.1 c.get.ensures.lookup.3) ∙ ap (done_in c.args.defs.now) (sym c.in-Defined.is) in
    subst (λ xs. OnOk c.add_def.result (AddsDones c.args.subst.now xs c.args.uses.now.items c.add_def.new.uses.items)) same c.add_def.ensures
