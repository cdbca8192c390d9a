use Rattle.std.proofs.Common.{List, subst, sym}
use Rattle.plan_core.specs.declared.node.Node.{Node}
use Rattle.plan_core.specs.Plans.{AreNodes}
use Rattle.plan_blames.specs.Needs.{IsCause}
use Rattle.where_lines.proofs.Causing.{cause_placed, cause_there}
use Rattle.where_lines.proofs.causes.cause_of.Goals as goal

pub cause-source-requires-clause-nodes : goal.cause-source-requires-clause-nodes
cause-source-requires-clause-nodes c = let P : List Node → Type 0 = λ ns. AreNodes ns in subst P (sym c.as_slice.ensures) c.requires.well_formed.nodes

pub returns : goal.returns
returns c =
    let is : IsCause c.args.plan.now.nodes c.args.output c.cause-source.result = subst (λ (nodes : List Node). IsCause nodes c.args.output c.cause-source.result) c.as_slice.ensures c.cause-source.ensures in
    record {
      kept = c.source_place.ensures.kept;
      place = cause_placed c.args.text.now c.args.plan.now c.args.output c.cause-source.result c.source_place.result is c.source_place.ensures.place;
      some = cause_there c.args.text.now c.args.plan.now c.args.output c.cause-source.result c.source_place.result c.requires.plan is c.source_place.ensures.none;
    }
