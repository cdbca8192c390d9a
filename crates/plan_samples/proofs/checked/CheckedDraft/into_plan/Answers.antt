use Rattle.std.proofs.Common.{rules, ◌≡◌, [], ◌∷◌, ◌++◌, ◌∙◌, ap, subst, sym, false}
use Rattle.plan_core.specs.declared.plan.Plan.{Plan}
use Rattle.plan_core.specs.declared.sink.SinkPlan.TheVariants.{Output}
use Rattle.plan_samples.specs.Stereos.{AreFeeds, IsStereo, sole_node}
use Rattle.plan_samples.proofs.Grown.{alone, sole_behind}
use Rattle.plan_samples.proofs.checked.CheckedDraft.into_plan.Goals as goal

pub returns-in-Ok-clause-sole : goal.returns-in-Ok-clause-sole
returns-in-Ok-clause-sole c =
    let sinks : c.into_plan.result.sinks ≡ c.args.self.sinks ++ Output [] c.args.node false false ∷ [] = search rules in
    let F : Plan → Type 0 = λ plan. AreFeeds plan.sinks in
    let feeds : AreFeeds c.args.self.sinks = subst F c.self.view_is c.self.invariant.1 in
    ap sole_node sinks ∙ sole_behind c.args.self.sinks [] c.args.node false false feeds

pub returns-in-Ok-clause-alone : goal.returns-in-Ok-clause-alone
returns-in-Ok-clause-alone c =
    let sinks : c.into_plan.result.sinks ≡ c.args.self.sinks ++ Output [] c.args.node false false ∷ [] = search rules in
    let buffers : c.into_plan.result.buffers ≡ c.args.self.buffers = search rules in
    let Q : Plan → Type 0 = λ plan. IsStereo plan × AreFeeds plan.sinks in
    let kept : Q c.args.self = subst Q c.self.view_is c.self.invariant in
    λ none. sinks ∙ alone c.args.self (Output [] c.args.node false false) kept.0.well_formed kept.1 (sym buffers ∙ none)
