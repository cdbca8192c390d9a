use Rattle.std.proofs.Common.{ℕ, List, ◌++◌, take, sym, ap, ◌∙◌, append_assoc}
use Rattle.plan_core.specs.declared.sink.SinkPlan.{SinkPlan}
use Rattle.plan_picture.specs.Regions.{output_member}
use Rattle.plan_blames.specs.Texts.{numbered}
use Rattle.plan_blames.proofs.Numbering.{more}
use Rattle.plan_picture.proofs.regions.push_outputs.Goals as goal

pub loop-k-preserved : goal.loop-k-preserved
loop-k-preserved c =
    let text : ℕ → SinkPlan → List ℕ = output_member c.args.of.now in
    let xs : List SinkPlan = c.args.sinks.now in
    let i : ℕ = c.loop-k.k in
    c.in_ok-push_output.ensures
    ∙ ap (λ (t : List ℕ). t ++ text i c.index-sinks-k.result) c.loop-k.invariant
    ∙ append_assoc c.args.into.now.items (numbered text 0 (take i xs)) (text i c.index-sinks-k.result)
    ∙ ap (λ (t : List ℕ). c.args.into.now.items ++ t) (sym (more text xs i c.index-sinks-k.result c.loop-k-test.true c.index-sinks-k.is))
