use Rattle.std.proofs.Common.{ℕ, List, ◌++◌, get_or, take, sym, ap, ◌∙◌, append_assoc}
use Rattle.plan_blames.specs.Texts.{escaped_byte}
use Rattle.plan_blames.specs.Texts.{numbered}
use Rattle.plan_blames.proofs.Numbering.{more_or}
use Rattle.plan_blames.proofs.texts.push_escaped.Goals as goal

pub loop-byte-preserved : goal.loop-byte-preserved
loop-byte-preserved c =
    let text : ℕ → ℕ → List ℕ = (λ k byte. escaped_byte byte) in
    let xs : List ℕ = c.args.name.now in
    let i : ℕ = c.loop-byte.byte-index in
    c.in_ok-push_byte.ensures
    ∙ ap (λ (t : List ℕ). t ++ text i (get_or xs i 0)) c.loop-byte.invariant
    ∙ append_assoc c.args.into.now.items (numbered text 0 (take i xs)) (text i (get_or xs i 0))
    ∙ ap (λ (t : List ℕ). c.args.into.now.items ++ t) (sym (more_or text xs i 0 c.loop-byte-test.true))
