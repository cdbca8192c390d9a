use Rattle.std.proofs.Common.{◌≡◌, ◌∙◌, ◌++◌, ◌∷◌, [], ℕ, Bool, List, cond, ap, sym}
use Rattle.std.specs.Prelude.{codes}
use Rattle.script_places.specs.Pointing.{pointer}
use Rattle.where_lines.specs.Passes.{closing_of}
use Rattle.where_lines.proofs.passing.closed_pointer.Goals as goal

pub returns : goal.returns
returns c =
    let lf : closing_of c.args.line.now ≡ codes "\n" = ap (λ (b : Bool). cond b [] (codes "\n")) (sym c.is_closed.ensures ∙ c.if-is_closed.false) in
    let lines = pointer c.args.file.now c.args.text.now c.args.at in
    c.in_ok-extend_from_slice.ensures.items
    ∙ ap (λ (t : List ℕ). t ++ c.deref.result.now) (c.in_ok-push.ensures.items ∙ ap (λ (t : List ℕ). t ++ 10 ∷ []) c.new-closed.ensures.items)
    ∙ ap (λ (t : List ℕ). 10 ∷ t) (c.deref.ensures.value ∙ c.in_ok-lines.ensures)
    ∙ ap (λ (t : List ℕ). t ++ lines) (sym lf)
