use Rattle.std.proofs.Common.{◌≡◌, ◌∙◌, true, ap, sym, true≢false}
use Rattle.frame_core.specs.Chunks.{cells_in}
use Rattle.frame_core.specs.Frames.{Laid}
use Rattle.frame_core.specs.MarkRuns.{marks_in}
use Rattle.frame_core.proofs.Chunks.{same_cells}
use Rattle.frame_core.proofs.MarkRuns.{tight_same}
use Rattle.frame_core.proofs.frame.Frame.is_same.Goals as goal
use Rattle.frame_core.proofs.frame.Frame.is_same.Goals.{then-are_runs, else-are_runs}

pub returns-then-are_samples : goal.returns-then-are_samples
returns-then-are_samples c =
    let v = c.self.inside in
    let o = c.other.inside in
    let i = c.self.invariant in
    let j = c.other.invariant in
    let here = ap (λ (l : Laid). l.cells) c.self.view_is in
    let there = ap (λ (l : Laid). l.cells) c.other.view_is in
    elim c.if-are_runs.branch [
      | then-are_runs w ↦ (
        λ yes.
            let runs = sym c.deref.ensures.value ∙ c.are_runs.ensures.0 w.if-are_runs.true ∙ c.deref-2.ensures.value in
            let lefts = sym w.deref-then-are_runs.ensures.value ∙ w.are_samples.ensures.0 (sym w.value-is ∙ c.if-are_samples.true) ∙ w.deref-then-are_runs-2.ensures.value in
            let rights = sym c.deref-then-are_samples.ensures.value ∙ c.are_samples-then-are_samples.ensures.0 yes ∙ c.deref-then-are_samples-2.ensures.value in
            sym here ∙ ap (λ xs. cells_in xs v.right.items (marks_in v.runs.items)) lefts ∙ ap (λ ys. cells_in o.left.items ys (marks_in v.runs.items)) rights
            ∙ ap (λ rs. cells_in o.left.items o.right.items (marks_in rs)) runs ∙ there,
        λ is.
            let same = same_cells v.left.items v.right.items o.left.items o.right.items (marks_in v.runs.items) (marks_in o.runs.items) i.0 i.1 j.0 j.1 (here ∙ is ∙ sym there) in
            c.are_samples-then-are_samples.ensures.1 (c.deref-then-are_samples.ensures.value ∙ same.1 ∙ sym c.deref-then-are_samples-2.ensures.value),
      )
      | else-are_runs w ↦ absurd (true≢false (sym c.if-are_samples.true ∙ w.value-is ∙ w.if-are_runs.false))
    ]

pub returns-else-are_samples : goal.returns-else-are_samples
returns-else-are_samples c =
    let v = c.self.inside in
    let o = c.other.inside in
    let i = c.self.invariant in
    let j = c.other.invariant in
    let here = ap (λ (l : Laid). l.cells) c.self.view_is in
    let there = ap (λ (l : Laid). l.cells) c.other.view_is in (
      λ yes. absurd (true≢false (sym yes ∙ c.if-are_samples.false)),
      λ is.
          let same = same_cells v.left.items v.right.items o.left.items o.right.items (marks_in v.runs.items) (marks_in o.runs.items) i.0 i.1 j.0 j.1 (here ∙ is ∙ sym there) in
          let runs : c.are_runs.result ≡ true = c.are_runs.ensures.1 (c.deref.ensures.value ∙ tight_same v.runs.items o.runs.items i.2 j.2 same.2 ∙ sym c.deref-2.ensures.value) in
          elim c.if-are_runs.branch [
            | then-are_runs w ↦ w.value-is ∙ w.are_samples.ensures.1 (w.deref-then-are_runs.ensures.value ∙ same.0 ∙ sym w.deref-then-are_runs-2.ensures.value)
            | else-are_runs w ↦ absurd (true≢false (sym runs ∙ w.if-are_runs.false))
          ],
    )
