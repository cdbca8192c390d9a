use Rattle.std.proofs.Common.{◌∙◌, length, ap, arith}
use Rattle.std.proofs.lemmas.List.{length-append}
use Rattle.frame_core.specs.Frames.{Laid}
use Rattle.frame_core.specs.MarkRuns.{marks_in, run_marks}
use Rattle.frame_core.proofs.Chunks.{held, laid}
use Rattle.frame_core.proofs.MarkRuns.{length-run}
use Rattle.frame_core.proofs.frame.Frame.lay.Goals as goal

pub overflow_cast-left : goal.overflow_cast-left
overflow_cast-left c =
    let v = c.self.inside in
    let i = c.self.invariant in
    let long = held v.left.items v.right.items (marks_in v.runs.items) v.room c.args.self.now i.0 i.1 c.self.view_is in
    omega (arith, c.requires.room, long, i.4, ap (λ (l : Laid). l.room) c.self.view_is)

pub put_run-requires-clause-room : goal.put_run-requires-clause-room
put_run-requires-clause-room c =
    let v = c.self.inside in
    let i = c.self.invariant in
    let long = held v.left.items v.right.items (marks_in v.runs.items) v.room c.args.self.now i.0 i.1 c.self.view_is in
    omega (arith, c.requires.room, long, i.7, ap (λ (l : Laid). l.room) c.self.view_is)

pub put_run-requires-clause-few : goal.put_run-requires-clause-few
put_run-requires-clause-few c =
    let v = c.self.inside in
    let i = c.self.invariant in
    let long = held v.left.items v.right.items (marks_in v.runs.items) v.room c.args.self.now i.0 i.1 c.self.view_is in
    omega (arith, c.requires.room, long, i.4, ap (λ (l : Laid). l.room) c.self.view_is)

pub put_samples-requires : goal.put_samples-requires
put_samples-requires c =
    let v = c.self.inside in
    let i = c.self.invariant in
    let long = held v.left.items v.right.items (marks_in v.runs.items) v.room c.args.self.now i.0 i.1 c.self.view_is in
    omega (arith, c.requires.room, long, i.0, i.5, v.left.ok.0, ap (λ (l : Laid). l.room) c.self.view_is)

pub put_samples-requires-2 : goal.put_samples-requires-2
put_samples-requires-2 c =
    let v = c.self.inside in
    let i = c.self.invariant in
    let long = held v.left.items v.right.items (marks_in v.runs.items) v.room c.args.self.now i.0 i.1 c.self.view_is in
    omega (arith, c.requires.room, c.requires.same, long, i.1, i.6, v.right.ok.0, ap (λ (l : Laid). l.room) c.self.view_is)

pub invariant_of-self : goal.invariant_of-self
invariant_of-self c =
    let v = c.self.inside in
    let i = c.self.invariant in
    let marks = run_marks c.args.first c.args.title (length c.args.left.now) in
    let long = held v.left.items v.right.items (marks_in v.runs.items) v.room c.args.self.now i.0 i.1 c.self.view_is in
    let room = ap (λ (l : Laid). l.room) c.self.view_is in
    let many = length-run c.args.first c.args.title (length c.args.left.now) in
    let lefts = ap length c.put_samples.ensures.items ∙ length-append v.left.items c.args.left.now in
    let rights = ap length c.put_samples-2.ensures.items ∙ length-append v.right.items c.args.right.now in
    let all = ap length c.put_run.ensures.marks ∙ length-append (marks_in v.runs.items) marks in (
      omega (arith, lefts, all, many, i.0),
      omega (arith, rights, all, many, i.1, c.requires.same),
      c.put_run.ensures.tight,
      omega (arith, all, many, long, room, c.requires.room),
      omega (arith, i.4),
      omega (arith, c.put_samples.ensures.room, i.5),
      omega (arith, c.put_samples-2.ensures.room, i.6),
      omega (arith, c.put_run.ensures.room, i.7),
    )

pub returns : goal.returns
returns c =
    let v = c.self.inside in
    let i = c.self.invariant in
    laid v.left.items v.right.items (marks_in v.runs.items) v.room c.args.self.now c.args.left.now c.args.right.now (run_marks c.args.first c.args.title (length c.args.left.now))
    i.0 i.1 c.self.view_is c.put_samples.ensures.items c.put_samples-2.ensures.items c.put_run.ensures.marks
