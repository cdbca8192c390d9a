use Rattle.std.proofs.Common.{ap, sym, map, ◌∙◌}
use Rattle.buffer_queue.specs.Window.{Window, is_chunk}
use Rattle.buffer_queue.proofs.Ends.{answers_alone}
use Rattle.buffer_queue.proofs.queue.PutPass.answers.Goals as goal

pub returns : goal.returns
returns c = c.as_slice.ensures.value ∙ sym (answers_alone _ _ _ _ c.self.invariant.4) ∙ ap (λ (w : Window). map is_chunk w.answers) c.self.view_is
