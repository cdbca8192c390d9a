use Rattle.std.proofs.Common.{rules, ap, arith}
use Rattle.buffer_queue.proofs.Keeps.{begins, opens}
use Rattle.buffer_queue.proofs.queue.opened_at.Goals as goal

pub ruled-requires-clause-rule : goal.ruled-requires-clause-rule
ruled-requires-clause-rule g c = begins

pub another-take-requires-clause-rule : goal.another-take-requires-clause-rule
another-take-requires-clause-rule g c = opens _ _ _ (search rules) (search rules) (let e = ap (λ v. v.capacity) c.in_ok-queue.ensures.3 in omega (arith, e))
