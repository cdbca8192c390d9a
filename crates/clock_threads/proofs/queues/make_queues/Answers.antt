use Rattle.clock_threads.proofs.Joining.{queues_more}
use Rattle.clock_threads.proofs.queues.make_queues.Goals as goal

pub loop-b-preserved : goal.loop-b-preserved
loop-b-preserved c =
    queues_more c.args.wires.now c.loop-b.b c.loop-b.queues.items c.push.new.self.items c.loop-b.passes.items c.push-in-loop-b.new.self.items c.in_ok-queue.queue c.in_ok-queue.put c.in_ok-queue.take
    c.in_ok-push.ensures.items c.in_ok-push-2.ensures.items c.in_ok-queue.ensures.capacity c.in_ok-queue.ensures.put c.in_ok-queue.ensures.take c.loop-b.invariant
