use Rattle.std.proofs.Common.{◌≡◌, ◌<◌, ◌+◌, get_or, sym, subst, length, arith, rules, ap, ◌∙◌, length-append, [], ◌∷◌}
use Rattle.buffer_queue.specs.Window.{Window}
use Rattle.clock_threads.specs.Wires.{wire_at}
use Rattle.clock_threads.proofs.Joining.{waiting_less, waiting_last, joined_skip, join_step, puts_later, takes_later}
use Rattle.clock_threads.proofs.joins.join_all.Goals as goal

pub loop-put-preserved-then-wire : goal.loop-put-preserved-then-wire
loop-put-preserved-then-wire g c =
    let inv = c.loop-put.invariant in let rest = c.pop.new.self.items in let is = c.in-Some.ensures.items in
    let b : c.len-b.result ≡ length rest = search rules in
    let one : length c.loop-put.passes.items ≡ length rest + 1 = ap length is ∙ length-append rest ((c.in-Some.put, c.in-Some.take) ∷ []) in
    record {
      waiting = waiting_less c.args.wires.now c.args.queues.now.items c.loop-put.passes.items rest c.in-Some.put c.in-Some.take is inv.waiting;
      joined = joined_skip c.args.wires.now (length c.loop-put.passes.items) (length rest) c.args.tasks.now c.loop-put.tasks one
          (subst (λ n. (wire_at c.args.wires.now n).from ≡ (wire_at c.args.wires.now n).to) b c.if-wire.true) inv.joined;
    }

pub new-put-requires : goal.new-put-requires
new-put-requires g c =
    let rest = c.pop.new.self.items in let b : c.len-b.result ≡ length rest = search rules in let now = c.index-queue.result.now in
    let last = waiting_last c.args.wires.now c.args.queues.now.items c.loop-put.passes.items rest c.in-Some.put c.in-Some.take c.in-Some.ensures.items c.loop-put.invariant.waiting in
    ap (λ (w : Window). w.queue) (last.1 now).0 ∙ ap (λ n. get_or c.args.queues.now.items n now) (sym b) ∙ sym c.index-queue.ensures

pub new-take-requires : goal.new-take-requires
new-take-requires g c =
    let rest = c.pop.new.self.items in let b : c.len-b.result ≡ length rest = search rules in let now = c.index-queue.result.now in
    let last = waiting_last c.args.wires.now c.args.queues.now.items c.loop-put.passes.items rest c.in-Some.put c.in-Some.take c.in-Some.ensures.items c.loop-put.invariant.waiting in
    ap (λ (w : Window). w.queue) (last.1 now).1 ∙ ap (λ n. get_or c.args.queues.now.items n now) (sym b) ∙ sym c.index-queue.ensures

pub join_one-requires-clause-places : goal.join_one-requires-clause-places
join_one-requires-clause-places g c =
    let rest = c.pop.new.self.items in let b : c.len-b.result ≡ length rest = search rules in
    let last = waiting_last c.args.wires.now c.args.queues.now.items c.loop-put.passes.items rest c.in-Some.put c.in-Some.take c.in-Some.ensures.items c.loop-put.invariant.waiting in
    let low : c.len-b.result < length c.args.wires.now = (let x = last.0 in omega (arith, x, b)) in
    let p = c.requires.places c.len-b.result low in let m = c.loop-put.invariant.joined.many in
    (omega (arith, p.0, m), omega (arith, p.1, m), c.if-wire.false)

pub loop-put-preserved : goal.loop-put-preserved
loop-put-preserved g c =
    let inv = c.loop-put.invariant in let rest = c.pop.new.self.items in let is = c.in-Some.ensures.items in
    let b : c.len-b.result ≡ length rest = search rules in let m = inv.joined.many in
    record {
      waiting = waiting_less c.args.wires.now c.args.queues.now.items c.loop-put.passes.items rest c.in-Some.put c.in-Some.take is inv.waiting;
      joined = join_step c.args.wires.now c.args.queues.now.items c.loop-put.passes.items rest c.in-Some.put c.in-Some.take c.args.tasks.now c.loop-put.tasks c.join_one.new.tasks c.len-b.result
          c.new-put.result c.new-take.result is b inv.waiting (λ n d low. c.requires.queues.capacity n d low) c.index-queue.result.now c.new-put.ensures c.new-take.ensures
          (λ n low. (let p = c.requires.places n low in (omega (arith, p.0, m), omega (arith, p.1, m)))) c.if-wire.false inv.joined c.in_ok-join_one.ensures.added;
    }

pub join_one-requires-clause-put_last : goal.join_one-requires-clause-put_last
join_one-requires-clause-put_last g c d k e low =
    let rest = c.pop.new.self.items in let b : c.len-b.result ≡ length rest = search rules in let inv = c.loop-put.invariant in
    let last = waiting_last c.args.wires.now c.args.queues.now.items c.loop-put.passes.items rest c.in-Some.put c.in-Some.take c.in-Some.ensures.items inv.waiting in
    let in_wires : c.len-b.result < length c.args.wires.now = (let x = last.0 in omega (arith, x, b)) in
    let p = c.requires.places c.len-b.result in_wires in let m = inv.joined.many in
    let one : length c.loop-put.passes.items ≡ c.len-b.result + 1 = (let n = ap length c.in-Some.ensures.items ∙ length-append rest ((c.in-Some.put, c.in-Some.take) ∷ []) in omega (arith, n, b)) in
    puts_later c.args.wires.now (length c.loop-put.passes.items) c.len-b.result c.args.tasks.now c.loop-put.tasks one inv.joined c.new-put.result c.in-Some.put c.new-put.ensures (wire_at c.args.wires.now c.len-b.result).from k d e (omega (arith, p.0, m)) low

pub join_one-requires-clause-take_last : goal.join_one-requires-clause-take_last
join_one-requires-clause-take_last g c d k e low =
    let rest = c.pop.new.self.items in let b : c.len-b.result ≡ length rest = search rules in let inv = c.loop-put.invariant in
    let last = waiting_last c.args.wires.now c.args.queues.now.items c.loop-put.passes.items rest c.in-Some.put c.in-Some.take c.in-Some.ensures.items inv.waiting in
    let in_wires : c.len-b.result < length c.args.wires.now = (let x = last.0 in omega (arith, x, b)) in
    let p = c.requires.places c.len-b.result in_wires in let m = inv.joined.many in
    let one : length c.loop-put.passes.items ≡ c.len-b.result + 1 = (let n = ap length c.in-Some.ensures.items ∙ length-append rest ((c.in-Some.put, c.in-Some.take) ∷ []) in omega (arith, n, b)) in
    takes_later c.args.wires.now (length c.loop-put.passes.items) c.len-b.result c.args.tasks.now c.loop-put.tasks one inv.joined c.new-take.result c.in-Some.take c.new-take.ensures (wire_at c.args.wires.now c.len-b.result).to k d e (omega (arith, p.1, m)) low
