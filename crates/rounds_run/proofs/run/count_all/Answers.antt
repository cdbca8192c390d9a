use Rattle.std.proofs.Common.{rules, ◌≡◌, ◌<◌, ◌+◌, suc, length, get_or, arith, subst}
use Rattle.rounds_run.proofs.Lawful.{map_step}
use Rattle.buffer_ends.specs.Local.{all_answers, counts_of, empty_buffer}
use Rattle.rounds_run.proofs.run.count_all.Goals as goal

pub loop-buffer-preserved : goal.loop-buffer-preserved
loop-buffer-preserved c =
    let within : c.loop-buffer.buffer < length c.args.taps.now = search rules in
    let next : suc c.loop-buffer.buffer ≡ c.loop-buffer.buffer + 1 = omega arith in
    let same : c.in_ok-number.number ≡ c.loop-buffer.buffer = search rules in
    let counted : c.counts.result ≡ counts_of (all_answers (get_or c.args.taps.now c.loop-buffer.buffer (empty_buffer 0))) =
    subst (λ n. c.counts.result ≡ counts_of (all_answers (get_or c.args.taps.now n (empty_buffer 0)))) same (c.counts.ensures (empty_buffer 0)) in
    map_step (λ list. counts_of (all_answers list)) c.push.new.self.items c.loop-buffer.counts.items c.counts.result c.args.taps.now c.loop-buffer.buffer (c.loop-buffer.buffer + 1) (empty_buffer 0)
    next within c.in_ok-push.ensures.items c.loop-buffer.invariant counted
