use Rattle.buffer_ends.proofs.Steps.{ok_map}
use Rattle.buffer_ends.proofs.EndSteps.{end_gave, list_gave_beside, same_stand, err_map}
use Rattle.std.proofs.Common.{refl}
use Rattle.buffer_ends.proofs.thread_taps.ThreadTapsTaps.give.Goals as goal

pub returns-in-Some-clause-call : goal.returns-in-Some-clause-call
returns-in-Some-clause-call g c =
    let s = c.args.self.now in
    ok_map c.give_at.result
    (λ r h. end_gave s.puts.items s.takes.items s.local c.in-Some.place c.args.buffer c.args.chunk r c.give_at.new.ends.items s.falling.0 c.in-Some.ensures.some.0 c.in-Some.ensures.some.1 h)
    c.give_at.ensures.ok

pub returns-in-Some-clause-memory : goal.returns-in-Some-clause-memory
returns-in-Some-clause-memory g c =
    let s = c.args.self.now in
    err_map c.give_at.result (λ e h. (h.0, same_stand s.puts.items s.takes.items s.local c.give_at.new.ends.items s.takes.items s.local h.1 refl refl)) c.give_at.ensures.memory

pub returns-in-None-clause-call : goal.returns-in-None-clause-call
returns-in-None-clause-call g c =
    let s = c.args.self.now in
    ok_map c.give_to.result
    (λ r h. list_gave_beside s.puts.items s.takes.items s.local c.give_to.new.self c.args.buffer c.args.chunk r c.requires c.in-None.ensures.none h)
    c.give_to.ensures.ok

pub returns-in-None-clause-memory : goal.returns-in-None-clause-memory
returns-in-None-clause-memory g c =
    let s = c.args.self.now in
    err_map c.give_to.result (λ e h. (h.0, same_stand s.puts.items s.takes.items s.local s.puts.items s.takes.items c.give_to.new.self refl refl h.1)) c.give_to.ensures.memory
