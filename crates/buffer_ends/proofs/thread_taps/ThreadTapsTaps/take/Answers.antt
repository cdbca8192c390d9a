use Rattle.std.proofs.Common.{refl}
use Rattle.buffer_ends.proofs.Steps.{ok_map}
use Rattle.buffer_ends.proofs.EndSteps.{end_took, list_took_beside, same_stand, on_err_map}
use Rattle.buffer_ends.proofs.thread_taps.ThreadTapsTaps.take.Goals as goal

pub returns-in-Some-clause-call : goal.returns-in-Some-clause-call
returns-in-Some-clause-call g c =
    let s = c.args.self.now in
    ok_map c.take_at.result
    (λ r h. end_took s.puts.items s.takes.items s.local c.in-Some.place c.args.buffer r c.take_at.new.ends.items s.falling.1 c.in-Some.ensures.some.0 c.in-Some.ensures.some.1 h)
    c.take_at.ensures.ok

pub returns-in-Some-clause-memory : goal.returns-in-Some-clause-memory
returns-in-Some-clause-memory g c =
    let s = c.args.self.now in
    on_err_map c.take_at.result (λ h. same_stand s.puts.items s.takes.items s.local s.puts.items c.take_at.new.ends.items s.local refl h refl) c.take_at.ensures.memory

pub returns-in-None-clause-call : goal.returns-in-None-clause-call
returns-in-None-clause-call g c =
    let s = c.args.self.now in
    ok_map c.take_of.result
    (λ r h. list_took_beside s.puts.items s.takes.items s.local c.take_of.new.self c.args.buffer r c.requires c.in-None.ensures.none h)
    c.take_of.ensures.ok

pub returns-in-None-clause-memory : goal.returns-in-None-clause-memory
returns-in-None-clause-memory g c =
    let s = c.args.self.now in
    on_err_map c.take_of.result (λ h. same_stand s.puts.items s.takes.items s.local s.puts.items s.takes.items c.take_of.new.self refl refl h) c.take_of.ensures.memory
