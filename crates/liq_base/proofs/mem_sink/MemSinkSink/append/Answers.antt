use Rattle.std.proofs.Common.{◌≡◌, ◌+◌, ◌-◌, ◌^◌, Some, ap, sym, rules, refl, take, drop}
use Rattle.std.specs.Prelude.{min}
use Rattle.std.proofs.lemmas.List.{take-append-drop}
use Rattle.liq_base.proofs.mem_sink.MemSinkSink.append.Goals as goal

pub returns-in-Some-clause-part : goal.returns-in-Some-clause-part
returns-in-Some-clause-part c =
    let calls : c.saturating_add-self-inside.result ≡ min (c.args.self.now.calls + 1) (2 ^ 64 - 1) = search rules in
    record {
      taken = take c.in-Some.at c.args.piece.now;
      is_front = record { rest = drop c.in-Some.at c.args.piece.now; whole_is = sym (take-append-drop c.in-Some.at c.args.piece.now) };
      took = record { held_grew = search rules; room_fell = refl; name_kept = refl; once = ap Some calls; faults_grew = search rules };
      rose = search rules;
    }
