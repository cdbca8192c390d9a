-- Why the reading of a trace ends.
use Rattle.std.proofs.Common.{◌≡◌, ◌<◌, ℕ, List, length, Err, inl, inr, subst, sym}
use Rattle.std.specs.Prelude.{Option, Some, None, IsSomeAnd}
use Rattle.std.specs.Option.{ForSome}
use Rattle.liq_base.specs.Files.{Files, file_at}
use Rattle.liq_base.specs.Shelves.{ShelfTold}
use Rattle.stream_meaning.specs.Instants.{Setting}
use Rattle.refusal_lines.specs.declared.fault.Fault.{Fault}
use Rattle.refusal_lines.specs.declared.replay_lines.ReplayFault.{ReplayFault}
use Rattle.station_jobs.specs.declared.halt.CallEnd.{CallEnd}
use Rattle.station_jobs.specs.declared.halt.CallEnd.TheVariants.{Memory, Refused as refused_for}
use Rattle.station_jobs.specs.Prepared.{IsUntold, TraceEnds}
use Rattle.station_jobs.specs.Replays.{HasMore, IsReplayFault, most_bytes}

module _ (name : List ℕ) (base : Setting) (clocks N : ℕ) (old new : ShelfTold) where
  -- a step ends as its part did
  pub trace_ends_as : {T U : Type 0} (e : CallEnd) → TraceEnds {T = T} name base clocks N old new (Err e) → TraceEnds {T = U} name base clocks N old new (Err e)
  trace_ends_as e ends = record {
    fault = λ fault at. ends.fault fault (cc);
    read = λ at. ends.read (cc);
    no_write = λ at. ends.no_write (cc);
  }

  -- for a fault of the trace
  pub ends_told : {T : Type 0} (fault : ReplayFault) → ForSome old.files (λ files. IsReplayFault files name base clocks N fault) → TraceEnds {T = T} name base clocks N old new (Err (refused_for (Fault.Replay fault)))
  ends_told fault is = record {
    fault = λ other at files t. record { untold = fault; fault_is = (cc); is_fault = is files t };
    read = λ at. absurd (cc);
    no_write = λ at. absurd (cc);
  }

  -- or since memory was refused
  pub ends_starved : {T : Type 0} → TraceEnds {T = T} name base clocks N old new (Err Memory)
  ends_starved = record {
    fault = λ other at. absurd (cc);
    read = λ at. absurd (cc);
    no_write = λ at. absurd (cc);
  }

  pub ends_untold : {T : Type 0} (fault : ReplayFault) (halt : CallEnd) → IsUntold fault halt → ForSome old.files (λ files. IsReplayFault files name base clocks N fault)
      → TraceEnds {T = T} name base clocks N old new (Err halt)
  ends_untold {T} fault halt (inl is) holds = subst (λ h. TraceEnds {T = T} name base clocks N old new (Err h)) (sym is) (ends_told fault holds)
  ends_untold {T} fault halt (inr is) holds = subst (λ h. TraceEnds {T = T} name base clocks N old new (Err h)) (sym is) ends_starved

-- a file has more bytes than a trace may have
pub has_more : (files : Files) (name : List ℕ) (held : Option (List ℕ)) → file_at files name ≡ held → IsSomeAnd held (λ bytes. most_bytes < length bytes) → HasMore files name
has_more files name None is long = absurd long
has_more files name (Some text) is long = record { text = text; there = is; many = long }
