-- What an engine does says nothing of its taps but for their calls: with taps that stand for any calls it may do the same.
use Rattle.std.proofs.Common.{◌≡◌, ℕ, List, refl, Option, ◌∙◌}
use Rattle.liq_base.specs.Pieces.{SinkTold}
use Rattle.frame_core.specs.Calls.{Call}
use Rattle.clock_threads.specs.declared.task.Task.{Task}
use Rattle.clock_threads.specs.UnbufferedTicks.{with_taps}
use Rattle.clock_threads.specs.TaskRuns.{CanRun, WasRun}

module _ {S T U : Type 0} (told : S → SinkTold) (count : ℕ) where
  pub can_with : (buffers : T → ℕ) (others : U → ℕ) (x : Task S T) (taps : U) → others taps ≡ buffers x.taps → CanRun told buffers count x → CanRun told others count (with_taps taps x.engine)
  can_with buffers others x taps same can = record { many = same ∙ can.many; stands = can.stands; few = can.few; rooms = can.rooms }

  pub ran_with : (stands : T → List Call → Type 0) (buffers : T → ℕ) (same : T → T → Type 0)
      (stand_other : U → List Call → Type 0) (others : U → ℕ) (same_other : U → U → Type 0) (x y : Task S T) (taps : U) → same_other taps taps → ((calls : List Call) → stand_other taps calls)
      → WasRun told stands buffers same count x y → WasRun told stand_other others same_other count (with_taps taps x.engine) (with_taps taps y.engine)
  ran_with stands buffers same stand_other others same_other x y taps itself any ran = record {
    clock = ran.clock;
    taps = itself;
    many = refl;
    ran = record {
      on = λ t tick_calls first gone runs. (let w = ran.ran.on t tick_calls first gone runs in record { after = w.after; agree = w.agree; gone = w.gone; pieces = w.pieces; taps = λ calls stand. any _ });
      halted = λ t tick_calls first gone stops. (let w = ran.ran.halted t tick_calls first gone stops in record { made = w.made; fewer = w.fewer; after = w.after; agree = w.agree; part = w.part; pieces = w.pieces; taps = λ calls stand. any _ });
    };
    write = ran.write;
    rooms = ran.rooms;
    memory = ran.memory;
  }
