-- The parts of an engine go to another thread, and so does the whole: one lemma for each struct, since a search that goes
-- down through all of them runs out of steps.
use denote.RattleType.{RattleType}
use denote.Ref.{NamedLft}
use denote.Builtin
use denote.Param.Send
use denote.Param.Send.{IsSend, IsSync, sendable}
use denote.Struct.Declared
use Rattle.std.proofs.Crossing
use Rattle.time_pred.proofs.pred.Pred.TheLaws.TheKnot
use Rattle.std.specs.contracts.alloc.Global
use Rattle.std.specs.contracts.vec.Vec
use Rattle.std.specs.contracts.impls.GlobalAllocator.TheImpl
use Rattle.std.below.std_heap.proofs.GlobalAllocator.TheSendSync as AllocatorSent
use Rattle.clock_outputs.specs.contracts.feed.FeedPort
use Rattle.clock_outputs.specs.contracts.port.Port
use Rattle.clock_ticks.specs.contracts.fault.TickFault
use Rattle.clock_ticks.specs.contracts.engine.ClockEngine
use Rattle.clock_ticks.specs.contracts.engine.ClockEngine.TheInside as Fields
use Rattle.clock_ticks.specs.contracts.engine.EngineParts
use Rattle.clock_nodes.specs.contracts.scene.Scene
use Rattle.clock_ticks.proofs.clock_state.ClockState.TheSendSync as ClockStateSent
use Rattle.clock_ticks.proofs.cues.Cues.TheSendSync as CuesSent
use Rattle.clock_outputs.proofs.port.Port.TheSendSync as PortSent
use Rattle.clock_outputs.proofs.feed.FeedPort.TheSendSync as FeedSent
use Rattle.clock_ticks.proofs.fault.TickFault.TheSendSync as FaultSent
use Rattle.clock_infer.proofs.clock_map.NodeClock.TheSendSync as ClockSent
use Rattle.fixed_text.proofs.week.WeekSecond.TheSendSync as SecondSent
use Rattle.fixed_text.proofs.decimal.Decimal.TheSendSync as DecimalSent
use Rattle.fixed_text.proofs.time_mark.TimeMark.TheSendSync as MarkSent
use Rattle.frame_core.proofs.library.Library.TheSendSync as LibrarySent
use Rattle.liq_base.proofs.memory.Kind.TheSendSync as KindSent
use Rattle.liq_base.proofs.text.Text.TheSendSync as TextSent
use Rattle.plan_core.proofs.items.Items.TheSendSync as ItemsSent
use Rattle.plan_core.proofs.sink.BufferPlan.TheSendSync as BufferSent
use Rattle.plan_core.proofs.sink.SinkPlan.TheSendSync as SinkSent
use Rattle.std.proofs.alloc.Global.TheSendSync as GlobalSent
use Rattle.std.proofs.boxed.Box.TheSendSync as BoxSent
use Rattle.std.proofs.option.Option.TheSendSync as OptionSent
use Rattle.std.proofs.rt.Memory.TheSendSync as MemorySent
use Rattle.std.proofs.string.String.TheSendSync as StringSent
use Rattle.std.proofs.vec.Vec.TheSendSync as VecSent

pub vec_send : (R : RattleType) → IsSend R → IsSend (Vec.the_row R Global.the_row TheImpl.ghosts)
vec_send R s = VecSent.the_send R Global.the_row TheImpl.ghosts s GlobalSent.the_send AllocatorSent.the_frees

pub scene_send : (a : NamedLft) → IsSend (Scene.the_field a).row
scene_send a = Send.struct_send (Declared.shape (Scene.the_type a)) (
  search (
    Crossing.crosses,
    TheKnot.crosses_both,
    DecimalSent.the_field_sync,
    MarkSent.the_field_sync,
    KindSent.the_field_sync,
    TextSent.the_sync,
    ItemsSent.the_sync,
    BufferSent.the_sync,
    BufferSent.the_field_sync,
    SinkSent.the_sync,
    SinkSent.the_field_sync,
    GlobalSent.the_sync,
    BoxSent.the_sync,
    OptionSent.the_sync,
    MemorySent.the_sync,
    StringSent.the_sync,
    VecSent.the_sync,
    sendable,
  ) depth 60 fits 20000,
  (
    search (LibrarySent.the_sync, sendable) depth 20,
    (search (ClockSent.the_sync, ClockSent.the_field_sync, sendable) depth 20, tt),
  ),
)

pub parts_send : (a : NamedLft) → IsSend (EngineParts.the_field a).row
parts_send a = Send.struct_send (Declared.shape (EngineParts.the_type a)) (
  scene_send a,
  (
    Send.plain_send _ _ _ _ _,
    (
      SecondSent.the_field_send,
      (
        vec_send Builtin.bool (Send.plain_send _ _ _ _ _),
        (
          ClockStateSent.the_field_send,
          (
            vec_send Port.the_row PortSent.the_send,
            (
              vec_send FeedPort.the_row FeedSent.the_send,
              (CuesSent.the_field_send, (Send.plain_send _ _ _ _ _, (OptionSent.the_field_send TickFault.the_row FaultSent.the_send, tt))),
            ),
          ),
        ),
      ),
    ),
  ),
)

-- an engine is seen through a model; below it are its fields
pub engine_send : (a : NamedLft) (R : RattleType) → IsSend R → IsSend (ClockEngine.the_row a R)
engine_send a R s =
    Send.view_send _ _ _ _ _
    (Send.recorded_send (Fields.the_field a R).row _ _ (Fields.the_type a R).to_one (Send.struct_send (Declared.shape (Fields.the_type a R)) (parts_send a, (vec_send R s, tt))))
