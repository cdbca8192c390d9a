use Rattle.trace_turns.proofs.Tapping.{took_chunk, took_fail, took_lost, took_none, took_wait}
use Rattle.trace_turns.proofs.taps.ToldTaps.take_told.Goals as goal

pub returns-in-Chunk-clause-call : goal.returns-in-Chunk-clause-call
returns-in-Chunk-clause-call c = λ calls stand. took_chunk c.args.self.now.course c.args.self.now.buffers.items c.take_from.new.buffers.items c.args.buffer c.requires.known c.requires.goes c.in_ok-chunk.field-0 c.in_ok-chunk.ensures.taken calls stand c.in-Chunk.chunk c.in-Chunk.is

pub returns-in-Empty-clause-call : goal.returns-in-Empty-clause-call
returns-in-Empty-clause-call c = λ calls stand. took_none c.args.self.now.course c.args.self.now.buffers.items c.take_from.new.buffers.items c.args.buffer c.requires.known c.requires.goes c.in_ok-chunk.field-0 c.in_ok-chunk.ensures.taken calls stand c.in-Empty.is

pub returns-in-Waits-clause-call : goal.returns-in-Waits-clause-call
returns-in-Waits-clause-call c = λ calls stand. took_wait c.args.self.now.course c.args.self.now.buffers.items c.take_from.new.buffers.items c.args.buffer c.requires.known c.requires.goes c.in_ok-chunk.field-0 c.in_ok-chunk.ensures.taken calls stand c.in-Waits.is

pub returns-in-Lost-clause-call : goal.returns-in-Lost-clause-call
returns-in-Lost-clause-call c = λ calls stand. took_lost c.args.self.now.course c.args.self.now.buffers.items c.take_from.new.buffers.items c.args.buffer c.requires.known c.requires.goes c.in_ok-chunk.field-0 c.in_ok-chunk.ensures.taken calls stand c.in-Lost.is

pub returns-in-Never-clause-call : goal.returns-in-Never-clause-call
returns-in-Never-clause-call c = λ calls stand. took_fail c.args.self.now.course c.args.self.now.buffers.items c.take_from.new.buffers.items c.args.buffer c.requires.known c.requires.goes c.in_ok-chunk.field-0 c.in_ok-chunk.ensures.taken calls stand c.in-Never.is
