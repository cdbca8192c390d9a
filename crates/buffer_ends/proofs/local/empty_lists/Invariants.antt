use Rattle.std.proofs.Common.{◌≡◌, map, take}
use Rattle.buffer_ends.specs.Local.{planned}
use Rattle.buffer_ends.proofs.local.empty_lists.Given as goal

abbrev pub invariant-loop-buffer : goal.invariant-loop-buffer
invariant-loop-buffer l = l.lists.items ≡ map planned (take l.buffer-index l.buffers)
