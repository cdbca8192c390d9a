-- What the code calls a node's work.
use Rattle.std.specs.Prelude.{◌≡◌}
use Rattle.stream_meaning.specs.Operators.{Work, Plays, Picks, Mixes, Fades, Reads, Selects, TakesTurns}
use Rattle.op_mix.specs.Mixings.{mixing_of}
use Rattle.node_states.specs.declared.task.Task.{Task}
use Rattle.node_states.specs.declared.task.Task.TheVariants as task

-- the task by which the code sorts a node is this work, by which the meaning of streams does; the predicates of a
-- switch are left out of it
abbrev pub IsTask : Task → Work → Type 0
IsTask (task.Play one) (Plays leaf) = one ≡ leaf
IsTask (task.Pick one) (Picks (Selects rule) eligible) = one ≡ rule
IsTask (task.Turn one) (Picks (TakesTurns turn) eligible) = one ≡ turn
IsTask (task.Mix one) (Mixes mixing) = mixing_of one ≡ mixing
IsTask (task.Fade one) (Fades overlap) = one ≡ overlap
IsTask (task.Read one) (Reads buffer) = one ≡ buffer
IsTask one work = ⊥
