-- What the work of a node says of its operator: only a reader reads, and only a crossfade fades.
use Rattle.std.proofs.Common.{◌≡◌, ℕ, List, [], refl, ap}
use Rattle.liq_base.specs.declared.memory.Kind.{Kind}
use Rattle.plan_core.specs.declared.node.Node.{Node}
use Rattle.plan_core.specs.declared.node.Op.{Op}
use Rattle.plan_core.specs.declared.node.Op.TheVariants.{Crossfade, Buffer}
use Rattle.stream_meaning.specs.Operators.{Work, Fades, Reads, work_of}
use Rattle.stream_meaning.specs.Instants.{Setting, Moment, work_at}
use Rattle.stream_meaning.specs.Calls.{takes_by}

-- who reads a buffer is its reader
pub reads_op : (rate i : ℕ) (kind : Kind) (op : Op) (buffer : ℕ) → work_of rate i kind op ≡ Reads buffer → op ≡ Buffer buffer
reads_op rate i kind (Buffer other) buffer is = let same : other ≡ buffer = cc in ap Buffer same
reads_op rate i kind _ buffer is = absurd cc

-- who fades is a crossfade
fades_op : (rate i : ℕ) (kind : Kind) (op : Op) (overlap : ℕ) → work_of rate i kind op ≡ Fades overlap → op ≡ Crossfade overlap
fades_op rate i kind (Crossfade other) overlap is = let same : other ≡ overlap = cc in ap Crossfade same
fades_op rate i kind _ overlap is = absurd cc

-- the same for a node
pub op_of_reads : (setting : Setting) (i buffer : ℕ) (node : Node) → work_at setting i node ≡ Reads buffer → node.op ≡ Buffer buffer
op_of_reads setting i buffer node is = reads_op setting.plan.rate i node.kind node.op buffer is

pub op_of_fades : (setting : Setting) (i overlap : ℕ) (node : Node) → work_at setting i node ≡ Fades overlap → node.op ≡ Crossfade overlap
op_of_fades setting i overlap node is = fades_op setting.plan.rate i node.kind node.op overlap is

-- no other work takes
pub no_takes : (setting : Setting) (past : List Moment) (i : ℕ) (work : Work) → ((buffer : ℕ) → work ≡ Reads buffer → ⊥) → takes_by setting past i work ≡ []
no_takes setting past i (Reads buffer) none = absurd (none buffer refl)
no_takes setting past i _ none = refl
