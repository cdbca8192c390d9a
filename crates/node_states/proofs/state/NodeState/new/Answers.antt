use Rattle.std.proofs.Common.{◌<◌, ℕ, length, sym, subst}
use Rattle.liq_base.specs.declared.memory.Kind.{Kind}
use Rattle.frame_core.specs.Library.{Sounds}
use Rattle.op_leaf.specs.declared.leaf.Leaf.{Leaf as TheLeaf}
use Rattle.op_leaf.specs.Leaves.{HasTracksOf}
use Rattle.plan_core.specs.declared.node.Op.{Op}
use Rattle.plan_core.specs.declared.node.Op.TheVariants.{Single, Playlist, Blank, Square, Fail}
use Rattle.stream_meaning.specs.Operators.{work_of}
use Rattle.node_states.specs.declared.task.Task.TheVariants as task
use Rattle.node_states.specs.Works.{IsTask}
use Rattle.node_states.proofs.state.NodeState.new.Goals as goal

has_tracks : (library : Sounds) (rate i : ℕ) (kind : Kind) (op : Op) (leaf : TheLeaf) → i < length library.leaves → IsTask (task.Play leaf) (work_of rate i kind op) → HasTracksOf library leaf
has_tracks library rate i kind (Single file) leaf within is = subst (HasTracksOf library) (sym is) within
has_tracks library rate i kind (Playlist file again) leaf within is = subst (HasTracksOf library) (sym is) within
has_tracks library rate i kind (Blank track) leaf within is = subst (HasTracksOf library) (sym is) tt
has_tracks library rate i kind (Square pitch) leaf within is = subst (HasTracksOf library) (sym is) tt
has_tracks library rate i kind Fail leaf within is = subst (HasTracksOf library) (sym is) tt
has_tracks library rate i kind _ leaf within is = absurd is

pub returns-in-Play-clause-fits : goal.returns-in-Play-clause-fits
returns-in-Play-clause-fits c = λ library is within.
    c.new.ensures.placed library is (has_tracks library c.args.plan.now.rate c.args.i c.args.node.now.kind c.args.node.now.op c.in-Play.leaf within c.in-Play.ensures)
