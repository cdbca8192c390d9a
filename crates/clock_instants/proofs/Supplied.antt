-- What a crossfade through which cells pass is given in a run.
use Rattle.std.proofs.Common.{◌≡◌, ◌<◌, ℕ, Bool, true, false, Some, Option, List, length, get_or, slice_get, arith, refl, ap, subst}
use Rattle.std.specs.Option.{option_map_or}
use Rattle.std.proofs.lemmas.Bool.{false≢true}
use Rattle.std.proofs.lemmas.Option.{slice_get-get_or}
use Rattle.liq_base.specs.declared.memory.Kind.{Kind}
use Rattle.plan_core.specs.declared.node.Node.{Node}
use Rattle.plan_core.specs.declared.node.Op.{Op}
use Rattle.plan_core.specs.declared.node.Op.TheVariants.{Crossfade}
use Rattle.plan_core.specs.Plans.{AreNodes, HasChildren}
use Rattle.frame_core.specs.Slots.{Slot}
use Rattle.stream_meaning.specs.Operators.{Work, Plays, Picks, Mixes, Fades, Reads, work_of}
use Rattle.stream_meaning.specs.Instants.{Setting, Moment, crossfaded, work_at}
use Rattle.op_mix.specs.Stretches.{Lanes, samples_of}
use Rattle.node_states.specs.declared.state.NodeState.{NodeState}
use Rattle.node_states.specs.declared.state.NodeState.TheVariants.{Leaf, Select, Turn, Mix, Cross, Read, Idle}
use Rattle.node_states.specs.Passing.{ChildFills, LaneFills, passes}
use Rattle.node_states.specs.States.{StateStands}

abbrev is_fade : Work → Bool
is_fade (Plays leaf) = false
is_fade (Picks choice eligible) = false
is_fade (Mixes mixing) = false
is_fade (Fades overlap) = true
is_fade (Reads buffer) = false

-- a crossfade has a child
one_child : (rate i : ℕ) (kind : Kind) (op : Op) (n : ℕ) → is_fade (work_of rate i kind op) ≡ true → HasChildren op n → 0 < n
one_child rate i kind (Crossfade overlap) n is many = omega (arith, many)
one_child rate i kind _ n is many = absurd (false≢true is)

-- cells pass through no other node
passing_fades : (setting : Setting) (sub : ℕ → ℕ → List Slot) (past : List Moment) (filled i : ℕ) (work : Work) (state : NodeState) → StateStands setting sub past filled i work state
    → passes state ≡ true → is_fade work ≡ true
passing_fades setting sub past filled i work (Leaf state) s e = absurd (false≢true e)
passing_fades setting sub past filled i work (Select state) s e = absurd (false≢true e)
passing_fades setting sub past filled i work (Turn state) s e = absurd (false≢true e)
passing_fades setting sub past filled i work (Mix mixer) s e = absurd (false≢true e)
passing_fades setting sub past filled i (Plays leaf) (Cross state) s e = absurd s
passing_fades setting sub past filled i (Picks choice eligible) (Cross state) s e = absurd s
passing_fades setting sub past filled i (Mixes mixing) (Cross state) s e = absurd s
passing_fades setting sub past filled i (Fades overlap) (Cross state) s e = refl
passing_fades setting sub past filled i (Reads buffer) (Cross state) s e = absurd s
passing_fades setting sub past filled i work (Read reader) s e = absurd (false≢true e)
passing_fades setting sub past filled i work Idle s e = absurd (false≢true e)

-- the samples of the child are those of the crossfade's first child
pub child_fills : (setting : Setting) (sub : ℕ → ℕ → List Slot) (past : List Moment) (many filled i title : ℕ) (node : Node) (state : NodeState) (left right : Lanes) → AreNodes setting.plan.nodes
    → slice_get setting.plan.nodes i ≡ Some node → StateStands setting sub past filled i (work_at setting i node) state → passes state ≡ true
    → LaneFills (sub i) filled many title (samples_of left (crossfaded setting.plan.nodes i) many) (samples_of right (crossfaded setting.plan.nodes i) many)
    → ChildFills (sub i) filled many title node.children left right
child_fills setting sub past many filled i title node state left right nodes found stands through fills =
    let own = nodes i node found in
    let some : 0 < length node.children = one_child setting.plan.rate i node.kind node.op (length node.children)
    (passing_fades setting sub past filled i (work_at setting i node) state stands through) own.number in
    let is : crossfaded setting.plan.nodes i ≡ get_or node.children 0 0 = ap (λ (at : Option Node). option_map_or (λ (node : Node). get_or node.children 0 0) at 0) found in
    record {
      child = get_or node.children 0 0;
      there = slice_get-get_or node.children 0 0 some;
      fills = subst (λ n. LaneFills (sub i) filled many title (samples_of left n many) (samples_of right n many)) is fills;
    }
