-- Plans of stereo nodes, one node more.
use Rattle.std.proofs.Common.{◌≡◌, ℕ, ◌+◌, ◌<◌, ◌≤◌, zero, suc, Bool, true, false, Some, List, [], ◌∷◌, ◌++◌, length, map, sym, refl, ap, subst, inl, inr, arith, slice_get, slice_index, max, take, All}
use Rattle.std.specs.Prelude.{◌⊎◌}
use Rattle.std.proofs.lemmas.Option.{slice_get-get_or}
use Rattle.std.proofs.Math.Nat.{max-zero}
use Rattle.liq_base.specs.declared.limits.TheConstants.{MAX_CHILDREN, MAX_CROSSFADES}
use Rattle.liq_base.specs.declared.memory.Kind.{Kind}
use Rattle.liq_base.specs.declared.memory.Kind.TheVariants.{Stereo}
use Rattle.plan_core.specs.declared.node.Node.{Node}
use Rattle.plan_core.specs.declared.node.Op.{Op}
use Rattle.plan_core.specs.declared.node.Op.TheVariants.{Crossfade}
use Rattle.plan_core.specs.declared.plan.Plan.{Plan}
use Rattle.plan_core.specs.declared.sink.BufferPlan.{BufferPlan}
use Rattle.plan_core.specs.declared.sink.SinkPlan.{SinkPlan}
use Rattle.plan_core.specs.declared.sink.SinkPlan.TheVariants.{Output, Feed}
use Rattle.plan_core.specs.Plans.{IsBuffer, IsNodeOver, HasChildren, HasKind, IsInRange, greatest, crossfade_counts, crossfades_from, reader_of, with_buffer, with_node, IsWellFormed}
use Rattle.plan_samples.specs.Stereos.{blank, stereo_node, AreFeeds, IsStereo, sole_node}

one_more : {A : Type 0} (xs : List A) (y : A) (i : ℕ) (x : A) → slice_get (xs ++ y ∷ []) i ≡ Some x → (slice_get xs i ≡ Some x) ⊎ (y ≡ x)
one_more [] y zero x is = let same : y ≡ x = cc in inr same
one_more [] y (suc i) x is = cc
one_more (z ∷ zs) y zero x is = inl is
one_more (z ∷ zs) y (suc i) x is = one_more zs y i x is

-- a stereo node may stand over a stereo plan
pub stereo_over : (plan : Plan) (op : Op) (children : List ℕ) → IsStereo plan → All (λ child. child < length plan.nodes) children → length children ≤ MAX_CHILDREN → HasChildren op (length children) → HasKind op Stereo Stereo → IsInRange op
    → crossfades_from plan.nodes (stereo_node op children) ≤ MAX_CROSSFADES → IsNodeOver plan.nodes (stereo_node op children)
stereo_over plan op children m below few count kind range crossfades = record {
  children = below;
  few = few;
  number = count;
  kinds = λ number child among there. (let K : Kind → Type 0 = λ k. HasKind op k Stereo in subst K (sym (m.stereo number child there)) kind);
  range = range;
  crossfades = crossfades;
}

-- and the plan stays stereo, where the node holds these children
pub stereo_more : (plan new : Plan) (op : Op) (children held : List ℕ) → held ≡ children → IsStereo plan → IsNodeOver plan.nodes (stereo_node op children) → new ≡ with_node plan (stereo_node op held)
    → (IsNodeOver plan.nodes (stereo_node op held) → IsWellFormed new) → IsStereo new
stereo_more plan new op children held same m over is well = record {
  well_formed = (let N : List ℕ → Type 0 = λ cs. IsNodeOver plan.nodes (stereo_node op cs) in well (subst N (sym same) over));
  stereo = λ i one there. (let P : List Node → Type 0 = λ ns. slice_get ns i ≡ Some one in
      let at : (slice_get plan.nodes i ≡ Some one) ⊎ (stereo_node op held ≡ one) = one_more plan.nodes (stereo_node op held) i one (subst P (ap (λ (p : Plan). p.nodes) is) there) in
      elim at [
        | inl old ↦ m.stereo i one old
        | inr same ↦ ap (λ (x : Node). x.kind) (sym same)
      ]);
}

-- what the law of crossfades says that rest on the nodes below
abbrev pub Rests : Type 0
Rests = (nodes : List Node) (i : ℕ) (node : Node) → slice_get nodes i ≡ Some node → slice_index (crossfade_counts nodes) i ≡ crossfades_from (take i nodes) node

-- a crossfade of a blank has one crossfade
pub one_faded : Rests → (plan : Plan) (child : ℕ) (children : List ℕ) (overlap : ℕ) → children ≡ child ∷ [] → slice_get plan.nodes child ≡ Some blank → crossfades_from plan.nodes (stereo_node (Crossfade overlap) children) ≤ MAX_CROSSFADES
one_faded rests plan child children overlap is there =
    let f : ℕ → ℕ = λ c. slice_index (crossfade_counts plan.nodes) c in
    let rest : f child ≡ crossfades_from (take child plan.nodes) blank = rests plan.nodes child blank there in
    let none : crossfades_from (take child plan.nodes) blank ≡ 0 = refl in
    let below : greatest (map f children) ≡ max (f child) 0 = ap (λ (cs : List ℕ). greatest (map f cs)) is in
    let same : max (f child) 0 ≡ f child = max-zero (f child) in
    let whole : 1 + greatest (map f children) ≤ 4 = omega arith in
    whole

-- behind feeds an output is the only one
pub sole_behind : (feeds : List SinkPlan) (name : List ℕ) (node : ℕ) (fallible wide : Bool) → AreFeeds feeds → sole_node (feeds ++ Output name node fallible wide ∷ []) ≡ Some node
sole_behind [] name node fallible wide all = refl
sole_behind (Feed buffer source ∷ feeds) name node fallible wide all = sole_behind feeds name node fallible wide (λ k d lt. all (suc k) d (omega (arith, lt)))
sole_behind (Output other source f w ∷ feeds) name node fallible wide all = let no : true ≡ false = all 0 (Feed 0 0) (omega arith) in cc

-- where a plan has no buffers, nothing feeds one
no_feeds : (plan : Plan) (sinks : List SinkPlan) → plan.sinks ≡ sinks → IsWellFormed plan → plan.buffers ≡ [] → AreFeeds sinks → sinks ≡ []
no_feeds plan [] is well none all = refl
no_feeds plan (Feed buffer source ∷ feeds) is well none all =
    let below : buffer < length plan.buffers = well.fed buffer 0 (source, ap (λ sinks. slice_get sinks 0) is) in
    let zero_many : length plan.buffers ≡ 0 = ap length none in
    absurd (omega (arith, below, zero_many))
no_feeds plan (Output name node fallible wide ∷ sinks) is well none all = let no : true ≡ false = all 0 (Feed 0 0) (omega arith) in cc

-- an output behind feeds stands alone where there are no buffers
pub alone : (plan : Plan) (output : SinkPlan) → IsWellFormed plan → AreFeeds plan.sinks → plan.buffers ≡ [] → plan.sinks ++ output ∷ [] ≡ output ∷ []
alone plan output well all none = ap (λ sinks. sinks ++ output ∷ []) (no_feeds plan plan.sinks refl well none all)

-- a stereo plan with a buffer more is stereo
pub stereo_buffer : (plan new : Plan) (source : ℕ) (buffer : BufferPlan) → IsStereo plan → IsBuffer buffer → source < length plan.nodes → new ≡ with_buffer plan source Stereo buffer
    → ((from : Node) → IsWellFormed plan → IsBuffer buffer → slice_get plan.nodes source ≡ Some from → Stereo ≡ from.kind → IsWellFormed new) → IsStereo new
stereo_buffer plan new source buffer m fits below is well =
    let there = slice_get-get_or plan.nodes source blank below in
    let reader : Node = reader_of (length plan.buffers) Stereo in
    record {
      well_formed = well _ m.well_formed fits there (sym (m.stereo source _ there));
      stereo = λ i one at. (let P : List Node → Type 0 = λ ns. slice_get ns i ≡ Some one in
          let more : (slice_get plan.nodes i ≡ Some one) ⊎ (reader ≡ one) = one_more plan.nodes reader i one (subst P (ap (λ (p : Plan). p.nodes) is) at) in
          elim more [
            | inl old ↦ m.stereo i one old
            | inr same ↦ ap (λ (x : Node). x.kind) (sym same)
          ]);
    }
