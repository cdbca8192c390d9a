-- The parts of a clock's nodes, one node at a time.
use Rattle.std.proofs.Common.{◌≡◌, ◌<◌, ◌∙◌, ◌++◌, ℕ, zero, suc, Some, List, [], ◌∷◌, length, set, take, slice_get, Bool, true, add-one, arith, refl, ap, sym, subst, inl, inr}
use Rattle.std.proofs.lemmas.List.{take_more_set}
use Rattle.std.proofs.lemmas.Option.{slice_get_within}
use Rattle.std.proofs.Math.ListN.{get_or-append}
use Rattle.plan_core.specs.declared.node.Node.{Node}
use Rattle.clock_infer.specs.declared.clock_map.NodeClock.{NodeClock}
use Rattle.frame_core.specs.Slots.{Slot}
use Rattle.stream_meaning.specs.declared.part.Part.{Part}
use Rattle.stream_meaning.specs.Instants.{Setting, Moment, lies_in, part_at, part_by, part_in, parts_upto, silent, slots_at, work_at}
use Rattle.clock_nodes.specs.States.{IsIn}
use Rattle.clock_nodes.proofs.Places.{below_or_same}

pub parts_step : (setting : Setting) (sub : ℕ → ℕ → List Slot) (clock : NodeClock) (past : List Moment) (parts : List Part) (i : ℕ) (part : Part)
    → i < length parts → take i parts ≡ parts_upto setting sub clock past i
    → part ≡ part_in setting sub (lies_in setting clock i) past i (slice_get setting.plan.nodes i) (take i parts)
    → take (suc i) (set parts i part) ≡ parts_upto setting sub clock past (suc i)
parts_step setting sub clock past parts i part within before is =
    ap (λ n. take n (set parts i part)) (sym (add-one i)) ∙ take_more_set parts i part within
    ∙ ap (λ front. front ++ part ∷ []) before
    ∙ ap (λ p. parts_upto setting sub clock past i ++ p ∷ [])
    (is ∙ ap (λ front. part_in setting sub (lies_in setting clock i) past i (slice_get setting.plan.nodes i) front) before)

pub parts_long : (setting : Setting) (sub : ℕ → ℕ → List Slot) (clock : NodeClock) (past : List Moment) (n : ℕ)
    → length (parts_upto setting sub clock past n) ≡ n
parts_long setting sub clock past zero = refl
parts_long setting sub clock past (suc n) = long (parts_upto setting sub clock past n) _ n (parts_long setting sub clock past n)
  where
    long : (front : List Part) (p : Part) (n : ℕ) → length front ≡ n → length (front ++ p ∷ []) ≡ suc n
    long [] p n e = ap suc e
    long (q ∷ front) p zero e = absurd (omega (arith, e))
    long (q ∷ front) p (suc n) e = ap suc (long front p n (omega (arith, e)))

last_at : (front : List Part) (p : Part) (i : ℕ) → length front ≡ i → part_at (front ++ p ∷ []) i ≡ p
last_at [] p zero e = refl
last_at [] p (suc i) e = absurd (omega (arith, e))
last_at (q ∷ front) p zero e = absurd (omega (arith, e))
last_at (q ∷ front) p (suc i) e = last_at front p i (omega (arith, e))

-- the part of node i, once it has its own
pub parts_are : (setting : Setting) (sub : ℕ → ℕ → List Slot) (clock : NodeClock) (past : List Moment) (n i : ℕ) → i < n
    → part_at (parts_upto setting sub clock past n) i
    ≡ part_in setting sub (lies_in setting clock i) past i (slice_get setting.plan.nodes i) (parts_upto setting sub clock past i)
parts_are setting sub clock past zero i less = absurd (omega (arith, less))
parts_are setting sub clock past (suc n) i less = elim (below_or_same i n (omega (arith, less))) [
  | inl low ↦ get_or-append (parts_upto setting sub clock past n) _ silent i (let long = parts_long setting sub clock past n in omega (arith, long, low))
      ∙ parts_are setting sub clock past n i low
  | inr same ↦ subst (λ j. part_at (parts_upto setting sub clock past (suc n)) j
      ≡ part_in setting sub (lies_in setting clock j) past j (slice_get setting.plan.nodes j) (parts_upto setting sub clock past j)) (sym same)
      (last_at (parts_upto setting sub clock past n) _ n (parts_long setting sub clock past n))
]

part_in-true : (setting : Setting) (sub : ℕ → ℕ → List Slot) (past : List Moment) (i : ℕ) (inside : Bool) (node : Node) (before : List Part) → inside ≡ true
    → part_in setting sub inside past i (Some node) before ≡ part_by setting sub past i (work_at setting i node) (slots_at before node.children)
part_in-true setting sub past i inside node before e = rw e refl

pub part_in-inside : (setting : Setting) (sub : ℕ → ℕ → List Slot) (clock : NodeClock) (past : List Moment) (i : ℕ) (node : Node) (before : List Part) → IsIn setting clock i node
    → part_in setting sub (lies_in setting clock i) past i (slice_get setting.plan.nodes i) before
    ≡ part_by setting sub past i (work_at setting i node) (slots_at before node.children)
part_in-inside setting sub clock past i node before is =
    ap (λ found. part_in setting sub (lies_in setting clock i) past i found before) is.there
    ∙ part_in-true setting sub past i (lies_in setting clock i) node before is.inside

-- a node of the clock does what the definition says of it
pub own_part : (setting : Setting) (sub : ℕ → ℕ → List Slot) (clock : NodeClock) (past : List Moment) (i : ℕ) (node : Node) → IsIn setting clock i node
    → part_at (parts_upto setting sub clock past (length setting.plan.nodes)) i
    ≡ part_by setting sub past i (work_at setting i node) (slots_at (parts_upto setting sub clock past i) node.children)
own_part setting sub clock past i node is =
    parts_are setting sub clock past (length setting.plan.nodes) i (slice_get_within setting.plan.nodes i node is.there)
    ∙ part_in-inside setting sub clock past i node (parts_upto setting sub clock past i) is
