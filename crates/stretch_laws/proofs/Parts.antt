-- The parts of a clock's nodes, one node at a time.
use Rattle.std.proofs.Common.{◌≡◌, ◌<◌, ◌≤◌, ◌+◌, ◌∙◌, ◌++◌, ℕ, zero, suc, Some, List, [], ◌∷◌, length, get_or, slice_get, Bool, true, false, arith, refl, ap, sym, subst, inl, inr}
use Rattle.std.proofs.lemmas.Bool.{cases_lt}
use Rattle.std.proofs.lemmas.List.{get_or_append_left, get_or_past}
use Rattle.std.proofs.Math.Seq.{get_or-append_seam}
use Rattle.plan_core.specs.declared.node.Node.{Node}
use Rattle.clock_infer.specs.declared.clock_map.NodeClock.{NodeClock}
use Rattle.frame_core.specs.Slots.{Slot}
use Rattle.stream_meaning.specs.declared.part.Part.{Part}
use Rattle.stream_meaning.specs.Instants.{Setting, Moment, lies_in, part_at, part_by, part_in, parts_upto, silent, slots_at, uses_by, uses_from, work_at}
use Rattle.stretch_laws.specs.Stretches.{IsNode}

long_snoc : {A : Type 0} (xs : List A) (y : A) → length (xs ++ y ∷ []) ≡ suc (length xs)
long_snoc [] y = refl
long_snoc (x ∷ xs) y = ap suc (long_snoc xs y)

seam : {A : Type 0} (xs : List A) (y d : A) (i : ℕ) → length xs ≡ i → get_or (xs ++ y ∷ []) i d ≡ y
seam xs y d i e = subst (λ n. get_or (xs ++ y ∷ []) n d ≡ y) e (get_or-append_seam xs y [] d)

module _ (setting : Setting) (sub : ℕ → ℕ → List Slot) (clock : NodeClock) (past : List Moment) where
  parts_long : (n : ℕ) → length (parts_upto setting sub clock past n) ≡ n
  parts_long zero = refl
  parts_long (suc n) = long_snoc (parts_upto setting sub clock past n) _ ∙ ap suc (parts_long n)

  pub parts_are : (n i : ℕ) → i < n → part_at (parts_upto setting sub clock past n) i
      ≡ part_in setting sub (lies_in setting clock i) past i (slice_get setting.plan.nodes i) (parts_upto setting sub clock past i)
  parts_are zero i less = absurd (omega (arith, less))
  parts_are (suc n) i less = elim (cases_lt i n) [
    | inl low ↦ get_or_append_left (parts_upto setting sub clock past n) _ silent i (let long = parts_long n in omega (arith, long, low)) ∙ parts_are n i low
    | inr high ↦ (let e : n ≡ i = omega (arith, less, high) in
        subst (λ j. part_at (parts_upto setting sub clock past (suc n)) j
        ≡ part_in setting sub (lies_in setting clock j) past j (slice_get setting.plan.nodes j) (parts_upto setting sub clock past j)) e
        (seam (parts_upto setting sub clock past n) _ silent n (parts_long n)))
  ]

  pub part_past : (i : ℕ) → length setting.plan.nodes ≤ i → part_at (parts_upto setting sub clock past (length setting.plan.nodes)) i ≡ silent
  part_past i high = get_or_past (parts_upto setting sub clock past (length setting.plan.nodes)) i silent (let long = parts_long (length setting.plan.nodes) in omega (arith, long, high))

  -- a part stays, once it is there
  pub part_stays : (n m i : ℕ) → i < n → i < m → part_at (parts_upto setting sub clock past n) i ≡ part_at (parts_upto setting sub clock past m) i
  part_stays n m i low high = parts_are n i low ∙ sym (parts_are m i high)

  part_outside : (i : ℕ) (inside : Bool) (node : Node) (before : List Part) → inside ≡ false → part_in setting sub inside past i (Some node) before ≡ silent
  part_outside i inside node before e = rw e refl

  part_inside : (i : ℕ) (inside : Bool) (node : Node) (before : List Part) → inside ≡ true
      → part_in setting sub inside past i (Some node) before ≡ part_by setting sub past i (work_at setting i node) (slots_at before node.children)
  part_inside i inside node before e = rw e refl

  pub other_part : (n i : ℕ) (node : Node) → i < n → slice_get setting.plan.nodes i ≡ Some node → lies_in setting clock i ≡ false
      → part_at (parts_upto setting sub clock past n) i ≡ silent
  other_part n i node low there outside =
      parts_are n i low ∙ ap (λ found. part_in setting sub (lies_in setting clock i) past i found (parts_upto setting sub clock past i)) there
      ∙ part_outside i (lies_in setting clock i) node (parts_upto setting sub clock past i) outside

  pub own_part : (n i : ℕ) (node : Node) → i < n → IsNode setting clock i node
      → part_at (parts_upto setting sub clock past n) i
      ≡ part_by setting sub past i (work_at setting i node) (slots_at (parts_upto setting sub clock past i) node.children)
  own_part n i node low is =
      parts_are n i low ∙ ap (λ found. part_in setting sub (lies_in setting clock i) past i found (parts_upto setting sub clock past i)) is.there
      ∙ part_inside i (lies_in setting clock i) node (parts_upto setting sub clock past i) is.inside

-- what node i uses
pub uses_long : (setting : Setting) (parts : List Part) (i : ℕ) (nodes : List Node) → length (uses_from setting parts i nodes) ≡ length nodes
uses_long setting parts i [] = refl
uses_long setting parts i (node ∷ nodes) = ap suc (uses_long setting parts (suc i) nodes)

pub uses_at : (setting : Setting) (parts : List Part) (i k : ℕ) (nodes : List Node) (node : Node) → slice_get nodes k ≡ Some node
    → get_or (uses_from setting parts i nodes) k [] ≡ uses_by parts (work_at setting (i + k) node) node.children (part_at parts (i + k)).pick
uses_at setting parts i k [] node there = cc
uses_at setting parts i zero (n ∷ nodes) node there =
    let same : n ≡ node = cc in
    let e : i ≡ i + 0 = omega arith in
    ap (λ m. uses_by parts (work_at setting i m) m.children (part_at parts i).pick) same
    ∙ ap (λ j. uses_by parts (work_at setting j node) node.children (part_at parts j).pick) e
uses_at setting parts i (suc k) (n ∷ nodes) node there =
    let e : suc i + k ≡ i + suc k = omega arith in
    uses_at setting parts (suc i) k nodes node there ∙ ap (λ j. uses_by parts (work_at setting j node) node.children (part_at parts j).pick) e
