-- Which sources lie below a crossfade.
use Rattle.std.proofs.Common.{◌≡◌, ◌<◌, ◌≤◌, ◌+◌, ◌∙◌, ℕ, Bool, true, false, ◌||◌, Some, List, [], ◌∷◌, take, length, get_or, arith, refl, ap, sym, inl, inr}
use Rattle.std.specs.Prelude.{All, nat_eq, slice_get}
use Rattle.std.specs.List.{list_any}
use Rattle.std.proofs.lemmas.Bool.{cases_eq, cases_lt, or_cases, or_left, or_right, true≢false}
use Rattle.std.proofs.lemmas.Bool.Decides.{nat_tests}
use Rattle.std.proofs.lemmas.List.{get_or_past}
use Rattle.std.proofs.lemmas.List.Elements.{All-head, All-tail}
use Rattle.std.proofs.lemmas.Option.{get_or_from_slice_get, slice_get_within}
use Rattle.std.proofs.lemmas.List.{length-take}
use Rattle.plan_core.specs.Plans.{AreNodes}
use Rattle.plan_core.specs.declared.node.Node.{Node}
use Rattle.week_lines.specs.Instead.{IsBelow, OfBelow, OfCrossfade, is_crossfade, plays}

-- the mark of a source
abbrev pub marked : List Bool → ℕ → Bool
marked marks n = get_or marks n false

all_any : (below m : ℕ) (children : List ℕ) → All (λ child. child < below) children → list_any (λ child. nat_eq child m) children ≡ true → m < below
all_any below m [] all is = absurd (true≢false (sym is))
all_any below m (c ∷ cs) all is = elim (or_cases (nat_eq c m) (list_any (λ child. nat_eq child m) cs) is) [
  | inl first ↦ (let low : c < below = All-head (λ child. child < below) c cs all in grind (arith, nat_tests, first, low))
  | inr rest ↦ all_any below m cs (All-tail (λ child. child < below) c cs all) rest
]

-- a node plays sources before it alone
pub plays_before : (nodes : List Node) (n m : ℕ) (node : Node) → AreNodes nodes → slice_get nodes n ≡ Some node → plays m node ≡ true → m < n
plays_before nodes n m node are here is =
    let within = slice_get_within nodes n node here in
    let below = all_any (length (take n nodes)) m node.children (are n node here).children is in
    let size = length-take n nodes in
    omega (arith, below, size)

-- the sources from one on were looked at
pub record AreMarked (nodes : List Node) (marks : List Bool) (from : ℕ) : Type 0 where
  pub size : length marks ≡ length nodes
  pub sound : (n : ℕ) → marked marks n ≡ true → IsBelow nodes n
  pub closed : (n m : ℕ) (node : Node) → from ≤ n → slice_get nodes n ≡ Some node → (is_crossfade node.op || marked marks n) ≡ true → plays m node ≡ true
      → marked marks m ≡ true

-- a node that is none and lies below none
pub marked_none : (nodes : List Node) (marks : List Bool) (n from : ℕ) (node : Node) → from ≡ n + 1 → slice_get nodes n ≡ Some node → AreMarked nodes marks from
    → (is_crossfade node.op || marked marks n) ≡ false → AreMarked nodes marks n
marked_none nodes marks n from node next here are none = record {
  size = are.size;
  sound = are.sound;
  closed = λ k m other low at over is. elim (cases_eq k n) [
    | inl same ↦ absurd (true≢false (sym over ∙ ap (λ (j : ℕ). is_crossfade other.op || marked marks j) same ∙ ap (λ (x : Node). is_crossfade x.op || marked marks n) (same_node k same other at) ∙ none))
    | inr apart ↦ are.closed k m other (omega (arith, low, apart, next)) at over is
  ];
}
  where
    same_node : (k : ℕ) → k ≡ n → (other : Node) → slice_get nodes k ≡ Some other → other ≡ node
    same_node k same other at = sym (get_or_from_slice_get nodes k other node at) ∙ ap (λ (j : ℕ). get_or nodes j node) same ∙ get_or_from_slice_get nodes n node node here

-- a node that is one, or lies below one: its children are marked
pub marked_all : (nodes : List Node) (old new : List Bool) (n from : ℕ) (node : Node) → AreNodes nodes → from ≡ n + 1 → slice_get nodes n ≡ Some node → AreMarked nodes old from
    → (is_crossfade node.op || marked old n) ≡ true → length new ≡ length old → ((m : ℕ) → m < length old → marked new m ≡ (marked old m || plays m node))
    → AreMarked nodes new n
marked_all nodes old new n from node nodes_are next here are over size each = record {
  size = size ∙ are.size;
  sound = λ m is. elim (cases_lt m (length old)) [
    | inl low ↦ elim (or_cases (marked old m) (plays m node) (sym (each m low) ∙ is)) [
      | inl before ↦ are.sound m before
      | inr child ↦ elim (or_cases (is_crossfade node.op) (marked old n) over) [
        | inl crossfade ↦ OfCrossfade m n node here child crossfade
        | inr below ↦ OfBelow m n node here child (are.sound n below)
      ]
    ]
    | inr high ↦ absurd (true≢false (sym is ∙ get_or_past new m false (omega (arith, high, size))))
  ];
  closed = λ k m other low at over is. elim (cases_eq k n) [
    | inl same ↦ marked_child m (rw (same_node k same other at) at is)
    | inr apart ↦ kept m (are.closed k m other (omega (arith, low, apart, next)) at (rw (unchanged k (omega (arith, low, apart)) (within k other at)) at over) is)
  ];
}
  where
    same_node : (k : ℕ) → k ≡ n → (other : Node) → slice_get nodes k ≡ Some other → other ≡ node
    same_node k same other at = sym (get_or_from_slice_get nodes k other node at) ∙ ap (λ (j : ℕ). get_or nodes j node) same ∙ get_or_from_slice_get nodes n node node here

    within : (k : ℕ) (other : Node) → slice_get nodes k ≡ Some other → k < length old
    within k other at = let low = slice_get_within nodes k other at in let is = are.size in omega (arith, low, is)

    low_child : (m : ℕ) → plays m node ≡ true → m < length old
    low_child m is = let before = plays_before nodes n m node nodes_are here is in let low = within n node here in omega (arith, before, low)

    marked_child : (m : ℕ) → plays m node ≡ true → marked new m ≡ true
    marked_child m is = each m (low_child m is) ∙ or_right (marked old m) (plays m node) is

    low_marked : (m : ℕ) → marked old m ≡ true → m < length old
    low_marked m is = elim (cases_lt m (length old)) [
      | inl low ↦ low
      | inr high ↦ absurd (true≢false (sym is ∙ get_or_past old m false high))
    ]

    kept : (m : ℕ) → marked old m ≡ true → marked new m ≡ true
    kept m is = each m (low_marked m is) ∙ or_left (marked old m) (plays m node) is

    unplayed : (k : ℕ) → n < k → (b : Bool) → plays k node ≡ b → b ≡ false
    unplayed k high true is = absurd (let before = plays_before nodes n k node nodes_are here is in omega (arith, before, high))
    unplayed k high false is = refl

    unchanged : (k : ℕ) → n < k → k < length old → marked new k ≡ marked old k
    unchanged k high low = each k low ∙ ap (λ (b : Bool). marked old k || b) (unplayed k high (plays k node) refl) ∙ or_none (marked old k)
      where
        or_none : (b : Bool) → (b || false) ≡ b
        or_none true = refl
        or_none false = refl

-- each source that lies below one is marked
pub complete : (nodes : List Node) (marks : List Bool) → AreMarked nodes marks 0 → (n : ℕ) → IsBelow nodes n → marked marks n ≡ true
complete nodes marks are n (OfCrossfade number player node here is crossfade) =
    are.closed player number node (omega arith) here (or_left (is_crossfade node.op) (marked marks player) crossfade) is
complete nodes marks are n (OfBelow number player node here is below) =
    are.closed player number node (omega arith) here (or_right (is_crossfade node.op) (marked marks player) (complete nodes marks are player below)) is
