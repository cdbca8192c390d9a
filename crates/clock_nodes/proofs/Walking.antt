-- A walk over the nodes of a clock, one node at a time.
use Rattle.std.proofs.Common.{◌≡◌, ◌<◌, ◌≤◌, ◌+◌, ◌-◌, ◌∙◌, ◌&&◌, ◌++◌, ℕ, zero, suc, Bool, true, false, Option, None, Some, List, [], ◌∷◌, length, get_or, set, slice_get, take, add-one, arith, refl, ap, sym, subst, inl, inr}
use Rattle.std.proofs.lemmas.Bool.{cases_lt, true≢false}
use Rattle.std.proofs.lemmas.List.{get_or-set_other, get_or-set_same, get_or_past, take_more}
use Rattle.plan_core.specs.declared.node.Node.{Node}
use Rattle.clock_infer.specs.declared.clock_map.NodeClock.{NodeClock}
use Rattle.clock_infer.specs.declared.clock_map.NodeClock.TheVariants.{Main}
use Rattle.frame_core.specs.Slots.{Slot}
use Rattle.stream_meaning.specs.declared.part.Part.{Part}
use Rattle.stream_meaning.specs.Instants.{Setting, Moment, lies_in, part_at, part_in, parts_upto, silent}
use Rattle.stream_meaning.proofs.Existence.{same_clock-true}
use Rattle.clock_nodes.specs.Nodes.{IsEnd, IsFirst, lies_at}
use Rattle.clock_nodes.proofs.Places.{same_or_other}

-- the next node of a clock's node is the clock's next one
pub next_own : (clocks : List NodeClock) (clock : NodeClock) (i n : ℕ) → lies_at clocks clock i ≡ true → IsFirst clocks (get_or clocks i (Main 0)) (suc i) n
    → IsFirst clocks clock (suc i) n
next_own clocks clock i n inside is = subst (λ c. IsFirst clocks c (suc i) n) (same_clock-true (get_or clocks i (Main 0)) clock inside) is

pub end_own : (clocks : List NodeClock) (clock : NodeClock) (i n : ℕ) → lies_at clocks clock i ≡ true → IsEnd clocks (get_or clocks i (Main 0)) i n
    → IsEnd clocks clock i n
end_own clocks clock i n inside is = subst (λ c. IsEnd clocks c i n) (same_clock-true (get_or clocks i (Main 0)) clock inside) is

-- no node of another clock is the one that is walked on
pub not_here : (clocks : List NodeClock) (clock : NodeClock) (i j : ℕ) → lies_at clocks clock i ≡ true → lies_at clocks clock j ≡ false → j ≡ i → ⊥
not_here clocks clock i j inside outside same = true≢false (sym inside ∙ ap (lies_at clocks clock) (sym same) ∙ outside)

-- items that are this one below the node that is walked on, and at the nodes of other clocks
pub record AreCleared {A : Type 0} (clocks : List NodeClock) (clock : NodeClock) (quiet : A) (items : List A) (i : ℕ) : Type 0 where
  pub below : (j : ℕ) → j < i → get_or items j quiet ≡ quiet
  pub other : (j : ℕ) → lies_at clocks clock j ≡ false → get_or items j quiet ≡ quiet

pub cleared_first : {A : Type 0} (clocks : List NodeClock) (clock : NodeClock) (quiet : A) (items : List A) (i : ℕ) → IsFirst clocks clock 0 i
    → ((j : ℕ) → lies_at clocks clock j ≡ false → get_or items j quiet ≡ quiet) → AreCleared clocks clock quiet items i
cleared_first clocks clock quiet items i first other = record {
  below = λ j low. other j (first.skips j (omega arith) low);
  other = other;
}

pub cleared_next : {A : Type 0} (clocks : List NodeClock) (clock : NodeClock) (quiet : A) (items : List A) (i n : ℕ) → i < length items
    → IsFirst clocks clock (suc i) n → AreCleared clocks clock quiet items i → AreCleared clocks clock quiet (set items i quiet) n
cleared_next {A} clocks clock quiet items i n within first cleared = record {
  below = λ j low. elim (cases_lt j i) [
    | inl less ↦ stays j (cleared.below j less)
    | inr high ↦ elim (same_or_other i j) [
      | inl same ↦ ap (λ k. get_or (set items i quiet) k quiet) (sym same) ∙ get_or-set_same items i quiet quiet within
      | inr apart ↦ stays j (cleared.other j (first.skips j (omega (arith, high, apart)) low))
    ]
  ];
  other = λ j outside. stays j (cleared.other j outside);
}
  where
    stays : (j : ℕ) → get_or items j quiet ≡ quiet → get_or (set items i quiet) j quiet ≡ quiet
    stays j is = elim (same_or_other i j) [
      | inl same ↦ ap (λ k. get_or (set items i quiet) k quiet) (sym same) ∙ get_or-set_same items i quiet quiet within
      | inr apart ↦ get_or-set_other items i j quiet quiet (λ e. apart (sym e)) ∙ is
    ]

pub cleared_all : {A : Type 0} (clocks : List NodeClock) (clock : NodeClock) (quiet : A) (items : List A) (i : ℕ) → length items ≤ i
    → AreCleared clocks clock quiet items i → (j : ℕ) → get_or items j quiet ≡ quiet
cleared_all clocks clock quiet items i all cleared j = elim (cases_lt j i) [
  | inl low ↦ cleared.below j low
  | inr high ↦ get_or_past items j quiet (omega (arith, all, high))
]

-- the marks below the node that is walked on are those of the clock's own roots, and no other one is set
pub record AreMarked (clocks : List NodeClock) (clock : NodeClock) (own marks : List Bool) (i : ℕ) : Type 0 where
  pub below : (j : ℕ) → j < i → get_or marks j false ≡ (lies_at clocks clock j && get_or own j false)
  pub above : (j : ℕ) → i ≤ j → get_or marks j false ≡ false
  pub other : (j : ℕ) → lies_at clocks clock j ≡ false → get_or marks j false ≡ false

outside_root : (test own : Bool) → test ≡ false → false ≡ (test && own)
outside_root true own e = absurd (true≢false e)
outside_root false own e = refl

inside_root : (test own : Bool) → test ≡ true → own ≡ (test && own)
inside_root true own e = refl
inside_root false own e = absurd (true≢false (sym e))

pub marked_first : (clocks : List NodeClock) (clock : NodeClock) (own marks : List Bool) (i : ℕ) → IsFirst clocks clock 0 i
    → ((j : ℕ) → get_or marks j false ≡ false) → AreMarked clocks clock own marks i
marked_first clocks clock own marks i first none = record {
  below = λ j low. none j ∙ outside_root (lies_at clocks clock j) (get_or own j false) (first.skips j (omega arith) low);
  above = λ j high. none j;
  other = λ j outside. none j;
}

pub marked_next : (clocks : List NodeClock) (clock : NodeClock) (own marks : List Bool) (i n : ℕ) (mark : Bool) → i < length marks → lies_at clocks clock i ≡ true
    → mark ≡ get_or own i false → IsFirst clocks clock (suc i) n → AreMarked clocks clock own marks i → AreMarked clocks clock own (set marks i mark) n
marked_next clocks clock own marks i n mark within inside is first marked = record {
  below = λ j low. elim (cases_lt j i) [
    | inl less ↦ get_or-set_other marks i j mark false (λ e. omega (arith, less, e)) ∙ marked.below j less
    | inr high ↦ elim (same_or_other i j) [
      | inl same ↦ subst (λ k. get_or (set marks i mark) k false ≡ (lies_at clocks clock k && get_or own k false)) same
          (get_or-set_same marks i mark false within ∙ is ∙ inside_root (lies_at clocks clock i) (get_or own i false) inside)
      | inr apart ↦ get_or-set_other marks i j mark false (λ e. apart (sym e)) ∙ marked.above j high
          ∙ outside_root (lies_at clocks clock j) (get_or own j false) (first.skips j (omega (arith, high, apart)) low)
    ]
  ];
  above = λ j high. get_or-set_other marks i j mark false (λ e. (let low = first.low in omega (arith, high, e, low))) ∙ marked.above j (let low = first.low in omega (arith, high, low));
  other = λ j outside. get_or-set_other marks i j mark false (not_here clocks clock i j inside outside) ∙ marked.other j outside;
}

part_outside : (setting : Setting) (sub : ℕ → ℕ → List Slot) (past : List Moment) (i : ℕ) (found : Node) (inside : Bool) (before : List Part) → inside ≡ false
    → part_in setting sub inside past i (Some found) before ≡ silent
part_outside setting sub past i found inside before e = rw e refl

pub part_silent : (setting : Setting) (sub : ℕ → ℕ → List Slot) (clock : NodeClock) (past : List Moment) (i : ℕ) (before : List Part) → lies_in setting clock i ≡ false
    → part_in setting sub (lies_in setting clock i) past i (slice_get setting.plan.nodes i) before ≡ silent
part_silent setting sub clock past i before outside = by_node (slice_get setting.plan.nodes i)
  where
    by_node : (found : Option Node) → part_in setting sub (lies_in setting clock i) past i found before ≡ silent
    by_node None = refl
    by_node (Some node) = part_outside setting sub past i node (lies_in setting clock i) before outside

-- parts go on over nodes of other clocks
pub parts_over : (setting : Setting) (sub : ℕ → ℕ → List Slot) (clock : NodeClock) (past : List Moment) (parts : List Part) (i d : ℕ) → i + d ≤ length parts
    → ((j : ℕ) → i ≤ j → j < i + d → lies_in setting clock j ≡ false) → ((j : ℕ) → i ≤ j → j < i + d → part_at parts j ≡ silent)
    → take i parts ≡ parts_upto setting sub clock past i → take (i + d) parts ≡ parts_upto setting sub clock past (i + d)
parts_over setting sub clock past parts i zero within outside none before =
    let same : i + 0 ≡ i = omega arith in subst (λ n. take n parts ≡ parts_upto setting sub clock past n) (sym same) before
parts_over setting sub clock past parts i (suc d) within outside none before =
    let rest = parts_over setting sub clock past parts i d (omega (arith, within)) (λ j low high. outside j low (omega (arith, high))) (λ j low high. none j low (omega (arith, high))) before in
    let next : i + suc d ≡ (i + d) + 1 = omega arith in
    let here = none (i + d) (omega arith) (omega arith) in
    let there = part_silent setting sub clock past (i + d) (parts_upto setting sub clock past (i + d)) (outside (i + d) (omega arith) (omega arith)) in
    subst (λ n. take n parts ≡ parts_upto setting sub clock past n) (sym next)
    (take_more parts (i + d) silent (omega (arith, within))
    ∙ ap (λ front. front ++ part_at parts (i + d) ∷ []) rest
    ∙ ap (λ p. parts_upto setting sub clock past (i + d) ++ p ∷ []) (here ∙ sym there)
    ∙ ap (λ n. parts_upto setting sub clock past n) (sym (add-one (i + d))))

-- the same, up to the clock's next node
pub parts_to : (setting : Setting) (sub : ℕ → ℕ → List Slot) (clock : NodeClock) (past : List Moment) (parts : List Part) (m n : ℕ) → length parts ≡ length setting.clocks
    → IsFirst setting.clocks clock m n → ((j : ℕ) → lies_in setting clock j ≡ false → part_at parts j ≡ silent)
    → take m parts ≡ parts_upto setting sub clock past m → take n parts ≡ parts_upto setting sub clock past n
parts_to setting sub clock past parts m n many first none before =
    let low = first.low in
    let high = first.high in
    let far : m + (n - m) ≡ n = omega (arith, low) in
    subst (λ k. take k parts ≡ parts_upto setting sub clock past k) far
    (parts_over setting sub clock past parts m (n - m) (omega (arith, low, high, many)) (λ j from upto. first.skips j from (omega (arith, upto, far)))
    (λ j from upto. none j (first.skips j from (omega (arith, upto, far)))) before)
