-- What is needed, one source after the other, is red.
use Rattle.std.proofs.Common.{◌≡◌, ◌∙◌, ℕ, ◌+◌, ◌-◌, ◌<◌, zero, suc, Bool, true, false, not, ◌&&◌, ◌||◌, Some, List, [], ◌∷◌, length, get_or, drop, nat_eq, refl, sym, ap, arith}
use Rattle.std.specs.Prelude.{slice_get}
use Rattle.std.specs.List.{list_any, zip}
use Rattle.std.proofs.lemmas.List.{get_or-drop, length-drop}
use Rattle.std.proofs.lemmas.Option.{get_or_from_slice_get}
use Rattle.plan_core.specs.declared.node.Node.{Node}
use Rattle.plan_core.specs.Plans.{AreNodes}
use Rattle.fallible_infer.specs.Infallible.{IsMarking, mark_at}
use Rattle.plan_blames.specs.Blames.{is_to_blame, reds_from}
use Rattle.plan_blames.specs.Needs.{IsOnlyNeeded, Leads, here, below, needs}
use Rattle.plan_blames.proofs.Blaming.{asks_for, is_found}
use Rattle.plan_blames.proofs.Needed.{itself, mends, needed_below}

size_reds : (mark : ℕ → Bool) (refused s : ℕ) (nodes : List Node) → length (reds_from mark refused s nodes) ≡ length nodes
size_reds mark refused s [] = refl
size_reds mark refused s (node ∷ nodes) = ap suc (size_reds mark refused (suc s) nodes)

-- whether a source is red, by those behind it
red_at : (mark : ℕ → Bool) (refused s i : ℕ) (nodes : List Node) → i < length nodes
    → mark_at (reds_from mark refused s nodes) i ≡ is_to_blame mark refused (s + i) (drop (suc i) nodes) (reds_from mark refused (suc (s + i)) (drop (suc i) nodes))
red_at mark refused s i [] low = absurd (omega arith)
red_at mark refused s zero (node ∷ nodes) low =
    ap (λ (n : ℕ). is_to_blame mark refused n nodes (reds_from mark refused (suc n) nodes)) (let e : s ≡ s + 0 = omega arith in e)
red_at mark refused s (suc i) (node ∷ nodes) low =
    red_at mark refused (suc s) i nodes (omega arith)
    ∙ ap (λ (n : ℕ). is_to_blame mark refused n (drop (suc i) nodes) (reds_from mark refused (suc n) (drop (suc i) nodes))) (let e : suc s + i ≡ s + suc i = omega arith in e)

-- the same from the first one on
red_first : (mark : ℕ → Bool) (refused i : ℕ) (nodes : List Node) → i < length nodes
    → mark_at (reds_from mark refused 0 nodes) i ≡ is_to_blame mark refused i (drop (suc i) nodes) (reds_from mark refused (suc i) (drop (suc i) nodes))
red_first mark refused i nodes low =
    red_at mark refused 0 i nodes low
    ∙ ap (λ (n : ℕ). is_to_blame mark refused n (drop (suc i) nodes) (reds_from mark refused (suc n) (drop (suc i) nodes))) (let e : 0 + i ≡ i = omega arith in e)

-- those behind a source are red as they are among all
red_behind : (mark : ℕ → Bool) (refused s j i : ℕ) (nodes : List Node) → mark_at (reds_from mark refused (s + j) (drop j nodes)) i ≡ mark_at (reds_from mark refused s nodes) (j + i)
red_behind mark refused s zero i nodes =
    ap (λ (n : ℕ). mark_at (reds_from mark refused n nodes) i) (let e : s + 0 ≡ s = omega arith in e)
    ∙ ap (mark_at (reds_from mark refused s nodes)) (let e : i ≡ 0 + i = omega arith in e)
red_behind mark refused s (suc j) i [] = refl
red_behind mark refused s (suc j) i (node ∷ nodes) =
    ap (λ (n : ℕ). mark_at (reds_from mark refused n (drop j nodes)) i) (let e : s + suc j ≡ suc s + j = omega arith in e)
    ∙ red_behind mark refused (suc s) j i nodes
    ∙ ap (mark_at (reds_from mark refused s (node ∷ nodes))) (let e : suc (j + i) ≡ suc j + i = omega arith in e)

by_self : (mark : ℕ → Bool) (refused : ℕ) (behind : List Node) (reds : List Bool) → is_to_blame mark refused refused behind reds ≡ true
by_self mark refused behind reds = ap (λ (b : Bool). b || (not (mark refused) && list_any (asks_for refused) (zip behind reds))) (itself refused)

or_true : (a : Bool) → (a || true) ≡ true
or_true true = refl
or_true false = refl

by_need : (mark : ℕ → Bool) (refused n : ℕ) (behind : List Node) (reds : List Bool) → mark n ≡ false → list_any (asks_for n) (zip behind reds) ≡ true
    → is_to_blame mark refused n behind reds ≡ true
by_need mark refused n behind reds unsure asked =
    ap (λ (b : Bool). nat_eq n refused || (not b && list_any (asks_for n) (zip behind reds))) unsure
    ∙ ap (λ (b : Bool). nat_eq n refused || b) asked ∙ or_true (nat_eq n refused)

-- a source that one needs which may fall silent may do so too
unsure_below : (mark : ℕ → Bool) (nodes : List Node) (n : ℕ) (node : Node) (child : ℕ) → AreNodes nodes → IsMarking nodes mark → slice_get nodes n ≡ Some node
    → needs node.op node.children child ≡ true → mark n ≡ false → mark child ≡ false
unsure_below mark nodes n node child well marks there need unsure = by (mark child) refl
  where
    by : (b : Bool) → mark child ≡ b → mark child ≡ false
    by true sure = absurd (let m : mark n ≡ true = marks n node there ∙ mends mark node.op node.children child (well n node there).number need sure in cc)
    by false unmarked = unmarked

record IsReached (mark : ℕ → Bool) (nodes : List Node) (refused n : ℕ) : Type 0 where
  there : n < length nodes
  unsure : mark n ≡ false
  red : mark_at (reds_from mark refused 0 nodes) n ≡ true

reached_below : (mark : ℕ → Bool) (nodes : List Node) (refused m child : ℕ) → AreNodes nodes → IsMarking nodes mark → IsReached mark nodes refused m
    → IsOnlyNeeded nodes m (Some child) → IsReached mark nodes refused child
reached_below mark nodes refused m child well marks up needed = record {
  there = omega (arith, low, up.there);
  unsure = silent;
  red = red_first mark refused child nodes (omega (arith, low, up.there)) ∙ by_need mark refused child behind (reds_from mark refused (suc child) behind) silent asked;
}
  where
    need : needs needed.node.op needed.node.children child ≡ true
    need = needed.only.0

    low : child < m
    low = needed_below nodes m needed.node child well needed.there need

    silent : mark child ≡ false
    silent = unsure_below mark nodes m needed.node child well marks needed.there need up.unsure

    behind : List Node
    behind = drop (suc child) nodes

    place : ℕ
    place = m - suc child

    on : suc child + place ≡ m
    on = omega (arith, low)

    size : length behind ≡ length nodes - suc child
    size = length-drop (suc child) nodes

    red_there : get_or (reds_from mark refused (suc child) behind) place false ≡ true
    red_there =
        ap (λ (n : ℕ). mark_at (reds_from mark refused n behind) place) (let e : suc child ≡ 0 + suc child = omega arith in e)
        ∙ red_behind mark refused 0 (suc child) place nodes ∙ ap (mark_at (reds_from mark refused 0 nodes)) on ∙ up.red

    node_there : needed.node ≡ get_or behind place needed.node
    node_there = sym (get_or-drop (suc child) nodes place needed.node ∙ ap (λ (i : ℕ). get_or nodes i needed.node) on ∙ get_or_from_slice_get nodes m needed.node needed.node needed.there)

    asked : list_any (asks_for child) (zip behind (reds_from mark refused (suc child) behind)) ≡ true
    asked = sym (is_found child behind (reds_from mark refused (suc child) behind) place needed.node (omega (arith, size, up.there, on)) (size_reds mark refused (suc child) behind) node_there red_there need)

reach : (mark : ℕ → Bool) (nodes : List Node) (refused n : ℕ) → AreNodes nodes → IsMarking nodes mark → refused < length nodes → mark refused ≡ false
    → Leads nodes refused n → IsReached mark nodes refused n
reach mark nodes refused n well marks there unsure here = record {
  there = there;
  unsure = unsure;
  red = red_first mark refused refused nodes there ∙ by_self mark refused (drop (suc refused) nodes) (reds_from mark refused (suc refused) (drop (suc refused) nodes));
}
reach mark nodes refused n well marks there unsure (below m child leads needed) =
    reached_below mark nodes refused m child well marks (reach mark nodes refused m well marks there unsure leads) needed

pub red_below : (nodes : List Node) (mark : ℕ → Bool) (refused n : ℕ) → AreNodes nodes → IsMarking nodes mark → refused < length nodes → mark refused ≡ false
    → Leads nodes refused n → mark_at (reds_from mark refused 0 nodes) n ≡ true
red_below nodes mark refused n well marks there unsure leads = (reach mark nodes refused n well marks there unsure leads).red
