-- Nodes that offer nothing are not used, and nodes that are not demanded are passed over.
use Rattle.std.proofs.Common.{◌≡◌, ◌<◌, ◌≤◌, ◌+◌, ◌-◌, ◌∙◌, ◌||◌, ℕ, zero, suc, Bool, true, false, Option, List, [], ◌∷◌, ◌++◌, length, get_or, drop, take, nat_eq, is_some, cond, arith, refl, ap, sym, subst, inl, inr}
use Rattle.std.specs.List.{list_any}
use Rattle.std.proofs.lemmas.Bool.{cases_lt, eqb-true, true≢false}
use Rattle.std.proofs.lemmas.List.{get_or-append_right, get_or-drop, get_or-take}
use Rattle.std.proofs.Math.ListN.{get_or-append}
use Rattle.plan_core.specs.declared.node.Node.{Node}
use Rattle.stream_meaning.specs.declared.part.Part.{Part}
use Rattle.stream_meaning.specs.Instants.{Setting, child_at, offering, part_at, silent}
use Rattle.clock_instants.specs.declared.demand.Demand.{Demand}
use Rattle.clock_instants.specs.declared.demand.Demand.TheVariants.{Nothing, Picked, Offering}
use Rattle.clock_instants.specs.Demands.{uses_in}
use Rattle.clock_instants.proofs.Marking.{Marked, Marked-unused}
use Rattle.clock_nodes.proofs.Places.{same_or_other}

module _ (parts : List Part) (j : ℕ) (none : part_at parts j ≡ silent) where
  other_child : (child : ℕ) (same : Bool) → nat_eq j child ≡ same → is_some (part_at parts child).slot ≡ true → (rest : Bool) → rest ≡ false → (same || rest) ≡ false
  other_child child true e offers rest is =
      let here : j ≡ child = eqb-true j child e in
      absurd (true≢false (sym offers ∙ ap (λ k. is_some (part_at parts k).slot) (sym here) ∙ ap (λ p. is_some p.slot) none))
  other_child child false e offers rest is = is

  by_slot : (child : ℕ) (rest : List ℕ) (now : Bool) → is_some (part_at parts child).slot ≡ now → list_any (nat_eq j) rest ≡ false
      → list_any (nat_eq j) (cond now (child ∷ rest) rest) ≡ false
  by_slot child rest true e is = other_child child (nat_eq j child) refl e (list_any (nat_eq j) rest) is
  by_slot child rest false e is = is

  not_offering : (children : List ℕ) → list_any (nat_eq j) (offering parts children) ≡ false
  not_offering [] = refl
  not_offering (child ∷ children) = by_slot child (offering parts children) (is_some (part_at parts child).slot) refl (not_offering children)

  pub not_used : (demand : Demand) (children : List ℕ) (pick : Option ℕ) → list_any (nat_eq j) (uses_in demand parts children pick) ≡ false
  not_used Nothing children pick = refl
  not_used Picked children pick = not_offering (child_at children pick)
  not_used Offering children pick = not_offering children

or_neither : (a b : Bool) → a ≡ false → b ≡ false → (a || b) ≡ false
or_neither true b e f = absurd (true≢false e)
or_neither false b e f = f

-- a mark that is not set stays so, where the marks in front of a node are set of those that it uses
pub stays_unmarked : (marks front : List Bool) (i j : ℕ) (used : Bool) → i ≤ length marks → length front ≡ i
    → get_or front j false ≡ (get_or (take i marks) j false || used) → used ≡ false → get_or marks j false ≡ false → get_or (front ++ drop i marks) j false ≡ false
stays_unmarked marks front i j used within long is unused unmarked = elim (cases_lt j i) [
  | inl low ↦ get_or-append front (drop i marks) false j (omega (arith, low, long)) ∙ is
      ∙ or_neither (get_or (take i marks) j false) used (get_or-take i marks j false low ∙ unmarked) unused
  | inr high ↦ get_or-append_right front (drop i marks) i j false long high ∙ get_or-drop i marks (j - i) false
      ∙ (let same : i + (j - i) ≡ j = omega (arith, high) in ap (λ k. get_or marks k false) same) ∙ unmarked
]

-- nodes that are not demanded are passed over
pub Marked-over : (setting : Setting) (roots : ℕ → Bool) (nodes : List Node) (parts : List Part) (marks : List Bool) (n i : ℕ) → length marks ≡ length nodes
    → n ≤ length nodes → i ≤ n → ((j : ℕ) → i ≤ j → j < n → get_or marks j false ≡ false) → Marked setting roots nodes parts marks n → Marked setting roots nodes parts marks i
Marked-over setting roots nodes parts marks zero i many within low none known =
    let same : 0 ≡ i = omega (arith, low) in subst (λ k. Marked setting roots nodes parts marks k) same known
Marked-over setting roots nodes parts marks (suc n) i many within low none known = elim (same_or_other i (suc n)) [
  | inl same ↦ subst (λ k. Marked setting roots nodes parts marks k) (sym same) known
  | inr apart ↦ Marked-over setting roots nodes parts marks n i many (omega (arith, within)) (omega (arith, low, apart)) (λ j from upto. none j from (omega (arith, upto)))
      (Marked-unused setting roots nodes parts marks n (omega (arith, within)) (omega (arith, within, many)) (suc n) refl known (none n (omega (arith, low, apart)) (omega arith)))
]
