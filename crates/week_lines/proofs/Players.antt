-- The nodes that play a source, and the children behind one.
use Rattle.std.proofs.Common.{◌≡◌, ◌<◌, ◌≤◌, ◌+◌, ◌∙◌, ℕ, Bool, true, false, cond, Option, List, [], ◌∷◌, ◌++◌, take, drop, length, get_or, refl, ap, sym, append-nil}
use Rattle.std.proofs.lemmas.Bool.{true≢false}
use Rattle.std.proofs.lemmas.List.{at_drop_more, take-append-drop, take_all}
use Rattle.std.proofs.lemmas.List.Elements.{filter-append, filter_more}
use Rattle.plan_core.specs.declared.node.Node.{Node}
use Rattle.week_lines.specs.Instead.{child_behind, first_other, instead_among, instead_below, players_of, plays}
use Rattle.week_lines.specs.declared.above.Instead.{Instead}
use Rattle.week_lines.specs.declared.above.Instead.TheVariants.{Unknown}

-- one node more plays it, or does not
pub more_players : (nodes : List Node) (number i : ℕ) (node : Node) → i < length nodes → node ≡ get_or nodes i node → plays number node ≡ true
    → players_of (take (i + 1) nodes) number ≡ players_of (take i nodes) number ++ node ∷ []
more_players nodes number i node here is over =
    filter_more (plays number) nodes i node here
    ∙ ap (λ (n : Node). players_of (take i nodes) number ++ cond (plays number n) (n ∷ []) []) (sym is)
    ∙ ap (λ (b : Bool). players_of (take i nodes) number ++ cond b (node ∷ []) []) over

pub same_players : (nodes : List Node) (number i : ℕ) (node : Node) → i < length nodes → node ≡ get_or nodes i node → plays number node ≡ false
    → players_of (take (i + 1) nodes) number ≡ players_of (take i nodes) number
same_players nodes number i node here is none =
    filter_more (plays number) nodes i node here
    ∙ ap (λ (n : Node). players_of (take i nodes) number ++ cond (plays number n) (n ∷ []) []) (sym is)
    ∙ ap (λ (b : Bool). players_of (take i nodes) number ++ cond b (node ∷ []) []) none
    ∙ append-nil (players_of (take i nodes) number)

-- so far no node plays it, or one alone does
abbrev pub IsPlayed : List Node → (number i : ℕ) → Instead → Bool → Type 0
IsPlayed nodes number i instead false = (players_of (take i nodes) number ≡ []) × (instead ≡ Unknown)
IsPlayed nodes number i instead true =
    (player : Node) × (players_of (take i nodes) number ≡ player ∷ []) × (instead ≡ instead_below nodes number player.op player.children)

pub played_first : (nodes : List Node) (number i : ℕ) (node : Node) (instead : Instead) (found : Bool) → i < length nodes → node ≡ get_or nodes i node → plays number node ≡ true
    → found ≡ false → IsPlayed nodes number i instead found → IsPlayed nodes number (i + 1) (instead_below nodes number node.op node.children) true
played_first nodes number i node instead true here is over first before = absurd (true≢false first)
played_first nodes number i node instead false here is over first before =
    (node, more_players nodes number i node here is over ∙ ap (λ (ps : List Node). ps ++ node ∷ []) before.0, refl)

pub played_same : (nodes : List Node) (number i : ℕ) (node : Node) (instead : Instead) (found : Bool) → i < length nodes → node ≡ get_or nodes i node → plays number node ≡ false
    → IsPlayed nodes number i instead found → IsPlayed nodes number (i + 1) instead found
played_same nodes number i node instead true here is none before = (before.0, same_players nodes number i node here is none ∙ before.1, before.2)
played_same nodes number i node instead false here is none before = (same_players nodes number i node here is none ∙ before.0, before.1)

pub played_twice : (nodes : List Node) (number i : ℕ) (node : Node) (instead : Instead) (found : Bool) → i < length nodes → node ≡ get_or nodes i node → plays number node ≡ true
    → found ≡ true → IsPlayed nodes number i instead found → Unknown ≡ instead_among nodes number (players_of nodes number)
played_twice nodes number i node instead false here is over again before = absurd (true≢false (sym again))
played_twice nodes number i node instead true here is over again before = sym (ap (instead_among nodes number) all)
  where
    two : players_of (take (i + 1) nodes) number ≡ before.0 ∷ node ∷ []
    two = more_players nodes number i node here is over ∙ ap (λ (ps : List Node). ps ++ node ∷ []) before.1

    all : players_of nodes number ≡ before.0 ∷ node ∷ players_of (drop (i + 1) nodes) number
    all =
        ap (λ (ns : List Node). players_of ns number) (sym (take-append-drop (i + 1) nodes))
        ∙ filter-append (plays number) (take (i + 1) nodes) (drop (i + 1) nodes)
        ∙ ap (λ (ps : List Node). ps ++ players_of (drop (i + 1) nodes) number) two

pub played_all : (nodes : List Node) (number i : ℕ) (instead : Instead) (found : Bool) → length nodes ≤ i → IsPlayed nodes number i instead found
    → instead ≡ instead_among nodes number (players_of nodes number)
played_all nodes number i instead true end before =
    before.2 ∙ ap (instead_among nodes number) (sym before.1 ∙ ap (λ (ns : List Node). players_of ns number) (take_all i nodes end))
played_all nodes number i instead false end before =
    before.1 ∙ ap (instead_among nodes number) (sym before.0 ∙ ap (λ (ns : List Node). players_of ns number) (take_all i nodes end))

-- what stands behind a child, in what is left of the children: the child was passed, or was not
abbrev pub behind : (number : ℕ) → (passed : Bool) → List ℕ → Option ℕ
behind number false children = child_behind number children
behind number true children = first_other number children

-- one child on
pub rest_at : (number : ℕ) (passed : Bool) (children : List ℕ) (i child : ℕ) → i < length children → child ≡ get_or children i child
    → behind number passed (drop i children) ≡ behind number passed (child ∷ drop (i + 1) children)
rest_at number passed children i child here is =
    at_drop_more (behind number passed) children i child here ∙ ap (λ (c : ℕ). behind number passed (c ∷ drop (i + 1) children)) (sym is)
