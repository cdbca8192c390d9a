-- Marks of demanded nodes, one node at a time from the last.
use Rattle.std.proofs.Common.{◌≡◌, ◌<◌, ◌∙◌, ◌||◌, ◌&&◌, ap, sym, ℕ, zero, suc, Bool, true, false, List, [], ◌∷◌, ◌++◌, length, get_or, drop, take, nat_eq, arith, refl, subst}
use Rattle.std.specs.List.{list_any}
use Rattle.std.proofs.Math.Seq.{drop-cons}
use Rattle.std.proofs.Math.ListN.{get_or-append}
use Rattle.std.proofs.lemmas.List.{drop_all, get_or-take}
use Rattle.std.proofs.lemmas.Slice.{drop-append-drop}
use Rattle.plan_core.specs.declared.node.Node.{Node}
use Rattle.stream_meaning.specs.declared.part.Part.{Part}
use Rattle.stream_meaning.specs.Instants.{Setting, uses_by, uses_from, part_at, is_used, demands_from, work_at}

-- what node i uses
abbrev pub uses_at : Setting → List Part → ℕ → Node → List ℕ
uses_at setting parts i node = uses_by parts (work_at setting i node) node.children (part_at parts i).pick

-- what is known of the marks when all nodes from i on are done
pub record Marked (setting : Setting) (roots : ℕ → Bool) (nodes : List Node) (parts : List Part) (marks : List Bool) (i : ℕ) : Type 0 where
  pub above : drop i marks ≡ demands_from roots i (uses_from setting parts i (drop i nodes))
  pub below : (j : ℕ) → j < i → get_or marks j false ≡ (roots j || is_used (drop i marks) (uses_from setting parts i (drop i nodes)) j)

uses_from-drop : (setting : Setting) (nodes : List Node) (parts : List Part) (i : ℕ) (node : Node) → i < length nodes → node ≡ get_or nodes i node →
    uses_from setting parts i (drop i nodes) ≡ uses_at setting parts i node ∷ uses_from setting parts (suc i) (drop (suc i) nodes)
uses_from-drop setting nodes parts i node within at = rw (drop-cons nodes i node within, ← at) refl

-- node i is done when the nodes above it are, and its children that it uses are marked if it is demanded
pub Marked-step : (setting : Setting) (roots : ℕ → Bool) (nodes : List Node) (parts : List Part) (marks after : List Bool) (i : ℕ) (node : Node) →
    i < length nodes → i < length marks → node ≡ get_or nodes i node →
    (n : ℕ) → n ≡ suc i → Marked setting roots nodes parts marks n →
    drop i after ≡ drop i marks →
    ((j : ℕ) → j < i → get_or after j false ≡ (get_or marks j false || (get_or marks i false && list_any (nat_eq j) (uses_at setting parts i node)))) →
    Marked setting roots nodes parts after i
Marked-step setting roots nodes parts marks after i node in_nodes in_marks at n next found same marked = record {
  above = same ∙ split ∙ rw (uses_from-drop setting nodes parts i node in_nodes at, known.below i (omega arith), known.above) refl;
  below = λ j h. marked j h ∙ ap (λ m. m || (get_or marks i false && used j)) (known.below j (omega arith))
      ∙ regroup (roots j) (is_used (drop (suc i) marks) rest j) (get_or marks i false && used j)
      ∙ rw (same, split, uses_from-drop setting nodes parts i node in_nodes at) refl;
}
  where
    known : Marked setting roots nodes parts marks (suc i)
    known = subst (λ m. Marked setting roots nodes parts marks m) next found

    split : drop i marks ≡ get_or marks i false ∷ drop (suc i) marks
    split = drop-cons marks i false in_marks

    rest : List (List ℕ)
    rest = uses_from setting parts (suc i) (drop (suc i) nodes)

    used : ℕ → Bool
    used j = list_any (nat_eq j) (uses_at setting parts i node)

    regroup : (a b c : Bool) → ((a || b) || c) ≡ (a || (c || b))
    regroup true b c = refl
    regroup false true true = refl
    regroup false true false = refl
    regroup false false true = refl
    regroup false false false = refl

-- at the end of the list nothing is done yet
pub Marked-all : (setting : Setting) (nodes : List Node) (parts : List Part) (marks : List Bool) (n : ℕ) → length marks ≡ n → n ≡ length nodes →
    Marked setting (λ j. get_or marks j false) nodes parts marks n
Marked-all setting nodes parts marks n in_marks in_nodes = record {
  above = rw (no_marks, no_nodes) refl;
  below = λ j h. rw no_marks (sym (or_false (get_or marks j false)));
}
  where
    no_marks : drop n marks ≡ []
    no_marks = drop_all n marks (omega arith)

    no_nodes : drop n nodes ≡ []
    no_nodes = drop_all n nodes (omega arith)

    or_false : (b : Bool) → (b || false) ≡ b
    or_false true = refl
    or_false false = refl

-- a demanded node has marked the children that it uses, in the marks below its own
pub Marked-used : (setting : Setting) (roots : ℕ → Bool) (nodes : List Node) (parts : List Part) (marks front : List Bool) (i : ℕ) (node : Node) (used : List ℕ) →
    i < length nodes → i < length marks → node ≡ get_or nodes i node → uses_at setting parts i node ≡ used →
    (n : ℕ) → n ≡ suc i → Marked setting roots nodes parts marks n →
    get_or marks i false ≡ true → length front ≡ i →
    ((j : ℕ) → get_or front j false ≡ (get_or (take i marks) j false || list_any (nat_eq j) used)) →
    Marked setting roots nodes parts (front ++ drop i marks) i
Marked-used setting roots nodes parts marks front i node used in_nodes in_marks at is n next found demanded long marked =
    Marked-step setting roots nodes parts marks (front ++ drop i marks) i node in_nodes in_marks at n next found
    (drop-append-drop i marks front i (omega arith) long)
    (λ j h. get_or-append front (drop i marks) false j (omega arith) ∙ marked j ∙ rw (get_or-take i marks j false h, is, demanded) refl)

-- the node at a place
node_at : (nodes : List Node) (i : ℕ) → i < length nodes → (node : Node) × (node ≡ get_or nodes i node)
node_at [] i h = absurd (omega arith)
node_at (node ∷ nodes) zero h = (node, refl)
node_at (node ∷ nodes) (suc i) h = node_at nodes i (omega arith)

-- another node marks none
pub Marked-unused : (setting : Setting) (roots : ℕ → Bool) (nodes : List Node) (parts : List Part) (marks : List Bool) (i : ℕ) →
    i < length nodes → i < length marks →
    (n : ℕ) → n ≡ suc i → Marked setting roots nodes parts marks n →
    get_or marks i false ≡ false → Marked setting roots nodes parts marks i
Marked-unused setting roots nodes parts marks i in_nodes in_marks n next found demanded =
    Marked-step setting roots nodes parts marks marks i (node_at nodes i in_nodes).0 in_nodes in_marks (node_at nodes i in_nodes).1 n next found refl
    (λ j h. rw demanded (sym (or_false (get_or marks j false))))
  where
    or_false : (b : Bool) → (b || false) ≡ b
    or_false true = refl
    or_false false = refl
