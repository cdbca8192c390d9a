-- What is to blame for a silence.
use Rattle.std.proofs.Common.{◌≡◌, ℕ, ◌+◌, ◌<◌, ◌≤◌, suc, Bool, true, false, ◌&&◌, ◌||◌, List, [], ◌∷◌, length, get_or, min, nat_eq, take, drop, set, refl, sym, ap, ◌∙◌, inl, inr, arith}
use Rattle.std.specs.Prelude.{◌⊎◌}
use Rattle.std.specs.List.{list_any, zip}
use Rattle.std.proofs.Math.Seq.{drop-cons}
use Rattle.std.proofs.lemmas.List.{drop-set, take_all}
use Rattle.std.proofs.lemmas.List.Folds.{list_any_at, list_any_more}
use Rattle.std.proofs.lemmas.Slice.Zip.{get_or-zip, length-zip}
use Rattle.plan_core.specs.declared.node.Node.{Node}
use Rattle.time_pred.specs.Predicates.{Predicate, is_always}
use Rattle.plan_blames.specs.Blames.{is_to_blame, reds_from}
use Rattle.plan_blames.specs.Needs.{is_case, needs}

-- one source more, from the last one down
pub more_red : (mark : ℕ → Bool) (refused : ℕ) (nodes : List Node) (reds : List Bool) (k : ℕ) (d : Node) (red : Bool) → k < length nodes → length reds ≡ length nodes
    → drop (k + 1) reds ≡ reds_from mark refused (k + 1) (drop (k + 1) nodes)
    → red ≡ is_to_blame mark refused k (drop (k + 1) nodes) (drop (k + 1) reds)
    → drop k (set reds k red) ≡ reds_from mark refused k (drop k nodes)
more_red mark refused nodes reds k d red here size so_far is =
    let next : k + 1 ≡ suc k = omega arith in
    drop-set reds k red (omega arith)
    ∙ ap (λ (r : Bool). r ∷ drop (k + 1) reds) is
    ∙ ap (λ (rs : List Bool). is_to_blame mark refused k (drop (k + 1) nodes) rs ∷ rs) so_far
    ∙ ap (λ (n : ℕ). is_to_blame mark refused k (drop n nodes) (reds_from mark refused n (drop n nodes)) ∷ reds_from mark refused n (drop n nodes)) next
    ∙ sym (ap (reds_from mark refused k) (drop-cons nodes k d here))

-- the same, where the number of the source before is given
pub one_more_red : (mark : ℕ → Bool) (refused : ℕ) (nodes : List Node) (reds : List Bool) (n k : ℕ) (red : Bool) → n ≡ k + 1 → k < length nodes → length reds ≡ length nodes
    → drop n reds ≡ reds_from mark refused n (drop n nodes)
    → red ≡ is_to_blame mark refused k (drop (k + 1) nodes) (drop (k + 1) reds)
    → drop k (set reds k red) ≡ reds_from mark refused k (drop k nodes)
one_more_red mark refused [] reds n k red next here size so_far is = absurd (omega arith)
one_more_red mark refused (node ∷ nodes) reds n k red next here size so_far is =
    more_red mark refused (node ∷ nodes) reds k node red here size
    (ap (λ (m : ℕ). drop m reds) (sym next) ∙ so_far ∙ ap (λ (m : ℕ). reds_from mark refused m (drop m (node ∷ nodes))) next) is

-- whether a red source needs a child
abbrev pub asks_for : (child : ℕ) → Node × Bool → Bool
asks_for child pair = pair.1 && needs (pair.0).op (pair.0).children child

pairs_size : (nodes : List Node) (reds : List Bool) → length reds ≡ length nodes → length (zip nodes reds) ≡ length nodes
pairs_size [] reds size = refl
pairs_size (n ∷ ns) [] size = absurd (omega arith)
pairs_size (n ∷ ns) (r ∷ rs) size = ap suc (pairs_size ns rs (omega arith))

and_false : (b : Bool) → b && false ≡ false
and_false true = refl
and_false false = refl

pair_at : (child : ℕ) (nodes : List Node) (reds : List Bool) (k : ℕ) (node : Node) → k < length nodes → length reds ≡ length nodes → node ≡ get_or nodes k node
    → asks_for child (get_or (zip nodes reds) k (node, false)) ≡ (get_or reds k false && needs node.op node.children child)
pair_at child nodes reds k node h size is =
    ap (asks_for child) (get_or-zip nodes reds k (node, false) h (omega arith))
    ∙ ap (λ (n : Node). get_or reds k false && needs n.op n.children child) (sym is)

pub is_found : (child : ℕ) (nodes : List Node) (reds : List Bool) (k : ℕ) (node : Node) → k < length nodes → length reds ≡ length nodes → node ≡ get_or nodes k node
    → get_or reds k false ≡ true → needs node.op node.children child ≡ true → true ≡ list_any (asks_for child) (zip nodes reds)
is_found child nodes reds k node h size is red needed =
    let long : length (zip nodes reds) ≡ length nodes = pairs_size nodes reds size in
    sym (list_any_at (asks_for child) (zip nodes reds) k (node, false) (omega arith)
    (pair_at child nodes reds k node h size is ∙ ap (λ (b : Bool). b && needs node.op node.children child) red ∙ needed))

pub not_yet : (child : ℕ) (nodes : List Node) (reds : List Bool) (k : ℕ) (node : Node) → k < length nodes → length reds ≡ length nodes → node ≡ get_or nodes k node
    → list_any (asks_for child) (take k (zip nodes reds)) ≡ false → (get_or reds k false ≡ false) ⊎ (needs node.op node.children child ≡ false)
    → list_any (asks_for child) (take (k + 1) (zip nodes reds)) ≡ false
not_yet child nodes reds k node h size is none which =
    let long : length (zip nodes reds) ≡ length nodes = pairs_size nodes reds size in
    let fails : (get_or reds k false && needs node.op node.children child) ≡ false = elim which [
      | inl white ↦ ap (λ (b : Bool). b && needs node.op node.children child) white
      | inr free ↦ ap (λ (b : Bool). get_or reds k false && b) free ∙ and_false (get_or reds k false)
    ] in
    list_any_more (asks_for child) (zip nodes reds) k (node, false) (omega arith)
    ∙ ap (λ (b : Bool). b || asks_for child (get_or (zip nodes reds) k (node, false))) none
    ∙ pair_at child nodes reds k node h size is ∙ fails

pub not_found : (child : ℕ) (nodes : List Node) (reds : List Bool) (k : ℕ) → length nodes ≤ k → length reds ≡ length nodes
    → list_any (asks_for child) (take k (zip nodes reds)) ≡ false → false ≡ list_any (asks_for child) (zip nodes reds)
not_found child nodes reds k h size none =
    let long : length (zip nodes reds) ≡ length nodes = pairs_size nodes reds size in
    sym (ap (list_any (asks_for child)) (sym (take_all k (zip nodes reds) (omega arith))) ∙ none)

case_at : (child : ℕ) (preds : List Predicate) (children : List ℕ) (k : ℕ) (p : Predicate) → k < length preds → k < length children → p ≡ get_or preds k p
    → is_case child (get_or (zip preds children) k (p, 0)) ≡ (is_always p && nat_eq (get_or children k 0) child)
case_at child preds children k p h more is =
    ap (is_case child) (get_or-zip preds children k (p, 0) h more)
    ∙ ap (λ (q : Predicate). is_always q && nat_eq (get_or children k 0) child) (sym is)

pub case_found : (child : ℕ) (preds : List Predicate) (children : List ℕ) (k : ℕ) (p : Predicate) → k < length preds → k < length children → p ≡ get_or preds k p
    → is_always p ≡ true → nat_eq (get_or children k 0) child ≡ true → true ≡ list_any (is_case child) (zip preds children)
case_found child preds children k p h more is sure it =
    let long : length (zip preds children) ≡ min (length preds) (length children) = length-zip preds children in
    sym (list_any_at (is_case child) (zip preds children) k (p, 0) (omega arith)
    (case_at child preds children k p h more is ∙ ap (λ (b : Bool). b && nat_eq (get_or children k 0) child) sure ∙ it))

pub case_more : (child : ℕ) (preds : List Predicate) (children : List ℕ) (k : ℕ) (p : Predicate) → k < length preds → k < length children → p ≡ get_or preds k p
    → list_any (is_case child) (take k (zip preds children)) ≡ false → (is_always p ≡ false) ⊎ (nat_eq (get_or children k 0) child ≡ false)
    → list_any (is_case child) (take (k + 1) (zip preds children)) ≡ false
case_more child preds children k p h more is none which =
    let long : length (zip preds children) ≡ min (length preds) (length children) = length-zip preds children in
    let fails : (is_always p && nat_eq (get_or children k 0) child) ≡ false = elim which [
      | inl unsure ↦ ap (λ (b : Bool). b && nat_eq (get_or children k 0) child) unsure
      | inr other ↦ ap (λ (b : Bool). is_always p && b) other ∙ and_false (is_always p)
    ] in
    list_any_more (is_case child) (zip preds children) k (p, 0) (omega arith)
    ∙ ap (λ (b : Bool). b || is_case child (get_or (zip preds children) k (p, 0))) none
    ∙ case_at child preds children k p h more is ∙ fails

pub case_done : (child : ℕ) (preds : List Predicate) (children : List ℕ) (k : ℕ) → min (length preds) (length children) ≤ k
    → list_any (is_case child) (take k (zip preds children)) ≡ false → false ≡ list_any (is_case child) (zip preds children)
case_done child preds children k h none =
    let long : length (zip preds children) ≡ min (length preds) (length children) = length-zip preds children in
    sym (ap (list_any (is_case child)) (sym (take_all k (zip preds children) (omega arith))) ∙ none)
