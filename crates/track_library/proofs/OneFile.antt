-- Leaves of nodes that play one file, one leaf more.
use Rattle.std.proofs.Common.{◌≡◌, ◌<◌, ◌∙◌, ◌+◌, ◌++◌, ℕ, zero, suc, List, [], ◌∷◌, length, get_or, ap, arith, refl, sym, inl, inr}
use Rattle.std.specs.Prelude.{Some, slice_get, slice_index_or}
use Rattle.std.proofs.lemmas.Bool.{cases_lt}
use Rattle.plan_core.specs.declared.node.Node.{Node}
use Rattle.plan_core.specs.declared.node.Op.TheVariants.{Single}
use Rattle.track_library.specs.Singles.{HasOne}

-- so it is of the first k nodes
abbrev pub SinglesSoFar : (k : ℕ) → List Node → (leaves : List (List ℕ)) → Type 0
SinglesSoFar k nodes leaves = (i : ℕ) (node : Node) (file : List ℕ) → i < k → slice_get nodes i ≡ Some node → node.op ≡ Single file → length (slice_index_or leaves i []) ≡ 1

pub at_front : {A : Type 0} (xs : List A) (x d : A) (i : ℕ) → i < length xs → slice_index_or (xs ++ x ∷ []) i d ≡ slice_index_or xs i d
at_front [] x d i low = absurd (omega (arith, low))
at_front (y ∷ xs) x d zero low = refl
at_front (y ∷ xs) x d (suc i) low = at_front xs x d i (omega (arith, low))

pub at_end : {A : Type 0} (xs : List A) (x d : A) → slice_index_or (xs ++ x ∷ []) (length xs) d ≡ x
at_end [] x d = refl
at_end (y ∷ xs) x d = at_end xs x d

item_at : {A : Type 0} (xs : List A) (k : ℕ) (d : A) → k < length xs → slice_get xs k ≡ Some (get_or xs k d)
item_at [] k d low = absurd (omega (arith, low))
item_at (x ∷ xs) zero d low = refl
item_at (x ∷ xs) (suc k) d low = item_at xs k d (omega (arith, low))

-- where each of so many nodes has its leaf, and the next one, which is this item, has its own
pub one_single_more : (slice nodes : List Node) (k : ℕ) (leaves : List (List ℕ)) (leaf : List ℕ) (node : Node) → slice ≡ nodes → k < length slice → node ≡ get_or slice k node
    → length leaves ≡ k → HasOne node.op leaf → SinglesSoFar k nodes leaves → SinglesSoFar (k + 1) nodes (leaves ++ leaf ∷ [])
one_single_more slice nodes k leaves leaf node same below is long one so_far i other file low at single = elim (cases_lt i k) [
  | inl less ↦ ap length (at_front leaves leaf [] i (omega (arith, less, long))) ∙ so_far i other file less at single
  | inr high ↦ (let here : i ≡ k = omega (arith, low, high) in
      let there : slice_get nodes k ≡ Some node = ap (λ (xs : List Node). slice_get xs k) (sym same) ∙ item_at slice k node below ∙ ap Some (sym is) in
      let both : Some other ≡ Some node = sym at ∙ ap (slice_get nodes) here ∙ there in
      let e : node ≡ other = cc in
      let place : i ≡ length leaves = omega (arith, here, long) in
      ap (λ n. length (slice_index_or (leaves ++ leaf ∷ []) n [])) place ∙ ap length (at_end leaves leaf []) ∙ one file (ap (λ (n : Node). n.op) e ∙ single))
]

place_within : {A : Type 0} (xs : List A) (k : ℕ) (x : A) → slice_get xs k ≡ Some x → k < length xs
place_within [] k x e = absurd (cc)
place_within (y ∷ xs) zero x e = omega arith
place_within (y ∷ xs) (suc k) x e = let low = place_within xs k x e in omega (arith, low)

-- after all nodes
pub all_singles : (slice nodes : List Node) (k : ℕ) (leaves : List (List ℕ)) → slice ≡ nodes → (k < length slice → ⊥) → SinglesSoFar k nodes leaves
    → (i : ℕ) (node : Node) (file : List ℕ) → slice_get nodes i ≡ Some node → node.op ≡ Single file → length (slice_index_or leaves i []) ≡ 1
all_singles slice nodes k leaves same past so_far i node file at single =
    let low = place_within nodes i node at in
    let many = ap length same in
    so_far i node file (omega (arith, low, many, past)) at single
