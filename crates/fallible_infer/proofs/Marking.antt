-- Markings.
use Rattle.std.proofs.Common.{◌≡◌, ℕ, ◌-◌, ◌+◌, ◌<◌, ◌≤◌, zero, suc, Bool, true, false, ◌&&◌, ◌||◌, Option, Some, None, List, [], ◌∷◌, ◌++◌, length, get_or, take, sym, refl, ap, ◌∙◌, subst, inl, inr, arith, slice_get, All}
use Rattle.std.specs.List.{list_any, zip}
use Rattle.std.specs.Option.{option_map_or}
use Rattle.std.proofs.lemmas.Bool.{cases_eq}
use Rattle.std.proofs.lemmas.List.{get_or_append_left, length-append, length-take-le, take_all}
use Rattle.std.proofs.lemmas.List.Folds.{list_any_at, list_any_more}
use Rattle.std.proofs.lemmas.Slice.Zip.{get_or-zip}
use Rattle.std.specs.Prelude.{◌⊎◌}
use Rattle.std.proofs.lemmas.List.Elements.{All-head, All-tail, All-weaker}
use Rattle.std.proofs.lemmas.Option.{slice_get_within}
use Rattle.std.proofs.Math.Seq.{get_or-append_seam}
use Rattle.time_pred.specs.Predicates.{Predicate, is_always}
use Rattle.plan_core.specs.declared.node.Node.{Node}
use Rattle.plan_core.specs.declared.node.Op.{Op}
use Rattle.plan_core.specs.Plans.{AreNodes, HasChildren}
use Rattle.fallible_infer.specs.Infallible.{Rests, ByNothing, ByItself, OnSome, OnCases, OnLast, mark_at, last_of, rests_of, rests_on, infallible_by, IsMarking}

pub some_same : {A : Type 0} {x y : A} {o : Option A} → o ≡ Some x → o ≡ Some y → x ≡ y
some_same e f = cc

-- marks that are the same for the children give the same
any_same : (mark other : ℕ → Bool) (n : ℕ) → ((i : ℕ) → i < n → mark i ≡ other i) → (children : List ℕ) → All (λ c. c < n) children → list_any mark children ≡ list_any other children
any_same mark other n same [] each = refl
any_same mark other n same (c ∷ cs) each =
    let P : ℕ → Type 0 = λ c. c < n in
    ap (λ (b : Bool). b || list_any mark cs) (same c (All-head P c cs each)) ∙ ap (λ (b : Bool). other c || b) (any_same mark other n same cs (All-tail P c cs each))

zip_same : (mark other : ℕ → Bool) (n : ℕ) → ((i : ℕ) → i < n → mark i ≡ other i) → (preds : List Predicate) (children : List ℕ) → All (λ c. c < n) children
    → list_any (λ pair. is_always pair.0 && mark pair.1) (zip preds children) ≡ list_any (λ pair. is_always pair.0 && other pair.1) (zip preds children)
zip_same mark other n same [] cs each = refl
zip_same mark other n same (p ∷ ps) [] each = refl
zip_same mark other n same (p ∷ ps) (c ∷ cs) each =
    let P : ℕ → Type 0 = λ c. c < n in
    ap (λ (b : Bool). (is_always p && b) || list_any (λ pair. is_always pair.0 && mark pair.1) (zip ps cs)) (same c (All-head P c cs each))
    ∙ ap (λ (b : Bool). (is_always p && other c) || b) (zip_same mark other n same ps cs (All-tail P c cs each))

option_same : (mark other : ℕ → Bool) (o : Option ℕ) → ((c : ℕ) → o ≡ Some c → mark c ≡ other c) → option_map_or mark o false ≡ option_map_or other o false
option_same mark other None same = refl
option_same mark other (Some c) same = same c refl

get_below : (n : ℕ) (cs : List ℕ) (i c : ℕ) → All (λ c. c < n) cs → slice_get cs i ≡ Some c → c < n
get_below n [] i c each e = cc
get_below n (x ∷ xs) zero c each e =
    let P : ℕ → Type 0 = λ c. c < n in
    let same : x ≡ c = cc in
    subst P same (All-head P x xs each)
get_below n (x ∷ xs) (suc i) c each e = let P : ℕ → Type 0 = λ c. c < n in get_below n xs i c (All-tail P x xs each) e

last_same : (mark other : ℕ → Bool) (n : ℕ) → ((i : ℕ) → i < n → mark i ≡ other i) → (children : List ℕ) → All (λ c. c < n) children
    → option_map_or mark (last_of children) false ≡ option_map_or other (last_of children) false
last_same mark other n same children each = option_same mark other (last_of children) (λ c e. same c (get_below n children (length children - 1) c each e))

rests_same : (mark other : ℕ → Bool) (n : ℕ) → ((i : ℕ) → i < n → mark i ≡ other i) → (rests : Rests) (children : List ℕ) → All (λ c. c < n) children → rests_on mark rests children ≡ rests_on other rests children
rests_same mark other n same ByNothing cs each = refl
rests_same mark other n same ByItself cs each = refl
rests_same mark other n same OnSome cs each = any_same mark other n same cs each
rests_same mark other n same (OnCases preds) cs each = zip_same mark other n same preds cs each
rests_same mark other n same OnLast cs each = last_same mark other n same cs each

pub by_same : (mark other : ℕ → Bool) (n : ℕ) → ((i : ℕ) → i < n → mark i ≡ other i) → (op : Op) (children : List ℕ) → All (λ c. c < n) children → infallible_by mark op children ≡ infallible_by other op children
by_same mark other n same op cs each = rests_same mark other n same (rests_of op) cs each

-- the children of a node are smaller
children_below : (nodes : List Node) (i : ℕ) (node : Node) → AreNodes nodes → slice_get nodes i ≡ Some node → All (λ c. c < i) node.children
children_below nodes i node well there =
    let here : i < length nodes = slice_get_within nodes i node there in
    let front : length (take i nodes) ≡ i = length-take-le i nodes (omega arith) in
    All-weaker (λ c. c < length (take i nodes)) (λ c. c < i) (λ x h. omega arith) node.children (well i node there).children

get_node : (nodes : List Node) (i : ℕ) → i < length nodes → (node : Node) × (slice_get nodes i ≡ Some node)
get_node [] i h = absurd (omega arith)
get_node (x ∷ xs) zero h = (x, refl)
get_node (x ∷ xs) (suc i) h = get_node xs i (omega arith)

-- no two markings
same_below : (nodes : List Node) (mark other : ℕ → Bool) → AreNodes nodes → IsMarking nodes mark → IsMarking nodes other → (n i : ℕ) → i < n → i < length nodes → mark i ≡ other i
same_below nodes mark other well a b zero i h there = absurd (omega arith)
same_below nodes mark other well a b (suc n) i h there =
    let rest : (j : ℕ) → j < n → j < length nodes → mark j ≡ other j = same_below nodes mark other well a b n in
    let (node, at) = get_node nodes i there in
    a i node at ∙ by_same mark other i (λ j less. rest j (omega arith) (omega arith)) node.op node.children (children_below nodes i node well at) ∙ sym (b i node at)

pub one_marking : (nodes : List Node) (mark other : ℕ → Bool) (i : ℕ) → AreNodes nodes → IsMarking nodes mark → IsMarking nodes other → i < length nodes → mark i ≡ other i
one_marking nodes mark other i well a b there = same_below nodes mark other well a b (suc i) i (omega arith) there

-- the marks of the nodes below n
pub record AreMarked (nodes : List Node) (marks : List Bool) (n : ℕ) : Type 0 where
  pub size : length marks ≡ n
  pub each : (i : ℕ) (node : Node) → i < n → slice_get nodes i ≡ Some node → mark_at marks i ≡ infallible_by (mark_at marks) node.op node.children

pub marked_more : (nodes : List Node) (marks : List Bool) (n : ℕ) (node : Node) (mark : Bool) → AreNodes nodes → AreMarked nodes marks n → slice_get nodes n ≡ Some node
    → mark ≡ infallible_by (mark_at marks) node.op node.children → AreMarked nodes (marks ++ mark ∷ []) (n + 1)
marked_more nodes marks n node mark well so_far there is =
    let more : List Bool = marks ++ mark ∷ [] in
    let kept : (i : ℕ) → i < n → mark_at marks i ≡ mark_at more i = λ i h. sym (get_or_append_left marks (mark ∷ []) false i (omega (arith, so_far.size))) in
    let last : mark_at more n ≡ mark = ap (mark_at more) (sym so_far.size) ∙ get_or-append_seam marks mark [] false in
    record {
      size = length-append marks (mark ∷ []) ∙ ap (λ (k : ℕ). k + 1) so_far.size;
      each = λ i one h at. elim (cases_eq i n) [
        | inl e ↦ (let P : ℕ → Type 0 = λ k. slice_get nodes k ≡ Some one in
            let same : one ≡ node = some_same (subst P e at) there in
            ap (mark_at more) e ∙ last ∙ is ∙ by_same (mark_at marks) (mark_at more) n kept node.op node.children (children_below nodes n node well there)
            ∙ ap (λ (x : Node). infallible_by (mark_at more) x.op x.children) (sym same))
        | inr apart ↦ (let less : i < n = omega (arith, apart) in
            sym (kept i less) ∙ so_far.each i one less at ∙ by_same (mark_at marks) (mark_at more) i (λ j below. kept j (omega arith)) one.op one.children (children_below nodes i one well at))
      ];
    }

pub marked_none : (nodes : List Node) → AreMarked nodes [] 0
marked_none nodes = record { size = refl; each = λ i node h at. absurd (omega arith) }

pub marked_all : (nodes : List Node) (marks : List Bool) (n : ℕ) → length nodes ≤ n → AreMarked nodes marks n → IsMarking nodes (mark_at marks)
marked_all nodes marks n all done i node at = let h : i < length nodes = slice_get_within nodes i node at in done.each i node (omega arith) at

pub children_within : (nodes : List Node) (i n : ℕ) (node : Node) → AreNodes nodes → slice_get nodes i ≡ Some node → n ≡ i → All (λ c. c < n) node.children
children_within nodes i n node well there e = All-weaker (λ c. c < i) (λ c. c < n) (λ x h. omega arith) node.children (children_below nodes i node well there)

-- a switch's predicates with its children
pub pair_at : (preds : List Predicate) (children : List ℕ) (k : ℕ) (p d : Predicate) (e : ℕ) → k < length preds → length children ≡ length preds → get_or (zip preds children) k (d, e) ≡ (get_or preds k d, get_or children k e)
pair_at preds children k p d e h size = get_or-zip preds children k (d, e) h (omega arith)

pub pairs_size : (preds : List Predicate) (children : List ℕ) → length children ≡ length preds → length (zip preds children) ≡ length preds
pairs_size [] children size = refl
pairs_size (p ∷ ps) [] size = absurd (omega arith)
pairs_size (p ∷ ps) (c ∷ cs) size = ap suc (pairs_size ps cs (omega arith))

and_false : (b : Bool) → b && false ≡ false
and_false true = refl
and_false false = refl

pub pairs_found : (mark : ℕ → Bool) (preds : List Predicate) (children : List ℕ) (k : ℕ) (p : Predicate) → k < length preds → length children ≡ length preds
    → p ≡ get_or preds k p → is_always p ≡ true → mark (get_or children k 0) ≡ true
    → true ≡ list_any (λ pair. is_always pair.0 && mark pair.1) (zip preds children)
pairs_found mark preds children k p h size is always on =
    let test : Predicate × ℕ → Bool = λ pair. is_always pair.0 && mark pair.1 in
    let at : get_or (zip preds children) k (p, 0) ≡ (get_or preds k p, get_or children k 0) = pair_at preds children k p p 0 h size in
    let long : length (zip preds children) ≡ length preds = pairs_size preds children size in
    let here : test (get_or (zip preds children) k (p, 0)) ≡ true =
    ap test at ∙ ap (λ (q : Predicate). is_always q && mark (get_or children k 0)) (sym is) ∙ ap (λ (b : Bool). b && mark (get_or children k 0)) always ∙ on in
    sym (list_any_at test (zip preds children) k (p, 0) (omega arith) here)

pub pairs_more : (mark : ℕ → Bool) (preds : List Predicate) (children : List ℕ) (k : ℕ) (p : Predicate) → k < length preds → length children ≡ length preds
    → p ≡ get_or preds k p → list_any (λ pair. is_always pair.0 && mark pair.1) (take k (zip preds children)) ≡ false
    → (is_always p ≡ false) ⊎ (mark (get_or children k 0) ≡ false)
    → list_any (λ pair. is_always pair.0 && mark pair.1) (take (k + 1) (zip preds children)) ≡ false
pairs_more mark preds children k p h size is none which =
    let test : Predicate × ℕ → Bool = λ pair. is_always pair.0 && mark pair.1 in
    let at : get_or (zip preds children) k (p, 0) ≡ (get_or preds k p, get_or children k 0) = pair_at preds children k p p 0 h size in
    let long : length (zip preds children) ≡ length preds = pairs_size preds children size in
    let here : test (get_or (zip preds children) k (p, 0)) ≡ (is_always p && mark (get_or children k 0)) =
    ap test at ∙ ap (λ (q : Predicate). is_always q && mark (get_or children k 0)) (sym is) in
    let fails : (is_always p && mark (get_or children k 0)) ≡ false = elim which [
      | inl never ↦ ap (λ (b : Bool). b && mark (get_or children k 0)) never
      | inr fallible ↦ ap (λ (b : Bool). is_always p && b) fallible ∙ and_false (is_always p)
    ] in
    list_any_more test (zip preds children) k (p, 0) (omega arith) ∙ ap (λ (b : Bool). b || test (get_or (zip preds children) k (p, 0))) none ∙ here ∙ fails

pub pairs_done : (mark : ℕ → Bool) (preds : List Predicate) (children : List ℕ) (k : ℕ) → length preds ≤ k → length children ≡ length preds
    → list_any (λ pair. is_always pair.0 && mark pair.1) (take k (zip preds children)) ≡ false → false ≡ list_any (λ pair. is_always pair.0 && mark pair.1) (zip preds children)
pairs_done mark preds children k h size none =
    let long : length (zip preds children) ≡ length preds = pairs_size preds children size in
    sym (ap (list_any (λ pair. is_always pair.0 && mark pair.1)) (sym (take_all k (zip preds children) (omega arith))) ∙ none)

pub any_done : (mark : ℕ → Bool) (children : List ℕ) (k : ℕ) → length children ≤ k → list_any mark (take k children) ≡ false → false ≡ list_any mark children
any_done mark children k h none = sym (ap (list_any mark) (sym (take_all k children h)) ∙ none)

pub number_at : (nodes : List Node) (i : ℕ) (node : Node) → AreNodes nodes → slice_get nodes i ≡ Some node → HasChildren node.op (length node.children)
number_at nodes i node well there = (well i node there).number
