-- What a source needs.
use Rattle.std.proofs.Common.{◌≡◌, ◌∙◌, ℕ, ◌+◌, ◌-◌, ◌<◌, ◌≤◌, zero, suc, Bool, true, false, ◌&&◌, ◌||◌, Option, Some, None, List, [], ◌∷◌, length, get_or, min, nat_eq, take, refl, sym, ap, subst, inl, inr, arith}
use Rattle.std.specs.Prelude.{◌⊎◌, All, IfSome, slice_get}
use Rattle.std.specs.List.{list_any, zip}
use Rattle.std.specs.Option.{option_map_or}
use Rattle.std.proofs.lemmas.Bool.Decides.{nat_tests}
use Rattle.std.proofs.lemmas.List.{length-take-le, take_all}
use Rattle.std.proofs.lemmas.List.Elements.{All-head, All-tail, All-weaker}
use Rattle.std.proofs.lemmas.Option.{slice_get-get_or, slice_get_within}
use Rattle.std.proofs.lemmas.List.Folds.{list_any_at, list_any_more}
use Rattle.std.proofs.lemmas.Slice.Zip.{get_or-zip, length-zip}
use Rattle.time_pred.specs.Predicates.{Predicate, is_always}
use Rattle.plan_core.specs.declared.node.Node.{Node}
use Rattle.plan_core.specs.declared.node.Op.{Op}
use Rattle.plan_core.specs.declared.node.Op.TheVariants.{Playlist, Fail, Switch, Sequence, Buffer}
use Rattle.plan_core.specs.Plans.{AreNodes, HasChildren}
use Rattle.fallible_infer.specs.Infallible.{Rests, ByNothing, ByItself, OnSome, OnCases, OnLast, infallible_by, last_of, rests_of, rests_on}
use Rattle.plan_blames.specs.Needs.{HasOther, IsAlone, IsOnly, IsOnlyNeeded, is_case, is_child, is_last, needs, needs_on, some_case, some_child}

or_split : (a b : Bool) → (a || b) ≡ true → (a ≡ true) ⊎ (b ≡ true)
or_split true b is = inl refl
or_split false b is = inr is

and_split : (a b : Bool) → (a && b) ≡ true → (a ≡ true) × (b ≡ true)
and_split true b is = (refl, is)
and_split false b is = absurd cc

pub itself : (a : ℕ) → nat_eq a a ≡ true
itself a = grind (arith, nat_tests)

pub same_number : (a b : ℕ) → nat_eq a b ≡ true → a ≡ b
same_number a b is = grind (arith, nat_tests, is)

-- a mark of a number is that of its equal
mark_same : (mark : ℕ → Bool) (a b : ℕ) → nat_eq a b ≡ true → mark b ≡ true → mark a ≡ true
mark_same mark a b is marked = ap mark (same_number a b is) ∙ marked

or_left : (a b : Bool) → a ≡ true → (a || b) ≡ true
or_left true b is = refl
or_left false b is = absurd cc

or_right : (a b : Bool) → b ≡ true → (a || b) ≡ true
or_right true b is = refl
or_right false b is = is

-- some child is marked
any_marked : (mark : ℕ → Bool) (children : List ℕ) (child : ℕ) → list_any (is_child child) children ≡ true → mark child ≡ true → list_any mark children ≡ true
any_marked mark [] child is marked = absurd cc
any_marked mark (c ∷ cs) child is marked = elim (or_split (nat_eq c child) (list_any (is_child child) cs) is) [
  | inl now ↦ or_left (mark c) (list_any mark cs) (mark_same mark c child now marked)
  | inr later ↦ or_right (mark c) (list_any mark cs) (any_marked mark cs child later marked)
]

-- some case that is always true is marked
case_marked : (mark : ℕ → Bool) (preds : List Predicate) (children : List ℕ) (child : ℕ) → list_any (is_case child) (zip preds children) ≡ true → mark child ≡ true
    → list_any (λ pair. is_always pair.0 && mark pair.1) (zip preds children) ≡ true
case_marked mark [] cs child is marked = absurd cc
case_marked mark (p ∷ ps) [] child is marked = absurd cc
case_marked mark (p ∷ ps) (c ∷ cs) child is marked = elim (or_split (is_always p && nat_eq c child) (list_any (is_case child) (zip ps cs)) is) [
  | inl now ↦
      let both = and_split (is_always p) (nat_eq c child) now in
      or_left (is_always p && mark c) (list_any (λ pair. is_always pair.0 && mark pair.1) (zip ps cs))
      (ap (λ (b : Bool). b && mark c) both.0 ∙ mark_same mark c child both.1 marked)
  | inr later ↦ or_right (is_always p && mark c) (list_any (λ pair. is_always pair.0 && mark pair.1) (zip ps cs)) (case_marked mark ps cs child later marked)
]

last_marked : (mark : ℕ → Bool) (last : Option ℕ) (child : ℕ) → option_map_or (is_child child) last false ≡ true → mark child ≡ true → option_map_or mark last false ≡ true
last_marked mark (Some last) child is marked = mark_same mark last child is marked
last_marked mark None child is marked = absurd cc

-- what has no child needs none
none_needed : (children : List ℕ) (child : ℕ) → length children ≡ 0 → list_any (is_child child) children ≡ true → ⊥
none_needed [] child none is = cc
none_needed (c ∷ cs) child none is = omega (arith, none)

never_over : (op : Op) (n : ℕ) → HasChildren op n → rests_of op ≡ ByNothing → n ≡ 0
never_over (Playlist file again) n has is = has
never_over Fail n has is = has
never_over (Buffer number) n has is = has
never_over _ n has is = absurd cc

mends_on : (mark : ℕ → Bool) (rests : Rests) (children : List ℕ) (child : ℕ) → (rests ≡ ByNothing → length children ≡ 0) → needs_on rests children child ≡ true → mark child ≡ true
    → rests_on mark rests children ≡ true
mends_on mark ByNothing cs child has is marked = absurd (none_needed cs child (has refl) is)
mends_on mark ByItself cs child has is marked = refl
mends_on mark OnSome cs child has is marked = any_marked mark cs child is marked
mends_on mark (OnCases preds) cs child has is marked = case_marked mark preds cs child is marked
mends_on mark OnLast cs child has is marked = last_marked mark (last_of cs) child is marked

pub mends : (mark : ℕ → Bool) (op : Op) (children : List ℕ) (child : ℕ) → HasChildren op (length children) → needs op children child ≡ true → mark child ≡ true
    → infallible_by mark op children ≡ true
mends mark op cs child has is marked = mends_on mark (rests_of op) cs child (never_over op (length cs) has) is marked

-- the one that passes alone, and one beside another
pub alone : (test : ℕ → Bool) (one : ℕ) → test one ≡ true → IsAlone test one → IsOnly test (Some one)
alone test one passes lone = (passes, lone)

pub beside : (test : ℕ → Bool) (one : ℕ) → test one ≡ true → HasOther test one → IsOnly test None
beside test one passes more x is = by (nat_eq one x) refl
  where
    by : (b : Bool) → nat_eq one x ≡ b → HasOther test x
    by true same = (more.0, more.1, λ e. more.2 (e ∙ sym (same_number one x same)))
    by false differs = (one, passes, λ e. absurd (let s : nat_eq one x ≡ true = ap (λ (y : ℕ). nat_eq one y) (sym e) ∙ itself one in cc))

pub nothing : (test : ℕ → Bool) → ((x : ℕ) → test x ≡ false) → IsOnly test None
nothing test none x is = absurd (let no = none x in cc)

-- what a switch needs, and what any source needs but a switch and a sequence
pub switch_only : (op : Op) (sensitive : Bool) (own preds : List Predicate) (children : List ℕ) (needed : Option ℕ) → op ≡ Switch sensitive preds → own ≡ preds
    → IsOnly (some_case own children) needed → IsOnly (needs op children) needed
switch_only op sensitive own preds children needed is same only =
    subst (λ (o : Op). IsOnly (needs o children) needed) (sym is) (subst (λ (ps : List Predicate). IsOnly (some_case ps children) needed) same only)

pub child_only : (op : Op) (children : List ℕ) (needed : Option ℕ) → ((sensitive : Bool) (preds : List Predicate) → op ≡ Switch sensitive preds → ⊥) → (op ≡ Sequence → ⊥)
    → IsOnly (some_child children) needed → IsOnly (needs op children) needed
child_only (Switch sensitive preds) children needed none other only = absurd (none sensitive preds refl)
child_only Sequence children needed none other only = absurd (other refl)
child_only _ children needed none other only = only

-- the last child
pub last_alone : (children : List ℕ) (last : Option ℕ) → last ≡ last_of children → IsOnly (is_last children) last
last_alone children (Some last) is = (
  ap (λ (o : Option ℕ). option_map_or (is_child last) o false) (sym is) ∙ itself last,
  λ other passes. sym (same_number last other (ap (λ (o : Option ℕ). option_map_or (is_child other) o false) is ∙ passes)),
)
last_alone children None is = nothing (is_last children) (λ x. ap (λ (o : Option ℕ). option_map_or (is_child x) o false) (sym is))

pub first_there : (children : List ℕ) (first : ℕ) → Some first ≡ slice_get children 0 → some_child children first ≡ true
first_there [] first is = absurd cc
first_there (c ∷ cs) first is = or_left (nat_eq c first) (list_any (is_child first) cs) (let e : first ≡ c = cc in ap (λ (x : ℕ). nat_eq c x) e ∙ itself c)

pub none_there : (children : List ℕ) → None ≡ slice_get children 0 → (x : ℕ) → some_child children x ≡ false
none_there [] is x = refl
none_there (c ∷ cs) is x = absurd cc

-- one child more, which is the first one
pub child_more : (first : ℕ) (children : List ℕ) (k : ℕ) → k < length children
    → ((other : ℕ) → list_any (is_child other) (take k children) ≡ true → other ≡ first)
    → get_or children k 0 ≡ first
    → (other : ℕ) → list_any (is_child other) (take (k + 1) children) ≡ true → other ≡ first
child_more first children k here before this other found =
    elim (or_split (list_any (is_child other) (take k children)) (is_child other (get_or children k 0)) (sym (list_any_more (is_child other) children k 0 here) ∙ found)) [
      | inl early ↦ before other early
      | inr now ↦ sym (same_number (get_or children k 0) other now) ∙ this
    ]

pub child_done : (first : ℕ) (children : List ℕ) (k : ℕ) → length children ≤ k
    → ((other : ℕ) → list_any (is_child other) (take k children) ≡ true → other ≡ first) → IsAlone (some_child children) first
child_done first children k end before other found = before other (ap (list_any (is_child other)) (take_all k children end) ∙ found)

pub child_there : (children : List ℕ) (k : ℕ) → k < length children → some_child children (get_or children k 0) ≡ true
child_there children k here = list_any_at (is_child (get_or children k 0)) children k 0 here (itself (get_or children k 0))

case_is : (child : ℕ) (preds : List Predicate) (children : List ℕ) (k : ℕ) (p : Predicate) → k < length preds → k < length children → p ≡ get_or preds k p
    → is_case child (get_or (zip preds children) k (p, 0)) ≡ (is_always p && nat_eq (get_or children k 0) child)
case_is child preds children k p h more is =
    ap (is_case child) (get_or-zip preds children k (p, 0) h more)
    ∙ ap (λ (q : Predicate). is_always q && nat_eq (get_or children k 0) child) (sym is)

-- one case more, which is not always true, or has the first child
pub case_alone_more : (first : ℕ) (preds : List Predicate) (children : List ℕ) (k : ℕ) (p : Predicate) → k < length preds → k < length children → p ≡ get_or preds k p
    → ((other : ℕ) → list_any (is_case other) (take k (zip preds children)) ≡ true → other ≡ first)
    → (is_always p ≡ true → get_or children k 0 ≡ first)
    → (other : ℕ) → list_any (is_case other) (take (k + 1) (zip preds children)) ≡ true → other ≡ first
case_alone_more first preds children k p h more is before this other found =
    elim (or_split (list_any (is_case other) (take k (zip preds children))) (is_always p && nat_eq (get_or children k 0) other) whole) [
      | inl early ↦ before other early
      | inr now ↦ let both = and_split (is_always p) (nat_eq (get_or children k 0) other) now in sym (same_number (get_or children k 0) other both.1) ∙ this both.0
    ]
  where
    whole : (list_any (is_case other) (take k (zip preds children)) || (is_always p && nat_eq (get_or children k 0) other)) ≡ true
    whole =
        let long : length (zip preds children) ≡ min (length preds) (length children) = length-zip preds children in
        ap (λ (b : Bool). list_any (is_case other) (take k (zip preds children)) || b) (sym (case_is other preds children k p h more is))
        ∙ sym (list_any_more (is_case other) (zip preds children) k (p, 0) (omega arith)) ∙ found

pub case_alone : (first : ℕ) (preds : List Predicate) (children : List ℕ) (k : ℕ) → min (length preds) (length children) ≤ k
    → ((other : ℕ) → list_any (is_case other) (take k (zip preds children)) ≡ true → other ≡ first) → IsAlone (some_case preds children) first
case_alone first preds children k end before other found =
    let long : length (zip preds children) ≡ min (length preds) (length children) = length-zip preds children in
    before other (ap (list_any (is_case other)) (take_all k (zip preds children) (omega arith)) ∙ found)

-- what is needed is a child
case_child : (preds : List Predicate) (children : List ℕ) (child : ℕ) → some_case preds children child ≡ true → some_child children child ≡ true
case_child [] cs child is = absurd cc
case_child (p ∷ ps) [] child is = absurd cc
case_child (p ∷ ps) (c ∷ cs) child is =
    elim (or_split (is_always p && nat_eq c child) (list_any (is_case child) (zip ps cs)) is) [
      | inl now ↦ or_left (nat_eq c child) (list_any (is_child child) cs) (and_split (is_always p) (nat_eq c child) now).1
      | inr later ↦ or_right (nat_eq c child) (list_any (is_child child) cs) (case_child ps cs child later)
    ]

child_at : (children : List ℕ) (i last child : ℕ) → slice_get children i ≡ Some last → nat_eq last child ≡ true → some_child children child ≡ true
child_at [] i last child there is = absurd cc
child_at (c ∷ cs) zero last child there is = or_left (nat_eq c child) (list_any (is_child child) cs) (let e : c ≡ last = cc in ap (λ (x : ℕ). nat_eq x child) e ∙ is)
child_at (c ∷ cs) (suc i) last child there is = or_right (nat_eq c child) (list_any (is_child child) cs) (child_at cs i last child there is)

last_child : (children : List ℕ) (child : ℕ) (last : Option ℕ) → last_of children ≡ last → option_map_or (is_child child) last false ≡ true → some_child children child ≡ true
last_child children child (Some last) there is = child_at children (length children - 1) last child there is
last_child children child None there is = absurd cc

needed_child : (rests : Rests) (children : List ℕ) (child : ℕ) → needs_on rests children child ≡ true → some_child children child ≡ true
needed_child (OnCases preds) cs child is = case_child preds cs child is
needed_child OnLast cs child is = last_child cs child (last_of cs) refl is
needed_child _ cs child is = is

child_below : (n : ℕ) (children : List ℕ) (child : ℕ) → All (λ c. c < n) children → some_child children child ≡ true → child < n
child_below n [] child each is = absurd cc
child_below n (c ∷ cs) child each is =
    let P : ℕ → Type 0 = λ x. x < n in
    elim (or_split (nat_eq c child) (list_any (is_child child) cs) is) [
      | inl now ↦ subst P (same_number c child now) (All-head P c cs each)
      | inr later ↦ child_below n cs child (All-tail P c cs each) later
    ]

-- the children of a source are before it
pub needed_below : (nodes : List Node) (n : ℕ) (node : Node) (child : ℕ) → AreNodes nodes → slice_get nodes n ≡ Some node → needs node.op node.children child ≡ true → child < n
needed_below nodes n node child well there is =
    let here : n < length nodes = slice_get_within nodes n node there in
    let front : length (take n nodes) ≡ n = length-take-le n nodes (omega arith) in
    child_below n node.children child (All-weaker (λ c. c < length (take n nodes)) (λ c. c < n) (λ x h. omega arith) node.children (well n node there).children) (needed_child (rests_of node.op) node.children child is)

if_only : (test : ℕ → Bool) (n : ℕ) (needed : Option ℕ) → ((child : ℕ) → test child ≡ true → child < n) → IsOnly test needed → IfSome needed (λ child. child < n)
if_only test n (Some child) all only = all child only.0
if_only test n None all only = tt

pub needed_there : (nodes : List Node) (n : ℕ) (node : Node) (children : List ℕ) (needed : Option ℕ) → AreNodes nodes → node ≡ get_or nodes n node → n < length nodes
    → children ≡ node.children → IsOnly (needs node.op children) needed → IsOnlyNeeded nodes n needed × IfSome needed (λ child. child < n)
needed_there nodes n node children needed well is here same only =
    let there : slice_get nodes n ≡ Some node = slice_get-get_or nodes n node here ∙ ap (λ (m : Node). Some m) (sym is) in
    let own : IsOnly (needs node.op node.children) needed = subst (λ (cs : List ℕ). IsOnly (needs node.op cs) needed) same only in (
      record { node = node; there = there; only = own },
      if_only (needs node.op node.children) n needed (λ child passes. needed_below nodes n node child well there passes) own,
    )
