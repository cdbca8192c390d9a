-- Kinds of uses can be read, and those of two typings of one script are the same.
use Rattle.std.proofs.Common.{◌≡◌, inl, inr, ℕ, zero, suc, ◌<◌, ◌≤◌, List, [], ◌∷◌, ◌++◌, length, Bool, true, false, cond, Option, Some, None, refl, sym, ap, ◌∙◌, subst, nat_eq, nat_lt, eqb-true, arith}
use Rattle.std.specs.Prelude.{slice_get}
use Rattle.std.proofs.lemmas.Bool.{ltb-true}
use Rattle.std.specs.List.{flat_map}
use Rattle.liq_base.specs.declared.memory.Kind.{Kind}
use Rattle.liq_base.specs.declared.memory.Kind.TheVariants.{Mono, Stereo}
use Rattle.typing_rules.specs.declared.uses.Use.{Use}
use Rattle.typing_rules.specs.declared.uses.KindOf.{KindOf}
use Rattle.typing_rules.specs.declared.uses.KindOf.TheVariants as kind
use Rattle.typing_rules.specs.Kinds.{IsOneOf, MonoOnly, MonoWhere, numbered_on, known_kind, kinds_listed, kinds_of, number_of, numbers_in, put}
use Rattle.typing_rules.specs.Scoping.{Name}
use Rattle.typing_rules.specs.Uses.{use_at}

-- ---- each is below a bound

abbrev pub AreBelow : ℕ → List ℕ → Type 0
AreBelow k [] = Unit {0}
AreBelow k (j ∷ js) = (j < k) × AreBelow k js

below_left : (k : ℕ) (xs ys : List ℕ) → AreBelow k (xs ++ ys) → AreBelow k xs
below_left k [] ys are = tt
below_left k (x ∷ xs) ys are = (are.0, below_left k xs ys are.1)

below_right : (k : ℕ) (xs ys : List ℕ) → AreBelow k (xs ++ ys) → AreBelow k ys
below_right k [] ys are = are
below_right k (x ∷ xs) ys are = below_right k xs ys are.1

some_count : (n k : ℕ) → Some n ≡ Some k → n ≡ k
some_count n k is = cc

-- numbers in order are below their count
abbrev Most : ℕ → ℕ → List ℕ → Type 0
Most n k js = (n ≤ k) × AreBelow k js

most : (n m k j : ℕ) (js : List ℕ) → n ≤ m → j < m → Most m k js → Most n k (j ∷ js)
most n m k j js le lt rest = (omega (arith, le, rest.0), (omega (arith, lt, rest.0), rest.1))

new_or_none : (n k j : ℕ) (js : List ℕ) → ((q : ℕ) → numbered_on q js ≡ Some k → Most q k js) → (b : Bool) → nat_eq j n ≡ b → cond b (numbered_on (suc n) js) None ≡ Some k → Most n k (j ∷ js)
new_or_none n k j js later true same is = let e : j ≡ n = eqb-true j n same in most n (suc n) k j js (omega arith) (omega (arith, e)) (later (suc n) is)
new_or_none n k j js later false other is = absurd cc

low_or_new : (n k j : ℕ) (js : List ℕ) → ((q : ℕ) → numbered_on q js ≡ Some k → Most q k js) → (b : Bool) → nat_lt j n ≡ b → cond b (numbered_on n js) (cond (nat_eq j n) (numbered_on (suc n) js) None) ≡ Some k → Most n k (j ∷ js)
low_or_new n k j js later true low is = most n n k j js (omega arith) (ltb-true j n low) (later n is)
low_or_new n k j js later false high is = new_or_none n k j js later (nat_eq j n) refl is

counted_most : (n k : ℕ) (js : List ℕ) → numbered_on n js ≡ Some k → Most n k js
counted_most n k [] is = let e = some_count n k is in (omega (arith, e), tt)
counted_most n k (j ∷ js) is = low_or_new n k j js (λ q same. counted_most q k js same) (nat_lt j n) refl is

pub counted_below : (k : ℕ) (js : List ℕ) → numbered_on 0 js ≡ Some k → AreBelow k js
counted_below k js is = (counted_most 0 k js is).1

-- ---- kinds are read where each number has a kind

-- as many kinds as are asked for
pub record AreRead (given : List Kind) (ws : List KindOf) : Type 0 where
  pub kinds : List Kind
  pub read : kinds_of given ws ≡ Some kinds
  pub size : length kinds ≡ length ws

within_get : (xs : List Kind) (j : ℕ) → j < length xs → (k : Kind) × (slice_get xs j ≡ Some k)
within_get [] j lt = absurd (omega arith)
within_get (x ∷ xs) zero lt = (x, refl)
within_get (x ∷ xs) (suc j) lt = within_get xs j (omega arith)

put_more : (given : List Kind) (w : KindOf) (ws : List KindOf) (k : Kind) → known_kind given w ≡ Some k → AreRead given ws → AreRead given (w ∷ ws)
put_more given w ws k is rest = record {
  kinds = k ∷ rest.kinds;
  read = ap (λ (o : Option Kind). put o (kinds_of given ws)) is ∙ ap (λ (o : Option (List Kind)). put (Some k) o) rest.read;
  size = ap suc rest.size;
}

pub are_read : (given : List Kind) (ws : List KindOf) → AreBelow (length given) (flat_map number_of ws) → AreRead given ws
are_read given [] below = record { kinds = []; read = refl; size = refl }
are_read given (kind.Fixed k ∷ ws) below = put_more given (kind.Fixed k) ws k refl (are_read given ws below)
are_read given (kind.Given j ∷ ws) below =
    let k = within_get given j below.0 in
    put_more given (kind.Given j) ws k.0 k.1 (are_read given ws below.1)

-- the numbers of one use are among those of its statement
flat_append : (xs ys : List KindOf) → flat_map number_of (xs ++ ys) ≡ flat_map number_of xs ++ flat_map number_of ys
flat_append [] ys = refl
flat_append (kind.Fixed k ∷ xs) ys = flat_append xs ys
flat_append (kind.Given j ∷ xs) ys = ap (λ (l : List ℕ). j ∷ l) (flat_append xs ys)

pub numbers_below : (uses : List Use) (ns : List Name) (n : Name) (k : ℕ) → IsOneOf ns n → AreBelow k (numbers_in uses ns) → AreBelow k (flat_map number_of (kinds_listed (use_at n.at uses)))
numbers_below uses [] n k is below = absurd is
numbers_below uses (x ∷ xs) n k (inl same) below =
    let own = kinds_listed (use_at x.at uses) in
    let rest = flat_map (λ (y : Name). kinds_listed (use_at y.at uses)) xs in
    let here : AreBelow k (flat_map number_of own) = below_left k (flat_map number_of own) (flat_map number_of rest) (subst (AreBelow k) (flat_append own rest) below) in
    subst (λ (y : Name). AreBelow k (flat_map number_of (kinds_listed (use_at y.at uses)))) same here
numbers_below uses (x ∷ xs) n k (inr is) below =
    let own = kinds_listed (use_at x.at uses) in
    let rest = flat_map (λ (y : Name). kinds_listed (use_at y.at uses)) xs in
    numbers_below uses xs n k is (below_right k (flat_map number_of own) (flat_map number_of rest) (subst (AreBelow k) (flat_append own rest) below))

-- ---- kinds that are mono in the same places

kind_same : (a b : Kind) → (a ≡ Mono → b ≡ Mono) → (b ≡ Mono → a ≡ Mono) → a ≡ b
kind_same Mono b there back = sym (there refl)
kind_same Stereo Mono there back = back refl
kind_same Stereo Stereo there back = refl

list_same : (xs ys : List Kind) → MonoWhere xs ys → MonoWhere ys xs → xs ≡ ys
list_same [] [] there back = refl
list_same [] (y ∷ ys) there back = absurd there
list_same (x ∷ xs) [] there back = absurd there
list_same (x ∷ xs) (y ∷ ys) there back = ap (λ (k : Kind). k ∷ xs) (kind_same x y there.0 back.0) ∙ ap (λ (l : List Kind). y ∷ l) (list_same xs ys there.1 back.1)

pub mono_same : (o p : Option (List Kind)) → MonoOnly o p → MonoOnly p o → o ≡ p
mono_same (Some xs) (Some ys) there back = ap Some (list_same xs ys there back)
mono_same (Some xs) None there back = absurd there
mono_same None p there back = absurd there
