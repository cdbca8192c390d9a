-- The kinds at the places, as the uses say them: each use takes them, and each text with open kinds of its own.
use Rattle.std.proofs.Common.{◌≡◌, ◌∙◌, sym, ap, subst, refl, ℕ, suc, zero, ◌≤◌, ◌<◌, List, [], ◌∷◌, ◌++◌, length, map, Some, None, Bool, true, false, cond, nat_eq, nat_lt, ltb-true, eqb-true, arith}
use Rattle.std.specs.Prelude.{⊤, option_and_then, slice_get}
use Rattle.std.specs.List.{flat_map}
use Rattle.std.proofs.lemmas.List.{length-map}
use Rattle.liq_base.specs.declared.memory.Kind.{Kind}
use Rattle.type_terms.specs.Ground.{Assignment}
use Rattle.type_terms.specs.Term.{kind_meaning}
use Rattle.type_terms.specs.declared.ty.KindTerm.{KindTerm}
use Rattle.typing_rules.specs.declared.uses.KindOf.{KindOf}
use Rattle.typing_rules.specs.declared.uses.KindOf.TheVariants.{Fixed, Given}
use Rattle.typing_rules.specs.declared.uses.Target.{Target}
use Rattle.typing_rules.specs.declared.uses.Target.TheVariants as target
use Rattle.typing_rules.specs.declared.uses.Use.{Use}
use Rattle.typing_rules.specs.Kinds.{around, numbered_on, known_kind, kinds_in, kinds_of, put, read}
use Rattle.typing_rules.specs.Scripts.{Places, def_token}
use Rattle.typing_rules.specs.Uses.{use_at}
use Rattle.type_steps.specs.Environment.{CallTakes, EachTakes, Found, Known, Pending, Takes, TextTakes, TextUse, Texts, function, of_def, of_term, settled, settled_use, texts_under, value}
use Rattle.type_steps.specs.Counts.{AreCounted, HasCount, IsTextCounted, count_at, open_in, opens_in, text_count}
use Rattle.type_steps.specs.Statements.{AreTaken, Done, bound, defined, found_use, founds_of, known_after, known_with, ran, uses_in, uses_under}
use Rattle.type_steps.specs.Whole.{AreDonesCounted, IsDoneCounted}
use Rattle.type_steps.proofs.Uses.{AreIn, in_left, in_right}

-- ---- numbers of open kinds

abbrev pub AreBelow : ℕ → List ℕ → Type 0
AreBelow n [] = ⊤
AreBelow n (j ∷ js) = (j < n) × AreBelow n js

pub record CountsBelow (m n : ℕ) (js : List ℕ) : Type 0 where
  pub rises : m ≤ n
  pub below : AreBelow n js

number_is : (m n : ℕ) → Some m ≡ Some n → m ≡ n
number_is m n e = cc

none_is : {A : Type 0} (n : ℕ) → None ≡ Some n → A
none_is n e = cc

pub counted_below : (m n : ℕ) (js : List ℕ) → numbered_on m js ≡ Some n → CountsBelow m n js
counted_below m n [] e = let d = number_is m n e in record { rises = omega (arith, d); below = tt }
counted_below m n (j ∷ js) e = by (nat_lt j m) (nat_eq j m) refl refl (λ f. counted_below m n js f) (λ f. counted_below (suc m) n js f) e where
  by : (a b : Bool) → nat_lt j m ≡ a → nat_eq j m ≡ b → (numbered_on m js ≡ Some n → CountsBelow m n js) → (numbered_on (suc m) js ≡ Some n → CountsBelow (suc m) n js) → cond a (numbered_on m js) (cond b (numbered_on (suc m) js) None) ≡ Some n → CountsBelow m n (j ∷ js)
  by true b p q same more f =
      let r = same f in
      let lt : j < m = ltb-true j m p in
      let low = r.rises in
      record { rises = low; below = (omega (arith, lt, low), r.below) }
  by false true p q same more f =
      let r = more f in
      let is : j ≡ m = eqb-true j m q in
      let low = r.rises in
      record { rises = omega (arith, low); below = (omega (arith, is, low), r.below) }
  by false false p q same more f = none_is n f

below_left : (n : ℕ) (xs ys : List ℕ) → AreBelow n (xs ++ ys) → AreBelow n xs
below_left n [] ys h = tt
below_left n (x ∷ xs) ys h = (h.0, below_left n xs ys h.1)

below_right : (n : ℕ) (xs ys : List ℕ) → AreBelow n (xs ++ ys) → AreBelow n ys
below_right n [] ys h = h
below_right n (x ∷ xs) ys h = below_right n xs ys h.1

-- ---- the kinds of one use

pub get_there : (js : List Kind) (j : ℕ) → j < length js → (k : Kind) × (slice_get js j ≡ Some k)
get_there [] j lt = absurd (omega (arith, lt))
get_there (k ∷ js) zero lt = (k, refl)
get_there (k ∷ js) (suc j) lt = get_there js j (omega (arith, lt))

pub record GivesKinds (js : List Kind) (ws : List KindOf) : Type 0 where
  pub kinds : List Kind
  pub are : kinds_of js ws ≡ Some kinds
  pub many : length kinds ≡ length ws

put_both : (js : List Kind) (w : KindOf) (ws : List KindOf) (k : Kind) → known_kind js w ≡ Some k → GivesKinds js ws → GivesKinds js (w ∷ ws)
put_both js w ws k e r = record {
  kinds = k ∷ r.kinds;
  are = ap (λ o. put o (kinds_of js ws)) e ∙ ap (put (Some k)) r.are;
  many = ap suc r.many;
}

pub gives_kinds : (a : Assignment) (js : List Kind) (ks : List Pending) → AreBelow (length js) (flat_map open_in ks) → GivesKinds js (map (settled a) ks)
gives_kinds a js [] h = record { kinds = []; are = refl; many = refl }
gives_kinds a js (of_term k ∷ ks) h = put_both js (Fixed (kind_meaning a k)) (map (settled a) ks) (kind_meaning a k) refl (gives_kinds a js ks h)
gives_kinds a js (of_def j ∷ ks) h = let g = get_there js j h.0 in put_both js (Given j) (map (settled a) ks) g.0 g.1 (gives_kinds a js ks h.1)

pub fixed_kinds : (a : Assignment) (js : List Kind) (ks : List KindTerm) → kinds_of js (map (λ k. Fixed (kind_meaning a k)) ks) ≡ Some (map (kind_meaning a) ks)
fixed_kinds a js [] = refl
fixed_kinds a js (k ∷ ks) = ap (put (Some (kind_meaning a k))) (fixed_kinds a js ks)

pub read_is : (given : List Kind) (all : List Use) (chain : List ℕ) (at : ℕ) (u : Use) (js ms : List Kind) → use_at at all ≡ Some u → around given all chain ≡ Some js → kinds_of js u.kinds ≡ Some ms → read given all chain at ≡ Some ms
read_is given all chain at u js ms e f g =
    ap (λ o. option_and_then (kinds_in o) (around given all chain)) e ∙ ap (λ o. option_and_then (kinds_in (Some u)) o) f ∙ g

-- ---- texts

-- the uses of each text are among all, and are counted
abbrev pub TextsRead : List Use → Assignment → List Known → Type 0
TextsRead all a [] = ⊤
TextsRead all a (value t u ∷ ks) = TextsRead all a ks
TextsRead all a (function d us ∷ ks) = AreIn all (map (settled_use a) us) × IsTextCounted ks us × TextsRead all a ks

module _ (given : List Kind) (all : List Use) (a : Assignment) (ks : List Known) (calls : List ℕ → ℕ → List Kind → Type 0)
    (meets : (chain : List ℕ) (t : ℕ) (ms : List Kind) → count_at t ks ≡ Some (length ms) → around given all chain ≡ Some ms → calls chain t ms) where
  pub takes_read : (chain : List ℕ) (at : ℕ) (t : Target) (ms : List Kind) → HasCount ks t (length ms) → read given all chain at ≡ Some ms → Takes calls (read given all) chain at t ms
  takes_read chain at (target.Slot t) ms c r = tt
  takes_read chain at (target.Def t) ms c r = (ms, r, meets (at ∷ chain) t ms c r)
  takes_read chain at (target.Builtin b) ms c r = r

  pub text_reads : (chain : List ℕ) (js : List Kind) (us : List TextUse) → around given all chain ≡ Some js → IsTextCounted ks us → AreIn all (map (settled_use a) us) → AreBelow (length js) (opens_in us) →
      TextTakes calls (read given all) chain js (map (settled_use a) us)
  text_reads chain js [] e c i b = tt
  text_reads chain js (u ∷ us) e c i b =
      let g = gives_kinds a js u.kinds (below_left (length js) (flat_map open_in u.kinds) (opens_in us) b) in
      let r = read_is given all chain u.at (settled_use a u) js g.kinds i.0 e g.are in
      let n : length u.kinds ≡ length g.kinds = sym (g.many ∙ length-map u.kinds (settled a)) in
      let m : HasCount ks u.target (length g.kinds) = subst (HasCount ks u.target) n c.0 in
      ((g.kinds, g.are, takes_read chain u.at u.target g.kinds m r), text_reads chain js us e c.1 i.1 (below_right (length js) (flat_map open_in u.kinds) (opens_in us) b))

abbrev TakesBy : Bool → Texts → Places → List ℕ → ℕ → List Kind → List Use → Type 0
TakesBy b xs kinds chain t ks us = elim b [ true ↦ TextTakes (CallTakes xs kinds) kinds chain ks us | false ↦ CallTakes xs kinds chain t ks ]

pub call_reads : (given : List Kind) (all : List Use) (a : Assignment) (ks : List Known) → TextsRead all a ks → (chain : List ℕ) (t : ℕ) (ms : List Kind) → count_at t ks ≡ Some (length ms) → around given all chain ≡ Some ms → CallTakes (texts_under a ks) (read given all) chain t ms
call_reads given all a [] h chain t ms c e = none_is (length ms) c
call_reads given all a (value x u ∷ ks) h chain t ms c e = call_reads given all a ks h chain t ms c e
call_reads given all a (function d us ∷ ks) h chain t ms c e = by (nat_eq (def_token d) t) (λ l x zs f g. call_reads given all a ks h.2 l x zs f g) c where
  by : (b : Bool) → ((l : List ℕ) (x : ℕ) (zs : List Kind) → count_at x ks ≡ Some (length zs) → around given all l ≡ Some zs → CallTakes (texts_under a ks) (read given all) l x zs) → cond b (text_count us) (count_at t ks) ≡ Some (length ms) → TakesBy b (texts_under a ks) (read given all) chain t ms (map (settled_use a) us)
  by true r f =
      let below = counted_below 0 (length ms) (opens_in us) f in
      text_reads given all a ks (CallTakes (texts_under a ks) (read given all)) r chain ms us e h.1 h.0 below.below
  by false r f = r chain t ms f e

pub text_is_read : (given : List Kind) (all : List Use) (a : Assignment) (ks : List Known) (us : List TextUse) → TextsRead all a ks → IsTextCounted ks us → AreIn all (map (settled_use a) us) → text_count us ≡ Some (length given) →
    TextTakes (CallTakes (texts_under a ks) (read given all)) (read given all) [] given (map (settled_use a) us)
text_is_read given all a ks us h c i n =
    let below = counted_below 0 (length given) (opens_in us) n in
    text_reads given all a ks (CallTakes (texts_under a ks) (read given all)) (λ l x zs. call_reads given all a ks h l x zs) [] given us refl c i below.below

pub founds_are_read : (given : List Kind) (all : List Use) (a : Assignment) (ks : List Known) (fs : List Found) → TextsRead all a ks → AreCounted ks fs → AreIn all (map (found_use a) fs) → EachTakes (texts_under a ks) (read given all) a fs
founds_are_read given all a ks [] h c i = tt
founds_are_read given all a ks (f ∷ fs) h c i =
    let ms = map (kind_meaning a) f.kinds in
    let r = read_is given all [] f.at (found_use a f) given ms i.0 refl (fixed_kinds a given f.kinds) in
    let m : HasCount ks f.target (length ms) = subst (HasCount ks f.target) (sym (length-map f.kinds (kind_meaning a))) c.0 in
    (takes_read given all a ks (CallTakes (texts_under a ks) (read given all)) (λ l x zs. call_reads given all a ks h l x zs) [] f.at f.target ms m r, founds_are_read given all a ks fs h c.1 i.1)

-- ---- all that statements have left

one_read : (all : List Use) (a : Assignment) (ks : List Known) (x : Done) → TextsRead all a ks → IsDoneCounted ks x → AreIn all (uses_in a x) → TextsRead all a (known_with x ks)
one_read all a ks (bound t u fs) h c i = h
one_read all a ks (defined d us) h c i = (i, c.1, h)
one_read all a ks (ran fs) h c i = h

pub texts_read : (all : List Use) (a : Assignment) (ks : List Known) (xs : List Done) → TextsRead all a ks → AreDonesCounted ks xs → AreIn all (uses_under a xs) → TextsRead all a (known_after ks xs)
texts_read all a ks [] h c i = h
texts_read all a ks (x ∷ xs) h c i =
    texts_read all a (known_with x ks) xs (one_read all a ks x h c.0 (in_left all (uses_in a x) (uses_under a xs) i)) c.1 (in_right all (uses_in a x) (uses_under a xs) i)

one_taken : (given : List Kind) (all : List Use) (a : Assignment) (ks : List Known) (x : Done) → TextsRead all a ks → IsDoneCounted ks x → AreIn all (uses_in a x) → EachTakes (texts_under a ks) (read given all) a (founds_of x)
one_taken given all a ks (bound t u fs) h c i = founds_are_read given all a ks fs h c i
one_taken given all a ks (defined d us) h c i = tt
one_taken given all a ks (ran fs) h c i = founds_are_read given all a ks fs h c i

pub dones_are_read : (given : List Kind) (all : List Use) (a : Assignment) (ks : List Known) (xs : List Done) → TextsRead all a ks → AreDonesCounted ks xs → AreIn all (uses_under a xs) → AreTaken a (read given all) ks xs
dones_are_read given all a ks [] h c i = tt
dones_are_read given all a ks (x ∷ xs) h c i =
    let here = in_left all (uses_in a x) (uses_under a xs) i in
    (one_taken given all a ks x h c.0 here, dones_are_read given all a (known_with x ks) xs (one_read all a ks x h c.0 here) c.1 (in_right all (uses_in a x) (uses_under a xs) i))
