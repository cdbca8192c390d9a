-- What earlier values hold: kept while more is bound, and reckoned again.
use Rattle.std.proofs.Common.{◌≡◌, ◌∙◌, sym, ap, subst, refl, arith, ℕ, ◌+◌, ◌<◌, ◌≤◌, length, get_or, take, List, [], ◌∷◌, ◌++◌, map}
use Rattle.std.proofs.lemmas.List.{take_all, take_more}
use Rattle.std.proofs.lemmas.List.Elements.{All-get_or, All-push}
use Rattle.type_terms.specs.Agrees.{Follows}
use Rattle.type_terms.specs.Table.{IsOver, Table}
use Rattle.type_terms.specs.Term.{Term, meaning, term_of, variable}
use Rattle.type_terms.specs.declared.ty.Ty.TheVariants as ty
use Rattle.type_terms.proofs.Views.{term_Var}
use Rattle.general_types.specs.Holding.{AreThere, HeldVariables, IsHeldBy}
use Rattle.type_steps.specs.Environment.{Known, value}
use Rattle.type_steps.proofs.Tables.{follows_both, follows_same}
use Rattle.type_steps.specs.Defs.{HoldsBefore, terms_before}
use Rattle.type_infer.specs.Later.{AddsValues, AreValues, HoldsLater, IsRenewed, terms_since}

since_push : (ns : List ℕ) (n : ℕ) (ts : List Term) → terms_since (ns ++ n ∷ []) ts ≡ variable n ∷ terms_since ns ts
since_push [] n ts = refl
since_push (m ∷ ns) n ts = since_push ns n (variable m ∷ ts)

values_later : (s s' : Table) (ns : List ℕ) → Follows s s' → AreValues s ns → AreValues s' ns
values_later s s' ns f all = λ k d lt. let l = all k d lt in omega (arith, l, f.types)

tail_same : {A : Type 0} (x y : A) (xs ys : List A) → x ∷ xs ≡ y ∷ ys → xs ≡ ys
tail_same x y xs ys h = cc

-- ---- while more is bound

pub later_still : (s s' : Table) (ks : List Known) (h : HeldVariables) (ns : List ℕ) → HoldsLater s ks h ns → Follows s s' → HoldsLater s' ks h ns
later_still s s' ks h ns l f = record {
  earlier = l.earlier;
  follows = follows_both l.earlier s s' l.follows f;
  types = l.types;
  held = l.held;
  since = l.since;
  there = values_later s s' ns f l.there;
  texts = λ a b m n same. l.texts a b (f.solves a m) (f.solves b n) same;
}

pub later_value : (s s' : Table) (ks : List Known) (h : HeldVariables) (ns : List ℕ) (at n : ℕ) → HoldsLater s ks h ns → Follows s s' → IsOver s' (variable n) → HoldsLater s' (value at (variable n) ∷ ks) h (ns ++ n ∷ [])
later_value s s' ks h ns at n l f over = record {
  earlier = l.earlier;
  follows = follows_both l.earlier s s' l.follows f;
  types = l.types;
  held = l.held;
  since = ap (λ ts. variable n ∷ ts) l.since ∙ sym (since_push ns n l.types);
  there = All-push (λ k. k < length s'.types) ns n (values_later s s' ns f l.there) over;
  texts = λ a b m k same. l.texts a b (f.solves a m) (f.solves b k) (tail_same (meaning a (variable n)) (meaning b (variable n)) (map (meaning a) (terms_before ks)) (map (meaning b) (terms_before ks)) same);
}

pub later_now : (s : Table) (ks : List Known) (h : HeldVariables) → HoldsBefore s ks h → HoldsLater s ks h []
later_now s ks h holds = record {
  earlier = s;
  follows = follows_same s;
  types = terms_before ks;
  held = holds.held;
  since = refl;
  there = λ k d lt. absurd (omega (arith, lt));
  texts = holds.texts;
}

-- ---- reckoned again

pub held_there : (s : Table) (ks : List Known) (h : HeldVariables) (ns : List ℕ) → HoldsLater s ks h ns → AreThere s h
held_there s ks h ns l = record {
  types = λ k is. let lt = (l.held.free_types k is).0 in omega (arith, lt, l.follows.types);
  kinds = λ k is. let lt = (l.held.free_kinds k is).0 in omega (arith, lt, l.follows.kinds);
}

pub caught_up : (s : Table) (ks : List Known) (h h' : HeldVariables) (ns : List ℕ) → HoldsLater s ks h ns → IsRenewed s ns h h' → HoldsBefore s ks h'
caught_up s ks h h' ns l new = record {
  held = subst (λ (ts : List Term). IsHeldBy s ts h') (sym l.since) (new l.earlier l.types l.follows l.held);
  texts = l.texts;
}

pub value_there : (s : Table) (ns : List ℕ) (i : ℕ) → i < length ns → AreValues s ns → IsOver s (term_of (ty.Var (get_or ns i 0)))
value_there s ns i lt all =
    let n : ℕ = get_or ns i 0 in
    subst (IsOver s) (sym (term_Var (ty.Var n) n refl)) (All-get_or (λ k. k < length s.types) ns i 0 lt all)

pub next_added : (s : Table) (ns : List ℕ) (i : ℕ) (start h h' : HeldVariables) → i < length ns → AddsValues s (take i ns) start h → ((ts : List Term) → IsHeldBy s ts h → IsHeldBy s (term_of (ty.Var (get_or ns i 0)) ∷ ts) h') → AddsValues s (take (i + 1) ns) start h'
next_added s ns i start h h' lt before add types holds =
    let n : ℕ = get_or ns i 0 in
    let ts : List Term = terms_since (take i ns) types in
    let more : IsHeldBy s (variable n ∷ ts) h' = subst (λ (t : Term). IsHeldBy s (t ∷ ts) h') (term_Var (ty.Var n) n refl) (add ts (before types holds)) in
    subst (λ (ms : List ℕ). IsHeldBy s (terms_since ms types) h') (sym (take_more ns i 0 lt)) (subst (λ (us : List Term). IsHeldBy s us h') (sym (since_push (take i ns) n types)) more)

pub all_added : (s : Table) (ns : List ℕ) (i : ℕ) (start h : HeldVariables) → length ns ≤ i → AddsValues s (take i ns) start h → AddsValues s ns start h
all_added s ns i start h le before = subst (λ (ms : List ℕ). AddsValues s ms start h) (take_all i ns le) before
