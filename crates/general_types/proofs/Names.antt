-- What a further name holds, and what the same names hold later.
use Rattle.std.proofs.Common.{◌≡◌, ◌∙◌, sym, ap, ap₂, subst, arith, append-nil, ℕ, suc, ◌+◌, ◌<◌, ◌≤◌, inl, inr, Bool, true, false, List, [], ◌∷◌, ◌++◌, length, take, take_all, get_or, None}
use Rattle.std.proofs.lemmas.List.{take_more}
use Rattle.type_terms.specs.Agrees.{Follows}
use Rattle.type_terms.specs.Ground.{Ground, Assignment, size, source}
use Rattle.type_terms.specs.Table.{Table, Solves, bound_at, kind_at}
use Rattle.type_terms.specs.Term.{Term, meaning, variable}
use Rattle.type_terms.specs.declared.ty.KindTerm.TheVariants.{Var}
use Rattle.general_types.specs.Holding.{HeldVariables, AgreeBelow, AgreeOn, AgreeOnPassed, AreThere, SameTypes, is_held}
use Rattle.general_types.specs.Renewing.{AreHeldBy, FindsBut, IsFixedBy, IsLeft, Renews}
use Rattle.general_types.specs.Walks.{AddsKind, Every, IsSameBelow, Leads, held}
use Rattle.general_types.proofs.Leads.{all_led, behind_led}
use Rattle.general_types.proofs.Members.{Removes, either, held_append, held_one, removed_else, removed_only}

none_held : (k : ℕ) → is_held [] k ≡ true → ⊥
none_held k e = let g : ◌≡◌ {A = Bool} false true = e in cc

same_head : (a b : Assignment) (t : Term) (names : List Term) → SameTypes (t ∷ names) a b → meaning a t ≡ meaning b t
same_head a b t names e = cc

same_tail : (a b : Assignment) (t : Term) (names : List Term) → SameTypes (t ∷ names) a b → SameTypes names a b
same_tail a b t names e = cc

-- a further name
module _ (s : Table) (names : List Term) (t : Term) (h h1 : HeldVariables) (l : Leads s (t ∷ []) [] h h1) (old : AreHeldBy s names h) where
  new_fixed : (a b : Assignment) → Solves a s → Solves b s → SameTypes (t ∷ names) a b → AgreeOn h1 a b
  new_fixed a b m n e =
      let before = old.fixed_by.fixed a b m n (same_tail a b t names e) in
      let here : meaning a t ≡ meaning b t = same_head a b t names e in
      record {
        types = λ k f. either (λ g. before.types k g) (λ g. g.fixed a b m n (here, tt)) (l.types_only k f);
        kinds = λ k f. either (λ g. before.kinds k g) (λ g. g.fixed a b m n (here, tt)) (l.kinds_only k f);
      }

  behind_before : (a b : Assignment) → Solves a s → Solves b s → (n : ℕ) → AgreeBelow h n a b → Every (IsSameBelow a b n) (t ∷ []) → AgreeOnPassed h (suc n) a b
  behind_before a b m n i g e = old.fixed_by.behind a b m n i g

  new_enough : (a b : Assignment) → Solves a s → Solves b s → AgreeOn h1 a b → SameTypes (t ∷ names) a b
  new_enough a b m n g =
      let before : SameTypes names a b = old.fixed_by.enough a b m n (record { types = λ k f. g.types k (l.types_kept k f); kinds = λ k f. g.kinds k (l.kinds_kept k f) }) in
      let here : meaning a t ≡ meaning b t = (all_led s (t ∷ []) h h1 l a b m n (behind_before a b m n) g).0 in
      ap₂ (λ (x : Ground) (xs : List Ground). x ∷ xs) here before

  pub held_more : AreHeldBy s (t ∷ names) h1
  held_more = record {
    free_types = λ k f. either (λ g. old.free_types k g) (λ g. g.free) (l.types_only k f);
    free_kinds = λ k f. either (λ g. old.free_kinds k g) (λ g. g.free) (l.kinds_only k f);
    fixed_by = record {
      fixed = new_fixed;
      enough = new_enough;
      behind = λ a b m n. behind_led s (t ∷ []) h h1 l a b m n (behind_before a b m n);
    };
  }

-- ---- a held variable that is bound by now

pub renews_none : (s : Table) (h : HeldVariables) → Renews s [] [] h h
renews_none s h = record {
  fixed = λ names o. o;
  types_only = λ k f. inl (f, none_held k);
  kinds_only = λ k f. inl (f, none_held k);
}

module _ (s : Table) (x : ℕ) (h : HeldVariables) where
  other : (xs : List ℕ) → is_held xs x ≡ false → (k : ℕ) → is_held xs k ≡ true → is_held (x ∷ []) k ≡ true → ⊥
  other xs absent k f e = let g : ◌≡◌ {A = Bool} true false = sym f ∙ ap (λ j. is_held xs j) (held_one k x e) ∙ absent in cc

  -- it was not held
  pub renews_no_type : is_held h.types x ≡ false → Renews s (x ∷ []) [] h h
  renews_no_type absent = record {
    fixed = λ names o. o;
    types_only = λ k f. inl (f, other h.types absent k f);
    kinds_only = λ k f. inl (f, none_held k);
  }

  pub renews_no_kind : is_held h.kinds x ≡ false → Renews s [] (x ∷ []) h h
  renews_no_kind absent = record {
    fixed = λ names o. o;
    types_only = λ k f. inl (f, none_held k);
    kinds_only = λ k f. inl (f, other h.kinds absent k f);
  }

left_out : (x : ℕ) (xs xs1 : List ℕ) → Removes x xs xs1 → (k : ℕ) → is_held xs1 k ≡ true → IsLeft xs (x ∷ []) k
left_out x xs xs1 u k f = let r = removed_only x xs xs1 u k f in (r.0, λ e. r.1 (held_one k x e))

-- a type variable
module _ (s : Table) (x : ℕ) (types types1 kinds passed : List ℕ) (h1 : HeldVariables) (is : is_held types x ≡ true) (u : Removes x types types1) (l : Leads s (variable x ∷ []) [] (held types1 kinds passed) h1) where
  module _ (names : List Term) (o : IsFixedBy s names (held types kinds passed)) (a b : Assignment) (m : Solves a s) (n : Solves b s) where
    type_fixed : SameTypes names a b → AgreeOn h1 a b
    type_fixed e =
        let before = o.fixed a b m n e in
        let here : a.type_of x ≡ b.type_of x = before.types x is in
        record {
          types = λ k f. either (λ g. before.types k (removed_only x types types1 u k g).0) (λ g. g.fixed a b m n (here, tt)) (l.types_only k f);
          kinds = λ k f. either (λ g. before.kinds k g) (λ g. g.fixed a b m n (here, tt)) (l.kinds_only k f);
        }

    type_small : (i k : ℕ) → k ≡ x → Every (IsSameBelow a b i) (variable x ∷ []) → size (a.type_of k) < i → a.type_of k ≡ b.type_of k
    type_small i k q e z =
        let y : size (a.type_of x) < i = subst (λ j. size (a.type_of j) < i) q z in
        subst (λ j. a.type_of j ≡ b.type_of j) (sym q) (e.0 (omega (arith, y)))

    type_below : (i : ℕ) → AgreeBelow (held types1 kinds passed) i a b → Every (IsSameBelow a b i) (variable x ∷ []) → AgreeBelow (held types kinds passed) i a b
    type_below i g e = record {
      types = λ k f z. either (λ q. type_small i k q e z) (λ q. g.types k q z) (removed_else x types types1 u k f);
      kinds = g.kinds;
    }

    type_before : (i : ℕ) → AgreeBelow (held types1 kinds passed) i a b → Every (IsSameBelow a b i) (variable x ∷ []) → AgreeOnPassed (held types1 kinds passed) (suc i) a b
    type_before i g e = o.behind a b m n i (type_below i g e)

    type_enough : AgreeOn h1 a b → SameTypes names a b
    type_enough g =
        let here : a.type_of x ≡ b.type_of x = (all_led s (variable x ∷ []) (held types1 kinds passed) h1 l a b m n type_before g).0 in
        o.enough a b m n (record {
          types = λ k f. either (λ q. subst (λ j. a.type_of j ≡ b.type_of j) (sym q) here) (λ q. g.types k (l.types_kept k q)) (removed_else x types types1 u k f);
          kinds = λ k f. g.kinds k (l.kinds_kept k f);
        })

    type_behind : (i : ℕ) → AgreeBelow h1 i a b → AgreeOnPassed h1 (suc i) a b
    type_behind = behind_led s (variable x ∷ []) (held types1 kinds passed) h1 l a b m n type_before

  pub renews_type : Renews s (x ∷ []) [] (held types kinds passed) h1
  renews_type = record {
    fixed = λ names o. record { fixed = type_fixed names o; enough = type_enough names o; behind = type_behind names o };
    types_only = λ k f. either (λ g. inl (left_out x types types1 u k g)) (λ g. inr g.free) (l.types_only k f);
    kinds_only = λ k f. either (λ g. inl (g, none_held k)) (λ g. inr g.free) (l.kinds_only k f);
  }

-- a kind variable
module _ (s : Table) (x : ℕ) (types passed kinds kinds1 kinds2 : List ℕ) (is : is_held kinds x ≡ true) (u : Removes x kinds kinds1) (d : AddsKind s (Var x) kinds1 kinds2) where
  module _ (names : List Term) (o : IsFixedBy s names (held types kinds passed)) (a b : Assignment) (m : Solves a s) (n : Solves b s) where
    kind_fixed : SameTypes names a b → AgreeOn (held types kinds2 passed) a b
    kind_fixed e =
        let before = o.fixed a b m n e in
        let here : a.kind_of x ≡ b.kind_of x = before.kinds x is in
        record {
          types = before.types;
          kinds = λ k f. either (λ g. before.kinds k (removed_only x kinds kinds1 u k g).0) (λ g. g.fixed a b m n (ap source here, tt)) (d.only k f);
        }

    kinds_before : ((k : ℕ) → is_held kinds2 k ≡ true → a.kind_of k ≡ b.kind_of k) → (k : ℕ) → is_held kinds k ≡ true → a.kind_of k ≡ b.kind_of k
    kinds_before g k f =
        let here : a.kind_of x ≡ b.kind_of x = d.enough a b m n g in
        either (λ q. subst (λ j. a.kind_of j ≡ b.kind_of j) (sym q) here) (λ q. g k (d.kept k q)) (removed_else x kinds kinds1 u k f)

    kind_enough : AgreeOn (held types kinds2 passed) a b → SameTypes names a b
    kind_enough g = o.enough a b m n (record { types = g.types; kinds = kinds_before g.kinds })

    kind_behind : (i : ℕ) → AgreeBelow (held types kinds2 passed) i a b → AgreeOnPassed (held types kinds2 passed) (suc i) a b
    kind_behind i g = o.behind a b m n i (record { types = g.types; kinds = kinds_before g.kinds })

  pub renews_kind : Renews s [] (x ∷ []) (held types kinds passed) (held types kinds2 passed)
  renews_kind = record {
    fixed = λ names o. record { fixed = kind_fixed names o; enough = kind_enough names o; behind = kind_behind names o };
    types_only = λ k f. inl (f, none_held k);
    kinds_only = λ k f. either (λ g. inl (left_out x kinds kinds1 u k g)) (λ g. inr g.free) (d.only k f);
  }

-- ---- one after another

neither : (old mid xs ys : List ℕ) (k : ℕ) → IsLeft old xs k → IsLeft mid ys k → IsLeft old (xs ++ ys) k
neither old mid xs ys k f g = (f.0, λ e. either f.1 g.1 (held_append xs ys k e))

pub renews_both : (s : Table) (xs ys vs ws : List ℕ) (h h1 h2 : HeldVariables) → Renews s xs vs h h1 → Renews s ys ws h1 h2 → Renews s (xs ++ ys) (vs ++ ws) h h2
renews_both s xs ys vs ws h h1 h2 l r = record {
  fixed = λ names o. r.fixed names (l.fixed names o);
  types_only = λ k f. either (λ g. either (λ q. inl (neither h.types h1.types xs ys k q g)) (λ q. inr q) (l.types_only k g.0)) (λ g. inr g) (r.types_only k f);
  kinds_only = λ k f. either (λ g. either (λ q. inl (neither h.kinds h1.kinds vs ws k q g)) (λ q. inr q) (l.kinds_only k g.0)) (λ g. inr g) (r.kinds_only k f);
}

pub renews_next_type : (s : Table) (ns : List ℕ) (i : ℕ) (h h1 h2 : HeldVariables) → i < length ns → Renews s (take i ns) [] h h1 → Renews s (get_or ns i 0 ∷ []) [] h1 h2 → Renews s (take (i + 1) ns) [] h h2
renews_next_type s ns i h h1 h2 l before here =
    let n : ℕ = get_or ns i 0 in
    subst (λ zs. Renews s zs [] h h2) (sym (take_more ns i 0 l)) (renews_both s (take i ns) (n ∷ []) [] [] h h1 h2 before here)

pub renews_next_kind : (s : Table) (ns : List ℕ) (i : ℕ) (h h1 h2 : HeldVariables) → i < length ns → Renews s [] (take i ns) h h1 → Renews s [] (get_or ns i 0 ∷ []) h1 h2 → Renews s [] (take (i + 1) ns) h h2
renews_next_kind s ns i h h1 h2 l before here =
    let n : ℕ = get_or ns i 0 in
    subst (λ zs. Renews s [] zs h h2) (sym (take_more ns i 0 l)) (renews_both s [] [] (take i ns) (n ∷ []) h h1 h2 before here)

pub renews_types : (s : Table) (ns : List ℕ) (i : ℕ) (h h1 : HeldVariables) → length ns ≤ i → Renews s (take i ns) [] h h1 → Renews s ns [] h h1
renews_types s ns i h h1 l before = subst (λ zs. Renews s zs [] h h1) (take_all i ns l) before

pub renews_kinds : (s : Table) (ns : List ℕ) (i : ℕ) (h h1 : HeldVariables) → length ns ≤ i → Renews s [] (take i ns) h h1 → Renews s [] ns h h1
renews_kinds s ns i h h1 l before = subst (λ zs. Renews s [] zs h h1) (take_all i ns l) before

pub renews_all : (s : Table) (ts ks : List ℕ) (h h1 h2 : HeldVariables) → Renews s ts [] h h1 → Renews s [] ks h1 h2 → Renews s ts ks h h2
renews_all s ts ks h h1 h2 l r = subst (λ zs. Renews s zs ks h h2) (append-nil ts) (renews_both s ts [] [] ks h h1 h2 l r)

-- ---- what the same names hold later

pub fixed_later : (s s1 : Table) (names : List Term) (h : HeldVariables) → Follows s s1 → IsFixedBy s names h → IsFixedBy s1 names h
fixed_later s s1 names h f o = record {
  fixed = λ a b m n e. o.fixed a b (f.solves a m) (f.solves b n) e;
  enough = λ a b m n g. o.enough a b (f.solves a m) (f.solves b n) g;
  behind = λ a b m n i g. o.behind a b (f.solves a m) (f.solves b n) i g;
}

pub held_later : (s s1 : Table) (names : List Term) (h h1 : HeldVariables) (ts ks : List ℕ) → AreThere s1 h → FindsBut (λ k. bound_at s1.types k ≡ None) h.types ts → FindsBut (λ k. kind_at s1.kinds k ≡ None) h.kinds ks → Renews s1 ts ks h h1 → Follows s s1 → AreHeldBy s names h → AreHeldBy s1 names h1
held_later s s1 names h h1 ts ks there ft fk r f o = record {
  free_types = λ k e. either (λ g. (there.types k g.0, either (λ y. absurd (g.1 y)) (λ y. y) (ft.others k g.0))) (λ y. y) (r.types_only k e);
  free_kinds = λ k e. either (λ g. (there.kinds k g.0, either (λ y. absurd (g.1 y)) (λ y. y) (fk.others k g.0))) (λ y. y) (r.kinds_only k e);
  fixed_by = r.fixed names (fixed_later s s1 names h f o.fixed_by);
}

pub found_there : (m : ℕ) (numbers found : List ℕ) (P : ℕ → Type 0) → FindsBut P numbers found → ((k : ℕ) → is_held numbers k ≡ true → k < m) → (k : ℕ) → is_held found k ≡ true → k < m
found_there m numbers found P f there k e = there k (f.among k e)
