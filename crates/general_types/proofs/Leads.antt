-- What the steps of a walk through types lead to, and the walk as a whole.
use Rattle.std.proofs.Common.{◌≡◌, ◌∙◌, sym, ap, ap₂, subst, refl, arith, ℕ, zero, suc, ◌<◌, ◌≤◌, inl, inr, Bool, true, false, not, List, [], ◌∷◌, ◌++◌, Some, Result, Ok, Err, OnOk}
use Rattle.liq_base.specs.declared.memory.Kind.{Kind}
use Rattle.type_terms.specs.Ground.{Assignment, list, tuple, source, and_more, size, sizes}
use Rattle.type_terms.specs.Nested.{parts}
use Rattle.type_terms.specs.Resolved.{IsFreeType, IsFreeKind}
use Rattle.type_terms.specs.Table.{Table, Solves, IsOver, bound_at, extra}
use Rattle.type_terms.specs.Term.{Term, Terms, base_term, list_term, tuple_term, source_term, variable, no_terms, one_more, meaning, meanings, kind_meaning}
use Rattle.type_terms.specs.declared.ty.Base.{Base}
use Rattle.type_terms.specs.declared.ty.KindTerm.{KindTerm}
use Rattle.type_terms.specs.declared.ty.KindTerm.TheVariants.{Fixed, Var}
use Rattle.general_types.specs.Holding.{HeldVariables, AgreeBelow, AgreeOn, AgreeOnPassed, is_held}
use Rattle.general_types.specs.Walks.{AddsKind, Every, IsKindIn, IsSame, IsSameBelow, IsTypeIn, Leads, held}
use Rattle.general_types.proofs.Members.{Inserts, either, inserted_here, inserted_kept, inserted_only}

pub ok_then : {A E P Q : Type 0} (r : Result A E) → (P → Q) → OnOk r P → OnOk r Q
ok_then (Ok x) f h = f h
ok_then (Err e) f h = tt

-- lists of terms

pub every_left : (P : Term → Type 0) (xs ys : List Term) → Every P (xs ++ ys) → Every P xs
every_left P [] ys h = tt
every_left P (x ∷ xs) ys h = (h.0, every_left P xs ys h.1)

pub every_right : (P : Term → Type 0) (xs ys : List Term) → Every P (xs ++ ys) → Every P ys
every_right P [] ys h = h
every_right P (x ∷ xs) ys h = every_right P xs ys h.1

pub every_both : (P : Term → Type 0) (xs ys : List Term) → Every P xs → Every P ys → Every P (xs ++ ys)
every_both P [] ys h k = k
every_both P (x ∷ xs) ys h k = (h.0, every_both P xs ys h.1 k)

-- what is left of a walk may be gone through in turn
pub leads_on : (s : Table) (xs ys zs : List Term) (h h1 h2 : HeldVariables) → Leads s xs ys h h1 → Leads s ys zs h1 h2 → Leads s xs zs h h2
leads_on s xs ys zs h h1 h2 l r = record {
  over = λ o. r.over (l.over o);
  needed = λ a b m n e. r.needed a b m n (l.needed a b m n e);
  enough = λ a b m n i g p e. l.enough a b m n i (kept a b i g) (λ k f. p k (r.passed_kept k f)) (r.enough a b m n i g p e);
  learnt = λ a b m n i g p e o. r.learnt a b m n i g p e (l.learnt a b m n i (kept a b i g) (λ k f. p k (r.passed_kept k f)) (r.enough a b m n i g p e) o);
  types_kept = λ k e. r.types_kept k (l.types_kept k e);
  kinds_kept = λ k e. r.kinds_kept k (l.kinds_kept k e);
  passed_kept = λ k e. r.passed_kept k (l.passed_kept k e);
  types_only = λ k e. either (λ f. l.types_only k f) (λ f. inr (type_before k f)) (r.types_only k e);
  kinds_only = λ k e. either (λ f. l.kinds_only k f) (λ f. inr (kind_before k f)) (r.kinds_only k e);
}
  where
    kept : (a b : Assignment) (i : ℕ) → AgreeBelow h2 i a b → AgreeBelow h1 i a b
    kept a b i g = record { types = λ k f. g.types k (r.types_kept k f); kinds = λ k f. g.kinds k (r.kinds_kept k f) }

    type_before : (k : ℕ) → IsTypeIn s ys k → IsTypeIn s xs k
    type_before k f = record { free = f.free; fixed = λ a b m n e. f.fixed a b m n (l.needed a b m n e) }

    kind_before : (k : ℕ) → IsKindIn s ys k → IsKindIn s xs k
    kind_before k f = record { free = f.free; fixed = λ a b m n e. f.fixed a b m n (l.needed a b m n e) }

pub leads_same : (s : Table) (xs : List Term) (h : HeldVariables) → Leads s xs xs h h
leads_same s xs h = record {
  over = λ o. o;
  needed = λ a b m n e. e;
  enough = λ a b m n i g p e. e;
  learnt = λ a b m n i g p e o. o;
  types_kept = λ k e. e;
  kinds_kept = λ k e. e;
  passed_kept = λ k e. e;
  types_only = λ k e. inl e;
  kinds_only = λ k e. inl e;
}

-- other terms may stand below
pub leads_under : (s : Table) (rest us vs : List Term) (h h1 : HeldVariables) → Leads s us vs h h1 → Leads s (rest ++ us) (rest ++ vs) h h1
leads_under s rest us vs h h1 l = record {
  over = λ o. every_both (IsOver s) rest vs (every_left (IsOver s) rest us o) (l.over (every_right (IsOver s) rest us o));
  needed = λ a b m n e. every_both (IsSame a b) rest vs (every_left (IsSame a b) rest us e) (l.needed a b m n (every_right (IsSame a b) rest us e));
  enough = λ a b m n i g p e. every_both (IsSameBelow a b i) rest us (every_left (IsSameBelow a b i) rest vs e) (l.enough a b m n i g p (every_right (IsSameBelow a b i) rest vs e));
  learnt = λ a b m n i g p e o. l.learnt a b m n i g p (every_right (IsSameBelow a b i) rest vs e) o;
  types_kept = l.types_kept;
  kinds_kept = l.kinds_kept;
  passed_kept = l.passed_kept;
  types_only = λ k e. either (λ f. inl f) (λ f. inr (type_under k f)) (l.types_only k e);
  kinds_only = λ k e. either (λ f. inl f) (λ f. inr (kind_under k f)) (l.kinds_only k e);
}
  where
    type_under : (k : ℕ) → IsTypeIn s us k → IsTypeIn s (rest ++ us) k
    type_under k f = record { free = f.free; fixed = λ a b m n e. f.fixed a b m n (every_right (IsSame a b) rest us e) }

    kind_under : (k : ℕ) → IsKindIn s us k → IsKindIn s (rest ++ us) k
    kind_under k f = record { free = f.free; fixed = λ a b m n e. f.fixed a b m n (every_right (IsSame a b) rest us e) }

-- a term on top of the stack
pub leads_top : (s : Table) (rest us vs stack stack' : List Term) (h h1 : HeldVariables) → stack ≡ rest ++ us → stack' ≡ rest ++ vs → Leads s us vs h h1 → Leads s stack stack' h h1
leads_top s rest us vs stack stack' h h1 e f l =
    subst (λ xs. Leads s xs stack' h h1) (sym e) (subst (λ ys. Leads s (rest ++ us) ys h h1) (sym f) (leads_under s rest us vs h h1 l))

-- a term that has nothing below it
pub leads_off : (s : Table) (rest us : List Term) (h h1 : HeldVariables) → Leads s us [] h h1 → Leads s (rest ++ us) rest h h1
leads_off s rest us h h1 l = leads_top s rest us [] (rest ++ us) rest h h1 refl (sym (nil_after rest)) l
  where
    nil_after : (xs : List Term) → xs ++ [] ≡ xs
    nil_after [] = refl
    nil_after (x ∷ xs) = ap (λ ys. x ∷ ys) (nil_after xs)

-- steps that add nothing

leads_plain : (s : Table) (us vs : List Term) (h : HeldVariables) → (Every (IsOver s) us → Every (IsOver s) vs) → ((a b : Assignment) → Solves a s → Solves b s → Every (IsSame a b) us → Every (IsSame a b) vs) → ((a b : Assignment) → Solves a s → Solves b s → (n : ℕ) → Every (IsSameBelow a b n) vs → Every (IsSameBelow a b n) us) → Leads s us vs h h
leads_plain s us vs h over needed enough = record {
  over = over;
  needed = needed;
  enough = λ a b m n i g p e. enough a b m n i e;
  learnt = λ a b m n i g p e o. o;
  types_kept = λ k e. e;
  kinds_kept = λ k e. e;
  passed_kept = λ k e. e;
  types_only = λ k e. inl e;
  kinds_only = λ k e. inl e;
}

pub leads_base : (s : Table) (c : Base) (h : HeldVariables) → Leads s (base_term c ∷ []) [] h h
leads_base s c h = leads_plain s (base_term c ∷ []) [] h (λ o. tt) (λ a b m n e. tt) (λ a b m n i e. ((λ l. refl), tt))

list_same : (a b : Assignment) (t : Term) → list (meaning a t) ≡ list (meaning b t) → meaning a t ≡ meaning b t
list_same a b t e = cc

list_below : (a b : Assignment) (n : ℕ) (t : Term) → IsSameBelow a b n t → IsSameBelow a b n (list_term t)
list_below a b n t h l = ap list (h (omega arith))

pub leads_list : (s : Table) (t : Term) (h : HeldVariables) → Leads s (list_term t ∷ []) (t ∷ []) h h
leads_list s t h = leads_plain s (list_term t ∷ []) (t ∷ []) h (λ o. (o.0, tt)) (λ a b m n e. (list_same a b t e.0, tt)) (λ a b m n i e. (list_below a b i t e.0, tt))

tuple_same : (a b : Assignment) (ts : Terms) → tuple (meanings a ts) ≡ tuple (meanings b ts) → meanings a ts ≡ meanings b ts
tuple_same a b ts e = cc

parts_over : (s : Table) (ts : Terms) → IsOver s (tuple_term ts) → Every (IsOver s) (parts ts)
parts_over s no_terms h = tt
parts_over s (one_more t ts) h = (h.0, parts_over s ts h.1)

parts_same : (a b : Assignment) (ts : Terms) → meanings a ts ≡ meanings b ts → Every (IsSame a b) (parts ts)
parts_same a b no_terms e = tt
parts_same a b (one_more t ts) e = (
  (let d : meaning a t ≡ meaning b t = cc in d),
  parts_same a b ts (let d : meanings a ts ≡ meanings b ts = cc in d),
)

parts_below : (a b : Assignment) (n : ℕ) (ts : Terms) → Every (IsSameBelow a b n) (parts ts) → sizes (meanings a ts) < n → meanings a ts ≡ meanings b ts
parts_below a b n no_terms h l = refl
parts_below a b n (one_more t ts) h l = ap₂ and_more (h.0 (omega arith)) (parts_below a b n ts h.1 (omega arith))

tuple_below : (a b : Assignment) (n : ℕ) (ts : Terms) → Every (IsSameBelow a b n) (parts ts) → IsSameBelow a b n (tuple_term ts)
tuple_below a b n ts h l = ap tuple (parts_below a b n ts h (omega arith))

pub leads_tuple : (s : Table) (ts : Terms) (h : HeldVariables) → Leads s (tuple_term ts ∷ []) (parts ts) h h
leads_tuple s ts h =
    leads_plain s (tuple_term ts ∷ []) (parts ts) h (λ o. parts_over s ts o.0) (λ a b m n e. parts_same a b ts (tuple_same a b ts e.0)) (λ a b m n i e. (tuple_below a b i ts e, tt))

-- a kind

pub leads_kind : (s : Table) (kind : KindTerm) (types passed ks ks' : List ℕ) → AddsKind s kind ks ks' → Leads s (source_term kind ∷ []) [] (held types ks passed) (held types ks' passed)
leads_kind s kind types passed ks ks' d = record {
  over = λ o. tt;
  needed = λ a b m n e. tt;
  enough = λ a b m n i g p e. ((λ l. ap source (d.enough a b m n g.kinds)), tt);
  learnt = λ a b m n i g p e o. o;
  types_kept = λ k e. e;
  kinds_kept = d.kept;
  passed_kept = λ k e. e;
  types_only = λ k e. inl e;
  kinds_only = d.only;
}

source_same : (a b : Assignment) (k : KindTerm) → source (kind_meaning a k) ≡ source (kind_meaning b k) → kind_meaning a k ≡ kind_meaning b k
source_same a b k e = cc

-- the kind is a fixed one in the end
pub adds_none : (s : Table) (kind : KindTerm) (c : Kind) (ks : List ℕ) → ((a : Assignment) → Solves a s → kind_meaning a (Fixed c) ≡ kind_meaning a kind) → AddsKind s kind ks ks
adds_none s kind c ks same = record {
  kept = λ k e. e;
  only = λ k e. inl e;
  enough = λ a b m n e. sym (same a m) ∙ same b n;
}

-- or a variable
pub adds_variable : (s : Table) (kind : KindTerm) (x : ℕ) (ks ks' : List ℕ) → IsFreeKind s x → ((a : Assignment) → Solves a s → kind_meaning a (Var x) ≡ kind_meaning a kind) → Inserts x ks ks' → AddsKind s kind ks ks'
adds_variable s kind x ks ks' free same u = record {
  kept = inserted_kept x ks ks' u;
  only = λ k e. either (λ f. inr (there k f)) (λ f. inl f) (inserted_only x ks ks' u k e);
  enough = λ a b m n e. sym (same a m) ∙ e x (inserted_here x ks ks' u) ∙ same b n;
}
  where
    there : (k : ℕ) → k ≡ x → IsKindIn s (source_term kind ∷ []) k
    there k e = subst (λ j. IsKindIn s (source_term kind ∷ []) j) (sym e) (record {
      free = free;
      fixed = λ a b m n f. same a m ∙ source_same a b kind f.0 ∙ sym (same b n);
    })

-- a variable that is bound to nothing

pub leads_free : (s : Table) (x : ℕ) (xs xs' kinds passed : List ℕ) → IsFreeType s x → Inserts x xs xs' → Leads s (variable x ∷ []) [] (held xs kinds passed) (held xs' kinds passed)
leads_free s x xs xs' kinds passed free u = record {
  over = λ o. tt;
  needed = λ a b m n e. tt;
  enough = λ a b m n i g p e. ((λ l. g.types x (inserted_here x xs xs' u) (omega (arith, l))), tt);
  learnt = λ a b m n i g p e o. o;
  types_kept = inserted_kept x xs xs' u;
  kinds_kept = λ k e. e;
  passed_kept = λ k e. e;
  types_only = λ k e. either (λ f. inr (there k f)) (λ f. inl f) (inserted_only x xs xs' u k e);
  kinds_only = λ k e. inl e;
}
  where
    there : (k : ℕ) → k ≡ x → IsTypeIn s (variable x ∷ []) k
    there k e = subst (λ j. IsTypeIn s (variable x ∷ []) j) (sym e) (record { free = free; fixed = λ a b m n f. f.0 })

-- a variable that is bound

module _ (s : Table) (x : ℕ) (t : Term) (is : bound_at s.types x ≡ Some t) where
  bound_below : (a b : Assignment) → Solves a s → Solves b s → (n : ℕ) → IsSameBelow a b n t → IsSameBelow a b n (variable x)
  bound_below a b m k n h l = let z = ap size (m.types x t is) in m.types x t is ∙ h (omega (arith, z, l)) ∙ sym (k.types x t is)

  bound_same : (a b : Assignment) → Solves a s → Solves b s → Every (IsSame a b) (variable x ∷ []) → Every (IsSame a b) (t ∷ [])
  bound_same a b m k e = (sym (m.types x t is) ∙ e.0 ∙ k.types x t is, tt)

  -- it is not noted
  pub leads_through : (h : HeldVariables) → IsOver s t → Leads s (variable x ∷ []) (t ∷ []) h h
  leads_through h o = leads_plain s (variable x ∷ []) (t ∷ []) h (λ _. (o, tt)) bound_same (λ a b m k n e. (bound_below a b m k n e.0, tt))

  -- it is noted, since what it is bound to is larger than its parts
  module _ (types kinds ps ps' : List ℕ) (u : Inserts x ps ps') where
    noted : (a b : Assignment) → Solves a s → Solves b s → (n : ℕ) → extra t ≡ 1 → IsSameBelow a b n t → size (a.type_of x) < suc n → a.type_of x ≡ b.type_of x
    noted a b m k n one h l = let z = ap size (m.types x t is) in m.types x t is ∙ h (omega (arith, z, l, one)) ∙ sym (k.types x t is)

    noted_too : (a b : Assignment) → Solves a s → Solves b s → (n : ℕ) → extra t ≡ 1 → IsSameBelow a b n t → AgreeOnPassed (held types kinds ps) (suc n) a b → AgreeOnPassed (held types kinds ps') (suc n) a b
    noted_too a b m k n one h o j f =
        either (λ (q : j ≡ x). subst (λ i. size (a.type_of i) < suc n → a.type_of i ≡ b.type_of i) (sym q) (noted a b m k n one h)) (λ (q : is_held ps j ≡ true). o j q) (inserted_only x ps ps' u j f)

    pub leads_noted : IsOver s t → extra t ≡ 1 → Leads s (variable x ∷ []) (t ∷ []) (held types kinds ps) (held types kinds ps')
    leads_noted o one = record {
      over = λ _. (o, tt);
      needed = bound_same;
      enough = λ a b m k n g p e. (bound_below a b m k n e.0, tt);
      learnt = λ a b m k n g p e q. noted_too a b m k n one e.0 q;
      types_kept = λ k e. e;
      kinds_kept = λ k e. e;
      passed_kept = inserted_kept x ps ps' u;
      types_only = λ k e. inl e;
      kinds_only = λ k e. inl e;
    }

-- it was noted before
module _ (s : Table) (x : ℕ) (types kinds ps ps' : List ℕ) (u : Inserts x ps ps') (known : is_held ps x ≡ true) where
  known_too : (k : ℕ) → is_held ps' k ≡ true → is_held ps k ≡ true
  known_too k f = either (λ (q : k ≡ x). subst (λ j. is_held ps j ≡ true) (sym q) known) (λ (q : is_held ps k ≡ true). q) (inserted_only x ps ps' u k f)

  pub leads_known : Leads s (variable x ∷ []) [] (held types kinds ps) (held types kinds ps')
  leads_known = record {
    over = λ _. tt;
    needed = λ a b m k e. tt;
    enough = λ a b m k n g p e. ((λ l. p x (inserted_here x ps ps' u) (omega (arith, l))), tt);
    learnt = λ a b m k n g p e o j f. o j (known_too j f);
    types_kept = λ k e. e;
    kinds_kept = λ k e. e;
    passed_kept = inserted_kept x ps ps' u;
    types_only = λ k e. inl e;
    kinds_only = λ k e. inl e;
  }

pub known_before : (b c : Bool) → b ≡ not c → b ≡ false → c ≡ true
known_before b true e f = refl
known_before b false e f = absurd (let g : ◌≡◌ {A = Bool} true false = sym e ∙ f in cc)

-- the walk as a whole

pub agree_less : (h : HeldVariables) (a b : Assignment) (n m : ℕ) → n ≤ m → AgreeBelow h m a b → AgreeBelow h n a b
agree_less h a b n m l g = record { types = λ k e f. g.types k e (omega (arith, l, f)); kinds = g.kinds }

pub agree_below : (h : HeldVariables) (a b : Assignment) → AgreeOn h a b → (n : ℕ) → AgreeBelow h n a b
agree_below h a b g n = record { types = λ k e f. g.types k e; kinds = g.kinds }

all_same : (a b : Assignment) (ts : List Term) → ((n : ℕ) → Every (IsSameBelow a b n) ts) → Every (IsSame a b) ts
all_same a b [] h = tt
all_same a b (t ∷ ts) h = ((h (suc (size (meaning a t)))).0 (omega arith), all_same a b ts (λ n. (h n).1))

module _ (s : Table) (ts : List Term) (h h1 : HeldVariables) (l : Leads s ts [] h h1) (a b : Assignment) (m : Solves a s) (k : Solves b s) where
  below_before : (n : ℕ) → AgreeBelow h1 n a b → AgreeBelow h n a b
  below_before n g = record { types = λ j f. g.types j (l.types_kept j f); kinds = λ j f. g.kinds j (l.kinds_kept j f) }

  -- what was passed before may rest on the terms
  module _ (old : (n : ℕ) → AgreeBelow h n a b → Every (IsSameBelow a b n) ts → AgreeOnPassed h (suc n) a b) where
    behind_next : (n : ℕ) → AgreeBelow h1 n a b → AgreeOnPassed h1 n a b → AgreeOnPassed h1 (suc n) a b
    behind_next n g p = l.learnt a b m k n g p tt (old n (below_before n g) (l.enough a b m k n g p tt))

    pub behind_led : (n : ℕ) → AgreeBelow h1 n a b → AgreeOnPassed h1 (suc n) a b
    behind_led zero g = behind_next zero g (λ j e f. absurd (omega (arith, f)))
    behind_led (suc n) g = behind_next (suc n) g (behind_led n (agree_less h1 a b n (suc n) (omega arith) g))

    passed_below : (n : ℕ) → AgreeBelow h1 n a b → AgreeOnPassed h1 n a b
    passed_below zero g = λ j e f. absurd (omega (arith, f))
    passed_below (suc n) g = behind_led n (agree_less h1 a b n (suc n) (omega arith) g)

    pub all_led : AgreeOn h1 a b → Every (IsSame a b) ts
    all_led g = all_same a b ts (λ n. l.enough a b m k n (agree_below h1 a b g n) (passed_below n (agree_below h1 a b g n)) tt)
