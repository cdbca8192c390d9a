-- The bindings in the body of a def, each behind the ones before it.
use Rattle.std.proofs.Common.{◌≡◌, ◌∙◌, sym, ap, ap₂, subst, refl, ℕ, zero, suc, ◌+◌, ◌<◌, length, List, [], ◌∷◌, ◌++◌, map, take, drop, get_or, Bool}
use Rattle.std.proofs.lemmas.List.{map-append, take_more}
use Rattle.script_grammar.specs.Tree.{Tree, AnInner, AFull, Bind, Inner}
use Rattle.script_grammar.specs.View.{listed, view_inner}
use Rattle.script_grammar.specs.declared.tree.Inner.{Inner as ABinding}
use Rattle.type_terms.specs.Agrees.{Agrees, Follows}
use Rattle.type_terms.specs.Ground.{Ground, Assignment}
use Rattle.type_terms.specs.Table.{Table, Solves}
use Rattle.type_terms.specs.Term.{Term, meaning, variable}
use Rattle.typing_rules.specs.Scripts.{Places, Targets}
use Rattle.typing_rules.specs.Typing.{Has, InnersHave, Sight, TypesByToken, within}
use Rattle.type_steps.specs.Environment.{AreFound, AreTypesOver, Env, Found, IsEnvOver, Known, sight_under, types_under}
use Rattle.type_steps.specs.Flow.{HasNoType, Infers, Reached}
use Rattle.type_steps.proofs.Tables.{ends_with, follows_both, meaning_over, over_later, reach, seen_over}
use Rattle.type_steps.specs.Defs.{outside}
use Rattle.type_infer.specs.PartsOf.{HaveNoInners, InfersInners, TypesAs, with_inner}

-- ---- the types of bindings

abbrev pub Typed : Type 0
Typed = List (ℕ × Term)

pub typed_later : (s s' : Table) (us : Typed) → Follows s s' → AreTypesOver s us → AreTypesOver s' us
typed_later s s' [] f o = tt
typed_later s s' (u ∷ us) f o = (over_later s s' u.1 f o.0, typed_later s s' us f o.1)

typed_last : (s : Table) (us : Typed) (u : ℕ × Term) → AreTypesOver s us → AreTypesOver s (u ∷ []) → AreTypesOver s (us ++ u ∷ [])
typed_last s [] u o l = l
typed_last s (v ∷ us) u o l = (o.0, typed_last s us u o.1 l)

pub typed_over : (s : Table) (a b : Assignment) (us : Typed) → AreTypesOver s us → Agrees s a b → types_under a us ≡ types_under b us
typed_over s a b [] o g = refl
typed_over s a b (u ∷ us) o g = ap₂ (λ (t : Ground) (ts : TypesByToken). (u.0, t) ∷ ts) (meaning_over s a b u.1 o.0 g) (typed_over s a b us o.1 g)

under_last : (a : Assignment) (us : Typed) (at n : ℕ) → types_under a (us ++ (at, variable n) ∷ []) ≡ types_under a us ++ (at, a.type_of n) ∷ []
under_last a us at n = map-append (λ (x : ℕ × Term). (x.0, meaning a x.1)) us ((at, variable n) ∷ [])

-- ---- one more

have_last : (z : Sight) (is : List (Tree AnInner)) (at : ℕ) (name : List ℕ) (f : Tree AFull) (semicolon : Bool) (us vs : TypesByToken) (t : Ground) → InnersHave z (listed is) us vs → Has (within vs z) f t → InnersHave z (listed (is ++ Inner (Bind at name f) semicolon ∷ [])) us (vs ++ (at, t) ∷ [])
have_last z [] at name f semicolon us vs t h e = (t, subst (λ (w : TypesByToken). Has (within w z) f t) h e, ap (λ (w : TypesByToken). w ++ (at, t) ∷ []) h)
have_last z (Inner (Bind a n g) s ∷ is) at name f semicolon us vs t h e = (h.0, h.1, have_last z is at name f semicolon (us ++ (a, h.0) ∷ []) vs t h.2 e)

have_before : (z : Sight) (is : List (Tree AnInner)) (at : ℕ) (name : List ℕ) (f : Tree AFull) (semicolon : Bool) (us ws : TypesByToken) → InnersHave z (listed (is ++ Inner (Bind at name f) semicolon ∷ [])) us ws → (vs : TypesByToken) × (t : Ground) × (ws ≡ vs ++ (at, t) ∷ []) × InnersHave z (listed is) us vs × Has (within vs z) f t
have_before z [] at name f semicolon us ws h = (us, h.0, h.2, refl, h.1)
have_before z (Inner (Bind a n g) s ∷ is) at name f semicolon us ws h = with_rest (have_before z is at name f semicolon (us ++ (a, h.0) ∷ []) ws h.2) where
  with_rest : ((vs : TypesByToken) × (t : Ground) × (ws ≡ vs ++ (at, t) ∷ []) × InnersHave z (listed is) (us ++ (a, h.0) ∷ []) vs × Has (within vs z) f t) → (vs : TypesByToken) × (t : Ground) × (ws ≡ vs ++ (at, t) ∷ []) × InnersHave z (listed (Inner (Bind a n g) s ∷ is)) us vs × Has (within vs z) f t
  with_rest r = (r.0, r.1, r.2, (h.0, h.1, r.3), r.4)

module _ (s s1 : Table) (targets : Targets) (before : List Known) (is : List (Tree AnInner)) (at : ℕ) (name : List ℕ) (x : Tree AFull) (semicolon : Bool) (us vs : Typed) (old mid : List Found) (o : IsEnvOver s (outside targets before)) (f : InfersInners s s1 (outside targets before) (listed is) us vs old mid) where
  -- behind the bindings as they were found
  has_at : (a b : Assignment) (k : Places) (ws : TypesByToken) (t : Ground) → Agrees s a b → types_under b vs ≡ ws → Has (within ws (sight_under (outside targets before) a k)) x t → Has (sight_under (with_inner (outside targets before) vs) b k) x t
  has_at a b k ws t g same h =
      seen_over (λ z. Has (within (types_under b vs) z) x t) s (outside targets before) a b k o g
      (subst (λ (w : TypesByToken). Has (within w (sight_under (outside targets before) a k)) x t) (sym same) h)

  inners_last : (s2 : Table) (n : ℕ) (new : List Found) → Infers s1 s2 (with_inner (outside targets before) vs) x (variable n) mid new → InfersInners s s2 (outside targets before) (listed (is ++ Inner (Bind at name x) semicolon ∷ [])) us (vs ++ (at, variable n) ∷ []) old new
  inners_last s2 n new g = record {
    over = typed_last s2 vs (at, variable n) (typed_later s1 s2 vs g.follows f.over) (g.over, tt);
    uses = g.uses;
    follows = follows_both s s1 s2 f.follows g.follows;
    sound = λ a m k p. both a k (g.follows.solves a m) (g.sound a m k p);
    complete = λ a m k ts p q. reached a m k ts (have_before (sight_under (outside targets before) a k) is at name x semicolon (types_under a us) ts p) q;
  } where
    both : (a : Assignment) (k : Places) → Solves a s1 → Has (sight_under (with_inner (outside targets before) vs) a k) x (a.type_of n) × AreFound (outside targets before) a k mid →
        InnersHave (sight_under (outside targets before) a k) (listed (is ++ Inner (Bind at name x) semicolon ∷ [])) (types_under a us) (types_under a (vs ++ (at, variable n) ∷ [])) × AreFound (outside targets before) a k old
    both a k m1 w =
        let z = f.sound a m1 k w.1 in (
          subst (λ (ws : TypesByToken). InnersHave (sight_under (outside targets before) a k) (listed (is ++ Inner (Bind at name x) semicolon ∷ [])) (types_under a us) ws) (sym (under_last a vs at n))
              (have_last (sight_under (outside targets before) a k) is at name x semicolon (types_under a us) (types_under a vs) (a.type_of n) z.0 w.0),
          z.1,
        )

    reached : (a : Assignment) → Solves a s → (k : Places) (ts : TypesByToken) → ((ws : TypesByToken) × (t : Ground) × (ts ≡ ws ++ (at, t) ∷ []) × InnersHave (sight_under (outside targets before) a k) (listed is) (types_under a us) ws × Has (within ws (sight_under (outside targets before) a k)) x t) →
        AreFound (outside targets before) a k old → Reached s s2 a (TypesAs (outside targets before) k (vs ++ (at, variable n) ∷ []) ts new)
    reached a m k ts b q =
        reach f.follows (f.complete a m k b.0 b.3 q) (λ b1 m1 g1 p1.
        ends_with (g.complete b1 m1 k b.1 (has_at a b1 k b.0 b.1 g1 p1.0 b.4) p1.1) (λ b2 m2 g2 p2. (
          under_last b2 vs at n ∙ ap₂ (λ (ws : TypesByToken) (t : Ground). ws ++ (at, t) ∷ []) (sym (typed_over s1 b1 b2 vs f.over g2) ∙ p1.0) p2.0 ∙ sym b.2,
          p2.1,
        )))

  inners_last_none : HasNoType s1 (with_inner (outside targets before) vs) x mid → HaveNoInners s (outside targets before) (listed (is ++ Inner (Bind at name x) semicolon ∷ [])) us old
  inners_last_none n a m k ts p q = absent (have_before (sight_under (outside targets before) a k) is at name x semicolon (types_under a us) ts p) where
    absent : ((ws : TypesByToken) × (t : Ground) × (ts ≡ ws ++ (at, t) ∷ []) × InnersHave (sight_under (outside targets before) a k) (listed is) (types_under a us) ws × Has (within ws (sight_under (outside targets before) a k)) x t) → ⊥
    absent b = let r = f.complete a m k b.0 b.3 q in n r.at r.solves k b.1 (has_at a r.at k b.0 b.1 r.agrees r.holds.0 b.4) r.holds.1

inners_front_none : (s : Table) (env : Env) (is js : List (Tree AnInner)) (us : Typed) (old : List Found) → HaveNoInners s env (listed is) us old → HaveNoInners s env (listed (is ++ js)) us old
inners_front_none s env is js us old n a m k ts p q = let r = front (sight_under env a k) is (types_under a us) ts p in n a m k r.0 r.1 q where
  front : (z : Sight) (xs : List (Tree AnInner)) (vs ts : TypesByToken) → InnersHave z (listed (xs ++ js)) vs ts → (ws : TypesByToken) × InnersHave z (listed xs) vs ws
  front z [] vs ts h = (vs, refl)
  front z (Inner (Bind at name f) s ∷ xs) vs ts h = let r = front z xs (vs ++ (at, h.0) ∷ []) ts h.2 in (r.0, (h.0, h.1, r.1))

-- ---- the loop over them

next_taken : (xs : List ABinding) (i : ℕ) (x : ABinding) → i < length xs → x ≡ get_or xs i x → map view_inner (take (i + 1) xs) ≡ map view_inner (take i xs) ++ view_inner x ∷ []
next_taken xs i x lt is = ap (map view_inner) (take_more xs i x lt ∙ ap (λ y. take i xs ++ y ∷ []) (sym is)) ∙ map-append view_inner (take i xs) (x ∷ [])

halves : (n : ℕ) (xs : List ABinding) → map view_inner xs ≡ map view_inner (take n xs) ++ map view_inner (drop n xs)
halves zero xs = refl
halves (suc n) [] = refl
halves (suc n) (x ∷ xs) = ap (λ l. view_inner x ∷ l) (halves n xs)

module _ (xs : List ABinding) (i : ℕ) (x : ABinding) (lt : i < length xs) (is : x ≡ get_or xs i x) (at : ℕ) (name : List ℕ) (e : Tree AFull) (semicolon : Bool) (seen : view_inner x ≡ Inner (Bind at name e) semicolon)
    (s s1 : Table) (targets : Targets) (before : List Known) (us vs : Typed) (old mid : List Found) (o : IsEnvOver s (outside targets before)) (f : InfersInners s s1 (outside targets before) (listed (map view_inner (take i xs))) us vs old mid) where
  next_seen : map view_inner (take (i + 1) xs) ≡ map view_inner (take i xs) ++ Inner (Bind at name e) semicolon ∷ []
  next_seen = next_taken xs i x lt is ∙ ap (λ (y : Tree AnInner). map view_inner (take i xs) ++ y ∷ []) seen

  pub inners_next : (s2 : Table) (n : ℕ) (new : List Found) → Infers s1 s2 (with_inner (outside targets before) vs) e (variable n) mid new → InfersInners s s2 (outside targets before) (listed (map view_inner (take (i + 1) xs))) us (vs ++ (at, variable n) ∷ []) old new
  inners_next s2 n new g =
      subst (λ l. InfersInners s s2 (outside targets before) (listed l) us (vs ++ (at, variable n) ∷ []) old new) (sym next_seen)
      (inners_last s s1 targets before (map view_inner (take i xs)) at name e semicolon us vs old mid o f s2 n new g)

  pub inners_stop : HasNoType s1 (with_inner (outside targets before) vs) e mid → HaveNoInners s (outside targets before) (listed (map view_inner xs)) us old
  inners_stop h =
      subst (λ l. HaveNoInners s (outside targets before) (listed l) us old) (sym (halves (i + 1) xs))
      (inners_front_none s (outside targets before) (map view_inner (take (i + 1) xs)) (map view_inner (drop (i + 1) xs)) us old
      (subst (λ l. HaveNoInners s (outside targets before) (listed l) us old) (sym next_seen)
      (inners_last_none s s1 targets before (map view_inner (take i xs)) at name e semicolon us vs old mid o f h)))
