-- Each form of expression: what is found is exactly what the form may have.
use Rattle.std.proofs.Common.{◌≡◌, ◌∙◌, sym, subst, List, [], ◌∷◌, ◌++◌}
use Rattle.script_grammar.specs.View.{listed}
use Rattle.script_grammar.specs.Tree.{Sort, Tree, Many, none, more}
use Rattle.type_terms.specs.Ground.{Ground, Assignment}
use Rattle.type_terms.specs.Term.{Term, meaning}
use Rattle.type_terms.specs.Table.{Table, Solves, IsOver}
use Rattle.type_terms.specs.Agrees.{Agrees, Follows}
use Rattle.typing_rules.specs.Typing.{Sight, Has, EachHas, IfAny}
use Rattle.typing_rules.specs.Scripts.{Places}
use Rattle.type_steps.specs.Environment.{Env, Found, AreFound, AreUsesOver, IsEnvOver, sight_under}
use Rattle.type_steps.specs.Flow.{Reached, FoundAs, Uses, Infers, HasNoType, InfersEach, HaveNoType, Restricts, Never}
use Rattle.type_steps.proofs.Tables.{over_later, follows_same, follows_both, meaning_over, uses_later, env_later, seen_over, found_over, reach, ends, stay}

-- ---- a tree that has the same types as another

module _ {r r' : Sort} (e : Tree r) (e' : Tree r') (to : (z : Sight) (g : Ground) → Has z e g → Has z e' g) (back : (z : Sight) (g : Ground) → Has z e' g → Has z e g) where
  pub infers_as : (s s' : Table) (env : Env) (u : Term) (old new : List Found) → Infers s s' env e u old new → Infers s s' env e' u old new
  infers_as s s' env u old new f = record {
    over = f.over;
    uses = f.uses;
    follows = f.follows;
    sound = λ a m k p. let x = f.sound a m k p in (to (sight_under env a k) (meaning a u) x.0, x.1);
    complete = λ a m k g h p. f.complete a m k g (back (sight_under env a k) g h) p;
  }

  pub none_as : (s : Table) (env : Env) (old : List Found) → HasNoType s env e old → HasNoType s env e' old
  none_as s env old n a m k g h p = n a m k g (back (sight_under env a k) g h) p

-- ---- a type that is known without looking further

pub known_infers : {r : Sort} (s s' : Table) (env : Env) (e : Tree r) (u : Term) (v : Ground) (fs : List Found) → ((z : Sight) → Has z e v) → ((z : Sight) (g : Ground) → Has z e g → g ≡ v) → IsEnvOver s env → AreUsesOver s fs →
    IsOver s' u → Follows s s' → ((a : Assignment) → Solves a s' → meaning a u ≡ v) → ((a : Assignment) → Solves a s → (b : Assignment) × Solves b s' × Agrees s a b) → Infers s s' env e u fs fs
known_infers s s' env e u v fs has only o us over follows sound complete = record {
  over = over;
  uses = uses_later s s' fs follows us;
  follows = follows;
  sound = λ a m k p. (subst (λ g. Has (sight_under env a k) e g) (sym (sound a m)) (has (sight_under env a k)), p);
  complete = λ a m k g h p.
      ends (complete a m) (λ b m2 g2. (sound b m2 ∙ sym (only (sight_under env a k) g h), found_over s env a b k fs o us g2 p));
}

-- ---- a first part, others of the same type, and a fact of the type where there are others

module _ {r q t : Sort} (e : Tree r) (x : Tree q) (xs : Tree (Many t)) (C : Ground → Type 0)
    (to : (z : Sight) (g : Ground) → Has z x g → EachHas z xs g → IfAny xs (C g) → Has z e g)
    (back : (z : Sight) (g : Ground) → Has z e g → Has z x g × EachHas z xs g × IfAny xs (C g))
    (s s1 : Table) (env : Env) (u : Term) (old mid : List Found) (o : IsEnvOver s env) where
  -- the first part and the others
  others_at : (a b : Assignment) (k : Places) (v : Ground) → Agrees s a b → meaning b u ≡ v → EachHas (sight_under env a k) xs v → EachHas (sight_under env b k) xs (meaning b u)
  others_at a b k v g is h = subst (λ v. EachHas (sight_under env b k) xs v) (sym is) (seen_over (λ z. EachHas z xs v) s env a b k o g h)

  fact_at : (b c : Assignment) (v : Ground) → IsOver s1 u → Agrees s1 b c → meaning b u ≡ v → IfAny xs (C v) → (meaning c u ≡ v) × IfAny xs (C (meaning c u))
  fact_at b c v over g is h = let e : meaning c u ≡ v = sym (meaning_over s1 b c u over g) ∙ is in (e, subst (λ v. IfAny xs (C v)) (sym e) h)

  pub chain_infers : (s2 s3 : Table) (new : List Found) → Infers s s1 env x u old mid → InfersEach s1 s2 env xs u mid new → Restricts s2 s3 (λ a. IfAny xs (C (meaning a u))) → Infers s s3 env e u old new
  chain_infers s2 s3 new f g h = record {
    over = over_later s1 s3 u (follows_both s1 s2 s3 g.follows h.follows) f.over;
    uses = uses_later s2 s3 new h.follows g.uses;
    follows = follows_both s s1 s3 f.follows (follows_both s1 s2 s3 g.follows h.follows);
    sound = λ a m k p. parts_sound a k (h.sound a m) (g.follows.solves a (h.follows.solves a m)) (g.sound a (h.follows.solves a m) k p);
    complete = λ a m k v p q. reached a m k v (back (sight_under env a k) v p) q;
  } where
    parts_sound : (a : Assignment) (k : Places) → IfAny xs (C (meaning a u)) → Solves a s1 → EachHas (sight_under env a k) xs (meaning a u) × AreFound env a k mid → Has (sight_under env a k) e (meaning a u) × AreFound env a k old
    parts_sound a k c m1 y = let w = f.sound a m1 k y.1 in (to (sight_under env a k) (meaning a u) w.0 y.0 c, w.1)

    reached : (a : Assignment) → Solves a s → (k : Places) (v : Ground) → Has (sight_under env a k) x v × EachHas (sight_under env a k) xs v × IfAny xs (C v) → AreFound env a k old → Reached s s3 a (FoundAs env k u v new)
    reached a m k v b q =
        reach f.follows (f.complete a m k v b.0 q) (λ b1 m1 g1 p1.
        reach g.follows (g.complete b1 m1 k (others_at a b1 k v g1 p1.0 b.1) p1.1) (λ b2 m2 g2 p2.
        let x = fact_at b1 b2 v f.over g2 p1.0 b.2 in
        ends (h.complete b2 m2 x.1) (λ b3 m3 g3. (
          sym (meaning_over s2 b2 b3 u (over_later s1 s2 u g.follows f.over) g3) ∙ x.0,
          found_over s2 env b2 b3 k new (env_later s s2 env (follows_both s s1 s2 f.follows g.follows) o) g.uses g3 p2,
        ))))

  pub chain_others : Infers s s1 env x u old mid → HaveNoType s1 env xs u mid → HasNoType s env e old
  chain_others f n a m k v p q = absent (back (sight_under env a k) v p) (f.complete a m k v (back (sight_under env a k) v p).0 q) where
    absent : Has (sight_under env a k) x v × EachHas (sight_under env a k) xs v × IfAny xs (C v) → (Reached s s1 a (FoundAs env k u v mid)) → ⊥
    absent b r = n r.at r.solves k (others_at a r.at k v r.agrees r.holds.0 b.1) r.holds.1

  pub chain_fact : (s2 : Table) (new : List Found) → Infers s s1 env x u old mid → InfersEach s1 s2 env xs u mid new → Never s2 (λ a. IfAny xs (C (meaning a u))) → HasNoType s env e old
  chain_fact s2 new f g n a m k v p q = absent (back (sight_under env a k) v p) (f.complete a m k v (back (sight_under env a k) v p).0 q) where
    later : (b : Assignment) → IfAny xs (C v) → meaning b u ≡ v → (Reached s1 s2 b (Uses env k new)) → ⊥
    later b c is r = n r.at r.solves (fact_at b r.at v f.over r.agrees is c).1

    absent : Has (sight_under env a k) x v × EachHas (sight_under env a k) xs v × IfAny xs (C v) → (Reached s s1 a (FoundAs env k u v mid)) → ⊥
    absent b r = later r.at b.2 r.holds.0 (g.complete r.at r.solves k (others_at a r.at k v r.agrees r.holds.0 b.1) r.holds.1)

-- ---- several of one type

pub each_none : {t : Sort} (s : Table) (env : Env) (u : Term) (fs : List Found) → AreUsesOver s fs → InfersEach s s env {r = t} none u fs fs
each_none s env u fs o = record {
  uses = o;
  follows = follows_same s;
  sound = λ a m k p. (tt, p);
  complete = λ a m k h p. stay m p;
}

each_last : {t : Sort} (z : Sight) (ts : List (Tree t)) (x : Tree t) (g : Ground) → EachHas z (listed ts) g → Has z x g → EachHas z (listed (ts ++ x ∷ [])) g
each_last z [] x g h e = (e, tt)
each_last z (y ∷ ts) x g h e = (h.0, each_last z ts x g h.1 e)

each_before : {t : Sort} (z : Sight) (ts : List (Tree t)) (x : Tree t) (g : Ground) → EachHas z (listed (ts ++ x ∷ [])) g → EachHas z (listed ts) g × Has z x g
each_before z [] x g h = (tt, h.0)
each_before z (y ∷ ts) x g h = let r = each_before z ts x g h.1 in ((h.0, r.0), r.1)

module _ {t : Sort} (s s1 : Table) (env : Env) (ts : List (Tree t)) (x : Tree t) (u : Term) (old mid : List Found) (o : IsEnvOver s env) (over : IsOver s u) where
  one_at : (a b : Assignment) (k : Places) → Agrees s a b → Has (sight_under env a k) x (meaning a u) → Has (sight_under env b k) x (meaning b u)
  one_at a b k g h = subst (λ v. Has (sight_under env b k) x v) (meaning_over s a b u over g) (seen_over (λ z. Has z x (meaning a u)) s env a b k o g h)

  pub each_last_infers : (s2 s3 : Table) (w : Term) (new : List Found) → InfersEach s s1 env (listed ts) u old mid → Infers s1 s2 env x w mid new → Restricts s2 s3 (λ a. meaning a u ≡ meaning a w) → InfersEach s s3 env (listed (ts ++ x ∷ [])) u old new
  each_last_infers s2 s3 w new f g h = record {
    uses = uses_later s2 s3 new h.follows g.uses;
    follows = follows_both s s1 s3 f.follows (follows_both s1 s2 s3 g.follows h.follows);
    sound = λ a m k p. parts_sound a k (h.sound a m) (g.follows.solves a (h.follows.solves a m)) (g.sound a (h.follows.solves a m) k p);
    complete = λ a m k p q. reached a m k (each_before (sight_under env a k) ts x (meaning a u) p) q;
  } where
    parts_sound : (a : Assignment) (k : Places) → meaning a u ≡ meaning a w → Solves a s1 → Has (sight_under env a k) x (meaning a w) × AreFound env a k mid → EachHas (sight_under env a k) (listed (ts ++ x ∷ [])) (meaning a u) × AreFound env a k old
    parts_sound a k e m1 y =
        let z = f.sound a m1 k y.1 in
        (each_last (sight_under env a k) ts x (meaning a u) z.0 (subst (λ v. Has (sight_under env a k) x v) (sym e) y.0), z.1)

    reached : (a : Assignment) → Solves a s → (k : Places) → EachHas (sight_under env a k) (listed ts) (meaning a u) × Has (sight_under env a k) x (meaning a u) → AreFound env a k old → Reached s s3 a (Uses env k new)
    reached a m k b q =
        reach f.follows (f.complete a m k b.0 q) (λ b1 m1 g1 p1.
        reach g.follows (g.complete b1 m1 k (meaning b1 u) (one_at a b1 k g1 b.1) p1) (λ b2 m2 g2 p2.
        let is : meaning b2 u ≡ meaning b2 w = sym (meaning_over s1 b1 b2 u (over_later s s1 u f.follows over) g2) ∙ sym p2.0 in
        ends (h.complete b2 m2 is) (λ b3 m3 g3. found_over s2 env b2 b3 k new (env_later s s2 env (follows_both s s1 s2 f.follows g.follows) o) g.uses g3 p2.1)))

  pub each_last_differs : (s2 : Table) (w : Term) (new : List Found) → InfersEach s s1 env (listed ts) u old mid → Infers s1 s2 env x w mid new → Never s2 (λ a. meaning a u ≡ meaning a w) → HaveNoType s env (listed (ts ++ x ∷ [])) u old
  each_last_differs s2 w new f g n a m k p q = absent (each_before (sight_under env a k) ts x (meaning a u) p) where
    later : (b : Assignment) → (Reached s1 s2 b (FoundAs env k w (meaning b u) new)) → ⊥
    later b r = n r.at r.solves (sym (meaning_over s1 b r.at u (over_later s s1 u f.follows over) r.agrees) ∙ sym r.holds.0)

    absent : EachHas (sight_under env a k) (listed ts) (meaning a u) × Has (sight_under env a k) x (meaning a u) → ⊥
    absent b = let r = f.complete a m k b.0 q in later r.at (g.complete r.at r.solves k (meaning r.at u) (one_at a r.at k r.agrees b.1) r.holds)

-- where a prefix has no type the whole has none
pub prefix_none : {t : Sort} (s : Table) (env : Env) (ts us : List (Tree t)) (u : Term) (old : List Found) → HaveNoType s env (listed ts) u old → HaveNoType s env (listed (ts ++ us)) u old
prefix_none s env ts us u old n a m k p q = n a m k (each_front (sight_under env a k) ts (meaning a u) p) q where
  each_front : (z : Sight) (vs : List (Tree _)) (g : Ground) → EachHas z (listed (vs ++ us)) g → EachHas z (listed vs) g
  each_front z [] g h = tt
  each_front z (v ∷ vs) g h = (h.0, each_front z vs g h.1)

-- ---- several of one type, one after another

pub one_joined : {t : Sort} (s s1 s2 : Table) (env : Env) (x : Tree t) (u w : Term) (old new : List Found) → IsEnvOver s env → AreUsesOver s old → IsOver s u → Infers s s1 env x w old new → Restricts s1 s2 (λ a. meaning a u ≡ meaning a w) → InfersEach s s2 env (more x none) u old new
one_joined s s1 s2 env x u w old new o us over f h = each_last_infers s s env [] x u old old o over s1 s2 w new (each_none s env u old us) f h

pub one_none : {t : Sort} (s : Table) (env : Env) (x : Tree t) (u : Term) (old : List Found) → HasNoType s env x old → HaveNoType s env (more x none) u old
one_none s env x u old n a m k p q = n a m k (meaning a u) p.0 q

pub one_differs : {t : Sort} (s s1 : Table) (env : Env) (x : Tree t) (u w : Term) (old new : List Found) → IsEnvOver s env → AreUsesOver s old → IsOver s u → Infers s s1 env x w old new → Never s1 (λ a. meaning a u ≡ meaning a w) → HaveNoType s env (more x none) u old
one_differs s s1 env x u w old new o us over f n = each_last_differs s s env [] x u old old o over s1 w new (each_none s env u old us) f n

module _ {t : Sort} (s s1 : Table) (env : Env) (ts : List (Tree t)) (x : Tree t) (u : Term) (old mid : List Found) (o : IsEnvOver s env) (over : IsOver s u) (f : InfersEach s s1 env (listed ts) u old mid) where
  same_at : (a b : Assignment) (k : Places) → Agrees s a b → Has (sight_under env a k) x (meaning a u) → EachHas (sight_under env b k) (more x none) (meaning b u)
  same_at a b k g h = (subst (λ v. Has (sight_under env b k) x v) (meaning_over s a b u over g) (seen_over (λ z. Has z x (meaning a u)) s env a b k o g h), tt)

  pub each_joined : (s2 : Table) (new : List Found) → InfersEach s1 s2 env (more x none) u mid new → InfersEach s s2 env (listed (ts ++ x ∷ [])) u old new
  each_joined s2 new g = record {
    uses = g.uses;
    follows = follows_both s s1 s2 f.follows g.follows;
    sound = λ a m k p. parts_sound a k (g.follows.solves a m) (g.sound a m k p);
    complete = λ a m k p q. reached a m k (each_before (sight_under env a k) ts x (meaning a u) p) q;
  } where
    parts_sound : (a : Assignment) (k : Places) → Solves a s1 → EachHas (sight_under env a k) (more x none) (meaning a u) × AreFound env a k mid → EachHas (sight_under env a k) (listed (ts ++ x ∷ [])) (meaning a u) × AreFound env a k old
    parts_sound a k m1 y = let z = f.sound a m1 k y.1 in (each_last (sight_under env a k) ts x (meaning a u) z.0 y.0.0, z.1)

    reached : (a : Assignment) → Solves a s → (k : Places) → EachHas (sight_under env a k) (listed ts) (meaning a u) × Has (sight_under env a k) x (meaning a u) → AreFound env a k old → Reached s s2 a (Uses env k new)
    reached a m k b q = reach f.follows (f.complete a m k b.0 q) (λ b1 m1 g1 p1. g.complete b1 m1 k (same_at a b1 k g1 b.1) p1)

  pub each_joined_none : HaveNoType s1 env (more x none) u mid → HaveNoType s env (listed (ts ++ x ∷ [])) u old
  each_joined_none n a m k p q = absent (each_before (sight_under env a k) ts x (meaning a u) p) where
    absent : EachHas (sight_under env a k) (listed ts) (meaning a u) × Has (sight_under env a k) x (meaning a u) → ⊥
    absent b = let r = f.complete a m k b.0 q in n r.at r.solves k (same_at a r.at k r.agrees b.1) r.holds
