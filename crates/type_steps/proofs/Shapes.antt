-- The forms whose parts have other types than the whole.
use Rattle.std.proofs.Common.{◌≡◌, ◌∙◌, sym, ap, subst, ℕ, List, Bool, true, false}
use Rattle.std.specs.Prelude.{IsTrue}
use Rattle.script_grammar.specs.Tree.{Sort, Tree, Many, AFull, ASum, none, more, Compared, If, Listed}
use Rattle.script_grammar.specs.declared.tree.CompareOp.{CompareOp}
use Rattle.type_terms.specs.Ground.{Ground, Assignment, IsNumber, list}
use Rattle.type_terms.specs.Term.{Term, base_term, list_term, variable, meaning}
use Rattle.type_terms.specs.declared.ty.Base.TheVariants as base
use Rattle.type_terms.specs.Table.{Table, Solves}
use Rattle.type_terms.specs.Agrees.{Agrees, Follows, HasNewType}
use Rattle.typing_rules.specs.Typing.{Sight, Has, EachHas, truth}
use Rattle.typing_rules.specs.Scripts.{Places}
use Rattle.type_steps.specs.Environment.{Env, Found, AreFound, AreUsesOver, IsEnvOver, sight_under}
use Rattle.type_steps.specs.Flow.{Reached, FoundAs, Uses, Infers, HasNoType, InfersEach, HaveNoType, Restricts, Defines, Never}
use Rattle.type_steps.proofs.Tables.{over_later, follows_both, agrees_both, meaning_over, uses_later, env_later, seen_over, found_over, reach, arrive, ends, ends_with}

-- ---- `not`: the part's type is a fact

module _ {r q : Sort} (e : Tree r) (x : Tree q) (C : Ground → Type 0)
    (to : (z : Sight) (g : Ground) → Has z x g → C g → Has z e g)
    (back : (z : Sight) (g : Ground) → Has z e g → Has z x g × C g)
    (s s1 : Table) (env : Env) (u : Term) (old new : List Found) (o : IsEnvOver s env) where
  pub fact_infers : (s2 : Table) → Infers s s1 env x u old new → Restricts s1 s2 (λ a. C (meaning a u)) → Infers s s2 env e u old new
  fact_infers s2 f h = record {
    over = over_later s1 s2 u h.follows f.over;
    uses = uses_later s1 s2 new h.follows f.uses;
    follows = follows_both s s1 s2 f.follows h.follows;
    sound = λ a m k p. let w = f.sound a (h.follows.solves a m) k p in (to (sight_under env a k) (meaning a u) w.0 (h.sound a m), w.1);
    complete = λ a m k v p q. reached a m k v (back (sight_under env a k) v p) q;
  } where
    reached : (a : Assignment) → Solves a s → (k : Places) (v : Ground) → Has (sight_under env a k) x v × C v → AreFound env a k old → Reached s s2 a (FoundAs env k u v new)
    reached a m k v b q =
        reach f.follows (f.complete a m k v b.0 q) (λ b1 m1 g1 p1.
        ends (h.complete b1 m1 (subst C (sym p1.0) b.1)) (λ b2 m2 g2. (
          sym (meaning_over s1 b1 b2 u f.over g2) ∙ p1.0,
          found_over s1 env b1 b2 k new (env_later s s1 env f.follows o) f.uses g2 p1.1,
        )))

  pub fact_none : Infers s s1 env x u old new → Never s1 (λ a. C (meaning a u)) → HasNoType s env e old
  fact_none f n a m k v p q = absent (back (sight_under env a k) v p) where
    absent : Has (sight_under env a k) x v × C v → ⊥
    absent b = let r = f.complete a m k v b.0 q in n r.at r.solves (subst C (sym r.holds.0) b.1)

-- ---- a comparison

module _ (s s1 s2 : Table) (env : Env) (x y : Tree ASum) (at : ℕ) (op : CompareOp) (u : Term) (old mid new : List Found) (o : IsEnvOver s env)
    (f : Infers s s1 env x u old mid) (g : InfersEach s1 s2 env (more y none) u mid new) where
  both_sides : (a b : Assignment) (k : Places) (v : Ground) → Agrees s a b → meaning b u ≡ v → Has (sight_under env a k) y v → EachHas (sight_under env b k) (more y none) (meaning b u)
  both_sides a b k v agrees is h = subst (λ v. EachHas (sight_under env b k) (more y none) v) (sym is) (seen_over (λ z. EachHas z (more y none) v) s env a b k o agrees (h, tt))

  pub compared_infers : (s3 s4 : Table) (n : ℕ) → Restricts s2 s3 (λ a. IsNumber (meaning a u)) → Defines s3 s4 n (base_term base.Bool) → Infers s s4 env (Compared x at op y) (variable n) old new
  compared_infers s3 s4 n h d = record {
    over = d.inside;
    uses = uses_later s2 s4 new (follows_both s2 s3 s4 h.follows d.follows) g.uses;
    follows = follows_both s s2 s4 (follows_both s s1 s2 f.follows g.follows) (follows_both s2 s3 s4 h.follows d.follows);
    sound = λ a m k p.
        let m3 = d.follows.solves a m in
        let m2 = h.follows.solves a m3 in
        sides a k (d.sound a m) (h.sound a m3) (g.follows.solves a m2) (g.sound a m2 k p);
    complete = λ a m k v p q. reached a m k v p q;
  } where
    sides : (a : Assignment) (k : Places) → a.type_of n ≡ truth → IsNumber (meaning a u) → Solves a s1 → EachHas (sight_under env a k) (more y none) (meaning a u) × AreFound env a k mid → Has (sight_under env a k) (Compared x at op y) (a.type_of n) × AreFound env a k old
    sides a k is number m1 w = let z = f.sound a m1 k w.1 in ((is, (meaning a u, number, z.0, w.0.0)), z.1)

    reached : (a : Assignment) → Solves a s → (k : Places) (v : Ground) → Has (sight_under env a k) (Compared x at op y) v → AreFound env a k old → Reached s s4 a (FoundAs env k (variable n) v new)
    reached a m k v p q =
        reach f.follows (f.complete a m k p.1.0 p.1.2 q) (λ b1 m1 g1 p1.
        reach g.follows (g.complete b1 m1 k (both_sides a b1 k p.1.0 g1 p1.0 p.1.3) p1.1) (λ b2 m2 g2 p2.
        arrive h.follows (h.complete b2 m2 (subst IsNumber (sym p1.0 ∙ meaning_over s1 b1 b2 u f.over g2) p.1.1)) (λ b3 m3 g3.
        ends (d.complete b3 m3) (λ b4 m4 g4. (
          d.sound b4 m4 ∙ sym p.0,
          found_over s2 env b2 b4 k new (env_later s s2 env (follows_both s s1 s2 f.follows g.follows) o) g.uses (agrees_both s2 s3 b2 b3 b4 h.follows g3 g4) p2,
        )))))

  pub compared_never : Never s2 (λ a. IsNumber (meaning a u)) → HasNoType s env (Compared x at op y) old
  compared_never n a m k v p q = second (f.complete a m k p.1.0 p.1.2 q) where
    third : (b : Assignment) → meaning b u ≡ p.1.0 → (Reached s1 s2 b (Uses env k new)) → ⊥
    third b is r = n r.at r.solves (subst IsNumber (sym is ∙ meaning_over s1 b r.at u f.over r.agrees) p.1.1)

    second : (Reached s s1 a (FoundAs env k u p.1.0 mid)) → ⊥
    second r = third r.at r.holds.0 (g.complete r.at r.solves k (both_sides a r.at k p.1.0 r.agrees r.holds.0 p.1.3) r.holds.1)

pub compared_first : (s : Table) (env : Env) (x y : Tree ASum) (at : ℕ) (op : CompareOp) (old : List Found) → HasNoType s env x old → HasNoType s env (Compared x at op y) old
compared_first s env x y at op old n a m k v p q = n a m k p.1.0 p.1.2 q

pub compared_second : (s s1 : Table) (env : Env) (x y : Tree ASum) (at : ℕ) (op : CompareOp) (u : Term) (old mid : List Found) → IsEnvOver s env → Infers s s1 env x u old mid → HaveNoType s1 env (more y none) u mid → HasNoType s env (Compared x at op y) old
compared_second s s1 env x y at op u old mid o f n a m k v p q = absent (f.complete a m k p.1.0 p.1.2 q) where
  absent : (Reached s s1 a (FoundAs env k u p.1.0 mid)) → ⊥
  absent r = n r.at r.solves k (subst (λ v. EachHas (sight_under env r.at k) (more y none) v) (sym r.holds.0) (seen_over (λ z. EachHas z (more y none) p.1.0) s env a r.at k o r.agrees (p.1.3, tt))) r.holds.1

-- ---- a choice

module _ (s s1 s2 s3 : Table) (env : Env) (at : ℕ) (c x y : Tree AFull) (t u : Term) (old f1 f2 : List Found) (o : IsEnvOver s env)
    (f : Infers s s1 env c t old f1) (h : Restricts s1 s2 (λ a. meaning a t ≡ truth)) (g : Infers s2 s3 env x u f1 f2) where
  to_second : Follows s s2
  to_second = follows_both s s1 s2 f.follows h.follows

  -- behind the condition
  behind : (a : Assignment) → Solves a s → (k : Places) → Has (sight_under env a k) c truth → AreFound env a k old → Reached s s2 a (Uses env k f1)
  behind a m k p q =
      reach f.follows (f.complete a m k truth p q) (λ b1 m1 g1 p1.
      ends (h.complete b1 m1 p1.0) (λ b2 m2 g2. found_over s1 env b1 b2 k f1 (env_later s s1 env f.follows o) f.uses g2 p1.1))

  -- behind the first branch
  chosen : (a : Assignment) → Solves a s → (k : Places) (v : Ground) → Has (sight_under env a k) c truth → Has (sight_under env a k) x v → AreFound env a k old → Reached s s3 a (FoundAs env k u v f2)
  chosen a m k v p h q =
      reach to_second (behind a m k p q) (λ b1 m1 g1 p1. g.complete b1 m1 k v (seen_over (λ z. Has z x v) s env a b1 k o g1 h) p1)

  other_at : (a b : Assignment) (k : Places) (v : Ground) → Agrees s a b → meaning b u ≡ v → Has (sight_under env a k) y v → EachHas (sight_under env b k) (more y none) (meaning b u)
  other_at a b k v agrees is h = subst (λ v. EachHas (sight_under env b k) (more y none) v) (sym is) (seen_over (λ z. EachHas z (more y none) v) s env a b k o agrees (h, tt))

  pub choice_infers : (s4 : Table) (new : List Found) → InfersEach s3 s4 env (more y none) u f2 new → Infers s s4 env (If at c x y) u old new
  choice_infers s4 new j = record {
    over = over_later s3 s4 u j.follows g.over;
    uses = j.uses;
    follows = follows_both s s3 s4 (follows_both s s2 s3 to_second g.follows) j.follows;
    sound = λ a m k p. let m3 = j.follows.solves a m in branches a k m3 (j.sound a m k p);
    complete = λ a m k v p q.
        reach (follows_both s s2 s3 to_second g.follows) (chosen a m k v p.0 p.1 q) (λ b1 m1 g1 p1.
        ends_with (j.complete b1 m1 k (other_at a b1 k v g1 p1.0 p.2) p1.1) (λ b2 m2 g2 p2. (sym (meaning_over s3 b1 b2 u g.over g2) ∙ p1.0, p2)));
  } where
    condition : (a : Assignment) (k : Places) → Solves a s2 → AreFound env a k f1 → Has (sight_under env a k) c truth × AreFound env a k old
    condition a k m2 p = let w = f.sound a (h.follows.solves a m2) k p in (subst (λ v. Has (sight_under env a k) c v) (h.sound a m2) w.0, w.1)

    both : (a : Assignment) (k : Places) → Has (sight_under env a k) y (meaning a u) → Has (sight_under env a k) x (meaning a u) → Has (sight_under env a k) c truth × AreFound env a k old → Has (sight_under env a k) (If at c x y) (meaning a u) × AreFound env a k old
    both a k hy hx w = ((w.0, hx, hy), w.1)

    branches : (a : Assignment) (k : Places) → Solves a s3 → EachHas (sight_under env a k) (more y none) (meaning a u) × AreFound env a k f2 → Has (sight_under env a k) (If at c x y) (meaning a u) × AreFound env a k old
    branches a k m3 w = let z = g.sound a m3 k w.1 in both a k w.0.0 z.0 (condition a k (g.follows.solves a m3) z.1)

  pub choice_other : HaveNoType s3 env (more y none) u f2 → HasNoType s env (If at c x y) old
  choice_other n a m k v p q = absent (chosen a m k v p.0 p.1 q) where
    absent : (Reached s s3 a (FoundAs env k u v f2)) → ⊥
    absent r = n r.at r.solves k (other_at a r.at k v r.agrees r.holds.0 p.2) r.holds.1

pub choice_condition : (s : Table) (env : Env) (at : ℕ) (c x y : Tree AFull) (old : List Found) → HasNoType s env c old → HasNoType s env (If at c x y) old
choice_condition s env at c x y old n a m k v p q = n a m k truth p.0 q

pub choice_untrue : (s s1 : Table) (env : Env) (at : ℕ) (c x y : Tree AFull) (t : Term) (old f1 : List Found) → Infers s s1 env c t old f1 → Never s1 (λ a. meaning a t ≡ truth) → HasNoType s env (If at c x y) old
choice_untrue s s1 env at c x y t old f1 f n a m k v p q = let r = f.complete a m k truth p.0 q in n r.at r.solves r.holds.0

pub choice_first : (s s1 s2 : Table) (env : Env) (at : ℕ) (c x y : Tree AFull) (t : Term) (old f1 : List Found) → IsEnvOver s env → Infers s s1 env c t old f1 → Restricts s1 s2 (λ a. meaning a t ≡ truth) → HasNoType s2 env x f1 → HasNoType s env (If at c x y) old
choice_first s s1 s2 env at c x y t old f1 o f h n a m k v p q = second (f.complete a m k truth p.0 q) where
  third : (b : Assignment) → Agrees s a b → AreFound env b k f1 → ((c : Assignment) × Solves c s2 × Agrees s1 b c) → ⊥
  third b g fs r = n r.0 r.1 k v (seen_over (λ z. Has z x v) s env a r.0 k o (agrees_both s s1 a b r.0 f.follows g r.2) p.1) (found_over s1 env b r.0 k f1 (env_later s s1 env f.follows o) f.uses r.2 fs)

  second : (Reached s s1 a (FoundAs env k t truth f1)) → ⊥
  second r = third r.at r.agrees r.holds.1 (h.complete r.at r.solves r.holds.0)

-- ---- a list

module _ (s s1 : Table) (env : Env) (at : ℕ) (parts : Tree (Many AFull)) (n : ℕ) (old : List Found) (o : IsEnvOver s env) (us : AreUsesOver s old) (f : HasNewType s s1 (IsTrue false) n) where
  -- with any type for the new variable
  abbrev BegunAs : Places → Ground → Assignment → Type 0
  BegunAs k t b = (b.type_of n ≡ t) × EachHas (sight_under env b k) parts (b.type_of n) × AreFound env b k old

  begun : (a : Assignment) → Solves a s → (k : Places) (t : Ground) → EachHas (sight_under env a k) parts t → AreFound env a k old → Reached s s1 a (BegunAs k t)
  begun a m k t p q = with_parts (f.each a m t (λ b. absurd (let c : ◌≡◌ {A = Bool} false true = b in cc))) where
    with_parts : ((b : Assignment) × Solves b s1 × Agrees s a b × (b.type_of n ≡ t)) → Reached s s1 a (BegunAs k t)
    with_parts r = record { at = r.0; solves = r.1; agrees = r.2; holds = (r.3, subst (λ v. EachHas (sight_under env r.0 k) parts v) (sym r.3) (seen_over (λ z. EachHas z parts t) s env a r.0 k o r.2 p), found_over s env a r.0 k old o us r.2 q) }

  pub list_infers : (s2 s3 : Table) (w : ℕ) (new : List Found) → InfersEach s1 s2 env parts (variable n) old new → Defines s2 s3 w (list_term (variable n)) → Infers s s3 env (Listed at parts) (variable w) old new
  list_infers s2 s3 w new g d = record {
    over = d.inside;
    uses = uses_later s2 s3 new d.follows g.uses;
    follows = follows_both s s1 s3 f.follows (follows_both s1 s2 s3 g.follows d.follows);
    sound = λ a m k p. let z = g.sound a (d.follows.solves a m) k p in ((a.type_of n, d.sound a m, z.0), z.1);
    complete = λ a m k v p q.
        reach f.follows (begun a m k p.0 p.2 q) (λ b1 m1 g1 p1.
        reach g.follows (g.complete b1 m1 k p1.1 p1.2) (λ b2 m2 g2 p2.
        ends (d.complete b2 m2) (λ b3 m3 g3. (
          d.sound b3 m3 ∙ ap list (sym (meaning_over s1 b1 b3 (variable n) f.inside (agrees_both s1 s2 b1 b2 b3 g.follows g2 g3)) ∙ p1.0) ∙ sym p.1,
          found_over s2 env b2 b3 k new (env_later s s2 env (follows_both s s1 s2 f.follows g.follows) o) g.uses g3 p2,
        ))));
  }

  pub list_none : HaveNoType s1 env parts (variable n) old → HasNoType s env (Listed at parts) old
  list_none h a m k v p q = absent (begun a m k p.0 p.2 q) where
    absent : Reached s s1 a (BegunAs k p.0) → ⊥
    absent r = h r.at r.solves k r.holds.1 r.holds.2
