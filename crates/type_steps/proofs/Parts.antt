-- Several parts, each of its own type: those of a tuple, and the arguments of a call.
use Rattle.std.proofs.Common.{◌≡◌, ◌∙◌, sym, ap, ap₂, subst, refl, ℕ, ◌<◌, length, List, [], ◌∷◌, ◌++◌, Option}
use Rattle.std.proofs.lemmas.List.{map-append}
use Rattle.script_grammar.specs.View.{listed}
use Rattle.script_grammar.specs.Tree.{Tree, Many, AFull, AnArg, none, more, Tuple, Arg}
use Rattle.type_terms.specs.Ground.{Ground, Grounds, Assignment, base_type, tuple, no_more}
use Rattle.type_terms.specs.Ground as ground
use Rattle.type_terms.specs.Term.{Term, Terms, tuple_term, variable, no_terms, one_more, terms_of, meaning, meanings}
use Rattle.type_terms.specs.Table.{Table, Solves, IsOver}
use Rattle.type_terms.specs.Agrees.{Agrees, Follows}
use Rattle.typing_rules.specs.Arguments.{GivenArgument}
use Rattle.typing_rules.specs.Typing.{Sight, Has, HaveAll, AreGiven}
use Rattle.typing_rules.specs.Scripts.{Places}
use Rattle.type_steps.specs.Environment.{Env, Found, AreFound, AreUsesOver, IsEnvOver, sight_under}
use Rattle.type_steps.specs.Flow.{Reached, AllAs, GivenAs, Infers, HasNoType, InfersAll, HaveNoTypes, InfersGiven, HaveNoGiven, AreInside, Defines, given_under}
use Rattle.type_steps.proofs.Tables.{over_later, follows_same, follows_both, meaning_over, uses_later, env_later, seen_over, found_over, reach, ends, ends_with, stay}

-- ---- one more of a tuple's parts

abbrev pub last_ground : Grounds → Ground → Grounds
last_ground no_more g = ground.and_more g no_more
last_ground (ground.and_more h hs) g = ground.and_more h (last_ground hs g)

abbrev pub last_term : Terms → Term → Terms
last_term no_terms t = one_more t no_terms
last_term (one_more u us) t = one_more u (last_term us t)

pub terms_last : (ts : List Term) (t : Term) → terms_of (ts ++ t ∷ []) ≡ last_term (terms_of ts) t
terms_last [] t = refl
terms_last (u ∷ us) t = ap (one_more u) (terms_last us t)

meanings_last : (a : Assignment) (us : Terms) (t : Term) → meanings a (last_term us t) ≡ last_ground (meanings a us) (meaning a t)
meanings_last a no_terms t = refl
meanings_last a (one_more u us) t = ap (ground.and_more (meaning a u)) (meanings_last a us t)

over_last : (s : Table) (us : Terms) (t : Term) → IsOver s (tuple_term us) → IsOver s t → IsOver s (tuple_term (last_term us t))
over_last s no_terms t o h = (h, tt)
over_last s (one_more u us) t o h = (o.0, over_last s us t o.1 h)

all_last : (z : Sight) (ts : List (Tree AFull)) (x : Tree AFull) (gs : Grounds) (g : Ground) → HaveAll z (listed ts) gs → Has z x g → HaveAll z (listed (ts ++ x ∷ [])) (last_ground gs g)
all_last z [] x gs g h e = (g, no_more, ap (λ hs. last_ground hs g) h, e, refl)
all_last z (y ∷ ts) x gs g h e = (h.0, last_ground h.1 g, ap (λ hs. last_ground hs g) h.2, h.3, all_last z ts x h.1 g h.4 e)

all_before : (z : Sight) (ts : List (Tree AFull)) (x : Tree AFull) (gs : Grounds) → HaveAll z (listed (ts ++ x ∷ [])) gs → (hs : Grounds) × (g : Ground) × (gs ≡ last_ground hs g) × HaveAll z (listed ts) hs × Has z x g
all_before z [] x gs h = (no_more, h.0, h.2 ∙ ap (ground.and_more h.0) h.4, refl, h.3)
all_before z (y ∷ ts) x gs h = with_rest (all_before z ts x h.1 h.4) where
  with_rest : ((hs : Grounds) × (g : Ground) × (h.1 ≡ last_ground hs g) × HaveAll z (listed ts) hs × Has z x g) → (hs : Grounds) × (g : Ground) × (gs ≡ last_ground hs g) × HaveAll z (listed (y ∷ ts)) hs × Has z x g
  with_rest r = (ground.and_more h.0 r.0, r.1, h.2 ∙ ap (ground.and_more h.0) r.2, (h.0, r.0, refl, h.3, r.3), r.4)

pub all_none : (s : Table) (env : Env) (fs : List Found) → AreUsesOver s fs → InfersAll s s env none no_terms fs fs
all_none s env fs o = record {
  over = tt;
  uses = o;
  follows = follows_same s;
  sound = λ a m k p. (refl, p);
  complete = λ a m k gs h p. stay m (sym h, p);
}

module _ (s s1 : Table) (env : Env) (ts : List (Tree AFull)) (x : Tree AFull) (us : Terms) (old mid : List Found) (o : IsEnvOver s env) (f : InfersAll s s1 env (listed ts) us old mid) where
  pub all_last_infers : (s2 : Table) (u : Term) (new : List Found) → Infers s1 s2 env x u mid new → InfersAll s s2 env (listed (ts ++ x ∷ [])) (last_term us u) old new
  all_last_infers s2 u new g = record {
    over = over_last s2 us u (over_later s1 s2 (tuple_term us) g.follows f.over) g.over;
    uses = g.uses;
    follows = follows_both s s1 s2 f.follows g.follows;
    sound = λ a m k p. parts_sound a k (g.follows.solves a m) (g.sound a m k p);
    complete = λ a m k gs p q. reached a m k gs (all_before (sight_under env a k) ts x gs p) q;
  } where
    parts_sound : (a : Assignment) (k : Places) → Solves a s1 → Has (sight_under env a k) x (meaning a u) × AreFound env a k mid → HaveAll (sight_under env a k) (listed (ts ++ x ∷ [])) (meanings a (last_term us u)) × AreFound env a k old
    parts_sound a k m1 w =
        let z = f.sound a m1 k w.1 in
        (subst (λ (gs : Grounds). HaveAll (sight_under env a k) (listed (ts ++ x ∷ [])) gs) (sym (meanings_last a us u)) (all_last (sight_under env a k) ts x (meanings a us) (meaning a u) z.0 w.0), z.1)

    reached : (a : Assignment) → Solves a s → (k : Places) (gs : Grounds) → ((hs : Grounds) × (g : Ground) × (gs ≡ last_ground hs g) × HaveAll (sight_under env a k) (listed ts) hs × Has (sight_under env a k) x g) → AreFound env a k old →
        Reached s s2 a (AllAs env k (last_term us u) gs new)
    reached a m k gs b q =
        reach f.follows (f.complete a m k b.0 b.3 q) (λ b1 m1 g1 p1.
        ends_with (g.complete b1 m1 k b.1 (seen_over (λ z. Has z x b.1) s env a b1 k o g1 b.4) p1.1) (λ b2 m2 g2 p2. (
          meanings_last b2 us u ∙ ap₂ last_ground (meanings_over b1 b2 g2 ∙ p1.0) p2.0 ∙ sym b.2,
          p2.1,
        ))) where
          meanings_over : (b1 b2 : Assignment) → Agrees s1 b1 b2 → meanings b2 us ≡ meanings b1 us
          meanings_over b1 b2 g2 = let e : tuple (meanings b1 us) ≡ tuple (meanings b2 us) = meaning_over s1 b1 b2 (tuple_term us) f.over g2 in sym (let d : meanings b1 us ≡ meanings b2 us = cc in d)

  pub all_last_none : HasNoType s1 env x mid → HaveNoTypes s env (listed (ts ++ x ∷ [])) old
  all_last_none n a m k gs p q = absent (all_before (sight_under env a k) ts x gs p) where
    absent : ((hs : Grounds) × (g : Ground) × (gs ≡ last_ground hs g) × HaveAll (sight_under env a k) (listed ts) hs × Has (sight_under env a k) x g) → ⊥
    absent b = let r = f.complete a m k b.0 b.3 q in n r.at r.solves k b.1 (seen_over (λ z. Has z x b.1) s env a r.at k o r.agrees b.4) r.holds.1

-- where the first parts have no types, all have none
pub all_front_none : (s : Table) (env : Env) (ts us : List (Tree AFull)) (old : List Found) → HaveNoTypes s env (listed ts) old → HaveNoTypes s env (listed (ts ++ us)) old
all_front_none s env ts us old n a m k gs p q = let r = front (sight_under env a k) ts gs p in n a m k r.0 r.1 q where
  front : (z : Sight) (vs : List (Tree AFull)) (gs : Grounds) → HaveAll z (listed (vs ++ us)) gs → (hs : Grounds) × HaveAll z (listed vs) hs
  front z [] gs h = (no_more, refl)
  front z (v ∷ vs) gs h = let r = front z vs h.1 h.4 in (ground.and_more h.0 r.0, (h.0, r.0, refl, h.3, r.1))

-- ---- the tuple

pub tuple_infers : (s s1 s2 : Table) (env : Env) (at : ℕ) (f h : Tree AFull) (rest : Tree (Many AFull)) (us : Terms) (n : ℕ) (old new : List Found) → IsEnvOver s env → InfersAll s s1 env (more f (more h rest)) us old new → Defines s1 s2 n (tuple_term us) → Infers s s2 env (Tuple at f h rest) (variable n) old new
tuple_infers s s1 s2 env at f h rest us n old new o g d = record {
  over = d.inside;
  uses = uses_later s1 s2 new d.follows g.uses;
  follows = follows_both s s1 s2 g.follows d.follows;
  sound = λ a m k p. both a k (d.sound a m) (g.sound a (d.follows.solves a m) k p);
  complete = λ a m k v p q.
      reach g.follows
      (g.complete a m k (ground.and_more p.0 (ground.and_more p.1 p.2)) (p.0, ground.and_more p.1 p.2, refl, p.4, (p.1, p.2, refl, p.5, p.6)) q) (λ b1 m1 g1 p1.
      ends (d.complete b1 m1) (λ b2 m2 g2. (
        d.sound b2 m2 ∙ sym (meaning_over s1 b1 b2 (tuple_term us) g.over g2) ∙ ap tuple p1.0 ∙ sym p.3,
        found_over s1 env b1 b2 k new (env_later s s1 env g.follows o) g.uses g2 p1.1,
      )));
} where
  both : (a : Assignment) (k : Places) → a.type_of n ≡ tuple (meanings a us) → HaveAll (sight_under env a k) (more f (more h rest)) (meanings a us) × AreFound env a k old → Has (sight_under env a k) (Tuple at f h rest) (a.type_of n) × AreFound env a k old
  both a k is w = ((w.0.0, w.0.4.0, w.0.4.1, is ∙ ap tuple (w.0.2 ∙ ap (ground.and_more w.0.0) w.0.4.2), w.0.3, w.0.4.3, w.0.4.4), w.1)

pub tuple_none : (s : Table) (env : Env) (at : ℕ) (f h : Tree AFull) (rest : Tree (Many AFull)) (old : List Found) → HaveNoTypes s env (more f (more h rest)) old → HasNoType s env (Tuple at f h rest) old
tuple_none s env at f h rest old n a m k v p q = n a m k (ground.and_more p.0 (ground.and_more p.1 p.2)) (p.0, ground.and_more p.1 p.2, refl, p.4, (p.1, p.2, refl, p.5, p.6)) q

-- ---- one more argument

given_last : (z : Sight) (ts : List (Tree AnArg)) (at : ℕ) (label : Option (List ℕ)) (x : Tree AFull) (gs : List (GivenArgument Ground)) (g : Ground) → AreGiven z (listed ts) gs → Has z x g → AreGiven z (listed (ts ++ Arg at label x ∷ [])) (gs ++ (label, g) ∷ [])
given_last z [] at label x gs g h e = (g, [], ap (λ (hs : List (GivenArgument Ground)). hs ++ (label, g) ∷ []) h, e, refl)
given_last z (Arg b l y ∷ ts) at label x gs g h e = (h.0, h.1 ++ (label, g) ∷ [], ap (λ (hs : List (GivenArgument Ground)). hs ++ (label, g) ∷ []) h.2, h.3, given_last z ts at label x h.1 g h.4 e)

given_before : (z : Sight) (ts : List (Tree AnArg)) (at : ℕ) (label : Option (List ℕ)) (x : Tree AFull) (gs : List (GivenArgument Ground)) → AreGiven z (listed (ts ++ Arg at label x ∷ [])) gs → (hs : List (GivenArgument Ground)) × (g : Ground) × (gs ≡ hs ++ (label, g) ∷ []) × AreGiven z (listed ts) hs × Has z x g
given_before z [] at label x gs h = ([], h.0, h.2 ∙ ap (λ (hs : List (GivenArgument Ground)). (label, h.0) ∷ hs) h.4, refl, h.3)
given_before z (Arg b l y ∷ ts) at label x gs h = with_rest (given_before z ts at label x h.1 h.4) where
  with_rest : ((hs : List (GivenArgument Ground)) × (g : Ground) × (h.1 ≡ hs ++ (label, g) ∷ []) × AreGiven z (listed ts) hs × Has z x g) → (hs : List (GivenArgument Ground)) × (g : Ground) × (gs ≡ hs ++ (label, g) ∷ []) × AreGiven z (listed (Arg b l y ∷ ts)) hs × Has z x g
  with_rest r = ((l, h.0) ∷ r.0, r.1, h.2 ∙ ap (λ (hs : List (GivenArgument Ground)). (l, h.0) ∷ hs) r.2, (h.0, r.0, refl, h.3, r.3), r.4)

pub inside_later : (s s' : Table) (gs : List (GivenArgument ℕ)) → Follows s s' → AreInside s gs → AreInside s' gs
inside_later s s' [] f o = tt
inside_later s s' (g ∷ gs) f o = (over_later s s' (variable g.1) f o.0, inside_later s s' gs f o.1)

inside_last : (s : Table) (gs : List (GivenArgument ℕ)) (g : GivenArgument ℕ) → AreInside s gs → g.1 < length s.types → AreInside s (gs ++ g ∷ [])
inside_last s [] g o h = (h, tt)
inside_last s (x ∷ gs) g o h = (o.0, inside_last s gs g o.1 h)

pub given_over : (s : Table) (a b : Assignment) (gs : List (GivenArgument ℕ)) → AreInside s gs → Agrees s a b → given_under a gs ≡ given_under b gs
given_over s a b [] o g = refl
given_over s a b (x ∷ gs) o g = ap₂ (λ (t : Ground) (ts : List (GivenArgument Ground)). (x.0, t) ∷ ts) (g.types x.1 o.0) (given_over s a b gs o.1 g)

pub given_none : (s : Table) (env : Env) (fs : List Found) → AreUsesOver s fs → InfersGiven s s env none [] fs fs
given_none s env fs o = record {
  over = tt;
  uses = o;
  follows = follows_same s;
  sound = λ a m k p. (refl, p);
  complete = λ a m k gs h p. stay m (sym h, p);
}

module _ (s s1 : Table) (env : Env) (ts : List (Tree AnArg)) (at : ℕ) (label : Option (List ℕ)) (x : Tree AFull) (gs : List (GivenArgument ℕ)) (old mid : List Found) (o : IsEnvOver s env) (f : InfersGiven s s1 env (listed ts) gs old mid) where
  pub given_last_infers : (s2 : Table) (n : ℕ) (new : List Found) → Infers s1 s2 env x (variable n) mid new → InfersGiven s s2 env (listed (ts ++ Arg at label x ∷ [])) (gs ++ (label, n) ∷ []) old new
  given_last_infers s2 n new g = record {
    over = inside_last s2 gs (label, n) (inside_later s1 s2 gs g.follows f.over) g.over;
    uses = g.uses;
    follows = follows_both s s1 s2 f.follows g.follows;
    sound = λ a m k p. parts_sound a k (g.follows.solves a m) (g.sound a m k p);
    complete = λ a m k hs p q. reached a m k hs (given_before (sight_under env a k) ts at label x hs p) q;
  } where
    under_last : (a : Assignment) → given_under a (gs ++ (label, n) ∷ []) ≡ given_under a gs ++ (label, a.type_of n) ∷ []
    under_last a = map-append (λ g. (g.0, a.type_of g.1)) gs ((label, n) ∷ [])

    parts_sound : (a : Assignment) (k : Places) → Solves a s1 → Has (sight_under env a k) x (a.type_of n) × AreFound env a k mid → AreGiven (sight_under env a k) (listed (ts ++ Arg at label x ∷ [])) (given_under a (gs ++ (label, n) ∷ [])) × AreFound env a k old
    parts_sound a k m1 w =
        let z = f.sound a m1 k w.1 in
        (subst (λ (hs : List (GivenArgument Ground)). AreGiven (sight_under env a k) (listed (ts ++ Arg at label x ∷ [])) hs) (sym (under_last a)) (given_last (sight_under env a k) ts at label x (given_under a gs) (a.type_of n) z.0 w.0), z.1)

    reached : (a : Assignment) → Solves a s → (k : Places) (hs : List (GivenArgument Ground)) → ((js : List (GivenArgument Ground)) × (g : Ground) × (hs ≡ js ++ (label, g) ∷ []) × AreGiven (sight_under env a k) (listed ts) js × Has (sight_under env a k) x g) → AreFound env a k old →
        Reached s s2 a (GivenAs env k (gs ++ (label, n) ∷ []) hs new)
    reached a m k hs b q =
        reach f.follows (f.complete a m k b.0 b.3 q) (λ b1 m1 g1 p1.
        ends_with (g.complete b1 m1 k b.1 (seen_over (λ z. Has z x b.1) s env a b1 k o g1 b.4) p1.1) (λ b2 m2 g2 p2. (
          under_last b2 ∙ ap₂ (λ (js : List (GivenArgument Ground)) (v : Ground). js ++ (label, v) ∷ []) (sym (given_over s1 b1 b2 gs f.over g2) ∙ p1.0) p2.0 ∙ sym b.2,
          p2.1,
        )))

  pub given_last_none : HasNoType s1 env x mid → HaveNoGiven s env (listed (ts ++ Arg at label x ∷ [])) old
  given_last_none n a m k hs p q = absent (given_before (sight_under env a k) ts at label x hs p) where
    absent : ((js : List (GivenArgument Ground)) × (g : Ground) × (hs ≡ js ++ (label, g) ∷ []) × AreGiven (sight_under env a k) (listed ts) js × Has (sight_under env a k) x g) → ⊥
    absent b = let r = f.complete a m k b.0 b.3 q in n r.at r.solves k b.1 (seen_over (λ z. Has z x b.1) s env a r.at k o r.agrees b.4) r.holds.1

-- where the first arguments have no types, all have none
pub given_front_none : (s : Table) (env : Env) (ts us : List (Tree AnArg)) (old : List Found) → HaveNoGiven s env (listed ts) old → HaveNoGiven s env (listed (ts ++ us)) old
given_front_none s env ts us old n a m k gs p q = let r = front (sight_under env a k) ts gs p in n a m k r.0 r.1 q where
  front : (z : Sight) (vs : List (Tree AnArg)) (gs : List (GivenArgument Ground)) → AreGiven z (listed (vs ++ us)) gs → (hs : List (GivenArgument Ground)) × AreGiven z (listed vs) hs
  front z [] gs h = ([], refl)
  front z (Arg at label f ∷ vs) gs h = let r = front z vs h.1 h.4 in ((label, h.0) ∷ r.0, (h.0, r.0, refl, h.3, r.1))
