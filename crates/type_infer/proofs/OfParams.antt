-- The parameters of a def, one after another.
use Rattle.std.proofs.Common.{◌≡◌, ◌∙◌, sym, ap, ap₂, subst, refl, ℕ, zero, suc, ◌+◌, ◌<◌, length, List, [], ◌∷◌, ◌++◌, map, take, drop, get_or}
use Rattle.std.proofs.lemmas.List.{map-append, take_more}
use Rattle.script_grammar.specs.Tree.{Tree, AParam, AFull, Optional}
use Rattle.script_grammar.specs.View.{listed, view_param}
use Rattle.script_grammar.specs.declared.tree.Param.{Param}
use Rattle.type_terms.specs.Agrees.{Agrees, Follows, HasNewType}
use Rattle.type_terms.specs.Ground.{Ground, Assignment}
use Rattle.type_terms.specs.Table.{Table, Solves}
use Rattle.type_terms.specs.Term.{variable}
use Rattle.typing_rules.specs.Scripts.{Places}
use Rattle.typing_rules.specs.Typing.{DefaultHas, DefaultsHave, Sight}
use Rattle.type_steps.specs.Environment.{AreFound, AreUsesOver, Env, Found, IsEnvOver, sight_under}
use Rattle.type_steps.specs.Flow.{HasNoType, Infers, Reached}
use Rattle.type_steps.proofs.Tables.{ends_with, follows_both, found_over, over_later, reach, seen_over, uses_later}
use Rattle.type_infer.specs.PartsOf.{AreVars, HasNoParam, HaveNoParams, InfersParam, InfersParams, VarsAs, types_at}

-- ---- variables

pub vars_later : (s s' : Table) (ns : List ℕ) → Follows s s' → AreVars s ns → AreVars s' ns
vars_later s s' [] f o = tt
vars_later s s' (n ∷ ns) f o = (over_later s s' (variable n) f o.0, vars_later s s' ns f o.1)

vars_last : (s : Table) (ns : List ℕ) (n : ℕ) → AreVars s ns → n < length s.types → AreVars s (ns ++ n ∷ [])
vars_last s [] n o l = (l, tt)
vars_last s (m ∷ ns) n o l = (o.0, vars_last s ns n o.1 l)

pub types_at_over : (s : Table) (a b : Assignment) (ns : List ℕ) → AreVars s ns → Agrees s a b → types_at a ns ≡ types_at b ns
types_at_over s a b [] o g = refl
types_at_over s a b (n ∷ ns) o g = ap₂ (λ (t : Ground) (ts : List Ground). t ∷ ts) (g.types n o.0) (types_at_over s a b ns o.1 g)

types_at_last : (a : Assignment) (ns : List ℕ) (n : ℕ) → types_at a (ns ++ n ∷ []) ≡ types_at a ns ++ a.type_of n ∷ []
types_at_last a ns n = map-append a.type_of ns (n ∷ [])

-- ---- one more

not_empty : (t : Ground) (ts : List Ground) → t ∷ ts ≡ [] → ⊥
not_empty t ts e = cc

have_last : (z : Sight) (ps : List (Tree AParam)) (p : Tree AParam) (ts : List Ground) (t : Ground) → DefaultsHave z (listed ps) ts → DefaultHas z p t → DefaultsHave z (listed (ps ++ p ∷ [])) (ts ++ t ∷ [])
have_last z [] p [] t h d = (d, refl)
have_last z [] p (u ∷ ts) t h d = absurd (not_empty u ts h)
have_last z (q ∷ ps) p [] t h d = absurd h
have_last z (q ∷ ps) p (u ∷ ts) t h d = (h.0, have_last z ps p ts t h.1 d)

have_before : (z : Sight) (ps : List (Tree AParam)) (p : Tree AParam) (ts : List Ground) → DefaultsHave z (listed (ps ++ p ∷ [])) ts → (us : List Ground) × (t : Ground) × (ts ≡ us ++ t ∷ []) × DefaultsHave z (listed ps) us × DefaultHas z p t
have_before z [] p [] h = absurd h
have_before z [] p (t ∷ ts) h = ([], t, ap (λ (l : List Ground). t ∷ l) h.1, refl, h.0)
have_before z (q ∷ ps) p [] h = absurd h
have_before z (q ∷ ps) p (u ∷ ts) h = with_rest (have_before z ps p ts h.1) where
  with_rest : ((us : List Ground) × (t : Ground) × (ts ≡ us ++ t ∷ []) × DefaultsHave z (listed ps) us × DefaultHas z p t) → (us : List Ground) × (t : Ground) × (u ∷ ts ≡ us ++ t ∷ []) × DefaultsHave z (listed (q ∷ ps)) us × DefaultHas z p t
  with_rest r = (u ∷ r.0, r.1, ap (λ (l : List Ground). u ∷ l) r.2, (h.0, r.3), r.4)

module _ (s s1 : Table) (env : Env) (ps : List (Tree AParam)) (x : Tree AParam) (ns : List ℕ) (old mid : List Found) (o : IsEnvOver s env) (f : InfersParams s s1 env (listed ps) ns old mid) where
  params_last : (s2 : Table) (n : ℕ) (new : List Found) → InfersParam s1 s2 env x n mid new → InfersParams s s2 env (listed (ps ++ x ∷ [])) (ns ++ n ∷ []) old new
  params_last s2 n new g = record {
    inside = vars_last s2 ns n (vars_later s1 s2 ns g.follows f.inside) g.inside;
    uses = g.uses;
    follows = follows_both s s1 s2 f.follows g.follows;
    sound = λ a m k p. both a k (g.follows.solves a m) (g.sound a m k p);
    complete = λ a m k ts p q. reached a m k ts (have_before (sight_under env a k) ps x ts p) q;
  } where
    both : (a : Assignment) (k : Places) → Solves a s1 → DefaultHas (sight_under env a k) x (a.type_of n) × AreFound env a k mid → DefaultsHave (sight_under env a k) (listed (ps ++ x ∷ [])) (types_at a (ns ++ n ∷ [])) × AreFound env a k old
    both a k m1 w =
        let z = f.sound a m1 k w.1 in
        (subst (λ (ts : List Ground). DefaultsHave (sight_under env a k) (listed (ps ++ x ∷ [])) ts) (sym (types_at_last a ns n)) (have_last (sight_under env a k) ps x (types_at a ns) (a.type_of n) z.0 w.0), z.1)

    reached : (a : Assignment) → Solves a s → (k : Places) (ts : List Ground) → ((us : List Ground) × (t : Ground) × (ts ≡ us ++ t ∷ []) × DefaultsHave (sight_under env a k) (listed ps) us × DefaultHas (sight_under env a k) x t) → AreFound env a k old →
        Reached s s2 a (VarsAs env k (ns ++ n ∷ []) ts new)
    reached a m k ts b q =
        reach f.follows (f.complete a m k b.0 b.3 q) (λ b1 m1 g1 p1.
        ends_with (g.complete b1 m1 k b.1 (seen_over (λ z. DefaultHas z x b.1) s env a b1 k o g1 b.4) p1.1) (λ b2 m2 g2 p2. (
          types_at_last b2 ns n ∙ ap₂ (λ (us : List Ground) (t : Ground). us ++ t ∷ []) (sym (types_at_over s1 b1 b2 ns f.inside g2) ∙ p1.0) p2.0 ∙ sym b.2,
          p2.1,
        )))

  params_last_none : HasNoParam s1 env x mid → HaveNoParams s env (listed (ps ++ x ∷ [])) old
  params_last_none n a m k ts p q = absent (have_before (sight_under env a k) ps x ts p) where
    absent : ((us : List Ground) × (t : Ground) × (ts ≡ us ++ t ∷ []) × DefaultsHave (sight_under env a k) (listed ps) us × DefaultHas (sight_under env a k) x t) → ⊥
    absent b = let r = f.complete a m k b.0 b.3 q in n r.at r.solves k b.1 (seen_over (λ z. DefaultHas z x b.1) s env a r.at k o r.agrees b.4) r.holds.1

params_front_none : (s : Table) (env : Env) (ps qs : List (Tree AParam)) (old : List Found) → HaveNoParams s env (listed ps) old → HaveNoParams s env (listed (ps ++ qs)) old
params_front_none s env ps qs old n a m k ts p q = let r = front (sight_under env a k) ps ts p in n a m k r.0 r.1 q where
  front : (z : Sight) (xs : List (Tree AParam)) (ts : List Ground) → DefaultsHave z (listed (xs ++ qs)) ts → (us : List Ground) × DefaultsHave z (listed xs) us
  front z [] ts h = ([], refl)
  front z (x ∷ xs) [] h = absurd h
  front z (x ∷ xs) (t ∷ ts) h = let r = front z xs ts h.1 in (t ∷ r.0, (h.0, r.1))

-- ---- one parameter

pub param_plain : (s s' : Table) (env : Env) (p : Tree AParam) (n : ℕ) (fs : List Found) (number : Type 0) → ((z : Sight) (t : Ground) → DefaultHas z p t) → (number → ⊥) → IsEnvOver s env → AreUsesOver s fs → HasNewType s s' number n → InfersParam s s' env p n fs fs
param_plain s s' env p n fs number has never o us new = record {
  inside = new.inside;
  uses = uses_later s s' fs new.follows us;
  follows = new.follows;
  sound = λ a m k q. (has (sight_under env a k) (a.type_of n), q);
  complete = λ a m k t h q. let r = new.each a m t (λ x. absurd (never x)) in (record { at = r.0; solves = r.1; agrees = r.2; holds = (r.3, found_over s env a r.0 k fs o us r.2 q) });
}

pub param_default : (s s' : Table) (env : Env) (at : ℕ) (name : List ℕ) (d : Tree AFull) (n : ℕ) (old new : List Found) → Infers s s' env d (variable n) old new → InfersParam s s' env (Optional at name d) n old new
param_default s s' env at name d n old new f = record { inside = f.over; uses = f.uses; follows = f.follows; sound = f.sound; complete = f.complete }

pub param_default_none : (s : Table) (env : Env) (at : ℕ) (name : List ℕ) (d : Tree AFull) (old : List Found) → HasNoType s env d old → HasNoParam s env (Optional at name d) old
param_default_none s env at name d old n a m k t h q = n a m k t h q

-- ---- the loop over them

next_taken : (xs : List Param) (i : ℕ) (x : Param) → i < length xs → x ≡ get_or xs i x → map view_param (take (i + 1) xs) ≡ map view_param (take i xs) ++ view_param x ∷ []
next_taken xs i x lt is = ap (map view_param) (take_more xs i x lt ∙ ap (λ y. take i xs ++ y ∷ []) (sym is)) ∙ map-append view_param (take i xs) (x ∷ [])

halves : (n : ℕ) (xs : List Param) → map view_param xs ≡ map view_param (take n xs) ++ map view_param (drop n xs)
halves zero xs = refl
halves (suc n) [] = refl
halves (suc n) (x ∷ xs) = ap (λ l. view_param x ∷ l) (halves n xs)

module _ (xs : List Param) (i : ℕ) (x : Param) (lt : i < length xs) (is : x ≡ get_or xs i x) (s s1 : Table) (env : Env) (ns : List ℕ) (old mid : List Found) (o : IsEnvOver s env) (f : InfersParams s s1 env (listed (map view_param (take i xs))) ns old mid) where
  pub params_next : (s2 : Table) (n : ℕ) (new : List Found) → InfersParam s1 s2 env (view_param x) n mid new → InfersParams s s2 env (listed (map view_param (take (i + 1) xs))) (ns ++ n ∷ []) old new
  params_next s2 n new g =
      subst (λ l. InfersParams s s2 env (listed l) (ns ++ n ∷ []) old new) (sym (next_taken xs i x lt is))
      (params_last s s1 env (map view_param (take i xs)) (view_param x) ns old mid o f s2 n new g)

  pub params_stop : HasNoParam s1 env (view_param x) mid → HaveNoParams s env (listed (map view_param xs)) old
  params_stop h =
      subst (λ l. HaveNoParams s env (listed l) old) (sym (halves (i + 1) xs))
      (params_front_none s env (map view_param (take (i + 1) xs)) (map view_param (drop (i + 1) xs)) old
      (subst (λ l. HaveNoParams s env (listed l) old) (sym (next_taken xs i x lt is))
      (params_last_none s s1 env (map view_param (take i xs)) (view_param x) ns old mid o f h)))
