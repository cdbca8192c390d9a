-- A def from its parts.
use Rattle.std.proofs.Common.{◌≡◌, ◌∙◌, sym, ap, ap₂, subst, refl, ℕ, List, [], ◌∷◌, Bool}
use Rattle.script_grammar.specs.Tree.{Tree, Many, AParam, AnInner, AnExpr, more, none, Def}
use Rattle.type_terms.specs.Agrees.{Agrees}
use Rattle.type_terms.specs.Ground.{Ground, Assignment}
use Rattle.type_terms.specs.Table.{Table, Solves}
use Rattle.type_terms.specs.Term.{Term, variable}
use Rattle.typing_rules.specs.Scripts.{Places, Targets}
use Rattle.typing_rules.specs.Typing.{DefHas, DefaultsHave, Has, InnersHave, TypesByToken, token_of, typed_params, within}
use Rattle.type_steps.specs.Environment.{AreFound, Env, Found, IsEnvOver, Known, sight_under, types_under}
use Rattle.type_steps.specs.Flow.{HasNoType, Infers, Reached}
use Rattle.type_steps.proofs.Tables.{ends_with, follows_both, reach, seen_over}
use Rattle.expression_types.specs.Seen.{types_seen}
use Rattle.expression_types.specs.declared.environment.TypedName.{TypedName}
use Rattle.type_steps.specs.Defs.{outside}
use Rattle.type_infer.specs.PartsOf.{DefAs, HasNoDef, HaveNoInners, HaveNoParams, InfersDef, InfersInners, InfersParams, VarsAs, TypesAs, types_at, with_inner}
use Rattle.type_infer.specs.DefSteps.{BodyHas, HasNoBody, InfersBody, ResultAs, param_tokens, tokens_named, vars_named}
use Rattle.type_infer.proofs.OfParams.{types_at_over, vars_later}

-- ---- the body

module _ (s s1 : Table) (targets : Targets) (before : List Known) (is : Tree (Many AnInner)) (e : Tree AnExpr) (us vs : List (ℕ × Term)) (old mid : List Found) (o : IsEnvOver s (outside targets before)) (i : InfersInners s s1 (outside targets before) is us vs old mid) where
  result_at : (a b : Assignment) (k : Places) (ws : TypesByToken) (g : Ground) → Agrees s a b → types_under b vs ≡ ws → Has (within ws (sight_under (outside targets before) a k)) e g → Has (sight_under (with_inner (outside targets before) vs) b k) e g
  result_at a b k ws g agree same h =
      seen_over (λ z. Has (within (types_under b vs) z) e g) s (outside targets before) a b k o agree
      (subst (λ (x : TypesByToken). Has (within x (sight_under (outside targets before) a k)) e g) (sym same) h)

  pub body_result_none : HasNoType s1 (with_inner (outside targets before) vs) e mid → HasNoBody s (outside targets before) is e us old
  body_result_none n a m k g w q = absent (i.complete a m k w.0 w.1 q) where
    absent : Reached s s1 a (TypesAs (outside targets before) k vs w.0 mid) → ⊥
    absent r = n r.at r.solves k g (result_at a r.at k w.0 g r.agrees r.holds.0 w.2) r.holds.1

  pub body_infers : (s2 : Table) (n : ℕ) (new : List Found) → Infers s1 s2 (with_inner (outside targets before) vs) e (variable n) mid new → InfersBody s s2 (outside targets before) is e us n old new
  body_infers s2 n new r = record {
    inside = r.over;
    uses = r.uses;
    follows = follows_both s s1 s2 i.follows r.follows;
    sound = λ a m k q. both a k (r.follows.solves a m) (r.sound a m k q);
    complete = λ a m k g w q. reached a m k g w q;
  } where
    both : (a : Assignment) (k : Places) → Solves a s1 → Has (sight_under (with_inner (outside targets before) vs) a k) e (a.type_of n) × AreFound (outside targets before) a k mid → BodyHas (outside targets before) k a is e (types_under a us) (a.type_of n) × AreFound (outside targets before) a k old
    both a k m1 w = let z = i.sound a m1 k w.1 in ((types_under a vs, z.0, w.0), z.1)

    reached : (a : Assignment) → Solves a s → (k : Places) (g : Ground) → BodyHas (outside targets before) k a is e (types_under a us) g → AreFound (outside targets before) a k old → Reached s s2 a (ResultAs (outside targets before) k n g new)
    reached a m k g w q =
        reach i.follows (i.complete a m k w.0 w.1 q) (λ b1 m1 g1 p1.
        ends_with (r.complete b1 m1 k g (result_at a b1 k w.0 g g1 p1.0 w.2) p1.1) (λ b2 m2 g2 p2. (p2.0, p2.1)))

pub body_inners_none : (s : Table) (targets : Targets) (before : List Known) (is : Tree (Many AnInner)) (e : Tree AnExpr) (us : List (ℕ × Term)) (old : List Found) → HaveNoInners s (outside targets before) is us old → HasNoBody s (outside targets before) is e us old
body_inners_none s targets before is e us old n a m k g w q = n a m k w.0 w.1 q

-- ---- the parameters as bindings

pub params_named : (ps : Tree (Many AParam)) (ts : List TypedName) (a : Assignment) → tokens_named ts ≡ param_tokens ps → types_under a (types_seen ts) ≡ typed_params ps (types_at a (vars_named ts))
params_named none [] a e = refl
params_named none (t ∷ ts) a e = absurd cc
params_named (more p ps) [] a e = absurd cc
params_named (more p ps) (t ∷ ts) a e = ap₂ (λ (at : ℕ) (us : TypesByToken). (at, a.type_of t.var) ∷ us) (head e) (params_named ps ts a (tail e)) where
  head : t.at ∷ tokens_named ts ≡ token_of p ∷ param_tokens ps → t.at ≡ token_of p
  head e = cc

  tail : t.at ∷ tokens_named ts ≡ token_of p ∷ param_tokens ps → tokens_named ts ≡ param_tokens ps
  tail e = cc

-- ---- the def

pub params_have_none : (s : Table) (env : Env) (at : ℕ) (name : List ℕ) (ps : Tree (Many AParam)) (equals : Bool) (is : Tree (Many AnInner)) (e : Tree AnExpr) → HaveNoParams s env ps [] → HasNoDef s env (Def at name ps equals is e)
params_have_none s env at name ps equals is e n a m k ts g h = n a m k ts h.0 tt

module _ (s s1 : Table) (targets : Targets) (before : List Known) (at : ℕ) (name : List ℕ) (ps : Tree (Many AParam)) (equals : Bool) (is : Tree (Many AnInner)) (e : Tree AnExpr) (ns : List ℕ) (us : List (ℕ × Term)) (mid : List Found) (o : IsEnvOver s (outside targets before))
    (named : (a : Assignment) → types_under a us ≡ typed_params ps (types_at a ns)) (p : InfersParams s s1 (outside targets before) ps ns [] mid) where
  -- the body behind the parameters as they were found
  body_at : (a b : Assignment) (k : Places) (ts : List Ground) (g : Ground) → Agrees s a b → types_at b ns ≡ ts → BodyHas (outside targets before) k a is e (typed_params ps ts) g → BodyHas (outside targets before) k b is e (types_under b us) g
  body_at a b k ts g agree same h =
      seen_over (λ z. (ws : TypesByToken) × InnersHave z is (types_under b us) ws × Has (within ws z) e g) s (outside targets before) a b k o agree
      (subst (λ (x : TypesByToken). BodyHas (outside targets before) k a is e x g) (sym (named b ∙ ap (typed_params ps) same)) h)

  pub body_has_none : HasNoBody s1 (outside targets before) is e us mid → HasNoDef s (outside targets before) (Def at name ps equals is e)
  body_has_none n a m k ts g h = absent (p.complete a m k ts h.0 tt) where
    absent : Reached s s1 a (VarsAs (outside targets before) k ns ts mid) → ⊥
    absent r = n r.at r.solves k g (body_at a r.at k ts g r.agrees r.holds.0 h.1) r.holds.1

  pub def_infers : (s2 : Table) (n : ℕ) (new : List Found) → InfersBody s1 s2 (outside targets before) is e us n mid new → InfersDef s s2 (outside targets before) (Def at name ps equals is e) ns n new
  def_infers s2 n new b = record {
    params = vars_later s1 s2 ns b.follows p.inside;
    result = b.inside;
    uses = b.uses;
    follows = follows_both s s1 s2 p.follows b.follows;
    sound = λ a m k q. both a k (b.follows.solves a m) (b.sound a m k q);
    complete = λ a m k ts g h. reached a m k ts g h.0 h.1;
  } where
    both : (a : Assignment) (k : Places) → Solves a s1 → BodyHas (outside targets before) k a is e (types_under a us) (a.type_of n) × AreFound (outside targets before) a k mid → DefHas (sight_under (outside targets before) a k) (Def at name ps equals is e) (types_at a ns) (a.type_of n)
    both a k m1 w =
        let z = p.sound a m1 k w.1 in
        (z.0, subst (λ (x : TypesByToken). BodyHas (outside targets before) k a is e x (a.type_of n)) (named a) w.0)

    reached : (a : Assignment) → Solves a s → (k : Places) (ts : List Ground) (g : Ground) → DefaultsHave (sight_under (outside targets before) a k) ps ts → BodyHas (outside targets before) k a is e (typed_params ps ts) g → Reached s s2 a (DefAs (outside targets before) k ns n ts g new)
    reached a m k ts g d w =
        reach p.follows (p.complete a m k ts d tt) (λ b1 m1 g1 p1.
        ends_with (b.complete b1 m1 k g (body_at a b1 k ts g g1 p1.0 w) p1.1) (λ b2 m2 g2 p2. (
          sym (types_at_over s1 b1 b2 ns p.inside g2) ∙ p1.0,
          p2.0,
          p2.1,
        )))
