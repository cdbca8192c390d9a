-- Names and calls.
use Rattle.std.proofs.Common.{◌≡◌, ◌∙◌, sym, ap, ap₂, subst, refl, ℕ, List, [], ◌∷◌, ◌++◌, map, Some, None, Option, Bool, true, false, cond, nat_eq}
use Rattle.std.specs.Prelude.{option_map}
use Rattle.liq_base.specs.declared.memory.Kind.{Kind}
use Rattle.script_grammar.specs.Tree.{Tree, Many, AnArg, NamedCall, Named}
use Rattle.type_terms.specs.Ground.{Ground, Assignment}
use Rattle.type_terms.specs.Term.{Term, variable, meaning, kind_meaning}
use Rattle.type_terms.specs.Table.{Table, Solves, IsOver}
use Rattle.type_terms.specs.Agrees.{Agrees, Follows}
use Rattle.type_terms.specs.declared.ty.KindTerm.{KindTerm}
use Rattle.typing_rules.specs.declared.uses.Target.{Target}
use Rattle.typing_rules.specs.declared.uses.Target.TheVariants as target
use Rattle.typing_rules.specs.Arguments.{Parameter, GivenArgument, Matched}
use Rattle.typing_rules.specs.Typing.{TypesByToken, Has, AreGiven, Applied, NameHas, type_at}
use Rattle.typing_rules.specs.Scripts.{Places, types_of}
use Rattle.type_steps.specs.Environment.{Env, Known, value, function, Found, Texts, AreFound, AreUsesOver, AreKindsOver, AreKnownOver, AreTypesOver, EachTakes, Takes, CallTakes, IsEnvOver, sight_under, texts_under, entries_under, types_under, term_at, term_before, or_else, term_seen, with_use}
use Rattle.type_steps.specs.Flow.{Reached, FoundAs, GivenAs, Infers, HasNoType, InfersGiven, HaveNoGiven, Restricts, Never, Defines, AreTermsOver, IsCallable, IsInstantiated, given_under}
use Rattle.type_steps.proofs.Tables.{over_later, follows_same, follows_both, agrees_both, meaning_over, uses_later, env_later, seen_over, found_over, takes_over, kinds_over, kinds_later, reach, ends, stay}

-- ---- one more use

each_with : (xs : Texts) (k : Places) (a : Assignment) (fs : List Found) (f : Found) → EachTakes xs k a fs → Takes (CallTakes xs k) k [] f.at f.target (map (kind_meaning a) f.kinds) → EachTakes xs k a (fs ++ f ∷ [])
each_with xs k a [] f p t = (t, tt)
each_with xs k a (x ∷ fs) f p t = (p.0, each_with xs k a fs f p.1 t)

each_without : (xs : Texts) (k : Places) (a : Assignment) (fs : List Found) (f : Found) → EachTakes xs k a (fs ++ f ∷ []) → EachTakes xs k a fs × Takes (CallTakes xs k) k [] f.at f.target (map (kind_meaning a) f.kinds)
each_without xs k a [] f p = (tt, p.0)
each_without xs k a (x ∷ fs) f p = let r = each_without xs k a fs f p.1 in ((p.0, r.0), r.1)

pub uses_with : (s : Table) (fs : List Found) (f : Found) → AreUsesOver s fs → AreKindsOver s f.kinds → AreUsesOver s (fs ++ f ∷ [])
uses_with s [] f o h = (h, tt)
uses_with s (x ∷ fs) f o h = (o.0, uses_with s fs f o.1 h)

-- ---- a name

inner_at : (a : Assignment) (t : ℕ) (xs : List (ℕ × Term)) (vs : TypesByToken) (o : Option Term) → type_at t vs ≡ option_map (meaning a) o → type_at t (types_under a xs ++ vs) ≡ option_map (meaning a) (or_else (term_at t xs) o)
inner_at a t [] vs o e = e
inner_at a t (x ∷ xs) vs o e = by_token (inner_at a t xs vs o e) (nat_eq x.0 t) where
  by_token : type_at t (types_under a xs ++ vs) ≡ option_map (meaning a) (or_else (term_at t xs) o) → (b : Bool) → cond b (Some (meaning a x.1)) (type_at t (types_under a xs ++ vs)) ≡ option_map (meaning a) (or_else (cond b (Some x.1) (term_at t xs)) o)
  by_token later true = refl
  by_token later false = later

before_at : (a : Assignment) (t : ℕ) (ks : List Known) → type_at t (types_of (entries_under a ks)) ≡ option_map (meaning a) (term_before t ks)
before_at a t [] = refl
before_at a t (value x u ∷ ks) = by_token (before_at a t ks) (nat_eq x t) where
  by_token : type_at t (types_of (entries_under a ks)) ≡ option_map (meaning a) (term_before t ks) → (b : Bool) → cond b (Some (meaning a u)) (type_at t (types_of (entries_under a ks))) ≡ option_map (meaning a) (cond b (Some u) (term_before t ks))
  by_token later true = refl
  by_token later false = later
before_at a t (function d us ∷ ks) = before_at a t ks

seen_at : (env : Env) (a : Assignment) (k : Places) (t : ℕ) → type_at t (sight_under env a k).types ≡ option_map (meaning a) (term_seen t env)
seen_at env a k t = inner_at a t env.inner (types_of (entries_under a env.before)) (term_before t env.before) (before_at a t env.before)

over_inner : (s : Table) (t : ℕ) (xs : List (ℕ × Term)) (o : Option Term) (u : Term) → AreTypesOver s xs → (o ≡ Some u → IsOver s u) → or_else (term_at t xs) o ≡ Some u → IsOver s u
over_inner s t [] o u h k e = k e
over_inner s t (x ∷ xs) o u h k e = by_token (over_inner s t xs o u h.1 k) (nat_eq x.0 t) e where
  by_token : (or_else (term_at t xs) o ≡ Some u → IsOver s u) → (b : Bool) → or_else (cond b (Some x.1) (term_at t xs)) o ≡ Some u → IsOver s u
  by_token later true e = subst (λ v. IsOver s v) (let d : x.1 ≡ u = cc in d) h.0
  by_token later false e = later e

over_before : (s : Table) (t : ℕ) (ks : List Known) (u : Term) → AreKnownOver s ks → term_before t ks ≡ Some u → IsOver s u
over_before s t [] u h e = absurd (let c : ◌≡◌ {A = Option Term} None (Some u) = e in cc)
over_before s t (value x v ∷ ks) u h e = by_token (over_before s t ks u h.1) (nat_eq x t) e where
  by_token : (term_before t ks ≡ Some u → IsOver s u) → (b : Bool) → cond b (Some v) (term_before t ks) ≡ Some u → IsOver s u
  by_token later true e = subst (λ w. IsOver s w) (let d : v ≡ u = cc in d) h.0
  by_token later false e = later e
over_before s t (function d us ∷ ks) u h e = over_before s t ks u h.1 e

pub over_seen : (s : Table) (env : Env) (t : ℕ) (u : Term) → IsEnvOver s env → term_seen t env ≡ Some u → IsOver s u
over_seen s env t u o e = over_inner s t env.inner (term_before t env.before) u o.inner (over_before s t env.before u o.before) e

pub name_infers : (s : Table) (env : Env) (at : ℕ) (name : List ℕ) (t : ℕ) (u : Term) (old : List Found) → IsEnvOver s env → AreUsesOver s old → env.targets at ≡ Some (target.Slot t) → term_seen t env ≡ Some u →
    Infers s s env (Named at name) u old (with_use old at (target.Slot t) [])
name_infers s env at name t u old o us means is = record {
  over = over_seen s env t u o is;
  uses = uses_with s old (record { at = at; target = target.Slot t; kinds = [] }) us tt;
  follows = follows_same s;
  sound = λ a m k p. (
    subst (λ x. NameHas (sight_under env a k) x (meaning a u)) (sym means) (seen_at env a k t ∙ ap (option_map (meaning a)) is),
    (each_without (texts_under a env.before) k a old (record { at = at; target = target.Slot t; kinds = [] }) p).0,
  );
  complete = λ a m k g h p. stay m (type_is a k g (subst (λ x. NameHas (sight_under env a k) x g) means h), each_with (texts_under a env.before) k a old (record { at = at; target = target.Slot t; kinds = [] }) p tt);
} where
  type_is : (a : Assignment) (k : Places) (g : Ground) → type_at t (sight_under env a k).types ≡ Some g → meaning a u ≡ g
  type_is a k g e = let d : Some (meaning a u) ≡ Some g = sym (seen_at env a k t ∙ ap (option_map (meaning a)) is) ∙ e in cc

pub name_unbound : (s : Table) (env : Env) (at : ℕ) (name : List ℕ) (t : ℕ) (old : List Found) → env.targets at ≡ Some (target.Slot t) → term_seen t env ≡ None → HasNoType s env (Named at name) old
name_unbound s env at name t old means is a m k g h p =
    let e : type_at t (sight_under env a k).types ≡ Some g = subst (λ x. NameHas (sight_under env a k) x g) means h in
    let d : ◌≡◌ {A = Option Ground} None (Some g) = sym (seen_at env a k t ∙ ap (option_map (meaning a)) is) ∙ e in
    absurd cc

-- ---- a call

-- a call of what means nothing, or a value
pub call_means_none : (s : Table) (env : Env) (at : ℕ) (name : List ℕ) (args : Tree (Many AnArg)) (old : List Found) → env.targets at ≡ None → HasNoType s env (NamedCall at name args) old
call_means_none s env at name args old means a m k g h p = subst (λ x. Applied (sight_under env a k) at x h.0 g) means h.2

pub call_means_value : (s : Table) (env : Env) (at : ℕ) (name : List ℕ) (args : Tree (Many AnArg)) (t : ℕ) (old : List Found) → env.targets at ≡ Some (target.Slot t) → HasNoType s env (NamedCall at name args) old
call_means_value s env at name args t old means a m k g h p = subst (λ x. Applied (sight_under env a k) at x h.0 g) means h.2

-- a call of what the environment says nothing of
pub call_unknown : (s : Table) (env : Env) (at : ℕ) (name : List ℕ) (args : Tree (Many AnArg)) (t : Target) (old : List Found) → env.targets at ≡ Some t →
    ((a : Assignment) → Solves a s → (k : Places) (gs : List (GivenArgument Ground)) (g : Ground) → Applied (sight_under env a k) at (Some t) gs g → ⊥) → HasNoType s env (NamedCall at name args) old
call_unknown s env at name args t old means no_call a m k g h p = no_call a m k h.0 g (subst (λ x. Applied (sight_under env a k) at x h.0 g) means h.2)

terms_later : (s s' : Table) (ts : List Term) → Follows s s' → AreTermsOver s ts → AreTermsOver s' ts
terms_later s s' [] f o = tt
terms_later s s' (t ∷ ts) f o = (over_later s s' t f o.0, terms_later s s' ts f o.1)

terms_over : (s : Table) (a b : Assignment) (ts : List Term) → AreTermsOver s ts → Agrees s a b → map (meaning a) ts ≡ map (meaning b) ts
terms_over s a b [] o g = refl
terms_over s a b (t ∷ ts) o g = ap₂ (λ (x : Ground) (xs : List Ground). x ∷ xs) (meaning_over s a b t o.0 g) (terms_over s a b ts o.1 g)

module _ (s s1 : Table) (env : Env) (at : ℕ) (name : List ℕ) (args : Tree (Many AnArg)) (t : Target) (ps : List Parameter) (params : List Term) (result : Term) (kinds : List KindTerm) (old : List Found)
    (o : IsEnvOver s env) (us : AreUsesOver s old) (means : env.targets at ≡ Some t) (I : Assignment → List Ground → Ground → List Kind → Type 0) (c : IsCallable s env at t ps I) (f : IsInstantiated s s1 I params result kinds) where
  abbrev one : Found
  one = record { at = at; target = t; kinds = kinds }

  used_at : (a b : Assignment) (k : Places) (ks : List Kind) → Agrees s a b → map (kind_meaning b) kinds ≡ ks → AreFound env a k old → Takes (CallTakes (texts_under a env.before) k) k [] at t ks → AreFound env b k (with_use old at t kinds)
  used_at a b k ks g is p h =
      each_with (texts_under b env.before) k b old one (found_over s env a b k old o us g p)
      (takes_over s env a b k at t (map (kind_meaning b) kinds) o g (subst (λ js. Takes (CallTakes (texts_under a env.before) k) k [] at t js) (sym is) h))

  -- the call's variables are chosen
  abbrev InstanceAt : Places → List Ground → Ground → Assignment → Type 0
  InstanceAt k ts v b = (map (meaning b) params ≡ ts) × (meaning b result ≡ v) × AreFound env b k (with_use old at t kinds)

  chosen : (a : Assignment) → Solves a s → (k : Places) (gs : List (GivenArgument Ground)) (v : Ground) (ts : List Ground) (ks : List Kind) → I a ts v ks → Takes (CallTakes (texts_under a env.before) k) k [] at t ks → AreFound env a k old → Reached s s1 a (InstanceAt k ts v)
  chosen a m k gs v ts ks i h p = with_uses (f.complete a m ts v ks i) where
    with_uses : ((b : Assignment) × Solves b s1 × Agrees s a b × (map (meaning b) params ≡ ts) × (meaning b result ≡ v) × (map (kind_meaning b) kinds ≡ ks)) → Reached s s1 a (InstanceAt k ts v)
    with_uses r = record { at = r.0; solves = r.1; agrees = r.2; holds = (r.3, r.4, used_at a r.0 k ks r.2 r.5 p h) }

  called : (a : Assignment) (k : Places) (v : Ground) → Has (sight_under env a k) (NamedCall at name args) v → (gs : List (GivenArgument Ground)) × AreGiven (sight_under env a k) args gs × Applied (sight_under env a k) at (Some t) gs v
  called a k v h = (h.0, h.1, subst (λ x. Applied (sight_under env a k) at x h.0 v) means h.2)

  pub call_infers : (s2 s3 : Table) (gs : List (GivenArgument ℕ)) (new : List Found) → InfersGiven s1 s2 env args gs (with_use old at t kinds) new → Restricts s2 s3 (λ a. Matched ps (given_under a gs) (map (meaning a) params)) → Infers s s3 env (NamedCall at name args) result old new
  call_infers s2 s3 gs new g h = record {
    over = over_later s1 s3 result (follows_both s1 s2 s3 g.follows h.follows) f.result;
    uses = uses_later s2 s3 new h.follows g.uses;
    follows = follows_both s s2 s3 (follows_both s s1 s2 f.follows g.follows) h.follows;
    sound = λ a m k p.
        let m2 = h.follows.solves a m in
        whole a k (g.follows.solves a m2) (h.sound a m) (g.sound a m2 k p);
    complete = λ a m k v p q. reached a m k v (called a k v p) q;
  } where
    whole : (a : Assignment) (k : Places) → Solves a s1 → Matched ps (given_under a gs) (map (meaning a) params) → AreGiven (sight_under env a k) args (given_under a gs) × AreFound env a k (with_use old at t kinds) →
        Has (sight_under env a k) (NamedCall at name args) (meaning a result) × AreFound env a k old
    whole a k m1 matched w =
        let split = each_without (texts_under a env.before) k a old one w.1 in
        let applied = c.calls a (f.follows.solves a m1) k (given_under a gs) (meaning a result) (map (meaning a) params) (map (kind_meaning a) kinds) matched (f.sound a m1) split.1 in
        ((given_under a gs, w.0, subst (λ x. Applied (sight_under env a k) at x (given_under a gs) (meaning a result)) (sym means) applied), split.0)

    through : (a : Assignment) → Solves a s → (k : Places) (v : Ground) (hs : List (GivenArgument Ground)) → AreGiven (sight_under env a k) args hs → ((ts : List Ground) × (ks : List Kind) × Matched ps hs ts × I a ts v ks × Takes (CallTakes (texts_under a env.before) k) k [] at t ks) → AreFound env a k old →
        Reached s s3 a (FoundAs env k result v new)
    through a m k v hs given x q =
        reach f.follows (chosen a m k hs v x.0 x.1 x.3 x.4 q) (λ b1 m1 g1 p1.
        reach g.follows (g.complete b1 m1 k hs (seen_over (λ z. AreGiven z args hs) s env a b1 k o g1 given) p1.2) (λ b2 m2 g2 p2.
        let same : map (meaning b2) params ≡ x.0 = sym (terms_over s1 b1 b2 params f.params g2) ∙ p1.0 in
        ends (h.complete b2 m2 (subst (λ js. Matched ps js (map (meaning b2) params)) (sym p2.0) (subst (λ ts. Matched ps hs ts) (sym same) x.2))) (λ b3 m3 g3. (
          sym (meaning_over s1 b1 b3 result f.result (agrees_both s1 s2 b1 b2 b3 g.follows g2 g3)) ∙ p1.1,
          found_over s2 env b2 b3 k new (env_later s s2 env (follows_both s s1 s2 f.follows g.follows) o) g.uses g3 p2.1,
        ))))

    reached : (a : Assignment) → Solves a s → (k : Places) (v : Ground) → ((hs : List (GivenArgument Ground)) × AreGiven (sight_under env a k) args hs × Applied (sight_under env a k) at (Some t) hs v) → AreFound env a k old →
        Reached s s3 a (FoundAs env k result v new)
    reached a m k v w q = through a m k v w.0 w.1 (c.instance a m k w.0 v w.2) q

  pub call_no_given : HaveNoGiven s1 env args (with_use old at t kinds) → HasNoType s env (NamedCall at name args) old
  call_no_given h a m k v p q = absent (called a k v p) where
    behind : (hs : List (GivenArgument Ground)) → AreGiven (sight_under env a k) args hs → ((ts : List Ground) × (ks : List Kind) × Matched ps hs ts × I a ts v ks × Takes (CallTakes (texts_under a env.before) k) k [] at t ks) → ⊥
    behind hs given x = let r = chosen a m k hs v x.0 x.1 x.3 x.4 q in h r.at r.solves k hs (seen_over (λ z. AreGiven z args hs) s env a r.at k o r.agrees given) r.holds.2

    absent : ((hs : List (GivenArgument Ground)) × AreGiven (sight_under env a k) args hs × Applied (sight_under env a k) at (Some t) hs v) → ⊥
    absent w = behind w.0 w.1 (c.instance a m k w.0 v w.2)

  pub call_no_match : (s2 : Table) (gs : List (GivenArgument ℕ)) (new : List Found) → InfersGiven s1 s2 env args gs (with_use old at t kinds) new → Never s2 (λ a. Matched ps (given_under a gs) (map (meaning a) params)) → HasNoType s env (NamedCall at name args) old
  call_no_match s2 gs new g h a m k v p q = absent (called a k v p) where
    further : (hs : List (GivenArgument Ground)) (ts : List Ground) → Matched ps hs ts → (b1 : Assignment) → map (meaning b1) params ≡ ts → Reached s1 s2 b1 (GivenAs env k gs hs new) → ⊥
    further hs ts matched b1 is r =
        let same : map (meaning r.at) params ≡ ts = sym (terms_over s1 b1 r.at params f.params r.agrees) ∙ is in
        h r.at r.solves (subst (λ js. Matched ps js (map (meaning r.at) params)) (sym r.holds.0) (subst (λ us. Matched ps hs us) (sym same) matched))

    behind : (hs : List (GivenArgument Ground)) → AreGiven (sight_under env a k) args hs → ((ts : List Ground) × (ks : List Kind) × Matched ps hs ts × I a ts v ks × Takes (CallTakes (texts_under a env.before) k) k [] at t ks) → ⊥
    behind hs given x =
        let r = chosen a m k hs v x.0 x.1 x.3 x.4 q in
        further hs x.0 x.2 r.at r.holds.0 (g.complete r.at r.solves k hs (seen_over (λ z. AreGiven z args hs) s env a r.at k o r.agrees given) r.holds.2)

    absent : ((hs : List (GivenArgument Ground)) × AreGiven (sight_under env a k) args hs × Applied (sight_under env a k) at (Some t) hs v) → ⊥
    absent w = behind w.0 w.1 (c.instance a m k w.0 v w.2)

-- with a variable in place of the result
pub result_named : (s s1 s2 : Table) (I : Assignment → List Ground → Ground → List Kind → Type 0) (params : List Term) (result : Term) (kinds : List KindTerm) (n : ℕ) → IsInstantiated s s1 I params result kinds → Defines s1 s2 n result → IsInstantiated s s2 I params (variable n) kinds
result_named s s1 s2 I params result kinds n f d = record {
  params = terms_later s1 s2 params d.follows f.params;
  result = d.inside;
  kinds = kinds_later s1 s2 kinds d.follows f.kinds;
  follows = follows_both s s1 s2 f.follows d.follows;
  sound = λ a m. subst (λ v. I a (map (meaning a) params) v (map (kind_meaning a) kinds)) (sym (d.sound a m)) (f.sound a (d.follows.solves a m));
  complete = λ a m ts g ks i. named a ts g ks (f.complete a m ts g ks i);
} where
  named : (a : Assignment) (ts : List Ground) (g : Ground) (ks : List Kind) → ((b : Assignment) × Solves b s1 × Agrees s a b × (map (meaning b) params ≡ ts) × (meaning b result ≡ g) × (map (kind_meaning b) kinds ≡ ks)) →
      (b : Assignment) × Solves b s2 × Agrees s a b × (map (meaning b) params ≡ ts) × (b.type_of n ≡ g) × (map (kind_meaning b) kinds ≡ ks)
  named a ts g ks r = with_name (d.complete r.0 r.1) where
    with_name : ((c : Assignment) × Solves c s2 × Agrees s1 r.0 c) → (b : Assignment) × Solves b s2 × Agrees s a b × (map (meaning b) params ≡ ts) × (b.type_of n ≡ g) × (map (kind_meaning b) kinds ≡ ks)
    with_name z = (
      z.0,
      z.1,
      agrees_both s s1 a r.0 z.0 f.follows r.2 z.2,
      sym (terms_over s1 r.0 z.0 params f.params z.2) ∙ r.3,
      d.sound z.0 z.1 ∙ sym (meaning_over s1 r.0 z.0 result f.result z.2) ∙ r.4,
      sym (kinds_over s1 r.0 z.0 kinds f.kinds z.2) ∙ r.5,
    )
