-- What the program's functions answer of the parts of a def.
use Rattle.std.proofs.Common.{◌≡◌, sym, ap, subst, refl, ℕ, length, List, [], ◌∷◌, ◌++◌, map, false, Option, Some, None, Result, Ok, Err, IfOk}
use Rattle.std.specs.Bool.{IsTrue}
use Rattle.liq_base.specs.declared.memory.Memory.{Memory}
use Rattle.script_grammar.specs.Tree.{Tree, Many, AnInner, AnExpr, Param as TreeParam, Labelled}
use Rattle.script_grammar.specs.View.{listed, param_of, view_def, view_expr, view_full, view_inner, view_param}
use Rattle.script_grammar.specs.declared.tree.Def.{Def}
use Rattle.script_grammar.specs.declared.tree.Full.{Full}
use Rattle.script_grammar.specs.declared.tree.Param.{Param}
use Rattle.script_grammar.specs.declared.tree.ParamForm.{ParamForm}
use Rattle.script_grammar.specs.declared.tree.ParamForm.TheVariants as form
use Rattle.type_terms.specs.Agrees.{HasNewType}
use Rattle.type_terms.specs.Table.{Table}
use Rattle.type_terms.specs.Term.{Term, source_term, variable}
use Rattle.type_terms.specs.declared.ty.KindTerm.{KindTerm}
use Rattle.typing_rules.specs.Scripts.{Targets}
use Rattle.typing_rules.specs.Typing.{token_of}
use Rattle.type_instances.specs.Schemes.{AreAmong}
use Rattle.type_steps.specs.Environment.{AreKindsOver, AreTypesOver, AreUsesOver, Env, Found, IsEnvOver, Known}
use Rattle.type_steps.specs.Flow.{IsTypeOf}
use Rattle.expression_types.specs.Seen.{IsSeen, env_of, founds, types_seen}
use Rattle.expression_types.specs.declared.environment.FoundUse.{FoundUse}
use Rattle.expression_types.specs.declared.environment.Names.{Names}
use Rattle.expression_types.specs.declared.environment.TypedName.{TypedName}
use Rattle.type_steps.specs.Defs.{outside}
use Rattle.type_infer.specs.PartsOf.{AreVars, HasNoDef, HaveNoParams, InfersDef, InfersInners, InfersParams, IsParamOf, with_inner}
use Rattle.type_infer.specs.DefSteps.{AreTypedParams, HasNoBody, InfersBody, IsBodyOf, vars_named}
use Rattle.type_infer.specs.TextUses.{kinds_in}
use Rattle.type_infer.proofs.OfParams.{param_default, param_default_none, param_plain}
use Rattle.type_infer.proofs.Whole.{body_has_none, body_infers, body_result_none, def_infers, params_have_none, params_named}

-- ---- parameters

not_true : IsTrue false → ⊥
not_true e = cc

pub default_answered : (s s' : Table) (env : Env) (at : ℕ) (name : List ℕ) (d : Full) (old new : List Found) (x : Result (Option ℕ) Memory) → IfOk x (λ r. IsTypeOf s s' env (view_full d) old new r) → IfOk x (λ r. IsParamOf s s' env (param_of at name (form.Optional d)) old new r)
default_answered s s' env at name d old new (Ok None) h = param_default_none s env at name (view_full d) old h
default_answered s s' env at name d old new (Ok (Some n)) h = param_default s s' env at name (view_full d) n old new h
default_answered s s' env at name d old new (Err m) h = tt

pub plain_answered : (s s' : Table) (env : Env) (at : ℕ) (name : List ℕ) (n : ℕ) (fs : List Found) → IsEnvOver s env → AreUsesOver s fs → HasNewType s s' (IsTrue false) n → IsParamOf s s' env (param_of at name form.Plain) fs fs (Some n)
plain_answered s s' env at name n fs o us new = param_plain s s' env (TreeParam at name) n fs (IsTrue false) (λ z t. tt) not_true o us new

pub labelled_answered : (s s' : Table) (env : Env) (at : ℕ) (name : List ℕ) (n : ℕ) (fs : List Found) → IsEnvOver s env → AreUsesOver s fs → HasNewType s s' (IsTrue false) n → IsParamOf s s' env (param_of at name form.Labelled) fs fs (Some n)
labelled_answered s s' env at name n fs o us new = param_plain s s' env (Labelled at name) n fs (IsTrue false) (λ z t. tt) not_true o us new

pub token_seen : (p : Param) → p.at ≡ token_of (view_param p)
token_seen p = by_form p.form where
  by_form : (f : ParamForm) → p.at ≡ token_of (param_of p.at p.name f)
  by_form form.Plain = refl
  by_form form.Labelled = refl
  by_form (form.Optional d) = refl

-- ---- what is seen outside of the def

pub outside_over : (s : Table) (ns : Names) → IsEnvOver s (env_of ns) → IsEnvOver s (outside (env_of ns).targets (env_of ns).before)
outside_over s ns o = record { before = o.before; inner = tt }

pub outside_is : (ns : Names) → ns.inner.now ≡ [] → env_of ns ≡ outside (env_of ns).targets (env_of ns).before
outside_is ns e = ap (λ (us : List TypedName). with_inner (env_of ns) (types_seen us)) e

-- ---- the body

pub body_answered : (s s1 s2 : Table) (targets : Targets) (before : List Known) (is : Tree (Many AnInner)) (e : Tree AnExpr) (us vs : List (ℕ × Term)) (old mid new : List Found) → IsEnvOver s (outside targets before) → InfersInners s s1 (outside targets before) is us vs old mid → (x : Result (Option ℕ) Memory) →
    IfOk x (λ r. IsTypeOf s1 s2 (with_inner (outside targets before) vs) e mid new r) → IfOk x (λ r. IsBodyOf s s2 targets before is e us old new r)
body_answered s s1 s2 targets before is e us vs old mid new o i (Ok None) h = body_result_none s s1 targets before is e us vs old mid o i h
body_answered s s1 s2 targets before is e us vs old mid new o i (Ok (Some n)) h = body_infers s s1 targets before is e us vs old mid o i s2 n new h
body_answered s s1 s2 targets before is e us vs old mid new o i (Err m) h = tt

-- ---- the def

pub vars_typed : (s : Table) (ts : List TypedName) → AreVars s (vars_named ts) → AreTypesOver s (types_seen ts)
vars_typed s [] o = tt
vars_typed s (t ∷ ts) o = (o.0, vars_typed s ts o.1)

pub vars_among : (s : Table) (ns : List ℕ) → AreVars s ns → AreAmong (length s.types) (length s.kinds) (map variable ns)
vars_among s [] o = tt
vars_among s (n ∷ ns) o = (o.0, vars_among s ns o.1)

one_kinds_among : (s : Table) (ks ls : List KindTerm) → AreKindsOver s ks → AreAmong (length s.types) (length s.kinds) (map source_term ls) → AreAmong (length s.types) (length s.kinds) (map source_term (ks ++ ls))
one_kinds_among s [] ls o h = h
one_kinds_among s (k ∷ ks) ls o h = (o.0, one_kinds_among s ks ls o.1 h)

pub kinds_among : (s : Table) (fs : List Found) → AreUsesOver s fs → AreAmong (length s.types) (length s.kinds) (map source_term (kinds_in fs))
kinds_among s [] o = tt
kinds_among s (f ∷ fs) o = one_kinds_among s f.kinds (kinds_in fs) o.0 (kinds_among s fs o.1)

module _ (s s1 : Table) (ns : Names) (d : Def) (uses : List FoundUse) (seen : IsSeen s ns uses) (out : ns.inner.now ≡ []) (first : uses ≡ []) where
  pub parts_params_none : HaveNoParams s (env_of ns) (listed (map view_param d.params.items)) (founds uses) → HasNoDef s (outside (env_of ns).targets (env_of ns).before) (view_def d)
  parts_params_none h =
      params_have_none s (outside (env_of ns).targets (env_of ns).before) d.at d.name (listed (map view_param d.params.items)) d.equals (listed (map view_inner d.inner.items)) (view_expr d.result)
      (subst (λ (us : List FoundUse). HaveNoParams s (outside (env_of ns).targets (env_of ns).before) (listed (map view_param d.params.items)) (founds us)) first
      (subst (λ (env : Env). HaveNoParams s env (listed (map view_param d.params.items)) (founds uses)) (outside_is ns out) h))

  module _ (ts : List TypedName) (mid : List Found) (p : AreTypedParams s s1 (env_of ns) (listed (map view_param d.params.items)) ts (founds uses) mid) where
    params_here : InfersParams s s1 (outside (env_of ns).targets (env_of ns).before) (listed (map view_param d.params.items)) (vars_named ts) [] mid
    params_here =
        subst (λ (us : List FoundUse). InfersParams s s1 (outside (env_of ns).targets (env_of ns).before) (listed (map view_param d.params.items)) (vars_named ts) (founds us) mid) first
        (subst (λ (env : Env). InfersParams s s1 env (listed (map view_param d.params.items)) (vars_named ts) (founds uses) mid) (outside_is ns out) p.typed)

    pub parts_body_none : HasNoBody s1 (outside (env_of ns).targets (env_of ns).before) (listed (map view_inner d.inner.items)) (view_expr d.result) (types_seen ts) mid → HasNoDef s (outside (env_of ns).targets (env_of ns).before) (view_def d)
    parts_body_none h =
        body_has_none s s1 (env_of ns).targets (env_of ns).before d.at d.name (listed (map view_param d.params.items)) d.equals (listed (map view_inner d.inner.items)) (view_expr d.result) (vars_named ts) (types_seen ts) mid (outside_over s ns seen.over)
        (λ a. params_named (listed (map view_param d.params.items)) ts a p.named) params_here h

    pub parts_infer : (s2 : Table) (n : ℕ) (new : List Found) (vars : List ℕ) → vars ≡ vars_named ts → InfersBody s1 s2 (outside (env_of ns).targets (env_of ns).before) (listed (map view_inner d.inner.items)) (view_expr d.result) (types_seen ts) n mid new →
        InfersDef s s2 (outside (env_of ns).targets (env_of ns).before) (view_def d) vars n new
    parts_infer s2 n new vars is h =
        subst (λ (vs : List ℕ). InfersDef s s2 (outside (env_of ns).targets (env_of ns).before) (view_def d) vs n new) (sym is)
        (def_infers s s1 (env_of ns).targets (env_of ns).before d.at d.name (listed (map view_param d.params.items)) d.equals (listed (map view_inner d.inner.items)) (view_expr d.result) (vars_named ts) (types_seen ts) mid (outside_over s ns seen.over)
        (λ a. params_named (listed (map view_param d.params.items)) ts a p.named) params_here s2 n new h)
