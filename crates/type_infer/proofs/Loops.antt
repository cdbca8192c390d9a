-- What the loops over the parts of a def keep.
use Rattle.std.proofs.Common.{◌≡◌, ◌∙◌, sym, ap, subst, refl, ℕ, ◌+◌, ◌<◌, length, List, [], ◌∷◌, ◌++◌, map, take, get_or}
use Rattle.std.proofs.lemmas.List.{map-append, take_more}
use Rattle.script_grammar.specs.Tree.{Tree, Many, AParam, AnInner}
use Rattle.script_grammar.specs.View.{listed, view_full, view_inner, view_param}
use Rattle.script_grammar.specs.declared.tree.Param.{Param}
use Rattle.script_grammar.specs.declared.tree.Inner.{Inner as ABinding}
use Rattle.type_terms.specs.Table.{Table}
use Rattle.type_terms.specs.Term.{Term, variable}
use Rattle.typing_rules.specs.Typing.{token_of}
use Rattle.type_steps.specs.Environment.{Found, IsEnvOver}
use Rattle.type_steps.specs.Flow.{HasNoType, Infers}
use Rattle.expression_types.specs.Seen.{env_of, types_seen}
use Rattle.expression_types.specs.declared.environment.Names.{Names}
use Rattle.expression_types.specs.declared.environment.TypedName.{TypedName}
use Rattle.expression_types.specs.Order.{AreAdded, tokens_used}
use Rattle.expression_types.proofs.Adding.{next_added}
use Rattle.type_steps.specs.Defs.{outside}
use Rattle.type_infer.specs.PartsOf.{HasNoParam, HaveNoInners, HaveNoParams, InfersInners, InfersParam, InfersParams, with_inner}
use Rattle.type_infer.specs.DefSteps.{AreTypedParams, param_tokens, tokens_named, vars_named}
use Rattle.type_infer.proofs.Inners.{inners_next, inners_stop}
use Rattle.type_infer.proofs.OfParams.{params_next, params_stop}

-- ---- parameters

pub record ParamsSo (s s' : Table) (ns : Names) (ps : Tree (Many AParam)) (ts : List TypedName) (old new : List Found) : Type 0 where
  pub typed : AreTypedParams s s' (env_of ns) ps ts old new
  pub order : AreAdded ns (tokens_used ps) old new

tokens_last : (ps : List (Tree AParam)) (p : Tree AParam) → param_tokens (listed (ps ++ p ∷ [])) ≡ param_tokens (listed ps) ++ token_of p ∷ []
tokens_last [] p = refl
tokens_last (q ∷ ps) p = ap (λ (l : List ℕ). token_of q ∷ l) (tokens_last ps p)

next_taken : (xs : List Param) (i : ℕ) (x : Param) → i < length xs → x ≡ get_or xs i x → map view_param (take (i + 1) xs) ≡ map view_param (take i xs) ++ view_param x ∷ []
next_taken xs i x lt is = ap (map view_param) (take_more xs i x lt ∙ ap (λ y. take i xs ++ y ∷ []) (sym is)) ∙ map-append view_param (take i xs) (x ∷ [])

vars_last : (ts : List TypedName) (t : TypedName) → vars_named (ts ++ t ∷ []) ≡ vars_named ts ++ t.var ∷ []
vars_last ts t = map-append (λ (n : TypedName). n.var) ts (t ∷ [])

named_last : (ts : List TypedName) (t : TypedName) → tokens_named (ts ++ t ∷ []) ≡ tokens_named ts ++ t.at ∷ []
named_last ts t = map-append (λ (n : TypedName). n.at) ts (t ∷ [])

pub params_so_next : (xs : List Param) (i : ℕ) (x : Param) → i < length xs → x ≡ get_or xs i x → (s s1 s2 : Table) (ns : Names) (ts us : List TypedName) (t : TypedName) (old mid new : List Found) → IsEnvOver s (env_of ns) → us ≡ ts ++ t ∷ [] → t.at ≡ token_of (view_param x) →
    ParamsSo s s1 ns (listed (map view_param (take i xs))) ts old mid → InfersParam s1 s2 (env_of ns) (view_param x) t.var mid new → AreAdded ns (tokens_used (view_param x)) mid new → ParamsSo s s2 ns (listed (map view_param (take (i + 1) xs))) us old new
params_so_next xs i x lt is s s1 s2 ns ts us t old mid new o grown at f g h = subst (λ (vs : List TypedName). ParamsSo s s2 ns (listed (map view_param (take (i + 1) xs))) vs old new) (sym grown) (record {
  typed = record {
    typed = subst (λ (vs : List ℕ). InfersParams s s2 (env_of ns) (listed (map view_param (take (i + 1) xs))) vs old new) (sym (vars_last ts t)) (params_next xs i x lt is s s1 (env_of ns) (vars_named ts) old mid o f.typed.typed s2 t.var new g);
    named = named_last ts t ∙ ap (λ (l : List ℕ). l ++ t.at ∷ []) f.typed.named ∙ ap (λ (n : ℕ). param_tokens (listed (map view_param (take i xs))) ++ n ∷ []) at ∙ sym (tokens_last (map view_param (take i xs)) (view_param x)) ∙ ap (λ (l : List (Tree AParam)). param_tokens (listed l)) (sym (next_taken xs i x lt is));
  };
  order = next_added view_param xs i x lt is ns old mid new f.order h;
})

pub params_so_stop : (xs : List Param) (i : ℕ) (x : Param) → i < length xs → x ≡ get_or xs i x → (s s1 : Table) (ns : Names) (ts : List TypedName) (old mid : List Found) → IsEnvOver s (env_of ns) → ParamsSo s s1 ns (listed (map view_param (take i xs))) ts old mid → HasNoParam s1 (env_of ns) (view_param x) mid → HaveNoParams s (env_of ns) (listed (map view_param xs)) old
params_so_stop xs i x lt is s s1 ns ts old mid o f h = params_stop xs i x lt is s s1 (env_of ns) (vars_named ts) old mid o f.typed.typed h

-- ---- bindings in the body

pub record InnersSo (s s' : Table) (ns : Names) (is : Tree (Many AnInner)) (us vs : List TypedName) (old new : List Found) : Type 0 where
  pub typed : InfersInners s s' (outside (env_of ns).targets (env_of ns).before) is (types_seen us) (types_seen vs) old new
  pub order : AreAdded ns (tokens_used is) old new

pub inners_so_next : (xs : List ABinding) (i : ℕ) (x : ABinding) → i < length xs → x ≡ get_or xs i x → (s s1 s2 : Table) (ns : Names) (us vs ws : List TypedName) (n : ℕ) (old mid new : List Found) → IsEnvOver s (outside (env_of ns).targets (env_of ns).before) → ws ≡ vs ++ record { at = x.bind.at; var = n } ∷ [] →
    InnersSo s s1 ns (listed (map view_inner (take i xs))) us vs old mid → Infers s1 s2 (with_inner (env_of ns) (types_seen vs)) (view_full x.bind.value) (variable n) mid new → AreAdded ns (tokens_used (view_full x.bind.value)) mid new → InnersSo s s2 ns (listed (map view_inner (take (i + 1) xs))) us ws old new
inners_so_next xs i x lt is s s1 s2 ns us vs ws n old mid new o grown f g h = subst (λ (zs : List TypedName). InnersSo s s2 ns (listed (map view_inner (take (i + 1) xs))) us zs old new) (sym grown) (record {
  typed = subst (λ (zs : List (ℕ × Term)). InfersInners s s2 (outside (env_of ns).targets (env_of ns).before) (listed (map view_inner (take (i + 1) xs))) (types_seen us) zs old new) (sym (map-append (λ (t : TypedName). (t.at, variable t.var)) vs (record { at = x.bind.at; var = n } ∷ [])))
      (inners_next xs i x lt is x.bind.at x.bind.name (view_full x.bind.value) x.semicolon refl s s1 (env_of ns).targets (env_of ns).before (types_seen us) (types_seen vs) old mid o f.typed s2 n new g);
  order = next_added view_inner xs i x lt is ns old mid new f.order h;
})

pub inners_so_stop : (xs : List ABinding) (i : ℕ) (x : ABinding) → i < length xs → x ≡ get_or xs i x → (s s1 : Table) (ns : Names) (us vs : List TypedName) (old mid : List Found) → IsEnvOver s (outside (env_of ns).targets (env_of ns).before) →
    InnersSo s s1 ns (listed (map view_inner (take i xs))) us vs old mid → HasNoType s1 (with_inner (env_of ns) (types_seen vs)) (view_full x.bind.value) mid → HaveNoInners s (outside (env_of ns).targets (env_of ns).before) (listed (map view_inner xs)) (types_seen us) old
inners_so_stop xs i x lt is s s1 ns us vs old mid o f h = inners_stop xs i x lt is x.bind.at x.bind.name (view_full x.bind.value) x.semicolon refl s s1 (env_of ns).targets (env_of ns).before (types_seen us) (types_seen vs) old mid o f.typed h
