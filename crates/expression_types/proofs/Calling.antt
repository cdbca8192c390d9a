-- Calls of builtins and defs.
use Rattle.std.proofs.Common.{◌≡◌, ◌∙◌, sym, ap, subst, refl, ℕ, suc, length, List, [], ◌∷◌, map, Some, None, Option, Bool, true, false, slice_get}
use Rattle.script_grammar.specs.Tree.{NamedCall}
use Rattle.script_grammar.specs.View.{listed, view_arg, view_call}
use Rattle.script_grammar.specs.declared.tree.Call as call
use Rattle.script_grammar.specs.declared.tree.Arg as arg
use Rattle.type_terms.specs.Term.{Term, variable, source_term, term_of, meaning}
use Rattle.type_terms.specs.Table.{Table, IsOver}
use Rattle.type_terms.specs.declared.ty.KindTerm.{KindTerm}
use Rattle.typing_rules.specs.declared.uses.Target.{Target}
use Rattle.typing_rules.specs.declared.uses.Target.TheVariants as target
use Rattle.typing_rules.specs.declared.uses.Builtin.{Builtin}
use Rattle.typing_rules.specs.Arguments.{Parameter, GivenArgument, Matched}
use Rattle.typing_rules.specs.Table.{params_of_builtin}
use Rattle.type_instances.specs.Schemes.{AreAmong, Scheme, IsInstance, builtin_scheme, open_numbers}
use Rattle.std.specs.Global.{Vec}
use Rattle.type_terms.specs.declared.ty.Ty.{Ty}
use Rattle.type_instances.specs.declared.instances.Instance.{Instance}
use Rattle.type_instances.specs.Instances.{Instantiates, instance_params}
use Rattle.type_instances.proofs.Builtins.{builtin_over, call_of_instance, instance_of_call}
use Rattle.script_grammar.proofs.Rows.{call_seen}
use Rattle.type_steps.specs.Environment.{Env, Found, AreUsesOver, AreKindsOver, IsEnvOver, with_use}
use Rattle.type_steps.specs.Flow.{HasNoType, InfersGiven, HaveNoGiven, IsCallable, IsInstantiated, HasNoCall, AreTermsOver, Defines, IsMade, IsTypeOf, given_under, if_yes}
use Rattle.type_steps.proofs.Calls.{call_infers, call_no_given, call_no_match, call_means_none, call_means_value, call_unknown, result_named}
use Rattle.expression_types.specs.Seen.{HasBegun, IsCalled}
use Rattle.expression_types.specs.declared.callees.Callee.{Callee}

-- ---- a scheme's instances

terms_by : (s : Table) (ts : List Term) → AreAmong (length s.types) (length s.kinds) ts → AreTermsOver s ts
terms_by s [] h = tt
terms_by s (t ∷ ts) h = (h.0, terms_by s ts h.1)

kinds_by : (s : Table) (ks : List KindTerm) → ((i : ℕ) (k : KindTerm) → slice_get ks i ≡ Some k → IsOver s (source_term k)) → AreKindsOver s ks
kinds_by s [] h = tt
kinds_by s (k ∷ ks) h = (h 0 k refl, kinds_by s ks (λ i u e. h (suc i) u e))

pub instantiated_as : (s s' : Table) (g : Scheme) (params : List Term) (result : Term) (kinds : List KindTerm) → Instantiates s s' g params result kinds → IsInstantiated s s' (IsInstance g) params result kinds
instantiated_as s s' g params result kinds i = record {
  params = terms_by s' params i.params_over;
  result = i.result_over;
  kinds = kinds_by s' kinds i.kinds_over;
  follows = i.follows;
  sound = i.sound;
  complete = λ a m ts v ks h. i.complete a m ts v ks h;
}

-- ---- builtins

builtin_callable : (s : Table) (env : Env) (at : ℕ) (b : Builtin) → IsCallable s env at (target.Builtin b) (params_of_builtin b) (IsInstance (builtin_scheme b))
builtin_callable s env at b = record {
  calls = λ a m k gs g ts ks matched i takes. (ks, takes, call_of_instance b gs ts ks g a matched i);
  instance = λ a m k gs g h. (h.2.types, h.0, h.2.matched, instance_of_call b gs h.0 g a h.2, h.1);
}

pub builtin_called : (s : Table) (env : Env) (at : ℕ) (b : Builtin) (ps : List Parameter) → ps ≡ params_of_builtin b → env.targets at ≡ Some (target.Builtin b) → IsCalled s env at (target.Builtin b) ps (builtin_scheme b)
builtin_called s env at b ps is means = record {
  over = builtin_over b s;
  callable = subst (λ qs. IsCallable s env at (target.Builtin b) qs (IsInstance (builtin_scheme b))) (sym is) (builtin_callable s env at b);
  meant = means;
}

-- ---- the tree of a call

module _ (e : call.Call) (l : List arg.Arg) (lis : l ≡ (call.out-Call e).args.items) where
  pub call_at : view_call e ≡ NamedCall (call.out-Call e).at (call.out-Call e).name (listed (map view_arg l))
  call_at = call_seen e ∙ ap (λ (k : List arg.Arg). NamedCall (call.out-Call e).at (call.out-Call e).name (listed (map view_arg k))) (sym lis)

  module _ (s s1 : Table) (env : Env) (t : Target) (ps : List Parameter) (g : Scheme) (params : List Term) (result : ℕ) (kinds : List KindTerm) (old mid : List Found)
      (o : IsEnvOver s env) (us : AreUsesOver s old) (c : IsCalled s env (call.out-Call e).at t ps g) (f : IsInstantiated s s1 (IsInstance g) params (variable result) kinds) (added : mid ≡ with_use old (call.out-Call e).at t kinds) where
    pub args_none : HaveNoGiven s1 env (listed (map view_arg l)) mid → HasNoType s env (view_call e) old
    args_none h =
        subst (λ x. HasNoType s env x old) (sym call_at)
        (call_no_given s s1 env (call.out-Call e).at (call.out-Call e).name (listed (map view_arg l)) t ps params (variable result) kinds old o us c.meant (IsInstance g) c.callable f (subst (λ (fs : List Found). HaveNoGiven s1 env (listed (map view_arg l)) fs) added h))

    by_answer : (s2 s3 : Table) (gs : List (GivenArgument ℕ)) (new : List Found) (made : Bool) → InfersGiven s1 s2 env (listed (map view_arg l)) gs (with_use old (call.out-Call e).at t kinds) new → IsMade made s2 s3 (λ a. Matched ps (given_under a gs) (map (meaning a) params)) →
        IsTypeOf s s3 env (NamedCall (call.out-Call e).at (call.out-Call e).name (listed (map view_arg l))) old new (if_yes made result)
    by_answer s2 s3 gs new true i h = call_infers s s1 env (call.out-Call e).at (call.out-Call e).name (listed (map view_arg l)) t ps params (variable result) kinds old o us c.meant (IsInstance g) c.callable f s2 s3 gs new i h
    by_answer s2 s3 gs new false i h = call_no_match s s1 env (call.out-Call e).at (call.out-Call e).name (listed (map view_arg l)) t ps params (variable result) kinds old o us c.meant (IsInstance g) c.callable f s2 gs new i h

    pub call_done : (s2 s3 : Table) (gs : List (GivenArgument ℕ)) (new : List Found) (made : Bool) (answer : Option ℕ) → answer ≡ if_yes made result → InfersGiven s1 s2 env (listed (map view_arg l)) gs mid new → IsMade made s2 s3 (λ a. Matched ps (given_under a gs) (map (meaning a) params)) → IsTypeOf s s3 env (view_call e) old new answer
    call_done s2 s3 gs new made answer answers i h =
        subst (λ (r : Option ℕ). IsTypeOf s s3 env (view_call e) old new r) (sym answers)
        (subst (λ x. IsTypeOf s s3 env x old new (if_yes made result)) (sym call_at)
        (by_answer s2 s3 gs new made (subst (λ (fs : List Found). InfersGiven s1 s2 env (listed (map view_arg l)) gs fs new) added i) h))

pub call_none : (s : Table) (env : Env) (e : call.Call) (old : List Found) → env.targets (call.out-Call e).at ≡ None → HasNoType s env (view_call e) old
call_none s env e old means = subst (λ x. HasNoType s env x old) (sym (call_seen e)) (call_means_none s env (call.out-Call e).at (call.out-Call e).name (listed (map view_arg (call.out-Call e).args.items)) old means)

pub call_value : (s : Table) (env : Env) (e : call.Call) (t : ℕ) (old : List Found) → env.targets (call.out-Call e).at ≡ Some (target.Slot t) → HasNoType s env (view_call e) old
call_value s env e t old means = subst (λ x. HasNoType s env x old) (sym (call_seen e)) (call_means_value s env (call.out-Call e).at (call.out-Call e).name (listed (map view_arg (call.out-Call e).args.items)) t old means)

pub call_no_def : (s : Table) (env : Env) (e : call.Call) (t : Target) (old : List Found) → env.targets (call.out-Call e).at ≡ Some t → HasNoCall s env (call.out-Call e).at t → HasNoType s env (view_call e) old
call_no_def s env e t old means h = subst (λ x. HasNoType s env x old) (sym (call_seen e)) (call_unknown s env (call.out-Call e).at (call.out-Call e).name (listed (map view_arg (call.out-Call e).args.items)) t old means h)

-- ---- the beginning of a call

pub begun : (s s1 s2 : Table) (g : Scheme) (at : ℕ) (t : Target) (i : Instance) (c : Callee) (kinds : Vec KindTerm) (old new : List Found) → Instantiates s s1 g (instance_params i) (term_of i.result) i.kinds.items → length i.kinds.items ≡ length (open_numbers 0 g.kinds) →
    (c.params ≡ i.params) × (kinds ≡ i.kinds) × Defines s1 s2 c.result (term_of i.result) → new ≡ with_use old at t kinds.items → HasBegun s s2 g at t c old new
begun s s1 s2 g at t i c kinds old new h counted p added = record {
  kinds = i.kinds.items;
  instantiated =
      subst (λ (v : Vec Ty). IsInstantiated s s2 (IsInstance g) (map term_of v.items) (variable c.result) i.kinds.items) (sym p.0)
      (result_named s s1 s2 (IsInstance g) (instance_params i) (term_of i.result) i.kinds.items c.result (instantiated_as s s1 g (instance_params i) (term_of i.result) i.kinds.items h) p.2);
  added = added ∙ ap (λ (v : Vec KindTerm). with_use old at t v.items) p.1;
  counted = counted;
}
