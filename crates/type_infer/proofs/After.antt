-- One statement more: what typing holds behind it, or that there is no typing with it.
use Rattle.std.proofs.Common.{◌≡◌, ◌∙◌, sym, ap, subst, refl, arith, ℕ, length, List, [], ◌∷◌, ◌++◌, map, Some, None, Bool}
use Rattle.std.proofs.lemmas.List.{length_push}
use Rattle.script_grammar.specs.Tree.{Sort, Tree, AFull, ACall, AnIf, ADef, AStmt, BindPart, CallPart, DefPart, IfPart, Bind, Stmt, Script}
use Rattle.script_grammar.specs.View.{view_bind, view_def, view_full}
use Rattle.script_grammar.specs.declared.tree.Bind.{Bind as ABind}
use Rattle.script_grammar.specs.declared.tree.Def.{Def}
use Rattle.type_terms.specs.Agrees.{Follows}
use Rattle.type_terms.specs.Table.{Table}
use Rattle.type_terms.specs.Term.{Term, variable}
use Rattle.typing_rules.specs.Scoping.{names}
use Rattle.typing_rules.specs.Scripts.{Targets}
use Rattle.type_instances.specs.Schemes.{scheme_of}
use Rattle.general_types.specs.Holding.{AreThere as AreHeldThere, HeldVariables}
use Rattle.type_steps.specs.Environment.{Env, Found, IsEnvOver, Known, function, value}
use Rattle.type_steps.specs.Flow.{HasNoType, Infers, IsTypeOf}
use Rattle.type_steps.specs.Counts.{AreCounted, IsTextCounted}
use Rattle.type_steps.specs.Defs.{HasNoTyping, HoldsBefore, IsTypingOf, KeepsTypings, outside}
use Rattle.type_steps.specs.Statements.{AreTypings, Done, HasNoTypings, IsNewDef, AreApart, bound, defined, known_of, ran, scope_after, text_said, with_last}
use Rattle.type_steps.specs.Whole.{AreWhole, IsDoneCounted}
use Rattle.type_steps.proofs.Appended.{known_more, whole_more}
use Rattle.type_steps.proofs.Going.{no_bound, no_call, no_def, no_if, typings_bound, typings_call, typings_def, typings_if}
use Rattle.type_steps.proofs.Wholes.{whole_apart}
use Rattle.expression_types.specs.Seen.{DefIs, IsSeen, def_seen, env_of, founds, newest_first, types_seen}
use Rattle.expression_types.specs.declared.environment.FoundUse.{FoundUse}
use Rattle.expression_types.specs.declared.environment.Known.{Known as AKnown}
use Rattle.expression_types.specs.declared.environment.Known.TheVariants as known
use Rattle.expression_types.specs.declared.environment.KnownDef.{KnownDef}
use Rattle.expression_types.specs.declared.environment.Names.{Names}
use Rattle.expression_types.specs.declared.environment.TypedName.{TypedName}
use Rattle.expression_types.specs.Order.{AreAdded, said_at, said_of, tokens_used}
use Rattle.type_infer.specs.Answers.{AreSaidAs, IsNumberedDef, IsTypedDef, text_of}
use Rattle.type_infer.specs.Scope.{AreSeenDefs}
use Rattle.type_infer.specs.Later.{HoldsLater, IsRenewed}
use Rattle.type_infer.specs.Matches.{AreNumberedDefs, HaveCountsIn, IsTextCountedIn, aimed, opens_of}
use Rattle.type_infer.specs.States.{IsAfter, IsDefKept, IsMore, IsNext, IsNoMore, IsNoted, IsReady, IsRunKept, IsSameTyping, IsTypedSo, IsTypedWith, IsValueKept, knowns}
use Rattle.type_infer.specs.Steps.{AreThere, done_in, dones_in}
use Rattle.type_infer.specs.declared.steps.Step.{Step}
use Rattle.type_infer.specs.declared.steps.Step.TheVariants as step
use Rattle.type_infer.specs.declared.steps.TypedExpr.{TypedExpr}
use Rattle.type_infer.specs.declared.steps.Typing.{Typing}
use Rattle.type_infer.proofs.Bridges.{done_last, dones_kept, dones_more, founds_counted, no_def_there, numbered_more, text_counted, there_bound, there_more}
use Rattle.type_infer.proofs.Later.{caught_up, held_there, later_now, later_still, later_value}
use Rattle.type_infer.proofs.Naming.{founds_counted_in, founds_named, text_counted_in, text_named, tokens_named}
use Rattle.type_infer.proofs.Scopes.{IsNewKnown, defs_later, newest_def, newest_value, with_def, with_value}

-- ---- all that holds behind statements, by its parts

pub record State (s : Table) (h : HeldVariables) (p : List ℕ) (bs : List AKnown) (ds : List KnownDef) (xs : List Step) (targets : Targets) (script : Script) : Type 0 where
  pub seen : AreSeenDefs s targets bs ds
  pub holds : HoldsLater s (newest_first ds bs) h p
  pub numbered : AreNumberedDefs ds (newest_first ds bs)
  pub there : AreThere (length ds) xs
  pub known : newest_first ds bs ≡ known_of (dones_in ds xs)
  pub typings : AreTypings s targets script (dones_in ds xs)
  pub whole : AreWhole script (dones_in ds xs)

state_of : (targets : Targets) (script : Script) (t : Typing) → IsReady targets t → IsTypedSo targets script t → State t.subst t.held t.pending.items t.before t.defs t.steps.items targets script
state_of targets script t ready so = record {
  seen = ready.seen;
  holds = ready.holds;
  numbered = ready.numbered;
  there = ready.there;
  known = so.known;
  typings = so.typings;
  whole = so.whole;
}

after_of : (targets : Targets) (script : Script) (t : Typing) → State t.subst t.held t.pending.items t.before t.defs t.steps.items targets script → IsAfter targets script t
after_of targets script t st = record {
  ready = record { seen = st.seen; holds = st.holds; numbered = st.numbered; there = st.there };
  typed = record { known = st.known; typings = st.typings; whole = st.whole };
}

pub state_as : (t : Typing) (s : Table) (h : HeldVariables) (p : List ℕ) (bs : List AKnown) (ds : List KnownDef) (xs : List Step) (targets : Targets) (script : Script) → t.subst ≡ s → t.held ≡ h → t.pending.items ≡ p → t.before ≡ bs → t.defs ≡ ds → t.steps.items ≡ xs →
    State s h p bs ds xs targets script → IsAfter targets script t
state_as t s h p bs ds xs targets script es eh ep eb ed ex st =
    let a : State t.subst h p bs ds xs targets script = subst (λ (y : Table). State y h p bs ds xs targets script) (sym es) st in
    let b : State t.subst t.held p bs ds xs targets script = subst (λ (y : HeldVariables). State t.subst y p bs ds xs targets script) (sym eh) a in
    let c : State t.subst t.held t.pending.items bs ds xs targets script = subst (λ (y : List ℕ). State t.subst t.held y bs ds xs targets script) (sym ep) b in
    let d : State t.subst t.held t.pending.items t.before ds xs targets script = subst (λ (y : List AKnown). State t.subst t.held t.pending.items y ds xs targets script) (sym eb) c in
    let e : State t.subst t.held t.pending.items t.before t.defs xs targets script = subst (λ (y : List KnownDef). State t.subst t.held t.pending.items t.before y xs targets script) (sym ed) d in
    after_of targets script t (subst (λ (y : List Step). State t.subst t.held t.pending.items t.before t.defs y targets script) (sym ex) e)

-- the same typing, whose lists may have room for more
pub after_same : (targets : Targets) (script : Script) (old new : Typing) → IsSameTyping old new → IsAfter targets script old → IsAfter targets script new
after_same targets script old new same a = state_as new old.subst old.held old.pending.items old.before old.defs old.steps.items targets script same.subst same.held same.pending same.before same.defs same.steps (state_of targets script old a.ready a.typed)

-- ---- an expression, with what is known by the definitions

infers_known : (s s' : Table) (targets : Targets) (ks ls : List Known) {r : Sort} (e : Tree r) (u : Term) (fs : List Found) → ks ≡ ls → Infers s s' (outside targets ks) e u [] fs → Infers s s' (outside targets ls) e u [] fs
infers_known s s' targets ks ls e u fs same i = subst (λ (y : List Known). Infers s s' (outside targets y) e u [] fs) same i

none_known : (s : Table) (targets : Targets) (ks ls : List Known) {r : Sort} (e : Tree r) → ks ≡ ls → HasNoType s (outside targets ks) e [] → HasNoType s (outside targets ls) e []
none_known s targets ks ls e same n = subst (λ (y : List Known). HasNoType s (outside targets y) e []) same n

counted_founds : (s : Table) (h : HeldVariables) (p : List ℕ) (bs : List AKnown) (ds : List KnownDef) (xs : List Step) (targets : Targets) (script : Script) → State s h p bs ds xs targets script → (fs : List Found) → HaveCountsIn ds fs → AreCounted (known_of (dones_in ds xs)) fs
counted_founds s h p bs ds xs targets script st fs c = subst (λ (ks : List Known). AreCounted ks fs) st.known (founds_counted ds (newest_first ds bs) st.numbered fs c)

-- ---- a binding

abbrev Bind' : ℕ → List ℕ → Tree AFull → Bool → Tree AStmt
Bind' at name f semicolon = Stmt (BindPart (Bind at name f)) semicolon

abbrev name_as : ℕ → TypedExpr → TypedName
name_as at e = record { at = at; var = e.var }

bound_state : (s s' : Table) (h : HeldVariables) (p : List ℕ) (bs : List AKnown) (ds : List KnownDef) (xs : List Step) (targets : Targets) (script : Script) (at : ℕ) (name : List ℕ) (f : Tree AFull) (semicolon : Bool) (e : TypedExpr) →
    State s h p bs ds xs targets script → IsTypedWith s s' (outside targets (newest_first ds bs)) ds f e → IsNext targets script (Bind' at name f semicolon) →
    State s' h (p ++ e.var ∷ []) (bs ++ known.Value (name_as at e) ∷ []) ds (xs ++ step.Bound (name_as at e) e.uses ∷ []) targets (with_last script (Bind' at name f semicolon))
bound_state s s' h p bs ds xs targets script at name f semicolon e st t next =
    let n = name_as at e in
    let fs = founds e.uses.items in
    let ys = dones_in ds xs in
    let ks = newest_first ds bs in
    let q = Bind' at name f semicolon in
    let x = bound at (variable e.var) fs in
    let i = infers_known s s' targets ks (known_of ys) f (variable e.var) fs st.known t.infers in
    let all : dones_in ds (xs ++ step.Bound n e.uses ∷ []) ≡ ys ++ x ∷ [] = dones_more ds xs (step.Bound n e.uses) in
    let more : newest_first ds (bs ++ known.Value n ∷ []) ≡ value at (variable e.var) ∷ ks = newest_value ds bs n in
    let whole = whole_more script ys q x next.placed st.whole (refl, t.named ∙ tokens_named targets (scope_after [] script) f next.aimed) (counted_founds s h p bs ds xs targets script st fs t.counted) in
    let typings = typings_bound s s' targets script ys st.typings t.some at name f semicolon (variable e.var) fs i in
    let holds = later_value s s' ks h p at e.var st.holds i.follows i.over in
    let numbered : AreNumberedDefs ds (value at (variable e.var) ∷ ks) = record { each = λ t d is. st.numbered.each t d is } in
    record {
      seen = with_value s' targets bs ds n i.over (defs_later s s' targets bs ds i.follows st.seen);
      holds = subst (λ (l : List Known). HoldsLater s' l h (p ++ e.var ∷ [])) (sym more) holds;
      numbered = subst (AreNumberedDefs ds) (sym more) numbered;
      there = there_bound (length ds) xs (step.Bound n e.uses) st.there (tt, tt);
      known = more ∙ ap (λ (l : List Known). value at (variable e.var) ∷ l) st.known ∙ sym (known_more ys x) ∙ ap known_of (sym all);
      typings = subst (AreTypings s' targets (with_last script q)) (sym all) typings;
      whole = subst (AreWhole (with_last script q)) (sym all) whole;
    }

bound_stops : (s : Table) (h : HeldVariables) (p : List ℕ) (bs : List AKnown) (ds : List KnownDef) (xs : List Step) (targets : Targets) (script : Script) (at : ℕ) (name : List ℕ) (f : Tree AFull) (semicolon : Bool) →
    State s h p bs ds xs targets script → HasNoType s (outside targets (newest_first ds bs)) f [] → HasNoTypings targets (with_last script (Bind' at name f semicolon))
bound_stops s h p bs ds xs targets script at name f semicolon st none =
    no_bound s targets script (dones_in ds xs) st.typings at name f semicolon (none_known s targets (newest_first ds bs) (known_of (dones_in ds xs)) f st.known none)

-- ---- what runs

module _ (s s' : Table) (h : HeldVariables) (p : List ℕ) (bs : List AKnown) (ds : List KnownDef) (xs : List Step) (targets : Targets) (script : Script) (q : Tree AStmt) (e : TypedExpr) where
  ran_state : State s h p bs ds xs targets script → Follows s s' →
      AreTypings s' targets (with_last script q) (dones_in ds xs ++ ran (founds e.uses.items) ∷ []) → AreWhole (with_last script q) (dones_in ds xs ++ ran (founds e.uses.items) ∷ []) →
      State s' h p bs ds (xs ++ step.Ran e.uses ∷ []) targets (with_last script q)
  ran_state st follows typings whole =
      let ys = dones_in ds xs in
      let x = ran (founds e.uses.items) in
      let all : dones_in ds (xs ++ step.Ran e.uses ∷ []) ≡ ys ++ x ∷ [] = dones_more ds xs (step.Ran e.uses) in
      record {
        seen = defs_later s s' targets bs ds follows st.seen;
        holds = later_still s s' (newest_first ds bs) h p st.holds follows;
        numbered = st.numbered;
        there = there_bound (length ds) xs (step.Ran e.uses) st.there (tt, tt);
        known = st.known ∙ sym (known_more ys x) ∙ ap known_of (sym all);
        typings = subst (AreTypings s' targets (with_last script q)) (sym all) typings;
        whole = subst (AreWhole (with_last script q)) (sym all) whole;
      }

call_state : (s s' : Table) (h : HeldVariables) (p : List ℕ) (bs : List AKnown) (ds : List KnownDef) (xs : List Step) (targets : Targets) (script : Script) (c : Tree ACall) (semicolon : Bool) (e : TypedExpr) →
    State s h p bs ds xs targets script → IsTypedWith s s' (outside targets (newest_first ds bs)) ds c e → IsNext targets script (Stmt (CallPart c) semicolon) →
    State s' h p bs ds (xs ++ step.Ran e.uses ∷ []) targets (with_last script (Stmt (CallPart c) semicolon))
call_state s s' h p bs ds xs targets script c semicolon e st t next =
    let fs = founds e.uses.items in
    let ys = dones_in ds xs in
    let q = Stmt (CallPart c) semicolon in
    let i = infers_known s s' targets (newest_first ds bs) (known_of ys) c (variable e.var) fs st.known t.infers in
    ran_state s s' h p bs ds xs targets script q e st i.follows (typings_call s s' targets script ys st.typings t.some c semicolon (variable e.var) fs i)
    (whole_more script ys q (ran fs) next.placed st.whole (t.named ∙ tokens_named targets (scope_after [] script) c next.aimed) (counted_founds s h p bs ds xs targets script st fs t.counted))

call_stops : (s : Table) (h : HeldVariables) (p : List ℕ) (bs : List AKnown) (ds : List KnownDef) (xs : List Step) (targets : Targets) (script : Script) (c : Tree ACall) (semicolon : Bool) →
    State s h p bs ds xs targets script → HasNoType s (outside targets (newest_first ds bs)) c [] → HasNoTypings targets (with_last script (Stmt (CallPart c) semicolon))
call_stops s h p bs ds xs targets script c semicolon st none =
    no_call s targets script (dones_in ds xs) st.typings c semicolon (none_known s targets (newest_first ds bs) (known_of (dones_in ds xs)) c st.known none)

if_state : (s s' : Table) (h : HeldVariables) (p : List ℕ) (bs : List AKnown) (ds : List KnownDef) (xs : List Step) (targets : Targets) (script : Script) (c : Tree AnIf) (semicolon : Bool) (e : TypedExpr) →
    State s h p bs ds xs targets script → IsTypedWith s s' (outside targets (newest_first ds bs)) ds c e → IsNext targets script (Stmt (IfPart c) semicolon) →
    State s' h p bs ds (xs ++ step.Ran e.uses ∷ []) targets (with_last script (Stmt (IfPart c) semicolon))
if_state s s' h p bs ds xs targets script c semicolon e st t next =
    let fs = founds e.uses.items in
    let ys = dones_in ds xs in
    let q = Stmt (IfPart c) semicolon in
    let i = infers_known s s' targets (newest_first ds bs) (known_of ys) c (variable e.var) fs st.known t.infers in
    ran_state s s' h p bs ds xs targets script q e st i.follows (typings_if s s' targets script ys st.typings t.some c semicolon (variable e.var) fs i)
    (whole_more script ys q (ran fs) next.placed st.whole (t.named ∙ tokens_named targets (scope_after [] script) c next.aimed) (counted_founds s h p bs ds xs targets script st fs t.counted))

if_stops : (s : Table) (h : HeldVariables) (p : List ℕ) (bs : List AKnown) (ds : List KnownDef) (xs : List Step) (targets : Targets) (script : Script) (c : Tree AnIf) (semicolon : Bool) →
    State s h p bs ds xs targets script → HasNoType s (outside targets (newest_first ds bs)) c [] → HasNoTypings targets (with_last script (Stmt (IfPart c) semicolon))
if_stops s h p bs ds xs targets script c semicolon st none =
    no_if s targets script (dones_in ds xs) st.typings c semicolon (none_known s targets (newest_first ds bs) (known_of (dones_in ds xs)) c st.known none)

-- ---- a def

def_state : (s s' : Table) (h : HeldVariables) (p : List ℕ) (bs : List AKnown) (ds : List KnownDef) (xs : List Step) (targets : Targets) (script : Script) (d : Def) (semicolon : Bool) (h' : HeldVariables) (t : KnownDef) →
    State s h p bs ds xs targets script → IsTypedDef s s' targets (newest_first ds bs) d h' t → IsNumberedDef s' t → map text_said (text_of t) ≡ map (aimed targets) (tokens_used (view_def d)) → IsTextCountedIn ds (text_of t) → IsNext targets script (Stmt (DefPart (view_def d)) semicolon) →
    State s' h' [] (bs ++ known.Function (length ds) ∷ []) (ds ++ t ∷ []) (xs ++ step.Defined (length ds) ∷ []) targets (with_last script (Stmt (DefPart (view_def d)) semicolon))
def_state s s' h p bs ds xs targets script d semicolon h' t st td check named few next =
    let us = text_of t in
    let ys = dones_in ds xs in
    let ks = newest_first ds bs in
    let q = Stmt (DefPart (view_def d)) semicolon in
    let x = defined (view_def d) us in
    let ds' = ds ++ t ∷ [] in
    let xs' = xs ++ step.Defined (length ds) ∷ [] in
    let last : done_in ds' (step.Defined (length ds)) ≡ x ∷ [] = done_last ds t ∙ ap (λ (y : Def). defined (view_def y) us ∷ []) td.def in
    let all : dones_in ds' xs' ≡ ys ++ x ∷ [] =
    dones_more ds' xs (step.Defined (length ds)) ∙ ap (λ (zs : List Done). zs ++ done_in ds' (step.Defined (length ds))) (dones_kept ds t xs st.there) ∙ ap (λ (zs : List Done). ys ++ zs) last in
    let more : newest_first ds' (bs ++ known.Function (length ds) ∷ []) ≡ function (view_def d) us ∷ ks = newest_def ds bs t st.seen.here ∙ ap (λ (y : Def). function (view_def y) us ∷ ks) td.def in
    let counts : IsTextCounted (known_of ys) us = subst (λ (l : List Known). IsTextCounted l us) st.known (text_counted ds ks st.numbered us few) in
    let counted : IsDoneCounted (known_of ys) x = ((opens_of t, check.numbered), counts) in
    let whole = whole_more script ys q x next.placed st.whole (refl, named ∙ tokens_named targets (scope_after [] script) (view_def d) next.aimed) counted in
    let typing : IsTypingOf s' targets (known_of ys) (view_def d) (scheme_of t.general) us = subst (λ (l : List Known). IsTypingOf s' targets l (view_def d) (scheme_of t.general) us) st.known td.typing in
    let keeps : KeepsTypings s s' targets (known_of ys) (view_def d) = subst (λ (l : List Known). KeepsTypings s s' targets l (view_def d)) st.known td.complete in
    let typings = typings_def s s' targets script ys st.typings check.some (view_def d) semicolon us (scheme_of t.general) st.whole whole counted td.follows keeps typing check.numbered in
    let apart : AreApart (function (view_def d) us ∷ known_of ys) = subst AreApart (known_more ys x) (whole_apart (with_last script q) (ys ++ x ∷ []) whole) in
    let new : IsNewDef ks (view_def d) = subst (λ (l : List Known). IsNewDef l (view_def d)) (sym st.known) apart.0 in
    let known_def : IsNewKnown s' targets bs ds t (view_def d) = record {
      def = ap view_def td.def;
      at = td.at;
      params = td.params;
      typing = td.typing;
      new = no_def_there ds ks (view_def d) st.numbered new;
    } in
    let long = length_push ds t in
    record {
      seen = with_def s' targets bs ds t (view_def d) known_def (defs_later s s' targets bs ds td.follows st.seen);
      holds = later_now s' (newest_first ds' (bs ++ known.Function (length ds) ∷ [])) h' (subst (λ (l : List Known). HoldsBefore s' l h') (sym more) td.held);
      numbered = subst (AreNumberedDefs ds') (sym more) (numbered_more ds ks t (view_def d) us st.numbered new td.at check.numbered);
      there = there_bound (length ds') xs (step.Defined (length ds)) (there_more (length ds) (length ds') xs (omega (arith, long)) st.there) (omega (arith, long), tt);
      known = more ∙ ap (λ (l : List Known). function (view_def d) us ∷ l) st.known ∙ sym (known_more ys x) ∙ ap known_of (sym all);
      typings = subst (AreTypings s' targets (with_last script q)) (sym all) typings;
      whole = subst (AreWhole (with_last script q)) (sym all) whole;
    }

def_stops : (s : Table) (h : HeldVariables) (p : List ℕ) (bs : List AKnown) (ds : List KnownDef) (xs : List Step) (targets : Targets) (script : Script) (d : Tree ADef) (semicolon : Bool) →
    State s h p bs ds xs targets script → HasNoTyping s targets (newest_first ds bs) d → HasNoTypings targets (with_last script (Stmt (DefPart d) semicolon))
def_stops s h p bs ds xs targets script d semicolon st none =
    no_def s targets script (dones_in ds xs) st.typings d semicolon (subst (λ (l : List Known). HasNoTyping s targets l d) st.known none)

-- ---- the same over what the program holds

-- the statements before are as they were
pub record GoesOn (old mid : Typing) : Type 0 where
  pub before : mid.before ≡ old.before
  pub defs : mid.defs ≡ old.defs
  pub steps : mid.steps ≡ old.steps

pub env_is : (names : Names) (targets : Targets) (bs : List AKnown) (ds : List KnownDef) → (env_of names).targets ≡ targets → names.inner.now ≡ [] → names.before.now ≡ bs → names.defs.now ≡ ds → env_of names ≡ outside targets (newest_first ds bs)
env_is names targets bs ds et ei eb ed =
    ap (λ (t : Targets). env t (newest_first names.defs.now names.before.now) (types_seen names.inner.now)) et
    ∙ ap (λ (l : List TypedName). env targets (newest_first names.defs.now names.before.now) (types_seen l)) ei
    ∙ ap (λ (l : List AKnown). env targets (newest_first names.defs.now l) []) eb
    ∙ ap (λ (l : List KnownDef). env targets (newest_first l bs) []) ed where
      env : Targets → List Known → List (ℕ × Term) → Env
      env t ks us = record { targets = t; before = ks; inner = us }

-- what is to hold before an expression is typed
pub seen_outside : (targets : Targets) (t : Typing) (names : Names) → IsReady targets t → env_of names ≡ outside targets (knowns t) → names.defs.now ≡ t.defs → IsSeen t.subst names []
seen_outside targets t names ready env defs = record {
  over = subst (IsEnvOver t.subst) (sym env) (record { before = ready.seen.over; inner = tt });
  uses_over = tt;
  calls = λ x. subst (λ (y : Env). DefIs t.subst y x (def_seen x names.defs.now)) (sym env) (subst (λ (l : List KnownDef). DefIs t.subst (outside targets (knowns t)) x (def_seen x l)) (sym defs) (ready.seen.calls x));
}

pub held_then : (targets : Targets) (t : Typing) → IsReady targets t → AreHeldThere t.subst t.held
held_then targets t ready = held_there t.subst (knowns t) t.held t.pending.items ready.holds

pub holds_outside : (targets : Targets) (t : Typing) (names : Names) (h : HeldVariables) → IsReady targets t → env_of names ≡ outside targets (knowns t) → IsRenewed t.subst t.pending.items t.held h → HoldsBefore t.subst (env_of names).before h
holds_outside targets t names h ready env new = subst (λ (y : Env). HoldsBefore t.subst y.before h) (sym env) (caught_up t.subst (knowns t) t.held h t.pending.items ready.holds new)

typed_known : (s s' : Table) (names : Names) (targets : Targets) (bs : List AKnown) (ds : List KnownDef) {r : Sort} (e : Tree r) (x : TypedExpr) → env_of names ≡ outside targets (newest_first ds bs) → names.defs.now ≡ ds →
    IsTypedWith s s' (env_of names) names.defs.now e x → IsTypedWith s s' (outside targets (newest_first ds bs)) ds e x
typed_known s s' names targets bs ds e x env ed t =
    subst (λ (y : Env). IsTypedWith s s' y ds e x) env (subst (λ (y : List KnownDef). IsTypedWith s s' (env_of names) y e x) ed t)

pub value_more : (targets : Targets) (b : ABind) (old mid new : Typing) (names : Names) (e : TypedExpr) → IsReady targets old → GoesOn old mid → mid.held ≡ old.held → mid.pending ≡ old.pending → env_of names ≡ outside targets (knowns old) → names.defs.now ≡ old.defs →
    IsTypedWith old.subst mid.subst (env_of names) names.defs.now (view_full b.value) e → IsValueKept b.at e mid new → IsMore targets (BindPart (view_bind b)) old new
value_more targets b old mid new names e ready on held pending env ed typed kept script semicolon so next =
    let bs = old.before in
    let ds = old.defs in
    let xs = old.steps.items in
    let t = typed_known old.subst mid.subst names targets bs ds (view_full b.value) e env ed typed in
    let st = bound_state old.subst mid.subst old.held old.pending.items bs ds xs targets script b.at b.name (view_full b.value) semicolon e (state_of targets script old ready so) t next in
    state_as new mid.subst old.held (old.pending.items ++ e.var ∷ []) (bs ++ known.Value (name_as b.at e) ∷ []) ds (xs ++ step.Bound (name_as b.at e) e.uses ∷ []) targets (with_last script (Bind' b.at b.name (view_full b.value) semicolon))
    kept.subst (kept.held ∙ held) (kept.pending ∙ ap (λ v. v.items ++ e.var ∷ []) pending)
    (kept.before ∙ ap (λ (v : List AKnown). v ++ known.Value (name_as b.at e) ∷ []) on.before)
    (kept.defs ∙ on.defs)
    (kept.steps ∙ ap (λ v. v.items ++ step.Bound (name_as b.at e) e.uses ∷ []) on.steps) st

pub value_no_more : (targets : Targets) (b : ABind) (old : Typing) (names : Names) → IsReady targets old → env_of names ≡ outside targets (knowns old) → HasNoType old.subst (env_of names) (view_full b.value) [] → IsNoMore targets (BindPart (view_bind b)) old
value_no_more targets b old names ready env none script semicolon so =
    bound_stops old.subst old.held old.pending.items old.before old.defs old.steps.items targets script b.at b.name (view_full b.value) semicolon (state_of targets script old ready so)
    (subst (λ (y : Env). HasNoType old.subst y (view_full b.value) []) env none)

pub call_more : (targets : Targets) (b : Tree ACall) (old mid new : Typing) (names : Names) (e : TypedExpr) → IsReady targets old → GoesOn old mid → mid.held ≡ old.held → mid.pending ≡ old.pending → env_of names ≡ outside targets (knowns old) → names.defs.now ≡ old.defs →
    IsTypedWith old.subst mid.subst (env_of names) names.defs.now b e → IsRunKept e mid new → IsMore targets (CallPart b) old new
call_more targets b old mid new names e ready on held pending env ed typed kept script semicolon so next =
    let bs = old.before in
    let ds = old.defs in
    let xs = old.steps.items in
    let t = typed_known old.subst mid.subst names targets bs ds b e env ed typed in
    let st = call_state old.subst mid.subst old.held old.pending.items bs ds xs targets script b semicolon e (state_of targets script old ready so) t next in
    state_as new mid.subst old.held old.pending.items bs ds (xs ++ step.Ran e.uses ∷ []) targets (with_last script (Stmt (CallPart b) semicolon))
    kept.subst (kept.held ∙ held) (kept.pending ∙ ap (λ v. v.items) pending) (kept.before ∙ on.before) (kept.defs ∙ on.defs) (kept.steps ∙ ap (λ v. v.items ++ step.Ran e.uses ∷ []) on.steps) st

pub call_no_more : (targets : Targets) (b : Tree ACall) (old : Typing) (names : Names) → IsReady targets old → env_of names ≡ outside targets (knowns old) → HasNoType old.subst (env_of names) b [] → IsNoMore targets (CallPart b) old
call_no_more targets b old names ready env none script semicolon so =
    call_stops old.subst old.held old.pending.items old.before old.defs old.steps.items targets script b semicolon (state_of targets script old ready so) (subst (λ (y : Env). HasNoType old.subst y b []) env none)

pub if_more : (targets : Targets) (b : Tree AnIf) (old mid new : Typing) (names : Names) (e : TypedExpr) → IsReady targets old → GoesOn old mid → mid.held ≡ old.held → mid.pending ≡ old.pending → env_of names ≡ outside targets (knowns old) → names.defs.now ≡ old.defs →
    IsTypedWith old.subst mid.subst (env_of names) names.defs.now b e → IsRunKept e mid new → IsMore targets (IfPart b) old new
if_more targets b old mid new names e ready on held pending env ed typed kept script semicolon so next =
    let bs = old.before in
    let ds = old.defs in
    let xs = old.steps.items in
    let t = typed_known old.subst mid.subst names targets bs ds b e env ed typed in
    let st = if_state old.subst mid.subst old.held old.pending.items bs ds xs targets script b semicolon e (state_of targets script old ready so) t next in
    state_as new mid.subst old.held old.pending.items bs ds (xs ++ step.Ran e.uses ∷ []) targets (with_last script (Stmt (IfPart b) semicolon))
    kept.subst (kept.held ∙ held) (kept.pending ∙ ap (λ v. v.items) pending) (kept.before ∙ on.before) (kept.defs ∙ on.defs) (kept.steps ∙ ap (λ v. v.items ++ step.Ran e.uses ∷ []) on.steps) st

pub if_no_more : (targets : Targets) (b : Tree AnIf) (old : Typing) (names : Names) → IsReady targets old → env_of names ≡ outside targets (knowns old) → HasNoType old.subst (env_of names) b [] → IsNoMore targets (IfPart b) old
if_no_more targets b old names ready env none script semicolon so =
    if_stops old.subst old.held old.pending.items old.before old.defs old.steps.items targets script b semicolon (state_of targets script old ready so) (subst (λ (y : Env). HasNoType old.subst y b []) env none)

pub def_more : (targets : Targets) (d : Def) (old mid new : Typing) (names : Names) (t : KnownDef) → IsReady targets old → GoesOn old mid → mid.pending.items ≡ [] → env_of names ≡ outside targets (knowns old) → names.defs.now ≡ old.defs →
    IsTypedDef old.subst mid.subst (env_of names).targets (env_of names).before d mid.held t → IsNumberedDef mid.subst t → AreSaidAs names (tokens_used (view_def d)) (text_of t) → IsDefKept t mid new → IsMore targets (DefPart (view_def d)) old new
def_more targets d old mid new names t ready on none env ed typed check said kept script semicolon so next =
    let bs = old.before in
    let ds = old.defs in
    let xs = old.steps.items in
    let there : IsTypedDef old.subst mid.subst targets (knowns old) d mid.held t = subst (λ (y : Env). IsTypedDef old.subst mid.subst y.targets y.before d mid.held t) env typed in
    let td : IsTypedDef old.subst mid.subst targets (knowns old) d new.held t = subst (λ (y : HeldVariables). IsTypedDef old.subst mid.subst targets (knowns old) d y t) (sym kept.held) there in
    let us = text_of t in
    let named : map text_said us ≡ map (aimed targets) (tokens_used (view_def d)) = subst (λ (y : Env). map text_said us ≡ map (aimed y.targets) (tokens_used (view_def d))) env (text_named names (tokens_used (view_def d)) us said) in
    let few : IsTextCountedIn ds us = subst (λ (y : List KnownDef). IsTextCountedIn y us) ed (text_counted_in names (tokens_used (view_def d)) us said) in
    let same : mid.defs ≡ ds = on.defs in
    let st = def_state old.subst mid.subst old.held old.pending.items bs ds xs targets script d semicolon new.held t (state_of targets script old ready so) td check named few next in
    state_as new mid.subst new.held [] (bs ++ known.Function (length ds) ∷ []) (ds ++ t ∷ []) (xs ++ step.Defined (length ds) ∷ []) targets (with_last script (Stmt (DefPart (view_def d)) semicolon))
    kept.subst refl (kept.pending ∙ none)
    (kept.before ∙ ap (λ (v : List AKnown). v ++ known.Function (length mid.defs) ∷ []) on.before ∙ ap (λ (y : List KnownDef). bs ++ known.Function (length y) ∷ []) same)
    (kept.defs ∙ ap (λ (y : List KnownDef). y ++ t ∷ []) same)
    (kept.steps ∙ ap (λ v. v.items ++ step.Defined (length mid.defs) ∷ []) on.steps ∙ ap (λ (y : List KnownDef). xs ++ step.Defined (length y) ∷ []) same) st

pub def_no_more : (targets : Targets) (d : Tree ADef) (old : Typing) (names : Names) → IsReady targets old → env_of names ≡ outside targets (knowns old) → HasNoTyping old.subst (env_of names).targets (env_of names).before d → IsNoMore targets (DefPart d) old
def_no_more targets d old names ready env none script semicolon so =
    def_stops old.subst old.held old.pending.items old.before old.defs old.steps.items targets script d semicolon (state_of targets script old ready so) (subst (λ (y : Env). HasNoTyping old.subst y.targets y.before d) env none)

-- ---- one expression

pub typed_with : (s s' : Table) (names : Names) {r : Sort} (e : Tree r) (old new : List FoundUse) (var : ℕ) (t : TypedExpr) → old ≡ [] → IsTypeOf s s' (env_of names) e (founds old) (founds new) (Some var) → AreAdded names (tokens_used e) (founds old) (founds new) → IsNoted s' var new t → IsTypedWith s s' (env_of names) names.defs.now e t
typed_with s s' names e old new var t empty typed order noted =
    let all : map said_of (founds new) ≡ map (said_at names) (tokens_used e) = subst (λ (us : List FoundUse). AreAdded names (tokens_used e) (founds us) (founds new)) empty order in
    let these : map said_of (founds t.uses.items) ≡ map (said_at names) (tokens_used e) = subst (λ (us : List FoundUse). map said_of (founds us) ≡ map (said_at names) (tokens_used e)) (sym noted.uses_are) all in
    record {
      infers =
          subst (λ (n : ℕ). Infers s s' (env_of names) e (variable n) [] (founds t.uses.items)) (sym noted.same)
          (subst (λ (us : List FoundUse). Infers s s' (env_of names) e (variable var) [] (founds us)) (sym noted.uses_are)
          (subst (λ (us : List FoundUse). Infers s s' (env_of names) e (variable var) (founds us) (founds new)) empty typed));
      some = noted.some;
      named = founds_named names (tokens_used e) (founds t.uses.items) these;
      counted = founds_counted_in names (tokens_used e) (founds t.uses.items) these;
    }

pub not_typed : (s s' : Table) (env : Env) {r : Sort} (e : Tree r) (old new : List FoundUse) → old ≡ [] → IsTypeOf s s' env e (founds old) (founds new) None → HasNoType s env e []
not_typed s s' env e old new empty none = subst (λ (us : List FoundUse). HasNoType s env e (founds us)) empty none
