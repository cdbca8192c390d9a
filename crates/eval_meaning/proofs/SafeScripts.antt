-- The evaluation of a typed script is not stuck.
use Rattle.std.proofs.Common.{◌≡◌, inl, inr, ℕ, suc, ◌+◌, ◌<◌, ◌≤◌, List, [], ◌∷◌, ◌++◌, length, Bool, true, false, cond, Option, Some, None, Result, Ok, Err, refl, sym, ap, subst, ◌∙◌, arith, nat_eq, eqb-true}
use Rattle.std.specs.List.{list_any}
use Rattle.liq_base.specs.declared.limits.TheConstants.{MAX_CALLS}
use Rattle.liq_base.specs.declared.memory.Kind.{Kind}
use Rattle.plan_core.specs.declared.node.Node.{Node}
use Rattle.plan_core.specs.declared.plan.Plan.{Plan}
use Rattle.plan_core.specs.Plans.{is_output}
use Rattle.script_grammar.specs.Placed.{IsPlaced}
use Rattle.script_grammar.specs.Spelling.{spell}
use Rattle.script_grammar.specs.Tree.{Tree, Many, ADef, AStmt, AFull, ACall, AnIf, none, more, Stmt, BindPart, DefPart, CallPart, IfPart, Bind, Script}
use Rattle.type_terms.specs.Ground.{Ground}
use Rattle.typing_rules.specs.declared.uses.Use.{Use}
use Rattle.typing_rules.specs.Answers.{IsTypedScript}
use Rattle.typing_rules.specs.Arguments as arguments
use Rattle.typing_rules.specs.Defs.{AreDefsOf, IsDefOf, def_at}
use Rattle.typing_rules.specs.Kinds.{Stands, around, read, target_at}
use Rattle.typing_rules.specs.Scripts.{Entry, IsTypedTo, calls_behind, def_token, function, params_of, sight, types_of, value}
use Rattle.typing_rules.specs.Typing.{Sight, TypesByToken, DefHas, Has, type_at}
use Rattle.typing_rules.proofs.Knot.{IsKept, kept_from}
use Rattle.typing_rules.proofs.Reading.{same_kinds, same_target}
use Rattle.script_values.specs.declared.fault.Stop.{Stop}
use Rattle.script_values.specs.declared.fault.Stop.TheVariants as faults
use Rattle.script_values.specs.declared.fault.EvalFault.TheVariants as told
use Rattle.script_values.specs.declared.machine.Machine.{Machine}
use Rattle.script_values.specs.Faults.{fault_in}
use Rattle.script_values.specs.Machines.{first_machine}
use Rattle.script_values.specs.Slots.{Argument, SlotValue, value_at_token}
use Rattle.script_values.specs.Values.{Value}
use Rattle.eval_meaning.specs.Calls.{is_setting}
use Rattle.eval_meaning.specs.Meaning as meaning
use Rattle.eval_meaning.specs.Meaning.{Surroundings, World, call_by, full, run}
use Rattle.eval_meaning.specs.Scripts.{Ending, and_then, closed, settings_ended, evaluation, ending_in, numbered, plan_of, settings_settled, statement, statements, tick_of, top_scope, turned}
use Rattle.eval_meaning.specs.BuiltinSafety.{AreA, BuiltinsAreSafe, Grows, IsA, IsTold, Of, Safe}
use Rattle.eval_meaning.specs.Safety.{HaveValues, IsNotStuck, Knows}
use Rattle.eval_meaning.proofs.SafeDefs.{IsFound, safe_body}
use Rattle.eval_meaning.proofs.SafeExpressions.{safe_call, safe_choice, safe_full}
use Rattle.eval_meaning.proofs.SafeGrowth.{after, fits_later, grows_on, stays}

-- ---- the bindings of a script

slot_first : (at : ℕ) (a b : List SlotValue) (v : Value) → value_at_token at a ≡ Some v → value_at_token at (a ++ b) ≡ Some v
slot_first at [] b v is = absurd cc
slot_first at (s ∷ a) b v is = by_test (nat_eq s.0 at) s.1 (value_at_token at a) (value_at_token at (a ++ b)) v (slot_first at a b v) is where
  by_test : (t : Bool) (u : Value) (one other : Option Value) (w : Value) → (one ≡ Some w → other ≡ Some w) → cond t (Some u) one ≡ Some w → cond t (Some u) other ≡ Some w
  by_test true u one other w later same = same
  by_test false u one other w later same = later same

slot_second : (at : ℕ) (a b : List SlotValue) → value_at_token at a ≡ None → value_at_token at (a ++ b) ≡ value_at_token at b
slot_second at [] b is = refl
slot_second at (s ∷ a) b is = no_test (nat_eq s.0 at) s.1 (value_at_token at a) (value_at_token at (a ++ b)) (value_at_token at b) (slot_second at a b) is where
  no_test : (t : Bool) (u : Value) (one other third : Option Value) → (one ≡ None → other ≡ third) → cond t (Some u) one ≡ None → cond t (Some u) other ≡ third
  no_test true u one other third later same = absurd cc
  no_test false u one other third later same = later same

-- each binding stands before this token
abbrev Below : ℕ → List SlotValue → Type 0
Below i slots = (at : ℕ) (v : Value) → value_at_token at slots ≡ Some v → at < i

unbound : (i : ℕ) (slots : List SlotValue) → Below i slots → (o : Option Value) → value_at_token i slots ≡ o → value_at_token i slots ≡ None
unbound i slots below None is = is
unbound i slots below (Some v) is = absurd (omega (arith, below i v is))

below_later : (i k : ℕ) (slots : List SlotValue) → i ≤ k → Below i slots → Below k slots
below_later i k slots le below at v is = omega (arith, below at v is)

below_push : (i k : ℕ) (slots : List SlotValue) (v : Value) → i < k → Below i slots → Below k (slots ++ (i, v) ∷ [])
below_push i k slots v lt below at w is = by_old (value_at_token at slots) refl where
  by_new : (b : Bool) → nat_eq i at ≡ b → cond b (Some v) None ≡ Some w → at < k
  by_new true same here = let e : i ≡ at = eqb-true i at same in omega arith
  by_new false same here = absurd cc

  by_old : (o : Option Value) → value_at_token at slots ≡ o → at < k
  by_old (Some u) old = omega (arith, below at u old)
  by_old None old = by_new (nat_eq i at) refl (sym (slot_second at slots ((i, v) ∷ []) old) ∙ is)

-- ---- what the text of a statement sees

abbrev Sees : List Node → List SlotValue → List Entry → Type 0
Sees ns slots es = HaveValues ns (types_of es) slots × ((d : Tree ADef) (before : List Entry) → Stands es d before → HaveValues ns (types_of before) slots)

sees_later : (a b : List Node) → Grows a b → (slots : List SlotValue) (es : List Entry) → Sees a slots es → Sees b slots es
sees_later a b grows slots es sees = (fits_later a b grows (types_of es) slots sees.0, λ d before stands. fits_later a b grows (types_of before) slots (sees.1 d before stands))

fits_push : (ns : List Node) (types : TypesByToken) (slots : List SlotValue) (more' : List SlotValue) → HaveValues ns types slots → HaveValues ns types (slots ++ more')
fits_push ns types slots more' fits at g is =
    let held = fits at g is in
    (held.0, slot_first at slots more' held.0 held.1, held.2)

fits_value : (ns : List Node) (types : TypesByToken) (slots : List SlotValue) (at : ℕ) (v : Value) (g : Ground) → value_at_token at slots ≡ None → IsA ns v g → HaveValues ns types slots → HaveValues ns ((at, g) ∷ types) (slots ++ (at, v) ∷ [])
fits_value ns types slots at v g free held fits u h is = by_token (nat_eq at u) refl is where
  by_token : (b : Bool) → nat_eq at u ≡ b → cond b (Some g) (type_at u types) ≡ Some h → IsFound ns (value_at_token u (slots ++ (at, v) ∷ [])) h
  by_token true same here =
      let token : at ≡ u = eqb-true at u same in
      let kind : g ≡ h = cc in
      let free_here : value_at_token u slots ≡ None = subst (λ (k : ℕ). value_at_token k slots ≡ None) token free in
      (v, slot_second u slots ((at, v) ∷ []) free_here ∙ ap (λ (b : Bool). cond b (Some v) None) same, subst (λ (k : Ground). IsA ns v k) kind held)
  by_token false same here =
      let found = fits u h here in
      (found.0, slot_first u slots ((at, v) ∷ []) found.0 found.1, found.2)

sees_value : (ns : List Node) (slots : List SlotValue) (es : List Entry) (at : ℕ) (v : Value) (g : Ground) → value_at_token at slots ≡ None → IsA ns v g → Sees ns slots es → Sees ns (slots ++ (at, v) ∷ []) (value at g ∷ es)
sees_value ns slots es at v g free held sees = (fits_value ns (types_of es) slots at v g free held sees.0, behind) where
  behind : (d : Tree ADef) (before : List Entry) → Stands (value at g ∷ es) d before → HaveValues ns (types_of before) (slots ++ (at, v) ∷ [])
  behind d before (inl here) = let e = here.0 in absurd cc
  behind d before (inr later) = fits_push ns (types_of before) slots ((at, v) ∷ []) (sees.1 d before later)

sees_function : (ns : List Node) (slots : List SlotValue) (es : List Entry) (e : Tree ADef) → Sees ns slots es → Sees ns slots (function e ∷ es)
sees_function ns slots es e sees = (sees.0, behind) where
  behind : (d : Tree ADef) (before : List Entry) → Stands (function e ∷ es) d before → HaveValues ns (types_of before) slots
  behind d before (inl here) = subst (λ (l : List Entry). HaveValues ns (types_of l) slots) here.1 sees.0
  behind d before (inr later) = sees.1 d before later

stands_on : (es : List Entry) (d : Tree ADef) (before : List Entry) (e : Tree ADef) (earlier : List Entry) → Stands es d before → Stands before e earlier → Stands es e earlier
stands_on [] d before e earlier h k = absurd h
stands_on (x ∷ es) d before e earlier (inl h) k = inr (subst (λ xs. Stands xs e earlier) (sym h.1) k)
stands_on (x ∷ es) d before e earlier (inr h) k = inr (stands_on es d before e earlier h k)

defs_function : (script : Script) (es : List Entry) (e : Tree ADef) → IsDefOf script e → AreDefsOf script es → AreDefsOf script (function e ∷ es)
defs_function script es e is defs d before (inl here) = same_def here.0 where
  same_def : function e ≡ function d → IsDefOf script d
  same_def f = let same : e ≡ d = cc in subst (λ (k : Tree ADef). IsDefOf script k) same is
defs_function script es e is defs d before (inr later) = defs d before later

defs_value : (script : Script) (es : List Entry) (at : ℕ) (g : Ground) → AreDefsOf script es → AreDefsOf script (value at g ∷ es)
defs_value script es at g defs d before (inl here) = let e = here.0 in absurd cc
defs_value script es at g defs d before (inr later) = defs d before later

-- ---- calls of defs, by the number that may still run

abbrev Good : Script → List Use → List SlotValue → List Node → ℕ → ℕ → List Kind → List (arguments.GivenArgument Ground) → Ground → Type 0
Good script uses slots ns n u ks gs g = (given : List Argument) (m : Machine) → Grows ns m.plan.nodes → AreA m.plan.nodes given gs → Safe m.plan.nodes (Of g) (call_by (record { script = script; uses = uses; globals = slots }) n u ks given m)

one_call : BuiltinsAreSafe → (script : Script) (uses : List Use) (slots : List SlotValue) (ns : List Node) (n : ℕ) (d : Tree ADef) (before : List Entry) (chain : List ℕ) (ks : List Kind) (gs : List (arguments.GivenArgument Ground)) (us : List Ground) (g : Ground)
    → def_at (def_token d) script ≡ Some d → Sees ns slots before → around [] uses chain ≡ Some ks → arguments.Matched (params_of d) gs us
    → DefHas (sight (target_at uses) (read [] uses) before chain) d us g
    → ((at t : ℕ) (js : List Kind) (hs : List (arguments.GivenArgument Ground)) (h : Ground) → read [] uses chain at ≡ Some js → calls_behind (target_at uses) (read [] uses) before chain at t hs h → Good script uses slots ns n t js hs h)
    → Good script uses slots ns (suc n) (def_token d) ks gs g
unfolding call_by
one_call bs script uses slots ns n d before chain ks gs us g found seen kinds matched has calls given m grows held =
    let knows : Knows (record { uses = uses; slots = slots; kinds = ks; call = call_by (record { script = script; uses = uses; globals = slots }) n }) (sight (target_at uses) (read [] uses) before chain) m.plan.nodes = record {
      target = λ at. same_target uses at;
      kinds = λ at. same_kinds uses ks chain at kinds;
      slots = fits_later ns m.plan.nodes grows (types_of before) slots seen.0;
      calls = λ at u js hs h is typed given' m' wider held'. calls at u js hs h is typed given' m' (grows_on ns m.plan.nodes m'.plan.nodes grows wider) held';
    } in
    subst (λ (o : Option (Tree ADef)). Safe m.plan.nodes (Of g) (run (record { uses = uses; slots = slots; kinds = ks; call = call_by (record { script = script; uses = uses; globals = slots }) n }) o given m)) (sym found)
    (safe_body bs (record { uses = uses; slots = slots; kinds = ks; call = call_by (record { script = script; uses = uses; globals = slots }) n }) (sight (target_at uses) (read [] uses) before chain) d (params_of d) us g given gs m knows held refl matched has)

no_call : (script : Script) (uses : List Use) (slots : List SlotValue) (ns : List Node) (u : ℕ) (ks : List Kind) (gs : List (arguments.GivenArgument Ground)) (g : Ground) → Good script uses slots ns 0 u ks gs g
unfolding call_by
no_call script uses slots ns u ks gs g given m grows held = tt

calls_kept : BuiltinsAreSafe → (script : Script) (uses : List Use) (slots : List SlotValue) (ns : List Node) → IsKept script uses (Sees ns slots) (Good script uses slots ns)
calls_kept bs script uses slots ns = record {
  fewer = λ es d before stands sees. (sees.1 d before stands, λ e earlier inner. sees.1 e earlier (stands_on es d before e earlier stands inner));
  none_left = λ u ks gs g. no_call script uses slots ns u ks gs g;
  one_more = λ n d before chain ks gs us g found seen kinds matched has calls. one_call bs script uses slots ns n d before chain ks gs us g found seen kinds matched has calls;
}

knows_top : BuiltinsAreSafe → (script : Script) (uses : List Use) (slots : List SlotValue) (es : List Entry) (ns : List Node) → IsPlaced 0 script → AreDefsOf script es → Sees ns slots es → Knows (top_scope script uses slots) (sight (target_at uses) (read [] uses) es []) ns
knows_top bs script uses slots es ns placed defs sees = record {
  target = λ at. same_target uses at;
  kinds = λ at. same_kinds uses [] [] at refl;
  slots = sees.0;
  calls = λ at u ks gs g is typed given m grows held. kept_from script uses (Sees ns slots) (Good script uses slots ns) (calls_kept bs script uses slots ns) placed MAX_CALLS es defs sees [] at u ks gs g is typed given m grows held;
}

-- ---- statements

told_one : (n : ℕ) (e : Stop) → IsTold e → IsNotStuck {A = Machine} (Err (fault_in n e))
told_one n faults.Memory is = tt
told_one n faults.BadSetting is = tt
told_one n (faults.BadValue at) is = tt
told_one n faults.TooMuchWork is = tt
told_one n faults.TooManySources is = tt
told_one n (faults.SameOutput name) is = tt
told_one n (faults.TooLarge limit) is = tt
told_one n faults.Stuck is = absurd is

stmt_then : {A : Type 0} (ns : List Node) (n : ℕ) (Q : List Node → A → Type 0) (r : Result (A × Machine) Stop) (f : A × Machine → Result Machine Ending) → Safe ns Q r → ((x : A × Machine) → Grows ns x.1.plan.nodes → Q x.1.plan.nodes x.0 → IsNotStuck (f x)) → IsNotStuck (and_then (ending_in n r) f)
stmt_then ns n Q (Ok x) f safe later = later x safe.0 safe.1
stmt_then ns n Q (Err e) f safe later = told_one n e safe

-- the same nodes behind the end of the settings
abbrev SameNodes : Machine → Result Machine Ending → Type 0
SameNodes m (Ok c) = c.plan.nodes ≡ m.plan.nodes
SameNodes m (Err (Some fault)) = Unit {0}
SameNodes m (Err None) = ⊥

closed_same : (m : Machine) (o : Option ℕ) → SameNodes m (closed m o)
closed_same m (Some frame) = refl
closed_same m None = tt

ended_same : (m : Machine) → SameNodes m (settings_ended m)
unfolding settings_ended
ended_same m = closed_same m (tick_of m.settings.duration.millionths m.plan.rate)

open_same : (allowed : Bool) (m : Machine) → SameNodes m (elim allowed [ true ↦ settings_ended m | false ↦ Ok m ])
open_same true m = ended_same m
open_same false m = refl

settled_same : (setting : Bool) (m : Machine) → SameNodes m (settings_settled setting m)
settled_same true m = refl
settled_same false m = open_same m.settings.allowed m

same_not_stuck : (m : Machine) (r : Result Machine Ending) → SameNodes m r → IsNotStuck r
same_not_stuck m (Ok c) same = tt
same_not_stuck m (Err (Some fault)) same = tt
same_not_stuck m (Err None) same = absurd same

turn_then : {A : Type 0} (m : Machine) (r : Result Machine Ending) (g : Machine → Result A Ending) (k : A → Result Machine Ending) → SameNodes m r → ((c : Machine) → c.plan.nodes ≡ m.plan.nodes → IsNotStuck (and_then (g c) k)) → IsNotStuck (and_then (and_then r g) k)
turn_then m (Ok c) g k same later = later c same
turn_then m (Err (Some fault)) g k same later = tt
turn_then m (Err None) g k same later = absurd same

-- what a statement leaves
abbrev Left : ℕ → List Entry → List Node → List SlotValue → Type 0
Left i es ks slots = Sees ks slots es × Below i slots

safe_bind : BuiltinsAreSafe → (s : Surroundings) (t : Sight) (at : ℕ) (name : List ℕ) (f : Tree AFull) (g : Ground) (slots : List SlotValue) (es : List Entry) (k : ℕ) (m : Machine) → Knows s t m.plan.nodes → Has t f g → at < k → Below at slots → Sees m.plan.nodes slots es
    → Safe m.plan.nodes (Left k (value at g ∷ es)) (statement s (BindPart (Bind at name f)) slots m)
unfolding statement
safe_bind bs s t at name f g slots es k m knows has lt below sees =
    after m.plan.nodes (Of g) (Left k (value at g ∷ es)) (full s f m) (λ x. Ok (slots ++ (at, x.0) ∷ [], x.1)) (safe_full bs s t f g has m knows) (λ x grows is.
    (stays x.1.plan.nodes, (sees_value x.1.plan.nodes slots es at x.0 g (unbound at slots below (value_at_token at slots) refl) is (sees_later m.plan.nodes x.1.plan.nodes grows slots es sees), below_push at k slots x.0 lt below)))

safe_def : (s : Surroundings) (d : Tree ADef) (slots : List SlotValue) (es : List Entry) (i k : ℕ) (m : Machine) → i ≤ k → Below i slots → Sees m.plan.nodes slots es → Safe m.plan.nodes (Left k (function d ∷ es)) (statement s (DefPart d) slots m)
unfolding statement
safe_def s d slots es i k m le below sees = (stays m.plan.nodes, (sees_function m.plan.nodes slots es d sees, below_later i k slots le below))

safe_call_part : BuiltinsAreSafe → (s : Surroundings) (t : Sight) (c : Tree ACall) (g : Ground) (slots : List SlotValue) (es : List Entry) (i k : ℕ) (m : Machine) → Knows s t m.plan.nodes → Has t c g → i ≤ k → Below i slots → Sees m.plan.nodes slots es → Safe m.plan.nodes (Left k es) (statement s (CallPart c) slots m)
unfolding statement
safe_call_part bs s t c g slots es i k m knows has le below sees =
    after m.plan.nodes (Of g) (Left k es) (meaning.call s c m) (λ x. Ok (slots, x.1)) (safe_call bs s t c g has m knows) (λ x grows is. (stays x.1.plan.nodes, (sees_later m.plan.nodes x.1.plan.nodes grows slots es sees, below_later i k slots le below)))

safe_if_part : BuiltinsAreSafe → (s : Surroundings) (t : Sight) (c : Tree AnIf) (g : Ground) (slots : List SlotValue) (es : List Entry) (i k : ℕ) (m : Machine) → Knows s t m.plan.nodes → Has t c g → i ≤ k → Below i slots → Sees m.plan.nodes slots es → Safe m.plan.nodes (Left k es) (statement s (IfPart c) slots m)
unfolding statement
safe_if_part bs s t c g slots es i k m knows has le below sees =
    after m.plan.nodes (Of g) (Left k es) (meaning.choice s c m) (λ x. Ok (slots, x.1)) (safe_choice bs s t c g has m knows) (λ x grows is. (stays x.1.plan.nodes, (sees_later m.plan.nodes x.1.plan.nodes grows slots es sees, below_later i k slots le below)))

at_before : (at i n : ℕ) → at ≡ i → 0 < n → at < i + n
at_before at i n is some = omega arith

some_token : (at : ℕ) (name : List ℕ) (f : Tree AFull) (semicolon : Bool) → 0 < length (spell (Stmt (BindPart (Bind at name f)) semicolon))
some_token at name f semicolon = omega arith

pub safe_statements : BuiltinsAreSafe → (script : Script) (uses : List Use) → IsPlaced 0 script → (rest : Tree (Many AStmt)) (i n : ℕ) (es fs : List Entry) (slots : List SlotValue) (m : Machine) → IsPlaced i rest → IsTypedTo (target_at uses) (read [] uses) es rest fs
    → ((d : Tree ADef) → IsDefOf rest d → IsDefOf script d) → AreDefsOf script es → Sees m.plan.nodes slots es → Below i slots → IsNotStuck (statements script uses rest n slots m)
unfolding statements turned
safe_statements bs script uses placed none i n es fs slots m here typed inside defs sees below = same_not_stuck m (settings_settled false m) (settled_same false m)
safe_statements bs script uses placed (more (Stmt (BindPart (Bind at name f)) semicolon) rest) i n es fs slots m here typed inside defs sees below =
    turn_then m (settings_settled (is_setting uses (BindPart (Bind at name f))) m) (λ b. ending_in (n + 1) (statement (top_scope script uses slots) (BindPart (Bind at name f)) slots (numbered (n + 1) b))) (λ x. statements script uses rest (n + 1) x.0 x.1) (settled_same (is_setting uses (BindPart (Bind at name f))) m) (λ c same.
    let seen : Sees c.plan.nodes slots es = subst (λ (ns : List Node). Sees ns slots es) (sym same) sees in
    let here_at : Below at slots = subst (λ (j : ℕ). Below j slots) (sym here.0.0) below in
    stmt_then c.plan.nodes (n + 1) (Left (i + length (spell (Stmt (BindPart (Bind at name f)) semicolon))) (value at typed.0 ∷ es)) (statement (top_scope script uses slots) (BindPart (Bind at name f)) slots (numbered (n + 1) c)) (λ x. statements script uses rest (n + 1) x.0 x.1)
    (safe_bind bs (top_scope script uses slots) (sight (target_at uses) (read [] uses) es []) at name f typed.0 slots es (i + length (spell (Stmt (BindPart (Bind at name f)) semicolon))) (numbered (n + 1) c) (knows_top bs script uses slots es c.plan.nodes placed defs seen) typed.1 (at_before at i _ here.0.0 (some_token at name f semicolon)) here_at seen)
    (λ x grows left. safe_statements bs script uses placed rest (i + length (spell (Stmt (BindPart (Bind at name f)) semicolon))) (n + 1) (value at typed.0 ∷ es) fs x.0 x.1 here.1 typed.2 inside (defs_value script es at typed.0 defs) left.0 left.1))
safe_statements bs script uses placed (more (Stmt (DefPart d) semicolon) rest) i n es fs slots m here typed inside defs sees below =
    turn_then m (settings_settled false m) (λ b. ending_in (n + 1) (statement (top_scope script uses slots) (DefPart d) slots (numbered (n + 1) b))) (λ x. statements script uses rest (n + 1) x.0 x.1) (settled_same false m) (λ c same.
    let seen : Sees c.plan.nodes slots es = subst (λ (ns : List Node). Sees ns slots es) (sym same) sees in
    stmt_then c.plan.nodes (n + 1) (Left (i + length (spell (Stmt (DefPart d) semicolon))) (function d ∷ es)) (statement (top_scope script uses slots) (DefPart d) slots (numbered (n + 1) c)) (λ x. statements script uses rest (n + 1) x.0 x.1)
    (safe_def (top_scope script uses slots) d slots es i (i + length (spell (Stmt (DefPart d) semicolon))) (numbered (n + 1) c) (omega arith) below seen)
    (λ x grows left. safe_statements bs script uses placed rest (i + length (spell (Stmt (DefPart d) semicolon))) (n + 1) (function d ∷ es) fs x.0 x.1 here.1 typed.1 (λ e is. inside e (inr is)) (defs_function script es d (inside d (inl refl)) defs) left.0 left.1))
safe_statements bs script uses placed (more (Stmt (CallPart k) semicolon) rest) i n es fs slots m here typed inside defs sees below =
    turn_then m (settings_settled (is_setting uses (CallPart k)) m) (λ b. ending_in (n + 1) (statement (top_scope script uses slots) (CallPart k) slots (numbered (n + 1) b))) (λ x. statements script uses rest (n + 1) x.0 x.1) (settled_same (is_setting uses (CallPart k)) m) (λ c same.
    let seen : Sees c.plan.nodes slots es = subst (λ (ns : List Node). Sees ns slots es) (sym same) sees in
    stmt_then c.plan.nodes (n + 1) (Left (i + length (spell (Stmt (CallPart k) semicolon))) es) (statement (top_scope script uses slots) (CallPart k) slots (numbered (n + 1) c)) (λ x. statements script uses rest (n + 1) x.0 x.1)
    (safe_call_part bs (top_scope script uses slots) (sight (target_at uses) (read [] uses) es []) k typed.0.0 slots es i (i + length (spell (Stmt (CallPart k) semicolon))) (numbered (n + 1) c) (knows_top bs script uses slots es c.plan.nodes placed defs seen) typed.0.1 (omega arith) below seen)
    (λ x grows left. safe_statements bs script uses placed rest (i + length (spell (Stmt (CallPart k) semicolon))) (n + 1) es fs x.0 x.1 here.1 typed.1 inside defs left.0 left.1))
safe_statements bs script uses placed (more (Stmt (IfPart k) semicolon) rest) i n es fs slots m here typed inside defs sees below =
    turn_then m (settings_settled false m) (λ b. ending_in (n + 1) (statement (top_scope script uses slots) (IfPart k) slots (numbered (n + 1) b))) (λ x. statements script uses rest (n + 1) x.0 x.1) (settled_same false m) (λ c same.
    let seen : Sees c.plan.nodes slots es = subst (λ (ns : List Node). Sees ns slots es) (sym same) sees in
    stmt_then c.plan.nodes (n + 1) (Left (i + length (spell (Stmt (IfPart k) semicolon))) es) (statement (top_scope script uses slots) (IfPart k) slots (numbered (n + 1) c)) (λ x. statements script uses rest (n + 1) x.0 x.1)
    (safe_if_part bs (top_scope script uses slots) (sight (target_at uses) (read [] uses) es []) k typed.0.0 slots es i (i + length (spell (Stmt (IfPart k) semicolon))) (numbered (n + 1) c) (knows_top bs script uses slots es c.plan.nodes placed defs seen) typed.0.1 (omega arith) below seen)
    (λ x grows left. safe_statements bs script uses placed rest (i + length (spell (Stmt (IfPart k) semicolon))) (n + 1) es fs x.0 x.1 here.1 typed.1 inside defs left.0 left.1))

-- ---- the script

by_output : (b : Bool) (m : Machine) → IsNotStuck {A = Plan} (elim b [ true ↦ Ok m.plan | false ↦ Err (Some told.NoOutput) ])
by_output true m = tt
by_output false m = tt

by_end : (r : Result Machine Ending) → IsNotStuck r → IsNotStuck (and_then r plan_of)
by_end (Ok m) is = by_output (list_any is_output m.plan.sinks) m
by_end (Err (Some fault)) is = tt
by_end (Err None) is = absurd is

pub safe_script : BuiltinsAreSafe → (script : Script) (uses : List Use) → IsPlaced 0 script → IsTypedScript script uses → IsNotStuck (evaluation script uses)
safe_script bs script uses placed typed =
    by_end (statements script uses script 0 [] first_machine)
    (safe_statements bs script uses placed script 0 0 [] typed.0 [] first_machine placed typed.1 (λ d is. is) (λ d before stands. absurd stands) ((λ at g is. absurd cc), (λ d before stands. absurd stands)) (λ at v is. absurd cc))
