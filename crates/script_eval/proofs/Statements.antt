-- The statements of a script, one at a time.
use Rattle.std.proofs.Common.{◌≡◌, ℕ, ◌+◌, ◌<◌, ◌≤◌, List, length, drop, get_or, Result, Ok, Err, Some, None, ◌≢◌, refl, false, sym, ap, subst, ◌∙◌}
use Rattle.std.proofs.lemmas.List.{at_drop_more, at_drop_all}
use Rattle.std.specs.Prelude.{map, unwrap_or}
use Rattle.script_grammar.specs.Tree.{more, Script}
use Rattle.script_grammar.specs.View.{listed, view_stmt, view_part}
use Rattle.script_grammar.specs.declared.tree.Stmt.{Stmt}
use Rattle.typing_rules.specs.declared.uses.Use.{Use}
use Rattle.script_values.specs.declared.fault.Stop.{Stop}
use Rattle.script_values.specs.declared.fault.Stop.TheVariants as faults
use Rattle.script_values.specs.declared.fault.EvalFault.{EvalFault}
use Rattle.script_values.specs.declared.fault.EvalFault.TheVariants as told
use Rattle.script_values.specs.declared.machine.Machine.{Machine}
use Rattle.script_values.specs.Faults.{fault_in}
use Rattle.script_values.specs.Gives.{Fails}
use Rattle.script_values.specs.Slots.{SlotValue}
use Rattle.eval_meaning.specs.Safety.{IsNotStuck}
use Rattle.eval_meaning.specs.Scripts.{Ending, Ends, and_then, ending_in, settings_settled, statements, turned}

-- a fault of a statement is told with its number
pub ends_in : {A : Type 0} (n : ℕ) (e : Stop) (r : Result A Stop) → Fails e r → Ends (unwrap_or (fault_in n e) told.Memory) (ending_in n r)
ends_in n faults.Memory r is = tt
ends_in n faults.BadSetting r is = ap (λ (x : Result _ Stop). ending_in n x) is
ends_in n (faults.BadValue at) r is = ap (λ (x : Result _ Stop). ending_in n x) is
ends_in n faults.TooMuchWork r is = ap (λ (x : Result _ Stop). ending_in n x) is
ends_in n faults.TooManySources r is = ap (λ (x : Result _ Stop). ending_in n x) is
ends_in n (faults.SameOutput name) r is = ap (λ (x : Result _ Stop). ending_in n x) is
ends_in n (faults.TooLarge limit) r is = ap (λ (x : Result _ Stop). ending_in n x) is
ends_in n faults.Stuck r is = tt

-- a fault ends the script
pub ends_then : {A B : Type 0} (e : EvalFault) (r : Result A Ending) (f : A → Result B Ending) → Ends e r → Ends e (and_then r f)
ends_then told.Memory r f is = tt
ends_then (told.BadSetting n) r f is = ap (λ (x : Result _ Ending). and_then x f) is
ends_then (told.BadValue n at) r f is = ap (λ (x : Result _ Ending). and_then x f) is
ends_then (told.TooMuchWork n) r f is = ap (λ (x : Result _ Ending). and_then x f) is
ends_then told.TooManySources r f is = ap (λ (x : Result _ Ending). and_then x f) is
ends_then told.NoOutput r f is = ap (λ (x : Result _ Ending). and_then x f) is
ends_then (told.SameOutput name) r f is = ap (λ (x : Result _ Ending). and_then x f) is
ends_then (told.TooLarge limit) r f is = ap (λ (x : Result _ Ending). and_then x f) is

pub ends_same : {A : Type 0} (e : EvalFault) (r q : Result A Ending) → r ≡ q → Ends e r → Ends e q
ends_same e r q same is = subst (λ (x : Result _ Ending). Ends e x) same is

front : (script : Script) (uses : List Use) (stmts : List Stmt) (i : ℕ) (s : Stmt) (n k : ℕ) (slots : List SlotValue) (m : Machine) → i < length stmts → s ≡ get_or stmts i s → k ≡ n + 1
    → statements script uses (listed (map view_stmt (drop i stmts))) n slots m
    ≡ and_then (turned script uses (view_part s.part) k slots m) (λ x. statements script uses (listed (map view_stmt (drop (i + 1) stmts))) k x.0 x.1)
unfolding statements
front script uses stmts i s n k slots m lt is next =
    at_drop_more (λ (l : List Stmt). statements script uses (listed (map view_stmt l)) n slots m) stmts i s lt
    ∙ ap (λ (t : Stmt). statements script uses (more (view_stmt t) (listed (map view_stmt (drop (i + 1) stmts)))) n slots m) (sym is)
    ∙ ap (λ (j : ℕ). and_then (turned script uses (view_part s.part) j slots m) (λ x. statements script uses (listed (map view_stmt (drop (i + 1) stmts))) j x.0 x.1)) (sym next)

pub stmt_turn : (script : Script) (uses : List Use) (stmts : List Stmt) (i : ℕ) (s : Stmt) (n k : ℕ) (slots slots' : List SlotValue) (m m' : Machine) (whole : Result Machine Ending)
    → statements script uses (listed (map view_stmt (drop i stmts))) n slots m ≡ whole → i < length stmts → s ≡ get_or stmts i s → k ≡ n + 1
    → turned script uses (view_part s.part) k slots m ≡ Ok (slots', m')
    → statements script uses (listed (map view_stmt (drop (i + 1) stmts))) k slots' m' ≡ whole
stmt_turn script uses stmts i s n k slots slots' m m' whole so lt is next went =
    sym (front script uses stmts i s n k slots m lt is next ∙ ap (λ (r : Result (List SlotValue × Machine) Ending). and_then r (λ x. statements script uses (listed (map view_stmt (drop (i + 1) stmts))) k x.0 x.1)) went) ∙ so

pub stmt_stop : (script : Script) (uses : List Use) (stmts : List Stmt) (i : ℕ) (s : Stmt) (n k : ℕ) (slots : List SlotValue) (m : Machine) (whole : Result Machine Ending) (e : EvalFault)
    → statements script uses (listed (map view_stmt (drop i stmts))) n slots m ≡ whole → i < length stmts → s ≡ get_or stmts i s → k ≡ n + 1
    → Ends e (turned script uses (view_part s.part) k slots m)
    → Ends e whole
stmt_stop script uses stmts i s n k slots m whole e so lt is next fault =
    ends_same e _ whole (sym (front script uses stmts i s n k slots m lt is next) ∙ so)
    (ends_then e (turned script uses (view_part s.part) k slots m) (λ x. statements script uses (listed (map view_stmt (drop (i + 1) stmts))) k x.0 x.1) fault)

pub stmt_end : (script : Script) (uses : List Use) (stmts : List Stmt) (i n : ℕ) (slots : List SlotValue) (m : Machine) (whole : Result Machine Ending)
    → statements script uses (listed (map view_stmt (drop i stmts))) n slots m ≡ whole → length stmts ≤ i → whole ≡ settings_settled false m
unfolding statements
stmt_end script uses stmts i n slots m whole so over = sym so ∙ at_drop_all (λ (l : List Stmt). statements script uses (listed (map view_stmt l)) n slots m) stmts i over

-- ---- what is not stuck

pub first_not_stuck : {A B : Type 0} (r : Result A Ending) (f : A → Result B Ending) → IsNotStuck (and_then r f) → IsNotStuck r
first_not_stuck (Ok x) f is = tt
first_not_stuck (Err (Some fault)) f is = tt
first_not_stuck (Err None) f is = absurd is

pub turn_not_stuck : (script : Script) (uses : List Use) (stmts : List Stmt) (i : ℕ) (s : Stmt) (n k : ℕ) (slots : List SlotValue) (m : Machine) (whole : Result Machine Ending)
    → statements script uses (listed (map view_stmt (drop i stmts))) n slots m ≡ whole → i < length stmts → s ≡ get_or stmts i s → k ≡ n + 1
    → IsNotStuck whole → IsNotStuck (turned script uses (view_part s.part) k slots m)
turn_not_stuck script uses stmts i s n k slots m whole so lt is next safe =
    first_not_stuck (turned script uses (view_part s.part) k slots m) (λ x. statements script uses (listed (map view_stmt (drop (i + 1) stmts))) k x.0 x.1)
    (subst (λ (r : Result Machine Ending). IsNotStuck r) (sym so ∙ front script uses stmts i s n k slots m lt is next) safe)

-- a fault that evaluation has is told
pub fault_is_told : {A : Type 0} (n : ℕ) (fault : Stop) (meant : Result A Stop) → Fails fault meant → IsNotStuck (ending_in n meant) → fault ≢ faults.Stuck
fault_is_told n fault meant fails safe is =
    let stuck : meant ≡ Err faults.Stuck = subst (λ (e : Stop). Fails e meant) is fails in
    subst (λ (r : Result _ Stop). IsNotStuck (ending_in n r)) stuck safe

pub is_told : (n : ℕ) (fault : Stop) → fault ≢ faults.Stuck → None ≡ fault_in n fault → ⊥
is_told n faults.Memory other is = absurd cc
is_told n faults.BadSetting other is = absurd cc
is_told n (faults.BadValue at) other is = absurd cc
is_told n faults.TooMuchWork other is = absurd cc
is_told n faults.TooManySources other is = absurd cc
is_told n (faults.SameOutput name) other is = absurd cc
is_told n (faults.TooLarge limit) other is = absurd cc
is_told n faults.Stuck other is = other refl
