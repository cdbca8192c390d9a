-- Two typings of one script lead evaluation to the same end.
use Rattle.std.proofs.Common.{◌≡◌, inl, inr, ℕ, zero, suc, ◌+◌, List, [], ◌∷◌, length, Bool, true, false, cond, nat_eq, Option, Some, None, Result, Ok, Err, refl, sym, ap, ◌∙◌, subst, ◌&&◌}
use Rattle.std.specs.Prelude.{not, find}
use Rattle.std.specs.List.{flat_map}
use Rattle.liq_base.specs.declared.limits.TheConstants.{MAX_CALLS}
use Rattle.liq_base.specs.declared.memory.Kind.{Kind}
use Rattle.script_grammar.specs.Placed.{IsPlaced}
use Rattle.script_grammar.specs.Tree.{Tree, Many, ADef, APart, AStmt, none, more, Stmt, BindPart, DefPart, CallPart, IfPart, NamedCall, Script}
use Rattle.typing_rules.specs.declared.uses.Builtin.{Builtin}
use Rattle.typing_rules.specs.declared.uses.Target.{Target}
use Rattle.typing_rules.specs.declared.uses.Target.TheVariants as target
use Rattle.typing_rules.specs.declared.uses.Use.{Use}
use Rattle.typing_rules.specs.Answers.{IsTyped}
use Rattle.typing_rules.specs.Defs.{def_at}
use Rattle.typing_rules.specs.Kinds.{Block, EachHasKinds, HasKinds, IsInOrder, AreInOrder, IsOneOf, IsPlace, IsUsedIn, MonoOnly, around, blocks, numbered_on, is_of, kinds_in, kinds_listed, kinds_of, block_names, numbers_in, open_kinds, number_of, owner, read, target_at, target_said}
use Rattle.typing_rules.specs.Scoping as scoping
use Rattle.typing_rules.specs.Scoping.{Meaning, Name, meanings_of, names, target_in, target_of, used, with_statement}
use Rattle.typing_rules.specs.Scripts.{IsTypedTo, Targets}
use Rattle.typing_rules.specs.Uses.{use_at}
use Rattle.typing_rules.proofs.Reading.{same_kinds, same_target}
use Rattle.script_values.specs.declared.machine.Machine.{Machine}
use Rattle.script_values.specs.Machines.{first_machine}
use Rattle.script_values.specs.Outcomes.{ascribed}
use Rattle.script_values.specs.Slots.{Argument, SlotValue}
use Rattle.eval_meaning.specs.Calls.{holds_call, is_setting, means_set}
use Rattle.eval_meaning.specs.Meaning.{Surroundings, applied, applied_to, call_by, run}
use Rattle.eval_meaning.specs.Scripts.{Ending, and_then, evaluation, ending_in, numbered, plan_of, ran, sources, sources_of, settings_settled, statement, statements, top_scope, turned}
use Rattle.eval_meaning.proofs.UsesAlike.{Alike, body_same, part_same}
use Rattle.eval_meaning.proofs.UsesReadable.{AreBelow, are_read, counted_below, mono_same, numbers_below}
use Rattle.eval_meaning.proofs.UsesTokens.{AtsAreWithin, Found, IsBlock, block_used, found_in, text_block}

-- ---- what the uses of two typings share

-- a script, and the uses of two of its typings
pub record Pair (script : Script) (a b : List Use) : Type 0 where
  pub within : AtsAreWithin
  pub placed : IsPlaced 0 script
  pub first : IsTyped script a
  pub second : IsTyped script b

swapped : {script : Script} {a b : List Use} → Pair script a b → Pair script b a
swapped pair = record { within = pair.within; placed = pair.placed; first = pair.second; second = pair.first }

same_targets : (script : Script) (a b : List Use) → Pair script a b → (at : ℕ) → target_said (use_at at a) ≡ target_said (use_at at b)
same_targets script a b pair at = same_target a at ∙ ap (λ (ms : List Meaning). target_in ms at) (pair.first.targets ∙ sym pair.second.targets) ∙ sym (same_target b at)

-- at a builtin's place the kinds of the first are mono where those of the second are
less : (script : Script) (a b : List Use) → Pair script a b → (chain : List ℕ) (n : Name) (d : Builtin) → IsPlace (blocks [] script) None chain n → target_of n.meant ≡ Some (target.Builtin d) → MonoOnly (read [] a chain n.at) (read [] b chain n.at)
less script a b pair chain n d place means =
    let targets : target_at b ≡ target_at a = ap (λ (ms : List Meaning). target_in ms) (pair.second.targets ∙ sym pair.first.targets) in
    let typing : IsTypedTo (target_at a) (read [] b) [] script pair.second.entries = subst (λ (ts : Targets). IsTypedTo ts (read [] b) [] script pair.second.entries) targets pair.second.typing in
    pair.first.least (read [] b) pair.second.entries typing chain n d place means

same_read : (script : Script) (a b : List Use) → Pair script a b → (chain : List ℕ) (n : Name) (d : Builtin) → IsPlace (blocks [] script) None chain n → target_of n.meant ≡ Some (target.Builtin d) → read [] a chain n.at ≡ read [] b chain n.at
same_read script a b pair chain n d place means = mono_same (read [] a chain n.at) (read [] b chain n.at) (less script a b pair chain n d place means) (less script b a (swapped pair) chain n d place means)

-- ---- the kinds of one list of uses, in a text that a chain of calls leads to

-- The kinds around are known, and the text's uses ask for no others.
pub record Reaches (uses : List Use) (chain : List ℕ) (ns : List Name) (ks : List Kind) : Type 0 where
  pub kinds : around [] uses chain ≡ Some ks
  pub below : AreBelow (length ks) (numbers_in uses ns)

has_kinds : (bs : List Block) (all us : List Use) (at : ℕ) (u : Use) → EachHasKinds bs all us → use_at at us ≡ Some u → HasKinds bs all u.target u.kinds
has_kinds bs all [] at u each is = absurd cc
has_kinds bs all (v ∷ us) at u each is = by_test (λ later. has_kinds bs all us at u each.1 later) (nat_eq v.at at) is where
  same_use : Some v ≡ Some u → v ≡ u
  same_use e = cc

  by_test : (use_at at us ≡ Some u → HasKinds bs all u.target u.kinds) → (w : Bool) → cond w (Some v) (use_at at us) ≡ Some u → HasKinds bs all u.target u.kinds
  by_test further true here = subst (λ (x : Use). HasKinds bs all x.target x.kinds) (same_use here) each.0
  by_test further false later = further later

-- A call of a def by such a name has kinds, as many as the def's text asks for.
pub record Enters (script : Script) (uses : List Use) (chain : List ℕ) (at t : ℕ) (u : Use) (ks : List Kind) : Type 0 where
  pub kinds : List Kind
  pub got : kinds_of ks u.kinds ≡ Some kinds
  pub there : around [] uses (at ∷ chain) ≡ Some kinds
  pub asked : open_kinds (blocks [] script) uses t ≡ Some (length kinds)

enters : (script : Script) (uses : List Use) → IsTyped script uses → (chain : List ℕ) (ns : List Name) (n : Name) (t : ℕ) (u : Use) (ks : List Kind) → Reaches uses chain ns ks → IsOneOf ns n → use_at n.at uses ≡ Some u → u.target ≡ target.Def t → Enters script uses chain n.at t u ks
enters script uses typed chain ns n t u ks reaches inside is means =
    let own : AreBelow (length ks) (flat_map number_of u.kinds) = subst (λ (o : Option Use). AreBelow (length ks) (flat_map number_of (kinds_listed o))) is (numbers_below uses ns n (length ks) inside reaches.below) in
    let r = are_read ks u.kinds own in
    let there : around [] uses (n.at ∷ chain) ≡ kinds_of ks u.kinds = same_kinds uses ks chain n.at reaches.kinds ∙ ap (λ (o : Option Use). kinds_in o ks) is in
    let each : HasKinds (blocks [] script) uses u.target u.kinds = has_kinds (blocks [] script) uses uses n.at u typed.numbered.each is in
    let asked : open_kinds (blocks [] script) uses t ≡ Some (length u.kinds) = subst (λ (x : Target). HasKinds (blocks [] script) uses x u.kinds) means each in
    record { kinds = r.kinds; got = r.read; there = there ∙ r.read; asked = asked ∙ ap Some (sym r.size) }

-- the def's text, behind such a call
reaches_text : (script : Script) (uses : List Use) (chain : List ℕ) (t : ℕ) (ks : List Kind) (ns : List Name) → find (λ b. is_of t b.0) (blocks [] script) ≡ Some (Some t, ns) → around [] uses chain ≡ Some ks → open_kinds (blocks [] script) uses t ≡ Some (length ks) → Reaches uses chain ns ks
reaches_text script uses chain t ks ns found kinds asked = record {
  kinds = kinds;
  below = counted_below (length ks) (numbers_in uses ns) (subst (λ (o : Option Block). numbered_on 0 (numbers_in uses (block_names o)) ≡ Some (length ks)) found asked);
}

-- ---- calls

-- where a text stands: the chain of calls leads to each of its names
abbrev pub Leads : Script → List ℕ → List Name → Type 0
Leads script chain ns = (n : Name) → IsOneOf ns n → IsPlace (blocks [] script) None chain n

-- calls of defs do the same
abbrev pub SameCalls : Script → List Use → List Use → List SlotValue → ℕ → Type 0
SameCalls script a b slots k = (t : ℕ) (chain : List ℕ) (ja jb : List Kind) (given : List Argument) (m : Machine)
    → around [] a chain ≡ Some ja → around [] b chain ≡ Some jb → open_kinds (blocks [] script) a t ≡ Some (length ja) → open_kinds (blocks [] script) b t ≡ Some (length jb)
    → ((n : Name) → IsUsedIn (blocks [] script) (Some t) n → IsPlace (blocks [] script) None chain n)
    → call_by (record { script = script; uses = a; globals = slots }) k t ja given m ≡ call_by (record { script = script; uses = b; globals = slots }) k t jb given m

-- the scope of a text with these kinds, where so many more calls may run
abbrev pub scope_with : Script → List Use → List SlotValue → ℕ → List Kind → Surroundings
scope_with script uses slots k kinds = record { uses = uses; slots = slots; kinds = kinds; call = call_by (record { script = script; uses = uses; globals = slots }) k }

slot_call : (s r : Surroundings) (t at : ℕ) (o p : Option (List Kind)) (given : List Argument) (m : Machine) → applied_to s (target.Slot t) at o given m ≡ applied_to r (target.Slot t) at p given m
slot_call s r t at None None given m = refl
slot_call s r t at None (Some y) given m = refl
slot_call s r t at (Some x) None given m = refl
slot_call s r t at (Some x) (Some y) given m = refl

builtin_call : (s r : Surroundings) (d : Builtin) (at : ℕ) (o p : Option (List Kind)) (given : List Argument) (m : Machine) → o ≡ p → applied_to s (target.Builtin d) at o given m ≡ applied_to r (target.Builtin d) at p given m
builtin_call s r d at o p given m same = ap (λ (x : Option (List Kind)). applied_to s (target.Builtin d) at x given m) same ∙ by_kinds p where
  by_kinds : (x : Option (List Kind)) → applied_to s (target.Builtin d) at x given m ≡ applied_to r (target.Builtin d) at x given m
  by_kinds None = refl
  by_kinds (Some x) = refl

-- a name of a text does the same, by what it means
by_target : (script : Script) (a b : List Use) → Pair script a b → (slots : List SlotValue) (k : ℕ) → SameCalls script a b slots k → (chain : List ℕ) (ns : List Name) (ja jb : List Kind) → Reaches a chain ns ja → Reaches b chain ns jb → Leads script chain ns
    → (n : Name) → IsOneOf ns n → (u v : Use) → use_at n.at a ≡ Some u → use_at n.at b ≡ Some v → (w : Target) → u.target ≡ w → v.target ≡ w → Found ns n.at w → (given : List Argument) (m : Machine)
    → applied_to (scope_with script a slots k ja) w n.at (kinds_of ja u.kinds) given m ≡ applied_to (scope_with script b slots k jb) w n.at (kinds_of jb v.kinds) given m
by_target script a b pair slots k same chain ns ja jb ra rb leads n inside u v isu isv (target.Slot t) tu tv f given m = slot_call (scope_with script a slots k ja) (scope_with script b slots k jb) t n.at (kinds_of ja u.kinds) (kinds_of jb v.kinds) given m
by_target script a b pair slots k same chain ns ja jb ra rb leads n inside u v isu isv (target.Builtin d) tu tv f given m =
    let here : read [] a chain n.at ≡ read [] b chain n.at = subst (λ (at : ℕ). read [] a chain at ≡ read [] b chain at) f.token (same_read script a b pair chain f.name d (leads f.name f.inside) f.means) in
    let one : read [] a chain n.at ≡ kinds_of ja u.kinds = same_kinds a ja chain n.at ra.kinds ∙ ap (λ (o : Option Use). kinds_in o ja) isu in
    let other : read [] b chain n.at ≡ kinds_of jb v.kinds = same_kinds b jb chain n.at rb.kinds ∙ ap (λ (o : Option Use). kinds_in o jb) isv in
    builtin_call (scope_with script a slots k ja) (scope_with script b slots k jb) d n.at (kinds_of ja u.kinds) (kinds_of jb v.kinds) given m (sym one ∙ here ∙ other)
by_target script a b pair slots k same chain ns ja jb ra rb leads n inside u v isu isv (target.Def t) tu tv f given m =
    let ea = enters script a pair.first chain ns n t u ja ra inside isu tu in
    let eb = enters script b pair.second chain ns n t v jb rb inside isv tv in
    let place : (x : Name) → IsUsedIn (blocks [] script) (Some t) x → IsPlace (blocks [] script) None (n.at ∷ chain) x = λ x is. (f.name, t, leads f.name f.inside, f.token, f.means, is) in
    let made = same t (n.at ∷ chain) ea.kinds eb.kinds given m ea.there eb.there ea.asked eb.asked place in
    ap (λ (o : Option (List Kind)). applied_to (scope_with script a slots k ja) (target.Def t) n.at o given m) ea.got ∙ made ∙ sym (ap (λ (o : Option (List Kind)). applied_to (scope_with script b slots k jb) (target.Def t) n.at o given m) eb.got)

some_target : (t u : Target) → Some t ≡ Some u → t ≡ u
some_target t u is = cc

-- and so do both scopes of a text
by_uses : (script : Script) (a b : List Use) → Pair script a b → (slots : List SlotValue) (k : ℕ) → SameCalls script a b slots k → (owner : Option ℕ) (chain : List ℕ) (ns : List Name) (ja jb : List Kind) → IsBlock (blocks [] script) (owner, ns) → Reaches a chain ns ja → Reaches b chain ns jb → Leads script chain ns
    → (n : Name) → IsOneOf ns n → (o p : Option Use) → use_at n.at a ≡ o → use_at n.at b ≡ p → target_said o ≡ target_said p → (given : List Argument) (m : Machine)
    → applied (scope_with script a slots k ja) o n.at given m ≡ applied (scope_with script b slots k jb) p n.at given m
unfolding applied
by_uses script a b pair slots k same owner chain ns ja jb block ra rb leads n inside None None iso isp targets given m = refl
by_uses script a b pair slots k same owner chain ns ja jb block ra rb leads n inside None (Some v) iso isp targets given m = absurd cc
by_uses script a b pair slots k same owner chain ns ja jb block ra rb leads n inside (Some u) None iso isp targets given m = absurd cc
by_uses script a b pair slots k same owner chain ns ja jb block ra rb leads n inside (Some u) (Some v) iso isp targets given m =
    let meant : target_in (meanings_of script) n.at ≡ Some u.target = sym (ap (λ (ms : List Meaning). target_in ms n.at) pair.first.targets) ∙ sym (same_target a n.at) ∙ ap target_said iso in
    let f = found_in pair.within 0 [] script (owner, ns) n u.target pair.placed block inside meant in
    let same_one : u.target ≡ v.target = some_target u.target v.target targets in
    ap (ascribed n.at m) (by_target script a b pair slots k same chain ns ja jb ra rb leads n inside u v iso isp u.target refl (sym same_one) f given m ∙ ap (λ (w : Target). applied_to (scope_with script b slots k jb) w n.at (kinds_of jb v.kinds) given m) same_one)

text_alike : (script : Script) (a b : List Use) → Pair script a b → (slots : List SlotValue) (k : ℕ) → SameCalls script a b slots k → (owner : Option ℕ) (chain : List ℕ) (ns : List Name) (ja jb : List Kind) → IsBlock (blocks [] script) (owner, ns) → Reaches a chain ns ja → Reaches b chain ns jb → Leads script chain ns
    → Alike (scope_with script a slots k ja) (scope_with script b slots k jb) ns
text_alike script a b pair slots k same owner chain ns ja jb block ra rb leads = record {
  slots = refl;
  targets = same_targets script a b pair;
  calls = λ n inside given m. by_uses script a b pair slots k same owner chain ns ja jb block ra rb leads n inside (use_at n.at a) (use_at n.at b) refl refl (same_targets script a b pair n.at) given m;
}

run_same : (script : Script) (a b : List Use) → Pair script a b → (slots : List SlotValue) (k : ℕ) → SameCalls script a b slots k → (t : ℕ) (chain : List ℕ) (ja jb : List Kind) (given : List Argument) (m : Machine)
    → around [] a chain ≡ Some ja → around [] b chain ≡ Some jb → open_kinds (blocks [] script) a t ≡ Some (length ja) → open_kinds (blocks [] script) b t ≡ Some (length jb)
    → ((n : Name) → IsUsedIn (blocks [] script) (Some t) n → IsPlace (blocks [] script) None chain n)
    → (o : Option (Tree ADef)) → def_at t script ≡ o → run (scope_with script a slots k ja) o given m ≡ run (scope_with script b slots k jb) o given m
run_same script a b pair slots k same t chain ja jb given m arounda aroundb opena openb place None is = refl
run_same script a b pair slots k same t chain ja jb given m arounda aroundb opena openb place (Some d) is =
    let x = text_block [] script t d is in
    let ns : List Name = names x.scope d in
    body_same (scope_with script a slots k ja) (scope_with script b slots k jb) x.scope d given m
    (text_alike script a b pair slots k same (Some t) chain ns ja jb x.block (reaches_text script a chain t ja ns x.found arounda opena) (reaches_text script b chain t jb ns x.found aroundb openb) (λ n inside. place n (block_used (blocks [] script) (Some t, ns) n x.block inside)))

calls_same : (script : Script) (a b : List Use) → Pair script a b → (slots : List SlotValue) (k : ℕ) → SameCalls script a b slots k
unfolding call_by
calls_same script a b pair slots zero t chain ja jb given m arounda aroundb opena openb place = refl
calls_same script a b pair slots (suc k) t chain ja jb given m arounda aroundb opena openb place = run_same script a b pair slots k (calls_same script a b pair slots k) t chain ja jb given m arounda aroundb opena openb place (def_at t script) refl

-- ---- statements

in_order : (bs : List Block) (uses : List Use) (cs : List Block) (b : Block) → AreInOrder bs uses cs → IsBlock cs b → IsInOrder bs uses b
in_order bs uses [] b are is = absurd is
in_order bs uses (c ∷ cs) b are (inl same) = subst (λ (x : Block). IsInOrder bs uses x) same are.0
in_order bs uses (c ∷ cs) b are (inr is) = in_order bs uses cs b are.1 is

-- a text outside of defs asks for no kinds
reaches_top : (script : Script) (uses : List Use) (ns : List Name) → IsTyped script uses → IsBlock (blocks [] script) (None, ns) → Reaches uses [] ns []
reaches_top script uses ns typed block =
    let none : numbers_in uses ns ≡ [] = in_order (blocks [] script) uses (blocks [] script) (None, ns) typed.numbered.order block in
    record { kinds = refl; below = subst (AreBelow 0) (sym none) tt }

top_alike : (script : Script) (a b : List Use) → Pair script a b → (slots : List SlotValue) (ns : List Name) → IsBlock (blocks [] script) (None, ns) → Alike (top_scope script a slots) (top_scope script b slots) ns
top_alike script a b pair slots ns block =
    text_alike script a b pair slots MAX_CALLS (calls_same script a b pair slots MAX_CALLS) None [] ns [] [] block (reaches_top script a ns pair.first block) (reaches_top script b ns pair.second block) (λ n inside. block_used (blocks [] script) (None, ns) n block inside)

statement_same : (script : Script) (a b : List Use) → Pair script a b → (sc : scoping.Scope) (part : Tree APart) (semicolon : Bool) (slots : List SlotValue) (m : Machine) → IsBlock (blocks [] script) (owner (Stmt part semicolon), names sc part) → statement (top_scope script a slots) part slots m ≡ statement (top_scope script b slots) part slots m
unfolding statement
statement_same script a b pair sc (BindPart d) semicolon slots m block = part_same (top_scope script a slots) (top_scope script b slots) sc (BindPart d) slots m (top_alike script a b pair slots (names sc d) block)
statement_same script a b pair sc (DefPart d) semicolon slots m block = refl
statement_same script a b pair sc (CallPart c) semicolon slots m block = part_same (top_scope script a slots) (top_scope script b slots) sc (CallPart c) slots m (top_alike script a b pair slots (names sc c) block)
statement_same script a b pair sc (IfPart i) semicolon slots m block = part_same (top_scope script a slots) (top_scope script b slots) sc (IfPart i) slots m (top_alike script a b pair slots (names sc i) block)

-- the same statements are settings
setting_same : (script : Script) (a b : List Use) → Pair script a b → (part : Tree APart) → is_setting a part ≡ is_setting b part
setting_same script a b pair (CallPart (NamedCall at name args)) = ap (λ (o : Option Target). means_set o && not (holds_call args)) (same_targets script a b pair at)
setting_same script a b pair (BindPart d) = refl
setting_same script a b pair (DefPart d) = refl
setting_same script a b pair (IfPart i) = refl

then_each : {A B : Type 0} (r : Result A Ending) (f g : A → Result B Ending) → ((x : A) → f x ≡ g x) → and_then r f ≡ and_then r g
then_each (Ok x) f g each = each x
then_each (Err e) f g each = refl

turned_same : (script : Script) (a b : List Use) → Pair script a b → (sc : scoping.Scope) (part : Tree APart) (semicolon : Bool) (n : ℕ) (slots : List SlotValue) (m : Machine) → IsBlock (blocks [] script) (owner (Stmt part semicolon), names sc part) → turned script a part n slots m ≡ turned script b part n slots m
unfolding turned
turned_same script a b pair sc part semicolon n slots m block =
    let first : Machine → Result (List SlotValue × Machine) Ending = λ c. ending_in n (statement (top_scope script a slots) part slots (numbered n c)) in
    let second : Machine → Result (List SlotValue × Machine) Ending = λ c. ending_in n (statement (top_scope script b slots) part slots (numbered n c)) in
    ap (λ (w : Bool). and_then (settings_settled w m) first) (setting_same script a b pair part) ∙ then_each (settings_settled (is_setting b part) m) first second (λ c. ap (ending_in n) (statement_same script a b pair sc part semicolon slots (numbered n c) block))

statements_same : (script : Script) (a b : List Use) → Pair script a b → (rest : Tree (Many AStmt)) (sc : scoping.Scope) (n : ℕ) (slots : List SlotValue) (m : Machine) → ((x : Block) → IsBlock (blocks sc rest) x → IsBlock (blocks [] script) x) → statements script a rest n slots m ≡ statements script b rest n slots m
unfolding statements
statements_same script a b pair none sc n slots m inside = refl
statements_same script a b pair (more (Stmt part semicolon) rest) sc n slots m inside =
    let first : List SlotValue × Machine → Result Machine Ending = λ x. statements script a rest (n + 1) x.0 x.1 in
    let second : List SlotValue × Machine → Result Machine Ending = λ x. statements script b rest (n + 1) x.0 x.1 in
    ap (λ r. and_then r first) (turned_same script a b pair sc part semicolon (n + 1) slots m (inside (owner (Stmt part semicolon), names sc part) (inl refl)))
    ∙ then_each (turned script b part (n + 1) slots m) first second (λ x. statements_same script a b pair rest (with_statement (Stmt part semicolon) sc) (n + 1) x.0 x.1 (λ y is. inside y (inr is)))

ran_same : AtsAreWithin → (script : Script) (a b : List Use) → IsPlaced 0 script → IsTyped script a → IsTyped script b → ran script a ≡ ran script b
ran_same within script a b placed first second = statements_same script a b (record { within = within; placed = placed; first = first; second = second }) script [] 0 [] first_machine (λ x is. is)

pub one_plan : AtsAreWithin → (script : Script) (a b : List Use) → IsPlaced 0 script → IsTyped script a → IsTyped script b → evaluation script a ≡ evaluation script b
one_plan within script a b placed first second = ap (λ r. and_then r plan_of) (ran_same within script a b placed first second)

pub same_sources : AtsAreWithin → (script : Script) (a b : List Use) → IsPlaced 0 script → IsTyped script a → IsTyped script b → sources script a ≡ sources script b
same_sources within script a b placed first second = ap (λ r. and_then r sources_of) (ran_same within script a b placed first second)
