-- A call of a def of its typing is not stuck, if the calls within it are not.
use Rattle.std.proofs.Common.{◌≡◌, ℕ, List, [], ◌∷◌, ◌++◌, Bool, true, false, cond, Option, Some, None, Ok, refl, sym, ap, subst, ◌∙◌, append_assoc, append-nil, nat_eq}
use Rattle.std.specs.Prelude.{option_map}
use Rattle.plan_core.specs.declared.node.Node.{Node}
use Rattle.script_grammar.specs.Tree.{Tree, Many, none, more, AParam, AnInner, ADef, Param, Labelled, Optional, Inner, Bind, Def}
use Rattle.type_terms.specs.Ground.{Ground}
use Rattle.typing_rules.specs.declared.form.Form.{Form}
use Rattle.typing_rules.specs.declared.form.Form.TheVariants.{InPlace, ByLabel}
use Rattle.typing_rules.specs.Arguments as arguments
use Rattle.typing_rules.specs.Arguments.{Parameter, after as behind, argument, first_missing, is_label, is_needed, label_of, left_over, missing_or, others, parameter_of, parameters_of, arguments_taken, Matched}
use Rattle.typing_rules.specs.Scripts.{params_of}
use Rattle.typing_rules.specs.Typing as typing
use Rattle.typing_rules.specs.Typing.{Sight, TypesByToken, DefHas, DefaultHas, DefaultsHave, Has, InnersHave, token_of, type_at, typed_params}
use Rattle.script_values.specs.declared.machine.Machine.{Machine}
use Rattle.script_values.specs.Outcomes.{◌>>=◌, Outcome}
use Rattle.script_values.specs.Slots.{Argument, SlotValue, value_at_token}
use Rattle.script_values.specs.Values.{Value}
use Rattle.eval_meaning.specs.Meaning as meaning
use Rattle.eval_meaning.specs.Meaning.{Surroundings, full, slot_or_default, taken_slot}
use Rattle.eval_meaning.specs.BuiltinSafety.{AreA, BuiltinsAreSafe, Grows, IsA, Of, Safe}
use Rattle.eval_meaning.specs.Safety.{HaveValues, Knows}
use Rattle.eval_meaning.proofs.SafeGrowth.{after, are_later, is_later, knows_later, stays}
use Rattle.eval_meaning.proofs.SafeExpressions.{safe_expr, safe_full}

-- ---- bindings of a def

abbrev pub SlotsAre : List Node → List SlotValue → TypesByToken → Type 0
SlotsAre ns [] [] = Unit {0}
SlotsAre ns [] (u ∷ us) = ⊥
SlotsAre ns (s ∷ ss) [] = ⊥
SlotsAre ns (s ∷ ss) (u ∷ us) = (s.0 ≡ u.0) × IsA ns s.1 u.1 × SlotsAre ns ss us

slots_push : (ns : List Node) (ss : List SlotValue) (us : TypesByToken) (s : SlotValue) (u : ℕ × Ground) → SlotsAre ns ss us → s.0 ≡ u.0 → IsA ns s.1 u.1 → SlotsAre ns (ss ++ s ∷ []) (us ++ u ∷ [])
slots_push ns [] [] s u held token is = (token, is, tt)
slots_push ns [] (k ∷ us) s u held token is = absurd held
slots_push ns (r ∷ ss) [] s u held token is = absurd held
slots_push ns (r ∷ ss) (k ∷ us) s u held token is = (held.0, held.1, slots_push ns ss us s u held.2 token is)

slots_later : (a b : List Node) → Grows a b → (ss : List SlotValue) (us : TypesByToken) → SlotsAre a ss us → SlotsAre b ss us
slots_later a b grows [] [] held = tt
slots_later a b grows [] (k ∷ us) held = absurd held
slots_later a b grows (r ∷ ss) [] held = absurd held
slots_later a b grows (r ∷ ss) (k ∷ us) held = (held.0, is_later a b grows r.1 k.1 held.1, slots_later a b grows ss us held.2)

abbrev pub IsFound : List Node → Option Value → Ground → Type 0
IsFound ns q g = (v : Value) × (q ≡ Some v) × IsA ns v g

first_or : (ns : List Node) (b : Bool) (v : Value) (h g : Ground) (o : Option Ground) (q : Option Value) → IsA ns v h → (o ≡ Some g → IsFound ns q g) → cond b (Some h) o ≡ Some g → IsFound ns (cond b (Some v) q) g
first_or ns true v h g o q held later is = let same : h ≡ g = cc in (v, refl, subst (λ (k : Ground). IsA ns v k) same held)
first_or ns false v h g o q held later is = later is

pub fits_within : (ns : List Node) (ss : List SlotValue) (us : TypesByToken) (globals : List SlotValue) (types : TypesByToken) → SlotsAre ns ss us → HaveValues ns types globals → HaveValues ns (us ++ types) (ss ++ globals)
fits_within ns [] [] globals types held fits at g is = fits at g is
fits_within ns [] (k ∷ us) globals types held fits at g is = absurd held
fits_within ns (r ∷ ss) [] globals types held fits at g is = absurd held
fits_within ns (r ∷ ss) (k ∷ us) globals types held fits at g is =
    first_or ns (nat_eq r.0 at) r.1 k.1 g (type_at at (us ++ types)) (value_at_token at (ss ++ globals)) held.1 (fits_within ns ss us globals types held.2 fits at g)
    (ap (λ (i : ℕ). cond (nat_eq i at) (Some k.1) (type_at at (us ++ types))) held.0 ∙ is)

knows_within : (s : Surroundings) (t : Sight) (ns : List Node) (ss : List SlotValue) (us : TypesByToken) → Knows s t ns → SlotsAre ns ss us → Knows (meaning.with_slots s ss) (typing.within us t) ns
knows_within s t ns ss us knows held = record { target = knows.target; kinds = knows.kinds; slots = fits_within ns ss us s.slots t.types held knows.slots; calls = knows.calls }

safe_inners : BuiltinsAreSafe → (s : Surroundings) (t : Sight) (is : Tree (Many AnInner)) (us vs : TypesByToken) (ss : List SlotValue) (m : Machine) → Knows s t m.plan.nodes → SlotsAre m.plan.nodes ss us → InnersHave t is us vs
    → Safe m.plan.nodes (λ ks out. SlotsAre ks out vs) (meaning.inners s is ss m)
unfolding meaning.inners meaning.inner
safe_inners bs s t none us vs ss m knows held has = (stays m.plan.nodes, subst (λ (l : TypesByToken). SlotsAre m.plan.nodes ss l) (sym has) held)
safe_inners bs s t (more (Inner (Bind at name f) semicolon) is) us vs ss m knows held has =
    after m.plan.nodes (λ ks one. (one.0 ≡ at) × IsA ks one.1 has.0) (λ ks out. SlotsAre ks out vs) (meaning.inner s (Inner (Bind at name f) semicolon) ss m) (λ x. meaning.inners s is (ss ++ x.0 ∷ []) x.1)
    (after m.plan.nodes (Of has.0) (λ ks one. (one.0 ≡ at) × IsA ks one.1 has.0) (full (meaning.with_slots s ss) f m) (λ x. Ok ((at, x.0), x.1)) (safe_full bs (meaning.with_slots s ss) (typing.within us t) f has.0 has.1 m (knows_within s t m.plan.nodes ss us knows held)) (λ x grows made. (stays x.1.plan.nodes, (refl, made))))
    (λ x grows one. safe_inners bs s t is (us ++ (at, has.0) ∷ []) vs (ss ++ x.0 ∷ []) x.1 (knows_later m.plan.nodes x.1.plan.nodes grows s t knows) (slots_push x.1.plan.nodes ss us x.0 (at, has.0) (slots_later m.plan.nodes x.1.plan.nodes grows ss us held) one.0 one.1) has.2)

-- ---- arguments and parameters

abbrev pub Found : List Node → Option (Value × List Argument) → Option (Ground × List (arguments.GivenArgument Ground)) → Type 0
Found ns None None = Unit {0}
Found ns None (Some y) = ⊥
Found ns (Some x) None = ⊥
Found ns (Some x) (Some y) = IsA ns x.0 y.0 × AreA ns x.1 y.1

behind_found : (ns : List Node) (g : Argument) (h : arguments.GivenArgument Ground) (q : Option (Value × List Argument)) (o : Option (Ground × List (arguments.GivenArgument Ground))) → g.0 ≡ h.0 → IsA ns g.1 h.1 → Found ns q o → Found ns (behind g q) (behind h o)
behind_found ns g h None None label is found = tt
behind_found ns g h None (Some y) label is found = absurd found
behind_found ns g h (Some x) None label is found = absurd found
behind_found ns g h (Some x) (Some y) label is found = (found.0, (label, is, found.1))

by_label : (ns : List Node) (b : Bool) (g : Argument) (h : arguments.GivenArgument Ground) (given : List Argument) (gs : List (arguments.GivenArgument Ground)) (q : Option (Value × List Argument)) (o : Option (Ground × List (arguments.GivenArgument Ground))) → IsA ns g.1 h.1 → AreA ns given gs → Found ns q o
    → Found ns (cond b (Some (g.1, given)) q) (cond b (Some (h.1, gs)) o)
by_label ns true g h given gs q o is held found = (is, held)
by_label ns false g h given gs q o is held found = found

pub argument_found : (ns : List Node) (label : Option (List ℕ)) (given : List Argument) (gs : List (arguments.GivenArgument Ground)) → AreA ns given gs → Found ns (argument label given) (argument label gs)
argument_found ns label [] [] held = tt
argument_found ns label [] (h ∷ gs) held = absurd held
argument_found ns label (g ∷ given) [] held = absurd held
argument_found ns label (g ∷ given) (h ∷ gs) held =
    subst (λ (l : Option (List ℕ)). Found ns (argument label (g ∷ given)) (cond (is_label label l) (Some (h.1, gs)) (behind h (argument label gs)))) held.0
    (by_label ns (is_label label g.0) g h given gs (behind g (argument label given)) (behind h (argument label gs)) held.1 held.2 (behind_found ns g h (argument label given) (argument label gs) held.0 held.1 (argument_found ns label given gs held.2)))

-- the type that a parameter takes, if it takes one
abbrev Takes : Option (Ground × List (arguments.GivenArgument Ground)) → Ground → Type 0
Takes None u = Unit {0}
Takes (Some y) u = y.0 ≡ u

needed_later : (b : Bool) (name : List ℕ) (later : Option (List ℕ)) → cond b (Some name) later ≡ None → later ≡ None
needed_later true name later is = absurd cc
needed_later false name later is = is

none_later : (p : Parameter) (o : Option (Ground × List (arguments.GivenArgument Ground))) (later : Option (List ℕ)) → missing_or p o later ≡ None → later ≡ None
none_later p None later is = needed_later (is_needed p.form) p.name later is
none_later p (Some y) later is = is

fits_first : (o : Option (Ground × List (arguments.GivenArgument Ground))) (os : List (Option Ground)) (u : Ground) (us : List Ground) → arguments.TakenAs (option_map (λ x. x.0) o ∷ os) (u ∷ us) → Takes o u
fits_first None os u us fits = tt
fits_first (Some y) os u us fits = fits.0

fits_rest : (o : Option (Ground × List (arguments.GivenArgument Ground))) (os : List (Option Ground)) (u : Ground) (us : List Ground) → arguments.TakenAs (option_map (λ x. x.0) o ∷ os) (u ∷ us) → arguments.TakenAs os us
fits_rest None os u us fits = fits
fits_rest (Some y) os u us fits = fits.1

-- what a parameter leaves: its slot, and the other arguments
abbrev Took : ℕ → Ground → List (arguments.GivenArgument Ground) → List Node → SlotValue × List Argument → Type 0
Took at u gs ks out = (out.0.0 ≡ at) × IsA ks out.0.1 u × AreA ks out.1 gs

taken_safe : (at : ℕ) (u : Ground) (gs : List (arguments.GivenArgument Ground)) (q : Option (Value × List Argument)) (o : Option (Ground × List (arguments.GivenArgument Ground))) (m : Machine) → (o ≡ None → ⊥) → Takes o u → Found m.plan.nodes q o
    → Safe m.plan.nodes (Took at u (others gs o)) (taken_slot at q m)
taken_safe at u gs None None m some takes found = absurd (some refl)
taken_safe at u gs None (Some y) m some takes found = absurd found
taken_safe at u gs (Some x) None m some takes found = absurd found
taken_safe at u gs (Some x) (Some y) m some takes found = (stays m.plan.nodes, (refl, subst (λ (k : Ground). IsA m.plan.nodes x.0 k) takes found.0, found.1))

default_safe : (at : ℕ) (u : Ground) (given : List Argument) (gs : List (arguments.GivenArgument Ground)) (q : Option (Value × List Argument)) (o : Option (Ground × List (arguments.GivenArgument Ground))) (default : Outcome) (m : Machine) → AreA m.plan.nodes given gs → Takes o u → Found m.plan.nodes q o
    → Safe m.plan.nodes (Of u) default → Safe m.plan.nodes (Took at u (others gs o)) (slot_or_default at q given default m)
default_safe at u given gs None None default m held takes found safe = after m.plan.nodes (Of u) (Took at u gs) default (λ x. Ok (((at, x.0), given), x.1)) safe (λ x grows is. (stays x.1.plan.nodes, (refl, is, are_later m.plan.nodes x.1.plan.nodes grows given gs held)))
default_safe at u given gs None (Some y) default m held takes found safe = absurd found
default_safe at u given gs (Some x) None default m held takes found safe = absurd found
default_safe at u given gs (Some x) (Some y) default m held takes found safe = (stays m.plan.nodes, (refl, subst (λ (k : Ground). IsA m.plan.nodes x.0 k) takes found.0, found.1))

is_there : (name : List ℕ) (o : Option (Ground × List (arguments.GivenArgument Ground))) (later : Option (List ℕ)) (f : Form) → is_needed f ≡ true → missing_or (record { name = name; form = f }) o later ≡ None → o ≡ None → ⊥
is_there name o later f needed is none_there =
    let at_none : cond (is_needed f) (Some name) later ≡ None = subst (λ (x : Option (Ground × List (arguments.GivenArgument Ground))). missing_or (record { name = name; form = f }) x later ≡ None) none_there is in
    let at_true : cond true (Some name) later ≡ None = subst (λ (b : Bool). cond b (Some name) later ≡ None) needed at_none in
    absurd cc

safe_parameter : BuiltinsAreSafe → (s : Surroundings) (t : Sight) (p : Tree AParam) (u : Ground) (given : List Argument) (gs : List (arguments.GivenArgument Ground)) (later : Option (List ℕ)) (m : Machine) → Knows s t m.plan.nodes → AreA m.plan.nodes given gs
    → missing_or (parameter_of p) (argument (label_of (parameter_of p)) gs) later ≡ None → Takes (argument (label_of (parameter_of p)) gs) u → DefaultHas t p u
    → Safe m.plan.nodes (Took (token_of p) u (others gs (argument (label_of (parameter_of p)) gs))) (meaning.parameter s p given m)
unfolding meaning.parameter
safe_parameter bs s t (Param at name) u given gs later m knows held missing takes has = taken_safe at u gs (argument None given) (argument None gs) m (is_there name (argument None gs) later InPlace refl missing) takes (argument_found m.plan.nodes None given gs held)
safe_parameter bs s t (Labelled at name) u given gs later m knows held missing takes has = taken_safe at u gs (argument (Some name) given) (argument (Some name) gs) m (is_there name (argument (Some name) gs) later ByLabel refl missing) takes (argument_found m.plan.nodes (Some name) given gs held)
safe_parameter bs s t (Optional at name d) u given gs later m knows held missing takes has = default_safe at u given gs (argument (Some name) given) (argument (Some name) gs) (full s d m) m held takes (argument_found m.plan.nodes (Some name) given gs held) (safe_full bs s t d u has m knows)

safe_parameters : BuiltinsAreSafe → (s : Surroundings) (t : Sight) (ps : Tree (Many AParam)) (us : List Ground) (given : List Argument) (gs : List (arguments.GivenArgument Ground)) (ss : List SlotValue) (done : TypesByToken) (m : Machine) → Knows s t m.plan.nodes → AreA m.plan.nodes given gs
    → first_missing (parameters_of ps) gs ≡ None → arguments.TakenAs (arguments_taken (parameters_of ps) gs) us → DefaultsHave t ps us → SlotsAre m.plan.nodes ss done
    → Safe m.plan.nodes (λ ks out. SlotsAre ks out (done ++ typed_params ps us)) (meaning.parameters s ps given ss m)
unfolding meaning.parameters
safe_parameters bs s t none us given gs ss done m knows held missing fits has slots = (stays m.plan.nodes, subst (λ (l : TypesByToken). SlotsAre m.plan.nodes ss l) (sym (append-nil done)) slots)
safe_parameters bs s t (more p ps) [] given gs ss done m knows held missing fits has slots = absurd has
safe_parameters bs s t (more p ps) (u ∷ us) given gs ss done m knows held missing fits has slots =
    let o = argument (label_of (parameter_of p)) gs in
    let later = first_missing (parameters_of ps) (others gs o) in
    let taken_later = arguments_taken (parameters_of ps) (others gs o) in
    subst (λ (l : TypesByToken). Safe m.plan.nodes (λ ks out. SlotsAre ks out l) (meaning.parameters s (more p ps) given ss m)) (append_assoc done ((token_of p, u) ∷ []) (typed_params ps us))
    (after m.plan.nodes (Took (token_of p) u (others gs o)) (λ ks out. SlotsAre ks out ((done ++ (token_of p, u) ∷ []) ++ typed_params ps us)) (meaning.parameter s p given m) (λ x. meaning.parameters s ps x.0.1 (ss ++ x.0.0 ∷ []) x.1)
    (safe_parameter bs s t p u given gs later m knows held missing (fits_first o taken_later u us fits) has.0)
    (λ x grows took. safe_parameters bs s t ps us x.0.1 (others gs o) (ss ++ x.0.0 ∷ []) (done ++ (token_of p, u) ∷ []) x.1 (knows_later m.plan.nodes x.1.plan.nodes grows s t knows) took.2
    (none_later (parameter_of p) o later missing) (fits_rest o taken_later u us fits) has.1 (slots_push x.1.plan.nodes ss done x.0.0 (token_of p, u) (slots_later m.plan.nodes x.1.plan.nodes grows ss done slots) took.0 took.1)))

-- ---- the body

pub safe_body : BuiltinsAreSafe → (s : Surroundings) (t : Sight) (d : Tree ADef) (ps : List Parameter) (us : List Ground) (g : Ground) (given : List Argument) (gs : List (arguments.GivenArgument Ground)) (m : Machine) → Knows s t m.plan.nodes → AreA m.plan.nodes given gs
    → ps ≡ params_of d → Matched ps gs us → DefHas t d us g → Safe m.plan.nodes (Of g) (meaning.body s d given m)
unfolding meaning.body
safe_body bs s t (Def at name params equals bindings result) ps us g given gs m knows held same matched has =
    let here : Matched (parameters_of params) gs us = subst (λ (l : List Parameter). Matched l gs us) same matched in
    let inside = has.1.0 in
    after m.plan.nodes (λ ks out. SlotsAre ks out (typed_params params us)) (Of g) (meaning.parameters s params given [] m) (λ x. meaning.inners s bindings x.0 x.1 >>= λ y. meaning.expr (meaning.with_slots s y.0) result y.1)
    (safe_parameters bs s t params us given gs [] [] m knows held here.0 here.2 has.0 tt) (λ x grows slots.
    after x.1.plan.nodes (λ ks out. SlotsAre ks out inside) (Of g) (meaning.inners s bindings x.0 x.1) (λ y. meaning.expr (meaning.with_slots s y.0) result y.1)
    (safe_inners bs s t bindings (typed_params params us) inside x.0 x.1 (knows_later m.plan.nodes x.1.plan.nodes grows s t knows) slots has.1.1) (λ y wider kept.
    safe_expr bs (meaning.with_slots s y.0) (typing.within inside t) result g has.1.2 y.1 (knows_within s t y.1.plan.nodes y.0 inside (knows_later x.1.plan.nodes y.1.plan.nodes wider s t (knows_later m.plan.nodes x.1.plan.nodes grows s t knows)) kept)))
