-- What steps on the place of a result come to.
use Rattle.std.proofs.Common.{◌≡◌, ℕ, ◌+◌, ◌<◌, ◌≤◌, Bool, true, false, List, Option, Some, None, length, drop, get_or, Result, Ok, Err, refl, sym, ap, subst, ◌∙◌}
use Rattle.std.specs.Prelude.{map, is_err}
use Rattle.script_grammar.specs.Tree.{Sort, Tree, Many, none}
use Rattle.script_grammar.specs.View.{listed, view_compare, view_full, view_if, view_sum}
use Rattle.typing_rules.specs.declared.uses.Use.{Use}
use Rattle.typing_rules.specs.Kinds.{kinds_of}
use Rattle.script_values.specs.Gives.{Fails, Gives}
use Rattle.script_values.specs.Machines.{noted_by}
use Rattle.script_values.specs.Numbers.{truth_of}
use Rattle.script_values.specs.Outcomes.{◌>>=◌, Outcome, ascribed}
use Rattle.script_values.specs.Slots.{Argument}
use Rattle.script_values.specs.Values.{Value}
use Rattle.script_values.specs.View.{view_value}
use Rattle.script_values.specs.declared.fault.Stop.{Stop}
use Rattle.script_values.specs.declared.machine.Machine.{Machine}
use Rattle.script_values.specs.declared.value.Value as program
use Rattle.script_grammar.specs.declared.tree.Compare as compare
use Rattle.script_grammar.specs.declared.tree.Compared as compared
use Rattle.script_grammar.specs.declared.tree.Full.{Full}
use Rattle.script_grammar.specs.declared.tree.If.{If}
use Rattle.eval_meaning.specs.Meaning as meaning
use Rattle.eval_meaning.specs.Meaning.{Surroundings, operator_applied}
use Rattle.expression_eval.specs.Places.{Place, Failed, Goes, Joins, GoesBehind, Notes, Tells}
use Rattle.expression_eval.specs.Steps.{after_count, noted_value, operation}
use Rattle.expression_eval.specs.declared.steps.Operator.{Operator}
use Rattle.expression_eval.proofs.Loops.{Steps, ends, fails_on, fails_same, stops, turn}
use Rattle.expression_eval.proofs.Productions.{alone_means, choice_means, chosen, compared_means, first_fails, with_last}

-- ---- a first part, and what comes behind it

-- a fault of the first part is one of the whole
pub failed_gives : {A B : Type 0} (view : program.Value → B) (now : Place) (first : Result A Stop) (f : A → Result B Stop) → Failed now first → Gives view now (first >>= f)
failed_gives view (Ok v) first f nothing = absurd nothing
failed_gives view (Err e) first f fault = fails_on e first f fault

pub failed_same : {A : Type 0} (now : Place) (r q : Result A Stop) → r ≡ q → Failed now r → Failed now q
failed_same now r q same is = subst (λ (x : Result _ Stop). Failed now x) same is

-- a step on the value of the first part is the whole
pub then_goes : (old now : Place) (m n : Machine) (first : Outcome) (step : Value × Machine → Outcome) → Gives (λ v. (view_value v, m)) old first → Goes (λ v. step (v, m)) old now n → Gives (λ v. (view_value v, n)) now (first >>= step)
then_goes (Ok v) now m n first step is goes = subst (λ (o : Outcome). Gives (λ w. (view_value w, n)) now (o >>= step)) (sym is) goes
then_goes (Err e) now m n first step fault same = subst (λ (p : Place). Gives (λ w. (view_value w, n)) p (first >>= step)) (sym same) (fails_on e first step fault)

-- the same for a whole that means so
pub goes_means : (old now : Place) (m n : Machine) (whole first : Outcome) (step : Value × Machine → Outcome) → whole ≡ (first >>= step) → Gives (λ v. (view_value v, m)) old first → Goes (λ v. step (v, m)) old now n → Gives (λ v. (view_value v, n)) now whole
goes_means old now m n whole first step means gives goes = subst (λ (o : Outcome). Gives (λ v. (view_value v, n)) now o) (sym means) (then_goes old now m n first step gives goes)

pub gives_same : (now : Place) (m : Machine) (whole meant : Outcome) → whole ≡ meant → Gives (λ v. (view_value v, m)) now meant → Gives (λ v. (view_value v, m)) now whole
gives_same now m whole meant same gives = subst (λ (o : Outcome). Gives (λ v. (view_value v, m)) now o) (sym same) gives

-- what comes behind a first part that gives this
pub behind_gives : {A : Type 0} (now : Place) (m : Machine) (whole : Outcome) (first : Result A Stop) (f : A → Outcome) (a : A) → whole ≡ (first >>= f) → first ≡ Ok a → Gives (λ v. (view_value v, m)) now (f a) → Gives (λ v. (view_value v, m)) now whole
behind_gives now m whole first f a means went gives = gives_same now m whole (f a) (means ∙ ap (λ (o : Result _ Stop). o >>= f) went) gives

pub failed_means : {A : Type 0} (now : Place) (m : Machine) (whole : Outcome) (first : Result A Stop) (f : A → Outcome) → whole ≡ (first >>= f) → Failed now first → Gives (λ v. (view_value v, m)) now whole
failed_means now m whole first f means failed = gives_same now m whole (first >>= f) means (failed_gives (λ v. (view_value v, m)) now first f failed)

-- an operator on what its operands give
pub joins_goes : (o : Operator) (old now right : Place) (m n : Machine) (q : Outcome) → Gives (λ w. (view_value w, m)) right q → Joins o right m old now n → Goes (λ v. operator_applied (operation o) v q) old now n
joins_goes o (Err e) now right m n q gives joins = joins
joins_goes o (Ok v) now (Err e) m n q fault same =
    subst (λ (p : Place). Gives (λ w. (view_value w, n)) p (operator_applied (operation o) (view_value v) q)) (sym same) (fails_on e q (λ x. after_count (operation o (view_value v) x.0) x.1) fault)
joins_goes o (Ok v) now (Ok w) m n q is gives = subst (λ (r : Outcome). Gives (λ u. (view_value u, n)) now (operator_applied (operation o) (view_value v) r)) (sym is) gives

-- a call with its sources noted
pub notes_gives : (at before : ℕ) (old now : Place) (a m n : Machine) (meant : Outcome) → before ≡ length a.plan.nodes → Gives (λ v. (view_value v, m)) old meant → Notes at before old m now n → Gives (λ v. (view_value v, n)) now (ascribed at a meant)
notes_gives at before (Ok v) now a m n meant same is notes =
    subst (λ (o : Outcome). Gives (λ w. (view_value w, n)) now (ascribed at a o)) (sym is)
    (subst (λ (k : ℕ). Gives (λ w. (view_value w, n)) now (noted_value at k (view_value v) m)) same notes)
notes_gives at before (Err e) now a m n meant same fault is =
    subst (λ (p : Place). Gives (λ w. (view_value w, n)) p (ascribed at a meant)) (sym is) (fails_on e meant (λ x. Ok (x.0, noted_by at (length a.plan.nodes) x.1)) fault)

applied_means : (s : Surroundings) (o : Option Use) (u : Use) (at : ℕ) (given : List Argument) (m : Machine) → o ≡ Some u → meaning.applied s o at given m ≡ ascribed at m (meaning.applied_to s u.target at (kinds_of s.kinds u.kinds) given m)
unfolding meaning.applied
applied_means s o u at given m is = ap (λ (x : Option Use). meaning.applied s x at given m) is

pub applied_gives : (s : Surroundings) (o : Option Use) (u : Use) (at before : ℕ) (given : List Argument) (old now : Place) (a m n : Machine) → o ≡ Some u → before ≡ length a.plan.nodes
    → Gives (λ v. (view_value v, m)) old (meaning.applied_to s u.target at (kinds_of s.kinds u.kinds) given a) → Notes at before old m now n → Gives (λ v. (view_value v, n)) now (meaning.applied s o at given a)
applied_gives s o u at before given old now a m n is same gives notes =
    gives_same now n (meaning.applied s o at given a) _ (applied_means s o u at given a is) (notes_gives at before old now a m n (meaning.applied_to s u.target at (kinds_of s.kinds u.kinds) given a) same gives notes)

pub goes_same : (old now : Place) (m : Machine) (f g : Value → Outcome) → ((v : Value) → f v ≡ g v) → Goes g old now m → Goes f old now m
goes_same (Ok v) now m f g same goes = gives_same now m (f (view_value v)) (g (view_value v)) (same (view_value v)) goes
goes_same (Err e) now m f g same goes = goes

-- a comparison whose left side has no value
compare_stopped : (s : Surroundings) (e : compare.Compare) (m : Machine) (o : Option compared.Compared) (x : Stop) → (compare.out-Compare e).right ≡ o → Fails x (meaning.sum s (view_sum (compare.out-Compare e).left) m) → Fails x (meaning.compare s (view_compare e) m)
compare_stopped s e m None x is fault = fails_same x _ _ (sym (alone_means s e m is)) fault
compare_stopped s e m (Some r) x is fault = first_fails x _ _ _ (compared_means s e r m is) fault

pub compare_stops : (s : Surroundings) (e : compare.Compare) (m : Machine) (now : Place) (n : Machine) → Gives (λ v. (view_value v, n)) now (meaning.sum s (view_sum (compare.out-Compare e).left) m) → is_err now ≡ true → Gives (λ v. (view_value v, n)) now (meaning.compare s (view_compare e) m)
compare_stops s e m (Ok v) n gives stopped = absurd (let no : false ≡ true = stopped in cc)
compare_stops s e m (Err x) n fault stopped = compare_stopped s e m (compare.out-Compare e).right x refl fault

-- a condition, and what comes behind its truth
abbrev pub behind_truth : (Bool → Machine → Outcome) → Value × Machine → Outcome
behind_truth f x = truth_of x.0 >>= λ b. f b x.1

pub told : (old now : Place) (b : Bool) (m : Machine) (first : Outcome) (f : Bool → Machine → Outcome) → Gives (λ v. (view_value v, m)) old first → Tells old (Some b) now → (first >>= behind_truth f) ≡ f b m
told (Ok v) now b m first f is tells = ap (λ (o : Outcome). o >>= behind_truth f) is ∙ ap (λ (r : Result Bool Stop). r >>= λ c. f c m) tells
told (Err e) now b m first f fault nothing = absurd nothing

pub untold : (old now : Place) (m : Machine) (first : Outcome) (f : Bool → Machine → Outcome) → Gives (λ v. (view_value v, m)) old first → Tells old None now → Gives (λ v. (view_value v, m)) now (first >>= behind_truth f)
untold (Ok v) now m first f is tells = subst (λ (o : Outcome). Gives (λ w. (view_value w, m)) now (o >>= behind_truth f)) (sym is) (failed_gives (λ w. (view_value w, m)) now (truth_of (view_value v)) (λ b. f b m) tells)
untold (Err e) now m first f fault same = subst (λ (p : Place). Gives (λ w. (view_value w, m)) p (first >>= behind_truth f)) (sym same) (fails_on e first (behind_truth f) fault)

pub choice_fails : (s : Surroundings) (i : If) (f : Full) (old now : Place) (m n : Machine) → f ≡ i.condition.value → Gives (λ v. (view_value v, n)) old (meaning.full s (view_full f) m) → Tells old None now → Gives (λ v. (view_value v, n)) now (meaning.choice s (view_if i) m)
choice_fails s i f old now m n is gives tells =
    gives_same now n (meaning.choice s (view_if i) m) (meaning.full s (view_full i.condition.value) m >>= behind_truth (chosen s i)) (choice_means s i m)
    (untold old now n (meaning.full s (view_full i.condition.value) m) (chosen s i) (subst (λ (g : Full). Gives (λ v. (view_value v, n)) old (meaning.full s (view_full g) m)) is gives) tells)

-- the branch that the truth chooses
pub choice_goes : (s : Surroundings) (i : If) (b : Bool) (f : Full) (old between now : Place) (m n k : Machine) → f ≡ i.condition.value → Gives (λ v. (view_value v, n)) old (meaning.full s (view_full f) m) → Tells old (Some b) between → Gives (λ v. (view_value v, k)) now (chosen s i b n)
    → Gives (λ v. (view_value v, k)) now (meaning.choice s (view_if i) m)
choice_goes s i b f old between now m n k is gives tells goes =
    gives_same now k (meaning.choice s (view_if i) m) (chosen s i b n)
    (choice_means s i m ∙ told old between b n (meaning.full s (view_full i.condition.value) m) (chosen s i) (subst (λ (g : Full). Gives (λ v. (view_value v, n)) old (meaning.full s (view_full g) m)) is gives) tells) goes

pub full_same : (s : Surroundings) (f g : Full) (now : Place) (m n : Machine) → f ≡ g → Gives (λ v. (view_value v, n)) now (meaning.full s (view_full f) m) → Gives (λ v. (view_value v, n)) now (meaning.full s (view_full g) m)
full_same s f g now m n is gives = subst (λ (x : Full). Gives (λ v. (view_value v, n)) now (meaning.full s (view_full x) m)) is gives

-- ---- the loops

-- Where a loop stands, by what the place held at its start: what is left gives the whole from the value that is there, or the fault there is that of the whole.
abbrev pub Left : (Value → Outcome) → (Value → Machine → Outcome) → Place → Place → Machine → Type 0
Left whole rest (Ok v) (Ok w) m = rest (view_value w) m ≡ whole (view_value v)
Left whole rest (Ok v) (Err e) m = Fails e (whole (view_value v))
Left whole rest (Err e) now m = now ≡ Err e

pub left_starts : (whole : Value → Outcome) (rest : Value → Machine → Outcome) (old : Place) (m : Machine) → ((v : Value) → rest v m ≡ whole v) → Left whole rest old old m
left_starts whole rest (Ok v) m same = same (view_value v)
left_starts whole rest (Err e) m same = refl

pub left_turns : {S : Sort} {X : Type 0} (view : X → Tree S) {F : Tree (Many S) → Value → Machine → Outcome} {step : Tree S → Value → Machine → Outcome} → Steps F step
    → (xs : List X) (i : ℕ) (x : X) (old now new : Place) (m n : Machine) (whole : Value → Outcome) → Left whole (F (listed (map view (drop i xs)))) old now m → i < length xs → x ≡ get_or xs i x
    → Goes (λ v. step (view x) v m) now new n → Left whole (F (listed (map view (drop (i + 1) xs)))) old new n
left_turns view {step = step} steps xs i x (Err e) now new m n whole left lt is goes = subst (λ (p : Place). Goes (λ v. step (view x) v m) p new n) left goes
left_turns view steps xs i x (Ok v) (Ok w) (Ok u) m n whole left lt is goes = turn view steps xs i x (view_value w) (view_value u) m n (whole (view_value v)) left lt is goes
left_turns view steps xs i x (Ok v) (Ok w) (Err e) m n whole left lt is goes = stops view steps xs i x (view_value w) m (whole (view_value v)) e left lt is goes
left_turns view {F = F} steps xs i x (Ok v) (Err e) new m n whole left lt is goes = subst (λ (p : Place). Left whole (F (listed (map view (drop (i + 1) xs)))) (Ok v) p n) (sym goes) left

pub left_ends : {S : Sort} {X : Type 0} (view : X → Tree S) (F : Tree (Many S) → Value → Machine → Outcome) (xs : List X) (i : ℕ) (old now : Place) (m : Machine) (whole : Value → Outcome)
    → Left whole (F (listed (map view (drop i xs)))) old now m → length xs ≤ i → ((v : Value) → F none v m ≡ Ok (v, m)) → Goes whole old now m
left_ends view F xs i (Err e) now m whole left over last = left
left_ends view F xs i (Ok v) (Ok w) m whole left over last = ends view F xs i (view_value w) m (whole (view_value v)) left over ∙ last (view_value w)
left_ends view F xs i (Ok v) (Err e) m whole left over last = left

pub left_stops : (whole : Value → Outcome) (rest : Value → Machine → Outcome) (old now : Place) (m : Machine) → Left whole rest old now m → is_err now ≡ true → Goes whole old now m
left_stops whole rest (Err e) now m left stopped = left
left_stops whole rest (Ok v) (Ok w) m left stopped = absurd (let no : false ≡ true = stopped in cc)
left_stops whole rest (Ok v) (Err e) m left stopped = left

-- ---- values behind one another

pub kept_on : {X : Type 0} (made : Value → X) (old now : Place) (before after : List X) (m : Machine) (first : Outcome) → Gives (λ v. (view_value v, m)) old first → GoesBehind made old true before after now
    → ((first >>= λ x. Ok (made x.0, x.1)) >>= with_last before) ≡ Ok (after, m)
kept_on made (Ok v) now before after m first is keeps = ap (λ (o : Outcome). (o >>= λ x. Ok (made x.0, x.1)) >>= with_last before) is ∙ ap (λ (l : List _). Ok (l, m)) (sym keeps)
kept_on made (Err e) now before after m first fault nothing = absurd nothing

pub kept_off : {X : Type 0} (made : Value → X) (old now : Place) (before after : List X) (m : Machine) (first : Outcome) → Gives (λ v. (view_value v, m)) old first → GoesBehind made old false before after now
    → Failed now ((first >>= λ x. Ok (made x.0, x.1)) >>= with_last before)
kept_off made (Ok v) now before after m first is keeps = subst (λ (p : Place). Failed p ((first >>= λ x. Ok (made x.0, x.1)) >>= with_last before)) (sym keeps) tt
kept_off made (Err e) now before after m first fault keeps =
    subst (λ (p : Place). Failed p ((first >>= λ x. Ok (made x.0, x.1)) >>= with_last before)) (sym keeps) (fails_on e (first >>= λ x. Ok (made x.0, x.1)) (with_last before) (fails_on e first (λ x. Ok (made x.0, x.1)) fault))

pub plain_last : (r : Outcome) (before : List Value) → (r >>= with_last before) ≡ ((r >>= λ x. Ok (x.0, x.1)) >>= with_last before)
plain_last (Ok x) before = refl
plain_last (Err e) before = refl

-- a value that is made of several, in the place
pub made_gives : {A : Type 0} (now : Place) (m : Machine) (whole : Outcome) (first : Result A Stop) (f : A → Outcome) (a : A) (made : program.Value) → whole ≡ (first >>= f) → first ≡ Ok a → f a ≡ Ok (view_value made, m) → now ≡ Ok made → Gives (λ v. (view_value v, m)) now whole
made_gives now m whole first f a made means went is put = subst (λ (p : Place). Gives (λ v. (view_value v, m)) p whole) (sym put) (means ∙ ap (λ (o : Result _ Stop). o >>= f) went ∙ is)

-- a fault in the place ends the loop
pub failed_stops : {S : Sort} {X A B : Type 0} (view : X → Tree S) {F : Tree (Many S) → A → Machine → Result B Stop} {step : Tree S → A → Machine → Result (A × Machine) Stop} → Steps F step
    → (xs : List X) (i : ℕ) (x : X) (a : A) (m : Machine) (whole : Result B Stop) (now : Place) → F (listed (map view (drop i xs))) a m ≡ whole → i < length xs → x ≡ get_or xs i x → Failed now (step (view x) a m)
    → Failed now whole
failed_stops view steps xs i x a m whole (Ok v) so lt is nothing = absurd nothing
failed_stops view steps xs i x a m whole (Err e) so lt is fault = stops view steps xs i x a m whole e so lt is fault
