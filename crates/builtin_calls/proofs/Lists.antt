-- A loop over the parts of a list value: what is still to read gives the whole.
use Rattle.std.proofs.Common.{◌≡◌, ℕ, ◌+◌, ◌<◌, ◌≤◌, List, [], ◌∷◌, ◌++◌, length, drop, get_or, Result, Ok, Err, refl, sym, ap, ◌∙◌, arith}
use Rattle.std.proofs.lemmas.List.{at_drop_more, at_drop_all}
use Rattle.std.specs.Prelude.{map}
use Rattle.liq_base.specs.declared.memory.Kind.{Kind}
use Rattle.time_pred.specs.Predicates.{Predicate}
use Rattle.plan_core.specs.declared.node.Node.{Node}
use Rattle.script_values.specs.declared.fault.Stop.{Stop}
use Rattle.script_values.specs.declared.fault.Stop.TheVariants.{Stuck}
use Rattle.script_values.specs.declared.value.Value as program
use Rattle.script_values.specs.Gives.{Fails}
use Rattle.script_values.specs.Outcomes.{◌>>=◌}
use Rattle.script_values.specs.Values.{ValueTree, ManyValues, no_values, more_values, many, Value}
use Rattle.script_values.specs.View.{view_value}
use Rattle.script_values.proofs.Chains.{fails_on, fails_same}
use Rattle.script_values.proofs.Rows.{listed_seen, tuple_seen}
use Rattle.std.specs.Global.{Vec}
use Rattle.builtin_calls.specs.Parts.{source_of, nodes_from, sources_of, pair_in, case_of, pairs_from, pairs_of}

-- F reads parts from a state, step one of them, and both open as they should
record Steps {A B : Type 0} (F : ValueTree ManyValues → A → Result B Stop) (step : Value → A → Result A Stop) : Type 0 where
  opens : (v : Value) (vs : ValueTree ManyValues) (a : A) → F (more_values v vs) a ≡ (step v a >>= λ b. F vs b)

front : {A B : Type 0} (F : ValueTree ManyValues → A → Result B Stop) (ps : List program.Value) (i : ℕ) (p : program.Value) (a : A) → i < length ps → p ≡ get_or ps i p
    → F (many (map view_value (drop i ps))) a ≡ F (more_values (view_value p) (many (map view_value (drop (i + 1) ps)))) a
front F ps i p a lt is =
    at_drop_more (λ (l : List program.Value). F (many (map view_value l)) a) ps i p lt
    ∙ ap (λ (q : program.Value). F (more_values (view_value q) (many (map view_value (drop (i + 1) ps)))) a) (sym is)

turn : {A B : Type 0} {F : ValueTree ManyValues → A → Result B Stop} {step : Value → A → Result A Stop} → Steps F step
    → (ps : List program.Value) (i : ℕ) (p : program.Value) (a b : A) (whole : Result B Stop) → F (many (map view_value (drop i ps))) a ≡ whole → i < length ps → p ≡ get_or ps i p → step (view_value p) a ≡ Ok b
    → F (many (map view_value (drop (i + 1) ps))) b ≡ whole
turn {F = F} steps ps i p a b whole so lt is went =
    sym (front F ps i p a lt is ∙ steps.opens (view_value p) (many (map view_value (drop (i + 1) ps))) a ∙ ap (λ (r : Result _ Stop). r >>= λ y. F (many (map view_value (drop (i + 1) ps))) y) went) ∙ so

stops : {A B : Type 0} {F : ValueTree ManyValues → A → Result B Stop} {step : Value → A → Result A Stop} → Steps F step
    → (ps : List program.Value) (i : ℕ) (p : program.Value) (a : A) (whole : Result B Stop) (e : Stop) → F (many (map view_value (drop i ps))) a ≡ whole → i < length ps → p ≡ get_or ps i p → Fails e (step (view_value p) a)
    → Fails e whole
stops {F = F} {step = step} steps ps i p a whole e so lt is fault =
    fails_same e _ whole (sym (steps.opens (view_value p) (many (map view_value (drop (i + 1) ps))) a) ∙ sym (front F ps i p a lt is) ∙ so)
    (fails_on e (step (view_value p) a) (λ y. F (many (map view_value (drop (i + 1) ps))) y) fault)

ends : {A B : Type 0} (F : ValueTree ManyValues → A → Result B Stop) (ps : List program.Value) (i : ℕ) (a : A) (whole : Result B Stop)
    → F (many (map view_value (drop i ps))) a ≡ whole → length ps ≤ i → whole ≡ F no_values a
ends F ps i a whole so over = sym so ∙ at_drop_all (λ (l : List program.Value). F (many (map view_value l)) a) ps i over

-- sources
abbrev source_step : List Node → Kind → Value → List ℕ → Result (List ℕ) Stop
source_step nodes k v ns = source_of nodes k v >>= λ n. Ok (ns ++ n ∷ [])

twice : {A B C : Type 0} (r : Result A Stop) (f : A → B) (g : B → Result C Stop) → (r >>= λ a. g (f a)) ≡ ((r >>= λ a. Ok (f a)) >>= g)
twice (Ok a) f g = refl
twice (Err e) f g = refl

source_steps : (nodes : List Node) (k : Kind) → Steps (nodes_from nodes k) (source_step nodes k)
unfolding nodes_from
source_steps nodes k = record { opens = λ v vs ns. twice (source_of nodes k v) (λ n. ns ++ n ∷ []) (λ ms. nodes_from nodes k vs ms) }

pub source_turn : (nodes : List Node) (k : Kind) (ps : List program.Value) (i : ℕ) (p : program.Value) (ns ms : List ℕ) (n : ℕ) (whole : Result (List ℕ) Stop) → nodes_from nodes k (many (map view_value (drop i ps))) ns ≡ whole → i < length ps → p ≡ get_or ps i p → source_of nodes k (view_value p) ≡ Ok n → ms ≡ ns ++ n ∷ []
    → nodes_from nodes k (many (map view_value (drop (i + 1) ps))) ms ≡ whole
source_turn nodes k ps i p ns ms n whole so lt is went pushed =
    turn (source_steps nodes k) ps i p ns ms whole so lt is (ap (λ (r : Result ℕ Stop). r >>= λ j. Ok (ns ++ j ∷ [])) went ∙ ap (λ (l : List ℕ). Ok l) (sym pushed))

pub source_stops : (nodes : List Node) (k : Kind) (ps : List program.Value) (i : ℕ) (p : program.Value) (ns : List ℕ) (whole : Result (List ℕ) Stop) (e : Stop) → nodes_from nodes k (many (map view_value (drop i ps))) ns ≡ whole → i < length ps → p ≡ get_or ps i p → Fails e (source_of nodes k (view_value p)) → Fails e whole
source_stops nodes k ps i p ns whole e so lt is fault =
    stops (source_steps nodes k) ps i p ns whole e so lt is (fails_on e (source_of nodes k (view_value p)) (λ n. Ok (ns ++ n ∷ [])) fault)

pub sources_end : (nodes : List Node) (k : Kind) (ps : List program.Value) (i : ℕ) (ns : List ℕ) (whole : Result (List ℕ) Stop) → nodes_from nodes k (many (map view_value (drop i ps))) ns ≡ whole → length ps ≤ i → whole ≡ Ok ns
unfolding nodes_from
sources_end nodes k ps i ns whole so over = ends (nodes_from nodes k) ps i ns whole so over

-- pairs
abbrev Pairs : Type 0
Pairs = List Predicate × List ℕ

abbrev pairs_on : List Node → Kind → ValueTree ManyValues → Pairs → Result Pairs Stop
pairs_on nodes k vs a = pairs_from nodes k vs a.0 a.1

abbrev pair_step : List Node → Kind → Value → Pairs → Result Pairs Stop
pair_step nodes k v a = case_of nodes k v >>= λ x. Ok (a.0 ++ x.0 ∷ [], a.1 ++ x.1 ∷ [])

pair_steps : (nodes : List Node) (k : Kind) → Steps (pairs_on nodes k) (pair_step nodes k)
unfolding pairs_from
pair_steps nodes k = record { opens = λ v vs a. twice (case_of nodes k v) (λ x. (a.0 ++ x.0 ∷ [], a.1 ++ x.1 ∷ [])) (λ b. pairs_from nodes k vs b.0 b.1) }

pub pair_turn : (nodes : List Node) (k : Kind) (ps : List program.Value) (i : ℕ) (p : program.Value) (qs rs : List Predicate) (ns ms : List ℕ) (x : Predicate × ℕ) (whole : Result Pairs Stop) → pairs_from nodes k (many (map view_value (drop i ps))) qs ns ≡ whole → i < length ps → p ≡ get_or ps i p → case_of nodes k (view_value p) ≡ Ok x
    → rs ≡ qs ++ x.0 ∷ [] → ms ≡ ns ++ x.1 ∷ [] → pairs_from nodes k (many (map view_value (drop (i + 1) ps))) rs ms ≡ whole
pair_turn nodes k ps i p qs rs ns ms x whole so lt is went first second =
    turn (pair_steps nodes k) ps i p (qs, ns) (rs, ms) whole so lt is
    (ap (λ (r : Result (Predicate × ℕ) Stop). r >>= λ y. Ok (qs ++ y.0 ∷ [], ns ++ y.1 ∷ [])) went
    ∙ ap (λ (l : List Predicate). Ok (l, ns ++ x.1 ∷ [])) (sym first) ∙ ap (λ (l : List ℕ). Ok (rs, l)) (sym second))

pub pair_stops : (nodes : List Node) (k : Kind) (ps : List program.Value) (i : ℕ) (p : program.Value) (qs : List Predicate) (ns : List ℕ) (whole : Result Pairs Stop) (e : Stop) → pairs_from nodes k (many (map view_value (drop i ps))) qs ns ≡ whole → i < length ps → p ≡ get_or ps i p → Fails e (case_of nodes k (view_value p)) → Fails e whole
pair_stops nodes k ps i p qs ns whole e so lt is fault =
    stops (pair_steps nodes k) ps i p (qs, ns) whole e so lt is (fails_on e (case_of nodes k (view_value p)) (λ y. Ok (qs ++ y.0 ∷ [], ns ++ y.1 ∷ [])) fault)

pub pairs_end : (nodes : List Node) (k : Kind) (ps : List program.Value) (i : ℕ) (qs : List Predicate) (ns : List ℕ) (whole : Result Pairs Stop) → pairs_from nodes k (many (map view_value (drop i ps))) qs ns ≡ whole → length ps ≤ i → whole ≡ Ok (qs, ns)
unfolding pairs_from
pairs_end nodes k ps i qs ns whole so over = ends (pairs_on nodes k) ps i (qs, ns) whole so over

-- a value that holds a list, by its parts
pub listed_sources : (nodes : List Node) (k : Kind) (v : program.Value) (ps : Vec program.Value) (l : List program.Value) → v ≡ program.Listed ps → l ≡ ps.items → sources_of nodes k (view_value v) ≡ nodes_from nodes k (many (map view_value l)) []
unfolding sources_of
listed_sources nodes k v ps l is same =
    ap (λ (w : program.Value). sources_of nodes k (view_value w)) is ∙ ap (λ (t : Value). sources_of nodes k t) (listed_seen ps)
    ∙ ap (λ (xs : List program.Value). nodes_from nodes k (many (map view_value xs)) []) (sym same)

pub listed_pairs : (nodes : List Node) (k : Kind) (v : program.Value) (ps : Vec program.Value) (l : List program.Value) → v ≡ program.Listed ps → l ≡ ps.items → pairs_of nodes k (view_value v) ≡ pairs_from nodes k (many (map view_value l)) [] []
unfolding pairs_of
listed_pairs nodes k v ps l is same =
    ap (λ (w : program.Value). pairs_of nodes k (view_value w)) is ∙ ap (λ (t : Value). pairs_of nodes k t) (listed_seen ps)
    ∙ ap (λ (xs : List program.Value). pairs_from nodes k (many (map view_value xs)) [] []) (sym same)

pub tuple_pair : (nodes : List Node) (k : Kind) (v : program.Value) (ps : Vec program.Value) (l : List program.Value) → v ≡ program.Tuple ps → l ≡ ps.items → case_of nodes k (view_value v) ≡ pair_in nodes k (many (map view_value l))
unfolding case_of
tuple_pair nodes k v ps l is same =
    ap (λ (w : program.Value). case_of nodes k (view_value w)) is ∙ ap (λ (t : Value). case_of nodes k t) (tuple_seen ps)
    ∙ ap (λ (xs : List program.Value). pair_in nodes k (many (map view_value xs))) (sym same)

-- what is no pair
pub short_pair : (nodes : List Node) (k : Kind) (l : List program.Value) → length l < 2 → pair_in nodes k (many (map view_value l)) ≡ Err Stuck
unfolding pair_in
short_pair nodes k [] lt = refl
short_pair nodes k (v ∷ []) lt = refl
short_pair nodes k (v ∷ w ∷ r) lt = absurd (omega arith)

pub long_pair : (nodes : List Node) (k : Kind) (l : List program.Value) → 2 < length l → pair_in nodes k (many (map view_value l)) ≡ Err Stuck
unfolding pair_in
long_pair nodes k [] lt = absurd (omega arith)
long_pair nodes k (v ∷ []) lt = absurd (omega arith)
long_pair nodes k (v ∷ w ∷ []) lt = absurd (omega arith)
long_pair nodes k (v ∷ w ∷ x ∷ r) lt = refl
