-- What the values are that arguments give: sources that are there, of the kind that is asked for.
use Rattle.std.proofs.Common.{◌≡◌, ℕ, ◌+◌, List, [], ◌∷◌, ◌++◌, length, length-append, Some, None, Option, Bool, true, false, Result, Ok, Err, refl, sym, ap, ◌∙◌, subst}
use Rattle.std.specs.Prelude.{slice_get, All}
use Rattle.std.proofs.lemmas.List.Elements.{All-nil, All-push}
use Rattle.liq_base.specs.declared.memory.Kind.{Kind}
use Rattle.liq_base.specs.declared.memory.Kind.TheVariants.{Mono, Stereo}
use Rattle.time_pred.specs.Predicates.{Predicate}
use Rattle.plan_core.specs.declared.node.Node.{Node}
use Rattle.script_values.specs.declared.fault.Stop.{Stop}
use Rattle.script_values.specs.declared.fault.Stop.TheVariants.{Stuck}
use Rattle.script_values.specs.Outcomes.{◌>>=◌}
use Rattle.script_values.specs.Slots.{Argument}
use Rattle.script_values.specs.Values.{ValueTree, ManyValues, no_values, more_values, Value, Int, Number, TextValue, TruthValue, UnitValue, FormatValue, PredValue, Source, ListValue, TupleValue}
use Rattle.builtin_calls.specs.Parts.{is_kind, of_kind, source_of, nodes_from, sources_of, pair_in, case_of, pred_of, pairs_from, pairs_of, plain_argument, plain_source, plain_sources, plain_pairs}

-- the first step of steps that end well
pub after : {A B : Type 0} (r : Result A Stop) (f : A → Result B Stop) (y : B) → (r >>= f) ≡ Ok y → (a : A) × (r ≡ Ok a) × (f a ≡ Ok y)
after (Ok a) f y is = (a, refl, is)
after (Err e) f y is = absurd cc

abbrev good : {A : Type 0} → A → Result A Stop
good x = Ok x

pub ok_is : {A : Type 0} (x y : A) → good x ≡ good y → x ≡ y
ok_is x y is = cc

-- the node of a source
pub record IsSource (nodes : List Node) (k : Kind) (n : ℕ) : Type 0 where
  pub node : Node
  pub there : slice_get nodes n ≡ Some node
  pub kind : node.kind ≡ k

same_kind : (j k : Kind) → is_kind j k ≡ true → k ≡ j
same_kind Mono Mono is = refl
same_kind Mono Stereo is = absurd cc
same_kind Stereo Mono is = absurd cc
same_kind Stereo Stereo is = refl

passed : (b : Bool) (n r : ℕ) → ◌≡◌ {A = Result ℕ Stop} (elim b [ true ↦ Ok n | false ↦ Err Stuck ]) (Ok r) → (b ≡ true) × (n ≡ r)
passed true n r is = (refl, ok_is n r is)
passed false n r is = absurd cc

found_of : (nodes : List Node) (k : Kind) (n r : ℕ) (o : Option Node) → slice_get nodes n ≡ o → of_kind k n o ≡ Ok r → IsSource nodes k r
found_of nodes k n r None at is = absurd cc
found_of nodes k n r (Some node) at is =
    let p : (is_kind k node.kind ≡ true) × (n ≡ r) = passed (is_kind k node.kind) n r is in
    record { node = node; there = ap (λ (i : ℕ). slice_get nodes i) (sym p.1) ∙ at; kind = same_kind k node.kind p.0 }

pub source_is : (nodes : List Node) (k : Kind) (v : Value) (n : ℕ) → source_of nodes k v ≡ Ok n → IsSource nodes k n
unfolding source_of
source_is nodes k (Source i) n is = found_of nodes k i n (slice_get nodes i) refl is
source_is nodes k (Int i) n is = absurd cc
source_is nodes k (Number d) n is = absurd cc
source_is nodes k (TextValue t) n is = absurd cc
source_is nodes k (TruthValue b) n is = absurd cc
source_is nodes k UnitValue n is = absurd cc
source_is nodes k (FormatValue wide) n is = absurd cc
source_is nodes k (PredValue p) n is = absurd cc
source_is nodes k (ListValue vs) n is = absurd cc
source_is nodes k (TupleValue vs) n is = absurd cc

nodes_are : (nodes : List Node) (k : Kind) (vs : ValueTree ManyValues) (ns rs : List ℕ) → nodes_from nodes k vs ns ≡ Ok rs → All (IsSource nodes k) ns → All (IsSource nodes k) rs
unfolding nodes_from
nodes_are nodes k no_values ns rs is all = (let same = ok_is ns rs is in subst (All (IsSource nodes k)) same all)
nodes_are nodes k (more_values v vs) ns rs is all =
    let s = after (source_of nodes k v) (λ n. nodes_from nodes k vs (ns ++ n ∷ [])) rs is in
    nodes_are nodes k vs (ns ++ s.0 ∷ []) rs s.2 (All-push (IsSource nodes k) ns s.0 all (source_is nodes k v s.0 s.1))

sources_are : (nodes : List Node) (k : Kind) (v : Value) (rs : List ℕ) → sources_of nodes k v ≡ Ok rs → All (IsSource nodes k) rs
unfolding sources_of
sources_are nodes k (ListValue vs) rs is = nodes_are nodes k vs [] rs is (All-nil (IsSource nodes k))
sources_are nodes k (Source i) rs is = absurd cc
sources_are nodes k (Int i) rs is = absurd cc
sources_are nodes k (Number d) rs is = absurd cc
sources_are nodes k (TextValue t) rs is = absurd cc
sources_are nodes k (TruthValue b) rs is = absurd cc
sources_are nodes k UnitValue rs is = absurd cc
sources_are nodes k (FormatValue wide) rs is = absurd cc
sources_are nodes k (PredValue p) rs is = absurd cc
sources_are nodes k (TupleValue vs) rs is = absurd cc

in_pair : (nodes : List Node) (k : Kind) (vs : ValueTree ManyValues) (x : Predicate × ℕ) → pair_in nodes k vs ≡ Ok x → IsSource nodes k x.1
unfolding pair_in
in_pair nodes k no_values x is = absurd cc
in_pair nodes k (more_values v no_values) x is = absurd cc
in_pair nodes k (more_values v (more_values w no_values)) x is =
    let p = after (pred_of v) (λ p. source_of nodes k w >>= λ n. Ok (p, n)) x is in
    let s = after (source_of nodes k w) (λ n. Ok (p.0, n)) x p.2 in
    let same : s.0 ≡ x.1 = ap (λ (y : Predicate × ℕ). y.1) (ok_is (p.0, s.0) x s.2) in
    subst (IsSource nodes k) same (source_is nodes k w s.0 s.1)
in_pair nodes k (more_values v (more_values w (more_values y rest))) x is = absurd cc

pair_is : (nodes : List Node) (k : Kind) (v : Value) (x : Predicate × ℕ) → case_of nodes k v ≡ Ok x → IsSource nodes k x.1
unfolding case_of
pair_is nodes k (TupleValue vs) x is = in_pair nodes k vs x is
pair_is nodes k (ListValue vs) x is = absurd cc
pair_is nodes k (Source i) x is = absurd cc
pair_is nodes k (Int i) x is = absurd cc
pair_is nodes k (Number d) x is = absurd cc
pair_is nodes k (TextValue t) x is = absurd cc
pair_is nodes k (TruthValue b) x is = absurd cc
pair_is nodes k UnitValue x is = absurd cc
pair_is nodes k (FormatValue wide) x is = absurd cc
pair_is nodes k (PredValue p) x is = absurd cc

-- sources of a kind, and as many predicates
pub record ArePairs (nodes : List Node) (k : Kind) (ps : List Predicate) (ns : List ℕ) : Type 0 where
  pub sources : All (IsSource nodes k) ns
  pub many : length ns ≡ length ps

pairs_are : (nodes : List Node) (k : Kind) (vs : ValueTree ManyValues) (ps : List Predicate) (ns : List ℕ) (x : List Predicate × List ℕ) → pairs_from nodes k vs ps ns ≡ Ok x → ArePairs nodes k ps ns → ArePairs nodes k x.0 x.1
unfolding pairs_from
pairs_are nodes k no_values ps ns x is so =
    let both = ok_is (ps, ns) x is in
    let first : ps ≡ x.0 = ap (λ (y : List Predicate × List ℕ). y.0) both in
    let second : ns ≡ x.1 = ap (λ (y : List Predicate × List ℕ). y.1) both in
    record { sources = subst (All (IsSource nodes k)) second so.sources; many = sym (ap (λ (l : List ℕ). length l) second) ∙ so.many ∙ ap (λ (l : List Predicate). length l) first }
pairs_are nodes k (more_values v vs) ps ns x is so =
    let s = after (case_of nodes k v) (λ y. pairs_from nodes k vs (ps ++ y.0 ∷ []) (ns ++ y.1 ∷ [])) x is in
    let longer : length (ns ++ s.0.1 ∷ []) ≡ length (ps ++ s.0.0 ∷ []) = length-append ns (s.0.1 ∷ []) ∙ ap (λ (n : ℕ). n + 1) so.many ∙ sym (length-append ps (s.0.0 ∷ [])) in
    pairs_are nodes k vs (ps ++ s.0.0 ∷ []) (ns ++ s.0.1 ∷ []) x s.2 (record { sources = All-push (IsSource nodes k) ns s.0.1 so.sources (pair_is nodes k v s.0 s.1); many = longer })

pairs_in_value : (nodes : List Node) (k : Kind) (v : Value) (x : List Predicate × List ℕ) → pairs_of nodes k v ≡ Ok x → ArePairs nodes k x.0 x.1
unfolding pairs_of
pairs_in_value nodes k (ListValue vs) x is = pairs_are nodes k vs [] [] x is (record { sources = All-nil (IsSource nodes k); many = refl })
pairs_in_value nodes k (TupleValue vs) x is = absurd cc
pairs_in_value nodes k (Source i) x is = absurd cc
pairs_in_value nodes k (Int i) x is = absurd cc
pairs_in_value nodes k (Number d) x is = absurd cc
pairs_in_value nodes k (TextValue t) x is = absurd cc
pairs_in_value nodes k (TruthValue b) x is = absurd cc
pairs_in_value nodes k UnitValue x is = absurd cc
pairs_in_value nodes k (FormatValue wide) x is = absurd cc
pairs_in_value nodes k (PredValue p) x is = absurd cc

pub a_source : (nodes : List Node) (k : Kind) (given : List Argument) (x : ℕ × List Argument) → plain_source nodes k given ≡ Ok x → IsSource nodes k x.0
unfolding plain_source
a_source nodes k given x is =
    let v = after (plain_argument given) (λ y. source_of nodes k y.0 >>= λ source. Ok (source, y.1)) x is in
    let s = after (source_of nodes k v.0.0) (λ source. Ok (source, v.0.1)) x v.2 in
    let same : s.0 ≡ x.0 = ap (λ (y : ℕ × List Argument). y.0) (ok_is (s.0, v.0.1) x s.2) in
    subst (IsSource nodes k) same (source_is nodes k v.0.0 s.0 s.1)

pub some_sources : (nodes : List Node) (k : Kind) (given : List Argument) (x : List ℕ × List Argument) → plain_sources nodes k given ≡ Ok x → All (IsSource nodes k) x.0
unfolding plain_sources
some_sources nodes k given x is =
    let v = after (plain_argument given) (λ y. sources_of nodes k y.0 >>= λ sources. Ok (sources, y.1)) x is in
    let s = after (sources_of nodes k v.0.0) (λ sources. Ok (sources, v.0.1)) x v.2 in
    let same : s.0 ≡ x.0 = ap (λ (y : List ℕ × List Argument). y.0) (ok_is (s.0, v.0.1) x s.2) in
    subst (All (IsSource nodes k)) same (sources_are nodes k v.0.0 s.0 s.1)

pub some_pairs : (nodes : List Node) (k : Kind) (given : List Argument) (x : (List Predicate × List ℕ) × List Argument) → plain_pairs nodes k given ≡ Ok x → ArePairs nodes k x.0.0 x.0.1
unfolding plain_pairs
some_pairs nodes k given x is =
    let v = after (plain_argument given) (λ y. pairs_of nodes k y.0 >>= λ pairs. Ok (pairs, y.1)) x is in
    let s = after (pairs_of nodes k v.0.0) (λ pairs. Ok (pairs, v.0.1)) x v.2 in
    let same : s.0 ≡ x.0 = ap (λ (y : (List Predicate × List ℕ) × List Argument). y.0) (ok_is (s.0, v.0.1) x s.2) in
    subst (λ (y : List Predicate × List ℕ). ArePairs nodes k y.0 y.1) same (pairs_in_value nodes k v.0.0 s.0 s.1)
