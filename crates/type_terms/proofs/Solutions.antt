-- Each choice for the free variables of a sound substitution extends to a solution.
use Rattle.std.proofs.Common.{◌≡◌, ℕ, zero, suc, ◌<◌, true, List, Option, Some, None, refl, ap, sym, ◌∙◌, arith}
use Rattle.type_terms.specs.Ground.{Ground, Assignment, IsNumber, base_type}
use Rattle.type_terms.specs.Term.{Term, base_term, list_term, tuple_term, source_term, variable, meaning, kind_meaning, height}
use Rattle.type_terms.specs.Variables.{Variable}
use Rattle.type_terms.specs.Extends.{Extends}
use Rattle.type_terms.specs.Table.{Table, bound_at, number_at, kind_at, Solves, IsSound, IsRank, IsNumberTerm}
use Rattle.liq_base.specs.declared.memory.Kind.{Kind}
use Rattle.liq_base.specs.declared.memory.Kind.TheVariants.{Stereo}
use Rattle.type_terms.specs.declared.ty.Base.TheVariants.{Int}
use Rattle.type_terms.specs.declared.ty.KindTerm.{KindTerm}
use Rattle.type_terms.specs.declared.ty.KindTerm.TheVariants.{Fixed, Var}
use Rattle.type_terms.proofs.Terms.{InTerm-map, variables_weigh, meaning_same}

abbrev kind_step : (ℕ → Kind) → Kind → Option KindTerm → Kind
kind_step f k None = k
kind_step f k (Some (Fixed c)) = c
kind_step f k (Some (Var j)) = f j

-- the kind of a variable below n
abbrev kind_in_steps : ℕ → List (Option KindTerm) → (ℕ → Kind) → ℕ → Kind
kind_in_steps zero ks p k = p k
kind_in_steps (suc n) ks p k = kind_step (kind_in_steps n ks p) (p k) (kind_at ks k)

abbrev Falls : List (Option KindTerm) → Type 0
Falls ks = (k j : ℕ) → kind_at ks k ≡ Some (Var j) → j < k

kind_step_same : (F G : ℕ → Kind) (c : Kind) (k : ℕ) (o : Option KindTerm) → ((j : ℕ) → o ≡ Some (Var j) → j < k) → ((j : ℕ) → j < k → F j ≡ G j) → kind_step F c o ≡ kind_step G c o
kind_step_same F G c k None f e = refl
kind_step_same F G c k (Some (Fixed d)) f e = refl
kind_step_same F G c k (Some (Var j)) f e = e j (f j refl)

kind_stable : (ks : List (Option KindTerm)) (p : ℕ → Kind) → Falls ks → (n m k : ℕ) → k < n → k < m → kind_in_steps n ks p k ≡ kind_in_steps m ks p k
kind_stable ks p f zero m k h h' = absurd (omega arith)
kind_stable ks p f (suc n) zero k h h' = absurd (omega arith)
kind_stable ks p f (suc n) (suc m) k h h' =
    kind_step_same (kind_in_steps n ks p) (kind_in_steps m ks p) (p k) k (kind_at ks k) (f k) (λ j l. kind_stable ks p f n m j (omega arith) (omega arith))

unfoldable pub kind_solution : List (Option KindTerm) → (ℕ → Kind) → ℕ → Kind
kind_solution ks p k = kind_in_steps (suc k) ks p k

kind_bound : (ks : List (Option KindTerm)) (p : ℕ → Kind) → Falls ks → (k : ℕ) (F : ℕ → Kind) → ((j : ℕ) → j < k → F j ≡ kind_in_steps k ks p j) → (o : Option KindTerm) (t : KindTerm) → kind_at ks k ≡ o → o ≡ Some t → (a : Assignment) → ((j : ℕ) → a.kind_of j ≡ F j) → kind_step (kind_in_steps k ks p) (p k) o ≡ kind_meaning a t
kind_bound ks p f k F e None t o is a same = cc
kind_bound ks p f k F e (Some (Fixed c)) (Fixed d) o is a same = cc
kind_bound ks p f k F e (Some (Fixed c)) (Var i) o is a same = cc
kind_bound ks p f k F e (Some (Var j)) (Fixed d) o is a same = cc
kind_bound ks p f k F e (Some (Var j)) (Var i) o is a same =
    let ij : j ≡ i = cc in
    sym (e j (f k j o)) ∙ sym (same j) ∙ ap a.kind_of ij

abbrev value_step : Assignment → Ground → Option Term → Ground
value_step a g None = g
value_step a g (Some t) = meaning a t

-- the type of a variable that ranks below n
abbrev type_in_steps : ℕ → List Variable → (ℕ → Kind) → (ℕ → Ground) → ℕ → Ground
type_in_steps zero vs c p k = p k
type_in_steps (suc n) vs c p k =
    value_step (record { type_of = type_in_steps n vs c p; kind_of = c }) (p k) (bound_at vs k)

value_step_same : (a b : Assignment) (g : Ground) (o : Option Term) → ((t : Term) → o ≡ Some t → meaning a t ≡ meaning b t) → value_step a g o ≡ value_step b g o
value_step_same a b g None e = refl
value_step_same a b g (Some t) e = e t refl

-- choices with one set of kinds agree on a binding where they agree on the variables that rank below it
same_below : (vs : List Variable) (w : ℕ → ℕ) → IsRank w vs → (c : ℕ → Kind) (f g : ℕ → Ground) (k : ℕ) (t : Term) → bound_at vs k ≡ Some t → ((i : ℕ) → w i < w k → f i ≡ g i) → meaning (record { type_of = f; kind_of = c }) t ≡ meaning (record { type_of = g; kind_of = c }) t
same_below vs w r c f g k t e h =
    let l = r.falls k t e in
    meaning_same (record { type_of = f; kind_of = c }) (record { type_of = g; kind_of = c }) t
    (InTerm-map (λ i m. h i (omega arith)) (λ _ _. refl) t (variables_weigh w (height w t) t (omega arith)))

type_stable : (vs : List Variable) (w : ℕ → ℕ) → IsRank w vs → (c : ℕ → Kind) (p : ℕ → Ground) (n m k : ℕ) → w k < n → w k < m → type_in_steps n vs c p k ≡ type_in_steps m vs c p k
type_stable vs w r c p zero m k h h' = absurd (omega arith)
type_stable vs w r c p (suc n) zero k h h' = absurd (omega arith)
type_stable vs w r c p (suc n) (suc m) k h h' =
    value_step_same _ _ (p k) (bound_at vs k) (λ t e. same_below vs w r c (type_in_steps n vs c p) (type_in_steps m vs c p) k t e (λ i l. type_stable vs w r c p n m i (omega arith) (omega arith)))

-- the type that the bindings give a variable, where `w` is their rank
pub type_solution : List Variable → (ℕ → ℕ) → (ℕ → Kind) → (ℕ → Ground) → ℕ → Ground
type_solution vs w c p k = type_in_steps (suc (w k)) vs c p k

pub type_bound : (vs : List Variable) (w : ℕ → ℕ) → IsRank w vs → (c : ℕ → Kind) (p : ℕ → Ground) (k : ℕ) (t : Term) → bound_at vs k ≡ Some t → type_solution vs w c p k ≡ meaning (record { type_of = type_solution vs w c p; kind_of = c }) t
unfolding type_solution
type_bound vs w r c p k t e =
    ap (value_step (record { type_of = type_in_steps (w k) vs c p; kind_of = c }) (p k)) e
    ∙ same_below vs w r c (type_in_steps (w k) vs c p) (type_solution vs w c p) k t e (λ i l. type_stable vs w r c p (w k) (suc (w i)) i (omega arith) (omega arith))

type_free : (vs : List Variable) (w : ℕ → ℕ) (c : ℕ → Kind) (p : ℕ → Ground) (k : ℕ) → bound_at vs k ≡ None → type_solution vs w c p k ≡ p k
unfolding type_solution
type_free vs w c p k e = ap (value_step (record { type_of = type_in_steps (w k) vs c p; kind_of = c }) (p k)) e

number_step : (vs : List Variable) (a : Assignment) (g : Ground) (o : Option Term) → IsNumber g → ((t : Term) → o ≡ Some t → IsNumberTerm vs t) → ((j : ℕ) → number_at vs j ≡ true → IsNumber (a.type_of j)) → IsNumber (value_step a g o)
number_step vs a g None h t f = h
number_step vs a g (Some (base_term b)) h t f = t (base_term b) refl
number_step vs a g (Some (list_term s)) h t f = absurd (t (list_term s) refl)
number_step vs a g (Some (tuple_term s)) h t f = absurd (t (tuple_term s) refl)
number_step vs a g (Some (source_term s)) h t f = absurd (t (source_term s) refl)
number_step vs a g (Some (variable j)) h t f = f j (t (variable j) refl)

-- a number variable stays a number
number_steps : (vs : List Variable) (c : ℕ → Kind) (p : ℕ → Ground) → ((k : ℕ) → number_at vs k ≡ true → IsNumber (p k)) → ((k : ℕ) (t : Term) → bound_at vs k ≡ Some t → number_at vs k ≡ true → IsNumberTerm vs t) → (n k : ℕ) → number_at vs k ≡ true → IsNumber (type_in_steps n vs c p k)
number_steps vs c p h b zero k is = h k is
number_steps vs c p h b (suc n) k is =
    number_step vs (record { type_of = type_in_steps n vs c p; kind_of = c }) (p k) (bound_at vs k) (h k is) (λ t e. b k t e is) (λ j is'. number_steps vs c p h b n j is')

pub solution : (s : Table) → IsSound s → Assignment → Assignment
solution s h p = record { type_of = type_solution s.types h.ranked.0 (kind_solution s.kinds p.kind_of) p.type_of; kind_of = kind_solution s.kinds p.kind_of }

pub solution_extends : (s : Table) (h : IsSound s) (p : Assignment) → ((k : ℕ) → number_at s.types k ≡ true → IsNumber (p.type_of k)) → Extends s p (solution s h p)
unfolding solution type_solution kind_solution
solution_extends s h p num =
    let w = h.ranked.0 in
    let c = kind_solution s.kinds p.kind_of in
    record {
      solves = record {
        types = λ k t e. type_bound s.types w h.ranked.1 c p.type_of k t e;
        kinds = λ k t e. kind_bound s.kinds p.kind_of h.kinds k c (λ j l. kind_stable s.kinds p.kind_of h.kinds (suc j) k j (omega arith) l) (kind_at s.kinds k) t refl e (solution s h p) (λ j. refl);
        numbers = λ k is. number_steps s.types c p.type_of num h.numbers (suc (w k)) k is;
      };
      types = λ k e. type_free s.types w c p.type_of k e;
      kinds = λ k e. ap (kind_step (kind_in_steps k s.kinds p.kind_of) (p.kind_of k)) e;
    }

pub solvable : (s : Table) → IsSound s → (a : Assignment) × Solves a s
solvable s h =
    let p : Assignment = record { type_of = λ _. base_type Int; kind_of = λ _. Stereo } in
    (solution s h p, (solution_extends s h p (λ k _. tt)).solves)
