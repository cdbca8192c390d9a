-- A loop over parts, each evaluated from what the parts before it left: what is still to evaluate gives the whole.
use Rattle.std.proofs.Common.{◌≡◌, ℕ, ◌+◌, ◌<◌, ◌≤◌, List, length, drop, get_or, Result, Ok, sym, ap, subst, ◌∙◌}
use Rattle.std.proofs.lemmas.List.{at_drop_more, at_drop_all}
use Rattle.std.specs.Prelude.{map}
use Rattle.script_grammar.specs.Tree.{Sort, Tree, Many, none, more}
use Rattle.script_grammar.specs.View.{listed}
use Rattle.script_values.specs.Outcomes.{◌>>=◌}
use Rattle.script_values.specs.declared.fault.Stop.{Stop}
use Rattle.script_values.specs.declared.fault.Stop.TheVariants as faults
use Rattle.script_values.specs.declared.machine.Machine.{Machine}
use Rattle.script_values.specs.Gives.{Fails}

-- a fault ends what comes behind it
pub fails_on : {A B : Type 0} (e : Stop) (r : Result A Stop) (f : A → Result B Stop) → Fails e r → Fails e (r >>= f)
fails_on faults.Memory r f is = tt
fails_on faults.BadSetting r f is = ap (λ (x : Result _ Stop). x >>= f) is
fails_on (faults.BadValue at) r f is = ap (λ (x : Result _ Stop). x >>= f) is
fails_on faults.TooMuchWork r f is = ap (λ (x : Result _ Stop). x >>= f) is
fails_on faults.TooManySources r f is = ap (λ (x : Result _ Stop). x >>= f) is
fails_on (faults.SameOutput name) r f is = ap (λ (x : Result _ Stop). x >>= f) is
fails_on (faults.TooLarge limit) r f is = ap (λ (x : Result _ Stop). x >>= f) is
fails_on faults.Stuck r f is = ap (λ (x : Result _ Stop). x >>= f) is

pub fails_same : {A : Type 0} (e : Stop) (r q : Result A Stop) → r ≡ q → Fails e r → Fails e q
fails_same e r q same is = subst (λ (x : Result _ Stop). Fails e x) same is

-- F evaluates parts from a state, step one of them, and both open as they should
pub record Steps {S : Sort} {A B : Type 0} (F : Tree (Many S) → A → Machine → Result B Stop) (step : Tree S → A → Machine → Result (A × Machine) Stop) : Type 0 where
  pub opens : (t : Tree S) (ts : Tree (Many S)) (a : A) (m : Machine) → F (more t ts) a m ≡ (step t a m >>= λ x. F ts x.0 x.1)

front : {S : Sort} {X A B : Type 0} (view : X → Tree S) (F : Tree (Many S) → A → Machine → Result B Stop) (xs : List X) (i : ℕ) (x : X) (a : A) (m : Machine) → i < length xs → x ≡ get_or xs i x
    → F (listed (map view (drop i xs))) a m ≡ F (more (view x) (listed (map view (drop (i + 1) xs)))) a m
front view F xs i x a m lt is =
    at_drop_more (λ (l : List _). F (listed (map view l)) a m) xs i x lt
    ∙ ap (λ (y : _). F (more (view y) (listed (map view (drop (i + 1) xs)))) a m) (sym is)

pub turn : {S : Sort} {X A B : Type 0} (view : X → Tree S) {F : Tree (Many S) → A → Machine → Result B Stop} {step : Tree S → A → Machine → Result (A × Machine) Stop} → Steps F step
    → (xs : List X) (i : ℕ) (x : X) (a b : A) (m n : Machine) (whole : Result B Stop) → F (listed (map view (drop i xs))) a m ≡ whole → i < length xs → x ≡ get_or xs i x → step (view x) a m ≡ Ok (b, n)
    → F (listed (map view (drop (i + 1) xs))) b n ≡ whole
turn view {F = F} steps xs i x a b m n whole so lt is went =
    sym (front view F xs i x a m lt is ∙ steps.opens (view x) (listed (map view (drop (i + 1) xs))) a m ∙ ap (λ (r : Result _ Stop). r >>= λ y. F (listed (map view (drop (i + 1) xs))) y.0 y.1) went) ∙ so

pub stops : {S : Sort} {X A B : Type 0} (view : X → Tree S) {F : Tree (Many S) → A → Machine → Result B Stop} {step : Tree S → A → Machine → Result (A × Machine) Stop} → Steps F step
    → (xs : List X) (i : ℕ) (x : X) (a : A) (m : Machine) (whole : Result B Stop) (e : Stop) → F (listed (map view (drop i xs))) a m ≡ whole → i < length xs → x ≡ get_or xs i x → Fails e (step (view x) a m)
    → Fails e whole
stops view {F = F} {step = step} steps xs i x a m whole e so lt is fault =
    fails_same e _ whole (sym (steps.opens (view x) (listed (map view (drop (i + 1) xs))) a m) ∙ sym (front view F xs i x a m lt is) ∙ so)
    (fails_on e (step (view x) a m) (λ y. F (listed (map view (drop (i + 1) xs))) y.0 y.1) fault)

pub ends : {S : Sort} {X A B : Type 0} (view : X → Tree S) (F : Tree (Many S) → A → Machine → Result B Stop) (xs : List X) (i : ℕ) (a : A) (m : Machine) (whole : Result B Stop)
    → F (listed (map view (drop i xs))) a m ≡ whole → length xs ≤ i → whole ≡ F none a m
ends view F xs i a m whole so over = sym so ∙ at_drop_all (λ (l : List _). F (listed (map view l)) a m) xs i over
