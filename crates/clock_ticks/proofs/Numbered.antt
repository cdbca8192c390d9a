-- The outputs of a clock, among the sinks of its plan.
use Rattle.std.proofs.Common.{◌≡◌, ◌+◌, ◌∙◌, ℕ, zero, suc, Bool, true, false, Some, List, [], ◌∷◌, All, get_or, map, slice_get, cond, arith, refl, ap, sym, subst}
use Rattle.std.proofs.lemmas.Bool.{eq-eqb, true≢false}
use Rattle.std.proofs.lemmas.Option.{none-some, slice_get_within}
use Rattle.plan_core.specs.declared.sink.SinkPlan.{SinkPlan}
use Rattle.plan_core.specs.declared.sink.SinkPlan.TheVariants.{Output, Feed}
use Rattle.plan_core.specs.Plans.{sink_node}
use Rattle.clock_infer.specs.declared.clock_map.NodeClock.TheVariants.{Main}
use Rattle.stream_meaning.specs.Instants.{Setting, clock_of, lies_in, same_clock}
use Rattle.stream_meaning.proofs.Existence.{same_clock-true}
use Rattle.std.specs.Option.{option_map_or}
use Rattle.stream_meaning.specs.Sinks.{is_wide, wide_sink, IsOutput}
use Rattle.clock_outputs.specs.declared.port.Port.{Port}
use Rattle.clock_ticks.specs.Engines.{output_of, outputs_from, outputs_of}

-- an empty list has no item
pub no_item : {A : Type 0} (k : ℕ) (x : A) → slice_get [] k ≡ Some x → ⊥
no_item zero x e = none-some x e
no_item (suc k) x e = none-some x e

pub item_is : {A : Type 0} (xs : List A) (k : ℕ) (d x : A) → slice_get xs k ≡ Some x → get_or xs k d ≡ x
item_is [] k d x e = absurd (no_item k x e)
item_is (y ∷ xs) zero d x e = (let same : y ≡ x = cc in same)
item_is (y ∷ xs) (suc k) d x e = item_is xs k d x e

pub all_at : {A : Type 0} (P : A → Type 0) (xs : List A) → All P xs → (k : ℕ) (x : A) → slice_get xs k ≡ Some x → P x
all_at P xs all k x e = subst P (item_is xs k x x e) (all k x (slice_get_within xs k x e))

-- where a pair of the outputs stands among the sinks
pub record IsThere (setting : Setting) (m i : ℕ) (sinks : List SinkPlan) (pair : ℕ × ℕ) : Type 0 where
  pub place : ℕ
  pub number : pair.0 ≡ i + place
  pub name : List ℕ
  pub fallible : Bool
  pub wide : Bool
  pub there : slice_get sinks place ≡ Some (Output name pair.1 fallible wide)
  pub inside : lies_in setting (Main m) pair.1 ≡ true

later : (setting : Setting) (m i : ℕ) (sink : SinkPlan) (sinks : List SinkPlan) (pair : ℕ × ℕ) → IsThere setting m (suc i) sinks pair → IsThere setting m i (sink ∷ sinks) pair
later setting m i sink sinks pair is = record {
  place = suc is.place;
  number = (let n = is.number in omega (arith, n));
  name = is.name;
  fallible = is.fallible;
  wide = is.wide;
  there = is.there;
  inside = is.inside;
}

here : (setting : Setting) (m i : ℕ) (name : List ℕ) (node : ℕ) (fallible wide : Bool) (sinks : List SinkPlan)
    → ((k : ℕ) (pair : ℕ × ℕ) → slice_get (outputs_from setting m (suc i) sinks) k ≡ Some pair → IsThere setting m (suc i) sinks pair)
    → (inside : Bool) → lies_in setting (Main m) node ≡ inside → (k : ℕ) (pair : ℕ × ℕ)
    → slice_get (cond inside ((i, node) ∷ outputs_from setting m (suc i) sinks) (outputs_from setting m (suc i) sinks)) k ≡ Some pair
    → IsThere setting m i (Output name node fallible wide ∷ sinks) pair
here setting m i name node fallible wide sinks rest true e zero pair at =
    let same : (i, node) ≡ pair = cc in
    subst (λ p. IsThere setting m i (Output name node fallible wide ∷ sinks) p) same
    (record { place = 0; number = omega arith; name = name; fallible = fallible; wide = wide; there = refl; inside = e })
here setting m i name node fallible wide sinks rest true e (suc k) pair at = later setting m i (Output name node fallible wide) sinks pair (rest k pair at)
here setting m i name node fallible wide sinks rest false e k pair at = later setting m i (Output name node fallible wide) sinks pair (rest k pair at)

pub are_there : (setting : Setting) (m i : ℕ) (sinks : List SinkPlan) (k : ℕ) (pair : ℕ × ℕ) → slice_get (outputs_from setting m i sinks) k ≡ Some pair → IsThere setting m i sinks pair
are_there setting m i [] k pair at = absurd (no_item k pair at)
are_there setting m i (Output name node fallible wide ∷ sinks) k pair at =
    here setting m i name node fallible wide sinks (λ j p. are_there setting m (suc i) sinks j p) (lies_in setting (Main m) node) refl k pair at
are_there setting m i (Feed buffer node ∷ sinks) k pair at = later setting m i (Feed buffer node) sinks pair (are_there setting m (suc i) sinks k pair at)

found_behind : (b : Bool) (pair : ℕ × ℕ) (rest : List (ℕ × ℕ)) (k : ℕ) (x : ℕ × ℕ) → slice_get rest k ≡ Some x → (j : ℕ) × (slice_get (cond b (pair ∷ rest) rest) j ≡ Some x)
found_behind true pair rest k x e = (suc k, e)
found_behind false pair rest k x e = (k, e)

abbrev feeds : SinkPlan → Bool
feeds (Output name node fallible wide) = false
feeds (Feed buffer node) = true

-- each output of the clock is among them
pub is_found : (setting : Setting) (m i : ℕ) (sinks : List SinkPlan) (place : ℕ) (name : List ℕ) (node : ℕ) (fallible wide : Bool)
    → slice_get sinks place ≡ Some (Output name node fallible wide) → lies_in setting (Main m) node ≡ true
    → (k : ℕ) × (slice_get (outputs_from setting m i sinks) k ≡ Some (i + place, node))
is_found setting m i [] place name node fallible wide at inside = absurd (no_item place (Output name node fallible wide) at)
is_found setting m i (Output other number free broad ∷ sinks) zero name node fallible wide at inside =
    let one : Output other number free broad ≡ Output name node fallible wide = cc in
    let same : number ≡ node = ap sink_node one in
    let yes : lies_in setting (Main m) number ≡ true = ap (lies_in setting (Main m)) same ∙ inside in
    let first : i ≡ i + 0 = omega arith in
    (0, rw yes (ap (λ n. Some (i, n)) same ∙ ap (λ n. Some (n, node)) first))
is_found setting m i (Output other number free broad ∷ sinks) (suc place) name node fallible wide at inside =
    let rest = is_found setting m (suc i) sinks place name node fallible wide at inside in
    let number' : suc i + place ≡ i + suc place = omega arith in
    found_behind (lies_in setting (Main m) number) (i, number) (outputs_from setting m (suc i) sinks) rest.0 (i + suc place, node) (rest.1 ∙ ap (λ n. Some (n, node)) number')
is_found setting m i (Feed buffer number ∷ sinks) zero name node fallible wide at inside =
    let one : Feed buffer number ≡ Output name node fallible wide = cc in absurd (true≢false (ap feeds one))
is_found setting m i (Feed buffer number ∷ sinks) (suc place) name node fallible wide at inside =
    let rest = is_found setting m (suc i) sinks place name node fallible wide at inside in
    let number' : suc i + place ≡ i + suc place = omega arith in
    (rest.0, rest.1 ∙ ap (λ n. Some (n, node)) number')

pub got_mapped : {A B : Type 0} (f : A → B) (xs : List A) (k : ℕ) (x : A) → slice_get xs k ≡ Some x → slice_get (map f xs) k ≡ Some (f x)
got_mapped f [] k x e = absurd (no_item k x e)
got_mapped f (y ∷ xs) zero x e = let same : y ≡ x = cc in ap (λ z. Some (f z)) same
got_mapped f (y ∷ xs) (suc k) x e = got_mapped f xs k x e

-- an item of a mapped list comes from one of the list
pub from_mapped : {A B : Type 0} (f : A → B) (xs : List A) (k : ℕ) (y : B) → slice_get (map f xs) k ≡ Some y → (x : A) × (slice_get xs k ≡ Some x) × (f x ≡ y)
from_mapped f [] k y e = absurd (no_item k y e)
from_mapped f (x ∷ xs) zero y e = (x, refl, (let same : f x ≡ y = cc in same))
from_mapped f (x ∷ xs) (suc k) y e = from_mapped f xs k y e

same_main : (m : ℕ) → same_clock (Main m) (Main m) ≡ true
same_main m = eq-eqb m m refl

-- the width of an output is that of its sink
pub output_wide : (setting : Setting) (m sink node : ℕ) (output : IsOutput setting m sink node) → is_wide setting sink ≡ output.wide
output_wide setting m sink node output = ap (λ found. option_map_or wide_sink found false) output.there

module _ (setting : Setting) (m : ℕ) (ports : List Port) (outputs : map output_of ports ≡ outputs_of setting m) where
  pub port_there : (k : ℕ) (port : Port) → slice_get ports k ≡ Some port → IsThere setting m 0 setting.plan.sinks (output_of port)
  port_there k port at = are_there setting m 0 setting.plan.sinks k (output_of port) (sym (ap (λ xs. slice_get xs k) outputs) ∙ got_mapped output_of ports k port at)

  -- each port has a node of the clock
  pub port_inside : (k : ℕ) (port : Port) → slice_get ports k ≡ Some port → clock_of setting port.node ≡ Main m
  port_inside k port at = same_clock-true (clock_of setting port.node) (Main m) (port_there k port at).inside

  -- the port of an output has its node
  pub port_node : (sink node : ℕ) → IsOutput setting m sink node → (k : ℕ) (port : Port) → slice_get ports k ≡ Some port → port.sink ≡ sink → port.node ≡ node
  port_node sink node output k port at same =
      let is = port_there k port at in
      let number = is.number in
      let place : is.place ≡ sink = omega (arith, number, same) in
      let one : Some (Output is.name port.node is.fallible is.wide) ≡ Some (Output output.name node output.fallible output.wide) =
      sym is.there ∙ ap (slice_get setting.plan.sinks) place ∙ output.there in
      let two : Output is.name port.node is.fallible is.wide ≡ Output output.name node output.fallible output.wide = cc in
      ap sink_node two

  -- and each output has a port
  pub port_found : (sink node : ℕ) → IsOutput setting m sink node → (k : ℕ) × (port : Port) × (slice_get ports k ≡ Some port) × (port.sink ≡ sink)
  port_found sink node output =
      let inside : lies_in setting (Main m) node ≡ true = ap (λ clock. same_clock clock (Main m)) output.in_clock ∙ same_main m in
      let found = is_found setting m 0 setting.plan.sinks sink output.name node output.fallible output.wide output.there inside in
      let its = from_mapped output_of ports found.0 (0 + sink, node) (ap (λ xs. slice_get xs found.0) outputs ∙ found.1) in
      let number : 0 + sink ≡ sink = omega arith in
      (found.0, its.0, its.1, ap (λ pair. pair.0) its.2 ∙ number)
