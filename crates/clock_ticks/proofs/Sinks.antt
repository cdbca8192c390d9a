-- The outputs of a clock, one sink after another.
use Rattle.std.proofs.Common.{◌≡◌, ◌+◌, ◌∙◌, ◌++◌, ℕ, zero, suc, Bool, true, Some, List, [], ◌∷◌, All, map, drop, slice_get, append_assoc, add-one, arith, ap, sym}
use Rattle.std.proofs.lemmas.List.{map-append}
use Rattle.plan_core.specs.declared.sink.SinkPlan.{SinkPlan}
use Rattle.plan_core.specs.declared.sink.SinkPlan.TheVariants.{Output}
use Rattle.clock_infer.specs.declared.clock_map.NodeClock.TheVariants.{Main}
use Rattle.stream_meaning.specs.Instants.{Setting, lies_in}
use Rattle.clock_outputs.specs.declared.port.Port.{Port}
use Rattle.clock_ticks.proofs.Numbered.{no_item}
use Rattle.clock_ticks.specs.Engines.{output_of, outputs_from}

pub dropped : {A : Type 0} (xs : List A) (i : ℕ) (x : A) → slice_get xs i ≡ Some x → drop i xs ≡ x ∷ drop (suc i) xs
dropped [] i x e = absurd (no_item i x e)
dropped (y ∷ xs) zero x e = (let same : y ≡ x = cc in ap (λ z. z ∷ xs) same)
dropped (y ∷ xs) (suc i) x e = dropped xs i x e

module _ (setting : Setting) (m i : ℕ) (sinks : List SinkPlan) where
  next_is : outputs_from setting m (suc i) (drop (suc i) sinks) ≡ outputs_from setting m (i + 1) (drop (i + 1) sinks)
  next_is = ap (λ n. outputs_from setting m n (drop n sinks)) (sym (add-one i))

  pub at_output : (name : List ℕ) (node : ℕ) (fallible wide : Bool) → slice_get sinks i ≡ Some (Output name node fallible wide) → lies_in setting (Main m) node ≡ true
      → outputs_from setting m i (drop i sinks) ≡ (i, node) ∷ outputs_from setting m (i + 1) (drop (i + 1) sinks)
  at_output name node fallible wide at inside =
      ap (outputs_from setting m i) (dropped sinks i (Output name node fallible wide) at) ∙ rw inside (ap (λ os. (i, node) ∷ os) next_is)

-- one output more
pub outputs_more : (ports : List Port) (port : Port) (output : ℕ × ℕ) (rest : List (ℕ × ℕ)) → output_of port ≡ output
    → map output_of (ports ++ port ∷ []) ++ rest ≡ map output_of ports ++ output ∷ rest
outputs_more ports port output rest is =
    ap (λ os. os ++ rest) (map-append output_of ports (port ∷ []))
    ∙ append_assoc (map output_of ports) (output_of port ∷ []) rest
    ∙ ap (λ o. map output_of ports ++ o ∷ rest) is

-- a fact of each item, and of one more
pub all_more : {A : Type 0} (P : A → Type 0) (xs : List A) (x : A) → All P xs → P x → All P (xs ++ x ∷ [])
all_more P [] x all one zero d h = one
all_more P [] x all one (suc k) d h = absurd (omega (arith, h))
all_more P (y ∷ xs) x all one zero d h = all zero d (omega arith)
all_more P (y ∷ xs) x all one (suc k) d h = all_more P xs x (λ j e low. all (suc j) e (omega (arith, low))) one k d (omega (arith, h))
