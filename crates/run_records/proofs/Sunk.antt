-- A reader that is the node of a sink is drawn.
use Rattle.std.proofs.Common.{◌≡◌, ◌<◌, ◌+◌, ◌||◌, ◌&&◌, ℕ, zero, suc, Bool, true, false, Some, List, [], ◌∷◌, length, get_or, nat_eq, slice_get, refl, ap, sym, ◌∙◌, arith}
use Rattle.std.proofs.lemmas.Bool.{false≢true}
use Rattle.std.proofs.lemmas.Bool.Decides.{nat_tests}
use Rattle.std.proofs.lemmas.Option.{slice_get_within}
use Rattle.plan_core.specs.declared.node.Node.{Node}
use Rattle.clock_infer.specs.declared.clock_map.NodeClock.TheVariants.{Main}
use Rattle.stream_meaning.specs.declared.part.Part.{Part}
use Rattle.stream_meaning.specs.Operators.{Reads}
use Rattle.stream_meaning.specs.Instants.{Setting, clock_of, demanded, demands_from, first_instants, is_root, is_used, lies_in, moment_after, parts_upto, same_clock, sub_of, uses_from, work_at}
use Rattle.run_records.specs.Buffers.{reader}
use Rattle.run_records.specs.Pace.{IsDrawn}

or_first : (a b : Bool) → a ≡ true → (a || b) ≡ true
or_first true b e = refl
or_first false b e = absurd (false≢true e)

root_demanded : (roots : ℕ → Bool) (i : ℕ) (uses : List (List ℕ)) (k : ℕ) → k < length uses → roots (i + k) ≡ true → get_or (demands_from roots i uses) k false ≡ true
root_demanded roots i [] k low e = absurd (omega (arith, low))
root_demanded roots i (used ∷ uses) zero low e =
    let same : i + 0 ≡ i = omega arith in
    or_first (roots i) (is_used (demands_from roots (suc i) uses) uses i) (sym (ap roots same) ∙ e)
root_demanded roots i (used ∷ uses) (suc k) low e =
    let same : i + suc k ≡ suc i + k = omega arith in
    root_demanded roots (suc i) uses k (omega (arith, low)) (sym (ap roots same) ∙ e)

uses_long : (setting : Setting) (parts : List Part) (i : ℕ) (nodes : List Node) → length (uses_from setting parts i nodes) ≡ length nodes
uses_long setting parts i [] = refl
uses_long setting parts i (node ∷ nodes) = ap suc (uses_long setting parts (suc i) nodes)

-- the node of a sink of a main clock is demanded at each instant
pub root_is_demanded : (setting : Setting) (m i : ℕ) → i < length setting.plan.nodes → clock_of setting i ≡ Main m → is_root setting (Main m) i ≡ true
    → (n : ℕ) → demanded (moment_after setting (sub_of setting) (Main m) (first_instants setting (sub_of setting) (Main m) n)) i ≡ true
root_is_demanded setting m i low lies root n =
    let same : nat_eq m m ≡ true = grind (arith, nat_tests) in
    let inside : lies_in setting (Main m) i ≡ true = ap (λ clock. same_clock clock (Main m)) lies ∙ same in
    let parts = parts_upto setting (sub_of setting) (Main m) (first_instants setting (sub_of setting) (Main m) n) (length setting.plan.nodes) in
    let long = uses_long setting parts 0 setting.plan.nodes in
    let none : 0 + i ≡ i = omega arith in
    root_demanded (λ k. lies_in setting (Main m) k && is_root setting (Main m) k) 0 (uses_from setting parts 0 setting.plan.nodes) i (omega (arith, low, long))
    (ap (λ (k : ℕ). lies_in setting (Main m) k && is_root setting (Main m) k) none ∙ ap (λ (t : Bool). t && is_root setting (Main m) i) inside ∙ root)

pub sink_is_drawn : (setting : Setting) (b m i : ℕ) (node : Node) → slice_get setting.plan.nodes i ≡ Some node → work_at setting i node ≡ Reads b → clock_of setting i ≡ Main m
    → reader setting b ≡ m → is_root setting (Main m) i ≡ true → IsDrawn setting b m i node
sink_is_drawn setting b m i node found does lies reads root = record {
  found = found;
  does = does;
  lies = lies;
  reads = reads;
  drawn = λ n some. root_is_demanded setting m i (slice_get_within setting.plan.nodes i node found) lies root n;
}
