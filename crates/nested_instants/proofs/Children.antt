-- The child of a crossfade in the crossfade's sub-clock.
use Rattle.std.proofs.Common.{◌≡◌, ◌<◌, ◌+◌, ◌&&◌, ◌||◌, ◌∙◌, ℕ, zero, suc, Bool, true, false, List, [], ◌∷◌, length, get_or, nat_eq, arith, refl, ap, sym, inl, inr}
use Rattle.std.specs.Prelude.{is_some, slice_index_or}
use Rattle.std.proofs.lemmas.Bool.{cases_lt, false≢true}
use Rattle.std.proofs.lemmas.Bool.Decides.{nat_tests}
use Rattle.clock_infer.specs.declared.clock_map.NodeClock.{NodeClock}
use Rattle.clock_infer.specs.declared.clock_map.NodeClock.TheVariants.{Sub}
use Rattle.frame_core.specs.Slots.{Slot}
use Rattle.stream_meaning.specs.declared.part.Part.{Part}
use Rattle.stream_meaning.specs.Instants.{Setting, Moment, clock_of, crossfaded, demanded, demands_from, gives, is_root, is_used, lies_in, moment_after, offer, part_at, uses_from}
use Rattle.stream_meaning.proofs.Existence.{same_clock-true}
use Rattle.stretch_laws.proofs.Parts.{part_past, uses_long}
use Rattle.clock_instants.proofs.Gone.{offers_in}
use Rattle.nested_instants.specs.Clocks.{AreOwnRoots}

-- a node that offers is one of the plan
pub within_by : (setting : Setting) (sub : ℕ → ℕ → List Slot) (clock : NodeClock) (past : List Moment) (i : ℕ) → is_some (offer (moment_after setting sub clock past) i) ≡ true → i < length setting.plan.nodes
within_by setting sub clock past i there = elim (cases_lt i (length setting.plan.nodes)) [
  | inl low ↦ low
  | inr high ↦ absurd (false≢true (sym (ap (λ (p : Part). is_some p.slot) (part_past setting sub clock past i high)) ∙ there))
]

and_right : (a b : Bool) → (a && b) ≡ true → b ≡ true
and_right true b e = e
and_right false b e = absurd (false≢true e)

-- a node that gives offers
pub gives_offers : (moment : Moment) (i : ℕ) → gives moment i ≡ true → is_some (offer moment i) ≡ true
gives_offers moment i gave = and_right (demanded moment i) (is_some (offer moment i)) gave

-- a child that offers at an instant of the sub-clock lies in it
pub child_inside : (setting : Setting) (sub : ℕ → ℕ → List Slot) (k : ℕ) (past : List Moment) → is_some (offer (moment_after setting sub (Sub k) past) (crossfaded setting.plan.nodes k)) ≡ true
    → clock_of setting (crossfaded setting.plan.nodes k) ≡ Sub k
child_inside setting sub k past there =
    same_clock-true (clock_of setting (crossfaded setting.plan.nodes k)) (Sub k) (offers_in setting sub (Sub k) past (crossfaded setting.plan.nodes k) there)

-- and is demanded there of itself
pub child_root : (setting : Setting) (sub : ℕ → ℕ → List Slot) (k : ℕ) (past : List Moment) (own : List Bool) → AreOwnRoots setting own
    → is_some (offer (moment_after setting sub (Sub k) past) (crossfaded setting.plan.nodes k)) ≡ true → slice_index_or own (crossfaded setting.plan.nodes k) false ≡ true
child_root setting sub k past own roots there =
    let child : ℕ = crossfaded setting.plan.nodes k in
    let same : nat_eq child child ≡ true = grind (arith, nat_tests) in
    roots.each child (within_by setting sub (Sub k) past child there) ∙ ap (λ c. is_root setting c child) (child_inside setting sub k past there) ∙ same

or_first : (a b : Bool) → a ≡ true → (a || b) ≡ true
or_first true b e = refl
or_first false b e = absurd (false≢true e)

and_both : (a b : Bool) → a ≡ true → b ≡ true → (a && b) ≡ true
and_both true b d e = e
and_both false b d e = absurd (false≢true d)

-- what is demanded of itself is demanded
root_demanded : (roots : ℕ → Bool) (i : ℕ) (uses : List (List ℕ)) (k : ℕ) → k < length uses → roots (i + k) ≡ true → get_or (demands_from roots i uses) k false ≡ true
root_demanded roots i [] k low e = absurd (omega (arith, low))
root_demanded roots i (used ∷ uses) zero low e =
    let same : i + 0 ≡ i = omega arith in
    or_first (roots i) (is_used (demands_from roots (suc i) uses) uses i) (sym (ap roots same) ∙ e)
root_demanded roots i (used ∷ uses) (suc k) low e =
    let same : i + suc k ≡ suc i + k = omega arith in
    root_demanded roots (suc i) uses k (omega (arith, low)) (sym (ap roots same) ∙ e)

-- a node that its own clock demands of itself gives where it offers
pub root_gives : (setting : Setting) (sub : ℕ → ℕ → List Slot) (clock : NodeClock) (past : List Moment) (own : List Bool) → AreOwnRoots setting own → (i : ℕ) → slice_index_or own i false ≡ true
    → is_some (offer (moment_after setting sub clock past) i) ≡ true → gives (moment_after setting sub clock past) i ≡ true
root_gives setting sub clock past own roots i is there =
    let First : Moment = moment_after setting sub clock past in
    let low = within_by setting sub clock past i there in
    let inside = offers_in setting sub clock past i there in
    let here : is_root setting clock i ≡ true = sym (ap (λ c. is_root setting c i) (same_clock-true (clock_of setting i) clock inside)) ∙ sym (roots.each i low) ∙ is in
    let start : 0 + i ≡ i = omega arith in
    let many_uses = uses_long setting First.parts 0 setting.plan.nodes in
    let demand : demanded First i ≡ true =
    root_demanded (λ m. lies_in setting clock m && is_root setting clock m) 0 (uses_from setting First.parts 0 setting.plan.nodes) i (omega (arith, low, many_uses))
    (ap (λ m. lies_in setting clock m && is_root setting clock m) start ∙ and_both (lies_in setting clock i) (is_root setting clock i) inside here) in
    and_both (demanded First i) (is_some (offer First i)) demand there

-- a child that offers at the sub-clock's latest instant gives there
pub child_gave : (setting : Setting) (sub : ℕ → ℕ → List Slot) (k : ℕ) (past : List Moment) (own : List Bool) (parts : List Part) → AreOwnRoots setting own
    → parts ≡ (moment_after setting sub (Sub k) past).parts → is_some (part_at parts (crossfaded setting.plan.nodes k)).slot ≡ true
    → gives (moment_after setting sub (Sub k) past) (crossfaded setting.plan.nodes k) ≡ true
child_gave setting sub k past own parts roots are there =
    let offered : is_some (offer (moment_after setting sub (Sub k) past) (crossfaded setting.plan.nodes k)) ≡ true = sym (ap (λ ps. is_some (part_at ps (crossfaded setting.plan.nodes k)).slot) are) ∙ there in
    root_gives setting sub (Sub k) past own roots (crossfaded setting.plan.nodes k) (child_root setting sub k past own roots offered) offered
