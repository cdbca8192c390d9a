-- What is held of the nodes of a clock, and laid for a run.
use Rattle.std.proofs.Common.{◌≡◌, ◌<◌, ◌∙◌, ◌&&◌, ℕ, suc, Bool, true, false, cond, List, length, get_or, set, arith, refl, ap, sym, inl, inr}
use Rattle.std.specs.Prelude.{is_some}
use Rattle.std.proofs.lemmas.Bool.{cases_lt, true≢false}
use Rattle.std.proofs.lemmas.List.{get_or-set_other, get_or-set_same}
use Rattle.clock_infer.specs.declared.clock_map.NodeClock.{NodeClock}
use Rattle.frame_core.specs.Slots.{Slot}
use Rattle.stream_meaning.specs.declared.part.Part.{Part}
use Rattle.stream_meaning.specs.Instants.{Setting, Moment, demanded, gives, lies_in, moment_after, part_at, silent}
use Rattle.node_states.specs.Passing.{given_part}
use Rattle.node_states.proofs.Hearing.{given_no}
use Rattle.clock_instants.specs.Held.{IsHeld, gave_at, given_by}
use Rattle.clock_nodes.specs.Nodes.{IsFirst, lies_at}
use Rattle.clock_instants.proofs.Gone.{gives_in}
use Rattle.clock_nodes.proofs.Places.{same_or_other}
use Rattle.clock_nodes.proofs.Walking.{not_here}

some_by : (part : Part) (b : Bool) → is_some part.slot ≡ b → is_some (cond b part silent).slot ≡ b
some_by part true e = e
some_by part false e = refl

given_some : (marked : Bool) (part : Part) → is_some (given_by marked part).slot ≡ (marked && is_some part.slot)
given_some true part = some_by part (is_some part.slot) refl
given_some false part = refl

-- over equal arguments
pub given_same : (marked other : Bool) (part same result : Part) → result ≡ given_by marked part → other ≡ marked → same ≡ part → result ≡ given_by other same
given_same marked other part same result is one two = is ∙ ap (λ m. given_by m part) (sym one) ∙ ap (given_by other) (sym two)

pub given_is : (moment : Moment) (i : ℕ) → is_some (given_part moment i).slot ≡ gives moment i
given_is moment i = given_some (demanded moment i) (part_at moment.parts i)

pub gives_now : (moment : Moment) (parts : List Part) (i : ℕ) → part_at parts i ≡ given_part moment i → gives moment i ≡ is_some (part_at parts i).slot
gives_now moment parts i is = sym (given_is moment i) ∙ ap (λ (p : Part). is_some p.slot) (sym is)

-- what is held tells who gave
pub held_gives : (setting : Setting) (sub : ℕ → ℕ → List Slot) (clock : NodeClock) (past : List Moment) (held : List Part) (i : ℕ) → IsHeld setting sub clock past held
    → i < length setting.plan.nodes → lies_in setting clock i ≡ true → gave_at held i ≡ gives (moment_after setting sub clock past) i
held_gives setting sub clock past held i is low inside =
    ap (λ (p : Part). is_some p.slot) (is.each i low inside) ∙ given_is (moment_after setting sub clock past) i

-- of the nodes below the one that is walked on those of the clock have these parts, and nodes of other clocks those
pub record AreLaid (clocks : List NodeClock) (clock : NodeClock) (own other : ℕ → Part) (parts : List Part) (i : ℕ) : Type 0 where
  pub below : (k : ℕ) → k < i → lies_at clocks clock k ≡ true → part_at parts k ≡ own k
  pub outside : (k : ℕ) → lies_at clocks clock k ≡ false → part_at parts k ≡ other k

module _ (clocks : List NodeClock) (clock : NodeClock) (own other : ℕ → Part) where
  pub laid_none : (parts : List Part) → ((k : ℕ) → lies_at clocks clock k ≡ false → part_at parts k ≡ other k) → AreLaid clocks clock own other parts 0
  laid_none parts outside = record { below = λ k low inside. absurd (omega (arith, low)); outside = outside }

  pub laid_skip : (parts : List Part) (i n : ℕ) → IsFirst clocks clock i n → AreLaid clocks clock own other parts i → AreLaid clocks clock own other parts n
  laid_skip parts i n first laid = record {
    below = λ k low inside. elim (cases_lt k i) [
      | inl less ↦ laid.below k less inside
      | inr high ↦ absurd (true≢false (sym inside ∙ first.skips k high low))
    ];
    outside = laid.outside;
  }

  pub laid_step : (parts : List Part) (i : ℕ) (new : Part) → i < length parts → lies_at clocks clock i ≡ true → new ≡ own i → AreLaid clocks clock own other parts i
      → AreLaid clocks clock own other (set parts i new) (suc i)
  laid_step parts i new within inside is laid = record {
    below = λ k low in_k. elim (same_or_other i k) [
      | inl same ↦ ap (λ n. get_or (set parts i new) n silent) (sym same) ∙ get_or-set_same parts i new silent within ∙ is ∙ ap own same
      | inr apart ↦ get_or-set_other parts i k new silent (λ e. apart (sym e)) ∙ laid.below k (omega (arith, low, apart)) in_k
    ];
    outside = λ k out. get_or-set_other parts i k new silent (not_here clocks clock i k inside out) ∙ laid.outside k out;
  }

-- over what is held the parts are what the nodes gave
pub parts_given : (setting : Setting) (sub : ℕ → ℕ → List Slot) (clock : NodeClock) (past : List Moment) (held parts : List Part) (i : ℕ) → IsHeld setting sub clock past held
    → AreLaid setting.clocks clock (part_at held) (λ k. silent) parts i → (k : ℕ) → k < i → k < length setting.plan.nodes
    → part_at parts k ≡ given_part (moment_after setting sub clock past) k
parts_given setting sub clock past held parts i is laid k low within = by (lies_in setting clock k) refl
  where
    none : lies_in setting clock k ≡ false → (gave : Bool) → gives (moment_after setting sub clock past) k ≡ gave → gives (moment_after setting sub clock past) k ≡ false
    none out true e = absurd (true≢false (sym (gives_in setting sub clock past k e) ∙ out))
    none out false e = e

    by : (inside : Bool) → lies_in setting clock k ≡ inside → part_at parts k ≡ given_part (moment_after setting sub clock past) k
    by true e = laid.below k low e ∙ is.each k within e
    by false e = laid.outside k e ∙ sym (given_no (moment_after setting sub clock past) k (none e (gives (moment_after setting sub clock past) k) refl))
