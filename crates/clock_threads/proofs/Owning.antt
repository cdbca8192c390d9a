-- A clock's tick gives only to the buffers that it feeds, and takes only of those that it reads.
use Rattle.std.proofs.Common.{◌≡◌, ◌≢◌, ◌∙◌, ◌<◌, ◌≤◌, eqb, ℕ, Bool, true, false, List, [], ◌∷◌, length, nat_eq, arith, refl, ap, sym, cond, inl, inr}
use Rattle.std.specs.Prelude.{All}
use Rattle.std.proofs.lemmas.List.Elements.{All-head, All-tail}
use Rattle.std.proofs.lemmas.Bool.{cases_lt, lt-ltb}
use Rattle.std.proofs.lemmas.Bool.Decides.{nat_tests}
use Rattle.clock_infer.specs.declared.clock_map.ClockMap.{ClockMap}
use Rattle.clock_infer.specs.declared.clock_map.NodeClock.TheVariants.{Main}
use Rattle.frame_core.specs.Calls.{Call, Took, Given, takes_of}
use Rattle.stream_meaning.specs.Instants.{Setting, answered}
use Rattle.stream_meaning.specs.Calls.{IsUnread, answers_in, calls_of_tick}
use Rattle.stream_meaning.specs.Settings.{IsSetting}
use Rattle.stream_meaning.proofs.Unread.{no_tick_takes}
use Rattle.stream_meaning.proofs.Sorted.{reads_op}
use Rattle.run_records.specs.Buffers.{feeder, reader}
use Rattle.run_records.specs.Owning.{IsOwn}
use Rattle.run_records.proofs.Owning.{own_tick}
use Rattle.clock_threads.specs.declared.wires.Wire.{Wire}
use Rattle.clock_threads.specs.Wires.{wire_at}
use Rattle.clock_threads.specs.Lawful.{Answers, AreWires, TakeOwn, meant}

-- two spellings of what was got
pub in_takes : (b : ℕ) (cs : List Call) → answers_in b cs ≡ takes_of b cs
in_takes b [] = refl
in_takes b (Given x c a ∷ cs) = in_takes b cs
in_takes b (Took x o ∷ cs) =
    let same : nat_eq x b ≡ eqb b x = grind (arith, nat_tests) in
    ap (λ z. cond z (o ∷ answers_in b cs) (answers_in b cs)) same ∙ ap (λ l. cond (eqb b x) (o ∷ l) l) (in_takes b cs)

-- calls of a clock that does not read the buffer
pub no_took : (setting : Setting) (b m : ℕ) → reader setting b ≢ m → (calls : List Call) → All (IsOwn setting m) calls → takes_of b calls ≡ []
no_took setting b m read [] each = refl
no_took setting b m read (Given c chunk accepted ∷ calls) each = no_took setting b m read calls (All-tail (IsOwn setting m) (Given c chunk accepted) calls each)
no_took setting b m read (Took c answer ∷ calls) each = by (eqb b c) refl (no_took setting b m read calls (All-tail (IsOwn setting m) (Took c answer) calls each))
  where
    by : (t : Bool) → eqb b c ≡ t → takes_of b calls ≡ [] → takes_of b (Took c answer ∷ calls) ≡ []
    by true e rest = (let same : b ≡ c = grind (arith, nat_tests) in absurd (read (ap (reader setting) same ∙ (All-head (IsOwn setting m) (Took c answer) calls each))))
    by false e rest = ap (λ (z : Bool). cond z (answer ∷ takes_of b calls) (takes_of b calls)) e ∙ rest

module _ (setting : Setting) (map : ClockMap) (is : IsSetting setting map) (wires : List Wire) (are : AreWires setting map.running wires) where
  -- no node reads a buffer that the plan does not have
  unread : (answers : Answers) (m b : ℕ) → length wires ≤ b → IsUnread (answered setting answers) (Main m) b
  unread answers m b past = record {
    none = λ rank i node found work below. (
        let known : b < length setting.plan.buffers = is.plan.read b i (node, found, reads_op setting.plan.rate i node.kind node.op b work) in
        let n = are.many in omega (arith, known, n, past));
  }

  none_taken : (answers : Answers) (accepted : ℕ → Bool) (m t b : ℕ) → length wires ≤ b → takes_of b (meant setting answers accepted m t) ≡ []
  none_taken answers accepted m t b past = sym (in_takes b (meant setting answers accepted m t)) ∙ no_tick_takes (answered setting answers) accepted m t b (unread answers m b past)

  pub to_reader : (m b : ℕ) → b < length wires → m < map.running → reader setting b ≡ m → (wire_at wires b).to ≡ m
  to_reader m b less runs e = (are.each b less).to_is ∙ ap (λ (t : Bool). cond t (reader setting b) (feeder setting b)) (lt-ltb (reader setting b) map.running (omega (arith, runs, e))) ∙ e

  pub take_own : TakeOwn (meant setting) wires map.running
  take_own = record {
    takes = λ answers accepted m t b runs other. (elim (cases_lt b (length wires)) [
      | inl less ↦ no_took setting b m (λ e. other (to_reader m b less runs e)) (calls_of_tick (answered setting answers) accepted m t) (own_tick setting map is answers accepted m t)
      | inr past ↦ none_taken answers accepted m t b past
    ]);
    none = none_taken;
  }
