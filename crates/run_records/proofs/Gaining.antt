-- What the ticks of a main clock take of a buffer that it reads are the first answers of the buffer's list.
use Rattle.std.proofs.Common.{◌≡◌, ◌<◌, ◌≤◌, ◌∙◌, ◌+◌, ◌*◌, ◌++◌, ◌==◌, ℕ, zero, suc, Bool, true, false, cond, Some, List, [], ◌∷◌, length, nat_eq, slice_get, flat_map, refl, ap, sym, subst, arith, append-nil, suc-mul}
use Rattle.std.proofs.lemmas.Bool.Decides.{nat_tests}
use Rattle.std.proofs.lemmas.Option.{slice_get_within}
use Rattle.plan_core.specs.declared.node.Node.{Node}
use Rattle.plan_core.specs.declared.sink.SinkPlan.{SinkPlan}
use Rattle.plan_core.specs.declared.sink.SinkPlan.TheVariants.{Output, Feed}
use Rattle.clock_infer.specs.declared.clock_map.ClockMap.{ClockMap}
use Rattle.clock_infer.specs.declared.clock_map.NodeClock.{NodeClock}
use Rattle.clock_infer.specs.declared.clock_map.NodeClock.TheVariants.{Main, Sub}
use Rattle.clock_infer.proofs.MapLaws.{ranks}
use Rattle.frame_core.specs.Calls.{Call, Took, Given, Answer, takes_of}
use Rattle.stream_meaning.specs.Operators.{Reads, work_of}
use Rattle.stream_meaning.specs.Instants.{Setting, answered, clock_of, first_instants, lies_in, sub_of, work_at}
use Rattle.stream_meaning.specs.Sinks.{feed_cells}
use Rattle.stream_meaning.specs.Calls.{IsBelow, answers_in, calls_of, calls_of_tick, give_by, gives_of_tick, joined_upto, takes_of_tick}
use Rattle.stream_meaning.specs.Settings.{IsSetting}
use Rattle.stream_meaning.proofs.Answering.{answers_in-append}
use Rattle.stream_meaning.proofs.Existence.{are_nested}
use Rattle.stream_meaning.proofs.Ranks.{AreNested, deeper, rank_below}
use Rattle.stream_meaning.proofs.Unread.{no_given}
use Rattle.run_records.specs.Buffers.{main_of, main_within, read_from, reader}
use Rattle.run_records.proofs.Gotten.{down, first_of}
use Rattle.run_records.proofs.Owning.{read_is}
use Rattle.stream_meaning.proofs.Sorted.{reads_op}
use Rattle.run_records.proofs.Turning.{joined_split}

flip : (a b : ℕ) → (b == a) ≡ nat_eq a b
flip a b = by (nat_eq a b) (nat_eq b a) refl refl
  where
    by : (p q : Bool) → nat_eq a b ≡ p → nat_eq b a ≡ q → nat_eq b a ≡ nat_eq a b
    by true true e f = f ∙ sym e
    by false false e f = f ∙ sym e
    by true false e f = absurd (grind (arith, nat_tests, e, f))
    by false true e f = absurd (grind (arith, nat_tests, e, f))

-- the two spellings of the answers of a buffer
pub takes_are : (buffer : ℕ) (calls : List Call) → takes_of buffer calls ≡ answers_in buffer calls
takes_are buffer [] = refl
takes_are buffer (Took of answer ∷ calls) = ap (λ (t : Bool). cond t (answer ∷ takes_of buffer calls) (takes_of buffer calls)) (flip of buffer) ∙ ap (λ (rest : List Answer). cond (nat_eq of buffer) (answer ∷ rest) rest) (takes_are buffer calls)
takes_are buffer (Given to chunk accepted ∷ calls) = takes_are buffer calls

-- gives take nothing
no_given_by : (setting : Setting) (accepted : ℕ → Bool) (m t buffer : ℕ) (sink : SinkPlan) → answers_in buffer (give_by setting accepted m t sink) ≡ []
no_given_by setting accepted m t buffer (Output name node fallible wide) = refl
no_given_by setting accepted m t buffer (Feed to node) = by (lies_in setting (Main m) node) refl
  where
    by : (b : Bool) → lies_in setting (Main m) node ≡ b → answers_in buffer (give_by setting accepted m t (Feed to node)) ≡ []
    by true e = rw e (no_given buffer to (feed_cells setting node t) (accepted to))
    by false e = rw e refl

no_gives : (setting : Setting) (accepted : ℕ → Bool) (m t buffer : ℕ) (sinks : List SinkPlan) → answers_in buffer (flat_map (give_by setting accepted m t) sinks) ≡ []
no_gives setting accepted m t buffer [] = refl
no_gives setting accepted m t buffer (sink ∷ sinks) =
    answers_in-append buffer (give_by setting accepted m t sink) (flat_map (give_by setting accepted m t) sinks)
    ∙ (λ i. no_given_by setting accepted m t buffer sink i ++ no_gives setting accepted m t buffer sinks i)

pub gives_take_none : (setting : Setting) (accepted : ℕ → Bool) (m t buffer : ℕ) → takes_of buffer (gives_of_tick setting accepted m t) ≡ []
gives_take_none setting accepted m t buffer = takes_are buffer (gives_of_tick setting accepted m t) ∙ no_gives setting accepted m t buffer setting.plan.sinks

module _ (setting : Setting) (map : ClockMap) (is : IsSetting setting map) (answers : ℕ → List Answer) (b : ℕ) (known : b < length setting.plan.buffers) where
  abbrev world : Setting
  world = answered setting answers

  abbrev i : ℕ
  i = (is.plan.one_reader b known).0

  abbrev node : Node
  node = (is.plan.one_reader b known).1.0

  there : slice_get setting.plan.nodes i ≡ Some node
  there = (is.plan.one_reader b known).1.1

  reads : work_at world i node ≡ Reads b
  reads = ap (work_of setting.plan.rate i node.kind) (is.plan.one_reader b known).1.2

  only : (j : ℕ) (other : Node) → slice_get setting.plan.nodes j ≡ Some other → work_at world j other ≡ Reads b → j ≡ i
  only j other found work = (is.plan.one_reader b known).2 j (other, found, reads_op setting.plan.rate j other.kind other.op b work)

  reader_at : reader setting b ≡ main_of setting i
  reader_at =
      let zero_is : 0 + i ≡ i = omega arith in
      let found : read_from setting b 0 setting.plan.nodes ≡ 0 + i = read_is setting b 0 setting.plan.nodes i node there (ap (λ (n : ℕ). work_at setting n node) zero_is ∙ reads)
      (λ q other at work. let same : 0 + q ≡ q = omega arith in only q other at (ap (λ (n : ℕ). work_at setting n other) (sym same) ∙ work)) in
      ap (main_of setting) (found ∙ zero_is)

  module _ (rank : ℕ → ℕ) (deepest : ℕ) (nested : AreNested map (clock_of setting) (length setting.plan.nodes) rank deepest) where
    abbrev Way : (d j : ℕ) → NodeClock → Type 0
    Way d j clock = (r : ℕ) × (r ≤ rank j) × IsBelow world (Main (main_within setting d clock)) r j

    way_main : (d j m : ℕ) → clock_of setting j ≡ Main m → Way d j (Main m)
    way_main d j m e = (0, omega arith, e)

    below_main : (d j : ℕ) → j < length setting.plan.nodes → rank j ≤ d → Way d j (clock_of setting j)
    below_main zero j low less = by (clock_of setting j) refl
      where
        by : (clock : NodeClock) → clock_of setting j ≡ clock → Way zero j clock
        by (Main m) e = way_main zero j m e
        by (Sub k) e = (let deep = deeper map (clock_of setting) (length setting.plan.nodes) rank deepest nested j k low e in absurd (omega (arith, deep, less)))
    below_main (suc d) j low less = by (λ k inside more. below_main d k inside more) (clock_of setting j) refl
      where
        by : ((k : ℕ) → k < length setting.plan.nodes → rank k ≤ d → Way d k (clock_of setting k)) → (clock : NodeClock) → clock_of setting j ≡ clock → Way (suc d) j clock
        by each (Main m) e = way_main (suc d) j m e
        by each (Sub k) e =
            (let deep = deeper map (clock_of setting) (length setting.plan.nodes) rank deepest nested j k low e in
            let inside = nested.within j k (nested.there j low ∙ ap (λ (c : NodeClock). Some c) e) in
            let more = each k inside (omega (arith, deep, less)) in
            let high = more.1 in
            (suc more.0, omega (arith, high, deep), (k, e, more.2)))

  abbrev instants : ℕ → ℕ → List Call
  instants m n = joined_upto (λ j. calls_of world (sub_of world) (Main m) (first_instants world (sub_of world) (Main m) j)) n

  abbrev ticks : (accepted : ℕ → ℕ → Bool) → (m n : ℕ) → List Call
  ticks accepted m n = joined_upto (λ t. calls_of_tick world (accepted t) m t) n

  -- of the ticks of a clock those of its instants
  by_instants : (accepted : ℕ → ℕ → Bool) (m n : ℕ) → answers_in b (ticks accepted m n) ≡ answers_in b (instants m (n * setting.plan.frame))
  by_instants accepted m zero = let none : 0 * setting.plan.frame ≡ 0 = grind arith in ap (λ k. answers_in b (instants m k)) (sym none)
  by_instants accepted m (suc n) =
      let takes = takes_of_tick world m n in
      let gives = gives_of_tick world (accepted n) m n in
      answers_in-append b (ticks accepted m n) (takes ++ gives)
      ∙ (λ k. by_instants accepted m n k ++ (answers_in-append b takes gives ∙ ap (λ l. answers_in b takes ++ l) (no_gives world (accepted n) m n b setting.plan.sinks) ∙ append-nil (answers_in b takes)) k)
      ∙ sym (answers_in-append b (instants m (n * setting.plan.frame)) takes)
      ∙ ap (answers_in b) (sym (ap (instants m) (suc-mul n setting.plan.frame)
      ∙ joined_split (λ j. calls_of world (sub_of world) (Main m) (first_instants world (sub_of world) (Main m) j)) (n * setting.plan.frame) setting.plan.frame))

  pub ticks_get : (accepted : ℕ → ℕ → Bool) (m n : ℕ) → reader setting b ≡ m → (count : ℕ) × (takes_of b (ticks accepted m n) ≡ first_of count (answers b))
  ticks_get accepted m n own =
      let found = ranks setting.plan map is.map in
      let nested : AreNested map (clock_of setting) (length setting.plan.nodes) found.0 found.1 = are_nested setting map is found.0 found.1 found.2 in
      let inside = slice_get_within setting.plan.nodes i node there in
      let low = rank_below map (clock_of setting) (length setting.plan.nodes) found.0 found.1 nested i inside in
      let way = below_main found.0 found.1 nested (length setting.plan.nodes) i inside (omega (arith, low)) in
      let less = way.1 in
      let above : IsBelow world (Main m) way.0 i = subst (λ (k : ℕ). IsBelow world (Main k) way.0 i) (sym reader_at ∙ own) way.2 in
      let got = down world (sub_of world) b i node there reads only map found.0 found.1 nested way.0 (suc (length setting.plan.nodes)) (Main m) (omega (arith, less, low)) above (n * setting.plan.frame) in
      (got.0, takes_are b (ticks accepted m n) ∙ by_instants accepted m n ∙ got.1)
