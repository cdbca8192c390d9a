-- Where no buffer joins two clocks a lawful record is that of rounds, for every window length.
use Rattle.std.proofs.Common.{◌≡◌, ◌≢◌, ◌⊎◌, ℕ, suc, ◌<◌, ◌≤◌, inl, inr, List, [], ◌∷◌, length, map, sym, refl, ap, ◌∙◌, subst, arith, flat_map}
use Rattle.std.proofs.lemmas.List.{get_or-map}
use mathlib.Core.Path.{fun_ext}
use Rattle.std.specs.Prelude.{Some, slice_get, Contains}
use Rattle.std.proofs.lemmas.List.Elements.{All-contains}
use Rattle.plan_core.specs.declared.sink.SinkPlan.{SinkPlan}
use Rattle.plan_core.specs.Plans.{sink_node}
use Rattle.std.proofs.lemmas.Option.{slice_get_within, get_or_from_slice_get}
use Rattle.plan_core.specs.declared.sink.SinkPlan.TheVariants.{Feed}
use Rattle.clock_infer.specs.declared.clock_map.NodeClock.TheVariants.{Main}
use Rattle.clock_infer.proofs.MapLaws.{sinks}
use Rattle.clock_infer.proofs.Exact.{some_inj}
use Rattle.stream_meaning.specs.Instants.{clock_of}
use Rattle.stream_meaning.proofs.Existence.{clock_there}
use Rattle.run_records.specs.Buffers.{main_within, main_of, fed_in}
use Rattle.run_records.proofs.Owning.{fed_is}
use Rattle.clock_infer.specs.declared.clock_map.ClockMap.{ClockMap}
use Rattle.frame_core.specs.Calls.{Call, takes_of, puts_to}
use Rattle.stream_meaning.specs.Instants.{Setting, answered}
use Rattle.stream_meaning.specs.Calls.{joined_upto}
use Rattle.stream_meaning.specs.Settings.{IsSetting}
use Rattle.stream_meaning.specs.Sinks.{cues, gaps, ticks_bytes}
use Rattle.run_records.specs.Buffers.{feeder, reader}
use Rattle.frame_core.specs.declared.cell.Cell.{Cell}
use Rattle.frame_core.specs.Legal.{IsHistory}
use Rattle.std.proofs.lemmas.Bool.{cases_lt}
use Rattle.run_records.specs.Records.{Window, Run, windows_of, setting_in, capacity_of, on, Follows, rounds_of, IsRounds, calls_in, AreWindows, answers_of}
use Rattle.run_records.proofs.Running.{rounds_in, own_in, rests_in}
use Rattle.run_records.proofs.Resting.{feeder_takes_none, none_joined, reader_takes_none, windows_follow}
use Rattle.run_records.specs.Rounds.{as_one, merged, HasNoJoin, IsAsOnOneThread}
use Rattle.run_records.proofs.Rounding.{rounds_are_one}
use Rattle.run_records.proofs.Flattening.{all_puts, all_takes, puts_on, takes_on, none_on, rounds_on, merged_answers}

long_map : {A B : Type 0} (f : A → B) (xs : List A) → length (map f xs) ≡ length xs
long_map f [] = refl
long_map f (x ∷ xs) = ap suc (long_map f xs)

pub merged_setting : (setting : Setting) (run : Run) → setting_in setting (merged run) ≡ setting_in setting run
merged_setting setting run = ap (answered setting) (fun_ext (merged_answers run))

pub lawful_rounds : (setting : Setting) (clock_map : ClockMap) → IsSetting setting clock_map → (clocks W N : ℕ) (run : Run) → HasNoJoin setting clocks → ((b : ℕ) → b < length setting.plan.buffers → feeder setting b < clocks) → AreWindows setting clocks W N run → IsRounds setting clocks N (merged run)
lawful_rounds setting clock_map is clocks W N run local runs lawful = record {
  buffers = long_map as_one run.buffers ∙ lawful.buffers;
  accepted = lawful.accepted;
  are = λ b less. (
      let within : b < length run.buffers = (let size = lawful.buffers in omega (arith, size, less)) in
      get_or-map as_one run.buffers b [] [] within ∙ (λ i. (p b less i, t b less i) ∷ [])
      ∙ ap (λ (s : Setting). (puts_to b (rounds_of s lawful.accepted clocks N), takes_of b (rounds_of s lawful.accepted clocks N)) ∷ []) (sym (merged_setting setting run)));
  in_order = λ b less. (
      let f = ordered b less (local b less) in (
        f.0,
        subst (λ (s : Setting). Follows (capacity_of setting b) [] (on b (rounds_of s lawful.accepted clocks N)) f.0) (sym (merged_setting setting run))
            (subst (λ (l : List Call). Follows (capacity_of setting b) [] l f.0) (sym (calls_on b less)) f.1),
      ));
}
  where
    -- no other clock calls it
    apart : (b : ℕ) → b < length setting.plan.buffers → (feeder setting b ≡ reader setting b) ⊎ (clocks ≤ reader setting b) → (m t : ℕ) → m ≢ feeder setting b → on b (calls_in (setting_in setting run) clocks lawful.accepted m t) ≡ []
    apart b less (inl one) m t off = none_on setting b m (λ e. off (sym e)) (λ e. off (sym (one ∙ e))) (calls_in (setting_in setting run) clocks lawful.accepted m t) (own_in setting clock_map is (answers_of run) clocks lawful.accepted m t)
    apart b less (inr rests) m t off = elim (cases_lt m clocks) [
      | inl low ↦ none_on setting b m (λ e. off (sym e)) (λ e. omega (arith, low, rests, e)) (calls_in (setting_in setting run) clocks lawful.accepted m t) (own_in setting clock_map is (answers_of run) clocks lawful.accepted m t)
      | inr high ↦ ap (on b) (rests_in (setting_in setting run) clocks lawful.accepted m t high)
    ]

    ordered : (b : ℕ) → b < length setting.plan.buffers → (feeder setting b ≡ reader setting b) ⊎ (clocks ≤ reader setting b)
        → (rest : List (List Cell)) × Follows (capacity_of setting b) [] (on b (joined_upto (calls_in (setting_in setting run) clocks lawful.accepted (feeder setting b)) N)) rest
    ordered b less (inl one) = lawful.in_order b less one
    ordered b less (inr rests) =
        (let legal = lawful.legal b less in let calls = calls_in (setting_in setting run) clocks lawful.accepted (feeder setting b) in (
          legal.0,
          subst (λ (n : ℕ). Follows (capacity_of setting b) [] (on b (joined_upto calls n)) legal.0) lawful.whole
              (windows_follow setting clock_map is (answers_of run) clocks lawful.accepted b (runs b less) rests W N lawful.count (capacity_of setting b) legal.0
              (subst (λ (ws : List Window). IsHistory (capacity_of setting b) [] ws legal.0) (lawful.are b less) legal.1)),
        ))

    -- what is taken of it, its feeder takes
    taken : (b : ℕ) → b < length setting.plan.buffers → (feeder setting b ≡ reader setting b) ⊎ (clocks ≤ reader setting b)
        → takes_of b (joined_upto (calls_in (setting_in setting run) clocks lawful.accepted (reader setting b)) N) ≡ takes_of b (joined_upto (calls_in (setting_in setting run) clocks lawful.accepted (feeder setting b)) N)
    taken b less (inl one) = (λ i. takes_of b (joined_upto (calls_in (setting_in setting run) clocks lawful.accepted (sym one i)) N))
    taken b less (inr rests) =
        none_joined (calls_in (setting_in setting run) clocks lawful.accepted (reader setting b)) b N (reader_takes_none setting clock_map is (answers_of run) clocks lawful.accepted b (runs b less) rests)
        ∙ sym (none_joined (calls_in (setting_in setting run) clocks lawful.accepted (feeder setting b)) b N (feeder_takes_none setting clock_map is (answers_of run) clocks lawful.accepted b (runs b less) rests))

    calls_on : (b : ℕ) → b < length setting.plan.buffers → on b (rounds_of (setting_in setting run) lawful.accepted clocks N) ≡ on b (joined_upto (calls_in (setting_in setting run) clocks lawful.accepted (feeder setting b)) N)
    calls_on b less = ap (on b) (rounds_in (setting_in setting run) clocks lawful.accepted N) ∙ rounds_on b (feeder setting b) (calls_in (setting_in setting run) clocks lawful.accepted) clocks N (runs b less)
        (λ m t off. apart b less (local b less) m t off)

    p : (b : ℕ) → b < length setting.plan.buffers → flat_map (λ (w : Window). w.0) (windows_of run b) ≡ puts_to b (rounds_of (setting_in setting run) lawful.accepted clocks N)
    p b less =
        let calls = calls_in (setting_in setting run) clocks lawful.accepted (feeder setting b) in
        ap (flat_map (λ (w : Window). w.0)) (lawful.are b less) ∙ all_puts (setting_in setting run) clocks lawful.accepted b W N lawful.count ∙ ap (λ (n : ℕ). puts_to b (joined_upto calls n)) lawful.whole
        ∙ sym (puts_on b (joined_upto calls N)) ∙ ap (puts_to b) (sym (calls_on b less)) ∙ puts_on b (rounds_of (setting_in setting run) lawful.accepted clocks N)

    t : (b : ℕ) → b < length setting.plan.buffers → flat_map (λ (w : Window). w.1) (windows_of run b) ≡ takes_of b (rounds_of (setting_in setting run) lawful.accepted clocks N)
    t b less =
        let calls = calls_in (setting_in setting run) clocks lawful.accepted in
        ap (flat_map (λ (w : Window). w.1)) (lawful.are b less) ∙ all_takes (setting_in setting run) clocks lawful.accepted b W N lawful.count
        ∙ ap (λ (n : ℕ). takes_of b (joined_upto (calls (reader setting b)) n)) lawful.whole ∙ taken b less (local b less)
        ∙ sym (takes_on b (joined_upto (calls (feeder setting b)) N)) ∙ ap (takes_of b) (sym (calls_on b less)) ∙ takes_on b (rounds_of (setting_in setting run) lawful.accepted clocks N)

-- a feed's clock runs
pub feeder_runs : (setting : Setting) (clock_map : ClockMap) → IsSetting setting clock_map → (b : ℕ) → b < length setting.plan.buffers → feeder setting b < clock_map.running
feeder_runs setting clock_map is b less =
    let only = is.plan.one_feed b less in
    let node : ℕ = only.1.0 in
    let there : slice_get setting.plan.sinks only.0 ≡ Some (Feed b node) = only.1.1 in
    let source : fed_in b setting.plan.sinks ≡ node = fed_is b setting.plan.sinks only.0 node there (λ q other at. only.2 q (other, at)) in
    let low = slice_get_within setting.plan.sinks only.0 (Feed b node) there in
    let among : Contains setting.plan.sinks (Feed b node) = (only.0, low, get_or_from_slice_get setting.plan.sinks only.0 (Feed b node) (Feed b node) there) in
    let runs = sinks setting.plan clock_map (Feed b node) is.plan is.map among in
    let inside : node < length setting.plan.nodes = All-contains (λ (s : SinkPlan). sink_node s < length setting.plan.nodes) setting.plan.sinks (Feed b node) is.plan.sinks among in
    let place : clock_of setting node ≡ Main runs.0 = some_inj (sym (clock_there setting clock_map is node inside) ∙ runs.2) in
    let main : feeder setting b ≡ runs.0 = ap (main_of setting) source ∙ ap (main_within setting (length setting.plan.nodes)) place in
    let run = runs.1 in omega (arith, main, run)

pub lawful_is_rounds : (setting : Setting) (clock_map : ClockMap) → IsSetting setting clock_map → (W N : ℕ) (run : Run) → HasNoJoin setting clock_map.running → AreWindows setting clock_map.running W N run
    → IsRounds setting clock_map.running N (merged run)
lawful_is_rounds setting clock_map is W N run local lawful = lawful_rounds setting clock_map is clock_map.running W N run local (feeder_runs setting clock_map is) lawful

-- the bytes of threads are those of one thread where no buffer joins two clocks
pub as_on_one_thread : (setting : Setting) (clock_map : ClockMap) → IsSetting setting clock_map → (W N : ℕ) (run other : Run) → HasNoJoin setting clock_map.running → AreWindows setting clock_map.running W N run
    → IsRounds setting clock_map.running N other → IsAsOnOneThread setting run other
as_on_one_thread setting clock_map is W N run other local lawful rounds = record {
  same_record = same;
  same_bytes = λ wide i t. ap (λ (s : Setting). ticks_bytes s wide i t) settings;
  same_gaps = λ i t. ap (λ (s : Setting). gaps s i t) settings;
  same_cues = λ i t. ap (λ (s : Setting). cues s i t) settings;
}
  where
    same : merged run ≡ other
    same = rounds_are_one setting clock_map is clock_map.running N (merged run) other (lawful_is_rounds setting clock_map is W N run local lawful) rounds

    settings : setting_in setting run ≡ setting_in setting other
    settings = sym (merged_setting setting run) ∙ ap (setting_in setting) same
