-- The plan of a script is well formed, and each of its sources has a call that made it.
use Rattle.std.proofs.Common.{◌≡◌, ℕ, zero, suc, ◌+◌, ◌≤◌, List, [], Bool, true, false, Option, Some, None, Result, Ok, Err, inl, inr, length, take, refl, sym, ap, ◌∙◌, subst, arith, nat_le, ◌&&◌, ℤ}
use Rattle.std.specs.Prelude.{pos, int_le, slice_get}
use Rattle.std.proofs.lemmas.List.{length-take}
use Rattle.std.proofs.lemmas.Option.{slice_get_cases, slice_get_within}
use Rattle.std.specs.List.{list_any}
use Rattle.liq_base.specs.declared.limits.TheConstants.{MAX_FRAME, MAX_CALLS, MAX_WORK}
use Rattle.fixed_text.specs.Texts.{samples_in}
use Rattle.plan_core.specs.declared.node.Node.{Node}
use Rattle.plan_core.specs.declared.plan.Plan.{Plan}
use Rattle.plan_core.specs.Plans.{IsWellFormed, is_output}
use Rattle.script_grammar.specs.Tree.{Tree, Many, none, more, AStmt, APart, Stmt, Script}
use Rattle.typing_rules.specs.declared.uses.Use.{Use}
use Rattle.script_values.specs.declared.fault.Stop.{Stop}
use Rattle.script_values.specs.declared.fault.Stop.TheVariants.{TooMuchWork}
use Rattle.script_values.specs.declared.fault.EvalFault.TheVariants as told
use Rattle.script_values.specs.declared.machine.Machine.{Machine}
use Rattle.script_values.specs.Machines.{count_work, filled, first_machine, noted_by}
use Rattle.script_values.specs.Outcomes.{Outcome, ascribed}
use Rattle.script_values.specs.Slots.{SlotValue}
use Rattle.script_values.specs.Values.{Value}
use Rattle.script_values.proofs.Noting.{filled_length}
use Rattle.builtin_calls.specs.Builtins.{builtin}
use Rattle.builtin_calls.specs.Sound.{IsSound, Keeps}
use Rattle.builtin_calls.proofs.Keeping.{call_keeps, first_sound}
use Rattle.eval_meaning.specs.Calls.{is_setting}
use Rattle.eval_meaning.specs.Keeping.{IsKept, HoldsBehind, Leaves}
use Rattle.eval_meaning.specs.Scripts.{Ending, and_then, closed, settings_ended, evaluation, sources, sources_of, ending_in, numbered, plan_of, ran, settings_settled, statement, statements, tick_of, top_scope, turned}
use Rattle.eval_meaning.proofs.KeepingEvaluations.{calls_keep, statement_keeps}

-- a state that is sound, with a call of each source
record IsNoted (m : Machine) : Type 0 where
  pub sound : IsSound m
  pub calls : length m.calls ≡ length m.plan.nodes

-- no node is lost
no_fewer : (before after : List Node) → ((i : ℕ) (node : Node) → slice_get before i ≡ Some node → slice_get after i ≡ Some node) → length before ≤ length after
no_fewer before after stay = by_length (length before) refl where
  last_stays : (n : ℕ) → length before ≡ suc n → suc n ≤ length after
  last_stays n long =
      elim (slice_get_cases before n).1 [
        | inl last ↦ (let there = slice_get_within after n last.0 (stay n last.0 last.2) in omega (arith, there))
        | inr past ↦ absurd (omega (arith, long, past.0))
      ]

  by_length : (n : ℕ) → length before ≡ n → length before ≤ length after
  by_length zero long = omega (arith, long)
  by_length (suc n) long = (let low = last_stays n long in omega (arith, long, low))

-- what lies behind a call that made no fewer sources than there were
noted_calls : (at before : ℕ) (m : Machine) → length (take before m.calls) ≤ length m.plan.nodes → length (filled at (length m.plan.nodes) (take before m.calls)) ≡ length m.plan.nodes
noted_calls at before m few = filled_length at (length m.plan.nodes) (take before m.calls) few

noted_sound : (at before : ℕ) (m : Machine) → IsSound m → IsSound (noted_by at before m)
noted_sound at before m is = record { well_formed = is.well_formed; outputs = is.outputs; feeds = is.feeds }

noted_by_call : (at : ℕ) (m : Machine) (r : Outcome) → ((x : Value × Machine) → r ≡ Ok x → Keeps m x.1) → IsNoted m → HoldsBehind IsNoted (ascribed at m r)
noted_by_call at m (Ok x) keeps is =
    let here : Keeps m x.1 = keeps x refl in
    let more = no_fewer m.plan.nodes x.1.plan.nodes here.nodes in
    let short = length-take (length m.plan.nodes) x.1.calls in
    record { sound = noted_sound at (length m.plan.nodes) x.1 (here.sound is.sound); calls = noted_calls at (length m.plan.nodes) x.1 (omega (arith, more, short)) }
noted_by_call at m (Err e) keeps is = tt

counted_by : (b : Bool) (n : ℕ) (m : Machine) → IsNoted m → Leaves IsNoted (elim b [ true ↦ Ok (record m { work = m.work + n }) | false ↦ Err TooMuchWork ])
counted_by true n m is = record { sound = record { well_formed = is.sound.well_formed; outputs = is.sound.outputs; feeds = is.sound.feeds }; calls = is.calls }
counted_by false n m is = tt

counting_noted : (n : ℕ) (m : Machine) → IsNoted m → Leaves IsNoted (count_work n m)
unfolding count_work
counting_noted n m is = counted_by (nat_le (m.work + n) MAX_WORK) n m is

noted_is_kept : IsKept IsNoted
noted_is_kept = record {
  counts = counting_noted;
  builtins = λ b at kinds given m is. noted_by_call at m (builtin b at kinds given m) (λ x same. call_keeps b at kinds given m x same) is;
  notes = λ at before m is. record {
    sound = noted_sound at before m is.sound;
    calls = noted_calls at before m (let short = length-take before m.calls in omega (arith, short, is.calls));
  };
}

-- ---- the end of the settings

le_of : (a b : ℕ) → nat_le a b ≡ true → a ≤ b
le_of a b is = grind arith

by_tests : (a b c : Bool) (n frame : ℕ) → (b ≡ true → 1 ≤ n) → (c ≡ true → n ≤ MAX_FRAME) → (elim (a && (b && c)) [ true ↦ Some n | false ↦ None ]) ≡ Some frame → (1 ≤ frame) × (frame ≤ MAX_FRAME)
by_tests true true true n frame low high is =
    let same : n ≡ frame = cc in
    (subst (λ (k : ℕ). 1 ≤ k) same (low refl), subst (λ (k : ℕ). k ≤ MAX_FRAME) same (high refl))
by_tests true true false n frame low high is = absurd cc
by_tests true false c n frame low high is = absurd cc
by_tests false b c n frame low high is = absurd cc

ticked : (duration : ℤ) (rate frame : ℕ) → tick_of duration rate ≡ Some frame → (1 ≤ frame) × (frame ≤ MAX_FRAME)
ticked duration rate frame is =
    by_tests (int_le (pos 0) duration) (nat_le 1 (samples_in duration rate)) (nat_le (samples_in duration rate) MAX_FRAME) (samples_in duration rate) frame
    (le_of 1 (samples_in duration rate)) (le_of (samples_in duration rate) MAX_FRAME) is

framed : (plan : Plan) (frame : ℕ) → (1 ≤ frame) × (frame ≤ MAX_FRAME) → IsWellFormed plan → IsWellFormed (record plan { frame = frame })
framed plan frame range is = record {
  rate = is.rate;
  frame = range;
  few_nodes = is.few_nodes;
  few_sinks = is.few_sinks;
  nodes = is.nodes;
  sinks = is.sinks;
  buffers = is.buffers;
  fed = is.fed;
  read = is.read;
  one_feed = is.one_feed;
  one_reader = is.one_reader;
  readers = is.readers;
}

closed_noted : (m : Machine) (o : Option ℕ) → ((frame : ℕ) → o ≡ Some frame → (1 ≤ frame) × (frame ≤ MAX_FRAME)) → IsNoted m → Leaves IsNoted (closed m o)
closed_noted m (Some frame) range is = record { sound = record { well_formed = framed m.plan frame (range frame refl) is.sound.well_formed; outputs = is.sound.outputs; feeds = is.sound.feeds }; calls = is.calls }
closed_noted m None range is = tt

ended_noted : (m : Machine) → IsNoted m → Leaves IsNoted (settings_ended m)
unfolding settings_ended
ended_noted m is = closed_noted m (tick_of m.settings.duration.millionths m.plan.rate) (λ frame same. ticked m.settings.duration.millionths m.plan.rate frame same) is

open_noted : (allowed : Bool) (m : Machine) → IsNoted m → Leaves IsNoted (elim allowed [ true ↦ settings_ended m | false ↦ Ok m ])
open_noted true m is = ended_noted m is
open_noted false m is = is

settled_noted : (setting : Bool) (m : Machine) → IsNoted m → Leaves IsNoted (settings_settled setting m)
settled_noted true m is = is
settled_noted false m is = open_noted m.settings.allowed m is

numbered_noted : (n : ℕ) (m : Machine) → IsNoted m → IsNoted (numbered n m)
numbered_noted n m is = record { sound = record { well_formed = is.sound.well_formed; outputs = is.sound.outputs; feeds = is.sound.feeds }; calls = is.calls }

-- ---- the statements

then_keeps : {A : Type 0} (r : Result Machine Ending) (f : Machine → Result (A × Machine) Ending) → Leaves IsNoted r → ((m : Machine) → IsNoted m → HoldsBehind IsNoted (f m)) → HoldsBehind IsNoted (and_then r f)
then_keeps (Ok m) f is later = later m is
then_keeps (Err e) f is later = tt

then_leaves : {A : Type 0} (r : Result (A × Machine) Ending) (f : A × Machine → Result Machine Ending) → HoldsBehind IsNoted r → ((x : A × Machine) → IsNoted x.1 → Leaves IsNoted (f x)) → Leaves IsNoted (and_then r f)
then_leaves (Ok x) f is later = later x is
then_leaves (Err e) f is later = tt

in_keeps : {A : Type 0} (n : ℕ) (r : Result (A × Machine) Stop) → HoldsBehind IsNoted r → HoldsBehind IsNoted (ending_in n r)
in_keeps n (Ok x) is = is
in_keeps n (Err e) is = tt

turned_noted : (script : Script) (uses : List Use) (part : Tree APart) (n : ℕ) (slots : List SlotValue) (m : Machine) → IsNoted m → HoldsBehind IsNoted (turned script uses part n slots m)
unfolding turned
turned_noted script uses part n slots m is =
    then_keeps (settings_settled (is_setting uses part) m) (λ b. ending_in n (statement (top_scope script uses slots) part slots (numbered n b))) (settled_noted (is_setting uses part) m is) (λ b held.
    in_keeps n (statement (top_scope script uses slots) part slots (numbered n b))
    (statement_keeps noted_is_kept (top_scope script uses slots) (λ t kinds given k kept. calls_keep noted_is_kept (record { script = script; uses = uses; globals = slots }) MAX_CALLS t kinds given k kept) part slots (numbered n b) (numbered_noted n b held)))

statements_noted : (script : Script) (uses : List Use) (rest : Tree (Many AStmt)) (n : ℕ) (slots : List SlotValue) (m : Machine) → IsNoted m → Leaves IsNoted (statements script uses rest n slots m)
unfolding statements
statements_noted script uses none n slots m is = settled_noted false m is
statements_noted script uses (more (Stmt part semicolon) rest) n slots m is =
    then_leaves (turned script uses part (n + 1) slots m) (λ x. statements script uses rest (n + 1) x.0 x.1) (turned_noted script uses part (n + 1) slots m is) (λ x held. statements_noted script uses rest (n + 1) x.0 x.1 held)

by_output : (b : Bool) (m : Machine) (plan : Plan) → ◌≡◌ {A = Result Plan Ending} (elim b [ true ↦ Ok m.plan | false ↦ Err (Some told.NoOutput) ]) (Ok plan) → m.plan ≡ plan
by_output true m plan same = cc
by_output false m plan same = absurd cc

by_end : (r : Result Machine Ending) (plan : Plan) → Leaves IsNoted r → and_then r plan_of ≡ Ok plan → IsWellFormed plan
by_end (Ok m) plan is same = subst (λ (p : Plan). IsWellFormed p) (by_output (list_any is_output m.plan.sinks) m plan same) is.sound.well_formed
by_end (Err e) plan is same = absurd cc

with_calls : (r : Result Plan Ending) (m : Machine) (plan : Plan) (calls : List ℕ) → and_then {B = Plan × List ℕ} r (λ p. Ok (p, m.calls)) ≡ Ok (plan, calls) → (r ≡ Ok plan) × (m.calls ≡ calls)
with_calls (Ok p) m plan calls is =
    let same : ◌≡◌ {A = Plan × List ℕ} (p, m.calls) (plan, calls) = cc in
    (ap Ok (ap (λ (x : Plan × List ℕ). x.0) same), ap (λ (x : Plan × List ℕ). x.1) same)
with_calls (Err e) m plan calls is = absurd cc

by_sources : (r : Result Machine Ending) (plan : Plan) (calls : List ℕ) → Leaves IsNoted r → and_then r sources_of ≡ Ok (plan, calls) → length calls ≡ length plan.nodes
by_sources (Ok m) plan calls is same =
    let found = with_calls (plan_of m) m plan calls same in
    let own = by_output (list_any is_output m.plan.sinks) m plan found.0 in
    ap length (sym found.1) ∙ is.calls ∙ ap (λ (p : Plan). length p.nodes) own
by_sources (Err e) plan calls is same = absurd cc

ran_noted : (script : Script) (uses : List Use) → Leaves IsNoted (ran script uses)
ran_noted script uses = statements_noted script uses script 0 [] first_machine (record { sound = first_sound; calls = refl })

pub plan_is_well_formed : (script : Script) (uses : List Use) (plan : Plan) → evaluation script uses ≡ Ok plan → IsWellFormed plan
plan_is_well_formed script uses plan is = by_end (ran script uses) plan (ran_noted script uses) is

pub each_has_a_call : (script : Script) (uses : List Use) (plan : Plan) (calls : List ℕ) → sources script uses ≡ Ok (plan, calls) → length calls ≡ length plan.nodes
each_has_a_call script uses plan calls is = by_sources (ran script uses) plan calls (ran_noted script uses) is
