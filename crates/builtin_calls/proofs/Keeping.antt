-- Each builtin call keeps what is sound.
use Rattle.std.proofs.Common.{◌≡◌, ℕ, ◌+◌, ◌≤◌, List, [], ◌∷◌, length, Bool, true, false, Result, Ok, Err, refl, ap, ◌∙◌, subst, arith, pos, nat_le, nat_eq}
use Rattle.std.specs.Prelude.{slice_get, count_by, Some, ◌<ℤ◌, ◌≤ℤ◌, ◌&&◌, ℤ, int_le, unsigned_abs, bytes_eq, codes, max, All}
use Rattle.std.proofs.lemmas.Int.{ints}
use Rattle.liq_base.specs.declared.limits.TheConstants.{MAX_CHILDREN, MAX_OUTPUTS, MAX_OVERLAP, MAX_PREFILL, MAX_CAPACITY, MAX_CROSSFADES, MIN_RATE, MAX_RATE, MAX_WORK}
use Rattle.liq_base.specs.declared.memory.Kind.{Kind}
use Rattle.liq_base.specs.declared.memory.Kind.TheVariants.{Mono}
use Rattle.fixed_text.specs.declared.decimal.Decimal.{Decimal}
use Rattle.fixed_text.specs.Texts.{samples_in}
use Rattle.plan_core.specs.declared.node.Op.{Op}
use Rattle.plan_core.specs.declared.node.Op.TheVariants as op
use Rattle.plan_core.specs.declared.plan.Plan.{Plan}
use Rattle.plan_core.specs.declared.sink.BufferPlan.{BufferPlan}
use Rattle.time_pred.specs.Predicates.{Predicate}
use Rattle.plan_core.specs.declared.node.Node.{Node}
use Rattle.plan_core.specs.Plans.{HasChildren, HasKind, IsInRange, IsNoReader, IsBuffer, IsWellFormed, is_output}
use Rattle.plan_core.proofs.Grown.{empty_keeps}
use Rattle.typing_rules.specs.declared.uses.Builtin.{Builtin}
use Rattle.typing_rules.specs.declared.uses.Builtin.TheVariants as builtins
use Rattle.script_values.specs.declared.fault.Stop.{Stop}
use Rattle.script_values.specs.declared.fault.Stop.TheVariants.{BadValue, BadSetting, TooMuchWork}
use Rattle.script_values.specs.declared.fault.Limit.TheVariants.{Crossfades, Overlap, Prefill, Capacity}
use Rattle.script_values.specs.declared.machine.Machine.{Machine}
use Rattle.script_values.specs.Machines.{some_millionths, first_machine, count_work}
use Rattle.script_values.specs.Outcomes.{◌>>=◌}
use Rattle.script_values.specs.Slots.{Argument}
use Rattle.script_values.specs.Values.{Value, Int, Number, TextValue, TruthValue, UnitValue, FormatValue, PredValue, Source, ListValue, TupleValue}
use Rattle.builtin_calls.specs.Parts.{one_kind, plain_argument, plain_text, plain_decimal, plain_format, plain_source, plain_sources, plain_pairs, bool_or, int_or, text_or, decimal_or}
use Rattle.builtin_calls.specs.Nodes.{at_most, few, crossfades_with, add, push, add_buffer}
use Rattle.builtin_calls.specs.Times.{some_samples, overlap_samples, track_of, samples_of, pitch_of, chunks}
use Rattle.builtin_calls.specs.Sinks.{add_output}
use Rattle.builtin_calls.specs.Settings.{settings_opened, rate_of, duration_of, set_rate, set_duration, setting}
use Rattle.builtin_calls.specs.Builtins.{node, is_normal, builtin, sensitive_or, few_sources, few_pairs, over_sources, seed_of, buffer_plan, short_overlap, safe, output_file, set, single, playlist, blank, square, fail, fallback, switch, random, add_sources, amplify, mean, stereo, crossfade, mksafe, buffer, clock}
use Rattle.builtin_calls.specs.Sound.{IsSound, Keeps}
use Rattle.builtin_calls.proofs.Reading.{after, ok_is, IsSource, ArePairs, a_source, some_sources, some_pairs}
use Rattle.builtin_calls.proofs.Adding.{keeps_itself, then_keeps, within, few_are, leaf_over, one_over, two_over, list_over, pushed, added, pushed_source, kept_source, buffered, put_output}

few_sources_are : (nodes : List Node) (k : Kind) (given : List Argument) (ns : List ℕ) → few_sources nodes k given ≡ Ok ns → All (IsSource nodes k) ns × (length ns ≤ MAX_CHILDREN)
unfolding few_sources
few_sources_are nodes k given ns is =
    let step0 = after (plain_sources nodes k given) (λ sources. few sources.0) ns is in
    let short = few_are step0.0.0 ns step0.2 in
    (subst (All (IsSource nodes k)) short.0 (some_sources nodes k given step0.0 step0.1), short.1)

few_pairs_are : (nodes : List Node) (k : Kind) (given : List Argument) (x : List Predicate × List ℕ) → few_pairs nodes k given ≡ Ok x → ArePairs nodes k x.0 x.1 × (length x.1 ≤ MAX_CHILDREN)
unfolding few_pairs
few_pairs_are nodes k given x is =
    let step0 = after (plain_pairs nodes k given) (λ pairs. few pairs.0.1 >>= λ children. Ok (pairs.0.0, children)) x is in
    let pairs = step0.0 in
    let step1 = after (few pairs.0.1) (λ children. Ok (pairs.0.0, children)) x step0.2 in
    let children = step1.0 in
    let short = few_are pairs.0.1 children step1.1 in
    let both = ok_is (pairs.0.0, children) x step1.2 in
    let are = some_pairs nodes k given pairs step0.1 in
    let first : pairs.0.0 ≡ x.0 = ap (λ (y : List Predicate × List ℕ). y.0) both in
    let last : children ≡ x.1 = ap (λ (y : List Predicate × List ℕ). y.1) both in
    (subst (λ (l : List Predicate). ArePairs nodes k l x.1) first (subst (λ (l : List ℕ). ArePairs nodes k pairs.0.0 l) (short.0 ∙ last) are), subst (λ (l : List ℕ). length l ≤ MAX_CHILDREN) last short.1)

above_by : (b : Bool) (at : ℕ) (d e : Decimal) → int_le d.millionths (pos 0) ≡ b → ◌≡◌ {A = Result Decimal Stop} (elim b [ true ↦ Err (BadValue at) | false ↦ Ok d ]) (Ok e) → pos 0 <ℤ e.millionths
above_by true at d e test is = absurd cc
above_by false at d e test is =
    let above : pos 0 <ℤ d.millionths = grind (arith, ints) in
    let same = ok_is d e is in
    subst (λ (c : Decimal). pos 0 <ℤ c.millionths) same above

above_zero : (at : ℕ) (d e : Decimal) → pitch_of at d ≡ Ok e → pos 0 <ℤ e.millionths
unfolding pitch_of
above_zero at d e is = above_by (int_le d.millionths (pos 0)) at d e refl is

some_by : (b : Bool) (at n r : ℕ) → nat_eq n 0 ≡ b → ◌≡◌ {A = Result ℕ Stop} (elim b [ true ↦ Err (BadValue at) | false ↦ Ok n ]) (Ok r) → 1 ≤ r
some_by true at n r test is = absurd cc
some_by false at n r test is =
    let some : 1 ≤ n = grind arith in
    let same = ok_is n r is in
    subst (λ (i : ℕ). 1 ≤ i) same some

overlap_by : (b : Bool) (at n r : ℕ) → ◌≡◌ {A = Result ℕ Stop} (elim b [ true ↦ Err (BadValue at) | false ↦ some_samples at n ]) (Ok r) → 1 ≤ r
overlap_by true at n r is = absurd cc
overlap_by false at n r is = some_by (nat_eq n 0) at n r refl is

some_overlap : (at rate : ℕ) (d : Decimal) (r : ℕ) → overlap_samples at rate d ≡ Ok r → 1 ≤ r
unfolding overlap_samples
some_overlap at rate d r is = overlap_by (int_le d.millionths (pos 0)) at (samples_in d.millionths rate) r is

short_is : (at s : ℕ) (d : Decimal) (p : Plan) (r : ℕ) → short_overlap at s d p ≡ Ok r → (1 ≤ r) × (r ≤ MAX_OVERLAP)
unfolding short_overlap
short_is at s d p r is =
    let step0 = after (overlap_samples at p.rate d) (λ overlap. at_most MAX_CROSSFADES Crossfades (crossfades_with s p) >>= λ crossfades. at_most MAX_OVERLAP Overlap overlap) r is in
    let overlap = step0.0 in
    let step1 = after (at_most MAX_CROSSFADES Crossfades (crossfades_with s p)) (λ crossfades. at_most MAX_OVERLAP Overlap overlap) r step0.2 in
    let some = some_overlap at p.rate d overlap step0.1 in
    let most = within MAX_OVERLAP Overlap overlap r step1.2 in
    let same = most.0 in
    let below = most.1 in
    let least : 1 ≤ r = omega (arith, some, same) in
    let bound : r ≤ MAX_OVERLAP = omega (arith, same, below) in
    (least, bound)

at_least_one : (n : ℕ) → 1 ≤ max 1 n
at_least_one n = omega arith

a_buffer : (at : ℕ) (held most : Decimal) (p : Plan) (b : BufferPlan) → buffer_plan at held most p ≡ Ok b → IsBuffer b
unfolding buffer_plan
a_buffer at held most p b is =
    let step0 = after (samples_of at p.rate held) (λ pre. samples_of at p.rate most >>= λ room. at_most MAX_PREFILL Prefill pre >>= λ prefill. at_most MAX_CAPACITY Capacity (chunks room p.frame) >>= λ capacity. Ok (record { pre = prefill; capacity = capacity })) b is in
    let pre = step0.0 in
    let step1 = after (samples_of at p.rate most) (λ room. at_most MAX_PREFILL Prefill pre >>= λ prefill. at_most MAX_CAPACITY Capacity (chunks room p.frame) >>= λ capacity. Ok (record { pre = prefill; capacity = capacity })) b step0.2 in
    let room = step1.0 in
    let step2 = after (at_most MAX_PREFILL Prefill pre) (λ prefill. at_most MAX_CAPACITY Capacity (chunks room p.frame) >>= λ capacity. Ok (record { pre = prefill; capacity = capacity })) b step1.2 in
    let prefill = step2.0 in
    let step3 = after (at_most MAX_CAPACITY Capacity (chunks room p.frame)) (λ capacity. Ok (record { pre = prefill; capacity = capacity })) b step2.2 in
    let capacity = step3.0 in
    let first = within MAX_PREFILL Prefill pre prefill step2.1 in
    let second = within MAX_CAPACITY Capacity (chunks room p.frame) capacity step3.1 in
    let one : 1 ≤ chunks room p.frame = at_least_one _ in
    let plan : BufferPlan = record { pre = prefill; capacity = capacity } in
    let same = ok_is plan b step3.2 in
    let is_pre = first.0 in
    let below_pre = first.1 in
    let is_capacity = second.0 in
    let below_capacity = second.1 in
    let small : prefill ≤ MAX_PREFILL = omega (arith, is_pre, below_pre) in
    let least : 1 ≤ capacity = omega (arith, one, is_capacity) in
    let bound : capacity ≤ MAX_CAPACITY = omega (arith, is_capacity, below_capacity) in
    subst IsBuffer same (small, least, bound)

opened_by : (b : Bool) (m c : Machine) → ◌≡◌ {A = Result Machine Stop} (elim b [ true ↦ Ok (record m { settings = record m.settings { last = m.settings.statement } }) | false ↦ Err BadSetting ]) (Ok c) → m.plan ≡ c.plan
opened_by true m c is = (let same = ok_is (record m { settings = record m.settings { last = m.settings.statement } }) c is in ap (λ (n : Machine). n.plan) same)
opened_by false m c is = absurd cc

same_plan : (m n : Machine) → m.plan ≡ n.plan → Keeps m n
same_plan m n is = record {
  sound = λ s. record {
    well_formed = subst IsWellFormed is s.well_formed;
    outputs = subst (λ (p : _). count_by is_output p.sinks ≤ MAX_OUTPUTS) is s.outputs;
    feeds = subst (λ (p : _). length p.sinks ≤ count_by is_output p.sinks + length p.nodes) is s.feeds;
  };
  nodes = λ i one there. subst (λ (p : _). slice_get p.nodes i ≡ Some one) is there;
}

rate_by : (b : Bool) (n : ℤ) (r : ℕ) → (int_le (pos MIN_RATE) n && int_le n (pos MAX_RATE)) ≡ b → ◌≡◌ {A = Result ℕ Stop} (elim b [ true ↦ Ok (unsigned_abs n) | false ↦ Err BadSetting ]) (Ok r) → (MIN_RATE ≤ r) × (r ≤ MAX_RATE)
rate_by true n r test is =
    let same = ok_is (unsigned_abs n) r is in
    let low : pos MIN_RATE ≤ℤ n = grind (arith, ints) in
    let high : n ≤ℤ pos MAX_RATE = grind (arith, ints) in
    (omega (arith, ints), omega (arith, ints))
rate_by false n r test is = absurd cc

rate_is : (v : Value) (r : ℕ) → rate_of v ≡ Ok r → (MIN_RATE ≤ r) × (r ≤ MAX_RATE)
unfolding rate_of
rate_is (Int n) r is = rate_by (int_le (pos MIN_RATE) n && int_le n (pos MAX_RATE)) n r refl is
rate_is (Number d) r is = absurd cc
rate_is (TextValue t) r is = absurd cc
rate_is (TruthValue b) r is = absurd cc
rate_is UnitValue r is = absurd cc
rate_is (FormatValue wide) r is = absurd cc
rate_is (PredValue p) r is = absurd cc
rate_is (Source i) r is = absurd cc
rate_is (ListValue vs) r is = absurd cc
rate_is (TupleValue vs) r is = absurd cc

-- another rate in range
other_rate : (m : Machine) (r : ℕ) → (MIN_RATE ≤ r) × (r ≤ MAX_RATE) → Keeps m (record m { plan = record m.plan { rate = r } })
other_rate m r within_range = record {
  sound = λ s. record {
    well_formed = record {
      rate = within_range;
      frame = s.well_formed.frame;
      few_nodes = s.well_formed.few_nodes;
      few_sinks = s.well_formed.few_sinks;
      nodes = s.well_formed.nodes;
      sinks = s.well_formed.sinks;
      buffers = s.well_formed.buffers;
      fed = s.well_formed.fed;
      read = s.well_formed.read;
      one_feed = s.well_formed.one_feed;
      one_reader = s.well_formed.one_reader;
      readers = s.well_formed.readers;
    };
    outputs = s.outputs;
    feeds = s.feeds;
  };
  nodes = λ i one there. there;
}

set_rate_keeps : (v : Value) (m : Machine) (x : Value × Machine) → set_rate v m ≡ Ok x → Keeps m x.1
unfolding set_rate
set_rate_keeps v m x is =
    let step0 = after (settings_opened m) (λ c. rate_of v >>= λ rate. Ok (UnitValue, record c { plan = record c.plan { rate = rate } })) x is in
    let c = step0.0 in
    let step1 = after (rate_of v) (λ rate. Ok (UnitValue, record c { plan = record c.plan { rate = rate } })) x step0.2 in
    let rate = step1.0 in
    let state : record c { plan = record c.plan { rate = rate } } ≡ x.1 = ap (λ (y : Value × Machine). y.1) (ok_is (UnitValue, record c { plan = record c.plan { rate = rate } }) x step1.2) in
    let first = same_plan m c (opened_by m.settings.allowed m c step0.1) in
    let second = other_rate c rate (rate_is v rate step1.1) in
    subst (Keeps m) state (then_keeps m c (record c { plan = record c.plan { rate = rate } }) first second)

set_duration_keeps : (v : Value) (m : Machine) (x : Value × Machine) → set_duration v m ≡ Ok x → Keeps m x.1
unfolding set_duration
set_duration_keeps v m x is =
    let step0 = after (settings_opened m) (λ c. duration_of v >>= λ d. Ok (UnitValue, record c { settings = record c.settings { duration = d } })) x is in
    let c = step0.0 in
    let step1 = after (duration_of v) (λ d. Ok (UnitValue, record c { settings = record c.settings { duration = d } })) x step0.2 in
    let d = step1.0 in
    let state : record c { settings = record c.settings { duration = d } } ≡ x.1 = ap (λ (y : Value × Machine). y.1) (ok_is (UnitValue, record c { settings = record c.settings { duration = d } }) x step1.2) in
    same_plan m x.1 (opened_by m.settings.allowed m c step0.1 ∙ ap (λ (n : Machine). n.plan) state)

setting_by : (s t : Bool) (v : Value) (m : Machine) (x : Value × Machine) → ◌≡◌ {A = Result (Value × Machine) Stop} (elim s [ true ↦ set_rate v m | false ↦ elim t [ true ↦ set_duration v m | false ↦ Ok (UnitValue, m) ] ]) (Ok x) → Keeps m x.1
setting_by true t v m x is = set_rate_keeps v m x is
setting_by false true v m x is = set_duration_keeps v m x is
setting_by false false v m x is = (let state : m ≡ x.1 = ap (λ (y : Value × Machine). y.1) (ok_is (UnitValue, m) x is) in subst (Keeps m) state (keeps_itself m))

setting_keeps : (key : List ℕ) (v : Value) (m : Machine) (x : Value × Machine) → setting key v m ≡ Ok x → Keeps m x.1
unfolding setting
setting_keeps key v m x is = setting_by (bytes_eq key (codes "frame.audio.samplerate")) (bytes_eq key (codes "frame.duration")) v m x is

single_keeps : (kinds : List Kind) (given : List Argument) (m : Machine) (x : Value × Machine) → single kinds given m ≡ Ok x → Keeps m x.1
unfolding single
single_keeps kinds given m x is =
    let step0 = after (plain_text given) (λ file. one_kind kinds >>= λ k. add (node (op.Single file.0) k []) m) x is in
    let file = step0.0 in
    let step1 = after (one_kind kinds) (λ k. add (node (op.Single file.0) k []) m) x step0.2 in
    let k = step1.0 in
    added (node (op.Single file.0) k []) m x step1.2 (leaf_over m.plan.nodes (op.Single file.0) k refl refl tt) (λ b e. cc)

playlist_keeps : (at : ℕ) (kinds : List Kind) (given : List Argument) (m : Machine) (x : Value × Machine) → playlist at kinds given m ≡ Ok x → Keeps m x.1
unfolding playlist
playlist_keeps at kinds given m x is =
    let step0 = after (bool_or (codes "loop") true given) (λ again. text_or (codes "mode") (codes "normal") again.1 >>= λ mode. plain_text mode.1 >>= λ file. one_kind kinds >>= λ k. is_normal at mode.0 >>= λ normal. add (node (op.Playlist file.0 again.0) k []) m) x is in
    let again = step0.0 in
    let step1 = after (text_or (codes "mode") (codes "normal") again.1) (λ mode. plain_text mode.1 >>= λ file. one_kind kinds >>= λ k. is_normal at mode.0 >>= λ normal. add (node (op.Playlist file.0 again.0) k []) m) x step0.2 in
    let mode = step1.0 in
    let step2 = after (plain_text mode.1) (λ file. one_kind kinds >>= λ k. is_normal at mode.0 >>= λ normal. add (node (op.Playlist file.0 again.0) k []) m) x step1.2 in
    let file = step2.0 in
    let step3 = after (one_kind kinds) (λ k. is_normal at mode.0 >>= λ normal. add (node (op.Playlist file.0 again.0) k []) m) x step2.2 in
    let k = step3.0 in
    let step4 = after (is_normal at mode.0) (λ normal. add (node (op.Playlist file.0 again.0) k []) m) x step3.2 in
    let normal = step4.0 in
    added (node (op.Playlist file.0 again.0) k []) m x step4.2 (leaf_over m.plan.nodes (op.Playlist file.0 again.0) k refl refl tt) (λ b e. cc)

blank_keeps : (at : ℕ) (kinds : List Kind) (given : List Argument) (m : Machine) (x : Value × Machine) → blank at kinds given m ≡ Ok x → Keeps m x.1
unfolding blank
blank_keeps at kinds given m x is =
    let step0 = after (decimal_or (codes "duration") (some_millionths 0 tt) given) (λ duration. one_kind kinds >>= λ k. track_of at m.plan.rate duration.0 >>= λ track. add (node (op.Blank track) k []) m) x is in
    let duration = step0.0 in
    let step1 = after (one_kind kinds) (λ k. track_of at m.plan.rate duration.0 >>= λ track. add (node (op.Blank track) k []) m) x step0.2 in
    let k = step1.0 in
    let step2 = after (track_of at m.plan.rate duration.0) (λ track. add (node (op.Blank track) k []) m) x step1.2 in
    let track = step2.0 in
    added (node (op.Blank track) k []) m x step2.2 (leaf_over m.plan.nodes (op.Blank track) k refl refl tt) (λ b e. cc)

square_keeps : (at : ℕ) (kinds : List Kind) (given : List Argument) (m : Machine) (x : Value × Machine) → square at kinds given m ≡ Ok x → Keeps m x.1
unfolding square
square_keeps at kinds given m x is =
    let step0 = after (plain_decimal given) (λ f. one_kind kinds >>= λ k. pitch_of at f.0 >>= λ pitch. add (node (op.Square pitch) k []) m) x is in
    let f = step0.0 in
    let step1 = after (one_kind kinds) (λ k. pitch_of at f.0 >>= λ pitch. add (node (op.Square pitch) k []) m) x step0.2 in
    let k = step1.0 in
    let step2 = after (pitch_of at f.0) (λ pitch. add (node (op.Square pitch) k []) m) x step1.2 in
    let pitch = step2.0 in
    added (node (op.Square pitch) k []) m x step2.2 (leaf_over m.plan.nodes (op.Square pitch) k refl refl (above_zero at f.0 pitch step2.1)) (λ b e. cc)

fail_keeps : (kinds : List Kind) (m : Machine) (x : Value × Machine) → fail kinds m ≡ Ok x → Keeps m x.1
unfolding fail
fail_keeps kinds m x is =
    let step0 = after (one_kind kinds) (λ k. add (node op.Fail k []) m) x is in
    let k = step0.0 in
    added (node (op.Fail) k []) m x step0.2 (leaf_over m.plan.nodes (op.Fail) k refl refl tt) (λ b e. cc)

-- a node of an operator that takes any number of sources of its own kind, over a list of sources
over_sources_keep : (o : Op) → ((n : ℕ) → HasChildren o n) → ((k : Kind) → HasKind o k k) → IsInRange o → IsNoReader o
    → (kinds : List Kind) (given : List Argument) (m : Machine) (x : Value × Machine) → over_sources o kinds given m ≡ Ok x → Keeps m x.1
unfolding over_sources
over_sources_keep o number kind range reader kinds given m x is =
    let step0 = after (one_kind kinds) (λ k. few_sources m.plan.nodes k given >>= λ children. add (node o k children) m) x is in
    let k = step0.0 in
    let step1 = after (few_sources m.plan.nodes k given) (λ children. add (node o k children) m) x step0.2 in
    let children = step1.0 in
    let are = few_sources_are m.plan.nodes k given children step1.1 in
    added (node o k children) m x step1.2 (list_over m.plan.nodes o k k children are.0 are.1 (number (length children)) (kind k) range) reader

fallback_keeps : (kinds : List Kind) (given : List Argument) (m : Machine) (x : Value × Machine) → fallback kinds given m ≡ Ok x → Keeps m x.1
unfolding fallback
fallback_keeps kinds given m x is =
    let step = after (sensitive_or given) (λ sensitive. over_sources (op.Fallback sensitive.0) kinds sensitive.1 m) x is in
    over_sources_keep (op.Fallback step.0.0) (λ n. tt) (λ k. refl) tt (λ b e. cc) kinds step.0.1 m x step.2

switch_keeps : (kinds : List Kind) (given : List Argument) (m : Machine) (x : Value × Machine) → switch kinds given m ≡ Ok x → Keeps m x.1
unfolding switch
switch_keeps kinds given m x is =
    let step0 = after (sensitive_or given) (λ sensitive. one_kind kinds >>= λ k. few_pairs m.plan.nodes k sensitive.1 >>= λ pairs. add (node (op.Switch sensitive.0 pairs.0) k pairs.1) m) x is in
    let sensitive = step0.0 in
    let step1 = after (one_kind kinds) (λ k. few_pairs m.plan.nodes k sensitive.1 >>= λ pairs. add (node (op.Switch sensitive.0 pairs.0) k pairs.1) m) x step0.2 in
    let k = step1.0 in
    let step2 = after (few_pairs m.plan.nodes k sensitive.1) (λ pairs. add (node (op.Switch sensitive.0 pairs.0) k pairs.1) m) x step1.2 in
    let pairs = step2.0 in
    let are = few_pairs_are m.plan.nodes k sensitive.1 pairs step2.1 in
    added (node (op.Switch sensitive.0 pairs.0) k pairs.1) m x step2.2 (list_over m.plan.nodes (op.Switch sensitive.0 pairs.0) k k pairs.1 are.0.sources are.1 are.0.many refl tt) (λ b e. cc)

random_keeps : (at : ℕ) (kinds : List Kind) (given : List Argument) (m : Machine) (x : Value × Machine) → random at kinds given m ≡ Ok x → Keeps m x.1
unfolding random
random_keeps at kinds given m x is =
    let step0 = after (int_or (codes "seed") (pos 0) given) (λ number. one_kind kinds >>= λ k. plain_sources m.plan.nodes k number.1 >>= λ sources. seed_of at number.0 >>= λ seed. few sources.0 >>= λ children. add (node (op.Random seed) k children) m) x is in
    let number = step0.0 in
    let step1 = after (one_kind kinds) (λ k. plain_sources m.plan.nodes k number.1 >>= λ sources. seed_of at number.0 >>= λ seed. few sources.0 >>= λ children. add (node (op.Random seed) k children) m) x step0.2 in
    let k = step1.0 in
    let step2 = after (plain_sources m.plan.nodes k number.1) (λ sources. seed_of at number.0 >>= λ seed. few sources.0 >>= λ children. add (node (op.Random seed) k children) m) x step1.2 in
    let sources = step2.0 in
    let step3 = after (seed_of at number.0) (λ seed. few sources.0 >>= λ children. add (node (op.Random seed) k children) m) x step2.2 in
    let seed = step3.0 in
    let step4 = after (few sources.0) (λ children. add (node (op.Random seed) k children) m) x step3.2 in
    let children = step4.0 in
    let short = few_are sources.0 children step4.1 in
    let are = subst (All (IsSource m.plan.nodes k)) short.0 (some_sources m.plan.nodes k number.1 sources step2.1) in
    added (node (op.Random seed) k children) m x step4.2 (list_over m.plan.nodes (op.Random seed) k k children are short.1 tt refl tt) (λ b e. cc)

sum_keeps : (kinds : List Kind) (given : List Argument) (m : Machine) (x : Value × Machine) → add_sources kinds given m ≡ Ok x → Keeps m x.1
unfolding add_sources
sum_keeps kinds given m x is =
    let step = after (bool_or (codes "normalize") true given) (λ normalize. over_sources (op.Add normalize.0) kinds normalize.1 m) x is in
    over_sources_keep (op.Add step.0.0) (λ n. tt) (λ k. refl) tt (λ b e. cc) kinds step.0.1 m x step.2

amplify_keeps : (kinds : List Kind) (given : List Argument) (m : Machine) (x : Value × Machine) → amplify kinds given m ≡ Ok x → Keeps m x.1
unfolding amplify
amplify_keeps kinds given m x is =
    let step0 = after (plain_decimal given) (λ factor. one_kind kinds >>= λ k. plain_source m.plan.nodes k factor.1 >>= λ s. add (node (op.Amplify factor.0) k (s.0 ∷ [])) m) x is in
    let factor = step0.0 in
    let step1 = after (one_kind kinds) (λ k. plain_source m.plan.nodes k factor.1 >>= λ s. add (node (op.Amplify factor.0) k (s.0 ∷ [])) m) x step0.2 in
    let k = step1.0 in
    let step2 = after (plain_source m.plan.nodes k factor.1) (λ s. add (node (op.Amplify factor.0) k (s.0 ∷ [])) m) x step1.2 in
    let s = step2.0 in
    let source = a_source m.plan.nodes k factor.1 s step2.1 in
    added (node (op.Amplify factor.0) k (s.0 ∷ [])) m x step2.2 (one_over m.plan.nodes (op.Amplify factor.0) k k s.0 source refl refl tt) (λ b e. cc)

mean_keeps : (given : List Argument) (m : Machine) (x : Value × Machine) → mean given m ≡ Ok x → Keeps m x.1
unfolding mean
mean_keeps given m x is =
    let step0 = after (plain_source m.plan.nodes Kind.Stereo given) (λ s. add (node op.Mean Mono (s.0 ∷ [])) m) x is in
    let s = step0.0 in
    let source = a_source m.plan.nodes Kind.Stereo given s step0.1 in
    added (node (op.Mean) Mono (s.0 ∷ [])) m x step0.2 (one_over m.plan.nodes (op.Mean) Kind.Stereo Mono s.0 source refl (refl, refl) tt) (λ b e. cc)

stereo_keeps : (given : List Argument) (m : Machine) (x : Value × Machine) → stereo given m ≡ Ok x → Keeps m x.1
unfolding stereo
stereo_keeps given m x is =
    let step0 = after (plain_source m.plan.nodes Mono given) (λ s. add (node op.Stereo Kind.Stereo (s.0 ∷ [])) m) x is in
    let s = step0.0 in
    let source = a_source m.plan.nodes Mono given s step0.1 in
    added (node (op.Stereo) Kind.Stereo (s.0 ∷ [])) m x step0.2 (one_over m.plan.nodes (op.Stereo) Mono Kind.Stereo s.0 source refl (refl, refl) tt) (λ b e. cc)

crossfade_keeps : (at : ℕ) (kinds : List Kind) (given : List Argument) (m : Machine) (x : Value × Machine) → crossfade at kinds given m ≡ Ok x → Keeps m x.1
unfolding crossfade
crossfade_keeps at kinds given m x is =
    let step0 = after (decimal_or (codes "duration") (some_millionths 5000000 tt) given) (λ duration. one_kind kinds >>= λ k. plain_source m.plan.nodes k duration.1 >>= λ s. short_overlap at s.0 duration.0 m.plan >>= λ overlap. add (node (op.Crossfade overlap) k (s.0 ∷ [])) m) x is in
    let duration = step0.0 in
    let step1 = after (one_kind kinds) (λ k. plain_source m.plan.nodes k duration.1 >>= λ s. short_overlap at s.0 duration.0 m.plan >>= λ overlap. add (node (op.Crossfade overlap) k (s.0 ∷ [])) m) x step0.2 in
    let k = step1.0 in
    let step2 = after (plain_source m.plan.nodes k duration.1) (λ s. short_overlap at s.0 duration.0 m.plan >>= λ overlap. add (node (op.Crossfade overlap) k (s.0 ∷ [])) m) x step1.2 in
    let s = step2.0 in
    let step3 = after (short_overlap at s.0 duration.0 m.plan) (λ overlap. add (node (op.Crossfade overlap) k (s.0 ∷ [])) m) x step2.2 in
    let overlap = step3.0 in
    let source = a_source m.plan.nodes k duration.1 s step2.1 in
    let short = short_is at s.0 duration.0 m.plan overlap step3.1 in
    added (node (op.Crossfade overlap) k (s.0 ∷ [])) m x step3.2 (one_over m.plan.nodes (op.Crossfade overlap) k k s.0 source refl refl short) (λ b e. cc)

safe_keeps : (k : Kind) (s : ℕ) (m : Machine) (x : Value × Machine) → safe k s m ≡ Ok x → IsSource m.plan.nodes k s → Keeps m x.1
unfolding safe
safe_keeps k s m x is source =
    let step0 = after (push (node (op.Blank 0) k []) m) (λ silence. add (node (op.Fallback false) k (s ∷ silence.0 ∷ [])) silence.1) x is in
    let silence = step0.0 in
    let first = pushed (node (op.Blank 0) k []) m silence step0.1 (leaf_over m.plan.nodes (op.Blank 0) k refl refl tt) (λ b e. cc) in
    let old = kept_source m silence.1 k s first.keeps source in
    let new = pushed_source (node (op.Blank 0) k []) m silence first in
    let second = added (node (op.Fallback false) k (s ∷ silence.0 ∷ [])) silence.1 x step0.2 (two_over silence.1.plan.nodes (op.Fallback false) k s silence.0 old new tt refl tt) (λ b e. cc) in
    then_keeps m silence.1 x.1 first.keeps second

mksafe_keeps : (kinds : List Kind) (given : List Argument) (m : Machine) (x : Value × Machine) → mksafe kinds given m ≡ Ok x → Keeps m x.1
unfolding mksafe
mksafe_keeps kinds given m x is =
    let step0 = after (one_kind kinds) (λ k. plain_source m.plan.nodes k given >>= λ s. safe k s.0 m) x is in
    let k = step0.0 in
    let step1 = after (plain_source m.plan.nodes k given) (λ s. safe k s.0 m) x step0.2 in
    let s = step1.0 in
    safe_keeps k s.0 m x step1.2 (a_source m.plan.nodes k given s step1.1)

buffer_keeps : (at : ℕ) (kinds : List Kind) (given : List Argument) (m : Machine) (x : Value × Machine) → buffer at kinds given m ≡ Ok x → Keeps m x.1
unfolding buffer
buffer_keeps at kinds given m x is =
    let step0 = after (decimal_or (codes "buffer") (some_millionths 1000000 tt) given) (λ held. decimal_or (codes "max") (some_millionths 10000000 tt) held.1 >>= λ most. one_kind kinds >>= λ k. plain_source m.plan.nodes k most.1 >>= λ s. buffer_plan at held.0 most.0 m.plan >>= λ made. add_buffer s.0 k made m) x is in
    let held = step0.0 in
    let step1 = after (decimal_or (codes "max") (some_millionths 10000000 tt) held.1) (λ most. one_kind kinds >>= λ k. plain_source m.plan.nodes k most.1 >>= λ s. buffer_plan at held.0 most.0 m.plan >>= λ made. add_buffer s.0 k made m) x step0.2 in
    let most = step1.0 in
    let step2 = after (one_kind kinds) (λ k. plain_source m.plan.nodes k most.1 >>= λ s. buffer_plan at held.0 most.0 m.plan >>= λ made. add_buffer s.0 k made m) x step1.2 in
    let k = step2.0 in
    let step3 = after (plain_source m.plan.nodes k most.1) (λ s. buffer_plan at held.0 most.0 m.plan >>= λ made. add_buffer s.0 k made m) x step2.2 in
    let s = step3.0 in
    let step4 = after (buffer_plan at held.0 most.0 m.plan) (λ made. add_buffer s.0 k made m) x step3.2 in
    let made = step4.0 in
    let source = a_source m.plan.nodes k most.1 s step3.1 in
    buffered m s.0 k made x step4.2 source (a_buffer at held.0 most.0 m.plan made step4.1)

clock_keeps : (kinds : List Kind) (given : List Argument) (m : Machine) (x : Value × Machine) → clock kinds given m ≡ Ok x → Keeps m x.1
unfolding clock
clock_keeps kinds given m x is =
    let step0 = after (text_or (codes "id") [] given) (λ id. one_kind kinds >>= λ k. plain_source m.plan.nodes k id.1 >>= λ s. add (node (op.Clock id.0) k (s.0 ∷ [])) m) x is in
    let id = step0.0 in
    let step1 = after (one_kind kinds) (λ k. plain_source m.plan.nodes k id.1 >>= λ s. add (node (op.Clock id.0) k (s.0 ∷ [])) m) x step0.2 in
    let k = step1.0 in
    let step2 = after (plain_source m.plan.nodes k id.1) (λ s. add (node (op.Clock id.0) k (s.0 ∷ [])) m) x step1.2 in
    let s = step2.0 in
    let source = a_source m.plan.nodes k id.1 s step2.1 in
    added (node (op.Clock id.0) k (s.0 ∷ [])) m x step2.2 (one_over m.plan.nodes (op.Clock id.0) k k s.0 source refl refl tt) (λ b e. cc)

output_file_keeps : (kinds : List Kind) (given : List Argument) (m : Machine) (x : Value × Machine) → output_file kinds given m ≡ Ok x → Keeps m x.1
unfolding output_file
output_file_keeps kinds given m x is =
    let step0 = after (bool_or (codes "fallible") false given) (λ fallible. plain_format fallible.1 >>= λ format. plain_text format.1 >>= λ name. one_kind kinds >>= λ k. plain_source m.plan.nodes k name.1 >>= λ s. add_output name.0 s.0 fallible.0 format.0 m) x is in
    let fallible = step0.0 in
    let step1 = after (plain_format fallible.1) (λ format. plain_text format.1 >>= λ name. one_kind kinds >>= λ k. plain_source m.plan.nodes k name.1 >>= λ s. add_output name.0 s.0 fallible.0 format.0 m) x step0.2 in
    let format = step1.0 in
    let step2 = after (plain_text format.1) (λ name. one_kind kinds >>= λ k. plain_source m.plan.nodes k name.1 >>= λ s. add_output name.0 s.0 fallible.0 format.0 m) x step1.2 in
    let name = step2.0 in
    let step3 = after (one_kind kinds) (λ k. plain_source m.plan.nodes k name.1 >>= λ s. add_output name.0 s.0 fallible.0 format.0 m) x step2.2 in
    let k = step3.0 in
    let step4 = after (plain_source m.plan.nodes k name.1) (λ s. add_output name.0 s.0 fallible.0 format.0 m) x step3.2 in
    let s = step4.0 in
    let source = a_source m.plan.nodes k name.1 s step4.1 in
    put_output m name.0 s.0 fallible.0 format.0 k x step4.2 source

set_keeps : (given : List Argument) (m : Machine) (x : Value × Machine) → set given m ≡ Ok x → Keeps m x.1
unfolding set
set_keeps given m x is =
    let step0 = after (plain_text given) (λ key. plain_argument key.1 >>= λ value. setting key.0 value.0 m) x is in
    let key = step0.0 in
    let step1 = after (plain_argument key.1) (λ value. setting key.0 value.0 m) x step0.2 in
    let value = step1.0 in
    setting_keeps key.0 value.0 m x step1.2

counted_by : (b : Bool) (n : ℕ) (m c : Machine) → ◌≡◌ {A = Result Machine Stop} (elim b [ true ↦ Ok (record m { work = m.work + n }) | false ↦ Err TooMuchWork ]) (Ok c) → m.plan ≡ c.plan
counted_by true n m c is = (let same = ok_is (record m { work = m.work + n }) c is in ap (λ (d : Machine). d.plan) same)
counted_by false n m c is = absurd cc

pub counting_keeps : (n : ℕ) (m c : Machine) → count_work n m ≡ Ok c → Keeps m c
unfolding count_work
counting_keeps n m c is = same_plan m c (counted_by (nat_le (m.work + n) MAX_WORK) n m c is)

pub first_sound : IsSound first_machine
first_sound = record {
  well_formed = empty_keeps 44100 1764 (omega arith) (omega arith) (omega arith) (omega arith);
  outputs = omega arith;
  feeds = omega arith;
}

pub call_keeps : (b : Builtin) (at : ℕ) (kinds : List Kind) (given : List Argument) (m : Machine) (x : Value × Machine) → builtin b at kinds given m ≡ Ok x → Keeps m x.1
unfolding builtin
call_keeps builtins.OutputFile at kinds given m x is = output_file_keeps kinds given m x is
call_keeps builtins.Set at kinds given m x is = set_keeps given m x is
call_keeps builtins.Single at kinds given m x is = single_keeps kinds given m x is
call_keeps builtins.Playlist at kinds given m x is = playlist_keeps at kinds given m x is
call_keeps builtins.Blank at kinds given m x is = blank_keeps at kinds given m x is
call_keeps builtins.Square at kinds given m x is = square_keeps at kinds given m x is
call_keeps builtins.Fail at kinds given m x is = fail_keeps kinds m x is
call_keeps builtins.Fallback at kinds given m x is = fallback_keeps kinds given m x is
call_keeps builtins.Switch at kinds given m x is = switch_keeps kinds given m x is
call_keeps builtins.Sequence at kinds given m x is = over_sources_keep op.Sequence (λ n. tt) (λ k. refl) tt (λ b e. cc) kinds given m x is
call_keeps builtins.Rotate at kinds given m x is = over_sources_keep op.Rotate (λ n. tt) (λ k. refl) tt (λ b e. cc) kinds given m x is
call_keeps builtins.Random at kinds given m x is = random_keeps at kinds given m x is
call_keeps builtins.Add at kinds given m x is = sum_keeps kinds given m x is
call_keeps builtins.Amplify at kinds given m x is = amplify_keeps kinds given m x is
call_keeps builtins.Mean at kinds given m x is = mean_keeps given m x is
call_keeps builtins.Stereo at kinds given m x is = stereo_keeps given m x is
call_keeps builtins.Crossfade at kinds given m x is = crossfade_keeps at kinds given m x is
call_keeps builtins.Mksafe at kinds given m x is = mksafe_keeps kinds given m x is
call_keeps builtins.Buffer at kinds given m x is = buffer_keeps at kinds given m x is
call_keeps builtins.Clock at kinds given m x is = clock_keeps kinds given m x is
