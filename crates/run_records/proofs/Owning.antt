-- A clock calls the buffers alone that it feeds and that it reads.
use Rattle.std.proofs.Common.{◌≡◌, ◌<◌, ◌≤◌, ◌∙◌, ◌+◌, ◌-◌, ◌*◌, ◌%◌, ◌++◌, ℕ, zero, suc, Bool, true, false, cond, Option, Some, None, List, [], ◌∷◌, length, map, nat_eq, slice_get, flat_map, refl, ap, sym, arith}
use Rattle.std.specs.Prelude.{All}
use Rattle.std.proofs.lemmas.List.Elements.{All-nil, All-cons, All-head, All-tail, All-append}
use Rattle.std.specs.Option.{option_map_or}
use Rattle.std.proofs.lemmas.Bool.{false≢true}
use Rattle.std.proofs.lemmas.Bool.Decides.{nat_tests}
use Rattle.std.proofs.lemmas.Option.{slice_get_within}
use Rattle.plan_core.specs.declared.node.Node.{Node}
use Rattle.plan_core.specs.declared.sink.SinkPlan.{SinkPlan}
use Rattle.plan_core.specs.declared.sink.SinkPlan.TheVariants.{Output, Feed}
use Rattle.clock_infer.specs.declared.clock_map.ClockMap.{ClockMap}
use Rattle.clock_infer.specs.declared.clock_map.NodeClock.{NodeClock}
use Rattle.clock_infer.specs.declared.clock_map.NodeClock.TheVariants.{Main, Sub}
use Rattle.clock_infer.proofs.MapLaws.{ranks}
use Rattle.frame_core.specs.declared.cell.Cell.{Cell}
use Rattle.frame_core.specs.Slots.{Slot}
use Rattle.frame_core.specs.Calls.{Call, Took, Given, Answer}
use Rattle.op_cross.specs.Runs.{run_of}
use Rattle.op_leaf.specs.Readers.{reader_takes}
use Rattle.stream_meaning.specs.Operators.{Work, Plays, Picks, Mixes, Fades, Reads}
use Rattle.stream_meaning.specs.Instants.{Setting, Moment, answered, clock_of, lies_in, work_at, position, next_answers, first_instants, reading_after, sub_of}
use Rattle.stream_meaning.specs.Sinks.{feed_cells}
use Rattle.stream_meaning.specs.Calls.{joined_upto, takes_by, takes_in, takes_at, ran_by, fades_by, fades_in, calls_at, calls_of, given, give_by, calls_of_tick}
use Rattle.stream_meaning.specs.Settings.{IsSetting}
use Rattle.stream_meaning.proofs.Ranks.{AreNested, deeper, rank_below}
use Rattle.stream_meaning.proofs.Existence.{are_nested, same_clock-true}
use Rattle.run_records.specs.Buffers.{main_within, main_of, fed_in, reads_in, read_from, feeder, reader}
use Rattle.run_records.specs.Owning.{IsOwn}
use Rattle.run_records.specs.Alike.{IsAt}
use Rattle.run_records.proofs.Instantly.{HasRank}
use Rattle.stream_meaning.proofs.Sorted.{reads_op}

module _ (P : Call → Type 0) where
  pub all_joined : (calls : ℕ → List Call) (n : ℕ) → ((j : ℕ) → All P (calls j)) → All P (joined_upto calls n)
  all_joined calls zero each = All-nil P
  all_joined calls (suc n) each = All-append P (joined_upto calls n) (calls n) (all_joined calls n each) (each n)

  pub all_at : (front behind : List Call) (call : Call) → All P (front ++ call ∷ behind) → P call
  all_at [] behind call all = All-head P call behind all
  all_at (x ∷ front) behind call all = all_at front behind call (All-tail P x (front ++ call ∷ behind) all)

  all_flat : {A : Type 0} (f : A → List Call) (xs : List A) → ((i : ℕ) (x : A) → slice_get xs i ≡ Some x → All P (f x)) → All P (flat_map f xs)
  all_flat f [] each = All-nil P
  all_flat f (x ∷ xs) each = All-append P (f x) (flat_map f xs) (each 0 x refl) (all_flat f xs (λ i. each (suc i)))

eq_same : (n : ℕ) → nat_eq n n ≡ true
eq_same n = grind (arith, nat_tests)

-- a node whose work is to read this buffer
abbrev reads_it : Setting → (buffer i : ℕ) → Node → Bool
reads_it base buffer i node = option_map_or (nat_eq buffer) (reads_in (work_at base i node)) false

reads_true : (buffer : ℕ) (work : Work) → option_map_or (nat_eq buffer) (reads_in work) false ≡ true → work ≡ Reads buffer
reads_true buffer (Plays leaf) e = absurd (false≢true e)
reads_true buffer (Picks choice eligible) e = absurd (false≢true e)
reads_true buffer (Mixes mixing) e = absurd (false≢true e)
reads_true buffer (Fades overlap) e = absurd (false≢true e)
reads_true buffer (Reads other) e = let same : other ≡ buffer = grind (arith, nat_tests) in ap Reads same

pub read_is : (base : Setting) (buffer i : ℕ) (nodes : List Node) (p : ℕ) (node : Node) → slice_get nodes p ≡ Some node → work_at base (i + p) node ≡ Reads buffer
    → ((q : ℕ) (other : Node) → slice_get nodes q ≡ Some other → work_at base (i + q) other ≡ Reads buffer → q ≡ p) → read_from base buffer i nodes ≡ i + p
read_is base buffer i [] p node there does only = absurd cc
read_is base buffer i (x ∷ xs) p node there does only = by p there does only (reads_it base buffer i x) refl (λ p' there' does' only'. read_is base buffer (suc i) xs p' node there' does' only')
  where
    by : (p : ℕ) → slice_get (x ∷ xs) p ≡ Some node → work_at base (i + p) node ≡ Reads buffer → ((q : ℕ) (other : Node) → slice_get (x ∷ xs) q ≡ Some other → work_at base (i + q) other ≡ Reads buffer → q ≡ p)
        → (t : Bool) → reads_it base buffer i x ≡ t
        → ((p' : ℕ) → slice_get xs p' ≡ Some node → work_at base (suc i + p') node ≡ Reads buffer → ((q : ℕ) (other : Node) → slice_get xs q ≡ Some other → work_at base (suc i + q) other ≡ Reads buffer → q ≡ p') → read_from base buffer (suc i) xs ≡ suc i + p')
        → read_from base buffer i (x ∷ xs) ≡ i + p
    by p there does only true e more =
        (let none : i ≡ i + 0 = omega arith in
        let here : work_at base (i + 0) x ≡ Reads buffer = ap (λ (n : ℕ). work_at base n x) (sym none) ∙ reads_true buffer (work_at base i x) e in
        let first : 0 ≡ p = only 0 x refl here in rw e (omega (arith, first)))
    by zero there does only false e more =
        (let same : x ≡ node = cc in
        let none : i ≡ i + 0 = omega arith in
        let work : work_at base i x ≡ Reads buffer = (λ j. work_at base (none j) (same j)) ∙ does in
        absurd (false≢true (sym e ∙ ap (λ (w : Work). option_map_or (nat_eq buffer) (reads_in w) false) work ∙ eq_same buffer)))
    by (suc p) there does only false e more =
        (let up : (q : ℕ) → i + suc q ≡ suc i + q = λ q. omega arith in
        let found : read_from base buffer (suc i) xs ≡ suc i + p = more p there (ap (λ (n : ℕ). work_at base n node) (sym (up p)) ∙ does)
        (λ q other at work. let one : suc q ≡ suc p = only (suc q) other at (ap (λ (n : ℕ). work_at base n other) (up q) ∙ work) in omega (arith, one)) in
        rw e (found ∙ sym (up p)))

pub fed_is : (buffer : ℕ) (sinks : List SinkPlan) (p node : ℕ) → slice_get sinks p ≡ Some (Feed buffer node) → ((q other : ℕ) → slice_get sinks q ≡ Some (Feed buffer other) → q ≡ p) → fed_in buffer sinks ≡ node
fed_is buffer [] p node there only = absurd cc
fed_is buffer (Output name source fallible wide ∷ sinks) zero node there only = absurd cc
fed_is buffer (Output name source fallible wide ∷ sinks) (suc p) node there only = fed_is buffer sinks p node there (λ q other at. let one : suc q ≡ suc p = only (suc q) other at in omega (arith, one))
fed_is buffer (Feed to source ∷ sinks) zero node there only =
    let same : to ≡ buffer = cc in let source_is : source ≡ node = cc in
    ap (λ (b : Bool). cond b source (fed_in buffer sinks)) (ap (λ (n : ℕ). nat_eq n buffer) same ∙ eq_same buffer) ∙ source_is
fed_is buffer (Feed to source ∷ sinks) (suc p) node there only = by (nat_eq to buffer) refl (fed_is buffer sinks p node there (λ q other at. let one : suc q ≡ suc p = only (suc q) other at in omega (arith, one)))
  where
    by : (t : Bool) → nat_eq to buffer ≡ t → fed_in buffer sinks ≡ node → fed_in buffer (Feed to source ∷ sinks) ≡ node
    by true e more = (let same : to ≡ buffer = grind (arith, nat_tests) in
        let first : 0 ≡ suc p = only 0 source (ap (λ (n : ℕ). Some (Feed n source)) same) in absurd (omega (arith, first)))
    by false e more = rw e more

module _ (base : Setting) (clocks : ClockMap) (is : IsSetting base clocks) (rank : ℕ → ℕ) (deepest : ℕ) (nested : AreNested clocks (clock_of base) (length base.plan.nodes) rank deepest) where
  -- the main clock of a node, with as many levels as its rank or more
  main_by : (d i : ℕ) → i < length base.plan.nodes → rank i ≤ suc d
      → ((k : ℕ) → k < length base.plan.nodes → rank k ≤ d → main_within base d (clock_of base k) ≡ main_within base (rank k) (clock_of base k))
      → main_within base (suc d) (clock_of base i) ≡ main_within base (rank i) (clock_of base i)
  main_by d i there low more = by (clock_of base i) refl
    where
      by : (c : NodeClock) → clock_of base i ≡ c → main_within base (suc d) c ≡ main_within base (rank i) c
      by (Main m) at = refl
      by (Sub k) at =
          (let down : rank i ≡ suc (rank k) = deeper clocks (clock_of base) (length base.plan.nodes) rank deepest nested i k there at in
          let inside : k < length base.plan.nodes = nested.within i k (nested.there i there ∙ ap (λ (c : NodeClock). Some c) at) in
          more k inside (omega (arith, down, low)) ∙ ap (λ (n : ℕ). main_within base n (Sub k)) (sym down))

  main_more : (d i : ℕ) → i < length base.plan.nodes → rank i ≤ d → main_within base d (clock_of base i) ≡ main_within base (rank i) (clock_of base i)
  main_more zero i there low = let none : 0 ≡ rank i = omega (arith, low) in ap (λ (n : ℕ). main_within base n (clock_of base i)) none
  main_more (suc d) i there low = main_by d i there low (λ k inside low'. main_more d k inside low')

  -- a clock of this rank, in main clock m
  module _ (answers : ℕ → List Answer) (sub : ℕ → ℕ → List Slot) (m : ℕ) where
    reader_is : (clock : NodeClock) (s : ℕ) → HasRank base rank clock s → main_within base s clock ≡ m → (i buffer : ℕ) → IsAt base clock i (Reads buffer) → reader base buffer ≡ m
    reader_is clock s has main i buffer at =
        let op = reads_op base.plan.rate i at.node.kind at.node.op buffer at.does in
        let there : i < length base.plan.nodes = slice_get_within base.plan.nodes i at.node at.found in
        let known : buffer < length base.plan.buffers = is.plan.read buffer i (at.node, at.found, op) in
        let only = is.plan.one_reader buffer known in
        let mine : i ≡ only.0 = only.2 i (at.node, at.found, op) in
        let found : read_from base buffer 0 base.plan.nodes ≡ 0 + i = read_is base buffer 0 base.plan.nodes i at.node at.found (ap (λ (n : ℕ). work_at base n at.node) (omega arith) ∙ at.does)
        (λ q other at' work. only.2 q (other, at', reads_op base.plan.rate (0 + q) other.kind other.op buffer work) ∙ sym mine) in
        let place : 0 + i ≡ i = omega arith in
        let low : rank i < length base.plan.nodes = rank_below clocks (clock_of base) (length base.plan.nodes) rank deepest nested i there in
        let own : clock_of base i ≡ clock = same_clock-true (clock_of base i) clock at.inside in
        ap (main_of base) (found ∙ place) ∙ main_more (length base.plan.nodes) i there (omega (arith, low)) ∙ (λ j. main_within base (has.each i there own j) (own j)) ∙ main

    own_took : (buffer : ℕ) → reader base buffer ≡ m → (got : List Answer) → All (IsOwn base m) (map (Took buffer) got)
    own_took buffer own [] = All-nil (IsOwn base m)
    own_took buffer own (answer ∷ got) = All-cons (IsOwn base m) (Took buffer answer) (map (Took buffer) got) own (own_took buffer own got)

    own_work : (clock : NodeClock) (past : List Moment) (i : ℕ) → ((buffer : ℕ) → IsAt base clock i (Reads buffer) → reader base buffer ≡ m) → (node : Node) → lies_in base clock i ≡ true → slice_get base.plan.nodes i ≡ Some node
        → (work : Work) → work_at base i node ≡ work → All (IsOwn base m) (takes_by (answered base answers) past i work)
    own_work clock past i own node inside there (Plays leaf) does = All-nil (IsOwn base m)
    own_work clock past i own node inside there (Picks choice eligible) does = All-nil (IsOwn base m)
    own_work clock past i own node inside there (Mixes mixing) does = All-nil (IsOwn base m)
    own_work clock past i own node inside there (Fades overlap) does = All-nil (IsOwn base m)
    own_work clock past i own node inside there (Reads buffer) does =
        own_took buffer (own buffer (record { inside = inside; node = node; found = there; does = does }))
        (reader_takes (next_answers (answers buffer) (reading_after (answered base answers) i buffer past)) (reading_after (answered base answers) i buffer past).reader)

    own_node : (clock : NodeClock) (past : List Moment) (i : ℕ) → ((buffer : ℕ) → IsAt base clock i (Reads buffer) → reader base buffer ≡ m) → (inside : Bool) → lies_in base clock i ≡ inside → (found : Option Node) → slice_get base.plan.nodes i ≡ found
        → All (IsOwn base m) (takes_in (answered base answers) inside past i found)
    own_node clock past i own inside at None there = All-nil (IsOwn base m)
    own_node clock past i own false at (Some node) there = All-nil (IsOwn base m)
    own_node clock past i own true at (Some node) there = own_work clock past i own node at there (work_at base i node) refl

    own_takes : (clock : NodeClock) (past : List Moment) → ((i buffer : ℕ) → IsAt base clock i (Reads buffer) → reader base buffer ≡ m) → All (IsOwn base m) (takes_at (answered base answers) clock past)
    own_takes clock past own = by (nat_eq (length past % base.plan.frame) 0) refl
      where
        by : (t : Bool) → nat_eq (length past % base.plan.frame) 0 ≡ t → All (IsOwn base m) (takes_at (answered base answers) clock past)
        by true e = rw e (all_joined (IsOwn base m) (λ i. takes_in (answered base answers) (lies_in base clock i) past i (slice_get base.plan.nodes i)) (length base.plan.nodes)
            (λ i. own_node clock past i (own i) (lies_in base clock i) refl (slice_get base.plan.nodes i) refl))
        by false e = rw e (All-nil (IsOwn base m))

    own_fade : (below : ℕ → ℕ → List Call) (past : List Moment) (k : ℕ) → ((n : ℕ) → All (IsOwn base m) (below k n)) → (work : Work) → All (IsOwn base m) (fades_by sub below past k work)
    own_fade below past k each (Plays leaf) = All-nil (IsOwn base m)
    own_fade below past k each (Picks choice eligible) = All-nil (IsOwn base m)
    own_fade below past k each (Mixes mixing) = All-nil (IsOwn base m)
    own_fade below past k each (Fades overlap) = all_joined (IsOwn base m) (λ j. below k (ran_by sub k overlap past + j)) (run_of overlap (sub k) (position past k) - ran_by sub k overlap past) (λ j. each (ran_by sub k overlap past + j))
    own_fade below past k each (Reads buffer) = All-nil (IsOwn base m)

    own_fades : (below : ℕ → ℕ → List Call) (clock : NodeClock) (past : List Moment) (k : ℕ) → (k < length base.plan.nodes → clock_of base k ≡ clock → (n : ℕ) → All (IsOwn base m) (below k n))
        → (inside : Bool) → lies_in base clock k ≡ inside → (found : Option Node) → slice_get base.plan.nodes k ≡ found → All (IsOwn base m) (fades_in (answered base answers) sub below inside past k found)
    own_fades below clock past k each inside at None there = All-nil (IsOwn base m)
    own_fades below clock past k each false at (Some node) there = All-nil (IsOwn base m)
    own_fades below clock past k each true at (Some node) there = own_fade below past k (each (slice_get_within base.plan.nodes k node there) (same_clock-true (clock_of base k) clock at)) (work_at base k node)

    pub own_instant : (depth : ℕ) (clock : NodeClock) (s : ℕ) → HasRank base rank clock s → main_within base s clock ≡ m → (past : List Moment) → All (IsOwn base m) (calls_at (answered base answers) sub depth clock past)
    own_instant zero clock s has main past = All-nil (IsOwn base m)
    own_instant (suc depth) clock s has main past =
        All-append (IsOwn base m) (takes_at (answered base answers) clock past)
        (joined_upto (λ k. fades_in (answered base answers) sub (λ j n. calls_at (answered base answers) sub depth (Sub j) (first_instants (answered base answers) sub (Sub j) n)) (lies_in base clock k) past k (slice_get base.plan.nodes k)) (length base.plan.nodes))
        (own_takes clock past (reader_is clock s has main))
        (all_joined (IsOwn base m) (λ k. fades_in (answered base answers) sub (λ j n. calls_at (answered base answers) sub depth (Sub j) (first_instants (answered base answers) sub (Sub j) n)) (lies_in base clock k) past k (slice_get base.plan.nodes k)) (length base.plan.nodes)
        (λ k. own_fades (λ j n. calls_at (answered base answers) sub depth (Sub j) (first_instants (answered base answers) sub (Sub j) n)) clock past k
        (λ there of n. own_instant depth (Sub k) (suc (rank k))
        (record {
          low = (let low = rank_below clocks (clock_of base) (length base.plan.nodes) rank deepest nested k there in omega (arith, low));
          each = λ i inside e. deeper clocks (clock_of base) (length base.plan.nodes) rank deepest nested i k inside e;
        })
        ((λ j. main_within base (has.each k there of j) (of j)) ∙ main) (first_instants (answered base answers) sub (Sub k) n))
        (lies_in base clock k) refl (slice_get base.plan.nodes k) refl))

module _ (base : Setting) (clocks : ClockMap) (is : IsSetting base clocks) (answers : ℕ → List Answer) (accepted : ℕ → Bool) (m t : ℕ) where
  own_given : (buffer : ℕ) → feeder base buffer ≡ m → (cells : List Cell) → All (IsOwn base m) (given buffer cells (accepted buffer))
  own_given buffer own [] = All-nil (IsOwn base m)
  own_given buffer own (cell ∷ cells) = All-cons (IsOwn base m) (Given buffer (cell ∷ cells) (accepted buffer)) [] own (All-nil (IsOwn base m))

  own_give : (k : ℕ) (sink : SinkPlan) → slice_get base.plan.sinks k ≡ Some sink → All (IsOwn base m) (give_by (answered base answers) accepted m t sink)
  own_give k (Output name node fallible wide) there = All-nil (IsOwn base m)
  own_give k (Feed buffer node) there = by (lies_in base (Main m) node) refl
    where
      by : (b : Bool) → lies_in base (Main m) node ≡ b → All (IsOwn base m) (give_by (answered base answers) accepted m t (Feed buffer node))
      by false e = rw e (All-nil (IsOwn base m))
      by true e =
          (let known : buffer < length base.plan.buffers = is.plan.fed buffer k (node, there) in
          let only = is.plan.one_feed buffer known in
          let source : fed_in buffer base.plan.sinks ≡ node = fed_is buffer base.plan.sinks k node there (λ q other at. only.2 q (other, at) ∙ sym (only.2 k (node, there))) in
          let own : feeder base buffer ≡ m = ap (main_of base) source ∙ ap (main_within base (length base.plan.nodes)) (same_clock-true (clock_of base node) (Main m) e) in
          rw e (own_given buffer own (feed_cells (answered base answers) node t)))

  -- a tick calls its clock's own buffers
  pub own_tick : All (IsOwn base m) (calls_of_tick (answered base answers) accepted m t)
  own_tick =
      let found = ranks base.plan clocks is.map in
      let nested : AreNested clocks (clock_of base) (length base.plan.nodes) found.0 found.1 = are_nested base clocks is found.0 found.1 found.2 in
      let has : HasRank base found.0 (Main m) 0 = record { low = omega arith; each = λ i there at. nested.ranks.main i m (nested.there i there ∙ ap (λ (c : NodeClock). Some c) at) } in
      All-append (IsOwn base m)
      (joined_upto (λ j. calls_of (answered base answers) (sub_of (answered base answers)) (Main m) (first_instants (answered base answers) (sub_of (answered base answers)) (Main m) (t * base.plan.frame + j))) base.plan.frame)
      (flat_map (give_by (answered base answers) accepted m t) base.plan.sinks)
      (all_joined (IsOwn base m) (λ j. calls_of (answered base answers) (sub_of (answered base answers)) (Main m) (first_instants (answered base answers) (sub_of (answered base answers)) (Main m) (t * base.plan.frame + j))) base.plan.frame
      (λ j. own_instant base clocks is found.0 found.1 nested answers (sub_of (answered base answers)) m (suc (length base.plan.nodes)) (Main m) 0 has refl (first_instants (answered base answers) (sub_of (answered base answers)) (Main m) (t * base.plan.frame + j))))
      (all_flat (IsOwn base m) (give_by (answered base answers) accepted m t) base.plan.sinks own_give)
