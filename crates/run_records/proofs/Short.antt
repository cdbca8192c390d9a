-- No chunk of a lawful record is longer than a tick.
use Rattle.std.proofs.Common.{◌≡◌, ◌≤◌, ◌+◌, ◌*◌, ℕ, zero, suc, Bool, true, false, Some, None, List, [], ◌∷◌, ◌++◌, length, map, nat_eq, nat_lt, flat_map, if◌then◌else◌, refl, ap, sym, subst, ◌∙◌, arith}
use Rattle.std.specs.List.{range_with_len}
use Rattle.std.proofs.lemmas.List.FromFn.{length-range_with_len}
use Rattle.frame_core.specs.declared.cell.Cell.{Cell}
use Rattle.frame_core.specs.Slots.{Slot}
use Rattle.frame_core.specs.Legal.{Legal, IsHistory}
use Rattle.frame_core.specs.Legal.Legal.{all_done, accepted, put_refused, got, empty}
use Rattle.frame_core.specs.Calls.{Call, puts_to, put_of, Answer}
use Rattle.plan_core.specs.declared.sink.SinkPlan.{SinkPlan}
use Rattle.plan_core.specs.declared.sink.SinkPlan.TheVariants.{Output, Feed}
use Rattle.clock_infer.specs.declared.clock_map.NodeClock.TheVariants.{Main}
use Rattle.stream_meaning.specs.Arithmetic.{cells_of}
use Rattle.stream_meaning.specs.Instants.{Setting, lies_in, first_instants, sub_of, stream_of}
use Rattle.stream_meaning.specs.Calls.{joined_upto, calls_of, given, give_by, calls_of_tick, takes_of_tick, gives_of_tick}
use Rattle.stream_meaning.specs.Sinks.{feed_cells, tick_slots}
use Rattle.run_records.specs.Records.{Window, calls_in, ticks_of}
use Rattle.run_records.specs.Pace.{AreSmall}
use Rattle.run_records.proofs.Flattening.{puts-append}
use Rattle.run_records.proofs.Putting.{none_joined, none_called}

-- these chunks have at most so many cells
abbrev pub AreShort : (frame : ℕ) → List (List Cell) → Type 0
AreShort frame [] = Unit {0}
AreShort frame (chunk ∷ chunks) = (length chunk ≤ frame) × AreShort frame chunks

module _ (frame : ℕ) where
  short_last : (q : List (List Cell)) (x : List Cell) → AreShort frame q → length x ≤ frame → AreShort frame (q ++ x ∷ [])
  short_last [] x all h = (h, tt)
  short_last (c ∷ q) x all h = (all.0, short_last q x all.1 h)

  pub small_append : (xs ys : List Answer) → AreSmall frame xs → AreSmall frame ys → AreSmall frame (xs ++ ys)
  small_append [] ys a b = b
  small_append (None ∷ xs) ys a b = small_append xs ys a b
  small_append (Some c ∷ xs) ys a b = (a.0, small_append xs ys a.1 b)

  pub small_left : (xs ys : List Answer) → AreSmall frame (xs ++ ys) → AreSmall frame xs
  small_left [] ys a = tt
  small_left (None ∷ xs) ys a = small_left xs ys a
  small_left (Some c ∷ xs) ys a = (a.0, small_left xs ys a.1)

  small_right : (xs ys : List Answer) → AreSmall frame (xs ++ ys) → AreSmall frame ys
  small_right [] ys a = a
  small_right (None ∷ xs) ys a = small_right xs ys a
  small_right (Some c ∷ xs) ys a = small_right xs ys a.1

  got_small : {C : ℕ} {r q : List (List Cell)} {puts takes : List Answer} → AreShort frame q → AreSmall frame puts → Legal C r q puts takes → AreSmall frame takes × AreShort frame r
  got_small all puts all_done = (tt, all)
  got_small all puts (accepted {queue = q} {x = x} less rest) = got_small (short_last q x all puts.0) puts.1 rest
  got_small all puts (put_refused is rest) = got_small all puts rest
  got_small all puts (got rest) = let more = got_small all.1 puts rest in ((all.0, more.0), more.1)
  got_small all puts (empty rest) = got_small all puts rest

  pub run_small : (C : ℕ) (q rest : List (List Cell)) (windows : List Window) → AreShort frame q → AreSmall frame (flat_map (λ (w : Window). w.0) windows) → IsHistory C q windows rest
      → AreSmall frame (flat_map (λ (w : Window). w.1) windows)
  run_small C q rest [] all puts run = tt
  run_small C q rest (window ∷ windows) all puts run =
      let now = got_small all (small_left window.0 (flat_map (λ (w : Window). w.0) windows) puts) run.1 in
      small_append window.1 (flat_map (λ (w : Window). w.1) windows) now.0
      (run_small C run.0 rest windows now.1 (small_right window.0 (flat_map (λ (w : Window). w.0) windows) puts) run.2)

  pub from_empty : (C : ℕ) (rest : List (List Cell)) (windows : List Window) → AreSmall frame (flat_map (λ (w : Window). w.0) windows) → IsHistory C [] windows rest
      → AreSmall frame (flat_map (λ (w : Window). w.1) windows)
  from_empty C rest windows puts run = run_small C [] rest windows tt puts run

few_cells : (xs : List Slot) → length (cells_of xs) ≤ length xs
few_cells [] = omega arith
few_cells (None ∷ xs) = omega (arith, few_cells xs)
few_cells (Some cell ∷ xs) = omega (arith, few_cells xs)

long_map : {A B : Type 0} (f : A → B) (xs : List A) → length (map f xs) ≡ length xs
long_map f [] = refl
long_map f (x ∷ xs) = ap suc (long_map f xs)

module _ (setting : Setting) (b : ℕ) where
  feed_short : (i t : ℕ) → length (feed_cells setting i t) ≤ setting.plan.frame
  feed_short i t =
      let few = few_cells (tick_slots setting i t) in
      let long = long_map (stream_of setting i) (range_with_len (t * setting.plan.frame) setting.plan.frame) in
      let size = length-range_with_len (t * setting.plan.frame) setting.plan.frame in
      omega (arith, few, long, size)

  put_small : (chunk : List Cell) (kept : Bool) → length chunk ≤ setting.plan.frame → AreSmall setting.plan.frame (put_of chunk kept ∷ [])
  put_small chunk true h = (h, tt)
  put_small chunk false h = tt

  given_small : (to : ℕ) (cells : List Cell) (kept : Bool) → length cells ≤ setting.plan.frame → AreSmall setting.plan.frame (puts_to b (given to cells kept))
  given_small to [] kept h = tt
  given_small to (cell ∷ cells) kept h = by (nat_eq b to)
    where
      by : (same : Bool) → AreSmall setting.plan.frame (if same then put_of (cell ∷ cells) kept ∷ [] else [])
      by true = put_small (cell ∷ cells) kept h
      by false = tt

  gives_small : (agreed : ℕ → Bool) (m t : ℕ) (sinks : List SinkPlan) → AreSmall setting.plan.frame (puts_to b (flat_map (give_by setting agreed m t) sinks))
  gives_small agreed m t [] = tt
  gives_small agreed m t (Output name node fallible wide ∷ sinks) = gives_small agreed m t sinks
  gives_small agreed m t (Feed to node ∷ sinks) =
      subst (AreSmall setting.plan.frame) (sym (puts-append b (give_by setting agreed m t (Feed to node)) (flat_map (give_by setting agreed m t) sinks)))
      (small_append setting.plan.frame (puts_to b (give_by setting agreed m t (Feed to node))) (puts_to b (flat_map (give_by setting agreed m t) sinks))
      (by (lies_in setting (Main m) node)) (gives_small agreed m t sinks))
    where
      by : (inside : Bool) → AreSmall setting.plan.frame (puts_to b (if inside then given to (feed_cells setting node t) (agreed to) else []))
      by true = given_small to (feed_cells setting node t) (agreed to) (feed_short node t)
      by false = tt

  tick_small : (agreed : ℕ → Bool) (m t : ℕ) → AreSmall setting.plan.frame (puts_to b (calls_of_tick setting agreed m t))
  tick_small agreed m t =
      let sub = sub_of setting in
      let takes : ℕ → List Call = λ j. calls_of setting sub (Main m) (first_instants setting sub (Main m) (t * setting.plan.frame + j)) in
      let none : puts_to b (takes_of_tick setting m t) ≡ [] =
      none_joined b takes setting.plan.frame (λ j. none_called b setting sub (suc (length setting.plan.nodes)) (Main m) (first_instants setting sub (Main m) (t * setting.plan.frame + j))) in
      subst (AreSmall setting.plan.frame) (sym (puts-append b (takes_of_tick setting m t) (gives_of_tick setting agreed m t)
      ∙ ap (λ (l : List Answer). l ++ puts_to b (gives_of_tick setting agreed m t)) none)) (gives_small agreed m t setting.plan.sinks)

  pub in_small : (clocks : ℕ) (agreed : ℕ → ℕ → ℕ → Bool) (m t : ℕ) → AreSmall setting.plan.frame (puts_to b (calls_in setting clocks agreed m t))
  in_small clocks agreed m t = by (nat_lt m clocks)
    where
      by : (runs : Bool) → AreSmall setting.plan.frame (puts_to b (if runs then ticks_of setting agreed m t else []))
      by true = tick_small (agreed m t) m t
      by false = tt

  pub each_small : (calls : ℕ → List Call) (n : ℕ) → ((j : ℕ) → AreSmall setting.plan.frame (puts_to b (calls j))) → AreSmall setting.plan.frame (puts_to b (joined_upto calls n))
  each_small calls zero each = tt
  each_small calls (suc n) each =
      subst (AreSmall setting.plan.frame) (sym (puts-append b (joined_upto calls n) (calls n)))
      (small_append setting.plan.frame (puts_to b (joined_upto calls n)) (puts_to b (calls n)) (each_small calls n each) (each n))

  pub upto_small : (clocks : ℕ) (agreed : ℕ → ℕ → ℕ → Bool) (m n : ℕ) → AreSmall setting.plan.frame (puts_to b (joined_upto (calls_in setting clocks agreed m) n))
  upto_small clocks agreed m n = each_small (calls_in setting clocks agreed m) n (λ j. in_small clocks agreed m j)
