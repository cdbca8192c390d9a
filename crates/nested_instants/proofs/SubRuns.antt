-- The sub-clocks of the crossfades through which cells pass go on, one after another.
use Rattle.std.proofs.Common.{◌≡◌, ◌<◌, ◌≤◌, ◌+◌, ◌∙◌, ℕ, suc, Bool, true, false, Some, List, [], length, slice_get, arith, refl, ap, sym, subst, inl, inr}
use Rattle.std.specs.Prelude.{is_some, slice_index_or}
use Rattle.std.proofs.lemmas.Bool.{cases_lt, false≢true}
use Rattle.std.proofs.lemmas.Option.{slice_get_within}
use Rattle.clock_infer.specs.declared.clock_map.NodeClock.{NodeClock}
use Rattle.clock_infer.specs.declared.clock_map.NodeClock.TheVariants.{Sub}
use Rattle.frame_core.specs.Slots.{Slot}
use Rattle.stream_meaning.specs.Instants.{Setting, clock_of, crossfaded, first_instants, moment_after, offer, part_at}
use Rattle.stream_meaning.specs.Calls.{calls_of}
use Rattle.op_mix.specs.Stretches.{samples_of}
use Rattle.node_states.specs.declared.time.WeekTime.{WeekTime}
use Rattle.frame_core.specs.Slots.{title_of}
use Rattle.stream_meaning.specs.declared.part.Part.{Part}
use Rattle.clock_instants.specs.declared.stretch_room.StretchRoom.{StretchRoom}
use Rattle.nested_instants.proofs.Titled.{held_title}
use Rattle.std.specs.Prelude.{Vec}
use Rattle.std.specs.declared.alloc.Global.{Global}
use Rattle.node_states.specs.Passing.{LaneFills}
use Rattle.node_states.specs.Times.{TimeStands}
use Rattle.clock_nodes.proofs.Places.{same_or_other as same_place}
use Rattle.nested_instants.specs.declared.clock_states.ClockStates.{ClockStates}
use Rattle.nested_instants.proofs.Levels.{lanes_same}
use Rattle.clock_instants.specs.Stretches.{HasLanes}
use Rattle.nested_instants.specs.Clocks.{AreLeft, IsOpen, IsWorld, Progress, RanAsNeeded, Stand, is_in, rest_at}
use Rattle.nested_instants.specs.Stretches.{AreSamplesLeft, CanGoOn, HasMadeOn, SubsMade}
use Rattle.nested_instants.proofs.Equal.{item_at, other_subs, same_or_above}
use Rattle.nested_instants.proofs.Children.{child_inside, child_root, gives_offers}
use Rattle.nested_instants.proofs.Kept.{goes_fewer, goes_kept, open_kept}
use Rattle.nested_instants.proofs.Taking.{meaning_step, needed_below, stand_below}

module _ (setting : Setting) (sub : ℕ → ℕ → List Slot) (rank : NodeClock → ℕ) (own : List Bool) (world : IsWorld setting sub rank own) (in_clocks : length setting.clocks ≡ length setting.plan.nodes)
    (clock : NodeClock) (many : ℕ) (through : ℕ → Bool) (progress : Progress) where
  deeper : (k : ℕ) → k < length setting.plan.nodes → rank (Sub k) ≡ suc (rank (clock_of setting k))
  deeper k within = world.ranks.deeper k (omega (arith, within, in_clocks))

  -- none of the sub-clocks has gone on
  pub subs_none : (all : ClockStates) → Stand setting sub rank (rank clock) progress all → SubsMade setting sub rank clock many through 0 progress all
  subs_none all stand = record {
    now = progress;
    took = refl;
    stand = stand_below setting sub rank (rank clock) (suc (rank clock)) progress all (omega arith) stand;
    needed = stand.needed;
    others = λ other low. refl;
    held = λ i low. refl;
    went = λ k within inside low is. absurd (omega (arith, low));
    stayed = λ k within level not. refl;
    time = λ k time within above at. stand.time k time above at;
    kept = λ k within level some. stand.kept k within (omega (arith, level)) some;
    quiet = λ k j within inside low is less. absurd (omega (arith, low));
    fills = λ k within inside low is. absurd (omega (arith, low));
    inside = λ k within inside low is. absurd (omega (arith, low));
  }

  -- a node of which the sub-clock stays, if it has one
  pub subs_skip : (i : ℕ) (all : ClockStates) → (clock_of setting i ≡ clock → through i ≡ false) → SubsMade setting sub rank clock many through i progress all
      → SubsMade setting sub rank clock many through (suc i) progress all
  subs_skip i all not s = record {
    now = s.now;
    took = s.took;
    stand = s.stand;
    needed = s.needed;
    others = s.others;
    held = s.held;
    went = λ k within inside low is. s.went k within inside (lower k inside low is) is;
    stayed = λ k within level none. s.stayed k within level (λ inside low. none inside (omega (arith, low)));
    time = s.time;
    kept = s.kept;
    quiet = λ k j within inside low is less. s.quiet k j within inside (lower k inside low is) is less;
    fills = λ k within inside low is. s.fills k within inside (lower k inside low is) is;
    inside = λ k within inside low is. s.inside k within inside (lower k inside low is) is;
  }
    where
      lower : (k : ℕ) → clock_of setting k ≡ clock → k < suc i → through k ≡ true → k < i
      lower k inside low is = elim (same_place i k) [
        | inl same ↦ absurd (false≢true (sym (not (ap (clock_of setting) same ∙ inside)) ∙ ap through same ∙ is))
        | inr apart ↦ omega (arith, low, apart)
      ]

  -- nodes of other clocks
  pub subs_upto : (i n : ℕ) (all : ClockStates) → i ≤ n → ((k : ℕ) → i ≤ k → k < n → clock_of setting k ≡ clock → ⊥) → SubsMade setting sub rank clock many through i progress all
      → SubsMade setting sub rank clock many through n progress all
  subs_upto i n all up none s = record {
    now = s.now;
    took = s.took;
    stand = s.stand;
    needed = s.needed;
    others = s.others;
    held = s.held;
    went = λ k within inside low is. s.went k within inside (lower k inside low) is;
    stayed = λ k within level not. s.stayed k within level (λ inside low. not inside (upper k low inside));
    time = s.time;
    kept = s.kept;
    quiet = λ k j within inside low is less. s.quiet k j within inside (lower k inside low) is less;
    fills = λ k within inside low is. s.fills k within inside (lower k inside low) is;
    inside = λ k within inside low is. s.inside k within inside (lower k inside low) is;
  }
    where
      lower : (k : ℕ) → clock_of setting k ≡ clock → k < n → k < i
      lower k inside low = elim (cases_lt k i) [ inl less ↦ less | inr high ↦ absurd (none k high low inside) ]

      upper : (k : ℕ) → k < i → clock_of setting k ≡ clock → k < n
      upper k low inside = elim (cases_lt k n) [ inl less ↦ less | inr high ↦ absurd (omega (arith, low, high, up)) ]

  -- the sub-clock of node i goes on
  module _ (i : ℕ) (within : i < length setting.plan.nodes) (inside : clock_of setting i ≡ clock) (is : through i ≡ true) (some : 0 < many) (all kept mid new : ClockStates)
      (s : SubsMade setting sub rank clock many through i progress all) (rest : many ≤ rest_at all i)
      (kept_states : kept.states ≡ all.states) (kept_times : kept.times ≡ all.times) (kept_held : kept.room.held ≡ all.room.held)
      (kept_left : kept.room.left ≡ all.room.left) (kept_right : kept.room.right ≡ all.room.right)
      (none : rest_at kept i ≡ 0) (others_kept : (k : ℕ) → (k ≡ i → ⊥) → rest_at kept k ≡ rest_at all k)
      (run : (n : ℕ) → CanGoOn setting sub rank own (Sub i) n many s.now kept → HasMadeOn setting sub rank own (Sub i) n many s.now mid)
      (held_mid : mid.room.held ≡ kept.room.held)
      (left : AreLeft setting.clocks rank (rank (Sub i)) (is_in setting.clocks (Sub i)) kept mid)
      (samples : AreSamplesLeft setting.clocks rank (rank (Sub i)) (is_in setting.clocks (Sub i)) many kept mid)
      (states : new.states ≡ mid.states) (room : new.room ≡ mid.room)
      (times : (k : ℕ) → (k ≡ i → ⊥) → slice_get new.times.items k ≡ slice_get mid.times.items k)
      (later : (n : ℕ) (before after : WeekTime) → slice_get mid.times.items i ≡ Some before → slice_get new.times.items i ≡ Some after → TimeStands setting.start n before → TimeStands setting.start (n + many) after)
      (in_mid : length mid.times.items ≡ length setting.plan.nodes) (in_new : length new.times.items ≡ length setting.plan.nodes) where
    up : rank (Sub i) ≡ suc (rank clock)
    up = deeper i within ∙ ap (λ c. suc (rank c)) inside

    level : rank (clock_of setting i) ≡ rank clock
    level = ap rank inside

    opened : IsOpen setting sub i (rest_at all i) s.now all
    opened = s.kept i within level (omega (arith, some, rest))

    not_i : (k : ℕ) → rank (Sub i) ≤ rank (clock_of setting k) → k ≡ i → ⊥
    not_i k above same = let e : rank (clock_of setting k) ≡ rank (clock_of setting i) = ap (λ j. rank (clock_of setting j)) same in let u = up in let l = level in omega (arith, e, u, l, above)

    stand_kept : Stand setting sub rank (rank (Sub i)) s.now kept
    stand_kept = record {
      stand = λ k node state found stored above. s.stand.stand k node state found (sym (ap (λ xs. slice_get xs.items k) kept_states) ∙ stored) (let u = up in omega (arith, u, above));
      taken = s.stand.taken;
      even = λ k fades above. s.stand.even k fades (let u = up in omega (arith, u, above));
      time = λ k time above at. s.stand.time k time (let u = up in omega (arith, u, above)) (sym (ap (λ xs. slice_get xs.items k) kept_times) ∙ at);
      needed = needed_below setting sub rank (suc (suc (rank clock))) (suc (rank (Sub i))) s.now (let u = up in omega (arith, u)) s.stand.needed;
      kept = λ k low above more.
          open_kept setting sub k s.now s.now all kept refl (others_kept k (not_i k above))
          (λ j here. (refl, ap (λ xs. slice_get xs.items j) kept_states, ap (λ ps. part_at ps.items j) kept_held))
          (s.stand.kept k low (let u = up in omega (arith, u, above))) more;
      laned = λ k low above. lanes_same all kept kept_left kept_right k (s.stand.laned k low (let u = up in omega (arith, u, above)));
    }

    can : CanGoOn setting sub rank own (Sub i) opened.n many s.now kept
    can = record {
      world = world;
      stand = stand_kept;
      needed = subst (λ n. RanAsNeeded setting sub rank n s.now) (sym up) s.needed;
      at = opened.at;
      goes = goes_kept setting sub (Sub i) (first_instants setting sub (Sub i) opened.n) many s.now.filled s.now.filled all.room.held.items kept.room.held.items all.states.items kept.states.items
          (λ j here. (refl, ap (λ xs. slice_get xs.items j) kept_states, ap (λ ps. part_at ps.items j) kept_held))
          (goes_fewer setting sub (Sub i) (first_instants setting sub (Sub i) opened.n) (rest_at all i) many s.now.filled all.room.held.items all.states.items rest opened.goes);
    }

    h : HasMadeOn setting sub rank own (Sub i) opened.n many s.now mid
    h = run opened.n can

    stays : s.now.ran (Sub i) ≡ progress.ran (Sub i)
    stays = s.stayed i within level (λ here low. absurd (omega (arith, low)))

    sub_apart : (k : ℕ) → (i ≡ k → ⊥) → Sub k ≡ Sub i → ⊥
    sub_apart k apart e = other_subs k i (λ same. apart (sym same)) e

    -- another sub-clock of the rank stays
    beside : (k : ℕ) → k < length setting.plan.nodes → rank (clock_of setting k) ≡ rank clock → (i ≡ k → ⊥) → h.now.ran (Sub k) ≡ s.now.ran (Sub k)
    beside k low same apart = h.others (Sub k) (sub_apart k apart) (let d = deeper k low in let u = up in omega (arith, d, u, same))

    -- a clock of this rank or a lower one is no such sub-clock
    apart_low : (c : NodeClock) → rank c ≤ rank clock → c ≡ Sub i → ⊥
    apart_low c low e = let same : rank c ≡ rank (Sub i) = ap rank e in let u = up in omega (arith, same, u, low)

    time_left : (k : ℕ) → rank (clock_of setting k) ≤ rank clock → slice_get mid.times.items k ≡ slice_get all.times.items k
    time_left k low = left.times k (apart_low (clock_of setting k) low) (let u = up in omega (arith, u, low)) ∙ ap (λ xs. slice_get xs.items k) kept_times

    own_time : (time : WeekTime) → slice_get new.times.items i ≡ Some time → TimeStands setting.start (h.now.ran (Sub i)) time
    own_time time at =
        let was = item_at mid.times.items i (omega (arith, in_mid, within)) in
        let before : TimeStands setting.start (s.now.ran (Sub i)) was.0 = s.time i was.0 within (let l = level in omega (arith, l)) (sym (time_left i (let l = level in omega (arith, l))) ∙ was.1) in
        subst (λ n. TimeStands setting.start n time) (sym h.once) (later (s.now.ran (Sub i)) was.0 time was.1 at before)

    other_time : (k : ℕ) (time : WeekTime) → k < length setting.plan.nodes → (i ≡ k → ⊥) → rank clock ≤ rank (clock_of setting k) → slice_get new.times.items k ≡ Some time
        → TimeStands setting.start (h.now.ran (Sub k)) time
    other_time k time low apart above at = elim (same_or_above (rank clock) (rank (clock_of setting k)) above) [
      | inl higher ↦ h.stand.time k time (let u = up in omega (arith, u, higher)) (sym (times k (λ e. apart (sym e))) ∙ at)
      | inr same ↦ subst (λ n. TimeStands setting.start n time) (sym (beside k low (sym same) apart))
          (s.time k time low above (sym (time_left k (omega (arith, same))) ∙ sym (times k (λ e. apart (sym e))) ∙ at))
    ]

    time_all : (k : ℕ) (time : WeekTime) → k < length setting.plan.nodes → rank clock ≤ rank (clock_of setting k) → slice_get new.times.items k ≡ Some time
        → TimeStands setting.start (h.now.ran (Sub k)) time
    time_all k time low above at = elim (same_place i k) [
      | inl same ↦ subst (λ j. slice_get new.times.items j ≡ Some time → TimeStands setting.start (h.now.ran (Sub j)) time) same (own_time time) at
      | inr apart ↦ other_time k time low apart above at
    ]

    rest_new : (k : ℕ) → rest_at new k ≡ rest_at mid k
    rest_new k = ap (λ r. slice_index_or r.rests.items k 0) room

    open_deep : (k : ℕ) → k < length setting.plan.nodes → suc (rank clock) ≤ rank (clock_of setting k) → 0 < rest_at new k → IsOpen setting sub k (rest_at new k) h.now new
    open_deep k low above more =
        open_kept setting sub k h.now h.now mid new refl (rest_new k)
        (λ j here. (refl, ap (λ xs. slice_get xs.items j) states, ap (λ r. part_at r.held.items j) room))
        (h.stand.kept k low (let u = up in omega (arith, u, above))) more

    rest_low : (k : ℕ) → rank (clock_of setting k) ≤ rank clock → rest_at new k ≡ rest_at kept k
    rest_low k low = rest_new k ∙ left.rests k (apart_low (clock_of setting k) low) (let u = up in omega (arith, u, low))

    open_beside : (k : ℕ) → k < length setting.plan.nodes → rank (clock_of setting k) ≡ rank clock → (i ≡ k → ⊥) → 0 < rest_at new k → IsOpen setting sub k (rest_at new k) h.now new
    open_beside k low same apart more =
        open_kept setting sub k s.now h.now all new (beside k low same apart)
        (rest_low k (omega (arith, same)) ∙ others_kept k (λ e. apart (sym e)))
        (λ j here.
        let out : clock_of setting j ≡ Sub i → ⊥ = λ e. sub_apart k apart (sym here ∙ e) in
        let under : rank (clock_of setting j) ≤ rank (Sub i) = (let d = deeper k low in let u = up in let e : rank (clock_of setting j) ≡ rank (Sub k) = ap rank here in omega (arith, d, u, e, same)) in (
          h.held j out under,
          ap (λ xs. slice_get xs.items j) states ∙ left.states j out under ∙ ap (λ xs. slice_get xs.items j) kept_states,
          ap (λ r. part_at r.held.items j) room ∙ left.held j out under ∙ ap (λ ps. part_at ps.items j) kept_held,
        ))
        (s.kept k low same) more

    open_all : (k : ℕ) → k < length setting.plan.nodes → rank (clock_of setting k) ≡ rank clock → 0 < rest_at new k → IsOpen setting sub k (rest_at new k) h.now new
    open_all k low same more = elim (same_place i k) [
      | inl here ↦ (let zero : rest_at new k ≡ 0 = rest_low k (omega (arith, same)) ∙ ap (rest_at kept) (sym here) ∙ none in absurd (omega (arith, zero, more)))
      | inr apart ↦ open_beside k low same apart more
    ]

    abbrev Child : ℕ
    Child = crossfaded setting.plan.nodes i

    offered : is_some (offer (moment_after setting sub (Sub i) (first_instants setting sub (Sub i) opened.n)) Child) ≡ true
    offered = gives_offers (moment_after setting sub (Sub i) (first_instants setting sub (Sub i) opened.n)) Child opened.gave

    -- what is held stays
    held_new : new.room.held ≡ all.room.held
    held_new = ap (λ (r : StretchRoom). r.held) room ∙ held_mid ∙ kept_held

    own_title : title_of (offer (moment_after setting sub (Sub i) (first_instants setting sub (Sub i) opened.n)) Child) ≡ title_of (part_at new.room.held.items Child).slot
    own_title = sym (ap (λ (h : Vec Part Global). title_of (part_at h.items Child).slot) held_new
        ∙ held_title setting sub (Sub i) (first_instants setting sub (Sub i) opened.n) all.room.held.items Child opened.goes.held_is opened.gave)

    fills_own : LaneFills (sub i) (progress.ran (Sub i)) many (title_of (part_at new.room.held.items Child).slot) (samples_of new.room.left.items Child many) (samples_of new.room.right.items Child many)
    fills_own =
        subst (λ n. LaneFills (sub i) n many (title_of (part_at new.room.held.items Child).slot) (samples_of new.room.left.items Child many) (samples_of new.room.right.items Child many)) stays
        (subst (λ r. LaneFills (sub i) (s.now.ran (Sub i)) many (title_of (part_at new.room.held.items Child).slot) (samples_of r.left.items Child many) (samples_of r.right.items Child many)) (sym room) (record {
          slots = λ j. offer (moment_after setting sub (Sub i) (first_instants setting sub (Sub i) (s.now.ran (Sub i) + j))) Child;
          lane = (h.slots Child (child_root setting sub i (first_instants setting sub (Sub i) opened.n) own world.roots offered)).given offered;
          titled = λ j low. (h.slots Child (child_root setting sub i (first_instants setting sub (Sub i) opened.n) own world.roots offered)).titled offered j low ∙ own_title;
          filled = λ m low. meaning_step setting sub i (s.now.ran (Sub i) + m) world.meaning;
        }))

    fills_kept : (k : ℕ) → k < length setting.plan.nodes → clock_of setting k ≡ clock → k < i → through k ≡ true
        → LaneFills (sub k) (progress.ran (Sub k)) many (title_of (part_at new.room.held.items (crossfaded setting.plan.nodes k)).slot) (samples_of new.room.left.items (crossfaded setting.plan.nodes k) many) (samples_of new.room.right.items (crossfaded setting.plan.nodes k) many)
    fills_kept k low here less so =
        let child = s.inside k low here less so in
        let out : clock_of setting (crossfaded setting.plan.nodes k) ≡ Sub i → ⊥ = λ e. sub_apart k (λ same. omega (arith, same, less)) (sym child ∙ e) in
        let under : rank (clock_of setting (crossfaded setting.plan.nodes k)) ≤ rank (Sub i) =
        (let d = deeper k low in let u = up in let e : rank (clock_of setting (crossfaded setting.plan.nodes k)) ≡ rank (Sub k) = ap rank child in let l : rank (clock_of setting k) ≡ rank clock = ap rank here in omega (arith, d, u, e, l)) in
        subst (λ xs. LaneFills (sub k) (progress.ran (Sub k)) many (title_of (part_at new.room.held.items (crossfaded setting.plan.nodes k)).slot) xs (samples_of new.room.right.items (crossfaded setting.plan.nodes k) many))
        (sym (ap (λ r. samples_of r.left.items (crossfaded setting.plan.nodes k) many) room ∙ samples.left (crossfaded setting.plan.nodes k) out under ∙ ap (λ xs. samples_of xs.items (crossfaded setting.plan.nodes k) many) kept_left))
        (subst (λ ys. LaneFills (sub k) (progress.ran (Sub k)) many (title_of (part_at new.room.held.items (crossfaded setting.plan.nodes k)).slot) (samples_of all.room.left.items (crossfaded setting.plan.nodes k) many) ys)
        (sym (ap (λ r. samples_of r.right.items (crossfaded setting.plan.nodes k) many) room ∙ samples.right (crossfaded setting.plan.nodes k) out under ∙ ap (λ xs. samples_of xs.items (crossfaded setting.plan.nodes k) many) kept_right))
        (subst (λ (h : Vec Part Global). LaneFills (sub k) (progress.ran (Sub k)) many (title_of (part_at h.items (crossfaded setting.plan.nodes k)).slot)
        (samples_of all.room.left.items (crossfaded setting.plan.nodes k) many) (samples_of all.room.right.items (crossfaded setting.plan.nodes k) many)) (sym held_new)
        (s.fills k low here less so)))

    pub subs_step : SubsMade setting sub rank clock many through (suc i) progress new
    subs_step = record {
      now = h.now;
      took = h.took ∙ s.took;
      stand = record {
        stand = λ k node state found stored above. h.stand.stand k node state found (sym (ap (λ xs. slice_get xs.items k) states) ∙ stored) (let u = up in omega (arith, u, above));
        taken = h.stand.taken;
        even = λ k fades above. h.stand.even k fades (let u = up in omega (arith, u, above));
        time = λ k time above at. time_all k time (let l = slice_get_within new.times.items k time at in omega (arith, l, in_new)) (omega (arith, above)) at;
        needed = needed_below setting sub rank (rank (Sub i)) (suc (suc (rank clock))) h.now (let u = up in omega (arith, u)) h.needed;
        kept = open_deep;
        laned = λ k low above. subst (λ r. HasLanes r.left.items r.right.items k) (sym room) (h.stand.laned k low (let u = up in omega (arith, u, above)));
      };
      needed = subst (λ n. RanAsNeeded setting sub rank n h.now) up h.needed;
      others = λ other low. h.others other (apart_low other low) (let u = up in omega (arith, u, low)) ∙ s.others other low;
      held = λ k low. h.held k (apart_low (clock_of setting k) low) (let u = up in omega (arith, u, low)) ∙ s.held k low;
      went = λ k low here less so. elim (same_place i k) [
        | inl same ↦ subst (λ j. h.now.ran (Sub j) ≡ progress.ran (Sub j) + many) same (h.once ∙ ap (λ n. n + many) stays)
        | inr apart ↦ beside k low (ap rank here) apart ∙ s.went k low here (omega (arith, less, apart)) so
      ];
      stayed = λ k low same not. elim (same_place i k) [
        | inl here ↦ absurd (false≢true (sym (not (ap (clock_of setting) (sym here) ∙ inside) (omega (arith, here))) ∙ ap through (sym here) ∙ is))
        | inr apart ↦ beside k low same apart ∙ s.stayed k low same (λ here less. not here (omega (arith, less)))
      ];
      time = time_all;
      kept = open_all;
      quiet = λ k j low here less so few. elim (same_place i k) [
        | inl same ↦ subst (λ m. calls_of setting sub (Sub m) (first_instants setting sub (Sub m) (progress.ran (Sub m) + j)) ≡ []) same
            (subst (λ n. calls_of setting sub (Sub i) (first_instants setting sub (Sub i) (n + j)) ≡ []) stays (h.quiet j few))
        | inr apart ↦ s.quiet k j low here (omega (arith, less, apart)) so few
      ];
      fills = λ k low here less so. elim (same_place i k) [
        | inl same ↦ subst (λ m. LaneFills (sub m) (progress.ran (Sub m)) many (title_of (part_at new.room.held.items (crossfaded setting.plan.nodes m)).slot) (samples_of new.room.left.items (crossfaded setting.plan.nodes m) many) (samples_of new.room.right.items (crossfaded setting.plan.nodes m) many)) same fills_own
        | inr apart ↦ fills_kept k low here (omega (arith, less, apart)) so
      ];
      inside = λ k low here less so. elim (same_place i k) [
        | inl same ↦ subst (λ m. clock_of setting (crossfaded setting.plan.nodes m) ≡ Sub m) same (child_inside setting sub i (first_instants setting sub (Sub i) opened.n) offered)
        | inr apart ↦ s.inside k low here (omega (arith, less, apart)) so
      ];
    }
