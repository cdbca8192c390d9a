-- The readers of a clock begin, one node at a time.
use Rattle.std.proofs.Common.{◌≡◌, ◌<◌, ◌∙◌, ◌&&◌, ◌++◌, ◌%◌, ℕ, suc, Bool, true, false, Some, None, Option, List, [], length, nat_eq, set, slice_get, append-nil, arith, refl, ap, sym, subst, inl, inr}
use Rattle.std.proofs.lemmas.Bool.{cases_lt, true≢false}
use Rattle.std.proofs.lemmas.Option.{slice_get_within}
use Rattle.plan_core.specs.declared.node.Node.{Node}
use Rattle.clock_infer.specs.declared.clock_map.NodeClock.{NodeClock}
use Rattle.frame_core.specs.Slots.{Slot}
use Rattle.frame_core.specs.Calls.{Adds, Call, Answer}
use Rattle.stream_meaning.specs.Operators.{Reads}
use Rattle.stream_meaning.specs.Instants.{Setting, Moment, lies_in, reading_after, work_at}
use Rattle.stream_meaning.specs.Calls.{HasAnswers, IsBegin, after_calls, answers_in, takes_in}
use Rattle.stream_meaning.proofs.Answering.{after_calls-then, answers_first, answers_in-append, answers_then, begin_joined, joined_skip}
use Rattle.node_states.specs.declared.state.NodeState.{NodeState}
use Rattle.node_states.specs.States.{StateStands, reading_by, reads, reads_at, reads_in}
use Rattle.node_states.proofs.Chunks.{adds_none, adds_then}
use Rattle.clock_nodes.specs.declared.scene.Scene.{Scene}
use Rattle.clock_nodes.specs.Nodes.{IsFirst}
use Rattle.clock_nodes.specs.Scenes.{setting_over}
use Rattle.clock_nodes.specs.States.{ClockStands, IsIn}
use Rattle.clock_instants.specs.Takes.{HasBegun, HasOwnReaders, HaveBegun, HaveTaken, HaveTakenSome, NodeBegan, NodeTookSome, begun_by, begun_in, takes_below}
use Rattle.clock_nodes.proofs.Places.{same_or_other, slice_get-set_other, slice_get-set_same}

-- the readers of a clock below node i have begun, by these calls
pub record AreBegunBelow (setting : Setting) (sub : ℕ → ℕ → List Slot) (clock : NodeClock) (past : List Moment) (filled : ℕ → ℕ) (front : ℕ → List Answer)
    (more : List Call) (i : ℕ) (states : List NodeState) : Type 0 where
  pub below : (j : ℕ) (node : Node) (state : NodeState) → j < i → IsIn setting clock j node → slice_get states j ≡ Some state
      → StateStands setting sub past (begun_in setting clock filled j) j (work_at setting j node) state
  pub calls : more ≡ takes_below setting clock past i
  pub taken : (j buffer : ℕ) (node : Node) → j < i → IsIn setting clock j node → work_at setting j node ≡ Reads buffer
      → (reading_by setting j buffer past (suc (length past))).taken ≡ length (after_calls front more buffer)
  pub others : (buffer : ℕ) → ((j : ℕ) (node : Node) → j < i → IsIn setting clock j node → work_at setting j node ≡ Reads buffer → ⊥) → answers_in buffer more ≡ []

pub record Beginning {T : Type 0} (stands : T → List Call → Type 0) (scene : Scene) (clock : NodeClock)
    (old now : List NodeState) (taps_old taps_now : T) (i : ℕ) : Type 0 where
  pub more : List Call
  pub taps : Adds stands taps_old taps_now more
  pub begun : (other : Setting) (sub : ℕ → ℕ → List Slot) (past : List Moment) (filled : ℕ → ℕ) (front : ℕ → List Answer) →
      let setting = setting_over scene other in
      HasOwnReaders setting → nat_eq (length past % setting.plan.frame) 0 ≡ true → HasAnswers setting (after_calls front more)
      → ClockStands setting sub clock past filled old → HaveTaken setting clock past filled front
      → AreBegunBelow setting sub clock past filled front more i now

none_in : (setting : Setting) (clock : NodeClock) (past : List Moment) (j : ℕ) (inside : Bool) (found : Option Node) → inside ≡ false → takes_in setting inside past j found ≡ []
none_in setting clock past j inside None e = refl
none_in setting clock past j true (Some node) e = absurd (true≢false e)
none_in setting clock past j false (Some node) e = refl

own_in : (setting : Setting) (clock : NodeClock) (past : List Moment) (i : ℕ) (node : Node) → IsIn setting clock i node
    → takes_in setting true past i (Some node) ≡ takes_in setting (lies_in setting clock i) past i (slice_get setting.plan.nodes i)
own_in setting clock past i node is =
    ap (λ (b : Bool). takes_in setting b past i (Some node)) (sym is.inside) ∙ ap (λ (found : Option Node). takes_in setting (lies_in setting clock i) past i found) (sym is.there)

begun_own : (setting : Setting) (clock : NodeClock) (filled : ℕ → ℕ) (i : ℕ) (node : Node) → IsIn setting clock i node
    → begun_by (reads (work_at setting i node)) (filled i) ≡ begun_in setting clock filled i
begun_own setting clock filled i node is =
    ap (λ (found : Option Node). begun_by (reads_in setting i found) (filled i)) (sym is.there)
    ∙ ap (λ (b : Bool). begun_by (b && reads_at setting i) (filled i)) (sym is.inside)

module _ (setting : Setting) (sub : ℕ → ℕ → List Slot) (clock : NodeClock) (past : List Moment) (filled : ℕ → ℕ) (front : ℕ → List Answer) where
  skip : (more : List Call) (i n : ℕ) (states : List NodeState) → IsFirst setting.clocks clock i n
      → AreBegunBelow setting sub clock past filled front more i states → AreBegunBelow setting sub clock past filled front more n states
  skip more i n states first so = record {
    below = λ j node state low inside found. so.below j node state (less j node low inside) inside found;
    calls = so.calls ∙ sym (joined_skip (λ j. takes_in setting (lies_in setting clock j) past j (slice_get setting.plan.nodes j)) i n first.low
        (λ j low high. none_in setting clock past j (lies_in setting clock j) (slice_get setting.plan.nodes j) (first.skips j low high)));
    taken = λ j buffer node low inside work. so.taken j buffer node (less j node low inside) inside work;
    others = λ buffer none. so.others buffer (λ j node low inside work. none j node (let up = first.low in omega (arith, low, up)) inside work);
  }
    where
      less : (j : ℕ) (node : Node) → j < n → IsIn setting clock j node → j < i
      less j node low inside = elim (cases_lt j i) [
        | inl under ↦ under
        | inr high ↦ absurd (true≢false (sym inside.inside ∙ first.skips j high low))
      ]

  module _ (own : HasOwnReaders setting) (had : HaveTaken setting clock past filled front) (more one : List Call) (i : ℕ) (node : Node) (states : List NodeState) (new : NodeState)
      (inside : IsIn setting clock i node) (so : AreBegunBelow setting sub clock past filled front more i states) where
    -- no node below reads what node i reads
    none_below : (buffer : ℕ) → work_at setting i node ≡ Reads buffer → answers_in buffer more ≡ []
    none_below buffer work = so.others buffer (λ j other low in_clock same. let e = own.each j i buffer other node in_clock.there inside.there same work in omega (arith, low, e))

    pub taken_here : (buffer : ℕ) → work_at setting i node ≡ Reads buffer → (reading_after setting i buffer past).taken ≡ length (after_calls front more buffer)
    taken_here buffer work = had.taken i buffer node inside work
        ∙ ap length (sym (append-nil (front buffer)) ∙ ap (λ (answers : List Answer). front buffer ++ answers) (sym (none_below buffer work)))

    pub even_here : reads (work_at setting i node) ≡ true → filled i ≡ length past
    even_here is = had.even i inside.inside (ap (reads_in setting i) inside.there ∙ is)

    module _ (within : i < length states) (step : HasBegun setting sub past (filled i) i (work_at setting i node) (after_calls front more) one new) where
      here : (state : NodeState) → slice_get (set states i new) i ≡ Some state → StateStands setting sub past (begun_in setting clock filled i) i (work_at setting i node) state
      here state found =
          let put : Some new ≡ Some state = sym (slice_get-set_same states i new within) ∙ found in
          let same : new ≡ state = cc in
          subst (λ (n : ℕ). StateStands setting sub past n i (work_at setting i node) state) (begun_own setting clock filled i node inside)
          (subst (λ (s : NodeState). StateStands setting sub past (begun_by (reads (work_at setting i node)) (filled i)) i (work_at setting i node) s) same step.stands)

      same_node : (j : ℕ) (other : Node) → i ≡ j → IsIn setting clock j other → other ≡ node
      same_node j other e in_clock =
          let two : Some other ≡ Some node = sym in_clock.there ∙ ap (slice_get setting.plan.nodes) (sym e) ∙ inside.there in cc

      same_taken : (j buffer : ℕ) (other : Node) → j < i → IsIn setting clock j other → work_at setting j other ≡ Reads buffer → length (after_calls front more buffer) ≡ length (after_calls front (more ++ one) buffer)
      same_taken j buffer other low in_clock work =
          let none = step.others buffer (λ mine. let e = own.each j i buffer other node in_clock.there inside.there work mine in omega (arith, low, e)) in
          ap length (sym (append-nil (after_calls front more buffer)) ∙ ap (λ (answers : List Answer). after_calls front more buffer ++ answers) (sym none)
          ∙ ap (λ (f : ℕ → List Answer). f buffer) (sym (after_calls-then front more one)))

      step_one : AreBegunBelow setting sub clock past filled front (more ++ one) (suc i) (set states i new)
      step_one = record {
        below = λ j other state low in_clock found. elim (same_or_other i j) [
          | inl same ↦ (let is = same_node j other same in_clock in
              subst (λ (n : Node). StateStands setting sub past (begun_in setting clock filled j) j (work_at setting j n) state) (sym is)
              (subst (λ (k : ℕ). slice_get (set states i new) k ≡ Some state → StateStands setting sub past (begun_in setting clock filled k) k (work_at setting k node) state) same (here state) found))
          | inr apart ↦ so.below j other state (omega (arith, low, apart)) in_clock (sym (slice_get-set_other states i j new apart) ∙ found)
        ];
        calls = ap (λ (cs : List Call). cs ++ one) so.calls ∙ ap (λ (cs : List Call). takes_below setting clock past i ++ cs) (step.calls ∙ own_in setting clock past i node inside);
        taken = λ j buffer other low in_clock work. elim (same_or_other i j) [
          | inl same ↦ (let is = same_node j other same in_clock in
              let mine : work_at setting i node ≡ Reads buffer = ap (λ (k : ℕ). work_at setting k node) same ∙ ap (work_at setting j) (sym is) ∙ work in
              subst (λ (k : ℕ). (reading_by setting k buffer past (suc (length past))).taken ≡ length (after_calls front (more ++ one) buffer)) same
              (step.taken buffer mine ∙ ap (λ (f : ℕ → List Answer). length (f buffer)) (sym (after_calls-then front more one))))
          | inr apart ↦ (let less : j < i = omega (arith, low, apart) in so.taken j buffer other less in_clock work ∙ same_taken j buffer other less in_clock work)
        ];
        others = λ buffer none.
            answers_in-append buffer more one
            ∙ ap (λ (answers : List Answer). answers ++ answers_in buffer one) (so.others buffer (λ j other low in_clock work. none j other (omega (arith, low)) in_clock work))
            ∙ step.others buffer (λ work. none i node (omega arith) inside work);
      }

module _ {T : Type 0} (stands : T → List Call → Type 0) (scene : Scene) (clock : NodeClock) (old : List NodeState) (a : T) where
  pub beginning_none : (n : ℕ) → IsFirst scene.clocks.now clock 0 n → Beginning stands scene clock old old a a n
  beginning_none n first = record {
    more = [];
    taps = adds_none stands a;
    begun = λ other sub past filled front own starts has stand had.
        skip (setting_over scene other) sub clock past filled front [] 0 n old first (record {
          below = λ j node state low inside found. absurd (omega (arith, low));
          calls = refl;
          taken = λ j buffer node low inside work. absurd (omega (arith, low));
          others = λ buffer none. refl;
        });
  }

  -- one node more has begun
  pub beginning_more : (now : List NodeState) (b c : T) (i n : ℕ) (node : Node) (state new : NodeState)
      → slice_get scene.plan.now.nodes i ≡ Some node → ((other : Setting) → lies_in (setting_over scene other) clock i ≡ true) → i < length now
      → slice_get now i ≡ Some state → slice_get now i ≡ slice_get old i → IsFirst scene.clocks.now clock (suc i) n
      → NodeBegan stands scene i state new b c
      → Beginning stands scene clock old now a b i → Beginning stands scene clock old (set now i new) a c n
  beginning_more now b c i n node state new found lies within at left first one so = record {
    more = so.more ++ one.more;
    taps = adds_then stands a b c so.more one.more so.taps one.taps;
    begun = λ other sub past filled front own starts has stand had.
        let S = setting_over scene other in
        let inside : IsIn S clock i node = record { there = found; inside = lies other } in
        let before = so.begun other sub past filled front own starts (answers_first S front so.more one.more has) stand had in
        skip S sub clock past filled front (so.more ++ one.more) (suc i) n (set now i new) first
        (step_one S sub clock past filled front own had so.more one.more i node now new inside before within
        (one.begun other sub past (filled i) node (after_calls front so.more) found starts (answers_then S front so.more one.more has)
        (stand.each i node state inside (sym left ∙ at))
        (even_here S sub clock past filled front own had so.more one.more i node now new inside before)
        (taken_here S sub clock past filled front own had so.more one.more i node now new inside before)));
  }

  pub beginning_all : (now : List NodeState) (b : T) (i : ℕ) → i ≡ length scene.plan.now.nodes → Beginning stands scene clock old now a b i → HaveBegun stands scene clock old now a b
  beginning_all now b i all so = record {
    more = so.more;
    taps = so.taps;
    begun = λ other sub past filled front own starts has stand had.
        let S = setting_over scene other in
        let done = so.begun other sub past filled front own starts has stand had in
        let low : (j : ℕ) (node : Node) → IsIn S clock j node → j < i = λ j node inside. (let below = slice_get_within scene.plan.now.nodes j node inside.there in omega (arith, below, all)) in
        record {
          stand = record { each = λ j node state inside found. done.below j node state (low j node inside) inside found };
          calls = done.calls ∙ ap (takes_below S clock past) all;
          taken = λ j buffer node inside work. done.taken j buffer node (low j node inside) inside work;
          others = λ buffer none. done.others buffer (λ j node less inside work. none j node inside work);
        };
  }

  pub beginning_stopped : (now : List NodeState) (b c : T) (i : ℕ) (node : Node) (state : NodeState)
      → slice_get scene.plan.now.nodes i ≡ Some node → ((other : Setting) → lies_in (setting_over scene other) clock i ≡ true)
      → slice_get now i ≡ Some state → slice_get now i ≡ slice_get old i
      → NodeTookSome stands scene i state b c
      → Beginning stands scene clock old now a b i → HaveTakenSome stands scene clock old a c
  beginning_stopped now b c i node state found lies at left one so = record {
    made = so.more ++ one.made;
    taps = adds_then stands a b c so.more one.made so.taps one.taps;
    begins = λ other sub past filled front own starts has stand had.
        let S = setting_over scene other in
        let inside : IsIn S clock i node = record { there = found; inside = lies other } in
        let before = so.begun other sub past filled front own starts (answers_first S front so.more one.made has) stand had in
        let begins = one.begins other sub past (filled i) node (after_calls front so.more) found (answers_then S front so.more one.made has)
        (stand.each i node state inside (sym left ∙ at))
        (even_here S sub clock past filled front own had so.more one.made i node now state inside before)
        (taken_here S sub clock past filled front own had so.more one.made i node now state inside before) in
        subst (λ (cs : List Call). IsBegin (cs ++ one.made) (takes_below S clock past (length scene.plan.now.nodes))) (sym before.calls)
        (begin_joined (λ j. takes_in S (lies_in S clock j) past j (slice_get scene.plan.now.nodes j)) i (length scene.plan.now.nodes) one.made (slice_get_within scene.plan.now.nodes i node found)
        (subst (λ (cs : List Call). IsBegin one.made cs) (own_in S clock past i node inside) begins));
  }
