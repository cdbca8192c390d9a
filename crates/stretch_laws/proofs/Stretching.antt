-- The instants of a stretch, one behind another.
use Rattle.std.proofs.Common.{◌≡◌, ◌<◌, ◌≤◌, ◌∙◌, ◌%◌, ℕ, zero, suc, List, ◌∷◌, length, Bool, true, false, cond, arith, refl, ap, nat_eq}
use Rattle.std.specs.Prelude.{is_some, not, ◌&&◌, ◌||◌, slice_index_or}
use Rattle.std.proofs.lemmas.Bool.{false≢true, true≢false}
use Rattle.plan_core.specs.declared.node.Node.{Node}
use Rattle.plan_core.specs.Plans.{AreNodes}
use Rattle.clock_infer.specs.declared.clock_map.NodeClock.{NodeClock}
use Rattle.frame_core.specs.Slots.{Slot, is_first, is_inner}
use Rattle.op_leaf.specs.Readers.{after_cell, read_by}
use Rattle.stream_meaning.specs.Operators.{Reads}
use Rattle.stream_meaning.specs.Instants.{Setting, Moment, Reading, choices, gives_before, demanded, gives, last_pick, moment_after, offer, part_at, position, read_on, reading_after, reading_at, work_at}
use Rattle.stretch_laws.specs.Stretches.{IsLike, IsNode, IsOn, IsStretch, going_on}
use Rattle.stretch_laws.proofs.Works.{inner_first}
use Rattle.stretch_laws.proofs.Following.{is_like, no_tick}

-- what an instant that comes j instants behind the first one has of it
pub record IsAlike (j : ℕ) (first later : Moment) : Type 0 where
  pub gave : (i : ℕ) → gives later i ≡ gives first i
  pub there : (i : ℕ) → is_some (offer later i) ≡ is_some (offer first i)
  pub picks : (i : ℕ) → gives first i ≡ true → (part_at later.parts i).pick ≡ (part_at first.parts i).pick
  pub same : j ≡ 0 → later ≡ first
  pub inner : 0 < j → (i : ℕ) → gives first i ≡ true → is_inner (offer later i) ≡ true

alike_self : (first : Moment) → IsAlike 0 first first
alike_self first = record { gave = λ i. refl; there = λ i. refl; picks = λ i g. refl; same = λ e. refl; inner = λ some i g. absurd (omega (arith, some)) }

and_left : (a b : Bool) → (a && b) ≡ true → a ≡ true
and_left true b e = refl
and_left false b e = e

alike : (j : ℕ) (first later : Moment) → IsLike first later → IsAlike (suc j) first later
alike j first later like = record {
  gave = λ i. ap (λ now. demanded later i && now) (like.slots i).there ∙ ap (λ now. now && is_some (offer first i)) (ap (λ ds. slice_index_or ds i false) like.demands);
  there = λ i. (like.slots i).there;
  picks = λ i g. like.picks i (and_left (demanded first i) (is_some (offer first i)) g);
  same = λ e. absurd (omega (arith, e));
  inner = λ some i g. like.inner i g;
}

-- one instant more
count_more : (gave : Bool) (n : ℕ) → gave ≡ true → cond gave (suc n) n ≡ suc n
count_more true n e = refl
count_more false n e = absurd (false≢true e)

count_same : {A : Type 0} (gave : Bool) (a b : A) → gave ≡ false → cond gave a b ≡ b
count_same true a b e = absurd (true≢false e)
count_same false a b e = refl

count_taken : {A : Type 0} (gave : Bool) (a b : A) → gave ≡ true → cond gave a b ≡ a
count_taken true a b e = refl
count_taken false a b e = absurd (false≢true e)

choice_more : (gave begins : Bool) (n : ℕ) → gave ≡ true → cond (gave && begins) (suc n) n ≡ cond begins (suc n) n
choice_more true begins n e = refl
choice_more false begins n e = absurd (false≢true e)

choice_same : (gave begins : Bool) (n : ℕ) → gave ≡ false → cond (gave && begins) (suc n) n ≡ n
choice_same true begins n e = absurd (true≢false e)
choice_same false begins n e = refl

goes_more : (gave there : Bool) (n : ℕ) → gave ≡ true → cond (gave || not there) (suc n) n ≡ suc n
goes_more true there n e = refl
goes_more false there n e = absurd (false≢true e)

goes_same : (gave there : Bool) (n : ℕ) → gave ≡ false → there ≡ true → cond (gave || not there) (suc n) n ≡ n
goes_same true there n e t = absurd (true≢false e)
goes_same false true n e t = refl
goes_same false false n e t = absurd (false≢true t)

reads_more : (gave : Bool) (reading : Reading) → gave ≡ true → (read_on gave reading).reader ≡ after_cell reading.reader
reads_more true reading e = refl
reads_more false reading e = absurd (false≢true e)

reads_same : (gave : Bool) (reading : Reading) → gave ≡ false → read_on gave reading ≡ reading
reads_same true reading e = absurd (true≢false e)
reads_same false reading e = refl

module _ (setting : Setting) (sub : ℕ → ℕ → List Slot) (clock : NodeClock) (past : List Moment) (instants : ℕ) (nodes : AreNodes setting.plan.nodes)
    (stretch : IsStretch setting sub clock past instants) where
  abbrev First : Moment
  First = moment_after setting sub clock past

  on_start : IsOn setting sub clock past 0 past
  on_start = record {
    long = omega arith;
    given = λ i g. omega arith;
    kept = λ i g. refl;
    picked = λ i g some. absurd (omega (arith, some));
    stayed = λ i g. refl;
    chosen = λ i g some. absurd (omega (arith, some));
    unchosen = λ i g. refl;
    passed = λ i g. omega arith;
    held = λ i g there. refl;
    read = λ i node buffer is at some g. absurd (omega (arith, some));
    unread = λ i node buffer is at some g. absurd (omega (arith, some));
  }

  -- a reader at the instant that comes next
  now : (j : ℕ) (later : List Moment) → j < instants → IsOn setting sub clock past j later → (j ≡ 0 → later ≡ past) → (i : ℕ) (node : Node) (buffer : ℕ) → IsNode setting clock i node
      → work_at setting i node ≡ Reads buffer → (reading_at setting buffer (length later) (reading_after setting i buffer later)).reader
      ≡ cond (gives First i) (read_by j (reading_at setting buffer (length past) (reading_after setting i buffer past)).reader) (reading_at setting buffer (length past) (reading_after setting i buffer past)).reader
  now zero later within on start i node buffer is at =
      ap (λ ms. (reading_at setting buffer (length ms) (reading_after setting i buffer ms)).reader) (start refl) ∙ same (gives First i)
    where
      same : (gave : Bool) → (reading_at setting buffer (length past) (reading_after setting i buffer past)).reader
          ≡ cond gave (reading_at setting buffer (length past) (reading_after setting i buffer past)).reader (reading_at setting buffer (length past) (reading_after setting i buffer past)).reader
      same true = refl
      same false = refl
  now (suc j) later within on start i node buffer is at =
      ap (λ (r : Reading). r.reader) (no_tick (setting.answers buffer) (reading_after setting i buffer later) (nat_eq (length later % setting.plan.frame) 0)
      (ap (λ n. nat_eq (n % setting.plan.frame) 0) on.long ∙ stretch.ticks i node buffer (suc j) is at (omega arith) within))
      ∙ by (gives First i) refl
    where
      by : (gave : Bool) → gives First i ≡ gave → (reading_after setting i buffer later).reader
          ≡ cond gave (read_by (suc j) (reading_at setting buffer (length past) (reading_after setting i buffer past)).reader) (reading_at setting buffer (length past) (reading_after setting i buffer past)).reader
      by true g = on.read i node buffer is at (omega arith) g
      by false g = on.unread i node buffer is at (omega arith) g

  -- of the instants of a stretch the first one alone counts as a choice
  counted : (j : ℕ) (later : List Moment) (moment : Moment) → (j ≡ 0 → later ≡ past) → IsAlike j First moment → IsOn setting sub clock past j later
      → (i : ℕ) → gives First i ≡ true → cond (is_first (offer moment i)) (suc (choices later i)) (choices later i)
      ≡ cond (is_first (offer First i)) (suc (choices past i)) (choices past i)
  counted zero later moment start like on i g =
      ap (λ m. cond (is_first (offer m i)) (suc (choices later i)) (choices later i)) (like.same refl)
      ∙ ap (λ ms. cond (is_first (offer First i)) (suc (choices ms i)) (choices ms i)) (start refl)
  counted (suc j) later moment start like on i g =
      ap (λ begins. cond begins (suc (choices later i)) (choices later i)) (inner_first (offer moment i) (like.inner (omega arith) i g))
      ∙ on.chosen i g (omega arith)

  on_next : (j : ℕ) (later : List Moment) (moment : Moment) → j < instants → (j ≡ 0 → later ≡ past) → IsAlike j First moment → IsOn setting sub clock past j later
      → IsOn setting sub clock past (suc j) (moment ∷ later)
  on_next j later moment within start like on = record {
    long = (let long = on.long in omega (arith, long));
    given = λ i g. count_more (gives moment i) (gives_before later i) (like.gave i ∙ g) ∙ (let e = on.given i g in omega (arith, e));
    kept = λ i g. count_same (gives moment i) (suc (gives_before later i)) (gives_before later i) (like.gave i ∙ g) ∙ on.kept i g;
    picked = λ i g some. count_taken (gives moment i) (part_at moment.parts i).pick (last_pick later i) (like.gave i ∙ g) ∙ like.picks i g;
    stayed = λ i g. count_same (gives moment i) (part_at moment.parts i).pick (last_pick later i) (like.gave i ∙ g) ∙ on.stayed i g;
    chosen = λ i g some. choice_more (gives moment i) (is_first (offer moment i)) (choices later i) (like.gave i ∙ g) ∙ counted j later moment start like on i g;
    unchosen = λ i g. choice_same (gives moment i) (is_first (offer moment i)) (choices later i) (like.gave i ∙ g) ∙ on.unchosen i g;
    passed = λ i g. goes_more (gives moment i) (is_some (offer moment i)) (position later i) (like.gave i ∙ g) ∙ (let e = on.passed i g in omega (arith, e));
    held = λ i g there. goes_same (gives moment i) (is_some (offer moment i)) (position later i) (like.gave i ∙ g) (like.there i ∙ there) ∙ on.held i g there;
    read = λ i node buffer is at some g.
        reads_more (gives moment i) (reading_at setting buffer (length later) (reading_after setting i buffer later)) (like.gave i ∙ g)
        ∙ ap after_cell (now j later within on start i node buffer is at ∙ count_taken (gives First i) _ _ g);
    unread = λ i node buffer is at some g.
        ap (λ (r : Reading). r.reader) (reads_same (gives moment i) (reading_at setting buffer (length later) (reading_after setting i buffer later)) (like.gave i ∙ g))
        ∙ now j later within on start i node buffer is at ∙ count_same (gives First i) _ _ g;
  }

  starts : (j : ℕ) → j ≡ 0 → going_on setting sub clock j past ≡ past
  starts zero e = refl
  starts (suc j) e = absurd (omega (arith, e))

  alike_at : (j : ℕ) → j < instants → IsOn setting sub clock past j (going_on setting sub clock j past) → IsAlike j First (moment_after setting sub clock (going_on setting sub clock j past))
  alike_at zero within on = alike_self First
  alike_at (suc j) within on = alike j First _ (is_like setting sub clock past (going_on setting sub clock (suc j) past) instants (suc j) nodes stretch (omega arith) within on)

  is_on : (j : ℕ) → j < instants → IsOn setting sub clock past j (going_on setting sub clock j past)
  is_on zero within = on_start
  is_on (suc j) within =
      on_next j (going_on setting sub clock j past) (moment_after setting sub clock (going_on setting sub clock j past)) (omega (arith, within)) (starts j)
      (alike_at j (omega (arith, within)) (is_on j (omega (arith, within)))) (is_on j (omega (arith, within)))

  pub on_all : (j : ℕ) → j ≤ instants → IsOn setting sub clock past j (going_on setting sub clock j past)
  on_all zero within = on_start
  on_all (suc j) within =
      on_next j (going_on setting sub clock j past) (moment_after setting sub clock (going_on setting sub clock j past)) (omega (arith, within)) (starts j)
      (alike_at j (omega (arith, within)) (is_on j (omega (arith, within)))) (is_on j (omega (arith, within)))

  pub alike_all : (j : ℕ) → 0 < j → j < instants → IsLike First (moment_after setting sub clock (going_on setting sub clock j past))
  alike_all j some within = is_like setting sub clock past (going_on setting sub clock j past) instants j nodes stretch some within (is_on j within)
