-- A tick of a clock that is run over buffers which answer as a text tells.
use Rattle.std.proofs.Common.{◌≡◌, ◌<◌, ◌≤◌, ◌+◌, ◌-◌, ◌*◌, ◌/◌, ◌%◌, ◌∙◌, ◌++◌, ◌⊎◌, ◌&&◌, ℕ, zero, suc, Bool, true, false, cond, is_some, nat_eq, Some, None, List, [], ◌∷◌, length, drop, map, take, slice_get, slice_index_or, inl, inr, refl, ap, sym, subst, arith, suc-mul, append_assoc, append-nil, length-append, true≢false}
use Rattle.std.specs.Prelude.{All}
use mathlib.Core.Path.{fun_ext}
use Rattle.std.proofs.lemmas.Bool.{cases_lt, cases_eq}
use Rattle.std.proofs.lemmas.Bool.Decides.{nat_tests}
use Rattle.std.proofs.lemmas.List.{length-take-le}
use Rattle.std.proofs.lemmas.List.Elements.{All-cons, All-head, All-nil, All-tail}
use Rattle.std.proofs.lemmas.Nat.{div-mul-add, mod-mul-add}
use Rattle.std.proofs.Math.Nat.{min-eq_left, min-eq_right}
use Rattle.std.proofs.Math.Seq.{drop-append_seam}
use Rattle.clock_infer.specs.declared.clock_map.ClockMap.{ClockMap}
use Rattle.frame_core.specs.declared.cell.Cell.{Cell}
use Rattle.frame_core.specs.Frames.{somes}
use Rattle.frame_core.specs.Calls.{Call, Took, Given, puts_to, takes_of, Answer}
use Rattle.stream_meaning.specs.Instants.{Setting, answered}
use Rattle.stream_meaning.specs.Calls.{answers_in, calls_of_tick, gives_of_tick, takes_of_tick}
use Rattle.stream_meaning.specs.Settings.{IsSetting}
use Rattle.run_records.specs.Outputs.{first_calls}
use Rattle.run_records.specs.Buffers.{feeder, reader}
use Rattle.run_records.specs.Owning.{IsOwn}
use Rattle.run_records.specs.Records.{capacity_of, start}
use Rattle.run_records.proofs.Flattening.{puts-append, takes-append}
use Rattle.run_records.proofs.Owning.{own_tick}
use Rattle.stream_meaning.proofs.Answering.{answers_in-append, joined_same}
use Rattle.trace_records.specs.Clocks.{AreAnswered, AreInOrder, AreWhole, CanCome, HasReplayed, IsFront, Log, Suits, Waits, buffer_of, got_in, puts_in, takes_in}
use Rattle.trace_records.specs.Passes.{HasCome, HasTurned, IsFormed, IsHalted, IsMadeBy, IsRefused, got_then, nothing, ticks_in}
use Rattle.trace_turns.specs.Answering.{AllStand, BufferState, CanComeBy, HasFailed, HasWaited, SameBuffer, SameBuffers, StandsFor, is_list}
use Rattle.trace_turns.specs.declared.ends.Ends.{Ends}
use Rattle.trace_turns.specs.Turns.{AreEnds, AreOf, IsAtEnd, chunks_of, no_state}
use Rattle.trace_records.proofs.Fronts.{agree_all, front_long, front_none, head_same, no_items, takes_cons}
use Rattle.trace_records.proofs.Alike.{answered_upto, never, same_ticks, waits}
use Rattle.trace_records.proofs.Completing.{start_zero}
use Rattle.trace_records.proofs.Histories.{cut}
use Rattle.trace_records.proofs.Recorded.{map_long, no_puts, no_takes, own_at, own_joined}
use Rattle.trace_turns.proofs.Standing.{got_is, told_take}
use Rattle.trace_records.proofs.Ticking.{gives_take_none, takes_put_none}

front_take : {A : Type 0} (n : ℕ) (xs : List A) → IsFront (take n xs) xs
front_take zero xs = front_none xs
front_take (suc n) [] = front_none []
front_take (suc n) (x ∷ xs) = (let more = front_take n xs in record { rest = more.rest; are = ap (λ l. x ∷ l) more.are })

list_is : (s : BufferState) → s.fed ≡ true → s.read ≡ true → is_list s ≡ true
list_is s f r = ap (λ (x : Bool). x && s.read) f ∙ r

module _ (base : Setting) (text : ℕ → Log) (m : ℕ) (chunks : ℕ → List (List Cell)) (states : List BufferState) (of : AreOf base text m chunks states) where
  abbrev B : ℕ
  B = length base.plan.buffers

  -- they stay so under calls
  pub of_same : (others : List BufferState) → SameBuffers states others → AreOf base text m chunks others
  of_same others is = record {
    many = is.many ∙ of.many;
    puts = λ b d known. (each b d known).puts ∙ of.puts b d known;
    takes = λ b d known. (each b d known).takes ∙ of.takes b d known;
    capacity = λ b d known. (each b d known).capacity ∙ of.capacity b d known;
    fed = λ b d known e. (each b d known).fed ∙ of.fed b d known e;
    not_fed = λ b d known e. (each b d known).fed ∙ of.not_fed b d known e;
    read = λ b d known e. (each b d known).read ∙ of.read b d known e;
    not_read = λ b d known e. (each b d known).read ∙ of.not_read b d known e;
    anew = λ b d known e. (each b d known).opened ∙ of.anew b d known e;
    there = λ b d known e. (each b d known).opened ∙ of.there b d known e;
    front = λ b d known e. (let f = of.front b d known e in let t = (each b d known).there in
        (f.0 ++ t.0, t.1 ∙ ap (λ (l : List (List Cell)). l ++ t.0) f.1 ∙ append_assoc (chunks b) f.0 t.0));
  }
    where
      each : (b : ℕ) (d : BufferState) → b < B → SameBuffer (slice_index_or states b d) (slice_index_or others b d)
      each b d known = (let many = of.many in is.each b d (omega (arith, known, many)))

  module _ (calls : List Call) (stand : AllStand states calls) (own : All (IsOwn base m) calls) (d : BufferState) where
    abbrev at : ℕ → BufferState
    at b = slice_index_or states b d

    here : (b : ℕ) → b < B → StandsFor (at b) b calls
    here b known = (let many = of.many in stand b d (omega (arith, known, many)))

    -- the chunks of a buffer that the clock does not feed
    pub chunks_kept : (b : ℕ) → b < B → (feeder base b ≡ m → ⊥) → (at b).chunks ≡ chunks b
    chunks_kept b known other =
        let f = of.front b d known other in
        let none : drop (at b).opened (at b).chunks ≡ [] = (here b known).fed ∙ ap somes (no_puts base b m other calls own) in
        let cut : f.0 ≡ [] = sym (drop-append_seam (chunks b) f.0) ∙ ap (λ n. drop n (chunks b ++ f.0)) (sym (of.there b d known other)) ∙ ap (drop (at b).opened) (sym f.1) ∙ none in
        f.1 ∙ ap (λ (l : List (List Cell)). chunks b ++ l) cut ∙ append-nil (chunks b)

    -- and of one that it feeds
    pub chunks_fed : (b : ℕ) → b < B → feeder base b ≡ m → (at b).chunks ≡ somes (puts_to b calls)
    chunks_fed b known fed = ap (λ n. drop n (at b).chunks) (sym (of.anew b d known fed)) ∙ (here b known).fed

    pub answered_by : AreAnswered base text chunks calls
    answered_by = record {
      puts = λ b known. (let s = here b known in subst (λ (l : List Bool). IsFront (map is_some (puts_to b calls)) l) (of.puts b d known) (subst (λ (l : List Bool). IsFront l (at b).puts) (sym s.puts) (front_take (at b).put_at (at b).puts)));
      takes = λ b known. (let s = here b known in subst (λ (l : List Bool). IsFront (map is_some (takes_of b calls)) l) (of.takes b d known) (subst (λ (l : List Bool). IsFront l (at b).takes) (sym s.takes) (front_take (at b).take_at (at b).takes)));
      got = λ b known joins. elim (cases_eq (feeder base b) m) [
        | inl fed ↦ subst (λ (l : List Answer). IsFront (somes l) (chunks b)) (sym (no_takes base b m (λ read. joins (fed ∙ sym read)) calls own)) (front_none (chunks b))
        | inr other ↦ (let s = here b known in subst (λ (l : List (List Cell)). IsFront (somes (takes_of b calls)) l) (chunks_kept b known other)
            (subst (λ (l : List (List Cell)). IsFront l (at b).chunks) (sym s.got) (front_take (at b).got (at b).chunks)))
      ];
    }

    pub order_by : AreInOrder base calls
    order_by = record { each = λ front behind' call e known local. by front behind' call e known local (own_at base m front behind' call (subst (All (IsOwn base m)) e own)) }
      where
        both : (call : Call) → feeder base (buffer_of call) ≡ reader base (buffer_of call) → IsOwn base m call → (feeder base (buffer_of call) ≡ m) × (reader base (buffer_of call) ≡ m)
        both (Took b answer) local own = (local ∙ own, own)
        both (Given b chunk accepted) local own = (own, sym local ∙ own)

        by : (front behind' : List Call) (call : Call) → calls ≡ front ++ call ∷ behind' → buffer_of call < B → feeder base (buffer_of call) ≡ reader base (buffer_of call) → IsOwn base m call
            → Suits (capacity_of base (buffer_of call)) (somes (puts_to (buffer_of call) front)) (got_in (buffer_of call) front) call
        by front behind' call e known local own =
            let b = buffer_of call in
            let ends = both call local own in
            let list = list_is (at b) (of.fed b d known ends.0) (of.read b d known ends.1) in
            subst (λ n. Suits n (somes (puts_to b front)) (got_in b front) call) (of.capacity b d known) ((here b known).in_order list front behind' call e refl)

    -- what can come by the plan can come by the buffers
    pub can_by : (call : Call) → CanCome base text calls call → CanComeBy states calls call
    can_by call can =
        let many = of.many in
        record {
          puts = λ b e within. (let known : b < B = omega (arith, within, many) in subst (IsFront (map is_some (puts_to b (calls ++ call ∷ [])))) (sym (of.puts b e known)) (can.puts b known));
          takes = λ b e within. (let known : b < B = omega (arith, within, many) in subst (IsFront (map is_some (takes_of b (calls ++ call ∷ [])))) (sym (of.takes b e known)) (can.takes b known));
          suits = λ e within list.
              let b = buffer_of call in
              let known : b < B = omega (arith, within, many) in
              let parts = both_of (slice_index_or states b e).fed (slice_index_or states b e).read list in
              let fed : feeder base b ≡ m = elim (cases_eq (feeder base b) m) [
                | inl yes' ↦ yes'
                | inr other ↦ absurd (true≢false (sym parts.0 ∙ of.not_fed b e known other))
              ] in
              let read : reader base b ≡ m = elim (cases_eq (reader base b) m) [
                | inl yes' ↦ yes'
                | inr other ↦ absurd (true≢false (sym parts.1 ∙ of.not_read b e known other))
              ] in
              subst (λ n. Suits n (somes (puts_to b calls)) (got_in b calls) call) (sym (of.capacity b e known)) (can.suits known (fed ∙ sym read));
        }
      where
        both_of : (x y : Bool) → x && y ≡ true → (x ≡ true) × (y ≡ true)
        both_of true y e = (refl, e)
        both_of false y e = absurd (true≢false (sym e))

    -- a take that waits
    pub waits_by : (b : ℕ) → b < length states → IsOwn base m (Took b None) → ((e : BufferState) → slice_get (slice_index_or states b e).takes (slice_index_or states b e).take_at ≡ Some true)
        → ((e : BufferState) → length (slice_index_or states b e).chunks ≤ (slice_index_or states b e).got) → ((e : BufferState) → is_list (slice_index_or states b e) ≡ false) → Waits base text chunks calls (Took b None)
    waits_by b within read gets missing joins =
        let many = of.many in
        let known : b < B = omega (arith, within, many) in
        let other : feeder base b ≡ m → ⊥ = (λ fed. true≢false (sym (list_is (at b) (of.fed b d known fed) (of.read b d known read)) ∙ joins d)) in
        let s = here b known in
        record {
          buffer = b;
          known = known;
          take = refl;
          joins = λ local. other (local ∙ read);
          gets = λ answer can. (let told = told_take (at b) b calls s answer ((can_by (Took b answer) can).takes b d within) in
              let both : Some true ≡ Some (is_some answer) = sym (gets d) ∙ told in
              let one : true ≡ is_some answer = cc in sym one);
          missing = (let few = missing d in let long = ap (λ (l : List (List Cell)). length l) (chunks_kept b known other) in let number = got_is (at b) b calls s in omega (arith, few, long, number));
        }

front_nil : (xs ys : List Answer) → xs ++ ys ≡ [] → xs ≡ []
front_nil [] ys e = refl
front_nil (x ∷ xs) ys e = absurd (no_items x (xs ++ ys) (sym e))

-- a tick's calls up to a take have no puts
take_first : (takes gives front rest : List Call) (b c : ℕ) → takes ++ gives ≡ front ++ Took b None ∷ rest → takes_of b gives ≡ [] → puts_to c takes ≡ [] → puts_to c front ≡ []
take_first takes gives front rest b c e none no_put = elim (cases_lt (length takes) (length front)) [
  | inr low ↦ (let parts = cut takes gives front (Took b None ∷ rest) e low in
      front_nil (puts_to c front) (puts_to c parts.0) (sym (puts-append c front parts.0) ∙ ap (puts_to c) (sym parts.1) ∙ no_put))
  | inl high ↦ (let parts = cut front (Took b None ∷ rest) takes gives (sym e) (omega (arith, high)) in
      absurd (let all = ap (λ (l : List Answer). length l) (sym (takes-append b parts.0 (Took b None ∷ rest)) ∙ ap (takes_of b) parts.2 ∙ none) in
      let size = length-append (takes_of b parts.0) (takes_of b (Took b None ∷ rest)) in
      let one = ap (λ (l : List Answer). length l) (takes_cons b None rest) in omega (arith, all, size, one)))
]

-- one tick more
module _ (base : Setting) (m n : ℕ) (accepted : ℕ → ℕ → Bool) (calls : List Call) (are : IsMadeBy base m n accepted calls) (more : List Call) (kept : ℕ → Bool)
    (tick : (rest : ℕ → List Answer) → more ≡ calls_of_tick (answered base (λ b. (answers_in b calls ++ answers_in b more) ++ rest b)) kept m n) where
  abbrev pub accepted_then : ℕ → ℕ → Bool
  accepted_then t b = cond (nat_eq t n) (kept b) (accepted t b)

  world_same : (rest : ℕ → List Answer) → (λ (b : ℕ). (answers_in b calls ++ answers_in b more) ++ rest b) ≡ got_then (calls ++ more) rest
  world_same rest = fun_ext (λ b. ap (λ (l : List Answer). l ++ rest b) (sym (answers_in-append b calls more)))

  world_before : (rest : ℕ → List Answer) → got_then calls (λ b. answers_in b more ++ rest b) ≡ got_then (calls ++ more) rest
  world_before rest = fun_ext (λ b. sym (append_assoc (answers_in b calls) (answers_in b more) (rest b)) ∙ ap (λ (l : List Answer). l ++ rest b) (sym (answers_in-append b calls more)))

  pub made_more : IsMadeBy base m (suc n) accepted_then (calls ++ more)
  made_more rest =
      let g : ℕ → List Answer = got_then (calls ++ more) rest in
      let first : calls ≡ first_calls (answered base g) accepted m n = are (λ b. answers_in b more ++ rest b) ∙ ap (λ (h : ℕ → List Answer). first_calls (answered base h) accepted m n) (world_before rest) in
      let same : first_calls (answered base g) accepted m n ≡ first_calls (answered base g) accepted_then m n =
      joined_same (λ t. calls_of_tick (answered base g) (accepted t) m t) (λ t. calls_of_tick (answered base g) (accepted_then t) m t) n
      (λ t low. let off : nat_eq t n ≡ false = grind (arith, nat_tests, low) in ap (λ f. calls_of_tick (answered base g) f m t) (fun_ext (λ b. sym (ap (λ (s : Bool). cond s (kept b) (accepted t b)) off)))) in
      let last : more ≡ calls_of_tick (answered base g) (accepted_then n) m n = tick rest ∙ ap (λ (h : ℕ → List Answer). calls_of_tick (answered base h) kept m n) (world_same rest)
      ∙ ap (λ f. calls_of_tick (answered base g) f m n) (fun_ext (λ b. let on : nat_eq n n ≡ true = grind (arith, nat_tests) in sym (ap (λ (s : Bool). cond s (kept b) (accepted n b)) on))) in
      (λ i. (first ∙ same) i ++ last i)

pub own_made : (base : Setting) (map_of : ClockMap) → IsSetting base map_of → (m n : ℕ) (accepted : ℕ → ℕ → Bool) (calls : List Call) → IsMadeBy base m n accepted calls → All (IsOwn base m) calls
own_made base map_of is m n accepted calls are = subst (All (IsOwn base m)) (sym (are nothing))
    (own_joined base m (λ t. calls_of_tick (answered base (got_then calls nothing)) (accepted t) m t) (λ t. own_tick base map_of is (got_then calls nothing) (accepted t) m t) n)

pub own_front : (base : Setting) (m : ℕ) (front rest : List Call) → All (IsOwn base m) (front ++ rest) → All (IsOwn base m) front
own_front base m [] rest all = All-nil (IsOwn base m)
own_front base m (c ∷ front) rest all = All-cons (IsOwn base m) c front (All-head (IsOwn base m) c (front ++ rest) all) (own_front base m front rest (All-tail (IsOwn base m) c (front ++ rest) all))

no_width : (i W : ℕ) → W ≡ 0 → i * W ≡ 0
no_width i W e = ap (λ n. i * n) e ∙ (let z : i * 0 ≡ 0 = grind arith in z)

-- where a window ends with the next tick
pub border : (W N n i : ℕ) → start W N i < N → start W N (suc i) ≡ suc n → (i * W ≤ n) × (n < suc i * W) × ((suc n ≡ suc i * W) ⊎ (suc n ≡ N))
border W N n i tight ends =
    let m = suc-mul i W in
    elim (cases_lt N (i * W)) [
      | inl past ↦ absurd (let e = min-eq_left {n = N} {m = i * W} (omega (arith, past)) in omega (arith, e, tight))
      | inr within ↦ (let e = min-eq_right {n = i * W} {m = N} within in elim (cases_lt N (suc i * W)) [
        | inl less ↦ (let f = min-eq_left {n = N} {m = suc i * W} (omega (arith, less)) in (omega (arith, e, tight, f, ends), omega (arith, f, ends, less), inr (omega (arith, f, ends))))
        | inr full ↦ (let f = min-eq_right {n = suc i * W} {m = N} full in elim (cases_lt 0 W) [
          | inl some ↦ (omega (arith, f, ends, m, some), omega (arith, f, ends), inl (omega (arith, f, ends)))
          | inr none ↦ absurd (let z = no_width i W (omega (arith, none)) in omega (arith, f, ends, m, z, none))
        ])
      ])
    ]

-- the window in which a tick lies, by division
pub window_is : (W n i : ℕ) → i * W ≤ n → n < suc i * W → (n / W ≡ i) × (n % W ≡ n - i * W)
window_is W n i low high =
    let m = suc-mul i W in
    let r : n - i * W < W = omega (arith, low, high, m) in
    let e : i * W + (n - i * W) ≡ n = omega (arith, low) in
    (ap (λ k. k / W) (sym e) ∙ div-mul-add i W (n - i * W) r, ap (λ k. k % W) (sym e) ∙ mod-mul-add i W (n - i * W) r)

-- the calls of a tick more, over buffers that stood for those before it
module _ (base : Setting) (map_of : ClockMap) (is : IsSetting base map_of) (text : ℕ → Log) (W N m n : ℕ) (chunks : ℕ → List (List Cell)) (states others : List BufferState)
    (of : AreOf base text m chunks states) (changed : SameBuffers states others) (calls : List Call) (accepted : ℕ → ℕ → Bool) (are : IsMadeBy base m n accepted calls) (stand : AllStand states calls)
    (more : List Call) (kept : ℕ → Bool) (tick : (rest : ℕ → List Answer) → more ≡ calls_of_tick (answered base (λ b. (answers_in b calls ++ answers_in b more) ++ rest b)) kept m n) where
  abbrev Bs : ℕ
  Bs = length base.plan.buffers

  abbrev pub then_accepted : ℕ → ℕ → Bool
  then_accepted = accepted_then base m n accepted calls are more kept tick

  pub then_made : IsMadeBy base m (suc n) then_accepted (calls ++ more)
  then_made = made_more base m n accepted calls are more kept tick

  own_before : All (IsOwn base m) calls
  own_before = own_made base map_of is m n accepted calls are

  own_then : All (IsOwn base m) (calls ++ more)
  own_then = own_made base map_of is m (suc n) then_accepted (calls ++ more) then_made

  pub of_then : AreOf base text m chunks others
  of_then = of_same base text m chunks states of others changed

  abbrev d : BufferState
  d = no_state

  -- where each of them was answered
  module _ (stand_then : AllStand others (calls ++ more)) where
    answered_now : AreAnswered base text chunks (ticks_in base then_accepted (calls ++ more) m (suc n))
    answered_now = subst (AreAnswered base text chunks) (then_made nothing) (answered_by base text m chunks others of_then (calls ++ more) stand_then own_then d)

    order_now : AreInOrder base (ticks_in base then_accepted (calls ++ more) m (suc n))
    order_now = subst (AreInOrder base) (then_made nothing) (order_by base text m chunks others of_then (calls ++ more) stand_then own_then d)

    answered_old : AreAnswered base text chunks (ticks_in base accepted calls m n)
    answered_old = subst (AreAnswered base text chunks) (are nothing) (answered_by base text m chunks states of calls stand own_before d)

    order_old : AreInOrder base (ticks_in base accepted calls m n)
    order_old = subst (AreInOrder base) (are nothing) (order_by base text m chunks states of calls stand own_before d)

    ticks_stay : (t : ℕ) → t ≤ n → ticks_in base then_accepted (calls ++ more) m t ≡ ticks_in base accepted calls m t
    ticks_stay t low = same_ticks base map_of is text m chunks chunks (λ b known joins. agree_all (chunks b)) (got_then (calls ++ more) nothing) (got_then calls nothing) then_accepted accepted
        (suc n) n t (omega (arith, low)) low answered_now answered_old order_now order_old

    -- and the windows that end here have no answers left
    pub whole_then : (formed : IsFormed Bs W N text) (ends : List Ends) → ((b : ℕ) (e : Ends) → b < Bs → AreEnds (text b) (slice_index_or ends b e)) → AreWhole base text W N m n (λ t. ticks_in base accepted calls m t)
        → ((i : ℕ) → i < formed.count → start W N (suc i) ≡ suc n → (b : ℕ) (s : BufferState) (e : Ends) → b < Bs → IsAtEnd (slice_index_or others b s) (slice_index_or ends b e) i)
        → ((b : ℕ) → b < Bs → Ends) → AreWhole base text W N m (suc n) (λ t. ticks_in base then_accepted (calls ++ more) m t)
    whole_then formed ends are_ends whole at_ends pick = record {
      puts = λ j b low high known fed. elim (cases_lt n (start W N j)) [
        | inr before' ↦ ap (λ (l : List Call). length (puts_to b l)) (ticks_stay (start W N j) before') ∙ whole.puts j b before' high known fed
        | inl now ↦ put_end j b (omega (arith, low, now)) high known fed
      ];
      takes = λ j b low high known read. elim (cases_lt n (start W N j)) [
        | inr before' ↦ ap (λ (l : List Call). length (takes_of b l)) (ticks_stay (start W N j) before') ∙ whole.takes j b before' high known read
        | inl now ↦ take_end j b (omega (arith, low, now)) high known read
      ];
    }
      where
        some_same : (x y : ℕ) → Some x ≡ Some y → x ≡ y
        some_same x y e = cc

        put_end : (j b : ℕ) → start W N j ≡ suc n → j ≤ length (text b) → b < Bs → feeder base b ≡ m → length (puts_to b (ticks_in base then_accepted (calls ++ more) m (start W N j))) ≡ length (puts_in (take j (text b)))
        put_end zero b ends_here high known fed = absurd (let z = start_zero W N in omega (arith, z, ends_here))
        put_end (suc i) b ends_here high known fed =
            let many = formed.many b known in
            let s = slice_index_or others b d in
            let low : b < length others = (let size = of_then.many in omega (arith, known, size)) in
            let here = stand_then b d low in
            let long : length (puts_to b (calls ++ more)) ≡ s.put_at = sym (map_long is_some (puts_to b (calls ++ more))) ∙ ap (λ (l : List Bool). length l) here.puts ∙ length-take-le s.put_at s.puts here.put_low in
            let e = pick b known in
            let end = at_ends i (omega (arith, high, many)) ends_here b d e known in
            let told = (are_ends b e known).puts i (omega (arith, high)) in
            let same_end : s.put_at ≡ length (puts_in (take (suc i) (text b))) = some_same s.put_at _ (sym (end.puts (of_then.fed b d known fed)) ∙ told) in
            ap (λ t. length (puts_to b (ticks_in base then_accepted (calls ++ more) m t))) ends_here ∙ ap (λ (l : List Call). length (puts_to b l)) (sym (then_made nothing)) ∙ long ∙ same_end

        take_end : (j b : ℕ) → start W N j ≡ suc n → j ≤ length (text b) → b < Bs → reader base b ≡ m → length (takes_of b (ticks_in base then_accepted (calls ++ more) m (start W N j))) ≡ length (takes_in (take j (text b)))
        take_end zero b ends_here high known read = absurd (let z = start_zero W N in omega (arith, z, ends_here))
        take_end (suc i) b ends_here high known read =
            let many = formed.many b known in
            let s = slice_index_or others b d in
            let low : b < length others = (let size = of_then.many in omega (arith, known, size)) in
            let here = stand_then b d low in
            let long : length (takes_of b (calls ++ more)) ≡ s.take_at = sym (map_long is_some (takes_of b (calls ++ more))) ∙ ap (λ (l : List Bool). length l) here.takes ∙ length-take-le s.take_at s.takes here.take_low in
            let e = pick b known in
            let end = at_ends i (omega (arith, high, many)) ends_here b d e known in
            let told = (are_ends b e known).takes i (omega (arith, high)) in
            let same_end : s.take_at ≡ length (takes_in (take (suc i) (text b))) = some_same s.take_at _ (sym (end.takes (of_then.read b d known read)) ∙ told) in
            ap (λ t. length (takes_of b (ticks_in base then_accepted (calls ++ more) m t))) ends_here ∙ ap (λ (l : List Call). length (takes_of b l)) (sym (then_made nothing)) ∙ long ∙ same_end

    -- where a window that ends here has other answers the text is refused
    pub not_whole : (i b : ℕ) (ends : Ends) → n < N → start W N (suc i) ≡ suc n → i < length (text b) → b < Bs → AreEnds (text b) ends → (IsAtEnd (slice_index_or others b d) ends i → ⊥) → IsRefused base W N text chunks m
    not_whole i b ends less ends_here within known are_ends wrong = record {
      none = λ later given taken agree has. wrong (record {
        puts = λ fed. (let fed_is : feeder base b ≡ m = elim (cases_eq (feeder base b) m) [ inl yes' ↦ yes' | inr other ↦ absurd (true≢false (sym fed ∙ of_then.not_fed b d known other)) ] in
            are_ends.puts i within ∙ ap (λ k. Some k) (sym (has.whole.puts (suc i) b (omega (arith, less, ends_here)) within known fed_is)
            ∙ ap (λ t. length (puts_to b (first_calls (answered base given) taken m t))) ends_here ∙ ap (λ (l : List Call). length (puts_to b l)) (sym (both later given taken agree has)) ∙ put_long));
        takes = λ read. (let read_is : reader base b ≡ m = elim (cases_eq (reader base b) m) [ inl yes' ↦ yes' | inr other ↦ absurd (true≢false (sym read ∙ of_then.not_read b d known other)) ] in
            are_ends.takes i within ∙ ap (λ k. Some k) (sym (has.whole.takes (suc i) b (omega (arith, less, ends_here)) within known read_is)
            ∙ ap (λ t. length (takes_of b (first_calls (answered base given) taken m t))) ends_here ∙ ap (λ (l : List Call). length (takes_of b l)) (sym (both later given taken agree has)) ∙ take_long));
      });
    }
      where
        both : (later : ℕ → List (List Cell)) (given : ℕ → List Answer) (taken : ℕ → ℕ → Bool) → ((b : ℕ) → b < Bs → (rest : List (List Cell)) × (later b ≡ chunks b ++ rest)) → HasReplayed base text W N m N later given taken
            → calls ++ more ≡ first_calls (answered base given) taken m (suc n)
        both later given taken agree has = then_made nothing ∙ same_ticks base map_of is text m chunks later (λ c known' joins. inl (let f = agree c known' in record { rest = f.0; are = f.1 })) (got_then (calls ++ more) nothing) given then_accepted taken
            (suc n) N (suc n) (omega arith) less answered_now has.answered_so order_now has.in_order

        here : StandsFor (slice_index_or others b d) b (calls ++ more)
        here = stand_then b d (let size = of_then.many in omega (arith, known, size))

        put_long : length (puts_to b (calls ++ more)) ≡ (slice_index_or others b d).put_at
        put_long = sym (map_long is_some (puts_to b (calls ++ more))) ∙ ap (λ (l : List Bool). length l) here.puts ∙ length-take-le (slice_index_or others b d).put_at (slice_index_or others b d).puts here.put_low

        take_long : length (takes_of b (calls ++ more)) ≡ (slice_index_or others b d).take_at
        take_long = sym (map_long is_some (takes_of b (calls ++ more))) ∙ ap (λ (l : List Bool). length l) here.takes ∙ length-take-le (slice_index_or others b d).take_at (slice_index_or others b d).takes here.take_low

  -- where a call has no answer that can be right the text is refused
  pub failed_then : HasFailed others (calls ++ more) → n < N → IsRefused base W N text chunks m
  failed_then f less =
      let own_f : All (IsOwn base m) f.front = own_front base m f.front (f.call ∷ f.behind) (subst (All (IsOwn base m)) f.are own_then) in
      record {
        none = λ later given taken agree has.
            never base map_of is text m chunks later (λ c known joins. inl (let g = agree c known in record { rest = g.0; are = g.1 })) (got_then (calls ++ more) nothing) given then_accepted taken
            n N less f.front f.behind f.call (sym (then_made nothing) ∙ f.are) (answered_by base text m chunks others of_then f.front f.stand own_f d) (order_by base text m chunks others of_then f.front f.stand own_f d)
            has.answered_so has.in_order (λ other alike can. f.none other alike (can_by base text m chunks others of_then f.front f.stand own_f d other can));
      }

  -- where a take waits no chunk was put in the tick
  module _ (w : HasWaited others (calls ++ more)) where
    own_w : All (IsOwn base m) w.front
    own_w = own_front base m w.front (Took w.buffer None ∷ w.behind) (subst (All (IsOwn base m)) w.are own_then)

    -- the calls before the tick come before it
    parted : (left : List Call) × (w.front ≡ calls ++ left) × (left ++ Took w.buffer None ∷ w.behind ≡ more)
    parted = elim (cases_lt (length w.front) (length calls)) [
      | inr high ↦ cut w.front (Took w.buffer None ∷ w.behind) calls more (sym w.are) high
      | inl low ↦ absurd (
          let parts = cut calls more w.front (Took w.buffer None ∷ w.behind) w.are (omega (arith, low)) in
          by parts.0 parts.1 parts.2 (let long = ap (λ (l : List Call). length l) parts.1 in let size = length-append w.front parts.0 in omega (arith, low, long, size)))
    ]
      where
        by : (left : List Call) → calls ≡ w.front ++ left → left ++ more ≡ Took w.buffer None ∷ w.behind → 0 < length left → ⊥
        by [] e f some = omega (arith, some)
        by (x ∷ left) e f some =
            let b = w.buffer in
            let x_is : x ≡ Took b None = head_same x (Took b None) (left ++ more) w.behind f in
            let size = of_then.many in
            let sizes = changed.many in
            let before' = stand b d (let known = w.known in omega (arith, known, sizes)) in
            let after = w.stand b d w.known in
            let one : length (takes_of b calls) ≡ (slice_index_or states b d).take_at = sym (map_long is_some (takes_of b calls)) ∙ ap (λ (l : List Bool). length l) before'.takes
            ∙ length-take-le (slice_index_or states b d).take_at (slice_index_or states b d).takes before'.take_low in
            let two : length (takes_of b w.front) ≡ (slice_index_or others b d).take_at = sym (map_long is_some (takes_of b w.front)) ∙ ap (λ (l : List Bool). length l) after.takes
            ∙ length-take-le (slice_index_or others b d).take_at (slice_index_or others b d).takes after.take_low in
            let all : takes_of b calls ≡ takes_of b w.front ++ takes_of b (Took b None ∷ left) = ap (takes_of b) (e ∙ ap (λ (c : Call). w.front ++ c ∷ left) x_is) ∙ takes-append b w.front (Took b None ∷ left) in
            let count = ap (λ (l : List Answer). length l) all in
            let sum = length-append (takes_of b w.front) (takes_of b (Took b None ∷ left)) in
            let here = ap (λ (l : List Answer). length l) (takes_cons b None left) in
            let on = (changed.each b d (let known = w.known in omega (arith, known, sizes))).take_on in
            omega (arith, one, two, count, sum, here, on)

    pub waited_then : IsHalted base text chunks m n
    waited_then = record {
      given = got_then (calls ++ more) nothing;
      accepted = then_accepted;
      front = w.front;
      behind = w.behind;
      call = Took w.buffer None;
      at = sym (then_made nothing) ∙ w.are;
      answered_front = answered_by base text m chunks others of_then w.front w.stand own_w d;
      order_front = order_by base text m chunks others of_then w.front w.stand own_w d;
      waits = waits_by base text m chunks others of_then w.front w.stand own_w d w.buffer w.known (own_at base m w.front w.behind (Took w.buffer None) (subst (All (IsOwn base m)) w.are own_then)) w.gets w.missing w.joins;
    }

    no_put_left : (b : ℕ) → puts_to b parted.0 ≡ []
    no_put_left b =
        let g : ℕ → List Answer = λ c. (answers_in c calls ++ answers_in c more) ++ nothing c in
        take_first (takes_of_tick (answered base g) m n) (gives_of_tick (answered base g) kept m n) parted.0 w.behind w.buffer b (sym (parted.2 ∙ tick nothing))
        (gives_take_none (answered base g) kept w.buffer m n) (takes_put_none (answered base g) b m n)

    pub turned_wait : AreWhole base text W N m n (λ t. ticks_in base accepted calls m t) → n ≤ N → HasTurned base W N text m n chunks (chunks_of others)
    turned_wait whole low = record {
      come = record {
        calls = calls;
        accepted = accepted;
        within = low;
        are = are;
        replayed = record {
          answered_so = subst (AreAnswered base text chunks) (are nothing) (answered_by base text m chunks states of calls stand own_before d);
          in_order = subst (AreInOrder base) (are nothing) (order_by base text m chunks states of calls stand own_before d);
          whole = whole;
        };
        fed = λ b known fed. chunks_fed base text m chunks others of_then w.front w.stand own_w d b known fed
            ∙ ap somes (ap (puts_to b) parted.1 ∙ puts-append b calls parted.0 ∙ ap (λ (l : List Answer). puts_to b calls ++ l) (no_put_left b) ∙ append-nil (puts_to b calls));
        kept = λ b known other. chunks_kept base text m chunks others of_then w.front w.stand own_w d b known other;
      };
      halted = λ less. waited_then;
    }

-- where so many ticks were made, and none was begun behind them
pub come_to : (base : Setting) (map_of : ClockMap) → IsSetting base map_of → (text : ℕ → Log) (W N m n : ℕ) → n ≤ N → (chunks : ℕ → List (List Cell)) (states : List BufferState) → AreOf base text m chunks states
    → (calls : List Call) (accepted : ℕ → ℕ → Bool) → IsMadeBy base m n accepted calls → AllStand states calls → AreWhole base text W N m n (λ t. ticks_in base accepted calls m t)
    → HasCome base W N text m n chunks (chunks_of states)
come_to base map_of is text W N m n low chunks states of calls accepted are stand whole =
    let own = own_made base map_of is m n accepted calls are in
    record {
      calls = calls;
      accepted = accepted;
      within = low;
      are = are;
      replayed = record {
        answered_so = subst (AreAnswered base text chunks) (are nothing) (answered_by base text m chunks states of calls stand own no_state);
        in_order = subst (AreInOrder base) (are nothing) (order_by base text m chunks states of calls stand own no_state);
        whole = whole;
      };
      fed = λ b known fed. chunks_fed base text m chunks states of calls stand own no_state b known fed;
      kept = λ b known other. chunks_kept base text m chunks states of calls stand own no_state b known other;
    }

-- where all ticks were made
pub turned_all : (base : Setting) (map_of : ClockMap) → IsSetting base map_of → (text : ℕ → Log) (W N m : ℕ) (chunks : ℕ → List (List Cell)) (states : List BufferState) → AreOf base text m chunks states
    → (calls : List Call) (accepted : ℕ → ℕ → Bool) → IsMadeBy base m N accepted calls → AllStand states calls → AreWhole base text W N m N (λ t. ticks_in base accepted calls m t)
    → HasTurned base W N text m N chunks (chunks_of states)
turned_all base map_of is text W N m chunks states of calls accepted are stand whole = record {
  come = come_to base map_of is text W N m N (omega arith) chunks states of calls accepted are stand whole;
  halted = λ less. absurd (omega (arith, less));
}

-- Where a clock makes more ticks with these chunks, each call of a run over them is answered.
module _ (base : Setting) (map_of : ClockMap) (is : IsSetting base map_of) (text : ℕ → Log) (W N m n : ℕ) (chunks : ℕ → List (List Cell)) (states others : List BufferState)
    (of : AreOf base text m chunks states) (changed : SameBuffers states others) (calls : List Call) (accepted : ℕ → ℕ → Bool) (are : IsMadeBy base m n accepted calls) (stand : AllStand states calls)
    (more : List Call) (kept : ℕ → Bool) (tick : (rest : ℕ → List Answer) → more ≡ calls_of_tick (answered base (λ b. (answers_in b calls ++ answers_in b more) ++ rest b)) kept m n) (to : ℕ) (less : n < to)
    (given : ℕ → List Answer) (taken : ℕ → ℕ → Bool) (whole : HasReplayed base text W N m to chunks given taken) where
  pub never_waits : HasWaited others (calls ++ more) → ⊥
  never_waits w =
      let h = waited_then base map_of is text W N m n chunks states others of changed calls accepted are stand more kept tick w in
      let low = waits base map_of is text m chunks chunks (λ b known joins. agree_all (chunks b)) h.given given h.accepted taken n to less h.front h.behind h.call h.at h.answered_front h.order_front
      whole.answered_so whole.in_order h.waits in
      let b = h.waits.buffer in
      let early = answered_upto base map_of is text m chunks given taken (suc n) to less whole.answered_so in
      let most = front_long _ (chunks b) (early.got b h.waits.known h.waits.joins) in
      omega (arith, low, most)

  pub never_fails : HasFailed others (calls ++ more) → ⊥
  never_fails f =
      let made_then = made_more base m n accepted calls are more kept tick in
      let of_then = of_same base text m chunks states of others changed in
      let own_f : All (IsOwn base m) f.front = own_front base m f.front (f.call ∷ f.behind)
      (subst (All (IsOwn base m)) f.are (own_made base map_of is m (suc n) (accepted_then base m n accepted calls are more kept tick) (calls ++ more) made_then)) in
      never base map_of is text m chunks chunks (λ b known joins. agree_all (chunks b)) (got_then (calls ++ more) nothing) given (accepted_then base m n accepted calls are more kept tick) taken
      n to less f.front f.behind f.call (sym (made_then nothing) ∙ f.are) (answered_by base text m chunks others of_then f.front f.stand own_f no_state) (order_by base text m chunks others of_then f.front f.stand own_f no_state)
      whole.answered_so whole.in_order (λ other alike can. f.none other alike (can_by base text m chunks others of_then f.front f.stand own_f no_state other can))
