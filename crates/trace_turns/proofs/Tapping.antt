-- A call of the taps, by what its buffer met: so its buffer with all chunks would.
use Rattle.std.proofs.Common.{◌≡◌, ◌<◌, ◌≤◌, ◌+◌, ◌∙◌, ◌++◌, ℕ, zero, suc, Bool, true, false, Some, None, List, [], ◌∷◌, length, drop, slice_get, slice_index_or, inl, inr, refl, ap, sym, subst, arith, get_or-set_same, get_or-set_other, length-set, append-nil, append_assoc, length-append}
use Rattle.std.specs.Prelude.{slice_set}
use Rattle.std.proofs.lemmas.Bool.{cases_eq}
use Rattle.std.proofs.lemmas.List.{drop-append-le, get_or_default}
use Rattle.frame_core.specs.declared.cell.Cell.{Cell}
use Rattle.frame_core.specs.Calls.{Call, Took, Given}
use Rattle.trace_turns.specs.declared.told.Taken.{Taken}
use Rattle.trace_turns.specs.declared.told.Taken.TheVariants.{Chunk as GotChunk, Empty as IsEmpty, Waits as MustWait, Lost as IsLost, Never as NoTake}
use Rattle.trace_turns.specs.declared.told.Put.{Put}
use Rattle.trace_turns.specs.declared.told.Put.TheVariants.{Accepted as IsAccepted, Full as IsFullPut, Never as NoPut}
use Rattle.trace_turns.specs.declared.course.Course.{Course}
use Rattle.trace_turns.specs.declared.course.Course.TheVariants.{Goes, Waits, Fails}
use Rattle.trace_turns.specs.Answering.{AllStand, BufferState, IsRightPut, IsRightTake, PutsOn, SameBuffer, SameBuffers, TakesOn, is_list}
use Rattle.trace_turns.specs.Thin.{AreFull, HasLost, IsFull, TapsFollow}
use Rattle.trace_turns.proofs.Standing.{failed_more, puts_chunk, puts_fail, puts_full, takes_chunk, takes_fail, takes_none, takes_wait, waited_more}

-- one buffer changed
pub same_set : (states : List BufferState) (k : ℕ) (old new : BufferState) → k < length states → old ≡ slice_index_or states k old → SameBuffer old new → SameBuffers states (slice_set states k new)
same_set states k old new low is same = record {
  many = length-set states k new;
  each = λ j d within. elim (cases_eq j k) [
    | inl e ↦ (let now : slice_index_or (slice_set states k new) j d ≡ new = ap (λ n. slice_index_or (slice_set states k new) n d) e ∙ get_or-set_same states k new d low in
        let was : slice_index_or states j d ≡ old = ap (λ n. slice_index_or states n d) e ∙ get_or_default states k d old low ∙ sym is in
        subst (λ (x : BufferState). SameBuffer x (slice_index_or (slice_set states k new) j d)) (sym was) (subst (SameBuffer old) (sym now) same))
    | inr other ↦ (let now : slice_index_or (slice_set states k new) j d ≡ slice_index_or states j d = get_or-set_other states k j new d other in
        subst (SameBuffer (slice_index_or states j d)) (sym now)
        (record { capacity = refl; puts = refl; takes = refl; fed = refl; read = refl; opened = refl; gone = refl; put_on = omega arith; take_on = omega arith; got_on = omega arith; there = ([], sym (append-nil (slice_index_or states j d).chunks)) }))
  ];
}

-- what a take and a put of a buffer tell
abbrev Took_of : List BufferState → List BufferState → ℕ → Taken → Type 0
Took_of states news k taken = (s : BufferState) × (news ≡ slice_set states k s) × ((d : BufferState) → TakesOn (slice_index_or states k d) taken s)

abbrev Put_to : List BufferState → List BufferState → ℕ → List Cell → Put → Type 0
Put_to states news k chunk put = (s : BufferState) × (news ≡ slice_set states k s) × ((d : BufferState) → PutsOn (slice_index_or states k d) chunk put s)

-- lists that are equal from some item on have the same ones there
get_later : {A : Type 0} (g n : ℕ) (xs ys : List A) → g ≤ n → length xs ≡ length ys → drop g xs ≡ drop g ys → slice_get xs n ≡ slice_get ys n
get_later zero n xs ys low long same = ap (λ l. slice_get l n) same
get_later (suc g) zero xs ys low long same = absurd (omega (arith, low))
get_later (suc g) (suc n) [] [] low long same = refl
get_later (suc g) (suc n) [] (y ∷ ys) low long same = absurd (omega (arith, long))
get_later (suc g) (suc n) (x ∷ xs) [] low long same = absurd (omega (arith, long))
get_later (suc g) (suc n) (x ∷ xs) (y ∷ ys) low long same = get_later g n xs ys (omega (arith, low)) (omega (arith, long)) same

-- a buffer, and the same with all its chunks
module _ (s f : BufferState) (fill : IsFull s f) where
  no_gone : f.gone ≡ 0
  no_gone = ap (λ (x : BufferState). x.gone) fill.same

  got_same : f.got ≡ s.got
  got_same = ap (λ (x : BufferState). x.got) fill.same

  list_same : is_list f ≡ is_list s
  list_same = ap (λ (x : BufferState). is_list x) fill.same

  right_take : (gets : Bool) → IsRightTake s gets → IsRightTake f gets
  right_take true right = (let many = fill.many in let got = got_same in omega (arith, many, got, right))
  right_take false right = fill.many ∙ right ∙ sym got_same

  take_right : (gets : Bool) → IsRightTake f gets → IsRightTake s gets
  take_right true right = (let many = fill.many in let got = got_same in omega (arith, many, got, right))
  take_right false right = sym fill.many ∙ right ∙ got_same

  room_same : f.capacity + f.got ≡ s.capacity + s.got
  room_same = ap (λ (x : BufferState). x.capacity + x.got) fill.same

  right_put : (accepts : Bool) → IsRightPut s accepts → IsRightPut f accepts
  right_put true right = (let many = fill.many in let room = room_same in omega (arith, many, room, right))
  right_put false right = fill.many ∙ right ∙ sym room_same

  put_right : (accepts : Bool) → IsRightPut f accepts → IsRightPut s accepts
  put_right true right = (let many = fill.many in let room = room_same in omega (arith, many, room, right))
  put_right false right = sym fill.many ∙ right ∙ room_same

  told_take : (gets : Bool) → slice_get s.takes s.take_at ≡ Some gets → slice_get f.takes f.take_at ≡ Some gets
  told_take gets e = ap (λ (x : BufferState). slice_get x.takes x.take_at) fill.same ∙ e

  told_put : (accepts : Bool) → slice_get s.puts s.put_at ≡ Some accepts → slice_get f.puts f.put_at ≡ Some accepts
  told_put accepts e = ap (λ (x : BufferState). slice_get x.puts x.put_at) fill.same ∙ e

  -- what a take leaves of it
  abbrev pub full_taken : BufferState → (taken : Taken) → BufferState
  full_taken d (GotChunk chunk) = record f { take_at = suc f.take_at; got = suc f.got }
  full_taken d IsEmpty = record f { take_at = suc f.take_at }
  full_taken d MustWait = f
  full_taken d IsLost = f
  full_taken d NoTake = f

  pub takes_full : (t d : BufferState) (taken : Taken) → (taken ≡ IsLost → ⊥) → TakesOn s taken t → TakesOn f taken (full_taken d taken)
  takes_full t d (GotChunk chunk) other on = (
    told_take true on.0,
    ap (slice_get f.chunks) got_same ∙ get_later s.gone s.got f.chunks s.chunks on.2 fill.many fill.rest ∙ on.1,
    (let none = no_gone in omega (arith, none)),
    refl,
  )
  takes_full t d IsEmpty other on = (told_take false on.0, (λ list. right_take false (on.1 (sym list_same ∙ list))), refl)
  takes_full t d MustWait other on = (told_take true on.0, (let many = fill.many in let got = got_same in let few = on.1 in omega (arith, many, got, few)), list_same ∙ on.2, refl)
  takes_full t d IsLost other on = absurd (other refl)
  takes_full t d NoTake other on = ((λ gets told right. on.0 gets (sym (ap (λ (x : BufferState). slice_get x.takes x.take_at) fill.same) ∙ told) (λ list. take_right gets (right (list_same ∙ list)))), refl)

  pub fills_taken : (t d : BufferState) (taken : Taken) → TakesOn s taken t → IsFull t (full_taken d taken)
  fills_taken t d (GotChunk chunk) on = subst (λ (x : BufferState). IsFull x (record f { take_at = suc f.take_at; got = suc f.got })) (sym on.3)
      (record { same = ap (λ (x : BufferState). record x { take_at = suc x.take_at; got = suc x.got }) fill.same; many = fill.many; rest = fill.rest; low = fill.low })
  fills_taken t d IsEmpty on = subst (λ (x : BufferState). IsFull x (record f { take_at = suc f.take_at })) (sym on.2)
      (record { same = ap (λ (x : BufferState). record x { take_at = suc x.take_at }) fill.same; many = fill.many; rest = fill.rest; low = fill.low })
  fills_taken t d MustWait on = subst (λ (x : BufferState). IsFull x f) (sym on.3) fill
  fills_taken t d IsLost on = subst (λ (x : BufferState). IsFull x f) (sym on.1) fill
  fills_taken t d NoTake on = subst (λ (x : BufferState). IsFull x f) (sym on.1) fill

  -- and a put
  abbrev pub full_put : List Cell → Put → BufferState
  full_put chunk IsAccepted = record f { put_at = suc f.put_at; chunks = f.chunks ++ chunk ∷ [] }
  full_put chunk (IsFullPut back) = record f { put_at = suc f.put_at }
  full_put chunk NoPut = f

  pub puts_full_on : (t : BufferState) (chunk : List Cell) (put : Put) → PutsOn s chunk put t → PutsOn f chunk put (full_put chunk put)
  puts_full_on t chunk IsAccepted on = (told_put true on.0, (λ list. right_put true (on.1 (sym list_same ∙ list))), refl)
  puts_full_on t chunk (IsFullPut back) on = (on.0, told_put false on.1, (λ list. right_put false (on.2 (sym list_same ∙ list))), refl)
  puts_full_on t chunk NoPut on = ((λ accepts told right. on.0 accepts (sym (ap (λ (x : BufferState). slice_get x.puts x.put_at) fill.same) ∙ told) (λ list. put_right accepts (right (list_same ∙ list)))), refl)

  pub fills_put : (t : BufferState) (chunk : List Cell) (put : Put) → PutsOn s chunk put t → IsFull t (full_put chunk put)
  fills_put t chunk IsAccepted on = subst (λ (x : BufferState). IsFull x (record f { put_at = suc f.put_at; chunks = f.chunks ++ chunk ∷ [] })) (sym on.2) (record {
    same = ap (λ (x : BufferState). record x { put_at = suc x.put_at; chunks = f.chunks ++ chunk ∷ [] }) fill.same;
    many = length-append f.chunks (chunk ∷ []) ∙ ap (λ n. n + 1) fill.many ∙ sym (length-append s.chunks (chunk ∷ []));
    rest = drop-append-le s.gone f.chunks (chunk ∷ []) (let many = fill.many in let low = fill.low in omega (arith, many, low)) ∙ ap (λ (l : List (List Cell)). l ++ chunk ∷ []) fill.rest ∙ sym (drop-append-le s.gone s.chunks (chunk ∷ []) fill.low);
    low = (let low = fill.low in let size = length-append s.chunks (chunk ∷ []) in omega (arith, low, size));
  })
  fills_put t chunk (IsFullPut back) on = subst (λ (x : BufferState). IsFull x (record f { put_at = suc f.put_at })) (sym on.3)
      (record { same = ap (λ (x : BufferState). record x { put_at = suc x.put_at }) fill.same; many = fill.many; rest = fill.rest; low = fill.low })
  fills_put t chunk NoPut on = subst (λ (x : BufferState). IsFull x f) (sym on.1) fill

-- of all buffers one changed
set_full : (states full : List BufferState) (k : ℕ) (s f : BufferState) → AreFull states full → IsFull s f → k < length states → AreFull (slice_set states k s) (slice_set full k f)
set_full states full k s f fills fill low = record {
  many = length-set full k f ∙ fills.many ∙ sym (length-set states k s);
  each = λ j d within. (let size = length-set states k s in let there : j < length states = omega (arith, within, size) in elim (cases_eq j k) [
    | inl e ↦ subst (λ n. IsFull (slice_index_or (slice_set states k s) n d) (slice_index_or (slice_set full k f) n d)) (sym e)
        (subst (λ (x : BufferState). IsFull x (slice_index_or (slice_set full k f) k d)) (sym (get_or-set_same states k s d low))
        (subst (IsFull s) (sym (get_or-set_same full k f d (let many = fills.many in omega (arith, low, many)))) fill))
    | inr other ↦ subst (λ (x : BufferState). IsFull x (slice_index_or (slice_set full k f) j d)) (sym (get_or-set_other states k j s d other))
        (subst (IsFull (slice_index_or states j d)) (sym (get_or-set_other full k j f d other)) (fills.each j d there))
  ]);
}

module _ (course : Course) (states news : List BufferState) (k : ℕ) (low : k < length states) (goes : course ≡ Goes) where
  abbrev of_goes : (calls : List Call) → TapsFollow course states calls → TapsFollow Goes states calls
  of_goes calls follow = subst (λ (c : Course). TapsFollow c states calls) goes follow

  to_goes : (calls : List Call) → TapsFollow Goes news calls → TapsFollow course news calls
  to_goes calls follow = subst (λ (c : Course). TapsFollow c news calls) (sym goes) follow

  module _ (taken : Taken) (t : Took_of states news k taken) (calls : List Call) (follow : TapsFollow course states calls) where
    abbrev all : List BufferState
    all = (of_goes calls follow).0

    fills : AreFull states all
    fills = (of_goes calls follow).1

    stand : AllStand all calls
    stand = (of_goes calls follow).2

    there : k < length all
    there = (let many = fills.many in omega (arith, low, many))

    fill : (d : BufferState) → IsFull (slice_index_or states k d) (slice_index_or all k d)
    fill d = fills.each k d low

    on : (d : BufferState) (now : Taken) → taken ≡ now → TakesOn (slice_index_or states k d) now t.0
    on d now is = subst (λ (x : Taken). TakesOn (slice_index_or states k d) x t.0) is (t.2 d)

    -- with all its chunks
    abbrev taken_full : Taken → BufferState
    taken_full now = full_taken (slice_index_or states k t.0) (slice_index_or all k t.0) (fill t.0) t.0 now

    fills_now : (now : Taken) → taken ≡ now → AreFull news (slice_set all k (taken_full now))
    fills_now now is = subst (λ (l : List BufferState). AreFull l (slice_set all k (taken_full now))) (sym t.1)
        (set_full states all k t.0 (taken_full now) fills (fills_taken (slice_index_or states k t.0) (slice_index_or all k t.0) (fill t.0) t.0 t.0 now (on t.0 now is)) low)

    on_full : (now : Taken) → taken ≡ now → (now ≡ IsLost → ⊥) → TakesOn (slice_index_or all k t.0) now (taken_full now)
    on_full now is other = takes_full (slice_index_or states k t.0) (slice_index_or all k t.0) (fill t.0) t.0 t.0 now other (on t.0 now is)

    pub took_chunk : (chunk : List Cell) → taken ≡ GotChunk chunk → TapsFollow course news (calls ++ Took k (Some chunk) ∷ [])
    took_chunk chunk is = to_goes (calls ++ Took k (Some chunk) ∷ []) (
      slice_set all k (taken_full (GotChunk chunk)),
      fills_now (GotChunk chunk) is,
      takes_chunk all calls stand k there (taken_full (GotChunk chunk)) t.0 chunk (on_full (GotChunk chunk) is (λ e. cc)),
    )

    pub took_none : taken ≡ IsEmpty → TapsFollow course news (calls ++ Took k None ∷ [])
    took_none is = to_goes (calls ++ Took k None ∷ []) (slice_set all k (taken_full IsEmpty), fills_now IsEmpty is, takes_none all calls stand k there (taken_full IsEmpty) t.0 (on_full IsEmpty is (λ e. cc)))

    pub took_wait : taken ≡ MustWait → TapsFollow Waits news (calls ++ Took k None ∷ [])
    took_wait is = (
      slice_set all k (slice_index_or all k t.0),
      fills_now MustWait is,
      inl (takes_wait all calls stand k there (slice_index_or all k t.0) t.0 (λ d. let w = on_full MustWait is (λ e. cc) in
          subst (λ (x : BufferState). TakesOn x MustWait (slice_index_or all k t.0)) (get_or_default all k t.0 d there) w)),
    )

    pub took_lost : taken ≡ IsLost → TapsFollow Waits news (calls ++ Took k None ∷ [])
    took_lost is = (
      slice_set all k (slice_index_or all k t.0),
      fills_now IsLost is,
      inr (record {
        front = calls;
        behind = [];
        buffer = k;
        are = refl;
        known = subst (λ (l : List BufferState). k < length l) (sym t.1) (let size = length-set states k t.0 in omega (arith, low, size));
        lost = λ d. (let o = on d IsLost is in let here : slice_index_or news k d ≡ slice_index_or states k d = ap (λ (l : List BufferState). slice_index_or l k d) t.1 ∙ get_or-set_same states k t.0 d low ∙ o.1 in
            subst (λ (x : BufferState). x.got < x.gone) (sym here) o.0);
      }),
    )

    pub took_fail : taken ≡ NoTake → TapsFollow Fails news (calls ++ Took k None ∷ [])
    took_fail is = (slice_set all k (taken_full NoTake), fills_now NoTake is, takes_fail all calls stand k there (taken_full NoTake) t.0 (on_full NoTake is (λ e. cc)))

  module _ (chunk : List Cell) (put : Put) (t : Put_to states news k chunk put) (calls : List Call) (follow : TapsFollow course states calls) where
    abbrev every : List BufferState
    every = (of_goes calls follow).0

    fills_every : AreFull states every
    fills_every = (of_goes calls follow).1

    stand_every : AllStand every calls
    stand_every = (of_goes calls follow).2

    there_too : k < length every
    there_too = (let many = fills_every.many in omega (arith, low, many))

    fill_here : IsFull (slice_index_or states k t.0) (slice_index_or every k t.0)
    fill_here = fills_every.each k t.0 low

    put_on : (now : Put) → put ≡ now → PutsOn (slice_index_or states k t.0) chunk now t.0
    put_on now is = subst (λ (x : Put). PutsOn (slice_index_or states k t.0) chunk x t.0) is (t.2 t.0)

    abbrev put_full_now : Put → BufferState
    put_full_now now = full_put (slice_index_or states k t.0) (slice_index_or every k t.0) fill_here chunk now

    fills_after : (now : Put) → put ≡ now → AreFull news (slice_set every k (put_full_now now))
    fills_after now is = subst (λ (l : List BufferState). AreFull l (slice_set every k (put_full_now now))) (sym t.1)
        (set_full states every k t.0 (put_full_now now) fills_every (fills_put (slice_index_or states k t.0) (slice_index_or every k t.0) fill_here t.0 chunk now (put_on now is)) low)

    put_on_full : (now : Put) → put ≡ now → PutsOn (slice_index_or every k t.0) chunk now (put_full_now now)
    put_on_full now is = puts_full_on (slice_index_or states k t.0) (slice_index_or every k t.0) fill_here t.0 chunk now (put_on now is)

    pub put_accepted : put ≡ IsAccepted → TapsFollow course news (calls ++ Given k chunk true ∷ [])
    put_accepted is = to_goes (calls ++ Given k chunk true ∷ []) (
      slice_set every k (put_full_now IsAccepted),
      fills_after IsAccepted is,
      puts_chunk every calls stand_every k there_too (put_full_now IsAccepted) t.0 chunk (put_on_full IsAccepted is),
    )

    pub put_full : (back : List Cell) → put ≡ IsFullPut back → (back ≡ chunk) × TapsFollow course news (calls ++ Given k chunk false ∷ [])
    put_full back is = (
      (put_on (IsFullPut back) is).0,
      to_goes (calls ++ Given k chunk false ∷ []) (
        slice_set every k (put_full_now (IsFullPut back)),
        fills_after (IsFullPut back) is,
        puts_full every calls stand_every k there_too (put_full_now (IsFullPut back)) t.0 chunk back (put_on_full (IsFullPut back) is),
      ),
    )

    pub put_fail : put ≡ NoPut → TapsFollow Fails news (calls ++ Given k chunk true ∷ [])
    put_fail is = (slice_set every k (put_full_now NoPut), fills_after NoPut is, puts_fail every calls stand_every k there_too (put_full_now NoPut) t.0 chunk (put_on_full NoPut is))

  -- a full buffer gives back what it was given
  pub full_back : (chunk back : List Cell) (put : Put) → Put_to states news k chunk put → put ≡ IsFullPut back → back ≡ chunk
  full_back chunk back put t is = (let on : PutsOn (slice_index_or states k t.0) chunk (IsFullPut back) t.0 = subst (λ (x : Put). PutsOn (slice_index_or states k t.0) chunk x t.0) is (t.2 t.0) in on.0)

lost_more : (states full : List BufferState) (calls more : List Call) → HasLost states full calls → HasLost states full (calls ++ more)
lost_more states full calls more is = record {
  front = is.front;
  behind = is.behind ++ more;
  buffer = is.buffer;
  are = ap (λ (l : List Call). l ++ more) is.are ∙ append_assoc is.front (Took is.buffer None ∷ is.behind) more;
  known = is.known;
  lost = is.lost;
}

-- calls behind one without a right answer
pub stays_waiting : (course : Course) (states : List BufferState) → course ≡ Waits → (calls more : List Call) → TapsFollow course states calls → TapsFollow course states (calls ++ more)
stays_waiting course states is calls more follow =
    let so : TapsFollow Waits states calls = subst (λ (c : Course). TapsFollow c states calls) is follow in
    subst (λ (c : Course). TapsFollow c states (calls ++ more)) (sym is) (so.0, so.1, elim so.2 [ inl waited ↦ inl (waited_more so.0 calls more waited) | inr lost ↦ inr (lost_more states so.0 calls more lost) ])

pub stays_failed : (course : Course) (states : List BufferState) → course ≡ Fails → (calls more : List Call) → TapsFollow course states calls → TapsFollow course states (calls ++ more)
stays_failed course states is calls more follow =
    let so : TapsFollow Fails states calls = subst (λ (c : Course). TapsFollow c states calls) is follow in
    subst (λ (c : Course). TapsFollow c states (calls ++ more)) (sym is) (so.0, so.1, failed_more so.0 calls more so.2)
