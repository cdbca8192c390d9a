-- A call on buffers that answer as a text tells comes at the end of each list of calls for which they stood.
use Rattle.std.proofs.Common.{◌≡◌, ◌≢◌, ◌<◌, ◌+◌, ◌∙◌, ◌++◌, ◌==◌, ℕ, zero, suc, Bool, true, false, cond, is_some, Some, None, List, [], ◌∷◌, length, drop, map, take, slice_get, slice_index_or, inl, inr, refl, ap, sym, subst, arith, append_assoc, append-nil, length-append, get_or-set_same, get_or-set_other, length-set}
use Rattle.std.specs.Prelude.{slice_set}
use Rattle.std.proofs.lemmas.Bool.{cases_eq}
use Rattle.std.proofs.lemmas.Bool.Decides.{nat_tests}
use Rattle.std.proofs.lemmas.List.{drop-append-le, length-take-le, map-append, take-append-le}
use Rattle.std.proofs.lemmas.Option.{slice_get_within}
use Rattle.frame_core.specs.declared.cell.Cell.{Cell}
use Rattle.frame_core.specs.Frames.{somes}
use Rattle.frame_core.specs.Calls.{Call, Took, Given, put_of, puts_to, takes_of, Answer}
use Rattle.run_records.proofs.Flattening.{puts-append, takes-append}
use Rattle.run_records.specs.Parting.{IsSameCall}
use Rattle.trace_turns.specs.declared.told.Taken.TheVariants.{Chunk as GotChunk, Empty as IsEmpty, Waits as MustWait, Never as NoTake}
use Rattle.trace_turns.specs.declared.told.Put.TheVariants.{Accepted as IsAccepted, Full as IsFull, Never as NoPut}
use Rattle.trace_records.specs.Clocks.{IsFront, Suits, buffer_of, got_in}
use Rattle.trace_turns.specs.Answering.{AllStand, BufferState, CanComeBy, HasFailed, HasWaited, IsRightPut, IsRightTake, PutsOn, StandsFor, TakesOn, is_list}
use Rattle.trace_records.proofs.Fronts.{Meets, head_same, meets, no_items, puts_cons, tail_same, takes_cons}
use Rattle.trace_records.proofs.Fronts.Meets.{before, same, behind}

take_snoc : {A : Type 0} (xs : List A) (n : ℕ) (x : A) → slice_get xs n ≡ Some x → take (suc n) xs ≡ take n xs ++ x ∷ []
take_snoc [] n x e = absurd cc
take_snoc (y ∷ xs) zero x e = (let is : y ≡ x = cc in ap (λ z. z ∷ []) is)
take_snoc (y ∷ xs) (suc n) x e = ap (λ l. y ∷ l) (take_snoc xs n x e)

get_first : {A : Type 0} (xs ys rest : List A) (n : ℕ) (x : A) → xs ++ x ∷ rest ≡ ys → length xs ≡ n → slice_get ys n ≡ Some x
get_first [] [] rest n x e long = absurd (no_items x rest (sym e))
get_first [] (y ∷ ys) rest zero x e long = ap (λ z. Some z) (sym (head_same x y rest ys e))
get_first [] (y ∷ ys) rest (suc n) x e long = absurd (omega (arith, long))
get_first (z ∷ xs) [] rest n x e long = absurd (no_items z (xs ++ x ∷ rest) (sym e))
get_first (z ∷ xs) (y ∷ ys) rest zero x e long = absurd (omega (arith, long))
get_first (z ∷ xs) (y ∷ ys) rest (suc n) x e long = get_first xs ys rest n x (tail_same z y (xs ++ x ∷ rest) ys e) (omega (arith, long))

-- what holds of each call of a list, by those before it
more_calls : (P : List Call → Call → Type 0) (calls : List Call) (call : Call) → ((front behind' : List Call) (x : Call) → calls ≡ front ++ x ∷ behind' → P front x) → P calls call
    → (front behind' : List Call) (x : Call) → calls ++ call ∷ [] ≡ front ++ x ∷ behind' → P front x
more_calls P calls call old new front behind' x at = by (meets front behind' calls [] x call (sym at))
  where
    by : Meets front behind' calls [] x call → P front x
    by (before w e) = old front w x e
    by (same e one all) = subst (λ (l : List Call). P l x) (sym e) (subst (P calls) (sym one) new)
    by (behind w e) = absurd (let long = ap (λ (l : List Call). length l) (at ∙ ap (λ (l : List Call). l ++ x ∷ behind') e) in
        let first = length-append calls (call ∷ []) in let second = length-append (calls ++ call ∷ w) (x ∷ behind') in
        let third = length-append calls (call ∷ w) in omega (arith, long, first, second, third))

off_by : (b c : ℕ) → c ≢ b → (b == c) ≡ false
off_by b c other = grind (arith, nat_tests, other)

puts_off : (b : ℕ) (calls : List Call) (call : Call) → buffer_of call ≢ b → puts_to b (calls ++ call ∷ []) ≡ puts_to b calls
puts_off b calls (Took c answer) other = puts-append b calls (Took c answer ∷ []) ∙ append-nil (puts_to b calls)
puts_off b calls (Given c chunk accepted) other =
    puts-append b calls (Given c chunk accepted ∷ []) ∙ ap (λ (s : Bool). puts_to b calls ++ cond s (put_of chunk accepted ∷ []) []) (off_by b c other) ∙ append-nil (puts_to b calls)

takes_off : (b : ℕ) (calls : List Call) (call : Call) → buffer_of call ≢ b → takes_of b (calls ++ call ∷ []) ≡ takes_of b calls
takes_off b calls (Given c chunk accepted) other = takes-append b calls (Given c chunk accepted ∷ []) ∙ append-nil (takes_of b calls)
takes_off b calls (Took c answer) other =
    takes-append b calls (Took c answer ∷ []) ∙ ap (λ (s : Bool). takes_of b calls ++ cond s (answer ∷ []) []) (off_by b c other) ∙ append-nil (takes_of b calls)

-- the clock of an order in which each call suits its list
abbrev InOrderOf : BufferState → ℕ → List Call → Call → Type 0
InOrderOf s b front call = buffer_of call ≡ b → Suits s.capacity (somes (puts_to b front)) (got_in b front) call

stands_other : (s : BufferState) (b : ℕ) (calls : List Call) (call : Call) → buffer_of call ≢ b → StandsFor s b calls → StandsFor s b (calls ++ call ∷ [])
stands_other s b calls call other is =
    let puts = puts_off b calls call other in let takes = takes_off b calls call other in
    record {
      puts = ap (map is_some) puts ∙ is.puts;
      put_low = is.put_low;
      takes = ap (map is_some) takes ∙ is.takes;
      take_low = is.take_low;
      got = ap somes takes ∙ is.got;
      got_low = is.got_low;
      opened_low = is.opened_low;
      fed = is.fed ∙ ap somes (sym puts);
      list_opens = is.list_opens;
      in_order = λ list. more_calls (InOrderOf s b) calls call (λ front behind' x at. is.in_order list front behind' x at) (λ here. absurd (other here));
    }

module _ (s : BufferState) (b : ℕ) (calls : List Call) (is : StandsFor s b calls) where
  pub got_is : got_in b calls ≡ s.got
  got_is = ap (λ (l : List (List Cell)). length l) is.got ∙ length-take-le s.got s.chunks is.got_low

  put_is : is_list s ≡ true → s.chunks ≡ somes (puts_to b calls)
  put_is list = ap (λ n. drop n s.chunks) (sym (is.list_opens list)) ∙ is.fed

  takes_now : (answer : Answer) → takes_of b (calls ++ Took b answer ∷ []) ≡ takes_of b calls ++ answer ∷ []
  takes_now answer = takes-append b calls (Took b answer ∷ []) ∙ ap (λ (l : List Answer). takes_of b calls ++ l) (takes_cons b answer [])

  puts_now : (chunk : List Cell) (accepted : Bool) → puts_to b (calls ++ Given b chunk accepted ∷ []) ≡ puts_to b calls ++ put_of chunk accepted ∷ []
  puts_now chunk accepted = puts-append b calls (Given b chunk accepted ∷ []) ∙ ap (λ (l : List Answer). puts_to b calls ++ l) (puts_cons b chunk accepted [])

  somes_snoc : (xs : List Answer) (x : Answer) → somes (xs ++ x ∷ []) ≡ somes xs ++ somes (x ∷ [])
  somes_snoc [] x = refl
  somes_snoc (None ∷ xs) x = somes_snoc xs x
  somes_snoc (Some y ∷ xs) x = ap (λ (l : List (List Cell)). y ∷ l) (somes_snoc xs x)

  pub stands_got : (chunk : List Cell) → slice_get s.takes s.take_at ≡ Some true → slice_get s.chunks s.got ≡ Some chunk → StandsFor (record s { take_at = suc s.take_at; got = suc s.got }) b (calls ++ Took b (Some chunk) ∷ [])
  stands_got chunk told there =
      let now = takes_now (Some chunk) in
      let puts : puts_to b (calls ++ Took b (Some chunk) ∷ []) ≡ puts_to b calls = puts-append b calls (Took b (Some chunk) ∷ []) ∙ append-nil (puts_to b calls) in
      record {
        puts = ap (map is_some) puts ∙ is.puts;
        put_low = is.put_low;
        takes = ap (map is_some) now ∙ map-append is_some (takes_of b calls) (Some chunk ∷ []) ∙ ap (λ (l : List Bool). l ++ true ∷ []) is.takes ∙ sym (take_snoc s.takes s.take_at true told);
        take_low = slice_get_within s.takes s.take_at true told;
        got = ap somes now ∙ somes_snoc (takes_of b calls) (Some chunk) ∙ ap (λ (l : List (List Cell)). l ++ chunk ∷ []) is.got ∙ sym (take_snoc s.chunks s.got chunk there);
        got_low = slice_get_within s.chunks s.got chunk there;
        opened_low = is.opened_low;
        fed = is.fed ∙ ap somes (sym puts);
        list_opens = is.list_opens;
        in_order = λ list. more_calls (InOrderOf s b) calls (Took b (Some chunk)) (λ front behind' x at. is.in_order list front behind' x at)
            (λ here. (λ i. slice_get (sym (put_is list) i) (got_is i)) ∙ there);
      }

  pub stands_empty : slice_get s.takes s.take_at ≡ Some false → (is_list s ≡ true → length s.chunks ≡ s.got) → StandsFor (record s { take_at = suc s.take_at }) b (calls ++ Took b None ∷ [])
  stands_empty told right =
      let now = takes_now None in
      let puts : puts_to b (calls ++ Took b None ∷ []) ≡ puts_to b calls = puts-append b calls (Took b None ∷ []) ∙ append-nil (puts_to b calls) in
      record {
        puts = ap (map is_some) puts ∙ is.puts;
        put_low = is.put_low;
        takes = ap (map is_some) now ∙ map-append is_some (takes_of b calls) (None ∷ []) ∙ ap (λ (l : List Bool). l ++ false ∷ []) is.takes ∙ sym (take_snoc s.takes s.take_at false told);
        take_low = slice_get_within s.takes s.take_at false told;
        got = ap somes now ∙ somes_snoc (takes_of b calls) None ∙ append-nil (somes (takes_of b calls)) ∙ is.got;
        got_low = is.got_low;
        opened_low = is.opened_low;
        fed = is.fed ∙ ap somes (sym puts);
        list_opens = is.list_opens;
        in_order = λ list. more_calls (InOrderOf s b) calls (Took b None) (λ front behind' x at. is.in_order list front behind' x at)
            (λ here. ap (λ (l : List (List Cell)). length l) (sym (put_is list)) ∙ right list ∙ sym got_is);
      }

  pub stands_put : (chunk : List Cell) → slice_get s.puts s.put_at ≡ Some true → (is_list s ≡ true → length s.chunks < s.capacity + s.got)
      → StandsFor (record s { put_at = suc s.put_at; chunks = s.chunks ++ chunk ∷ [] }) b (calls ++ Given b chunk true ∷ [])
  stands_put chunk told right =
      let now = puts_now chunk true in
      let takes : takes_of b (calls ++ Given b chunk true ∷ []) ≡ takes_of b calls = takes-append b calls (Given b chunk true ∷ []) ∙ append-nil (takes_of b calls) in
      let size = length-append s.chunks (chunk ∷ []) in
      record {
        puts = ap (map is_some) now ∙ map-append is_some (puts_to b calls) (Some chunk ∷ []) ∙ ap (λ (l : List Bool). l ++ true ∷ []) is.puts ∙ sym (take_snoc s.puts s.put_at true told);
        put_low = slice_get_within s.puts s.put_at true told;
        takes = ap (map is_some) takes ∙ is.takes;
        take_low = is.take_low;
        got = ap somes takes ∙ is.got ∙ sym (take-append-le s.got s.chunks (chunk ∷ []) is.got_low);
        got_low = (let low = is.got_low in omega (arith, low, size));
        opened_low = (let low = is.opened_low in omega (arith, low, size));
        fed = drop-append-le s.opened s.chunks (chunk ∷ []) is.opened_low ∙ ap (λ (l : List (List Cell)). l ++ chunk ∷ []) is.fed ∙ sym (somes_snoc (puts_to b calls) (Some chunk)) ∙ ap somes (sym now);
        list_opens = is.list_opens;
        in_order = λ list. more_calls (InOrderOf s b) calls (Given b chunk true) (λ front behind' x at. is.in_order list front behind' x at)
            (λ here. let long = ap (λ (l : List (List Cell)). length l) (put_is list) in let number = got_is in let low = right list in omega (arith, long, number, low));
      }

  pub stands_full : (chunk : List Cell) → slice_get s.puts s.put_at ≡ Some false → (is_list s ≡ true → length s.chunks ≡ s.capacity + s.got) → StandsFor (record s { put_at = suc s.put_at }) b (calls ++ Given b chunk false ∷ [])
  stands_full chunk told right =
      let now = puts_now chunk false in
      let takes : takes_of b (calls ++ Given b chunk false ∷ []) ≡ takes_of b calls = takes-append b calls (Given b chunk false ∷ []) ∙ append-nil (takes_of b calls) in
      record {
        puts = ap (map is_some) now ∙ map-append is_some (puts_to b calls) (None ∷ []) ∙ ap (λ (l : List Bool). l ++ false ∷ []) is.puts ∙ sym (take_snoc s.puts s.put_at false told);
        put_low = slice_get_within s.puts s.put_at false told;
        takes = ap (map is_some) takes ∙ is.takes;
        take_low = is.take_low;
        got = ap somes takes ∙ is.got;
        got_low = is.got_low;
        opened_low = is.opened_low;
        fed = is.fed ∙ sym (append-nil (somes (puts_to b calls))) ∙ sym (somes_snoc (puts_to b calls) None) ∙ ap somes (sym now);
        list_opens = is.list_opens;
        in_order = λ list. more_calls (InOrderOf s b) calls (Given b chunk false) (λ front behind' x at. is.in_order list front behind' x at)
            (λ here. let long = ap (λ (l : List (List Cell)). length l) (put_is list) in let number = got_is in let full = right list in omega (arith, long, number, full));
      }

  -- the next answer that is told
  pub told_take : (answer : Answer) → IsFront (map is_some (takes_of b (calls ++ Took b answer ∷ []))) s.takes → slice_get s.takes s.take_at ≡ Some (is_some answer)
  told_take answer front =
      let long : length (map is_some (takes_of b calls)) ≡ s.take_at = ap (λ (l : List Bool). length l) is.takes ∙ length-take-le s.take_at s.takes is.take_low in
      get_first (map is_some (takes_of b calls)) s.takes front.rest s.take_at (is_some answer)
      (sym (append_assoc (map is_some (takes_of b calls)) (is_some answer ∷ []) front.rest)
      ∙ ap (λ (l : List Bool). l ++ front.rest) (sym (ap (map is_some) (takes_now answer) ∙ map-append is_some (takes_of b calls) (answer ∷ []))) ∙ sym front.are) long

  pub told_put : (chunk : List Cell) (accepted : Bool) → IsFront (map is_some (puts_to b (calls ++ Given b chunk accepted ∷ []))) s.puts → slice_get s.puts s.put_at ≡ Some accepted
  told_put chunk accepted front =
      let long : length (map is_some (puts_to b calls)) ≡ s.put_at = ap (λ (l : List Bool). length l) is.puts ∙ length-take-le s.put_at s.puts is.put_low in
      get_first (map is_some (puts_to b calls)) s.puts front.rest s.put_at (is_some (put_of chunk accepted))
      (sym (append_assoc (map is_some (puts_to b calls)) (is_some (put_of chunk accepted) ∷ []) front.rest)
      ∙ ap (λ (l : List Bool). l ++ front.rest) (sym (ap (map is_some) (puts_now chunk accepted) ∙ map-append is_some (puts_to b calls) (put_of chunk accepted ∷ []))) ∙ sym front.are) long
      ∙ ap (λ z. Some z) (told_is accepted)
    where
      told_is : (accepted : Bool) → is_some (put_of chunk accepted) ≡ accepted
      told_is true = refl
      told_is false = refl

  -- what suits the calls suits the state
  pub right_take : (answer : Answer) → is_list s ≡ true → Suits s.capacity (somes (puts_to b calls)) (got_in b calls) (Took b answer) → IsRightTake s (is_some answer)
  right_take None list suits = ap (λ (l : List (List Cell)). length l) (put_is list) ∙ suits ∙ got_is
  right_take (Some chunk) list suits =
      let within = slice_get_within (somes (puts_to b calls)) (got_in b calls) chunk suits in
      let long = ap (λ (l : List (List Cell)). length l) (put_is list) in let number = got_is in omega (arith, within, long, number)

  pub right_put : (chunk : List Cell) (accepted : Bool) → is_list s ≡ true → Suits s.capacity (somes (puts_to b calls)) (got_in b calls) (Given b chunk accepted) → IsRightPut s accepted
  right_put chunk true list suits = let long = ap (λ (l : List (List Cell)). length l) (put_is list) in let number = got_is in omega (arith, suits, long, number)
  right_put chunk false list suits = let long = ap (λ (l : List (List Cell)). length l) (put_is list) in let number = got_is in omega (arith, suits, long, number)

-- all buffers, of which one changed
module _ (states : List BufferState) (calls : List Call) (all : AllStand states calls) (k : ℕ) (low : k < length states) where
  pub all_step : (call : Call) (s : BufferState) → buffer_of call ≡ k → StandsFor s k (calls ++ call ∷ []) → AllStand (slice_set states k s) (calls ++ call ∷ [])
  all_step call s here new b d within = elim (cases_eq b k) [
    | inl e ↦ (let is : slice_index_or (slice_set states k s) b d ≡ s = ap (λ n. slice_index_or (slice_set states k s) n d) e ∙ get_or-set_same states k s d low in
        subst (λ (x : BufferState). StandsFor x b (calls ++ call ∷ [])) (sym is) (subst (λ n. StandsFor s n (calls ++ call ∷ [])) (sym e) new))
    | inr other ↦ (let is : slice_index_or (slice_set states k s) b d ≡ slice_index_or states b d = get_or-set_other states k b s d other in
        let size = length-set states k s in
        subst (λ (x : BufferState). StandsFor x b (calls ++ call ∷ [])) (sym is)
        (stands_other (slice_index_or states b d) b calls call (λ e. other (sym e ∙ here)) (all b d (omega (arith, within, size)))))
  ]

  set_self : (s d : BufferState) → s ≡ slice_index_or states k d → slice_set states k s ≡ states
  set_self s d e = ap (slice_set states k) e ∙ self states k d low
    where
      self : (xs : List BufferState) (k : ℕ) (d : BufferState) → k < length xs → slice_set xs k (slice_index_or xs k d) ≡ xs
      self [] k d low = absurd (omega (arith, low))
      self (x ∷ xs) zero d low = refl
      self (x ∷ xs) (suc k) d low = ap (λ l. x ∷ l) (self xs k d (omega (arith, low)))

  -- what a take leaves
  module _ (s : BufferState) (d : BufferState) where
    abbrev old : BufferState
    old = slice_index_or states k d

    pub takes_chunk : (chunk : List Cell) → TakesOn old (GotChunk chunk) s → AllStand (slice_set states k s) (calls ++ Took k (Some chunk) ∷ [])
    takes_chunk chunk on = all_step (Took k (Some chunk)) s refl (subst (λ (x : BufferState). StandsFor x k (calls ++ Took k (Some chunk) ∷ [])) (sym on.3) (stands_got old k calls (all k d low) chunk on.0 on.1))

    pub takes_none : TakesOn old IsEmpty s → AllStand (slice_set states k s) (calls ++ Took k None ∷ [])
    takes_none on = all_step (Took k None) s refl (subst (λ (x : BufferState). StandsFor x k (calls ++ Took k None ∷ [])) (sym on.2) (stands_empty old k calls (all k d low) on.0 on.1))

    pub takes_wait : ((e : BufferState) → TakesOn (slice_index_or states k e) MustWait s) → HasWaited (slice_set states k s) (calls ++ Took k None ∷ [])
    takes_wait on =
        let stay : slice_set states k s ≡ states = set_self s d (on d).3 in
        subst (λ (l : List BufferState). HasWaited l (calls ++ Took k None ∷ [])) (sym stay) (record {
          front = calls;
          behind = [];
          buffer = k;
          are = refl;
          stand = all;
          known = low;
          gets = λ e. (on e).0;
          missing = λ e. (on e).1;
          joins = λ e. (on e).2;
        })

    pub takes_fail : TakesOn old NoTake s → HasFailed (slice_set states k s) (calls ++ Took k None ∷ [])
    takes_fail on =
        let stay : slice_set states k s ≡ states = set_self s d on.1 in
        subst (λ (l : List BufferState). HasFailed l (calls ++ Took k None ∷ [])) (sym stay) (record {
          front = calls;
          behind = [];
          call = Took k None;
          are = refl;
          stand = all;
          none = by;
        })
      where
        by : (other : Call) → IsSameCall (Took k None) other → CanComeBy states calls other → ⊥
        by (Given c chunk accepted) alike can = alike
        by (Took c answer) alike can =
            let here : Took c answer ≡ Took k answer = ap (λ n. Took n answer) (sym alike) in
            let come : CanComeBy states calls (Took k answer) = subst (CanComeBy states calls) here can in
            on.0 (is_some answer) (told_take old k calls (all k d low) answer (come.takes k d low))
            (λ list. right_take old k calls (all k d low) answer list (come.suits d low list))

    pub puts_chunk : (chunk : List Cell) → PutsOn old chunk IsAccepted s → AllStand (slice_set states k s) (calls ++ Given k chunk true ∷ [])
    puts_chunk chunk on = all_step (Given k chunk true) s refl (subst (λ (x : BufferState). StandsFor x k (calls ++ Given k chunk true ∷ [])) (sym on.2) (stands_put old k calls (all k d low) chunk on.0 on.1))

    pub puts_full : (chunk back : List Cell) → PutsOn old chunk (IsFull back) s → AllStand (slice_set states k s) (calls ++ Given k chunk false ∷ [])
    puts_full chunk back on = all_step (Given k chunk false) s refl (subst (λ (x : BufferState). StandsFor x k (calls ++ Given k chunk false ∷ [])) (sym on.3) (stands_full old k calls (all k d low) chunk on.1 on.2))

    pub puts_fail : (chunk : List Cell) → PutsOn old chunk NoPut s → HasFailed (slice_set states k s) (calls ++ Given k chunk true ∷ [])
    puts_fail chunk on =
        let stay : slice_set states k s ≡ states = set_self s d on.1 in
        subst (λ (l : List BufferState). HasFailed l (calls ++ Given k chunk true ∷ [])) (sym stay) (record {
          front = calls;
          behind = [];
          call = Given k chunk true;
          are = refl;
          stand = all;
          none = by;
        })
      where
        by : (other : Call) → IsSameCall (Given k chunk true) other → CanComeBy states calls other → ⊥
        by (Took c answer) alike can = alike
        by (Given c cells accepted) alike can =
            let here : Given c cells accepted ≡ Given k chunk accepted = (let to = sym alike.0 in let cells_are = sym alike.1 in λ i. Given (to i) (cells_are i) accepted) in
            let come : CanComeBy states calls (Given k chunk accepted) = subst (CanComeBy states calls) here can in
            on.0 accepted (told_put old k calls (all k d low) chunk accepted (come.puts k d low))
            (λ list. right_put old k calls (all k d low) chunk accepted list (come.suits d low list))

-- calls behind one that had no right answer
pub waited_more : (states : List BufferState) (calls more : List Call) → HasWaited states calls → HasWaited states (calls ++ more)
waited_more states calls more is = record {
  front = is.front;
  behind = is.behind ++ more;
  buffer = is.buffer;
  are = ap (λ (l : List Call). l ++ more) is.are ∙ append_assoc is.front (Took is.buffer None ∷ is.behind) more;
  stand = is.stand;
  known = is.known;
  gets = is.gets;
  missing = is.missing;
  joins = is.joins;
}

pub failed_more : (states : List BufferState) (calls more : List Call) → HasFailed states calls → HasFailed states (calls ++ more)
failed_more states calls more is = record {
  front = is.front;
  behind = is.behind ++ more;
  call = is.call;
  are = ap (λ (l : List Call). l ++ more) is.are ∙ append_assoc is.front (is.call ∷ is.behind) more;
  stand = is.stand;
  none = is.none;
}
