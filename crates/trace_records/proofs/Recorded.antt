-- The clocks of a lawful record are answered as its text tells.
use Rattle.std.proofs.Common.{◌≡◌, ◌≢◌, ◌<◌, ◌≤◌, ◌∙◌, ◌++◌, ◌==◌, ℕ, zero, suc, Bool, true, false, cond, is_some, nat_eq, Option, Some, None, List, [], ◌∷◌, length, map, take, slice_get, flat_map, inl, inr, refl, ap, sym, subst, arith, append_assoc, append-nil, length-append}
use Rattle.std.specs.Prelude.{All}
use Rattle.std.proofs.lemmas.Bool.{cases_lt, cases_eq}
use Rattle.std.proofs.lemmas.Bool.Decides.{nat_tests}
use Rattle.std.proofs.lemmas.List.{map-append, take_all, take-append-le}
use Rattle.std.proofs.lemmas.List.Elements.{All-head, All-tail, All-append, All-nil}
use Rattle.clock_infer.specs.declared.clock_map.ClockMap.{ClockMap}
use Rattle.frame_core.specs.declared.cell.Cell.{Cell}
use Rattle.frame_core.specs.Frames.{somes}
use Rattle.frame_core.specs.Legal.{IsHistory}
use Rattle.frame_core.proofs.Lanes.{somes-append}
use Rattle.frame_core.proofs.Laws.{legal_whole}
use Rattle.frame_core.specs.Calls.{Call, Took, Given, takes_of, puts_to, put_of, Answer}
use Rattle.stream_meaning.specs.Instants.{Setting, answered}
use Rattle.stream_meaning.specs.Calls.{calls_of_tick, joined_upto, joined_between}
use Rattle.stream_meaning.specs.Settings.{IsSetting}
use Rattle.stream_meaning.proofs.Answering.{joined_same}
use Rattle.run_records.specs.Outputs.{first_calls}
use Rattle.run_records.specs.Buffers.{feeder, reader}
use Rattle.run_records.specs.Ordered.{text_of_window}
use Rattle.run_records.specs.Owning.{IsOwn}
use Rattle.run_records.specs.Records.{AreWindows, Follows, Run, Window, answers_of, calls_in, capacity_of, on, puts_of, setting_in, start, windows_in, windows_of}
use Rattle.run_records.proofs.Flattening.{all_puts, all_takes}
use Rattle.run_records.proofs.Rounding.{follows_split, on-append}
use Rattle.run_records.proofs.Running.{own_in, runs_in}
use Rattle.trace_records.specs.Clocks.{AreAnswered, AreInOrder, AreWhole, HasReplayed, IsFront, Log, Suits, buffer_of, got_in, puts_in, takes_in}
use Rattle.trace_records.proofs.Fronts.{front_all, front_none}

-- what was got of a queue and what is left are what it held and what it accepted
pub run_whole : {X : Type 0} (C : ℕ) (q rest : List X) (windows : List (List (Option X) × List (Option X))) → IsHistory C q windows rest
    → q ++ somes (flat_map (λ w. w.0) windows) ≡ somes (flat_map (λ w. w.1) windows) ++ rest
run_whole C q rest [] run = append-nil q ∙ run
run_whole {X} C q rest (w ∷ windows) run =
    let more = run_whole C run.0 rest windows run.2 in
    let puts : List (Option X) = flat_map (λ w. w.0) windows in
    let takes : List (Option X) = flat_map (λ w. w.1) windows in
    ap (λ l. q ++ l) (somes-append w.0 puts) ∙ sym (append_assoc q (somes w.0) (somes puts))
    ∙ ap (λ l. l ++ somes puts) (legal_whole run.1) ∙ append_assoc (somes w.1) run.0 (somes puts)
    ∙ ap (λ l. somes w.1 ++ l) more ∙ sym (append_assoc (somes w.1) (somes takes) rest) ∙ ap (λ l. l ++ rest) (sym (somes-append w.1 takes))

pub puts_told : (windows : List Window) → map is_some (flat_map (λ (w : Window). w.0) windows) ≡ puts_in (map text_of_window windows)
puts_told [] = refl
puts_told (w ∷ windows) = map-append is_some w.0 (flat_map (λ (w : Window). w.0) windows) ∙ ap (λ l. map is_some w.0 ++ l) (puts_told windows)

pub takes_told : (windows : List Window) → map is_some (flat_map (λ (w : Window). w.1) windows) ≡ takes_in (map text_of_window windows)
takes_told [] = refl
takes_told (w ∷ windows) = map-append is_some w.1 (flat_map (λ (w : Window). w.1) windows) ∙ ap (λ l. map is_some w.1 ++ l) (takes_told windows)

pub map_long : {A C : Type 0} (f : A → C) (xs : List A) → length (map f xs) ≡ length xs
map_long f [] = refl
map_long f (x ∷ xs) = ap suc (map_long f xs)

pub take_map : {A C : Type 0} (f : A → C) (j : ℕ) (xs : List A) → take j (map f xs) ≡ map f (take j xs)
take_map f zero xs = refl
take_map f (suc j) [] = refl
take_map f (suc j) (x ∷ xs) = ap (λ l. f x ∷ l) (take_map f j xs)

same_number : (b c : ℕ) → (b == c) ≡ true → b ≡ c
same_number b c e = grind (arith, nat_tests)

-- a clock that does not feed a buffer puts nothing to it, and one that does not read it takes nothing
pub no_puts : (base : Setting) (b m : ℕ) → feeder base b ≢ m → (calls : List Call) → All (IsOwn base m) calls → puts_to b calls ≡ []
no_puts base b m fed [] each = refl
no_puts base b m fed (Took c answer ∷ calls) each = no_puts base b m fed calls (All-tail (IsOwn base m) (Took c answer) calls each)
no_puts base b m fed (Given c chunk accepted ∷ calls) each = by (b == c) refl (no_puts base b m fed calls (All-tail (IsOwn base m) (Given c chunk accepted) calls each))
  where
    by : (t : Bool) → (b == c) ≡ t → puts_to b calls ≡ [] → cond t (put_of chunk accepted ∷ puts_to b calls) (puts_to b calls) ≡ []
    by true e rest = absurd (fed (ap (feeder base) (same_number b c e) ∙ All-head (IsOwn base m) (Given c chunk accepted) calls each))
    by false e rest = rest

pub no_takes : (base : Setting) (b m : ℕ) → reader base b ≢ m → (calls : List Call) → All (IsOwn base m) calls → takes_of b calls ≡ []
no_takes base b m read [] each = refl
no_takes base b m read (Given c chunk accepted ∷ calls) each = no_takes base b m read calls (All-tail (IsOwn base m) (Given c chunk accepted) calls each)
no_takes base b m read (Took c answer ∷ calls) each = by (b == c) refl (no_takes base b m read calls (All-tail (IsOwn base m) (Took c answer) calls each))
  where
    by : (t : Bool) → (b == c) ≡ t → takes_of b calls ≡ [] → cond t (answer ∷ takes_of b calls) (takes_of b calls) ≡ []
    by true e rest = absurd (read (ap (reader base) (same_number b c e) ∙ All-head (IsOwn base m) (Took c answer) calls each))
    by false e rest = rest

-- ticks with their own calls
pub own_joined : (base : Setting) (m : ℕ) (calls : ℕ → List Call) → ((t : ℕ) → All (IsOwn base m) (calls t)) → (n : ℕ) → All (IsOwn base m) (joined_upto calls n)
own_joined base m calls each zero = All-nil (IsOwn base m)
own_joined base m calls each (suc n) = All-append (IsOwn base m) (joined_upto calls n) (calls n) (own_joined base m calls each n) (each n)

pub own_at : (base : Setting) (m : ℕ) (front behind : List Call) (call : Call) → All (IsOwn base m) (front ++ call ∷ behind) → IsOwn base m call
own_at base m [] behind call all = All-head (IsOwn base m) call behind all
own_at base m (c ∷ front) behind call all = own_at base m front behind call (All-tail (IsOwn base m) c (front ++ call ∷ behind) all)

-- a list holds what was put and not got
pub follows_whole : (C : ℕ) (calls : List Call) (b : ℕ) (q r : List (List Cell)) → Follows C q (on b calls) r → q ++ somes (puts_to b calls) ≡ somes (takes_of b calls) ++ r
follows_whole C [] b q r f = append-nil q ∙ f
follows_whole C (Took c answer ∷ calls) b q r f = by (b == c) answer (λ q. follows_whole C calls b q r) f
  where
    by : (s : Bool) (answer : Answer) → ((q : List (List Cell)) → Follows C q (on b calls) r → q ++ somes (puts_to b calls) ≡ somes (takes_of b calls) ++ r)
        → Follows C q (cond s (Took c answer ∷ on b calls) (on b calls)) r → q ++ somes (puts_to b calls) ≡ somes (cond s (answer ∷ takes_of b calls) (takes_of b calls)) ++ r
    by true None go f = go q f.1
    by true (Some chunk) go f = ap (λ (l : List (List Cell)). l ++ somes (puts_to b calls)) f.1 ∙ ap (λ (l : List (List Cell)). chunk ∷ l) (go f.0 f.2)
    by false answer go f = go q f
follows_whole C (Given c chunk accepted ∷ calls) b q r f = by (b == c) accepted (λ q. follows_whole C calls b q r) f
  where
    by : (s accepted : Bool) → ((q : List (List Cell)) → Follows C q (on b calls) r → q ++ somes (puts_to b calls) ≡ somes (takes_of b calls) ++ r)
        → Follows C q (cond s (Given c chunk accepted ∷ on b calls) (on b calls)) r → q ++ somes (cond s (put_of chunk accepted ∷ puts_to b calls) (puts_to b calls)) ≡ somes (takes_of b calls) ++ r
    by true true go f = sym (append_assoc q (chunk ∷ []) (somes (puts_to b calls))) ∙ go (q ++ chunk ∷ []) f.1
    by true false go f = go q f.1
    by false accepted go f = go q f

get_behind : {A : Type 0} (xs ys : List A) (y : A) → slice_get (xs ++ y ∷ ys) (length xs) ≡ Some y
get_behind [] ys y = refl
get_behind (x ∷ xs) ys y = get_behind xs ys y

equal_self : (n : ℕ) → nat_eq n n ≡ true
equal_self n = grind (arith, nat_tests)

on_took : (b : ℕ) (answer : Answer) (calls : List Call) → on b (Took b answer ∷ calls) ≡ Took b answer ∷ on b calls
on_took b answer calls = ap (λ (t : Bool). cond t (Took b answer ∷ on b calls) (on b calls)) (equal_self b)

on_given : (b : ℕ) (chunk : List Cell) (accepted : Bool) (calls : List Call) → on b (Given b chunk accepted ∷ calls) ≡ Given b chunk accepted ∷ on b calls
on_given b chunk accepted calls = ap (λ (t : Bool). cond t (Given b chunk accepted ∷ on b calls) (on b calls)) (equal_self b)

-- a call on a list suits what was put and got before
pub follows_suits : (C : ℕ) (front behind : List Call) (call : Call) (r : List (List Cell)) → Follows C [] (on (buffer_of call) (front ++ call ∷ behind)) r
    → Suits C (somes (puts_to (buffer_of call) front)) (got_in (buffer_of call) front) call
follows_suits C front behind (Took b answer) r f =
    let cut = follows_split C (on b front) (on b (Took b answer ∷ behind)) [] r (subst (λ (l : List Call). Follows C [] l r) (on-append b front (Took b answer ∷ behind)) f) in
    by answer cut.0 (follows_whole C front b [] cut.0 cut.1) (subst (λ (l : List Call). Follows C cut.0 l r) (on_took b answer behind) cut.2)
  where
    by : (answer : Answer) (q : List (List Cell)) → somes (puts_to b front) ≡ somes (takes_of b front) ++ q → Follows C q (Took b answer ∷ on b behind) r → Suits C (somes (puts_to b front)) (got_in b front) (Took b answer)
    by None q count f = ap (λ (l : List (List Cell)). length l) (count ∙ ap (λ (l : List (List Cell)). somes (takes_of b front) ++ l) f.0 ∙ append-nil (somes (takes_of b front)))
    by (Some chunk) q count f = ap (λ (l : List (List Cell)). slice_get l (got_in b front)) (count ∙ ap (λ (l : List (List Cell)). somes (takes_of b front) ++ l) f.1) ∙ get_behind (somes (takes_of b front)) f.0 chunk
follows_suits C front behind (Given b chunk accepted) r f =
    let cut = follows_split C (on b front) (on b (Given b chunk accepted ∷ behind)) [] r (subst (λ (l : List Call). Follows C [] l r) (on-append b front (Given b chunk accepted ∷ behind)) f) in
    by accepted cut.0 (follows_whole C front b [] cut.0 cut.1) (subst (λ (l : List Call). Follows C cut.0 l r) (on_given b chunk accepted behind) cut.2)
  where
    by : (accepted : Bool) (q : List (List Cell)) → somes (puts_to b front) ≡ somes (takes_of b front) ++ q → Follows C q (Given b chunk accepted ∷ on b behind) r → Suits C (somes (puts_to b front)) (got_in b front) (Given b chunk accepted)
    by true q count f = let low = f.0 in let size = ap (λ (l : List (List Cell)). length l) count in let both = length-append (somes (takes_of b front)) q in omega (arith, size, both, low)
    by false q count f = let full = f.0 in let size = ap (λ (l : List (List Cell)). length l) count in let both = length-append (somes (takes_of b front)) q in omega (arith, size, both, full)

-- the first windows of more
windows_long : (setting : Setting) (clocks : ℕ) (accepted : ℕ → ℕ → ℕ → Bool) (b W N count : ℕ) → length (windows_in setting clocks accepted b W N count) ≡ count
windows_long setting clocks accepted b W N zero = refl
windows_long setting clocks accepted b W N (suc count) =
    let f = calls_in setting clocks accepted (feeder setting b) in let g = calls_in setting clocks accepted (reader setting b) in
    let size = length-append (windows_in setting clocks accepted b W N count) ((puts_to b (joined_between f (start W N count) (start W N (suc count))), takes_of b (joined_between g (start W N count) (start W N (suc count)))) ∷ []) in
    let before = windows_long setting clocks accepted b W N count in omega (arith, size, before)

pub windows_first : (setting : Setting) (clocks : ℕ) (accepted : ℕ → ℕ → ℕ → Bool) (b W N j count : ℕ) → j ≤ count → take j (windows_in setting clocks accepted b W N count) ≡ windows_in setting clocks accepted b W N j
windows_first setting clocks accepted b W N zero zero low = refl
windows_first setting clocks accepted b W N (suc j) zero low = absurd (omega (arith, low))
windows_first setting clocks accepted b W N j (suc count) low =
    let f = calls_in setting clocks accepted (feeder setting b) in let g = calls_in setting clocks accepted (reader setting b) in
    let size = windows_long setting clocks accepted b W N count in
    elim (cases_lt count j) [
      | inl high ↦ (let e : suc count ≡ j = omega (arith, low, high) in let all = windows_long setting clocks accepted b W N (suc count) in
          take_all j (windows_in setting clocks accepted b W N (suc count)) (omega (arith, all, high, low)) ∙ ap (windows_in setting clocks accepted b W N) e)
      | inr within ↦ take-append-le j (windows_in setting clocks accepted b W N count)
          ((puts_to b (joined_between f (start W N count) (start W N (suc count))), takes_of b (joined_between g (start W N count) (start W N (suc count)))) ∷ []) (omega (arith, size, within))
          ∙ windows_first setting clocks accepted b W N j count within
    ]

module _ (base : Setting) (map_of : ClockMap) (is : IsSetting base map_of) (W N : ℕ) (text : ℕ → Log) (run : Run) (lawful : AreWindows base map_of.running W N run)
    (told_is : (b : ℕ) → b < length base.plan.buffers → map text_of_window (windows_of run b) ≡ text b) where
  -- the chunks that a buffer accepted
  abbrev pub chunks_in : ℕ → List (List Cell)
  chunks_in b = somes (puts_of run b)

  abbrev calls : ℕ → ℕ → List Call
  calls m t = calls_in (setting_in base run) map_of.running lawful.accepted m t

  pub record_takes : (b : ℕ) → b < length base.plan.buffers → answers_of run b ≡ takes_of b (joined_upto (calls (reader base b)) N)
  record_takes b low =
      ap (flat_map (λ (w : Window). w.1)) (lawful.are b low) ∙ all_takes (setting_in base run) map_of.running lawful.accepted b W N lawful.count
      ∙ ap (λ (n : ℕ). takes_of b (joined_upto (calls (reader base b)) n)) lawful.whole

  pub record_puts : (b : ℕ) → b < length base.plan.buffers → puts_of run b ≡ puts_to b (joined_upto (calls (feeder base b)) N)
  record_puts b low =
      ap (flat_map (λ (w : Window). w.0)) (lawful.are b low) ∙ all_puts (setting_in base run) map_of.running lawful.accepted b W N lawful.count
      ∙ ap (λ (n : ℕ). puts_to b (joined_upto (calls (feeder base b)) n)) lawful.whole

  pub text_long : (b : ℕ) → b < length base.plan.buffers → length (text b) ≡ lawful.count
  text_long b low =
      ap (λ l. length l) (sym (told_is b low)) ∙ map_long text_of_window (windows_of run b) ∙ ap (λ l. length l) (lawful.are b low)
      ∙ windows_long (setting_in base run) map_of.running lawful.accepted b W N lawful.count

  text_first : (b j : ℕ) → b < length base.plan.buffers → j ≤ length (text b) → take j (text b) ≡ map text_of_window (windows_in (setting_in base run) map_of.running lawful.accepted b W N j)
  text_first b j low high =
      let long = text_long b low in
      ap (λ l. take j l) (sym (told_is b low) ∙ ap (map text_of_window) (lawful.are b low)) ∙ take_map text_of_window j (windows_in (setting_in base run) map_of.running lawful.accepted b W N lawful.count)
      ∙ ap (map text_of_window) (windows_first (setting_in base run) map_of.running lawful.accepted b W N j lawful.count (omega (arith, high, long)))

  module _ (m : ℕ) (runs : m < map_of.running) where
    abbrev made : ℕ → List Call
    made t = first_calls (answered base (answers_of run)) (lawful.accepted m) m t

    pub made_is : (t : ℕ) → made t ≡ joined_upto (calls m) t
    made_is t = joined_same (λ j. calls_of_tick (setting_in base run) (lawful.accepted m j) m j) (calls m) t (λ j low. sym (runs_in (setting_in base run) map_of.running lawful.accepted m j runs))

    own : (t : ℕ) → All (IsOwn base m) (made t)
    own t = subst (All (IsOwn base m)) (sym (made_is t)) (own_joined base m (calls m) (λ j. own_in base map_of is (answers_of run) map_of.running lawful.accepted m j) t)

    answered_here : AreAnswered base text chunks_in (made N)
    answered_here = record {
      puts = λ b low. elim (cases_eq (feeder base b) m) [
        | inl fed ↦ (let e : map is_some (puts_to b (made N)) ≡ puts_in (text b) =
            ap (λ l. map is_some (puts_to b l)) (made_is N) ∙ ap (λ k. map is_some (puts_to b (joined_upto (calls k) N))) (sym fed)
            ∙ ap (map is_some) (sym (record_puts b low)) ∙ puts_told (windows_of run b) ∙ ap puts_in (told_is b low) in
            subst (λ l. IsFront l (puts_in (text b))) (sym e) (front_all (puts_in (text b))))
        | inr other ↦ subst (λ (l : List Answer). IsFront (map is_some l) (puts_in (text b))) (sym (no_puts base b m other (made N) (own N))) (front_none (puts_in (text b)))
      ];
      takes = λ b low. elim (cases_eq (reader base b) m) [
        | inl read ↦ (let e : map is_some (takes_of b (made N)) ≡ takes_in (text b) =
            ap (λ l. map is_some (takes_of b l)) (made_is N) ∙ ap (λ k. map is_some (takes_of b (joined_upto (calls k) N))) (sym read)
            ∙ ap (map is_some) (sym (record_takes b low)) ∙ takes_told (windows_of run b) ∙ ap takes_in (told_is b low) in
            subst (λ l. IsFront l (takes_in (text b))) (sym e) (front_all (takes_in (text b))))
        | inr other ↦ subst (λ (l : List Answer). IsFront (map is_some l) (takes_in (text b))) (sym (no_takes base b m other (made N) (own N))) (front_none (takes_in (text b)))
      ];
      got = λ b low joins. elim (cases_eq (reader base b) m) [
        | inl read ↦ (let e : takes_of b (made N) ≡ answers_of run b =
            ap (takes_of b) (made_is N) ∙ ap (λ k. takes_of b (joined_upto (calls k) N)) (sym read) ∙ sym (record_takes b low) in
            let legal = lawful.legal b low in
            subst (λ (l : List Answer). IsFront (somes l) (chunks_in b)) (sym e) (record { rest = legal.0; are = run_whole (capacity_of base b) [] legal.0 (windows_of run b) legal.1 }))
        | inr other ↦ subst (λ (l : List Answer). IsFront (somes l) (chunks_in b)) (sym (no_takes base b m other (made N) (own N))) (front_none (chunks_in b))
      ];
    }

    order_here : AreInOrder base (made N)
    order_here = record { each = λ front behind call at low local. by front behind call at low local (own_at base m front behind call (subst (All (IsOwn base m)) at (own N))) }
      where
        of_clock : (call : Call) → feeder base (buffer_of call) ≡ reader base (buffer_of call) → IsOwn base m call → feeder base (buffer_of call) ≡ m
        of_clock (Took b answer) local own = local ∙ own
        of_clock (Given b chunk accepted) local own = own

        by : (front behind : List Call) (call : Call) → made N ≡ front ++ call ∷ behind → buffer_of call < length base.plan.buffers → feeder base (buffer_of call) ≡ reader base (buffer_of call) → IsOwn base m call
            → Suits (capacity_of base (buffer_of call)) (somes (puts_to (buffer_of call) front)) (got_in (buffer_of call) front) call
        by front behind call at low local own =
            let f = lawful.in_order (buffer_of call) low local in
            let same : joined_upto (calls (feeder base (buffer_of call))) N ≡ front ++ call ∷ behind = ap (λ k. joined_upto (calls k) N) (of_clock call local own) ∙ sym (made_is N) ∙ at in
            follows_suits (capacity_of base (buffer_of call)) front behind call f.0 (subst (λ (l : List Call). Follows (capacity_of base (buffer_of call)) [] (on (buffer_of call) l) f.0) same f.1)

    whole_here : AreWhole base text W N m N made
    whole_here = record {
      puts = λ j b ends high low fed.
          let long = map_long is_some (flat_map (λ (w : Window). w.0) (windows_in (setting_in base run) map_of.running lawful.accepted b W N j)) in
          ap (λ l. length (puts_to b l)) (made_is (start W N j)) ∙ ap (λ k. length (puts_to b (joined_upto (calls k) (start W N j)))) (sym fed)
          ∙ ap (λ l. length l) (sym (all_puts (setting_in base run) map_of.running lawful.accepted b W N j)) ∙ sym long
          ∙ ap (λ l. length l) (puts_told (windows_in (setting_in base run) map_of.running lawful.accepted b W N j)) ∙ ap (λ l. length (puts_in l)) (sym (text_first b j low high));
      takes = λ j b ends high low read.
          let long = map_long is_some (flat_map (λ (w : Window). w.1) (windows_in (setting_in base run) map_of.running lawful.accepted b W N j)) in
          ap (λ l. length (takes_of b l)) (made_is (start W N j)) ∙ ap (λ k. length (takes_of b (joined_upto (calls k) (start W N j)))) (sym read)
          ∙ ap (λ l. length l) (sym (all_takes (setting_in base run) map_of.running lawful.accepted b W N j)) ∙ sym long
          ∙ ap (λ l. length l) (takes_told (windows_in (setting_in base run) map_of.running lawful.accepted b W N j)) ∙ ap (λ l. length (takes_in l)) (sym (text_first b j low high));
    }

    pub replayed : HasReplayed base text W N m N chunks_in (answers_of run) (lawful.accepted m)
    replayed = record { answered_so = answered_here; in_order = order_here; whole = whole_here }
