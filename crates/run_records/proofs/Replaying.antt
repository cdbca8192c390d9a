-- Two lawful records with the same text, of which one can be ordered, are the same.
use Rattle.std.proofs.Common.{◌≡◌, ℕ, zero, suc, ◌<◌, ◌≤◌, ◌+◌, ◌-◌, Bool, true, false, cond, is_some, Option, Some, None, List, [], ◌∷◌, ◌++◌, length, map, nat_eq, sym, refl, ap, ◌∙◌, subst, arith, flat_map, inl, inr, append_assoc, append-nil, length-append, ext_get_or, true≢false}
use Rattle.std.proofs.lemmas.Bool.{cases_lt}
use Rattle.std.proofs.lemmas.Bool.Decides.{nat_tests}
use Rattle.clock_infer.specs.declared.clock_map.ClockMap.{ClockMap}
use Rattle.frame_core.specs.declared.cell.Cell.{Cell}
use Rattle.frame_core.specs.Frames.{somes}
use Rattle.frame_core.specs.Legal.{IsHistory}
use Rattle.frame_core.proofs.Laws.{legal_whole}
use Rattle.frame_core.specs.Calls.{Call, Took, Given, takes_of, puts_to, put_of, Answer}
use Rattle.stream_meaning.specs.Instants.{Setting}
use Rattle.stream_meaning.specs.Calls.{joined_upto, joined_between}
use Rattle.stream_meaning.specs.Settings.{IsSetting}
use Rattle.run_records.specs.Buffers.{feeder, reader}
use Rattle.run_records.specs.Records.{Window, Run, windows_of, setting_in, start, ticks_of, calls_in, windows_in, AreWindows, answers_of, puts_of}
use Rattle.run_records.proofs.Running.{runs_in, rests_in, own_in}
use Rattle.run_records.proofs.Alone.{feeder_runs}
use Rattle.run_records.specs.Parting.{Differ, Goes}
use Rattle.run_records.specs.Alike.{IsTickAlike}
use Rattle.run_records.specs.Ordered.{text_of_window, HasSameText, made, got_by, IsOrdered}
use Rattle.run_records.proofs.Parting.{joined_first}
use Rattle.run_records.proofs.Ticking.{tick_goes, tick_first}
use Rattle.std.specs.Prelude.{All}
use Rattle.run_records.specs.Owning.{IsOwn}
use Rattle.run_records.proofs.Owning.{all_at}
use Rattle.stream_meaning.proofs.Answering.{joined_same}
use Rattle.frame_core.proofs.Lanes.{somes-append}
use Rattle.run_records.proofs.Flattening.{start_most, takes-append, puts-append, all_puts, all_takes}

-- what was got of a queue and what is left are what it held and what it accepted
run_whole : {X : Type 0} (C : ℕ) (q rest : List X) (windows : List (List (Option X) × List (Option X))) → IsHistory C q windows rest
    → q ++ somes (flat_map (λ w. w.0) windows) ≡ somes (flat_map (λ w. w.1) windows) ++ rest
run_whole C q rest [] run = append-nil q ∙ run
run_whole {X} C q rest (w ∷ windows) run =
    let more = run_whole C run.0 rest windows run.2 in
    let puts : List (Option X) = flat_map (λ w. w.0) windows in
    let takes : List (Option X) = flat_map (λ w. w.1) windows in
    ap (λ l. q ++ l) (somes-append w.0 puts) ∙ sym (append_assoc q (somes w.0) (somes puts))
    ∙ ap (λ l. l ++ somes puts) (legal_whole run.1) ∙ append_assoc (somes w.1) run.0 (somes puts)
    ∙ ap (λ l. somes w.1 ++ l) more ∙ sym (append_assoc (somes w.1) (somes takes) rest) ∙ ap (λ l. l ++ rest) (sym (somes-append w.1 takes))

map_append : {A B : Type 0} (f : A → B) (xs ys : List A) → map f (xs ++ ys) ≡ map f xs ++ map f ys
map_append f [] ys = refl
map_append f (x ∷ xs) ys = ap (λ l. f x ∷ l) (map_append f xs ys)

head_same : {A : Type 0} (x y : A) (xs ys : List A) → x ∷ xs ≡ y ∷ ys → x ≡ y
head_same x y xs ys e = cc

tail_same : {A : Type 0} (x y : A) (xs ys : List A) → x ∷ xs ≡ y ∷ ys → xs ≡ ys
tail_same x y xs ys e = cc

map_at : {A B : Type 0} (f : A → B) (xs ys zs : List A) (a b : A) → map f (xs ++ a ∷ ys) ≡ map f (xs ++ b ∷ zs) → f a ≡ f b
map_at f [] ys zs a b e = head_same (f a) (f b) (map f ys) (map f zs) e
map_at f (x ∷ xs) ys zs a b e = map_at f xs ys zs a b (tail_same (f x) (f x) (map f (xs ++ a ∷ ys)) (map f (xs ++ b ∷ zs)) e)

front_same : {A : Type 0} (xs ys zs front more others : List A) (a b : A) → xs ++ a ∷ ys ≡ front ++ more → xs ++ b ∷ zs ≡ front ++ others → length xs < length front → a ≡ b
front_same xs ys zs [] more others a b e o low = absurd (omega (arith, low))
front_same [] ys zs (y ∷ front) more others a b e o low = head_same a y ys (front ++ more) e ∙ sym (head_same b y zs (front ++ others) o)
front_same (x ∷ xs) ys zs (y ∷ front) more others a b e o low =
    front_same xs ys zs front more others a b (tail_same x y (xs ++ a ∷ ys) (front ++ more) e) (tail_same x y (xs ++ b ∷ zs) (front ++ others) o) (omega (arith, low))

told_puts : (windows : List Window) → map is_some (flat_map (λ (w : Window). w.0) windows) ≡ flat_map (λ (p : List Bool × List Bool). p.0) (map text_of_window windows)
told_puts [] = refl
told_puts (w ∷ windows) = map_append is_some w.0 (flat_map (λ (w : Window). w.0) windows) ∙ ap (λ l. map is_some w.0 ++ l) (told_puts windows)

told_takes : (windows : List Window) → map is_some (flat_map (λ (w : Window). w.1) windows) ≡ flat_map (λ (p : List Bool × List Bool). p.1) (map text_of_window windows)
told_takes [] = refl
told_takes (w ∷ windows) = map_append is_some w.1 (flat_map (λ (w : Window). w.1) windows) ∙ ap (λ l. map is_some w.1 ++ l) (told_takes windows)

equal_self : (n : ℕ) → nat_eq n n ≡ true
equal_self n = grind (arith, nat_tests)

takes_cons : (b : ℕ) (answer : Answer) (calls : List Call) → takes_of b (Took b answer ∷ calls) ≡ answer ∷ takes_of b calls
takes_cons b answer calls = ap (λ (t : Bool). cond t (answer ∷ takes_of b calls) (takes_of b calls)) (equal_self b)

puts_cons : (b : ℕ) (chunk : List Cell) (accepted : Bool) (calls : List Call) → puts_to b (Given b chunk accepted ∷ calls) ≡ put_of chunk accepted ∷ puts_to b calls
puts_cons b chunk accepted calls = ap (λ (t : Bool). cond t (put_of chunk accepted ∷ puts_to b calls) (puts_to b calls)) (equal_self b)

-- the take at a place of tick t, among those of this tick and of all ticks
pub takes_now : (b : ℕ) (calls : ℕ → List Call) (t : ℕ) (front behind : List Call) (answer : Answer) → calls t ≡ front ++ Took b answer ∷ behind
    → takes_of b (joined_upto calls (suc t)) ≡ (takes_of b (joined_upto calls t) ++ takes_of b front) ++ answer ∷ takes_of b behind
takes_now b calls t front behind answer e =
    takes-append b (joined_upto calls t) (calls t) ∙ ap (λ (l : List Call). takes_of b (joined_upto calls t) ++ takes_of b l) e
    ∙ ap (λ (l : List Answer). takes_of b (joined_upto calls t) ++ l) (takes-append b front (Took b answer ∷ behind) ∙ ap (λ (l : List Answer). takes_of b front ++ l) (takes_cons b answer behind))
    ∙ sym (append_assoc (takes_of b (joined_upto calls t)) (takes_of b front) (answer ∷ takes_of b behind))

pub takes_all : (b : ℕ) (calls : ℕ → List Call) (t N : ℕ) (front behind : List Call) (answer : Answer) → t < N → calls t ≡ front ++ Took b answer ∷ behind
    → (rest : List Answer) × (takes_of b (joined_upto calls N) ≡ (takes_of b (joined_upto calls t) ++ takes_of b front) ++ answer ∷ rest)
takes_all b calls t N front behind answer low e =
    let more = joined_first calls (suc t) N low in (
      takes_of b behind ++ takes_of b more.0,
      ap (takes_of b) more.1 ∙ takes-append b (joined_upto calls (suc t)) more.0 ∙ ap (λ (l : List Answer). l ++ takes_of b more.0) (takes_now b calls t front behind answer e)
          ∙ append_assoc (takes_of b (joined_upto calls t) ++ takes_of b front) (answer ∷ takes_of b behind) (takes_of b more.0),
    )

puts_all : (b : ℕ) (calls : ℕ → List Call) (t N : ℕ) (front behind : List Call) (chunk : List Cell) (accepted : Bool) → t < N → calls t ≡ front ++ Given b chunk accepted ∷ behind
    → (rest : List Answer) × (puts_to b (joined_upto calls N) ≡ (puts_to b (joined_upto calls t) ++ puts_to b front) ++ put_of chunk accepted ∷ rest)
puts_all b calls t N front behind chunk accepted low e =
    let more = joined_first calls (suc t) N low in (
      puts_to b behind ++ puts_to b more.0,
      ap (puts_to b) more.1 ∙ puts-append b (joined_upto calls (suc t)) more.0
          ∙ ap (λ (l : List Answer). l ++ puts_to b more.0) (puts-append b (joined_upto calls t) (calls t) ∙ ap (λ (l : List Call). puts_to b (joined_upto calls t) ++ puts_to b l) e
          ∙ ap (λ (l : List Answer). puts_to b (joined_upto calls t) ++ l) (puts-append b front (Given b chunk accepted ∷ behind) ∙ ap (λ (l : List Answer). puts_to b front ++ l) (puts_cons b chunk accepted behind))
          ∙ sym (append_assoc (puts_to b (joined_upto calls t)) (puts_to b front) (put_of chunk accepted ∷ puts_to b behind)))
          ∙ append_assoc (puts_to b (joined_upto calls t) ++ puts_to b front) (put_of chunk accepted ∷ puts_to b behind) (puts_to b more.0),
    )

-- the first chunks that a buffer accepted
puts_first : (b : ℕ) (calls : ℕ → List Call) (n N : ℕ) → n ≤ N → (rest : List (List Cell)) × (somes (puts_to b (joined_upto calls N)) ≡ somes (puts_to b (joined_upto calls n)) ++ rest)
puts_first b calls n N low =
    let more = joined_first calls n N low in
    (somes (puts_to b more.0), ap (λ (l : List Call). somes (puts_to b l)) more.1 ∙ ap somes (puts-append b (joined_upto calls n) more.0) ∙ somes-append (puts_to b (joined_upto calls n)) (puts_to b more.0))

put_told : (chunk : List Cell) (one other : Bool) → is_some (put_of chunk one) ≡ is_some (put_of chunk other) → one ≡ other
put_told chunk true true e = refl
put_told chunk false false e = refl
put_told chunk true false e = absurd (true≢false e)
put_told chunk false true e = absurd (true≢false (sym e))

-- ticks of a list
made_snoc : (k : ℕ) (ticks : List (ℕ × ℕ)) (m t : ℕ) → made k (ticks ++ (m, t) ∷ []) ≡ cond (nat_eq m k) (suc (made k ticks)) (made k ticks)
made_snoc k [] m t = refl
made_snoc k (tick ∷ ticks) m t = by (nat_eq tick.0 k) (nat_eq m k) (made_snoc k ticks m t)
  where
    by : (s u : Bool) → made k (ticks ++ (m, t) ∷ []) ≡ cond u (suc (made k ticks)) (made k ticks)
        → cond s (suc (made k (ticks ++ (m, t) ∷ []))) (made k (ticks ++ (m, t) ∷ [])) ≡ cond u (suc (cond s (suc (made k ticks)) (made k ticks))) (cond s (suc (made k ticks)) (made k ticks))
    by true true e = ap suc e
    by true false e = ap suc e
    by false true e = e
    by false false e = e

made_more : (k : ℕ) (ticks others : List (ℕ × ℕ)) → made k ticks ≤ made k (ticks ++ others)
made_more k [] others = omega arith
made_more k (tick ∷ ticks) others = by (nat_eq tick.0 k) (made_more k ticks others)
  where
    by : (s : Bool) → made k ticks ≤ made k (ticks ++ others) → cond s (suc (made k ticks)) (made k ticks) ≤ cond s (suc (made k (ticks ++ others))) (made k (ticks ++ others))
    by true low = omega (arith, low)
    by false low = low

-- the first n ticks of clock m are the same in two records
pub record AreMade (setting : Setting) (clocks : ℕ) (run other : Run) (first second : ℕ → ℕ → ℕ → Bool) (m n : ℕ) : Type 0 where
  pub each : (t : ℕ) → t < n → calls_in (setting_in setting run) clocks first m t ≡ calls_in (setting_in setting other) clocks second m t
  pub alike : IsTickAlike setting (answers_of run) (answers_of other) m n

-- the puts and takes of a lawful record
module _ (setting : Setting) (clocks W N : ℕ) (run : Run) (lawful : AreWindows setting clocks W N run) (b : ℕ) (less : b < length setting.plan.buffers) where
  lawful_takes : answers_of run b ≡ takes_of b (joined_upto (calls_in (setting_in setting run) clocks lawful.accepted (reader setting b)) N)
  lawful_takes =
      ap (flat_map (λ (w : Window). w.1)) (lawful.are b less) ∙ all_takes (setting_in setting run) clocks lawful.accepted b W N lawful.count
      ∙ ap (λ (n : ℕ). takes_of b (joined_upto (calls_in (setting_in setting run) clocks lawful.accepted (reader setting b)) n)) lawful.whole

  lawful_puts : puts_of run b ≡ puts_to b (joined_upto (calls_in (setting_in setting run) clocks lawful.accepted (feeder setting b)) N)
  lawful_puts =
      ap (flat_map (λ (w : Window). w.0)) (lawful.are b less) ∙ all_puts (setting_in setting run) clocks lawful.accepted b W N lawful.count
      ∙ ap (λ (n : ℕ). puts_to b (joined_upto (calls_in (setting_in setting run) clocks lawful.accepted (feeder setting b)) n)) lawful.whole

  -- a chunk that was got is among those that were accepted
  got_kept : (xs rest : List Answer) (chunk : List Cell) → answers_of run b ≡ xs ++ Some chunk ∷ rest → (more : List (List Cell)) × (somes (puts_of run b) ≡ somes xs ++ chunk ∷ more)
  got_kept xs rest chunk e =
      let legal = lawful.legal b less in (
        somes rest ++ legal.0,
        run_whole _ [] legal.0 (windows_of run b) legal.1 ∙ ap (λ (l : List Answer). somes l ++ legal.0) e ∙ ap (λ (l : List (List Cell)). l ++ legal.0) (somes-append xs (Some chunk ∷ rest))
            ∙ append_assoc (somes xs) (chunk ∷ somes rest) legal.0,
      )

windows_long : (setting : Setting) (clocks : ℕ) (accepted : ℕ → ℕ → ℕ → Bool) (b W N count : ℕ) → length (windows_in setting clocks accepted b W N count) ≡ count
windows_long setting clocks accepted b W N zero = refl
windows_long setting clocks accepted b W N (suc count) =
    let f = calls_in setting clocks accepted (feeder setting b) in let g = calls_in setting clocks accepted (reader setting b) in
    let size = length-append (windows_in setting clocks accepted b W N count) ((puts_to b (joined_between f (start W N count) (start W N (suc count))), takes_of b (joined_between g (start W N count) (start W N (suc count)))) ∷ []) in
    let before = windows_long setting clocks accepted b W N count in omega (arith, size, before)

told_long : (windows : List Window) → length (map text_of_window windows) ≡ length windows
told_long [] = refl
told_long (w ∷ windows) = ap suc (told_long windows)

module _ (setting : Setting) (clock_map : ClockMap) (is : IsSetting setting clock_map) (W N : ℕ) (run other : Run)
    (one : AreWindows setting clock_map.running W N run) (two : AreWindows setting clock_map.running W N other) (text : HasSameText setting run other) (ordered : IsOrdered (setting_in setting run) clock_map.running one.accepted N) where
  abbrev calls : ℕ → ℕ → List Call
  calls m t = calls_in (setting_in setting run) clock_map.running one.accepted m t

  abbrev others : ℕ → ℕ → List Call
  others m t = calls_in (setting_in setting other) clock_map.running two.accepted m t

  abbrev Made : ℕ → ℕ → Type 0
  Made m n = AreMade setting clock_map.running run other one.accepted two.accepted m n

  same_takes : (b : ℕ) → b < length setting.plan.buffers → map is_some (answers_of run b) ≡ map is_some (answers_of other b)
  same_takes b less = told_takes (windows_of run b) ∙ ap (flat_map (λ (p : List Bool × List Bool). p.1)) (text b less) ∙ sym (told_takes (windows_of other b))

  same_puts : (b : ℕ) → b < length setting.plan.buffers → map is_some (puts_of run b) ≡ map is_some (puts_of other b)
  same_puts b less = told_puts (windows_of run b) ∙ ap (flat_map (λ (p : List Bool × List Bool). p.0)) (text b less) ∙ sym (told_puts (windows_of other b))

  -- at a tick of the order nothing parts
  module _ (before behind : List (ℕ × ℕ)) (m t : ℕ) (at : ordered.order ≡ before ++ (m, t) ∷ behind) (done : (k : ℕ) → k < clock_map.running → Made k (made k before)) where
    now_made : t ≡ made m before
    now_made = (ordered.each before behind m t at).1

    low : t < N
    low =
        let all = ordered.all m (ordered.each before behind m t at).0 in
        let now = now_made in
        let snoc : made m (before ++ (m, t) ∷ []) ≡ suc (made m before) = made_snoc m before m t ∙ ap (λ (s : Bool). cond s (suc (made m before)) (made m before)) (equal_self m) in
        let most = made_more m (before ++ (m, t) ∷ []) behind in
        let same : made m ordered.order ≡ made m ((before ++ (m, t) ∷ []) ++ behind) = ap (made m) (at ∙ sym (append_assoc before ((m, t) ∷ []) behind)) in
        omega (arith, all, now, snoc, most, same)

    made_most : (k : ℕ) → k < clock_map.running → made k before ≤ N
    made_most k inside =
        let all = ordered.all k inside in let most = made_more k before ((m, t) ∷ behind) in let same = ap (made k) at in omega (arith, all, most, same)

    now_alike : Made m t
    now_alike = subst (Made m) (sym now_made) (done m (ordered.each before behind m t at).0)

    past_same : joined_upto (calls m) t ≡ joined_upto (others m) t
    past_same = joined_same (calls m) (others m) t now_alike.each

    no_took : (b : ℕ) (answer got : Answer) (front rest more : List Call) → b < length setting.plan.buffers → reader setting b ≡ m → calls m t ≡ front ++ Took b answer ∷ rest → others m t ≡ front ++ Took b got ∷ more → answer ≡ got
    no_took b answer got front rest more less read e o =
        let xs : List Answer = takes_of b (joined_upto (calls m) t) ++ takes_of b front in
        let f = takes_all b (calls m) t N front rest answer low e in
        let g = takes_all b (others m) t N front more got low o in
        let first : answers_of run b ≡ xs ++ answer ∷ f.0 = lawful_takes setting clock_map.running W N run one b less ∙ ap (λ (k : ℕ). takes_of b (joined_upto (calls k) N)) read ∙ f.1 in
        let second : answers_of other b ≡ xs ++ got ∷ g.0 = lawful_takes setting clock_map.running W N other two b less ∙ ap (λ (k : ℕ). takes_of b (joined_upto (others k) N)) read ∙ g.1
        ∙ ap (λ (l : List Call). (takes_of b l ++ takes_of b front) ++ got ∷ g.0) (sym past_same) in
        let same : is_some answer ≡ is_some got = map_at is_some xs f.0 g.0 answer got (ap (map is_some) (sym first) ∙ same_takes b less ∙ ap (map is_some) second) in
        by xs f.0 g.0 answer got first second same (takes_now b (calls m) t front rest answer e)
      where
        by : (xs ys zs : List Answer) (answer got : Answer) → answers_of run b ≡ xs ++ answer ∷ ys → answers_of other b ≡ xs ++ got ∷ zs → is_some answer ≡ is_some got
            → takes_of b (joined_upto (calls m) (suc t)) ≡ xs ++ answer ∷ takes_of b rest → answer ≡ got
        by xs ys zs None None first second same now = refl
        by xs ys zs None (Some chunk) first second same now = absurd (true≢false (sym same))
        by xs ys zs (Some chunk) None first second same now = absurd (true≢false same)
        by xs ys zs (Some chunk) (Some cells) first second same now =
            (let end = feeder_runs setting clock_map is b less in
            let n : ℕ = made (feeder setting b) before in
            let kept = got_kept setting clock_map.running W N run one b less xs ys chunk first in
            let keeps = got_kept setting clock_map.running W N other two b less xs zs cells second in
            let front' = puts_first b (calls (feeder setting b)) n N (made_most (feeder setting b) end) in
            let fronts = puts_first b (others (feeder setting b)) n N (made_most (feeder setting b) end) in
            let alike : joined_upto (calls (feeder setting b)) n ≡ joined_upto (others (feeder setting b)) n = joined_same (calls (feeder setting b)) (others (feeder setting b)) n (done (feeder setting b) end).each in
            let held : List (List Cell) = somes (puts_to b (joined_upto (calls (feeder setting b)) n)) in
            let early = ordered.earlier before behind m t b at less read in
            let count : got_by (setting_in setting run) clock_map.running one.accepted b (suc t) ≡ length (somes xs ++ chunk ∷ somes (takes_of b rest)) =
            ap (λ (k : ℕ). length (somes (takes_of b (joined_upto (calls k) (suc t))))) read ∙ ap (λ (l : List Answer). length (somes l)) now ∙ ap (λ (l : List (List Cell)). length l) (somes-append xs (Some chunk ∷ takes_of b rest)) in
            let size = length-append (somes xs) (chunk ∷ somes (takes_of b rest)) in
            let within : length (somes xs) < length held = omega (arith, early, count, size) in
            let same_chunk : chunk ≡ cells = front_same (somes xs) kept.0 keeps.0 held front'.0 fronts.0 chunk cells
            (sym kept.1 ∙ ap somes (lawful_puts setting clock_map.running W N run one b less) ∙ front'.1)
            (sym keeps.1 ∙ ap somes (lawful_puts setting clock_map.running W N other two b less) ∙ fronts.1 ∙ ap (λ (l : List Call). somes (puts_to b l) ++ fronts.0) (sym alike)) within in
            ap (λ (c : List Cell). Some c) same_chunk)

    no_given : (b : ℕ) (chunk : List Cell) (kept keeps : Bool) (front rest more : List Call) → b < length setting.plan.buffers → feeder setting b ≡ m → calls m t ≡ front ++ Given b chunk kept ∷ rest → others m t ≡ front ++ Given b chunk keeps ∷ more → kept ≡ keeps
    no_given b chunk kept keeps front rest more less fed e o =
        let xs : List Answer = puts_to b (joined_upto (calls m) t) ++ puts_to b front in
        let f = puts_all b (calls m) t N front rest chunk kept low e in
        let g = puts_all b (others m) t N front more chunk keeps low o in
        let first : puts_of run b ≡ xs ++ put_of chunk kept ∷ f.0 = lawful_puts setting clock_map.running W N run one b less ∙ ap (λ (k : ℕ). puts_to b (joined_upto (calls k) N)) fed ∙ f.1 in
        let second : puts_of other b ≡ xs ++ put_of chunk keeps ∷ g.0 = lawful_puts setting clock_map.running W N other two b less ∙ ap (λ (k : ℕ). puts_to b (joined_upto (others k) N)) fed ∙ g.1
        ∙ ap (λ (l : List Call). (puts_to b l ++ puts_to b front) ++ put_of chunk keeps ∷ g.0) (sym past_same) in
        put_told chunk kept keeps (map_at is_some xs f.0 g.0 (put_of chunk kept) (put_of chunk keeps) (ap (map is_some) (sym first) ∙ same_puts b less ∙ ap (map is_some) second))

    no_part : (front rest more : List Call) (call got : Call) → calls m t ≡ front ++ call ∷ rest → others m t ≡ front ++ got ∷ more → Differ (length setting.plan.buffers) call got → IsOwn setting m call → ⊥
    no_part front rest more (Took b answer) (Took c got) e o differ own =
        let same : Took c got ≡ Took b got = ap (λ (n : ℕ). Took n got) (sym differ.1) in
        differ.2 (no_took b answer got front rest more differ.0 own e (o ∙ ap (λ (x : Call). front ++ x ∷ more) same))
    no_part front rest more (Took b answer) (Given c chunk accepted) e o differ own = differ
    no_part front rest more (Given b chunk accepted) (Took c answer) e o differ own = differ
    no_part front rest more (Given b chunk kept) (Given c cells keeps) e o differ own =
        let number = sym differ.1 in let cells_are = sym differ.2 in
        let same : Given c cells keeps ≡ Given b chunk keeps = (λ i. Given (number i) (cells_are i) keeps) in
        differ.3 (no_given b chunk kept keeps front rest more differ.0 own e (o ∙ ap (λ (x : Call). front ++ x ∷ more) same))

    here : m < clock_map.running
    here = (ordered.each before behind m t at).0

    call_now : Goes (length setting.plan.buffers) (calls m t) (others m t) (IsTickAlike setting (answers_of run) (answers_of other) m (suc t))
    call_now =
        subst (λ (l : List Call). Goes (length setting.plan.buffers) l (others m t) (IsTickAlike setting (answers_of run) (answers_of other) m (suc t))) (sym (runs_in (setting_in setting run) clock_map.running one.accepted m t here))
        (subst (λ (l : List Call). Goes (length setting.plan.buffers) (ticks_of (setting_in setting run) one.accepted m t) l (IsTickAlike setting (answers_of run) (answers_of other) m (suc t))) (sym (runs_in (setting_in setting other) clock_map.running two.accepted m t here))
        (tick_goes setting clock_map is (answers_of run) (answers_of other) (one.accepted m t) (two.accepted m t) m t now_alike.alike))

    one_more : Made m (suc t)
    one_more = by call_now
      where
        by : Goes (length setting.plan.buffers) (calls m t) (others m t) (IsTickAlike setting (answers_of run) (answers_of other) m (suc t)) → Made m (suc t)
        by (inl part) = absurd (no_part part.front part.behind part.others part.one part.other part.first part.second part.differ
            (all_at (IsOwn setting m) part.front part.behind part.one (subst (All (IsOwn setting m)) part.first (own_in setting clock_map is (answers_of run) clock_map.running one.accepted m t))))
        by (inr same) = record {
          each = λ k less. (elim (cases_lt k t) [
            | inl under ↦ now_alike.each k under
            | inr over ↦ (let e : t ≡ k = omega (arith, less, over) in subst (λ (j : ℕ). calls m j ≡ others m j) e same.same)
          ]);
          alike = same.now;
        }

    next : (k : ℕ) → k < clock_map.running → Made k (made k (before ++ (m, t) ∷ []))
    next k inside = subst (Made k) (sym (made_snoc k before m t)) (by (nat_eq m k) refl)
      where
        by : (s : Bool) → nat_eq m k ≡ s → Made k (cond s (suc (made k before)) (made k before))
        by true e = (let same : m ≡ k = grind (arith, nat_tests) in
            subst (λ (j : ℕ). Made j (suc (made j before))) same (subst (λ (n : ℕ). Made m (suc n)) now_made one_more))
        by false e = done k inside

  walk : (before rest : List (ℕ × ℕ)) → ordered.order ≡ before ++ rest → ((k : ℕ) → k < clock_map.running → Made k (made k before)) → (k : ℕ) → k < clock_map.running → Made k (made k ordered.order)
  walk before [] at done k inside = subst (λ (l : List (ℕ × ℕ)). Made k (made k l)) (sym (at ∙ append-nil before)) (done k inside)
  walk before (tick ∷ rest) at done k inside = walk (before ++ tick ∷ []) rest (at ∙ sym (append_assoc before (tick ∷ []) rest)) (next before rest tick.0 tick.1 at done) k inside

  all_made : (k : ℕ) → k < clock_map.running → Made k N
  all_made k inside = subst (Made k) (ordered.all k inside) (walk [] ordered.order refl (λ m there. record { each = λ t none. absurd (omega (arith, none)); alike = tick_first setting clock_map is (answers_of run) (answers_of other) m }) k inside)

  -- each tick of each clock: a clock that does not run makes no calls in either
  ticks_same : (m t : ℕ) → t < N → calls m t ≡ others m t
  ticks_same m t low = elim (cases_lt m clock_map.running) [
    | inl runs ↦ (all_made m runs).each t low
    | inr rests ↦ rests_in (setting_in setting run) clock_map.running one.accepted m t rests ∙ sym (rests_in (setting_in setting other) clock_map.running two.accepted m t rests)
  ]

  -- the windows of a buffer
  windows_same : (b : ℕ) → b < length setting.plan.buffers → (j : ℕ) → windows_in (setting_in setting run) clock_map.running one.accepted b W N j ≡ windows_in (setting_in setting other) clock_map.running two.accepted b W N j
  windows_same b less zero = refl
  windows_same b less (suc j) =
      let from : ℕ = start W N j in let to : ℕ = start W N (suc j) in let most = start_most W N (suc j) in
      let given' : joined_between (calls (feeder setting b)) from to ≡ joined_between (others (feeder setting b)) from to =
      joined_same (λ i. calls (feeder setting b) (from + i)) (λ i. others (feeder setting b) (from + i)) (to - from) (λ i low. ticks_same (feeder setting b) (from + i) (omega (arith, low, most))) in
      let taken : joined_between (calls (reader setting b)) from to ≡ joined_between (others (reader setting b)) from to =
      joined_same (λ i. calls (reader setting b) (from + i)) (λ i. others (reader setting b) (from + i)) (to - from) (λ i low. ticks_same (reader setting b) (from + i) (omega (arith, low, most))) in
      (λ i. windows_same b less j i ++ (puts_to b (given' i), takes_of b (taken i)) ∷ [])

  same_count : (b : ℕ) → b < length setting.plan.buffers → one.count ≡ two.count
  same_count b less =
      sym (windows_long (setting_in setting run) clock_map.running one.accepted b W N one.count) ∙ ap (λ l. length l) (sym (one.are b less)) ∙ sym (told_long (windows_of run b)) ∙ ap (λ l. length l) (text b less)
      ∙ told_long (windows_of other b) ∙ ap (λ l. length l) (two.are b less) ∙ windows_long (setting_in setting other) clock_map.running two.accepted b W N two.count

  pub same_records : run ≡ other
  same_records = (λ i. record { buffers = lists i })
    where
      lists : run.buffers ≡ other.buffers
      lists = ext_get_or [] run.buffers other.buffers (one.buffers ∙ sym two.buffers) (λ b low.
          let less : b < length setting.plan.buffers = (let size = one.buffers in omega (arith, low, size)) in
          one.are b less ∙ windows_same b less one.count ∙ ap (windows_in (setting_in setting other) clock_map.running two.accepted b W N) (same_count b less) ∙ sym (two.are b less))

pub text_is_whole : (setting : Setting) (clock_map : ClockMap) → IsSetting setting clock_map → (W N : ℕ) (run other : Run) (one : AreWindows setting clock_map.running W N run)
    → AreWindows setting clock_map.running W N other → HasSameText setting run other → IsOrdered (setting_in setting run) clock_map.running one.accepted N → run ≡ other
text_is_whole setting clock_map is W N run other one two text ordered = same_records setting clock_map is W N run other one two text ordered
