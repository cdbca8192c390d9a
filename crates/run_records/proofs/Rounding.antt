-- Two records of rounds of one setting are the same.
use Rattle.std.proofs.Common.{◌≡◌, ◌<◌, ◌∙◌, ◌++◌, ℕ, suc, Bool, true, false, cond, Some, None, List, [], ◌∷◌, length, nat_eq, inl, inr, refl, ap, sym, subst, arith, ext_get_or}
use Rattle.std.proofs.lemmas.Bool.Decides.{nat_tests}
use Rattle.clock_infer.specs.declared.clock_map.ClockMap.{ClockMap}
use Rattle.frame_core.specs.declared.cell.Cell.{Cell}
use Rattle.frame_core.specs.Calls.{Call, Took, Given, puts_to, takes_of, Answer}
use Rattle.stream_meaning.specs.Instants.{Setting, answered}
use Rattle.stream_meaning.specs.Calls.{joined_upto}
use Rattle.stream_meaning.specs.Settings.{IsSetting}
use Rattle.run_records.specs.Records.{Run, setting_in, capacity_of, on, Follows, ticks_of, rounds_of, IsRounds, answers_of}
use Rattle.run_records.specs.Parting.{Differ, ArePart, Goes}
use Rattle.run_records.specs.Alike.{IsTickAlike}
use Rattle.run_records.proofs.Parting.{goes_equal, goes_each}
use Rattle.run_records.proofs.Ticking.{tick_goes, tick_first}

-- a list under calls in their order
pub follows_split : (C : ℕ) (xs ys : List Call) (q r : List (List Cell)) → Follows C q (xs ++ ys) r → (m : List (List Cell)) × Follows C q xs m × Follows C m ys r
follows_split C [] ys q r f = (q, refl, f)
follows_split C (Took b None ∷ xs) ys q r f = let t = follows_split C xs ys q r f.1 in (t.0, (f.0, t.1), t.2)
follows_split C (Took b (Some chunk) ∷ xs) ys q r f = let t = follows_split C xs ys f.0 r f.2 in (t.0, (f.0, f.1, t.1), t.2)
follows_split C (Given b chunk true ∷ xs) ys q r f = let t = follows_split C xs ys (q ++ chunk ∷ []) r f.1 in (t.0, (f.0, t.1), t.2)
follows_split C (Given b chunk false ∷ xs) ys q r f = let t = follows_split C xs ys q r f.1 in (t.0, (f.0, t.1), t.2)

-- the calls tell what they leave
pub follows_one : (C : ℕ) (calls : List Call) (q r s : List (List Cell)) → Follows C q calls r → Follows C q calls s → r ≡ s
follows_one C [] q r s f g = sym f ∙ g
follows_one C (Took b None ∷ calls) q r s f g = follows_one C calls q r s f.1 g.1
follows_one C (Took b (Some chunk) ∷ calls) q r s f g =
    let same : g.0 ≡ f.0 = (let one = f.1 in let other = g.1 in cc) in
    follows_one C calls f.0 r s f.2 (subst (λ (l : List (List Cell)). Follows C l calls s) same g.2)
follows_one C (Given b chunk true ∷ calls) q r s f g = follows_one C calls (q ++ chunk ∷ []) r s f.1 g.1
follows_one C (Given b chunk false ∷ calls) q r s f g = follows_one C calls q r s f.1 g.1

pub on-append : (b : ℕ) (xs ys : List Call) → on b (xs ++ ys) ≡ on b xs ++ on b ys
on-append b [] ys = refl
on-append b (Took c answer ∷ xs) ys = by (nat_eq b c) (on-append b xs ys)
  where
    by : (t : Bool) → on b (xs ++ ys) ≡ on b xs ++ on b ys → cond t (Took c answer ∷ on b (xs ++ ys)) (on b (xs ++ ys)) ≡ cond t (Took c answer ∷ on b xs) (on b xs) ++ on b ys
    by true e = ap (λ (l : List Call). Took c answer ∷ l) e
    by false e = e
on-append b (Given c chunk accepted ∷ xs) ys = by (nat_eq b c) (on-append b xs ys)
  where
    by : (t : Bool) → on b (xs ++ ys) ≡ on b xs ++ on b ys → cond t (Given c chunk accepted ∷ on b (xs ++ ys)) (on b (xs ++ ys)) ≡ cond t (Given c chunk accepted ∷ on b xs) (on b xs) ++ on b ys
    by true e = ap (λ (l : List Call). Given c chunk accepted ∷ l) e
    by false e = e

eq_same : (n : ℕ) → nat_eq n n ≡ true
eq_same n = grind (arith, nat_tests)

on_took : (b : ℕ) (answer : Answer) (calls : List Call) → on b (Took b answer ∷ calls) ≡ Took b answer ∷ on b calls
on_took b answer calls = ap (λ (t : Bool). cond t (Took b answer ∷ on b calls) (on b calls)) (eq_same b)

on_given : (b : ℕ) (chunk : List Cell) (accepted : Bool) (calls : List Call) → on b (Given b chunk accepted ∷ calls) ≡ Given b chunk accepted ∷ on b calls
on_given b chunk accepted calls = ap (λ (t : Bool). cond t (Given b chunk accepted ∷ on b calls) (on b calls)) (eq_same b)

-- a list answers one take, and one put, in one way
took_one : (C b : ℕ) (one other : Answer) (calls others : List Call) (q r s : List (List Cell)) → Follows C q (Took b one ∷ calls) r → Follows C q (Took b other ∷ others) s → one ≡ other
took_one C b None None calls others q r s f g = refl
took_one C b None (Some chunk) calls others q r s f g = absurd (let e = f.0 in let o = g.1 in cc)
took_one C b (Some chunk) None calls others q r s f g = absurd (let e = f.1 in let o = g.0 in cc)
took_one C b (Some chunk) (Some other) calls others q r s f g = (let e = f.1 in let o = g.1 in let same : chunk ≡ other = cc in ap (λ (c : List Cell). Some c) same)

given_one : (C b : ℕ) (chunk : List Cell) (one other : Bool) (calls others : List Call) (q r s : List (List Cell)) → Follows C q (Given b chunk one ∷ calls) r → Follows C q (Given b chunk other ∷ others) s → one ≡ other
given_one C b chunk true true calls others q r s f g = refl
given_one C b chunk false false calls others q r s f g = refl
given_one C b chunk true false calls others q r s f g = absurd (let e = f.0 in let o = g.0 in omega (arith, e, o))
given_one C b chunk false true calls others q r s f g = absurd (let e = f.0 in let o = g.0 in omega (arith, e, o))

-- calls that the lists of all buffers follow do not part
module _ (capacity : ℕ → ℕ) (buffers : ℕ) (xs ys : List Call)
    (first : (b : ℕ) → b < buffers → (rest : List (List Cell)) × Follows (capacity b) [] (on b xs) rest)
    (second : (b : ℕ) → b < buffers → (rest : List (List Cell)) × Follows (capacity b) [] (on b ys) rest) where
  -- what a buffer holds where they part, and that it goes on
  meet : (b : ℕ) → b < buffers → (front behind others : List Call) → xs ≡ front ++ behind → ys ≡ front ++ others
      → (q r s : List (List Cell)) × Follows (capacity b) q (on b behind) r × Follows (capacity b) q (on b others) s
  meet b known front behind others one other =
      let f = first b known in let g = second b known in
      let cut = follows_split (capacity b) (on b front) (on b behind) [] f.0 (subst (λ (l : List Call). Follows (capacity b) [] l f.0) (ap (on b) one ∙ on-append b front behind) f.1) in
      let cuts = follows_split (capacity b) (on b front) (on b others) [] g.0 (subst (λ (l : List Call). Follows (capacity b) [] l g.0) (ap (on b) other ∙ on-append b front others) g.1) in
      let same : cuts.0 ≡ cut.0 = follows_one (capacity b) (on b front) [] cuts.0 cut.0 cuts.1 cut.1 in
      (cut.0, f.0, g.0, cut.2, subst (λ (l : List (List Cell)). Follows (capacity b) l (on b others) g.0) same cuts.2)

  pub not_apart : (front behind others : List Call) (one other : Call) → xs ≡ front ++ one ∷ behind → ys ≡ front ++ other ∷ others → Differ buffers one other → ⊥
  not_apart front behind others (Took b answer) (Took c got) e o differ =
      let same : Took c got ≡ Took b got = ap (λ (n : ℕ). Took n got) (sym differ.1) in
      let m = meet b differ.0 front (Took b answer ∷ behind) (Took b got ∷ others) e (o ∙ ap (λ (x : Call). front ++ x ∷ others) same) in
      differ.2 (took_one (capacity b) b answer got (on b behind) (on b others) m.0 m.1 m.2
      (subst (λ (l : List Call). Follows (capacity b) m.0 l m.1) (on_took b answer behind) m.3) (subst (λ (l : List Call). Follows (capacity b) m.0 l m.2) (on_took b got others) m.4))
  not_apart front behind others (Took b answer) (Given c chunk accepted) e o differ = differ
  not_apart front behind others (Given b chunk accepted) (Took c answer) e o differ = differ
  not_apart front behind others (Given b chunk accepted) (Given c cells full) e o differ =
      let same : Given c cells full ≡ Given b chunk full = (let to = sym differ.1 in let cells_are = sym differ.2 in λ i. Given (to i) (cells_are i) full) in
      let m = meet b differ.0 front (Given b chunk accepted ∷ behind) (Given b chunk full ∷ others) e (o ∙ ap (λ (x : Call). front ++ x ∷ others) same) in
      differ.3 (given_one (capacity b) b chunk accepted full (on b behind) (on b others) m.0 m.1 m.2
      (subst (λ (l : List Call). Follows (capacity b) m.0 l m.1) (on_given b chunk accepted behind) m.3) (subst (λ (l : List Call). Follows (capacity b) m.0 l m.2) (on_given b chunk full others) m.4))

  pub never_part : ArePart buffers xs ys → ⊥
  never_part part = not_apart part.front part.behind part.others part.one part.other part.first part.second part.differ

module _ (setting : Setting) (map : ClockMap) (is : IsSetting setting map) where
  -- rounds over two lists of answers
  pub rounds_go : (one other : ℕ → List Answer) (first second : ℕ → ℕ → ℕ → Bool) (clocks N : ℕ)
      → Goes (length setting.plan.buffers) (rounds_of (answered setting one) first clocks N) (rounds_of (answered setting other) second clocks N) ((m : ℕ) → m < clocks → IsTickAlike setting one other m N)
  rounds_go one other first second clocks N = goes_equal (length setting.plan.buffers)
      (λ t. joined_upto (λ m. ticks_of (answered setting one) first m t) clocks) (λ t. joined_upto (λ m. ticks_of (answered setting other) second m t) clocks) N
      (λ t. (m : ℕ) → m < clocks → IsTickAlike setting one other m t)
      (λ t low now. goes_each (length setting.plan.buffers) (λ m. ticks_of (answered setting one) first m t) (λ m. ticks_of (answered setting other) second m t) clocks (λ m. IsTickAlike setting one other m (suc t))
      (λ m there. tick_goes setting map is one other (first m t) (second m t) m t (now m there)))
      (λ m there. tick_first setting map is one other m)

  -- the calls of two records of rounds
  pub same_rounds : (clocks N : ℕ) (run other : Run) (one : IsRounds setting clocks N run) (two : IsRounds setting clocks N other)
      → rounds_of (setting_in setting run) one.accepted clocks N ≡ rounds_of (setting_in setting other) two.accepted clocks N
  same_rounds clocks N run other one two = by (rounds_go (answers_of run) (answers_of other) one.accepted two.accepted clocks N)
    where
      by : Goes (length setting.plan.buffers) (rounds_of (setting_in setting run) one.accepted clocks N) (rounds_of (setting_in setting other) two.accepted clocks N) ((m : ℕ) → m < clocks → IsTickAlike setting (answers_of run) (answers_of other) m N)
          → rounds_of (setting_in setting run) one.accepted clocks N ≡ rounds_of (setting_in setting other) two.accepted clocks N
      by (inl part) = absurd (never_part (capacity_of setting) (length setting.plan.buffers) (rounds_of (setting_in setting run) one.accepted clocks N) (rounds_of (setting_in setting other) two.accepted clocks N) one.in_order two.in_order part)
      by (inr are) = are.same

  -- two records of rounds
  pub rounds_are_one : (clocks N : ℕ) (run other : Run) → IsRounds setting clocks N run → IsRounds setting clocks N other → run ≡ other
  rounds_are_one clocks N run other one two = (λ i. record { buffers = lists i })
    where
      lists : run.buffers ≡ other.buffers
      lists = ext_get_or [] run.buffers other.buffers (one.buffers ∙ sym two.buffers) (λ b low.
          let there : b < length setting.plan.buffers = (let size = one.buffers in omega (arith, low, size)) in
          one.are b there ∙ ap (λ (calls : List Call). (puts_to b calls, takes_of b calls) ∷ []) (same_rounds clocks N run other one two) ∙ sym (two.are b there))
