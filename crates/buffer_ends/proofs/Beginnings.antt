-- Taps with new ends stand for what their lists stand for.
use Rattle.std.proofs.Common.{◌≡◌, ℕ, ◌<◌, ◌==◌, Bool, true, false, List, [], ◌∷◌, ◌++◌, length, map, sym, refl, ap, ◌∙◌, arith, slice_index_or, Option, Some, None, if◌then◌else◌, append-nil}
use Rattle.std.proofs.lemmas.List.{append_assoc}
use Rattle.frame_core.specs.declared.cell.Cell.{Cell}
use Rattle.frame_core.specs.Calls.{Call, takes_of, puts_to, put_of}
use Rattle.frame_core.specs.Calls.Call.{Took, Given}
use Rattle.buffer_queue.specs.Window.{is_chunk}
use Rattle.buffer_ends.specs.Local.{LocalBuffer, Held, held, all_answers, no_answers, on, Step, Leads, Answers}
use Rattle.buffer_ends.specs.Sides.{Side}
use Rattle.buffer_ends.specs.Ends.{AreNew, EndsStand, LocalStands}

-- the answers of a list behind these calls on it
pub record Answered (b : ℕ) (calls : List Call) (q r : Held) : Type 0 where
  pub puts : r.answers.puts ≡ q.answers.puts ++ map is_chunk (puts_to b calls)
  pub takes : r.answers.takes ≡ q.answers.takes ++ map is_chunk (takes_of b calls)

record Takes (o : Option (List Cell)) (q m : Held) : Type 0 where
  pub puts : m.answers.puts ≡ q.answers.puts
  pub takes : m.answers.takes ≡ q.answers.takes ++ is_chunk o ∷ []

record Gives (a : Bool) (q m : Held) : Type 0 where
  pub puts : m.answers.puts ≡ q.answers.puts ++ a ∷ []
  pub takes : m.answers.takes ≡ q.answers.takes

took : (k : ℕ) (o : Option (List Cell)) (q m : Held) → Step q (Took k o) m → Takes o q m
took k None q m s = record { puts = ap (λ (x : Held). x.answers.puts) s.1; takes = ap (λ (x : Held). x.answers.takes) s.1 }
took k (Some c) q m s = record { puts = ap (λ (x : Held). x.answers.puts) s.2; takes = ap (λ (x : Held). x.answers.takes) s.2 }

given : (k : ℕ) (c : List Cell) (a : Bool) (q m : Held) → Step q (Given k c a) m → Gives a q m
given k c true q m s = record { puts = ap (λ (x : Held). x.answers.puts) s.1; takes = ap (λ (x : Held). x.answers.takes) s.1 }
given k c false q m s = record { puts = ap (λ (x : Held). x.answers.puts) s.1; takes = ap (λ (x : Held). x.answers.takes) s.1 }

chunk_put : (c : List Cell) (a : Bool) → is_chunk (put_of c a) ≡ a
chunk_put c true = refl
chunk_put c false = refl

further : (xs ys zs us : List Bool) (x : Bool) → us ≡ ys ++ zs → ys ≡ xs ++ x ∷ [] → us ≡ xs ++ x ∷ zs
further xs ys zs us x e f = e ∙ ap (λ l. l ++ zs) f ∙ append_assoc xs (x ∷ []) zs

pub answers_led : (b : ℕ) (calls : List Call) (q r : Held) → Leads q (on b calls) r → Answered b calls q r
answers_led b [] q r e = record { puts = ap (λ (x : Held). x.answers.puts) (sym e) ∙ sym (append-nil q.answers.puts); takes = ap (λ (x : Held). x.answers.takes) (sym e) ∙ sym (append-nil q.answers.takes) }
answers_led b (Took k o ∷ cs) q r l = let p = go (b == k) (λ m. answers_led b cs m r) l in record { puts = p.0; takes = p.1 }
  where
    go : (t : Bool) → ((m : Held) → Leads m (on b cs) r → Answered b cs m r) → Leads q (if t then (Took k o ∷ on b cs) else on b cs) r
        → (r.answers.puts ≡ q.answers.puts ++ map is_chunk (puts_to b cs)) × (r.answers.takes ≡ q.answers.takes ++ map is_chunk (if t then (o ∷ takes_of b cs) else takes_of b cs))
    go true f l = let rest = f l.0 l.2 in let s = took k o q l.0 l.1 in
        (rest.puts ∙ ap (λ xs. xs ++ map is_chunk (puts_to b cs)) s.puts, further q.answers.takes l.0.answers.takes (map is_chunk (takes_of b cs)) r.answers.takes (is_chunk o) rest.takes s.takes)
    go false f l = let rest = f q l in (rest.puts, rest.takes)
answers_led b (Given k c a ∷ cs) q r l = let p = go (b == k) (λ m. answers_led b cs m r) l in record { puts = p.0; takes = p.1 }
  where
    go : (t : Bool) → ((m : Held) → Leads m (on b cs) r → Answered b cs m r) → Leads q (if t then (Given k c a ∷ on b cs) else on b cs) r
        → (r.answers.puts ≡ q.answers.puts ++ map is_chunk (if t then (put_of c a ∷ puts_to b cs) else puts_to b cs)) × (r.answers.takes ≡ q.answers.takes ++ map is_chunk (takes_of b cs))
    go true f l = let rest = f l.0 l.2 in let s = given k c a q l.0 l.1 in (
      further q.answers.puts l.0.answers.puts (map is_chunk (puts_to b cs)) r.answers.puts (is_chunk (put_of c a)) rest.puts (s.puts ∙ ap (λ x. q.answers.puts ++ x ∷ []) (sym (chunk_put c a))),
      rest.takes ∙ ap (λ xs. xs ++ map is_chunk (takes_of b cs)) s.takes,
    )
    go false f l = let rest = f q l in (rest.puts, rest.takes)

none_mapped : (xs : List (Option (List Cell))) → [] ≡ map is_chunk xs → xs ≡ []
none_mapped [] e = refl
none_mapped (x ∷ xs) e = absurd (omega (arith, ap length e))

puts_nothing : (lists : List LocalBuffer) (calls : List Call) (b : ℕ) (d : LocalBuffer) → b < length lists → LocalStands lists calls → all_answers (slice_index_or lists b d) ≡ no_answers → puts_to b calls ≡ []
puts_nothing lists calls b d room s e =
    let led = answers_led b calls _ (held (slice_index_or lists b d)) (s b d room (λ x. x)) in
    none_mapped (puts_to b calls) (sym (ap (λ (a : Answers). a.puts) e) ∙ led.puts)

takes_nothing : (lists : List LocalBuffer) (calls : List Call) (b : ℕ) (d : LocalBuffer) → b < length lists → LocalStands lists calls → all_answers (slice_index_or lists b d) ≡ no_answers → takes_of b calls ≡ []
takes_nothing lists calls b d room s e =
    let led = answers_led b calls _ (held (slice_index_or lists b d)) (s b d room (λ x. x)) in
    none_mapped (takes_of b calls) (sym (ap (λ (a : Answers). a.takes) e) ∙ led.takes)

pub new_stand : (puts takes : List Side) (lists : List LocalBuffer) → AreNew puts lists → AreNew takes lists → (calls : List Call) → LocalStands lists calls → EndsStand puts takes lists calls
new_stand puts takes lists p t calls s = (
  (λ k d h. let n = p k d h in n.0 ∙ sym (puts_nothing lists calls (slice_index_or puts k d).buffer (empty_one) n.1 s (n.2 empty_one))),
  (λ k d h. let n = t k d h in n.0 ∙ sym (takes_nothing lists calls (slice_index_or takes k d).buffer (empty_one) n.1 s (n.2 empty_one))),
  λ b d h away. s b d h (λ x. x),
)
  where
    empty_one : LocalBuffer
    empty_one = record { capacity = 0; chunks = []; closed = []; current = no_answers }
