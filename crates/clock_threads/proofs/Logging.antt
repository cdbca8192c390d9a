-- The answers of a window in the logs: of a buffer between clocks, and of a list.
use Rattle.std.specs.Prelude.{Result, Ok, Err, OnOk, is_ok}
use Rattle.std.proofs.Common.{true, true≢false, ◌≡◌, ◌≢◌, ◌⊎◌, ℕ, ◌<◌, ◌≤◌, ◌+◌, List, [], ◌∷◌, ◌++◌, length, map, set, slice_index_or, sym, refl, ap, ◌∙◌, subst, arith, inl, inr, ⊎_elim, append-nil, flat_map, get_or-set_same, get_or-set_other, length-set}
use Rattle.frame_core.specs.Calls.{Call, takes_of, puts_to}
use Rattle.buffer_queue.specs.Window.{Window, is_chunk}
use Rattle.buffer_ends.specs.Local.{Answers, LocalBuffer, Leads, empty_list, held, no_answers, on, puts_of, takes_of_window}
use Rattle.buffer_ends.specs.Sides.{Side, SameSides}
use Rattle.buffer_ends.specs.Ends.{Has}
use Rattle.buffer_ends.specs.declared.thread_taps.ThreadTaps.{ThreadTaps}
use Rattle.buffer_ends.proofs.Beginnings.{answers_led}
use Rattle.buffer_sides.specs.Logs.{told as told_of}
use Rattle.clock_threads.specs.declared.task.Task.{Task}
use Rattle.clock_threads.specs.declared.wires.Wire.{Wire}
use Rattle.clock_threads.specs.Wires.{wire_at}
use Rattle.clock_threads.specs.Ends.{puts_of as put_ends, takes_of as take_ends, JoinRan, AllClosed, AllShut}
use Rattle.clock_threads.specs.Records.{IsWired, SameEngines}
use Rattle.clock_threads.proofs.Sets.{same_or_other}
use Rattle.clock_threads.proofs.Keeping.{puts-append, takes-append}
use Rattle.clock_threads.proofs.Closing.{Closing}

pub map_joined : {A B : Type 0} (f : A → B) (xs ys : List A) → map f (xs ++ ys) ≡ map f xs ++ map f ys
map_joined f [] ys = refl
map_joined f (x ∷ xs) ys = ap (λ l. f x ∷ l) (map_joined f xs ys)

abbrev behind : {A : Type 0} → List A → List A
behind [] = []
behind (x ∷ xs) = xs

same_behind : {A : Type 0} (xs ys zs : List A) → xs ++ ys ≡ xs ++ zs → ys ≡ zs
same_behind [] ys zs e = e
same_behind (x ∷ xs) ys zs e = same_behind xs ys zs (ap behind e)

with_side : {A G : Type 0} (xs : List A) (p : ℕ) → p < length xs → (A → G) → G
with_side [] p h f = absurd (omega (arith, h))
with_side (x ∷ xs) p h f = f x

-- what holds where all went well, and what follows
pub on_well : {A B : Type 0} {E : Type 0} (r : Result (Unit {0}) E) → OnOk r A → (A → B) → OnOk r B
on_well (Ok x) a f = f a
on_well (Err x) a f = tt

pub well_then : {A B C : Type 0} {E F : Type 0} (r : Result (Unit {0}) E) (s : Result (Unit {0}) F) → OnOk r ((is_ok s ≡ true) × A) → OnOk s B → (A → B → C) → OnOk r C
well_then (Ok x) (Ok y) more before f = f more.1 before
well_then (Ok x) (Err y) more before f = absurd (true≢false (sym more.0))
well_then (Err x) s more before f = tt

-- what is behind the answers of the closed windows are the answers of the calls since then
module _ (b : ℕ) (old more : List Call) (l m : LocalBuffer) (closed : m.closed ≡ l.closed) (none : l.current ≡ no_answers)
    (before : Leads (empty_list l.capacity) (on b old) (held l)) (after : Leads (empty_list m.capacity) (on b (old ++ more)) (held m)) where
  puts_are : m.current.puts ≡ map is_chunk (puts_to b more)
  puts_are =
      let first = answers_led b old (empty_list l.capacity) (held l) before in
      let last = answers_led b (old ++ more) (empty_list m.capacity) (held m) after in
      let front = flat_map puts_of l.closed in
      let is : front ≡ map is_chunk (puts_to b old) = sym (append-nil front) ∙ ap (λ (a : Answers). front ++ a.puts) (sym none) ∙ first.puts in
      same_behind front m.current.puts (map is_chunk (puts_to b more))
      (ap (λ (l' : List Answers). flat_map puts_of l' ++ m.current.puts) (sym closed) ∙ last.puts ∙ ap (map is_chunk) (puts-append b old more)
      ∙ map_joined is_chunk (puts_to b old) (puts_to b more) ∙ ap (λ x. x ++ map is_chunk (puts_to b more)) (sym is))

  takes_are : m.current.takes ≡ map is_chunk (takes_of b more)
  takes_are =
      let first = answers_led b old (empty_list l.capacity) (held l) before in
      let last = answers_led b (old ++ more) (empty_list m.capacity) (held m) after in
      let front = flat_map takes_of_window l.closed in
      let is : front ≡ map is_chunk (takes_of b old) = sym (append-nil front) ∙ ap (λ (a : Answers). front ++ a.takes) (sym none) ∙ first.takes in
      same_behind front m.current.takes (map is_chunk (takes_of b more))
      (ap (λ (l' : List Answers). flat_map takes_of_window l' ++ m.current.takes) (sym closed) ∙ last.takes ∙ ap (map is_chunk) (takes-append b old more)
      ∙ map_joined is_chunk (takes_of b old) (takes_of b more) ∙ ap (λ x. x ++ map is_chunk (takes_of b more)) (sym is))

  pub current_is : m.current ≡ told_of (puts_to b more, takes_of b more)
  current_is = (λ i. record { puts = puts_are i; takes = takes_are i })

pub has_back : (sides after : List Side) (b : ℕ) → SameSides sides after → Has after b → Has sides b
has_back sides after b same h =
    let low : h.0 < length sides = (let x = h.1 in let m = same.many in omega (arith, x, m)) in
    (h.0, low, λ d. sym (same.each h.0 d low).buffer ∙ h.2 d)

module _ {S R : Type 0} where
  -- a buffer with both its ends in one clock has no end at any
  pub not_ended : (wires : List Wire) (k b : ℕ) (task : Task S (ThreadTaps R)) → IsWired wires k task → (wire_at wires b).from ≡ (wire_at wires b).to → Has (put_ends task) b ⊎ Has (take_ends task) b → ⊥
  not_ended wires k b task wired local has = ⊎_elim (λ (p : Has (put_ends task) b). no_put p) (λ (p : Has (take_ends task) b). no_take p) has
    where
      no_put : Has (put_ends task) b → ⊥
      no_put p = with_side (put_ends task) p.0 p.1 (λ s. let w = wired.puts p.0 s p.1 in
          w.2 (ap (λ n. (wire_at wires n).to) (p.2 s) ∙ sym local ∙ sym (ap (λ n. (wire_at wires n).from) (p.2 s)) ∙ w.1))

      no_take : Has (take_ends task) b → ⊥
      no_take p = with_side (take_ends task) p.0 p.1 (λ s. let w = wired.takes p.0 s p.1 in
          w.2 (ap (λ n. (wire_at wires n).from) (p.2 s) ∙ local ∙ sym (ap (λ n. (wire_at wires n).to) (p.2 s)) ∙ w.1))

  -- the logs have the answers of the buffers below `below`
  pub record Logging (wires : List Wire) (below : ℕ) (first : List (Task S (ThreadTaps R))) (logs after : List (List Answers)) : Type 0 where
    pub many : length after ≡ length logs
    pub done : (b : ℕ) (put take : Window) (d : List Answers) → b < below → (wire_at wires b).from ≢ (wire_at wires b).to → JoinRan (wire_at wires b) b put take first
        → slice_index_or after b d ≡ slice_index_or logs b d ++ told_of (put.answers, take.answers) ∷ []
    pub todo : (b : ℕ) (d : List Answers) → below ≤ b → slice_index_or after b d ≡ slice_index_or logs b d

  pub logging_none : (wires : List Wire) (first : List (Task S (ThreadTaps R))) (logs : List (List Answers)) → Logging wires 0 first logs logs
  logging_none wires first logs = record { many = refl; done = λ b put take d low apart ran. absurd (omega (arith, low)); todo = λ b d high. refl }

  pub logging_skip : (wires : List Wire) (below : ℕ) (first : List (Task S (ThreadTaps R))) (logs after : List (List Answers)) → (wire_at wires below).from ≡ (wire_at wires below).to
      → Logging wires below first logs after → Logging wires (below + 1) first logs after
  logging_skip wires below first logs after local l = record {
    many = l.many;
    done = λ b put take d low apart ran. (elim (same_or_other b below) [
      | inl e ↦ absurd (apart (subst (λ x. (wire_at wires x).from ≡ (wire_at wires x).to) (sym e) local))
      | inr off ↦ l.done b put take d (omega (arith, low, off)) apart ran
    ]);
    todo = λ b d high. l.todo b d (omega (arith, high));
  }

  pub logging_more : (wires : List Wire) (below : ℕ) (first : List (Task S (ThreadTaps R))) (logs after : List (List Answers)) (x : List Answers) (log : Answers) → below < length logs
      → ((put take : Window) → JoinRan (wire_at wires below) below put take first → log ≡ told_of (put.answers, take.answers))
      → ((d : List Answers) → x ≡ slice_index_or after below d ++ log ∷ []) → Logging wires below first logs after → Logging wires (below + 1) first logs (set after below x)
  logging_more wires below first logs after x log within is more l = record {
    many = length-set after below x ∙ l.many;
    done = λ b put take d low apart ran. (elim (same_or_other b below) [
      | inl e ↦ subst (λ n. JoinRan (wire_at wires n) n put take first → slice_index_or (set after below x) n d ≡ slice_index_or logs n d ++ told_of (put.answers, take.answers) ∷ []) (sym e)
          (λ r. get_or-set_same after below x d (let m = l.many in omega (arith, within, m)) ∙ more d ∙ (λ i. l.todo below d (omega arith) i ++ is put take r i ∷ [])) ran
      | inr off ↦ get_or-set_other after below b x d off ∙ l.done b put take d (omega (arith, low, off)) apart ran
    ]);
    todo = λ b d high. (let off : b ≢ below = λ e. omega (arith, high, e) in get_or-set_other after below b x d off ∙ l.todo b d (omega (arith, high)));
  }

  pub all_shut : (wires : List Wire) (below : ℕ) (first now : List (Task S (ThreadTaps R))) → length wires ≤ below → Closing wires below first now → AllShut wires first now
  all_shut wires below first now h c = record { tasks = c.tasks; each = λ b put take less n ran. c.done b put take (omega (arith, less, h)) n ran }

  pub all_closed : (wires : List Wire) (below : ℕ) (first now : List (Task S (ThreadTaps R))) (logs after : List (List Answers)) → length wires ≤ below → Closing wires below first now → Logging wires below first logs after
      → AllClosed wires first now logs after
  all_closed wires below first now logs after h c l = record {
    shut = all_shut wires below first now h c;
    logs_many = l.many;
    logged = λ b put take d less n ran. l.done b put take d (omega (arith, less, h)) n ran;
  }

  pub closing_engines : (wires : List Wire) (below : ℕ) (first now : List (Task S (ThreadTaps R))) → Closing wires below first now → SameEngines first now
  closing_engines wires below first now c = record { many = c.tasks.many; each = λ k d h. (c.tasks.same k d h).engine }

  pub engines_refl : (xs : List (Task S (ThreadTaps R))) → SameEngines xs xs
  engines_refl xs = record { many = refl; each = λ k d h. refl }

  pub engines_then : (xs ys zs : List (Task S (ThreadTaps R))) → SameEngines xs ys → SameEngines ys zs → SameEngines xs zs
  engines_then xs ys zs a b = record { many = b.many ∙ a.many; each = λ k d h. b.each k d (let m = a.many in omega (arith, h, m)) ∙ a.each k d h }
