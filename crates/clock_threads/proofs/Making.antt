-- Engines become tasks one after another, and come back.
use Rattle.std.proofs.Common.{◌≡◌, ℕ, zero, suc, ◌<◌, ◌≤◌, ◌+◌, List, [], ◌∷◌, ◌++◌, length, map, slice_index_or, sym, refl, ap, ◌∙◌, subst, arith, inl, inr, append_assoc, append-nil, length-append, take, drop}
use Rattle.plan_core.specs.declared.plan.Plan.{Plan}
use Rattle.buffer_ends.specs.Local.{LocalBuffer, planned}
use Rattle.buffer_ends.specs.declared.thread_taps.ThreadTaps.{ThreadTaps}
use Rattle.clock_ticks.specs.declared.engine.ClockEngine.{ClockEngine}
use Rattle.clock_threads.specs.declared.task.Task.{Task}
use Rattle.clock_threads.proofs.Sets.{same_or_other}
use Rattle.clock_threads.specs.Ends.{puts_of as put_ends, takes_of as take_ends}
use Rattle.clock_threads.specs.EngineTasks.{engine_of, IsBare, AreTasks}
use Rattle.clock_threads.proofs.Joining.{front_get, last_get}

pub map_snoc : {A B : Type 0} (f : A → B) (xs : List A) (y : A) → map f (xs ++ y ∷ []) ≡ map f xs ++ f y ∷ []
map_snoc f [] y = refl
map_snoc f (x ∷ xs) y = ap (λ l. f x ∷ l) (map_snoc f xs y)

pub map_long : {A B : Type 0} (f : A → B) (xs : List A) → length (map f xs) ≡ length xs
map_long f [] = refl
map_long f (x ∷ xs) = ap suc (map_long f xs)

pub map_get : {A B : Type 0} (f : A → B) (xs : List A) (k : ℕ) (d : A) (e : B) → k < length xs → slice_index_or (map f xs) k e ≡ f (slice_index_or xs k d)
map_get f [] k d e h = absurd (omega (arith, h))
map_get f (x ∷ xs) zero d e h = refl
map_get f (x ∷ xs) (suc k) d e h = map_get f xs k d e (omega (arith, h))

pub first_gone : {A : Type 0} (xs ys : List A) (x : A) → 0 < length xs → x ≡ slice_index_or xs 0 x → ys ≡ take 0 xs ++ drop (0 + 1) xs → xs ≡ x ∷ ys
first_gone [] ys x h e r = absurd (omega (arith, h))
first_gone (z ∷ xs) ys x h e r = (λ i. sym e i ∷ sym r i)

module _ {S R : Type 0} (plan : Plan) where
  -- so many of the engines have become tasks
  pub record Making (count made : ℕ) (old engines : List (ClockEngine S)) (room : ℕ) (tasks : List (Task S (ThreadTaps R))) (tasks_room : ℕ) (locals : List (List LocalBuffer)) : Type 0 where
    pub engines_are : map engine_of tasks ++ engines ≡ old
    pub many : length tasks ≡ made
    pub all : length old ≡ count
    pub bare : (k : ℕ) (d : Task S (ThreadTaps R)) → k < length tasks → IsBare plan (slice_index_or tasks k d)
    pub rooms : count ≤ room
    pub tasks_rooms : count ≤ tasks_room
    pub locals_many : made + length locals ≡ count
    pub locals_are : (k : ℕ) (d : List LocalBuffer) → k < length locals → slice_index_or locals k d ≡ map planned plan.buffers

  pub making_left : (count made : ℕ) (old engines : List (ClockEngine S)) (room : ℕ) (tasks : List (Task S (ThreadTaps R))) (tasks_room : ℕ) (locals : List (List LocalBuffer)) → Making count made old engines room tasks tasks_room locals
      → made + length engines ≡ count
  making_left count made old engines room tasks tasks_room locals m =
      let a = sym (length-append (map engine_of tasks) engines) ∙ ap length m.engines_are in let b = map_long engine_of tasks in let c = m.many in let d = m.all in omega (arith, a, b, c, d)

  pub making_more : (count made : ℕ) (old engines engines' : List (ClockEngine S)) (room room' : ℕ) (tasks tasks' : List (Task S (ThreadTaps R))) (tasks_room tasks_room' : ℕ) (locals locals' : List (List LocalBuffer))
      (engine : ClockEngine S) (local : List LocalBuffer) (task : Task S (ThreadTaps R)) → Making count made old engines room tasks tasks_room locals → made < count
      → engine ≡ slice_index_or engines 0 engine → engines' ≡ take 0 engines ++ drop (0 + 1) engines → room' ≡ room → local ≡ slice_index_or locals 0 local → locals' ≡ take 0 locals ++ drop (0 + 1) locals
      → tasks' ≡ tasks ++ task ∷ [] → tasks_room' ≡ tasks_room → task.engine ≡ engine → put_ends task ≡ [] → take_ends task ≡ [] → task.taps.local ≡ local
      → Making count (made + 1) old engines' room' tasks' tasks_room' locals'
  making_more count made old engines engines' room room' tasks tasks' tasks_room tasks_room' locals locals' engine local task m less e1 e2 r l1 l2 t tr te tp tt' tl =
      let left = making_left count made old engines room tasks tasks_room locals m in
      let cut : engines ≡ engine ∷ engines' = first_gone engines engines' engine (omega (arith, left, less)) e1 e2 in
      let some : 0 < length locals = (let n = m.locals_many in omega (arith, n, less)) in
      let cut' : locals ≡ local ∷ locals' = first_gone locals locals' local some l1 l2 in
      let plain : local ≡ map planned plan.buffers = l1 ∙ m.locals_are 0 local some in
      let here : IsBare plan task = record { puts = tp; takes = tt'; local = tl ∙ plain } in
      let long = ap length t ∙ length-append tasks (task ∷ []) in
      record {
        engines_are = ap (λ l. map engine_of l ++ engines') t ∙ ap (λ l. l ++ engines') (map_snoc engine_of tasks task) ∙ append_assoc (map engine_of tasks) (task.engine ∷ []) engines'
            ∙ (λ i. map engine_of tasks ++ te i ∷ engines') ∙ ap (λ l. map engine_of tasks ++ l) (sym cut) ∙ m.engines_are;
        many = (let n = m.many in omega (arith, long, n));
        all = m.all;
        bare = λ k d low. (elim (same_or_other k (length tasks)) [
          | inl is ↦ subst (IsBare plan) (sym (ap (λ l. slice_index_or l k d) t ∙ last_get tasks task d k is)) here
          | inr off ↦ (let inside : k < length tasks = omega (arith, low, long, off) in
              subst (IsBare plan) (sym (ap (λ l. slice_index_or l k d) t ∙ front_get tasks task d k inside)) (m.bare k d inside))
        ]);
        rooms = (let n = m.rooms in omega (arith, n, r));
        tasks_rooms = (let n = m.tasks_rooms in omega (arith, n, tr));
        locals_many = (let n = m.locals_many in let c = ap length cut' in omega (arith, n, c));
        locals_are = λ k d low. ap (λ l. slice_index_or l (suc k) d) (sym cut') ∙ m.locals_are (suc k) d (let c = ap length cut' in omega (arith, low, c));
      }

  pub making_all : (count made : ℕ) (old engines : List (ClockEngine S)) (room : ℕ) (tasks : List (Task S (ThreadTaps R))) (tasks_room : ℕ) (locals : List (List LocalBuffer)) → Making count made old engines room tasks tasks_room locals → made ≡ count
      → (engines ≡ []) × AreTasks plan old tasks
  making_all count made old engines room tasks tasks_room locals m is =
      let left = making_left count made old engines room tasks tasks_room locals m in
      let none : engines ≡ [] = nothing engines (omega (arith, left, is)) in
      (none, record { engines_are = sym (append-nil (map engine_of tasks)) ∙ ap (λ l. map engine_of tasks ++ l) (sym none) ∙ m.engines_are; each = m.bare })
    where
      nothing : {A : Type 0} (xs : List A) → length xs ≡ 0 → xs ≡ []
      nothing [] h = refl
      nothing (x ∷ xs) h = absurd (omega (arith, h))

-- so many of the tasks have become engines again
pub record Unmaking {S R : Type 0} (count made : ℕ) (old : List (Task S (ThreadTaps R))) (engines : List (ClockEngine S)) (room : ℕ) (tasks : List (Task S (ThreadTaps R))) : Type 0 where
  pub engines_are : engines ++ map engine_of tasks ≡ map engine_of old
  pub many : length engines ≡ made
  pub all : length old ≡ count
  pub rooms : count ≤ room

pub unmaking_left : {S R : Type 0} (count made : ℕ) (old : List (Task S (ThreadTaps R))) (engines : List (ClockEngine S)) (room : ℕ) (tasks : List (Task S (ThreadTaps R))) → Unmaking count made old engines room tasks → made + length tasks ≡ count
unmaking_left {S} {R} count made old engines room tasks m =
    let a = sym (length-append engines (map (engine_of {S = S} {R = R}) tasks)) ∙ ap length m.engines_are in let b = map_long (engine_of {S = S} {R = R}) tasks in let e = map_long (engine_of {S = S} {R = R}) old in let c = m.many in let d = m.all in omega (arith, a, b, c, d, e)

pub unmaking_more : {S R : Type 0} (count made : ℕ) (old : List (Task S (ThreadTaps R))) (engines engines' : List (ClockEngine S)) (room room' : ℕ) (tasks tasks' : List (Task S (ThreadTaps R))) (task : Task S (ThreadTaps R)) (engine : ClockEngine S)
    → Unmaking count made old engines room tasks → made < count → task ≡ slice_index_or tasks 0 task → tasks' ≡ take 0 tasks ++ drop (0 + 1) tasks → engines' ≡ engines ++ engine ∷ [] → room' ≡ room → engine ≡ task.engine
    → Unmaking count (made + 1) old engines' room' tasks'
unmaking_more {S} {R} count made old engines engines' room room' tasks tasks' task engine m less t1 t2 e r is =
    let left = unmaking_left count made old engines room tasks m in
    let cut : tasks ≡ task ∷ tasks' = first_gone tasks tasks' task (omega (arith, left, less)) t1 t2 in
    let long = ap length e ∙ length-append engines (engine ∷ []) in
    record {
      engines_are = ap (λ l. l ++ map engine_of tasks') e ∙ append_assoc engines (engine ∷ []) (map engine_of tasks') ∙ (λ i. engines ++ is i ∷ map engine_of tasks') ∙ ap (λ l. engines ++ map engine_of l) (sym cut) ∙ m.engines_are;
      many = (let n = m.many in omega (arith, long, n));
      all = m.all;
      rooms = (let n = m.rooms in omega (arith, n, r));
    }
