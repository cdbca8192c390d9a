-- Windows are closed one buffer after the other, and opened again in the other order.
use Rattle.std.proofs.Common.{◌≡◌, ℕ, zero, suc, eqb, true, ⊎_elim, get_or-set_same, get_or-set_other, length-set, ◌+◌, ◌<◌, List, [], ◌∷◌, length, map, get_or, set, sym, refl, ap, ◌∙◌, subst, arith, append-nil, Result, Ok, Err, OnOk, is_err, false}
use Rattle.std.proofs.lemmas.Bool.Decides.{eqb_tells}
use Rattle.std.proofs.lemmas.Grind.{common_steps, flat_map-append}
use Rattle.frame_core.specs.Calls.{Call}
use Rattle.plan_core.specs.declared.sink.BufferPlan.{BufferPlan}
use Rattle.buffer_ends.specs.Local.{LocalBuffer, held, closed, closed_first, planned, empty_list, on, Leads}
use Rattle.buffer_ends.specs.Ends.{ListsStand, LocalStands}

pub first_length : (n : ℕ) (bs : List LocalBuffer) → length (closed_first n bs) ≡ length bs
first_length zero bs = refl
first_length (suc n) [] = refl
first_length (suc n) (b ∷ bs) = ap suc (first_length n bs)

pub first_get : (n : ℕ) (bs : List LocalBuffer) (d : LocalBuffer) → get_or (closed_first n bs) n d ≡ get_or bs n d
first_get zero bs d = refl
first_get (suc n) [] d = refl
first_get (suc n) (b ∷ bs) d = first_get n bs d

pub first_set : (n : ℕ) (bs : List LocalBuffer) (d : LocalBuffer) → n < length bs → set (closed_first n bs) n (closed (get_or bs n d)) ≡ closed_first (suc n) bs
first_set zero [] d h = refl
first_set zero (b ∷ bs) d h = refl
first_set (suc n) [] d h = refl
first_set (suc n) (b ∷ bs) d h = ap (λ l. closed b ∷ l) (first_set n bs d (omega (arith, h)))

pub last_get : (n : ℕ) (bs : List LocalBuffer) (d : LocalBuffer) → n < length bs → get_or (closed_first (suc n) bs) n d ≡ closed (get_or bs n d)
last_get zero [] d h = absurd (omega (arith, h))
last_get zero (b ∷ bs) d h = refl
last_get (suc n) [] d h = absurd (omega (arith, h))
last_get (suc n) (b ∷ bs) d h = last_get n bs d (omega (arith, h))

pub last_set : (n : ℕ) (bs : List LocalBuffer) (d : LocalBuffer) → n < length bs → set (closed_first (suc n) bs) n (get_or bs n d) ≡ closed_first n bs
last_set zero [] d h = refl
last_set zero (b ∷ bs) d h = refl
last_set (suc n) [] d h = refl
last_set (suc n) (b ∷ bs) d h = ap (λ l. closed b ∷ l) (last_set n bs d (omega (arith, h)))

pub first_all : (bs : List LocalBuffer) → closed_first (length bs) bs ≡ map closed bs
first_all [] = refl
first_all (b ∷ bs) = ap (λ l. closed b ∷ l) (first_all bs)

-- closing a window changes nothing of what is held and was answered
held_closed : (b : LocalBuffer) → held (closed b) ≡ held b
held_closed b = grind (arith, append-nil, flat_map-append, common_steps)

pub stand_closed : (E : ℕ → Type 0) (bs : List LocalBuffer) (calls : List Call) → ListsStand E bs calls → ListsStand E (map closed bs) calls
stand_closed E bs calls s b d h away = subst (λ (x : LocalBuffer). Leads (empty_list x.capacity) (on b calls) (held x)) (sym (mapped bs b d h)) (subst (λ y. Leads (empty_list (get_or bs b d).capacity) (on b calls) y) (sym (held_closed (get_or bs b d))) (s b d (shorter bs b h) away))
  where
    mapped : (xs : List LocalBuffer) (k : ℕ) (e : LocalBuffer) → k < length (map closed xs) → get_or (map closed xs) k e ≡ closed (get_or xs k e)
    mapped [] k e h = absurd (omega (arith, h))
    mapped (x ∷ xs) zero e h = refl
    mapped (x ∷ xs) (suc k) e h = mapped xs k e (omega (arith, h))

    shorter : (xs : List LocalBuffer) (k : ℕ) → k < length (map closed xs) → k < length xs
    shorter xs k h = grind (arith, common_steps, h)

-- a buffer of a plan stands for no call
pub stand_planned : (bs : List BufferPlan) → LocalStands (map planned bs) []
stand_planned [] b d h away = absurd (omega (arith, h))
stand_planned (p ∷ ps) zero d h away = refl
stand_planned (p ∷ ps) (suc b) d h away = stand_planned ps b d (omega (arith, h)) away

-- the buffer at a place where the windows below and at it are closed, opened again
pub was_closed : (n : ℕ) (lists bs : List LocalBuffer) (x : LocalBuffer) → lists ≡ closed_first (suc n) bs → n < length bs → x ≡ get_or lists n x → x ≡ closed (get_or bs n x)
was_closed n lists bs x e h old = old ∙ ap (λ l. get_or l n x) e ∙ last_get n bs x h

pub reopened : (n : ℕ) (lists bs : List LocalBuffer) (x new : LocalBuffer) → lists ≡ closed_first (suc n) bs → n < length bs → x ≡ get_or lists n x
    → ((b : LocalBuffer) → x ≡ closed b → new ≡ b) → set lists n new ≡ closed_first n bs
reopened n lists bs x new e h old opens =
    ap (λ l. set l n new) e ∙ ap (λ b. set (closed_first (suc n) bs) n b) (opens (get_or bs n x) (was_closed n lists bs x e h old)) ∙ last_set n bs x h

pub closed_more : (n : ℕ) (lists bs : List LocalBuffer) (x new : LocalBuffer) → lists ≡ closed_first n bs → n < length bs → x ≡ get_or lists n x
    → new ≡ closed x → set lists n new ≡ closed_first (n + 1) bs
closed_more n lists bs x new e h old is =
    let same : x ≡ get_or bs n x = old ∙ ap (λ l. get_or l n x) e ∙ first_get n bs x in
    let next : closed_first (suc n) bs ≡ closed_first (n + 1) bs = let more : suc n ≡ n + 1 = omega arith in ap (λ k. closed_first k bs) more in
    ap (λ l. set l n new) e ∙ ap (λ b. set (closed_first n bs) n b) (is ∙ ap closed same) ∙ first_set n bs x h ∙ next

pub not_err : {T E P : Type 0} (r : Result T E) → is_err r ≡ false → OnOk r P → P
not_err (Ok x) e p = p
not_err (Err x) e p = cc

-- the same where the window of one buffer is closed
pub one_stand : (E : ℕ → Type 0) (bs after : List LocalBuffer) (k : ℕ) (calls : List Call) → k < length bs → ((d : LocalBuffer) → after ≡ set bs k (closed (get_or bs k d)))
    → ListsStand E bs calls → ListsStand E after calls
one_stand E bs after k calls room is s b d h away =
    let x = closed (get_or bs k d) in
    let low : b < length bs = (let m = ap length (is d) ∙ length-set bs k x in omega (arith, h, m)) in
    let kept : held (get_or after b d) ≡ held (get_or bs b d) =
    ⊎_elim
    (λ (t : (eqb b k ≡ true) × (b ≡ k)). ap held (ap (λ l. get_or l b d) (is d) ∙ ap (λ n. get_or (set bs k x) n d) t.1 ∙ get_or-set_same bs k x d room) ∙ held_closed (get_or bs k d)
    ∙ ap (λ n. held (get_or bs n d)) (sym t.1))
    (λ t. ap held (ap (λ l. get_or l b d) (is d) ∙ get_or-set_other bs k b x d t.1))
    (eqb_tells b k) in
    subst (λ y. Leads (empty_list y.capacity) (on b calls) y) (sym kept) (s b d low away)

pub ended_stand : {T E : Type 0} (away : ℕ → Type 0) (bs after : List LocalBuffer) (k : ℕ) (r : Result T E) → k < length bs → OnOk r ((d : LocalBuffer) → after ≡ set bs k (closed (get_or bs k d)))
    → OnOk r ((calls : List Call) → ListsStand away bs calls → ListsStand away after calls)
ended_stand away bs after k (Ok x) room is = λ calls s. one_stand away bs after k calls room is s
ended_stand away bs after k (Err x) room is = tt
