-- A call comes at the end of each list of calls for which lists stood.
use Rattle.std.proofs.Common.{◌≡◌, ◌≢◌, ℕ, ◌<◌, ◌==◌, eqb, Bool, true, false, List, [], ◌∷◌, ◌++◌, length, get_or, set, sym, refl, ap, ◌∙◌, subst, arith, slice_index_or, Option, Some, None, ⊎_elim, if◌then◌else◌, Result, Ok, Err, IfOk}
use Rattle.std.proofs.lemmas.Bool.Decides.{eqb_tells}
use Rattle.std.proofs.Common.{get_or-set_same, get_or-set_other, length-set, append-nil}
use Rattle.std.proofs.lemmas.List.{get_or_default}
use Rattle.frame_core.specs.declared.cell.Cell.{Cell}
use Rattle.frame_core.specs.Calls.{Call, IsGive}
use Rattle.frame_core.specs.Calls.Call.{Took, Given}
use Rattle.frame_core.specs.declared.chunk.Gave.{Gave}
use Rattle.frame_core.specs.declared.chunk.Gave.TheVariants.{Accepted, Full}
use Rattle.buffer_ends.specs.Local.{LocalBuffer, Held, held, buffer_of, on, Step, Leads, empty_list}
use Rattle.buffer_ends.specs.Ends.{ListsStand}

pub if_true : {A : Type 0} (t : Bool) (x y : A) → t ≡ true → (if t then x else y) ≡ x
if_true true x y e = refl
if_true false x y e = cc

pub if_false : {A : Type 0} (t : Bool) (x y : A) → t ≡ false → (if t then x else y) ≡ y
if_false false x y e = refl
if_false true x y e = cc

on-append : (b : ℕ) (cs ds : List Call) → on b (cs ++ ds) ≡ on b cs ++ on b ds
on-append b [] ds = refl
on-append b (c ∷ cs) ds = go (b == buffer_of c) (on-append b cs ds)
  where
    go : (t : Bool) → on b (cs ++ ds) ≡ on b cs ++ on b ds → (if t then (c ∷ on b (cs ++ ds)) else on b (cs ++ ds)) ≡ (if t then (c ∷ on b cs) else on b cs) ++ on b ds
    go true e = ap (λ l. c ∷ l) e
    go false e = e

on_here : (b : ℕ) (cs : List Call) (c : Call) → b ≡ buffer_of c → on b (cs ++ c ∷ []) ≡ on b cs ++ c ∷ []
on_here b cs c e = on-append b cs (c ∷ []) ∙ ap (λ l. on b cs ++ l) (⊎_elim (λ (t : (eqb b (buffer_of c) ≡ true) × (b ≡ buffer_of c)). if_true _ _ _ t.0) (λ t. absurd (t.1 e)) (eqb_tells b (buffer_of c)))

on_else : (b : ℕ) (cs : List Call) (c : Call) → b ≢ buffer_of c → on b (cs ++ c ∷ []) ≡ on b cs
on_else b cs c n = on-append b cs (c ∷ []) ∙ ap (λ l. on b cs ++ l) (⊎_elim (λ (t : (eqb b (buffer_of c) ≡ true) × (b ≡ buffer_of c)). absurd (n t.1)) (λ t. if_false _ _ _ t.0) (eqb_tells b (buffer_of c))) ∙ append-nil (on b cs)

leads_further : (q : Held) (cs : List Call) (c : Call) (m r : Held) → Leads q cs m → Step m c r → Leads q (cs ++ c ∷ []) r
leads_further q [] c m r e s = (r, subst (λ l. Step l c r) (sym e) s, refl)
leads_further q (d ∷ cs) c m r l s = (l.0, l.1, leads_further l.0 cs c m r l.2 s)

step_capacity : (q : Held) (c : Call) (r : Held) → Step q c r → r.capacity ≡ q.capacity
step_capacity q (Took b None) r s = ap (λ (x : Held). x.capacity) s.1
step_capacity q (Took b (Some c)) r s = ap (λ (x : Held). x.capacity) s.2
step_capacity q (Given b c true) r s = ap (λ (x : Held). x.capacity) s.1
step_capacity q (Given b c false) r s = ap (λ (x : Held). x.capacity) s.1

-- a call on a list
lists_step : (E : ℕ → Type 0) (lists : List LocalBuffer) (calls : List Call) (k : ℕ) (l : LocalBuffer) (c : Call) → buffer_of c ≡ k → k < length lists
    → ((d : LocalBuffer) → Step (held (slice_index_or lists k d)) c (held l)) → ListsStand E lists calls → ListsStand E (set lists k l) (calls ++ c ∷ [])
lists_step E lists calls k l c is room step stand b d h away =
    ⊎_elim
    (λ (t : (eqb b k ≡ true) × (b ≡ k)).
    let old : LocalBuffer = get_or lists b d in
    let here : get_or (set lists k l) b d ≡ l = ap (λ i. get_or (set lists k l) i d) t.1 ∙ get_or-set_same lists k l d room in
    let led : Leads (empty_list old.capacity) (on b calls) (held old) = stand b d (omega (arith, length-set lists k l)) away in
    let this : Step (held old) c (held l) = subst (λ i. Step (held (get_or lists i d)) c (held l)) (sym t.1) (step d) in
    let new : Leads (empty_list old.capacity) (on b calls ++ c ∷ []) (held l) = leads_further (empty_list old.capacity) (on b calls) c (held old) (held l) led this in
    subst (λ (x : LocalBuffer). Leads (empty_list x.capacity) (on b (calls ++ c ∷ [])) (held x)) (sym here)
    (subst (λ (y : ℕ × List Call). Leads (empty_list y.0) y.1 (held l)) (λ i. (sym (step_capacity (held old) c (held l) this) i, sym (on_here b calls c (t.1 ∙ sym is)) i)) new))
    (λ t.
    let there : get_or (set lists k l) b d ≡ get_or lists b d = get_or-set_other lists k b l d t.1 in
    subst (λ (x : LocalBuffer). Leads (empty_list x.capacity) (on b (calls ++ c ∷ [])) (held x)) (sym there)
    (rw (on_else b calls c (λ e. t.1 (e ∙ is))) (stand b d (omega (arith, length-set lists k l)) away)))
    (eqb_tells b k)

-- a call elsewhere
pub lists_other : (E : ℕ → Type 0) (lists : List LocalBuffer) (calls : List Call) (c : Call) → E (buffer_of c) → ListsStand E lists calls → ListsStand E lists (calls ++ c ∷ [])
lists_other E lists calls c away stand b d h n = rw (on_else b calls c (λ e. n (subst E (sym e) away))) (stand b d h n)

pub ok_map : {T E : Type 0} {P Q : T → Type 0} (r : Result T E) → ((x : T) → P x → Q x) → IfOk r P → IfOk r Q
ok_map (Ok x) f p = f x p
ok_map (Err e) f p = p

-- a read of a list does not ask for its default
pub read : (xs : List LocalBuffer) (k : ℕ) (x d : LocalBuffer) → x ≡ get_or xs k x → k < length xs → get_or xs k d ≡ x
read xs k x d e h = get_or_default xs k d x h ∙ sym e

pub gave_buffer : (b : ℕ) (c : List Cell) (g : Gave) (call : Call) → IsGive b c g call → buffer_of call ≡ b
gave_buffer b c Accepted call e = ap buffer_of e
gave_buffer b c (Full d) call e = ap buffer_of e.1

-- a take of a list, and a give to it, which leave the others
abbrev pub TakesOf : List LocalBuffer → ℕ → Option (List Cell) → List LocalBuffer → Type 0
TakesOf lists b o after = (l : LocalBuffer) × (after ≡ set lists b l) × ((d : LocalBuffer) → Step (held (slice_index_or lists b d)) (Took b o) (held l))

abbrev pub GivesTo : List LocalBuffer → ℕ → List Cell → List LocalBuffer → Gave → Type 0
GivesTo lists b c after g = (l : LocalBuffer) × (after ≡ set lists b l) × (call : Call) × IsGive b c g call × ((d : LocalBuffer) → Step (held (slice_index_or lists b d)) call (held l))

pub list_took : (E : ℕ → Type 0) (lists after : List LocalBuffer) (b : ℕ) (o : Option (List Cell)) → b < length lists → TakesOf lists b o after
    → (calls : List Call) → ListsStand E lists calls → ListsStand E after (calls ++ Took b o ∷ [])
list_took E lists after b o room t calls stand = subst (λ (l : List LocalBuffer). ListsStand E l (calls ++ Took b o ∷ [])) (sym t.1) (lists_step E lists calls b t.0 (Took b o) refl room t.2 stand)

pub list_gave : (E : ℕ → Type 0) (lists after : List LocalBuffer) (b : ℕ) (c : List Cell) (g : Gave) → b < length lists → (t : GivesTo lists b c after g)
    → (calls : List Call) → ListsStand E lists calls → ListsStand E after (calls ++ t.2 ∷ [])
list_gave E lists after b c g room t calls stand = subst (λ (l : List LocalBuffer). ListsStand E l (calls ++ t.2 ∷ [])) (sym t.1) (lists_step E lists calls b t.0 t.2 (gave_buffer b c g t.2 t.3) room t.4 stand)
