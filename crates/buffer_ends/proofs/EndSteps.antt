-- A call on an end comes at the end of each list for which the taps stood.
use Rattle.std.proofs.Common.{◌≡◌, ◌≢◌, ◌⊎◌, ℕ, ◌<◌, ◌==◌, eqb, Bool, true, false, List, [], ◌∷◌, ◌++◌, length, get_or, set, sym, refl, ap, ◌∙◌, subst, arith, slice_index_or, Option, Some, None, ⊎_elim, inl, inr, if◌then◌else◌, Result, Ok, Err, IfErr, OnErr, get_or-set_same, get_or-set_other, length-set, append-nil}
use Rattle.std.proofs.lemmas.Bool.Decides.{eqb_tells}
use Rattle.frame_core.specs.Calls.{Call, takes_of, puts_to, put_of, IsGive}
use Rattle.frame_core.specs.Calls.Call.{Took, Given}
use Rattle.frame_core.specs.declared.chunk.Gave.{Gave}
use Rattle.frame_core.specs.declared.chunk.Gave.TheVariants.{Accepted, Full}
use Rattle.frame_core.specs.declared.cell.Cell.{Cell}
use Rattle.buffer_ends.specs.Local.{LocalBuffer}
use Rattle.buffer_ends.specs.Sides.{Side, Falling, PutsSide, TakesSide}
use Rattle.buffer_ends.specs.Ends.{ListsStand, PutsStand, TakesStand, EndsStand, Has}
use Rattle.buffer_ends.proofs.Places.{one_place}
use Rattle.buffer_ends.proofs.Steps.{if_true, if_false, lists_other, list_took, list_gave, TakesOf, GivesTo}

puts_to-append : (b : ℕ) (cs ds : List Call) → puts_to b (cs ++ ds) ≡ puts_to b cs ++ puts_to b ds
puts_to-append b [] ds = refl
puts_to-append b (Took k o ∷ cs) ds = puts_to-append b cs ds
puts_to-append b (Given k c a ∷ cs) ds = go (b == k) (puts_to-append b cs ds)
  where
    go : (t : Bool) → puts_to b (cs ++ ds) ≡ puts_to b cs ++ puts_to b ds → (if t then (put_of c a ∷ puts_to b (cs ++ ds)) else puts_to b (cs ++ ds)) ≡ (if t then (put_of c a ∷ puts_to b cs) else puts_to b cs) ++ puts_to b ds
    go true e = ap (λ l. put_of c a ∷ l) e
    go false e = e

takes_of-append : (b : ℕ) (cs ds : List Call) → takes_of b (cs ++ ds) ≡ takes_of b cs ++ takes_of b ds
takes_of-append b [] ds = refl
takes_of-append b (Given k c a ∷ cs) ds = takes_of-append b cs ds
takes_of-append b (Took k o ∷ cs) ds = go (b == k) (takes_of-append b cs ds)
  where
    go : (t : Bool) → takes_of b (cs ++ ds) ≡ takes_of b cs ++ takes_of b ds → (if t then (o ∷ takes_of b (cs ++ ds)) else takes_of b (cs ++ ds)) ≡ (if t then (o ∷ takes_of b cs) else takes_of b cs) ++ takes_of b ds
    go true e = ap (λ l. o ∷ l) e
    go false e = e

-- a call of the other kind, or of another buffer, adds nothing
puts_took : (ends : List Side) (calls : List Call) (b : ℕ) (o : Option (List Cell)) → PutsStand ends calls → PutsStand ends (calls ++ Took b o ∷ [])
puts_took ends calls b o s k d h = s k d h ∙ sym (puts_to-append (slice_index_or ends k d).buffer calls (Took b o ∷ []) ∙ append-nil (puts_to (slice_index_or ends k d).buffer calls))

takes_gave : (ends : List Side) (calls : List Call) (b : ℕ) (c : List Cell) (a : Bool) → TakesStand ends calls → TakesStand ends (calls ++ Given b c a ∷ [])
takes_gave ends calls b c a s k d h = s k d h ∙ sym (takes_of-append (slice_index_or ends k d).buffer calls (Given b c a ∷ []) ∙ append-nil (takes_of (slice_index_or ends k d).buffer calls))

puts_else : (x b : ℕ) (calls : List Call) (c : List Cell) (a : Bool) → x ≢ b → puts_to x (calls ++ Given b c a ∷ []) ≡ puts_to x calls
puts_else x b calls c a n =
    puts_to-append x calls (Given b c a ∷ [])
    ∙ ap (λ l. puts_to x calls ++ l) (⊎_elim (λ (t : (eqb x b ≡ true) × (x ≡ b)). absurd (n t.1)) (λ t. if_false _ _ _ t.0) (eqb_tells x b)) ∙ append-nil (puts_to x calls)

puts_here : (b : ℕ) (calls : List Call) (c : List Cell) (a : Bool) → puts_to b (calls ++ Given b c a ∷ []) ≡ puts_to b calls ++ put_of c a ∷ []
puts_here b calls c a =
    puts_to-append b calls (Given b c a ∷ [])
    ∙ ap (λ l. puts_to b calls ++ l) (⊎_elim (λ (t : (eqb b b ≡ true) × (b ≡ b)). if_true _ _ _ t.0) (λ t. absurd (t.1 refl)) (eqb_tells b b))

takes_else : (x b : ℕ) (calls : List Call) (o : Option (List Cell)) → x ≢ b → takes_of x (calls ++ Took b o ∷ []) ≡ takes_of x calls
takes_else x b calls o n =
    takes_of-append x calls (Took b o ∷ [])
    ∙ ap (λ l. takes_of x calls ++ l) (⊎_elim (λ (t : (eqb x b ≡ true) × (x ≡ b)). absurd (n t.1)) (λ t. if_false _ _ _ t.0) (eqb_tells x b)) ∙ append-nil (takes_of x calls)

takes_here : (b : ℕ) (calls : List Call) (o : Option (List Cell)) → takes_of b (calls ++ Took b o ∷ []) ≡ takes_of b calls ++ o ∷ []
takes_here b calls o =
    takes_of-append b calls (Took b o ∷ [])
    ∙ ap (λ l. takes_of b calls ++ l) (⊎_elim (λ (t : (eqb b b ≡ true) × (b ≡ b)). if_true _ _ _ t.0) (λ t. absurd (t.1 refl)) (eqb_tells b b))

-- what a change of the end at place k makes of a fact of each end
each_set : (F : Side → Type 0) (ends : List Side) (k : ℕ) (e : Side) → k < length ends → F e → ((j : ℕ) (d : Side) → j ≢ k → j < length ends → F (slice_index_or ends j d))
    → (j : ℕ) (d : Side) → j < length (set ends k e) → F (slice_index_or (set ends k e) j d)
each_set F ends k e room mine others j d h =
    ⊎_elim (λ (t : (eqb j k ≡ true) × (j ≡ k)). subst F (sym (ap (λ i. get_or (set ends k e) i d) t.1 ∙ get_or-set_same ends k e d room)) mine)
    (λ t. subst F (sym (get_or-set_other ends k j e d t.1)) (others j d t.1 (omega (arith, length-set ends k e)))) (eqb_tells j k)

-- the buffers stay in their order where an end keeps its own
buffers_set : (ends : List Side) (k : ℕ) (e : Side) → k < length ends → ((d : Side) → e.buffer ≡ (slice_index_or ends k d).buffer) → (j : ℕ) (d : Side) → (slice_index_or (set ends k e) j d).buffer ≡ (slice_index_or ends j d).buffer
buffers_set ends k e room same j d =
    ⊎_elim (λ (t : (eqb j k ≡ true) × (j ≡ k)). ap (λ i. (get_or (set ends k e) i d).buffer) t.1 ∙ ap (λ (x : Side). x.buffer) (get_or-set_same ends k e d room) ∙ same d ∙ ap (λ i. (get_or ends i d).buffer) (sym t.1))
    (λ t. ap (λ (x : Side). x.buffer) (get_or-set_other ends k j e d t.1)) (eqb_tells j k)

pub falling_set : (ends after : List Side) (k : ℕ) (e : Side) → after ≡ set ends k e → k < length ends → ((d : Side) → e.buffer ≡ (slice_index_or ends k d).buffer) → Falling ends → Falling after
falling_set ends after k e is room same falling = subst Falling (sym is)
    (λ i j d less low. let f = falling i j d less (omega (arith, low, length-set ends k e)) in
    omega (arith, f, buffers_set ends k e room same i d, buffers_set ends k e room same j d))

has_set : (ends : List Side) (k : ℕ) (e : Side) → k < length ends → ((d : Side) → e.buffer ≡ (slice_index_or ends k d).buffer) → (b : ℕ) → Has ends b → Has (set ends k e) b
has_set ends k e room same b h = (h.0, omega (arith, length-set ends k e, h.1), λ d. buffers_set ends k e room same h.0 d ∙ h.2 d)

gives_answers : (e : Side) (c : List Cell) (f : Side) (g : Gave) → PutsSide e c f g → (a : Bool) × IsGive e.buffer c g (Given e.buffer c a) × (f.buffer ≡ e.buffer) × (f.window.answers ≡ e.window.answers ++ put_of c a ∷ [])
gives_answers e c f Accepted g = (true, refl, g.0, g.1.answers)
gives_answers e c f (Full d) g = (false, (g.1.0, refl), g.0, g.1.2.answers)

lists_wider : (E F : ℕ → Type 0) (lists : List LocalBuffer) (calls : List Call) → ((b : ℕ) → E b → F b) → ListsStand E lists calls → ListsStand F lists calls
lists_wider E F lists calls f s b d h n = s b d h (λ e. n (f b e))

abbrev pub GivesAt : List Side → ℕ → List Cell → List Side → Gave → Type 0
GivesAt ends k c after g = (e : Side) × (after ≡ set ends k e) × ((d : Side) → PutsSide (slice_index_or ends k d) c e g)

abbrev pub TakesAt : List Side → ℕ → List Side → Option (List Cell) → Type 0
TakesAt ends k after o = (e : Side) × (after ≡ set ends k e) × ((d : Side) → TakesSide (slice_index_or ends k d) o e)

abbrev pub Answers : List Side → List Side → List LocalBuffer → List Side → List Side → List LocalBuffer → List Call → Type 0
Answers puts takes lists puts' takes' lists' more = (calls : List Call) → EndsStand puts takes lists calls → EndsStand puts' takes' lists' (calls ++ more)

pub end_gave : (puts takes : List Side) (lists : List LocalBuffer) (k b : ℕ) (c : List Cell) (g : Gave) (after : List Side) → Falling puts → k < length puts → ((d : Side) → (slice_index_or puts k d).buffer ≡ b)
    → GivesAt puts k c after g → (call : Call) × IsGive b c g call × Answers puts takes lists after takes lists (call ∷ [])
end_gave puts takes lists k b c g after falling room at t =
    let e = t.0 in let old : Side = get_or puts k e in
    let ga = gives_answers old c e g (t.2 e) in
    let same : (d : Side) → e.buffer ≡ (slice_index_or puts k d).buffer = λ d. ga.2 ∙ at e ∙ sym (at d) in
    let call : Call = Given b c ga.0 in (
      call,
      subst (λ n. IsGive n c g (Given n c ga.0)) (at e) ga.1,
      λ calls s.
          let F : Side → Type 0 = λ x. x.window.answers ≡ puts_to x.buffer (calls ++ call ∷ []) in
          let mine : F e = ga.3 ∙ ap (λ l. l ++ put_of c ga.0 ∷ []) (s.0 k e room) ∙ (λ i. puts_to (at e i) calls ++ put_of c ga.0 ∷ []) ∙ sym (puts_here b calls c ga.0) ∙ (λ i. puts_to (sym (ga.2 ∙ at e) i) (calls ++ call ∷ [])) in
          let others : (j : ℕ) (d : Side) → j ≢ k → j < length puts → F (slice_index_or puts j d) =
          λ j d n h. s.0 j d h ∙ sym (puts_else (slice_index_or puts j d).buffer b calls c ga.0 (λ q. n (one_place puts falling j k d h room (q ∙ sym (at d))))) in
          let P : List Side → Type 0 = λ l. PutsStand l (calls ++ call ∷ []) × ListsStand (λ x. Has l x ⊎ Has takes x) lists (calls ++ call ∷ []) in
          let put_there : PutsStand (set puts k e) (calls ++ call ∷ []) = λ j d h. each_set F puts k e room mine others j d h in
          let wide : ListsStand (λ x. Has (set puts k e) x ⊎ Has takes x) lists calls =
          lists_wider (λ x. Has puts x ⊎ Has takes x) (λ x. Has (set puts k e) x ⊎ Has takes x) lists calls (λ x h. ⊎_elim (λ y. inl (has_set puts k e room same x y)) (λ y. inr y) h) s.2 in
          let has : Has (set puts k e) b = has_set puts k e room same b (k, room, at) in
          let r : P after = subst P (sym t.1) (put_there, lists_other (λ x. Has (set puts k e) x ⊎ Has takes x) lists calls call (inl has) wide) in
          (r.0, takes_gave takes calls b c ga.0 s.1, r.1),
    )

takes_answers : (e : Side) (o : Option (List Cell)) (f : Side) → TakesSide e o f → (f.buffer ≡ e.buffer) × (f.window.answers ≡ e.window.answers ++ o ∷ [])
takes_answers e None f t = (t.0, t.1.1.answers)
takes_answers e (Some c) f t = (t.0, t.1.answers)

pub end_took : (puts takes : List Side) (lists : List LocalBuffer) (k b : ℕ) (o : Option (List Cell)) (after : List Side) → Falling takes → k < length takes → ((d : Side) → (slice_index_or takes k d).buffer ≡ b)
    → TakesAt takes k after o → Answers puts takes lists puts after lists (Took b o ∷ [])
end_took puts takes lists k b o after falling room at t calls s =
    let e = t.0 in let old : Side = get_or takes k e in
    let ta = takes_answers old o e (t.2 e) in
    let same : (d : Side) → e.buffer ≡ (slice_index_or takes k d).buffer = λ d. ta.0 ∙ at e ∙ sym (at d) in
    let call : Call = Took b o in
    let F : Side → Type 0 = λ x. x.window.answers ≡ takes_of x.buffer (calls ++ call ∷ []) in
    let mine : F e = ta.1 ∙ ap (λ l. l ++ o ∷ []) (s.1 k e room) ∙ (λ i. takes_of (at e i) calls ++ o ∷ []) ∙ sym (takes_here b calls o) ∙ (λ i. takes_of (sym (ta.0 ∙ at e) i) (calls ++ call ∷ [])) in
    let others : (j : ℕ) (d : Side) → j ≢ k → j < length takes → F (slice_index_or takes j d) =
    λ j d n h. s.1 j d h ∙ sym (takes_else (slice_index_or takes j d).buffer b calls o (λ q. n (one_place takes falling j k d h room (q ∙ sym (at d))))) in
    let P : List Side → Type 0 = λ l. TakesStand l (calls ++ call ∷ []) × ListsStand (λ x. Has puts x ⊎ Has l x) lists (calls ++ call ∷ []) in
    let take_there : TakesStand (set takes k e) (calls ++ call ∷ []) = λ j d h. each_set F takes k e room mine others j d h in
    let wide : ListsStand (λ x. Has puts x ⊎ Has (set takes k e) x) lists calls =
    lists_wider (λ x. Has puts x ⊎ Has takes x) (λ x. Has puts x ⊎ Has (set takes k e) x) lists calls (λ x h. ⊎_elim (λ y. inl y) (λ y. inr (has_set takes k e room same x y)) h) s.2 in
    let has : Has (set takes k e) b = has_set takes k e room same b (k, room, at) in
    let r : P after = subst P (sym t.1) (take_there, lists_other (λ x. Has puts x ⊎ Has (set takes k e) x) lists calls call (inr has) wide) in
    (puts_took puts calls b o s.0, r.0, r.1)

gave_is : (b : ℕ) (c : List Cell) (g : Gave) (call : Call) → IsGive b c g call → (a : Bool) × (call ≡ Given b c a)
gave_is b c Accepted call e = (true, e)
gave_is b c (Full d) call e = (false, e.1)

-- on a list where no end of this kind is there. Where an end of the other kind is there, the list is not asked
pub list_took_beside : (puts takes : List Side) (lists after : List LocalBuffer) (b : ℕ) (o : Option (List Cell)) → b < length lists → ((k : ℕ) (d : Side) → k < length takes → (slice_index_or takes k d).buffer ≢ b)
    → TakesOf lists b o after → Answers puts takes lists puts takes after (Took b o ∷ [])
list_took_beside puts takes lists after b o room none t calls s = (
  puts_took puts calls b o s.0,
  (λ k d h. s.1 k d h ∙ sym (takes_else (slice_index_or takes k d).buffer b calls o (none k d h))),
  list_took (λ x. Has puts x ⊎ Has takes x) lists after b o room t calls s.2,
)

pub list_gave_beside : (puts takes : List Side) (lists after : List LocalBuffer) (b : ℕ) (c : List Cell) (g : Gave) → b < length lists → ((k : ℕ) (d : Side) → k < length puts → (slice_index_or puts k d).buffer ≢ b)
    → GivesTo lists b c after g → (call : Call) × IsGive b c g call × Answers puts takes lists puts takes after (call ∷ [])
list_gave_beside puts takes lists after b c g room none t =
    let ga = gave_is b c g t.2 t.3 in (
      t.2,
      t.3,
      λ calls s. (
        subst (λ (x : Call). PutsStand puts (calls ++ x ∷ [])) (sym ga.1) (λ k d h. s.0 k d h ∙ sym (puts_else (slice_index_or puts k d).buffer b calls c ga.0 (none k d h))),
        subst (λ (x : Call). TakesStand takes (calls ++ x ∷ [])) (sym ga.1) (takes_gave takes calls b c ga.0 s.1),
        list_gave (λ x. Has puts x ⊎ Has takes x) lists after b c g room t calls s.2,
      ),
    )

-- nothing changed
pub same_stand : (puts takes : List Side) (lists : List LocalBuffer) (puts' takes' : List Side) (lists' : List LocalBuffer) → puts' ≡ puts → takes' ≡ takes → lists' ≡ lists → Answers puts takes lists puts' takes' lists' []
same_stand puts takes lists puts' takes' lists' p t l calls s =
    subst (λ (x : List Side × List Side × List LocalBuffer × List Call). EndsStand x.0 x.1 x.2 x.3) (λ i. (sym p i, sym t i, sym l i, sym (append-nil calls) i)) s

pub err_map : {T E : Type 0} {P Q : E → Type 0} (r : Result T E) → ((x : E) → P x → Q x) → IfErr r P → IfErr r Q
err_map (Ok x) f p = p
err_map (Err e) f p = f e p

pub on_err_map : {T E : Type 0} {P Q : Type 0} (r : Result T E) → (P → Q) → OnErr r P → OnErr r Q
on_err_map (Ok x) f p = p
on_err_map (Err e) f p = f p
