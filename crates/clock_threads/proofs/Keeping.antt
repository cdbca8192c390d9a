-- The calls of a clock on the buffers that are its own alone.
use Rattle.std.proofs.Common.{◌≡◌, ℕ, ◌==◌, eqb, Bool, true, false, true≢false, List, [], ◌∷◌, ◌++◌, sym, refl, ap, ◌∙◌, ⊎_elim, if◌then◌else◌}
use Rattle.std.proofs.lemmas.Bool.Decides.{eqb_tells}
use Rattle.frame_core.specs.Calls.{Call, takes_of, puts_to, put_of}
use Rattle.frame_core.specs.Calls.Call.{Took, Given}
use Rattle.buffer_ends.specs.Local.{buffer_of, on}
use Rattle.clock_threads.specs.declared.wires.Wire.{Wire}
use Rattle.clock_threads.specs.Wires.{ended, kept}

module _ (wires : List Wire) (k : ℕ) where
  pub puts_kept : (b : ℕ) (cs : List Call) → ended wires k b ≡ true → puts_to b (kept wires k cs) ≡ []
  puts_kept b [] e = refl
  puts_kept b (Took x o ∷ cs) e = go (ended wires k x) (puts_kept b cs e)
    where
      go : (t : Bool) → puts_to b (kept wires k cs) ≡ [] → puts_to b (if t then kept wires k cs else Took x o ∷ kept wires k cs) ≡ []
      go true h = h
      go false h = h
  puts_kept b (Given x c a ∷ cs) e = go (ended wires k x) refl (puts_kept b cs e)
    where
      go : (t : Bool) → ended wires k x ≡ t → puts_to b (kept wires k cs) ≡ [] → puts_to b (if t then kept wires k cs else Given x c a ∷ kept wires k cs) ≡ []
      go true is h = h
      go false is h = ⊎_elim (λ (same : (eqb b x ≡ true) × (b ≡ x)). absurd (true≢false (sym e ∙ ap (ended wires k) same.1 ∙ is)))
          (λ off. ap (λ z. if z then put_of c a ∷ puts_to b (kept wires k cs) else puts_to b (kept wires k cs)) off.0 ∙ h) (eqb_tells b x)

  pub takes_kept : (b : ℕ) (cs : List Call) → ended wires k b ≡ true → takes_of b (kept wires k cs) ≡ []
  takes_kept b [] e = refl
  takes_kept b (Given x c a ∷ cs) e = go (ended wires k x) (takes_kept b cs e)
    where
      go : (t : Bool) → takes_of b (kept wires k cs) ≡ [] → takes_of b (if t then kept wires k cs else Given x c a ∷ kept wires k cs) ≡ []
      go true h = h
      go false h = h
  takes_kept b (Took x o ∷ cs) e = go (ended wires k x) refl (takes_kept b cs e)
    where
      go : (t : Bool) → ended wires k x ≡ t → takes_of b (kept wires k cs) ≡ [] → takes_of b (if t then kept wires k cs else Took x o ∷ kept wires k cs) ≡ []
      go true is h = h
      go false is h = ⊎_elim (λ (same : (eqb b x ≡ true) × (b ≡ x)). absurd (true≢false (sym e ∙ ap (ended wires k) same.1 ∙ is)))
          (λ off. ap (λ z. if z then o ∷ takes_of b (kept wires k cs) else takes_of b (kept wires k cs)) off.0 ∙ h) (eqb_tells b x)

  pub on_kept : (b : ℕ) (cs : List Call) → ended wires k b ≡ false → on b (kept wires k cs) ≡ on b cs
  on_kept b [] e = refl
  on_kept b (call ∷ cs) e = go (ended wires k (buffer_of call)) refl (on_kept b cs e)
    where
      go : (t : Bool) → ended wires k (buffer_of call) ≡ t → on b (kept wires k cs) ≡ on b cs
          → on b (if t then kept wires k cs else call ∷ kept wires k cs) ≡ (if b == buffer_of call then call ∷ on b cs else on b cs)
      go false is h = ap (λ l. if b == buffer_of call then call ∷ l else l) h
      go true is h = ⊎_elim (λ (same : (eqb b (buffer_of call) ≡ true) × (b ≡ buffer_of call)). absurd (true≢false (sym is ∙ ap (ended wires k) (sym same.1) ∙ e)))
          (λ off. h ∙ sym (ap (λ z. if z then call ∷ on b cs else on b cs) off.0)) (eqb_tells b (buffer_of call))

pub puts-append : (b : ℕ) (cs ds : List Call) → puts_to b (cs ++ ds) ≡ puts_to b cs ++ puts_to b ds
puts-append b [] ds = refl
puts-append b (Took k o ∷ cs) ds = puts-append b cs ds
puts-append b (Given k c a ∷ cs) ds = go (b == k) (puts-append b cs ds)
  where
    go : (t : Bool) → puts_to b (cs ++ ds) ≡ puts_to b cs ++ puts_to b ds → (if t then (put_of c a ∷ puts_to b (cs ++ ds)) else puts_to b (cs ++ ds)) ≡ (if t then (put_of c a ∷ puts_to b cs) else puts_to b cs) ++ puts_to b ds
    go true e = ap (λ l. put_of c a ∷ l) e
    go false e = e

pub on-append : (b : ℕ) (cs ds : List Call) → on b (cs ++ ds) ≡ on b cs ++ on b ds
on-append b [] ds = refl
on-append b (c ∷ cs) ds = go (b == buffer_of c) (on-append b cs ds)
  where
    go : (t : Bool) → on b (cs ++ ds) ≡ on b cs ++ on b ds → (if t then (c ∷ on b (cs ++ ds)) else on b (cs ++ ds)) ≡ (if t then (c ∷ on b cs) else on b cs) ++ on b ds
    go true e = ap (λ l. c ∷ l) e
    go false e = e

pub takes-append : (b : ℕ) (cs ds : List Call) → takes_of b (cs ++ ds) ≡ takes_of b cs ++ takes_of b ds
takes-append b [] ds = refl
takes-append b (Given k c a ∷ cs) ds = takes-append b cs ds
takes-append b (Took k o ∷ cs) ds = go (b == k) (takes-append b cs ds)
  where
    go : (t : Bool) → takes_of b (cs ++ ds) ≡ takes_of b cs ++ takes_of b ds → (if t then (o ∷ takes_of b (cs ++ ds)) else takes_of b (cs ++ ds)) ≡ (if t then (o ∷ takes_of b cs) else takes_of b cs) ++ takes_of b ds
    go true e = ap (λ l. o ∷ l) e
    go false e = e
