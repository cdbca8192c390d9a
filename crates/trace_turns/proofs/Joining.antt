-- The answers of windows, one after another.
use Rattle.std.proofs.Common.{◌≡◌, ◌<◌, ◌∙◌, ◌++◌, ℕ, zero, suc, Bool, true, false, Some, List, [], ◌∷◌, length, map, take, flat_map, slice_get, slice_index_or, inl, inr, refl, ap, sym, subst, arith, append_assoc, append-nil}
use Rattle.std.proofs.lemmas.Bool.{cases_lt}
use Rattle.std.proofs.lemmas.List.{get_or_default}
use Rattle.std.proofs.lemmas.Option.{get_or_from_slice_get}
use Rattle.plan_core.specs.declared.sink.BufferPlan.{BufferPlan}
use Rattle.buffer_ends.specs.Local.{Answers}
use Rattle.trace_turns.specs.declared.ends.Ends.{Ends}
use Rattle.trace_turns.specs.Answering.{BufferState}
use Rattle.trace_turns.specs.Turns.{AreEnds}
use Rattle.trace_records.specs.Clocks.{Log, puts_in, takes_in}
use Rattle.trace_turns.specs.Logs.{AreEndsOf, AreNew, new_state, side_of}
use Rattle.trace_records.specs.Traces.{pair_of, text_of}

flat_next : {A B : Type 0} (f : A → List B) (xs : List A) (i : ℕ) (x : A) → x ≡ slice_index_or xs i x → i < length xs → flat_map f (take (suc i) xs) ≡ flat_map f (take i xs) ++ f x
flat_next f [] i x e low = absurd (omega (arith, low))
flat_next f (y ∷ xs) zero x e low = append-nil (f y) ∙ ap f (sym e)
flat_next f (y ∷ xs) (suc i) x e low = ap (λ l. f y ++ l) (flat_next f xs i x e (omega (arith, low))) ∙ sym (append_assoc (f y) (flat_map f (take i xs)) (f x))

get_first : {A : Type 0} (xs : List A) (y : A) (j : ℕ) → j < length xs → slice_get (xs ++ y ∷ []) j ≡ slice_get xs j
get_first [] y j low = absurd (omega (arith, low))
get_first (x ∷ xs) y zero low = refl
get_first (x ∷ xs) y (suc j) low = get_first xs y j (omega (arith, low))

get_last : {A : Type 0} (xs : List A) (y : A) (j : ℕ) → j ≡ length xs → slice_get (xs ++ y ∷ []) j ≡ Some y
get_last [] y zero e = refl
get_last [] y (suc j) e = absurd (omega (arith, e))
get_last (x ∷ xs) y zero e = absurd (omega (arith, e))
get_last (x ∷ xs) y (suc j) e = get_last xs y j (omega (arith, e))

module _ (puts : Bool) (windows : List Answers) (i : ℕ) (w : Answers) (item : w ≡ slice_index_or windows i w) (low : i < length windows) (flat new_flat : List Bool) (ends new_ends : List ℕ)
    (flat_is : flat ≡ flat_map (side_of puts) (take i windows)) (added : new_flat ≡ flat ++ side_of puts w) (size : length ends ≡ i)
    (ends_are : (j : ℕ) → j < i → slice_get ends j ≡ Some (length (flat_map (side_of puts) (take (suc j) windows)))) (pushed : new_ends ≡ ends ++ length new_flat ∷ []) where
  pub flat_on : new_flat ≡ flat_map (side_of puts) (take (suc i) windows)
  flat_on = added ∙ ap (λ l. l ++ side_of puts w) flat_is ∙ sym (flat_next (side_of puts) windows i w item low)

  pub ends_on : (j : ℕ) → j < suc i → slice_get new_ends j ≡ Some (length (flat_map (side_of puts) (take (suc j) windows)))
  ends_on j less = ap (λ l. slice_get l j) pushed ∙ elim (cases_lt j i) [
    | inl before ↦ get_first ends (length new_flat) j (omega (arith, before, size)) ∙ ends_are j before
    | inr over ↦ (let e : j ≡ i = omega (arith, less, over) in get_last ends (length new_flat) j (omega (arith, e, size)) ∙ ap (λ l. Some (length l)) flat_on ∙ ap (λ k. Some (length (flat_map (side_of puts) (take (suc k) windows)))) (sym e))
  ]

-- in the words of a text
pub flat_puts : (windows : List Answers) → flat_map (side_of true) windows ≡ puts_in (map pair_of windows)
flat_puts [] = refl
flat_puts (w ∷ windows) = ap (λ l. w.puts ++ l) (flat_puts windows)

pub flat_takes : (windows : List Answers) → flat_map (side_of false) windows ≡ takes_in (map pair_of windows)
flat_takes [] = refl
flat_takes (w ∷ windows) = ap (λ l. w.takes ++ l) (flat_takes windows)

map_long : (windows : List Answers) → length (map pair_of windows) ≡ length windows
map_long [] = refl
map_long (w ∷ windows) = ap suc (map_long windows)

take_map : (j : ℕ) (windows : List Answers) → take j (map pair_of windows) ≡ map pair_of (take j windows)
take_map zero windows = refl
take_map (suc j) [] = refl
take_map (suc j) (w ∷ windows) = ap (λ l. pair_of w ∷ l) (take_map j windows)

pub ends_puts : (given windows : List Answers) → given ≡ windows → (ends : List ℕ) → AreEndsOf true given ends → (j : ℕ) → j < length (map pair_of windows)
    → slice_get ends j ≡ Some (length (puts_in (take (suc j) (map pair_of windows))))
ends_puts given windows e ends are j low =
    let long = map_long windows in let same = ap (λ (l : List Answers). length l) e in
    are j (omega (arith, low, long, same)) ∙ ap (λ (l : List Answers). Some (length (flat_map (side_of true) (take (suc j) l)))) e
    ∙ ap (λ l. Some (length l)) (flat_puts (take (suc j) windows)) ∙ ap (λ (l : Log). Some (length (puts_in l))) (sym (take_map (suc j) windows))

pub ends_takes : (given windows : List Answers) → given ≡ windows → (ends : List ℕ) → AreEndsOf false given ends → (j : ℕ) → j < length (map pair_of windows)
    → slice_get ends j ≡ Some (length (takes_in (take (suc j) (map pair_of windows))))
ends_takes given windows e ends are j low =
    let long = map_long windows in let same = ap (λ (l : List Answers). length l) e in
    are j (omega (arith, low, long, same)) ∙ ap (λ (l : List Answers). Some (length (flat_map (side_of false) (take (suc j) l)))) e
    ∙ ap (λ l. Some (length l)) (flat_takes (take (suc j) windows)) ∙ ap (λ (l : Log). Some (length (takes_in l))) (sym (take_map (suc j) windows))

or_first : {A : Type 0} (xs : List A) (y d : A) (j : ℕ) → j < length xs → slice_index_or (xs ++ y ∷ []) j d ≡ slice_index_or xs j d
or_first [] y d j low = absurd (omega (arith, low))
or_first (x ∷ xs) y d zero low = refl
or_first (x ∷ xs) y d (suc j) low = or_first xs y d j (omega (arith, low))

or_last : {A : Type 0} (xs : List A) (y d : A) (j : ℕ) → j ≡ length xs → slice_index_or (xs ++ y ∷ []) j d ≡ y
or_last [] y d zero e = refl
or_last [] y d (suc j) e = absurd (omega (arith, e))
or_last (x ∷ xs) y d zero e = absurd (omega (arith, e))
or_last (x ∷ xs) y d (suc j) e = or_last xs y d j (omega (arith, e))

-- one buffer more of which a log tells
pub new_more : (plans : List BufferPlan) (logs : List (List Answers)) (i : ℕ) (states news : List BufferState) (ends more : List Ends) → length states ≡ i → length ends ≡ i → AreNew plans logs i states ends
    → (default : BufferPlan) (s : BufferState) (e : Ends) (log : List Answers) → log ≡ slice_index_or logs i log → i < length logs → s ≡ new_state (slice_index_or plans i default).capacity (map pair_of log) → AreEnds (map pair_of log) e
    → news ≡ states ++ s ∷ [] → more ≡ ends ++ e ∷ [] → AreNew plans logs (suc i) news more
new_more plans logs i states news ends more size long new default s e log log_is within s_is e_is news_are more_are b low =
    elim (cases_lt b i) [
      | inl before ↦ (let old = new b before in (
        (λ d plan found. ap (λ (l : List BufferState). slice_index_or l b d) news_are ∙ or_first states s d b (omega (arith, before, size)) ∙ old.0 d plan found),
        (λ x. subst (AreEnds (text_of logs b)) (sym (ap (λ (l : List Ends). slice_index_or l b x) more_are ∙ or_first ends e x b (omega (arith, before, long)))) (old.1 x)),
      ))
      | inr over ↦ (let here : b ≡ i = omega (arith, low, over) in
          let text : text_of logs b ≡ map pair_of log = ap (λ j. map pair_of (slice_index_or logs j [])) here ∙ ap (map pair_of) (get_or_default logs i [] log within ∙ sym log_is) in (
            (λ d plan found.
                let plan_is : slice_index_or plans i default ≡ plan = ap (λ j. slice_index_or plans j default) (sym here) ∙ get_or_from_slice_get plans b plan default found in
                ap (λ (l : List BufferState). slice_index_or l b d) news_are ∙ or_last states s d b (omega (arith, here, size)) ∙ s_is ∙ (λ k. new_state (plan_is k).capacity (sym text k))),
            (λ x. subst (AreEnds (text_of logs b)) (sym (ap (λ (l : List Ends). slice_index_or l b x) more_are ∙ or_last ends e x b (omega (arith, here, long)))) (subst (λ (l : Log). AreEnds l e) (sym text) e_is)),
          ))
    ]
