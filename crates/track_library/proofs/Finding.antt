-- What a name is found to be keeps the numbers below the files.
use Rattle.std.proofs.Common.{◌≡◌, ◌≤◌, ◌<◌, ℕ, suc, ◌+◌, Bool, true, false, cond, List, [], ◌∷◌, ◌++◌, length, Some, subst, ap, refl, sym, arith, length-append, ◌∙◌, ◌^◌}
use Rattle.std.specs.Prelude.{Result, Ok, Err, IfOk, nat_le, slice_index_or}
use Rattle.std.specs.Str.{bytes_eq}
use Rattle.std.specs.List.{All}
use Rattle.std.proofs.lemmas.List.Elements.{All-push}
use Rattle.track_library.specs.Walk.{Heard, first_use, entry_of}
use Rattle.track_library.specs.States.{IsHeard, Finds}
use Rattle.track_library.specs.declared.fault.LoadFault.{LoadFault}
use Rattle.track_library.specs.declared.fault.LoadFault.TheVariants.{AllTooLarge}
use Rattle.track_library.specs.declared.fault.Unusable.{Unusable}

more_below : (a b : ℕ) (r : Result ℕ Unusable) → a ≤ b → IfOk r (λ n. n < a) → IfOk r (λ n. n < b)
more_below a b (Ok n) le h = omega arith
more_below a b (Err fault) le h = h

note_finds : (heard : Heard) (name : List ℕ) (fault : Unusable) → IsHeard heard
    → Finds heard (record { names = heard.names ++ (name, Err fault) ∷ []; titles = heard.titles; bytes = heard.bytes }) (Err fault)
note_finds heard name fault h = record {
  heard = record {
    numbers = All-push (λ (e : List ℕ × Result ℕ Unusable). IfOk e.1 (λ number. number < length heard.titles)) heard.names (name, Err fault) h.numbers tt;
    many = h.many;
  };
  grew = omega arith;
  number = tt;
}

keep_finds : (heard : Heard) (name : List ℕ) (count : ℕ) → IsHeard heard → length heard.titles + 1 < 2 ^ 32
    → Finds heard (record { names = heard.names ++ (name, Ok (length heard.titles)) ∷ []; titles = heard.titles ++ name ∷ []; bytes = heard.bytes + count }) (Ok (length heard.titles))
keep_finds heard name count h few =
    let long : length (heard.titles ++ name ∷ []) ≡ length heard.titles + 1 = length-append heard.titles (name ∷ []) in
    record {
      heard = record {
        numbers =
            All-push (λ (e : List ℕ × Result ℕ Unusable). IfOk e.1 (λ number. number < length (heard.titles ++ name ∷ []))) heard.names (name, Ok (length heard.titles))
            (λ k d b. more_below (length heard.titles) (length (heard.titles ++ name ∷ [])) (slice_index_or heard.names k d).1 (omega arith) (h.numbers k d b)) (omega arith);
        many = omega (arith, long, few);
      };
      grew = omega arith;
      number = omega arith;
    }

abbrev outcome : Bool → Heard × Result ℕ Unusable → LoadFault → Result (Heard × Result ℕ Unusable) LoadFault
outcome b x fault = cond b (Ok x) (Err fault)

chosen : (b : Bool) (heard : Heard) (x : Heard × Result ℕ Unusable) (y : Heard × Result ℕ Unusable) (fault : LoadFault) → Finds heard x.0 x.1
    → outcome b x fault ≡ Ok y → Finds heard y.0 y.1
chosen true heard x y fault f e = (let same : x ≡ y = (cc) in subst (λ (z : Heard × Result ℕ Unusable). Finds heard z.0 z.1) same f)
chosen false heard x y fault f e = absurd (cc)

-- a file that is used has a number below 2^32 - 1
chosen_few : (b : Bool) (heard : Heard) (x y : Heard × Result ℕ Unusable) (fault : LoadFault) → x.1 ≡ Ok (length heard.titles) → IfOk y.1 (λ n. n + 1 < 2 ^ 32)
    → outcome b x fault ≡ Ok y → length heard.titles + 1 < 2 ^ 32
chosen_few true heard x y fault is few e =
    let same : x ≡ y = (cc) in
    subst (λ (r : Result ℕ Unusable). IfOk r (λ n. n + 1 < 2 ^ 32)) (ap (λ (z : Heard × Result ℕ Unusable). z.1) (sym same) ∙ is) few
chosen_few false heard x y fault is few e = absurd (cc)

pub first_finds : (all : ℕ) (heard : Heard) (name : List ℕ) (found : Result ℕ Unusable) (after : Heard) (number : Result ℕ Unusable)
    → IsHeard heard → IfOk number (λ n. n + 1 < 2 ^ 32) → first_use all heard name found ≡ Ok (after, number) → Finds heard after number
first_finds all heard name (Err fault) after number h few e = chosen true heard _ (after, number) AllTooLarge (note_finds heard name fault h) e
first_finds all heard name (Ok count) after number h few e =
    chosen (nat_le (heard.bytes + count) all) heard _ (after, number) AllTooLarge
    (keep_finds heard name count h (chosen_few (nat_le (heard.bytes + count) all) heard _ (after, number) AllTooLarge refl few e)) e

named_below : (n : ℕ) (names : List (List ℕ × Result ℕ Unusable)) (name : List ℕ) (found : Result ℕ Unusable)
    → All (λ e. IfOk e.1 (λ number. number < n)) names → entry_of name names ≡ Some found → IfOk found (λ number. number < n)
named_below n [] name found all there = absurd (cc)
named_below n (e ∷ es) name found all there = at_test (bytes_eq name e.0) there (named_below n es name found (λ k d b. all (suc k) d (omega arith))) where
  at_test : (b : Bool) → cond b (Some e.1) (entry_of name es) ≡ Some found → (entry_of name es ≡ Some found → IfOk found (λ number. number < n)) → IfOk found (λ number. number < n)
  at_test true h more = (let same : e.1 ≡ found = (cc) in subst (λ r. IfOk r (λ number. number < n)) same (all 0 e (omega arith)))
  at_test false h more = more h

-- a name that was met before
pub known_finds : (heard : Heard) (name : List ℕ) (found : Result ℕ Unusable) → IsHeard heard → entry_of name heard.names ≡ Some found → Finds heard heard found
known_finds heard name found h there = record { heard = h; grew = omega arith; number = named_below _ heard.names name found h.numbers there }
