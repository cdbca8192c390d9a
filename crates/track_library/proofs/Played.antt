-- What a leaf plays so far.
use Rattle.std.proofs.Common.{◌≡◌, ◌≤◌, ◌<◌, ℕ, ◌∷◌, ◌++◌, [], List, length, refl, arith}
use Rattle.std.specs.Prelude.{Result, Ok, Err, slice_index_or}
use Rattle.std.specs.List.{All}
use Rattle.std.proofs.lemmas.List.Elements.{All-push}
use Rattle.track_library.specs.Walk.{Heard, entry_played}
use Rattle.track_library.specs.States.{IsHeard, Finds, with_found}
use Rattle.track_library.specs.declared.fault.Unusable.{Unusable}

pub record PlaysSoFar (old new : Heard) (leaf : List ℕ) : Type 0 where
  pub heard : IsHeard new
  pub grew : length old.titles ≤ length new.titles
  pub below : All (λ number. number < length new.titles) leaf

further : (a b : ℕ) (leaf : List ℕ) → a ≤ b → All (λ number. number < a) leaf → All (λ number. number < b) leaf
further a b leaf le h k d within = let below : slice_index_or leaf k d < a = h k d within in omega arith

pub plays_more : (old now new : Heard) (leaf : List ℕ) (number : ℕ) → PlaysSoFar old now leaf → Finds now new (Ok number) → PlaysSoFar old new (leaf ++ number ∷ [])
plays_more old now new leaf number p f = record {
  heard = f.heard;
  grew = omega (arith, p.grew, f.grew);
  below = All-push (λ n. n < length new.titles) leaf number (further (length now.titles) (length new.titles) leaf f.grew p.below) f.number;
}

pub plays_on : (old now new : Heard) (leaf : List ℕ) (fault : Unusable) → PlaysSoFar old now leaf → Finds now new (Err fault) → PlaysSoFar old new leaf
plays_on old now new leaf fault p f = record {
  heard = f.heard;
  grew = omega (arith, p.grew, f.grew);
  below = further (length now.titles) (length new.titles) leaf f.grew p.below;
}

pub plays_found : (old now new : Heard) (leaf : List ℕ) (found : Result ℕ Unusable) → PlaysSoFar old now leaf → Finds now new found → PlaysSoFar old new (with_found leaf found)
plays_found old now new leaf (Ok number) p f = plays_more old now new leaf number p f
plays_found old now new leaf (Err fault) p f = plays_on old now new leaf fault p f

pub played_found : (heard : Heard) (leaf : List ℕ) (found : Result ℕ Unusable) → entry_played leaf (Ok (heard, found)) ≡ Ok (heard, with_found leaf found)
played_found heard leaf (Ok number) = refl
played_found heard leaf (Err fault) = refl
