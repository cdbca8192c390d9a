-- Names, each once.
use Rattle.std.proofs.Common.{◌≡◌, ℕ, List, ◌∷◌, drop, refl}
use Rattle.std.specs.Str.{bytes_eq}
use Rattle.indexmap.specs.IndexSet.{insert_all}
use Rattle.station_facts.specs.Files.{in_each}

-- with the names from a place on, all are there
pub record Gathers {A : Type 0} (names : A → List (List ℕ)) (xs : List A) (i : ℕ) (old new : List (List ℕ)) : Type 0 where
  pub all : insert_all bytes_eq new (in_each names (drop i xs)) ≡ insert_all bytes_eq old (in_each names xs)

-- the same of names alone
pub record Puts (xs : List (List ℕ)) (i : ℕ) (old new : List (List ℕ)) : Type 0 where
  pub all : insert_all bytes_eq new (drop i xs) ≡ insert_all bytes_eq old xs
