-- The switches of a plan, one after another.
use Rattle.std.proofs.Common.{◌≡◌, ℕ, ◌+◌, List, [], ◌∷◌, ◌++◌, drop, refl, ap}
use Rattle.std.specs.Prelude.{map}
use Rattle.json.specs.Token.{Token}
use Rattle.json.specs.Written.{Written}
use Rattle.plan_core.specs.declared.node.Node.{Node}
use Rattle.station_facts.specs.Hours.{switches_from}
use Rattle.station_facts.specs.Members.{each}

pub each_map : {A B : Type 0} (text : B → List Token) (of : A → B) (xs : List A) → each (λ x. text (of x)) xs ≡ each text (map of xs)
each_map text of [] = refl
each_map text of (x ∷ xs) = ap (λ (ts : List Token). text (of x) ++ ts) (each_map text of xs)

-- with the sources from a place on, all switches are written
pub record Switched (most : ℕ) (nodes : List Node) (ats : List ℕ) (k : ℕ) (old new : Written) : Type 0 where
  pub tokens : new.tokens ++ switches_from most k (drop k nodes) (drop k ats) ≡ old.tokens ++ switches_from most 0 nodes ats
  pub before : new.before ≡ old.before
