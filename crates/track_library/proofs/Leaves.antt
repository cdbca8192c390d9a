-- The leaves of a plan so far.
use Rattle.std.proofs.Common.{◌≡◌, ◌≤◌, ◌<◌, ℕ, ◌^◌, ◌∷◌, ◌++◌, [], List, length, sym, arith}
use Rattle.std.specs.Prelude.{slice_index_or}
use Rattle.std.specs.List.{All}
use Rattle.std.proofs.lemmas.List.Elements.{All-push}
use Rattle.frame_core.specs.Library.{IsLibrary}
use Rattle.frame_core.specs.Sounds.{IsSound, Sound}
use Rattle.track_library.specs.Walk.{Heard}
use Rattle.track_library.specs.States.{IsHeard, Plays}

pub record LeavesSoFar (heard : Heard) (leaves : List (List ℕ)) : Type 0 where
  pub is_heard : IsHeard heard
  pub below : All (All (λ number. number < length heard.titles)) leaves
  pub few : All (λ leaf. length leaf < 2 ^ 32) leaves

pub all_more : (a b : ℕ) (leaf : List ℕ) → a ≤ b → All (λ number. number < a) leaf → All (λ number. number < b) leaf
all_more a b leaf le h k d within = let below : slice_index_or leaf k d < a = h k d within in omega arith

pub one_leaf_more : (old new : Heard) (leaves : List (List ℕ)) (leaf : List ℕ) → LeavesSoFar old leaves → Plays old new leaf → LeavesSoFar new (leaves ++ leaf ∷ [])
one_leaf_more old new leaves leaf so_far p = record {
  is_heard = p.heard;
  below =
      All-push (All (λ number. number < length new.titles)) leaves leaf
      (λ k d within. all_more (length old.titles) (length new.titles) (slice_index_or leaves k d) p.grew (so_far.below k d within)) p.below;
  few = All-push (λ (l : List ℕ). length l < 2 ^ 32) leaves leaf so_far.few p.few;
}

-- the library of all of them
pub library_of : (sounds : List Sound) (titles leaves : List (List ℕ)) → length sounds ≡ length titles → All IsSound sounds → length titles < 2 ^ 32
    → All (All (λ number. number < length titles)) leaves → All (λ leaf. length leaf < 2 ^ 32) leaves → IsLibrary (record { files = sounds; names = titles; leaves = leaves })
library_of sounds titles leaves long are many below few = record {
  there = λ k d within. all_more (length titles) (length sounds) (slice_index_or leaves k d) (omega (arith, long)) (below k d within);
  few = few;
  sounds = are;
  named = sym long;
  many = omega (arith, long, many);
}
