-- A loop over an owned list takes all of it.
use Rattle.std.proofs.Common.{◌≡◌, ◌∙◌, sym, length, List, None}
use Rattle.std.specs.Iterator.{Yields}
use Rattle.std.specs.Vec.Iter.{into_iter_items, into_iter_len, into_iter_steps}
use Rattle.std.specs.declared.vec.IntoIter.{IntoIter}
use Rattle.std.proofs.lemmas.Iterator.{items_from_drains}
use Rattle.std.proofs.lemmas.Iterator.Adapters.{YieldsList-from_vec}
use Rattle.std.proofs.lemmas.List.{map-id}

pub all_taken : {A Z : Type 0} (all xs : List A) (s t u : IntoIter A Z) → into_iter_items s ≡ all → into_iter_len s ≡ length all → Yields into_iter_steps s xs t
    → into_iter_steps t None u → xs ≡ all
all_taken all xs s t u is len h none = sym (map-id xs) ∙ items_from_drains xs (t, h, λ _. (u, none)) (YieldsList-from_vec all is len)
