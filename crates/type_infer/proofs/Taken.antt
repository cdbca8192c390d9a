-- What a loop over an owned list has taken so far, and what is to come.
use Rattle.std.proofs.Common.{◌≡◌, ◌∙◌, sym, ap, length, List, [], ◌∷◌, ◌++◌, None}
use Rattle.std.specs.Iterator.{Yields}
use Rattle.std.specs.Vec.Iter.{into_iter_items, into_iter_len, into_iter_steps}
use Rattle.std.specs.declared.vec.IntoIter.{IntoIter}
use Rattle.std.proofs.lemmas.Iterator.{items_from_drains}
use Rattle.std.proofs.lemmas.Iterator.Adapters.{YieldsList-from_vec}
use Rattle.std.proofs.lemmas.List.{map-id}

module _ {A Z : Type 0} where
  taken_and_left : (xs : List A) (s t : IntoIter A Z) → Yields into_iter_steps s xs t → into_iter_items s ≡ xs ++ into_iter_items t
  taken_and_left [] s t e = ap into_iter_items e
  taken_and_left (x ∷ xs) s t h = h.1.0 ∙ ap (λ l. x ∷ l) (taken_and_left xs h.0 t h.2)

  pub next_taken : (all xs : List A) (x : A) (s t u : IntoIter A Z) → into_iter_items s ≡ all → Yields into_iter_steps s xs t → into_iter_items t ≡ x ∷ into_iter_items u → all ≡ xs ++ x ∷ into_iter_items u
  next_taken all xs x s t u is h next = sym is ∙ taken_and_left xs s t h ∙ ap (λ l. xs ++ l) next

  pub all_taken : (all xs : List A) (s t u : IntoIter A Z) → into_iter_items s ≡ all → into_iter_len s ≡ length all → Yields into_iter_steps s xs t → into_iter_steps t None u → xs ≡ all
  all_taken all xs s t u is len h none = sym (map-id xs) ∙ items_from_drains xs (t, h, λ _. (u, none)) (YieldsList-from_vec all is len)
