-- The items of a list from one on.
use Rattle.std.proofs.Common.{◌≡◌, ◌∙◌, ℕ, suc, Some, List, ◌∷◌, drop, slice_get, ap, sym}
use Rattle.std.proofs.Math.Seq.{drop-cons}
use Rattle.std.proofs.lemmas.Option.{get_or_from_slice_get, slice_get_within}

pub item_and_behind : {X : Type 0} (xs : List X) (k next : ℕ) (x : X) → slice_get xs k ≡ Some x → next ≡ suc k → x ∷ drop next xs ≡ drop k xs
item_and_behind xs k next x at is =
    ap (λ n. x ∷ drop n xs) is ∙ ap (λ y. y ∷ drop (suc k) xs) (sym (get_or_from_slice_get xs k x x at))
    ∙ sym (drop-cons xs k x (slice_get_within xs k x at))
