-- One name is written: what it holds, and what the others hold.
use Rattle.std.specs.Prelude.{◌≡◌, ◌≢◌, ℕ, Bool, true, false, cond, List, Some}
use Rattle.std.specs.Str.{bytes_eq}
use Rattle.std.specs.Cmp.Lexicographic.{nat_list_cmp_total, texts_ties}
use Rattle.std.specs.FinMap.{get-insert}
use Rattle.std.proofs.Common.{sym, ap, ◌∙◌}
use Rattle.std.proofs.lemmas.Slice.Eq.{bytes_eq-Decides}
use Rattle.liq_base.specs.Files.{Files, file_at, with_file}

-- what the name q holds after these bytes were written to a name
pub at_name : (files : Files) (name bytes q : List ℕ)
    → file_at (with_file files name bytes) q ≡ cond (bytes_eq q name) (Some bytes) (file_at files q)
at_name files name bytes q = get-insert nat_list_cmp_total files name bytes q ∙ ap
    (λ b. cond b (Some bytes) (file_at files q)) (sym (texts_ties q name))

-- a test that shows a fact is false where the fact does not hold
unequal : (b : Bool) (P : Type 0) → (b ≡ true → P) → (P → ⊥) → b ≡ false
unequal true P is apart = absurd (apart (is (λ i. true)))
unequal false P is apart = λ i. false

-- a name that was not written holds what it held
pub other_name : (files : Files) (name bytes q : List ℕ) → q ≢ name
    → file_at (with_file files name bytes) q ≡ file_at files q
other_name files name bytes q apart =
    at_name files name bytes q ∙ ap (λ b. cond b (Some bytes) (file_at files q)) (unequal (bytes_eq q name) (q
    ≡ name) (bytes_eq-Decides q name).0 apart)

-- the name that was written holds these bytes
pub this_name : (files : Files) (name bytes : List ℕ) → file_at (with_file files name bytes) name ≡ Some bytes
this_name files name bytes =
    at_name files name bytes name ∙ ap (λ b. cond b (Some bytes) (file_at files name))
    ((bytes_eq-Decides name name).1 (λ i. name))
