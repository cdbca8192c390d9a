-- Lists that are chosen by numbers, one more.
use Rattle.std.proofs.Common.{◌≡◌, ◌∙◌, ◌<◌, ◌++◌, ℕ, suc, List, [], ◌∷◌, length, map, ap, arith, refl}
use Rattle.std.specs.Prelude.{Vec, slice_index_or}
use Rattle.std.specs.declared.alloc.Global.{Global}
use Rattle.std.specs.List.{All}
use Rattle.std.proofs.lemmas.List.{length-map}
use Rattle.frame_core.specs.Library.{chosen_lists}
use Rattle.track_library.proofs.Leaves.{all_more}
use Rattle.track_library.proofs.OneFile.{at_end, at_front}
use Rattle.track_library.proofs.Steps.{items_pushed}

abbrev items : List (Vec ℕ Global) → List (List ℕ)
items lists = map (λ (v : Vec ℕ Global). v.items) lists

-- one number more
one_more : (lists : List (List ℕ)) (numbers : List ℕ) (number : ℕ) → chosen_lists lists (numbers ++ number ∷ []) ≡ chosen_lists lists numbers ++ slice_index_or lists number [] ∷ []
one_more lists [] number = refl
one_more lists (n ∷ ns) number = ap (λ ls. slice_index_or lists n [] ∷ ls) (one_more lists ns number)

-- one list more
same_chosen : (lists : List (List ℕ)) (leaf : List ℕ) (numbers : List ℕ) → All (λ n. n < length lists) numbers → chosen_lists (lists ++ leaf ∷ []) numbers ≡ chosen_lists lists numbers
same_chosen lists leaf [] there = refl
same_chosen lists leaf (n ∷ ns) there =
    let low : n < length lists = there 0 n (omega arith) in
    ap (λ l. l ∷ chosen_lists (lists ++ leaf ∷ []) ns) (at_front lists leaf [] n low)
    ∙ ap (λ ls. slice_index_or lists n [] ∷ ls) (same_chosen lists leaf ns (λ k d within. there (suc k) d (omega (arith, within))))

pub pushed_shared : (lists : List (Vec ℕ Global)) (leaf : List ℕ) (numbers more : List ℕ) (number : ℕ) → more ≡ numbers ++ number ∷ [] → slice_index_or (items lists) number [] ≡ leaf
    → chosen_lists (items lists) more ≡ chosen_lists (items lists) numbers ++ leaf ∷ []
pushed_shared lists leaf numbers more number pushed same =
    ap (chosen_lists (items lists)) pushed ∙ one_more (items lists) numbers number ∙ ap (λ l. chosen_lists (items lists) numbers ++ l ∷ []) same

pub pushed_own : (old new : List (Vec ℕ Global)) (leaf : Vec ℕ Global) (numbers more : List ℕ) (number : ℕ) → new ≡ old ++ leaf ∷ [] → more ≡ numbers ++ number ∷ [] → number ≡ length old
    → All (λ n. n < length old) numbers → chosen_lists (items new) more ≡ chosen_lists (items old) numbers ++ leaf.items ∷ []
pushed_own old new leaf numbers more number grown pushed last there =
    let lists_are : items new ≡ items old ++ leaf.items ∷ [] = items_pushed old new leaf grown in
    let many = length-map old (λ (v : Vec ℕ Global). v.items) in
    let place : number ≡ length (items old) = omega (arith, last, many) in
    let here : slice_index_or (items new) number [] ≡ leaf.items =
    ap (λ ls. slice_index_or ls number []) lists_are ∙ ap (λ n. slice_index_or (items old ++ leaf.items ∷ []) n []) place ∙ at_end (items old) leaf.items [] in
    let same : chosen_lists (items new) numbers ≡ chosen_lists (items old) numbers =
    ap (λ ls. chosen_lists ls numbers) lists_are ∙ same_chosen (items old) leaf.items numbers (all_more (length old) (length (items old)) numbers (omega (arith, many)) there) in
    pushed_shared new leaf.items numbers more number pushed here ∙ ap (λ ls. ls ++ leaf.items ∷ []) same
