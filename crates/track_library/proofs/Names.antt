-- Values under names, looked up and added.
use Rattle.std.proofs.Common.{◌≡◌, ℕ, zero, suc, Bool, true, false, cond, List, [], ◌∷◌, ◌++◌, map, length, Some, None, Option, refl, sym, ap, ◌∙◌}
use Rattle.std.specs.Prelude.{String, Vec, string_bytes, string_eq, Ok, Err, is_some, ◌^◌, slice_get, slice_index_or}
use Rattle.std.specs.Str.{bytes_eq}
use Rattle.std.specs.Map.{lookup}
use Rattle.std.specs.Option.{option_map}
use Rattle.std.specs.declared.alloc.Global.{Global}
use Rattle.indexmap.specs.IndexMap.{insert_entry}
use Rattle.liq_base.specs.Files.{Files, file_at}
use Rattle.track_library.specs.Lists.{names_listed}
use Rattle.track_library.specs.Walk.{entry_of, use_list, list_of, first_list, list_in, bytes_in, told_fault}
use Rattle.track_library.specs.declared.fault.Unusable.{Unusable}
use Rattle.track_library.specs.States.{named, listed, names_at}

abbrev pub named_by : {V W : Type 0} → (V → W) → List (String Global × V) → List (List ℕ × W)
named_by f entries = map (λ e. (string_bytes e.0, f e.1)) entries

pub looked_up : {V : Type 0} (entries : List (String Global × V)) (name : List ℕ)
    → lookup (λ k. bytes_eq name (string_bytes k)) entries ≡ entry_of name (named entries)
looked_up [] name = refl
looked_up (e ∷ es) name = ap (cond (bytes_eq name (string_bytes e.0)) (Some e.1)) (looked_up es name)

mapped_cond : {V W : Type 0} (f : V → W) (b : Bool) (x y : Option V) → option_map f (cond b x y) ≡ cond b (option_map f x) (option_map f y)
mapped_cond f true x y = refl
mapped_cond f false x y = refl

pub looked_up_by : {V W : Type 0} (f : V → W) (entries : List (String Global × V)) (name : List ℕ)
    → option_map f (lookup (λ k. bytes_eq name (string_bytes k)) entries) ≡ entry_of name (named_by f entries)
looked_up_by f [] name = refl
looked_up_by f (e ∷ es) name =
    mapped_cond f (bytes_eq name (string_bytes e.0)) (Some e.1) (lookup (λ k. bytes_eq name (string_bytes k)) es)
    ∙ ap (cond (bytes_eq name (string_bytes e.0)) (Some (f e.1))) (looked_up_by f es name)

pub added : {V W : Type 0} (f : V → W) (entries : List (String Global × V)) (key : String Global) (v : V) → entry_of (string_bytes key) (named_by f entries) ≡ None
    → named_by f (insert_entry string_eq entries key v) ≡ named_by f entries ++ (string_bytes key, f v) ∷ []
added f [] key v none = refl
added f (e ∷ es) key v none = at_test (bytes_eq (string_bytes key) (string_bytes e.0)) refl (λ h. added f es key v h) where
  at_test : (b : Bool) → bytes_eq (string_bytes key) (string_bytes e.0) ≡ b
      → (entry_of (string_bytes key) (named_by f es) ≡ None → named_by f (insert_entry string_eq es key v) ≡ named_by f es ++ (string_bytes key, f v) ∷ [])
      → named_by f (insert_entry string_eq (e ∷ es) key v) ≡ named_by f (e ∷ es) ++ (string_bytes key, f v) ∷ []
  at_test true same more =
      let there : Some (f e.1) ≡ None = ap (λ t. cond t (Some (f e.1)) (entry_of (string_bytes key) (named_by f es))) (sym same) ∙ none in absurd (cc)
  at_test false other more =
      ap (λ t. named_by f (cond t ((e.0, v) ∷ es) (e ∷ insert_entry string_eq es key v))) other
      ∙ ap (λ l. (string_bytes e.0, f e.1) ∷ l) (more (ap (λ t. cond t (Some (f e.1)) (entry_of (string_bytes key) (named_by f es))) (sym other) ∙ none))

-- the value at a place
pub list_at : (entries : List (String Global × Vec (List ℕ) Global)) (at : ℕ) (v : Vec (List ℕ) Global) → slice_get (map (λ e. e.1) entries) at ≡ Some v
    → names_at (listed entries) at ≡ v.items
list_at [] zero v there = absurd (cc)
list_at [] (suc at) v there = absurd (cc)
list_at (e ∷ es) zero v there = (let same : e.1 ≡ v = (cc) in ap (λ (u : Vec (List ℕ) Global). u.items) same)
list_at (e ∷ es) (suc at) v there = list_at es at v there

pub last_at : {X : Type 0} (xs : List X) (x d : X) → slice_index_or (xs ++ x ∷ []) (length xs) d ≡ x
last_at [] x d = refl
last_at (y ∷ ys) x d = last_at ys x d

found_list_as : (entries : List (String Global × Vec (List ℕ) Global)) (name : List ℕ) (at : ℕ) (o : Option (Vec (List ℕ) Global))
    → lookup (λ k. bytes_eq name (string_bytes k)) entries ≡ o → slice_get (map (λ e. e.1) entries) at ≡ o → is_some o ≡ true
    → entry_of name (listed entries) ≡ Some (names_at (listed entries) at)
found_list_as entries name at None e there some = absurd (cc)
found_list_as entries name at (Some v) e there some =
    sym (looked_up_by (λ (u : Vec (List ℕ) Global). u.items) entries name)
    ∙ ap (option_map (λ (u : Vec (List ℕ) Global). u.items)) e ∙ ap Some (sym (list_at entries at v there))

-- a list that was read before, and one that was not
pub found_list : (entries : List (String Global × Vec (List ℕ) Global)) (name : List ℕ) (at : ℕ)
    → slice_get (map (λ e. e.1) entries) at ≡ lookup (λ k. bytes_eq name (string_bytes k)) entries
    → is_some (lookup (λ k. bytes_eq name (string_bytes k)) entries) ≡ true
    → entry_of name (listed entries) ≡ Some (names_at (listed entries) at)
found_list entries name at there some = found_list_as entries name at (lookup (λ k. bytes_eq name (string_bytes k)) entries) refl there some

absent_as : (o : Option (Vec (List ℕ) Global)) → is_some o ≡ false → option_map (λ (u : Vec (List ℕ) Global). u.items) o ≡ None
absent_as None e = refl
absent_as (Some v) e = absurd (cc)

pub absent_list : (entries : List (String Global × Vec (List ℕ) Global)) (name : List ℕ)
    → is_some (lookup (λ k. bytes_eq name (string_bytes k)) entries) ≡ false → entry_of name (listed entries) ≡ None
absent_list entries name none = sym (looked_up_by (λ (u : Vec (List ℕ) Global). u.items) entries name) ∙ absent_as _ none

-- what a list that is read for the first time gives
pub fresh_list : (files : Files) (lists : List (List ℕ × List (List ℕ))) (name bytes : List ℕ) (names : List (List ℕ)) (after : List (List ℕ × List (List ℕ))) (at : ℕ)
    → entry_of name lists ≡ None → bytes_in (2 ^ 20) (file_at files name) ≡ Ok bytes → names ≡ names_listed bytes
    → after ≡ lists ++ (name, names) ∷ [] → at ≡ length lists → use_list files lists name ≡ Ok (after, names_at after at)
fresh_list files lists name bytes names after at none read is added last =
    let all : lists ++ (name, names_listed bytes) ∷ [] ≡ after = ap (λ (l : List (List ℕ)). lists ++ (name, l) ∷ []) (sym is) ∙ sym added in
    let value : names_listed bytes ≡ names_at after at =
    sym is ∙ sym (ap (λ (p : List ℕ × List (List ℕ)). p.1) (last_at lists (name, names) ([], [])))
    ∙ ap (λ (n : ℕ). names_at (lists ++ (name, names) ∷ []) n) (sym last) ∙ ap (λ (l : List (List ℕ × List (List ℕ))). names_at l at) (sym added) in
    ap (λ o. list_of lists name o (list_in name (bytes_in (2 ^ 20) (file_at files name)))) none
    ∙ ap (λ b. first_list lists name (list_in name b)) read
    ∙ (λ i. Ok (all i, value i))

pub failed_list : (files : Files) (lists : List (List ℕ × List (List ℕ))) (name : List ℕ) (fault : Unusable)
    → entry_of name lists ≡ None → bytes_in (2 ^ 20) (file_at files name) ≡ Err fault → use_list files lists name ≡ Err (told_fault name fault)
failed_list files lists name fault none read =
    ap (λ o. list_of lists name o (list_in name (bytes_in (2 ^ 20) (file_at files name)))) none
    ∙ ap (λ b. first_list lists name (list_in name b)) read
