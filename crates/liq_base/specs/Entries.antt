-- What a shelf in memory stores.
use Rattle.std.specs.Prelude.{◌≡◌, ℕ, true, false, cond, refl, List, [], ◌∷◌, ◌++◌, map, Option, Some, None, if◌then◌else◌, string_bytes, String, Vec}
use Rattle.std.specs.Ordering.{nat_cmp}
use Rattle.std.specs.Cmp.Lexicographic.{slice_cmp, nat_list_cmp_total, texts_ties}
use Rattle.std.specs.FinMap.{from_entries, get-from_entries, find}
use Rattle.std.specs.declared.alloc.Global.{Global}
use Rattle.std.proofs.Common.{sym, ap, ◌∙◌}
use Rattle.liq_base.specs.Files.{Files, file_at}
use Rattle.liq_base.specs.Shelves.{Closing, closing_of}
use Rattle.std.specs.Str.{bytes_eq}
use Rattle.liq_base.specs.declared.closed.Closed.{Closed, End, File', Lost'}

-- The files that a shelf in memory wrote, as names and bytes, the newest first. A sink whose closing failed is no file.
abbrev pub entries : Closed → List (List ℕ × List ℕ)
entries End = []
entries (File' p name bytes left pieces faults next) = (string_bytes name, bytes.items) ∷ entries next
entries (Lost' p name bytes left pieces faults next) = entries next

-- What a shelf in memory tells of each sink that it closed, the newest last. A closing that failed is told too.
abbrev pub closings : Closed → List Closing
closings End = []
closings (File' p name bytes left pieces faults next) = closings next
    ++ closing_of (string_bytes name) bytes.items left pieces faults
    ∷ []
closings (Lost' p name bytes left pieces faults next) = closings next
    ++ closing_of (string_bytes name) bytes.items left pieces faults
    ∷ []

-- The bytes of the first entry of this name in a list of names and bytes, if there is one.
abbrev pub stored : List ℕ → List (List ℕ × List ℕ) → Option (List ℕ)
stored name [] = None
stored name (entry ∷ entries) = if bytes_eq name entry.0 then Some entry.1 else stored name entries

-- The files with which a shelf in memory was made, as names and bytes.
abbrev pub given_entries : List (String Global × Vec ℕ Global) → List (List ℕ × List ℕ)
given_entries given = map (λ e. (string_bytes e.0, e.1.items)) given

-- The files of a shelf in memory, as a map from names: those that it wrote hide those of the same name with which it
-- was made.
abbrev pub files_of : Closed → List (String Global × Vec ℕ Global) → Files
files_of closed given = from_entries (entries closed ++ given_entries given)

-- the map of a list finds the first entry of a name
found : (all : List (List ℕ × List ℕ)) (name : List ℕ) → find (slice_cmp nat_cmp) name all ≡ stored name all
found [] name = refl
found (e ∷ es) name =
    ap (λ b. cond b (Some e.1) (find (slice_cmp nat_cmp) name es)) (sym (texts_ties name e.0)) ∙ ap
    (cond (bytes_eq name e.0) (Some e.1)) (found es name)

-- the file of a name is the first entry of this name
pub stored_is_file : (all : List (List ℕ × List ℕ)) (name : List ℕ) → file_at (from_entries all) name ≡ stored name all
stored_is_file all name = get-from_entries nat_list_cmp_total all name ∙ found all name

-- The bytes of a name that is looked up in two lists: what the first has, or else what the other has.
abbrev pub first_of : Option (List ℕ) → Option (List ℕ) → Option (List ℕ)
first_of None other = other
first_of (Some bytes) other = Some bytes

-- where two lists of entries follow each other, a name has its bytes from the first that has the name
pub stored_first : (a b : List (List ℕ × List ℕ)) (name : List ℕ)
    → stored name (a ++ b) ≡ first_of (stored name a) (stored name b)
stored_first [] b name = refl
stored_first (e ∷ a) b name =
    elim (bytes_eq name e.0) as (λ t. cond t (Some e.1) (stored name (a ++ b))
    ≡ first_of (cond t (Some e.1) (stored name a)) (stored name b)) [ true ↦ refl | false ↦ stored_first a b name ]
