-- The files of a shelf: bytes under names.
use Rattle.std.specs.Prelude.{◌≡◌, ◌≤◌, ◌⊎◌, min, ℕ, List, ◌++◌, length, Option, Some, None, IsSomeAnd}
use Rattle.std.specs.Option.{ForSome}
use Rattle.std.specs.Ordering.{nat_cmp}
use Rattle.std.specs.Cmp.Lexicographic.{slice_cmp}
use Rattle.std.specs.FinMap.{FinMap, get, insert}
use Rattle.liq_base.specs.Pieces.{IsPrefix, SinkTold}

-- The files of a shelf: a map from names to bytes. A name and the bytes are lists of byte values.
abbrev pub Files : Type 0
Files = FinMap (slice_cmp nat_cmp) (List ℕ)

-- The bytes of the file of this name; `None` where there is no such file.
abbrev pub file_at : Files → List ℕ → Option (List ℕ)
file_at files name = get files name

-- The files after these bytes were written under this name, in place of what it held.
abbrev pub with_file : Files → List ℕ → List ℕ → Files
with_file files name bytes = insert files name bytes

-- What a read of the file of this name did: its bytes, at most `most`, were added to a list that was `before` and is
-- `after`. Where the shelf tells its files, they are that file's.
pub record Found (files : Option Files) (name : List ℕ) (most : ℕ) (before after : List ℕ) : Type 0 where
  pub bytes : List ℕ
  pub appended : after ≡ before ++ bytes
  pub fits : length bytes ≤ most
  pub is_file : ForSome files (λ all. file_at all name ≡ Some bytes)

-- What a look at a file of `size` bytes, at most `most`, did: its first bytes, at least `front` of them or all, were
-- added to a list that was `before` and is `after`. Where the shelf tells its files, it is the one of this name.
pub record FrontFound (files : Option Files) (name : List ℕ) (front most size : ℕ)
    (before after : List ℕ) : Type 0 where
  pub bytes : List ℕ
  pub shown : List ℕ
  pub appended : after ≡ before ++ shown
  pub is_front : IsPrefix shown bytes
  pub enough : min front size ≤ length shown
  pub sized : length bytes ≡ size
  pub fits : size ≤ most
  pub is_file : ForSome files (λ all. file_at all name ≡ Some bytes)

-- What a failed write of `bytes` under `name` left of the files: the name holds a prefix of the bytes, or all files are
-- as they were. Nothing else changed.
abbrev pub HoldsPart : Files → List ℕ → List ℕ → Files → Type 0
HoldsPart files name bytes after =
    (after ≡ files) ⊎ ((part : List ℕ) × IsPrefix part bytes × (after ≡ with_file files name part))

-- What closing a sink that told `out` did to the files of its shelf: the bytes that it held stand under its name. It is
-- said where files, name and bytes are told.
abbrev pub Closed : SinkTold → (before after : Option Files) → Type 0
Closed out before after =
    ForSome before (λ files. ForSome out.name (λ name. ForSome out.held (λ bytes. after
    ≡ Some (with_file files name bytes))))

-- What a failed closing of a sink that told `out` left of the files: its name holds a prefix of its bytes, or what it
-- held before. It is said where files, name and bytes are told.
abbrev pub ClosedPart : SinkTold → (before after : Option Files) → Type 0
ClosedPart out before after =
    ForSome before (λ files. ForSome out.name
    (λ name. ForSome out.held (λ bytes. IsSomeAnd after (HoldsPart files name bytes))))
