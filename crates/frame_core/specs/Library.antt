-- A library of audio files, and the files that each leaf plays.
use Rattle.std.specs.Prelude.{◌≡◌, ◌<◌, ◌^◌, ⊤, ℕ, zero, suc, [], List, Option, None, Some, Vec, length, map, slice_get, slice_index_or}
use Rattle.std.specs.declared.alloc.Global.{Global}
use Rattle.std.specs.List.{All}
use Rattle.liq_base.specs.declared.memory.Kind.TheVariants.{Mono}
use Rattle.frame_core.specs.Sounds.{Sound, IsSound}

-- the audio files of a plan, the name of each, and for each node of the plan the numbers of the files that it plays
pub record Sounds : Type 0 where
  pub files : List Sound
  pub names : List (List ℕ)
  pub leaves : List (List ℕ)

-- a library is well formed: each node plays files that are there, and fewer than 2^32 of them; each file has a name and
-- at least one whole block of samples; and there are fewer than 2^32 files
pub record IsLibrary (library : Sounds) : Type 0 where
  pub there : All (All (λ file. file < length library.files)) library.leaves
  pub few : All (λ tracks. length tracks < 2 ^ 32) library.leaves
  pub sounds : All IsSound library.files
  pub named : length library.names ≡ length library.files
  pub many : length library.files < 2 ^ 32

-- for each of these numbers the list at that place; empty where there is none
abbrev pub chosen_lists : (lists : List (List ℕ)) → (numbers : List ℕ) → List (List ℕ)
chosen_lists lists numbers = map (λ number. slice_index_or lists number []) numbers

-- The list of files that each node plays. Where nodes share lists, `numbers` has for each node the place of its list
-- in `lists`; otherwise the node's list stands at the node's own place.
abbrev pub leaves_of : Option (Vec ℕ Global) → (lists : List (List ℕ)) → List (List ℕ)
leaves_of None lists = lists
leaves_of (Some numbers) lists = chosen_lists lists numbers.items

-- where nodes share lists by number, each number is the place of a list that is there
abbrev pub AreThere : Option (Vec ℕ Global) → (lists : List (List ℕ)) → Type 0
AreThere None lists = ⊤
AreThere (Some numbers) lists = All (λ number. number < length lists) numbers.items

-- these files, names and lists, as a program keeps them, make a well-formed library, whether nodes share lists by
-- number or not
pub record IsKept (files : List Sound) (names : List (List ℕ)) (lists : List (List ℕ))
    (numbers : Option (Vec ℕ Global)) : Type 0 where
  pub library : IsLibrary (record { files = files; names = names; leaves = leaves_of numbers lists })
  pub there : AreThere numbers lists

-- a sound without samples, for a file that is not there
abbrev pub no_sound : Sound
no_sound = record { kind = Mono; samples = [] }

-- the numbers in the library of the files that a leaf (a node that plays files) plays, in order
abbrev pub tracks_of : Sounds → ℕ → List ℕ
tracks_of library leaf = slice_index_or library.leaves leaf []

-- the file that a leaf plays at place `track` of its list, as its number in the library
abbrev pub file_at : Sounds → ℕ → ℕ → ℕ
file_at library leaf track = slice_index_or (tracks_of library leaf) track 0

-- the sound of the file that a leaf plays at place `track` of its list
abbrev pub sound_at : Sounds → ℕ → ℕ → Sound
sound_at library leaf track = slice_index_or library.files (file_at library leaf track) no_sound

-- the title of the file that a leaf plays at place `track` of its list: one more than its number, since 0 is no title
abbrev pub title_at : Sounds → ℕ → ℕ → ℕ
title_at library leaf track = suc (file_at library leaf track)

-- the name of the file for which a title stands; title 0 stands for none
abbrev pub title_name : Sounds → (title : ℕ) → Option (List ℕ)
title_name library zero = None
title_name library (suc file) = slice_get library.names file
