-- A step ends with the fault of its part.
use Rattle.std.proofs.Common.{◌≡◌, ℕ, List, Some, ◌∙◌, arith, sym, subst}
use Rattle.std.specs.Prelude.{Result, Err}
use Rattle.liq_base.specs.Counts.{Rose}
use Rattle.liq_base.specs.Files.{Files}
use Rattle.liq_base.specs.Shelves.{OnlyRead, ShelfTold}
use Rattle.std.specs.Option.{ForSome}
use Rattle.track_library.specs.Walk.{Ends, IsReading, told_fault}
use Rattle.track_library.specs.declared.fault.Unusable.{Unusable}
use Rattle.track_library.specs.declared.fault.Unusable.TheVariants.{NotThere, NotWav, TooLong}
use Rattle.track_library.specs.declared.fault.LoadFault.{LoadFault}
use Rattle.track_library.specs.declared.fault.LoadFault.TheVariants.{Missing, BadAudio, FileTooLarge, AllTooLarge, ReadFault, Memory}

-- a read ends a step that asks for its file
pub read_ends : {X : Type 0} (file : List ℕ) (old new : ShelfTold) (reads : Files → List ℕ → Type 0) (step : Files → Result X LoadFault) (fault : LoadFault)
    → ((files : Files) → old.files ≡ Some files → (name : List ℕ) → name ≡ file → reads files name) → IsReading file old new fault → Ends old new reads step fault
read_ends file old new reads step (Missing name) asked h = absurd h
read_ends file old new reads step (BadAudio name fault) asked h = absurd h
read_ends file old new reads step (FileTooLarge name) asked h = absurd h
read_ends file old new reads step AllTooLarge asked h = absurd h
read_ends file old new reads step (ReadFault name) asked h = (h.0, λ files t. asked files t name h.1)
read_ends file old new reads step Memory asked h = h

-- a part that began later
pub ends_through : {X Y : Type 0} (old began new : ShelfTold) (asked reads : Files → List ℕ → Type 0) (part : Files → Result X LoadFault) (step : Files → Result Y LoadFault) (fault : LoadFault)
    → OnlyRead old began
    → ((files : Files) → old.files ≡ Some files → (e : LoadFault) → part files ≡ Err e → step files ≡ Err e)
    → ((files : Files) → old.files ≡ Some files → (name : List ℕ) → asked files name → reads files name)
    → Ends began new asked part fault → Ends old new reads step fault
ends_through old began new asked reads part step (Missing name) b more also h = λ files t. more files t (Missing name) (h files (b.files ∙ t))
ends_through old began new asked reads part step (BadAudio name fault) b more also h = λ files t. more files t (BadAudio name fault) (h files (b.files ∙ t))
ends_through old began new asked reads part step (FileTooLarge name) b more also h = λ files t. more files t (FileTooLarge name) (h files (b.files ∙ t))
ends_through old began new asked reads part step AllTooLarge b more also h = λ files t. more files t AllTooLarge (h files (b.files ∙ t))
ends_through old began new asked reads part step (ReadFault name) b more also h = (let rose : Rose began.reads new.reads = h.0 in (omega (arith, rose, b.reads), λ files t. also files t name (h.1 files (b.files ∙ t))))
ends_through old began new asked reads part step Memory b more also h = h

-- a file that cannot be used
pub told_ends : {X : Type 0} (old new : ShelfTold) (reads : Files → List ℕ → Type 0) (step : Files → Result X LoadFault) (name : List ℕ) (fault : Unusable) (e : LoadFault)
    → e ≡ told_fault name fault → ForSome old.files (λ files. step files ≡ Err (told_fault name fault)) → Ends old new reads step e
told_ends old new reads step name fault e is h = subst (λ (f : LoadFault). Ends old new reads step f) (sym is) (by_fault fault h) where
  by_fault : (u : Unusable) → ForSome old.files (λ files. step files ≡ Err (told_fault name u)) → Ends old new reads step (told_fault name u)
  by_fault NotThere k = k
  by_fault (NotWav f) k = k
  by_fault TooLong k = k
