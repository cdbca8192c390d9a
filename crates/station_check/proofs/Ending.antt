-- How a check ends, step by step.
use Rattle.std.proofs.Common.{◌≡◌, ◌⊎◌, ℕ, List, Some, refl, ⊎_elim}
use Rattle.std.specs.Prelude.{Ok, Err, Result, Option, ◌≢◌, IfOk, IfErr, IsErrOf}
use Rattle.std.specs.Option.{ForSome}
use Rattle.liq_base.specs.Files.{Files}
use Rattle.liq_base.specs.Shelves.{ShelfTold}
use Rattle.frame_core.specs.Library.{IsLibrary, Sounds}
use Rattle.plan_core.specs.declared.plan.Plan.{Plan}
use Rattle.plan_core.specs.Plans.{IsWellFormed}
use Rattle.clock_infer.specs.declared.clock_map.ClockMap.{ClockMap}
use Rattle.clock_infer.specs.declared.clock_map.ClockFault.{ClockFault}
use Rattle.clock_infer.specs.declared.clock_map.ClockFault.TheVariants.{TwoClocks, Nested, TooManyClocks}
use Rattle.clock_infer.specs.Answers.{IsCause, IsClockMap}
use Rattle.track_library.specs.Loads.{CanLoad}
use Rattle.track_library.specs.Walk.{Ends, load_of}
use Rattle.track_library.specs.declared.fault.LoadFault.{LoadFault}
use Rattle.track_library.specs.declared.fault.LoadFault.TheVariants.{Missing, BadAudio, FileTooLarge, AllTooLarge, ReadFault}
use Rattle.stations.specs.Findings.{Fails, Fits, IsFound, IsLoaded, rules_of}
use Rattle.station_check.specs.Halts.{HaltsFor, ClockHalts, GapHalts, LengthHalts, RestHalts, load_halt, clock_halt}
use Rattle.station_check.specs.Steps.{FitsBy, IsUngapped, OnlyCause, OnlyClocks}
use Rattle.station_check.specs.declared.halt.CheckEnd.{CheckEnd}
use Rattle.station_check.specs.declared.halt.CheckEnd.TheVariants.{Refused, Read, Memory}
use Rattle.station_check.proofs.Findings.{found_cause, found_file, found_gap, found_long}

-- the loading of the files
pub loading : (old new : ShelfTold) (reads : Files → List ℕ → Type 0) (plan : Plan) (fault : LoadFault)
    → Ends old new reads (λ files. load_of (rules_of plan) files plan.nodes) fault
    → HaltsFor old new (λ files f. (ticks : ℕ) → IsFound files plan ticks (Fails f)) (load_halt fault)
loading old new reads plan (Missing name) ends = λ files t ticks. found_file files plan ticks (Missing name) (ends files t) (ends files t)
loading old new reads plan (BadAudio name fault) ends = λ files t ticks. found_file files plan ticks (BadAudio name fault) (ends files t) (ends files t)
loading old new reads plan (FileTooLarge name) ends = λ files t ticks. found_file files plan ticks (FileTooLarge name) (ends files t) (ends files t)
loading old new reads plan AllTooLarge ends = λ files t ticks. found_file files plan ticks AllTooLarge (ends files t) (ends files t)
loading old new reads plan (ReadFault name) ends = ends.0
loading old new reads plan LoadFault.Memory ends = tt

-- the clocks that are answered are the only ones
pub clocks_found : (plan : Plan) (result : Result ClockMap ClockFault) (clocks : ClockMap) → result ≡ Ok clocks → IsClockMap plan clocks
    → ((fault : ClockFault) → fault ≢ ClockFault.Memory → IsCause plan fault → IsErrOf result fault ⊎ IsErrOf result ClockFault.Memory)
    → ((map : ClockMap) → IsClockMap plan map → (result ≡ Ok map) ⊎ IsErrOf result ClockFault.Memory)
    → OnlyClocks plan clocks
clocks_found plan result clocks is map exact only = record {
  map = map;
  only = λ other theirs. ⊎_elim (λ (e : result ≡ Ok other). cc) (λ (e : result ≡ Err ClockFault.Memory). absurd cc) (only other theirs);
  apart = λ fault meant cause. ⊎_elim (λ (e : result ≡ Err fault). cc) (λ (e : result ≡ Err ClockFault.Memory). cc) (exact fault meant cause);
}

-- a fault of clocks that is answered is the only one
one_cause : (plan : Plan) (result : Result ClockMap ClockFault) (fault : ClockFault) → result ≡ Err fault → fault ≢ ClockFault.Memory → IsCause plan fault
    → ((other : ClockFault) → other ≢ ClockFault.Memory → IsCause plan other → IsErrOf result other ⊎ IsErrOf result ClockFault.Memory)
    → ((map : ClockMap) → IsClockMap plan map → (result ≡ Ok map) ⊎ IsErrOf result ClockFault.Memory)
    → OnlyCause plan fault
one_cause plan result fault is meant cause exact only = record {
  of_plan = meant;
  cause = cause;
  only = λ other theirs told. ⊎_elim (λ (e : result ≡ Err other). cc)
      (λ (e : result ≡ Err ClockFault.Memory). let same : fault ≡ ClockFault.Memory = cc in absurd (meant same)) (exact other theirs told);
  apart = λ clocks map. ⊎_elim (λ (e : result ≡ Ok clocks). cc)
      (λ (e : result ≡ Err ClockFault.Memory). let same : fault ≡ ClockFault.Memory = cc in meant same) (only clocks map);
}

pub cause_found : (plan : Plan) (result : Result ClockMap ClockFault) (fault : ClockFault) → result ≡ Err fault → IsCause plan fault
    → ((other : ClockFault) → other ≢ ClockFault.Memory → IsCause plan other → IsErrOf result other ⊎ IsErrOf result ClockFault.Memory)
    → ((map : ClockMap) → IsClockMap plan map → (result ≡ Ok map) ⊎ IsErrOf result ClockFault.Memory)
    → ClockHalts plan (clock_halt fault)
cause_found plan result (TwoClocks node first second) is cause exact only =
    record { clock_fault = TwoClocks node first second; fault_is = refl; only_cause = one_cause plan result (TwoClocks node first second) is (λ e. cc) cause exact only }
cause_found plan result (Nested node) is cause exact only =
    record { clock_fault = Nested node; fault_is = refl; only_cause = one_cause plan result (Nested node) is (λ e. cc) cause exact only }
cause_found plan result TooManyClocks is cause exact only =
    record { clock_fault = TooManyClocks; fault_is = refl; only_cause = one_cause plan result TooManyClocks is (λ e. cc) cause exact only }
cause_found plan result ClockFault.Memory is cause exact only = tt

-- what each step of the rest ends with
pub gap_ends : (plan : Plan) (ticks : ℕ) (halt : CheckEnd) → IsWellFormed plan → GapHalts plan halt → RestHalts plan ticks halt
gap_ends plan ticks (Refused fault) well h = λ files library loaded.
    rw h.fault_is (found_gap files plan ticks h.name well (record { library = library; loaded = loaded; mark = h.mark; marking = h.marking; first = h.first }))
gap_ends plan ticks Read well h = absurd h
gap_ends plan ticks Memory well h = tt

pub clocks_end : (plan : Plan) (ticks : ℕ) (halt : CheckEnd) → IsWellFormed plan → IsUngapped plan → ClockHalts plan halt → RestHalts plan ticks halt
clocks_end plan ticks (Refused fault) well ungapped h = λ files library loaded.
    rw h.fault_is (found_cause files plan ticks library h.clock_fault well ungapped h.only_cause loaded)
clocks_end plan ticks Read well ungapped h = absurd h
clocks_end plan ticks Memory well ungapped h = tt

pub length_ends : (plan : Plan) (ticks : ℕ) (clocks : ClockMap) (halt : CheckEnd) → IsWellFormed plan → IsUngapped plan → OnlyClocks plan clocks → LengthHalts plan ticks halt
    → RestHalts plan ticks halt
length_ends plan ticks clocks (Refused fault) well ungapped one h = λ files library loaded.
    rw h.fault_is (found_long files plan ticks library clocks h.name well ungapped one h.first loaded)
length_ends plan ticks clocks Read well ungapped one h = absurd h
length_ends plan ticks clocks Memory well ungapped one h = tt

-- the rest ends for a plan whose files were loaded
pub rest_ends : (old new : ShelfTold) (plan : Plan) (ticks : ℕ) (library : Sounds) (halt : CheckEnd)
    → ((files : Files) → old.files ≡ Some files → IsLoaded files plan library) → RestHalts plan ticks halt
    → HaltsFor old new (λ files fault. IsFound files plan ticks (Fails fault)) halt
rest_ends old new plan ticks library (Refused fault) loaded h = λ files t. h files library (loaded files t)
rest_ends old new plan ticks library Read loaded h = absurd h
rest_ends old new plan ticks library Memory loaded h = tt

-- the clocks that the rest answers are those of a plan whose files can be loaded
pub rest_fits : (told : Option Files) (plan : Plan) (ticks : ℕ) (result : Result ClockMap CheckEnd)
    → ForSome told (λ files. CanLoad (rules_of plan) files plan.nodes)
    → IfOk result (λ clocks. (files : Files) (library : Sounds) → IsLoaded files plan library → IsLibrary library → IsFound files plan ticks (Fits library clocks))
    → IfOk result (λ clocks. ForSome told (λ files. FitsBy files plan ticks clocks))
rest_fits told plan ticks (Ok clocks) can found = λ files t. (let of = can files t in record { library = of.library; found = found files of.library of.loaded of.sounds })
rest_fits told plan ticks (Err halt) can found = tt

-- and so is its fault
pub rest_fails : (old new : ShelfTold) (plan : Plan) (ticks : ℕ) (result : Result ClockMap CheckEnd)
    → ForSome old.files (λ files. CanLoad (rules_of plan) files plan.nodes) → IfErr result (RestHalts plan ticks)
    → IfErr result (HaltsFor old new (λ files fault. IsFound files plan ticks (Fails fault)))
rest_fails old new plan ticks (Ok clocks) can h = tt
rest_fails old new plan ticks (Err (Refused fault)) can h = λ files t. h files (can files t).library (can files t).loaded
rest_fails old new plan ticks (Err Read) can h = absurd h
rest_fails old new plan ticks (Err Memory) can h = tt

-- the loading ends for these ticks
pub load_ends : (old new : ShelfTold) (plan : Plan) (ticks : ℕ) (halt : CheckEnd)
    → HaltsFor old new (λ files fault. (ticks : ℕ) → IsFound files plan ticks (Fails fault)) halt
    → HaltsFor old new (λ files fault. IsFound files plan ticks (Fails fault)) halt
load_ends old new plan ticks (Refused fault) h = λ files t. h files t ticks
load_ends old new plan ticks Read h = h
load_ends old new plan ticks Memory h = tt
