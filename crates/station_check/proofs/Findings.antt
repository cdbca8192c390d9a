-- What is found of a plan is one.
use Rattle.std.proofs.Common.{◌≡◌, ◌∙◌, ℕ, List, Some, None, sym, ap}
use Rattle.std.specs.Prelude.{Ok, Err, Result}
use Rattle.liq_base.specs.Files.{Files}
use Rattle.frame_core.specs.Library.{Sounds, IsLibrary}
use Rattle.plan_core.specs.declared.plan.Plan.{Plan}
use Rattle.plan_core.specs.Plans.{IsWellFormed}
use Rattle.clock_infer.specs.declared.clock_map.ClockMap.{ClockMap}
use Rattle.clock_infer.specs.declared.clock_map.ClockFault.{ClockFault}
use Rattle.track_library.specs.declared.fault.LoadFault.{LoadFault}
use Rattle.track_library.specs.declared.fault.LoadFault.TheVariants.{Missing, BadAudio, FileTooLarge, AllTooLarge, ReadFault, Memory}
use Rattle.stations.specs.declared.fault.StationFault.{StationFault}
use Rattle.stations.specs.declared.fault.StationFault.TheVariants.{FallibleOutput, Clocks, OutputTooLong}
use Rattle.stations.specs.Findings.{Finding, Fits, Fails, IsFileFault, IsFinding, IsFound, IsLoaded, IsSafe, IsUnloaded, IsUnsafe, first_name, is_too_long}
use Rattle.station_check.specs.Steps.{IsUngapped, OnlyCause, OnlyClocks}
use Rattle.station_check.proofs.Firsts.{one_refused}

-- loading gives a library or a fault
loads_both : {X Y : Type 0} (r : Result X Y) (x : X) (y : Y) → r ≡ Ok x → r ≡ Err y → ⊥
loads_both r x y a b = cc

same_ok : {X Y : Type 0} (r : Result X Y) (x y : X) → r ≡ Ok x → r ≡ Ok y → y ≡ x
same_ok r x y a b = cc

same_err : {X Y : Type 0} (r : Result X Y) (x y : Y) → r ≡ Err x → r ≡ Err y → y ≡ x
same_err r x y a b = cc

module _ (files : Files) (plan : Plan) (ticks : ℕ) where
  unloaded : (fault : LoadFault) → IsFileFault files plan fault → IsUnloaded files plan fault
  unloaded (Missing name) h = h
  unloaded (BadAudio name fault) h = h
  unloaded (FileTooLarge name) h = h
  unloaded AllTooLarge h = h
  unloaded (ReadFault name) h = absurd h
  unloaded Memory h = absurd h

  -- an output is refused or none is
  refused_none : IsWellFormed plan → (name : List ℕ) (library : Sounds) → IsUnsafe files plan name → IsSafe files plan library → ⊥
  refused_none well name library unsafe safe =
      let e : Some name ≡ None = sym unsafe.first ∙ one_refused plan unsafe.mark safe.mark well unsafe.marking safe.marking ∙ safe.none in
      cc

  only_file : (fault : LoadFault) → IsUnloaded files plan fault → (other : Finding) → IsFinding files plan ticks other → other ≡ Fails (StationFault.Files fault)
  only_file fault fails (Fits library clocks) h = absurd (loads_both _ _ _ h.clocked.safe.loaded fails)
  only_file fault fails (Fails (StationFault.Files other)) h = ap (λ f. Fails (StationFault.Files f)) (same_err _ _ _ fails (unloaded other h))
  only_file fault fails (Fails (FallibleOutput name)) h = absurd (loads_both _ _ _ h.loaded fails)
  only_file fault fails (Fails (Clocks other)) h = absurd (loads_both _ _ _ h.safe.loaded fails)
  only_file fault fails (Fails (OutputTooLong name)) h = absurd (loads_both _ _ _ h.clocked.safe.loaded fails)

  only_unsafe : IsWellFormed plan → (name : List ℕ) → IsUnsafe files plan name → (other : Finding) → IsFinding files plan ticks other → other ≡ Fails (FallibleOutput name)
  only_unsafe well name unsafe (Fits library clocks) h = absurd (refused_none well name library unsafe h.clocked.safe)
  only_unsafe well name unsafe (Fails (StationFault.Files other)) h = absurd (loads_both _ _ _ unsafe.loaded (unloaded other h))
  only_unsafe well name unsafe (Fails (FallibleOutput other)) h =
      let e : Some other ≡ Some name = sym h.first ∙ one_refused plan h.mark unsafe.mark well h.marking unsafe.marking ∙ unsafe.first in
      let same : other ≡ name = cc in
      ap (λ n. Fails (FallibleOutput n)) same
  only_unsafe well name unsafe (Fails (Clocks other)) h = absurd (refused_none well name h.library unsafe h.safe)
  only_unsafe well name unsafe (Fails (OutputTooLong other)) h = absurd (refused_none well name h.library unsafe h.clocked.safe)

  only_unclocked : IsWellFormed plan → (fault : ClockFault) (library : Sounds) → IsSafe files plan library → OnlyCause plan fault
      → (other : Finding) → IsFinding files plan ticks other → other ≡ Fails (Clocks fault)
  only_unclocked well fault library safe one (Fits other clocks) h = absurd (one.apart clocks h.clocked.map)
  only_unclocked well fault library safe one (Fails (StationFault.Files other)) h = absurd (loads_both _ _ _ safe.loaded (unloaded other h))
  only_unclocked well fault library safe one (Fails (FallibleOutput name)) h = absurd (refused_none well name library h safe)
  only_unclocked well fault library safe one (Fails (Clocks other)) h = ap (λ f. Fails (Clocks f)) (one.only other h.of_plan h.cause)
  only_unclocked well fault library safe one (Fails (OutputTooLong name)) h = absurd (one.apart h.clocks h.clocked.map)

  only_long : IsWellFormed plan → (name : List ℕ) (library : Sounds) (clocks : ClockMap) → IsSafe files plan library → OnlyClocks plan clocks
      → first_name (is_too_long plan ticks) plan.sinks ≡ Some name → (other : Finding) → IsFinding files plan ticks other → other ≡ Fails (OutputTooLong name)
  only_long well name library clocks safe one first (Fits other more) h =
      let e : Some name ≡ None = sym first ∙ h.none in
      absurd cc
  only_long well name library clocks safe one first (Fails (StationFault.Files other)) h = absurd (loads_both _ _ _ safe.loaded (unloaded other h))
  only_long well name library clocks safe one first (Fails (FallibleOutput other)) h = absurd (refused_none well other library h safe)
  only_long well name library clocks safe one first (Fails (Clocks other)) h = absurd (one.apart other h.of_plan h.cause)
  only_long well name library clocks safe one first (Fails (OutputTooLong other)) h =
      let e : Some other ≡ Some name = sym h.first ∙ first in
      let same : other ≡ name = cc in
      ap (λ n. Fails (OutputTooLong n)) same

  only_fits : IsWellFormed plan → (library : Sounds) (clocks : ClockMap) → IsSafe files plan library → OnlyClocks plan clocks
      → first_name (is_too_long plan ticks) plan.sinks ≡ None → (other : Finding) → IsFinding files plan ticks other → other ≡ Fits library clocks
  only_fits well library clocks safe one none (Fits other more) h =
      ap (λ l. Fits l more) (same_ok _ _ _ safe.loaded h.clocked.safe.loaded) ∙ ap (λ m. Fits library m) (one.only more h.clocked.map)
  only_fits well library clocks safe one none (Fails (StationFault.Files other)) h = absurd (loads_both _ _ _ safe.loaded (unloaded other h))
  only_fits well library clocks safe one none (Fails (FallibleOutput other)) h = absurd (refused_none well other library h safe)
  only_fits well library clocks safe one none (Fails (Clocks other)) h = absurd (one.apart other h.of_plan h.cause)
  only_fits well library clocks safe one none (Fails (OutputTooLong other)) h =
      let e : Some other ≡ None = sym h.first ∙ none in
      absurd cc

-- what each step of a check finds
pub found_file : (files : Files) (plan : Plan) (ticks : ℕ) (fault : LoadFault) → IsUnloaded files plan fault → IsFileFault files plan fault
    → IsFound files plan ticks (Fails (StationFault.Files fault))
found_file files plan ticks fault fails holds = record { holds = holds; only = only_file files plan ticks fault fails }

safe_of : (files : Files) (plan : Plan) (library : Sounds) → IsUngapped plan → IsLoaded files plan library → IsSafe files plan library
safe_of files plan library ungapped loaded = record { loaded = loaded; mark = ungapped.mark; marking = ungapped.marking; none = ungapped.none }

pub found_gap : (files : Files) (plan : Plan) (ticks : ℕ) (name : List ℕ) → IsWellFormed plan → IsUnsafe files plan name → IsFound files plan ticks (Fails (FallibleOutput name))
found_gap files plan ticks name well unsafe = record { holds = unsafe; only = only_unsafe files plan ticks well name unsafe }

pub found_cause : (files : Files) (plan : Plan) (ticks : ℕ) (library : Sounds) (fault : ClockFault) → IsWellFormed plan → IsUngapped plan → OnlyCause plan fault
    → IsLoaded files plan library → IsFound files plan ticks (Fails (Clocks fault))
found_cause files plan ticks library fault well ungapped one loaded =
    let safe = safe_of files plan library ungapped loaded in
    record {
      holds = record { library = library; safe = safe; of_plan = one.of_plan; cause = one.cause };
      only = only_unclocked files plan ticks well fault library safe one;
    }

pub found_long : (files : Files) (plan : Plan) (ticks : ℕ) (library : Sounds) (clocks : ClockMap) (name : List ℕ) → IsWellFormed plan → IsUngapped plan
    → OnlyClocks plan clocks → first_name (is_too_long plan ticks) plan.sinks ≡ Some name → IsLoaded files plan library
    → IsFound files plan ticks (Fails (OutputTooLong name))
found_long files plan ticks library clocks name well ungapped one first loaded =
    let safe = safe_of files plan library ungapped loaded in
    record {
      holds = record { library = library; clocks = clocks; clocked = record { safe = safe; map = one.map }; first = first };
      only = only_long files plan ticks well name library clocks safe one first;
    }

pub found_fits : (files : Files) (plan : Plan) (ticks : ℕ) (library : Sounds) (clocks : ClockMap) → IsWellFormed plan → IsUngapped plan
    → OnlyClocks plan clocks → first_name (is_too_long plan ticks) plan.sinks ≡ None → IsLoaded files plan library → IsLibrary library
    → IsFound files plan ticks (Fits library clocks)
found_fits files plan ticks library clocks well ungapped one none loaded sounds =
    let safe = safe_of files plan library ungapped loaded in
    record {
      holds = record { clocked = record { safe = safe; map = one.map }; sounds = sounds; none = none };
      only = only_fits files plan ticks well library clocks safe one none;
    }
