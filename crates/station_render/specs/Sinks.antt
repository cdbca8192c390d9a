-- The sinks of the outputs that were created, clock by clock.
use Rattle.std.specs.Prelude.{◌≡◌, ◌⊎◌, ◌<◌, ◌≤◌, ◌+◌, ℕ, suc, List, [], ◌∷◌, ◌++◌, Some, Vec, length, map, nat_eq, slice_get, if◌then◌else◌, vec_len, vec_capacity}
use Rattle.std.specs.List.{AllZip, slice_set}
use Rattle.std.specs.declared.alloc.Global.{Global}
use Rattle.liq_base.specs.Pieces.{IsPrefix, SinkTold}
use Rattle.stations.specs.Outputs.{OutputFile, OutputPart}

-- The items of clock m, in their order. The list of numbers has, for each item of the other list, the clock to which
-- it belongs.
abbrev pub of_clock : {Y : Type 0} → (m : ℕ) → List ℕ → List Y → List Y
of_clock m [] ys = []
of_clock m (c ∷ cs) [] = []
of_clock m (c ∷ cs) (y ∷ ys) = if nat_eq c m then y ∷ of_clock m cs ys else of_clock m cs ys

-- how many outputs clock m has: how often its number stands in a list with the clock of each output
abbrev pub count_of : (m : ℕ) → List ℕ → ℕ
count_of m [] = 0
count_of m (c ∷ cs) = if nat_eq c m then suc (count_of m cs) else count_of m cs

-- vectors as plain lists, such as the sinks of each clock
abbrev pub lists_of : {S : Type 0} → List (Vec S Global) → List (List S)
lists_of groups = map (λ group. group.items) groups

-- each number in the list is that of a clock: it is less than the count `clocks`
abbrev pub AreBelow : (clocks : ℕ) → List ℕ → Type 0
AreBelow clocks order = (k clock : ℕ) → slice_get order k ≡ Some clock → clock < clocks

-- Each item of `ys`, such as an output of a plan, has a sink among those of its clock, and `So` relates the two.
-- `order` has the clock of each item, and `groups` the sinks of each clock, in the order of the items.
pub record AreCreated {Y S : Type 0} (So : Y → S
    → Type 0) (ys : List Y) (order : List ℕ) (groups : List (List S)) : Type 0 where
  pub size : length ys ≡ length order
  pub below : AreBelow (length groups) order
  pub each : (m : ℕ) (group : List S) → slice_get groups m ≡ Some group → AllZip So (of_clock m order ys) group

-- Each clock has as many sinks as outputs. `order` has the clock of each output, and `groups` the sinks of each clock.
pub record HaveSizes {S : Type 0} (order : List ℕ) (groups : List (List S)) : Type 0 where
  pub below : AreBelow (length groups) order
  pub each : (m : ℕ) (group : List S) → slice_get groups m ≡ Some group → length group ≡ count_of m order

-- the list of sinks of each clock is empty
abbrev pub AreAllEmpty : {S : Type 0} → List (List S) → Type 0
AreAllEmpty groups = (m : ℕ) (group : List _) → slice_get groups m ≡ Some group → group ≡ []

-- `groups` has a list of sinks for each of so many clocks, and all these lists are empty
pub record AreEmpty {S : Type 0} (clocks : ℕ) (groups : List (List S)) : Type 0 where
  pub size : length groups ≡ clocks
  pub each : AreAllEmpty groups

-- The list of sinks of this clock has room for one more, without new memory. `groups` has such a list for each clock.
pub record HasPlace {S : Type 0} (clock : ℕ) (groups : List (Vec S Global)) : Type 0 where
  pub room : (group : Vec S Global) → slice_get groups clock ≡ Some group → vec_len group + 1 ≤ vec_capacity group

-- This sink was added at the end of its clock's list, and the other clocks' lists stay. `old` and `new` have the lists
-- of all clocks before and after.
pub record WasAdded {S : Type 0} (clock : ℕ) (sink : S) (old new : List (List S)) : Type 0 where
  pub before : List S
  pub was : slice_get old clock ≡ Some before
  pub is : new ≡ slice_set old clock (before ++ sink ∷ [])

-- This sink, the first of a clock, was taken out of its list, and the other clocks' lists stay. `old` and `new` have
-- the lists of all clocks before and after.
pub record WasTaken {S : Type 0} (clock : ℕ) (old : List (List S)) (sink : S) (new : List (List S)) : Type 0 where
  pub rest : List S
  pub was : slice_get old clock ≡ Some (sink ∷ rest)
  pub is : new ≡ slice_set old clock rest

-- a sink has the name of this file, and holds all its bytes
pub record HoldsWhole (output : OutputFile) (sink : SinkTold) : Type 0 where
  pub named : sink.name ≡ Some output.name
  pub holds : sink.held ≡ Some output.bytes

-- a sink has the name of this file, and holds a beginning of its bytes: maybe none, maybe all
pub record HoldsPart (output : OutputFile) (sink : SinkTold) : Type 0 where
  pub named : sink.name ≡ Some output.name
  pub part : List ℕ
  pub holds : sink.held ≡ Some part
  pub front : IsPrefix part output.bytes

-- A sink has the name of this output and holds a beginning of its bytes `most`. It holds at least its bytes `least`,
-- unless the sink failed.
pub record HoldsFront (output : OutputPart) (sink : SinkTold) : Type 0 where
  pub named : sink.name ≡ Some output.name
  pub part : List ℕ
  pub holds : sink.held ≡ Some part
  pub most : IsPrefix part output.most
  pub least : IsPrefix output.least part ⊎ (0 < sink.faults)

-- Some sink of some clock has failed: its count of failed writes is above 0. `groups` has the sinks of each clock, and
-- `told` says what a sink tells.
pub record HasFailed {S : Type 0} (told : S → SinkTold) (groups : List (List S)) : Type 0 where
  pub clock : ℕ
  pub place : ℕ
  pub group : List S
  pub sink : S
  pub there : slice_get groups clock ≡ Some group
  pub stands : slice_get group place ≡ Some sink
  pub failed : 0 < (told sink).faults
