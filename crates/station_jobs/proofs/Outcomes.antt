-- The answers to what is asked for are those of rulings.
use Rattle.std.proofs.Common.{◌≡◌, ℕ, List, refl, sym, ap, ◌∙◌, subst, inl, inr}
use Rattle.std.specs.Prelude.{Option, false, None}
use Rattle.liq_base.specs.Files.{Files}
use Rattle.frame_core.specs.Library.{Sounds}
use Rattle.plan_core.specs.declared.plan.Plan.{Plan}
use Rattle.clock_infer.specs.declared.clock_map.ClockMap.{ClockMap}
use Rattle.stations.specs.Stations.{Again, InRounds, InWindows, Station, Way}
use Rattle.trace_records.specs.Traces.{base_of}
use Rattle.refusal_lines.specs.declared.fault.Fault.{Fault}
use Rattle.station_jobs.specs.Words.{Asked, Check, Make, Render, Rendering, Replay, rendering_by, rendering_of}
use Rattle.station_jobs.specs.Verdicts.{Verdict, Usage, Refused, IsVerdictOn, IsPrepared, IsStation, IsTraceFault, IsWayFor, files_for, station_for, verdict_for, way_in}
use Rattle.station_jobs.specs.Prepared.{Denied, ForEach, ForOne, Found, Granted, IsGranted, IsOneOutcome, IsOneRuling, IsRuling, Lost, Outcome, Ruling, verdict_of}
use Rattle.station_jobs.proofs.Judging.{IsOneTold, IsTold, Tells, Told, Untells}

-- what is granted is a station, and a station was granted
stationed : (asked : Asked) (files : Files) (plan : Plan) (library : Sounds) (clocks : ClockMap) (way : Way) → IsGranted asked files plan library clocks way
    → IsStation asked files (station_for (rendering_of asked) plan library clocks way)
stationed asked files plan library clocks way is = record { prepared = is.prepared; is_way = is.is_way; rest_is = refl }

granted : (asked : Asked) (files : Files) (station : Station) → IsStation asked files station → IsGranted asked files station.plan station.library station.clocks station.way
granted asked files station is = record { prepared = is.prepared; is_way = is.is_way }

-- a ruling's verdict is one
pub answered : (asked : Asked) (files : Files) (ruling : Ruling) → IsRuling asked files ruling → IsVerdictOn asked files (verdict_of asked ruling)
answered asked files (Denied fault) is = inl (fault, refl, is)
answered asked files (Granted plan library clocks way) is =
    inr (station_for (rendering_of asked) plan library clocks way, refl, stationed asked (files_for asked files) plan library clocks way is)

-- a verdict is that of a ruling
record Comes (asked : Asked) (files : Files) (verdict : Verdict) : Type 0 where
  ruling : Ruling
  is : IsRuling asked files ruling
  same : verdict ≡ verdict_of asked ruling

comes : (asked : Asked) (files : Files) (verdict : Verdict) → IsVerdictOn asked files verdict → Comes asked files verdict
comes asked files verdict (inl is) = record { ruling = Denied is.0; is = is.2; same = is.1 }
comes asked files verdict (inr is) =
    let station : Station = is.0 in
    record {
      ruling = Granted station.plan station.library station.clocks station.way;
      is = granted asked (files_for asked files) station is.2;
      same = is.1 ∙ ap (verdict_for asked) is.2.rest_is;
    }

-- what is asked for is not answered by the usage line
no_usage : (asked : Asked) (station : Station) → verdict_for asked station ≡ Usage → ⊥
no_usage (Check file) station same = absurd (cc)
no_usage (Render rendering window) station same = absurd (cc)
no_usage (Make seed size) station same = absurd (cc)
no_usage (Replay file start ticks trace) station same = absurd (cc)

pub not_usage : (asked : Asked) (files : Files) (verdict : Verdict) → IsVerdictOn asked files verdict → verdict ≡ Usage → ⊥
not_usage asked files verdict (inl is) same = absurd (let e : Refused is.0 ≡ Usage = sym is.1 ∙ same in cc)
not_usage asked files verdict (inr is) same = no_usage asked is.0 (sym is.1 ∙ same)

-- so one ruling is one verdict
pub for_one : (asked : Asked) (files : Files) (ruling : Ruling) (P : Verdict → Type 0) → IsOneRuling asked files ruling
    → P (verdict_of asked ruling) → ForOne asked files P
for_one asked files ruling P one p = record {
  verdict = verdict_of asked ruling;
  is_verdict = answered asked files ruling one.holds;
  only = λ other is. let c = comes asked files other is in c.same ∙ ap (verdict_of asked) (one.only c.ruling c.is);
  holds = p;
}

-- what holds of the one verdict holds of each
pub for_each : (asked : Asked) (files : Files) (ruling : Ruling) (P : Verdict → Type 0) → IsOneRuling asked files ruling
    → P (verdict_of asked ruling) → ForEach asked files P
for_each asked files ruling P one p verdict is =
    let c = comes asked files verdict is in subst P (sym (c.same ∙ ap (verdict_of asked) (one.only c.ruling c.is))) p

-- An outcome of the script is the ruling where the way rests on the words alone.
pub record IsPlain (asked : Asked) (way : Way) : Type 0 where
  is : (files : Files) (plan : Plan) (library : Sounds) (clocks : ClockMap) → IsWayFor asked files plan library clocks way
  only : (files : Files) (plan : Plan) (library : Sounds) (clocks : ClockMap) (other : Way) → IsWayFor asked files plan library clocks other → other ≡ way
  told : (files : Files) (fault : Fault) → IsTraceFault asked files fault → ⊥

pub check_plain : (file : List ℕ) → IsPlain (Check file) InRounds
check_plain file = record { is = λ files plan library clocks. refl; only = λ files plan library clocks other is. is; told = λ files fault is. is }

pub render_plain : (rendering : Rendering) (window : Option ℕ) → IsPlain (Render rendering window) (way_in window)
render_plain rendering window =
    record { is = λ files plan library clocks. refl; only = λ files plan library clocks other is. is; told = λ files fault is. is }

pub make_plain : (seed size : ℕ) → IsPlain (Make seed size) (InWindows 16)
make_plain seed size = record { is = λ files plan library clocks. refl; only = λ files plan library clocks other is. is; told = λ files fault is. is }

-- the outcome of the script of what is asked for
abbrev pub IsOneFor : Asked → Files → Outcome → Type 0
IsOneFor asked files outcome = IsOneOutcome (files_for asked files) (rendering_of asked) outcome

abbrev ruling_by : Way → Outcome → Ruling
ruling_by way (Found plan library clocks) = Granted plan library clocks way
ruling_by way (Lost fault) = Denied fault

-- the trace of a script that has a fault is not looked at
record IsLookedAt (asked : Asked) (files : Files) : Type 0 where
  plan : Plan
  library : Sounds
  clocks : ClockMap
  prepared : IsPrepared (files_for asked files) (rendering_of asked) plan library clocks

looked_at : (asked : Asked) (files : Files) (fault : Fault) → IsTraceFault asked files fault → IsLookedAt asked files
looked_at (Check file) files fault is = absurd is
looked_at (Render rendering window) files fault is = absurd is
looked_at (Make seed size) files fault is = absurd is
looked_at (Replay file start ticks trace) files fault is = record { plan = is.plan; library = is.library; clocks = is.clocks; prepared = is.prepared }

not_lost : {P : Type 0} (plan : Plan) (library : Sounds) (clocks : ClockMap) (fault : Fault) → Found plan library clocks ≡ Lost fault → P
not_lost plan library clocks fault same = absurd (cc)

pub lost_ruled : (asked : Asked) (files : Files) (fault : Fault) → IsOneFor asked files (Lost fault) → IsOneRuling asked files (Denied fault)
lost_ruled asked files fault one = record { holds = inl one.holds; only = only } where
  only : (other : Ruling) → IsRuling asked files other → other ≡ Denied fault
  only (Granted plan library clocks way) is = not_lost plan library clocks fault (one.only (Found plan library clocks) is.prepared)
  only (Denied other) (inl is) = ap (ruling_by InRounds) (one.only (Lost other) is)
  only (Denied other) (inr is) =
      let at = looked_at asked files other is in not_lost at.plan at.library at.clocks fault (one.only (Found at.plan at.library at.clocks) at.prepared)

pub plain_ruled : (asked : Asked) (way : Way) → IsPlain asked way → (files : Files) (plan : Plan) (library : Sounds) (clocks : ClockMap) → IsOneFor asked files (Found plan library clocks)
    → IsOneRuling asked files (Granted plan library clocks way)
plain_ruled asked way plain files plan library clocks one =
    record { holds = record { prepared = one.holds; is_way = plain.is (files_for asked files) plan library clocks }; only = only } where
      only : (other : Ruling) → IsRuling asked files other → other ≡ Granted plan library clocks way
      only (Granted p l c w) is =
          ap (ruling_by w) (one.only (Found p l c) is.prepared) ∙ ap (Granted plan library clocks) (plain.only (files_for asked files) p l c w is.is_way)
      only (Denied other) (inl is) = not_lost plan library clocks other (sym (one.only (Lost other) is))
      only (Denied other) (inr is) = absurd (plain.told files other is)

-- what is found of the trace of a replay is its ruling
abbrev pub ruling_told : Plan → Sounds → ClockMap → Told → Ruling
ruling_told plan library clocks (Tells trace) = Granted plan library clocks (Again trace)
ruling_told plan library clocks (Untells fault) = Denied (Fault.Replay fault)

module _ (file : List ℕ) (start ticks : ℕ) (trace : List ℕ) (files : Files) where
  -- of the trace of an outcome this is found
  abbrev IsToldOf : Outcome → Told → Type 0
  IsToldOf (Found plan library clocks) told = IsTold files trace (base_of plan library clocks start) clocks.running ticks told
  IsToldOf (Lost fault) told = ⊥

  module _ (plan : Plan) (library : Sounds) (clocks : ClockMap) (one : IsOneOutcome files (rendering_by file start ticks None false) (Found plan library clocks)) where
    rules : (told : Told) → IsTold files trace (base_of plan library clocks start) clocks.running ticks told → IsRuling (Replay file start ticks trace) files (ruling_told plan library clocks told)
    rules (Tells value) is = record { prepared = one.holds; is_way = record { trace = value; fitting = is; way_is = refl } }
    rules (Untells fault) is = inr (record { plan = plan; library = library; clocks = clocks; prepared = one.holds; untold = fault; fault_is = refl; is_fault = is })

    module _ (told : Told) (is_told : IsOneTold files trace (base_of plan library clocks start) clocks.running ticks told) where
      only : (other : Ruling) → IsRuling (Replay file start ticks trace) files other → other ≡ ruling_told plan library clocks told
      only (Granted p l c w) is =
          let same = one.only (Found p l c) is.prepared in
          ap (ruling_by w) same ∙ ap (Granted plan library clocks) is.is_way.way_is
          ∙ ap (ruling_told plan library clocks) (is_told.only (Tells is.is_way.trace) (subst (λ o. IsToldOf o (Tells is.is_way.trace)) same is.is_way.fitting))
      only (Denied other) (inl is) = not_lost plan library clocks other (sym (one.only (Lost other) is))
      only (Denied other) (inr is) =
          let same = one.only (Found is.plan is.library is.clocks) is.prepared in
          ap Denied is.fault_is ∙ ap (ruling_told plan library clocks) (is_told.only (Untells is.untold) (subst (λ o. IsToldOf o (Untells is.untold)) same is.is_fault))

      pub replay_ruled : IsOneRuling (Replay file start ticks trace) files (ruling_told plan library clocks told)
      replay_ruled = record { holds = rules told is_told.holds; only = only }
