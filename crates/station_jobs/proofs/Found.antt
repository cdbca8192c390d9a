-- A script has one outcome and no other.
use Rattle.std.proofs.Common.{◌≡◌, ◌<◌, ℕ, Bool, List, length, refl, sym, ap, ◌∙◌, subst}
use Rattle.std.specs.Prelude.{Option, Some, None, IsSomeAnd}
use Rattle.liq_base.specs.Files.{Files, file_at}
use Rattle.plan_core.specs.declared.plan.Plan.{Plan}
use Rattle.script_plan.specs.declared.fault.ScriptFault.{ScriptFault}
use Rattle.script_plan.specs.Plans.{IsPlan, IsPlanFault}
use Rattle.stations.specs.Findings.{Fails, Finding, Fits, IsRenderable, IsFinding, IsFound, IsStationFault}
use Rattle.refusal_lines.specs.declared.fault.Fault.{Fault}
use Rattle.refusal_lines.specs.declared.fault.Fault.TheVariants.{NoScript, Script, SameFile}
use Rattle.station_jobs.specs.Verdicts.{HasPlan, clash_of}
use Rattle.station_jobs.specs.Words.{Rendering}
use Rattle.station_jobs.specs.Prepared.{Found, IsOneOutcome, IsOutcome, Lost, Outcome}

-- a text has one plan or one fault
pub record ScriptLaws : Type 0 where
  pub plan : (text : List ℕ) (p q : Plan) → IsPlan text p → IsPlan text q → p ≡ q
  pub apart : (text : List ℕ) (p : Plan) (f : ScriptFault) → IsPlan text p → IsPlanFault text f → ⊥
  pub fault : (text : List ℕ) (f g : ScriptFault) → IsPlanFault text f → IsPlanFault text g → f ≡ g

-- a file that is there is the one
same_file : (held : Option (List ℕ)) (one other : List ℕ) → held ≡ Some one → held ≡ Some other → other ≡ one
same_file held one other is at = let e : Some one ≡ Some other = sym is ∙ at in (cc)

not_there : (held : Option (List ℕ)) (one : List ℕ) → held ≡ None → held ≡ Some one → ⊥
not_there held one none is = let e : None ≡ Some one = sym none ∙ is in (cc)

-- a rendering has a name for two files, or has none
both_ways : (plan other : Plan) (trace : Option (List ℕ)) (cues : Bool) (name : List ℕ) → other ≡ plan → clash_of plan trace cues ≡ Some name → clash_of other trace cues ≡ None → ⊥
both_ways plan other trace cues name same clash apart = not_there (clash_of other trace cues) name apart (ap (λ (p : Plan). clash_of p trace cues) same ∙ clash)

-- there is no script
pub no_script : (files : Files) (rendering : Rendering) → file_at files rendering.file ≡ None → IsOneOutcome files rendering (Lost NoScript)
no_script files rendering none = record { holds = none; only = only } where
  only : (other : Outcome) → IsOutcome files rendering other → other ≡ Lost NoScript
  only (Found plan library clocks) is = absurd (not_there (file_at files rendering.file) is.has_plan.script none is.has_plan.there)
  only (Lost NoScript) is = refl
  only (Lost (Script fault)) is = absurd (not_there (file_at files rendering.file) is.script none is.there)
  only (Lost (SameFile name)) is = absurd (not_there (file_at files rendering.file) is.has_plan.script none is.has_plan.there)
  only (Lost (Fault.Station fault)) is = absurd (not_there (file_at files rendering.file) is.has_plan.script none is.has_plan.there)
  only (Lost (Fault.Replay fault)) is = absurd is

-- the script has a fault
module _ (laws : ScriptLaws) (files : Files) (rendering : Rendering) (text : List ℕ) (there : file_at files rendering.file ≡ Some text) where
  plan_there : (plan : Plan) → HasPlan files rendering.file plan → IsPlan text plan
  plan_there plan has = subst (λ t. IsPlan t plan) (same_file (file_at files rendering.file) text has.script there has.there) has.is_plan

  script_only : (fault : ScriptFault) → IsPlanFault text fault → (other : Outcome) → IsOutcome files rendering other → other ≡ Lost (Script fault)
  script_only fault told (Found plan library clocks) is = absurd (laws.apart text plan fault (plan_there plan is.has_plan) told)
  script_only fault told (Lost NoScript) is = absurd (not_there (file_at files rendering.file) text is there)
  script_only fault told (Lost (Script other)) is =
      ap (λ f. Lost (Script f)) (laws.fault text other fault (subst (λ t. IsPlanFault t other) (same_file (file_at files rendering.file) text is.script there is.there) is.is_fault) told)
  script_only fault told (Lost (SameFile name)) is = absurd (laws.apart text is.plan fault (plan_there is.plan is.has_plan) told)
  script_only fault told (Lost (Fault.Station other)) is = absurd (laws.apart text is.plan fault (plan_there is.plan is.has_plan) told)
  script_only fault told (Lost (Fault.Replay other)) is = absurd is

  pub script_has : (fault : ScriptFault) → IsPlanFault text fault → IsOneOutcome files rendering (Lost (Script fault))
  script_has fault told = record { holds = record { script = text; there = there; is_fault = told }; only = script_only fault told }

  -- the script has this plan
  module _ (plan : Plan) (is_plan : IsPlan text plan) where
    same_plan : (other : Plan) → HasPlan files rendering.file other → other ≡ plan
    same_plan other has = laws.plan text other plan (plan_there other has) is_plan

    has_this : HasPlan files rendering.file plan
    has_this = record { script = text; there = there; is_plan = is_plan }

    no_fault : {P : Type 0} (fault : ScriptFault) (script : List ℕ) → file_at files rendering.file ≡ Some script → IsPlanFault script fault → P
    no_fault fault script at told =
        absurd (laws.apart text plan fault is_plan (subst (λ t. IsPlanFault t fault) (same_file (file_at files rendering.file) text script there at) told))

    -- two files of its rendering would have one name
    clash_only : (name : List ℕ) → clash_of plan rendering.trace rendering.cues ≡ Some name → (other : Outcome) → IsOutcome files rendering other → other ≡ Lost (SameFile name)
    clash_only name clash (Found other library clocks) is = absurd (both_ways plan other rendering.trace rendering.cues name (same_plan other is.has_plan) clash is.apart)
    clash_only name clash (Lost NoScript) is = absurd (not_there (file_at files rendering.file) text is there)
    clash_only name clash (Lost (Script fault)) is = no_fault fault is.script is.there is.is_fault
    clash_only name clash (Lost (SameFile other)) is =
        ap (λ n. Lost (SameFile n)) (same_file (clash_of plan rendering.trace rendering.cues) name other clash (ap (λ (p : Plan). clash_of p rendering.trace rendering.cues) (sym (same_plan is.plan is.has_plan)) ∙ is.clash))
    clash_only name clash (Lost (Fault.Station fault)) is = absurd (both_ways plan is.plan rendering.trace rendering.cues name (same_plan is.plan is.has_plan) clash is.apart)
    clash_only name clash (Lost (Fault.Replay fault)) is = absurd is

    pub clash_has : (name : List ℕ) → clash_of plan rendering.trace rendering.cues ≡ Some name → IsOneOutcome files rendering (Lost (SameFile name))
    clash_has name clash = record { holds = record { plan = plan; has_plan = has_this; clash = clash }; only = clash_only name clash }

    -- all its files have names of their own
    module _ (apart : clash_of plan rendering.trace rendering.cues ≡ None) where
      abbrev outcome_by : Finding → Outcome
      outcome_by (Fits library clocks) = Found plan library clocks
      outcome_by (Fails fault) = Lost (Fault.Station fault)

      -- an outcome of this script is what is found of its plan
      record By (outcome : Outcome) : Type 0 where
        finding : Finding
        is : IsFinding files plan rendering.ticks finding
        same : outcome ≡ outcome_by finding

      by : (outcome : Outcome) → IsOutcome files rendering outcome → By outcome
      by (Found other library clocks) is =
          let e = same_plan other is.has_plan in
          record { finding = Fits library clocks; is = subst (λ p. IsRenderable files p rendering.ticks library clocks) e is.renderable; same = ap (λ p. Found p library clocks) e }
      by (Lost NoScript) is = absurd (not_there (file_at files rendering.file) text is there)
      by (Lost (Script fault)) is = no_fault fault is.script is.there is.is_fault
      by (Lost (SameFile name)) is = absurd (both_ways is.plan plan rendering.trace rendering.cues name (sym (same_plan is.plan is.has_plan)) is.clash apart)
      by (Lost (Fault.Station fault)) is =
          record { finding = Fails fault; is = subst (λ p. IsStationFault files p rendering.ticks fault) (same_plan is.plan is.has_plan) is.is_fault; same = refl }
      by (Lost (Fault.Replay fault)) is = absurd is

      holds : (finding : Finding) → IsFinding files plan rendering.ticks finding → IsOutcome files rendering (outcome_by finding)
      holds (Fits library clocks) is = record { has_plan = has_this; apart = apart; renderable = is }
      holds (Fails fault) is = record { plan = plan; has_plan = has_this; apart = apart; is_fault = is }

      plan_found : (finding : Finding) → IsFound files plan rendering.ticks finding → IsOneOutcome files rendering (outcome_by finding)
      plan_found finding found = record {
        holds = holds finding found.holds;
        only = λ other is. let b = by other is in b.same ∙ ap outcome_by (found.only b.finding b.is);
      }

-- what is found of the plan of a script is the script's outcome
abbrev pub outcome_with : Plan → Finding → Outcome
outcome_with plan (Fits library clocks) = Found plan library clocks
outcome_with plan (Fails fault) = Lost (Fault.Station fault)

pub plan_outcome : (laws : ScriptLaws) (files : Files) (rendering : Rendering) (plan : Plan) → HasPlan files rendering.file plan
    → clash_of plan rendering.trace rendering.cues ≡ None → (finding : Finding) → IsFound files plan rendering.ticks finding → IsOneOutcome files rendering (outcome_with plan finding)
plan_outcome laws files rendering plan has apart (Fits library clocks) found =
    plan_found laws files rendering has.script has.there plan has.is_plan apart (Fits library clocks) found
plan_outcome laws files rendering plan has apart (Fails fault) found =
    plan_found laws files rendering has.script has.there plan has.is_plan apart (Fails fault) found

-- a script that is too long has this fault
pub too_long : (laws : ScriptLaws) (files : Files) (rendering : Rendering) (most : ℕ) (fault : ScriptFault)
    → ((text : List ℕ) → most < length text → IsPlanFault text fault)
    → (held : Option (List ℕ)) → file_at files rendering.file ≡ held → IsSomeAnd held (λ text. most < length text) → IsOneOutcome files rendering (Lost (Script fault))
too_long laws files rendering most fault f None is long = absurd long
too_long laws files rendering most fault f (Some text) is long = script_has laws files rendering text is fault (f text long)
