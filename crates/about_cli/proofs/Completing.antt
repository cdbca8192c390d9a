-- Which status comes where nothing failed.
use Rattle.std.proofs.Common.{◌≡◌, ◌≢◌, ◌≤◌, ℕ, zero, suc, List, refl, sym, ap, ◌∙◌, subst, arith, ◌⊎◌, inl, inr}
use Rattle.std.specs.Prelude.{Option, Some, None, IsSomeAnd}
use Rattle.liq_base.specs.Counts.{Rose}
use Rattle.liq_base.specs.Files.{Files as FileMap, file_at}
use Rattle.liq_base.specs.Shelves.{OnlyRead, ShelfTold}
use Rattle.plan_core.specs.declared.plan.Plan.{Plan}
use Rattle.script_plan.specs.Plans.{IsPlan, IsPlanFault}
use Rattle.script_plan.specs.Sources.{HasSources}
use Rattle.script_plan.specs.declared.fault.ScriptFault.{ScriptFault}
use Rattle.about_cli.specs.Ends.{Answers, Calm, Comes, Completes, CompletesFor, Ends, Holds, IsComplete, Outside, Passed, Told, UsageSaid}
use Rattle.about_cli.specs.Told.{HasNoPlan, Tells}
use Rattle.about_cli.specs.Words.{AsksFor, HasNoForm}
use Rattle.about_cli.specs.declared.verb.Question.{Question}
use Rattle.about_cli.specs.declared.verb.Question.TheVariants.{Week, Picture, Files, Hours, Tokens}
use Rattle.about_cli.specs.declared.verb.Verb.{Verb}
use Rattle.about_cli.specs.declared.verb.Verb.TheVariants.{Where, Tell}
use Rattle.about_cli.proofs.Telling.{ends_asked}

-- the laws of plans that this rests on
abbrev Apart : Type 0
Apart = (text : List ℕ) (p : Plan) (f : ScriptFault) → IsPlan text p → IsPlanFault text f → ⊥

abbrev Planned : Type 0
Planned = (text : List ℕ) (p : Plan) (calls : List ℕ) → HasSources text p calls → IsPlan text p

by_status : {P : Type 0} (status : ℕ) → status ≤ 5 → (status ≡ 0 → P) → (status ≡ 1 → P) → (status ≡ 2 → P) → (status ≡ 3 → P) → (status ≡ 4 → P)
    → (status ≡ 5 → P) → P
by_status zero low a b c d e f = a refl
by_status (suc zero) low a b c d e f = b refl
by_status (suc (suc zero)) low a b c d e f = c refl
by_status (suc (suc (suc zero))) low a b c d e f = d refl
by_status (suc (suc (suc (suc zero)))) low a b c d e f = e refl
by_status (suc (suc (suc (suc (suc zero))))) low a b c d e f = f refl
by_status (suc (suc (suc (suc (suc (suc n)))))) low a b c d e f = absurd (omega (arith, low))

holds_there : (shelf : ShelfTold) (file : List ℕ) (P : List ℕ → Type 0) (files : FileMap) (found : Option (List ℕ)) → shelf.files ≡ Some files
    → file_at files file ≡ found → Holds shelf file P → IsSomeAnd found P
holds_there shelf file P files found told is h = subst (λ (o : Option (List ℕ)). IsSomeAnd o P) is (h files told)

-- what needs a plan is told of a text that has one
tells_plan : Planned → (question : Question) (text : List ℕ) (a b : ShelfTold) (told : List ℕ) → question ≢ Tokens → Tells question text a b told
    → (plan : Plan) × IsPlan text plan
tells_plan planned Week text a b told other is = (is.plan, is.is_plan)
tells_plan planned Picture text a b told other is = (is.plan, is.is_plan)
tells_plan planned Files text a b told other is = (is.plan, planned text is.plan is.calls is.sources)
tells_plan planned Hours text a b told other is = (is.plan, planned text is.plan is.calls is.sources)
tells_plan planned Tokens text a b told other is = absurd (other refl)

no_read : (files : FileMap) (file : List ℕ) (a b : ShelfTold) (text : List ℕ) → a.files ≡ Some files → file_at files file ≡ Some text
    → (Rose a.reads b.reads → ⊥) → Rose a.reads b.reads ⊎ ((fs : FileMap) → a.files ≡ Some fs → file_at fs file ≡ None) → ⊥
no_read files file a b text told is calm (inl rose) = calm rose
no_read files file a b text told is calm (inr none) = (let gone = none files told in cc)

completes : Apart → Planned → (question : Question) (file : List ℕ) (old new : Outside) (status : ℕ) (files : FileMap) (text : List ℕ) → Calm old new
    → old.scripts.files ≡ Some files → file_at files file ≡ Some text
    → Told question file old.scripts new.scripts old.shelf new.shelf old.out new.out status → Completes question text status
completes apart planned question file old new status files text calm told is all =
    let no_three : status ≡ 3 → ⊥ = λ at. no_read files file old.scripts new.scripts text told is calm.scripts (all.unread at).0 in
    let no_four : status ≡ 4 → ⊥ = λ at. calm.out (all.unwritten at).part.rose in
    let none : status ≡ 1 → HasNoPlan text = λ at. holds_there old.scripts file HasNoPlan files (Some text) told is (all.no_plan at).1 in
    record {
      tokens = λ asked. by_status status all.is_status (λ at. inl at) (λ at. absurd ((all.no_plan at).0 asked)) (λ at. absurd (all.no_usage at))
          (λ at. absurd (no_three at)) (λ at. absurd (no_four at)) (λ at. inr at);
      planned = λ plan has. by_status status all.is_status (λ at. inl at) (λ at. let no = none at in absurd (apart text plan no.cause has no.is_fault))
          (λ at. absurd (all.no_usage at)) (λ at. absurd (no_three at)) (λ at. absurd (no_four at)) (λ at. inr at);
      unplanned = λ other no. by_status status all.is_status
          (λ at. let said = all.done at in
          let plan = tells_plan planned question text old.shelf new.shelf said.told other
          (holds_there old.scripts file (λ t. Tells question t old.shelf new.shelf said.told) files (Some text) told is said.is) in
          absurd (apart text plan.0 no.cause plan.1 no.is_fault))
          (λ at. inl at) (λ at. absurd (all.no_usage at)) (λ at. absurd (no_three at)) (λ at. absurd (no_four at)) (λ at. inr at);
    }

-- a file that is not there
missing : (question : Question) (file : List ℕ) (old new : Outside) (status : ℕ) (files : FileMap) → Calm old new → old.scripts.files ≡ Some files
    → file_at files file ≡ None → Told question file old.scripts new.scripts old.shelf new.shelf old.out new.out status → Comes 3 status
missing question file old new status files calm told is all =
    by_status status all.is_status
    (λ at. let said = all.done at in
    absurd (holds_there old.scripts file (λ t. Tells question t old.shelf new.shelf said.told) files None told is said.is))
    (λ at. absurd (holds_there old.scripts file HasNoPlan files None told is (all.no_plan at).1))
    (λ at. absurd (all.no_usage at)) (λ at. inl at) (λ at. absurd (calm.out (all.unwritten at).part.rose)) (λ at. inr at)

completes_for : Apart → Planned → (question : Question) (file : List ℕ) (old new : Outside) (status : ℕ) (files : FileMap) (found : Option (List ℕ))
    → Calm old new → old.scripts.files ≡ Some files → file_at files file ≡ found
    → Told question file old.scripts new.scripts old.shelf new.shelf old.out new.out status → CompletesFor question found status
completes_for apart planned question file old new status files None calm told is all = missing question file old new status files calm told is all
completes_for apart planned question file old new status files (Some text) calm told is all =
    completes apart planned question file old new status files text calm told is all

shown_for : (file : List ℕ) (input : Option (List ℕ)) (old new : Outside) (status : ℕ) → Calm old new
    → Passed file old.scripts new.scripts input old.out new.out status → (status ≡ 0) ⊎ (status ≡ 3) ⊎ (status ≡ 5)
shown_for file input old new status calm all =
    by_status status all.is_status (λ at. inl at) (λ at. absurd (all.no_plan at)) (λ at. absurd (all.no_usage at)) (λ at. inr (inl at))
    (λ at. absurd (calm.out ((all.unwritten at).broke_off.cause refl))) (λ at. inr (inr at))

usage_for : (old new : Outside) (status : ℕ) → Calm old new → UsageSaid old new status → status ≡ 2
usage_for old new status calm said =
    elim said.said [
      | inl whole ↦ whole.0
      | inr part ↦ absurd (calm.err part.1.rose)
    ]

complete_of : Apart → Planned → (words : List (List ℕ)) (input : Option (List ℕ)) (old new : Outside) (status : ℕ)
    → Ends words input old new status → IsComplete words old new status
complete_of apart planned words input old new status ends = record {
  told = λ calm question file asks files told.
      completes_for apart planned question file old new status files (file_at files file) calm told refl (ends.asked (Tell question) file asks).0;
  shown = λ calm file asks. shown_for file input old new status calm (ends.asked Where file asks).0.0;
  usage = λ calm none. usage_for old new status calm (ends.usage none);
}

pub complete_asked : Apart → Planned → (words : List (List ℕ)) (input : Option (List ℕ)) (verb : Verb) (file : List ℕ) (old new : Outside) (status : ℕ)
    → AsksFor words verb file → OnlyRead old.scripts new.scripts → OnlyRead old.shelf new.shelf → new.err ≡ old.err → Answers verb file input old new status
    → IsComplete words old new status
complete_asked apart planned words input verb file old new status asks scripts shelf err answers =
    complete_of apart planned words input old new status (ends_asked words input verb file old new status asks scripts shelf err answers)

pub complete_usage : (words : List (List ℕ)) (old new : Outside) (status : ℕ) → HasNoForm words → UsageSaid old new status → IsComplete words old new status
complete_usage words old new status none said = record {
  told = λ calm question file asks. absurd (none (Tell question) file asks);
  shown = λ calm file asks. absurd (none Where file asks);
  usage = λ calm no. usage_for old new status calm said;
}
