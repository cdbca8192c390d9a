use Rattle.std.proofs.Common.{◌≢◌, ◌≡◌, ◌∙◌, ◌++◌, ℕ, List, sym}
use Rattle.std.specs.Prelude.{codes}
use Rattle.std.proofs.lemmas.Bool.Decides.{Decides-eqb}
use Rattle.std.proofs.lemmas.Slice.Eq.{slice_eq-Decides, strip_suffix_is}
use Rattle.station_jobs.proofs.Clashing.{ends_otherwise, ends_so}
use Rattle.station_jobs.proofs.clash.is_cue_file.Goals as goal

pub returns-in-Some : goal.returns-in-Some
returns-in-Some c =
    let stripped = strip_suffix_is Decides-eqb c.as_bytes.result.now (codes ".cue") c.strip_suffix.result c.strip_suffix.ensures.cases in
    let is : c.args.name.now ≡ c.in-Some.front.now ++ codes ".cue" = sym c.as_bytes.ensures.value ∙ rw c.in-Some.is at stripped in
    ends_so c.args.name.now c.args.output.now c.in-Some.front.now c.eq.result is
    (slice_eq-Decides Decides-eqb c.in-Some.front.now c.args.output.now c.eq.result (rw c.as_bytes-in-Some.ensures.value at c.eq.ensures))

pub returns-in-None : goal.returns-in-None
returns-in-None c =
    let stripped = strip_suffix_is Decides-eqb c.as_bytes.result.now (codes ".cue") c.strip_suffix.result c.strip_suffix.ensures.cases in
    let none : (front : List ℕ) → c.as_bytes.result.now ≢ front ++ codes ".cue" = rw c.in-None.is at stripped in
    ends_otherwise c.args.name.now c.args.output.now (λ front is. none front (c.as_bytes.ensures.value ∙ is))
