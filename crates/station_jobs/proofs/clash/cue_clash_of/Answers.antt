use Rattle.std.proofs.Common.{◌∙◌, ap}
use Rattle.std.specs.List.{list_any}
use Rattle.stations.specs.Cues.{cue_name}
use Rattle.station_jobs.specs.Verdicts.{has_name}
use Rattle.station_jobs.proofs.Clashing.{found_free, found_taken}
use Rattle.station_jobs.proofs.clash.cue_clash_of.Goals as goal

pub returns-then-not-is_output : goal.returns-then-not-is_output
returns-then-not-is_output c =
    let file = c.as_str-2.ensures.same ∙ c.from_string-file.ensures.held ∙ c.in_ok-own.ensures ∙ ap cue_name c.as_str.ensures.same in
    rw c.in-Output.is (found_free (cue_name c.in-Output.name) c.is_output.result _ c.if-not-is_output.true
    (c.is_output.ensures ∙ ap (λ name. list_any (has_name name) c.args.plan.now.sinks) file))

pub returns : goal.returns
returns c =
    let file = c.from_string-file.ensures.held ∙ c.in_ok-own.ensures ∙ ap cue_name c.as_str.ensures.same in
    rw c.in-Output.is (found_taken c.from_string-file.result (cue_name c.in-Output.name) c.is_output.result _ c.if-not-is_output.false
    (c.is_output.ensures ∙ ap (λ name. list_any (has_name name) c.args.plan.now.sinks) (c.as_str-2.ensures.same ∙ file)) file)
