-- The marks of outputs, output by output.
use Rattle.std.proofs.Common.{◌≡◌, ◌+◌, ◌∙◌, ◌++◌, ℕ, Bool, List, [], ◌∷◌, map, take, slice_get, refl, ap, sym, add-one}
use Rattle.std.specs.Prelude.{Some, Vec}
use Rattle.std.specs.declared.alloc.Global.{Global}
use Rattle.std.proofs.lemmas.List.{append-nil, map-append}
use Rattle.plan_core.specs.declared.sink.SinkPlan.{SinkPlan}
use Rattle.plan_core.specs.declared.sink.SinkPlan.TheVariants.{Output, Feed}
use Rattle.stream_meaning.specs.Instants.{Setting}
use Rattle.stream_meaning.specs.Sinks.{Cue, cues}
use Rattle.clock_ticks.specs.declared.cues.CueMark.{CueMark}
use Rattle.clock_ticks.specs.Cues.{mark_of}
use Rattle.stations.specs.Cues.{marks_in}
use Rattle.station_render.specs.Marks.{cue_of, cues_of}
use Rattle.station_render.specs.Sinks.{lists_of}
use Rattle.station_render.proofs.Creating.{take_more}

marks_both : (setting : Setting) (ticks : ℕ) (xs ys : List SinkPlan) → marks_in setting ticks (xs ++ ys) ≡ marks_in setting ticks xs ++ marks_in setting ticks ys
marks_both setting ticks [] ys = refl
marks_both setting ticks (Output name node fallible wide ∷ xs) ys = ap (λ rest. cues setting node ticks ∷ rest) (marks_both setting ticks xs ys)
marks_both setting ticks (Feed buffer node ∷ xs) ys = marks_both setting ticks xs ys

pub marks_next : (setting : Setting) (ticks : ℕ) (sinks : List SinkPlan) (k : ℕ) (name : List ℕ) (node : ℕ) (fallible wide : Bool) → slice_get sinks k ≡ Some (Output name node fallible wide)
    → marks_in setting ticks (take (k + 1) sinks) ≡ marks_in setting ticks (take k sinks) ++ cues setting node ticks ∷ []
marks_next setting ticks sinks k name node fallible wide at =
    ap (λ n. marks_in setting ticks (take n sinks)) (add-one k) ∙ ap (marks_in setting ticks) (take_more sinks k (Output name node fallible wide) at)
    ∙ marks_both setting ticks (take k sinks) (Output name node fallible wide ∷ [])

pub marks_still : (setting : Setting) (ticks : ℕ) (sinks : List SinkPlan) (k buffer node : ℕ) → slice_get sinks k ≡ Some (Feed buffer node)
    → marks_in setting ticks (take (k + 1) sinks) ≡ marks_in setting ticks (take k sinks)
marks_still setting ticks sinks k buffer node at =
    ap (λ n. marks_in setting ticks (take n sinks)) (add-one k) ∙ ap (marks_in setting ticks) (take_more sinks k (Feed buffer node) at)
    ∙ marks_both setting ticks (take k sinks) (Feed buffer node ∷ []) ∙ append-nil (marks_in setting ticks (take k sinks))

same_cues : (all : List Cue) → map cue_of (map mark_of all) ≡ all
same_cues [] = refl
same_cues (cue ∷ all) = ap (λ rest. cue ∷ rest) (same_cues all)

-- one output more
pub marks_more : (old new : List (Vec CueMark Global)) (own : Vec CueMark Global) → new ≡ old ++ own ∷ [] → (world : Setting) (ticks : ℕ) (sinks : List SinkPlan) (k : ℕ) → cues_of old ≡ marks_in world ticks (take k sinks) → (name : List ℕ) (node : ℕ) (fallible wide : Bool)
    → slice_get sinks k ≡ Some (Output name node fallible wide) → (marks : List CueMark) → own.items ≡ marks → marks ≡ map mark_of (cues world node ticks)
    → cues_of new ≡ marks_in world ticks (take (k + 1) sinks)
marks_more old new own is world ticks sinks k so_far name node fallible wide at marks items are =
    let one : map cue_of own.items ≡ cues world node ticks = ap (map cue_of) (items ∙ are) ∙ same_cues (cues world node ticks) in
    ap cues_of is ∙ ap (map (map cue_of)) (map-append (λ (v : Vec CueMark Global). v.items) old (own ∷ [])) ∙ map-append (map cue_of) (lists_of old) (own.items ∷ [])
    ∙ ap (λ front. front ++ map cue_of own.items ∷ []) so_far ∙ ap (λ c. marks_in world ticks (take k sinks) ++ c ∷ []) one
    ∙ sym (marks_next world ticks sinks k name node fallible wide at)
