-- The names of the outputs that were created, one after another.
use Rattle.std.proofs.Common.{◌≡◌, ◌≤◌, ◌+◌, ◌∙◌, ◌++◌, ℕ, Bool, List, [], ◌∷◌, length, take, slice_get, ap, sym, add-one}
use Rattle.std.specs.Prelude.{Option, Some}
use Rattle.std.proofs.lemmas.List.{append-nil}
use Rattle.plan_core.specs.declared.sink.SinkPlan.{SinkPlan}
use Rattle.plan_core.specs.declared.sink.SinkPlan.TheVariants.{Output, Feed}
use Rattle.stations.specs.Creations.{after_making, names_in}
use Rattle.stations.proofs.Making.{names_both, then_made}
use Rattle.station_render.proofs.Creating.{take_more, take_whole}

module _ (sinks : List SinkPlan) (k : ℕ) where
  pub names_next : (name : List ℕ) (node : ℕ) (fallible wide : Bool) → slice_get sinks k ≡ Some (Output name node fallible wide) → names_in (take (k + 1) sinks) ≡ names_in (take k sinks) ++ name ∷ []
  names_next name node fallible wide at =
      ap (λ n. names_in (take n sinks)) (add-one k) ∙ ap names_in (take_more sinks k (Output name node fallible wide) at) ∙ names_both (take k sinks) (Output name node fallible wide ∷ [])

  pub names_still : (buffer node : ℕ) → slice_get sinks k ≡ Some (Feed buffer node) → names_in (take (k + 1) sinks) ≡ names_in (take k sinks)
  names_still buffer node at =
      ap (λ n. names_in (take n sinks)) (add-one k) ∙ ap names_in (take_more sinks k (Feed buffer node) at) ∙ names_both (take k sinks) (Feed buffer node ∷ []) ∙ append-nil (names_in (take k sinks))

  module _ (before between : Option (List (List ℕ))) (so_far : between ≡ after_making (names_in (take k sinks)) before) where
    -- a feed has no name
    pub made_still : (buffer node : ℕ) → slice_get sinks k ≡ Some (Feed buffer node) → between ≡ after_making (names_in (take (k + 1) sinks)) before
    made_still buffer node at = so_far ∙ ap (λ names. after_making names before) (sym (names_still buffer node at))

    -- all outputs were created
    pub made_whole : length sinks ≤ k → between ≡ after_making (names_in sinks) before
    made_whole all = so_far ∙ ap (λ xs. after_making (names_in xs) before) (take_whole sinks k all)

    module _ (name said : List ℕ) (node : ℕ) (fallible wide : Bool) (at : slice_get sinks k ≡ Some (Output name node fallible wide)) (said_is : said ≡ name) (after : Option (List (List ℕ))) where
      -- one more output was
      pub made_next : after ≡ after_making (said ∷ []) between → after ≡ after_making (names_in (take (k + 1) sinks)) before
      made_next one =
          then_made (names_in (take k sinks)) (said ∷ []) before between after so_far one
          ∙ ap (λ n. after_making (names_in (take k sinks) ++ n ∷ []) before) said_is ∙ ap (λ names. after_making names before) (sym (names_next name node fallible wide at))
