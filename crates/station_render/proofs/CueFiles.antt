-- Cue files that are written one after another.
use Rattle.std.proofs.Common.{◌≡◌, ◌∙◌, ◌++◌, ◌<◌, ◌≤◌, ◌+◌, ℕ, zero, suc, Bool, List, [], ◌∷◌, length, map, take, drop, get_or, slice_get, add-one, refl, ap, sym, subst}
use Rattle.std.specs.Prelude.{Option, Some, IsSomeAnd, Vec}
use Rattle.std.specs.declared.alloc.Global.{Global}
use Rattle.std.specs.Option.{ForSome}
use Rattle.std.proofs.lemmas.List.{map-append}
use Rattle.liq_base.specs.Files.{Files}
use Rattle.liq_base.specs.Shelves.{Closing, ShelfTold}
use Rattle.frame_core.specs.Library.{Sounds}
use Rattle.plan_core.specs.declared.sink.SinkPlan.{SinkPlan}
use Rattle.plan_core.specs.declared.sink.SinkPlan.TheVariants.{Output, Feed}
use Rattle.stream_meaning.specs.Sinks.{Cue}
use Rattle.stations.specs.Creations.{CreatedFront, HaveClosed, HaveListed, after_making, closing_at_once, names_in}
use Rattle.stations.specs.Cues.{cue_name, cue_names_in}
use Rattle.stations.specs.Outputs.{HoldsUpto, with_outputs}
use Rattle.stations.proofs.Making.{front_made, then_closed, then_front, then_listed, then_made}
use Rattle.stations.proofs.Parts.{upto_all}
use Rattle.clock_ticks.specs.declared.cues.CueMark.{CueMark}
use Rattle.station_render.specs.Marks.{cue_file, cue_files_with, cue_of, cues_of}
use Rattle.station_render.specs.Sinks.{lists_of}
use Rattle.station_render.proofs.Lists.{got, mapped}
use Rattle.station_render.specs.Renders.{written}
use Rattle.station_render.proofs.Creating.{take_whole, taken_and_left}
use Rattle.station_render.proofs.Leaving.{part_behind, part_first, whole_behind}
use Rattle.station_render.proofs.Naming.{names_next, names_still}

-- the names of cue files are those of the outputs, and more
cue_names_are : (sinks : List SinkPlan) → cue_names_in sinks ≡ map cue_name (names_in sinks)
cue_names_are [] = refl
cue_names_are (Output name node fallible wide ∷ sinks) = ap (λ names. cue_name name ∷ names) (cue_names_are sinks)
cue_names_are (Feed buffer node ∷ sinks) = cue_names_are sinks

cue_names_both : (xs ys : List SinkPlan) → cue_names_in (xs ++ ys) ≡ cue_names_in xs ++ cue_names_in ys
cue_names_both [] ys = refl
cue_names_both (Output name node fallible wide ∷ xs) ys = ap (λ names. cue_name name ∷ names) (cue_names_both xs ys)
cue_names_both (Feed buffer node ∷ xs) ys = cue_names_both xs ys

-- no marks, no files
with_none : (library : Sounds) (sinks : List SinkPlan) → cue_files_with library sinks [] ≡ []
with_none library [] = refl
with_none library (Output name node fallible wide ∷ sinks) = refl
with_none library (Feed buffer node ∷ sinks) = with_none library sinks

-- the first of them, and the others
files_split : (library : Sounds) (sinks : List SinkPlan) (marks : List (List Cue)) (k : ℕ)
    → cue_files_with library sinks marks ≡ cue_files_with library (take k sinks) marks ++ cue_files_with library (drop k sinks) (drop (length (written (take k sinks))) marks)
files_split library [] marks zero = refl
files_split library [] marks (suc k) = refl
files_split library (sink ∷ sinks) marks zero = refl
files_split library (Output name node fallible wide ∷ sinks) [] (suc k) = sym (with_none library (drop k sinks))
files_split library (Output name node fallible wide ∷ sinks) (cues ∷ marks) (suc k) = ap (λ files. cue_file library name cues ∷ files) (files_split library sinks marks k)
files_split library (Feed buffer node ∷ sinks) marks (suc k) = files_split library sinks marks k

-- one more
files_more : (library : Sounds) (sinks : List SinkPlan) (marks : List (List Cue)) (k : ℕ) (name : List ℕ) (node : ℕ) (fallible wide : Bool) (cues : List Cue)
    → slice_get sinks k ≡ Some (Output name node fallible wide) → slice_get marks (length (written (take k sinks))) ≡ Some cues
    → cue_files_with library (take (suc k) sinks) marks ≡ cue_files_with library (take k sinks) marks ++ cue_file library name cues ∷ []
files_more library [] marks k name node fallible wide cues at there = absurd cc
files_more library (Output other number free broad ∷ sinks) [] zero name node fallible wide cues at there = absurd cc
files_more library (Output other number free broad ∷ sinks) [] (suc k) name node fallible wide cues at there = absurd cc
files_more library (Output other number free broad ∷ sinks) (mine ∷ marks) zero name node fallible wide cues at there =
    let both : Some (Output other number free broad) ≡ Some (Output name node fallible wide) = at in
    let name_is : other ≡ name = cc in
    let found : Some mine ≡ Some cues = there in
    let mine_is : mine ≡ cues = cc in
    λ i. cue_file library (name_is i) (mine_is i) ∷ []
files_more library (Output other number free broad ∷ sinks) (mine ∷ marks) (suc k) name node fallible wide cues at there =
    ap (λ files. cue_file library other mine ∷ files) (files_more library sinks marks k name node fallible wide cues at there)
files_more library (Feed buffer number ∷ sinks) marks zero name node fallible wide cues at there = absurd cc
files_more library (Feed buffer number ∷ sinks) marks (suc k) name node fallible wide cues at there = files_more library sinks marks k name node fallible wide cues at there

files_same : (library : Sounds) (sinks : List SinkPlan) (marks : List (List Cue)) (k buffer node : ℕ) → slice_get sinks k ≡ Some (Feed buffer node)
    → cue_files_with library (take (suc k) sinks) marks ≡ cue_files_with library (take k sinks) marks
files_same library [] marks k buffer node at = absurd cc
files_same library (Output other number free broad ∷ sinks) marks zero buffer node at = absurd cc
files_same library (Output other number free broad ∷ sinks) [] (suc k) buffer node at = refl
files_same library (Output other number free broad ∷ sinks) (mine ∷ marks) (suc k) buffer node at = ap (λ files. cue_file library other mine ∷ files) (files_same library sinks marks k buffer node at)
files_same library (Feed other number ∷ sinks) marks zero buffer node at = refl
files_same library (Feed other number ∷ sinks) marks (suc k) buffer node at = files_same library sinks marks k buffer node at

module _ (library : Sounds) (sinks : List SinkPlan) (marks : List (List Cue)) (k : ℕ) (before between : Option Files)
    (so_far : ForSome before (λ files. between ≡ Some (with_outputs files (cue_files_with library (take k sinks) marks)))) where
  -- a feed has no cue file
  pub files_still : (buffer node : ℕ) → slice_get sinks k ≡ Some (Feed buffer node) → ForSome before (λ files. between ≡ Some (with_outputs files (cue_files_with library (take (k + 1) sinks) marks)))
  files_still buffer node at files told =
      so_far files told ∙ ap (λ all. Some (with_outputs files all)) (sym (ap (λ n. cue_files_with library (take n sinks) marks) (add-one k) ∙ files_same library sinks marks k buffer node at))

  -- all were written
  pub files_whole : length sinks ≤ k → ForSome before (λ files. between ≡ Some (with_outputs files (cue_files_with library sinks marks)))
  files_whole all files told = so_far files told ∙ ap (λ xs. Some (with_outputs files (cue_files_with library xs marks))) (take_whole sinks k all)

  pub files_upto : length sinks ≤ k → ForSome before (λ files. IsSomeAnd between (HoldsUpto files (cue_files_with library sinks marks)))
  files_upto all files told = subst (λ now. IsSomeAnd now (HoldsUpto files (cue_files_with library sinks marks))) (sym (files_whole all files told)) (upto_all files (cue_files_with library sinks marks))

  module _ (name : List ℕ) (node : ℕ) (fallible wide : Bool) (at : slice_get sinks k ≡ Some (Output name node fallible wide)) (cues : List Cue) (there : slice_get marks (length (written (take k sinks))) ≡ Some cues)
      (after : Option Files) where
    next_is : cue_files_with library (take (k + 1) sinks) marks ≡ cue_files_with library (take k sinks) marks ++ cue_file library name cues ∷ []
    next_is = ap (λ n. cue_files_with library (take n sinks) marks) (add-one k) ∙ files_more library sinks marks k name node fallible wide cues at there

    -- one more was written
    pub files_next : ForSome between (λ files. after ≡ Some (with_outputs files (cue_file library name cues ∷ []))) → ForSome before (λ files. after ≡ Some (with_outputs files (cue_files_with library (take (k + 1) sinks) marks)))
    files_next one =
        subst (λ all. ForSome before (λ files. after ≡ Some (with_outputs files all))) (sym next_is)
        (whole_behind before between after (cue_files_with library (take k sinks) marks) (cue_file library name cues ∷ []) so_far one)

    -- or a part of it
    pub files_part : ForSome between (λ files. IsSomeAnd after (HoldsUpto files (cue_file library name cues ∷ []))) → ForSome before (λ files. IsSomeAnd after (HoldsUpto files (cue_files_with library sinks marks)))
    files_part one =
        let front = cue_files_with library (take k sinks) marks ++ cue_file library name cues ∷ [] in
        let rest = cue_files_with library (drop (k + 1) sinks) (drop (length (written (take (k + 1) sinks))) marks) in
        let whole : cue_files_with library sinks marks ≡ front ++ rest = files_split library sinks marks (k + 1) ∙ ap (λ files. files ++ rest) next_is in
        subst (λ all. ForSome before (λ files. IsSomeAnd after (HoldsUpto files all))) (sym whole)
        (part_first before after after front rest (part_behind before between after (cue_files_with library (take k sinks) marks) (cue_file library name cues ∷ []) so_far one))

-- the same for the names
module _ (sinks : List SinkPlan) (k : ℕ) (before between : Option (List (List ℕ))) (so_far : between ≡ after_making (cue_names_in (take k sinks)) before) where
  pub cues_still : (buffer node : ℕ) → slice_get sinks k ≡ Some (Feed buffer node) → between ≡ after_making (cue_names_in (take (k + 1) sinks)) before
  cues_still buffer node at =
      so_far ∙ ap (λ names. after_making names before) (cue_names_are (take k sinks) ∙ ap (map cue_name) (sym (names_still sinks k buffer node at)) ∙ sym (cue_names_are (take (k + 1) sinks)))

  module _ (name said : List ℕ) (node : ℕ) (fallible wide : Bool) (at : slice_get sinks k ≡ Some (Output name node fallible wide)) (said_is : said ≡ name) (after : Option (List (List ℕ))) where
    cue_next : cue_names_in (take (k + 1) sinks) ≡ cue_names_in (take k sinks) ++ cue_name said ∷ []
    cue_next =
        cue_names_are (take (k + 1) sinks) ∙ ap (map cue_name) (names_next sinks k name node fallible wide at) ∙ map-append cue_name (names_in (take k sinks)) (name ∷ [])
        ∙ ap (λ names. names ++ cue_name name ∷ []) (sym (cue_names_are (take k sinks))) ∙ ap (λ n. cue_names_in (take k sinks) ++ cue_name n ∷ []) (sym said_is)

    pub cues_next : after ≡ after_making (cue_name said ∷ []) between → after ≡ after_making (cue_names_in (take (k + 1) sinks)) before
    cues_next one =
        then_made (cue_names_in (take k sinks)) (cue_name said ∷ []) before between after so_far one ∙ ap (λ names. after_making names before) (sym cue_next)

-- and for the closings
module _ (sinks : List SinkPlan) (k : ℕ) (before between : Option (List Closing)) (so_far : HaveClosed 0 (cue_names_in (take k sinks)) before between) where
  pub closed_still : (buffer node : ℕ) → slice_get sinks k ≡ Some (Feed buffer node) → HaveClosed 0 (cue_names_in (take (k + 1) sinks)) before between
  closed_still buffer node at =
      subst (λ names. HaveClosed 0 names before between) (cue_names_are (take k sinks) ∙ ap (map cue_name) (sym (names_still sinks k buffer node at)) ∙ sym (cue_names_are (take (k + 1) sinks))) so_far

  pub closed_next : (name said : List ℕ) (node : ℕ) (fallible wide : Bool) → slice_get sinks k ≡ Some (Output name node fallible wide) → said ≡ name → (after : Option (List Closing))
      → HaveClosed 0 (cue_name said ∷ []) between after → HaveClosed 0 (cue_names_in (take (k + 1) sinks)) before after
  closed_next name said node fallible wide at said_is after one =
      subst (λ names. HaveClosed 0 names before after)
      (ap (λ n. cue_names_in (take k sinks) ++ cue_name n ∷ []) said_is ∙ ap (λ names. names ++ cue_name name ∷ []) (cue_names_are (take k sinks))
      ∙ sym (map-append cue_name (names_in (take k sinks)) (name ∷ [])) ∙ ap (map cue_name) (sym (names_next sinks k name node fallible wide at)) ∙ sym (cue_names_are (take (k + 1) sinks)))
      (then_closed (cue_names_in (take k sinks)) (cue_name said ∷ []) before between after so_far one)

-- a front of them, by what a shelf tells
pub cues_front : (sinks : List SinkPlan) (k : ℕ) (first between last : ShelfTold) → between.created ≡ after_making (cue_names_in (take k sinks)) first.created
    → (name said : List ℕ) (node : ℕ) (fallible wide : Bool) → slice_get sinks k ≡ Some (Output name node fallible wide) → said ≡ name
    → HaveClosed 0 (cue_names_in (take k sinks)) first.closed between.closed → CreatedFront (cue_name said ∷ []) between last → CreatedFront (cue_names_in sinks) first last
cues_front sinks k first between last so_far name said node fallible wide at said_is closed front =
    let next = cue_next sinks k first.created between.created so_far name said node fallible wide at said_is last.created in
    let whole : cue_names_in sinks ≡ (cue_names_in (take k sinks) ++ cue_name said ∷ []) ++ cue_names_in (drop (k + 1) sinks) =
    ap cue_names_in (taken_and_left sinks (k + 1)) ∙ cue_names_both (take (k + 1) sinks) (drop (k + 1) sinks) ∙ ap (λ names. names ++ cue_names_in (drop (k + 1) sinks)) next in
    subst (λ names. CreatedFront names first last) (sym whole)
    (front_made (cue_names_in (take k sinks) ++ cue_name said ∷ []) (cue_names_in (drop (k + 1) sinks)) first last
    (then_front (cue_names_in (take k sinks)) (cue_name said ∷ []) first between last so_far closed front))

-- and what is listed of them
module _ (library : Sounds) (sinks : List SinkPlan) (marks : List (List Cue)) (k : ℕ) (before between : Option (List Closing))
    (so_far : HaveListed (map closing_at_once (cue_files_with library (take k sinks) marks)) before between) where
  pub listed_still : (buffer node : ℕ) → slice_get sinks k ≡ Some (Feed buffer node) → HaveListed (map closing_at_once (cue_files_with library (take (k + 1) sinks) marks)) before between
  listed_still buffer node at =
      subst (λ files. HaveListed (map closing_at_once files) before between)
      (sym (ap (λ n. cue_files_with library (take n sinks) marks) (add-one k) ∙ files_same library sinks marks k buffer node at)) so_far

  pub listed_next : (name said : List ℕ) (node : ℕ) (fallible wide : Bool) → slice_get sinks k ≡ Some (Output name node fallible wide) → said ≡ name → (cues : List Cue) → slice_get marks (length (written (take k sinks))) ≡ Some cues
      → (after : Option (List Closing)) → HaveListed (map closing_at_once (cue_file library said cues ∷ [])) between after → HaveListed (map closing_at_once (cue_files_with library (take (k + 1) sinks) marks)) before after
  listed_next name said node fallible wide at said_is cues there after one =
      let files = cue_files_with library (take k sinks) marks in
      let file = cue_file library name cues in
      let next : cue_files_with library (take (k + 1) sinks) marks ≡ files ++ file ∷ [] =
      ap (λ n. cue_files_with library (take n sinks) marks) (add-one k) ∙ files_more library sinks marks k name node fallible wide cues at there in
      subst (λ fs. HaveListed fs before after) (sym (ap (map closing_at_once) next ∙ map-append closing_at_once files (file ∷ [])))
      (then_listed (map closing_at_once files) (map closing_at_once (file ∷ [])) before between after so_far
      (subst (λ n. HaveListed (map closing_at_once (cue_file library n cues ∷ [])) between after) said_is one))

-- the marks of an output, by its place
pub marks_at : (marks : List (Vec CueMark Global)) (place index : ℕ) → place ≡ index → (found : Vec CueMark Global) → place < length marks → found ≡ get_or marks place found → (slice : List CueMark) → slice ≡ found.items
    → slice_get (cues_of marks) index ≡ Some (map cue_of slice)
marks_at marks place index same found low is slice items =
    let there : slice_get marks place ≡ Some found = got marks place found low ∙ ap Some (sym is) in
    ap (slice_get (cues_of marks)) (sym same)
    ∙ mapped (map cue_of) (lists_of marks) place found.items (mapped (λ (one : Vec CueMark Global). one.items) marks place found there)
    ∙ ap (λ xs. Some (map cue_of xs)) (sym items)

-- a cue file by the name of its output
module _ (library : Sounds) (said name : List ℕ) (same : said ≡ name) (cues : List Cue) (before after : Option Files) where
  pub named_as : ForSome before (λ files. after ≡ Some (with_outputs files (cue_file library said cues ∷ []))) → ForSome before (λ files. after ≡ Some (with_outputs files (cue_file library name cues ∷ [])))
  named_as = subst (λ n. ForSome before (λ files. after ≡ Some (with_outputs files (cue_file library n cues ∷ [])))) same

  pub part_named_as : ForSome before (λ files. IsSomeAnd after (HoldsUpto files (cue_file library said cues ∷ []))) → ForSome before (λ files. IsSomeAnd after (HoldsUpto files (cue_file library name cues ∷ [])))
  part_named_as = subst (λ n. ForSome before (λ files. IsSomeAnd after (HoldsUpto files (cue_file library n cues ∷ [])))) same
