-- The marks of a tick, one segment after another.
use Rattle.std.proofs.Common.{◌≡◌, ◌<◌, ◌+◌, ◌∙◌, ◌++◌, ℕ, zero, suc, ℤ, Some, None, Bool, true, false, List, [], ◌∷◌, length, map, replicate, append_assoc, cond, slice_get, take, arith, refl, ap, sym}
use Rattle.std.proofs.lemmas.List.{map-append}
use Rattle.std.proofs.lemmas.Option.{slice_get_within}
use Rattle.cell_ring.specs.Rings.{inner_cells}
use Rattle.frame_core.specs.Slots.{Slot}
use Rattle.stream_meaning.specs.Sinks.{Cue, cues_from}
use Rattle.clock_outputs.specs.Segments.{segment_slots}
use Rattle.clock_ticks.specs.declared.cues.CueList.{CueList}
use Rattle.clock_ticks.specs.declared.cues.CueMark.{CueMark}
use Rattle.clock_ticks.specs.declared.cues.Cues.{Cues}
use Rattle.clock_ticks.specs.Cues.{HasGrown, HasKept, HasMarked, HasMarkedSome, mark_of, marks_if, marks_of}

-- a mark if there is one, before some marks
abbrev put : Bool → Cue → List Cue → List Cue
put first mark rest = cond first (mark ∷ rest) rest

put_append : (first : Bool) (mark : Cue) (rest more : List Cue) → put first mark (rest ++ more) ≡ put first mark rest ++ more
put_append true mark rest more = refl
put_append false mark rest more = refl

pub cues_append : (at : ℕ) (slots more : List Slot) → cues_from at (slots ++ more) ≡ cues_from at slots ++ cues_from (at + length slots) more
cues_append at [] more = let same : at + 0 ≡ at = omega arith in ap (λ n. cues_from n more) (sym same)
cues_append at (None ∷ slots) more =
    let same : suc at + length slots ≡ at + suc (length slots) = omega arith in
    cues_append (suc at) slots more ∙ ap (λ n. cues_from (suc at) slots ++ cues_from n more) same
cues_append at (Some cell ∷ slots) more =
    let same : suc at + length slots ≡ at + suc (length slots) = omega arith in
    let mark : Cue = record { at = at; title = cell.title } in
    ap (λ (rest : List Cue). put cell.first mark rest) (cues_append (suc at) slots more ∙ ap (λ n. cues_from (suc at) slots ++ cues_from n more) same)
    ∙ put_append cell.first mark (cues_from (suc at) slots) (cues_from (at + suc (length slots)) more)

no_cues : (at many : ℕ) → cues_from at (replicate many None) ≡ []
no_cues at zero = refl
no_cues at (suc many) = no_cues (suc at) many

inner_none : (at title : ℕ) (lefts rights : List ℤ) → cues_from at (map Some (inner_cells title lefts rights)) ≡ []
inner_none at title [] rights = refl
inner_none at title (l ∷ lefts) [] = refl
inner_none at title (l ∷ lefts) (r ∷ rights) = inner_none (suc at) title lefts rights

-- the marks of a segment are those of its first instant
pub segment_cues : (at : ℕ) (slot : Slot) (many : ℕ) (lefts rights : List ℤ) → cues_from at (segment_slots slot many lefts rights) ≡ cues_from at (slot ∷ [])
segment_cues at None many lefts rights = no_cues (suc at) many
segment_cues at (Some cell) many lefts rights =
    ap (λ (rest : List Cue). put cell.first (record { at = at; title = cell.title }) rest) (inner_none (suc at) cell.title lefts rights)

pub marks_append : (at : ℕ) (slots more : List Slot) → marks_of at (slots ++ more) ≡ marks_of at slots ++ marks_of (at + length slots) more
marks_append at slots more = ap (map mark_of) (cues_append at slots more) ∙ map-append mark_of (cues_from at slots) (cues_from (at + length slots) more)

-- the marks so far, and those of a segment more
pub marks_more : (keeping : Bool) (start count at : ℕ) (slots : List Slot) (slot : Slot) (many : ℕ) (lefts rights : List ℤ) → length slots ≡ count → at ≡ start + count
    → marks_if keeping start slots ++ marks_if keeping at (slot ∷ []) ≡ marks_if keeping start (slots ++ segment_slots slot many lefts rights)
marks_more false start count at slots slot many lefts rights long is = refl
marks_more true start count at slots slot many lefts rights long is =
    ap (λ n. marks_of start slots ++ marks_of n (slot ∷ [])) (is ∙ ap (λ n. start + n) (sym long))
    ∙ ap (λ cues. marks_of start slots ++ map mark_of cues) (sym (segment_cues (start + length slots) slot many lefts rights))
    ∙ sym (marks_append start slots (segment_slots slot many lefts rights))

pub marks_none : (keeping : Bool) (start : ℕ) → marks_if keeping start [] ≡ []
marks_none true start = refl
marks_none false start = refl

-- since the tick began, and then some more
pub marked_more : (a b c : List CueMark) (old mid new : CueList) → a ++ b ≡ c → HasMarked a old mid → HasKept b mid new → HasMarked c old new
marked_more a b c old mid new sum marked kept = record {
  marks = kept.marks ∙ ap (λ marks. marks ++ b) marked.marks ∙ append_assoc old.marks.items a b ∙ ap (λ marks. old.marks.items ++ marks) sum;
  before = kept.before ∙ marked.before;
}

pub marked_some : (a : List CueMark) (old mid new : CueList) → HasMarked a old mid → HasGrown mid new → HasMarkedSome old new
marked_some a old mid new marked grown = record { more = a ++ grown.more; marked = marked_more a grown.more (a ++ grown.more) old mid new refl marked grown.kept }

pub take_first : {A : Type 0} (xs more : List A) → take (length xs) (xs ++ more) ≡ xs
take_first [] [] = refl
take_first [] (y ∷ more) = refl
take_first (x ∷ xs) more = ap (λ ys. x ∷ ys) (take_first xs more)

-- the marks of an output before the tick
pub taken_before : (old new : CueList) → HasMarkedSome old new → take new.before new.marks.items ≡ old.marks.items
taken_before old new some =
    ap (λ n. take n new.marks.items) some.marked.before ∙ ap (take (length old.marks.items)) some.marked.marks ∙ take_first old.marks.items some.more

-- what is left of the marks after a tick, even where some were refused
pub record AreHeld (before after : Cues) : Type 0 where
  pub keeping : after.keeping ≡ before.keeping
  pub lists : length after.lists.items ≡ length before.lists.items
  pub some : (k : ℕ) (old new : CueList) → slice_get before.lists.items k ≡ Some old → slice_get after.lists.items k ≡ Some new → HasMarkedSome old new

-- a list of that length has an item there
pub there_is : {A : Type 0} (xs : List A) (k : ℕ) → k < length xs → (x : A) × (slice_get xs k ≡ Some x)
there_is [] k within = absurd (omega (arith, within))
there_is (x ∷ xs) zero within = (x, refl)
there_is (x ∷ xs) (suc k) within = there_is xs k (omega (arith, within))

-- each list of marks is that of an output
pub its_port : {A B : Type 0} (lists : List A) (ports : List B) → length lists ≡ length ports → (k : ℕ) (list : A) → slice_get lists k ≡ Some list → (port : B) × (slice_get ports k ≡ Some port)
its_port lists ports sizes k list at = there_is ports k (let within = slice_get_within lists k list at in omega (arith, within, sizes))
