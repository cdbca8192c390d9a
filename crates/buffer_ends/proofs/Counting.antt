-- The counts of a buffer that has an end are those of the end.
use Rattle.std.proofs.Common.{◌≡◌, ℕ, ◌<◌, List, length, map, count_by, not, sym, ap, ◌∙◌, subst, slice_index_or, get_or}
use Rattle.std.proofs.lemmas.List.{get_or_default}
use Rattle.buffer_queue.specs.Window.{is_chunk}
use Rattle.buffer_ends.specs.declared.counts.Counts.{Counts}
use Rattle.buffer_ends.specs.Local.{LocalBuffer, yes}
use Rattle.buffer_ends.specs.Sides.{Side, Falling}
use Rattle.buffer_ends.proofs.Places.{one_place}
use Rattle.buffer_ends.specs.Ends.{PutsCounted, TakesCounted}

-- the end of this buffer, wherever it is found
found : (sides : List Side) (b place : ℕ) (x : Side) → Falling sides → place < length sides → ((d : Side) → (slice_index_or sides place d).buffer ≡ b) → x ≡ get_or sides place x
    → (k : ℕ) (d : Side) → k < length sides → (slice_index_or sides k d).buffer ≡ b → x ≡ get_or sides k d
found sides b place x falling room at old k d h e =
    old ∙ get_or_default sides place x d room ∙ ap (λ n. get_or sides n d) (sym (one_place sides falling k place d h room (e ∙ sym (at d))))

pub puts_counted : (sides : List Side) (list : LocalBuffer) (b place : ℕ) (x : Side) (counts : Counts) → Falling sides → place < length sides
    → ((d : Side) → (slice_index_or sides place d).buffer ≡ b) → x ≡ get_or sides place x
    → counts.accepted ≡ count_by yes (map is_chunk x.window.answers) → counts.full ≡ count_by not (map is_chunk x.window.answers) → PutsCounted sides list b counts
puts_counted sides list b place x counts falling room at old accepted full = (
  (λ k d h e. subst (λ (s : Side). (counts.accepted ≡ count_by yes (map is_chunk s.window.answers)) × (counts.full ≡ count_by not (map is_chunk s.window.answers)))
      (found sides b place x falling room at old k d h e) (accepted, full)),
  λ none. absurd (none (place, room, at)),
)

pub takes_counted : (sides : List Side) (list : LocalBuffer) (b place : ℕ) (x : Side) (counts : Counts) → Falling sides → place < length sides
    → ((d : Side) → (slice_index_or sides place d).buffer ≡ b) → x ≡ get_or sides place x
    → counts.got ≡ count_by yes (map is_chunk x.window.answers) → counts.empty ≡ count_by not (map is_chunk x.window.answers) → TakesCounted sides list b counts
takes_counted sides list b place x counts falling room at old got empty = (
  (λ k d h e. subst (λ (s : Side). (counts.got ≡ count_by yes (map is_chunk s.window.answers)) × (counts.empty ≡ count_by not (map is_chunk s.window.answers)))
      (found sides b place x falling room at old k d h e) (got, empty)),
  λ none. absurd (none (place, room, at)),
)

-- the counts of puts do not ask for those of takes
pub puts_same : (sides : List Side) (list : LocalBuffer) (b : ℕ) (old new : Counts) → new.accepted ≡ old.accepted → new.full ≡ old.full → PutsCounted sides list b old → PutsCounted sides list b new
puts_same sides list b old new a f p = (
  (λ k d h e. let was = p.0 k d h e in (a ∙ was.0, f ∙ was.1)),
  λ none. let was = p.1 none in (a ∙ was.0, f ∙ was.1),
)
