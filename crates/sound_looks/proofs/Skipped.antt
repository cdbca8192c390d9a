-- Lines of a list that are no names.
use Rattle.std.proofs.Common.{◌≡◌, ℕ, Bool, false, List, length, ap, ◌∙◌}
use Rattle.std.specs.Prelude.{not, ◌&&◌, nat_eq, slice_index}
use Rattle.std.specs.Str.{is_utf8}
use Rattle.sound_looks.specs.Looks.{is_skipped}

-- what a line has to be to be skipped
pub skipped_by : (line : List ℕ) (utf8 : Bool) → nat_eq (length line) 0 ≡ false → nat_eq (slice_index line 0) 35 ≡ false
    → is_utf8 line ≡ utf8 → is_skipped line ≡ not utf8
skipped_by line utf8 some mark text =
    ap (λ t. not t && not (nat_eq (slice_index line 0) 35) && not (is_utf8 line)) some
    ∙ ap (λ t. not t && not (is_utf8 line)) mark ∙ ap not text
