use Rattle.std.proofs.Common.{rules, ◌≡◌, ◌∙◌, sym, ap, length, true, false}
use Rattle.std.specs.Prelude.{nat_eq, slice_index}
use Rattle.std.specs.Str.{is_utf8}
use Rattle.std.proofs.lemmas.Bool.{false_from_ne_true}
use Rattle.std.proofs.lemmas.Str.{IsUtf8-from_is_utf8, is_utf8-from_IsUtf8}
use Rattle.sound_looks.specs.Looks.{is_skipped}
use Rattle.sound_looks.proofs.Skipped.{skipped_by}
use Rattle.sound_looks.proofs.list.is_skipped.Goals as goal

pub returns-in-Ok : goal.returns-in-Ok
returns-in-Ok c =
    let some : nat_eq (length c.cut_cr-line.result.now) 0 ≡ false = search rules in
    let mark : nat_eq (slice_index c.cut_cr-line.result.now 0) 35 ≡ false = search rules in
    let utf8 : is_utf8 c.cut_cr-line.result.now ≡ true = is_utf8-from_IsUtf8 _ c.in-Ok.ensures.cases.1 in
    sym (ap is_skipped (sym c.cut_cr-line.ensures) ∙ skipped_by c.cut_cr-line.result.now true some mark utf8)

pub returns-in-Err : goal.returns-in-Err
returns-in-Err c =
    let some : nat_eq (length c.cut_cr-line.result.now) 0 ≡ false = search rules in
    let mark : nat_eq (slice_index c.cut_cr-line.result.now 0) 35 ≡ false = search rules in
    let utf8 : is_utf8 c.cut_cr-line.result.now ≡ false = false_from_ne_true _ (λ e. c.in-Err.ensures.cases.0 (IsUtf8-from_is_utf8 _ e)) in
    sym (ap is_skipped (sym c.cut_cr-line.ensures) ∙ skipped_by c.cut_cr-line.result.now false some mark utf8)
