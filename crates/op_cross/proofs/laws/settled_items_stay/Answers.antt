use Rattle.std.proofs.Common.{◌∙◌, length, take, ap, sym, refl}
use Rattle.std.proofs.lemmas.List.{take_at}
use Rattle.op_cross.specs.Crossfade.{cross}
use Rattle.op_cross.proofs.CrossGrows.{cross-begins}
use Rattle.op_cross.proofs.laws.settled_items_stay.Goals as goal

pub returns : goal.returns
returns c = record {
  begins = λ overlap slots more.
      let begins = cross-begins overlap slots more in
      ap (λ l. take (length (cross overlap slots)) l) (sym begins.is) ∙ take_at (cross overlap slots) begins.rest (length (cross overlap slots)) refl;
}
