use Rattle.std.proofs.Common.{◌<◌, length, arith, subst, sym}
use Rattle.std.proofs.lemmas.List.Elements.{All-get_or}
use Rattle.week_plan.specs.Looked.{IsLooked}
use Rattle.week_plan.proofs.looked.place_among.Goals as goal

pub returns-then-is_of : goal.returns-then-is_of
returns-then-is_of c =
    let looked = c.index-kept-place.result in
    let here : c.loop-place.place < length c.args.kept.now = omega (arith, c.loop-place-test.true) in
    record {
      looked = looked;
      at = record { here = here; there = c.index-kept-place.is };
      told = subst IsLooked (sym c.index-kept-place.is) (All-get_or IsLooked c.args.kept.now c.loop-place.place looked here c.requires);
      of_preds = c.is_of.ensures.preds c.if-is_of.true;
      of_sure = c.is_of.ensures.sure c.if-is_of.true;
    }
