use Rattle.week_plan.proofs.looked.look_anew.Goals as goal

pub returns-clause-at : goal.returns-clause-at
returns-clause-at c = record {
  looked = c.in_ok-looked.looked;
  at = c.in_ok-place.ensures.at;
  told = c.in_ok-looked.ensures.looked;
  of_preds = c.in_ok-looked.ensures.preds;
  of_sure = c.in_ok-looked.ensures.sure;
}
