-- Predicates of the same parts are the same.
use Rattle.std.proofs.Common.{◌≡◌, ◌∙◌, List, ap, sym}
use Rattle.std.specs.Prelude.{map}
use Rattle.std.specs.Global.{Vec}
use Rattle.time_pred.specs.View.{view_pred}
use Rattle.time_pred.specs.declared.pred.Pred as pred
use Rattle.time_pred.proofs.Rows.{same_all, same_any}

pub all_alike : (p q : pred.Pred) (v w : Vec pred.Pred) (parts others : List pred.Pred) → p ≡ pred.All v → q ≡ pred.All w
    → parts ≡ v.items → others ≡ w.items → map view_pred parts ≡ map view_pred others → view_pred p ≡ view_pred q
all_alike p q v w parts others is_p is_q is_parts is_others same =
    ap view_pred is_p
    ∙ same_all v w (ap (λ (l : List pred.Pred). map view_pred l) (sym is_parts) ∙ same ∙ ap (λ (l : List pred.Pred). map view_pred l) is_others)
    ∙ ap view_pred (sym is_q)

pub any_alike : (p q : pred.Pred) (v w : Vec pred.Pred) (parts others : List pred.Pred) → p ≡ pred.Any v → q ≡ pred.Any w
    → parts ≡ v.items → others ≡ w.items → map view_pred parts ≡ map view_pred others → view_pred p ≡ view_pred q
any_alike p q v w parts others is_p is_q is_parts is_others same =
    ap view_pred is_p
    ∙ same_any v w (ap (λ (l : List pred.Pred). map view_pred l) (sym is_parts) ∙ same ∙ ap (λ (l : List pred.Pred). map view_pred l) is_others)
    ∙ ap view_pred (sym is_q)
