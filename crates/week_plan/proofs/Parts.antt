-- The table of a predicate with parts.
use Rattle.std.proofs.Common.{◌≡◌, ◌∙◌, ℕ, List, ap, sym}
use Rattle.std.specs.Global.{Vec}
use Rattle.std.specs.Prelude.{Result, Ok, Err, IfOk}
use Rattle.std.specs.List.{list_all, list_any}
use Rattle.time_pred.specs.Predicates.{holds}
use Rattle.time_pred.specs.View.{view_pred}
use Rattle.time_pred.specs.declared.pred.Pred as pred
use Rattle.time_pred.proofs.Rows.{all_holds, any_holds}
use Rattle.week_plan.specs.Tables.{IsTableOf}

pub if_ok : {T E : Type 0} (P Q : T → Type 0) (result : Result T E) → ((x : T) → P x → Q x) → IfOk result P → IfOk result Q
if_ok P Q (Ok x) more is = more x is
if_ok P Q (Err e) more is = is

pub all_table : (p : pred.Pred) (v : Vec pred.Pred) (parts : List pred.Pred) (words : List ℕ) → p ≡ pred.All v → parts ≡ v.items
    → IsTableOf (λ at. list_all (λ p. holds (view_pred p) at) parts) words → IsTableOf (holds (view_pred p)) words
all_table p v parts words is same of = record {
  table = of.table;
  same = λ at low. of.same at low ∙ ap (λ (ps : List pred.Pred). list_all (λ p. holds (view_pred p) at) ps) same ∙ sym (all_holds v at) ∙ ap (λ (q : pred.Pred). holds (view_pred q) at) (sym is);
}

pub any_table : (p : pred.Pred) (v : Vec pred.Pred) (parts : List pred.Pred) (words : List ℕ) → p ≡ pred.Any v → parts ≡ v.items
    → IsTableOf (λ at. list_any (λ p. holds (view_pred p) at) parts) words → IsTableOf (holds (view_pred p)) words
any_table p v parts words is same of = record {
  table = of.table;
  same = λ at low. of.same at low ∙ ap (λ (ps : List pred.Pred). list_any (λ p. holds (view_pred p) at) ps) same ∙ sym (any_holds v at) ∙ ap (λ (q : pred.Pred). holds (view_pred q) at) (sym is);
}
