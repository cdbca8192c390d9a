-- Predicates of the tree, and the predicates that they mean.
use Rattle.std.proofs.Common.{◌≡◌, ◌≤◌, List, [], ◌∷◌, length, refl, sym, ap, ◌∙◌, arith}
use Rattle.std.specs.Prelude.{map}
use Rattle.std.specs.Global.{Vec}
use Rattle.script_grammar.specs.View.{listed, pand_of, por_of, view_pand, view_pnot, view_por}
use Rattle.script_grammar.specs.declared.predicate.POr as por
use Rattle.script_grammar.specs.declared.predicate.PAnd as pand
use Rattle.script_grammar.specs.declared.predicate.PNot as pnot
use Rattle.script_grammar.proofs.Rows.{pands_listed, pnots_listed}
use Rattle.time_pred.specs.declared.pred.Pred as pred
use Rattle.time_pred.specs.Predicates.{All, Any, parts_of, first_part as more_preds}
use Rattle.time_pred.specs.View.{view_pred}
use Rattle.time_pred.proofs.Rows.{parts_seen}
use Rattle.eval_meaning.specs.Preds.{and_pred, and_preds, not_pred, not_preds, or_pred}

pub or_seen : (e : por.POr) (l : List pand.PAnd) → l ≡ (por.out-POr e).parts.items → view_por e ≡ por_of (listed (map view_pand l))
or_seen e l is = ap view_por (sym (por.roll-out-POr e) ∙ por.rolls-POr' (por.out-POr e)) ∙ ap por_of (pands_listed (por.out-POr e).parts) ∙ ap (λ (z : List pand.PAnd). por_of (listed (map view_pand z))) (sym is)

pub and_seen : (e : pand.PAnd) (l : List pnot.PNot) → l ≡ (pand.out-PAnd e).parts.items → view_pand e ≡ pand_of (listed (map view_pnot l))
and_seen e l is = ap view_pand (sym (pand.roll-out-PAnd e) ∙ pand.rolls-PAnd' (pand.out-PAnd e)) ∙ ap pand_of (pnots_listed (pand.out-PAnd e).parts) ∙ ap (λ (z : List pnot.PNot). pand_of (listed (map view_pnot z))) (sym is)

ands_listed : (l : List pand.PAnd) → and_preds (listed (map view_pand l)) ≡ parts_of (map (λ a. and_pred (view_pand a)) l)
unfolding and_preds
ands_listed [] = refl
ands_listed (a ∷ l) = ap (λ (z : _). more_preds (and_pred (view_pand a)) z) (ands_listed l)

nots_listed : (l : List pnot.PNot) → not_preds (listed (map view_pnot l)) ≡ parts_of (map (λ n. not_pred (view_pnot n)) l)
unfolding not_preds
nots_listed [] = refl
nots_listed (n ∷ l) = ap (λ (z : _). more_preds (not_pred (view_pnot n)) z) (nots_listed l)

or_parts : (l : List pand.PAnd) → 2 ≤ length l → or_pred (por_of (listed (map view_pand l))) ≡ Any (parts_of (map (λ a. and_pred (view_pand a)) l))
unfolding or_pred and_preds
or_parts [] two = absurd (omega arith)
or_parts (a ∷ []) two = absurd (omega arith)
or_parts (a ∷ b ∷ l) two = ap (λ (z : _). Any (more_preds (and_pred (view_pand a)) (more_preds (and_pred (view_pand b)) z))) (ands_listed l)

and_parts : (l : List pnot.PNot) → 2 ≤ length l → and_pred (pand_of (listed (map view_pnot l))) ≡ All (parts_of (map (λ n. not_pred (view_pnot n)) l))
unfolding and_pred not_preds
and_parts [] two = absurd (omega arith)
and_parts (a ∷ []) two = absurd (omega arith)
and_parts (a ∷ b ∷ l) two = ap (λ (z : _). All (more_preds (not_pred (view_pnot a)) (more_preds (not_pred (view_pnot b)) z))) (nots_listed l)

pub any_made : (v : Vec pred.Pred) (l : List pand.PAnd) → 2 ≤ length l → map view_pred v.items ≡ map (λ a. and_pred (view_pand a)) l → view_pred (pred.Any v) ≡ or_pred (por_of (listed (map view_pand l)))
any_made v l two same = ap Any (parts_seen v ∙ ap parts_of same) ∙ sym (or_parts l two)

pub all_made : (v : Vec pred.Pred) (l : List pnot.PNot) → 2 ≤ length l → map view_pred v.items ≡ map (λ n. not_pred (view_pnot n)) l → view_pred (pred.All v) ≡ and_pred (pand_of (listed (map view_pnot l)))
all_made v l two same = ap All (parts_seen v ∙ ap parts_of same) ∙ sym (and_parts l two)
