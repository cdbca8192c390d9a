-- The parts of a predicate, from a Vec of them.
use Rattle.std.proofs.Common.{◌≡◌, ℕ, List, [], ◌∷◌, Bool, ◌&&◌, ◌||◌, refl, sym, ap, ◌∙◌}
use Rattle.std.specs.Prelude.{map}
use Rattle.std.specs.Global.{Vec}
use Rattle.std.specs.List.{list_all, list_any}
use Rattle.time_pred.specs.declared.pred.Pred as pred
use Rattle.time_pred.specs.declared.pred.Pred.TheBlock as block
use Rattle.time_pred.specs.Predicates.{PredicateTree, PredicateParts, All, Any, first_part, parts_of, holds, all_hold, some_holds, is_always, is_never, all_always, some_always, all_never, some_never}
use Rattle.time_pred.specs.View.{view_pred, view_parts}

parts_row : (n : _) (row : pred.Row_of-Pred n) → view_parts row ≡ parts_of (map view_pred (pred.items-the_row-Pred n row))
parts_row n pred.end_of-Pred = refl
parts_row n (pred.more_of-Pred p rest) = ap (first_part (view_pred p)) (parts_row _ rest)

pub parts_seen : (v : Vec pred.Pred) → view_parts (block.hidden-the_row-Pred-0 v) ≡ parts_of (map view_pred v.items)
parts_seen v = parts_row _ (block.hidden-the_row-Pred-0 v) ∙ ap (λ (l : List pred.Pred). parts_of (map view_pred l)) (pred.items_hidden-the_row-Pred-0 v)

-- what is said of the parts is said of a list of them
pub hold_listed : (at : ℕ) (ps : List pred.Pred) → all_hold (parts_of (map view_pred ps)) at ≡ list_all (λ p. holds (view_pred p) at) ps
hold_listed at [] = refl
hold_listed at (p ∷ ps) = ap (λ (b : Bool). holds (view_pred p) at && b) (hold_listed at ps)

pub holds_listed : (at : ℕ) (ps : List pred.Pred) → some_holds (parts_of (map view_pred ps)) at ≡ list_any (λ p. holds (view_pred p) at) ps
holds_listed at [] = refl
holds_listed at (p ∷ ps) = ap (λ (b : Bool). holds (view_pred p) at || b) (holds_listed at ps)

pub always_all : (ps : List pred.Pred) → all_always (parts_of (map view_pred ps)) ≡ list_all (λ p. is_always (view_pred p)) ps
always_all [] = refl
always_all (p ∷ ps) = ap (λ (b : Bool). is_always (view_pred p) && b) (always_all ps)

pub always_some : (ps : List pred.Pred) → some_always (parts_of (map view_pred ps)) ≡ list_any (λ p. is_always (view_pred p)) ps
always_some [] = refl
always_some (p ∷ ps) = ap (λ (b : Bool). is_always (view_pred p) || b) (always_some ps)

pub never_all : (ps : List pred.Pred) → all_never (parts_of (map view_pred ps)) ≡ list_all (λ p. is_never (view_pred p)) ps
never_all [] = refl
never_all (p ∷ ps) = ap (λ (b : Bool). is_never (view_pred p) && b) (never_all ps)

pub never_some : (ps : List pred.Pred) → some_never (parts_of (map view_pred ps)) ≡ list_any (λ p. is_never (view_pred p)) ps
never_some [] = refl
never_some (p ∷ ps) = ap (λ (b : Bool). is_never (view_pred p) || b) (never_some ps)

-- the same of a predicate that is made of a Vec
pub all_holds : (v : Vec pred.Pred) (at : ℕ) → holds (view_pred (pred.All v)) at ≡ list_all (λ p. holds (view_pred p) at) v.items
all_holds v at = ap (λ (t : PredicateTree PredicateParts). all_hold t at) (parts_seen v) ∙ hold_listed at v.items

pub any_holds : (v : Vec pred.Pred) (at : ℕ) → holds (view_pred (pred.Any v)) at ≡ list_any (λ p. holds (view_pred p) at) v.items
any_holds v at = ap (λ (t : PredicateTree PredicateParts). some_holds t at) (parts_seen v) ∙ holds_listed at v.items

pub all_is_always : (v : Vec pred.Pred) → is_always (view_pred (pred.All v)) ≡ list_all (λ p. is_always (view_pred p)) v.items
all_is_always v = ap all_always (parts_seen v) ∙ always_all v.items

pub any_is_always : (v : Vec pred.Pred) → is_always (view_pred (pred.Any v)) ≡ list_any (λ p. is_always (view_pred p)) v.items
any_is_always v = ap some_always (parts_seen v) ∙ always_some v.items

pub all_is_never : (v : Vec pred.Pred) → is_never (view_pred (pred.All v)) ≡ list_any (λ p. is_never (view_pred p)) v.items
all_is_never v = ap some_never (parts_seen v) ∙ never_some v.items

pub any_is_never : (v : Vec pred.Pred) → is_never (view_pred (pred.Any v)) ≡ list_all (λ p. is_never (view_pred p)) v.items
any_is_never v = ap all_never (parts_seen v) ∙ never_all v.items

-- predicates of the same parts are the same
pub same_all : (v w : Vec pred.Pred) → map view_pred v.items ≡ map view_pred w.items → view_pred (pred.All v) ≡ view_pred (pred.All w)
same_all v w same = ap All (parts_seen v ∙ ap parts_of same ∙ sym (parts_seen w))

pub same_any : (v w : Vec pred.Pred) → map view_pred v.items ≡ map view_pred w.items → view_pred (pred.Any v) ≡ view_pred (pred.Any w)
same_any v w same = ap Any (parts_seen v ∙ ap parts_of same ∙ sym (parts_seen w))
