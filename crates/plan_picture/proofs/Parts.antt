-- The parts of a predicate, one after the other.
use Rattle.std.proofs.Common.{◌≡◌, ℕ, ◌≤◌, suc, Bool, true, List, [], ◌∷◌, ◌++◌, codes, length, map, take, refl, sym, ap, ◌∙◌}
use Rattle.std.proofs.lemmas.List.{take_all}
use Rattle.std.specs.Global.{Vec}
use Rattle.time_pred.specs.declared.pred.Pred as pred
use Rattle.time_pred.specs.Predicates.{PredicateTree, PredicateParts, parts_of}
use Rattle.time_pred.specs.View.{view_pred}
use Rattle.time_pred.proofs.Rows.{parts_seen}
use Rattle.plan_blames.specs.Texts.{numbered}
use Rattle.plan_picture.specs.Predicates.{before_part, closing, joined, opening, pred_text}

-- a part with the word before it
abbrev pub part_with : (word : List ℕ) → ℕ → pred.Pred → List ℕ
part_with word n p = before_part word n ++ pred_text true (view_pred p)

pub listed : (word : List ℕ) (n : ℕ) (ps : List pred.Pred) → joined word n (parts_of (map view_pred ps)) ≡ numbered (part_with word) n ps
listed word n [] = refl
listed word n (p ∷ ps) = ap (λ (t : List ℕ). part_with word n p ++ t) (listed word (suc n) ps)

pub all_parts : (word : List ℕ) (k : ℕ) (ps : List pred.Pred) → length ps ≤ k → numbered (part_with word) 0 (take k ps) ≡ joined word 0 (parts_of (map view_pred ps))
all_parts word k ps h = ap (numbered (part_with word) 0) (take_all k ps h) ∙ sym (listed word 0 ps)

pub all_text : (within : Bool) (v : Vec pred.Pred) → pred_text within (view_pred (pred.All v)) ≡ opening within ++ (joined (codes " and ") 0 (parts_of (map view_pred v.items)) ++ closing within)
all_text within v = ap (λ (t : PredicateTree PredicateParts). opening within ++ (joined (codes " and ") 0 t ++ closing within)) (parts_seen v)

pub any_text : (within : Bool) (v : Vec pred.Pred) → pred_text within (view_pred (pred.Any v)) ≡ opening within ++ (joined (codes " or ") 0 (parts_of (map view_pred v.items)) ++ closing within)
any_text within v = ap (λ (t : PredicateTree PredicateParts). opening within ++ (joined (codes " or ") 0 t ++ closing within)) (parts_seen v)
