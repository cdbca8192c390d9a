-- What holds of a substitution with the number of its free variables, where a variable is new.
use Rattle.std.proofs.Common.{◌≡◌, ℕ, ◌+◌, Bool, true, false, List, [], ◌∷◌, ◌++◌, length, Option, Some, None, refl, arith}
use Rattle.type_terms.specs.Nested.{IsKept, IsMarked, mark_at}
use Rattle.type_terms.specs.Table.{table, IsOver}
use Rattle.type_terms.specs.Term.{Term}
use Rattle.type_terms.specs.Variables.{Variable}
use Rattle.type_terms.specs.declared.ty.KindTerm.{KindTerm}
use Rattle.type_terms.proofs.Counting.{kinds_more, types_more}
use Rattle.type_terms.proofs.Fresh.{whole_fresh, whole_fresh_kind, whole_none}
use Rattle.type_terms.proofs.FreshBound.{whole_bound}

pub kept_none : IsKept (table [] []) [] 0
kept_none = record { whole = whole_none; counted = refl }

module _ (vs : List Variable) (ks : List (Option KindTerm)) (ms : List Bool) (n : ℕ) where
  pub kept_fresh : (number b : Bool) → IsKept (table vs ks) ms n → IsKept (table (vs ++ (record { number = number; bound = None } ∷ [])) ks) (ms ++ (b ∷ [])) (n + 1)
  kept_fresh number b h = record {
    whole = whole_fresh vs ks ms number b h.whole;
    counted = let c = h.counted in let m = types_more vs (record { number = number; bound = None } ∷ []) in omega (arith, c, m);
  }

  pub kept_fresh_kind : IsKept (table vs ks) ms n → IsKept (table vs (ks ++ (None ∷ []))) ms (n + 1)
  kept_fresh_kind h = record {
    whole = whole_fresh_kind vs ks ms h.whole;
    counted = let c = h.counted in let m = kinds_more ks (None ∷ []) in omega (arith, c, m);
  }

module _ (vs : List Variable) (ks : List (Option KindTerm)) (ms ns : List Bool) (n : ℕ) (h : IsKept (table vs ks) ms n) (is : ns ≡ ms ++ (false ∷ [])) where
  pub kept_bound : (ms' : List Bool) → length ms' ≡ length ns → ((k : ℕ) → mark_at ns k ≡ true → mark_at ms' k ≡ true) → (t : Term) → IsOver (table vs ks) t → IsMarked ms' t →
      IsKept (table (vs ++ (record { number = false; bound = Some t } ∷ [])) ks) ms' n
  kept_bound ms' l kept t o here = record {
    whole = whole_bound vs ks ms ns h.whole is ms' l kept t o here;
    counted = let c = h.counted in let m = types_more vs (record { number = false; bound = Some t } ∷ []) in omega (arith, c, m);
  }
