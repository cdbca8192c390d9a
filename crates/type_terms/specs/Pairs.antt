-- Pairs of types that are still to be compared.
use Rattle.std.specs.Prelude.{◌≡◌, ℕ, suc, List, [], ◌∷◌}
use Rattle.type_terms.specs.Ground.{Assignment}
use Rattle.type_terms.specs.Term.{Term, Terms, list_term, tuple_term, no_terms, one_more, term_of, meaning}
use Rattle.type_terms.specs.Table.{Table, IsOver}
use Rattle.type_terms.specs.declared.ty.Ty.{Ty}
use Rattle.std.specs.Borrow.{Bor}

-- pairs of references to types of the program, as pairs of plain types
abbrev pub pairs : List (Bor Ty × Bor Ty) → List (Term × Term)
pairs [] = []
pairs (p ∷ ps) = (term_of p.0.now, term_of p.1.now) ∷ pairs ps

-- the two types of each pair are the same under the assignment a to their variables
abbrev pub AllEqual : Assignment → List (Term × Term) → Type 0
AllEqual a [] = Unit {0}
AllEqual a (p ∷ ps) = (meaning a p.0 ≡ meaning a p.1) × AllEqual a ps

-- each type of each pair has only variables of the substitution s
abbrev pub AllOver : Table → List (Term × Term) → Type 0
AllOver s [] = Unit {0}
AllOver s (p ∷ ps) = (IsOver s p.0 × IsOver s p.1) × AllOver s ps

-- the pairs of the parts of two tuples, first with first and so on, as far as both go
abbrev pub zipped : Terms → Terms → List (Term × Term)
zipped no_terms us = []
zipped (one_more t ts) no_terms = []
zipped (one_more t ts) (one_more u us) = (t, u) ∷ zipped ts us

-- the pairs that are left to compare of two lists (their items) or of two tuples (their parts); none of other types
abbrev pub parts_of : Term → Term → List (Term × Term)
parts_of (list_term t) (list_term u) = (t, u) ∷ []
parts_of (tuple_term ts) (tuple_term us) = zipped ts us
parts_of _ _ = []

-- how many parts a tuple of these types has
abbrev pub part_count : Terms → ℕ
part_count no_terms = 0
part_count (one_more t ts) = suc (part_count ts)

-- the two types can be compared part by part: both are lists, or both are tuples of one length
abbrev pub IsSplit : Term → Term → Type 0
IsSplit (list_term t) (list_term u) = Unit {0}
IsSplit (tuple_term ts) (tuple_term us) = part_count ts ≡ part_count us
IsSplit _ _ = ⊥
