-- A code of predicates, by which proofs tell two of them apart.
use Rattle.std.specs.Prelude.{◌≡◌, ℕ, zero, suc, Option, Some, None, refl}
use base.Stored.{Coded, Gv, gnil, gnum, gcons, num}
use Rattle.std.proofs.Common.{sym, ap, ◌∙◌}
use Rattle.fixed_text.specs.declared.time_mark.TimeMark.{TimeMark}
use Rattle.time_pred.specs.Predicates.{PredicateTree, OnePredicate, PredicateParts, Predicate, Always, Never, At, Between, Negated, All, Any, no_parts, first_part}

-- a part of a time mark, as its hour, as a code: the number, or nothing if the mark does not name it
abbrev part_code : Option ℕ → Gv
part_code None = gnil
part_code (Some n) = gnum n

-- reads a part of a time mark, as its hour, back from its code
abbrev part_back : Gv → Option ℕ
part_back gnil = None
part_back (gnum n) = Some n
part_back (gcons a b) = None

-- a part comes back from its code
pub part_same : (o : Option ℕ) → part_back (part_code o) ≡ o
part_same None = refl
part_same (Some n) = refl

-- the first of a pair in a code; nothing (`gnil`) of any other code
abbrev first : Gv → Gv
first gnil = gnil
first (gnum n) = gnil
first (gcons a b) = a

-- the second of a pair in a code; nothing (`gnil`) of any other code
abbrev rest : Gv → Gv
rest gnil = gnil
rest (gnum n) = gnil
rest (gcons a b) = b

-- a time mark as a code: its four parts as pairs
abbrev mark_code : TimeMark → Gv
mark_code m = gcons (part_code m.day) (gcons (part_code m.hour) (gcons (part_code m.minute) (part_code m.second)))

-- reads a time mark back from its code, the pairs of its four parts
abbrev mark_back : Gv → TimeMark
mark_back g = record {
  day = part_back (first g);
  hour = part_back (first (rest g));
  minute = part_back (first (rest (rest g)));
  second = part_back (rest (rest (rest g)));
}

-- a time mark comes back from its code
pub mark_same : (m : TimeMark) → mark_back (mark_code m) ≡ m
mark_same m = λ i. record {
  day = part_same m.day i;
  hour = part_same m.hour i;
  minute = part_same m.minute i;
  second = part_same m.second i;
}

-- a predicate as a code, a pair of the number of its form and the codes of what it has; and a list of parts as the
-- pairs of their codes
abbrev mutual
  code : PredicateTree OnePredicate → Gv
  code Always = gcons (gnum 0) gnil
  code Never = gcons (gnum 1) gnil
  code (At mark) = gcons (gnum 2) (mark_code mark)
  code (Between from to) = gcons (gnum 3) (gcons (mark_code from) (mark_code to))
  code (Negated p) = gcons (gnum 4) (code p)
  code (All ps) = gcons (gnum 5) (codes ps)
  code (Any ps) = gcons (gnum 6) (codes ps)

  codes : PredicateTree PredicateParts → Gv
  codes no_parts = gnil
  codes (first_part p ps) = gcons (code p) (codes ps)

-- The predicate of the form with this number, from 0 to 6; a greater one is as 6. Of a form with time marks, g has
-- their codes; of a negated one, p is its part; of one with `and` or `or`, ps are its parts.
abbrev by_tag : ℕ → Gv → PredicateTree OnePredicate → PredicateTree PredicateParts → PredicateTree OnePredicate
by_tag zero g p ps = Always
by_tag (suc zero) g p ps = Never
by_tag (suc (suc zero)) g p ps = At (mark_back g)
by_tag (suc (suc (suc zero))) g p ps = Between (mark_back (first g)) (mark_back (rest g))
by_tag (suc (suc (suc (suc zero)))) g p ps = Negated p
by_tag (suc (suc (suc (suc (suc zero))))) g p ps = All ps
by_tag (suc (suc (suc (suc (suc (suc n)))))) g p ps = Any ps

-- reads a predicate, and a list of predicate parts, back from a code: a code does not tell which of the two it is of,
-- so both are given
abbrev back : Gv → PredicateTree OnePredicate × PredicateTree PredicateParts
back gnil = (Never, no_parts)
back (gnum n) = (Never, no_parts)
back (gcons a b) = (by_tag (num a) b (back b).0 (back b).1, first_part (back a).0 (back b).1)

mutual
  pub back_same : (p : PredicateTree OnePredicate) → (back (code p)).0 ≡ p
  back_same Always = refl
  back_same Never = refl
  back_same (At mark) = ap At (mark_same mark)
  back_same (Between from to) = λ i. Between (mark_same from i) (mark_same to i)
  back_same (Negated p) = ap Negated (back_same p)
  back_same (All ps) = ap All (backs_same ps)
  back_same (Any ps) = ap Any (backs_same ps)

  pub backs_same : (ps : PredicateTree PredicateParts) → (back (codes ps)).1 ≡ ps
  backs_same no_parts = refl
  backs_same (first_part p ps) = λ i. first_part (back_same p i) (backs_same ps i)

-- predicates have codes, and no two have one code
abbrev pub predicate_code : Coded Predicate
predicate_code = record {
  code = code;
  inj = λ x y same. sym (back_same x) ∙ ap (λ (g : Gv). (back g).0) same ∙ back_same y;
}
