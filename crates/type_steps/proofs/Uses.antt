-- Uses whose tokens rise are found by their tokens.
use Rattle.std.proofs.Common.{◌≡◌, ◌∙◌, ap, refl, ℕ, ◌+◌, ◌≤◌, ◌<◌, List, [], ◌∷◌, ◌++◌, map, Some, Bool, cond, eq-eqb, ne_eqb, arith}
use Rattle.std.specs.Prelude.{⊤}
use Rattle.typing_rules.specs.declared.uses.Use.{Use}
use Rattle.typing_rules.specs.Kinds.{said}
use Rattle.typing_rules.specs.Scoping.{Meaning, Name, meant}
use Rattle.typing_rules.specs.Uses.{use_at}
use Rattle.type_steps.proofs.NameTokens.{RiseTo}

abbrev pub UsesRise : ℕ → List Use → Type 0
UsesRise lo [] = ⊤
UsesRise lo (u ∷ us) = (lo ≤ u.at) × UsesRise (u.at + 1) us

-- each of these is found among all
abbrev pub AreIn : List Use → List Use → Type 0
AreIn all [] = ⊤
AreIn all (u ∷ us) = (use_at u.at all ≡ Some u) × AreIn all us

same_token : (u : Use) (n : Name) (us : List Use) (ns : List Name) → said u ∷ map said us ≡ meant n ∷ map meant ns → u.at ≡ n.at
same_token u n us ns e = ap (λ (m : Meaning). m.0) (let h : said u ≡ meant n = cc in h)

same_rest : (m o : Meaning) (ms os : List Meaning) → m ∷ ms ≡ o ∷ os → ms ≡ os
same_rest m o ms os e = cc

pub uses_rise : (lo hi : ℕ) (us : List Use) (ns : List Name) → map said us ≡ map meant ns → RiseTo lo hi ns → UsesRise lo us
uses_rise lo hi [] ns e r = tt
uses_rise lo hi (u ∷ us) [] e r = let h : said u ∷ map said us ≡ [] = e in cc
uses_rise lo hi (u ∷ us) (n ∷ ns) e r =
    let t = same_token u n us ns e in
    let rest = uses_rise (n.at + 1) hi us ns (same_rest (said u) (meant n) (map said us) (map meant ns) e) r.1 in
    (omega (arith, t, r.0), lower (n.at + 1) (u.at + 1) us (omega (arith, t)) rest) where
      lower : (k l : ℕ) (vs : List Use) → l ≤ k → UsesRise k vs → UsesRise l vs
      lower k l [] h q = tt
      lower k l (v ∷ vs) h q = (omega (arith, h, q.0), q.1)

behind_one : (u : Use) (all vs : List Use) (lo : ℕ) → u.at < lo → UsesRise lo vs → AreIn all vs → AreIn (u ∷ all) vs
behind_one u all [] lo lt r h = tt
behind_one u all (v ∷ vs) lo lt r h = (
  ap (λ (b : Bool). cond b (Some u) (use_at v.at all)) (ne_eqb u.at v.at (λ (e : u.at ≡ v.at). omega (arith, lt, r.0, e))) ∙ h.0,
  behind_one u all vs (v.at + 1) (omega (arith, lt, r.0)) r.1 h.1,
)

pub all_in : (lo : ℕ) (us : List Use) → UsesRise lo us → AreIn us us
all_in lo [] r = tt
all_in lo (u ∷ us) r = (
  ap (λ (b : Bool). cond b (Some u) (use_at u.at us)) (eq-eqb u.at u.at refl),
  behind_one u us us (u.at + 1) (omega arith) r.1 (all_in (u.at + 1) us r.1),
)

pub in_left : (all xs ys : List Use) → AreIn all (xs ++ ys) → AreIn all xs
in_left all [] ys h = tt
in_left all (x ∷ xs) ys h = (h.0, in_left all xs ys h.1)

pub in_right : (all xs ys : List Use) → AreIn all (xs ++ ys) → AreIn all ys
in_right all [] ys h = h
in_right all (x ∷ xs) ys h = in_right all xs ys h.1
