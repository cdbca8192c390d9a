-- Arguments that no parameter takes, by a table of their labels.
use Rattle.std.proofs.Common.{◌≡◌, refl, sym, ap, ◌∙◌, ℕ, zero, suc, arith, ◌+◌, ◌<◌, ◌≤◌, List, [], ◌∷◌, length, drop, get_or, drop-cons, drop_of_length-le, Option, None, Bool, true, false, not, cond, map}
use Rattle.typing_rules.specs.Arguments.{GivenArgument, Parameter, first_missing, left_over}
use Rattle.typing_rules.specs.declared.fault.NameFault.{NameFault}
use Rattle.typing_rules.specs.declared.fault.NameFault.TheVariants.{Extra}
use Rattle.typing_rules.specs.NameFaults.{missing_at}
use Rattle.name_scope.specs.Labelled.{left_in, on, placed, seen_label}
use Rattle.name_scope.specs.Noted.{all_sooner, mismatches, sooner}
use Rattle.name_scope.specs.Seen.{seen_given, token_at}
use Rattle.name_scope.specs.declared.parameter.Given.{Given as AGiven}
use Rattle.name_scope.proofs.Labelling.{first_missing_on, left_over_on, placed_on}
use Rattle.name_scope.proofs.Matching.{all_sooner_more}

abbrev extras : (ℕ → NameFault) → List (GivenArgument ℕ) → List NameFault
extras f gs = map (λ g. f g.1) gs

pub left_next : (f : ℕ → NameFault) (ls : List (Option (List ℕ))) (ts : List Bool) (i at : ℕ) (o p whole : Option NameFault) (b : Bool) → Extra at ≡ f i → i < length ls → i < length ts → b ≡ get_or ts i false →
    all_sooner o (extras f (left_in i (drop i ls) (drop i ts))) ≡ whole → p ≡ cond (not b) (sooner o (Extra at)) o → all_sooner p (extras f (left_in (i + 1) (drop (i + 1) ls) (drop (i + 1) ts))) ≡ whole
left_next f ls ts i at o p whole b here lt lt' is so new =
    let l = get_or ls i None in
    let on_is : i + 1 ≡ suc i = omega arith in
    ap (λ x. all_sooner x (extras f (left_in (i + 1) (drop (i + 1) ls) (drop (i + 1) ts)))) (new ∙ ap (λ x. cond (not b) (sooner o x) o) here)
    ∙ ap (λ j. all_sooner (cond (not b) (sooner o (f i)) o) (extras f (left_in j (drop j ls) (drop j ts)))) on_is
    ∙ by b
    ∙ ap (λ c. all_sooner o (extras f (left_in i (l ∷ drop (suc i) ls) (c ∷ drop (suc i) ts)))) is
    ∙ sym (ap (λ xs. all_sooner o (extras f (left_in i xs (get_or ts i false ∷ drop (suc i) ts)))) (drop-cons ls i None lt))
    ∙ sym (ap (λ xs. all_sooner o (extras f (left_in i (drop i ls) xs))) (drop-cons ts i false lt'))
    ∙ so
  where
    by : (c : Bool) → all_sooner (cond (not c) (sooner o (f i)) o) (extras f (left_in (suc i) (drop (suc i) ls) (drop (suc i) ts))) ≡ all_sooner o (extras f (left_in i (get_or ls i None ∷ drop (suc i) ls) (c ∷ drop (suc i) ts)))
    by true = refl
    by false = refl

pub left_done : (f : ℕ → NameFault) (ls : List (Option (List ℕ))) (ts : List Bool) (i : ℕ) (o whole : Option NameFault) → length ls ≤ i → all_sooner o (extras f (left_in i (drop i ls) (drop i ts))) ≡ whole → o ≡ whole
left_done f ls ts i o whole le so = sym (ap (λ (xs : List (Option (List ℕ))). all_sooner o (extras f (left_in i xs (drop i ts)))) (drop_of_length-le ls le)) ∙ so

map_twice : (f : ℕ → ℕ) (gs : List (GivenArgument ℕ)) → map (λ g. Extra g.1) (map (on f) gs) ≡ extras (λ i. Extra (f i)) gs
map_twice f [] = refl
map_twice f (g ∷ gs) = ap (λ (fs : List NameFault). Extra (f g.1) ∷ fs) (map_twice f gs)

token_is : (gs : List AGiven) (j : ℕ) (x : AGiven) → j < length gs → token_at gs (0 + j) ≡ (seen_given (get_or gs j x)).1
token_is gs j x l = ap (token_at gs) (let e : 0 + j ≡ j = omega arith in e) ∙ by gs j l where
  by : (hs : List AGiven) (i : ℕ) → i < length hs → token_at hs i ≡ (get_or hs i x).at
  by [] i l = absurd (omega (arith, l))
  by (h ∷ hs) zero l = refl
  by (h ∷ hs) (suc i) l = by hs i (omega (arith, l))

given_is : (gs : List AGiven) → map (on (token_at gs)) (placed 0 (map (λ g. (seen_given g).0) gs)) ≡ map seen_given gs
given_is gs = placed_on seen_given (token_at gs) 0 gs (token_is gs)

-- all faults of a call with many arguments
pub many_done : (o p q : Option NameFault) (at : ℕ) (ps : List Parameter) (gs : List AGiven) (all left : List (GivenArgument ℕ)) (m : Option (List ℕ)) → all ≡ placed 0 (map (λ g. seen_label g.label) gs) → m ≡ first_missing ps all → left ≡ left_over ps all → p ≡ all_sooner o (missing_at at m) → q ≡ all_sooner p (extras (λ i. Extra (token_at gs i)) left) →
    q ≡ all_sooner o (mismatches at ps (map seen_given gs))
many_done o p q at ps gs all left m all_is m_is left_is p_is q_is =
    let f = token_at gs in
    let seen : map (on f) all ≡ map seen_given gs = ap (map (on f)) all_is ∙ given_is gs in
    let missing : m ≡ first_missing ps (map seen_given gs) = m_is ∙ sym (first_missing_on f ps all) ∙ ap (first_missing ps) seen in
    let over : extras (λ i. Extra (f i)) left ≡ map (λ g. Extra g.1) (left_over ps (map seen_given gs)) = ap (extras (λ i. Extra (f i))) left_is ∙ sym (map_twice f (left_over ps all)) ∙ ap (map (λ g. Extra g.1)) (sym (left_over_on f ps all) ∙ ap (left_over ps) seen) in
    q_is
    ∙ ap (all_sooner p) over
    ∙ ap (λ (x : Option NameFault). all_sooner x (map (λ g. Extra g.1) (left_over ps (map seen_given gs)))) (p_is ∙ ap (λ (x : Option (List ℕ)). all_sooner o (missing_at at x)) missing)
    ∙ sym (all_sooner_more o (missing_at at (first_missing ps (map seen_given gs))) (map (λ g. Extra g.1) (left_over ps (map seen_given gs))))
