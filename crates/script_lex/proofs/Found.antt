-- The longest word at the front.
use Rattle.std.proofs.Common.{◌≡◌, ℕ, suc, ◌+◌, ◌≤◌, true, false, eqb, List, [], ◌∷◌, ◌++◌, length, refl, sym, ap, ◌∙◌, subst, arith, append_assoc, length-append, Option, Some, None}
use Rattle.std.proofs.lemmas.Bool.{eqb-true, eq-eqb}
use Rattle.script_lex.specs.Bytes.{is_letter}
use Rattle.script_lex.specs.Words.{keyword_of}
use Rattle.script_lex.specs.Spelling.{Shape, AWord, AnOpen, SpellsShape, IsDotted, behind_points}
use Rattle.script_lex.specs.Reading.{Found, after_name, word_or_open, word_at, front}
use Rattle.script_lex.specs.declared.token.Keyword.{Keyword}
use Rattle.script_lex.proofs.Fronts.{choose, front_is}
use Rattle.script_lex.proofs.Names.{dotted_eaten, after_name_le, goes_all, word_more, letter_is_word}
use Rattle.script_lex.proofs.Firsts.{Letter, class, first_of, dotted_starts}
use Rattle.script_lex.proofs.Apart.{FoundAt, differ, same_front, lengths}

-- a name that ends where reading ends, among names
module _ (t rest : List ℕ) (dotted : IsDotted t) (ends_here : after_name (t ++ rest) ≡ rest) where
  rest_is : (n behind : List ℕ) → IsDotted n → t ++ rest ≡ n ++ behind → rest ≡ after_name behind
  rest_is n behind is_name is = sym ends_here ∙ ap after_name is ∙ dotted_eaten n behind is_name

  no_longer : (n behind : List ℕ) → IsDotted n → t ++ rest ≡ n ++ behind → length n ≤ length t
  no_longer n behind is_name is =
      let r = ap length (rest_is n behind is_name is) in
      let le = after_name_le behind in
      let sum = lengths t rest n behind is in
      omega arith

  -- a bracket behind another name stands behind this one
  open_here : (n behind : List ℕ) → IsDotted n → t ++ rest ≡ n ++ (40 ∷ behind) → (rest ≡ 40 ∷ behind) × (t ≡ n)
  open_here n behind is_name is =
      let r : rest ≡ 40 ∷ behind = rest_is n (40 ∷ behind) is_name is in
      (r, same_front t n (40 ∷ behind) (ap (λ l. t ++ l) (sym r) ∙ is))

opened : (n behind : List ℕ) (l more : List ℕ) → more ≡ n ++ 40 ∷ [] → l ≡ more ++ behind → l ≡ n ++ (40 ∷ behind)
opened n behind l more m is = is ∙ ap (λ (x : List ℕ). x ++ behind) m ∙ append_assoc n (40 ∷ []) behind

letter_first : (t rest : List ℕ) → IsDotted t → (other : Shape) (more behind : List ℕ) → t ++ rest ≡ more ++ behind → SpellsShape other more → Letter ≡ class other
letter_first t rest dotted other more behind is s =
    let d = dotted_starts t dotted in
    sym d.first ∙ first_of other d.head (d.tail ++ rest) more behind s (sym (ap (λ (l : List ℕ). l ++ rest) d.is) ∙ is)

-- no spelling is longer than the word, unless it is a name and a bracket
among : (t rest : List ℕ) → IsDotted t → after_name (t ++ rest) ≡ rest → (other : Shape) (more behind : List ℕ) → t ++ rest ≡ more ++ behind → SpellsShape other more → (limit : ℕ) → length t ≤ limit → ((n : List ℕ) → keyword_of n ≡ None → t ≡ n → rest ≡ 40 ∷ behind → suc (length t) ≤ limit) → length more ≤ limit
among t rest dotted here (AWord n) more behind is s limit low brackets = let le = no_longer t rest dotted here more behind s.0 is in omega arith
among t rest dotted here (AnOpen n) more behind is s limit low brackets =
    let o = open_here t rest dotted here n behind s.0 (opened n behind (t ++ rest) more s.2 is) in
    let b = brackets n s.1 o.1 o.0 in
    let l = ap length s.2 ∙ length-append n (40 ∷ []) in
    let same = ap length o.1 in
    omega arith
among t rest dotted here other more behind is s limit low brackets = let c = letter_first t rest dotted other more behind is s in absurd cc

word_here : (t rest : List ℕ) → IsDotted t → after_name (t ++ rest) ≡ rest → ((behind : List ℕ) → keyword_of t ≡ None → rest ≡ 40 ∷ behind → ⊥) → FoundAt (t ++ rest) (AWord t, rest)
word_here t rest dotted here never = record {
  text = t;
  split = refl;
  spelled = (dotted, refl);
  longest = λ other more behind e s. among t rest dotted here other more behind e s (length t) (omega arith) (λ n name tn r40. absurd (never behind (ap keyword_of tn ∙ name) r40));
}

open_here_found : (t cs : List ℕ) → IsDotted t → keyword_of t ≡ None → after_name (t ++ (40 ∷ cs)) ≡ 40 ∷ cs → FoundAt (t ++ (40 ∷ cs)) (AnOpen t, cs)
open_here_found t cs dotted name here =
    let size : length (t ++ 40 ∷ []) ≡ length t + 1 = length-append t (40 ∷ []) in
    record {
      text = t ++ 40 ∷ [];
      split = sym (append_assoc t (40 ∷ []) cs);
      spelled = (dotted, name, refl);
      longest = λ other more behind e s. among t (40 ∷ cs) dotted here other more behind e s (length (t ++ 40 ∷ [])) (omega arith) (λ n ne tn r40. omega arith);
    }

some_none : (k : Keyword) → let x : Option Keyword = Some k in x ≡ None → ⊥
some_none k is = cc

pub open_is : (t cs : List ℕ) (c : ℕ) → eqb c 40 ≡ true → word_or_open t None (c ∷ cs) ≡ (AnOpen t, cs)
open_is t cs c e = rw e refl

pub word_is : (t cs : List ℕ) (c : ℕ) → eqb c 40 ≡ false → word_or_open t None (c ∷ cs) ≡ (AWord t, c ∷ cs)
word_is t cs c e = rw e refl

word_or_open_found : (t rest : List ℕ) (k : Option Keyword) → keyword_of t ≡ k → IsDotted t → after_name (t ++ rest) ≡ rest → FoundAt (t ++ rest) (word_or_open t k rest)
word_or_open_found t rest (Some k) is dotted here = word_here t rest dotted here (λ behind name r. some_none k (sym is ∙ name))
word_or_open_found t [] None is dotted here = word_here t [] dotted here (λ behind name r. cc)
word_or_open_found t (c ∷ cs) None is dotted here =
    choose (eqb c 40)
    (λ e.
    let P : ℕ → Type 0 = λ n. after_name (t ++ (n ∷ cs)) ≡ n ∷ cs → FoundAt (t ++ (n ∷ cs)) (AnOpen t, cs) in
    let at : P c = subst P (sym (eqb-true c 40 e)) (open_here_found t cs dotted is) in
    subst (FoundAt (t ++ (c ∷ cs))) (sym (open_is t cs c e)) (at here))
    (λ e. subst (FoundAt (t ++ (c ∷ cs))) (sym (word_is t cs c e)) (word_here t (c ∷ cs) dotted here (λ behind name r. let c40 : c ≡ 40 = cc in differ (sym (eq-eqb c 40 c40) ∙ e))))

-- the word at the front
pub word_found : (b : ℕ) (bs : List ℕ) → is_letter b ≡ true → FoundAt (b ∷ bs) (word_at (b ∷ bs))
unfolding word_at
word_found b bs letter =
    let g = goes_all bs in
    let t = (b ∷ g.word) ++ behind_points g.parts in
    let rest = after_name bs in
    let dotted : IsDotted t = (b ∷ g.word, g.parts, (letter, g.is_word), g.are_parts, refl) in
    let whole : b ∷ bs ≡ t ++ rest = ap (λ (l : List ℕ). b ∷ l) g.split in
    let over : after_name (b ∷ bs) ≡ rest = word_more b bs (letter_is_word b letter) in
    let here : after_name (t ++ rest) ≡ rest = ap after_name (sym whole) ∙ over in
    let before : front (b ∷ bs) (after_name (b ∷ bs)) ≡ t = ap (λ x. front (b ∷ bs) x) over ∙ ap (λ x. front x rest) whole ∙ front_is t rest in
    let f : Found = word_or_open t (keyword_of t) rest in
    let same : word_or_open (front (b ∷ bs) (after_name (b ∷ bs))) (keyword_of (front (b ∷ bs) (after_name (b ∷ bs)))) (after_name (b ∷ bs)) ≡ f = ap (λ x. word_or_open x (keyword_of x) (after_name (b ∷ bs))) before ∙ ap (word_or_open t (keyword_of t)) over in
    let P : List ℕ → Type 0 = λ x. FoundAt x f in
    subst (FoundAt (b ∷ bs)) (sym same) (subst P (sym whole) (word_or_open_found t rest (keyword_of t) refl dotted here))
