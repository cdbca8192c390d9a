-- `%wav` at the front.
use Rattle.std.proofs.Common.{◌≡◌, ℕ, ◌≤◌, Bool, ◌&&◌, eqb, List, [], ◌∷◌, ◌++◌, length, refl, ap, subst, arith, Option, Some, None, if◌then◌else◌}
use Rattle.std.proofs.lemmas.Bool.{eqb-true, and_parts}
use Rattle.script_lex.specs.Words.{symbol_text}
use Rattle.script_lex.specs.Spelling.{Shape, AWav, ASymbol, SpellsShape}
use Rattle.script_lex.specs.Reading.{Found, wav_at}
use Rattle.script_lex.specs.declared.token.Symbol.{Symbol}
use Rattle.script_lex.proofs.Fronts.{choose}
use Rattle.script_lex.proofs.Firsts.{Sign, class, first_of}
use Rattle.script_lex.proofs.Signs.{Written, One, Two, written_by}
use Rattle.script_lex.proofs.Apart.{FoundAt}

symbol_short : (s : Symbol) → Written s → length (symbol_text s) ≤ 4
symbol_short s (One c form symbol) = let size = ap length form in omega arith
symbol_short s (Two c form symbol) = let size = ap length form in omega arith

among : (bs more behind : List ℕ) (other : Shape) → 37 ∷ bs ≡ more ++ behind → SpellsShape other more → length more ≤ 4
among bs more behind (ASymbol s) is text = let size = ap length text in let short = symbol_short s (written_by s) in omega arith
among bs more behind AWav is text = let size = ap length text in omega arith
among bs more behind other is text = let k : Sign ≡ class other = first_of other 37 bs more behind text is in absurd cc

here : (r : List ℕ) → FoundAt (37 ∷ 119 ∷ 97 ∷ 118 ∷ r) (AWav, r)
here r = record { text = 37 ∷ 119 ∷ 97 ∷ 118 ∷ []; split = refl; spelled = refl; longest = λ other more behind is s. among (119 ∷ 97 ∷ 118 ∷ r) more behind other is s }

abbrev pick : Bool → Option Found → Option Found → Option Found
pick t x y = if t then x else y

some_is : (a c : Found) → let x : Option Found = Some a in let y : Option Found = Some c in x ≡ y → a ≡ c
some_is a c is = cc

none_some : (f : Found) → let x : Option Found = None in x ≡ Some f → ⊥
none_some f is = cc

pub wav_found : (bs : List ℕ) (f : Found) → wav_at bs ≡ Some f → FoundAt bs f
unfolding wav_at
wav_found [] f is = absurd (none_some f is)
wav_found (a ∷ []) f is = absurd (none_some f is)
wav_found (a ∷ b ∷ []) f is = absurd (none_some f is)
wav_found (a ∷ b ∷ c ∷ []) f is = absurd (none_some f is)
wav_found (a ∷ b ∷ c ∷ d ∷ r) f is =
    let P : Bool → Type 0 = λ t. pick t (Some (AWav, r)) None ≡ Some f in
    choose (eqb a 37 && (eqb b 119 && (eqb c 97 && eqb d 118)))
    (λ e.
    let p = and_parts (eqb a 37) (eqb b 119 && (eqb c 97 && eqb d 118)) e in
    let q = and_parts (eqb b 119) (eqb c 97 && eqb d 118) p.1 in
    let s = and_parts (eqb c 97) (eqb d 118) q.1 in
    let w = eqb-true a 37 p.0 in let x = eqb-true b 119 q.0 in let y = eqb-true c 97 s.0 in let z = eqb-true d 118 s.1 in
    let whole : 37 ∷ 119 ∷ 97 ∷ 118 ∷ r ≡ a ∷ b ∷ c ∷ d ∷ r = cc in
    let f_is : (AWav, r) ≡ f = some_is (AWav, r) f (subst P e is) in
    let Q : List ℕ → Type 0 = λ l. FoundAt l (AWav, r) in
    subst (FoundAt (a ∷ b ∷ c ∷ d ∷ r)) f_is (subst Q whole (here r)))
    (λ e. absurd (none_some f (subst P e is)))
