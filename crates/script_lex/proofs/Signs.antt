-- The longest symbol at the front, and `%wav`.
use Rattle.std.proofs.Common.{◌≡◌, ℕ, ◌≤◌, Bool, true, false, eqb, List, [], ◌∷◌, ◌++◌, length, refl, sym, ap, ◌∙◌, subst, arith, Option, Some, None, if◌then◌else◌}
use Rattle.std.proofs.lemmas.Bool.{eqb-true, eq-eqb}
use Rattle.script_lex.specs.Words.{symbol_text, symbol_of, symbol_with_equals}
use Rattle.script_lex.specs.Spelling.{Shape, AWav, ASymbol, SpellsShape}
use Rattle.script_lex.specs.Reading.{Found, symbol_before, first_of_two, symbol_at, wav_at}
use Rattle.script_lex.specs.declared.token.Symbol.{Symbol}
use Rattle.script_lex.specs.declared.token.Symbol.TheVariants as symbols
use Rattle.script_lex.proofs.Fronts.{choose}
use Rattle.script_lex.proofs.Firsts.{Sign, class_of, class, first_of}
use Rattle.script_lex.proofs.Apart.{FoundAt, differ, cons_head, cons_tail}

abbrev pick : Bool → Option Symbol → Option Symbol → Option Symbol
pick t x y = if t then x else y

some_is : (a b : Symbol) → let x : Option Symbol = Some a in let y : Option Symbol = Some b in x ≡ y → a ≡ b
some_is a b is = cc

none_some : (s : Symbol) → let x : Option Symbol = None in let y : Option Symbol = Some s in x ≡ y → ⊥
none_some s is = cc

one_text : (b : ℕ) (s : Symbol) → symbol_of b ≡ Some s → symbol_text s ≡ b ∷ []
unfolding symbol_of
one_text b s is =
    choose (eqb b 61)
    (λ e. let P : Bool → Type 0 = λ t. pick t (Some symbols.Assign) (pick (eqb b 60) (Some symbols.Less) (pick (eqb b 62) (Some symbols.Greater) (pick (eqb b 43) (Some symbols.Plus) (pick (eqb b 45) (Some symbols.Minus) (pick (eqb b 42) (Some symbols.Star) (pick (eqb b 47) (Some symbols.Slash) (pick (eqb b 40) (Some symbols.OpenRound) (pick (eqb b 41) (Some symbols.CloseRound) (pick (eqb b 91) (Some symbols.OpenSquare) (pick (eqb b 93) (Some symbols.CloseSquare) (pick (eqb b 123) (Some symbols.OpenCurly) (pick (eqb b 125) (Some symbols.CloseCurly) (pick (eqb b 44) (Some symbols.Comma) (pick (eqb b 59) (Some symbols.Semicolon) (pick (eqb b 126) (Some symbols.Tilde) None))))))))))))))) ≡ Some s in ap symbol_text (sym (some_is symbols.Assign s (subst P e is))) ∙ ap (λ n. n ∷ []) (sym (eqb-true b 61 e)))
    (λ e. let P : Bool → Type 0 = λ t. pick t (Some symbols.Assign) (pick (eqb b 60) (Some symbols.Less) (pick (eqb b 62) (Some symbols.Greater) (pick (eqb b 43) (Some symbols.Plus) (pick (eqb b 45) (Some symbols.Minus) (pick (eqb b 42) (Some symbols.Star) (pick (eqb b 47) (Some symbols.Slash) (pick (eqb b 40) (Some symbols.OpenRound) (pick (eqb b 41) (Some symbols.CloseRound) (pick (eqb b 91) (Some symbols.OpenSquare) (pick (eqb b 93) (Some symbols.CloseSquare) (pick (eqb b 123) (Some symbols.OpenCurly) (pick (eqb b 125) (Some symbols.CloseCurly) (pick (eqb b 44) (Some symbols.Comma) (pick (eqb b 59) (Some symbols.Semicolon) (pick (eqb b 126) (Some symbols.Tilde) None))))))))))))))) ≡ Some s in let is1 = subst P e is in choose (eqb b 60)
    (λ e. let P : Bool → Type 0 = λ t. pick t (Some symbols.Less) (pick (eqb b 62) (Some symbols.Greater) (pick (eqb b 43) (Some symbols.Plus) (pick (eqb b 45) (Some symbols.Minus) (pick (eqb b 42) (Some symbols.Star) (pick (eqb b 47) (Some symbols.Slash) (pick (eqb b 40) (Some symbols.OpenRound) (pick (eqb b 41) (Some symbols.CloseRound) (pick (eqb b 91) (Some symbols.OpenSquare) (pick (eqb b 93) (Some symbols.CloseSquare) (pick (eqb b 123) (Some symbols.OpenCurly) (pick (eqb b 125) (Some symbols.CloseCurly) (pick (eqb b 44) (Some symbols.Comma) (pick (eqb b 59) (Some symbols.Semicolon) (pick (eqb b 126) (Some symbols.Tilde) None)))))))))))))) ≡ Some s in ap symbol_text (sym (some_is symbols.Less s (subst P e is1))) ∙ ap (λ n. n ∷ []) (sym (eqb-true b 60 e)))
    (λ e. let P : Bool → Type 0 = λ t. pick t (Some symbols.Less) (pick (eqb b 62) (Some symbols.Greater) (pick (eqb b 43) (Some symbols.Plus) (pick (eqb b 45) (Some symbols.Minus) (pick (eqb b 42) (Some symbols.Star) (pick (eqb b 47) (Some symbols.Slash) (pick (eqb b 40) (Some symbols.OpenRound) (pick (eqb b 41) (Some symbols.CloseRound) (pick (eqb b 91) (Some symbols.OpenSquare) (pick (eqb b 93) (Some symbols.CloseSquare) (pick (eqb b 123) (Some symbols.OpenCurly) (pick (eqb b 125) (Some symbols.CloseCurly) (pick (eqb b 44) (Some symbols.Comma) (pick (eqb b 59) (Some symbols.Semicolon) (pick (eqb b 126) (Some symbols.Tilde) None)))))))))))))) ≡ Some s in let is2 = subst P e is1 in choose (eqb b 62)
    (λ e. let P : Bool → Type 0 = λ t. pick t (Some symbols.Greater) (pick (eqb b 43) (Some symbols.Plus) (pick (eqb b 45) (Some symbols.Minus) (pick (eqb b 42) (Some symbols.Star) (pick (eqb b 47) (Some symbols.Slash) (pick (eqb b 40) (Some symbols.OpenRound) (pick (eqb b 41) (Some symbols.CloseRound) (pick (eqb b 91) (Some symbols.OpenSquare) (pick (eqb b 93) (Some symbols.CloseSquare) (pick (eqb b 123) (Some symbols.OpenCurly) (pick (eqb b 125) (Some symbols.CloseCurly) (pick (eqb b 44) (Some symbols.Comma) (pick (eqb b 59) (Some symbols.Semicolon) (pick (eqb b 126) (Some symbols.Tilde) None))))))))))))) ≡ Some s in ap symbol_text (sym (some_is symbols.Greater s (subst P e is2))) ∙ ap (λ n. n ∷ []) (sym (eqb-true b 62 e)))
    (λ e. let P : Bool → Type 0 = λ t. pick t (Some symbols.Greater) (pick (eqb b 43) (Some symbols.Plus) (pick (eqb b 45) (Some symbols.Minus) (pick (eqb b 42) (Some symbols.Star) (pick (eqb b 47) (Some symbols.Slash) (pick (eqb b 40) (Some symbols.OpenRound) (pick (eqb b 41) (Some symbols.CloseRound) (pick (eqb b 91) (Some symbols.OpenSquare) (pick (eqb b 93) (Some symbols.CloseSquare) (pick (eqb b 123) (Some symbols.OpenCurly) (pick (eqb b 125) (Some symbols.CloseCurly) (pick (eqb b 44) (Some symbols.Comma) (pick (eqb b 59) (Some symbols.Semicolon) (pick (eqb b 126) (Some symbols.Tilde) None))))))))))))) ≡ Some s in let is3 = subst P e is2 in choose (eqb b 43)
    (λ e. let P : Bool → Type 0 = λ t. pick t (Some symbols.Plus) (pick (eqb b 45) (Some symbols.Minus) (pick (eqb b 42) (Some symbols.Star) (pick (eqb b 47) (Some symbols.Slash) (pick (eqb b 40) (Some symbols.OpenRound) (pick (eqb b 41) (Some symbols.CloseRound) (pick (eqb b 91) (Some symbols.OpenSquare) (pick (eqb b 93) (Some symbols.CloseSquare) (pick (eqb b 123) (Some symbols.OpenCurly) (pick (eqb b 125) (Some symbols.CloseCurly) (pick (eqb b 44) (Some symbols.Comma) (pick (eqb b 59) (Some symbols.Semicolon) (pick (eqb b 126) (Some symbols.Tilde) None)))))))))))) ≡ Some s in ap symbol_text (sym (some_is symbols.Plus s (subst P e is3))) ∙ ap (λ n. n ∷ []) (sym (eqb-true b 43 e)))
    (λ e. let P : Bool → Type 0 = λ t. pick t (Some symbols.Plus) (pick (eqb b 45) (Some symbols.Minus) (pick (eqb b 42) (Some symbols.Star) (pick (eqb b 47) (Some symbols.Slash) (pick (eqb b 40) (Some symbols.OpenRound) (pick (eqb b 41) (Some symbols.CloseRound) (pick (eqb b 91) (Some symbols.OpenSquare) (pick (eqb b 93) (Some symbols.CloseSquare) (pick (eqb b 123) (Some symbols.OpenCurly) (pick (eqb b 125) (Some symbols.CloseCurly) (pick (eqb b 44) (Some symbols.Comma) (pick (eqb b 59) (Some symbols.Semicolon) (pick (eqb b 126) (Some symbols.Tilde) None)))))))))))) ≡ Some s in let is4 = subst P e is3 in choose (eqb b 45)
    (λ e. let P : Bool → Type 0 = λ t. pick t (Some symbols.Minus) (pick (eqb b 42) (Some symbols.Star) (pick (eqb b 47) (Some symbols.Slash) (pick (eqb b 40) (Some symbols.OpenRound) (pick (eqb b 41) (Some symbols.CloseRound) (pick (eqb b 91) (Some symbols.OpenSquare) (pick (eqb b 93) (Some symbols.CloseSquare) (pick (eqb b 123) (Some symbols.OpenCurly) (pick (eqb b 125) (Some symbols.CloseCurly) (pick (eqb b 44) (Some symbols.Comma) (pick (eqb b 59) (Some symbols.Semicolon) (pick (eqb b 126) (Some symbols.Tilde) None))))))))))) ≡ Some s in ap symbol_text (sym (some_is symbols.Minus s (subst P e is4))) ∙ ap (λ n. n ∷ []) (sym (eqb-true b 45 e)))
    (λ e. let P : Bool → Type 0 = λ t. pick t (Some symbols.Minus) (pick (eqb b 42) (Some symbols.Star) (pick (eqb b 47) (Some symbols.Slash) (pick (eqb b 40) (Some symbols.OpenRound) (pick (eqb b 41) (Some symbols.CloseRound) (pick (eqb b 91) (Some symbols.OpenSquare) (pick (eqb b 93) (Some symbols.CloseSquare) (pick (eqb b 123) (Some symbols.OpenCurly) (pick (eqb b 125) (Some symbols.CloseCurly) (pick (eqb b 44) (Some symbols.Comma) (pick (eqb b 59) (Some symbols.Semicolon) (pick (eqb b 126) (Some symbols.Tilde) None))))))))))) ≡ Some s in let is5 = subst P e is4 in choose (eqb b 42)
    (λ e. let P : Bool → Type 0 = λ t. pick t (Some symbols.Star) (pick (eqb b 47) (Some symbols.Slash) (pick (eqb b 40) (Some symbols.OpenRound) (pick (eqb b 41) (Some symbols.CloseRound) (pick (eqb b 91) (Some symbols.OpenSquare) (pick (eqb b 93) (Some symbols.CloseSquare) (pick (eqb b 123) (Some symbols.OpenCurly) (pick (eqb b 125) (Some symbols.CloseCurly) (pick (eqb b 44) (Some symbols.Comma) (pick (eqb b 59) (Some symbols.Semicolon) (pick (eqb b 126) (Some symbols.Tilde) None)))))))))) ≡ Some s in ap symbol_text (sym (some_is symbols.Star s (subst P e is5))) ∙ ap (λ n. n ∷ []) (sym (eqb-true b 42 e)))
    (λ e. let P : Bool → Type 0 = λ t. pick t (Some symbols.Star) (pick (eqb b 47) (Some symbols.Slash) (pick (eqb b 40) (Some symbols.OpenRound) (pick (eqb b 41) (Some symbols.CloseRound) (pick (eqb b 91) (Some symbols.OpenSquare) (pick (eqb b 93) (Some symbols.CloseSquare) (pick (eqb b 123) (Some symbols.OpenCurly) (pick (eqb b 125) (Some symbols.CloseCurly) (pick (eqb b 44) (Some symbols.Comma) (pick (eqb b 59) (Some symbols.Semicolon) (pick (eqb b 126) (Some symbols.Tilde) None)))))))))) ≡ Some s in let is6 = subst P e is5 in choose (eqb b 47)
    (λ e. let P : Bool → Type 0 = λ t. pick t (Some symbols.Slash) (pick (eqb b 40) (Some symbols.OpenRound) (pick (eqb b 41) (Some symbols.CloseRound) (pick (eqb b 91) (Some symbols.OpenSquare) (pick (eqb b 93) (Some symbols.CloseSquare) (pick (eqb b 123) (Some symbols.OpenCurly) (pick (eqb b 125) (Some symbols.CloseCurly) (pick (eqb b 44) (Some symbols.Comma) (pick (eqb b 59) (Some symbols.Semicolon) (pick (eqb b 126) (Some symbols.Tilde) None))))))))) ≡ Some s in ap symbol_text (sym (some_is symbols.Slash s (subst P e is6))) ∙ ap (λ n. n ∷ []) (sym (eqb-true b 47 e)))
    (λ e. let P : Bool → Type 0 = λ t. pick t (Some symbols.Slash) (pick (eqb b 40) (Some symbols.OpenRound) (pick (eqb b 41) (Some symbols.CloseRound) (pick (eqb b 91) (Some symbols.OpenSquare) (pick (eqb b 93) (Some symbols.CloseSquare) (pick (eqb b 123) (Some symbols.OpenCurly) (pick (eqb b 125) (Some symbols.CloseCurly) (pick (eqb b 44) (Some symbols.Comma) (pick (eqb b 59) (Some symbols.Semicolon) (pick (eqb b 126) (Some symbols.Tilde) None))))))))) ≡ Some s in let is7 = subst P e is6 in choose (eqb b 40)
    (λ e. let P : Bool → Type 0 = λ t. pick t (Some symbols.OpenRound) (pick (eqb b 41) (Some symbols.CloseRound) (pick (eqb b 91) (Some symbols.OpenSquare) (pick (eqb b 93) (Some symbols.CloseSquare) (pick (eqb b 123) (Some symbols.OpenCurly) (pick (eqb b 125) (Some symbols.CloseCurly) (pick (eqb b 44) (Some symbols.Comma) (pick (eqb b 59) (Some symbols.Semicolon) (pick (eqb b 126) (Some symbols.Tilde) None)))))))) ≡ Some s in ap symbol_text (sym (some_is symbols.OpenRound s (subst P e is7))) ∙ ap (λ n. n ∷ []) (sym (eqb-true b 40 e)))
    (λ e. let P : Bool → Type 0 = λ t. pick t (Some symbols.OpenRound) (pick (eqb b 41) (Some symbols.CloseRound) (pick (eqb b 91) (Some symbols.OpenSquare) (pick (eqb b 93) (Some symbols.CloseSquare) (pick (eqb b 123) (Some symbols.OpenCurly) (pick (eqb b 125) (Some symbols.CloseCurly) (pick (eqb b 44) (Some symbols.Comma) (pick (eqb b 59) (Some symbols.Semicolon) (pick (eqb b 126) (Some symbols.Tilde) None)))))))) ≡ Some s in let is8 = subst P e is7 in choose (eqb b 41)
    (λ e. let P : Bool → Type 0 = λ t. pick t (Some symbols.CloseRound) (pick (eqb b 91) (Some symbols.OpenSquare) (pick (eqb b 93) (Some symbols.CloseSquare) (pick (eqb b 123) (Some symbols.OpenCurly) (pick (eqb b 125) (Some symbols.CloseCurly) (pick (eqb b 44) (Some symbols.Comma) (pick (eqb b 59) (Some symbols.Semicolon) (pick (eqb b 126) (Some symbols.Tilde) None))))))) ≡ Some s in ap symbol_text (sym (some_is symbols.CloseRound s (subst P e is8))) ∙ ap (λ n. n ∷ []) (sym (eqb-true b 41 e)))
    (λ e. let P : Bool → Type 0 = λ t. pick t (Some symbols.CloseRound) (pick (eqb b 91) (Some symbols.OpenSquare) (pick (eqb b 93) (Some symbols.CloseSquare) (pick (eqb b 123) (Some symbols.OpenCurly) (pick (eqb b 125) (Some symbols.CloseCurly) (pick (eqb b 44) (Some symbols.Comma) (pick (eqb b 59) (Some symbols.Semicolon) (pick (eqb b 126) (Some symbols.Tilde) None))))))) ≡ Some s in let is9 = subst P e is8 in choose (eqb b 91)
    (λ e. let P : Bool → Type 0 = λ t. pick t (Some symbols.OpenSquare) (pick (eqb b 93) (Some symbols.CloseSquare) (pick (eqb b 123) (Some symbols.OpenCurly) (pick (eqb b 125) (Some symbols.CloseCurly) (pick (eqb b 44) (Some symbols.Comma) (pick (eqb b 59) (Some symbols.Semicolon) (pick (eqb b 126) (Some symbols.Tilde) None)))))) ≡ Some s in ap symbol_text (sym (some_is symbols.OpenSquare s (subst P e is9))) ∙ ap (λ n. n ∷ []) (sym (eqb-true b 91 e)))
    (λ e. let P : Bool → Type 0 = λ t. pick t (Some symbols.OpenSquare) (pick (eqb b 93) (Some symbols.CloseSquare) (pick (eqb b 123) (Some symbols.OpenCurly) (pick (eqb b 125) (Some symbols.CloseCurly) (pick (eqb b 44) (Some symbols.Comma) (pick (eqb b 59) (Some symbols.Semicolon) (pick (eqb b 126) (Some symbols.Tilde) None)))))) ≡ Some s in let is10 = subst P e is9 in choose (eqb b 93)
    (λ e. let P : Bool → Type 0 = λ t. pick t (Some symbols.CloseSquare) (pick (eqb b 123) (Some symbols.OpenCurly) (pick (eqb b 125) (Some symbols.CloseCurly) (pick (eqb b 44) (Some symbols.Comma) (pick (eqb b 59) (Some symbols.Semicolon) (pick (eqb b 126) (Some symbols.Tilde) None))))) ≡ Some s in ap symbol_text (sym (some_is symbols.CloseSquare s (subst P e is10))) ∙ ap (λ n. n ∷ []) (sym (eqb-true b 93 e)))
    (λ e. let P : Bool → Type 0 = λ t. pick t (Some symbols.CloseSquare) (pick (eqb b 123) (Some symbols.OpenCurly) (pick (eqb b 125) (Some symbols.CloseCurly) (pick (eqb b 44) (Some symbols.Comma) (pick (eqb b 59) (Some symbols.Semicolon) (pick (eqb b 126) (Some symbols.Tilde) None))))) ≡ Some s in let is11 = subst P e is10 in choose (eqb b 123)
    (λ e. let P : Bool → Type 0 = λ t. pick t (Some symbols.OpenCurly) (pick (eqb b 125) (Some symbols.CloseCurly) (pick (eqb b 44) (Some symbols.Comma) (pick (eqb b 59) (Some symbols.Semicolon) (pick (eqb b 126) (Some symbols.Tilde) None)))) ≡ Some s in ap symbol_text (sym (some_is symbols.OpenCurly s (subst P e is11))) ∙ ap (λ n. n ∷ []) (sym (eqb-true b 123 e)))
    (λ e. let P : Bool → Type 0 = λ t. pick t (Some symbols.OpenCurly) (pick (eqb b 125) (Some symbols.CloseCurly) (pick (eqb b 44) (Some symbols.Comma) (pick (eqb b 59) (Some symbols.Semicolon) (pick (eqb b 126) (Some symbols.Tilde) None)))) ≡ Some s in let is12 = subst P e is11 in choose (eqb b 125)
    (λ e. let P : Bool → Type 0 = λ t. pick t (Some symbols.CloseCurly) (pick (eqb b 44) (Some symbols.Comma) (pick (eqb b 59) (Some symbols.Semicolon) (pick (eqb b 126) (Some symbols.Tilde) None))) ≡ Some s in ap symbol_text (sym (some_is symbols.CloseCurly s (subst P e is12))) ∙ ap (λ n. n ∷ []) (sym (eqb-true b 125 e)))
    (λ e. let P : Bool → Type 0 = λ t. pick t (Some symbols.CloseCurly) (pick (eqb b 44) (Some symbols.Comma) (pick (eqb b 59) (Some symbols.Semicolon) (pick (eqb b 126) (Some symbols.Tilde) None))) ≡ Some s in let is13 = subst P e is12 in choose (eqb b 44)
    (λ e. let P : Bool → Type 0 = λ t. pick t (Some symbols.Comma) (pick (eqb b 59) (Some symbols.Semicolon) (pick (eqb b 126) (Some symbols.Tilde) None)) ≡ Some s in ap symbol_text (sym (some_is symbols.Comma s (subst P e is13))) ∙ ap (λ n. n ∷ []) (sym (eqb-true b 44 e)))
    (λ e. let P : Bool → Type 0 = λ t. pick t (Some symbols.Comma) (pick (eqb b 59) (Some symbols.Semicolon) (pick (eqb b 126) (Some symbols.Tilde) None)) ≡ Some s in let is14 = subst P e is13 in choose (eqb b 59)
    (λ e. let P : Bool → Type 0 = λ t. pick t (Some symbols.Semicolon) (pick (eqb b 126) (Some symbols.Tilde) None) ≡ Some s in ap symbol_text (sym (some_is symbols.Semicolon s (subst P e is14))) ∙ ap (λ n. n ∷ []) (sym (eqb-true b 59 e)))
    (λ e. let P : Bool → Type 0 = λ t. pick t (Some symbols.Semicolon) (pick (eqb b 126) (Some symbols.Tilde) None) ≡ Some s in let is15 = subst P e is14 in choose (eqb b 126)
    (λ e. let P : Bool → Type 0 = λ t. pick t (Some symbols.Tilde) None ≡ Some s in ap symbol_text (sym (some_is symbols.Tilde s (subst P e is15))) ∙ ap (λ n. n ∷ []) (sym (eqb-true b 126 e)))
    (λ e. let P : Bool → Type 0 = λ t. pick t (Some symbols.Tilde) None ≡ Some s in let is16 = subst P e is15 in absurd (none_some s is16)))))))))))))))))

two_text : (b : ℕ) (s : Symbol) → symbol_with_equals b ≡ Some s → symbol_text s ≡ b ∷ 61 ∷ []
unfolding symbol_with_equals
two_text b s is =
    choose (eqb b 61)
    (λ e. let P : Bool → Type 0 = λ t. pick t (Some symbols.Equal) (pick (eqb b 33) (Some symbols.Differs) (pick (eqb b 60) (Some symbols.AtMost) (pick (eqb b 62) (Some symbols.AtLeast) None))) ≡ Some s in ap symbol_text (sym (some_is symbols.Equal s (subst P e is))) ∙ ap (λ n. n ∷ 61 ∷ []) (sym (eqb-true b 61 e)))
    (λ e. let P : Bool → Type 0 = λ t. pick t (Some symbols.Equal) (pick (eqb b 33) (Some symbols.Differs) (pick (eqb b 60) (Some symbols.AtMost) (pick (eqb b 62) (Some symbols.AtLeast) None))) ≡ Some s in let is1 = subst P e is in choose (eqb b 33)
    (λ e. let P : Bool → Type 0 = λ t. pick t (Some symbols.Differs) (pick (eqb b 60) (Some symbols.AtMost) (pick (eqb b 62) (Some symbols.AtLeast) None)) ≡ Some s in ap symbol_text (sym (some_is symbols.Differs s (subst P e is1))) ∙ ap (λ n. n ∷ 61 ∷ []) (sym (eqb-true b 33 e)))
    (λ e. let P : Bool → Type 0 = λ t. pick t (Some symbols.Differs) (pick (eqb b 60) (Some symbols.AtMost) (pick (eqb b 62) (Some symbols.AtLeast) None)) ≡ Some s in let is2 = subst P e is1 in choose (eqb b 60)
    (λ e. let P : Bool → Type 0 = λ t. pick t (Some symbols.AtMost) (pick (eqb b 62) (Some symbols.AtLeast) None) ≡ Some s in ap symbol_text (sym (some_is symbols.AtMost s (subst P e is2))) ∙ ap (λ n. n ∷ 61 ∷ []) (sym (eqb-true b 60 e)))
    (λ e. let P : Bool → Type 0 = λ t. pick t (Some symbols.AtMost) (pick (eqb b 62) (Some symbols.AtLeast) None) ≡ Some s in let is3 = subst P e is2 in choose (eqb b 62)
    (λ e. let P : Bool → Type 0 = λ t. pick t (Some symbols.AtLeast) None ≡ Some s in ap symbol_text (sym (some_is symbols.AtLeast s (subst P e is3))) ∙ ap (λ n. n ∷ 61 ∷ []) (sym (eqb-true b 62 e)))
    (λ e. let P : Bool → Type 0 = λ t. pick t (Some symbols.AtLeast) None ≡ Some s in let is4 = subst P e is3 in absurd (none_some s is4)))))

-- what a symbol is written by
pub data Written (s : Symbol) : Type 0 where
  One : (b : ℕ) → symbol_text s ≡ b ∷ [] → symbol_of b ≡ Some s → Written s
  Two : (b : ℕ) → symbol_text s ≡ b ∷ 61 ∷ [] → symbol_with_equals b ≡ Some s → Written s

pub written_by : (s : Symbol) → Written s
unfolding symbol_of symbol_with_equals
written_by symbols.Assign = One 61 refl refl
written_by symbols.Equal = Two 61 refl refl
written_by symbols.Differs = Two 33 refl refl
written_by symbols.Less = One 60 refl refl
written_by symbols.AtMost = Two 60 refl refl
written_by symbols.Greater = One 62 refl refl
written_by symbols.AtLeast = Two 62 refl refl
written_by symbols.Plus = One 43 refl refl
written_by symbols.Minus = One 45 refl refl
written_by symbols.Star = One 42 refl refl
written_by symbols.Slash = One 47 refl refl
written_by symbols.OpenRound = One 40 refl refl
written_by symbols.CloseRound = One 41 refl refl
written_by symbols.OpenSquare = One 91 refl refl
written_by symbols.CloseSquare = One 93 refl refl
written_by symbols.OpenCurly = One 123 refl refl
written_by symbols.CloseCurly = One 125 refl refl
written_by symbols.Comma = One 44 refl refl
written_by symbols.Semicolon = One 59 refl refl
written_by symbols.Tilde = One 126 refl refl

-- what reading a symbol gives, by cases
pub data SymbolRead (b : ℕ) (bs : List ℕ) (result : Option Found) : Type 0 where
  Double : (s : Symbol) (cs : List ℕ) → bs ≡ 61 ∷ cs → symbol_with_equals b ≡ Some s → result ≡ Some (ASymbol s, cs) → SymbolRead b bs result
  Single : (s : Symbol) → symbol_of b ≡ Some s → ((cs : List ℕ) → bs ≡ 61 ∷ cs → symbol_with_equals b ≡ None) → result ≡ Some (ASymbol s, bs) → SymbolRead b bs result
  Neither : symbol_of b ≡ None → ((cs : List ℕ) → bs ≡ 61 ∷ cs → symbol_with_equals b ≡ None) → result ≡ None → SymbolRead b bs result

single : (b : ℕ) (bs : List ℕ) (o : Option Symbol) → symbol_of b ≡ o → ((cs : List ℕ) → bs ≡ 61 ∷ cs → symbol_with_equals b ≡ None) → (r : Option Found) → r ≡ symbol_before o bs → SymbolRead b bs r
single b bs None is alone r same = Neither is alone same
single b bs (Some s) is alone r same = Single s is alone same

double : (b : ℕ) (bs : List ℕ) (p : Option Symbol) → symbol_with_equals b ≡ p → (r : Option Found) → r ≡ first_of_two (symbol_before p bs) (symbol_before (symbol_of b) (61 ∷ bs)) → SymbolRead b (61 ∷ bs) r
double b bs (Some s) is r same = Double s bs refl is same
double b bs None is r same = single b (61 ∷ bs) (symbol_of b) refl (λ cs e. is) r same

with_equals : (b c : ℕ) (bs : List ℕ) → eqb c 61 ≡ true → symbol_at b (c ∷ bs) ≡ first_of_two (symbol_before (symbol_with_equals b) bs) (symbol_before (symbol_of b) (c ∷ bs))
unfolding symbol_at
with_equals b c bs e = rw e refl

without_equals : (b c : ℕ) (bs : List ℕ) → eqb c 61 ≡ false → symbol_at b (c ∷ bs) ≡ symbol_before (symbol_of b) (c ∷ bs)
unfolding symbol_at
without_equals b c bs e = rw e refl

pub symbol_read : (b : ℕ) (bs : List ℕ) → SymbolRead b bs (symbol_at b bs)
unfolding symbol_at
symbol_read b [] = single b [] (symbol_of b) refl (λ cs e. cc) _ refl
symbol_read b (c ∷ bs) =
    choose (eqb c 61)
    (λ e.
    let P : ℕ → Type 0 = λ n. symbol_at b (n ∷ bs) ≡ first_of_two (symbol_before (symbol_with_equals b) bs) (symbol_before (symbol_of b) (n ∷ bs)) → SymbolRead b (n ∷ bs) (symbol_at b (n ∷ bs)) in
    let at : P c = subst P (sym (eqb-true c 61 e)) (λ same. double b bs (symbol_with_equals b) refl _ same) in
    at (with_equals b c bs e))
    (λ e. single b (c ∷ bs) (symbol_of b) refl (λ cs is. let c61 : c ≡ 61 = cons_head c 61 bs cs is in absurd (differ (sym (eq-eqb c 61 c61) ∙ e))) _ (without_equals b c bs e))

wav_none : (bs r : List ℕ) → wav_at bs ≡ None → bs ≡ 37 ∷ 119 ∷ 97 ∷ 118 ∷ r → ⊥
unfolding wav_at
wav_none bs r never is = let some : wav_at (37 ∷ 119 ∷ 97 ∷ 118 ∷ r) ≡ None = sym (ap wav_at is) ∙ never in cc

none_is : (b : ℕ) (s : Symbol) (f : ℕ → Option Symbol) (d : ℕ) → f b ≡ None → f d ≡ Some s → d ≡ b → ⊥
none_is b s f d never is same = none_some s (sym never ∙ ap f (sym same) ∙ is)

-- no spelling is longer than the limit
module _ (b : ℕ) (bs : List ℕ) (sign : class_of b ≡ Sign) (no_wav : wav_at (b ∷ bs) ≡ None) where
  among_symbols : (s : Symbol) (more behind : List ℕ) → b ∷ bs ≡ more ++ behind → more ≡ symbol_text s → Written s → (limit : ℕ) → 1 ≤ limit → ((s : Symbol) (cs : List ℕ) → symbol_with_equals b ≡ Some s → bs ≡ 61 ∷ cs → 2 ≤ limit) → length more ≤ limit
  among_symbols s more behind is text (One c form symbol) limit low two = let size = ap length (text ∙ form) in omega arith
  among_symbols s more behind is text (Two c form symbol) limit low two =
      let size = ap length (text ∙ form) in
      let whole : b ∷ bs ≡ c ∷ (61 ∷ behind) = is ∙ ap (λ (l : List ℕ). l ++ behind) (text ∙ form) in
      let same = cons_head b c bs (61 ∷ behind) whole in
      let more_than = two s behind (ap symbol_with_equals same ∙ symbol) (cons_tail b c bs (61 ∷ behind) whole) in
      omega arith

  among : (other : Shape) (more behind : List ℕ) → b ∷ bs ≡ more ++ behind → SpellsShape other more → (limit : ℕ) → 1 ≤ limit → ((s : Symbol) (cs : List ℕ) → symbol_with_equals b ≡ Some s → bs ≡ 61 ∷ cs → 2 ≤ limit) → length more ≤ limit
  among (ASymbol s) more behind is text limit low two = among_symbols s more behind is text (written_by s) limit low two
  among AWav more behind is text limit low two = absurd (wav_none (b ∷ bs) behind no_wav (is ∙ ap (λ (l : List ℕ). l ++ behind) text))
  among other more behind is text limit low two = let k : Sign ≡ class other = sym sign ∙ first_of other b bs more behind text is in absurd cc

  found_by : (f : Found) → SymbolRead b bs (Some f) → FoundAt (b ∷ bs) f
  found_by f (Double s cs is symbol same) =
      let f_is : (ASymbol s, cs) ≡ f = found_is (ASymbol s, cs) f (sym same) in
      subst (FoundAt (b ∷ bs)) f_is (record {
        text = b ∷ 61 ∷ [];
        split = ap (λ (l : List ℕ). b ∷ l) is;
        spelled = sym (two_text b s symbol);
        longest = λ other more behind e t. among other more behind e t 2 (omega arith) (λ z zs h w. omega arith);
      })
    where
      found_is : (a c : Found) → let x : Option Found = Some a in let y : Option Found = Some c in x ≡ y → a ≡ c
      found_is a c is = cc
  found_by f (Single s symbol alone same) =
      let f_is : (ASymbol s, bs) ≡ f = found_is (ASymbol s, bs) f (sym same) in
      subst (FoundAt (b ∷ bs)) f_is (record {
        text = b ∷ [];
        split = refl;
        spelled = sym (one_text b s symbol);
        longest = λ other more behind e t. among other more behind e t 1 (omega arith) (λ z zs h w. absurd (none_some z (sym (alone zs w) ∙ h)));
      })
    where
      found_is : (a c : Found) → let x : Option Found = Some a in let y : Option Found = Some c in x ≡ y → a ≡ c
      found_is a c is = cc
  found_by f (Neither never alone same) = absurd (some_never f same)
    where
      some_never : (f : Found) → let x : Option Found = Some f in x ≡ None → ⊥
      some_never f is = cc

  no_symbol : (s : Symbol) (more behind : List ℕ) → b ∷ bs ≡ more ++ behind → more ≡ symbol_text s → Written s → symbol_of b ≡ None → ((cs : List ℕ) → bs ≡ 61 ∷ cs → symbol_with_equals b ≡ None) → ⊥
  no_symbol s more behind is text (One c form symbol) never alone =
      let whole : b ∷ bs ≡ c ∷ behind = is ∙ ap (λ (l : List ℕ). l ++ behind) (text ∙ form) in
      none_is b s symbol_of c never symbol (sym (cons_head b c bs behind whole))
  no_symbol s more behind is text (Two c form symbol) never alone =
      let whole : b ∷ bs ≡ c ∷ (61 ∷ behind) = is ∙ ap (λ (l : List ℕ). l ++ behind) (text ∙ form) in
      none_is b s symbol_with_equals c (alone behind (cons_tail b c bs (61 ∷ behind) whole)) symbol (sym (cons_head b c bs (61 ∷ behind) whole))

  -- where neither stands, nothing is spelled
  nothing_spelled : symbol_of b ≡ None → ((cs : List ℕ) → bs ≡ 61 ∷ cs → symbol_with_equals b ≡ None) → (other : Shape) (more behind : List ℕ) → b ∷ bs ≡ more ++ behind → SpellsShape other more → ⊥
  nothing_spelled never alone (ASymbol s) more behind is text = no_symbol s more behind is text (written_by s) never alone
  nothing_spelled never alone AWav more behind is text = wav_none (b ∷ bs) behind no_wav (is ∙ ap (λ (l : List ℕ). l ++ behind) text)
  nothing_spelled never alone other more behind is text = let k : Sign ≡ class other = sym sign ∙ first_of other b bs more behind text is in cc

pub symbol_found : (b : ℕ) (bs : List ℕ) → class_of b ≡ Sign → wav_at (b ∷ bs) ≡ None → (f : Found) → symbol_at b bs ≡ Some f → FoundAt (b ∷ bs) f
symbol_found b bs sign no_wav f is = let P : Option Found → Type 0 = λ r. SymbolRead b bs r in found_by b bs sign no_wav f (subst P is (symbol_read b bs))

pub symbol_nothing : (b : ℕ) (bs : List ℕ) → class_of b ≡ Sign → wav_at (b ∷ bs) ≡ None → symbol_at b bs ≡ None → (other : Shape) (more behind : List ℕ) → b ∷ bs ≡ more ++ behind → SpellsShape other more → ⊥
symbol_nothing b bs sign no_wav is = let P : Option Found → Type 0 = λ r. SymbolRead b bs r in none_by (subst P is (symbol_read b bs))
  where
    found_never : (f : Found) → let x : Option Found = None in x ≡ Some f → ⊥
    found_never f is = cc

    none_by : SymbolRead b bs None → (other : Shape) (more behind : List ℕ) → b ∷ bs ≡ more ++ behind → SpellsShape other more → ⊥
    none_by (Double s cs at symbol same) = absurd (found_never (ASymbol s, cs) same)
    none_by (Single s symbol alone same) = absurd (found_never (ASymbol s, bs) same)
    none_by (Neither never alone same) = nothing_spelled b bs sign no_wav never alone
