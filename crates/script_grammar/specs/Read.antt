-- Reading a list of tokens from left to right: a value and the tokens behind it, or how many tokens are left at the
-- fault.
use Rattle.std.specs.Prelude.{ℕ, zero, suc, List, [], ◌∷◌, length, Bool, true, false, Result, Ok, Err}
use Rattle.script_lex.specs.declared.token.TokenKind.{TokenKind}
use Rattle.script_grammar.specs.Tree.{Sort, Tree, Many, none, more}

-- what reading gives: a value and the tokens behind it, or how many tokens are left at the fault
abbrev pub Read : Type 0 → Type 0
Read T = Result (T × List TokenKind) ℕ

-- a rule of reading: from the tokens left it gives a value and the tokens behind it, or stops at a fault
abbrev pub Reader : Type 0 → Type 0
Reader T = List TokenKind → Read T

infixl 10 ◌>>=◌
-- reading goes on with what was read, unless it stopped at a fault
abbrev pub ◌>>=◌ : {A B : Type 0} → Result A ℕ → (A → Result B ℕ) → Result B ℕ
(Ok x) >>= f = f x
(Err e) >>= f = Err e

-- ends a rule of reading: f is applied to the value that was read, and the tokens behind it stay
abbrev pub made : {A B : Type 0} → (A → B) → A × List TokenKind → Read B
made f x = Ok (f x.0, x.1)

-- reads two things one behind the other, by f and then by g, and gives them as a pair
abbrev pub both : {A B : Type 0} → Reader A → Reader B → Reader (A × B)
both f g w = f w >>= λ x. g x.1 >>= λ y. Ok ((x.0, y.0), y.1)

-- whether a token is left and the next one is of this kind; nothing is read
abbrev pub next : (TokenKind → Bool) → List TokenKind → Bool
next is [] = false
next is (k ∷ w) = is k

-- reads one token, which must be of this kind; otherwise reading stops there
abbrev pub expect : (TokenKind → Bool) → Reader (Unit {0})
expect is [] = Err 0
expect is (k ∷ w) =
    elim (is k) [
      | true ↦ Ok (tt, w)
      | false ↦ Err (suc (length w))
    ]

-- reads a token of this kind if one stands first, and tells whether it did
abbrev pub perhaps : (TokenKind → Bool) → Reader Bool
perhaps is [] = Ok (false, [])
perhaps is (k ∷ w) =
    elim (is k) [
      | true ↦ Ok (true, w)
      | false ↦ Ok (false, k ∷ w)
    ]

-- items as long as the tokens pass a test, at most n
unfoldable pub repeat : {s : Sort} → (List TokenKind → Bool) → Reader (Tree s) → ℕ → Reader (Tree (Many s))
repeat test item zero w = Ok (none, w)
repeat test item (suc n) w =
    elim (test w) [
      | true ↦ (item w >>= λ x. repeat test item n x.1 >>= made (more x.0))
      | false ↦ Ok (none, w)
    ]

-- items as long as the tokens pass a test
unfoldable pub many : {s : Sort} → (List TokenKind → Bool) → Reader (Tree s) → Reader (Tree (Many s))
many test item w = repeat test item (length w) w

-- an item behind a token
unfoldable pub behind : {T : Type 0} → (TokenKind → Bool) → Reader T → Reader T
behind is item w = expect is w >>= λ x. item x.1

-- a first item, and others, each behind a token
unfoldable pub chain : {s : Sort} → (TokenKind → Bool) → Reader (Tree s) → Reader (Tree s × Tree (Many s))
chain is item w = both item (many (next is) (behind is item)) w

-- items with a comma between, up to the closing token; there may be no item
unfoldable pub closed : {s : Sort} → (TokenKind → Bool) → (TokenKind → Bool) → Reader (Tree s) → Reader (Tree (Many s))
closed comma close item w =
    elim (next close w) [
      | true ↦ (expect close w >>= λ x. Ok (none, x.1))
      | false ↦ (both (chain comma item) (expect close) w >>= made (λ x. more x.0.0 x.0.1))
    ]
