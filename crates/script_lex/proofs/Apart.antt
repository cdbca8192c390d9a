-- Taking readings apart.
use Rattle.std.proofs.Common.{◌≡◌, ℕ, ◌+◌, Bool, true, false, List, ◌∷◌, ◌++◌, length, sym, ap, ◌∙◌, Ok, Err, if◌then◌else◌, length-append}
use Rattle.script_lex.specs.Spelling.{IsLongest, LexStop, Bad, OpenText, Large, FaultAt}
use Rattle.script_lex.specs.Reading.{Found, Read, front}
use Rattle.script_lex.proofs.Fronts.{front_is}

-- one of two readings
abbrev pub chosen : Bool → Read → Read → Read
chosen t x y = if t then x else y

abbrev pub picked : Bool → Found → Found → Found
picked t x y = if t then x else y

-- what is found is the longest at the front of bytes
abbrev pub FoundAt : List ℕ → Found → Type 0
FoundAt bytes found = IsLongest found.0 bytes found.1

-- a fault that stands at the front without a shape
abbrev pub StopsAt : LexStop → List ℕ → Type 0
StopsAt (Bad left) bytes = FaultAt (Bad left) bytes
StopsAt (OpenText left) bytes = FaultAt (OpenText left) bytes
StopsAt (Large left) bytes = ⊥

found_in : Found → Read → Found
found_in d (Ok x) = x
found_in d (Err e) = d

pub ok_is : (a b : Found) → let x : Read = Ok a in let y : Read = Ok b in x ≡ y → a ≡ b
unfolding found_in
ok_is a b is = ap (found_in a) is

pub differ : true ≡ false → ⊥
differ h = cc

pub cons_tail : (x y : ℕ) (xs ys : List ℕ) → x ∷ xs ≡ y ∷ ys → xs ≡ ys
cons_tail x y xs ys is = cc

pub cons_head : (x y : ℕ) (xs ys : List ℕ) → x ∷ xs ≡ y ∷ ys → x ≡ y
cons_head x y xs ys is = cc

-- two fronts before the same rest are one
pub same_front : (x y rest : List ℕ) → x ++ rest ≡ y ++ rest → x ≡ y
same_front x y rest is = sym (front_is x rest) ∙ ap (λ l. front l rest) is ∙ front_is y rest

pub lengths : (x r y s : List ℕ) → x ++ r ≡ y ++ s → length x + length r ≡ length y + length s
lengths x r y s is = sym (length-append x r) ∙ ap length is ∙ length-append y s
