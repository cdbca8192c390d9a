-- Members of an object of JSON, as the tokens of the kit's `json`.
use Rattle.std.specs.Prelude.{◌≡◌, ℕ, Bool, true, false, List, [], ◌∷◌, ◌++◌, codes, decimal}
use Rattle.json.specs.Token.{Token, begin_object, end_object, begin_array, end_array, key, string, number, boolean}
use Rattle.json.specs.Written.{Written}
use Rattle.liq_base.specs.Kinds.{channels_of}
use Rattle.liq_base.specs.declared.memory.Kind.{Kind}

-- behind the tokens that were written before, just these were written
pub record Adds (old new : Written) (more : List Token) : Type 0 where
  pub tokens : new.tokens ≡ old.tokens ++ more
  pub before : new.before ≡ old.before

-- the tokens of a member of a JSON object that is a text: its name and the text
abbrev pub text_member : (name text : List ℕ) → List Token
text_member name text = key name ∷ string text ∷ []

-- the tokens of a member of a JSON object that is a number: its name and the number
abbrev pub number_member : (name : List ℕ) → ℕ → List Token
number_member name n = key name ∷ number (decimal n) ∷ []

-- the tokens of a member of a JSON object that is true or false: its name and the value
abbrev pub flag_member : (name : List ℕ) → Bool → List Token
flag_member name b = key name ∷ boolean b ∷ []

-- the tokens of each item of a list, one after another; `text` has those of one item
abbrev pub each : {A : Type 0} → (A → List Token) → List A → List Token
each text [] = []
each text (x ∷ xs) = text x ++ each text xs

-- the tokens of a member of a JSON object that is a list; `text` has the tokens of each item
abbrev pub list_member : {A : Type 0} → (name : List ℕ) → (A → List Token) → List A → List Token
list_member name text xs = key name ∷ begin_array ∷ (each text xs ++ end_array ∷ [])

-- the tokens of each pair of items at one place of two lists, one after another; `text` has those of one pair
abbrev pub paired : {A B : Type 0} → (A → B → List Token) → List A → List B → List Token
paired text [] ys = []
paired text (x ∷ xs) [] = []
paired text (x ∷ xs) (y ∷ ys) = text x y ++ paired text xs ys

-- the tokens of a member of a JSON object that is a list of what `text` has for each pair of items at one place of two
-- lists
abbrev pub paired_member : {A B : Type 0} → (name : List ℕ) → (A → B → List Token) → List A → List B → List Token
paired_member name text xs ys = key name ∷ begin_array ∷ (paired text xs ys ++ end_array ∷ [])

-- the tokens of each three items at one place of three lists, one after another; `text` has those of one three
abbrev pub by_threes : {A B C : Type 0} → (A → B → C → List Token) → List A → List B → List C → List Token
by_threes text [] ys zs = []
by_threes text (x ∷ xs) [] zs = []
by_threes text (x ∷ xs) (y ∷ ys) [] = []
by_threes text (x ∷ xs) (y ∷ ys) (z ∷ zs) = text x y z ++ by_threes text xs ys zs

-- the tokens of a member of a JSON object that is a list of what `text` has for each three items at one place of three
-- lists
abbrev pub member_by_threes : {A B C : Type 0} → (name : List ℕ) → (A → B → C → List Token) → List A → List B → List C
    → List Token
member_by_threes name text xs ys zs = key name ∷ begin_array ∷ (by_threes text xs ys zs ++ end_array ∷ [])

-- the tokens of a JSON object of these members
abbrev pub object : List Token → List Token
object members = begin_object ∷ (members ++ end_object ∷ [])

-- the member `sides`: how many channels a sound of this kind has
abbrev pub kind_member : Kind → List Token
kind_member kind = number_member (codes "sides") (channels_of kind)

-- how many bits a sample has: 24 if it is wide, and otherwise 16
abbrev pub bits_of : (wide : Bool) → ℕ
bits_of true = 24
bits_of false = 16
