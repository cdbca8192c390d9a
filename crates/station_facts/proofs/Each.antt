-- What is written piece by piece, and item by item.
use Rattle.std.proofs.Common.{◌≡◌, ℕ, ◌+◌, ◌<◌, ◌≤◌, List, [], ◌∷◌, ◌++◌, length, drop, get_or, refl, sym, ap, ◌∙◌, append_assoc}
use Rattle.std.proofs.lemmas.List.{drop_all, drop_more, append-nil}
use Rattle.json.specs.Token.{Token}
use Rattle.json.specs.Print.{print}
use Rattle.json.specs.Written.{Written}
use Rattle.station_facts.specs.Members.{Adds, by_threes, each, paired}

-- one after another
pub join : {a b c : Written} {xs ys : List Token} → Adds a b xs → Adds b c ys → Adds a c (xs ++ ys)
join {a} {b} {c} {xs} {ys} one two = record {
  tokens = two.tokens ∙ ap (λ t. t ++ ys) one.tokens ∙ append_assoc a.tokens xs ys;
  before = two.before ∙ one.before;
}

-- nothing
pub nothing : (a : Written) → Adds a a []
nothing a = record { tokens = sym (append-nil a.tokens); before = refl }

pub adds_same : {a b : Written} {xs ys : List Token} → Adds a b xs → xs ≡ ys → Adds a b ys
adds_same {a} {b} {xs} {ys} adds is = record { tokens = adds.tokens ∙ ap (λ t. a.tokens ++ t) is; before = adds.before }

-- the item at a place stands before those behind it
pub at_place : {A : Type 0} (xs : List A) (i : ℕ) (x : A) → i < length xs → x ≡ get_or xs i x → x ∷ drop (i + 1) xs ≡ drop i xs
at_place xs i x here is = ap (λ y. y ∷ drop (i + 1) xs) is ∙ sym (drop_more xs i x here)

-- with the items from a place on, all are written
pub record Goes {A : Type 0} (text : A → List Token) (xs : List A) (i : ℕ) (old new : Written) : Type 0 where
  pub tokens : new.tokens ++ each text (drop i xs) ≡ old.tokens ++ each text xs
  pub before : new.before ≡ old.before

pub goes_on : {A : Type 0} (text : A → List Token) (xs : List A) (i : ℕ) (x : A) (a b c : Written) → i < length xs
    → x ≡ get_or xs i x → Goes text xs i a b → Adds b c (text x) → Goes text xs (i + 1) a c
goes_on text xs i x a b c here is so_far more = record {
  tokens = ap (λ t. t ++ each text (drop (i + 1) xs)) more.tokens
      ∙ append_assoc b.tokens (text x) (each text (drop (i + 1) xs))
      ∙ ap (λ l. b.tokens ++ each text l) (at_place xs i x here is) ∙ so_far.tokens;
  before = more.before ∙ so_far.before;
}

pub goes_last : {A : Type 0} (text : A → List Token) (xs : List A) (i : ℕ) (a b : Written) → length xs ≤ i
    → Goes text xs i a b → Adds a b (each text xs)
goes_last text xs i a b all so_far = record {
  tokens = sym (append-nil b.tokens) ∙ ap (λ l. b.tokens ++ each text l) (sym (drop_all i xs all)) ∙ so_far.tokens;
  before = so_far.before;
}

-- the same of two lists
pub record Pairs {A B : Type 0} (text : A → B → List Token) (xs : List A) (ys : List B) (i : ℕ) (old new : Written) : Type 0 where
  pub tokens : new.tokens ++ paired text (drop i xs) (drop i ys) ≡ old.tokens ++ paired text xs ys
  pub before : new.before ≡ old.before

-- the same of three lists
pub record Threes {A B C : Type 0} (text : A → B → C → List Token) (xs : List A) (ys : List B) (zs : List C) (i : ℕ) (old new : Written) : Type 0 where
  pub tokens : new.tokens ++ by_threes text (drop i xs) (drop i ys) (drop i zs) ≡ old.tokens ++ by_threes text xs ys zs
  pub before : new.before ≡ old.before

no_second : {A B C : Type 0} (text : A → B → C → List Token) (xs : List A) (zs : List C) → by_threes text xs [] zs ≡ []
no_second text [] zs = refl
no_second text (x ∷ xs) zs = refl

-- a writer that had nothing holds these tokens alone
pub alone : (told : List ℕ) (a b : Written) (ts : List Token) → a.before ≡ [] → a.tokens ≡ [] → Adds a b ts
    → told ≡ b.before ++ print b.tokens → told ≡ print ts
alone told a b ts before tokens adds is =
    is ∙ ap (λ l. l ++ print b.tokens) (adds.before ∙ before)
    ∙ ap print (adds.tokens ∙ ap (λ l. l ++ ts) tokens)
