-- What was found under names, one after another.
use Rattle.std.proofs.Common.{◌≡◌, ℕ, ◌+◌, ◌<◌, List, [], ◌∷◌, ◌++◌, take, get_or, refl, sym, ap, ◌∙◌, subst, arith, length}
use Rattle.std.proofs.lemmas.List.{take_more}
use Rattle.liq_base.specs.Shelves.{OnlyRead, ShelfTold}
use Rattle.plan_core.specs.declared.plan.Plan.{Plan}
use Rattle.sound_looks.specs.Looks.{IsListLook}
use Rattle.sound_looks.specs.declared.list.ListLook.{ListLook}
use Rattle.station_facts.specs.Files.{AreFound, AreListLooks, HasNoFiles, lists_of, once, sounds_of}

found_push : {A : Type 0} (P : List ℕ → (old new : ShelfTold) → A → Type 0) (names : List (List ℕ)) (looks : List A)
    (name : List ℕ) (look : A) (a b c : ShelfTold) → AreFound P names a b looks → P name b c look → OnlyRead b c
    → AreFound P (names ++ name ∷ []) a c (looks ++ look ∷ [])
found_push P [] [] name look a b c are is read =
    (c, subst (λ (s : ShelfTold). P name s c look) are is, subst (λ (s : ShelfTold). OnlyRead s c) are read, refl)
found_push P (n ∷ names) [] name look a b c are is read = absurd are
found_push P [] (l ∷ looks) name look a b c are is read = absurd are
found_push P (n ∷ names) (l ∷ looks) name look a b c (mid, first, only, rest) is read =
    (mid, first, only, found_push P names looks name look mid b c rest is read)

-- reads go on
pub read_on : (a b c : ShelfTold) → OnlyRead a b → OnlyRead b c → OnlyRead a c
read_on a b c one two = record {
  files = two.files ∙ one.files;
  created = two.created ∙ one.created;
  closed = two.closed ∙ one.closed;
  reads = let x = one.reads in let y = two.reads in omega arith;
  writes = let x = one.writes in let y = two.writes in omega arith;
}

pub only_read_same : (a : ShelfTold) → OnlyRead a a
only_read_same a = record { files = refl; created = refl; closed = refl; reads = omega arith; writes = omega arith }

-- so far, and no other call of the shelf
pub record SoFar {A : Type 0} (P : List ℕ → (old new : ShelfTold) → A → Type 0) (names : List (List ℕ)) (i : ℕ) (old new : ShelfTold)
    (looks : List A) : Type 0 where
  pub read : OnlyRead old new
  pub are : AreFound P (take i names) old new looks

pub none_found : {A : Type 0} (P : List ℕ → (old new : ShelfTold) → A → Type 0) (names : List (List ℕ)) (a : ShelfTold) → SoFar P names 0 a a []
none_found P names a = record { read = only_read_same a; are = refl }

pub found_on : {A : Type 0} (P : List ℕ → (old new : ShelfTold) → A → Type 0) (names : List (List ℕ)) (i : ℕ) (name : List ℕ) (look : A)
    (looks more : List A) (a b c : ShelfTold) → i < length names → name ≡ get_or names i name → SoFar P names i a b looks → P name b c look
    → OnlyRead b c → more ≡ looks ++ look ∷ [] → SoFar P names (i + 1) a c more
found_on P names i name look looks more a b c here is so_far found read pushed = record {
  read = read_on a b c so_far.read read;
  are = subst (λ (l : List _). AreFound P (take (i + 1) names) a c l) (sym pushed)
      (subst (λ (l : List (List ℕ)). AreFound P l a c (looks ++ look ∷ []))
      (ap (λ (n : List ℕ). take i names ++ n ∷ []) is ∙ sym (take_more names i name here))
      (found_push P (take i names) looks name look a b c so_far.are found read));
}

-- nothing is found under no names
found_none : {A : Type 0} (P : List ℕ → (old new : ShelfTold) → A → Type 0) (names : List (List ℕ)) (a b : ShelfTold) (looks : List A)
    → names ≡ [] → AreFound P names a b looks → looks ≡ []
found_none P [] a b [] none are = refl
found_none P [] a b (look ∷ looks) none are = absurd are
found_none P (name ∷ names) a b looks none are = absurd cc

none_sounds : (plan : Plan) (looks : List ListLook) → HasNoFiles plan → looks ≡ [] → sounds_of plan looks ≡ []
none_sounds plan looks none is = ap (sounds_of plan) is ∙ ap (λ (names : List (List ℕ)). once (names ++ [])) none.1

-- the lists that were asked for and their looks, the sounds that these give, and a shelf that stays at each if it is asked for none
pub none_asked : {S : Type 0} {s t u : S} (plan : Plan) (names keys sounds sound_keys : List (List ℕ)) (looks given : List ListLook) (a b : ShelfTold)
    → (names ≡ [] → t ≡ s) → (sounds ≡ [] → u ≡ t) → names ≡ keys → keys ≡ lists_of plan → AreListLooks names a b looks
    → sounds ≡ sound_keys → sound_keys ≡ sounds_of plan given → given ≡ looks → HasNoFiles plan → u ≡ s
none_asked plan names keys sounds sound_keys looks given a b lists_kept sounds_kept named listed found told all same none =
    let no_lists : names ≡ [] = named ∙ listed ∙ ap once none.0 in
    let no_looks : given ≡ [] = same ∙ found_none IsListLook names a b looks no_lists found in
    sounds_kept (told ∙ all ∙ none_sounds plan given none no_looks) ∙ lists_kept no_lists
