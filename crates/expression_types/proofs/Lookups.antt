-- Searches for what stands at a token.
use Rattle.std.proofs.Common.{◌≡◌, ◌∙◌, sym, ap, refl, ℕ, ◌+◌, ◌<◌, ◌≤◌, length, List, [], ◌∷◌, ◌++◌, drop, get_or, map, Some, None, Option, Bor, Bool, true, false, cond, not, nat_eq, arith}
use Rattle.std.proofs.lemmas.List.{drop_more, length_push}
use Rattle.std.proofs.lemmas.List.Folds.{find_at, position_or_len_push}
use Rattle.std.proofs.lemmas.List.Sums.{prefix_len-le-length}
use Rattle.std.proofs.lemmas.Option.{slice_get_past, slice_get-get_or}
use Rattle.std.specs.List.{HoldsAt, find, position, position_or_len}
use Rattle.std.specs.Option.{option_and_then, option_or}
use Rattle.std.specs.Prelude.{IfSome, MatchOption, option_map, slice_get}
use Rattle.liq_base.specs.At.{at_token}
use Rattle.typing_rules.specs.Scripts.{Targets}
use Rattle.typing_rules.specs.Scoping.{target_in}
use Rattle.name_scope.specs.Noted.{resolved}
use Rattle.name_scope.specs.declared.notes.Resolved.{Resolved}
use Rattle.type_terms.specs.Term.{Term, variable}
use Rattle.type_steps.specs.Environment.{Known, value, function, term_at, term_before, or_else}
use Rattle.expression_types.specs.declared.environment.TypedName.{TypedName}
use Rattle.expression_types.specs.declared.environment.KnownDef.{KnownDef}
use Rattle.expression_types.specs.declared.environment.Known.{Known as AKnown}
use Rattle.expression_types.specs.declared.environment.Known.TheVariants as known
use Rattle.expression_types.specs.Seen.{def_known, known_seen, newest_first, types_seen}
use Rattle.expression_types.specs.Tables.{ArePlaces, def_seen, newest_number, number_known}

-- ---- targets

-- one more name, from the last on
pub table_more : (xs : List Resolved) (i m : ℕ) (x : Resolved) (old new : Targets) → m ≡ i + 1 → i < length xs → x ≡ get_or xs i x → ((t : ℕ) → old t ≡ target_in (map resolved (drop m xs)) t) → ((t : ℕ) → new t ≡ cond (nat_eq x.at t) (Some x.target) (old t)) → (t : ℕ) → new t ≡ target_in (map resolved (drop i xs)) t
table_more xs i m x old new one lt is before more t =
    more t ∙ ap (λ o. cond (nat_eq x.at t) (Some x.target) o) (before t ∙ ap (λ n. target_in (map resolved (drop n xs)) t) one)
    ∙ ap (λ (y : Resolved). target_in (map resolved (y ∷ drop (i + 1) xs)) t) is
    ∙ sym (ap (λ l. target_in (map resolved l) t) (drop_more xs i x lt))

pub same_targets : (f g : Targets) → ((t : ℕ) → f t ≡ g t) → f ≡ g
same_targets f g h = λ i t. h t i

-- ---- bindings

abbrev pub terms_from : ℕ → List TypedName → Option Term
terms_from t xs = term_at t (types_seen xs)

-- ---- defs

def_by_place : (t : ℕ) (ds : List KnownDef) → def_seen t ds ≡ find (λ d. nat_eq d.at t) ds
def_by_place t [] = refl
def_by_place t (d ∷ ds) = ap (λ (o : Option KnownDef). cond (nat_eq d.at t) (Some d) o) (def_by_place t ds)

find_by_position : {X : Type 0} (p : X → Bool) (xs : List X) → option_and_then (λ i. slice_get xs i) (position p xs) ≡ find p xs
find_by_position p xs = grind (arith, find_at p xs, slice_get_past xs (position_or_len p xs))

position_push : {X : Type 0} (p : X → Bool) (xs : List X) (y : X) → position p (xs ++ y ∷ []) ≡ option_or (position p xs) (cond (p y) (Some (length xs)) None)
position_push p xs y = grind (arith, position_or_len_push p xs y, length_push xs y, prefix_len-le-length (λ x. not (p x)) xs)

-- what stands at the place of a token
pub def_placed : (t : ℕ) (ds : List KnownDef) (places : List (Option ℕ)) (o : Option ℕ) → ArePlaces places ds → o ≡ at_token t places → option_and_then (λ i. slice_get ds i) o ≡ def_seen t ds
def_placed t ds places o table is =
    ap (λ (p : Option ℕ). option_and_then (λ i. slice_get ds i) p) (is ∙ table t) ∙ find_by_position (λ d. nat_eq d.at t) ds ∙ sym (def_by_place t ds)

pub def_at_place : (o : Option (Bor KnownDef)) (ds : List KnownDef) (i : ℕ) → IfSome o (λ x. x.now ≡ get_or ds i x.now) → MatchOption o (length ds ≤ i) (λ x. (i < length ds) × HoldsAt {X = KnownDef} (λ y. x.now ≡ y) ds i) → option_map (λ x. x.now) o ≡ slice_get ds i
def_at_place None ds i is there = sym (slice_get_past ds i there)
def_at_place (Some x) ds i is there = ap (λ (d : KnownDef). Some d) is ∙ sym (slice_get-get_or ds i x.now there.0)

-- one def more
pub places_more : (ds ls : List KnownDef) (d : KnownDef) (place : ℕ) (old new : List (Option ℕ)) → ls ≡ ds ++ d ∷ [] → place ≡ length ds → ArePlaces old ds → ((t : ℕ) → at_token t new ≡ option_or (at_token t old) (cond (nat_eq d.at t) (Some place) None)) → ArePlaces new ls
places_more ds ls d place old new all last before noted t =
    noted t ∙ ap (λ (o : Option ℕ). option_or o (cond (nat_eq d.at t) (Some place) None)) (before t)
    ∙ ap (λ (n : ℕ). option_or (position (λ x. nat_eq x.at t) ds) (cond (nat_eq d.at t) (Some n) None)) last
    ∙ sym (position_push (λ x. nat_eq x.at t) ds d) ∙ ap (λ (l : List KnownDef). position (λ x. nat_eq x.at t) l) (sym all)

-- ---- the newest binding

or_none : (o : Option ℕ) → option_or o None ≡ o
or_none None = refl
or_none (Some n) = refl

or_both : (o p q : Option ℕ) → option_or (option_or o p) q ≡ option_or o (option_or p q)
or_both None p q = refl
or_both (Some n) p q = refl

-- the number behind one more binding
pub newest_last : (t : ℕ) (ks : List AKnown) (k : AKnown) → newest_number t (ks ++ k ∷ []) ≡ option_or (number_known t k) (newest_number t ks)
newest_last t [] k = sym (or_none (number_known t k))
newest_last t (c ∷ ks) k = ap (λ o. option_or o (number_known t c)) (newest_last t ks k) ∙ or_both (number_known t k) (newest_number t ks) (number_known t c)

pub numbers_more : (ks ls : List AKnown) (k : AKnown) (old new : ℕ → Option ℕ) → ls ≡ ks ++ k ∷ [] → ((t : ℕ) → old t ≡ newest_number t ks) → ((t : ℕ) → new t ≡ option_or (number_known t k) (old t)) → (t : ℕ) → new t ≡ newest_number t ls
numbers_more ks ls k old new all before more t = more t ∙ ap (option_or (number_known t k)) (before t) ∙ sym (newest_last t ks k) ∙ ap (newest_number t) (sym all)

-- the newest binding is that of the environment
later_first : (t : ℕ) (xs ys : List Known) → term_before t (xs ++ ys) ≡ or_else (term_before t xs) (term_before t ys)
later_first t [] ys = refl
later_first t (value x u ∷ xs) ys = by_token (nat_eq x t) (later_first t xs ys) where
  by_token : (b : Bool) → term_before t (xs ++ ys) ≡ or_else (term_before t xs) (term_before t ys) → cond b (Some u) (term_before t (xs ++ ys)) ≡ or_else (cond b (Some u) (term_before t xs)) (term_before t ys)
  by_token true e = refl
  by_token false e = e
later_first t (function d us ∷ xs) ys = later_first t xs ys

variable_or : (o p : Option ℕ) → option_map variable (option_or o p) ≡ or_else (option_map variable o) (option_map variable p)
variable_or None p = refl
variable_or (Some n) p = refl

known_var : (t : ℕ) (ds : List KnownDef) (k : AKnown) → option_map variable (number_known t k) ≡ term_before t (known_seen ds k)
known_var t ds (known.Value n) = by_token (nat_eq n.at t) where
  by_token : (b : Bool) → option_map variable (cond b (Some n.var) None) ≡ cond b (Some (variable n.var)) None
  by_token true = refl
  by_token false = refl
known_var t ds (known.Function i) = no_var (slice_get ds i) where
  no_var : (o : Option KnownDef) → None ≡ term_before t (def_known o)
  no_var None = refl
  no_var (Some d) = refl

newest_seen : (t : ℕ) (ds : List KnownDef) (ks : List AKnown) → option_map variable (newest_number t ks) ≡ term_before t (newest_first ds ks)
newest_seen t ds [] = refl
newest_seen t ds (k ∷ ks) =
    variable_or (newest_number t ks) (number_known t k) ∙ ap (λ o. or_else o (option_map variable (number_known t k))) (newest_seen t ds ks)
    ∙ ap (or_else (term_before t (newest_first ds ks))) (known_var t ds k) ∙ sym (later_first t (newest_first ds ks) (known_seen ds k))

-- the newest binding of a statement, where no inner one stands at the token
pub value_older : (t : ℕ) (ds : List KnownDef) (ks : List AKnown) (inner : Option Term) (o v : Option ℕ) → v ≡ newest_number t ks → option_map variable o ≡ inner → o ≡ None → option_map variable v ≡ or_else inner (term_before t (newest_first ds ks))
value_older t ds ks inner o v older found none = ap (option_map variable) older ∙ newest_seen t ds ks ∙ ap (λ p. or_else p (term_before t (newest_first ds ks))) (sym (ap (option_map variable) none) ∙ found)
