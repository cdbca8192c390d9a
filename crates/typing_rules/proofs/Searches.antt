-- Searches through a list, one step at a time.
use Rattle.std.proofs.Common.{◌≡◌, refl, sym, ap, ◌∙◌, ℕ, zero, suc, arith, ◌+◌, ◌<◌, ◌≤◌, List, [], ◌∷◌, length, drop, get_or, Option, Some, None, Bool, true, false, cond, map}
use Rattle.std.proofs.lemmas.List.{at_drop_more, at_drop_all}
use Rattle.std.specs.Prelude.{bytes_eq}
use Rattle.typing_rules.specs.declared.uses.Builtin.{Builtin}
use Rattle.typing_rules.specs.declared.builtins.Row.{Row}
use Rattle.typing_rules.specs.Table.{named_in}
use Rattle.typing_rules.specs.Rows.{seen_row}

-- P searches for the first item that passes, with what is found there
pub search_default : {A : Type 0} (xs : List A) (i : ℕ) (d x : A) → i < length xs → x ≡ get_or xs i d → x ≡ get_or xs i x
search_default [] i d x lt is = absurd (omega (arith, lt))
search_default (y ∷ ys) zero d x lt is = is
search_default (y ∷ ys) (suc i) d x lt is = search_default ys i d x (omega (arith, lt)) is

search_step : {A B : Type 0} (P : List A → B) (t : A → Bool) (v : A → B) → ((x : A) (xs : List A) → P (x ∷ xs) ≡ cond (t x) (v x) (P xs)) → (xs : List A) (i : ℕ) (x : A) (b : Bool) → i < length xs → x ≡ get_or xs i x → t x ≡ b → P (drop i xs) ≡ cond b (v x) (P (drop (i + 1) xs))
search_step P t v eq xs i x b lt is same = at_drop_more P xs i x lt ∙ ap (λ y. P (y ∷ drop (i + 1) xs)) (sym is) ∙ eq x (drop (i + 1) xs) ∙ ap (λ c. cond c (v x) (P (drop (i + 1) xs))) same

pub search_there : {A B : Type 0} (P : List A → B) (t : A → Bool) (v : A → B) → ((x : A) (xs : List A) → P (x ∷ xs) ≡ cond (t x) (v x) (P xs)) → (xs : List A) (i : ℕ) (x : A) (o : B) → P (drop i xs) ≡ o → i < length xs → x ≡ get_or xs i x → t x ≡ true → v x ≡ o
search_there P t v eq xs i x o so lt is same = sym (search_step P t v eq xs i x true lt is same) ∙ so

pub search_next : {A B : Type 0} (P : List A → B) (t : A → Bool) (v : A → B) → ((x : A) (xs : List A) → P (x ∷ xs) ≡ cond (t x) (v x) (P xs)) → (xs : List A) (i : ℕ) (x : A) (o : B) → P (drop i xs) ≡ o → i < length xs → x ≡ get_or xs i x → t x ≡ false → P (drop (i + 1) xs) ≡ o
search_next P t v eq xs i x o so lt is same = sym (search_step P t v eq xs i x false lt is same) ∙ so

pub search_none : {A B : Type 0} (P : List A → B) (xs : List A) (i : ℕ) (o : B) → P (drop i xs) ≡ o → length xs ≤ i → P [] ≡ o
search_none P xs i o so over = sym (at_drop_all P xs i over) ∙ so

-- the rows of the builtins
abbrev pub in_rows : List ℕ → List Row → Option Builtin
in_rows name rows = named_in name (map seen_row rows)

pub row_there : (name : List ℕ) (rows : List Row) (i : ℕ) (d : Row) (o : Option Builtin) → in_rows name (drop i rows) ≡ o → i < length rows → bytes_eq name (get_or rows i d).name.now ≡ true → Some (get_or rows i d).builtin ≡ o
row_there name rows i d o so lt same = search_there (in_rows name) (λ r. bytes_eq name r.name.now) (λ r. Some r.builtin) (λ x xs. refl) rows i (get_or rows i d) o so lt (search_default rows i d (get_or rows i d) lt refl) same

pub row_next : (name : List ℕ) (rows : List Row) (i : ℕ) (d : Row) (o : Option Builtin) → in_rows name (drop i rows) ≡ o → i < length rows → bytes_eq name (get_or rows i d).name.now ≡ false → in_rows name (drop (i + 1) rows) ≡ o
row_next name rows i d o so lt same = search_next (in_rows name) (λ r. bytes_eq name r.name.now) (λ r. Some r.builtin) (λ x xs. refl) rows i (get_or rows i d) o so lt (search_default rows i d (get_or rows i d) lt refl) same

pub row_none : (name : List ℕ) (rows : List Row) (i : ℕ) (o : Option Builtin) → in_rows name (drop i rows) ≡ o → length rows ≤ i → None ≡ o
row_none name = search_none (in_rows name)
