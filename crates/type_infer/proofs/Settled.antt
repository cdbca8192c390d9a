-- Kinds and uses under the default solution, one after another.
use Rattle.std.proofs.Common.{◌≡◌, ◌∙◌, sym, ap, subst, refl, ℕ, ◌<◌, ◌≤◌, ◌+◌, length, get_or, take, List, [], ◌∷◌, ◌++◌, map, Option, Some, None, append_assoc}
use Rattle.std.specs.Borrow.{Bor}
use Rattle.std.specs.List.{HoldsAt}
use Rattle.std.specs.Prelude.{IfSome, MatchOption, option_map, slice_get}
use Rattle.std.proofs.lemmas.Option.{slice_get-get_or, slice_get_past}
use Rattle.std.proofs.lemmas.List.{append-nil, get_or_default, map_push, take_all, take_more}
use Rattle.liq_base.specs.declared.memory.Kind.{Kind}
use Rattle.type_terms.specs.Extends.{HasDefaults}
use Rattle.type_terms.specs.Ground.{Assignment}
use Rattle.type_terms.specs.Resolved.{IsUnbound}
use Rattle.type_terms.specs.Table.{Solves, Table}
use Rattle.type_terms.specs.Term.{kind_meaning, source_term}
use Rattle.type_terms.specs.declared.ty.KindTerm.{KindTerm}
use Rattle.type_terms.specs.declared.ty.KindTerm.TheVariants as term
use Rattle.typing_rules.specs.declared.uses.KindOf.{KindOf}
use Rattle.typing_rules.specs.declared.uses.KindOf.TheVariants as kind_of
use Rattle.typing_rules.specs.declared.uses.Use.{Use}
use Rattle.type_steps.specs.Environment.{settled, settled_use}
use Rattle.type_steps.specs.Statements.{Done, found_use, uses_in, uses_under}
use Rattle.expression_types.specs.Seen.{found, founds, pending, text_use}
use Rattle.expression_types.specs.declared.environment.FoundUse.{FoundUse}
use Rattle.expression_types.specs.declared.environment.TextKind.{TextKind}
use Rattle.expression_types.specs.declared.environment.TextUse.{TextUse as ATextUse}
use Rattle.expression_types.specs.declared.environment.KnownDef.{KnownDef}
use Rattle.type_infer.specs.Settling.{AddsDones, AddsFounds, AddsTexts, AreDefaultOf, AreSettledKinds, AreSettledTexts, IsSettledKind, IsSettledText, free_kind}
use Rattle.type_infer.specs.Steps.{done_in, dones_in}
use Rattle.type_infer.specs.declared.steps.Step.{Step}

-- ---- a kind

free_at : (s : Table) (k : KindTerm) (d : HasDefaults s) → IsUnbound s (source_term k) → free_kind k ≡ kind_meaning d.at k
free_at s (term.Fixed k) d h = refl
free_at s (term.Var n) d h = sym (d.kinds n h.1)

pub kind_settled : (s : Table) (k k' : KindTerm) (r : Kind) → IsUnbound s (source_term k') → ((a : Assignment) → Solves a s → kind_meaning a k' ≡ kind_meaning a k) → r ≡ free_kind k' → IsSettledKind s k r
kind_settled s k k' r unbound same is = λ d. is ∙ free_at s k' d unbound ∙ same d.at d.solves

-- ---- one after another

added_more : {A B : Type 0} (f : A → B) (start old new : List B) (xs ys : List A) (x : A) (y : B) → ys ≡ xs ++ x ∷ [] → old ≡ start ++ map f xs → new ≡ old ++ y ∷ [] → y ≡ f x → new ≡ start ++ map f ys
added_more f start old new xs ys x y more before added is =
    added ∙ ap (λ l. l ++ y ∷ []) before ∙ append_assoc start (map f xs) (y ∷ []) ∙ ap (λ z. start ++ (map f xs ++ z ∷ [])) is
    ∙ ap (λ l. start ++ l) (sym (map_push f xs x)) ∙ ap (λ l. start ++ map f l) (sym more)

next_item : {A : Type 0} (xs : List A) (i : ℕ) (x : A) → i < length xs → x ≡ get_or xs i x → take (i + 1) xs ≡ take i xs ++ x ∷ []
next_item xs i x lt is = take_more xs i x lt ∙ ap (λ z. take i xs ++ z ∷ []) (sym is)

next_mapped : {A B : Type 0} (f : A → B) (xs : List A) (i : ℕ) (x : A) → i < length xs → x ≡ get_or xs i x → map f (take (i + 1) xs) ≡ map f (take i xs) ++ f x ∷ []
next_mapped f xs i x lt is = ap (map f) (next_item xs i x lt is) ∙ map_push f (take i xs) x

all_items : {A : Type 0} (xs : List A) (i : ℕ) → length xs ≤ i → take i xs ≡ xs
all_items xs i le = take_all i xs le

-- ---- kinds

pub kinds_more_at : (s : Table) (ks : List KindTerm) (i : ℕ) (k : KindTerm) (one : Kind) (old new : List KindOf) → i < length ks → AreSettledKinds s (take i ks) old → IsSettledKind s (get_or ks i k) one → new ≡ old ++ kind_of.Fixed one ∷ [] → AreSettledKinds s (take (i + 1) ks) new
kinds_more_at s ks i k one old new lt h settled_one e = λ d.
    added_more (λ j. kind_of.Fixed (kind_meaning d.at j)) [] old new (take i ks) (take (i + 1) ks) (get_or ks i k) (kind_of.Fixed one) (next_item ks i (get_or ks i k) lt (get_or_default ks i k (get_or ks i k) lt)) (h d) e (ap kind_of.Fixed (settled_one d))

pub kinds_all : (s : Table) (ks : List KindTerm) (i : ℕ) (rs : List KindOf) → length ks ≤ i → AreSettledKinds s (take i ks) rs → AreSettledKinds s ks rs
kinds_all s ks i rs le h = subst (λ l. AreSettledKinds s l rs) (all_items ks i le) h

pub texts_more : (s : Table) (ks : List TextKind) (i : ℕ) (k : TextKind) (one : KindOf) (old new : List KindOf) → i < length ks → k ≡ get_or ks i k → AreSettledTexts s (map pending (take i ks)) old → IsSettledText s (pending k) one → new ≡ old ++ one ∷ [] → AreSettledTexts s (map pending (take (i + 1) ks)) new
texts_more s ks i k one old new lt is h settled_one e = λ d.
    added_more (settled d.at) [] old new (map pending (take i ks)) (map pending (take (i + 1) ks)) (pending k) one (next_mapped pending ks i k lt is) (h d) e (settled_one d)

-- the same with the item at its place
pub texts_more_at : (s : Table) (ks : List TextKind) (i : ℕ) (k : TextKind) (one : KindOf) (old new : List KindOf) → i < length ks → AreSettledTexts s (map pending (take i ks)) old → IsSettledText s (pending (get_or ks i k)) one → new ≡ old ++ one ∷ [] → AreSettledTexts s (map pending (take (i + 1) ks)) new
texts_more_at s ks i k one old new lt h settled_one e = texts_more s ks i (get_or ks i k) one old new lt (get_or_default ks i k (get_or ks i k) lt) h settled_one e

pub texts_all : (s : Table) (ks : List TextKind) (i : ℕ) (rs : List KindOf) → length ks ≤ i → AreSettledTexts s (map pending (take i ks)) rs → AreSettledTexts s (map pending ks) rs
texts_all s ks i rs le h = subst (λ l. AreSettledTexts s (map pending l) rs) (all_items ks i le) h

-- ---- uses

abbrev pub use_of : FoundUse → List KindOf → Use
use_of x ks = record { at = x.at; target = x.target; kinds = ks }

abbrev pub text_use_of : ATextUse → List KindOf → Use
text_use_of x ks = record { at = x.at; target = x.target; kinds = ks }

pub founds_more : (s : Table) (xs : List FoundUse) (x : FoundUse) (ks : List KindOf) (start old new : List Use) → AddsFounds s (founds xs) start old → AreSettledKinds s x.kinds.items ks → new ≡ old ++ use_of x ks ∷ [] → AddsFounds s (founds (xs ++ x ∷ [])) start new
founds_more s xs x ks start old new h kinds e = λ d.
    added_more (found_use d.at) start old new (founds xs) (founds (xs ++ x ∷ [])) (found x) (use_of x ks) (map_push found xs x) (h d) e (ap (use_of x) (kinds d))

pub uses_more : (s : Table) (xs : List ATextUse) (i : ℕ) (x : ATextUse) (ks : List KindOf) (start old new : List Use) → i < length xs → x ≡ get_or xs i x → AddsTexts s (map text_use (take i xs)) start old → AreSettledTexts s (map pending x.kinds.items) ks → new ≡ old ++ text_use_of x ks ∷ [] → AddsTexts s (map text_use (take (i + 1) xs)) start new
uses_more s xs i x ks start old new lt is h kinds e = λ d.
    added_more (settled_use d.at) start old new (map text_use (take i xs)) (map text_use (take (i + 1) xs)) (text_use x) (text_use_of x ks) (next_mapped text_use xs i x lt is) (h d) e (ap (text_use_of x) (kinds d))

pub uses_all : (s : Table) (xs : List ATextUse) (i : ℕ) (start new : List Use) → length xs ≤ i → AddsTexts s (map text_use (take i xs)) start new → AddsTexts s (map text_use xs) start new
uses_all s xs i start new le h = subst (λ l. AddsTexts s (map text_use l) start new) (all_items xs i le) h

-- ---- steps

-- what is found at a place
pub def_found : (o : Option (Bor KnownDef)) (ds : List KnownDef) (i : ℕ) → IfSome o (λ x. x.now ≡ get_or ds i x.now) → MatchOption o (length ds ≤ i) (λ x. (i < length ds) × HoldsAt {X = KnownDef} (λ y. x.now ≡ y) ds i) → option_map (λ x. x.now) o ≡ slice_get ds i
def_found None ds i is h = sym (slice_get_past ds i h)
def_found (Some x) ds i is h = ap (λ (d : KnownDef). Some d) is ∙ sym (slice_get-get_or ds i x.now h.0)

uses_append : (a : Assignment) (xs ys : List Done) → uses_under a (xs ++ ys) ≡ uses_under a xs ++ uses_under a ys
uses_append a [] ys = refl
uses_append a (x ∷ xs) ys = ap (λ l. uses_in a x ++ l) (uses_append a xs ys) ∙ sym (append_assoc (uses_in a x) (uses_under a xs) (uses_under a ys))

dones_append : (ds : List KnownDef) (xs : List Step) (x : Step) → dones_in ds (xs ++ x ∷ []) ≡ dones_in ds xs ++ done_in ds x
dones_append ds [] x = append-nil (done_in ds x)
dones_append ds (y ∷ xs) x = ap (λ l. done_in ds y ++ l) (dones_append ds xs x) ∙ sym (append_assoc (done_in ds y) (dones_in ds xs) (done_in ds x))

pub steps_more : (s : Table) (ds : List KnownDef) (xs : List Step) (x : Step) (old new : List Use) → AreDefaultOf s (dones_in ds xs) old → AddsDones s (done_in ds x) old new → AreDefaultOf s (dones_in ds (xs ++ x ∷ [])) new
steps_more s ds xs x old new h adds = λ d.
    adds d ∙ ap (λ l. l ++ uses_under d.at (done_in ds x)) (h d) ∙ sym (uses_append d.at (dones_in ds xs) (done_in ds x)) ∙ ap (uses_under d.at) (sym (dones_append ds xs x))
