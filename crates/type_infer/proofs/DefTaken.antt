-- The kinds at the places of a def's text are those of its uses.
use Rattle.std.proofs.Common.{◌≡◌, ◌∙◌, sym, ap, ap₂, subst, refl, ℕ, zero, suc, List, [], ◌∷◌, ◌++◌, map, take, drop, length, Option, Some, None}
use Rattle.liq_base.specs.declared.memory.Kind.{Kind}
use Rattle.type_terms.specs.Ground.{Assignment}
use Rattle.type_terms.specs.Table.{Table}
use Rattle.type_terms.specs.Term.{kind_meaning}
use Rattle.type_terms.specs.declared.ty.KindTerm.{KindTerm}
use Rattle.typing_rules.specs.Kinds.{known_kind, kinds_of, put}
use Rattle.typing_rules.specs.Scripts.{Places}
use Rattle.typing_rules.specs.declared.uses.KindOf.{KindOf}
use Rattle.typing_rules.specs.declared.uses.Use.{Use}
use Rattle.general_types.specs.declared.generalising.TextKind.{TextKind}
use Rattle.general_types.specs.declared.generalising.TextKind.TheVariants.{Open, Outer}
use Rattle.general_types.specs.Generals.{AreTextKindsOver, settled as settled_text}
use Rattle.type_steps.specs.Environment.{ArePendingOver, CallTakes, EachTakes, Found, IsTextOver, Takes, TextTakes, Texts, settled, settled_use}
use Rattle.type_infer.specs.TextUses.{kinds_in, pending_of, text_uses}

-- ---- reading the kinds of a text in parts

put_parts : (o : Option Kind) (p : Option (List Kind)) (k : Kind) (ks : List Kind) → put o p ≡ Some (k ∷ ks) → (o ≡ Some k) × (p ≡ Some ks)
put_parts (Some j) (Some js) k ks e = (cc, cc)
put_parts (Some j) None k ks e = absurd cc
put_parts None (Some js) k ks e = absurd cc
put_parts None None k ks e = absurd cc

front_of : (given : List Kind) (ws : List KindOf) (xs ys : List Kind) → kinds_of given ws ≡ Some (xs ++ ys) → kinds_of given (take (length xs) ws) ≡ Some xs
front_of given ws [] ys e = refl
front_of given [] (x ∷ xs) ys e = absurd cc
front_of given (w ∷ ws) (x ∷ xs) ys e =
    let p = put_parts (known_kind given w) (kinds_of given ws) x (xs ++ ys) e in
    ap₂ put p.0 (front_of given ws xs ys p.1)

rest_of : (given : List Kind) (ws : List KindOf) (xs ys : List Kind) → kinds_of given ws ≡ Some (xs ++ ys) → kinds_of given (drop (length xs) ws) ≡ Some ys
rest_of given ws [] ys e = e
rest_of given [] (x ∷ xs) ys e = absurd cc
rest_of given (w ∷ ws) (x ∷ xs) ys e = rest_of given ws xs ys (put_parts (known_kind given w) (kinds_of given ws) x (xs ++ ys) e).1

-- ---- a use's kinds

settled_pending : (a : Assignment) (k : TextKind) → settled a (pending_of k) ≡ settled_text a k
settled_pending a (Outer k) = refl
settled_pending a (Open j) = refl

settled_kinds : (a : Assignment) (text : List TextKind) → map (settled a) (map pending_of text) ≡ map (settled_text a) text
settled_kinds a [] = refl
settled_kinds a (k ∷ text) = ap₂ (λ (x : KindOf) (xs : List KindOf). x ∷ xs) (settled_pending a k) (settled_kinds a text)

map_take : {A B : Type 0} (f : A → B) (n : ℕ) (xs : List A) → map f (take n xs) ≡ take n (map f xs)
map_take f zero xs = refl
map_take f (suc n) [] = refl
map_take f (suc n) (x ∷ xs) = ap (λ l. f x ∷ l) (map_take f n xs)

map_drop : {A B : Type 0} (f : A → B) (n : ℕ) (xs : List A) → map f (drop n xs) ≡ drop n (map f xs)
map_drop f zero xs = refl
map_drop f (suc n) [] = refl
map_drop f (suc n) (x ∷ xs) = map_drop f n xs

length_meanings : (b : Assignment) (ks : List KindTerm) → length (map (kind_meaning b) ks) ≡ length ks
length_meanings b [] = refl
length_meanings b (k ∷ ks) = ap suc (length_meanings b ks)

meanings_append : (b : Assignment) (xs ys : List KindTerm) → map (kind_meaning b) (xs ++ ys) ≡ map (kind_meaning b) xs ++ map (kind_meaning b) ys
meanings_append b [] ys = refl
meanings_append b (x ∷ xs) ys = ap (λ l. kind_meaning b x ∷ l) (meanings_append b xs ys)

module _ (a b : Assignment) (opens : List Kind) (f : Found) (fs : List Found) (text : List TextKind) (e : kinds_of opens (map (settled_text a) text) ≡ Some (map (kind_meaning b) (kinds_in (f ∷ fs)))) where
  in_parts : kinds_of opens (map (settled_text a) text) ≡ Some (map (kind_meaning b) f.kinds ++ map (kind_meaning b) (kinds_in fs))
  in_parts = e ∙ ap Some (meanings_append b f.kinds (kinds_in fs))

  first_kinds : kinds_of opens (map (settled a) (map pending_of (take (length f.kinds) text))) ≡ Some (map (kind_meaning b) f.kinds)
  first_kinds =
      ap (kinds_of opens) (settled_kinds a (take (length f.kinds) text) ∙ map_take (settled_text a) (length f.kinds) text ∙ ap (λ n. take n (map (settled_text a) text)) (sym (length_meanings b f.kinds)))
      ∙ front_of opens (map (settled_text a) text) (map (kind_meaning b) f.kinds) (map (kind_meaning b) (kinds_in fs)) in_parts

  other_kinds : kinds_of opens (map (settled_text a) (drop (length f.kinds) text)) ≡ Some (map (kind_meaning b) (kinds_in fs))
  other_kinds =
      ap (kinds_of opens) (map_drop (settled_text a) (length f.kinds) text ∙ ap (λ n. drop n (map (settled_text a) text)) (sym (length_meanings b f.kinds)))
      ∙ rest_of opens (map (settled_text a) text) (map (kind_meaning b) f.kinds) (map (kind_meaning b) (kinds_in fs)) in_parts

some_same : (x y : List Kind) → Some x ≡ Some y → x ≡ y
some_same x y e = cc

-- the uses of the text take what those that were found take
pub taken_of : (X : Texts) (kinds : Places) (a b : Assignment) (opens : List Kind) (fs : List Found) (text : List TextKind) → kinds_of opens (map (settled_text a) text) ≡ Some (map (kind_meaning b) (kinds_in fs)) → EachTakes X kinds b fs → TextTakes (CallTakes X kinds) kinds [] opens (map (settled_use a) (text_uses fs text))
taken_of X kinds a b opens [] text e h = tt
taken_of X kinds a b opens (f ∷ fs) text e h = ((map (kind_meaning b) f.kinds, first_kinds a b opens f fs text e, h.0), taken_of X kinds a b opens fs (drop (length f.kinds) text) (other_kinds a b opens f fs text e) h.1)

pub found_of : (X : Texts) (kinds : Places) (a b : Assignment) (opens : List Kind) (fs : List Found) (text : List TextKind) → kinds_of opens (map (settled_text a) text) ≡ Some (map (kind_meaning b) (kinds_in fs)) → TextTakes (CallTakes X kinds) kinds [] opens (map (settled_use a) (text_uses fs text)) → EachTakes X kinds b fs
found_of X kinds a b opens [] text e h = tt
found_of X kinds a b opens (f ∷ fs) text e h = (subst (λ ks. takes f ks) (some_same h.0.0 (map (kind_meaning b) f.kinds) (sym h.0.1 ∙ first_kinds a b opens f fs text e)) h.0.2, found_of X kinds a b opens fs (drop (length f.kinds) text) (other_kinds a b opens f fs text e) h.1) where
  takes : Found → List Kind → Type 0
  takes g ks = Takes (CallTakes X kinds) kinds [] g.at g.target ks

-- ---- the text over a substitution

pending_over : (s : Table) (n : ℕ) (text : List TextKind) → AreTextKindsOver s text → ArePendingOver s (map pending_of (take n text))
pending_over s zero text o = tt
pending_over s (suc n) [] o = tt
pending_over s (suc n) (Outer k ∷ text) o = (o.0, pending_over s n text o.1)
pending_over s (suc n) (Open j ∷ text) o = (tt, pending_over s n text o.1)

rest_over : (s : Table) (n : ℕ) (text : List TextKind) → AreTextKindsOver s text → AreTextKindsOver s (drop n text)
rest_over s zero text o = o
rest_over s (suc n) [] o = tt
rest_over s (suc n) (k ∷ text) o = rest_over s n text o.1

pub text_is_over : (s : Table) (fs : List Found) (text : List TextKind) → AreTextKindsOver s text → IsTextOver s (text_uses fs text)
text_is_over s [] text o = tt
text_is_over s (f ∷ fs) text o = (pending_over s (length f.kinds) text o, text_is_over s fs (drop (length f.kinds) text) (rest_over s (length f.kinds) text o))

-- ---- a text is the same where its outer kinds are

pub uses_same : (a b : Assignment) (fs : List Found) (text : List TextKind) → map (settled_text a) text ≡ map (settled_text b) text → map (settled_use a) (text_uses fs text) ≡ map (settled_use b) (text_uses fs text)
uses_same a b [] text e = refl
uses_same a b (f ∷ fs) text e =
    ap₂ (λ (ks : List KindOf) (us : List Use). record { at = f.at; target = f.target; kinds = ks } ∷ us)
    (settled_kinds a (take (length f.kinds) text) ∙ map_take (settled_text a) (length f.kinds) text ∙ ap (take (length f.kinds)) e ∙ sym (map_take (settled_text b) (length f.kinds) text) ∙ sym (settled_kinds b (take (length f.kinds) text)))
    (uses_same a b fs (drop (length f.kinds) text) (map_drop (settled_text a) (length f.kinds) text ∙ ap (drop (length f.kinds)) e ∙ sym (map_drop (settled_text b) (length f.kinds) text)))
