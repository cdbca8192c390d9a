-- The general type of a def and the uses of its text give exactly its typings.
use Rattle.std.proofs.Common.{◌≡◌, ◌∙◌, sym, ap, ap₂, subst, refl, ℕ, List, [], ◌∷◌, map, Option, Some, None}
use Rattle.liq_base.specs.declared.memory.Kind.{Kind}
use Rattle.script_grammar.specs.Tree.{Tree, ADef}
use Rattle.type_terms.specs.Agrees.{Agrees}
use Rattle.type_terms.specs.Ground.{Ground, Assignment}
use Rattle.type_terms.specs.Table.{Table, Solves}
use Rattle.type_terms.specs.Term.{kind_meaning, meaning, variable}
use Rattle.typing_rules.specs.Kinds.{known_kind, kinds_of, put}
use Rattle.typing_rules.specs.Scripts.{Entry, Places, Targets, def_token, sight}
use Rattle.typing_rules.specs.Scripts as entry
use Rattle.typing_rules.specs.Typing.{DefHas}
use Rattle.typing_rules.specs.declared.uses.KindOf.{KindOf}
use Rattle.typing_rules.specs.declared.uses.KindOf.TheVariants.{Fixed}
use Rattle.typing_rules.specs.declared.uses.Use.{Use}
use Rattle.type_instances.specs.Schemes.{IsInstance, IsSchemeOver, Scheme}
use Rattle.general_types.specs.declared.generalising.TextKind.{TextKind}
use Rattle.general_types.specs.declared.generalising.TextKind.TheVariants.{Open, Outer}
use Rattle.general_types.specs.Generals.{AreTextKindsOver, IsGeneral, settled as settled_text}
use Rattle.general_types.specs.Holding.{HeldVariables, IsHeldBy, SameTypes}
use Rattle.type_steps.specs.Environment.{AreFound, AreKnownOver, EachTakes, Found, Known, Texts, entries_under, function, settled_use, texts_under, value}
use Rattle.type_steps.proofs.Tables.{meaning_over}
use Rattle.type_steps.specs.Defs.{HoldsBefore, IsTypingOf, KeepsTypings, IsTextTaken, outside, terms_before}
use Rattle.type_infer.specs.PartsOf.{InfersDef, types_at}
use Rattle.type_infer.specs.TextUses.{kinds_in, text_uses}
use Rattle.type_infer.proofs.DefTaken.{found_of, taken_of, text_is_over, uses_same}

-- ---- names that have the same types

same_entries : (a b : Assignment) (ks : List Known) → SameTypes (terms_before ks) a b → entries_under a ks ≡ entries_under b ks
same_entries a b [] e = refl
same_entries a b (value t u ∷ ks) e = ap₂ (λ (g : Ground) (es : List Entry). entry.value t g ∷ es) (head e) (same_entries a b ks (tail e)) where
  head : meaning a u ∷ map (meaning a) (terms_before ks) ≡ meaning b u ∷ map (meaning b) (terms_before ks) → meaning a u ≡ meaning b u
  head e = cc

  tail : meaning a u ∷ map (meaning a) (terms_before ks) ≡ meaning b u ∷ map (meaning b) (terms_before ks) → map (meaning a) (terms_before ks) ≡ map (meaning b) (terms_before ks)
  tail e = cc
same_entries a b (function d us ∷ ks) e = ap (λ (es : List Entry). entry.function d ∷ es) (same_entries a b ks e)

pub names_agree : (s : Table) (a b : Assignment) (ks : List Known) → AreKnownOver s ks → Agrees s a b → SameTypes (terms_before ks) a b
names_agree s a b [] o g = refl
names_agree s a b (value t u ∷ ks) o g = ap₂ (λ (x : Ground) (xs : List Ground). x ∷ xs) (meaning_over s a b u o.0 g) (names_agree s a b ks o.1 g)
names_agree s a b (function d us ∷ ks) o g = names_agree s a b ks o.1 g

variables_mean : (a : Assignment) (ns : List ℕ) → map (meaning a) (map variable ns) ≡ types_at a ns
variables_mean a [] = refl
variables_mean a (n ∷ ns) = ap (λ (ts : List Ground). a.type_of n ∷ ts) (variables_mean a ns)

-- ---- the kinds of the text from outside are those of the names

same_settled : (a b : Assignment) (xs ys : List Kind) (zs : List Kind) (text : List TextKind) → kinds_of xs (map (settled_text a) text) ≡ Some zs → kinds_of ys (map (settled_text b) text) ≡ Some zs → map (settled_text a) text ≡ map (settled_text b) text
same_settled a b xs ys zs [] e f = refl
same_settled a b xs ys [] (t ∷ text) e f = absurd (put_some (known_kind xs (settled_text a t)) (kinds_of xs (map (settled_text a) text)) e) where
  put_some : (o : Option Kind) (p : Option (List Kind)) → put o p ≡ Some [] → ⊥
  put_some (Some j) (Some js) e = cc
  put_some (Some j) None e = cc
  put_some None (Some js) e = cc
  put_some None None e = cc
same_settled a b xs ys (z ∷ zs) (t ∷ text) e f =
    let p = parts (known_kind xs (settled_text a t)) (kinds_of xs (map (settled_text a) text)) e in
    let q = parts (known_kind ys (settled_text b t)) (kinds_of ys (map (settled_text b) text)) f in
    ap₂ (λ (w : KindOf) (ws : List KindOf). w ∷ ws) (one t p.0 q.0) (same_settled a b xs ys zs text p.1 q.1) where
      parts : (o : Option Kind) (p : Option (List Kind)) → put o p ≡ Some (z ∷ zs) → (o ≡ Some z) × (p ≡ Some zs)
      parts (Some j) (Some js) e = (cc, cc)
      parts (Some j) None e = absurd cc
      parts None (Some js) e = absurd cc
      parts None None e = absurd cc

      one : (t : TextKind) → known_kind xs (settled_text a t) ≡ Some z → known_kind ys (settled_text b t) ≡ Some z → settled_text a t ≡ settled_text b t
      one (Outer k) e f = ap settled_as (let x : kind_meaning a k ≡ kind_meaning b k = same_kind (kind_meaning a k) (kind_meaning b k) e f in x) where
        settled_as : Kind → KindOf
        settled_as k = Fixed k

        same_kind : (j l : Kind) → Some j ≡ Some z → Some l ≡ Some z → j ≡ l
        same_kind j l e f = cc
      one (Open j) e f = refl

-- ---- the typing

module _ (s s1 : Table) (targets : Targets) (before : List Known) (d : Tree ADef) (ns : List ℕ) (n : ℕ) (fs : List Found) (h : HeldVariables) (g : Scheme) (text : List TextKind) (i : InfersDef s s1 (outside targets before) d ns n fs) (known : AreKnownOver s before) (was : HoldsBefore s before h)
    (general : IsGeneral s1 (terms_before before) (map variable ns) (variable n) (kinds_in fs) g text) where
  same_texts : (a b : Assignment) → Solves a s1 → Solves b s1 → SameTypes (terms_before before) a b → texts_under a before ≡ texts_under b before
  same_texts a b m1 m2 e = was.texts a b (i.follows.solves a m1) (i.follows.solves b m2) e

  typing_sound : (a : Assignment) → Solves a s1 → (kinds : Places) (ts : List Ground) (r : Ground) (opens : List Kind) → IsInstance g a ts r opens → IsTextTaken a kinds before opens (text_uses fs text) → DefHas (sight targets kinds (entries_under a before) []) d ts r
  typing_sound a m kinds ts r opens inst taken =
      let p = general.sound a m ts r opens inst in
      let b : Assignment = p.0 in
      let found : AreFound (outside targets before) b kinds fs = subst (λ (X : Texts). EachTakes X kinds b fs) (same_texts a b m p.1 p.2) (found_of (texts_under a before) kinds a b opens fs text p.5 taken) in
      let has = i.sound b p.1 kinds found in
      subst (λ (us : List Ground). DefHas (sight targets kinds (entries_under a before) []) d us r) (sym (variables_mean b ns) ∙ p.3)
      (subst (λ (z : Ground). DefHas (sight targets kinds (entries_under a before) []) d (types_at b ns) z) p.4
      (subst (λ (es : List Entry). DefHas (sight targets kinds es []) d (types_at b ns) (b.type_of n)) (sym (same_entries a b before p.2)) has))

  typing_complete : (a : Assignment) → Solves a s1 → (kinds : Places) (ts : List Ground) (r : Ground) → DefHas (sight targets kinds (entries_under a before) []) d ts r → (opens : List Kind) × IsInstance g a ts r opens × IsTextTaken a kinds before opens (text_uses fs text)
  typing_complete a m kinds ts r has =
      let c = i.complete a (i.follows.solves a m) kinds ts r has in
      let b : Assignment = c.at in
      let same = names_agree s a b before known c.agrees in
      let p = general.complete a b m c.solves same in
      let inst : IsInstance g a ts r p.0 =
      subst (λ (us : List Ground). IsInstance g a us r p.0) (variables_mean b ns ∙ c.holds.0) (subst (λ (z : Ground). IsInstance g a (map (meaning b) (map variable ns)) z p.0) c.holds.1 p.1) in
      (p.0, inst, taken_of (texts_under a before) kinds a b p.0 fs text p.2 (subst (λ (X : Texts). EachTakes X kinds b fs) (sym (same_texts a b m c.solves same)) c.holds.2))

  pub def_typing : IsSchemeOver s1 g → AreTextKindsOver s1 text → IsTypingOf s1 targets before d g (text_uses fs text)
  def_typing over text_over = record {
    over = over;
    text_over = text_is_over s1 fs text text_over;
    sound = typing_sound;
    complete = typing_complete;
  }

  -- the uses of the text are the same where the names have the same types
  text_same : (a b : Assignment) → Solves a s1 → Solves b s1 → SameTypes (terms_before before) a b → map (settled_use a) (text_uses fs text) ≡ map (settled_use b) (text_uses fs text)
  text_same a b m1 m2 e =
      let p = general.complete a a m1 m1 refl in
      let q = general.complete b a m2 m1 (sym e) in
      uses_same a b fs text (same_settled a b p.0 q.0 (map (kind_meaning a) (kinds_in fs)) text p.2 q.2)

  pub def_held : (h' : HeldVariables) → IsHeldBy s1 (terms_before before) h' → HoldsBefore s1 (function d (text_uses fs text) ∷ before) h'
  def_held h' held = record {
    held = held;
    texts = λ a b m1 m2 e. ap₂ (λ (us : List Use) (X : Texts). (def_token d, us) ∷ X) (text_same a b m1 m2 e) (same_texts a b m1 m2 e);
  }

  pub def_keeps : KeepsTypings s s1 targets before d
  def_keeps a m some = let c = i.complete a m some.0 some.1 some.2 some.3 in (c.at, c.solves, c.agrees)
