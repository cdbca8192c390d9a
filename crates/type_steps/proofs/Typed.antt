-- The uses of a script that has a typing, under the default solution.
use Rattle.std.proofs.Common.{◌≡◌, inl, inr, ◌∙◌, sym, ap, subst, refl, ℕ, List, [], ◌∷◌, ◌++◌, length, map, Some, None}
use Rattle.liq_base.specs.declared.memory.Kind.{Kind}
use Rattle.liq_base.specs.declared.memory.Kind.TheVariants.{Mono}
use Rattle.script_grammar.specs.Tree.{Tree, ADef, Script}
use Rattle.type_terms.specs.Extends.{HasDefaults}
use Rattle.type_terms.specs.Ground.{Ground, Assignment}
use Rattle.type_terms.specs.Table.{Solves, Table}
use Rattle.type_terms.specs.Term.{kind_meaning}
use Rattle.type_terms.specs.declared.ty.KindTerm.{KindTerm}
use Rattle.typing_rules.specs.declared.uses.Use.{Use}
use Rattle.typing_rules.specs.Answers.{IsTyped}
use Rattle.typing_rules.specs.Kinds.{AreLessUses, AreSame, IsLess, IsLessInside, IsOpen, IsUsedIn, Stands, blocks, read, said, target_at}
use Rattle.typing_rules.specs.NameFaults.{first_fault}
use Rattle.typing_rules.specs.Scoping.{Meaning, Name, meanings_of, target_in}
use Rattle.typing_rules.specs.Scripts.{Entry, IsTypedTo, Places, Targets, def_token, sight}
use Rattle.typing_rules.specs.Scripts as entry
use Rattle.typing_rules.specs.Typing.{DefHas}
use Rattle.type_steps.specs.Environment.{Found, Known, TextUse, entries_under, function, settled_use, value}
use Rattle.type_steps.specs.Counts.{IsTextCounted, scheme_count}
use Rattle.type_steps.specs.Statements.{AreApart, AreDefsKnown, AreTaken, AreTypings, Done, IsDefKnown, bound, defined, found_use, known_of, ran, uses_under}
use Rattle.type_steps.specs.Whole.{AreWhole}
use Rattle.typing_rules.proofs.Lesser.{mono_same}
use Rattle.type_steps.proofs.AtPlaces.{IsOlder, IsRead, at_places, least_at, less_fixed, less_pending, outside_place, same_at, text_place, texts_there}
use Rattle.type_steps.proofs.Instances.{instance_count, instance_with}
use Rattle.type_steps.proofs.Numbers.{are_numbered, open_as}
use Rattle.type_steps.proofs.Readings.{TextsRead, dones_are_read, text_is_read, texts_read}
use Rattle.type_steps.proofs.Uses.{AreIn}
use Rattle.type_steps.proofs.Wholes.{HasTextUse, IsThere, UsedInDef, same_text, used_in_def, uses_said, whole_apart, whole_in}

-- ---- defs among the entries

pub record Standing (s : Table) (targets : Targets) (a : Assignment) (all : List Use) (ks : List Known) (d : Tree ADef) (before : List Entry) : Type 0 where
  pub uses : List TextUse
  pub known : List Known
  pub there : IsThere d uses ks
  pub older : IsOlder known ks
  pub entries : entries_under a known ≡ before
  pub is : IsDefKnown s targets known d uses
  pub texts : TextsRead all a known
  pub counted : IsTextCounted known uses

no_value : {A : Type 0} (t : ℕ) (g : Ground) (d : Tree ADef) → entry.value t g ≡ entry.function d → A
no_value t g d e = cc

def_is : (d e : Tree ADef) → entry.function d ≡ entry.function e → d ≡ e
def_is d e h = cc

standing : (s : Table) (targets : Targets) (a : Assignment) (all : List Use) (ks : List Known) (d : Tree ADef) (before : List Entry) → AreDefsKnown s targets ks → TextsRead all a ks → Stands (entries_under a ks) d before → Standing s targets a all ks d before
standing s targets a all [] d before h r st = absurd st
standing s targets a all (value t u ∷ ks) d before h r (inl st) = no_value t _ d st.0
standing s targets a all (value t u ∷ ks) d before h r (inr st) =
    let z = standing s targets a all ks d before h r st in
    record { uses = z.uses; known = z.known; there = z.there; older = z.older; entries = z.entries; is = z.is; texts = z.texts; counted = z.counted }
standing s targets a all (function e us ∷ ks) d before h r (inl st) =
    let same = def_is e d st.0 in
    record {
      uses = us;
      known = ks;
      there = inl (same, refl);
      older = λ c vs o. inr o;
      entries = st.1;
      is = subst (λ (x : Tree ADef). IsDefKnown s targets ks x us) same h.0;
      texts = r.2;
      counted = r.1;
    }
standing s targets a all (function e us ∷ ks) d before h r (inr st) =
    let z = standing s targets a all ks d before h.1 r.2 st in
    record { uses = z.uses; known = z.known; there = inr z.there; older = λ c vs o. inr (z.older c vs o); entries = z.entries; is = z.is; texts = z.texts; counted = z.counted }

-- ---- the uses under a lesser assignment

module _ (d a : Assignment) (mono : (k : KindTerm) → kind_meaning d k ≡ Mono → kind_meaning a k ≡ Mono) where
  less_found : (fs : List Found) (us vs : List Use) → AreLessUses us vs → AreLessUses (map (found_use d) fs ++ us) (map (found_use a) fs ++ vs)
  less_found [] us vs h = h
  less_found (f ∷ fs) us vs h = (refl, refl, less_fixed d a mono f.kinds, less_found fs us vs h)

  less_text : (ws : List TextUse) (us vs : List Use) → AreLessUses us vs → AreLessUses (map (settled_use d) ws ++ us) (map (settled_use a) ws ++ vs)
  less_text [] us vs h = h
  less_text (w ∷ ws) us vs h = (refl, refl, less_pending d a mono w.kinds, less_text ws us vs h)

  less_uses : (xs : List Done) → AreLessUses (uses_under d xs) (uses_under a xs)
  less_uses [] = tt
  less_uses (bound t u fs ∷ xs) = less_found fs (uses_under d xs) (uses_under a xs) (less_uses xs)
  less_uses (defined e ws ∷ xs) = less_text ws (uses_under d xs) (uses_under a xs) (less_uses xs)
  less_uses (ran fs ∷ xs) = less_found fs (uses_under d xs) (uses_under a xs) (less_uses xs)

-- ---- the whole

module _ (s : Table) (script : Script) (xs : List Done) (whole : AreWhole script xs) (typings : AreTypings s (target_in (meanings_of script)) script xs) (default : HasDefaults s) where
  abbrev targets : Targets
  targets = target_in (meanings_of script)

  abbrev at : Assignment
  at = default.at

  abbrev uses : List Use
  uses = uses_under at xs

  abbrev all : List Known
  all = known_of xs

  said_as : (a : Assignment) → map said (uses_under a xs) ≡ meanings_of script
  said_as a = uses_said a [] script xs whole.done

  targets_are : (a : Assignment) → target_at (uses_under a xs) ≡ targets
  targets_are a = ap (λ (ms : List Meaning). target_in ms) (said_as a)

  apart : AreApart all
  apart = whole_apart script xs whole

  texts_of : (a : Assignment) → TextsRead (uses_under a xs) a all
  texts_of a = texts_read (uses_under a xs) a [] xs tt whole.counted (whole_in a script xs whole)

  is_typing : IsTypedTo (target_at uses) (read [] uses) [] script (entries_under at all)
  is_typing =
      let taken = dones_are_read [] uses at [] xs tt whole.counted (whole_in at script xs whole) in
      subst (λ (ts : Targets). IsTypedTo ts (read [] uses) [] script (entries_under at all)) (sym (targets_are at)) (typings.sound at default.solves (read [] uses) taken)

  solved_by : (kinds : Places) (es : List Entry) → IsTypedTo (target_at uses) kinds [] script es → (a : Assignment) × Solves a s × AreTaken a kinds [] xs × (entries_under a all ≡ es)
  solved_by kinds es h = typings.complete kinds es (subst (λ (ts : Targets). IsTypedTo ts kinds [] script es) (targets_are at) h)

  mono_at : (a : Assignment) → Solves a s → (k : KindTerm) → kind_meaning at k ≡ Mono → kind_meaning a k ≡ Mono
  mono_at a solves k e = default.mono k e a solves

  used_as : (t : ℕ) (n : Name) → IsUsedIn (blocks [] script) (Some t) n → UsedInDef all t n
  used_as t n o = used_in_def [] script xs [] whole.done t n o

  is_least : (kinds : Places) (es : List Entry) → IsTypedTo (target_at uses) kinds [] script es → IsLess (blocks [] script) (read [] uses) kinds
  is_least kinds es h chain n b place means =
      let c = solved_by kinds es h in
      let a = c.0 in
      let mono = mono_at a c.1 in
      let vs = uses_under a xs in
      let base : (m : Name) → IsUsedIn (blocks [] script) None m → IsRead at a mono uses vs [] [] kinds all apart (texts_of at) (texts_of a) [] m = λ m o.
      outside_place at a mono uses vs [] [] kinds all apart (texts_of at) (texts_of a) [] script xs [] (λ d us l. l) whole.done (whole_in at script xs whole) (whole_in a script xs whole) c.2 m o in
      least_at at a mono uses vs [] [] kinds all apart (texts_of at) (texts_of a) chain n b means (at_places at a mono uses vs [] [] kinds all apart (texts_of at) (texts_of a) (blocks [] script) None base used_as chain n place)

  inside : (a : Assignment) (d : Tree ADef) (us : List TextUse) → IsThere d us all → AreIn (uses_under a xs) (map (settled_use a) us)
  inside a d us there = texts_there (uses_under a xs) a all d us (texts_of a) there

  -- ---- a def, at a solution

  module _ (a : Assignment) (solves : Solves a s) (d : Tree ADef) (before : List Entry) (z : Standing s targets a (uses_under a xs) all d before) where
    abbrev said_by : List Use
    said_by = uses_under a xs

    abbrev Has : Places → List Ground → Ground → Type 0
    Has kinds ts g = DefHas (sight targets kinds (entries_under a z.known) []) d ts g

    has_as : (kinds : Places) (ts : List Ground) (g : Ground) → Has kinds ts g → DefHas (sight (target_at said_by) kinds before []) d ts g
    has_as kinds ts g h =
        subst (λ (es : List Entry). DefHas (sight (target_at said_by) kinds es []) d ts g) z.entries
        (subst (λ (x : Targets). DefHas (sight x kinds (entries_under a z.known) []) d ts g) (sym (targets_are a)) h)

    as_has : (kinds : Places) (ts : List Ground) (g : Ground) → DefHas (sight (target_at said_by) kinds before []) d ts g → Has kinds ts g
    as_has kinds ts g h =
        subst (λ (x : Targets). DefHas (sight x kinds (entries_under a z.known) []) d ts g) (targets_are a)
        (subst (λ (es : List Entry). DefHas (sight (target_at said_by) kinds es []) d ts g) (sym z.entries) h)

    each_open : (given : List Kind) → length given ≡ scheme_count z.is.general → (ts : List Ground) × (g : Ground) × DefHas (sight (target_at said_by) (read given said_by) before []) d ts g
    each_open given n =
        let i = instance_with z.is.general a given n in
        let taken = text_is_read given said_by a z.known z.uses z.texts z.counted (inside a d z.uses z.there) (z.is.numbered ∙ ap (λ (m : ℕ). Some m) (sym n)) in
        (i.params, i.result, has_as (read given said_by) i.params i.result (z.is.typing.sound a solves (read given said_by) i.params i.result given i.is taken))

    only_open : (kinds : Places) (ts : List Ground) (g : Ground) → DefHas (sight (target_at said_by) kinds before []) d ts g → (given : List Kind) × (length given ≡ scheme_count z.is.general) × AreSame (blocks [] script) (def_token d) (read given said_by) kinds
    only_open kinds ts g h =
        let c = z.is.typing.complete a solves kinds ts g (as_has kinds ts g h) in
        let os = c.0 in
        let mono : (k : KindTerm) → kind_meaning a k ≡ Mono → kind_meaning a k ≡ Mono = λ k e. e in
        let base : (m : Name) → IsUsedIn (blocks [] script) (Some (def_token d)) m → IsRead a a mono said_by said_by os os kinds all apart (texts_of a) (texts_of a) [] m = λ m o.
        let u = used_as (def_token d) m o in
        let same : u.uses ≡ z.uses = same_text all apart u.def d u.uses z.uses u.there z.there u.token in
        text_place a a mono said_by said_by os os kinds all apart (texts_of a) (texts_of a) z.known z.older [] os os refl refl (mono_same os) z.uses (inside a d z.uses z.there) (inside a d z.uses z.there) c.2 m (subst (λ (ws : List TextUse). HasTextUse ws m) same u.has) in (
          os,
          instance_count z.is.general a ts g os c.1,
          λ chain n b place means.
              same_at a a mono said_by said_by os os kinds all apart (texts_of a) (texts_of a) chain n b means (at_places a a mono said_by said_by os os kinds all apart (texts_of a) (texts_of a) (blocks [] script) (Some (def_token d)) base used_as chain n place),
        )

    is_open : IsOpen (blocks [] script) said_by before d
    is_open = record {
      count = scheme_count z.is.general;
      number = open_as a script xs whole d z.uses z.there (inside a d z.uses z.there) ∙ z.is.numbered;
      each = each_open;
      only = only_open;
    }

  are_open : (a : Assignment) → Solves a s → (d : Tree ADef) (before : List Entry) → Stands (entries_under a all) d before → IsOpen (blocks [] script) (uses_under a xs) before d
  are_open a solves d before st = is_open a solves d before (standing s targets a (uses_under a xs) all d before typings.defs (texts_of a) st)

  is_less_inside : (kinds : Places) (es : List Entry) → IsTypedTo (target_at uses) kinds [] script es → IsLessInside (blocks [] script) uses es
  is_less_inside kinds es h =
      let c = solved_by kinds es h in
      (uses_under c.0 xs, less_uses at c.0 (mono_at c.0 c.1) xs, λ d before st. are_open c.0 c.1 d before (subst (λ (fs : List Entry). Stands fs d before) (sym c.3) st))

  -- a script all of whose statements are done, with no fault of names, has the answer that the default solution gives
  pub whole_is_typed : first_fault 1 [] script ≡ None → IsTyped script uses
  whole_is_typed none = record {
    names = none;
    targets = said_as at;
    entries = entries_under at all;
    typing = is_typing;
    least = is_least;
    numbered = are_numbered at script xs whole (inside at);
    opened = are_open at default.solves;
    least_inside = is_less_inside;
  }

pub typed_by_defaults : (s : Table) (script : Script) (xs : List Done) → AreWhole script xs → AreTypings s (target_in (meanings_of script)) script xs → (default : HasDefaults s) → first_fault 1 [] script ≡ None → IsTyped script (uses_under default.at xs)
typed_by_defaults s script xs whole typings default none = whole_is_typed s script xs whole typings default none
