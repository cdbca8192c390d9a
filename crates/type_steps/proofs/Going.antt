-- The typings go on by one statement, or there are none with it.
use Rattle.std.proofs.Common.{◌≡◌, ◌∙◌, sym, ap, subst, refl, ℕ, List, [], ◌∷◌, ◌++◌, Some, Bool, arith}
use Rattle.script_grammar.specs.Tree.{Sort, Tree, AFull, ADef, ACall, AnIf, AStmt, Script, none, more, Stmt, BindPart, DefPart, CallPart, IfPart, Bind}
use Rattle.type_terms.specs.Agrees.{Agrees, Follows}
use Rattle.type_terms.specs.Ground.{Ground, Assignment}
use Rattle.type_terms.specs.Table.{Table, Solves}
use Rattle.type_terms.specs.Term.{Term, meaning}
use Rattle.typing_rules.specs.Typing.{Has}
use Rattle.typing_rules.specs.Scripts.{Entry, HasSome, IsTypedTo, Places, Targets, function, sight, value}
use Rattle.typing_rules.specs.Kinds.{read}
use Rattle.type_instances.specs.Schemes.{Scheme, IsSchemeOver}
use Rattle.type_steps.specs.Environment.{AreKnownOver, Found, Known, TextUse, entries_under}
use Rattle.type_steps.specs.Environment as known
use Rattle.type_steps.specs.Flow.{HasNoType, Infers}
use Rattle.type_steps.proofs.Tables.{env_later}
use Rattle.type_steps.specs.Counts.{scheme_count, text_count}
use Rattle.type_steps.specs.Defs.{HasNoTyping, IsTypingOf, KeepsTypings, outside}
use Rattle.type_steps.specs.Statements.{AreDefsKnown, AreTaken, AreTypings, Done, HasNoTypings, IsDefKnown, bound, defined, known_of, ran, uses_in, uses_under, with_last}
use Rattle.type_steps.specs.Whole.{AreWhole, IsDoneCounted}
use Rattle.type_steps.proofs.Appended.{entries_same, founds_later, founds_more, known_more, taken_before, taken_last, taken_more, taken_over, typed_more, typed_split, uses_more}
use Rattle.type_steps.proofs.Instances.{instance_with, stereos}
use Rattle.type_steps.proofs.Readings.{text_is_read, texts_read}
use Rattle.type_steps.proofs.Uses.{AreIn, in_left, in_right}
use Rattle.type_steps.proofs.Wholes.{whole_in}

known_later : (s s' : Table) (targets : Targets) (ks : List Known) → Follows s s' → AreKnownOver s ks → AreKnownOver s' ks
known_later s s' targets ks f o = (env_later s s' (outside targets ks) f (record { before = o; inner = tt })).before

scheme_later : (s s' : Table) (g : Scheme) → Follows s s' → IsSchemeOver s g → IsSchemeOver s' g
scheme_later s s' g f o = record {
  params = o.params;
  result = o.result;
  types = λ i k e. let l = o.types i k e in let m = f.types in omega arith;
  kinds = λ i k e. let l = o.kinds i k e in let m = f.kinds in omega arith;
}

pub typing_later : (s s' : Table) (targets : Targets) (ks : List Known) (d : Tree ADef) (g : Scheme) (us : List TextUse) → Follows s s' → IsTypingOf s targets ks d g us → IsTypingOf s' targets ks d g us
typing_later s s' targets ks d g us f t = record {
  over = scheme_later s s' g f t.over;
  text_over = (known_later s s' targets (known.function d us ∷ []) f (t.text_over, tt)).0;
  sound = λ a m. t.sound a (f.solves a m);
  complete = λ a m. t.complete a (f.solves a m);
}

defs_later : (s s' : Table) (targets : Targets) (ks : List Known) → Follows s s' → AreDefsKnown s targets ks → AreDefsKnown s' targets ks
defs_later s s' targets [] f h = tt
defs_later s s' targets (known.value t u ∷ ks) f h = defs_later s s' targets ks f h
defs_later s s' targets (known.function d us ∷ ks) f h = (def_later h.0, defs_later s s' targets ks f h.1) where
  def_later : IsDefKnown s targets ks d us → IsDefKnown s' targets ks d us
  def_later k = record { general = k.general; typing = typing_later s s' targets ks d k.general us f k.typing; numbered = k.numbered }

-- ---- nothing yet

pub typings_none : (s : Table) (targets : Targets) → ((a : Assignment) × Solves a s) → AreTypings s targets none []
typings_none s targets some = record {
  some = some;
  over = tt;
  uses_over = tt;
  defs = tt;
  sound = λ a m kinds h. refl;
  complete = λ kinds es h. (some.0, some.1, tt, sym h);
}

-- ---- a step from one substitution to a later one

module _ (s s' : Table) (targets : Targets) (script : Script) (xs : List Done) (t : AreTypings s targets script xs) (some : (a : Assignment) × Solves a s') (follows : Follows s s') where
  abbrev before : List Known
  before = known_of xs

  -- what is kept of a typing of the statements before, at a later solution that agrees
  pub record Kept (kinds : Places) (es : List Entry) (b : Assignment) : Type 0 where
    pub solves : Solves b s'
    pub taken : AreTaken b kinds [] xs
    pub entries : entries_under b before ≡ es

  kept : (kinds : Places) (es : List Entry) (a b : Assignment) → AreTaken a kinds [] xs → entries_under a before ≡ es → Solves b s' → Agrees s a b → Kept kinds es b
  kept kinds es a b h e m g = record {
    solves = m;
    taken = taken_over s targets a b kinds [] xs t.over t.uses_over g h;
    entries = sym (entries_same s a b before t.over g) ∙ e;
  }

  -- ---- an expression

  module _ {r : Sort} (e : Tree r) (u : Term) (fs : List Found) (i : Infers s s' (outside targets before) e u [] fs) where
    expr_sound : (a : Assignment) → Solves a s' → (kinds : Places) → AreTaken a kinds [] xs → AreTaken a kinds [] (xs ++ ran fs ∷ []) → Has (sight targets kinds (entries_under a before) []) e (meaning a u)
    expr_sound a m kinds h all = (i.sound a m kinds (taken_last a kinds [] xs (ran fs) all)).0

    pub record Typed (kinds : Places) (es : List Entry) (g : Ground) : Type 0 where
      pub at : Assignment
      pub kept : Kept kinds es at
      pub is : meaning at u ≡ g
      pub found : AreTaken at kinds [] (xs ++ ran fs ∷ [])

    expr_complete : (kinds : Places) (es : List Entry) (g : Ground) → IsTypedTo targets kinds [] script es → Has (sight targets kinds es []) e g → Typed kinds es g
    expr_complete kinds es g typed has =
        let c = t.complete kinds es typed in
        let h : Has (sight targets kinds (entries_under c.0 before) []) e g = subst (λ (fs : List Entry). Has (sight targets kinds fs []) e g) (sym c.3) has in
        let z = i.complete c.0 c.1 kinds g h tt in
        let k = kept kinds es c.0 z.at c.2 c.3 z.solves z.agrees in
        record { at = z.at; kept = k; is = z.holds.0; found = taken_more z.at kinds [] xs (ran fs) k.taken z.holds.1 }

    -- what runs, as a call or an if
    typings_ran : (q : Tree AStmt) → ((kinds : Places) (es gs : List Entry) → ((g : Ground) × Has (sight targets kinds es []) e g) → gs ≡ es → IsTypedTo targets kinds es (more q none) gs) →
        ((kinds : Places) (es gs : List Entry) → IsTypedTo targets kinds es (more q none) gs → ((g : Ground) × Has (sight targets kinds es []) e g) × (gs ≡ es)) → AreTypings s' targets (with_last script q) (xs ++ ran fs ∷ [])
    typings_ran q to from =
        let more_known : known_of (xs ++ ran fs ∷ []) ≡ before = known_more xs (ran fs) in
        record {
          some = some;
          over = subst (AreKnownOver s') (sym more_known) (known_later s s' targets before follows t.over);
          uses_over = founds_more s' xs (ran fs) (founds_later s s' xs follows t.uses_over) i.uses;
          defs = subst (AreDefsKnown s' targets) (sym more_known) (defs_later s s' targets before follows t.defs);
          sound = λ a m kinds h.
              let first = taken_before a kinds [] xs (ran fs) h in
              subst (λ (ks : List Known). IsTypedTo targets kinds [] (with_last script q) (entries_under a ks)) (sym more_known)
              (typed_more targets kinds [] (entries_under a before) (entries_under a before) script q (t.sound a (follows.solves a m) kinds first) (to kinds (entries_under a before) (entries_under a before) (meaning a u, expr_sound a m kinds first h) refl));
          complete = λ kinds es h.
              let p = typed_split targets kinds [] es script q h in
              let l = from kinds p.mid es p.last in
              let z = expr_complete kinds p.mid l.0.0 p.before l.0.1 in
              (z.at, z.kept.solves, z.found, ap (entries_under z.at) more_known ∙ z.kept.entries ∙ sym l.1);
        }

    typings_value : (at : ℕ) (q : Tree AStmt) → ((kinds : Places) (es gs : List Entry) (g : Ground) → Has (sight targets kinds es []) e g → gs ≡ value at g ∷ es → IsTypedTo targets kinds es (more q none) gs) →
        ((kinds : Places) (es gs : List Entry) → IsTypedTo targets kinds es (more q none) gs → (g : Ground) × Has (sight targets kinds es []) e g × (gs ≡ value at g ∷ es)) → AreTypings s' targets (with_last script q) (xs ++ bound at u fs ∷ [])
    typings_value at q to from =
        let x = bound at u fs in
        let more_known : known_of (xs ++ x ∷ []) ≡ known.value at u ∷ before = known_more xs x in
        record {
          some = some;
          over = subst (AreKnownOver s') (sym more_known) (i.over, known_later s s' targets before follows t.over);
          uses_over = founds_more s' xs x (founds_later s s' xs follows t.uses_over) i.uses;
          defs = subst (AreDefsKnown s' targets) (sym more_known) (defs_later s s' targets before follows t.defs);
          sound = λ a m kinds h.
              let first = taken_before a kinds [] xs x h in
              let last = taken_last a kinds [] xs x h in
              subst (λ (ks : List Known). IsTypedTo targets kinds [] (with_last script q) (entries_under a ks)) (sym more_known)
              (typed_more targets kinds [] (entries_under a before) (value at (meaning a u) ∷ entries_under a before) script q (t.sound a (follows.solves a m) kinds first)
              (to kinds (entries_under a before) (value at (meaning a u) ∷ entries_under a before) (meaning a u) (i.sound a m kinds last).0 refl));
          complete = λ kinds es h.
              let p = typed_split targets kinds [] es script q h in
              let l = from kinds p.mid es p.last in
              let z = expr_complete kinds p.mid l.0 p.before l.1 in
              let last = taken_last z.at kinds [] xs (ran fs) z.found in (
                z.at,
                z.kept.solves,
                taken_more z.at kinds [] xs x z.kept.taken last,
                ap (entries_under z.at) more_known ∙ ap (λ (g : Ground). value at g ∷ entries_under z.at before) z.is ∙ ap (λ (fs : List Entry). value at l.0 ∷ fs) z.kept.entries ∙ sym l.2,
              );
        }

-- ---- the statements with an expression

pub typings_bound : (s s' : Table) (targets : Targets) (script : Script) (xs : List Done) → AreTypings s targets script xs → ((a : Assignment) × Solves a s') → (at : ℕ) (name : List ℕ) (f : Tree AFull) (semicolon : Bool) (u : Term) (fs : List Found) → Infers s s' (outside targets (known_of xs)) f u [] fs →
    AreTypings s' targets (with_last script (Stmt (BindPart (Bind at name f)) semicolon)) (xs ++ bound at u fs ∷ [])
typings_bound s s' targets script xs t some at name f semicolon u fs i =
    typings_value s s' targets script xs t some i.follows f u fs i at (Stmt (BindPart (Bind at name f)) semicolon) (λ kinds es gs g h e. (g, h, e)) (λ kinds es gs h. h)

pub typings_call : (s s' : Table) (targets : Targets) (script : Script) (xs : List Done) → AreTypings s targets script xs → ((a : Assignment) × Solves a s') → (c : Tree ACall) (semicolon : Bool) (u : Term) (fs : List Found) → Infers s s' (outside targets (known_of xs)) c u [] fs →
    AreTypings s' targets (with_last script (Stmt (CallPart c) semicolon)) (xs ++ ran fs ∷ [])
typings_call s s' targets script xs t some c semicolon u fs i =
    typings_ran s s' targets script xs t some i.follows c u fs i (Stmt (CallPart c) semicolon) (λ kinds es gs h e. (h, e)) (λ kinds es gs h. (h.0, h.1))

pub typings_if : (s s' : Table) (targets : Targets) (script : Script) (xs : List Done) → AreTypings s targets script xs → ((a : Assignment) × Solves a s') → (c : Tree AnIf) (semicolon : Bool) (u : Term) (fs : List Found) → Infers s s' (outside targets (known_of xs)) c u [] fs →
    AreTypings s' targets (with_last script (Stmt (IfPart c) semicolon)) (xs ++ ran fs ∷ [])
typings_if s s' targets script xs t some c semicolon u fs i =
    typings_ran s s' targets script xs t some i.follows c u fs i (Stmt (IfPart c) semicolon) (λ kinds es gs h e. (h, e)) (λ kinds es gs h. (h.0, h.1))

-- ---- a def

-- at each solution a def has a typing, with the kinds that the uses say
has_some : (s' : Table) (targets : Targets) (script : Script) (xs : List Done) (d : Tree ADef) (semicolon : Bool) (us : List TextUse) (g : Scheme) → AreWhole script xs → AreWhole (with_last script (Stmt (DefPart d) semicolon)) (xs ++ defined d us ∷ []) → IsDoneCounted (known_of xs) (defined d us) → IsTypingOf s' targets (known_of xs) d g us → text_count us ≡ Some (scheme_count g) →
    (a : Assignment) → Solves a s' → HasSome targets (entries_under a (known_of xs)) d
has_some s' targets script xs d semicolon us g whole all counted typing numbered a m =
    let x = defined d us in
    let uses = uses_under a (xs ++ x ∷ []) in
    let os = stereos (scheme_count g) in
    let inst = instance_with g a os.0 os.1 in
    let inside : AreIn uses (uses_under a xs ++ uses_in a x) = subst (AreIn uses) (uses_more a xs x) (whole_in a (with_last script (Stmt (DefPart d) semicolon)) (xs ++ x ∷ []) all) in
    let texts = texts_read uses a [] xs tt whole.counted (in_left uses (uses_under a xs) (uses_in a x) inside) in
    let taken = text_is_read os.0 uses a (known_of xs) us texts counted.1 (in_right uses (uses_under a xs) (uses_in a x) inside) (numbered ∙ ap (λ (n : ℕ). Some n) (sym os.1)) in
    (read os.0 uses, inst.params, inst.result, typing.sound a m (read os.0 uses) inst.params inst.result os.0 inst.is taken)

pub typings_def : (s s' : Table) (targets : Targets) (script : Script) (xs : List Done) → AreTypings s targets script xs → ((a : Assignment) × Solves a s') → (d : Tree ADef) (semicolon : Bool) (us : List TextUse) (g : Scheme) → AreWhole script xs → AreWhole (with_last script (Stmt (DefPart d) semicolon)) (xs ++ defined d us ∷ []) → IsDoneCounted (known_of xs) (defined d us) →
    Follows s s' → KeepsTypings s s' targets (known_of xs) d → IsTypingOf s' targets (known_of xs) d g us → text_count us ≡ Some (scheme_count g) →
    AreTypings s' targets (with_last script (Stmt (DefPart d) semicolon)) (xs ++ defined d us ∷ [])
typings_def s s' targets script xs t some d semicolon us g whole all counted follows keeps typing numbered =
    let x = defined d us in
    let before = known_of xs in
    let q = Stmt (DefPart d) semicolon in
    let more_known : known_of (xs ++ x ∷ []) ≡ known.function d us ∷ before = known_more xs x in
    record {
      some = some;
      over = subst (AreKnownOver s') (sym more_known) (typing.text_over, known_later s s' targets before follows t.over);
      uses_over = founds_more s' xs x (founds_later s s' xs follows t.uses_over) tt;
      defs = subst (AreDefsKnown s' targets) (sym more_known) (record { general = g; typing = typing; numbered = numbered }, defs_later s s' targets before follows t.defs);
      sound = λ a m kinds h.
          let first = taken_before a kinds [] xs x h in
          subst (λ (ks : List Known). IsTypedTo targets kinds [] (with_last script q) (entries_under a ks)) (sym more_known)
          (typed_more targets kinds [] (entries_under a before) (function d ∷ entries_under a before) script q (t.sound a (follows.solves a m) kinds first)
          (has_some s' targets script xs d semicolon us g whole all counted typing numbered a m, refl));
      complete = λ kinds es h.
          let p = typed_split targets kinds [] es script q h in
          let c = t.complete kinds p.mid p.before in
          let somehow : HasSome targets (entries_under c.0 before) d = subst (λ (fs : List Entry). HasSome targets fs d) (sym c.3) p.last.0 in
          let b = keeps c.0 c.1 somehow in
          let k = kept s s' targets script xs t some follows kinds p.mid c.0 b.0 c.2 c.3 b.1 b.2 in
          (b.0, k.solves, taken_more b.0 kinds [] xs x k.taken tt, ap (entries_under b.0) more_known ∙ ap (λ (fs : List Entry). function d ∷ fs) k.entries ∙ sym p.last.1);
    }

-- ---- there is none

no_expr : (s : Table) (targets : Targets) (script : Script) (xs : List Done) → AreTypings s targets script xs → {r : Sort} (e : Tree r) → HasNoType s (outside targets (known_of xs)) e [] → (kinds : Places) (es : List Entry) (g : Ground) → IsTypedTo targets kinds [] script es → Has (sight targets kinds es []) e g → ⊥
no_expr s targets script xs t e never kinds es g typed has =
    let c = t.complete kinds es typed in
    never c.0 c.1 kinds g (subst (λ (fs : List Entry). Has (sight targets kinds fs []) e g) (sym c.3) has) tt

pub no_bound : (s : Table) (targets : Targets) (script : Script) (xs : List Done) → AreTypings s targets script xs → (at : ℕ) (name : List ℕ) (f : Tree AFull) (semicolon : Bool) → HasNoType s (outside targets (known_of xs)) f [] → HasNoTypings targets (with_last script (Stmt (BindPart (Bind at name f)) semicolon))
no_bound s targets script xs t at name f semicolon never kinds es h =
    let p = typed_split targets kinds [] es script (Stmt (BindPart (Bind at name f)) semicolon) h in
    no_expr s targets script xs t f never kinds p.mid p.last.0 p.before p.last.1

pub no_call : (s : Table) (targets : Targets) (script : Script) (xs : List Done) → AreTypings s targets script xs → (c : Tree ACall) (semicolon : Bool) → HasNoType s (outside targets (known_of xs)) c [] → HasNoTypings targets (with_last script (Stmt (CallPart c) semicolon))
no_call s targets script xs t c semicolon never kinds es h =
    let p = typed_split targets kinds [] es script (Stmt (CallPart c) semicolon) h in
    no_expr s targets script xs t c never kinds p.mid p.last.0.0 p.before p.last.0.1

pub no_if : (s : Table) (targets : Targets) (script : Script) (xs : List Done) → AreTypings s targets script xs → (c : Tree AnIf) (semicolon : Bool) → HasNoType s (outside targets (known_of xs)) c [] → HasNoTypings targets (with_last script (Stmt (IfPart c) semicolon))
no_if s targets script xs t c semicolon never kinds es h =
    let p = typed_split targets kinds [] es script (Stmt (IfPart c) semicolon) h in
    no_expr s targets script xs t c never kinds p.mid p.last.0.0 p.before p.last.0.1

pub no_def : (s : Table) (targets : Targets) (script : Script) (xs : List Done) → AreTypings s targets script xs → (d : Tree ADef) (semicolon : Bool) → HasNoTyping s targets (known_of xs) d → HasNoTypings targets (with_last script (Stmt (DefPart d) semicolon))
no_def s targets script xs t d semicolon never kinds es h =
    let p = typed_split targets kinds [] es script (Stmt (DefPart d) semicolon) h in
    let c = t.complete kinds p.mid p.before in
    never c.0 c.1 (subst (λ (fs : List Entry). HasSome targets fs d) (sym c.3) p.last.0)
