-- At each place of a text's expansion the kinds of a typing are those that the uses say.
use Rattle.std.proofs.Common.{◌≡◌, inl, inr, ◌∙◌, sym, subst, refl, ℕ, List, [], ◌∷◌, map, Option, Some, None, Bool, true, false, nat_eq, eqb-true}
use Rattle.liq_base.specs.declared.memory.Kind.{Kind}
use Rattle.liq_base.specs.declared.memory.Kind.TheVariants.{Mono}
use Rattle.type_terms.specs.Ground.{Assignment}
use Rattle.type_terms.specs.Term.{kind_meaning}
use Rattle.type_terms.specs.declared.ty.KindTerm.{KindTerm}
use Rattle.script_grammar.specs.Tree.{Tree, ADef, Script, none, more, Stmt, BindPart, DefPart, CallPart, IfPart, Bind}
use Rattle.typing_rules.specs.declared.uses.KindOf.TheVariants.{Fixed}
use Rattle.typing_rules.specs.declared.uses.Builtin.{Builtin}
use Rattle.typing_rules.specs.declared.uses.Target.{Target}
use Rattle.typing_rules.specs.declared.uses.Target.TheVariants as target
use Rattle.typing_rules.specs.declared.uses.Use.{Use}
use Rattle.typing_rules.specs.Kinds.{AreLessKinds, Block, IsPlace, IsUsedIn, MonoOnly, MonoWhere, around, blocks, read}
use Rattle.typing_rules.specs.Scoping.{Name, Scope, names, target_of, with_statement}
use Rattle.typing_rules.specs.Scripts.{Places, def_token}
use Rattle.typing_rules.proofs.Lesser.{kinds_less}
use Rattle.type_steps.specs.Environment.{CallTakes, EachTakes, Found, Known, Pending, Takes, TextTakes, TextUse, function, of_def, of_term, settled, settled_use, texts_under, value}
use Rattle.type_steps.specs.Statements.{AreApart, AreTaken, Done, bound, defined, found_use, known_after, known_with, ran, uses_in, uses_under}
use Rattle.type_steps.specs.Whole.{AreDone}
use Rattle.type_steps.proofs.Uses.{AreIn, in_left, in_right}
use Rattle.type_steps.proofs.Readings.{TextsRead, fixed_kinds, read_is}
use Rattle.type_steps.proofs.Wholes.{HasFound, HasTextUse, IsThere, UsedInDef, has_found, same_text, there_after}

-- ---- kinds of one use, under an assignment and a lesser one

module _ (d a : Assignment) (mono : (k : KindTerm) → kind_meaning d k ≡ Mono → kind_meaning a k ≡ Mono) where
  pub less_pending : (ps : List Pending) → AreLessKinds (map (settled d) ps) (map (settled a) ps)
  less_pending [] = tt
  less_pending (of_term k ∷ ps) = (mono k, less_pending ps)
  less_pending (of_def j ∷ ps) = (refl, less_pending ps)

  pub less_fixed : (ks : List KindTerm) → AreLessKinds (map (λ k. Fixed (kind_meaning d k)) ks) (map (λ k. Fixed (kind_meaning a k)) ks)
  less_fixed [] = tt
  less_fixed (k ∷ ks) = (mono k, less_fixed ks)

  less_terms : (ks : List KindTerm) → MonoWhere (map (kind_meaning d) ks) (map (kind_meaning a) ks)
  less_terms [] = tt
  less_terms (k ∷ ks) = (mono k, less_terms ks)

-- ---- where a call leads

abbrev pub IsOlder : List Known → List Known → Type 0
IsOlder ks all = (d : Tree ADef) (us : List TextUse) → IsThere d us ks → IsThere d us all

pub record CallLeads (ks : List Known) (a : Assignment) (kinds : Places) (chain : List ℕ) (t : ℕ) (js : List Kind) : Type 0 where
  pub def : Tree ADef
  pub uses : List TextUse
  pub before : List Known
  pub there : IsThere def uses ks
  pub older : IsOlder before ks
  pub token : def_token def ≡ t
  pub takes : TextTakes (CallTakes (texts_under a before) kinds) kinds chain js (map (settled_use a) uses)

abbrev CallBy : Bool → Tree ADef → List TextUse → List Known → Assignment → Places → List ℕ → ℕ → List Kind → Type 0
CallBy b d us ks a kinds chain t js = elim b [ true ↦ TextTakes (CallTakes (texts_under a ks) kinds) kinds chain js (map (settled_use a) us) | false ↦ CallTakes (texts_under a ks) kinds chain t js ]

call_leads : (ks : List Known) (a : Assignment) (kinds : Places) (chain : List ℕ) (t : ℕ) (js : List Kind) → CallTakes (texts_under a ks) kinds chain t js → CallLeads ks a kinds chain t js
call_leads [] a kinds chain t js h = absurd h
call_leads (value x u ∷ ks) a kinds chain t js h =
    let r = call_leads ks a kinds chain t js h in
    record { def = r.def; uses = r.uses; before = r.before; there = r.there; older = r.older; token = r.token; takes = r.takes }
call_leads (function d us ∷ ks) a kinds chain t js h = by (nat_eq (def_token d) t) refl (λ q. call_leads ks a kinds chain t js q) h where
  by : (b : Bool) → nat_eq (def_token d) t ≡ b → (CallTakes (texts_under a ks) kinds chain t js → CallLeads ks a kinds chain t js) → CallBy b d us ks a kinds chain t js → CallLeads (function d us ∷ ks) a kinds chain t js
  by true e f q = record { def = d; uses = us; before = ks; there = inl (refl, refl); older = λ c vs o. inr o; token = eqb-true (def_token d) t e; takes = q }
  by false e f q =
      let r = f q in
      record { def = r.def; uses = r.uses; before = r.before; there = inr r.there; older = λ c vs o. inr (r.older c vs o); token = r.token; takes = r.takes }

pub texts_there : (all : List Use) (a : Assignment) (ks : List Known) (d : Tree ADef) (us : List TextUse) → TextsRead all a ks → IsThere d us ks → AreIn all (map (settled_use a) us)
texts_there all a [] d us r h = absurd h
texts_there all a (value t u ∷ ks) d us r h = texts_there all a ks d us r h
texts_there all a (function e vs ∷ ks) d us r (inl same) = subst (λ (ws : List TextUse). AreIn all (map (settled_use a) ws)) same.1 r.0
texts_there all a (function e vs ∷ ks) d us r (inr h) = texts_there all a ks d us r.2 h

target_is : (t u : Target) → Some t ≡ Some u → t ≡ u
target_is t u e = cc

has_owner : {A : Type 0} (t : ℕ) → Some t ≡ None → A
has_owner t e = cc

-- ---- places

-- What is known: typings at an assignment and at a lesser one, the uses of each, and the open kinds around.
module _ (d a : Assignment) (mono : (k : KindTerm) → kind_meaning d k ≡ Mono → kind_meaning a k ≡ Mono) (us vs : List Use) (gs hs : List Kind) (kinds : Places) (all : List Known) (apart : AreApart all) (ru : TextsRead us d all) (rv : TextsRead vs a all) where
  -- at a place a use of what is known there takes the kinds that the uses say
  pub record IsRead (chain : List ℕ) (n : Name) : Type 0 where
    pub known : List Known
    pub older : IsOlder known all
    pub target : Target
    pub meant : Some target ≡ target_of n.meant
    pub least : List Kind
    pub are : List Kind
    pub read_least : read gs us chain n.at ≡ Some least
    pub read_are : read hs vs chain n.at ≡ Some are
    pub less : MonoWhere least are
    pub takes : Takes (CallTakes (texts_under a known) kinds) kinds chain n.at target are

  pub text_place : (ks : List Known) → IsOlder ks all → (chain : List ℕ) (ls js : List Kind) → around gs us chain ≡ Some ls → around hs vs chain ≡ Some js → MonoWhere ls js → (ws : List TextUse) → AreIn us (map (settled_use d) ws) → AreIn vs (map (settled_use a) ws) →
      TextTakes (CallTakes (texts_under a ks) kinds) kinds chain js (map (settled_use a) ws) → (n : Name) → HasTextUse ws n → IsRead chain n
  text_place ks old chain ls js al aj m [] iu iv h n o = absurd o
  text_place ks old chain ls js al aj m (w ∷ ws) iu iv h n (inr o) = text_place ks old chain ls js al aj m ws iu.1 iv.1 h.1 n o
  text_place ks old chain ls js al aj m (w ∷ ws) iu iv h n (inl o) =
      let ms = h.0.0 in
      let l = kinds_less ls js m (map (settled d) w.kinds) (map (settled a) w.kinds) (less_pending d a mono w.kinds) ms h.0.1 in
      let ru : read gs us chain w.at ≡ Some l.kinds = read_is gs us chain w.at (settled_use d w) ls l.kinds iu.0 al l.are in
      let rv : read hs vs chain w.at ≡ Some ms = read_is hs vs chain w.at (settled_use a w) js ms iv.0 aj h.0.1 in
      record {
        known = ks;
        older = old;
        target = w.target;
        meant = o.1;
        least = l.kinds;
        are = ms;
        read_least = subst (λ (t : ℕ). read gs us chain t ≡ Some l.kinds) o.0 ru;
        read_are = subst (λ (t : ℕ). read hs vs chain t ≡ Some ms) o.0 rv;
        less = l.less;
        takes = subst (λ (t : ℕ). Takes (CallTakes (texts_under a ks) kinds) kinds chain t w.target ms) o.0 h.0.2;
      }

  pub found_place : (ks : List Known) → IsOlder ks all → (fs : List Found) → AreIn us (map (found_use d) fs) → AreIn vs (map (found_use a) fs) → EachTakes (texts_under a ks) kinds a fs → (n : Name) → HasFound fs n → IsRead [] n
  found_place ks old [] iu iv h n o = absurd o
  found_place ks old (f ∷ fs) iu iv h n (inr o) = found_place ks old fs iu.1 iv.1 h.1 n o
  found_place ks old (f ∷ fs) iu iv h n (inl o) =
      let ls = map (kind_meaning d) f.kinds in
      let ms = map (kind_meaning a) f.kinds in
      let ru : read gs us [] f.at ≡ Some ls = read_is gs us [] f.at (found_use d f) gs ls iu.0 refl (fixed_kinds d gs f.kinds) in
      let rv : read hs vs [] f.at ≡ Some ms = read_is hs vs [] f.at (found_use a f) hs ms iv.0 refl (fixed_kinds a hs f.kinds) in
      record {
        known = ks;
        older = old;
        target = f.target;
        meant = o.1;
        least = ls;
        are = ms;
        read_least = subst (λ (t : ℕ). read gs us [] t ≡ Some ls) o.0 ru;
        read_are = subst (λ (t : ℕ). read hs vs [] t ≡ Some ms) o.0 rv;
        less = less_terms d a mono f.kinds;
        takes = subst (λ (t : ℕ). Takes (CallTakes (texts_under a ks) kinds) kinds [] t f.target ms) o.0 h.0;
      }

  -- a name outside of defs
  pub outside_place : (sc : Scope) (script : Script) (xs : List Done) (ks : List Known) → IsOlder (known_after ks xs) all → AreDone sc script xs → AreIn us (uses_under d xs) → AreIn vs (uses_under a xs) → AreTaken a kinds ks xs → (n : Name) → IsUsedIn (blocks sc script) None n → IsRead [] n
  outside_place sc none [] ks old h iu iv t n o = absurd o
  outside_place sc none (x ∷ xs) ks old h iu iv t n o = absurd h
  outside_place sc (more s rest) [] ks old h iu iv t n o = absurd h
  outside_place sc (more s rest) (x ∷ xs) ks old h iu iv t n (inr o) =
      outside_place (with_statement s sc) rest xs (known_with x ks) old h.1 (in_right us (uses_in d x) (uses_under d xs) iu) (in_right vs (uses_in a x) (uses_under a xs) iv) t.1 n o
  outside_place sc (more (Stmt (BindPart (Bind at name f)) semicolon) rest) (bound t0 u fs ∷ xs) ks old h iu iv t n (inl o) =
      found_place ks (λ e ws l. old e ws (there_after e ws ks (bound t0 u fs ∷ xs) l)) fs (in_left us (map (found_use d) fs) (uses_under d xs) iu) (in_left vs (map (found_use a) fs) (uses_under a xs) iv) t.0 n (has_found fs (names sc f) h.0.1 n o.1)
  outside_place sc (more (Stmt (BindPart (Bind at name f)) semicolon) rest) (defined e ws ∷ xs) ks old h iu iv t n (inl o) = absurd h.0
  outside_place sc (more (Stmt (BindPart (Bind at name f)) semicolon) rest) (ran fs ∷ xs) ks old h iu iv t n (inl o) = absurd h.0
  outside_place sc (more (Stmt (DefPart c) semicolon) rest) (x ∷ xs) ks old h iu iv t n (inl o) = has_owner (def_token c) o.0
  outside_place sc (more (Stmt (CallPart c) semicolon) rest) (bound t0 u fs ∷ xs) ks old h iu iv t n (inl o) = absurd h.0
  outside_place sc (more (Stmt (CallPart c) semicolon) rest) (defined e ws ∷ xs) ks old h iu iv t n (inl o) = absurd h.0
  outside_place sc (more (Stmt (CallPart c) semicolon) rest) (ran fs ∷ xs) ks old h iu iv t n (inl o) =
      found_place ks (λ e ws l. old e ws (there_after e ws ks (ran fs ∷ xs) l)) fs (in_left us (map (found_use d) fs) (uses_under d xs) iu) (in_left vs (map (found_use a) fs) (uses_under a xs) iv) t.0 n (has_found fs (names sc c) h.0 n o.1)
  outside_place sc (more (Stmt (IfPart c) semicolon) rest) (bound t0 u fs ∷ xs) ks old h iu iv t n (inl o) = absurd h.0
  outside_place sc (more (Stmt (IfPart c) semicolon) rest) (defined e ws ∷ xs) ks old h iu iv t n (inl o) = absurd h.0
  outside_place sc (more (Stmt (IfPart c) semicolon) rest) (ran fs ∷ xs) ks old h iu iv t n (inl o) =
      found_place ks (λ e ws l. old e ws (there_after e ws ks (ran fs ∷ xs) l)) fs (in_left us (map (found_use d) fs) (uses_under d xs) iu) (in_left vs (map (found_use a) fs) (uses_under a xs) iv) t.0 n (has_found fs (names sc c) h.0 n o.1)

  -- behind a call of a def
  call_place : (chain : List ℕ) (at t : ℕ) (c n : Name) → IsRead chain c → c.at ≡ at → target_of c.meant ≡ Some (target.Def t) → UsedInDef all t n → IsRead (at ∷ chain) n
  call_place chain at t c n r same means used =
      let is : r.target ≡ target.Def t = target_is r.target (target.Def t) (r.meant ∙ means) in
      let takes : Takes (CallTakes (texts_under a r.known) kinds) kinds chain at (target.Def t) r.are =
      subst (λ (x : ℕ). Takes (CallTakes (texts_under a r.known) kinds) kinds chain x (target.Def t) r.are) same
      (subst (λ (x : Target). Takes (CallTakes (texts_under a r.known) kinds) kinds chain c.at x r.are) is r.takes) in
      let l = call_leads r.known a kinds (at ∷ chain) t r.are takes.2 in
      let here : IsThere l.def l.uses all = r.older l.def l.uses l.there in
      let texts : used.uses ≡ l.uses = same_text all apart used.def l.def used.uses l.uses used.there here (used.token ∙ sym l.token) in
      let al : around gs us (at ∷ chain) ≡ Some r.least = subst (λ (x : ℕ). read gs us chain x ≡ Some r.least) same r.read_least in
      let aj : around hs vs (at ∷ chain) ≡ Some r.are = subst (λ (x : ℕ). read hs vs chain x ≡ Some r.are) same r.read_are in
      text_place l.before (λ e ws o. r.older e ws (l.older e ws o)) (at ∷ chain) r.least r.are al aj r.less l.uses
      (texts_there us d all l.def l.uses ru here) (texts_there vs a all l.def l.uses rv here) l.takes n (subst (λ (ws : List TextUse). HasTextUse ws n) texts used.has)

  pub at_places : (bs : List Block) (def : Option ℕ) → ((n : Name) → IsUsedIn bs def n → IsRead [] n) → ((t : ℕ) (n : Name) → IsUsedIn bs (Some t) n → UsedInDef all t n) → (chain : List ℕ) (n : Name) → IsPlace bs def chain n → IsRead chain n
  at_places bs def base used [] n p = base n p
  at_places bs def base used (at ∷ chain) n p = call_place chain at p.1 p.0 n (at_places bs def base used chain p.0 p.2) p.3 p.4 (used p.1 n p.5)

  -- a builtin's kinds
  builtin_kinds : (chain : List ℕ) (n : Name) (b : Builtin) → target_of n.meant ≡ Some (target.Builtin b) → (r : IsRead chain n) → kinds chain n.at ≡ Some r.are
  builtin_kinds chain n b means r =
      let is : r.target ≡ target.Builtin b = target_is r.target (target.Builtin b) (r.meant ∙ means) in
      subst (λ (x : Target). Takes (CallTakes (texts_under a r.known) kinds) kinds chain n.at x r.are) is r.takes

  pub least_at : (chain : List ℕ) (n : Name) (b : Builtin) → target_of n.meant ≡ Some (target.Builtin b) → IsRead chain n → MonoOnly (read gs us chain n.at) (kinds chain n.at)
  least_at chain n b means r =
      subst (λ (o : Option (List Kind)). MonoOnly o (kinds chain n.at)) (sym r.read_least)
      (subst (λ (o : Option (List Kind)). MonoOnly (Some r.least) o) (sym (builtin_kinds chain n b means r)) r.less)

  pub same_at : (chain : List ℕ) (n : Name) (b : Builtin) → target_of n.meant ≡ Some (target.Builtin b) → IsRead chain n → read hs vs chain n.at ≡ kinds chain n.at
  same_at chain n b means r = r.read_are ∙ sym (builtin_kinds chain n b means r)
