-- What is known of the defs in scope, at later substitutions and with one more binding or def.
use Rattle.std.proofs.Common.{◌≡◌, ◌∙◌, inl, inr, sym, ap, subst, refl, arith, ℕ, zero, suc, ◌<◌, ◌≤◌, length, List, [], ◌∷◌, ◌++◌, map, Option, Some, None, Bool, true, false, cond, nat_eq, append_assoc, append-nil, eq-eqb}
use Rattle.std.proofs.lemmas.Bool.Decides.{eqb_tells}
use Rattle.std.proofs.lemmas.List.{length_push}
use Rattle.std.proofs.Math.Path.{transport, transport⁻¹}
use Rattle.std.specs.Prelude.{slice_get}
use Rattle.liq_base.specs.declared.memory.Kind.{Kind}
use Rattle.script_grammar.specs.Tree.{Tree, ADef}
use Rattle.script_grammar.specs.View.{view_def}
use Rattle.type_terms.specs.Agrees.{Follows}
use Rattle.type_terms.specs.Ground.{Ground, Assignment}
use Rattle.type_terms.specs.Table.{IsOver, Table}
use Rattle.type_terms.specs.Term.{Term, variable}
use Rattle.typing_rules.specs.declared.uses.Target.{Target}
use Rattle.typing_rules.specs.declared.uses.Target.TheVariants as target
use Rattle.typing_rules.specs.declared.uses.Use.{Use}
use Rattle.typing_rules.specs.Arguments.{GivenArgument, Matched, Parameter}
use Rattle.typing_rules.specs.Kinds.{kinds_of}
use Rattle.typing_rules.specs.Scripts.{Entry, Places, Targets, behind, calls_behind, def_token, params_of, sight}
use Rattle.typing_rules.specs.Typing.{DefHas}
use Rattle.typing_rules.proofs.TypedScripts.{call_typed, typed_call}
use Rattle.typing_rules.proofs.Shift.{text_comes, text_goes}
use Rattle.type_instances.specs.Schemes.{IsInstance, IsSchemeOver, Scheme, scheme_of}
use Rattle.name_scope.specs.Seen.{seen_parameter}
use Rattle.type_steps.specs.Environment.{AreKnownOver, CallTakes, Known, Takes, TextTakes, TextUse, Texts, entries_under, function, settled_use, texts_under, value}
use Rattle.type_steps.specs.Flow.{IsCallable}
use Rattle.type_steps.proofs.Tables.{env_later}
use Rattle.type_steps.specs.Counts.{count_at, text_count}
use Rattle.type_steps.specs.Defs.{IsTypingOf, outside}
use Rattle.type_steps.specs.Statements.{IsNewDef}
use Rattle.expression_types.specs.Seen.{DefIs, def_known, def_seen, known_seen, newest_first}
use Rattle.expression_types.specs.declared.environment.Known.{Known as AKnown}
use Rattle.expression_types.specs.declared.environment.Known.TheVariants as known
use Rattle.expression_types.specs.declared.environment.KnownDef.{KnownDef}
use Rattle.expression_types.specs.declared.environment.TypedName.{TypedName}
use Rattle.type_infer.specs.Answers.{text_of}
use Rattle.type_infer.specs.Scope.{AreAmong, AreSeenDefs}

-- ---- lists

pub slice_left : {A : Type 0} (xs : List A) (y : A) (i : ℕ) → i < length xs → slice_get (xs ++ y ∷ []) i ≡ slice_get xs i
slice_left [] y i lt = absurd (omega arith)
slice_left (x ∷ xs) y zero lt = refl
slice_left (x ∷ xs) y (suc i) lt = slice_left xs y i (omega (arith, lt))

pub slice_last : {A : Type 0} (xs : List A) (y : A) → slice_get (xs ++ y ∷ []) (length xs) ≡ Some y
slice_last [] y = refl
slice_last (x ∷ xs) y = slice_last xs y

-- ---- what is known, with one more

among_more : (n m : ℕ) (bs : List AKnown) → n ≤ m → AreAmong n bs → AreAmong m bs
among_more n m [] le h = tt
among_more n m (known.Value v ∷ bs) le h = among_more n m bs le h
among_more n m (known.Function i ∷ bs) le h = (omega (arith, le, h.0), among_more n m bs le h.1)

among_value : (n : ℕ) (bs : List AKnown) (v : TypedName) → AreAmong n bs → AreAmong n (bs ++ known.Value v ∷ [])
among_value n [] v h = tt
among_value n (known.Value w ∷ bs) v h = among_value n bs v h
among_value n (known.Function i ∷ bs) v h = (h.0, among_value n bs v h.1)

among_def : (n i : ℕ) (bs : List AKnown) → i < n → AreAmong n bs → AreAmong n (bs ++ known.Function i ∷ [])
among_def n i [] lt h = (lt, tt)
among_def n i (known.Value w ∷ bs) lt h = among_def n i bs lt h
among_def n i (known.Function j ∷ bs) lt h = (h.0, among_def n i bs lt h.1)

newest_more : (ds : List KnownDef) (bs : List AKnown) (x : AKnown) → newest_first ds (bs ++ x ∷ []) ≡ known_seen ds x ++ newest_first ds bs
newest_more ds [] x = sym (append-nil (known_seen ds x))
newest_more ds (b ∷ bs) x = ap (λ (l : List Known). l ++ known_seen ds b) (newest_more ds bs x) ∙ append_assoc (known_seen ds x) (newest_first ds bs) (known_seen ds b)

pub newest_value : (ds : List KnownDef) (bs : List AKnown) (n : TypedName) → newest_first ds (bs ++ known.Value n ∷ []) ≡ value n.at (variable n.var) ∷ newest_first ds bs
newest_value ds bs n = newest_more ds bs (known.Value n)

one_kept : (ds : List KnownDef) (k : KnownDef) (bs : List AKnown) → AreAmong (length ds) bs → newest_first (ds ++ k ∷ []) bs ≡ newest_first ds bs
one_kept ds k [] h = refl
one_kept ds k (known.Value w ∷ bs) h = ap (λ (l : List Known). l ++ known_seen ds (known.Value w)) (one_kept ds k bs h)
one_kept ds k (known.Function i ∷ bs) h =
    ap (λ (l : List Known). l ++ known_seen (ds ++ k ∷ []) (known.Function i)) (one_kept ds k bs h.1)
    ∙ ap (λ (o : Option KnownDef). newest_first ds bs ++ def_known o) (slice_left ds k i h.0)

pub newest_def : (ds : List KnownDef) (bs : List AKnown) (k : KnownDef) → AreAmong (length ds) bs → newest_first (ds ++ k ∷ []) (bs ++ known.Function (length ds) ∷ []) ≡ function (view_def k.def.now) (text_of k) ∷ newest_first ds bs
newest_def ds bs k h =
    newest_more (ds ++ k ∷ []) bs (known.Function (length ds))
    ∙ ap (λ (o : Option KnownDef). def_known o ++ newest_first (ds ++ k ∷ []) bs) (slice_last ds k)
    ∙ ap (λ (l : List Known). function (view_def k.def.now) (text_of k) ∷ l) (one_kept ds k bs h)

-- ---- the def at a token

abbrev or_def : Option KnownDef → Option KnownDef → Option KnownDef
or_def None o = o
or_def (Some d) o = Some d

or_def_cond : (b : Bool) (d : KnownDef) (o p : Option KnownDef) → cond b (Some d) (or_def o p) ≡ or_def (cond b (Some d) o) p
or_def_cond true d o p = refl
or_def_cond false d o p = refl

pub seen_push : (t : ℕ) (ds : List KnownDef) (k : KnownDef) → def_seen t (ds ++ k ∷ []) ≡ or_def (def_seen t ds) (cond (nat_eq k.at t) (Some k) None)
seen_push t [] k = refl
seen_push t (d ∷ ds) k = ap (λ (o : Option KnownDef). cond (nat_eq d.at t) (Some d) o) (seen_push t ds k) ∙ or_def_cond (nat_eq d.at t) d (def_seen t ds) (cond (nat_eq k.at t) (Some k) None)

or_none : (o : Option KnownDef) → or_def o None ≡ o
or_none None = refl
or_none (Some d) = refl

pub seen_other : (t : ℕ) (ds : List KnownDef) (k : KnownDef) → nat_eq k.at t ≡ false → def_seen t (ds ++ k ∷ []) ≡ def_seen t ds
seen_other t ds k other = seen_push t ds k ∙ ap (λ (b : Bool). or_def (def_seen t ds) (cond b (Some k) None)) other ∙ or_none (def_seen t ds)

pub seen_this : (t : ℕ) (ds : List KnownDef) (k : KnownDef) → k.at ≡ t → def_seen t ds ≡ None → def_seen t (ds ++ k ∷ []) ≡ Some k
seen_this t ds k here none =
    seen_push t ds k ∙ ap (λ (o : Option KnownDef). or_def o (cond (nat_eq k.at t) (Some k) None)) none ∙ ap (λ (b : Bool). cond b (Some k) None) (eq-eqb k.at t here)

-- ---- at later substitutions

scheme_later : (s s' : Table) (g : Scheme) → Follows s s' → IsSchemeOver s g → IsSchemeOver s' g
scheme_later s s' g f o = record {
  params = o.params;
  result = o.result;
  types = λ i k e. let lt = o.types i k e in omega (arith, f.types, lt);
  kinds = λ i k e. let lt = o.kinds i k e in omega (arith, f.kinds, lt);
}

def_later : (s s' : Table) (targets : Targets) (ks : List Known) (t : ℕ) (o : Option KnownDef) → Follows s s' → DefIs s (outside targets ks) t o → DefIs s' (outside targets ks) t o
def_later s s' targets ks t None f h = λ at a m. h at a (f.solves a m)
def_later s s' targets ks t (Some d) f h = (
  scheme_later s s' (scheme_of d.general) f h.0,
  λ at. record {
    calls = λ a m. (h.1 at).calls a (f.solves a m);
    instance = λ a m. (h.1 at).instance a (f.solves a m);
  },
)

pub defs_later : (s s' : Table) (targets : Targets) (bs : List AKnown) (ds : List KnownDef) → Follows s s' → AreSeenDefs s targets bs ds → AreSeenDefs s' targets bs ds
defs_later s s' targets bs ds f h = record {
  here = h.here;
  over = (env_later s s' (outside targets (newest_first ds bs)) f (record { before = h.over; inner = tt })).before;
  calls = λ t. def_later s s' targets (newest_first ds bs) t (def_seen t ds) f (h.calls t);
}

-- ---- with a value

def_behind_value : (s : Table) (targets : Targets) (ks : List Known) (x : ℕ) (u : Term) (t : ℕ) (o : Option KnownDef) → DefIs s (outside targets ks) t o → DefIs s (outside targets (value x u ∷ ks)) t o
def_behind_value s targets ks x u t None h = λ at a m kinds gs g c. h at a m kinds gs g c
def_behind_value s targets ks x u t (Some d) h = (
  h.0,
  λ at. record {
    calls = λ a m kinds gs g ts os matched inst takes. (h.1 at).calls a m kinds gs g ts os matched inst takes;
    instance = λ a m kinds gs g c. (h.1 at).instance a m kinds gs g c;
  },
)

pub with_value : (s : Table) (targets : Targets) (bs : List AKnown) (ds : List KnownDef) (n : TypedName) → IsOver s (variable n.var) → AreSeenDefs s targets bs ds → AreSeenDefs s targets (bs ++ known.Value n ∷ []) ds
with_value s targets bs ds n over h =
    let e = newest_value ds bs n in
    record {
      here = among_value (length ds) bs n h.here;
      over = subst (AreKnownOver s) (sym e) (over, h.over);
      calls = λ t. subst (λ (ks : List Known). DefIs s (outside targets ks) t (def_seen t ds)) (sym e) (def_behind_value s targets (newest_first ds bs) n.at (variable n.var) t (def_seen t ds) (h.calls t));
    }

-- ---- with a def, at another token

abbrev TakesBy : Bool → Texts → Places → List ℕ → ℕ → List Kind → List Use → Type 0
TakesBy b xs kinds chain t ks us = elim b [ true ↦ TextTakes (CallTakes xs kinds) kinds chain ks us | false ↦ CallTakes xs kinds chain t ks ]

abbrev CallsBy : Bool → Targets → Places → List Entry → List ℕ → ℕ → ℕ → List (GivenArgument Ground) → Ground → Tree ADef → Type 0
CallsBy b targets kinds es chain at t gs g d = elim b [
  | true ↦ ((ts : List Ground) × Matched (params_of d) gs ts × DefHas (sight targets kinds es (at ∷ chain)) d ts g)
  | false ↦ calls_behind targets kinds es chain at t gs g
]

def_behind_other : (s : Table) (targets : Targets) (ks : List Known) (d : Tree ADef) (us : List TextUse) (t : ℕ) (o : Option KnownDef) → nat_eq (def_token d) t ≡ false → DefIs s (outside targets ks) t o → DefIs s (outside targets (function d us ∷ ks)) t o
def_behind_other s targets ks d us t None other h = λ at a m kinds gs g c.
    h at a m kinds gs g (c.0, c.1, transport (ap (λ (b : Bool). CallsBy b targets kinds (entries_under a ks) [] at t gs g d) other) c.2)
def_behind_other s targets ks d us t (Some k) other h = (
  h.0,
  λ at. record {
    calls = λ a m kinds gs g ts os matched inst takes.
        let c = (h.1 at).calls a m kinds gs g ts os matched inst (takes.0, takes.1, transport (ap (λ (b : Bool). TakesBy b (texts_under a ks) kinds (at ∷ []) t os (map (settled_use a) us)) other) takes.2) in
        (c.0, c.1, transport⁻¹ (ap (λ (b : Bool). CallsBy b targets kinds (entries_under a ks) [] at t gs g d) other) c.2);
    instance = λ a m kinds gs g c.
        let i = (h.1 at).instance a m kinds gs g (c.0, c.1, transport (ap (λ (b : Bool). CallsBy b targets kinds (entries_under a ks) [] at t gs g d) other) c.2) in
        (i.0, i.1, i.2, i.3, (i.4.0, i.4.1, transport⁻¹ (ap (λ (b : Bool). TakesBy b (texts_under a ks) kinds (at ∷ []) t i.1 (map (settled_use a) us)) other) i.4.2));
  },
)

-- ---- the uses in a text behind a call are those of the text by itself, with the places renamed

abbrev Calls : Type 1
Calls = List ℕ → ℕ → List Kind → Type 0

takes_shift : (kinds : Places) (chain : List ℕ) (calls others : Calls) → ((c : List ℕ) (t : ℕ) (ks : List Kind) → calls (c ++ chain) t ks ≡ others c t ks) → (c : List ℕ) (at : ℕ) (x : Target) (ks : List Kind) →
    Takes calls kinds (c ++ chain) at x ks ≡ Takes others (behind chain kinds) c at x ks
takes_shift kinds chain calls others e c at (target.Slot t) ks = refl
takes_shift kinds chain calls others e c at (target.Def t) ks = λ i. (js : List Kind) × (kinds (c ++ chain) at ≡ Some js) × e (at ∷ c) t ks i
takes_shift kinds chain calls others e c at (target.Builtin b) ks = refl

text_shift : (kinds : Places) (chain : List ℕ) (calls others : Calls) → ((c : List ℕ) (t : ℕ) (ks : List Kind) → calls (c ++ chain) t ks ≡ others c t ks) → (c : List ℕ) (given : List Kind) (us : List Use) →
    TextTakes calls kinds (c ++ chain) given us ≡ TextTakes others (behind chain kinds) c given us
text_shift kinds chain calls others e c given [] = refl
text_shift kinds chain calls others e c given (u ∷ us) = λ i. ((ks : List Kind) × (kinds_of given u.kinds ≡ Some ks) × takes_shift kinds chain calls others e c u.at u.target ks i) × text_shift kinds chain calls others e c given us i

call_shift : (xs : Texts) (kinds : Places) (chain : List ℕ) (c : List ℕ) (t : ℕ) (ks : List Kind) → CallTakes xs kinds (c ++ chain) t ks ≡ CallTakes xs (behind chain kinds) c t ks
call_shift [] kinds chain c t ks = refl
call_shift (x ∷ xs) kinds chain c t ks = λ i. elim (nat_eq x.0 t) [
  | true ↦ text_shift kinds chain (CallTakes xs kinds) (CallTakes xs (behind chain kinds)) (λ d u js. call_shift xs kinds chain d u js) c ks x.1 i
  | false ↦ call_shift xs kinds chain c t ks i
]

text_behind_call : (xs : Texts) (kinds : Places) (at : ℕ) (given : List Kind) (us : List Use) → TextTakes (CallTakes xs kinds) kinds (at ∷ []) given us ≡ TextTakes (CallTakes xs (behind (at ∷ []) kinds)) (behind (at ∷ []) kinds) [] given us
text_behind_call xs kinds at given us = text_shift kinds (at ∷ []) (CallTakes xs kinds) (CallTakes xs (behind (at ∷ []) kinds)) (λ c t ks. call_shift xs kinds (at ∷ []) c t ks) [] given us

-- ---- with a def, at its token

module _ (s : Table) (targets : Targets) (ks : List Known) (d : Tree ADef) (g : Scheme) (us : List TextUse) (ps : List Parameter) (params : ps ≡ params_of d) (typing : IsTypingOf s targets ks d g us) where
  here_takes : (a : Assignment) (kinds : Places) (at : ℕ) (os : List Kind) → CallTakes (texts_under a (function d us ∷ ks)) kinds (at ∷ []) (def_token d) os ≡ TextTakes (CallTakes (texts_under a ks) kinds) kinds (at ∷ []) os (map (settled_use a) us)
  here_takes a kinds at os = ap (λ (b : Bool). TakesBy b (texts_under a ks) kinds (at ∷ []) (def_token d) os (map (settled_use a) us)) (eq-eqb (def_token d) (def_token d) refl)

  this_calls : (at : ℕ) → IsCallable s (outside targets (function d us ∷ ks)) at (target.Def (def_token d)) ps (IsInstance g)
  this_calls at = record {
    calls = λ a m kinds gs r ts os matched inst takes.
        let text = transport (text_behind_call (texts_under a ks) kinds at os (map (settled_use a) us)) (transport (here_takes a kinds at os) takes.2) in
        let has = text_goes targets kinds (entries_under a ks) (at ∷ []) d ts r (typing.sound a m (behind (at ∷ []) kinds) ts r os inst text) in
        let fits : Matched (params_of d) gs ts = subst (λ (qs : List Parameter). Matched qs gs ts) params matched in
        (takes.0, takes.1, typed_call targets kinds (entries_under a ks) d [] at gs r (ts, fits, has));
    instance = λ a m kinds gs r c.
        let called = call_typed targets kinds (entries_under a ks) d [] at gs r c.2 in
        let fits : Matched ps gs called.0 = subst (λ (qs : List Parameter). Matched qs gs called.0) (sym params) called.1 in
        let t = typing.complete a m (behind (at ∷ []) kinds) called.0 r (text_comes targets kinds (entries_under a ks) (at ∷ []) d called.0 r called.2) in
        let text = transport⁻¹ (here_takes a kinds at t.0) (transport⁻¹ (text_behind_call (texts_under a ks) kinds at t.0 (map (settled_use a) us)) t.2) in
        (called.0, t.0, fits, t.1, (c.0, c.1, text));
  }

def_behind_this : (s : Table) (targets : Targets) (ks : List Known) (d : Tree ADef) (us : List TextUse) (t : ℕ) (k : KnownDef) → map seen_parameter k.params.items ≡ params_of d → IsTypingOf s targets ks d (scheme_of k.general) us → def_token d ≡ t → DefIs s (outside targets (function d us ∷ ks)) t (Some k)
def_behind_this s targets ks d us t k params typing here =
    subst (λ (n : ℕ). DefIs s (outside targets (function d us ∷ ks)) n (Some k)) here
    (typing.over, λ at. this_calls s targets ks d (scheme_of k.general) us (map seen_parameter k.params.items) params typing at)

pub record IsNewKnown (s : Table) (targets : Targets) (bs : List AKnown) (ds : List KnownDef) (k : KnownDef) (d : Tree ADef) : Type 0 where
  pub def : view_def k.def.now ≡ d
  pub at : k.at ≡ def_token d
  pub params : map seen_parameter k.params.items ≡ params_of d
  pub typing : IsTypingOf s targets (newest_first ds bs) d (scheme_of k.general) (text_of k)
  pub new : def_seen (def_token d) ds ≡ None

with_def_at : (s : Table) (targets : Targets) (bs : List AKnown) (ds : List KnownDef) (k : KnownDef) (d : Tree ADef) → IsNewKnown s targets bs ds k d → AreSeenDefs s targets bs ds → (t : ℕ) → DefIs s (outside targets (function d (text_of k) ∷ newest_first ds bs)) t (def_seen t (ds ++ k ∷ []))
with_def_at s targets bs ds k d n h t =
    let ks = newest_first ds bs in
    let us = text_of k in
    elim (eqb_tells (def_token d) t) [
      | inl x ↦
          let here : def_token d ≡ t = x.1 in
          let this : def_seen t (ds ++ k ∷ []) ≡ Some k = seen_this t ds k (n.at ∙ here) (ap (λ (i : ℕ). def_seen i ds) (sym here) ∙ n.new) in
          subst (λ (o : Option KnownDef). DefIs s (outside targets (function d us ∷ ks)) t o) (sym this) (def_behind_this s targets ks d us t k n.params n.typing here)
      | inr x ↦
          let other : nat_eq k.at t ≡ false = ap (λ (i : ℕ). nat_eq i t) n.at ∙ x.0 in
          subst (λ (o : Option KnownDef). DefIs s (outside targets (function d us ∷ ks)) t o) (sym (seen_other t ds k other)) (def_behind_other s targets ks d us t (def_seen t ds) x.0 (h.calls t))
    ]

pub with_def : (s : Table) (targets : Targets) (bs : List AKnown) (ds : List KnownDef) (k : KnownDef) (d : Tree ADef) → IsNewKnown s targets bs ds k d → AreSeenDefs s targets bs ds → AreSeenDefs s targets (bs ++ known.Function (length ds) ∷ []) (ds ++ k ∷ [])
with_def s targets bs ds k d n h =
    let e : newest_first (ds ++ k ∷ []) (bs ++ known.Function (length ds) ∷ []) ≡ function d (text_of k) ∷ newest_first ds bs = newest_def ds bs k h.here ∙ ap (λ (y : Tree ADef). function y (text_of k) ∷ newest_first ds bs) n.def in
    let long = length_push ds k in
    record {
      here = among_def (length (ds ++ k ∷ [])) (length ds) bs (omega (arith, long)) (among_more (length ds) (length (ds ++ k ∷ [])) bs (omega (arith, long)) h.here);
      over = subst (AreKnownOver s) (sym e) (n.typing.text_over, h.over);
      calls = λ t. subst (λ (ks : List Known). DefIs s (outside targets ks) t (def_seen t (ds ++ k ∷ []))) (sym e) (with_def_at s targets bs ds k d n h t);
    }

-- ---- a def whose token is new

pub count_new : (ks : List Known) (d : Tree ADef) → IsNewDef ks d → count_at (def_token d) ks ≡ None
count_new [] d n = refl
count_new (value x u ∷ ks) d n = count_new ks d n
count_new (function e us ∷ ks) d n = elim (eqb_tells (def_token e) (def_token d)) [
  | inl x ↦ absurd (n.0 x.1)
  | inr x ↦ ap (λ (b : Bool). cond b (text_count us) (count_at (def_token d) ks)) x.0 ∙ count_new ks d n.1
]
