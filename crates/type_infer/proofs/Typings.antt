-- What is answered of a def.
use Rattle.std.proofs.Common.{◌≡◌, ◌∙◌, sym, ap, ap₂, subst, refl, ℕ, zero, suc, length, List, [], ◌∷◌, ◌++◌, map, take, drop, append_assoc, Option, Some, None}
use Rattle.std.specs.List.{flat_map}
use Rattle.liq_base.specs.declared.memory.Kind.{Kind}
use Rattle.script_grammar.specs.View.{view_def}
use Rattle.script_grammar.specs.declared.tree.Def.{Def}
use Rattle.type_terms.specs.Agrees.{Follows}
use Rattle.type_terms.specs.Ground.{Assignment}
use Rattle.type_terms.specs.Table.{Table}
use Rattle.type_terms.specs.Term.{Term, kind_meaning}
use Rattle.type_terms.specs.declared.ty.KindTerm.{KindTerm}
use Rattle.typing_rules.specs.Kinds.{numbered_on, known_kind, kinds_of, put}
use Rattle.typing_rules.specs.Scripts.{Targets}
use Rattle.type_instances.specs.Schemes.{Scheme, scheme_of}
use Rattle.general_types.specs.declared.generalising.TextKind.{TextKind}
use Rattle.general_types.specs.declared.generalising.TextKind.TheVariants.{Open, Outer}
use Rattle.general_types.specs.Generals.{IsGeneral, open_of, settled as settled_text}
use Rattle.general_types.specs.Holding.{HeldVariables, IsHeldBy}
use Rattle.type_steps.specs.Environment.{AreKnownOver, Found, Known, TextUse, function}
use Rattle.expression_types.specs.declared.environment.Names.{Names}
use Rattle.expression_types.specs.Order.{AreAdded, Said, said_at, said_of}
use Rattle.type_steps.specs.Counts.{open_in, opens_in}
use Rattle.type_steps.specs.Defs.{HasNoTyping, HoldsBefore, IsTypingOf, outside, terms_before}
use Rattle.type_infer.specs.Answers.{AreSaidAs, IsNumberedDef, IsTypedDef, said_in, text_of}
use Rattle.type_infer.specs.PartsOf.{HasNoDef, InfersDef}
use Rattle.type_infer.specs.DefSteps.{IsGeneralDef}
use Rattle.type_infer.specs.TextUses.{kinds_in, pending_of, text_uses}
use Rattle.expression_types.specs.declared.environment.KnownDef.{KnownDef}
use Rattle.type_infer.specs.declared.parts.TypedParts.{TypedParts}
use Rattle.type_infer.proofs.General.{def_held, def_keeps, def_typing}

pub general_as : (s : Table) (names ts us : List Term) (x y : Term) (ks ls : List KindTerm) (g : Scheme) (text : List TextKind) → ts ≡ us → x ≡ y → ks ≡ ls → IsGeneral s names ts x ks g text → IsGeneral s names us y ls g text
general_as s names ts us x y ks ls g text e f h i =
    subst (λ (vs : List Term). IsGeneral s names vs y ls g text) e (subst (λ (z : Term). IsGeneral s names ts z ls g text) f (subst (λ (ms : List KindTerm). IsGeneral s names ts x ms g text) h i))

pub no_typing : (s : Table) (targets : Targets) (before : List Known) (d : Def) → HasNoDef s (outside targets before) (view_def d) → HasNoTyping s targets before (view_def d)
no_typing s targets before d n a m some = n a m some.0 some.1 some.2 some.3

pub is_typed : (s s1 : Table) (targets : Targets) (before : List Known) (d : Def) (p : TypedParts) (fs : List Found) (h h' : HeldVariables) (t : KnownDef) → AreKnownOver s before → HoldsBefore s before h → InfersDef s s1 (outside targets before) (view_def d) p.params.items p.result fs → IsGeneralDef s1 h h' d p fs t → IsTypedDef s s1 targets before d h' t
is_typed s s1 targets before d p fs h h' t known was i g =
    let held = g.held s (terms_before before) i.follows was.held in
    let typing = def_typing s s1 targets before (view_def d) p.params.items p.result fs h (scheme_of t.general) g.made.text.items i known was (g.type.general (terms_before before) held) (g.type.over (terms_before before) held) (g.type.text_over (terms_before before) held) in
    let holds = def_held s s1 targets before (view_def d) p.params.items p.result fs h (scheme_of t.general) g.made.text.items i known was (g.type.general (terms_before before) held) h' held in
    record {
      def = g.known.def;
      at = g.known.at;
      params = g.known.params;
      follows = i.follows;
      complete = def_keeps s s1 targets before (view_def d) p.params.items p.result fs h (scheme_of t.general) g.made.text.items i known was (g.type.general (terms_before before) held);
      typing = subst (λ (us : List TextUse). IsTypingOf s1 targets before (view_def d) (scheme_of t.general) us) (sym g.known.text) typing;
      held = subst (λ (us : List TextUse). HoldsBefore s1 (function (view_def d) us ∷ before) h') (sym g.known.text) holds;
    }

-- ---- the uses of the text are said as those that were found

lengths : (given : List Kind) (a : Assignment) (text : List TextKind) (zs : List Kind) → kinds_of given (map (settled_text a) text) ≡ Some zs → length text ≡ length zs
lengths given a [] [] e = refl
lengths given a [] (z ∷ zs) e = absurd cc
lengths given a (t ∷ text) [] e = absurd (put_some (known_kind given (settled_text a t)) (kinds_of given (map (settled_text a) text)) e) where
  put_some : (o : Option Kind) (p : Option (List Kind)) → put o p ≡ Some [] → ⊥
  put_some (Some j) (Some js) e = cc
  put_some (Some j) None e = cc
  put_some None (Some js) e = cc
  put_some None None e = cc
lengths given a (t ∷ text) (z ∷ zs) e = ap suc (lengths given a text zs (rest (known_kind given (settled_text a t)) (kinds_of given (map (settled_text a) text)) e)) where
  rest : (o : Option Kind) (p : Option (List Kind)) → put o p ≡ Some (z ∷ zs) → p ≡ Some zs
  rest (Some j) (Some js) e = cc
  rest (Some j) None e = absurd cc
  rest None (Some js) e = absurd cc
  rest None None e = absurd cc

length_meanings : (b : Assignment) (ks : List KindTerm) → length (map (kind_meaning b) ks) ≡ length ks
length_meanings b [] = refl
length_meanings b (k ∷ ks) = ap suc (length_meanings b ks)

said_taken : (n : ℕ) (text : List TextKind) (rest : List KindTerm) (ks : List KindTerm) → n ≡ length ks → length text ≡ length (ks ++ rest) → length (map pending_of (take n text)) ≡ n
said_taken n text rest ks is long = subst (λ m. length (map pending_of (take m text)) ≡ m) (sym is) (by ks text long) where
  by : (ks : List KindTerm) (text : List TextKind) → length text ≡ length (ks ++ rest) → length (map pending_of (take (length ks) text)) ≡ length ks
  by [] text long = refl
  by (k ∷ ks) [] long = absurd cc
  by (k ∷ ks) (t ∷ text) long = ap suc (by ks text (let e : length text ≡ length (ks ++ rest) = cc in e))

rest_long : (ks rest : List KindTerm) (text : List TextKind) → length text ≡ length (ks ++ rest) → length (drop (length ks) text) ≡ length rest
rest_long [] rest text long = long
rest_long (k ∷ ks) rest [] long = absurd cc
rest_long (k ∷ ks) rest (t ∷ text) long = rest_long ks rest text (let e : length text ≡ length (ks ++ rest) = cc in e)

said_same : (fs : List Found) (text : List TextKind) → length text ≡ length (kinds_in fs) → map said_in (text_uses fs text) ≡ map said_of fs
said_same [] text long = refl
said_same (f ∷ fs) text long =
    ap₂ (λ (n : ℕ) (l : List Said). (f.at, Some f.target, Some n) ∷ l) (said_taken (length f.kinds) text (kinds_in fs) f.kinds refl long) (said_same fs (drop (length f.kinds) text) (rest_long f.kinds (kinds_in fs) text long))

-- the text has as many kinds as the uses
text_long : (s : Table) (d : Def) (p : TypedParts) (fs : List Found) (h h' : HeldVariables) (t : KnownDef) (s0 : Table) (names : List Term) → Follows s0 s → IsHeldBy s0 names h → (g : IsGeneralDef s h h' d p fs t) → length g.made.text.items ≡ length (kinds_in fs)
text_long s d p fs h h' t s0 names f held g =
    let a : Assignment = g.solution.0 in
    let q = (g.type.general names (g.held s0 names f held)).complete a a g.solution.1 g.solution.1 refl in
    lengths q.0 a g.made.text.items (map (kind_meaning a) (kinds_in fs)) q.2 ∙ length_meanings a (kinds_in fs)

pub is_said : (s s1 : Table) (targets : Targets) (before : List Known) (ns : Names) (d : Def) (p : TypedParts) (fs : List Found) (h h' : HeldVariables) (t : KnownDef) (ts : List ℕ) (old : List Found) → old ≡ [] → HoldsBefore s before h → InfersDef s s1 (outside targets before) (view_def d) p.params.items p.result fs → IsGeneralDef s1 h h' d p fs t → AreAdded ns ts old fs → AreSaidAs ns ts (text_of t)
is_said s s1 targets before ns d p fs h h' t ts old none was i g added =
    let long = text_long s1 d p fs h h' t s (terms_before before) i.follows was.held g in
    ap (map said_in) g.known.text ∙ said_same fs g.made.text.items long ∙ added ∙ ap (λ (l : List Found). map said_of l ++ map (said_at ns) ts) none

-- ---- the open kinds of the uses are those of the text

pending_opens : (text : List TextKind) → flat_map open_in (map pending_of text) ≡ flat_map open_of text
pending_opens [] = refl
pending_opens (Outer k ∷ text) = pending_opens text
pending_opens (Open j ∷ text) = ap (λ (js : List ℕ). j ∷ js) (pending_opens text)

split_opens : (n : ℕ) (text : List TextKind) → flat_map open_of (take n text) ++ flat_map open_of (drop n text) ≡ flat_map open_of text
split_opens zero text = refl
split_opens (suc n) [] = refl
split_opens (suc n) (t ∷ text) = append_assoc (open_of t) (flat_map open_of (take n text)) (flat_map open_of (drop n text)) ∙ ap (λ (js : List ℕ). open_of t ++ js) (split_opens n text)

uses_open : (fs : List Found) (text : List TextKind) → length text ≡ length (kinds_in fs) → opens_in (text_uses fs text) ≡ flat_map open_of text
uses_open [] [] long = refl
uses_open [] (t ∷ text) long = absurd cc
uses_open (f ∷ fs) text long =
    let n = length f.kinds in
    ap₂ (λ (js ks : List ℕ). js ++ ks) (pending_opens (take n text)) (uses_open fs (drop n text) (rest_long f.kinds (kinds_in fs) text long)) ∙ split_opens n text

pub is_numbered : (s s1 : Table) (targets : Targets) (before : List Known) (d : Def) (p : TypedParts) (fs : List Found) (h h' : HeldVariables) (t : KnownDef) → HoldsBefore s before h → InfersDef s s1 (outside targets before) (view_def d) p.params.items p.result fs → IsGeneralDef s1 h h' d p fs t → IsNumberedDef s1 t
is_numbered s s1 targets before d p fs h h' t was i g =
    let long = text_long s1 d p fs h h' t s (terms_before before) i.follows was.held g in
    record {
      some = g.solution;
      numbered = ap (λ (us : List TextUse). numbered_on 0 (opens_in us)) g.known.text ∙ ap (numbered_on 0) (uses_open fs g.made.text.items long) ∙ g.type.numbered;
    }
