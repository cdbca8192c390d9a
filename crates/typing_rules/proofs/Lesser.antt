-- Uses that say mono only where others do: at each place they give less, with the same open kinds.
use Rattle.std.proofs.Common.{◌≡◌, ◌∙◌, sym, ap, subst, refl, ℕ, suc, zero, List, [], ◌∷◌, map, Option, Some, None, Bool, true, false, cond, nat_eq}
use Rattle.std.specs.Prelude.{option_and_then, slice_get}
use Rattle.liq_base.specs.declared.memory.Kind.{Kind}
use Rattle.liq_base.specs.declared.memory.Kind.TheVariants.{Mono}
use Rattle.typing_rules.specs.declared.uses.KindOf.{KindOf}
use Rattle.typing_rules.specs.declared.uses.KindOf.TheVariants.{Fixed, Given}
use Rattle.typing_rules.specs.declared.uses.Target.{Target}
use Rattle.typing_rules.specs.declared.uses.Use.{Use}
use Rattle.typing_rules.specs.Kinds.{AreLessKinds, AreLessUses, IsLessKind, MonoWhere, around, known_kind, kinds_in, kinds_of, put, read, said, target_at}
use Rattle.typing_rules.specs.Scoping.{Meaning, target_in}
use Rattle.typing_rules.specs.Uses.{use_at}

pub mono_same : (ks : List Kind) → MonoWhere ks ks
mono_same [] = tt
mono_same (k ∷ ks) = (λ e. e, mono_same ks)

-- ---- the kinds of one use

-- less than these kinds
pub record LessKinds (o : Option (List Kind)) (ks : List Kind) : Type 0 where
  pub kinds : List Kind
  pub are : o ≡ Some kinds
  pub less : MonoWhere kinds ks

-- a kind and others
record Puts (js : List Kind) (w : KindOf) (ws : List KindOf) (ks : List Kind) : Type 0 where
  pub first : Kind
  pub rest : List Kind
  pub first_is : known_kind js w ≡ Some first
  pub rest_are : kinds_of js ws ≡ Some rest
  pub all : ks ≡ first ∷ rest

none_are : {A : Type 0} (ks : List Kind) → ◌≡◌ {A = Option (List Kind)} None (Some ks) → A
none_are ks e = cc

kinds_are : (js ks : List Kind) → Some js ≡ Some ks → js ≡ ks
kinds_are js ks e = cc

kind_is : (j k : Kind) → Some j ≡ Some k → j ≡ k
kind_is j k e = cc

no_kind : {A : Type 0} (k : Kind) → ◌≡◌ {A = Option Kind} None (Some k) → A
no_kind k e = cc

puts : (js : List Kind) (w : KindOf) (ws : List KindOf) (ks : List Kind) → kinds_of js (w ∷ ws) ≡ Some ks → Puts js w ws ks
puts js w ws ks e = by (known_kind js w) (kinds_of js ws) refl refl e where
  by : (o : Option Kind) (p : Option (List Kind)) → known_kind js w ≡ o → kinds_of js ws ≡ p → put o p ≡ Some ks → Puts js w ws ks
  by None p f g h = none_are ks h
  by (Some k) None f g h = none_are ks h
  by (Some k) (Some ls) f g h = record { first = k; rest = ls; first_is = f; rest_are = g; all = sym (kinds_are (k ∷ ls) ks h) }

less_at : (ls js : List Kind) (i : ℕ) (k : Kind) → MonoWhere ls js → slice_get js i ≡ Some k → (l : Kind) × (slice_get ls i ≡ Some l) × (l ≡ Mono → k ≡ Mono)
less_at [] [] i k m e = no_kind k e
less_at [] (j ∷ js) i k m e = absurd m
less_at (l ∷ ls) [] i k m e = absurd m
less_at (l ∷ ls) (j ∷ js) zero k m e = (l, refl, λ is. sym (kind_is j k e) ∙ m.0 is)
less_at (l ∷ ls) (j ∷ js) (suc i) k m e = less_at ls js i k m.1 e

kind_less : (ls js : List Kind) → MonoWhere ls js → (v w : KindOf) → IsLessKind v w → (k : Kind) → known_kind js w ≡ Some k → (l : Kind) × (known_kind ls v ≡ Some l) × (l ≡ Mono → k ≡ Mono)
kind_less ls js m (Fixed j) (Fixed i) h k e = (j, refl, λ is. sym (kind_is i k e) ∙ h is)
kind_less ls js m (Fixed j) (Given n) h k e = absurd h
kind_less ls js m (Given i) (Fixed j) h k e = absurd h
kind_less ls js m (Given i) (Given n) h k e = less_at ls js i k m (subst (λ (x : ℕ). slice_get js x ≡ Some k) (sym h) e)

pub kinds_less : (ls js : List Kind) → MonoWhere ls js → (vs ws : List KindOf) → AreLessKinds vs ws → (ks : List Kind) → kinds_of js ws ≡ Some ks → LessKinds (kinds_of ls vs) ks
kinds_less ls js m [] [] h ks e = record { kinds = []; are = refl; less = subst (λ (zs : List Kind). MonoWhere [] zs) (kinds_are [] ks e) tt }
kinds_less ls js m [] (w ∷ ws) h ks e = absurd h
kinds_less ls js m (v ∷ vs) [] h ks e = absurd h
kinds_less ls js m (v ∷ vs) (w ∷ ws) h ks e =
    let p = puts js w ws ks e in
    let l = kind_less ls js m v w h.0 p.first p.first_is in
    let r = kinds_less ls js m vs ws h.1 p.rest p.rest_are in
    record {
      kinds = l.0 ∷ r.kinds;
      are = ap (λ o. put o (kinds_of ls vs)) l.1 ∙ ap (put (Some l.0)) r.are;
      less = subst (λ (zs : List Kind). MonoWhere (l.0 ∷ r.kinds) zs) (sym p.all) (l.2, r.less);
    }

-- ---- the use at a token, and the kinds at a place

pub uses_same : (us : List Use) → AreLessUses us us
uses_same [] = tt
uses_same (u ∷ us) = (refl, refl, each u.kinds, uses_same us) where
  same : (w : KindOf) → IsLessKind w w
  same (Fixed k) = λ e. e
  same (Given n) = refl

  each : (ws : List KindOf) → AreLessKinds ws ws
  each [] = tt
  each (w ∷ ws) = (same w, each ws)

record LessUse (o : Option Use) (v : Use) : Type 0 where
  pub found : Use
  pub is : o ≡ Some found
  pub less : AreLessKinds found.kinds v.kinds

same_use : (u v : Use) → Some u ≡ Some v → u ≡ v
same_use u v e = cc

use_less : (us vs : List Use) → AreLessUses us vs → (at : ℕ) (v : Use) → use_at at vs ≡ Some v → LessUse (use_at at us) v
use_less [] [] h at v e = let f : ◌≡◌ {A = Option Use} None (Some v) = e in cc
use_less [] (w ∷ ws) h at v e = absurd h
use_less (u ∷ us) [] h at v e = absurd h
use_less (u ∷ us) (w ∷ ws) h at v e =
    subst (λ (x : ℕ). LessUse (cond (nat_eq x at) (Some u) (use_at at us)) v) (sym h.0) (by (λ later. use_less us ws h.3 at v later) (nat_eq w.at at) e) where
      by : (use_at at ws ≡ Some v → LessUse (use_at at us) v) → (b : Bool) → cond b (Some w) (use_at at ws) ≡ Some v → LessUse (cond b (Some u) (use_at at us)) v
      by further true f = record { found = u; is = refl; less = subst (λ (x : Use). AreLessKinds u.kinds x.kinds) (same_use w v f) h.2 }
      by further false f = further f

-- what is read of a use, where it and the kinds around it are there
record Reads (o : Option Use) (p : Option (List Kind)) (ks : List Kind) : Type 0 where
  pub found : Use
  pub kinds : List Kind
  pub use_there : o ≡ Some found
  pub kinds_there : p ≡ Some kinds
  pub read_is : kinds_of kinds found.kinds ≡ Some ks

reads : (o : Option Use) (p : Option (List Kind)) (ks : List Kind) → option_and_then (kinds_in o) p ≡ Some ks → Reads o p ks
reads o None ks e = none_are ks e
reads None (Some js) ks e = none_are ks e
reads (Some u) (Some js) ks e = record { found = u; kinds = js; use_there = refl; kinds_there = refl; read_is = e }

pub around_less : (us vs : List Use) → AreLessUses us vs → (given : List Kind) (chain : List ℕ) (ks : List Kind) → around given vs chain ≡ Some ks → LessKinds (around given us chain) ks
around_less us vs h given [] ks e = record { kinds = given; are = refl; less = subst (λ (zs : List Kind). MonoWhere given zs) (kinds_are given ks e) (mono_same given) }
around_less us vs h given (at ∷ chain) ks e =
    let r = reads (use_at at vs) (around given vs chain) ks e in
    let u = use_less us vs h at r.found r.use_there in
    let g = around_less us vs h given chain r.kinds r.kinds_there in
    let l = kinds_less g.kinds r.kinds g.less u.found.kinds r.found.kinds u.less ks r.read_is in
    record {
      kinds = l.kinds;
      are = ap (λ (o : Option Use). option_and_then (kinds_in o) (around given us chain)) u.is ∙ ap (λ (o : Option (List Kind)). option_and_then (kinds_in (Some u.found)) o) g.are ∙ l.are;
      less = l.less;
    }

pub read_less : (us vs : List Use) → AreLessUses us vs → (given : List Kind) (chain : List ℕ) (at : ℕ) (ks : List Kind) → read given vs chain at ≡ Some ks → LessKinds (read given us chain at) ks
read_less us vs h given chain at ks e = around_less us vs h given (at ∷ chain) ks e

-- ---- what names mean

said_same : (us vs : List Use) → AreLessUses us vs → map said us ≡ map said vs
said_same [] [] h = refl
said_same [] (v ∷ vs) h = absurd h
said_same (u ∷ us) [] h = absurd h
said_same (u ∷ us) (v ∷ vs) h =
    let here : said u ≡ said v = ap (λ (t : ℕ). (t, Some u.target)) h.0 ∙ ap (λ (t : Target). (v.at, Some t)) h.1 in
    ap (λ (m : Meaning). m ∷ map said us) here ∙ ap (λ (ms : List Meaning). said v ∷ ms) (said_same us vs h.3)

pub same_targets : (us vs : List Use) → AreLessUses us vs → target_at us ≡ target_at vs
same_targets us vs h = ap (λ (ms : List Meaning). target_in ms) (said_same us vs h)
