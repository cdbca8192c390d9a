-- From what the program holds of defs to what is known of them: counts of open kinds, and what steps have left.
use Rattle.std.proofs.Common.{◌≡◌, ◌∙◌, inl, inr, sym, ap, refl, arith, ℕ, ◌≤◌, length, List, [], ◌∷◌, ◌++◌, Option, Some, None, option_map, Bool, false, cond, nat_eq, append_assoc, append-nil}
use Rattle.std.proofs.lemmas.Bool.Decides.{eqb_tells}
use Rattle.script_grammar.specs.Tree.{Tree, ADef}
use Rattle.typing_rules.specs.declared.uses.Target.{Target}
use Rattle.typing_rules.specs.declared.uses.Target.TheVariants as target
use Rattle.typing_rules.specs.Scripts.{def_token}
use Rattle.type_steps.specs.Environment.{Found, Known, TextUse, function}
use Rattle.type_steps.specs.Counts.{AreCounted, HasCount, IsTextCounted, count_at, text_count}
use Rattle.type_steps.specs.Statements.{Done, IsNewDef}
use Rattle.expression_types.specs.Seen.{def_seen}
use Rattle.expression_types.specs.declared.environment.KnownDef.{KnownDef}
use Rattle.type_infer.specs.Matches.{AreNumberedDefs, HasCountIn, HaveCountsIn, IsTextCountedIn, opens_of}
use Rattle.type_infer.specs.Steps.{AreThere, defined_as, done_in, dones_in}
use Rattle.type_infer.specs.declared.steps.Step.{Step}
use Rattle.type_infer.specs.declared.steps.Step.TheVariants as step
use Rattle.type_infer.proofs.Scopes.{count_new, seen_other, seen_this, slice_last, slice_left}

-- ---- counts

module _ (ds : List KnownDef) (ks : List Known) (all : AreNumberedDefs ds ks) where
  def_counted : (t n : ℕ) (o : Option KnownDef) → def_seen t ds ≡ o → option_map opens_of o ≡ Some n → count_at t ks ≡ Some n
  def_counted t n None is h = let e : None ≡ Some n = h in cc
  def_counted t n (Some d) is h = all.each t d is ∙ h

  one_counted : (x : Target) (n : ℕ) → HasCountIn ds x n → HasCount ks x n
  one_counted (target.Slot t) n h = h
  one_counted (target.Def t) n h = def_counted t n (def_seen t ds) refl h
  one_counted (target.Builtin b) n h = h

  pub founds_counted : (fs : List Found) → HaveCountsIn ds fs → AreCounted ks fs
  founds_counted [] h = tt
  founds_counted (f ∷ fs) h = (one_counted f.target (length f.kinds) h.0, founds_counted fs h.1)

  pub text_counted : (us : List TextUse) → IsTextCountedIn ds us → IsTextCounted ks us
  text_counted [] h = tt
  text_counted (u ∷ us) h = (one_counted u.target (length u.kinds) h.0, text_counted us h.1)

-- ---- a def whose token is new

none_or : (n : ℕ) → None ≡ Some n → ⊥
none_or n e = cc

not_there : (ds : List KnownDef) (ks : List Known) (d : Tree ADef) (o : Option KnownDef) → AreNumberedDefs ds ks → IsNewDef ks d → def_seen (def_token d) ds ≡ o → o ≡ None
not_there ds ks d None all new is = refl
not_there ds ks d (Some k) all new is = absurd (none_or (opens_of k) (sym (count_new ks d new) ∙ all.each (def_token d) k is))

pub no_def_there : (ds : List KnownDef) (ks : List Known) (d : Tree ADef) → AreNumberedDefs ds ks → IsNewDef ks d → def_seen (def_token d) ds ≡ None
no_def_there ds ks d all new = not_there ds ks d (def_seen (def_token d) ds) all new refl

same_def : (x y : KnownDef) → Some x ≡ Some y → x ≡ y
same_def x y e = cc

pub numbered_more : (ds : List KnownDef) (ks : List Known) (k : KnownDef) (d : Tree ADef) (us : List TextUse) → AreNumberedDefs ds ks → IsNewDef ks d → k.at ≡ def_token d → text_count us ≡ Some (opens_of k) → AreNumberedDefs (ds ++ k ∷ []) (function d us ∷ ks)
numbered_more ds ks k d us all new at count = record {
  each = λ t x is. elim (eqb_tells (def_token d) t) [
    | inl h ↦
        let here : def_token d ≡ t = h.1 in
        let none : def_seen t ds ≡ None = ap (λ (i : ℕ). def_seen i ds) (sym here) ∙ no_def_there ds ks d all new in
        let same : k ≡ x = same_def k x (sym (seen_this t ds k (at ∙ here) none) ∙ is) in
        ap (λ (b : Bool). cond b (text_count us) (count_at t ks)) h.0 ∙ count ∙ ap (λ (y : KnownDef). Some (opens_of y)) same
    | inr h ↦
        let other : nat_eq k.at t ≡ false = ap (λ (i : ℕ). nat_eq i t) at ∙ h.0 in
        ap (λ (b : Bool). cond b (text_count us) (count_at t ks)) h.0 ∙ all.each t x (sym (seen_other t ds k other) ∙ is)
  ];
}

-- ---- what steps have left

pub dones_more : (ds : List KnownDef) (xs : List Step) (x : Step) → dones_in ds (xs ++ x ∷ []) ≡ dones_in ds xs ++ done_in ds x
dones_more ds [] x = append-nil (done_in ds x)
dones_more ds (y ∷ xs) x = ap (λ (l : List Done). done_in ds y ++ l) (dones_more ds xs x) ∙ sym (append_assoc (done_in ds y) (dones_in ds xs) (done_in ds x))

pub dones_kept : (ds : List KnownDef) (k : KnownDef) (xs : List Step) → AreThere (length ds) xs → dones_in (ds ++ k ∷ []) xs ≡ dones_in ds xs
dones_kept ds k [] h = refl
dones_kept ds k (step.Bound n us ∷ xs) h = ap (λ (l : List Done). done_in ds (step.Bound n us) ++ l) (dones_kept ds k xs h.1)
dones_kept ds k (step.Defined i ∷ xs) h =
    ap (λ (l : List Done). done_in (ds ++ k ∷ []) (step.Defined i) ++ l) (dones_kept ds k xs h.1)
    ∙ ap (λ (o : Option KnownDef). defined_as o ++ dones_in ds xs) (slice_left ds k i h.0)
dones_kept ds k (step.Ran us ∷ xs) h = ap (λ (l : List Done). done_in ds (step.Ran us) ++ l) (dones_kept ds k xs h.1)

pub done_last : (ds : List KnownDef) (k : KnownDef) → done_in (ds ++ k ∷ []) (step.Defined (length ds)) ≡ defined_as (Some k)
done_last ds k = ap defined_as (slice_last ds k)

pub there_more : (n m : ℕ) (xs : List Step) → n ≤ m → AreThere n xs → AreThere m xs
there_more n m [] le h = tt
there_more n m (step.Bound x us ∷ xs) le h = (tt, there_more n m xs le h.1)
there_more n m (step.Defined i ∷ xs) le h = (omega (arith, le, h.0), there_more n m xs le h.1)
there_more n m (step.Ran us ∷ xs) le h = (tt, there_more n m xs le h.1)

pub there_bound : (n : ℕ) (xs : List Step) (x : Step) → AreThere n xs → AreThere n (x ∷ []) → AreThere n (xs ++ x ∷ [])
there_bound n [] x h k = k
there_bound n (step.Bound y us ∷ xs) x h k = (tt, there_bound n xs x h.1 k)
there_bound n (step.Defined i ∷ xs) x h k = (h.0, there_bound n xs x h.1 k)
there_bound n (step.Ran us ∷ xs) x h k = (tt, there_bound n xs x h.1 k)
