-- The kinds of what statements have left are over the substitution.
use Rattle.std.proofs.Common.{◌≡◌, sym, subst, ℕ, zero, suc, ◌<◌, arith, length, get_or, List, [], ◌∷◌, ◌++◌, map}
use Rattle.type_terms.specs.Table.{Table}
use Rattle.type_terms.specs.declared.ty.KindTerm.{KindTerm}
use Rattle.type_steps.specs.Environment.{AreKindsOver, AreKnownOver, ArePendingOver, AreUsesOver, IsKindOver, IsPendingOver, IsTextOver, Known, function, value}
use Rattle.type_steps.specs.Statements.{AreFoundsOver, Done, bound, defined, known_after, ran}
use Rattle.typing_rules.specs.Scripts.{Targets}
use Rattle.script_grammar.specs.Tree.{Script}
use Rattle.expression_types.specs.Seen.{founds, pending, text_use}
use Rattle.expression_types.specs.declared.environment.FoundUse.{FoundUse}
use Rattle.expression_types.specs.declared.environment.KnownDef.{KnownDef}
use Rattle.expression_types.specs.declared.environment.TextKind.{TextKind}
use Rattle.expression_types.specs.declared.environment.TextUse.{TextUse as ATextUse}
use Rattle.type_infer.specs.Settling.{AreDonesOver}
use Rattle.type_infer.specs.States.{IsTypedSo, dones}
use Rattle.type_infer.specs.Steps.{done_in, dones_in}
use Rattle.type_infer.specs.declared.steps.Step.{Step}
use Rattle.type_infer.specs.declared.steps.Typing.{Typing}

-- ---- at a place of a list

pub kind_over_at : (s : Table) (ks : List KindTerm) (i : ℕ) (d : KindTerm) → i < length ks → AreKindsOver s ks → IsKindOver s (get_or ks i d)
kind_over_at s [] i d lt h = absurd (omega (arith, lt))
kind_over_at s (k ∷ ks) zero d lt h = h.0
kind_over_at s (k ∷ ks) (suc i) d lt h = kind_over_at s ks i d (omega (arith, lt)) h.1

pub pending_over_at : (s : Table) (ks : List TextKind) (i : ℕ) (d : TextKind) → i < length ks → ArePendingOver s (map pending ks) → IsPendingOver s (pending (get_or ks i d))
pending_over_at s [] i d lt h = absurd (omega (arith, lt))
pending_over_at s (k ∷ ks) zero d lt h = h.0
pending_over_at s (k ∷ ks) (suc i) d lt h = pending_over_at s ks i d (omega (arith, lt)) h.1

pub text_over_at : (s : Table) (xs : List ATextUse) (i : ℕ) (x : ATextUse) → i < length xs → x ≡ get_or xs i x → IsTextOver s (map text_use xs) → ArePendingOver s (map pending x.kinds.items)
text_over_at s [] i x lt is h = absurd (omega (arith, lt))
text_over_at s (y ∷ xs) zero x lt is h = subst (λ (z : ATextUse). ArePendingOver s (map pending z.kinds.items)) (sym is) h.0
text_over_at s (y ∷ xs) (suc i) x lt is h = text_over_at s xs i x (omega (arith, lt)) is h.1

-- ---- behind others in a list

pub use_over_next : (s : Table) (xs : List FoundUse) (x : FoundUse) (ys : List FoundUse) → AreUsesOver s (founds (xs ++ x ∷ ys)) → AreKindsOver s x.kinds.items
use_over_next s [] x ys h = h.0
use_over_next s (z ∷ xs) x ys h = use_over_next s xs x ys h.1

over_parts : (s : Table) (xs ys : List Done) → AreDonesOver s (xs ++ ys) → AreDonesOver s xs × AreDonesOver s ys
over_parts s [] ys h = (tt, h)
over_parts s (x ∷ xs) ys h = let p = over_parts s xs ys h.1 in ((h.0, p.0), p.1)

pub step_over_next : (s : Table) (ds : List KnownDef) (xs : List Step) (x : Step) (ys : List Step) → AreDonesOver s (dones_in ds (xs ++ x ∷ ys)) → AreDonesOver s (done_in ds x)
step_over_next s ds [] x ys h = (over_parts s (done_in ds x) (dones_in ds ys) h).0
step_over_next s ds (z ∷ xs) x ys h = step_over_next s ds xs x ys (over_parts s (done_in ds z) (dones_in ds (xs ++ x ∷ ys)) h).1

-- what is known behind statements is over the substitution, and so are their uses
dones_over : (s : Table) (ks : List Known) (xs : List Done) → AreKnownOver s (known_after ks xs) → AreFoundsOver s xs → AreKnownOver s ks × AreDonesOver s xs
dones_over s ks [] h f = (h, tt)
dones_over s ks (bound t u fs ∷ xs) h f = let p = dones_over s (value t u ∷ ks) xs h f.1 in (p.0.1, (f.0, p.1))
dones_over s ks (defined d us ∷ xs) h f = let p = dones_over s (function d us ∷ ks) xs h f.1 in (p.0.1, (p.0.0, p.1))
dones_over s ks (ran fs ∷ xs) h f = let p = dones_over s ks xs h f.1 in (p.0, (f.0, p.1))

pub typed_over : (targets : Targets) (script : Script) (t : Typing) → IsTypedSo targets script t → AreDonesOver t.subst (dones t)
typed_over targets script t so = (dones_over t.subst [] (dones t) so.typings.over so.typings.uses_over).1
