-- What is placed_fault of a text.
use Rattle.std.proofs.Common.{◌≡◌, ◌≢◌, ℕ, ◌≤◌, List, length, refl, sym, ap, ◌∙◌, subst, arith, Option, Some, None, ◌⊎◌, inl, inr}
use Rattle.std.specs.Prelude.{Result, Ok, Err, IfOk, Vec}
use Rattle.std.specs.declared.alloc.Global.{Global}
use Rattle.liq_base.specs.declared.limits.TheConstants.{MAX_SCRIPT_BYTES}
use Rattle.script_lex.specs.Spelling.{LexStop, Bad, OpenText, Large}
use Rattle.script_lex.specs.Tokens.{IsFront, Runs, AreTokens, HasFault, StandsIn, placed_fault}
use Rattle.script_lex.specs.Gives.{IfFault, RunsInto, RunsTo, told_as}
use Rattle.script_lex.specs.declared.token.Token.{Token}
use Rattle.script_lex.specs.declared.token.LexFault.{LexFault}
use Rattle.script_lex.specs.declared.token.LexFault.TheVariants as faults
use Rattle.script_lex.specs.declared.refusal.Refusal.{Refusal}
use Rattle.script_lex.specs.declared.refusal.Refusal.TheVariants as refusals
use Rattle.script_lex.proofs.Runs.{runs_one}

none_some : (f : LexStop) → let x : Option LexStop = None in x ≡ Some f → ⊥
none_some f is = cc

some_is : (f g : LexStop) → let x : Option LexStop = Some f in x ≡ Some g → f ≡ g
some_is f g is = cc

-- a text with tokens has no fault
pub no_fault : (text : List ℕ) (ts : List Token) (f : LexFault) → length text ≤ MAX_SCRIPT_BYTES → Runs text ts None → HasFault text f → ⊥
no_fault text ts f short run fault = by_fault f fault
  where
    stands : (f : LexFault) → StandsIn text f → ⊥
    stands f s = none_some s.1.1 (runs_one text ts s.1.0 None (Some s.1.1) run s.1.2).1

    by_fault : (f : LexFault) → HasFault text f → ⊥
    by_fault faults.TextTooLong h = omega arith
    by_fault faults.Memory h = h
    by_fault (faults.BadByte n) h = stands (faults.BadByte n) h
    by_fault (faults.UnclosedString n) h = stands (faults.UnclosedString n) h
    by_fault (faults.NumberTooLarge n) h = stands (faults.NumberTooLarge n) h

no_tokens : (text : List ℕ) (f : LexStop) (ts : List Token) → RunsInto text f → Runs text ts None → ⊥
no_tokens text f ts fault run = none_some f (runs_one text ts fault.0 None (Some f) run fault.1).1

-- a refusal is placed_fault as the fault of the text
pub told_fault : (text : List ℕ) (e : Refusal) → length text ≤ MAX_SCRIPT_BYTES → IfFault e (RunsInto text) → told_as (length text) e ≢ faults.Memory → HasFault text (told_as (length text) e)
told_fault text refusals.Memory short h some = absurd (some refl)
told_fault text (refusals.BadByte n) short h some = (short, (h.0, Bad n, h.1, refl))
told_fault text (refusals.UnclosedString n) short h some = (short, (h.0, OpenText n, h.1, refl))
told_fault text (refusals.NumberTooLarge n) short h some = (short, (h.0, Large n, h.1, refl))

-- where the text has tokens, only want of memory is placed_fault
pub told_memory : (text : List ℕ) (e : Refusal) (ts : List Token) → IfFault e (RunsInto text) → AreTokens text ts → told_as (length text) e ≡ faults.Memory
told_memory text refusals.Memory ts h are = refl
told_memory text (refusals.BadByte n) ts h are = absurd (no_tokens text (Bad n) ts h are.1)
told_memory text (refusals.UnclosedString n) ts h are = absurd (no_tokens text (OpenText n) ts h are.1)
told_memory text (refusals.NumberTooLarge n) ts h are = absurd (no_tokens text (Large n) ts h are.1)

one_told : (text : List ℕ) (x : LexStop) (f : LexFault) → length text ≤ MAX_SCRIPT_BYTES → RunsInto text x → HasFault text f → placed_fault (length text) x ≡ f
one_told text x f short run fault = by_fault f fault
  where
    stands : (f : LexFault) → StandsIn text f → placed_fault (length text) x ≡ f
    stands f s = ap (placed_fault (length text)) (some_is x s.1.1 (runs_one text run.0 s.1.0 (Some x) (Some s.1.1) run.1 s.1.2).1) ∙ sym s.1.3

    by_fault : (f : LexFault) → HasFault text f → placed_fault (length text) x ≡ f
    by_fault faults.TextTooLong h = absurd (omega arith)
    by_fault faults.Memory h = absurd h
    by_fault (faults.BadByte n) h = stands (faults.BadByte n) h
    by_fault (faults.UnclosedString n) h = stands (faults.UnclosedString n) h
    by_fault (faults.NumberTooLarge n) h = stands (faults.NumberTooLarge n) h

-- where the text has a fault, it is placed_fault, or want of memory
pub told_only : (text : List ℕ) (e : Refusal) (f : LexFault) → length text ≤ MAX_SCRIPT_BYTES → IfFault e (RunsInto text) → HasFault text f → (told_as (length text) e ≡ f) ⊎ (told_as (length text) e ≡ faults.Memory)
told_only text refusals.Memory f short h fault = inr refl
told_only text (refusals.BadByte n) f short h fault = inl (one_told text (Bad n) f short h fault)
told_only text (refusals.UnclosedString n) f short h fault = inl (one_told text (OpenText n) f short h fault)
told_only text (refusals.NumberTooLarge n) f short h fault = inl (one_told text (Large n) f short h fault)

-- behind these tokens a text is refused
pub told_front : (text : List ℕ) (ts : List Token) (e : Refusal) → length text ≤ MAX_SCRIPT_BYTES → IfFault e (RunsTo text ts) → e ≢ refusals.Memory
    → IsFront text ts (Some (told_as (length text) e))
told_front text ts refusals.Memory short h some = absurd (some refl)
told_front text ts (refusals.BadByte n) short h some = record { fits = short; stop = Bad n; runs = h; placed = refl }
told_front text ts (refusals.UnclosedString n) short h some = record { fits = short; stop = OpenText n; runs = h; placed = refl }
told_front text ts (refusals.NumberTooLarge n) short h some = record { fits = short; stop = Large n; runs = h; placed = refl }

pub told_fronts : {E : Type 0} (text : List ℕ) (made : Vec Token Global) (e : Refusal) (r : Result (Vec Token Global × Option LexFault) E)
    → length text ≤ MAX_SCRIPT_BYTES → IfFault e (RunsTo text made.items) → IfOk r (λ front. front.0 ≡ made)
    → IfOk r (λ front. (front.1 ≡ Some (told_as (length text) e)) × (e ≢ refusals.Memory)) → IfOk r (λ front. IsFront text front.0.items front.1)
told_fronts text made e (Err m) short h same stop = tt
told_fronts {E} text made e (Ok front) short h same stop =
    let V : Vec Token Global → Type 0 = λ v. IsFront text v.items (Some (told_as (length text) e)) in
    let P : Option LexFault → Type 0 = λ s. IsFront text front.0.items s in
    subst P (sym stop.0) (subst V (sym same) (told_front text made.items e short h stop.1))
