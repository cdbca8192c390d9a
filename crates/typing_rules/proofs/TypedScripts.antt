-- A script with a typing has no fault; and what a call of a def may be.
use Rattle.std.proofs.Common.{◌≡◌, refl, sym, subst, ap, ◌∙◌, ℕ, zero, suc, List, [], ◌∷◌, Some, None, Bool, true, false, eq-eqb}
use Rattle.std.proofs.Math.Path.{transport, transport⁻¹}
use Rattle.script_grammar.specs.Tree.{Tree, ADef, none, more, Stmt, BindPart, DefPart, CallPart, IfPart, Bind, Script}
use Rattle.type_terms.specs.Ground.{Ground}
use Rattle.typing_rules.specs.declared.uses.Use.{Use}
use Rattle.typing_rules.specs.declared.fault.TypeFault.{TypeFault}
use Rattle.typing_rules.specs.declared.fault.TypeFault.TheVariants as fault
use Rattle.typing_rules.specs.Arguments.{GivenArgument, Matched}
use Rattle.typing_rules.specs.Scoping.{target_in}
use Rattle.typing_rules.specs.Typing.{DefHas}
use Rattle.typing_rules.specs.Scripts.{Entry, value, function, Targets, Places, HasTyping, IsTypedTo, calls_behind, def_token, first_of, params_of, sight}
use Rattle.typing_rules.specs.Kinds.{target_at, read}
use Rattle.typing_rules.specs.Answers.{IsTyped, IsTypeFault, IsNameFault}

-- the first statements of a script with a typing have it too
pub first_typed : (n : ℕ) (ts : Targets) (kinds : Places) (script : Script) (es fs : List Entry) → IsTypedTo ts kinds es script fs → (gs : List Entry) × IsTypedTo ts kinds es (first_of n script) gs
first_typed zero ts kinds script es fs h = (es, refl)
first_typed (suc n) ts kinds none es fs h = (es, refl)
first_typed (suc n) ts kinds (more (Stmt (BindPart (Bind at name f)) semicolon) rest) es fs h =
    let later = first_typed n ts kinds rest (value at h.0 ∷ es) fs h.2 in
    (later.0, (h.0, h.1, later.1))
first_typed (suc n) ts kinds (more (Stmt (DefPart d) semicolon) rest) es fs h =
    let later = first_typed n ts kinds rest (function d ∷ es) fs h.1 in
    (later.0, (h.0, later.1))
first_typed (suc n) ts kinds (more (Stmt (CallPart c) semicolon) rest) es fs h =
    let later = first_typed n ts kinds rest es fs h.1 in
    (later.0, (h.0, later.1))
first_typed (suc n) ts kinds (more (Stmt (IfPart i) semicolon) rest) es fs h =
    let later = first_typed n ts kinds rest es fs h.1 in
    (later.0, (h.0, later.1))

no_name_fault : (script : Script) (uses : List Use) (f : TypeFault) → IsTyped script uses → IsNameFault script f → ⊥
no_name_fault script uses f t h =
    let both : None ≡ Some (h.stmt, h.inside) = sym t.names ∙ h.first in cc

-- with a typing there is no fault but want of memory
pub typed_or_fault : (script : Script) (uses : List Use) (f : TypeFault) → IsTyped script uses → IsTypeFault script f → f ≡ fault.Memory
typed_or_fault script uses (fault.UnknownName n at) t h = absurd (no_name_fault script uses (fault.UnknownName n at) t h)
typed_or_fault script uses (fault.MissingArgument n at label) t h = absurd (no_name_fault script uses (fault.MissingArgument n at label) t h)
typed_or_fault script uses (fault.ExtraArgument n at) t h = absurd (no_name_fault script uses (fault.ExtraArgument n at) t h)
typed_or_fault script uses (fault.RepeatedName n at) t h = absurd (no_name_fault script uses (fault.RepeatedName n at) t h)
typed_or_fault script uses (fault.TypeClash n) t h =
    let here = first_typed n (target_at uses) (read [] uses) script [] t.entries t.typing in
    let typed : HasTyping (target_at uses) (first_of n script) = (read [] uses, here.0, here.1) in
    absurd (h.clash.none (subst (λ ms. HasTyping (target_in ms) (first_of n script)) t.targets typed))
typed_or_fault script uses fault.Memory t h = refl

-- the newest def's calls are the typings of its text in its environment
pub call_law : (ts : Targets) (kinds : Places) (es : List Entry) (d : Tree ADef) (chain : List ℕ) (at : ℕ) (gs : List (GivenArgument Ground)) (g : Ground) →
    calls_behind ts kinds (function d ∷ es) chain at (def_token d) gs g ≡ ((us : List Ground) × Matched (params_of d) gs us × DefHas (sight ts kinds es (at ∷ chain)) d us g)
call_law ts kinds es d chain at gs g =
    ap (λ (b : Bool). elim b [ true ↦ ((us : List Ground) × Matched (params_of d) gs us × DefHas (sight ts kinds es (at ∷ chain)) d us g) | false ↦ calls_behind ts kinds es chain at (def_token d) gs g ]) (eq-eqb (def_token d) (def_token d) refl)

abbrev NewestCall : Targets → Places → List Entry → Tree ADef → List ℕ → ℕ → List (GivenArgument Ground) → Ground → Type 0
NewestCall ts kinds es d chain at gs g = (us : List Ground) × Matched (params_of d) gs us × DefHas (sight ts kinds es (at ∷ chain)) d us g

pub call_typed : (ts : Targets) (kinds : Places) (es : List Entry) (d : Tree ADef) (chain : List ℕ) (at : ℕ) (gs : List (GivenArgument Ground)) (g : Ground) → calls_behind ts kinds (function d ∷ es) chain at (def_token d) gs g → NewestCall ts kinds es d chain at gs g
call_typed ts kinds es d chain at gs g h = transport (call_law ts kinds es d chain at gs g) h

pub typed_call : (ts : Targets) (kinds : Places) (es : List Entry) (d : Tree ADef) (chain : List ℕ) (at : ℕ) (gs : List (GivenArgument Ground)) (g : Ground) → NewestCall ts kinds es d chain at gs g → calls_behind ts kinds (function d ∷ es) chain at (def_token d) gs g
typed_call ts kinds es d chain at gs g h = transport⁻¹ (call_law ts kinds es d chain at gs g) h
