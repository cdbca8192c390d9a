-- A call of a def leads to the one def whose name stands at its token, and to what stood before it.
use Rattle.std.proofs.Common.{◌≡◌, ◌≢◌, ◌⊎◌, inl, inr, refl, subst, ap, ◌∙◌, ℕ, ◌+◌, ◌<◌, List, [], ◌∷◌, length, Some, Bool, true, false, nat_eq, eq-eqb, ne_eqb, arith}
use Rattle.std.proofs.lemmas.Bool.{eqb-true}
use Rattle.script_grammar.specs.Placed.{IsPlaced}
use Rattle.script_grammar.specs.Spelling.{spell}
use Rattle.script_grammar.specs.Tree.{Tree, ADef, none, more, Stmt, BindPart, DefPart, CallPart, IfPart, Bind, Def, Script}
use Rattle.type_terms.specs.Ground.{Ground}
use Rattle.typing_rules.specs.Arguments.{GivenArgument, Matched}
use Rattle.typing_rules.specs.Typing.{DefHas}
use Rattle.typing_rules.specs.Scripts.{Entry, value, function, Targets, Places, IsTypedTo, calls_behind, def_token, params_of, sight}
use Rattle.typing_rules.specs.Kinds.{Stands}
use Rattle.typing_rules.specs.Defs.{IsDefOf, def_at, Leads}

abbrev CallIs : Targets → Places → List Entry → Tree ADef → List ℕ → ℕ → ℕ → List (GivenArgument Ground) → Ground → Bool → Type 0
CallIs ts kinds es d chain at t gs g b =
    elim b [
      | true ↦ ((us : List Ground) × Matched (params_of d) gs us × DefHas (sight ts kinds es (at ∷ chain)) d us g)
      | false ↦ calls_behind ts kinds es chain at t gs g
    ]

by_test : (ts : Targets) (kinds : Places) (es : List Entry) (d : Tree ADef) (chain : List ℕ) (at t : ℕ) (gs : List (GivenArgument Ground)) (g : Ground) → (calls_behind ts kinds es chain at t gs g → Leads ts kinds es chain at t gs g) → (b : Bool) → nat_eq (def_token d) t ≡ b → CallIs ts kinds es d chain at t gs g b → Leads ts kinds (function d ∷ es) chain at t gs g
by_test ts kinds es d chain at t gs g rest true same c = record { def = d; before = es; stands = inl (refl, refl); token = eqb-true (def_token d) t same; types = c.0; matched = c.1; has = c.2 }
by_test ts kinds es d chain at t gs g rest false other c =
    let l = rest c in
    record { def = l.def; before = l.before; stands = inr l.stands; token = l.token; types = l.types; matched = l.matched; has = l.has }

pub leads : (ts : Targets) (kinds : Places) (es : List Entry) (chain : List ℕ) (at t : ℕ) (gs : List (GivenArgument Ground)) (g : Ground) → calls_behind ts kinds es chain at t gs g → Leads ts kinds es chain at t gs g
leads ts kinds [] chain at t gs g h = absurd h
leads ts kinds (value u k ∷ es) chain at t gs g h =
    let l = leads ts kinds es chain at t gs g h in
    record { def = l.def; before = l.before; stands = inr l.stands; token = l.token; types = l.types; matched = l.matched; has = l.has }
leads ts kinds (function d ∷ es) chain at t gs g h = by_test ts kinds es d chain at t gs g (λ c. leads ts kinds es chain at t gs g c) (nat_eq (def_token d) t) refl h

-- a def's token is behind where the statements begin
behind : (i : ℕ) (script : Script) (d : Tree ADef) → IsPlaced i script → IsDefOf script d → i < def_token d
behind i none d placed h = absurd h
behind i (more (Stmt (DefPart (Def at name ps equals is e)) semicolon) rest) d placed (inl same) =
    let here : i < at = omega (arith, placed.0.0) in
    subst (λ x. i < def_token x) same here
behind i (more (Stmt (DefPart e) semicolon) rest) d placed (inr h) = omega (arith, behind (i + length (spell (Stmt (DefPart e) semicolon))) rest d placed.1 h)
behind i (more (Stmt (BindPart b) semicolon) rest) d placed h = omega (arith, behind (i + length (spell (Stmt (BindPart b) semicolon))) rest d placed.1 h)
behind i (more (Stmt (CallPart c) semicolon) rest) d placed h = omega (arith, behind (i + length (spell (Stmt (CallPart c) semicolon))) rest d placed.1 h)
behind i (more (Stmt (IfPart j) semicolon) rest) d placed h = omega (arith, behind (i + length (spell (Stmt (IfPart j) semicolon))) rest d placed.1 h)

-- evaluation's search finds the def
pub found : (i : ℕ) (script : Script) (d : Tree ADef) → IsPlaced i script → IsDefOf script d → def_at (def_token d) script ≡ Some d
found i none d placed h = absurd h
found i (more (Stmt (DefPart e) semicolon) rest) d placed (inl same) =
    ap (λ (b : Bool). elim b [ true ↦ Some e | false ↦ def_at (def_token d) rest ]) (eq-eqb (def_token e) (def_token d) (ap def_token same)) ∙ ap (λ (x : Tree ADef). Some x) same
found i (more (Stmt (DefPart (Def at name ps equals is e)) semicolon) rest) d placed (inr h) =
    let later = behind (i + length (spell (Stmt (DefPart (Def at name ps equals is e)) semicolon))) rest d placed.1 h in
    let other : at ≢ def_token d = λ same. omega (arith, placed.0.0, later, same) in
    ap (λ (b : Bool). elim b [ true ↦ Some (Def at name ps equals is e) | false ↦ def_at (def_token d) rest ]) (ne_eqb at (def_token d) other) ∙ found (i + length (spell (Stmt (DefPart (Def at name ps equals is e)) semicolon))) rest d placed.1 h
found i (more (Stmt (BindPart b) semicolon) rest) d placed h = found (i + length (spell (Stmt (BindPart b) semicolon))) rest d placed.1 h
found i (more (Stmt (CallPart c) semicolon) rest) d placed h = found (i + length (spell (Stmt (CallPart c) semicolon))) rest d placed.1 h
found i (more (Stmt (IfPart j) semicolon) rest) d placed h = found (i + length (spell (Stmt (IfPart j) semicolon))) rest d placed.1 h

-- what stands among the entries of a typing is a def of the script
pub stands_def : (ts : Targets) (kinds : Places) (script : Script) (es fs : List Entry) (d : Tree ADef) (before : List Entry) → IsTypedTo ts kinds es script fs → Stands fs d before → Stands es d before ⊎ IsDefOf script d
stands_def ts kinds none es fs d before h st = inl (subst (λ xs. Stands xs d before) h st)
stands_def ts kinds (more (Stmt (BindPart (Bind at name f)) semicolon) rest) es fs d before h st = not_value (stands_def ts kinds rest (value at h.0 ∷ es) fs d before h.2 st) where
  not_value : Stands (value at h.0 ∷ es) d before ⊎ IsDefOf rest d → Stands es d before ⊎ IsDefOf rest d
  not_value (inl (inl e)) = let f : value at h.0 ≡ function d = e.0 in cc
  not_value (inl (inr s)) = inl s
  not_value (inr s) = inr s
stands_def ts kinds (more (Stmt (DefPart e) semicolon) rest) es fs d before h st = this_or (stands_def ts kinds rest (function e ∷ es) fs d before h.1 st) where
  this_or : Stands (function e ∷ es) d before ⊎ IsDefOf rest d → Stands es d before ⊎ ((e ≡ d) ⊎ IsDefOf rest d)
  this_or (inl (inl s)) = inr (inl (let f : function e ≡ function d = s.0 in cc))
  this_or (inl (inr s)) = inl s
  this_or (inr s) = inr (inr s)
stands_def ts kinds (more (Stmt (CallPart c) semicolon) rest) es fs d before h st = stands_def ts kinds rest es fs d before h.1 st
stands_def ts kinds (more (Stmt (IfPart i) semicolon) rest) es fs d before h st = stands_def ts kinds rest es fs d before h.1 st
