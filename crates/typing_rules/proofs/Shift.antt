-- A def's text behind a chain of calls is its text by itself, with the places renamed.
use Rattle.std.proofs.Common.{◌≡◌, refl, ap, ℕ, List, [], ◌∷◌, ◌++◌, Some, true, false, nat_eq}
use Rattle.std.proofs.Math.Path.{transport, transport⁻¹}
use Rattle.std.specs.Prelude.{option_and_then}
use Rattle.liq_base.specs.declared.memory.Kind.{Kind}
use Rattle.typing_rules.specs.declared.uses.Use.{Use}
use Rattle.typing_rules.specs.Uses.{use_at}
use Rattle.typing_rules.specs.Kinds.{around, kinds_in}
use Rattle.script_grammar.specs.Tree.{Tree, ADef}
use Rattle.type_terms.specs.Ground.{Ground}
use Rattle.typing_rules.specs.Arguments.{GivenArgument, Matched}
use Rattle.typing_rules.specs.Typing.{DefHas}
use Rattle.typing_rules.specs.Scripts.{behind, Entry, value, function, Targets, Places, calls_behind, def_token, params_of, sight, types_of}

pub shift : (ts : Targets) (kinds : Places) (es : List Entry) (chain c : List ℕ) (at t : ℕ) (gs : List (GivenArgument Ground)) (g : Ground) → calls_behind ts kinds es (c ++ chain) at t gs g ≡ calls_behind ts (behind chain kinds) es c at t gs g
shift ts kinds [] chain c at t gs g = refl
shift ts kinds (value u h ∷ es) chain c at t gs g = shift ts kinds es chain c at t gs g
shift ts kinds (function d ∷ es) chain c at t gs g = λ i. elim (nat_eq (def_token d) t) [
  | true ↦ ((us : List Ground) × Matched (params_of d) gs us × DefHas (record { target = ts; types = types_of es; kinds = kinds (at ∷ (c ++ chain)); call = λ x y z w. shift ts kinds es chain (at ∷ c) x y z w i }) d us g)
  | false ↦ shift ts kinds es chain c at t gs g i
]

-- so the law of a def by itself serves each call of it
pub text_behind : (ts : Targets) (kinds : Places) (es : List Entry) (chain : List ℕ) (d : Tree ADef) (us : List Ground) (g : Ground) → DefHas (sight ts kinds es chain) d us g ≡ DefHas (sight ts (behind chain kinds) es []) d us g
text_behind ts kinds es chain d us g = λ i. DefHas (record { target = ts; types = types_of es; kinds = kinds chain; call = λ x y z w. shift ts kinds es chain [] x y z w i }) d us g

-- and the uses, read behind a chain of calls, are the uses read from the kinds that the chain gives
pub read_behind : (given inside : List Kind) (uses : List Use) (chain : List ℕ) → around given uses chain ≡ Some inside → (c : List ℕ) → around given uses (c ++ chain) ≡ around inside uses c
read_behind given inside uses chain h [] = h
read_behind given inside uses chain h (at ∷ c) = ap (λ o. option_and_then (kinds_in (use_at at uses)) o) (read_behind given inside uses chain h c)

pub text_comes : (ts : Targets) (kinds : Places) (es : List Entry) (chain : List ℕ) (d : Tree ADef) (us : List Ground) (g : Ground) → DefHas (sight ts kinds es chain) d us g → DefHas (sight ts (behind chain kinds) es []) d us g
text_comes ts kinds es chain d us g h = transport (text_behind ts kinds es chain d us g) h

pub text_goes : (ts : Targets) (kinds : Places) (es : List Entry) (chain : List ℕ) (d : Tree ADef) (us : List Ground) (g : Ground) → DefHas (sight ts (behind chain kinds) es []) d us g → DefHas (sight ts kinds es chain) d us g
text_goes ts kinds es chain d us g h = transport⁻¹ (text_behind ts kinds es chain d us g) h
