-- The clashes of types that the samples have.
use Rattle.std.proofs.Common.{◌≡◌, refl, sym, subst, ap, ◌∙◌, ℕ, List, [], ◌∷◌, ◌++◌, Option, Some, None, true, arith}
use Rattle.std.specs.Prelude.{codes}
use Rattle.liq_base.specs.declared.memory.Kind.{Kind}
use Rattle.liq_base.specs.declared.memory.Kind.TheVariants.{Mono, Stereo}
use Rattle.script_grammar.specs.Tree.{none, Def, Listed, Named, Optional, Param}
use Rattle.type_terms.specs.Ground.{Ground, Assignment, base_type, list, source, tuple}
use Rattle.type_terms.specs.Ground as ground
use Rattle.typing_rules.specs.declared.uses.Target.{Target}
use Rattle.typing_rules.specs.declared.uses.Target.TheVariants as target
use Rattle.type_terms.specs.declared.ty.Base.TheVariants as base
use Rattle.typing_rules.specs.declared.uses.Builtin.TheVariants as builtin
use Rattle.typing_rules.specs.declared.form.Form.TheVariants.{InPlace, Perhaps}
use Rattle.typing_rules.specs.Arguments.{GivenArgument, Matched}
use Rattle.typing_rules.specs.Table.{IsCallOf, params_of_builtin}
use Rattle.typing_rules.specs.Typing.{DefaultsHave, NameHas, TypesByToken, type_at}
use Rattle.typing_rules.specs.Scripts.{HasTyping, Places, Targets, calls_behind, first_of, sight, value, function}
use Rattle.typing_rules.specs.Scoping.{target_in, meanings_of}
use Rattle.typing_rules.specs.Answers.{IsTypeClash, IsTypeFault}
use Rattle.typing_rules.specs.declared.fault.TypeFault.TheVariants as fault
use Rattle.typing_rules.proofs.Samples.{full, lone, one, two, int, mean_of_mono, amplified_by_int, restricted, at_two_types, default_of_other_type}

-- mean takes a stereo source
mean_takes : (u : Ground) (types : List Ground) → base_type base.Text ∷ source Stereo ∷ [] ≡ types → Matched (params_of_builtin builtin.Mean) ((None, u) ∷ []) types → u ≡ source Stereo
mean_takes u types is m =
    (subst (λ ts. Matched (params_of_builtin builtin.Mean) ((None, u) ∷ []) ts) (sym is) m).2.0

no_mean : HasTyping (target_in (meanings_of mean_of_mono)) mean_of_mono → ⊥
no_mean h =
    let y = h.2.2 in
    let parts = y.1.0.0.0.0 in
    let left : Some h.2.0 ≡ Some parts.0 = parts.2.0.0.0.0.0 in
    let call = parts.2.1.0.0.0.0.0 in
    let given = call.1 in
    let right : Some h.2.0 ≡ Some given.0 = given.3.0.0.0.0 in
    let row : IsCallOf builtin.Mean call.0 call.2.0 parts.0 = call.2.2 in
    let all : call.0 ≡ (None, given.0) ∷ [] = given.2 ∙ ap (λ (us : List (GivenArgument Ground)). (None, given.0) ∷ us) given.4 in
    let stereo = mean_takes given.0 row.types row.params (subst (λ (gs : List (GivenArgument Ground)). Matched (params_of_builtin builtin.Mean) gs row.types) all row.matched) in
    let mono : source Mono ≡ parts.0 = row.result in
    let f : source Stereo ≡ source Mono = cc in cc

-- any assignment that makes each kind k
abbrev pub always : Kind → Assignment
always k = record { type_of = λ n. base_type base.Unit; kind_of = λ n. k }

pub blank_call : (k : Kind) → IsCallOf builtin.Blank [] (k ∷ []) (source k)
blank_call k = record {
  types = base_type base.Text ∷ base_type base.Decimal ∷ [];
  matched = (refl, refl, tt);
  at = always k;
  params = refl;
  result = refl;
  kinds = refl;
}

-- a kind for each place
abbrev pub all_stereo : Places
all_stereo = λ chain at. Some (Stereo ∷ [])

blank_alone : HasTyping (target_in (meanings_of mean_of_mono)) (first_of 1 mean_of_mono)
blank_alone = (
  all_stereo,
  value 0 (source Stereo) ∷ [],
  (source Stereo, (((((([], refl, (Stereo ∷ [], refl, blank_call Stereo)), tt, tt), tt, tt), tt, tt), tt, tt)), refl),
)

mean_clashes : IsTypeClash mean_of_mono 2
mean_clashes = record {
  names = refl;
  clash = record { first = omega arith; last = omega arith; before = blank_alone; none = no_mean };
}

-- amplify takes a decimal first
amplify_takes : (u v : Ground) (types : List Ground) (k : Kind) → base_type base.Text ∷ base_type base.Decimal ∷ source k ∷ [] ≡ types → Matched (params_of_builtin builtin.Amplify) ((None, u) ∷ (None, v) ∷ []) types → u ≡ base_type base.Decimal
amplify_takes u v types k is m =
    (subst (λ ts. Matched (params_of_builtin builtin.Amplify) ((None, u) ∷ (None, v) ∷ []) ts) (sym is) m).2.0

no_amplify : HasTyping (target_in (meanings_of amplified_by_int)) amplified_by_int → ⊥
no_amplify h =
    let call = h.2.0.1 in
    let third = call.1.4.4 in
    let inside = third.3.0.0.0.0 in
    let factor = inside.1 in
    let is_int : factor.0 ≡ base_type base.Int = factor.3.0.0.0.0 in
    let row : IsCallOf builtin.Amplify inside.0 inside.2.0 third.0 = inside.2.2 in
    let second = factor.4 in
    let all : inside.0 ≡ (None, factor.0) ∷ (None, second.0) ∷ [] = factor.2 ∙ ap (λ (us : List (GivenArgument Ground)). (None, factor.0) ∷ us) (second.2 ∙ ap (λ (us : List (GivenArgument Ground)). (None, second.0) ∷ us) second.4) in
    let is_decimal = amplify_takes factor.0 second.0 row.types (row.at.kind_of 0) row.params (subst (λ (gs : List (GivenArgument Ground)). Matched (params_of_builtin builtin.Amplify) gs row.types) all row.matched) in
    let f : base_type base.Int ≡ base_type base.Decimal = sym is_int ∙ is_decimal in cc

amplify_clashes : IsTypeClash amplified_by_int 1
amplify_clashes = record {
  names = refl;
  clash = record { first = omega arith; last = omega arith; before = (all_stereo, [], refl); none = no_amplify };
}

-- what a list holds
pub list_same : (t u : Ground) → list t ≡ list u → t ≡ u
list_same t u h = cc

-- x = [], def f() = [x, [1]] end, y = [x, ["a"]]
none_restricted : HasTyping (target_in (meanings_of restricted)) restricted → ⊥
none_restricted h =
    let x = h.2.1.0.0.0.0 in
    let def = h.2.2.0 in
    let result = def.3.1.2.0.0.0.0 in
    let x_there : Some h.2.0 ≡ Some result.0 = subst (λ (us : TypesByToken). type_at 0 (us ++ (0, h.2.0) ∷ []) ≡ Some result.0) def.3.1.1 result.2.0.0.0.0.0 in
    let ones = result.2.1.0.0.0.0.0 in
    let is_int : ones.0 ≡ base_type base.Int = ones.2.0.0.0.0.0 in
    let in_def : result.0 ≡ list ones.0 = ones.1 in
    let y = h.2.2.1.1.0.0.0.0 in
    let x_here : Some h.2.0 ≡ Some y.0 = y.2.0.0.0.0.0 in
    let texts = y.2.1.0.0.0.0.0 in
    let is_text : texts.0 ≡ base_type base.Text = texts.2.0.0.0.0.0 in
    let in_y : y.0 ≡ list texts.0 = texts.1 in
    let f : list (base_type base.Int) ≡ list (base_type base.Text) = cc in cc

two_typed : HasTyping (target_in (meanings_of restricted)) (first_of 2 restricted)
two_typed = (
  all_stereo,
  function (Def 5 (codes "f") none true none (lone (Listed 8 (two (full (Named 9 (codes "x"))) (full (Listed 11 (one (full (int 12 1))))))))) ∷ value 0 (list (base_type base.Int)) ∷ [],
  (
    list (base_type base.Int),
    (((((base_type base.Int, refl, tt), tt, tt), tt, tt), tt, tt), tt, tt),
    (
      (all_stereo, [], list (list (base_type base.Int)), (refl, ([], refl, (((((list (base_type base.Int), refl, (((((refl, tt, tt), tt, tt), tt, tt), tt, tt), ((((((base_type base.Int, refl, (((((refl, tt, tt), tt, tt), tt, tt), tt, tt), tt)), tt, tt), tt, tt), tt, tt), tt, tt), tt))), tt, tt), tt, tt), tt, tt), tt, tt)))),
      refl,
    ),
  ),
)

restricted_clashes : IsTypeClash restricted 3
restricted_clashes = record {
  names = refl;
  clash = record { first = omega arith; last = omega arith; before = two_typed; none = none_restricted };
}

-- def id(x) = x end, y = (id(1), id("a"))
id_called : (ts : Targets) (at : ℕ) (g : Ground) → ts 5 ≡ Some (target.Slot 2) → calls_behind ts all_stereo (function (Def 1 (codes "id") (one (Param 2 (codes "x"))) true none (lone (Named 5 (codes "x")))) ∷ []) [] at 1 ((None, g) ∷ []) g
id_called ts at g means = (
  g ∷ [],
  (refl, refl, (refl, tt)),
  ((tt, refl), ((2, g) ∷ [], refl, ((((subst (λ (o : Option Target). NameHas (record { target = ts; types = (2, g) ∷ []; kinds = all_stereo (at ∷ []); call = calls_behind ts all_stereo [] (at ∷ []) }) o g) (sym means) refl, tt, tt), tt, tt), tt, tt), tt, tt))),
)

pub two_types : HasTyping (target_in (meanings_of at_two_types)) at_two_types
two_types = (
  all_stereo,
  value 7 (tuple (ground.and_more (base_type base.Int) (ground.and_more (base_type base.Text) ground.no_more))) ∷ function (Def 1 (codes "id") (one (Param 2 (codes "x"))) true none (lone (Named 5 (codes "x")))) ∷ [],
  (
    (all_stereo, base_type base.Int ∷ [], base_type base.Int, ((tt, refl), ((2, base_type base.Int) ∷ [], refl, ((((refl, tt, tt), tt, tt), tt, tt), tt, tt)))),
    (
      tuple (ground.and_more (base_type base.Int) (ground.and_more (base_type base.Text) ground.no_more)),
      (((((base_type base.Int, base_type base.Text, ground.no_more, refl, ((((((None, base_type base.Int) ∷ [], (base_type base.Int, [], refl, ((((refl, tt, tt), tt, tt), tt, tt), tt, tt), refl), (Stereo ∷ [], refl, id_called (target_in (meanings_of at_two_types)) 10 (base_type base.Int) refl)), tt, tt), tt, tt), tt, tt), tt, tt), ((((((None, base_type base.Text) ∷ [], (base_type base.Text, [], refl, ((((refl, tt, tt), tt, tt), tt, tt), tt, tt), refl), (Stereo ∷ [], refl, id_called (target_in (meanings_of at_two_types)) 14 (base_type base.Text) refl)), tt, tt), tt, tt), tt, tt), tt, tt), refl), tt, tt), tt, tt), tt, tt), tt, tt),
      refl,
    ),
  ),
)

-- def f(~y=1, z) = z end, x = f(y="a", 2)
f_takes : (u v : Ground) (ts : List Ground) → Matched (record { name = codes "y"; form = Perhaps } ∷ record { name = codes "z"; form = InPlace } ∷ []) ((Some (codes "y"), u) ∷ (None, v) ∷ []) ts → (w : Ground) × (ws : List Ground) × (ts ≡ w ∷ ws) × (w ≡ u)
f_takes u v [] m = absurd m.2
f_takes u v (w ∷ ws) m = (w, ws, refl, sym m.2.0)

no_default : HasTyping (target_in (meanings_of default_of_other_type)) default_of_other_type → ⊥
no_default h =
    let call = h.2.1.1.0.0.0.0 in
    let first = call.1 in
    let second = first.4 in
    let is_text : first.0 ≡ base_type base.Text = first.3.0.0.0.0 in
    let all : call.0 ≡ (Some (codes "y"), first.0) ∷ (None, second.0) ∷ [] = first.2 ∙ ap (λ (us : List (GivenArgument Ground)). (Some (codes "y"), first.0) ∷ us) (second.2 ∙ ap (λ (us : List (GivenArgument Ground)). (None, second.0) ∷ us) second.4) in
    let def = call.2.2 in
    let takes = f_takes first.0 second.0 def.0 (subst (λ (gs : List (GivenArgument Ground)). Matched (record { name = codes "y"; form = Perhaps } ∷ record { name = codes "z"; form = InPlace } ∷ []) gs def.0) all def.1) in
    let given = subst (λ (ts : List Ground). DefaultsHave (sight (target_in (meanings_of default_of_other_type)) h.0 [] (14 ∷ [])) (two (Optional 3 (codes "y") (full (int 5 1))) (Param 7 (codes "z"))) ts) takes.2 def.2.0 in
    let is_int : takes.0 ≡ base_type base.Int = given.0.0.0.0.0 in
    let f : base_type base.Text ≡ base_type base.Int = sym is_text ∙ sym takes.3 ∙ is_int in cc

f_typed : HasTyping (target_in (meanings_of default_of_other_type)) (first_of 1 default_of_other_type)
f_typed = (
  all_stereo,
  function (Def 1 (codes "f") (two (Optional 3 (codes "y") (full (int 5 1))) (Param 7 (codes "z"))) true none (lone (Named 10 (codes "z")))) ∷ [],
  (
    (all_stereo, base_type base.Int ∷ base_type base.Int ∷ [], base_type base.Int, ((((((refl, tt, tt), tt, tt), tt, tt), tt, tt), (tt, refl)), ((3, base_type base.Int) ∷ (7, base_type base.Int) ∷ [], refl, ((((refl, tt, tt), tt, tt), tt, tt), tt, tt)))),
    refl,
  ),
)

default_clashes : IsTypeFault default_of_other_type (fault.TypeClash 2)
default_clashes = record {
  names = refl;
  clash = record { first = omega arith; last = omega arith; before = f_typed; none = no_default };
}
