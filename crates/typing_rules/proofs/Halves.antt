-- def half(~by=0.5, s) = amplify(by, s) end, output "A" of half(blank()), output "C" of half(mean(blank()), by=1.): the whole contract of inference, with any decimals.
use Rattle.std.proofs.Common.{◌≡◌, refl, ℕ, ◌+◌, List, [], ◌∷◌, Some, None, true, false}
use Rattle.std.specs.Prelude.{codes}
use Rattle.fixed_text.specs.declared.decimal.Decimal.{Decimal}
use Rattle.liq_base.specs.declared.memory.Kind.{Kind}
use Rattle.liq_base.specs.declared.memory.Kind.TheVariants.{Mono, Stereo}
use Rattle.script_grammar.specs.declared.tree.Literal.TheVariants as literal
use Rattle.script_grammar.specs.Placed.{IsPlaced}
use Rattle.script_grammar.specs.Tree.{Tree, AStmt, ADef, AnOperand, none, more, Stmt, DefPart, Def, Param, Optional, Constant, Named, Quoted, PlaceFormat, Script}
use Rattle.type_terms.specs.Ground.{base_type, source}
use Rattle.type_terms.specs.declared.ty.Base.TheVariants as base
use Rattle.typing_rules.specs.declared.uses.Use.{Use}
use Rattle.typing_rules.specs.declared.uses.KindOf.{KindOf}
use Rattle.typing_rules.specs.declared.uses.KindOf.TheVariants.{Fixed, Given}
use Rattle.typing_rules.specs.declared.uses.Target.{Target}
use Rattle.typing_rules.specs.declared.uses.Target.TheVariants as target
use Rattle.typing_rules.specs.declared.uses.Builtin.TheVariants as builtin
use Rattle.typing_rules.specs.Table.{IsCallOf}
use Rattle.typing_rules.specs.Scoping.{meanings_of}
use Rattle.typing_rules.specs.NameFaults.{first_fault}
use Rattle.typing_rules.specs.Typing.{DefHas}
use Rattle.typing_rules.specs.Scripts.{Entry, Places, function, sight, IsTypedTo}
use Rattle.typing_rules.specs.Kinds.{said, target_at, read, blocks, open_kinds, AreKindsNumbered}
use Rattle.typing_rules.proofs.Samples.{full, lone, one, two, called, calls, plain, by}
use Rattle.typing_rules.proofs.ClashChecks.{always, blank_call}
use Rattle.std.specs.Prelude.{map}

abbrev pub half : Decimal → Tree ADef
half d = Def 1 (codes "half") (two (Optional 3 (codes "by") (full (Constant 5 (literal.Number d)))) (Param 7 (codes "s"))) true none (lone (called 10 (codes "amplify") (two (plain 11 (Named 11 (codes "by"))) (plain 13 (Named 13 (codes "s"))))))

abbrev output : ℕ → Tree AnOperand → Tree AStmt
output at p = calls at (codes "output.file") (more (plain (at + 1) (PlaceFormat (at + 1) None)) (two (plain (at + 3) (Quoted (at + 3) (codes "A"))) (plain (at + 5) p)))

abbrev pub halves : Decimal → Decimal → Script
halves d e = more (Stmt (DefPart (half d)) false) (two
    (output 16 (called 21 (codes "half") (one (plain 22 (called 22 (codes "blank") none)))))
    (output 26 (called 31 (codes "half") (two (plain 32 (called 32 (codes "mean") (one (plain 33 (called 33 (codes "blank") none))))) (by 37 (codes "by") (Constant 39 (literal.Number e)))))))

placed : (d e : Decimal) → IsPlaced 0 (halves d e)
placed d e = search

abbrev used_at : ℕ → Target → List KindOf → Use
used_at at t ks = record { at = at; target = t; kinds = ks }

abbrev pub uses : List Use
uses =
    used_at 10 (target.Builtin builtin.Amplify) (Given 0 ∷ []) ∷ used_at 11 (target.Slot 3) [] ∷ used_at 13 (target.Slot 7) []
    ∷ used_at 16 (target.Builtin builtin.OutputFile) (Fixed Stereo ∷ []) ∷ used_at 21 (target.Def 1) (Fixed Stereo ∷ []) ∷ used_at 22 (target.Builtin builtin.Blank) (Fixed Stereo ∷ [])
    ∷ used_at 26 (target.Builtin builtin.OutputFile) (Fixed Mono ∷ []) ∷ used_at 31 (target.Def 1) (Fixed Mono ∷ []) ∷ used_at 32 (target.Builtin builtin.Mean) [] ∷ used_at 33 (target.Builtin builtin.Blank) (Fixed Stereo ∷ []) ∷ []

names_match : (d e : Decimal) → first_fault 1 [] (halves d e) ≡ None
names_match d e = refl

targets_match : (d e : Decimal) → map said uses ≡ meanings_of (halves d e)
targets_match d e = refl

-- the place of `amplify` in the first call and in the second, and that of the call in the first
first_place : read [] uses (21 ∷ []) 10 ≡ Some (Stereo ∷ [])
first_place = refl

second_place : read [] uses (31 ∷ []) 10 ≡ Some (Mono ∷ [])
second_place = refl

one_open : (d e : Decimal) → open_kinds (blocks [] (halves d e)) uses 1 ≡ Some 1
one_open d e = refl

-- calls of the builtins
amplify_call : (k : Kind) → IsCallOf builtin.Amplify ((None, base_type base.Decimal) ∷ (None, source k) ∷ []) (k ∷ []) (source k)
amplify_call k = record {
  types = base_type base.Text ∷ base_type base.Decimal ∷ source k ∷ [];
  matched = (refl, refl, (refl, (refl, tt)));
  at = always k;
  params = refl;
  result = refl;
  kinds = refl;
}

output_call : (k : Kind) → IsCallOf builtin.OutputFile ((None, base_type base.Format) ∷ (None, base_type base.Text) ∷ (None, source k) ∷ []) (k ∷ []) (base_type base.Unit)
output_call k = record {
  types = base_type base.Text ∷ base_type base.Bool ∷ base_type base.Format ∷ base_type base.Text ∷ source k ∷ [];
  matched = (refl, refl, (refl, (refl, (refl, tt))));
  at = always k;
  params = refl;
  result = refl;
  kinds = refl;
}

mean_call : IsCallOf builtin.Mean ((None, source Stereo) ∷ []) [] (source Mono)
mean_call = record {
  types = base_type base.Text ∷ source Stereo ∷ [];
  matched = (refl, refl, (refl, tt));
  at = always Mono;
  params = refl;
  result = refl;
  kinds = refl;
}

pub half_has : (kinds : Places) (es : List Entry) (chain : List ℕ) (k : Kind) (d : Decimal) → kinds chain 10 ≡ Some (k ∷ []) → DefHas (sight (target_at uses) kinds es chain) (half d) (base_type base.Decimal ∷ source k ∷ []) (source k)
half_has kinds es chain k d so = (
  (((((refl, tt, tt), tt, tt), tt, tt), tt, tt), (tt, refl)),
  (
    (3, base_type base.Decimal) ∷ (7, source k) ∷ [],
    refl,
    ((((((None, base_type base.Decimal) ∷ (None, source k) ∷ [], (base_type base.Decimal, (None, source k) ∷ [], refl, ((((refl, tt, tt), tt, tt), tt, tt), tt, tt), (source k, [], refl, ((((refl, tt, tt), tt, tt), tt, tt), tt, tt), refl)), (k ∷ [], so, amplify_call k)), tt, tt), tt, tt), tt, tt), tt, tt),
  ),
)

pub typed : (d e : Decimal) → IsTypedTo (target_at uses) (read [] uses) [] (halves d e) (function (half d) ∷ [])
typed d e = (
  (read (Stereo ∷ []) uses, base_type base.Decimal ∷ source Stereo ∷ [], source Stereo, half_has (read (Stereo ∷ []) uses) [] [] Stereo d refl),
  (
    (
      base_type base.Unit,
      (
        (None, base_type base.Format) ∷ (None, base_type base.Text) ∷ (None, source Stereo) ∷ [],
        (base_type base.Format, (None, base_type base.Text) ∷ (None, source Stereo) ∷ [], refl, ((((refl, tt, tt), tt, tt), tt, tt), tt, tt), (base_type base.Text, (None, source Stereo) ∷ [], refl, ((((refl, tt, tt), tt, tt), tt, tt), tt, tt), (source Stereo, [], refl, ((((((None, source Stereo) ∷ [], (source Stereo, [], refl, ((((([], refl, (Stereo ∷ [], refl, blank_call Stereo)), tt, tt), tt, tt), tt, tt), tt, tt), refl), (Stereo ∷ [], refl, (base_type base.Decimal ∷ source Stereo ∷ [], (refl, refl, (refl, tt)), half_has (read [] uses) [] (21 ∷ []) Stereo d refl))), tt, tt), tt, tt), tt, tt), tt, tt), refl))),
        (Stereo ∷ [], refl, output_call Stereo),
      ),
    ),
    (
      (
        base_type base.Unit,
        (
          (None, base_type base.Format) ∷ (None, base_type base.Text) ∷ (None, source Mono) ∷ [],
          (base_type base.Format, (None, base_type base.Text) ∷ (None, source Mono) ∷ [], refl, ((((refl, tt, tt), tt, tt), tt, tt), tt, tt), (base_type base.Text, (None, source Mono) ∷ [], refl, ((((refl, tt, tt), tt, tt), tt, tt), tt, tt), (source Mono, [], refl, ((((((None, source Mono) ∷ (Some (codes "by"), base_type base.Decimal) ∷ [], (source Mono, (Some (codes "by"), base_type base.Decimal) ∷ [], refl, ((((((None, source Stereo) ∷ [], (source Stereo, [], refl, ((((([], refl, (Stereo ∷ [], refl, blank_call Stereo)), tt, tt), tt, tt), tt, tt), tt, tt), refl), ([], refl, mean_call)), tt, tt), tt, tt), tt, tt), tt, tt), (base_type base.Decimal, [], refl, ((((refl, tt, tt), tt, tt), tt, tt), tt, tt), refl)), (Mono ∷ [], refl, (base_type base.Decimal ∷ source Mono ∷ [], (refl, refl, (refl, (refl, tt))), half_has (read [] uses) [] (31 ∷ []) Mono d refl))), tt, tt), tt, tt), tt, tt), tt, tt), refl))),
          (Mono ∷ [], refl, output_call Mono),
        ),
      ),
      refl,
    ),
  ),
)

pub numbered : (d e : Decimal) → AreKindsNumbered (blocks [] (halves d e)) uses
numbered d e = record { order = ((1, refl), (refl, (refl, tt))); each = (refl, (refl, (refl, (refl, (refl, (refl, (refl, (refl, (refl, (refl, tt)))))))))) }
