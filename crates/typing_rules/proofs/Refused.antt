-- Answers that the contract of inference refuses.
use Rattle.std.proofs.Common.{◌≡◌, refl, inl, ℕ, List, [], ◌∷◌, Some, None}
use Rattle.std.specs.Prelude.{codes}
use Rattle.liq_base.specs.declared.memory.Kind.TheVariants.{Mono, Stereo}
use Rattle.script_grammar.specs.Tree.{none, Tuple, Script}
use Rattle.type_terms.specs.Ground.{source}
use Rattle.typing_rules.specs.declared.uses.Use.{Use}
use Rattle.typing_rules.specs.declared.uses.KindOf.{KindOf}
use Rattle.typing_rules.specs.declared.uses.KindOf.TheVariants.{Fixed, Given}
use Rattle.typing_rules.specs.declared.uses.Target.TheVariants as target
use Rattle.typing_rules.specs.declared.uses.Builtin.TheVariants as builtin
use Rattle.typing_rules.specs.Table.{params_of_builtin}
use Rattle.typing_rules.specs.Scripts.{value}
use Rattle.typing_rules.specs.Kinds.{blocks, open_kinds}
use Rattle.typing_rules.specs.Answers.{IsTyped, IsTypeClash}
use Rattle.typing_rules.proofs.Samples.{at_two_types, binds, called, defines, full, one}
use Rattle.typing_rules.proofs.ClashChecks.{all_stereo, blank_call, two_types}

-- one type for all calls of a def
one_type_for_all_calls : IsTypeClash at_two_types 2 → ⊥
one_type_for_all_calls h = h.clash.none two_types

-- x = blank()
abbrev free_kind : Script
free_kind = one (binds 0 (codes "x") (called 2 (codes "blank") none))

abbrev with_kind : KindOf → List Use
with_kind k = record { at = 2; target = target.Builtin builtin.Blank; kinds = k ∷ [] } ∷ []

-- mono where nothing fixes the kind
free_is_mono : IsTyped free_kind (with_kind (Fixed Mono)) → ⊥
free_is_mono h =
    let less = h.least all_stereo (value 0 (source Stereo) ∷ []) (source Stereo, (((((([], refl, (Stereo ∷ [], refl, blank_call Stereo)), tt, tt), tt, tt), tt, tt), tt, tt)), refl) [] (record { at = 2; meant = Some (target.Builtin builtin.Blank, params_of_builtin builtin.Blank); given = [] }) builtin.Blank (inl (refl, inl refl)) refl in
    let f : Stereo ≡ Mono = less.0 refl in cc

-- an open kind outside of a def
given_outside : IsTyped free_kind (with_kind (Given 0)) → ⊥
given_outside h = let f : 0 ∷ [] ≡ [] = h.numbered.order.0 in cc

-- a use too few
use_missing : IsTyped free_kind [] → ⊥
use_missing h = let f = h.targets in cc

-- def f() = (blank(), blank()) end
abbrev two_kinds : Script
two_kinds = one (defines 1 (codes "f") none (Tuple 4 (full (called 5 (codes "blank") none)) (full (called 8 (codes "blank") none)) none))

abbrev numbered_by : ℕ → ℕ → List Use
numbered_by i j = record { at = 5; target = target.Builtin builtin.Blank; kinds = Given i ∷ [] } ∷ record { at = 8; target = target.Builtin builtin.Blank; kinds = Given j ∷ [] } ∷ []

in_order : open_kinds (blocks [] two_kinds) (numbered_by 0 1) 1 ≡ Some 2
in_order = refl

out_of_order : open_kinds (blocks [] two_kinds) (numbered_by 1 0) 1 ≡ None
out_of_order = refl

not_from_one : open_kinds (blocks [] two_kinds) (numbered_by 1 2) 1 ≡ None
not_from_one = refl
