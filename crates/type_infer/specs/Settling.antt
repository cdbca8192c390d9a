-- Kinds and uses under the default solution.
use Rattle.std.specs.Prelude.{◌≡◌, List, [], ◌∷◌, ◌++◌, map, ⊤}
use Rattle.liq_base.specs.declared.memory.Kind.{Kind}
use Rattle.liq_base.specs.declared.memory.Kind.TheVariants.{Stereo}
use Rattle.type_terms.specs.Extends.{HasDefaults}
use Rattle.type_terms.specs.Table.{Table}
use Rattle.type_terms.specs.Term.{kind_meaning}
use Rattle.type_terms.specs.declared.ty.KindTerm.{KindTerm}
use Rattle.type_terms.specs.declared.ty.KindTerm.TheVariants as term
use Rattle.typing_rules.specs.declared.uses.KindOf.{KindOf}
use Rattle.typing_rules.specs.declared.uses.KindOf.TheVariants.{Fixed}
use Rattle.typing_rules.specs.declared.uses.Use.{Use}
use Rattle.type_steps.specs.Environment.{AreUsesOver, Found, IsTextOver, Pending, TextUse, settled, settled_use}
use Rattle.type_steps.specs.Statements.{Done, bound, defined, found_use, ran, uses_under}

-- r is the final kind of the kind term k: what it comes to when all that substitution s leaves open takes its default
abbrev pub IsSettledKind : Table → KindTerm → Kind → Type 0
IsSettledKind s k r = (d : HasDefaults s) → r ≡ kind_meaning d.at k

-- rs are the final kinds of the kind terms ks, when all that substitution s leaves open takes its default
abbrev pub AreSettledKinds : Table → List KindTerm → List KindOf → Type 0
AreSettledKinds s ks rs = (d : HasDefaults s) → rs ≡ map (λ k. Fixed (kind_meaning d.at k)) ks

-- r is the final form of the kind k in a def's text. A kind that is open in the def stays open, and any other takes
-- its default where the substitution s leaves it open.
abbrev pub IsSettledText : Table → Pending → KindOf → Type 0
IsSettledText s k r = (d : HasDefaults s) → r ≡ settled d.at k

-- rs are the final forms of the kinds ks in a def's text. Those that are open in the def stay open, and others take
-- their default where the substitution s leaves them open.
abbrev pub AreSettledTexts : Table → List Pending → List KindOf → Type 0
AreSettledTexts s ks rs = (d : HasDefaults s) → rs ≡ map (settled d.at) ks

-- The uses fs of names, found outside of defs, were added to the list `old` in their final form, which gives `new`.
-- All that the substitution s leaves open takes its default.
abbrev pub AddsFounds : Table → List Found → List Use → List Use → Type 0
AddsFounds s fs old new = (d : HasDefaults s) → new ≡ old ++ map (found_use d.at) fs

-- The uses us of names in a def's text were added to the list `old` in their final form, which gives `new`. All that
-- the substitution s leaves open takes its default.
abbrev pub AddsTexts : Table → List TextUse → List Use → List Use → Type 0
AddsTexts s us old new = (d : HasDefaults s) → new ≡ old ++ map (settled_use d.at) us

-- The uses that the typed statements xs have left were added to the list `old` in their final form, which gives `new`.
-- All that the substitution s leaves open takes its default.
abbrev pub AddsDones : Table → List Done → List Use → List Use → Type 0
AddsDones s xs old new = (d : HasDefaults s) → new ≡ old ++ uses_under d.at xs

-- us are the uses of the typed statements xs in their final form, with all that substitution s leaves open at its
-- default
abbrev pub AreDefaultOf : Table → List Done → List Use → Type 0
AreDefaultOf s xs us = (d : HasDefaults s) → us ≡ uses_under d.at xs

-- The final kind of a kind whose bindings were all followed: a fixed one stays, and a variable that nothing binds is
-- stereo.
abbrev pub free_kind : KindTerm → Kind
free_kind (term.Fixed k) = k
free_kind (term.Var n) = Stereo

-- the kinds at the uses of names in what a typed statement has left name only variables of the substitution s
abbrev pub IsDoneOver : Table → Done → Type 0
IsDoneOver s (bound t u fs) = AreUsesOver s fs
IsDoneOver s (defined d us) = IsTextOver s us
IsDoneOver s (ran fs) = AreUsesOver s fs

-- the kinds at the uses of names in what all these typed statements have left name only variables of the substitution
-- s
abbrev pub AreDonesOver : Table → List Done → Type 0
AreDonesOver s [] = ⊤
AreDonesOver s (x ∷ xs) = IsDoneOver s x × AreDonesOver s xs
