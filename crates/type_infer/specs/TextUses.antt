-- The uses in the text of a def, from the kinds of the text one after another.
use Rattle.std.specs.Prelude.{List, [], ◌∷◌, ◌++◌, map, take, drop, length}
use Rattle.type_terms.specs.declared.ty.KindTerm.{KindTerm}
use Rattle.general_types.specs.declared.generalising.TextKind.{TextKind}
use Rattle.general_types.specs.declared.generalising.TextKind.TheVariants.{Open, Outer}
use Rattle.type_steps.specs.Environment.{Found, Pending, TextUse, of_def, of_term}

-- a kind (mono or stereo, maybe open) in a def's text, as a use there keeps it until the def is used
abbrev pub pending_of : TextKind → Pending
pending_of (Outer k) = of_term k
pending_of (Open j) = of_def j

-- the kinds of all these uses in one list, in order
abbrev pub kinds_in : List Found → List KindTerm
kinds_in [] = []
kinds_in (f ∷ fs) = f.kinds ++ kinds_in fs

-- a use f of a name that was found in a def, with the kinds of `text` in place of its own, as the general def keeps it
abbrev pub use_of : Found → List TextKind → TextUse
use_of f text = record { at = f.at; target = f.target; kinds = map pending_of text }

-- The uses of names in a def's text, with the kinds of the general text dealt out to them: each takes as many as it
-- has, in order. The first list has the uses as they were found.
abbrev pub text_uses : List Found → List TextKind → List TextUse
text_uses [] text = []
text_uses (f ∷ fs) text = use_of f (take (length f.kinds) text) ∷ text_uses fs (drop (length f.kinds) text)
