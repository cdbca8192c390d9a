-- Calls whose arguments all stand in their places. Private contracts cite this.
use Rattle.std.specs.Prelude.{ℕ, zero, suc, List, [], ◌∷◌, Option, Some, None, is_some, Bool, true, false, cond}
use Rattle.typing_rules.specs.declared.form.Form.{Form}
use Rattle.typing_rules.specs.declared.form.Form.TheVariants.{InPlace, ByLabel, Perhaps}
use Rattle.typing_rules.specs.Arguments.{GivenArgument, Parameter}

-- whether one of these arguments of a call has a label
abbrev pub has_label : List (GivenArgument ℕ) → Bool
has_label [] = false
has_label (g ∷ gs) = cond (is_some g.0) true (has_label gs)

-- How many of a call's arguments without labels are left after a parameter of this form, where there were so many
-- before: it takes one if it is `InPlace`. None if it needs an argument that is not there.
abbrev pub left_by : Form → Option ℕ → Option ℕ
left_by f None = None
left_by InPlace (Some zero) = None
left_by InPlace (Some (suc n)) = Some n
left_by ByLabel (Some n) = None
left_by Perhaps (Some n) = Some n

-- how many of a call's arguments without labels are left after these parameters took theirs, where there were so many
-- before; None if one of them needs an argument that is not there
abbrev pub left_behind : List Parameter → Option ℕ → Option ℕ
left_behind [] o = o
left_behind (p ∷ ps) o = left_behind ps (left_by p.form o)
