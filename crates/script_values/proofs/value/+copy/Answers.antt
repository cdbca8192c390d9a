use Rattle.std.proofs.Common.{List, ap, ◌∙◌, sym}
use Rattle.std.specs.Prelude.{map}
use Rattle.script_values.specs.declared.value.Value.{Value}
use Rattle.script_values.specs.View.{view_value}
use Rattle.script_values.proofs.Rows.{same_list, same_tuple}
use Rattle.script_values.proofs.value.+copy.Goals as goal

pub copy-returns-in_ok-copies-in-Listed : goal.copy-returns-in_ok-copies-in-Listed
copy-returns-in_ok-copies-in-Listed t c = same_list c.in_ok-copies-in-Listed.field-0 c.in-Listed.parts (c.in_ok-copies-in-Listed.ensures ∙ ap (λ (l : List Value). map view_value l) c.deref.ensures.value) ∙ ap view_value (sym c.in-Listed.is)

pub copy-returns-in_ok-copies-in-Tuple : goal.copy-returns-in_ok-copies-in-Tuple
copy-returns-in_ok-copies-in-Tuple t c = same_tuple c.in_ok-copies-in-Tuple.field-0 c.in-Tuple.parts (c.in_ok-copies-in-Tuple.ensures ∙ ap (λ (l : List Value). map view_value l) c.deref-in-Tuple.ensures.value) ∙ ap view_value (sym c.in-Tuple.is)
