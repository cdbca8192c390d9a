use Rattle.std.proofs.Common.{◌∙◌, sym}
use Rattle.type_terms.specs.Table.{number_at}
use Rattle.type_terms.proofs.Numbers.{equal_bits, own_no, own_yes, same_no, same_yes}
use Rattle.type_terms.proofs.Settling.{number_read}
use Rattle.type_terms.proofs.differ.stays_free.Goals as goal

pub returns-then-left_number-right_number-clause-yes : goal.returns-then-left_number-right_number-clause-yes
returns-then-left_number-right_number-clause-yes c = same_yes _ (number_at c.args.types.now c.args.x) (number_at c.args.types.now c.args.y) (number_read _ _ _ c.requires.inside c.index-types-x.is ∙ sym c.is_number-left_number.ensures ∙ equal_bits _ _ c.if-left_number-right_number.true ∙ c.is_number-right_number.ensures ∙ sym (number_read _ _ _ c.requires.inside_too c.index-types-y.is))

pub returns-then-left_number-right_number-clause-no : goal.returns-then-left_number-right_number-clause-no
returns-then-left_number-right_number-clause-no c = same_no _ (number_at c.args.types.now c.args.x) (number_at c.args.types.now c.args.y) (number_read _ _ _ c.requires.inside c.index-types-x.is ∙ sym c.is_number-left_number.ensures ∙ equal_bits _ _ c.if-left_number-right_number.true ∙ c.is_number-right_number.ensures ∙ sym (number_read _ _ _ c.requires.inside_too c.index-types-y.is))

pub returns-else-left_number-right_number-clause-yes : goal.returns-else-left_number-right_number-clause-yes
returns-else-left_number-right_number-clause-yes c = own_yes c.is_number-left_number.result (number_at c.args.types.now c.args.x) (number_at c.args.types.now c.args.y) (number_read _ _ _ c.requires.inside c.index-types-x.is ∙ sym c.is_number-left_number.ensures)

pub returns-else-left_number-right_number-clause-no : goal.returns-else-left_number-right_number-clause-no
returns-else-left_number-right_number-clause-no c = own_no c.is_number-left_number.result (number_at c.args.types.now c.args.x) (number_at c.args.types.now c.args.y) (number_read _ _ _ c.requires.inside c.index-types-x.is ∙ sym c.is_number-left_number.ensures)
