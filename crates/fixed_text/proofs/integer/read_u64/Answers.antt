use Rattle.std.proofs.Common.{◌≡◌, ap, sym, ◌∙◌, true, false}
use Rattle.fixed_text.specs.Texts.{is_plain}
use Rattle.fixed_text.proofs.Numerals.{plain_digits, plain_decimal, reads_found, reads_only}
use Rattle.fixed_text.proofs.integer.read_u64.Goals as goal

pub returns-then-not-is_plain-clause-only : goal.returns-then-not-is_plain-clause-only
returns-then-not-is_plain-clause-only c = λ n small text. let yes : is_plain c.args.text.now ≡ true = ap is_plain text ∙ plain_decimal n small in let no : is_plain c.args.text.now ≡ false = sym c.is_plain.ensures ∙ c.if-not-is_plain.true in cc

pub value_up_to-requires : goal.value_up_to-requires
value_up_to-requires c = let yes : is_plain c.args.text.now ≡ true = sym c.is_plain.ensures ∙ c.if-not-is_plain.false in (plain_digits _ yes).0

pub returns-clause-found : goal.returns-clause-found
returns-clause-found c = let yes : is_plain c.args.text.now ≡ true = sym c.is_plain.ensures ∙ c.if-not-is_plain.false in reads_found c.args.text.now c.value_up_to.result yes c.value_up_to.ensures.value

pub returns-clause-only : goal.returns-clause-only
returns-clause-only c = reads_only c.args.text.now c.value_up_to.result c.value_up_to.ensures.value
