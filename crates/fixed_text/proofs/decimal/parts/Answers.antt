use Rattle.std.proofs.Common.{rules, ◌∙◌, sym, ap, take, ◌+◌, List, ℕ, ◌++◌, ◌∷◌}
use Rattle.std.proofs.lemmas.List.{take_rest}
use Rattle.std.specs.List.{list_all}
use Rattle.std.specs.Char.{is_ascii_digit}
use Rattle.fixed_text.proofs.Numerals.{all_digits, digits_back}
use Rattle.fixed_text.proofs.Points.{split_there, parted, no_point}
use Rattle.fixed_text.proofs.decimal.parts.Goals as goal

pub returns-in_err-point-clause-only : goal.returns-in_err-point-clause-only
returns-in_err-point-clause-only c = λ w f spelled numeral digits. absurd (no_point c.args.text.now w f c.in_err-point.ensures spelled numeral.1)

pub returns-then-not-are_digits-clause-only : goal.returns-then-not-are_digits-clause-only
returns-then-not-are_digits-clause-only c = λ w f spelled numeral digits.
    let p = parted c.args.text.now w f c.in_ok-point.point c.in_ok-point.ensures spelled numeral.1 in
    let all = digits_back w numeral.1 in
    let test = c.are_digits.ensures ∙ ap (λ (t : List ℕ). list_all is_ascii_digit t) p.0 ∙ all in
    cc

pub returns-then-not-are_digits-2-clause-only : goal.returns-then-not-are_digits-2-clause-only
returns-then-not-are_digits-2-clause-only c = λ w f spelled numeral digits.
    let p = parted c.args.text.now w f c.in_ok-point.point c.in_ok-point.ensures spelled numeral.1 in
    let all = digits_back f digits in
    let test = c.are_digits-2.ensures ∙ ap (λ (t : List ℕ). list_all is_ascii_digit t) p.1 ∙ all in
    cc

pub returns-clause-found : goal.returns-clause-found
returns-clause-found c =
    let split = split_there c.args.text.now c.in_ok-point.point c.in_ok-point.ensures in
    let rest = take_rest c.args.text.now (c.in_ok-point.point + 1) in
    let whole = all_digits _ (sym c.are_digits.ensures ∙ c.if-not-are_digits.false) in
    let fraction = all_digits _ (sym c.are_digits-2.ensures ∙ c.if-not-are_digits-2.false) in
    ((search rules, whole), fraction, split ∙ ap (λ (r : List ℕ). take c.in_ok-point.point c.args.text.now ++ 46 ∷ r) (sym rest))

pub returns-clause-only : goal.returns-clause-only
returns-clause-only c = λ w f spelled numeral digits. parted c.args.text.now w f c.in_ok-point.point c.in_ok-point.ensures spelled numeral.1
