use Rattle.std.proofs.Common.{◌∙◌, ℕ, List, Some, subst}
use Rattle.std.specs.Str.{IsUtf8}
use Rattle.where_lines.proofs.Passed.{no_name, no_place, no_text, shown}
use Rattle.where_lines.proofs.passing.behind_in.Goals as goal

pub returns-in_default-clause-behind : goal.returns-in_default-clause-behind
returns-in_default-clause-behind c = no_text c.args.file.now c.args.line.now c.told_of.result.now c.new.result.items (Some c.args.text.now) c.new.ensures.items c.told_of.ensures c.in_default.ensures.cases.0

pub returns-in_default-named_in-clause-behind : goal.returns-in_default-named_in-clause-behind
returns-in_default-named_in-clause-behind c =
    no_name c.args.file.now c.args.line.now c.in-Ok.told.now c.new-in_default-named_in.result.items (Some c.args.text.now) c.new-in_default-named_in.ensures.items (c.in-Ok.ensures.cases.0 ∙ c.told_of.ensures)
    (λ named found. (let only = c.named_in.ensures.only named found in let none = c.in_default-named_in.is in absurd cc))

pub returns-in_default-2-clause-behind : goal.returns-in_default-2-clause-behind
returns-in_default-2-clause-behind c =
    no_place c.args.file.now c.args.text.now c.args.line.now c.in-Ok.told.now c.new-in_default-2.result.items c.in-Some.named c.new-in_default-2.ensures.items (c.in-Ok.ensures.cases.0 ∙ c.told_of.ensures)
    (subst (λ (t : List ℕ). IsUtf8 t) c.told_of.ensures c.in-Ok.ensures.cases.1)
    c.in-Some.ensures.found (c.in_ok-at.ensures.none c.in_default-2.is)

pub returns-clause-behind : goal.returns-clause-behind
returns-clause-behind c =
    shown c.args.file.now c.args.text.now c.args.line.now c.in-Ok.told.now c.in_ok-behind.behind.items c.in-Some.named c.in-Some-2.at c.in_ok-behind.ensures (c.in-Ok.ensures.cases.0 ∙ c.told_of.ensures)
    (subst (λ (t : List ℕ). IsUtf8 t) c.told_of.ensures c.in-Ok.ensures.cases.1)
    c.in-Some.ensures.found (rw c.in-Some-2.is at c.in_ok-at.ensures.begins)
