use Rattle.std.proofs.Common.{◌≡◌, Option, None, Some, Bor, ap, ◌∙◌, rules}
use Rattle.std.specs.Prelude.{option_map}
use Rattle.typing_rules.specs.declared.uses.Use.{Use}
use Rattle.eval_scope.specs.Places.{is_use}
use Rattle.eval_scope.proofs.Tables.{item_found, table_finds}
use Rattle.eval_scope.proofs.uses.Uses.find.Goals as goal

pub returns-in_err-place : goal.returns-in_err-place
returns-in_err-place c =
    let none : c.from_residual.result ≡ None = search rules in
    ap (λ (o : Option (Bor Use)). option_map (λ u. u.now) o) none ∙ table_finds is_use c.args.self.now.places c.args.self.now.all.now c.args.at None c.args.self.now.table c.in_err-place.ensures

pub returns : goal.returns
returns c =
    let place = c.in_ok-place.place in
    item_found c.get-2.result c.args.self.now.all.now place c.get-2.ensures.lookup.1 c.get-2.ensures.lookup.3
    ∙ table_finds is_use c.args.self.now.places c.args.self.now.all.now c.args.at (Some place) c.args.self.now.table c.in_ok-place.ensures
