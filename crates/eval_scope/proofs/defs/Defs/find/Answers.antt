use Rattle.std.proofs.Common.{◌≡◌, List, Option, None, Some, Bor, slice_get, sym, ap, ◌∙◌, rules}
use Rattle.std.specs.Prelude.{option_map}
use Rattle.std.specs.Option.{option_and_then}
use Rattle.script_grammar.specs.View.{view_def, view_stmt}
use Rattle.script_grammar.specs.declared.tree.Def.{Def}
use Rattle.script_grammar.specs.declared.tree.Stmt.{Stmt}
use Rattle.eval_scope.specs.Places.{def_if, is_def}
use Rattle.eval_scope.proofs.Tables.{def_found, item_found, table_finds}
use Rattle.eval_scope.proofs.defs.Defs.find.Goals as goal

pub returns-in_err-place : goal.returns-in_err-place
returns-in_err-place c =
    let none : c.from_residual.result ≡ None = search rules in
    ap (λ (o : Option (Bor Def)). option_map (λ d. view_def d.now) o) none
    ∙ ap (λ (o : Option Stmt). option_and_then (λ s. def_if c.args.at (view_stmt s)) o) (table_finds is_def c.args.self.now.places c.args.self.now.script.now.statements.items c.args.at None c.args.self.now.table c.in_err-place.ensures)
    ∙ sym (def_found c.args.at c.args.self.now.script.now.statements.items)

pub returns : goal.returns
returns c =
    let place = c.in_ok-place.place in
    let there : Some c.in_ok-stmt.stmt.now ≡ slice_get c.args.self.now.script.now.statements.items place = item_found (Some c.in_ok-stmt.stmt) c.deref.result.now place c.in_ok-stmt.ensures.lookup.1 c.in_ok-stmt.ensures.lookup.3 ∙ ap (λ (l : List Stmt). slice_get l place) c.deref.ensures.value in
    c.def_of.ensures
    ∙ ap (λ (o : Option Stmt). option_and_then (λ s. def_if c.args.at (view_stmt s)) o) (there ∙ table_finds is_def c.args.self.now.places c.args.self.now.script.now.statements.items c.args.at (Some place) c.args.self.now.table c.in_ok-place.ensures)
    ∙ sym (def_found c.args.at c.args.self.now.script.now.statements.items)
