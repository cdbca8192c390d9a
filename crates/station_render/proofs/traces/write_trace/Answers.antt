use Rattle.std.proofs.Common.{◌≡◌, ◌∙◌, ◌++◌, [], ◌∷◌, ap, subst}
use Rattle.std.specs.Prelude.{OnOk}
use Rattle.trace_log.specs.Texts.{trace_text}
use Rattle.station_render.specs.Shelves.{WroteFiles, WroteUpto, one_file}
use Rattle.station_render.proofs.Filing.{none_yet}
use Rattle.station_render.proofs.traces.write_trace.Goals as goal

pub returns-in_err-print-clause-some : goal.returns-in_err-print-clause-some
returns-in_err-print-clause-some g c = none_yet (g.S.Shelf.told c.args.shelf.now) _ _

pub returns-clause-all : goal.returns-clause-all
returns-clause-all g c =
    let is : c.deref.result.now ≡ trace_text c.args.trace.now = c.deref.ensures.value ∙ c.in_ok-print.ensures.ok ∙ ap (λ l. l ++ trace_text c.args.trace.now) c.new-text.ensures.items in
    subst (λ t. OnOk c.write_file.result (WroteFiles (g.S.Shelf.told c.args.shelf.now) (g.S.Shelf.told c.write_file.new.shelf) (c.args.name.now ∷ []) (one_file c.args.name.now t))) is c.write_file.ensures.all

pub returns-clause-some : goal.returns-clause-some
returns-clause-some g c =
    let is : c.deref.result.now ≡ trace_text c.args.trace.now = c.deref.ensures.value ∙ c.in_ok-print.ensures.ok ∙ ap (λ l. l ++ trace_text c.args.trace.now) c.new-text.ensures.items in
    subst (λ t. WroteUpto (g.S.Shelf.told c.args.shelf.now) (g.S.Shelf.told c.write_file.new.shelf) (c.args.name.now ∷ []) (one_file c.args.name.now t)) is c.write_file.ensures.some
