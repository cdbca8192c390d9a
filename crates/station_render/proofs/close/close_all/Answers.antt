use Rattle.std.proofs.Common.{◌≡◌, ◌∙◌, refl, subst, ap, sym, inl, inr}
use Rattle.std.specs.Prelude.{IfOk, Ok, Err, Result, is_ok}
use Rattle.std.proofs.lemmas.Result.{err_from_is_err_and}
use Rattle.station_render.specs.declared.fault.RenderFault.{RenderFault}
use Rattle.station_render.specs.declared.rendered.Rendered.{Rendered}
use Rattle.station_render.specs.Sinks.{lists_of}
use Rattle.station_render.specs.Runs.{RanWhole}
use Rattle.station_render.proofs.Ending.{all_written, ends_written, rooms_if, some_written}
use Rattle.station_render.proofs.close.close_all.Goals as goal

pub close_each-closed-requires-clause-rooms : goal.close_each-closed-requires-clause-rooms
close_each-closed-requires-clause-rooms g c = λ κs lives well.
    rooms_if g.S.Out.Sink.told (lists_of c.args.groups.items) c.args.wrote (sym c.is_ok.ensures.value ∙ well) c.requires.rooms

pub returns-in_err-rendered-clause-part : goal.returns-in_err-rendered-clause-part
returns-in_err-rendered-clause-part g c =
    let p = err_from_is_err_and c.from_residual.result c.from_residual.ensures.1 in rw p.1
    (λ station first same ran none whole files at.
    inl (some_written g.S.Out.Sink.told station first _ _ same c.args.order.now (lists_of c.args.groups.items) _ ran (inl none) (λ device. inl none) c.close_each-closed.ensures.shelf.created_kept c.close_each-closed.ensures.closed
    (c.close_each-closed.ensures.part (c.is_ok.ensures.value ∙ ap is_ok c.in_err-rendered.was)) files at))

pub returns-in_err-closed-clause-part : goal.returns-in_err-closed-clause-part
returns-in_err-closed-clause-part g c =
    let p = err_from_is_err_and c.from_residual-in_err-closed.result c.from_residual-in_err-closed.ensures.1 in
    let is : c.args.wrote ≡ Ok c.in_ok-rendered.rendered = c.branch-rendered.ensures ∙ (rw c.in_ok-rendered.is refl) in rw p.1
    (λ station first same ran none whole files at.
    inr (ends_written g.S.Out.Sink.told station first _ _ same c.args.order.now (lists_of c.args.groups.items) c.in_ok-rendered.rendered
    (subst (λ (r : Result Rendered RenderFault). IfOk r (RanWhole g.S.Out.Sink.told first station c.args.order.now (lists_of c.args.groups.items))) is whole)
    ran none c.close_each-closed.ensures.shelf.created_kept (c.in_err-closed.ensures.ends (c.is_ok.ensures.value ∙ ap is_ok is)) files at))

pub returns-clause-done : goal.returns-clause-done
returns-clause-done g c = λ station first same few whole.
    let is : c.args.wrote ≡ Ok c.in_ok-rendered.rendered = c.branch-rendered.ensures ∙ (rw c.in_ok-rendered.is refl) in
    all_written g.S.Out.Sink.told station first _ _ same c.args.order.now (lists_of c.args.groups.items) few c.in_ok-rendered.rendered
    (subst (λ (r : Result Rendered RenderFault). IfOk r (RanWhole g.S.Out.Sink.told first station c.args.order.now (lists_of c.args.groups.items))) is whole)
    (c.in_ok-closed.ensures.whole (c.is_ok.ensures.value ∙ ap is_ok is)) (c.in_ok-closed.ensures.listed (c.is_ok.ensures.value ∙ ap is_ok is))

pub returns-clause-well : goal.returns-clause-well
returns-clause-well g c =
    let is : c.args.wrote ≡ Ok c.in_ok-rendered.rendered = c.branch-rendered.ensures ∙ (rw c.in_ok-rendered.is refl) in
    ap is_ok is

pub returns-in_err-rendered-clause-closed : goal.returns-in_err-rendered-clause-closed
returns-in_err-rendered-clause-closed g c = c.close_each-closed.ensures.closed

pub returns-in_err-closed-clause-closed : goal.returns-in_err-closed-clause-closed
returns-in_err-closed-clause-closed g c = c.close_each-closed.ensures.closed

pub returns-clause-closed : goal.returns-clause-closed
returns-clause-closed g c = c.close_each-closed.ensures.closed
