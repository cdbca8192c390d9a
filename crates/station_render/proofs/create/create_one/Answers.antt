use Rattle.std.proofs.Common.{rules, arith, ◌≡◌, ◌<◌, ◌++◌, ◌∷◌, [], length, sym, subst, inl, inr, refl}
use Rattle.station_render.specs.OutputSinks.{inner}
use Rattle.station_render.specs.Renders.{IsCutShort, IsOpened}
use Rattle.station_render.specs.Sinks.{lists_of}
use Rattle.station_render.proofs.Closing.{on_err_so}
use Rattle.station_render.proofs.Creating.{added_failed, is_cut_short, is_opened, was_created}
use Rattle.station_render.proofs.create.create_one.Goals as goal

pub returns-in_err-wrote-clause-cause : goal.returns-in_err-wrote-clause-cause
returns-in_err-wrote-clause-cause g c =
    let low : c.args.opening.now.clock < length (lists_of c.reserve_one.new.groups.items) = subst (λ gs. c.args.opening.now.clock < length gs) (sym c.reserve_one.ensures.same) c.requires.below in
    let rose = c.in_err-wrote.ensures.part.rose in
    let failed : 0 < (g.S.Out.Sink.told c.append-wrote.new.self).faults = omega (arith, rose) in
    λ e. inr (added_failed (inner g.S.Out.Sink.told) c.args.opening.now.clock _ (lists_of c.reserve_one.new.groups.items) (lists_of c.add_one.new.groups.items) low c.add_one.ensures failed)

pub returns-in_err-sink-clause-broken : goal.returns-in_err-sink-clause-broken
returns-in_err-sink-clause-broken g c = on_err_so _ _ (inl (record { order_is = search rules; same = c.reserve_one.ensures.same; made_none = c.in_err-sink.ensures.unmade.created }))

pub returns-clause-created : goal.returns-clause-created
returns-clause-created g c =
    let more : c.push.new.self.items ≡ c.args.order.now.items ++ c.args.opening.now.clock ∷ [] = search rules in
    let long : length c.args.opening.now.header ≡ 44 = search (rules, arith) in
    was_created g.S.Out.Sink.told (IsOpened g.S.Out.Sink.told (g.S.Shelf.told c.args.shelf.now) c.args.name.now c.args.opening.now.header c.args.opening.now.body) c.args.opening.now.clock c.args.name.now _ _ _ _ _ _ _ _
    c.in_ok-sink.ensures.made.created more c.reserve_one.ensures.same c.add_one.ensures
    (is_opened g.S.Out.Sink.told (g.S.Shelf.told c.args.shelf.now) c.args.name.now c.args.opening.now.header c.args.opening.now.body long _ _ refl c.in_ok-sink.ensures.fresh c.in_ok-wrote.ensures.took)

pub returns-in_err-wrote-clause-broken : goal.returns-in_err-wrote-clause-broken
returns-in_err-wrote-clause-broken g c =
    let more : c.push.new.self.items ≡ c.args.order.now.items ++ c.args.opening.now.clock ∷ [] = search rules in
    on_err_so _ _ (inr (was_created g.S.Out.Sink.told (IsCutShort g.S.Out.Sink.told (g.S.Shelf.told c.args.shelf.now) c.args.name.now c.args.opening.now.header) c.args.opening.now.clock c.args.name.now _ _ _ _ _ _ _ _
    c.in_ok-sink.ensures.made.created more c.reserve_one.ensures.same c.add_one.ensures
    (is_cut_short g.S.Out.Sink.told (g.S.Shelf.told c.args.shelf.now) c.args.name.now c.args.opening.now.header _ _ _ c.in_ok-sink.ensures.fresh c.in_err-wrote.ensures.part)))
