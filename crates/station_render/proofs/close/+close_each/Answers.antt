use Rattle.std.proofs.Common.{rules, arith, ◌≡◌, ◌<◌, ◌∷◌, ◌∙◌, ap, length, refl, inl, inr, sym, false, true}
use Rattle.std.specs.Prelude.{Ok, is_ok}
use Rattle.liq_base.specs.Kept.{rose_within}
use Rattle.station_render.specs.OutputSinks.{inner}
use Rattle.station_render.specs.Sinks.{lists_of}
use Rattle.station_render.proofs.Closing.{all_empty, both_ok, ends_if, ends_then, ends_unclosed, ends_unended, err_there, for_any, given, has_first, none_failed, failed_left, on_err_so, part_then, rooms_first, rooms_left, sizes_left, whole_if, whole_then}
use Rattle.station_render.proofs.Listing.{closed_then, closings_none, listed_then, names_none}
use Rattle.station_render.proofs.Measures.{moved_faults}
use Rattle.station_render.proofs.close.+close_each.Goals as goal

pub end_all-requires : goal.end_all-requires
end_all-requires g t c =
    let none : length c.args.order.now ≡ 0 = search rules in
    all_empty c.args.order.now (lists_of c.args.groups.items) none c.requires.sizes

pub returns-in_default-clause-failed : goal.returns-in_default-clause-failed
returns-in_default-clause-failed g t c =
    let none : length c.args.order.now ≡ 0 = search rules in
    λ failed. none_failed c.args.order.now (lists_of c.args.groups.items) none c.requires.sizes (inner g.S.Out.Sink.told) failed

pub take_first-output-requires : goal.take_first-output-requires
take_first-output-requires g t c =
    let split : c.args.order.now ≡ c.in-Some.clock.now ∷ c.in-Some.rest.now = search rules in
    has_first c.args.order.now c.in-Some.rest.now c.in-Some.clock.now split (lists_of c.args.groups.items) (lists_of c.args.groups.items) c.requires.sizes

pub end_if-ended-requires : goal.end_if-ended-requires
end_if-ended-requires g t c = λ well odd.
    rooms_first g.S.Out.Sink.told c.in-Some.clock.now (lists_of c.args.groups.items) (lists_of c.take_first-output.new.groups.items) c.take_first-output.result c.take_first-output.ensures (c.requires.rooms well) odd

pub close_each-others-requires-clause-sizes : goal.close_each-others-requires-clause-sizes
close_each-others-requires-clause-sizes g t c =
    let split : c.args.order.now ≡ c.in-Some.clock.now ∷ c.in-Some.rest.now = search rules in
    λ κs lives. sizes_left c.args.order.now c.in-Some.rest.now c.in-Some.clock.now split (lists_of c.args.groups.items) (lists_of c.take_first-output.new.groups.items) c.take_first-output.result c.take_first-output.ensures c.requires.sizes

pub close_each-others-requires-clause-rooms : goal.close_each-others-requires-clause-rooms
close_each-others-requires-clause-rooms g t c =
    λ κs lives on.
    rooms_left g.S.Out.Sink.told c.in-Some.clock.now (lists_of c.args.groups.items) (lists_of c.take_first-output.new.groups.items) c.take_first-output.result c.take_first-output.ensures (c.requires.rooms (c.still_well-goes_on.ensures.before on))

pub returns-in_err-ended-clause-part : goal.returns-in_err-ended-clause-part
returns-in_err-ended-clause-part g t c = λ unwell.
    absurd (let well : c.args.well ≡ true = c.in_err-ended.ensures.well in let e : false ≡ true = sym unwell ∙ well in cc)

pub returns-in_err-first-clause-part : goal.returns-in_err-first-clause-part
returns-in_err-first-clause-part g t c = λ unwell.
    let split : c.args.order.now ≡ c.in-Some.clock.now ∷ c.in-Some.rest.now = search rules in
    part_then g.S.Out.Sink.told c.args.order.now c.in-Some.rest.now c.in-Some.clock.now split (lists_of c.args.groups.items) (lists_of c.take_first-output.new.groups.items) c.take_first-output.result c.take_first-output.ensures
    (g.S.Out.Sink.told c.end_if-ended.new.output.sink) _ _ _ c.close-first.result _ _ _ c.close-first.ensures.shelf.writes (ap g.S.Out.Sink.told (c.end_if-ended.ensures.same unwell))
    c.close-first.ensures.closed c.close-first.ensures.part c.close-first.ensures.cause c.close-first.ensures.shelf.failed (c.close_each-others.ensures.part (c.still_well-goes_on.ensures.unwell unwell))

pub returns-clause-part : goal.returns-clause-part
returns-clause-part g t c = λ unwell.
    let split : c.args.order.now ≡ c.in-Some.clock.now ∷ c.in-Some.rest.now = search rules in
    part_then g.S.Out.Sink.told c.args.order.now c.in-Some.rest.now c.in-Some.clock.now split (lists_of c.args.groups.items) (lists_of c.take_first-output.new.groups.items) c.take_first-output.result c.take_first-output.ensures
    (g.S.Out.Sink.told c.end_if-ended.new.output.sink) _ _ _ c.close-first.result _ _ _ c.close-first.ensures.shelf.writes (ap g.S.Out.Sink.told (c.end_if-ended.ensures.same unwell))
    c.close-first.ensures.closed c.close-first.ensures.part c.close-first.ensures.cause c.close-first.ensures.shelf.failed (c.close_each-others.ensures.part (c.still_well-goes_on.ensures.unwell unwell))

pub returns-clause-whole : goal.returns-clause-whole
returns-clause-whole g t c =
    let split : c.args.order.now ≡ c.in-Some.clock.now ∷ c.in-Some.rest.now = search rules in
    let one : c.end_if-ended.result ≡ Ok c.in_ok-ended.field-0 = c.branch-ended.ensures ∙ (rw c.in_ok-ended.is refl) in
    let two : c.close-first.result ≡ Ok c.in_ok-first.field-0 = c.branch-first.ensures ∙ (rw c.in_ok-first.is refl) in
    whole_if c.close_each-others.result c.args.well c.still_well-goes_on.result _ _ (λ well. both_ok c.end_if-ended.result c.close-first.result _ _ _ one two c.still_well-goes_on.ensures.still ∙ well)
    (λ well. whole_then g.S.Out.Sink.told c.args.order.now c.in-Some.rest.now c.in-Some.clock.now split (lists_of c.args.groups.items) (lists_of c.take_first-output.new.groups.items) c.take_first-output.result c.take_first-output.ensures
    (g.S.Out.Sink.told c.end_if-ended.new.output.sink) _ _ _ (c.in_ok-ended.ensures.ended well) c.in_ok-first.ensures.closed)
    c.close_each-others.ensures.whole

pub returns-clause-ends : goal.returns-clause-ends
returns-clause-ends g t c =
    let split : c.args.order.now ≡ c.in-Some.clock.now ∷ c.in-Some.rest.now = search rules in
    let one : c.end_if-ended.result ≡ Ok c.in_ok-ended.field-0 = c.branch-ended.ensures ∙ (rw c.in_ok-ended.is refl) in
    let two : c.close-first.result ≡ Ok c.in_ok-first.field-0 = c.branch-first.ensures ∙ (rw c.in_ok-first.is refl) in
    ends_if c.close_each-others.result c.args.well c.still_well-goes_on.result _ _ (λ well. both_ok c.end_if-ended.result c.close-first.result _ _ _ one two c.still_well-goes_on.ensures.still ∙ well)
    (λ well. ends_then g.S.Out.Sink.told c.args.order.now c.in-Some.rest.now c.in-Some.clock.now split (lists_of c.args.groups.items) (lists_of c.take_first-output.new.groups.items) c.take_first-output.result c.take_first-output.ensures
    (g.S.Out.Sink.told c.end_if-ended.new.output.sink) _ _ _ _ _ _ c.close-first.ensures.shelf.writes (c.in_ok-ended.ensures.ended well) c.in_ok-first.ensures.closed)
    c.close_each-others.ensures.ends

pub returns-in_err-ended-clause-ends : goal.returns-in_err-ended-clause-ends
returns-in_err-ended-clause-ends g t c =
    let split : c.args.order.now ≡ c.in-Some.clock.now ∷ c.in-Some.rest.now = search rules in
    let rose = c.in_err-ended.ensures.part.rose in
    let stops = err_there c.end_if-ended.result _ _ c.in_err-ended.was c.still_well-goes_on.ensures.ended in
    on_err_so _ _ (for_any (ends_unended g.S.Out.Sink.told c.args.order.now c.in-Some.rest.now c.in-Some.clock.now split (lists_of c.args.groups.items) (lists_of c.take_first-output.new.groups.items) c.take_first-output.result c.take_first-output.ensures
    (g.S.Out.Sink.told c.end_if-ended.new.output.sink) _ _ _ c.close-first.result _ _ _ (c.close-first.ensures.shelf.failed (omega (arith, rose))) c.in_err-ended.ensures.part c.in_err-ended.ensures.odd
    c.close-first.ensures.closed c.close-first.ensures.part (c.close_each-others.ensures.part stops)))

pub returns-in_err-first-clause-ends : goal.returns-in_err-first-clause-ends
returns-in_err-first-clause-ends g t c =
    let split : c.args.order.now ≡ c.in-Some.clock.now ∷ c.in-Some.rest.now = search rules in
    let stops = err_there c.close-first.result _ _ c.in_err-first.was c.still_well-goes_on.ensures.closed in
    on_err_so _ _ (given (ends_unclosed g.S.Out.Sink.told c.args.order.now c.in-Some.rest.now c.in-Some.clock.now split (lists_of c.args.groups.items) (lists_of c.take_first-output.new.groups.items) c.take_first-output.result c.take_first-output.ensures
    (g.S.Out.Sink.told c.end_if-ended.new.output.sink) _ _ _ c.close-first.result _ _ _ c.in_err-first.ensures.cause
    c.close-first.ensures.closed c.close-first.ensures.part (c.close_each-others.ensures.part stops)) c.in_ok-ended.ensures.ended)

pub returns-in_err-ended-clause-cause : goal.returns-in_err-ended-clause-cause
returns-in_err-ended-clause-cause g t c =
    on_err_so _ _ (rose_within _ _ _ _ (omega arith) c.close_each-others.ensures.shelf.writes_grew (c.close-first.ensures.shelf.failed (let rose = c.in_err-ended.ensures.part.rose in omega (arith, rose))))

pub returns-in_err-ended-clause-failed : goal.returns-in_err-ended-clause-failed
returns-in_err-ended-clause-failed g t c = λ failed.
    rose_within _ _ _ _ (omega arith) c.close_each-others.ensures.shelf.writes_grew (c.close-first.ensures.shelf.failed (let rose = c.in_err-ended.ensures.part.rose in omega (arith, rose)))

pub returns-in_err-first-clause-failed : goal.returns-in_err-first-clause-failed
returns-in_err-first-clause-failed g t c = λ failed.
    rose_within _ _ _ _ (omega arith) c.close_each-others.ensures.shelf.writes_grew c.in_err-first.ensures.cause

pub returns-clause-failed : goal.returns-clause-failed
returns-clause-failed g t c =
    let split : c.args.order.now ≡ c.in-Some.clock.now ∷ c.in-Some.rest.now = search rules in
    λ failed. elim (failed_left c.args.order.now c.in-Some.rest.now c.in-Some.clock.now split (lists_of c.args.groups.items) (lists_of c.take_first-output.new.groups.items) c.take_first-output.result c.take_first-output.ensures (inner g.S.Out.Sink.told) failed) [
      | inl this ↦ rose_within _ _ _ _ (omega arith) c.close_each-others.ensures.shelf.writes_grew
          (c.close-first.ensures.shelf.failed (let fewer = moved_faults _ _ c.end_if-ended.ensures.taken in let more : 0 < (g.S.Out.Sink.told c.take_first-output.result.sink).faults = this in omega (arith, fewer, more)))
      | inr other ↦ rose_within _ _ _ _ c.close-first.ensures.shelf.writes (omega arith) (c.close_each-others.ensures.failed other)
    ]

pub returns-in_default-clause-closed : goal.returns-in_default-clause-closed
returns-in_default-clause-closed g t c =
    let none : length c.args.order.now ≡ 0 = search rules in
    names_none g.S.Out.Sink.told c.args.order.now (lists_of c.args.groups.items) none _

pub returns-in_err-ended-clause-closed : goal.returns-in_err-ended-clause-closed
returns-in_err-ended-clause-closed g t c =
    let split : c.args.order.now ≡ c.in-Some.clock.now ∷ c.in-Some.rest.now = search rules in
    closed_then g.S.Out.Sink.told c.args.order.now c.in-Some.rest.now c.in-Some.clock.now split (lists_of c.args.groups.items) (lists_of c.take_first-output.new.groups.items) c.take_first-output.result c.take_first-output.ensures
    (g.S.Out.Sink.told c.end_if-ended.new.output.sink) c.end_if-ended.ensures.taken _ _ _ c.close-first.ensures.shelf.closed c.close_each-others.ensures.closed

pub returns-in_err-first-clause-closed : goal.returns-in_err-first-clause-closed
returns-in_err-first-clause-closed g t c =
    let split : c.args.order.now ≡ c.in-Some.clock.now ∷ c.in-Some.rest.now = search rules in
    closed_then g.S.Out.Sink.told c.args.order.now c.in-Some.rest.now c.in-Some.clock.now split (lists_of c.args.groups.items) (lists_of c.take_first-output.new.groups.items) c.take_first-output.result c.take_first-output.ensures
    (g.S.Out.Sink.told c.end_if-ended.new.output.sink) c.end_if-ended.ensures.taken _ _ _ c.close-first.ensures.shelf.closed c.close_each-others.ensures.closed

pub returns-clause-closed : goal.returns-clause-closed
returns-clause-closed g t c =
    let split : c.args.order.now ≡ c.in-Some.clock.now ∷ c.in-Some.rest.now = search rules in
    closed_then g.S.Out.Sink.told c.args.order.now c.in-Some.rest.now c.in-Some.clock.now split (lists_of c.args.groups.items) (lists_of c.take_first-output.new.groups.items) c.take_first-output.result c.take_first-output.ensures
    (g.S.Out.Sink.told c.end_if-ended.new.output.sink) c.end_if-ended.ensures.taken _ _ _ c.close-first.ensures.shelf.closed c.close_each-others.ensures.closed

pub returns-in_default-clause-listed : goal.returns-in_default-clause-listed
returns-in_default-clause-listed g t c =
    let none : length c.args.order.now ≡ 0 = search rules in
    λ well. closings_none g.S.Out.Sink.told c.args.order.now (lists_of c.args.groups.items) none _

pub returns-clause-listed : goal.returns-clause-listed
returns-clause-listed g t c =
    let split : c.args.order.now ≡ c.in-Some.clock.now ∷ c.in-Some.rest.now = search rules in
    let one : c.end_if-ended.result ≡ Ok c.in_ok-ended.field-0 = c.branch-ended.ensures ∙ (rw c.in_ok-ended.is refl) in
    let two : c.close-first.result ≡ Ok c.in_ok-first.field-0 = c.branch-first.ensures ∙ (rw c.in_ok-first.is refl) in
    whole_if c.close_each-others.result c.args.well c.still_well-goes_on.result _ _ (λ well. both_ok c.end_if-ended.result c.close-first.result _ _ _ one two c.still_well-goes_on.ensures.still ∙ well)
    (λ well. listed_then g.S.Out.Sink.told c.args.order.now c.in-Some.rest.now c.in-Some.clock.now split (lists_of c.args.groups.items) (lists_of c.take_first-output.new.groups.items) c.take_first-output.result c.take_first-output.ensures
    (g.S.Out.Sink.told c.end_if-ended.new.output.sink) (c.in_ok-ended.ensures.ended well) _ _ _ c.close-first.ensures.shelf.closed)
    c.close_each-others.ensures.listed
