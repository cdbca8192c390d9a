use Rattle.std.proofs.Common.{◌∙◌, sym, map, arith}
use Rattle.name_scope.specs.Labelled.{seen_label}
use Rattle.name_scope.specs.Seen.{left_of}
use Rattle.name_scope.proofs.Labelling.{map_long, none_from, one_left, taken_behind}
use Rattle.name_scope.proofs.labels.Labels.is_empty.Goals as goal

pub returns-then-not-is_taken : goal.returns-then-not-is_taken
returns-then-not-is_taken c =
    let t = c.args.self.now in
    let long = map_long seen_label t.labels.items in
    let all = t.taken_all in
    record { none = one_left (map seen_label t.labels.items) t.taken.items c.loop-place.place (left_of t) (omega (arith, c.loop-place-test.true, long, t.labels.ok.0)) (omega (arith, c.loop-place-test.true, all, t.labels.ok.0)) (sym c.is_taken.ensures.at ∙ c.if-not-is_taken.true) c.loop-place.invariant }

pub loop-place-preserved : goal.loop-place-preserved
loop-place-preserved c =
    let t = c.args.self.now in
    let long = map_long seen_label t.labels.items in
    let all = t.taken_all in
    taken_behind (map seen_label t.labels.items) t.taken.items c.loop-place.place (left_of t) (omega (arith, c.loop-place-test.true, long, t.labels.ok.0)) (omega (arith, c.loop-place-test.true, all, t.labels.ok.0)) (sym c.is_taken.ensures.at ∙ c.if-not-is_taken.false) c.loop-place.invariant

pub returns : goal.returns
returns c =
    let t = c.args.self.now in
    let long = map_long seen_label t.labels.items in
    record { none = none_from (map seen_label t.labels.items) t.taken.items c.loop-place.place (left_of t) (omega (arith, c.loop-place-test.false, long, t.labels.ok.0)) c.loop-place.invariant }
