use Rattle.std.proofs.Common.{◌<◌, ◌∙◌, ap, length, map, arith}
use Rattle.typing_rules.specs.declared.fault.NameFault.TheVariants.{Extra}
use Rattle.name_scope.specs.Seen.{seen_label, token_at}
use Rattle.name_scope.proofs.Extras.{left_done, left_next}
use Rattle.name_scope.proofs.Labelling.{map_long}
use Rattle.name_scope.proofs.notes.Notes.add_left.Goals as goal

pub loop-index-preserved : goal.loop-index-preserved
loop-index-preserved c =
    let t = c.args.labels.now in
    let lt : c.loop-index.index < length t.labels.items = omega (arith, c.loop-index-test.true, c.count-index-end.ensures.all) in
    let long = map_long seen_label t.labels.items in
    let all = t.taken_all in (
      left_next (λ i. Extra (token_at c.args.given.now i)) (map seen_label t.labels.items) t.taken.items c.loop-index.index c.token_of.result c.loop-index.self.fault c.add_extra_if.new.self.fault _ c.is_taken.result (ap Extra c.token_of.ensures.at)
          (omega (arith, lt, long)) (omega (arith, lt, all)) c.is_taken.ensures.at c.loop-index.invariant.0 c.add_extra_if.ensures.fault,
      c.add_extra_if.ensures.found ∙ c.loop-index.invariant.1,
    )

pub returns : goal.returns
returns c =
    let t = c.args.labels.now in
    let long = map_long seen_label t.labels.items in
    record {
      fault = left_done (λ i. Extra (token_at c.args.given.now i)) (map seen_label t.labels.items) t.taken.items c.loop-index.index c.loop-index.self.fault _ (omega (arith, c.loop-index-test.false, c.count-index-end.ensures.all, long)) c.loop-index.invariant.0;
      found = c.loop-index.invariant.1;
    }
