use Rattle.std.proofs.Common.{rules, ◌≡◌, [], length, min}
use Rattle.expression_types.specs.Seen.{founds}
use Rattle.type_infer.specs.TextUses.{text_uses}
use Rattle.type_infer.proofs.Chunks.{uses_begin, uses_end, uses_next}
use Rattle.type_infer.proofs.texts.text_of_uses.Goals as goal

pub loop-found-init : goal.loop-found-init
loop-found-init c =
    let empty : c.new-done.result.items ≡ [] = cc in
    uses_begin c.new-done.result.items (text_uses (founds c.args.uses.now) c.args.text.now) empty

pub loop-found-preserved : goal.loop-found-preserved
loop-found-preserved c =
    let least : c.min.result ≡ min (length c.found-item.result.kinds.items) (length c.loop-found.left.now) = search rules in
    uses_next c.args.uses.now c.loop-found.found-index c.found-item.result c.loop-found-test.true c.found-item.is c.loop-found.done.items c.push.new.self.items c.in_ok-use_with.field-0 c.loop-found.left.now c.split_at.result.0.now c.split_at.result.1.now c.min.result (text_uses (founds c.args.uses.now) c.args.text.now)
    least c.split_at.ensures.front c.split_at.ensures.back c.in_ok-use_with.ensures c.in_ok-push.ensures.items c.loop-found.invariant

pub returns : goal.returns
returns c = uses_end c.args.uses.now c.loop-found.found-index c.loop-found-test.false c.loop-found.done.items c.loop-found.left.now (text_uses (founds c.args.uses.now) c.args.text.now) c.loop-found.invariant
