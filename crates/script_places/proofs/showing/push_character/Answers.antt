use Rattle.std.proofs.Common.{◌∙◌}
use Rattle.script_places.proofs.Shows.{byte_more, all_bytes}
use Rattle.script_places.proofs.showing.push_character.Goals as goal

pub loop-byte-preserved : goal.loop-byte-preserved
loop-byte-preserved c = byte_more c.loop-byte.out.items c.args.character.now c.push_byte.new.out.items c.args.hidden c.loop-byte.byte-index c.loop-byte-test.true c.in_ok-push_byte.ensures ∙ c.loop-byte.invariant

pub returns : goal.returns
returns c = all_bytes c.loop-byte.out.items c.args.character.now _ c.args.hidden c.loop-byte.byte-index c.loop-byte-test.false c.loop-byte.invariant
