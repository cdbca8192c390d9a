use Rattle.std.proofs.Common.{◌≡◌, ◌++◌, take}
use Rattle.plan_blames.specs.Texts.{numbered}
use Rattle.plan_blames.specs.Texts.{escaped_byte}
use Rattle.plan_blames.proofs.texts.push_escaped.Given as goal

abbrev pub invariant-loop-byte : goal.invariant-loop-byte
invariant-loop-byte l = l.into.items ≡ l.initial.into.items ++ numbered (λ k byte. escaped_byte byte) 0 (take l.byte-index l.name)
