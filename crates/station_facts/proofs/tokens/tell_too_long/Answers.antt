use Rattle.std.proofs.Common.{[], ◌++◌, ◌∙◌, Some, codes, refl}
use Rattle.script_lex.specs.declared.token.LexFault.TheVariants as faults
use Rattle.station_facts.specs.Members.{list_member, object}
use Rattle.station_facts.specs.Tokens.{stop_members, token_array}
use Rattle.station_facts.proofs.Each.{alone}
use Rattle.station_facts.proofs.tokens.tell_too_long.Goals as goal

pub returns : goal.returns
returns c = λ text long. record {
  tokens = [];
  stop = Some faults.TextTooLong;
  front = (long, refl);
  written = alone c.into_inner.result.items c.new-out.result c.push_front.new.out
      (object (list_member (codes "tokens") token_array [] ++ stop_members (Some faults.TextTooLong)))
      (c.new-out.ensures.before ∙ c.new.ensures.items) c.new-out.ensures.tokens
      (rw (c.deref.ensures.value, c.new-none.ensures.items) at c.in_ok-push_front.ensures) c.into_inner.ensures.items;
}
