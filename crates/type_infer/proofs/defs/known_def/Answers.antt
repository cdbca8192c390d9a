use Rattle.std.proofs.Common.{refl}
use Rattle.type_infer.proofs.defs.known_def.Goals as goal

pub returns : goal.returns
returns c = record {
  def = refl;
  at = refl;
  params = rw c.deref.ensures.value at c.in_ok-params.ensures.same;
  general = refl;
  text = rw c.as_slice.ensures.value at c.in_ok-text.ensures;
}
