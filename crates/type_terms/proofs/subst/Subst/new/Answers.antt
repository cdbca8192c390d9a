use Rattle.type_terms.proofs.Counted.{kept_none}
use Rattle.type_terms.proofs.subst.Subst.new.Goals as goal

pub invariant_of-result : goal.invariant_of-result
invariant_of-result c = rw (c.new.ensures.items, c.new-2.ensures.items, c.new-3.ensures.items) kept_none
