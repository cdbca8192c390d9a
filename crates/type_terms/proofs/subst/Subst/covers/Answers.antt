use Rattle.type_terms.proofs.subst.Subst.covers.Goals as goal

pub returns : goal.returns
returns c = rw (← c.self.view_is, ← c.deref.ensures.value, ← c.deref-2.ensures.value) c.are_among.ensures
