use Rattle.std.proofs.Common.{sym}
use Rattle.type_terms.specs.Bound.{table_of}
use Rattle.type_terms.specs.Term.{term_of}
use Rattle.type_terms.proofs.Settling.{over_types, triangular}
use Rattle.type_terms.proofs.table.Bindings.resolve.Goals as goal

pub resolve-requires : goal.resolve-requires
resolve-requires c =
    rw c.deref.ensures.value (record {
      triangular = triangular _ _ c.requires.sound;
      over = over_types c.args.self.now.types.items c.args.self.now.kinds.items (term_of c.args.ty.now) c.requires.over;
    })

pub returns : goal.returns
returns c = record {
  value = rw c.deref.ensures.value at c.resolve.ensures.value;
  free = rw c.deref.ensures.value at c.resolve.ensures.free;
  over = c.resolve.ensures.kept (table_of c.args.self.now) (sym c.deref.ensures.value) c.requires.sound c.requires.over;
}
