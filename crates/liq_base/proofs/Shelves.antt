-- What calls that only read make of a shelf, one after another.
use Rattle.std.proofs.Common.{◌∙◌, arith, refl}
use Rattle.liq_base.specs.Shelves.{OnlyRead, ShelfTold}

pub read_none : (told : ShelfTold) → OnlyRead told told
read_none told = record { files = refl; created = refl; closed = refl; reads = omega arith; writes = omega arith }

pub read_then : (first between last : ShelfTold) → OnlyRead first between → OnlyRead between last → OnlyRead first last
read_then first between last one more = record {
  files = more.files ∙ one.files;
  created = more.created ∙ one.created;
  closed = more.closed ∙ one.closed;
  reads = omega (arith, one.reads, more.reads);
  writes = omega (arith, one.writes, more.writes);
}
