use Rattle.std.proofs.Common.{◌≡◌, [], take}
use Rattle.liq_base.specs.Shelves.{OnlyRead}
use Rattle.sound_looks.specs.Looks.{IsLooked}
use Rattle.station_facts.specs.Files.{AreFound}
use Rattle.station_facts.proofs.sounds.look_at_sounds.Given as goal

abbrev pub invariant-loop-name : goal.invariant-loop-name
invariant-loop-name g l = record {
  read : OnlyRead (g.S.Shelf.told l.fn.shelf) (g.S.Shelf.told l.shelf);
  are : AreFound (IsLooked l.rules) (take l.name-index l.names) (g.S.Shelf.told l.fn.shelf) (g.S.Shelf.told l.shelf) l.looks.items;
  kept : l.names ≡ [] → l.shelf ≡ l.fn.shelf;
}
