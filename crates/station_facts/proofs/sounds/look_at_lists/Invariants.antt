use Rattle.std.proofs.Common.{◌≡◌, [], take}
use Rattle.liq_base.specs.Shelves.{OnlyRead}
use Rattle.sound_looks.specs.Looks.{IsListLook}
use Rattle.station_facts.specs.Files.{AreFound}
use Rattle.station_facts.proofs.sounds.look_at_lists.Given as goal

abbrev pub invariant-loop-name : goal.invariant-loop-name
invariant-loop-name g l = record {
  read : OnlyRead (g.S.Shelf.told l.fn.shelf) (g.S.Shelf.told l.shelf);
  are : AreFound IsListLook (take l.name-index l.names) (g.S.Shelf.told l.fn.shelf) (g.S.Shelf.told l.shelf) l.looks.items;
  kept : l.names ≡ [] → l.shelf ≡ l.fn.shelf;
}
