use Rattle.std.proofs.Common.{◌∙◌, ℕ, ap, subst, sym}
use Rattle.std.specs.Prelude.{Ok}
use Rattle.track_library.specs.Heads.{FrontOf}
use Rattle.track_library.proofs.Counting.{front_found}
use Rattle.track_library.proofs.reading.look_at_front.Goals as goal

pub returns-in-Ok-Found-clause-front : goal.returns-in-Ok-Found-clause-front
returns-in-Ok-Found-clause-front g c =
    let found = c.look.ensures.found c.in-Ok-Found.size (c.in-Ok-Found.is ∙ ap Ok c.in-Ok-Found.field-0-is) in
    let front = front_found c.args.name.now c.args.most (g.S.Shelf.told c.args.shelf.now).files _ c.in-Ok-Found.size c.args.front.now.items c.look.new.into.items found c.requires in
    subst (λ (size : ℕ). FrontOf c.args.name.now c.args.most (g.S.Shelf.told c.args.shelf.now).files c.look.new.into.items size) (sym c.in-Ok-Found.size-is) front
