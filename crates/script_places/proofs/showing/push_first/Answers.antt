use Rattle.std.proofs.Common.{List, ℕ, ◌++◌, Bool, ap, ◌∙◌}
use Rattle.script_places.specs.Showing.{character_shown, is_hidden}
use Rattle.script_places.proofs.Shows.{character_more}
use Rattle.script_places.proofs.showing.push_first.Goals as goal

pub returns-clause-shown : goal.returns-clause-shown
returns-clause-shown c =
    rw c.split_at.ensures.back (character_more c.args.out.now.items c.args.bytes.now c.push_character.new.out.items c.width.result c.requires c.width.ensures.width c.width.ensures.some
    (c.in_ok-push_character.ensures
    ∙ ap (λ (h : Bool). c.args.out.now.items ++ character_shown h c.split_at.result.0.now) c.is_hidden.ensures
    ∙ ap (λ (t : List ℕ). c.args.out.now.items ++ character_shown (is_hidden c.args.bytes.now) t) c.split_at.ensures.front))
