use Rattle.std.proofs.Common.{◌≡◌, ◌∙◌, Some, get_or, slice_get, ap, sym, refl}
use Rattle.std.proofs.lemmas.Option.{slice_get_read}
use Rattle.clock_nodes.specs.Scenes.{setting_over}
use Rattle.clock_nodes.specs.States.{IsIn}
use Rattle.clock_nodes.proofs.Parts.{part_in-inside}
use Rattle.clock_instants.proofs.offers.offer_of.Goals as goal

pub offer-requires-clause-number : goal.offer-requires-clause-number
offer-requires-clause-number c =
    let found : slice_get c.args.scene.now.plan.now.nodes c.args.i ≡ Some c.index-as_slice-i.result =
    slice_get_read _ _ _ _ refl c.requires.within (c.index-as_slice-i.is ∙ ap (λ nodes. get_or nodes c.args.i c.index-as_slice-i.result) c.as_slice.ensures) in
    (c.requires.scene.nodes c.args.i c.index-as_slice-i.result found).number

pub offer-requires-clause-few : goal.offer-requires-clause-few
offer-requires-clause-few c =
    let found : slice_get c.args.scene.now.plan.now.nodes c.args.i ≡ Some c.index-as_slice-i.result =
    slice_get_read _ _ _ _ refl c.requires.within (c.index-as_slice-i.is ∙ ap (λ nodes. get_or nodes c.args.i c.index-as_slice-i.result) c.as_slice.ensures) in
    (c.requires.scene.nodes c.args.i c.index-as_slice-i.result found).few

pub returns-clause-part : goal.returns-clause-part
returns-clause-part c setting sub clock past filled at long inside stands settled =
    let found : slice_get c.args.scene.now.plan.now.nodes c.args.i ≡ Some c.index-as_slice-i.result =
    slice_get_read _ _ _ _ refl c.requires.within (c.index-as_slice-i.is ∙ ap (λ nodes. get_or nodes c.args.i c.index-as_slice-i.result) c.as_slice.ensures) in
    let is : IsIn (setting_over c.args.scene.now setting) clock c.args.i c.index-as_slice-i.result =
    record { there = found; inside = inside } in
    c.offer.ensures.part (setting_over c.args.scene.now setting) sub past filled c.args.i refl at long
    (stands c.index-as_slice-i.result is) (settled c.index-as_slice-i.result is)
    ∙ sym (part_in-inside (setting_over c.args.scene.now setting) sub clock past c.args.i c.index-as_slice-i.result c.args.parts.now is)
