use Rattle.std.proofs.Common.{◌≡◌, ◌∙◌, ◌<◌, ◌∷◌, Some, length, slice_get, get_or, arith, refl, ap, sym, subst}
use Rattle.std.proofs.lemmas.Option.{slice_get_read}
use Rattle.std.proofs.lemmas.List.{get_or_default}
use Rattle.plan_core.specs.declared.node.Node.{Node}
use Rattle.stream_meaning.specs.Instants.{moment_after, part_at, silent, work_at}
use Rattle.stream_meaning.specs.Operators.{work_of}
use Rattle.node_states.specs.States.{StateStands}
use Rattle.node_states.specs.Stretches.{HasStood, Latest}
use Rattle.clock_instants.specs.Resting.{begins_at}
use Rattle.clock_nodes.specs.Scenes.{setting_over}
use Rattle.clock_instants.proofs.Stretched.{marks_are, node_stretches}
use Rattle.clock_instants.proofs.resting.node_rest.Goals as goal

pub rest-requires : goal.rest-requires
rest-requires c =
    let found : slice_get c.args.scene.now.plan.now.nodes c.args.i ≡ Some c.index-as_slice-i.result =
    slice_get_read _ _ _ _ refl c.requires.within (c.index-as_slice-i.is ∙ ap (λ nodes. get_or nodes c.args.i c.index-as_slice-i.result) c.as_slice.ensures) in
    record { fits = (length c.index-as_slice-i.result.children, c.requires.fits c.index-as_slice-i.result found) }

pub returns-clause-within : goal.returns-clause-within
returns-clause-within c = omega (arith, c.rest.ensures.within, c.min-bound.ensures)

pub returns-clause-ahead : goal.returns-clause-ahead
returns-clause-ahead c = λ gave. c.rest.ensures.ahead (c.is_some-gave.ensures ∙ gave)

pub returns-clause-through : goal.returns-clause-through
returns-clause-through c = λ gave through. c.rest.ensures.through (c.is_some-gave.ensures ∙ gave) through

pub returns-clause-goes : goal.returns-clause-goes
returns-clause-goes c = record {
  goes = λ other sub clock past filled node long is stands parts gave begun are time_is within.
      let setting = setting_over c.args.scene.now other in
      let found : slice_get c.args.scene.now.plan.now.nodes c.args.i ≡ Some c.index-as_slice-i.result =
      slice_get_read _ _ _ _ refl c.requires.within (c.index-as_slice-i.is ∙ ap (λ nodes. get_or nodes c.args.i c.index-as_slice-i.result) c.as_slice.ensures) in
      let one : Some c.index-as_slice-i.result ≡ Some node = sym found ∙ is.there in
      let read : c.index-as_slice-i.result ≡ node = cc in
      let in_parts : c.args.i < length c.args.parts.now = omega (arith, c.requires.in_parts, c.requires.within) in
      let children : c.as_slice-2.result.now ≡ node.children = c.as_slice-2.ensures ∙ ap (λ (n : Node). n.children) read in
      let first = moment_after setting sub clock past in
      let part_is = ap (λ ps. part_at ps c.args.i) (sym parts) ∙ get_or_default _ _ silent _ in_parts in
      let latest : Latest = record { setting = setting; sub = sub; past = past; moment = first; filled = filled; i = c.args.i } in
      let stood : HasStood latest (work_at setting c.args.i node) c.is_some-gave.result c.args.below c.args.below_title c.args.state.now =
      record { long = long; stands = stands; gave_is = gave ∙ sym c.is_some-gave.ensures; fills = λ yes through. are (sym c.is_some-gave.ensures ∙ yes) through } in
      node_stretches setting sub clock past c.args.i node c.requires.scene.nodes is c.begins-begins.result c.last.result c.rest.result c.rest.result c.args.tick
      (omega arith)
      (c.rest.ensures.goes latest (work_at setting c.args.i node) (record { library = refl; begun = begun; part_is = part_is; stood = stood }))
      (c.rest.ensures.keeps latest (work_at setting c.args.i node) (record { library = refl; begun = begun; part_is = part_is; stood = stood }))
      (λ choice eligible j children at low.
      let bound = c.rest.ensures.within in
      marks_are setting (length past) c.args.time eligible j children c.requires.rate
      (c.border.ensures.marks.each setting.plan.rate c.args.i c.index-as_slice-i.result.kind choice eligible other.start (length past) j children
      (ap (λ (n : Node). work_of setting.plan.rate c.args.i n.kind n.op) read ∙ at) time_is (omega (arith, low, bound, c.min-bound.ensures))))
      (c.begins-begins.ensures ∙ ap (λ ps. begins_at ps c.as_slice-2.result.now c.last.result) parts ∙ ap (λ cs. begins_at first.parts cs c.last.result) children)
      (λ rule eligible at. c.last.ensures setting sub (first ∷ past) filled c.args.i rule eligible (subst (λ w. StateStands setting sub (first ∷ past) filled c.args.i w c.args.state.now) at stands))
      (λ buffer at.
      let is_tick = c.border.ensures.tick setting.plan.rate c.args.i buffer c.index-as_slice-i.result.kind (ap (λ (n : Node). work_of setting.plan.rate c.args.i n.kind n.op) read ∙ at) in
      let low = c.rest.ensures.within in omega (arith, low, c.min-bound.ensures, is_tick))
      within;
  asks = λ setting sub past moment filled overlap j long stands is gave are less.
      c.rest.ensures.asks (record { setting = setting; sub = sub; past = past; moment = moment; filled = filled; i = c.args.i }) overlap j
      (record { long = long; stands = stands; gave_is = is ∙ sym c.is_some-gave.ensures; fills = λ yes through. are through }) (c.is_some-gave.ensures ∙ gave) less;
}
