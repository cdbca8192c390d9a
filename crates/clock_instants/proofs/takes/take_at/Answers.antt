use Rattle.std.proofs.Common.{◌≡◌, ◌∙◌, Some, get_or, slice_get, ap, sym, refl, subst}
use Rattle.std.proofs.lemmas.Option.{slice_get_read}
use Rattle.plan_core.specs.declared.node.Node.{Node}
use Rattle.plan_core.specs.Plans.{IsNoReader}
use Rattle.node_states.proofs.Chunks.{on_err}
use Rattle.clock_instants.proofs.Reading.{node_other, node_reader, node_some}
use Rattle.clock_instants.proofs.takes.take_at.Goals as goal

pub take-requires : goal.take-requires
take-requires g c =
    let found : slice_get c.args.scene.now.plan.now.nodes c.args.i ≡ Some c.index-as_slice-i.result =
    slice_get_read _ _ _ _ refl c.requires.within (c.index-as_slice-i.is ∙ ap (λ nodes. get_or nodes c.args.i c.index-as_slice-i.result) c.as_slice.ensures) in
    c.requires.readers.each c.args.i c.in-Some.buffer c.index-as_slice-i.result found (ap (λ (n : Node). n.op) c.index-as_slice-i.is ∙ c.in-Some.ensures.reader)

pub returns-in_err-take-in-Some-clause-fits : goal.returns-in_err-take-in-Some-clause-fits
returns-in_err-take-in-Some-clause-fits g c node found fits = c.take.ensures.fits _ _ fits

pub returns-in_ok-take-in-Some-clause-fits : goal.returns-in_ok-take-in-Some-clause-fits
returns-in_ok-take-in-Some-clause-fits g c node found fits = c.take.ensures.fits _ _ fits

pub returns-in_err-take-in-Some-clause-stopped : goal.returns-in_err-take-in-Some-clause-stopped
returns-in_err-take-in-Some-clause-stopped g c =
    let found : slice_get c.args.scene.now.plan.now.nodes c.args.i ≡ Some c.index-as_slice-i.result =
    slice_get_read _ _ _ _ refl c.requires.within (c.index-as_slice-i.is ∙ ap (λ nodes. get_or nodes c.args.i c.index-as_slice-i.result) c.as_slice.ensures) in
    on_err c.from_residual.result (node_some g.T.Taps.stands c.args.scene.now c.args.i c.in-Some.buffer
    (λ node at. let one : Some c.index-as_slice-i.result ≡ Some node = sym found ∙ at in let same : c.index-as_slice-i.result ≡ node = cc in ap (λ (n : Node). n.op) (sym same ∙ c.index-as_slice-i.is) ∙ c.in-Some.ensures.reader)
    c.args.state.now c.args.taps.now c.take.new.taps c.in_err-take-in-Some.ensures.stopped)

pub returns-in_ok-take-in-Some-clause-begun : goal.returns-in_ok-take-in-Some-clause-begun
returns-in_ok-take-in-Some-clause-begun g c =
    let found : slice_get c.args.scene.now.plan.now.nodes c.args.i ≡ Some c.index-as_slice-i.result =
    slice_get_read _ _ _ _ refl c.requires.within (c.index-as_slice-i.is ∙ ap (λ nodes. get_or nodes c.args.i c.index-as_slice-i.result) c.as_slice.ensures) in
    node_reader g.T.Taps.stands c.args.scene.now c.args.i c.in-Some.buffer
    (λ node at. let one : Some c.index-as_slice-i.result ≡ Some node = sym found ∙ at in let same : c.index-as_slice-i.result ≡ node = cc in ap (λ (n : Node). n.op) (sym same ∙ c.index-as_slice-i.is) ∙ c.in-Some.ensures.reader)
    c.args.state.now c.args.taps.now c.take.new.taps c.take.new.self c.in_ok-take-in-Some.ensures.took

pub returns-in-None-clause-begun : goal.returns-in-None-clause-begun
returns-in-None-clause-begun g c =
    let found : slice_get c.args.scene.now.plan.now.nodes c.args.i ≡ Some c.index-as_slice-i.result =
    slice_get_read _ _ _ _ refl c.requires.within (c.index-as_slice-i.is ∙ ap (λ nodes. get_or nodes c.args.i c.index-as_slice-i.result) c.as_slice.ensures) in
    node_other g.T.Taps.stands c.args.scene.now c.args.i c.args.state.now c.args.taps.now
    (λ node at. let one : Some c.index-as_slice-i.result ≡ Some node = sym found ∙ at in let same : c.index-as_slice-i.result ≡ node = cc in subst (λ (n : Node). IsNoReader n.op) (sym c.index-as_slice-i.is ∙ same) (c.in-None.ensures.none refl))

pub returns-in_err-take-in-Some-clause-reads : goal.returns-in_err-take-in-Some-clause-reads
returns-in_err-take-in-Some-clause-reads g c =
    let found : slice_get c.args.scene.now.plan.now.nodes c.args.i ≡ Some c.index-as_slice-i.result =
    slice_get_read _ _ _ _ refl c.requires.within (c.index-as_slice-i.is ∙ ap (λ nodes. get_or nodes c.args.i c.index-as_slice-i.result) c.as_slice.ensures) in
    on_err c.from_residual.result (record {
      buffer = c.in-Some.buffer;
      node = c.index-as_slice-i.result;
      found = found;
      reads = ap (λ (n : Node). n.op) c.index-as_slice-i.is ∙ c.in-Some.ensures.reader;
    })
