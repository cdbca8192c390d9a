use Rattle.std.proofs.Common.{◌≤◌, ◌+◌, ◌∙◌, length, ap, subst, sym}
use Rattle.frame_core.specs.Bytes.{samples_from}
use Rattle.frame_core.specs.Held.{are_inside, samples_held}
use Rattle.frame_core.specs.Sounds.{Sound, length_of, lefts_from, rights_from}
use Rattle.frame_core.proofs.Bytes.{blocks_there}
use Rattle.frame_core.proofs.track.Track.read.Goals as goal

pub read_numbers-requires-clause-within : goal.read_numbers-requires-clause-within
read_numbers-requires-clause-within c =
    let sound = ap (λ xs. record { kind = c.self.inside.kind; samples = xs }) (c.deref.ensures.value ∙ sym (ap samples_held c.in-Numbers.is)) ∙ c.self.view_is in
    subst (λ (s : Sound). c.args.at + length c.args.left.now ≤ length_of s) (sym sound) c.requires.within

pub body_of-requires : goal.body_of-requires
body_of-requires c = subst are_inside c.in-Bytes.is c.self.invariant.1

pub read_bytes-requires-clause-within : goal.read_bytes-requires-clause-within
read_bytes-requires-clause-within c =
    let sound = ap (λ xs. record { kind = c.self.inside.kind; samples = xs }) (ap samples_from c.body_of.ensures ∙ sym (ap samples_held c.in-Bytes.is)) ∙ c.self.view_is in
    blocks_there c.self.inside.kind c.body_of.result.now (c.args.at + length c.args.left.now)
    (subst (λ (s : Sound). c.args.at + length c.args.left.now ≤ length_of s) (sym sound) c.requires.within)

pub returns-in-Numbers-clause-left : goal.returns-in-Numbers-clause-left
returns-in-Numbers-clause-left c =
    c.read_numbers.ensures.left
    ∙ ap (λ xs. lefts_from (record { kind = c.self.inside.kind; samples = xs }) c.args.kind c.args.at (length c.args.left.now)) (c.deref.ensures.value ∙ sym (ap samples_held c.in-Numbers.is))
    ∙ ap (λ (s : Sound). lefts_from s c.args.kind c.args.at (length c.args.left.now)) c.self.view_is

pub returns-in-Numbers-clause-right : goal.returns-in-Numbers-clause-right
returns-in-Numbers-clause-right c =
    c.read_numbers.ensures.right
    ∙ ap (λ xs. rights_from (record { kind = c.self.inside.kind; samples = xs }) c.args.kind c.args.at (length c.args.left.now)) (c.deref.ensures.value ∙ sym (ap samples_held c.in-Numbers.is))
    ∙ ap (λ (s : Sound). rights_from s c.args.kind c.args.at (length c.args.left.now)) c.self.view_is

pub returns-in-Bytes-clause-left : goal.returns-in-Bytes-clause-left
returns-in-Bytes-clause-left c =
    c.read_bytes.ensures.left
    ∙ ap (λ xs. lefts_from (record { kind = c.self.inside.kind; samples = xs }) c.args.kind c.args.at (length c.args.left.now)) (ap samples_from c.body_of.ensures ∙ sym (ap samples_held c.in-Bytes.is))
    ∙ ap (λ (s : Sound). lefts_from s c.args.kind c.args.at (length c.args.left.now)) c.self.view_is

pub returns-in-Bytes-clause-right : goal.returns-in-Bytes-clause-right
returns-in-Bytes-clause-right c =
    c.read_bytes.ensures.right
    ∙ ap (λ xs. rights_from (record { kind = c.self.inside.kind; samples = xs }) c.args.kind c.args.at (length c.args.left.now)) (ap samples_from c.body_of.ensures ∙ sym (ap samples_held c.in-Bytes.is))
    ∙ ap (λ (s : Sound). rights_from s c.args.kind c.args.at (length c.args.left.now)) c.self.view_is
