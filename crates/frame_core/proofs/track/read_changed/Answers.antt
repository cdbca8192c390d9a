use Rattle.std.proofs.Common.{◌≡◌, ◌∙◌, pos, length, replicate, ap}
use Rattle.std.specs.Simd.Lanes.{zip2}
use Rattle.frame_core.proofs.Halves.{half}
use Rattle.frame_core.proofs.OtherRates.{half_left, length_side}
use Rattle.frame_core.proofs.Sides.{silent_rights}
use Rattle.frame_core.proofs.track.read_changed.Goals as goal

pub returns-in-Mono-Mono-clause-right : goal.returns-in-Mono-Mono-clause-right
returns-in-Mono-Mono-clause-right c =
    c.fill.ensures.after (λ y e. e) ∙ ap (λ n. replicate n (pos 0)) c.requires.same
    ∙ silent_rights (record { kind = c.args.own; samples = c.args.changed.now.samples }) c.args.kind c.args.at (length c.args.left.now) c.in-Mono-Mono.is-1

pub returns-in-Stereo-Mono-clause-left : goal.returns-in-Stereo-Mono-clause-left
returns-in-Stereo-Mono-clause-left c =
    c.halve_sides.ensures
    ∙ (λ i. zip2 half (c.read-in-Stereo-Mono.ensures i) (c.read-in-Stereo-Mono-2.ensures i))
    ∙ half_left c.args.changed.now.kind c.args.own c.args.kind c.args.changed.now.samples c.args.at (length c.args.left.now) (length c.args.right.now)
    c.requires.own c.requires.same c.in-Stereo-Mono.is-0 c.in-Stereo-Mono.is-1

pub returns-in-Stereo-Mono-clause-right : goal.returns-in-Stereo-Mono-clause-right
returns-in-Stereo-Mono-clause-right c =
    c.fill-in-Stereo-Mono.ensures.after (λ y e. e)
    ∙ ap (λ l. replicate (length l) (pos 0)) c.read-in-Stereo-Mono-2.ensures
    ∙ ap (λ n. replicate n (pos 0)) (length_side c.args.changed.now.kind c.args.changed.now.samples 1 c.args.at (length c.args.right.now) ∙ c.requires.same)
    ∙ silent_rights (record { kind = c.args.own; samples = c.args.changed.now.samples }) c.args.kind c.args.at (length c.args.left.now) c.in-Stereo-Mono.is-1
