use Rattle.std.proofs.Common.{◌+◌, ◌-◌, ◌∙◌, pos, length, replicate, arith, ap, refl}
use Rattle.frame_core.proofs.Sides.{mono_lefts, mono_rights, silent_rights}
use Rattle.frame_core.proofs.track.read_numbers.Goals as goal

pub returns-in-Mono-Mono-clause-left : goal.returns-in-Mono-Mono-clause-left
returns-in-Mono-Mono-clause-left c =
    c.copy_from_slice.ensures.after
    ∙ mono_lefts (record { kind = c.args.own; samples = c.args.samples.now }) c.args.kind c.args.at (length c.args.left.now) (c.args.at + length c.args.left.now - c.args.at) c.args.samples.now (omega arith) refl c.in-Mono-Mono.is-0 c.requires.within

pub returns-in-Mono-Mono-clause-right : goal.returns-in-Mono-Mono-clause-right
returns-in-Mono-Mono-clause-right c =
    c.fill.ensures.after (λ y e. e) ∙ ap (λ n. replicate n (pos 0)) c.requires.same
    ∙ silent_rights (record { kind = c.args.own; samples = c.args.samples.now }) c.args.kind c.args.at (length c.args.left.now) c.in-Mono-Mono.is-1

pub returns-in-Mono-Stereo-clause-left : goal.returns-in-Mono-Stereo-clause-left
returns-in-Mono-Stereo-clause-left c =
    c.copy_from_slice-in-Mono-Stereo.ensures.after
    ∙ mono_lefts (record { kind = c.args.own; samples = c.args.samples.now }) c.args.kind c.args.at (length c.args.left.now) (c.args.at + length c.args.left.now - c.args.at) c.args.samples.now (omega arith) refl c.in-Mono-Stereo.is-0 c.requires.within

pub returns-in-Mono-Stereo-clause-right : goal.returns-in-Mono-Stereo-clause-right
returns-in-Mono-Stereo-clause-right c =
    c.copy_from_slice-in-Mono-Stereo-2.ensures.after
    ∙ mono_rights (record { kind = c.args.own; samples = c.args.samples.now }) c.args.kind c.args.at (length c.args.left.now) (c.args.at + length c.args.left.now - c.args.at) c.args.samples.now (omega arith) refl c.in-Mono-Stereo.is-0 c.in-Mono-Stereo.is-1 c.requires.within

pub returns-in-Stereo-Mono-clause-right : goal.returns-in-Stereo-Mono-clause-right
returns-in-Stereo-Mono-clause-right c =
    c.fill-in-Stereo-Mono.ensures.after (λ y e. e) ∙ ap (λ n. replicate n (pos 0)) c.requires.same
    ∙ silent_rights (record { kind = c.args.own; samples = c.args.samples.now }) c.args.kind c.args.at (length c.args.left.now) c.in-Stereo-Mono.is-1
