use Rattle.std.proofs.Common.{◌+◌, ◌∙◌, pos, length, map, replicate, arith, ap, sym}
use Rattle.std.specs.List.{range_with_len}
use Rattle.liq_base.specs.declared.memory.Kind.TheVariants.{Mono}
use Rattle.frame_core.specs.Bytes.{samples_from}
use Rattle.frame_core.specs.Sounds.{lefts_from, rights_from, sample_at}
use Rattle.frame_core.proofs.Bytes.{in_mono, in_stereo}
use Rattle.frame_core.proofs.Sides.{silent_rights, singles_left, singles_right}
use Rattle.frame_core.proofs.track.read_bytes.Goals as goal

pub returns-in-Mono-Mono-clause-left : goal.returns-in-Mono-Mono-clause-left
returns-in-Mono-Mono-clause-left c =
    let samples = samples_from c.args.bytes.now in
    c.read_singles.ensures ∙ singles_left samples c.args.kind c.args.at (length c.args.left.now)
    ∙ ap (λ k. lefts_from (record { kind = k; samples = samples }) c.args.kind c.args.at (length c.args.left.now)) (sym c.in-Mono-Mono.is-0)

pub returns-in-Mono-Mono-clause-right : goal.returns-in-Mono-Mono-clause-right
returns-in-Mono-Mono-clause-right c =
    c.fill.ensures.after (λ y e. e) ∙ ap (λ n. replicate n (pos 0)) c.requires.same
    ∙ silent_rights (record { kind = c.args.own; samples = samples_from c.args.bytes.now }) c.args.kind c.args.at (length c.args.left.now) c.in-Mono-Mono.is-1

pub returns-in-Mono-Stereo-clause-left : goal.returns-in-Mono-Stereo-clause-left
returns-in-Mono-Stereo-clause-left c =
    let samples = samples_from c.args.bytes.now in
    c.read_singles-in-Mono-Stereo.ensures ∙ singles_left samples c.args.kind c.args.at (length c.args.left.now)
    ∙ ap (λ k. lefts_from (record { kind = k; samples = samples }) c.args.kind c.args.at (length c.args.left.now)) (sym c.in-Mono-Stereo.is-0)

pub returns-in-Mono-Stereo-clause-right : goal.returns-in-Mono-Stereo-clause-right
returns-in-Mono-Stereo-clause-right c =
    let samples = samples_from c.args.bytes.now in
    c.read_singles-in-Mono-Stereo-2.ensures
    ∙ ap (λ n. map (sample_at samples) (range_with_len c.args.at n)) c.requires.same
    ∙ singles_right samples c.args.at (length c.args.left.now) ∙ ap (λ k. rights_from (record { kind = Mono; samples = samples }) k c.args.at (length c.args.left.now)) (sym c.in-Mono-Stereo.is-1)
    ∙ ap (λ k. rights_from (record { kind = k; samples = samples }) c.args.kind c.args.at (length c.args.left.now)) (sym c.in-Mono-Stereo.is-0)

pub returns-in-Stereo-Mono-clause-right : goal.returns-in-Stereo-Mono-clause-right
returns-in-Stereo-Mono-clause-right c =
    c.fill-in-Stereo-Mono.ensures.after (λ y e. e) ∙ ap (λ n. replicate n (pos 0)) c.requires.same
    ∙ silent_rights (record { kind = c.args.own; samples = samples_from c.args.bytes.now }) c.args.kind c.args.at (length c.args.left.now) c.in-Stereo-Mono.is-1

pub read_singles-requires : goal.read_singles-requires
read_singles-requires c = in_mono c.args.own (c.args.at + length c.args.left.now) (length c.args.bytes.now) c.in-Mono-Mono.is-0 c.requires.within

pub read_singles-requires-in-Mono-Stereo : goal.read_singles-requires-in-Mono-Stereo
read_singles-requires-in-Mono-Stereo c = in_mono c.args.own (c.args.at + length c.args.left.now) (length c.args.bytes.now) c.in-Mono-Stereo.is-0 c.requires.within

pub read_singles-requires-in-Mono-Stereo-2 : goal.read_singles-requires-in-Mono-Stereo-2
read_singles-requires-in-Mono-Stereo-2 c =
    let there = in_mono c.args.own (c.args.at + length c.args.left.now) (length c.args.bytes.now) c.in-Mono-Stereo.is-0 c.requires.within in
    omega (arith, there, c.requires.same)

pub read_halves-requires : goal.read_halves-requires
read_halves-requires c = in_stereo c.args.own (c.args.at + length c.args.left.now) (length c.args.bytes.now) c.in-Stereo-Mono.is-0 c.requires.within

pub read_pairs-requires-clause-within : goal.read_pairs-requires-clause-within
read_pairs-requires-clause-within c = in_stereo c.args.own (c.args.at + length c.args.left.now) (length c.args.bytes.now) c.in-Stereo-Stereo.is-0 c.requires.within
