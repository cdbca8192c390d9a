use Rattle.std.proofs.lemmas.Result.{err_from_is_err_and}
use Rattle.std.proofs.Common.{rules, ◌≡◌, ◌≢◌, ◌+◌, ◌≤◌, arith, subst, sym, ap, ◌∙◌, Some}
use Rattle.std.specs.Prelude.{Ok, Err}
use Rattle.wav_io.specs.Chunks.{chunks_of}
use Rattle.wav_io.specs.Fronts.{blocks_size, IsToldBy}
use Rattle.wav_io.specs.Reading.{body_of, format_chunk, format_in}
use Rattle.wav_io.proofs.Fronts.{told_no_format, told_bad_format, told_empty, told_head}
use Rattle.wav_io.proofs.head.head_before.Goals as goal

pub returns-in_default : goal.returns-in_default
returns-in_default c = told_no_format c.args.front.now c.args.size c.args.data.now c.requires.riff c.requires.first (search rules)

pub returns-in_err-format : goal.returns-in_err-format
returns-in_err-format c =
    let p = err_from_is_err_and c.from_residual.result c.from_residual.ensures.1 in
    let is : format_chunk (chunks_of c.args.front.now) ≡ Some c.in-Some.chunk = search rules in
    let bad : format_in (body_of c.args.front.now c.in-Some.chunk) c.in-Some.chunk.size ≡ Err c.in_err-format.field-0.0 = search rules in
    let told = told_bad_format c.args.front.now c.args.size c.args.data.now c.requires.riff c.requires.first c.in-Some.chunk is c.in_err-format.field-0.0 bad in
    subst (IsToldBy c.args.front.now c.args.size) (sym (p.1 ∙ ap Err p.2)) told

pub returns-then-blocks-eq0 : goal.returns-then-blocks-eq0
returns-then-blocks-eq0 c =
    let format = c.in_ok-format.format in
    let is : format_chunk (chunks_of c.args.front.now) ≡ Some c.in-Some.chunk = search rules in
    let good : format_in (body_of c.args.front.now c.in-Some.chunk) c.in-Some.chunk.size ≡ Ok format = search rules in
    let none : blocks_size format.wide format.kind c.args.size c.args.data.now ≡ 0 = search rules in
    told_empty c.args.front.now c.args.size c.args.data.now c.requires.riff c.requires.first c.in-Some.chunk is format good none

pub returns : goal.returns
returns c =
    let format = c.in_ok-format.format in
    let is : format_chunk (chunks_of c.args.front.now) ≡ Some c.in-Some.chunk = search rules in
    let good : format_in (body_of c.args.front.now c.in-Some.chunk) c.in-Some.chunk.size ≡ Ok format = search rules in
    let size = c.held_blocks-blocks.ensures in
    let some : blocks_size format.wide format.kind c.args.size c.args.data.now ≢ 0 = λ none. c.if-blocks-eq0.false (size ∙ none) in
    let there : c.args.data.now.place + 8 ≤ c.args.size = omega (arith, c.requires.there, c.requires.longer) in
    rw size (told_head c.args.front.now c.args.size c.args.data.now c.requires.riff c.requires.first c.in-Some.chunk is format good some there)
