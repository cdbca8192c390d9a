use Rattle.std.proofs.Common.{rules, ◌≡◌, ◌≤◌, ◌+◌, ◌*◌, ◌/◌, ◌∙◌, length, ap}
use Rattle.std.specs.Prelude.{Ok}
use Rattle.wav_io.specs.Header.{block_align}
use Rattle.wav_io.specs.Reading.{body_of, read_of, whole_blocks}
use Rattle.wav_io.proofs.Places.{placed}
use Rattle.wav_io.proofs.Heads.{is_file}
use Rattle.wav_io.proofs.read.read_wav.Goals as goal

pub returns-clause-rate : goal.returns-clause-rate
returns-clause-rate c =
    let read : read_of c.args.bytes.now ≡ Ok (record { kind = c.in_ok-format.format.kind; rate = c.in_ok-format.format.rate; wide = c.in_ok-format.format.wide; body = c.cut_blocks-body.result.now }) = search rules in
    (is_file c.args.bytes.now (record { kind = c.in_ok-format.format.kind; rate = c.in_ok-format.format.rate; wide = c.in_ok-format.format.wide; body = c.cut_blocks-body.result.now }) read).rate

pub returns-clause-heads : goal.returns-clause-heads
returns-clause-heads c =
    let read : read_of c.args.bytes.now ≡ Ok (record { kind = c.in_ok-format.format.kind; rate = c.in_ok-format.format.rate; wide = c.in_ok-format.format.wide; body = c.cut_blocks-body.result.now }) = search rules in
    (is_file c.args.bytes.now (record { kind = c.in_ok-format.format.kind; rate = c.in_ok-format.format.rate; wide = c.in_ok-format.format.wide; body = c.cut_blocks-body.result.now }) read).heads

pub returns-clause-place : goal.returns-clause-place
returns-clause-place c =
    let format = c.in_ok-format.format in
    let size = block_align format.wide format.kind in
    let chunk = c.in_ok-data.«data» in
    let whole = body_of c.args.bytes.now chunk in
    let there : chunk.place + 8 ≤ length c.args.bytes.now = search rules in
    placed c.cut_blocks-body.result.now (length whole / size * size) chunk.size (chunk.place + 8) c.args.bytes.now there
    (c.cut_blocks-body.ensures.cut ∙ ap (whole_blocks format.wide format.kind) c.chunk_body-2.ensures)
