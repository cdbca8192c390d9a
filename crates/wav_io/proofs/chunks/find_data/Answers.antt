use Rattle.std.proofs.Common.{rules, arith, ◌≡◌, ◌<◌, ◌+◌, ◌∙◌, length, sym, ap, codes, true, false}
use Rattle.std.specs.Str.{bytes_eq}
use Rattle.wav_io.specs.declared.chunks.Chunk.{Chunk}
use Rattle.wav_io.proofs.Steps.{first_here, first_later, first_never}
use Rattle.wav_io.proofs.chunks.find_data.Goals as goal

pub returns-then-eq-clause-first : goal.returns-then-eq-clause-first
returns-then-eq-clause-first c =
    let named : bytes_eq c.in-Some.chunk.name (codes "data") ≡ true = search rules in
    sym (c.loop-chunk.invariant.1 ∙ first_here _ _ _ c.in-Some.ensures.0 c.in-Some.ensures.1 (codes "data") named)

pub loop-chunk-preserved : goal.loop-chunk-preserved
loop-chunk-preserved c =
    let other : bytes_eq c.in-Some.chunk.name (codes "data") ≡ false = search rules in
    let long = c.in-Some.ensures.0 in
    let is = c.in-Some.ensures.1 in
    let later = first_later _ _ _ long is (codes "data") other in
    let placed : c.in-Some.chunk.place ≡ c.loop-chunk.place = ap (λ (chunk : Chunk). chunk.place) is in
    (omega arith, rw c.next_place-place.ensures.behind (c.loop-chunk.invariant.1 ∙ later))

pub returns-clause-first : goal.returns-clause-first
returns-clause-first c =
    let short : length c.args.bytes.now < c.loop-chunk.place + 8 = omega arith in
    sym (c.loop-chunk.invariant.1 ∙ first_never _ _ (codes "data") short)
