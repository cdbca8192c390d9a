use Rattle.std.proofs.Common.{◌≡◌, ◌∙◌, ◌++◌, suc, ap, sym}
use Rattle.liq_base.specs.declared.memory.Kind.TheVariants.{Mono}
use Rattle.seed_words.specs.Words.{word, words_from}
use Rattle.wav_io.specs.Header.{header_of}
use Rattle.workload_gen.proofs.Drawing.{after_track, next_is, track_is}
use Rattle.workload_gen.proofs.track.track.Goals as goal

pub returns-clause-words : goal.returns-clause-words
returns-clause-words c = λ seed begin at.
    let first : c.next_word.result ≡ word seed begin = c.next_word.ensures.word ∙ next_is seed begin c.args.words.now at in
    c.in_ok-draw.ensures.words seed (suc begin) (c.next_word.ensures.words seed begin at) ∙ ap (words_from seed) (after_track seed begin c.next_word.result first)

pub returns-clause-bytes : goal.returns-clause-bytes
returns-clause-bytes c = λ seed begin at.
    let first : c.next_word.result ≡ word seed begin = c.next_word.ensures.word ∙ next_is seed begin c.args.words.now at in
    track_is seed begin c.next_word.result c.in-Some.head _ _ first (ap (header_of Mono 8000) (sym c.from.ensures) ∙ sym c.header.ensures.header ∙ c.in-Some.is)
    (c.in_ok-extend_from_slice.ensures.items ∙ ap (λ b. b ++ c.in-Some.head) c.in_ok-bytes.ensures.items) (c.in_ok-draw.ensures.bytes seed (suc begin) (c.next_word.ensures.words seed begin at))
