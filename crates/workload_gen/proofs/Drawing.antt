-- One word more of a seed.
use Rattle.std.proofs.Common.{◌≡◌, ◌∙◌, ◌+◌, ◌%◌, ◌++◌, ℕ, suc, Bool, true, false, Some, None, List, if◌then◌else◌, ap, append_assoc, arith, refl, sym}
use Rattle.liq_base.specs.declared.memory.Kind.TheVariants.{Mono}
use Rattle.wav_io.specs.Header.{header_bytes, header_of}
use Rattle.frame_core.specs.Bytes.{sample_bytes}
use Rattle.seed_words.specs.Words.{Unread, word, words_from}
use Rattle.workload_gen.specs.Files.{begin_of, drawn_bytes, length_at, sample_of, track_bytes}

-- what is left from word n on has word n in front
pub next_is : (seed n : ℕ) (words : Unread) → words ≡ words_from seed n → words.next ≡ word seed n
next_is seed n words at = ap (λ w. w.next) at

pub further : (seed from count : ℕ) (words : Unread) → words ≡ words_from seed (suc (from + count)) → words ≡ words_from seed (from + (count + 1))
further seed from count words is = let e : suc (from + count) ≡ from + (count + 1) = omega arith in is ∙ ap (words_from seed) e

one_more : (seed from count n : ℕ) → n ≡ suc count → drawn_bytes seed from n ≡ drawn_bytes seed from count ++ sample_bytes (sample_of (word seed (from + count)))
one_more seed from count n is = ap (drawn_bytes seed from) is

pub drawn_more : (seed from count : ℕ) (before bytes piece after : List ℕ)
    → bytes ≡ before ++ drawn_bytes seed from count → after ≡ bytes ++ piece → piece ≡ sample_bytes (sample_of (word seed (from + count)))
    → after ≡ before ++ drawn_bytes seed from (count + 1)
drawn_more seed from count before bytes piece after is more what =
    let one : count + 1 ≡ suc count = omega arith in
    more ∙ ap (λ b. b ++ piece) is ∙ append_assoc before (drawn_bytes seed from count) piece ∙ ap (λ p. before ++ (drawn_bytes seed from count ++ p)) what
    ∙ ap (λ b. before ++ b) (sym (one_more seed from count (count + 1) one))

pub next_begin : (seed i : ℕ) → begin_of seed (suc i) ≡ begin_of seed i + 1 + length_at seed (begin_of seed i)
unfolding begin_of
next_begin seed i = refl

pub first_begin : (seed : ℕ) → begin_of seed 0 ≡ 0
unfolding begin_of
first_begin seed = refl

-- how many words a track takes
pub after_track : (seed begin value : ℕ) → value ≡ word seed begin → suc begin + (1 + value % 4000) ≡ begin + 1 + length_at seed begin
after_track seed begin value is =
    let e : suc begin + (1 + value % 4000) ≡ begin + 1 + (1 + value % 4000) = omega arith in
    e ∙ ap (λ w. begin + 1 + (1 + w % 4000)) is

if_some : (test : Bool) (bytes head : List ℕ) → (if test then Some bytes else None) ≡ Some head → head ≡ bytes
if_some true bytes head is = sym (cc is)
if_some false bytes head is = absurd cc

-- a header and the samples behind it are a track
pub track_is : (seed begin value : ℕ) (head bytes after : List ℕ) → value ≡ word seed begin → header_of Mono 8000 (1 + value % 4000) ≡ Some head
    → bytes ≡ head → after ≡ bytes ++ drawn_bytes seed (suc begin) (1 + value % 4000) → after ≡ track_bytes seed begin
track_is seed begin value head bytes after is header front more =
    let e : suc begin ≡ begin + 1 = omega arith in
    let headed = if_some _ (header_bytes Mono 8000 (1 + value % 4000)) head header in
    more ∙ ap (λ b. b ++ drawn_bytes seed (suc begin) (1 + value % 4000)) (front ∙ headed)
    ∙ ap (λ b. header_bytes Mono 8000 (1 + value % 4000) ++ drawn_bytes seed b (1 + value % 4000)) e
    ∙ ap (λ w. header_bytes Mono 8000 (1 + w % 4000) ++ drawn_bytes seed (begin + 1) (1 + w % 4000)) is
