-- The files of a workload: audio files, a list of them, and a script that plays them.
use Rattle.std.specs.Prelude.{ℕ, zero, suc, ℤ, pos, ◌+◌, ◌%◌, ◌-ℤ◌, List, [], ◌∷◌, ◌++◌, codes, decimal, map, string_bytes, String, Vec}
use Rattle.std.specs.List.{range_with_len}
use Rattle.std.specs.declared.alloc.Global.{Global}
use Rattle.liq_base.specs.declared.memory.Kind.TheVariants.{Mono}
use Rattle.frame_core.specs.Bytes.{sample_bytes}
use Rattle.seed_words.specs.Words.{word}
use Rattle.wav_io.specs.Header.{header_bytes}

-- a file: its name and its bytes
abbrev pub File : Type 0
File = List ℕ × List ℕ

-- a file of the program as plain data: the bytes of its name, and its own bytes
abbrev pub file_of : String Global × Vec ℕ Global → File
file_of file = (string_bytes file.0, file.1.items)

-- the sample, from -10000 to 10000, that a word (a random number) stands for
abbrev pub sample_of : (word : ℕ) → ℤ
sample_of word = pos (word % 20001) -ℤ pos 10000

-- how many samples an audio file has, from 1 to 4000, by its first word: `begin` is that word's place among the
-- random numbers of the seed
abbrev pub length_at : (seed begin : ℕ) → ℕ
length_at seed begin = 1 + word seed begin % 4000

-- the place, among the random numbers of the seed, of the first word of audio file i: each file takes one word for
-- its length, and one for each sample
unfoldable pub begin_of : (seed i : ℕ) → ℕ
begin_of seed zero = 0
begin_of seed (suc i) = begin_of seed i + 1 + length_at seed (begin_of seed i)

-- the bytes of `count` samples, drawn from the random numbers of the seed from place `from` on
abbrev pub drawn_bytes : (seed from count : ℕ) → List ℕ
drawn_bytes seed from zero = []
drawn_bytes seed from (suc count) = drawn_bytes seed from count ++ sample_bytes (sample_of (word seed (from + count)))

-- sample k of audio file i: each sample takes a word, after the one for the length
abbrev pub sample_at : (seed i k : ℕ) → ℤ
sample_at seed i k = sample_of (word seed (begin_of seed i + 1 + k))

-- the samples of audio file i of the workload of this seed, in order
abbrev pub samples_of : (seed i : ℕ) → List ℤ
samples_of seed i = map (sample_at seed i) (range_with_len 0 (length_at seed (begin_of seed i)))

-- the name of audio file i, such as `t7.wav`
abbrev pub track_name : (i : ℕ) → List ℕ
track_name i = codes "t" ++ decimal i ++ codes ".wav"

-- the bytes of the audio file whose first word is at place `begin` of the seed's random numbers: a header, and drawn
-- samples; mono, 8000 samples a second
abbrev pub track_bytes : (seed begin : ℕ) → List ℕ
track_bytes seed begin = header_bytes Mono 8000 (length_at seed begin)
    ++ drawn_bytes seed (begin + 1) (length_at seed begin)

-- audio file i of the workload of this seed: its name and its bytes
abbrev pub track : (seed i : ℕ) → File
track seed i = (track_name i, track_bytes seed (begin_of seed i))

-- the first n audio files of the workload of this seed, each with its name
abbrev pub tracks : (seed n : ℕ) → List File
tracks seed zero = []
tracks seed (suc n) = tracks seed n ++ track seed n ∷ []

-- the text of the file that lists the names of the first n audio files, a line each
abbrev pub list_text : (n : ℕ) → List ℕ
list_text zero = []
list_text (suc n) = list_text n ++ track_name n ++ codes "\n"

-- the name in the script of the source that plays audio file i, such as `x7`
abbrev pub source_name : (i : ℕ) → List ℕ
source_name i = codes "x" ++ decimal i

-- the text of the statements that make a source of each of the first n audio files
abbrev pub players : (n : ℕ) → List ℕ
players zero = []
players (suc n) = players n ++ source_name n ++ codes " = amplify(0.5, single(\"" ++ track_name n ++ codes "\"))\n"

-- the text of the names of the first n + 1 sources, with a comma and a blank between two
abbrev pub source_names : (n : ℕ) → List ℕ
source_names zero = source_name 0
source_names (suc n) = source_names n ++ codes ", " ++ source_name (suc n)

-- the text of the statements that set the rate, 8000 samples a second, and the length of a tick
unfoldable pub settings : List ℕ
settings = codes "set(\"frame.audio.samplerate\", 8000)\nset(\"frame.duration\", 0.008)\n"

-- the text of the statements of the script's two outputs: a crossfade of the list, and the mix in a clock of its own
unfoldable pub outputs : List ℕ
outputs =
    codes "output.file(%wav, \"one.wav\", mksafe(crossfade(duration=0.05, playlist(\"all.m3u\"))))\noutput.file(%wav, \"two.wav\", clock(id=\"two\", mix))\n"

-- the text of the script that plays the first n + 1 audio files to two outputs
abbrev pub script_text : (n : ℕ) → List ℕ
script_text n = settings ++ players (suc n) ++ codes "mix = add([" ++ source_names n ++ codes "])\n" ++ outputs

-- the files of a workload of this seed and of n + 1 audio files, in their order
abbrev pub workload : (seed n : ℕ) → List File
workload seed n = tracks seed (suc n) ++ (codes "all.m3u", list_text (suc n)) ∷ (codes "make.liq", script_text n) ∷ []
