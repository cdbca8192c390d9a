-- The forms of the words of a call.
use Rattle.std.specs.Prelude.{◌≡◌, ◌≢◌, ◌≤◌, ◌<◌, ◌⊎◌, ℕ, ◌^◌, Bool, true, false, Option, Some, None, List, [], ◌∷◌, ◌++◌, map, codes, decimal, string_bytes, unwrap_or, if◌then◌else◌, ⊤, String}
use Rattle.std.specs.declared.alloc.Global.{Global}
use Rattle.fixed_text.specs.Texts.{IsStartText}

-- What is asked of a rendering: the file of the script, the second of the week at which it begins, and for how many
-- ticks. Then the name of the file that gets the trace of its buffers, if one is wanted, and whether cue files are
-- wanted.
pub record Rendering : Type 0 where
  pub file : List ℕ
  pub start : ℕ
  pub ticks : ℕ
  pub trace : Option (List ℕ)
  pub cues : Bool

-- Builds a rendering from its parts: the script, the second of the week of its start, the number of ticks, the name of
-- a trace if one is wanted, and whether cue files are.
abbrev pub rendering_by : (file : List ℕ) (start ticks : ℕ) (trace : Option (List ℕ)) (cues : Bool) → Rendering
rendering_by file start ticks trace cues =
    record { file = file; start = start; ticks = ticks; trace = trace; cues = cues }

-- What the words of a call ask for: to check a script; to render it, by threads in windows of ticks or, with no window,
-- on one thread; to render and sum up the workload of a seed and a size. Or to replay a script on one thread, from a
-- second of the week on, for so many ticks, as a trace tells.
pub data Asked : Type 0 where
  Check : (file : List ℕ) → Asked
  Render : (rendering : Rendering) (window : Option ℕ) → Asked
  Make : (seed size : ℕ) → Asked
  Replay : (file : List ℕ) (start ticks : ℕ) (trace : List ℕ) → Asked

-- The name under which the script of a made workload stands among its files: `make.liq`.
unfoldable pub made_script : List ℕ
made_script = codes "make.liq"

-- The rendering behind what a call asks for: a check renders no tick, and a workload 500 ticks. A check, a workload and
-- a replay write no trace and no cue files.
abbrev pub rendering_of : Asked → Rendering
rendering_of (Check file) = rendering_by file 0 0 None false
rendering_of (Render rendering window) = rendering
rendering_of (Make seed size) = rendering_by made_script 0 500 None false
rendering_of (Replay file start ticks trace) = rendering_by file start ticks None false

-- The words of a call, each as its bytes: the form of them that specifications read.
abbrev pub texts : List (String Global) → List (List ℕ)
texts words = map string_bytes words

-- The options of a rendering: whether it runs on one thread; how many ticks a window has, the second of the week at
-- which it begins, and the name of its trace, each where a word says it; and whether cue files are wanted.
pub record Options : Type 0 where
  pub one_thread : Bool
  pub window : Option ℕ
  pub start : Option ℕ
  pub trace : Option (List ℕ)
  pub cues : Bool

-- The options of a rendering before any word of them is read: nothing is said.
abbrev pub no_options : Options
no_options = record { one_thread = false; window = None; start = None; trace = None; cues = false }

-- The second of the week at which a rendering with these options begins: 0 if they do not say it.
abbrev pub start_in : Options → ℕ
start_in options = unwrap_or options.start 0

-- How many ticks a window of a rendering with these options has: 16 if they do not say it, and `None` on one thread,
-- which has no windows.
abbrev pub window_in : Options → Option ℕ
window_in options = if options.one_thread then None else Some (unwrap_or options.window 16)

-- The text behind `--window=` says how many ticks a window has: a decimal number from 1 to 1000000.
pub record IsWindowText (text : List ℕ) (window : ℕ) : Type 0 where
  pub text_is : text ≡ decimal window
  pub some : 0 < window
  pub few : window ≤ 10 ^ 6

-- The word is `--window=W`, where W says that a window has so many ticks.
pub record IsWindow (word : List ℕ) (window : ℕ) : Type 0 where
  pub text : List ℕ
  pub word_is : word ≡ codes "--window=" ++ text
  pub means : IsWindowText text window

-- The word is `--start=D:HH:MM:SS`, a day and a time, which is this second of the week.
pub record IsStart (word : List ℕ) (start : ℕ) : Type 0 where
  pub text : List ℕ
  pub word_is : word ≡ codes "--start=" ++ text
  pub means : IsStartText text start

-- The word is `--trace=NAME`, where NAME is the name of a file and not empty.
pub record IsTraceName (word name : List ℕ) : Type 0 where
  pub word_is : word ≡ codes "--trace=" ++ name
  pub some : name ≢ []

-- Reading the word `--one-thread` turns the options `before` into `after`; it was not among the words before.
pub record SaysOneThread (word : List ℕ) (before after : Options) : Type 0 where
  pub word_is : word ≡ codes "--one-thread"
  pub once : before.one_thread ≡ false
  pub after_is : after ≡ record before { one_thread = true }

-- Reading a word `--window=W` turns the options `before` into `after`, which have this window; no window was said
-- before.
pub record SaysWindow (word : List ℕ) (before after : Options) : Type 0 where
  pub window : ℕ
  pub word_is : IsWindow word window
  pub once : before.window ≡ None
  pub after_is : after ≡ record before { window = Some window }

-- Reading a word `--start=D:HH:MM:SS` turns the options `before` into `after`, which have this start; no start was said
-- before.
pub record SaysStart (word : List ℕ) (before after : Options) : Type 0 where
  pub start : ℕ
  pub word_is : IsStart word start
  pub once : before.start ≡ None
  pub after_is : after ≡ record before { start = Some start }

-- Reading a word `--trace=NAME` turns the options `before` into `after`, which have this trace; no trace was said
-- before.
pub record SaysTrace (word : List ℕ) (before after : Options) : Type 0 where
  pub name : List ℕ
  pub word_is : IsTraceName word name
  pub once : before.trace ≡ None
  pub after_is : after ≡ record before { trace = Some name }

-- Reading the word `--cues` turns the options `before` into `after`, which want cue files; it was not among the words
-- before.
pub record SaysCues (word : List ℕ) (before after : Options) : Type 0 where
  pub word_is : word ≡ codes "--cues"
  pub once : before.cues ≡ false
  pub after_is : after ≡ record before { cues = true }

-- Reading this word turns the options `before` into `after`: it is one of the five options of a rendering, and was not
-- said before.
abbrev pub IsOption : (word : List ℕ) (before after : Options) → Type 0
IsOption word before after =
    SaysOneThread word before after ⊎ SaysWindow word before after ⊎ SaysStart word before after
    ⊎ SaysTrace word before after ⊎ SaysCues word before after

-- Reading these words one by one turns the options `before` into `all`: each is an option, in any order, and none is
-- said twice.
abbrev pub AreOptions : (before : Options) → List (List ℕ) → (all : Options) → Type 0
AreOptions before [] all = all ≡ before
AreOptions before (word ∷ words) all = (after : Options) × IsOption word before after × AreOptions after words all

-- The options go together: with `--one-thread` neither a window nor a trace is said, as only threads have these.
abbrev pub AreApart : Options → Type 0
AreApart options = options.one_thread ≡ true → (options.window ≡ None) × (options.trace ≡ None)

-- The words behind `render` are a FILE, a `number` N and options (`words`) that go together. They ask for a rendering
-- of N ticks, at most 1000000000: this is `asked`.
pub record IsRendering (file number : List ℕ) (words : List (List ℕ)) (asked : Asked) : Type 0 where
  pub options : Options
  pub ticks : ℕ
  pub asked_is : asked ≡ Render (rendering_by file (start_in options) ticks options.trace options.cues)
      (window_in options)
  pub number_is : number ≡ decimal ticks
  pub few : ticks ≤ 10 ^ 9
  pub options_are : AreOptions no_options words options
  pub apart : AreApart options

-- The words behind the verb `render` are FILE, N and options, and what they ask for is `asked`.
abbrev pub IsRender : List (List ℕ) → Asked → Type 0
IsRender [] asked = ⊥
IsRender (file ∷ []) asked = ⊥
IsRender (file ∷ number ∷ options) asked = IsRendering file number options asked

-- The words behind the verb `check` are one FILE, and ask for a check of this script.
abbrev pub IsCheck : List (List ℕ) → Asked → Type 0
IsCheck [] asked = ⊥
IsCheck (file ∷ []) asked = asked ≡ Check file
IsCheck (file ∷ more ∷ words) asked = ⊥

-- The two words behind `make` are SEED, a number of 64 bits, and SIZE, from 1 to 100, and ask for this workload.
pub record IsWorkload (seed_word size_word : List ℕ) (asked : Asked) : Type 0 where
  pub seed : ℕ
  pub size : ℕ
  pub asked_is : asked ≡ Make seed size
  pub seed_is : seed_word ≡ decimal seed
  pub fits : seed < 2 ^ 64
  pub size_is : size_word ≡ decimal size
  pub some : 1 ≤ size
  pub few : size ≤ 100

-- The words behind the verb `make` are SEED and SIZE, and what they ask for is `asked`.
abbrev pub IsMake : List (List ℕ) → Asked → Type 0
IsMake [] asked = ⊥
IsMake (seed ∷ []) asked = ⊥
IsMake (seed ∷ size ∷ []) asked = IsWorkload seed size asked
IsMake (seed ∷ size ∷ more ∷ words) asked = ⊥

-- The options behind a replay are none, which means a start at second 0 of the week, or one `--start=` word with this
-- start.
abbrev pub IsOnlyStart : List (List ℕ) → (start : ℕ) → Type 0
IsOnlyStart [] start = start ≡ 0
IsOnlyStart (word ∷ []) start = IsStart word start
IsOnlyStart (word ∷ more ∷ words) start = ⊥

-- The words behind `replay` are a FILE, a `number` N, a TRACE and maybe a start (`words`). They ask for a replay of N
-- ticks, at most 1000000000: this is `asked`.
pub record IsReplaying (file number trace : List ℕ) (words : List (List ℕ)) (asked : Asked) : Type 0 where
  pub start : ℕ
  pub ticks : ℕ
  pub asked_is : asked ≡ Replay file start ticks trace
  pub number_is : number ≡ decimal ticks
  pub few : ticks ≤ 10 ^ 9
  pub start_is : IsOnlyStart words start

-- The words behind the verb `replay` are FILE, N, TRACE and maybe a start, and what they ask for is `asked`.
abbrev pub IsReplayAsked : List (List ℕ) → Asked → Type 0
IsReplayAsked [] asked = ⊥
IsReplayAsked (file ∷ []) asked = ⊥
IsReplayAsked (file ∷ number ∷ []) asked = ⊥
IsReplayAsked (file ∷ number ∷ trace ∷ words) asked = IsReplaying file number trace words asked

-- The words of a call have one of the four forms (`check`, `render`, `make` or `replay`), and what they ask for is
-- `asked`.
abbrev pub IsAsked : List (List ℕ) → Asked → Type 0
IsAsked [] asked = ⊥
IsAsked (verb ∷ words) asked =
    (verb ≡ codes "check") × IsCheck words asked ⊎ (verb ≡ codes "render") × IsRender words asked
    ⊎ (verb ≡ codes "make") × IsMake words asked
    ⊎ (verb ≡ codes "replay") × IsReplayAsked words asked

-- The words of a call have none of the forms of the usage line: there is nothing that they ask for.
abbrev pub HasNoForm : List (List ℕ) → Type 0
HasNoForm words = (asked : Asked) → IsAsked words asked → ⊥

-- What a call asks for is run by threads: a rendering in windows of ticks, or a workload. A check, a rendering on one
-- thread and a replay take none.
abbrev pub TakesThreads : Asked → Type 0
TakesThreads (Check file) = ⊥
TakesThreads (Render rendering None) = ⊥
TakesThreads (Render rendering (Some window)) = ⊤
TakesThreads (Make seed size) = ⊤
TakesThreads (Replay file start ticks trace) = ⊥

-- The words of a call have a form, and what they ask for is run by threads, so that the program has to start some.
pub record NeedsThreads (words : List (List ℕ)) : Type 0 where
  pub asked : Asked
  pub is_asked : IsAsked words asked
  pub takes : TakesThreads asked

-- The words of a call ask for a workload, with a seed and a size.
pub record AsksToMake (words : List (List ℕ)) : Type 0 where
  pub seed : ℕ
  pub size : ℕ
  pub is_asked : IsAsked words (Make seed size)
