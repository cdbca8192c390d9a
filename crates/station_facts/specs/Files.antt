-- What is told of the files that a plan plays.
use Rattle.std.specs.Prelude.{◌≡◌, ℕ, ◌+◌, Bool, List, [], ◌∷◌, ◌++◌, codes, nat_le, true, false, Result, Ok, Err}
use Rattle.std.specs.Str.{bytes_eq}
use Rattle.indexmap.specs.IndexSet.{insert_all}
use Rattle.json.specs.Token.{Token, string}
use Rattle.json.specs.Print.{print}
use Rattle.liq_base.specs.Shelves.{OnlyRead, ShelfTold}
use Rattle.liq_base.specs.declared.limits.TheConstants.{MAX_LIST_BYTES, MAX_SCRIPT_BYTES}
use Rattle.plan_core.specs.declared.node.Node.{Node}
use Rattle.plan_core.specs.declared.node.Op.{Op}
use Rattle.plan_core.specs.declared.node.Op.TheVariants.{Single, Playlist}
use Rattle.plan_core.specs.declared.plan.Plan.{Plan}
use Rattle.track_library.specs.declared.rules.Rules.{Rules}
use Rattle.track_library.specs.declared.fault.Unusable.{Unusable}
use Rattle.track_library.specs.declared.fault.Unusable.TheVariants.{NotThere, NotWav, TooLong}
use Rattle.sound_looks.specs.Looks.{counted_as, IsListLook, IsLooked}
use Rattle.sound_looks.specs.declared.look.Facts.{Facts}
use Rattle.sound_looks.specs.declared.look.Look.{Look}
use Rattle.sound_looks.specs.declared.look.Look.TheVariants.{Unread, Bad, Sound}
use Rattle.sound_looks.specs.declared.list.ListLook.{ListLook}
use Rattle.sound_looks.specs.declared.list.ListLook.TheVariants as list_look
use Rattle.wav_io.specs.declared.fault.WavFault.{WavFault}
use Rattle.wav_io.specs.declared.fault.WavFault.TheVariants.{NotRiff, NoFormat, BadFormat, NotPcm, NoData, Empty}
use Rattle.station_facts.specs.Members.{bits_of, kind_member, list_member, number_member, object, paired_member, text_member}
use Rattle.station_facts.specs.Plans.{IsInferred, plan_members}
use Rattle.station_facts.specs.declared.inferred.Inferred.{Inferred}

-- the file that a `single` plays; none of another source
abbrev pub single_in : Op → List (List ℕ)
single_in (Single name) = name ∷ []
single_in _ = []

-- the list that a playlist plays; none of another source
abbrev pub list_in : Op → List (List ℕ)
list_in (Playlist name again) = name ∷ []
list_in _ = []

-- the names that `names` finds in each item of a list, one after another
abbrev pub in_each : {A : Type 0} → (A → List (List ℕ)) → List A → List (List ℕ)
in_each names [] = []
in_each names (x ∷ xs) = names x ++ in_each names xs

-- the names of the files that these sources play by `single`, in their order
abbrev pub singles : List Node → List (List ℕ)
singles nodes = in_each (λ node. single_in node.op) nodes

-- the names of the lists that the playlists among these sources play, in their order
abbrev pub lists : List Node → List (List ℕ)
lists nodes = in_each (λ node. list_in node.op) nodes

-- the names of audio files in a list, by what a look at it found; none if it could not be read or is of no use
abbrev pub entries_in : ListLook → List (List ℕ)
entries_in list_look.Unread = []
entries_in (list_look.Bad fault) = []
entries_in (list_look.Names names skipped) = names.items

-- each of these names once, at the place where it stands first
abbrev pub once : List (List ℕ) → List (List ℕ)
once names = insert_all bytes_eq [] names

-- a plan plays no file, and has no list
abbrev pub HasNoFiles : Plan → Type 0
HasNoFiles plan = (lists plan.nodes ≡ []) × (singles plan.nodes ≡ [])

-- the lists of a plan, each once
abbrev pub lists_of : Plan → List (List ℕ)
lists_of plan = once (lists plan.nodes)

-- the audio files of a plan, each once: those of `single`, and those in its lists
abbrev pub sounds_of : Plan → List ListLook → List (List ℕ)
sounds_of plan looks = once (singles plan.nodes ++ in_each entries_in looks)

-- Under each of these names one thing was found, in one call of the shelf after another. `old` and `new` are what the
-- shelf told before and after. `IsFound name old new found` states it of one name; no call changed the files.
abbrev pub AreFound : {A : Type 0} → (List ℕ → (old new : ShelfTold) → A → Type 0) → List (List ℕ)
    → (old new : ShelfTold) → List A → Type 0
AreFound IsFound [] old new [] = new ≡ old
AreFound IsFound (name ∷ names) old new [] = ⊥
AreFound IsFound [] old new (found ∷ looks) = ⊥
AreFound IsFound (name ∷ names) old new (found ∷ looks) =
    (mid : ShelfTold) × IsFound name old mid found × OnlyRead old mid × AreFound IsFound names mid new looks

-- in calls of the shelf one after another, each playlist of these names was looked at, and `looks` is what was found;
-- `old` and `new` are what the shelf told before and after
abbrev pub AreListLooks : List (List ℕ) → (old new : ShelfTold) → List ListLook → Type 0
AreListLooks names old new looks = AreFound IsListLook names old new looks

-- In calls of the shelf one after another, each audio file of these names was looked at, and `looks` is what was found.
-- `rules` has the rate and the sizes that may be loaded; `old` and `new` are what the shelf told before and after.
abbrev pub AreLooks : Rules → List (List ℕ) → (old new : ShelfTold) → List Look → Type 0
AreLooks rules names old new looks = AreFound (IsLooked rules) names old new looks

-- the number that stands for a fault of a WAV file, the same as in the printed line E21
abbrev pub wav_number : WavFault → ℕ
wav_number NotRiff = 1
wav_number NoFormat = 2
wav_number BadFormat = 3
wav_number NotPcm = 4
wav_number NoData = 5
wav_number Empty = 6

-- the member `state`, which says in a word what becomes of a file
abbrev pub state_member : (word : List ℕ) → List Token
state_member word = text_member (codes "state") word

-- the members that say why a file or a list is of no use
abbrev pub unusable_members : Unusable → List Token
unusable_members NotThere = state_member (codes "missing")
unusable_members TooLong = state_member (codes "too large")
unusable_members (NotWav fault) = state_member (codes "not wav") ++ number_member (codes "fault") (wav_number fault)

-- the word for what becomes of a sound: it is used only if it counts for no more bytes than a sound may, which `fits`
-- says
abbrev pub use_word : (fits : Bool) → List ℕ
use_word true = codes "used"
use_word false = codes "too large"

-- the members of a sound: whether it is used, its format and its lengths
abbrev pub facts_members : Rules → Facts → List Token
facts_members rules facts = state_member (use_word (nat_le facts.bytes rules.file)) ++ (kind_member facts.kind
    ++ (number_member (codes "bits") (bits_of facts.wide) ++ (number_member (codes "rate") facts.rate
    ++ (number_member (codes "place") facts.place ++ (number_member (codes "own") facts.own
    ++ (number_member (codes "played") facts.played ++ number_member (codes "bytes") facts.bytes))))))

-- the members of an audio file, by what a look at it found
abbrev pub look_members : Rules → Look → List Token
look_members rules Unread = state_member (codes "unread")
look_members rules (Bad fault) = unusable_members fault
look_members rules (Sound facts) = facts_members rules facts

-- the JSON object of the audio file of this name, by what a look at it found
abbrev pub sound_object : Rules → (name : List ℕ) → Look → List Token
sound_object rules name found = object (text_member (codes "name") name ++ look_members rules found)

-- the members of a list, by what a look at it found
abbrev pub list_look_members : ListLook → List Token
list_look_members list_look.Unread = state_member (codes "unread")
list_look_members (list_look.Bad fault) = unusable_members fault
list_look_members (list_look.Names names skipped) = state_member (codes "read")
    ++ (list_member (codes "entries") (λ name. string name ∷ []) names.items ++ number_member (codes "skipped") skipped)

-- the JSON object of the list of this name, by what a look at it found
abbrev pub list_object : (name : List ℕ) → ListLook → List Token
list_object name found = object (text_member (codes "name") name ++ list_look_members found)

-- for how many bytes a sound counts: for none if it is not used
abbrev pub count_or_none : Result ℕ Unusable → ℕ
count_or_none (Ok bytes) = bytes
count_or_none (Err fault) = 0

-- for how many bytes all sounds count that are used, by what the looks at them found
abbrev pub all_bytes : Rules → List Look → ℕ
all_bytes rules [] = 0
all_bytes rules (found ∷ looks) = count_or_none (counted_as rules found) + all_bytes rules looks

-- the members for the limits of sizes: the most bytes of all sounds that are used, of one sound, of a list and of a
-- script
abbrev pub limit_members : Rules → List Token
limit_members rules = number_member (codes "most") rules.all ++ (number_member (codes "file_most") rules.file
    ++ (number_member (codes "list_most") MAX_LIST_BYTES ++ number_member (codes "script_most") MAX_SCRIPT_BYTES))

-- the whole JSON object of a plan and its files: the plan, what looks at its lists and audio files found, the bytes of
-- all sounds, and the limits
abbrev pub files_object : Rules → Plan → (ats : List ℕ) → Inferred → List ListLook → List Look → List Token
files_object rules plan ats inferred list_looks looks = object (plan_members plan ats inferred
    ++ (paired_member (codes "lists") list_object (lists_of plan) list_looks
    ++ (paired_member (codes "sounds") (sound_object rules) (sounds_of plan list_looks) looks
    ++ (number_member (codes "bytes") (all_bytes rules looks) ++ limit_members rules))))

-- `told` is the text of what is told of a plan, over a shelf, as JSON: each list as it was found, and then each audio
-- file. `ats` has the byte of the script at which the call of each source begins. `old` and `new` are what the shelf
-- told before and after.
pub record IsTold (rules : Rules) (plan : Plan) (ats : List ℕ) (old new : ShelfTold) (told : List ℕ) : Type 0 where
  pub inferred : Inferred
  pub is_inferred : IsInferred plan inferred
  pub list_looks : List ListLook
  pub behind_lists : ShelfTold
  pub lists : AreListLooks (lists_of plan) old behind_lists list_looks
  pub looks : List Look
  pub sounds : AreLooks rules (sounds_of plan list_looks) behind_lists new looks
  pub text : told ≡ print (files_object rules plan ats inferred list_looks looks)
