-- The lines of the holes of a switch, and of how long it is silent.
use Rattle.std.specs.Prelude.{ℕ, ◌/◌, ◌%◌, Bool, List, [], ◌++◌, codes, decimal, nat_eq, if◌then◌else◌}
use Rattle.week_lines.specs.declared.above.Instead.{Instead}
use Rattle.week_lines.specs.declared.above.Instead.TheVariants.{Silence, Next, Unknown}
use Rattle.week_plan.specs.declared.span.Span.{Span}
use Rattle.week_plan.specs.Listing.{when_text}
use Rattle.week_plan.specs.Texts.{two_digits}

-- how a line about a switch begins: the word `switch`, its number and a colon
abbrev pub switch_text : (number : ℕ) → List ℕ
switch_text number = (codes "switch " ++ decimal number) ++ codes ": "

-- how a line tells what plays in the place of a switch while no case of it holds
abbrev pub instead_text : Instead → List ℕ
instead_text Silence = codes ": silence"
instead_text Next = codes ": the fallback plays its next source"
instead_text Unknown = codes ": it plays nothing"

-- the words for a track-sensitive switch: that the running track ends first; nothing for another switch
abbrev pub track_text : (sensitive : Bool) → List ℕ
track_text sensitive = if sensitive then codes ", once the track has ended" else []

-- the words for a switch below a crossfade: that its times are those of the crossfade's clock, not of the week;
-- nothing for another switch
abbrev pub below_text : (below : Bool) → List ℕ
below_text below = if below then codes ", by the clock of the crossfade above" else []

-- The line of switch `number` about its holes, the spans of the week in which no case holds, and what plays `instead`.
-- `daily` tells the spans once for all days, `sensitive` says that the switch is track-sensitive, and `below` that it
-- lies below a crossfade.
abbrev pub hole_line : (number : ℕ) → List Span → (daily : Bool) → Instead → (sensitive below : Bool) → List ℕ
hole_line number spans daily instead sensitive below =
    switch_text number ++ (codes "nothing holds " ++ (when_text daily spans ++ (instead_text instead
    ++ (track_text sensitive ++ (below_text below ++ codes "\n")))))

-- The minutes or the seconds of a duration, behind its hours: a colon and the two digits of n. They are left out if
-- `rest`, the seconds that are still to be told, is 0.
abbrev pub part_text : (rest n : ℕ) → List ℕ
part_text rest n = if nat_eq rest 0 then [] else codes ":" ++ two_digits n

-- the line for this many seconds of silence in a week, as hours, with minutes and seconds where they are not 0
abbrev pub sum_text : (seconds : ℕ) → List ℕ
sum_text seconds = (codes "in all up to " ++ decimal (seconds / 3600))
    ++ (part_text (seconds % 3600) (seconds / 60 % 60)
    ++ (part_text (seconds % 60) (seconds % 60) ++ codes " hours of silence a week\n"))

-- the line that tells for how many seconds of the week there is silence in all; nothing if there is none
abbrev pub sum_line : (seconds : ℕ) → List ℕ
sum_line seconds = if nat_eq seconds 0 then [] else sum_text seconds
