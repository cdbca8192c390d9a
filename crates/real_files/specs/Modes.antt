-- Who may do what with a file that takes the place of an old one: the three bits of its group and of all others, by the
-- old file's mode.
use Rattle.std.specs.Prelude.{ℕ, ◌/◌, ◌%◌, Bool, true, false}
use Rattle.std.specs.Int.Bits.{bit_and}

-- The three bits that say what the group may do with a file that replaces an old one with the mode `old`. With true the
-- new file has the old one's group, whose bits stay. Else they are only what that group and all others both had.
abbrev pub group_access : Bool → ℕ → ℕ
group_access true old = old / 8 % 8
group_access false old = bit_and (old / 8 % 8) (old % 8)

-- The three bits that say what all others may do with a file that replaces an old one with the mode `old`. With true
-- the new file has the old one's group, and they stay. Else they are only what the old group and all others both had.
abbrev pub others_access : Bool → ℕ → ℕ
others_access true old = old % 8
others_access false old = bit_and (old / 8 % 8) (old % 8)
