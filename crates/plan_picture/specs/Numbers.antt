-- Numbers with a point, and lengths in seconds.
use Rattle.std.specs.Prelude.{ℕ, zero, suc, ◌*◌, ◌/◌, ◌%◌, ◌&&◌, ℤ, pos, negsuc, List, [], ◌++◌, codes, decimal, nat_eq, if◌then◌else◌}

-- The digits of a decimal fraction behind its first one. The number has what is left, scaled so that its first digit
-- counts 100000; there are at most `places` digits, without zeros at the end.
abbrev pub further : (places millionths : ℕ) → List ℕ
further places zero = []
further zero (suc rest) = []
further (suc places) (suc rest) = decimal (suc rest / 100000) ++ further places (suc rest % 100000 * 10)

-- the digits of a decimal after its point, given in millionths: at least one, without further zeros at the end
abbrev pub fraction : (millionths : ℕ) → List ℕ
fraction millionths = decimal (millionths / 100000) ++ further 5 (millionths % 100000 * 10)

-- a number without its sign, as `2.0` or `1.25`: its whole units and its millionths
abbrev pub pointed : (whole millionths : ℕ) → List ℕ
pointed whole millionths = decimal whole ++ (codes "." ++ fraction millionths)

-- a number of millionths, with its sign and a point
abbrev pub signed : ℤ → List ℕ
signed (pos n) = pointed (n / 1000000) (n % 1000000)
signed (negsuc n) = codes "-" ++ pointed (suc n / 1000000) (suc n % 1000000)

-- the milliseconds, beyond whole seconds, that so many samples last at this rate, rounded down
abbrev pub thousandths : (samples rate : ℕ) → ℕ
thousandths samples rate = samples % rate * 1000 / rate

-- the word behind a number of samples: `sample` for one, and else `samples`
abbrev pub samples_word : ℕ → List ℕ
samples_word samples = if nat_eq samples 1 then codes " sample" else codes " samples"

-- how long so many samples last at this rate, as seconds with at most three digits behind the point, rounded down; if
-- they last less than a millisecond, their number
abbrev pub seconds : (samples rate : ℕ) → List ℕ
seconds samples rate =
    if nat_eq (samples / rate) 0 && nat_eq (thousandths samples rate) 0 then decimal samples ++ samples_word samples
    else pointed (samples / rate) (thousandths samples rate * 1000) ++ codes " s"
