-- The text of a start.
use Rattle.std.proofs.Common.{◌≡◌, ℕ, ◌+◌, ◌-◌, ◌*◌, ◌/◌, ◌%◌, ◌≤◌, List, [], ◌∷◌, length, get_or, arith}
use Rattle.fixed_text.specs.Texts.{IsStartText}

-- ten bytes, each read, are the text of a start
pub start_found : (text : List ℕ) (day hour minute second : ℕ) → length text ≡ 10 → 49 ≤ get_or text 0 0 → get_or text 0 0 ≤ 55 → day ≡ get_or text 0 0 - 49 → get_or text 1 0 ≡ 58 → hour ≤ 23 → get_or text 2 0 ≡ 48 + hour / 10 → get_or text 3 0 ≡ 48 + hour % 10 → get_or text 4 0 ≡ 58 → minute ≤ 59 → get_or text 5 0 ≡ 48 + minute / 10 → get_or text 6 0 ≡ 48 + minute % 10 → get_or text 7 0 ≡ 58 → second ≤ 59 → get_or text 8 0 ≡ 48 + second / 10 → get_or text 9 0 ≡ 48 + second % 10 → IsStartText text (day * 86400 + hour * 3600 + minute * 60 + second)
start_found (d ∷ c ∷ h ∷ hh ∷ cc' ∷ m ∷ mm ∷ ccc ∷ s ∷ ss ∷ []) day hour minute second ten low high is c1 hours h1 h2 c2 minutes m1 m2 c3 seconds s1 s2 =
    let first : d ≡ 48 + (day + 1) = omega arith in
    record {
      day = day + 1;
      hour = hour;
      minute = minute;
      second = second;
      days = (omega arith, omega arith);
      hours = hours;
      minutes = minutes;
      seconds = seconds;
      spelled = cc;
      means = omega arith;
    }
start_found text day hour minute second ten low high is c1 hours h1 h2 c2 minutes m1 m2 c3 seconds s1 s2 = absurd (omega arith)
