-- What was read of a file, of which no more is known than how many bytes it has.
use Rattle.std.proofs.Common.{◌≡◌, ◌≤◌, ◌<◌, ℕ, ◌+◌, ◌-◌, List, ◌++◌, length, replicate, None, refl, ap, arith, length-append}
use Rattle.std.proofs.lemmas.List.{length-replicate}
use Rattle.liq_base.specs.Files.{FrontFound}
use Rattle.file_sinks.specs.Reading.{Extends}

-- a file of more bytes than were read
pub front_alone : (name : List ℕ) (front most size : ℕ) (before after : List ℕ) → Extends before after → length after ≡ length before + front → front < size → size ≤ most
    → FrontFound None name front most size before after
front_alone name front most size before after extends long less fits =
    let more = extends.more in
    let got : length after ≡ length (before ++ more) = ap length extends.after_is in
    let both = length-append before more in
    let rest : List ℕ = replicate (size - front) 0 in
    let whole = length-append more rest in
    let tail = length-replicate {A = ℕ} (size - front) 0 in
    record {
      bytes = more ++ rest;
      shown = more;
      appended = extends.after_is;
      is_front = record { rest = rest; whole_is = refl };
      enough = omega (arith, got, both, long);
      sized = omega (arith, got, both, long, whole, tail, less);
      fits = fits;
      is_file = λ files told. absurd (cc);
    }
