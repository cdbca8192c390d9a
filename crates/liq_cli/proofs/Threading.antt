-- What takes threads.
use Rattle.std.proofs.Common.{◌≡◌, ℕ, List, sym, subst}
use Rattle.std.specs.Prelude.{None, Option, Some, option_map, ⊤}
use Rattle.station_jobs.specs.Read.{asked_of}
use Rattle.station_jobs.specs.Words.{Asked, Check, Render, Make, Replay, AsksToMake, HasNoForm, IsAsked, NeedsThreads, TakesThreads}
use Rattle.station_jobs.specs.declared.form.Form.{Form}
use Rattle.liq_cli.proofs.Asking.{AsksOne}

-- what was read takes threads where the words need them
pub read_takes : (words : List (List ℕ)) (form : Form) → ((asked : Asked) → IsAsked words asked → option_map asked_of (Some form) ≡ Some asked)
    → NeedsThreads words → TakesThreads (asked_of form)
read_takes words form only needs =
    let e : Some (asked_of form) ≡ Some needs.asked = only needs.asked needs.is_asked in
    let same : asked_of form ≡ needs.asked = (cc) in
    subst TakesThreads (sym same) needs.takes

-- where nothing was read of the words, they have no form
pub unread : (words : List (List ℕ)) → ((asked : Asked) → IsAsked words asked → ◌≡◌ {A = Option Asked} None (Some asked)) → HasNoForm words
unread words only asked is = let e : ◌≡◌ {A = Option Asked} None (Some asked) = only asked is in (cc)

-- what was read is a workload where the words ask for one
abbrev IsWorkload : Asked → Type 0
IsWorkload (Check file) = ⊥
IsWorkload (Render rendering window) = ⊥
IsWorkload (Make seed size) = ⊤
IsWorkload (Replay file start ticks trace) = ⊥

pub read_makes : (words : List (List ℕ)) (asked : Asked) → AsksOne words asked → AsksToMake words → IsWorkload asked
read_makes words asked asks makes = subst IsWorkload (asks.only (Make makes.seed makes.size) makes.is_asked) tt
