-- What a sink tells, after it took a piece.
use Rattle.std.proofs.Common.{◌≡◌, ◌<◌, ◌≤◌, ◌+◌, ◌-◌, ◌^◌, ◌∙◌, ◌++◌, ℕ, zero, suc, Bool, true, false, List, [], ◌∷◌, length, length-append, append-nil, arith, refl, ap, sym, subst, inl, inr, ◌⊎◌}
use Rattle.std.specs.Prelude.{Option, Some, None, IsSome, is_some, min}
use Rattle.std.specs.Fn.{iterate}
use Rattle.std.specs.Option.{ForSome}
use Rattle.liq_base.specs.Counts.{one_more_append}
use Rattle.liq_base.specs.Created.{is_told}
use Rattle.liq_base.specs.Pieces.{HasRoom, IsPrefix, SinkTold, TookPiece, grown, narrowed}
use Rattle.liq_base.specs.Shelves.{IsFresh, ShelfTold}
use Rattle.stations.specs.Outputs.{OutputPart}
use Rattle.station_render.specs.Listed.{AreTold, HasHeader, IsMeasured, TellsSinks}
use Rattle.station_render.specs.OutputSinks.{MayHaveTaken, owed_by, output_told, size_by, size_of, told_name, told_number}
use Rattle.station_render.specs.Sinks.{HoldsFront}
use Rattle.station_render.specs.declared.output_sink.OutputSink.{OutputSink}

-- the size stays
size_kept : (taken : List ℕ) (held : Option (List ℕ)) (left : Option ℕ) → HasRoom left (length taken) → size_by (grown taken held) (narrowed (length taken) left) ≡ size_by held left
size_kept taken None left fits = refl
size_kept taken (Some held) None fits = refl
size_kept taken (Some held) (Some left) fits =
    let long = length-append held taken in
    let low : length taken ≤ left = fits left refl in
    let same : length (held ++ taken) + (left - length taken) ≡ length held + left = omega (arith, long, low) in
    ap Some same

pub took_size : (taken : List ℕ) (old new : SinkTold) → HasRoom old.room (length taken) → TookPiece taken old new → size_of new ≡ size_of old
took_size taken old new fits took = (λ i. size_by (took.held_grew i) (took.room_fell i)) ∙ size_kept taken old.held old.room fits

-- the size is told where it was
size_any : (taken : List ℕ) (held : Option (List ℕ)) (left : Option ℕ) → is_some (size_by (grown taken held) (narrowed (length taken) left)) ≡ is_some (size_by held left)
size_any taken None left = refl
size_any taken (Some held) None = refl
size_any taken (Some held) (Some left) = refl

pub took_told : (taken : List ℕ) (old new : SinkTold) → TookPiece taken old new → (least : ℕ) → AreTold least old → AreTold 1 new
took_told taken old new took least tells = record {
  size_told = (λ i. is_some (size_by (took.held_grew i) (took.room_fell i))) ∙ size_any taken old.held old.room ∙ tells.size_told;
  pieces = min (tells.pieces + 1) (2 ^ 64 - 1);
  pieces_are = took.once ∙ ap one_more_append tells.pieces_are;
  enough = omega arith;
}

pub moved_told : (old new : SinkTold) → MayHaveTaken old new → AreTold 1 old → AreTold 1 new
moved_told old new (inl same) tells = subst (AreTold 1) (sym same) tells
moved_told old new (inr took) tells = took_told took.0 old new took.1 1 tells

-- a header stays
grown_long : (taken : List ℕ) (before : Option (List ℕ)) (held : List ℕ) → grown taken before ≡ Some held → ForSome before (λ h. 44 ≤ length h) → 44 ≤ length held
grown_long taken None held at long = absurd (cc)
grown_long taken (Some before) held at long =
    let same : Some (before ++ taken) ≡ Some held = at in
    let is : before ++ taken ≡ held = cc in
    let sums = length-append before taken in
    let whole = ap length is in
    let low : 44 ≤ length before = long before refl in
    omega (arith, sums, whole, low)

pub moved_header : (old new : SinkTold) → MayHaveTaken old new → HasHeader old → HasHeader new
moved_header old new (inl same) has = subst HasHeader (sym same) has
moved_header old new (inr took) has = λ none held at.
    let fewer = took.1.faults_grew in
    let sound : old.faults ≡ 0 = omega (arith, fewer, none) in
    grown_long took.0 old.held held (sym took.1.held_grew ∙ at) (has sound)

-- what a sink holds of an output begins with its header
pub front_header : (output : OutputPart) (sink : SinkTold) → HoldsFront output sink → 44 ≤ length output.least → HasHeader sink
front_header output sink holds long none held at = header holds.least
  where
    header : IsPrefix output.least holds.part ⊎ (0 < sink.faults) → 44 ≤ length held
    header (inl front) =
        let same : Some holds.part ≡ Some held = sym holds.holds ∙ at in
        let is : holds.part ≡ held = cc in
        let one = ap length is in
        let two = ap length front.whole_is in
        let sums = length-append output.least front.rest in
        omega (arith, one, two, sums, long)
    header (inr failed) = absurd (omega (arith, failed, none))

-- whatever the pieces are
pub told_any : (least : ℕ) (sink : SinkTold) → AreTold least sink → AreTold 0 sink
told_any least sink tells = record { size_told = tells.size_told; pieces = tells.pieces; pieces_are = tells.pieces_are; enough = omega arith }

pub moved_named : (old new : SinkTold) → MayHaveTaken old new → new.name ≡ old.name
moved_named old new (inl same) = ap (λ (s : SinkTold). s.name) same
moved_named old new (inr took) = took.1.name_kept

pub moved_faults : (old new : SinkTold) → MayHaveTaken old new → old.faults ≤ new.faults
moved_faults old new (inl same) = let e = ap (λ (s : SinkTold). s.faults) same in omega (arith, e)
moved_faults old new (inr took) = took.1.faults_grew

-- the first number of a name, and what stands behind it
abbrev first_of : Option (List ℕ) → ℕ
first_of None = 0
first_of (Some []) = 0
first_of (Some (n ∷ ns)) = n

abbrev rest_of : Option (List ℕ) → List ℕ
rest_of None = []
rest_of (Some []) = []
rest_of (Some (n ∷ ns)) = ns

abbrev head_of : List ℕ → ℕ
head_of [] = 0
head_of (n ∷ ns) = n

abbrev tail_of : List ℕ → List ℕ
tail_of [] = []
tail_of (n ∷ ns) = ns

abbrev name_of : List ℕ → Option (List ℕ)
name_of [] = None
name_of (n ∷ ns) = Some ns

abbrev number_of : ℕ → Option ℕ
number_of zero = None
number_of (suc n) = Some n

name_again : (name : Option (List ℕ)) → name_of (told_name name) ≡ name
name_again None = refl
name_again (Some name) = refl

number_again : (number : Option ℕ) → number_of (told_number number) ≡ number
number_again None = refl
number_again (Some number) = refl

-- sinks that are known by one name have one title, owe as much, and were created for as many bytes
pub record AreAlike (odd_one odd_other : Bool) (one other : SinkTold) : Type 0 where
  pub named : one.name ≡ other.name
  pub owes : owed_by odd_one one.room ≡ owed_by odd_other other.room
  pub sized : size_of one ≡ size_of other

pub known_alike : {O : Type 0} (told : O → SinkTold) (one other : OutputSink O) → (output_told told one).name ≡ (output_told told other).name → AreAlike one.odd other.odd (told one.sink) (told other.sink)
known_alike told one other e =
    let names = ap rest_of e in
    record {
      named = sym (name_again (told one.sink).name) ∙ ap (λ ns. name_of (tail_of ns)) names ∙ name_again (told other.sink).name;
      owes = ap first_of e;
      sized = sym (number_again (size_of (told one.sink))) ∙ ap (λ ns. number_of (head_of ns)) names ∙ number_again (size_of (told other.sink));
    }

-- so many pieces more, as far as a count goes
pub count_many : (n p : ℕ) → p + n < 2 ^ 64 → iterate one_more_append n (Some p) ≡ Some (p + n)
count_many zero p low = let same : p ≡ p + 0 = omega arith in ap Some same
count_many (suc n) p low =
    let next : min (p + 1) (2 ^ 64 - 1) ≡ suc p = omega (arith, low) in
    let same : suc p + n ≡ p + suc n = omega arith in
    ap (λ q. iterate one_more_append n (Some q)) next ∙ count_many n (suc p) (omega (arith, low)) ∙ ap Some same

-- more pieces are some still
pub some_still : (more pieces : ℕ) → 1 ≤ pieces → (now : ℕ) × (iterate one_more_append more (Some pieces) ≡ Some now) × (1 ≤ now)
some_still zero pieces some = (pieces, refl, some)
some_still (suc more) pieces some = some_still more (min (pieces + 1) (2 ^ 64 - 1)) (omega (arith, some))

-- a fresh sink tells its name and bytes, where its shelf tells its files or its closings
module _ (name : List ℕ) (room : ℕ) (shelf : ShelfTold) (first : SinkTold) (fresh : IsFresh name room shelf first) where
  both_told : TellsSinks shelf → IsSome first.name × IsSome first.held
  both_told (inl files) = fresh.tells files
  both_told (inr closed) = let all = fresh.tells_all closed in (all.name, all.held)

  pub fresh_named : TellsSinks shelf → first.name ≡ Some name
  fresh_named tells = is_told first.name name (both_told tells).0 fresh.named

  pub fresh_empty : TellsSinks shelf → first.held ≡ Some []
  fresh_empty tells = is_told first.held [] (both_told tells).1 fresh.empty

  pub fresh_measured : ForSome shelf.closed (λ before. IsMeasured room 0 first)
  fresh_measured before at =
      let all = fresh.tells_all (ap is_some at) in
      record {
        size_is = (λ i. size_by (is_told first.held [] all.held fresh.empty i) (is_told first.room room all.room fresh.roomy i)) ∙ (let same : 0 + room ≡ room = omega arith in ap Some same);
        pieces_are = is_told first.appends 0 all.appends fresh.unused;
      }

  pub fresh_told : ForSome shelf.closed (λ before. AreTold 0 first)
  fresh_told before at = let is = fresh_measured before at in record { size_told = ap is_some is.size_is; pieces = 0; pieces_are = is.pieces_are; enough = omega arith }
