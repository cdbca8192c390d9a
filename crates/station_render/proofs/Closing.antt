-- Sinks that are closed one after another.
use Rattle.std.proofs.Common.{◌≡◌, ◌<◌, ◌≤◌, ◌∙◌, ◌⊎◌, ℕ, zero, suc, Bool, true, false, List, [], ◌∷◌, ◌++◌, append-nil, append_assoc, length, map, slice_get, nat_eq, arith, refl, ap, sym, subst, inl, inr, if◌then◌else◌}
use Rattle.std.specs.Prelude.{Option, Some, None, Result, Ok, Err, OnOk, OnErr, IsSomeAnd}
use Rattle.std.specs.Option.{ForSome}
use Rattle.std.proofs.lemmas.Bool.{cases_Bool, eqb-true, eqb-false, eq-eqb}
use Rattle.liq_base.specs.Counts.{Rose}
use Rattle.liq_base.specs.Files.{Files, with_file, Closed, ClosedPart, HoldsPart as FileHoldsPart}
use Rattle.liq_base.specs.Kept.{some_and}
use Rattle.liq_base.specs.Pieces.{HasRoom, IsPrefix, SinkTold, TookPart, grown}
use Rattle.stations.specs.Outputs.{HoldsBetween, HoldsEnds, HoldsParts, OutputPart, unended, whole_of, with_outputs}
use Rattle.station_render.specs.OutputSinks.{HasEnded, HaveRooms, HoldsBody, HoldsSoMuch, last_byte}
use Rattle.station_render.specs.Sinks.{AreCreated, AreAllEmpty, HasFailed, HaveSizes, HoldsFront, WasTaken, count_of}
use Rattle.station_render.specs.declared.output_sink.OutputSink.{OutputSink}
use Rattle.station_render.proofs.Lists.{within, no_items, set_here, set_many, set_other}
use Rattle.station_render.proofs.Creating.{created_as, created_mapped}
use Rattle.station_render.proofs.Dealing.{first_so, others_so}

pub all_empty : {S : Type 0} (order : List ℕ) (groups : List (List S)) → length order ≡ 0 → HaveSizes order groups → AreAllEmpty groups
all_empty [] groups none sizes m group there = no_items group (sizes.each m group there)
all_empty (c ∷ order) groups none sizes m group there = absurd (omega (arith, none))

pub none_failed : {S P : Type 0} (order : List ℕ) (groups : List (List S)) → length order ≡ 0 → HaveSizes order groups → (told : S → SinkTold) → HasFailed told groups → P
none_failed order groups none sizes told failed =
    let empty : failed.group ≡ [] = all_empty order groups none sizes failed.clock failed.group failed.there in
    let at : slice_get [] failed.place ≡ Some failed.sink = ap (λ g. slice_get g failed.place) (sym empty) ∙ failed.stands in
    absurd (cc)

pub in_list : {A : Type 0} (xs : List A) (k : ℕ) → k < length xs → (x : A) × (slice_get xs k ≡ Some x)
in_list [] k low = absurd (omega (arith, low))
in_list (x ∷ xs) zero low = (x, refl)
in_list (x ∷ xs) (suc k) low = in_list xs k (omega (arith, low))

-- a part of a front is one of the whole
prefix_then : (a b c : List ℕ) → IsPrefix a b → IsPrefix b c → IsPrefix a c
prefix_then a b c first next = record { rest = first.rest ++ next.rest; whole_is = next.whole_is ∙ ap (λ v. v ++ next.rest) first.whole_is ∙ append_assoc a first.rest next.rest }

part_within : (files : Files) (name h most : List ℕ) → IsPrefix h most → (after : Files) → FileHoldsPart files name h after → FileHoldsPart files name most after
part_within files name h most p after (inl kept) = inl kept
part_within files name h most p after (inr part) = inr (part.0, prefix_then part.0 h most part.1 p, part.2)

-- whatever a closing answered, the name holds what its sink held; or, where the sink or the closing failed, a prefix or what it held
closed_between : {E : Type 0} (r : Result (Unit {0}) E) (w0 w1 : ℕ) (before mid : Option Files) (last : SinkTold) (files : Files) (output : OutputPart) (h : List ℕ)
    → OnOk r (Closed last before mid) → OnErr r (ClosedPart last before mid) → OnErr r (Rose w0 w1) → IsPrefix output.least h ⊎ Rose w0 w1
    → before ≡ Some files → last.name ≡ Some output.name → last.held ≡ Some h → IsPrefix h output.most → IsSomeAnd mid (HoldsBetween (Rose w0 w1) files output)
closed_between (Ok x) w0 w1 before mid last files output h whole part why (inl least) b m k p =
    subst (λ a. IsSomeAnd a (HoldsBetween (Rose w0 w1) files output)) (sym (whole files b output.name m h k)) (inl (h, least, p, refl))
closed_between (Ok x) w0 w1 before mid last files output h whole part why (inr rose) b m k p =
    subst (λ a. IsSomeAnd a (HoldsBetween (Rose w0 w1) files output)) (sym (whole files b output.name m h k)) (inr (rose, inr (h, p, refl)))
closed_between (Err x) w0 w1 before mid last files output h whole part why least b m k p =
    some_and mid (FileHoldsPart files output.name h) (HoldsBetween (Rose w0 w1) files output) (λ after held_part. inr (why, part_within files output.name h output.most p after held_part)) (part files b output.name m h k)

-- a prefix of what its sink held, at least
closed_front : {E : Type 0} (r : Result (Unit {0}) E) (before mid : Option Files) (last : SinkTold) (files : Files) (name most h : List ℕ)
    → OnOk r (Closed last before mid) → OnErr r (ClosedPart last before mid) → before ≡ Some files → last.name ≡ Some name → last.held ≡ Some h → IsPrefix h most → IsSomeAnd mid (FileHoldsPart files name most)
closed_front (Ok x) before mid last files name most h whole part b m k p =
    subst (λ a. IsSomeAnd a (FileHoldsPart files name most)) (sym (whole files b name m h k)) (inr (h, p, refl))
closed_front (Err x) before mid last files name most h whole part b m k p =
    some_and mid (FileHoldsPart files name h) (FileHoldsPart files name most) (part_within files name h most p) (part files b name m h k)

-- one name, and then the others
one_part : (w0 w1 w2 : ℕ) → w0 ≤ w1 → (files : Files) (output : OutputPart) (outputs : List OutputPart) (mid after : Option Files)
    → IsSomeAnd mid (HoldsBetween (Rose w0 w1) files output) → ForSome mid (λ found. IsSomeAnd after (λ now. HoldsParts w1 found outputs now w2))
    → IsSomeAnd after (λ now. HoldsParts w0 files (output ∷ outputs) now w2)
one_part w0 w1 w2 low files output outputs None after first rest = absurd first
one_part w0 w1 w2 low files output outputs (Some mid) after first rest =
    some_and after (λ now. HoldsParts w1 mid outputs now w2) (λ now. HoldsParts w0 files (output ∷ outputs) now w2) (λ now parts. (mid, w1, low, first, parts)) (rest mid refl)

-- the first name that broke, and then the others
broken_part : (w0 w1 w2 : ℕ) → Rose w0 w1 → (files : Files) (output : OutputPart) (outputs : List OutputPart) (mid after : Option Files)
    → IsSomeAnd mid (FileHoldsPart files output.name output.most) → ForSome mid (λ found. IsSomeAnd after (λ now. HoldsParts w1 found (map unended outputs) now w2))
    → IsSomeAnd after (λ now. HoldsEnds w0 files (output ∷ outputs) now w2)
broken_part w0 w1 w2 rose files output outputs None after first rest = absurd first
broken_part w0 w1 w2 rose files output outputs (Some mid) after first rest =
    some_and after (λ now. HoldsParts w1 mid (map unended outputs) now w2) (λ now. HoldsEnds w0 files (output ∷ outputs) now w2)
    (λ now behind. record { whole = []; broken = output; others = outputs; outputs_are = refl; midway = mid; next = w1; rose = rose; part = first; behind = behind }) (rest mid refl)

-- or a first one that is whole
whole_part : (w0 w1 w2 : ℕ) → w0 ≤ w1 → (files : Files) (output : OutputPart) (outputs : List OutputPart) (after : Option Files)
    → IsSomeAnd after (λ now. HoldsEnds w1 (with_file files output.name output.most) outputs now w2) → IsSomeAnd after (λ now. HoldsEnds w0 files (output ∷ outputs) now w2)
whole_part w0 w1 w2 low files output outputs after ends =
    some_and after (λ now. HoldsEnds w1 (with_file files output.name output.most) outputs now w2) (λ now. HoldsEnds w0 files (output ∷ outputs) now w2)
    (λ now others. record {
      whole = output ∷ others.whole;
      broken = others.broken;
      others = others.others;
      outputs_are = ap (λ ys. output ∷ ys) others.outputs_are;
      midway = others.midway;
      next = others.next;
      rose = (let rose = others.rose in omega (arith, rose, low));
      part = others.part;
      behind = others.behind;
    }) ends

-- the sink held as much as it should, or its closing raised the count
least_or : (faults w0 w1 : ℕ) (least : Type 0) → (0 < faults → Rose w0 w1) → least ⊎ (0 < faults) → least ⊎ Rose w0 w1
least_or faults w0 w1 least cause (inl holds) = inl holds
least_or faults w0 w1 least cause (inr failed) = inr (cause failed)

module _ {S : Type 0} (order rest : List ℕ) (clock : ℕ) (split : order ≡ clock ∷ rest) (old new : List (List S)) where
  some_first : (group : List S) → length group ≡ suc (count_of clock rest) → slice_get old clock ≡ Some group → (first : S) × (others : List S) × (slice_get old clock ≡ Some (first ∷ others))
  some_first [] size there = absurd (omega (arith, size))
  some_first (first ∷ others) size there = (first, others, there)

  -- the clock of the first output has a sink
  pub has_first : HaveSizes order old → (first : S) × (others : List S) × (slice_get old clock ≡ Some (first ∷ others))
  has_first sizes =
      let found = in_list old clock (sizes.below 0 clock (ap (λ o. slice_get o 0) split)) in
      let counts : count_of clock order ≡ suc (count_of clock rest) =
      ap (count_of clock) split ∙ ap (λ b. if b then suc (count_of clock rest) else count_of clock rest) (eq-eqb clock clock refl) in
      some_first found.0 (sizes.each clock found.0 found.1 ∙ counts) found.1

  module _ (sink : S) (taken : WasTaken clock old sink new) where
    -- the others have their sizes
    pub sizes_left : HaveSizes order old → HaveSizes rest new
    sizes_left sizes = record {
      below = λ k c at. subst (λ n. c < n) (sym (ap length taken.is ∙ set_many old clock taken.rest)) (sizes.below (suc k) c (ap (λ o. slice_get o (suc k)) split ∙ at));
      each = λ m group there. elim (cases_Bool (nat_eq clock m)) [
        | inl same ↦ (let is_here : clock ≡ m = eqb-true clock m same in
            let at : Some taken.rest ≡ Some group = sym (set_here old clock taken.rest (within old clock (sink ∷ taken.rest) taken.was))
            ∙ ap (λ gs. slice_get gs clock) (sym taken.is) ∙ ap (slice_get new) is_here ∙ there in
            let is : taken.rest ≡ group = cc in
            let counts : count_of m order ≡ suc (count_of m rest) = ap (count_of m) split ∙ ap (λ b. if b then suc (count_of m rest) else count_of m rest) same in
            let all : suc (length taken.rest) ≡ count_of m order = sizes.each m (sink ∷ taken.rest) (ap (slice_get old) (sym is_here) ∙ taken.was) in
            sym (ap length is) ∙ omega (arith, all, counts))
        | inr other ↦ (let apart : clock ≡ m → ⊥ = eqb-false clock m other in
            let at : slice_get old m ≡ Some group = sym (set_other old clock m taken.rest apart) ∙ ap (λ gs. slice_get gs m) (sym taken.is) ∙ there in
            sizes.each m group at ∙ ap (count_of m) split ∙ ap (λ b. if b then suc (count_of m rest) else count_of m rest) other)
      ];
    }

    -- a sink that failed is the first, or one of the others
    pub failed_left : (told : S → SinkTold) → HasFailed told old → (0 < (told sink).faults) ⊎ HasFailed told new
    failed_left told failed = elim (cases_Bool (nat_eq clock failed.clock)) [
      | inl same ↦ (let is_here : clock ≡ failed.clock = eqb-true clock failed.clock same in
          let at : Some (sink ∷ taken.rest) ≡ Some failed.group = sym taken.was ∙ ap (slice_get old) is_here ∙ failed.there in
          let is : sink ∷ taken.rest ≡ failed.group = cc in
          first_or_other failed.place (ap (λ g. slice_get g failed.place) is ∙ failed.stands) failed.failed)
      | inr other ↦ inr (record {
        clock = failed.clock;
        place = failed.place;
        group = failed.group;
        sink = failed.sink;
        there = ap (λ gs. slice_get gs failed.clock) taken.is ∙ set_other old clock failed.clock taken.rest (eqb-false clock failed.clock other) ∙ failed.there;
        stands = failed.stands;
        failed = failed.failed;
      })
    ]
      where
        first_or_other : (place : ℕ) → slice_get (sink ∷ taken.rest) place ≡ Some failed.sink → 0 < (told failed.sink).faults → (0 < (told sink).faults) ⊎ HasFailed told new
        first_or_other zero at more = (let same : sink ≡ failed.sink = (cc) in inl (subst (λ s. 0 < (told s).faults) (sym same) more))
        first_or_other (suc place) at more = inr (record {
          clock = clock;
          place = place;
          group = taken.rest;
          sink = failed.sink;
          there = ap (λ gs. slice_get gs clock) taken.is ∙ set_here old clock taken.rest (within old clock (sink ∷ taken.rest) taken.was);
          stands = at;
          failed = more;
        })

-- the first output was closed, and then the others were; `last` is what its sink told then
module _ {O : Type 0} (told : O → SinkTold) (order rest : List ℕ) (clock : ℕ) (split : order ≡ clock ∷ rest) (old new : List (List (OutputSink O))) (sink : OutputSink O) (taken : WasTaken clock old sink new)
    (last : SinkTold) (before mid after : Option Files) where
  -- with the byte that it owed it holds all bytes
  all_held : (odd : Bool) (was now : SinkTold) (name least most : List ℕ) → HasEnded odd was now → was.name ≡ Some name → was.held ≡ Some least → most ≡ least ++ last_byte odd → (now.name ≡ Some name) × (now.held ≡ Some most)
  all_held false was now name least most same named holds whole =
      (ap (λ (s : SinkTold). s.name) same ∙ named, ap (λ (s : SinkTold). s.held) same ∙ holds ∙ ap Some (sym (whole ∙ append-nil least)))
  all_held true was now name least most took named holds whole = (took.name_kept ∙ named, took.held_grew ∙ ap (grown (0 ∷ [])) holds ∙ ap Some (sym whole))

  pub whole_then : HasEnded sink.odd (told sink.sink) last → Closed last before mid
      → ForSome mid (λ files. (outputs : List OutputPart) → AreCreated (HoldsBody told) outputs rest new → after ≡ Some (with_outputs files (map whole_of outputs)))
      → ForSome before (λ files. (outputs : List OutputPart) → AreCreated (HoldsBody told) outputs order old → after ≡ Some (with_outputs files (map whole_of outputs)))
  whole_then ended closed others files at [] are = (let size = are.size in let long = ap length split in absurd (omega (arith, size, long)))
  whole_then ended closed others files at (y ∷ ys) are =
      let these = subst (λ o. AreCreated (HoldsBody told) (y ∷ ys) o old) split are in
      let so = (first_so (HoldsBody told) clock rest old new sink taken y ys these).0 in
      let all = all_held sink.odd (told sink.sink) last y.name y.least y.most ended so.named so.holds so.whole in
      others (with_file files y.name y.most) (closed files at y.name all.0 y.most all.1) ys (others_so (HoldsBody told) clock rest old new sink taken y ys these)

  -- a fault came behind it
  pub ends_then : (w0 w1 w2 : ℕ) → w0 ≤ w1 → HasEnded sink.odd (told sink.sink) last → Closed last before mid
      → ForSome mid (λ files. (outputs : List OutputPart) → AreCreated (HoldsBody told) outputs rest new → IsSomeAnd after (λ now. HoldsEnds w1 files outputs now w2))
      → ForSome before (λ files. (outputs : List OutputPart) → AreCreated (HoldsBody told) outputs order old → IsSomeAnd after (λ now. HoldsEnds w0 files outputs now w2))
  ends_then w0 w1 w2 low ended closed others files at [] are = (let size = are.size in let long = ap length split in absurd (omega (arith, size, long)))
  ends_then w0 w1 w2 low ended closed others files at (y ∷ ys) are =
      let these = subst (λ o. AreCreated (HoldsBody told) (y ∷ ys) o old) split are in
      let so = (first_so (HoldsBody told) clock rest old new sink taken y ys these).0 in
      let all = all_held sink.odd (told sink.sink) last y.name y.least y.most ended so.named so.holds so.whole in
      whole_part w0 w1 w2 low files y ys after
      (others (with_file files y.name y.most) (closed files at y.name all.0 y.most all.1) ys (others_so (HoldsBody told) clock rest old new sink taken y ys these))

  -- an output without its last byte
  without_end : (y : OutputPart) (x : OutputSink O) → HoldsBody told y x → HoldsSoMuch told (unended y) x
  without_end y x is = record {
    named = is.named;
    part = y.least;
    holds = is.holds;
    most = record { rest = []; whole_is = sym (append-nil y.least) };
    least = inl (record { rest = []; whole_is = sym (append-nil y.least) });
  }

  -- what its sink held at least, and all of it
  some_held : (odd : Bool) (was now : SinkTold) (name least most : List ℕ) → TookPart (0 ∷ []) was now → odd ≡ true → was.name ≡ Some name → was.held ≡ Some least → most ≡ least ++ last_byte odd
      → (h : List ℕ) × (now.name ≡ Some name) × (now.held ≡ Some h) × IsPrefix h most
  some_held odd was now name least most part owes named holds whole = (
    least ++ part.taken,
    part.took.name_kept ∙ named,
    part.took.held_grew ∙ ap (grown part.taken) holds,
    record {
      rest = part.is_front.rest;
      whole_is = whole ∙ ap (λ b. least ++ last_byte b) owes ∙ ap (λ z. least ++ z) part.is_front.whole_is ∙ sym (append_assoc least part.taken part.is_front.rest);
    },
  )

  -- the fault came at it
  ends_first : {E : Type 0} (r : Result (Unit {0}) E) (w0 w1 w2 : ℕ) → Rose w0 w1
      → ((y : OutputPart) → HoldsBody told y sink → (h : List ℕ) × (last.name ≡ Some y.name) × (last.held ≡ Some h) × IsPrefix h y.most)
      → OnOk r (Closed last before mid) → OnErr r (ClosedPart last before mid)
      → ForSome mid (λ files. (outputs : List OutputPart) → AreCreated (HoldsSoMuch told) outputs rest new → IsSomeAnd after (λ now. HoldsParts w1 files outputs now w2))
      → ForSome before (λ files. (outputs : List OutputPart) → AreCreated (HoldsBody told) outputs order old → IsSomeAnd after (λ now. HoldsEnds w0 files outputs now w2))
  ends_first r w0 w1 w2 rose held closed part others files at [] are = (let size = are.size in let long = ap length split in absurd (omega (arith, size, long)))
  ends_first r w0 w1 w2 rose held closed part others files at (y ∷ ys) are =
      let these = subst (λ o. AreCreated (HoldsBody told) (y ∷ ys) o old) split are in
      let so = held y (first_so (HoldsBody told) clock rest old new sink taken y ys these).0 in
      let left = created_mapped unended (HoldsSoMuch told) ys rest new
      (created_as (HoldsBody told) (λ z x. HoldsSoMuch told (unended z) x) without_end ys rest new (others_so (HoldsBody told) clock rest old new sink taken y ys these)) in
      broken_part w0 w1 w2 rose files y ys mid after (closed_front r before mid last files y.name y.most so.0 closed part at so.1 so.2 so.3)
      (λ found there. others found there (map unended ys) left)

  pub ends_unended : {E : Type 0} (r : Result (Unit {0}) E) (w0 w1 w2 : ℕ) → Rose w0 w1 → TookPart (0 ∷ []) (told sink.sink) last → sink.odd ≡ true
      → OnOk r (Closed last before mid) → OnErr r (ClosedPart last before mid)
      → ForSome mid (λ files. (outputs : List OutputPart) → AreCreated (HoldsSoMuch told) outputs rest new → IsSomeAnd after (λ now. HoldsParts w1 files outputs now w2))
      → ForSome before (λ files. (outputs : List OutputPart) → AreCreated (HoldsBody told) outputs order old → IsSomeAnd after (λ now. HoldsEnds w0 files outputs now w2))
  ends_unended r w0 w1 w2 rose part owes =
      ends_first r w0 w1 w2 rose (λ y is. some_held sink.odd (told sink.sink) last y.name y.least y.most part owes is.named is.holds is.whole)

  pub ends_unclosed : {E : Type 0} (r : Result (Unit {0}) E) (w0 w1 w2 : ℕ) → Rose w0 w1
      → OnOk r (Closed last before mid) → OnErr r (ClosedPart last before mid)
      → ForSome mid (λ files. (outputs : List OutputPart) → AreCreated (HoldsSoMuch told) outputs rest new → IsSomeAnd after (λ now. HoldsParts w1 files outputs now w2))
      → HasEnded sink.odd (told sink.sink) last
      → ForSome before (λ files. (outputs : List OutputPart) → AreCreated (HoldsBody told) outputs order old → IsSomeAnd after (λ now. HoldsEnds w0 files outputs now w2))
  ends_unclosed r w0 w1 w2 rose closed part others ended =
      ends_first r w0 w1 w2 rose (λ y is.
      let all = all_held sink.odd (told sink.sink) last y.name y.least y.most ended is.named is.holds is.whole in
      (y.most, all.0, all.1, record { rest = []; whole_is = sym (append-nil y.most) })) closed part others

  -- after a fault, as it is
  pub part_then : {E : Type 0} (r : Result (Unit {0}) E) (w0 w1 w2 : ℕ) → w0 ≤ w1 → last ≡ told sink.sink
      → OnOk r (Closed last before mid) → OnErr r (ClosedPart last before mid) → OnErr r (Rose w0 w1) → (0 < last.faults → Rose w0 w1)
      → ForSome mid (λ files. (outputs : List OutputPart) → AreCreated (HoldsSoMuch told) outputs rest new → IsSomeAnd after (λ now. HoldsParts w1 files outputs now w2))
      → ForSome before (λ files. (outputs : List OutputPart) → AreCreated (HoldsSoMuch told) outputs order old → IsSomeAnd after (λ now. HoldsParts w0 files outputs now w2))
  part_then r w0 w1 w2 low same closed part cause failed others files at [] are = (let size = are.size in let long = ap length split in absurd (omega (arith, size, long)))
  part_then r w0 w1 w2 low same closed part cause failed others files at (y ∷ ys) are =
      let these = subst (λ o. AreCreated (HoldsSoMuch told) (y ∷ ys) o old) split are in
      let so : HoldsFront y last = subst (HoldsFront y) (sym same) (first_so (HoldsSoMuch told) clock rest old new sink taken y ys these).0 in
      one_part w0 w1 w2 low files y ys mid after
      (closed_between r w0 w1 before mid last files y so.part closed part cause (least_or last.faults w0 w1 (IsPrefix y.least so.part) failed so.least) at so.named so.holds so.most)
      (λ found there. others found there ys (others_so (HoldsSoMuch told) clock rest old new sink taken y ys these))

-- where all went well before, and still does
pub whole_if : {T E : Type 0} (r : Result T E) (well goes : Bool) (P Q : Type 0) → (well ≡ true → goes ≡ true) → (well ≡ true → P → Q) → OnOk r (goes ≡ true → P) → OnOk r (well ≡ true → Q)
whole_if (Ok x) well goes P Q still f p = λ on. f on (p (still on))
whole_if (Err e) well goes P Q still f p = tt

pub ends_if : {T E : Type 0} (r : Result T E) (well goes : Bool) (P Q : Type 0) → (well ≡ true → goes ≡ true) → (well ≡ true → P → Q) → OnErr r (goes ≡ true → P) → OnErr r (well ≡ true → Q)
ends_if (Ok x) well goes P Q still f p = tt
ends_if (Err e) well goes P Q still f p = λ on. f on (p (still on))

-- one after the other, and the same for whatever is given
pub given : {A B C : Type 0} → (B → C) → (A → B) → A → C
given f g a = f (g a)

pub for_any : {A B : Type 0} → B → A → B
for_any b a = b

-- a call that did not go well is no Ok
pub err_there : {T E : Type 0} (r : Result T E) (e : E) (P : Type 0) → r ≡ Err e → OnErr r P → P
err_there r e P is p = subst (λ x. OnErr x P) is p

-- the first of the sinks, and the others, have room for what they owe
module _ {O : Type 0} (told : O → SinkTold) (clock : ℕ) (old new : List (List (OutputSink O))) (sink : OutputSink O) (taken : WasTaken clock old sink new) where
  pub rooms_first : HaveRooms told old → sink.odd ≡ true → HasRoom (told sink.sink).room 1
  rooms_first rooms odd = rooms clock 0 (sink ∷ taken.rest) sink taken.was refl odd

  pub rooms_left : HaveRooms told old → HaveRooms told new
  rooms_left rooms m k group output there at odd = elim (cases_Bool (nat_eq clock m)) [
    | inl same ↦ (let is_here : clock ≡ m = eqb-true clock m same in
        let found : Some taken.rest ≡ Some group = sym (set_here old clock taken.rest (within old clock (sink ∷ taken.rest) taken.was))
        ∙ ap (λ gs. slice_get gs clock) (sym taken.is) ∙ ap (slice_get new) is_here ∙ there in
        let is : taken.rest ≡ group = cc in
        rooms clock (suc k) (sink ∷ taken.rest) output taken.was (ap (λ g. slice_get g k) is ∙ at) odd)
    | inr other ↦ (let apart : clock ≡ m → ⊥ = eqb-false clock m other in
        let found : slice_get old m ≡ Some group = sym (set_other old clock m taken.rest apart) ∙ ap (λ gs. slice_get gs m) (sym taken.is) ∙ there in
        rooms m k group output found at odd)
  ]

-- what holds whatever a call answers
pub on_err_so : {T E : Type 0} (r : Result T E) (P : Type 0) → P → OnErr r P
on_err_so (Ok x) P p = tt
on_err_so (Err e) P p = p

-- what holds where two calls went well
pub both_ok : {T E U F : Type 0} (r : Result T E) (s : Result U F) (x : T) (y : U) (P : Type 0) → r ≡ Ok x → s ≡ Ok y → OnOk r (OnOk s P) → P
both_ok r s x y P one two p = subst (λ b. OnOk b P) two (subst (λ a. OnOk a (OnOk s P)) one p)
