-- The pieces that sinks got in some ticks, and in more ticks behind them.
use Rattle.std.proofs.Common.{◌≡◌, ◌<◌, ◌≤◌, ◌+◌, ◌∙◌, ℕ, zero, suc, Some, Option, List, [], ◌∷◌, length, get_or, slice_get, add-one, arith, ap, refl, sym, subst, inl, inr}
use Rattle.std.specs.Fn.{iterate}
use Rattle.std.proofs.lemmas.Option.{slice_get-get_or as read, slice_get_within}
use Rattle.liq_base.specs.Counts.{Rose, one_more_append}
use Rattle.liq_base.specs.Pieces.{SinkTold, TookPiece}
use Rattle.clock_outputs.specs.declared.port.Port.{Port}
use Rattle.clock_outputs.specs.Appends.{BrokeAt, TookAll}
use Rattle.clock_outputs.proofs.Places.{below_or_same, low_or_high}
use Rattle.clock_ticks.specs.Pieces.{AreKept, GotBetween, GotOnePiece, GotPieces, GotSomePieces, HasGot, RoseAt}
use Rattle.clock_ticks.specs.Ticks.{TookTick}
use Rattle.clock_ticks.specs.declared.engine.EngineParts.{EngineParts}

iterate_then : {A : Type 0} (f : A → A) (n m : ℕ) (x : A) → iterate f (n + m) x ≡ iterate f m (iterate f n x)
iterate_then f zero m x = let e : 0 + m ≡ m = omega arith in ap (λ k. iterate f k x) e
iterate_then f (suc n) m x = let e : suc n + m ≡ suc (n + m) = omega arith in ap (λ k. iterate f k x) e ∙ iterate_then f n m (f x)

-- an item stands at each place of a list
pub there : {A : Type 0} (xs : List A) (k : ℕ) → k < length xs → (x : A) × (slice_get xs k ≡ Some x)
there [] k below = absurd (omega (arith, below))
there (x ∷ xs) zero below = (x, refl)
there (x ∷ xs) (suc k) below = there xs k (omega (arith, below))

pub some_one : {A : Type 0} {o : Option A} {x y : A} → o ≡ Some x → o ≡ Some y → x ≡ y
some_one is other = cc

-- pieces of one sink
pub got_nothing : (told : SinkTold) → HasGot 0 told told
got_nothing told = record { name_kept = refl; faults_grew = omega arith; appends_are = refl }

one_got : (taken : List ℕ) (old new : SinkTold) → TookPiece taken old new → HasGot 1 old new
one_got taken old new took = record { name_kept = took.name_kept; faults_grew = took.faults_grew; appends_are = took.once }

then_got : (n m : ℕ) (a b c : SinkTold) → HasGot n a b → HasGot m b c → HasGot (n + m) a c
then_got n m a b c first next = record {
  name_kept = next.name_kept ∙ first.name_kept;
  faults_grew = omega (arith, first.faults_grew, next.faults_grew);
  appends_are = next.appends_are ∙ ap (iterate one_more_append m) first.appends_are ∙ sym (iterate_then one_more_append n m a.appends);
}

module _ {S : Type 0} (told : S → SinkTold) where
  same_got : (before after : S) → before ≡ after → HasGot 0 (told before) (told after)
  same_got before after same = subst (λ s. HasGot 0 (told before) (told s)) same (got_nothing (told before))

  pub got_none : (outs : List S) → GotPieces told 0 outs outs
  got_none outs = record { each = λ k before after was is. same_got before after (some_one was is) }

  pub got_then : (n m : ℕ) (a b c : List S) → length b ≡ length a → GotPieces told n a b → GotPieces told m b c → GotPieces told (n + m) a c
  got_then n m a b c sizes first next = record {
    each = λ k before after was is.
        let within = slice_get_within a k before was in
        let between = read b k before (omega (arith, within, sizes)) in
        then_got n m (told before) (told (get_or b k before)) (told after) (first.each k before (get_or b k before) was between) (next.each k (get_or b k before) after between is);
  }

  pub got_one : (parts : EngineParts) (old new : List S) → TookTick told parts old new → GotPieces told 1 old new
  got_one parts old new tick = record {
    each = λ k before after was is.
        let its = tick.each k before after was is in
        one_got its.3 (told before) (told after) its.5;
  }

  -- one tick more
  pub got_more : (parts : EngineParts) (n : ℕ) (a b c : List S) → length b ≡ length a → GotPieces told n a b → TookTick told parts b c → GotPieces told (suc n) a c
  got_more parts n a b c sizes first tick = subst (λ k. GotPieces told k a c) (add-one n) (got_then n 1 a b c sizes first (got_one parts b c tick))

  pub got_between : (n least most : ℕ) (a b : List S) → least ≤ n → n ≤ most → GotPieces told n a b → GotBetween told least most a b
  got_between n least most a b low high got = record { each = λ k before after was is. (n, low, high, got.each k before after was is) }

  pub between_then : (n least most : ℕ) (a b c : List S) → length b ≡ length a → GotPieces told n a b → GotBetween told least most b c → GotBetween told (n + least) (n + most) a c
  between_then n least most a b c sizes first next = record {
    each = λ k before after was is.
        let within = slice_get_within a k before was in
        let between = read b k before (omega (arith, within, sizes)) in
        let more = next.each k (get_or b k before) after between is in (
          n + more.0,
          (let low = more.1 in omega (arith, low)),
          (let high = more.2 in omega (arith, high)),
          then_got n more.0 (told before) (told (get_or b k before)) (told after) (first.each k before (get_or b k before) was between) more.3,
        );
  }

  pub between_wider : (least most low high : ℕ) (a b : List S) → low ≤ least → most ≤ high → GotBetween told least most a b → GotBetween told low high a b
  between_wider least most low high a b less more got = record {
    each = λ k before after was is.
        let some = got.each k before after was is in
        let one = some.1 in let other = some.2 in
        (some.0, omega (arith, one, less), omega (arith, other, more), some.3);
  }

  -- a tick that a fault ended
  pub got_some : (old new : List S) → GotSomePieces told old new → GotBetween told 0 1 old new
  got_some old new some = record {
    each = λ k before after was is. elim (low_or_high k some.count) [
      | inl low ↦ (let its = some.got.first k before after low was is in (1, omega arith, omega arith, one_got its.0 (told before) (told after) its.1))
      | inr high ↦ (0, omega arith, omega arith, same_got before after (some_one was (sym (some.got.others k high) ∙ is)))
    ];
  }

  -- some ticks, and one that a fault ended
  pub got_part : (n least most : ℕ) (a b c : List S) → least ≤ n → n < most → length b ≡ length a → GotPieces told n a b → GotSomePieces told b c → GotBetween told least most a c
  got_part n least most a b c low high sizes first some =
      between_wider (n + 0) (n + 1) least most a c (omega (arith, low)) (omega (arith, high)) (between_then n 0 1 a b c sizes first (got_some b c some))

  -- what the sinks did with the pieces of a tick
  pub once_none : (outs : List S) → GotOnePiece told 0 outs outs
  once_none outs = record { first = λ k before after below was is. absurd (omega (arith, below)); others = λ k from. refl }

  pub once_all : (ports : List Port) (old new : List S) → TookAll told ports (length ports) old new → GotOnePiece told (length ports) old new
  once_all ports old new took = record {
    first = λ k before after below was is.
        let its = there ports k below in
        (its.0.piece.bytes, took.each k its.0 before after below its.1 was is);
    others = took.others;
  }

  pub once_upto : (place : ℕ) (ports : List Port) (old new : List S) → BrokeAt told place ports old new → GotOnePiece told (place + 1) old new
  once_upto place ports old new broke = record {
    first = λ k before after below was is. elim (below_or_same k place below) [
      | inl low ↦ (let within = slice_get_within ports place broke.port broke.at_port in let its = there ports k (omega (arith, low, within)) in (its.0.piece.bytes, broke.each k its.0 before after low its.1 was is))
      | inr same ↦ here (subst (λ i. slice_get old i ≡ Some before) same was) (subst (λ i. slice_get new i ≡ Some after) same is)
    ];
    others = broke.others;
  }
    where
      here : {before after : S} → slice_get old place ≡ Some before → slice_get new place ≡ Some after → (taken : List ℕ) × TookPiece taken (told before) (told after)
      here {before} {after} was is = (
        broke.part.taken,
        subst (λ s. TookPiece broke.part.taken (told before) (told s)) (some_one broke.is is) (subst (λ s. TookPiece broke.part.taken (told s) (told broke.after)) (some_one broke.was was) broke.part.took),
      )

  pub rose_at : (place : ℕ) (ports : List Port) (old new : List S) → BrokeAt told place ports old new → RoseAt told place old new
  rose_at place ports old new broke = record { before = broke.before; after = broke.after; was = broke.was; is = broke.is; rose = broke.part.rose }

  -- names that stay, and counts of faults that do not fall
  pub kept_none : (outs : List S) → AreKept told outs outs
  kept_none outs = record {
    each = λ k before after was is. (let got = same_got before after (some_one was is) in (got.name_kept, got.faults_grew));
  }

  pub kept_then : (a b c : List S) → length b ≡ length a → AreKept told a b → AreKept told b c → AreKept told a c
  kept_then a b c sizes first next = record {
    each = λ k before after was is.
        let within = slice_get_within a k before was in
        let between = read b k before (omega (arith, within, sizes)) in
        let one = first.each k before (get_or b k before) was between in
        let two = next.each k (get_or b k before) after between is in
        (two.0 ∙ one.0, (let low = one.1 in let high = two.1 in omega (arith, low, high)));
  }

  pub kept_got : (n : ℕ) (old new : List S) → GotPieces told n old new → AreKept told old new
  kept_got n old new got = record { each = λ k before after was is. (let its = got.each k before after was is in (its.name_kept, its.faults_grew)) }

  pub kept_tick : (parts : EngineParts) (old new : List S) → TookTick told parts old new → AreKept told old new
  kept_tick parts old new tick = kept_got 1 old new (got_one parts old new tick)

  pub kept_some : (old new : List S) → GotSomePieces told old new → AreKept told old new
  kept_some old new some = record {
    each = λ k before after was is. (let its = (got_some old new some).each k before after was is in (its.3.name_kept, its.3.faults_grew));
  }

  -- a count that rose above one to which it had not fallen
  pub rose_since : (place : ℕ) (first old new : List S) → length old ≡ length first → AreKept told first old → RoseAt told place old new → RoseAt told place first new
  rose_since place first old new sizes kept rose =
      let within = slice_get_within old place rose.before rose.was in
      let its = there first place (omega (arith, within, sizes)) in
      let grew = (kept.each place its.0 rose.before its.1 rose.was).1 in
      let up : Rose (told rose.before).faults (told rose.after).faults = rose.rose in
      record { before = its.0; after = rose.after; was = its.1; is = rose.is; rose = omega (arith, grew, up) }
