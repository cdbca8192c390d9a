-- One give more.
use Rattle.std.proofs.Common.{◌≡◌, ◌<◌, ◌∙◌, ◌++◌, ℕ, suc, Bool, true, false, cond, Option, Some, None, List, [], ◌∷◌, length, nat_eq, slice_get, append-nil, append_assoc, arith, refl, ap, sym, subst}
use Rattle.std.specs.Prelude.{OnErr, Result, Ok, Err}
use Rattle.std.proofs.lemmas.Bool.Decides.{nat_tests}
use Rattle.std.proofs.lemmas.Option.{slice_get_within}
use Rattle.frame_core.specs.declared.cell.Cell.{Cell}
use Rattle.frame_core.specs.declared.chunk.Gave.{Gave}
use Rattle.frame_core.specs.declared.chunk.Gave.TheVariants.{Accepted, Full}
use Rattle.frame_core.specs.Frames.{some_list}
use Rattle.frame_core.specs.Calls.{Adds, Call, Given, IsGive}
use Rattle.stream_meaning.specs.Calls.{IsBegin, given, joined_upto}
use Rattle.stream_meaning.proofs.Answering.{begin_joined, begin_none, joined_same}
use Rattle.clock_outputs.specs.declared.feed.FeedPort.{FeedPort}
use Rattle.clock_outputs.specs.Feeds.{HasGiven, HaveGiven, HaveGivenSome, HaveOwnBuffers, given_by}

-- what holds holds of a fault
pub on_fault : {A E P : Type 0} (r : Result A E) → P → OnErr r P
on_fault (Ok x) p = tt
on_fault (Err e) p = p

no_list : (cells : List Cell) → some_list cells ≡ None → cells ≡ []
no_list [] is = refl
no_list (cell ∷ cells) is = absurd cc

one_list : (cells chunk : List Cell) → some_list cells ≡ Some chunk → cells ≡ chunk
one_list [] chunk is = absurd cc
one_list (cell ∷ cells) chunk is = cc

given_some : (buffer : ℕ) (cells chunk : List Cell) (accepted : Bool) → some_list cells ≡ Some chunk → given buffer cells accepted ≡ Given buffer chunk accepted ∷ []
given_some buffer [] chunk accepted is = absurd cc
given_some buffer (cell ∷ cells) chunk accepted is = ap (λ (c : List Cell). Given buffer c accepted ∷ []) (one_list (cell ∷ cells) chunk is)

gave_call : (buffer : ℕ) (chunk : List Cell) (gave : Gave) (call : Call) → IsGive buffer chunk gave call → (accepted : Bool) × (call ≡ Given buffer chunk accepted)
gave_call buffer chunk Accepted call is = (true, is)
gave_call buffer chunk (Full back) call is = (false, is.1)

pub adds_nothing : {T : Type 0} (stands : T → List Call → Type 0) (a : T) → Adds stands a a []
adds_nothing stands a = λ calls at. subst (stands a) (sym (append-nil calls)) at

pub adds_more : {T : Type 0} (stands : T → List Call → Type 0) (a b c : T) (first next : List Call) → Adds stands a b first → Adds stands b c next → Adds stands a c (first ++ next)
adds_more stands a b c first next one two = λ calls at. subst (stands c) (append_assoc calls first next) (two (calls ++ first) (one calls at))

module _ {T : Type 0} (stands : T → List Call → Type 0) where
  pub given_none : (feed : FeedPort) (a : T) → None ≡ some_list feed.frame.cells → HasGiven stands feed a a
  given_none feed a is = record {
    more = [];
    taps = adds_nothing stands a;
    accepted = true;
    is = ap (λ (cells : List Cell). given feed.buffer cells true) (sym (no_list feed.frame.cells (sym is)));
  }

  pub given_one : (feed : FeedPort) (a b : T) (chunk : List Cell) (gave : Gave) → Some chunk ≡ some_list feed.frame.cells
      → (call : Call) × IsGive feed.buffer chunk gave call × Adds stands a b (call ∷ []) → HasGiven stands feed a b
  given_one feed a b chunk gave is made =
      let answer = gave_call feed.buffer chunk gave made.0 made.1 in
      record {
        more = made.0 ∷ [];
        taps = made.2;
        accepted = answer.0;
        is = ap (λ (call : Call). call ∷ []) answer.1 ∙ sym (given_some feed.buffer feed.frame.cells chunk answer.0 (sym is));
      }

  module _ (feeds : List FeedPort) where
    pub gives_none : (a : T) → HaveGiven stands feeds 0 a a
    gives_none a = record { more = []; taps = adds_nothing stands a; accepted = λ buffer. true; are = λ own. refl }

    module _ (n : ℕ) (feed : FeedPort) (there : slice_get feeds n ≡ Some feed) (a b c : T) (so : HaveGiven stands feeds n a b) where
      -- the answers with that of this feed
      abbrev with_answer : Bool → ℕ → Bool
      with_answer answer buffer = cond (nat_eq buffer feed.buffer) answer (so.accepted buffer)

      own_answer : (answer : Bool) → with_answer answer feed.buffer ≡ answer
      own_answer answer = let same : nat_eq feed.buffer feed.buffer ≡ true = grind (arith, nat_tests) in ap (λ (b : Bool). cond b answer (so.accepted feed.buffer)) same

      same_before : (answer : Bool) → HaveOwnBuffers feeds → (j : ℕ) → j < n → (found : Option FeedPort) → slice_get feeds j ≡ found → given_by so.accepted found ≡ given_by (with_answer answer) found
      same_before answer own j low None at = refl
      same_before answer own j low (Some other) at =
          let apart : other.buffer ≡ feed.buffer → ⊥ = λ same. (let e = own.each j n other feed at there same in omega (arith, e, low)) in
          let differs : nat_eq other.buffer feed.buffer ≡ false = grind (arith, nat_tests) in
          ap (given other.buffer other.frame.cells) (sym (ap (λ (b : Bool). cond b answer (so.accepted other.buffer)) differs))

      pub gives_more : HasGiven stands feed b c → HaveGiven stands feeds (suc n) a c
      gives_more one = record {
        more = so.more ++ one.more;
        taps = adds_more stands a b c so.more one.more so.taps one.taps;
        accepted = with_answer one.accepted;
        are = λ own.
            ap (λ (cs : List Call). cs ++ one.more) (so.are own ∙ joined_same (λ k. given_by so.accepted (slice_get feeds k)) (λ k. given_by (with_answer one.accepted) (slice_get feeds k)) n
            (λ j low. same_before one.accepted own j low (slice_get feeds j) refl))
            ∙ ap (λ (cs : List Call). joined_upto (λ k. given_by (with_answer one.accepted) (slice_get feeds k)) n ++ cs)
            (one.is ∙ ap (given feed.buffer feed.frame.cells) (sym (own_answer one.accepted)) ∙ ap (given_by (with_answer one.accepted)) (sym there));
      }

      pub gives_stopped : Adds stands b c [] → HaveGivenSome stands feeds a c
      gives_stopped none = record {
        made = so.more;
        taps = subst (Adds stands a c) (append-nil so.more) (adds_more stands a b c so.more [] so.taps none);
        accepted = so.accepted;
        begins = λ own.
            subst (λ (cs : List Call). IsBegin cs (joined_upto (λ k. given_by so.accepted (slice_get feeds k)) (length feeds))) (append-nil (joined_upto (λ k. given_by so.accepted (slice_get feeds k)) n) ∙ sym (so.are own))
            (begin_joined (λ k. given_by so.accepted (slice_get feeds k)) n (length feeds) [] (slice_get_within feeds n feed there) (begin_none (given_by so.accepted (slice_get feeds n))));
      }
