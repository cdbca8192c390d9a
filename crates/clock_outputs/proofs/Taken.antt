-- The sinks of a clock take their pieces, one by one.
use Rattle.std.proofs.Common.{◌≡◌, ◌<◌, ◌≤◌, ◌+◌, ◌∙◌, ℕ, Some, List, length, set, slice_get, arith, refl, sym, subst, inl, inr}
use Rattle.liq_base.specs.Pieces.{SinkTold, TookPiece, TookPart}
use Rattle.clock_outputs.specs.declared.port.Port.{Port}
use Rattle.clock_outputs.specs.Appends.{BrokeAt, TookAll}
use Rattle.clock_outputs.proofs.Places.{same_or_other, slice_get-set_other, slice_get-set_same}

pub took_none : {S : Type 0} (told : S → SinkTold) (ports : List Port) (outs : List S) → TookAll told ports 0 outs outs
took_none told ports outs = record {
  each = λ k port before after below at_port at_old at_new. absurd (omega (arith, below));
  others = λ k from. refl;
}

module _ {S : Type 0} (told : S → SinkTold) (ports : List Port) (k : ℕ) (old now : List S) (before after : S) (port : Port)
    (within : k < length now) (was : slice_get now k ≡ Some before) (found : slice_get ports k ≡ Some port) (all : TookAll told ports k old now) where
  others_more : (j : ℕ) → k + 1 ≤ j → slice_get (set now k after) j ≡ slice_get old j
  others_more j high = slice_get-set_other now k j after (λ e. omega (arith, high, e)) ∙ all.others j (omega (arith, high))

  first_was : slice_get old k ≡ Some before
  first_was = sym (all.others k (omega arith)) ∙ was

  last_is : slice_get (set now k after) k ≡ Some after
  last_is = slice_get-set_same now k after within

  pub took_more : TookPiece port.piece.bytes (told before) (told after) → TookAll told ports (k + 1) old (set now k after)
  took_more took = record {
    each = λ j p b a below at_port at_old at_new. elim (same_or_other k j) [
      | inl same ↦ subst (λ i. slice_get ports i ≡ Some p → slice_get old i ≡ Some b → slice_get (set now k after) i ≡ Some a → TookPiece p.piece.bytes (told b) (told a)) same (here p b a) at_port at_old at_new
      | inr apart ↦ all.each j p b a (omega (arith, below, apart)) at_port at_old (sym (slice_get-set_other now k j after apart) ∙ at_new)
    ];
    others = others_more;
  }
    where
      here : (p : Port) (b a : S) → slice_get ports k ≡ Some p → slice_get old k ≡ Some b → slice_get (set now k after) k ≡ Some a → TookPiece p.piece.bytes (told b) (told a)
      here p b a at_port at_old at_new =
          let one : Some port ≡ Some p = sym found ∙ at_port in
          let two : Some before ≡ Some b = sym first_was ∙ at_old in
          let three : Some after ≡ Some a = sym last_is ∙ at_new in
          let same_p : port ≡ p = cc in
          let same_b : before ≡ b = cc in
          let same_a : after ≡ a = cc in
          subst (λ x. TookPiece x.piece.bytes (told b) (told a)) same_p (subst (λ x. TookPiece port.piece.bytes (told x) (told a)) same_b (subst (λ x. TookPiece port.piece.bytes (told before) (told x)) same_a took))

  pub broke : TookPart port.piece.bytes (told before) (told after) → BrokeAt told k ports old (set now k after)
  broke part = record {
    port = port;
    before = before;
    after = after;
    at_port = found;
    was = first_was;
    is = last_is;
    part = part;
    each = λ j p b a below at_port at_old at_new. all.each j p b a below at_port at_old (sym (slice_get-set_other now k j after (λ e. omega (arith, below, e))) ∙ at_new);
    others = others_more;
  }
