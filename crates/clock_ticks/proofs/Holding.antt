-- What the sinks of a clock hold after a tick, by their numbers.
use Rattle.std.proofs.Common.{◌≡◌, ◌<◌, ◌≤◌, ◌+◌, ◌∙◌, ℕ, suc, Bool, true, false, Some, None, Option, List, [], ◌∷◌, map, length, slice_get, nat_eq, cond, arith, refl, ap, sym, subst, inl, inr}
use Rattle.std.proofs.lemmas.Bool.{eqb-true}
use Rattle.std.proofs.lemmas.List.{append-nil}
use Rattle.liq_base.specs.Pieces.{IsPrefix, SinkTold, TookPiece, TookPart, grown}
use Rattle.clock_outputs.specs.declared.port.Port.{Port}
use Rattle.clock_outputs.specs.Appends.{BrokeAt}
use Rattle.clock_outputs.proofs.Places.{low_or_high, same_or_other}
use Rattle.clock_ticks.specs.Engines.{held_in, output_of}

grew_step : (b : Bool) (bytes : List ℕ) (held now rest more : Option (List ℕ)) → (b ≡ true → now ≡ grown bytes held) → more ≡ grown bytes rest → cond b now more ≡ grown bytes (cond b held rest)
grew_step true bytes held now rest more one other = one refl
grew_step false bytes held now rest more one other = other

-- a part of the bytes came
pub record GrewPart (bytes : List ℕ) (before now : Option (List ℕ)) : Type 0 where
  pub part : List ℕ
  pub front : IsPrefix part bytes
  pub is : now ≡ grown part before

grew_nothing : (bytes : List ℕ) (held : Option (List ℕ)) → GrewPart bytes held held
grew_nothing bytes None = record { part = []; front = record { rest = bytes; whole_is = refl }; is = refl }
grew_nothing bytes (Some held) = record { part = []; front = record { rest = bytes; whole_is = refl }; is = ap Some (sym (append-nil held)) }

grew_whole : (bytes : List ℕ) (before now : Option (List ℕ)) → now ≡ grown bytes before → GrewPart bytes before now
grew_whole bytes before now is = record { part = bytes; front = record { rest = []; whole_is = sym (append-nil bytes) }; is = is }

-- so it is of each sink where one failed
pub parts_grew : {S : Type 0} (told : S → SinkTold) (place : ℕ) (ports : List Port) (old new : List S) → BrokeAt told place ports old new
    → (k : ℕ) (port : Port) (before after : S) → slice_get ports k ≡ Some port → slice_get old k ≡ Some before → slice_get new k ≡ Some after
    → GrewPart port.piece.bytes (told before).held (told after).held
parts_grew {S} told place ports old new broke k port before after at was is = elim (same_or_other place k) [
  | inl same ↦ here (subst (λ i. slice_get ports i ≡ Some port) (sym same) at) (subst (λ i. slice_get old i ≡ Some before) (sym same) was) (subst (λ i. slice_get new i ≡ Some after) (sym same) is)
  | inr apart ↦ elim (low_or_high k place) [
    | inl low ↦ grew_whole port.piece.bytes (told before).held (told after).held (broke.each k port before after low at was is).held_grew
    | inr high ↦ left (broke.others k (omega (arith, high, apart)))
  ]
]
  where
    here : slice_get ports place ≡ Some port → slice_get old place ≡ Some before → slice_get new place ≡ Some after → GrewPart port.piece.bytes (told before).held (told after).held
    here at was is =
        let one : Some broke.port ≡ Some port = sym broke.at_port ∙ at in
        let two : Some broke.before ≡ Some before = sym broke.was ∙ was in
        let three : Some broke.after ≡ Some after = sym broke.is ∙ is in
        let same_p : broke.port ≡ port = cc in
        let same_b : broke.before ≡ before = cc in
        let same_a : broke.after ≡ after = cc in
        subst (λ x. GrewPart x.piece.bytes (told before).held (told after).held) same_p
        (subst (λ x. GrewPart broke.port.piece.bytes (told x).held (told after).held) same_b
        (subst (λ x. GrewPart broke.port.piece.bytes (told broke.before).held (told x).held) same_a
        (record { part = broke.part.taken; front = broke.part.is_front; is = broke.part.took.held_grew })))

    left : slice_get new k ≡ slice_get old k → GrewPart port.piece.bytes (told before).held (told after).held
    left same =
        let one : Some after ≡ Some before = sym is ∙ same ∙ was in
        let same_s : before ≡ after = cc in
        subst (λ s. GrewPart port.piece.bytes (told before).held (told s).held) same_s (grew_nothing port.piece.bytes (told before).held)

module _ {S : Type 0} (told : S → SinkTold) (sink : ℕ) (bytes : List ℕ) where
  pub held_grew : (ports : List Port) (old new : List S) → length old ≡ length ports → length new ≡ length ports
      → ((k : ℕ) (port : Port) → slice_get ports k ≡ Some port → port.sink ≡ sink → port.piece.bytes ≡ bytes)
      → ((k : ℕ) (port : Port) (before after : S) → k < length ports → slice_get ports k ≡ Some port → slice_get old k ≡ Some before → slice_get new k ≡ Some after → TookPiece port.piece.bytes (told before) (told after))
      → held_in told (map output_of ports) new sink ≡ grown bytes (held_in told (map output_of ports) old sink)
  held_grew [] old new one two are took = refl
  held_grew (port ∷ ports) [] new one two are took = absurd (omega (arith, one))
  held_grew (port ∷ ports) (o ∷ old) [] one two are took = absurd (omega (arith, two))
  held_grew (port ∷ ports) (o ∷ old) (w ∷ new) one two are took =
      grew_step (nat_eq port.sink sink) bytes (told o).held (told w).held (held_in told (map output_of ports) old sink) (held_in told (map output_of ports) new sink)
      (λ e. (took 0 port o w (omega arith) refl refl refl).held_grew ∙ ap (λ more. grown more (told o).held) (are 0 port refl (eqb-true port.sink sink e)))
      (held_grew ports old new (omega (arith, one)) (omega (arith, two)) (λ k p at. are (suc k) p at) (λ k p b a below. took (suc k) p b a (omega (arith, below))))

  part_step : (b : Bool) (before now rest more : Option (List ℕ)) → (b ≡ true → GrewPart bytes before now) → GrewPart bytes rest more → GrewPart bytes (cond b before rest) (cond b now more)
  part_step true before now rest more one other = one refl
  part_step false before now rest more one other = other

  pub held_part : (ports : List Port) (old new : List S) → length old ≡ length ports → length new ≡ length ports
      → ((k : ℕ) (port : Port) → slice_get ports k ≡ Some port → port.sink ≡ sink → port.piece.bytes ≡ bytes)
      → ((k : ℕ) (port : Port) (before after : S) → slice_get ports k ≡ Some port → slice_get old k ≡ Some before → slice_get new k ≡ Some after → GrewPart port.piece.bytes (told before).held (told after).held)
      → GrewPart bytes (held_in told (map output_of ports) old sink) (held_in told (map output_of ports) new sink)
  held_part [] old new one two are grew = record { part = []; front = record { rest = bytes; whole_is = refl }; is = refl }
  held_part (port ∷ ports) [] new one two are grew = absurd (omega (arith, one))
  held_part (port ∷ ports) (o ∷ old) [] one two are grew = absurd (omega (arith, two))
  held_part (port ∷ ports) (o ∷ old) (w ∷ new) one two are grew =
      part_step (nat_eq port.sink sink) (told o).held (told w).held (held_in told (map output_of ports) old sink) (held_in told (map output_of ports) new sink)
      (λ e. subst (λ piece. GrewPart piece (told o).held (told w).held) (are 0 port refl (eqb-true port.sink sink e)) (grew 0 port o w refl refl refl))
      (held_part ports old new (omega (arith, one)) (omega (arith, two)) (λ k p at. are (suc k) p at) (λ k p b a. grew (suc k) p b a))
