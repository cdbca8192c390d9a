-- What a crossfade is filled over a stretch of its sub-clock.
use Rattle.std.proofs.Common.{◌≡◌, ◌<◌, ◌≤◌, ◌+◌, ◌-◌, ◌∙◌, ◌++◌, ℕ, zero, suc, Some, None, List, [], ◌∷◌, map, take, Bool, true, false, arith, refl, ap, sym, append_assoc, inl, inr}
use Rattle.std.specs.Prelude.{not}
use Rattle.std.proofs.lemmas.Bool.{false≢true, cases_lt}
use Rattle.std.proofs.lemmas.List.{append-nil, length-append, take_all, take-append-le}
use Rattle.plan_core.specs.Plans.{AreNodes}
use Rattle.clock_infer.specs.declared.clock_map.NodeClock.{NodeClock}
use Rattle.clock_infer.specs.declared.clock_map.NodeClock.TheVariants.{Sub}
use Rattle.frame_core.specs.declared.cell.Cell.{Cell}
use Rattle.std.proofs.lemmas.List.Elements.{All-push}
use Rattle.frame_core.specs.Slots.{Slot, title_of, is_inner}
use Rattle.op_cross.proofs.Running.{inner_more}
use Rattle.stream_meaning.specs.Instants.{Setting, IsMeaning, crossfaded, gives, first_instants, moment_after, offer}
use Rattle.stretch_laws.specs.Stretches.{AreFilled, IsStretch, going_on, lane}
use Rattle.stretch_laws.proofs.Stretching.{alike_all}
use Rattle.stretch_laws.proofs.Titling.{keeps_title}

pub first_instants_go_on : (setting : Setting) (sub : ℕ → ℕ → List Slot) (clock : NodeClock) (n j : ℕ) → first_instants setting sub clock (n + j) ≡ going_on setting sub clock j (first_instants setting sub clock n)
first_instants_go_on setting sub clock n zero = let e : n + 0 ≡ n = omega arith in ap (first_instants setting sub clock) e
first_instants_go_on setting sub clock n (suc j) =
    let e : n + suc j ≡ suc (n + j) = omega arith in
    ap (first_instants setting sub clock) e ∙ ap (λ past. moment_after setting sub clock past ∷ past) (first_instants_go_on setting sub clock n j)

inner_cell : (slot : Slot) → is_inner slot ≡ true → (cell : Cell) × (slot ≡ Some cell) × (cell.first ≡ false)
inner_cell None e = absurd (false≢true e)
inner_cell (Some cell) e = (cell, refl, stops cell.first e)
  where
    stops : (first : Bool) → not first ≡ true → first ≡ false
    stops true e = absurd (false≢true e)
    stops false e = refl

mapped_more : (cells : List Cell) (cell : Cell) → map Some cells ++ Some cell ∷ [] ≡ map Some (cells ++ cell ∷ [])
mapped_more [] cell = refl
mapped_more (a ∷ cells) cell = ap (λ l. Some a ∷ l) (mapped_more cells cell)

module _ (setting : Setting) (sub : ℕ → ℕ → List Slot) (means : IsMeaning setting sub) (k n0 instants : ℕ) (nodes : AreNodes setting.plan.nodes)
    (stretch : IsStretch setting sub (Sub k) (first_instants setting sub (Sub k) n0) instants)
    (gave : gives (moment_after setting sub (Sub k) (first_instants setting sub (Sub k) n0)) (crossfaded setting.plan.nodes k) ≡ true) where
  abbrev Title : ℕ
  Title = title_of (offer (moment_after setting sub (Sub k) (first_instants setting sub (Sub k) n0)) (crossfaded setting.plan.nodes k))

  -- the slot at an instant of the stretch
  next_slot : (n j : ℕ) → n ≡ n0 + j → 0 < j → j < instants
      → (cell : Cell) × (sub k (suc n) ≡ sub k n ++ Some cell ∷ []) × (cell.first ≡ false) × (cell.title ≡ Title)
  next_slot n j at some within =
      let like = alike_all setting sub (Sub k) (first_instants setting sub (Sub k) n0) instants nodes stretch j some within in
      let found = inner_cell (lane setting sub (Sub k) (first_instants setting sub (Sub k) n0) j (crossfaded setting.plan.nodes k)) (like.inner (crossfaded setting.plan.nodes k) gave) in
      let past : first_instants setting sub (Sub k) n ≡ going_on setting sub (Sub k) j (first_instants setting sub (Sub k) n0) = ap (first_instants setting sub (Sub k)) at ∙ first_instants_go_on setting sub (Sub k) n0 j in (
        found.0,
        means k (suc n)
            ∙ ap (λ l. l ++ offer (moment_after setting sub (Sub k) (first_instants setting sub (Sub k) n)) (crossfaded setting.plan.nodes k) ∷ []) (sym (means k n))
            ∙ ap (λ ms. sub k n ++ offer (moment_after setting sub (Sub k) ms) (crossfaded setting.plan.nodes k) ∷ []) past
            ∙ ap (λ slot. sub k n ++ slot ∷ []) found.1,
        found.2,
        sym (ap title_of found.1) ∙ keeps_title setting sub (Sub k) (first_instants setting sub (Sub k) n0) instants (crossfaded setting.plan.nodes k) j nodes stretch within gave,
      )

  pub are_filled : (n count : ℕ) → n0 < n → n + count ≤ n0 + instants → AreFilled setting sub k n count Title
  are_filled n zero later within = record {
    cells = [];
    inner = tt;
    titled = λ m d low. absurd (omega (arith, low));
    long = refl;
    filled = λ m few. (let e : n + m ≡ n = omega (arith, few) in let z : m ≡ 0 = omega (arith, few) in
        ap (sub k) e ∙ sym (append-nil (sub k n)) ∙ sym (ap (λ i. sub k n ++ map Some (take i ([]))) z));
  }
  are_filled n (suc count) later within =
      let before = are_filled n count later (omega (arith, within)) in
      let next = next_slot (n + count) (n + count - n0) (omega (arith, later)) (omega (arith, later)) (omega (arith, later, within)) in
      let all = length-append before.cells (next.0 ∷ []) in
      let long = before.long in
      record {
        cells = before.cells ++ next.0 ∷ [];
        inner = inner_more before.cells (next.0 ∷ []) before.inner (next.2, tt);
        titled = All-push (λ (cell : Cell). cell.title ≡ Title) before.cells next.0 before.titled next.3;
        long = omega (arith, all, long);
        filled = λ m few. elim (cases_lt m (suc count)) [
          | inl less ↦ before.filled m (omega (arith, less)) ∙ ap (λ l. sub k n ++ map Some l) (sym (take-append-le m before.cells (next.0 ∷ []) (omega (arith, less, long))))
          | inr high ↦ (let e : m ≡ suc count = omega (arith, few, high) in
              let f : n + m ≡ suc (n + count) = omega (arith, e) in
              let whole : take m (before.cells ++ next.0 ∷ []) ≡ before.cells ++ next.0 ∷ [] = take_all m (before.cells ++ next.0 ∷ []) (omega (arith, e, all, long)) in
              ap (sub k) f ∙ next.1
              ∙ ap (λ l. l ++ Some next.0 ∷ []) (before.filled count (omega arith) ∙ ap (λ l. sub k n ++ map Some l) (take_all count before.cells (omega (arith, long))))
              ∙ append_assoc (sub k n) (map Some before.cells) (Some next.0 ∷ [])
              ∙ ap (λ l. sub k n ++ l) (mapped_more before.cells next.0)
              ∙ ap (λ l. sub k n ++ map Some l) (sym whole))
        ];
      }
