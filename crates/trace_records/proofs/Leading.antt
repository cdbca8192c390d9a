-- Where buffers lead onward every lawful record can be ordered: clock by clock.
use Rattle.std.proofs.Common.{◌≡◌, ◌<◌, ◌≤◌, ◌∙◌, ◌++◌, ℕ, zero, suc, Bool, true, false, cond, nat_eq, List, [], ◌∷◌, length, map, flat_map, inl, inr, refl, ap, sym, subst, arith, append_assoc, append-nil, length-append}
use Rattle.std.proofs.lemmas.Bool.{cases_eq}
use Rattle.std.proofs.lemmas.Bool.Decides.{nat_tests}
use Rattle.clock_infer.specs.declared.clock_map.ClockMap.{ClockMap}
use Rattle.frame_core.specs.declared.cell.Cell.{Cell}
use Rattle.frame_core.specs.Frames.{somes}
use Rattle.frame_core.specs.Calls.{Call, Answer}
use Rattle.stream_meaning.specs.Instants.{Setting, answered}
use Rattle.stream_meaning.specs.Calls.{joined_upto}
use Rattle.stream_meaning.specs.Settings.{IsSetting}
use Rattle.run_records.specs.Outputs.{first_calls}
use Rattle.run_records.specs.Buffers.{feeder, reader}
use Rattle.run_records.specs.Ordered.{IsOrdered, made as counted, text_of_window}
use Rattle.run_records.specs.Records.{AreWindows, Run, Window, answers_of, calls_in, capacity_of, puts_of, setting_in, windows_of}
use Rattle.run_records.proofs.Alone.{feeder_runs}
use Rattle.trace_records.specs.Clocks.{Log, got_in, put_by}
use Rattle.trace_records.specs.Passes.{AreOrdered}
use Rattle.trace_records.specs.Listings.{LeadOnward, seen}
use Rattle.trace_records.proofs.Alike.{order_upto}
use Rattle.trace_records.proofs.Fronts.{no_items}
use Rattle.trace_records.proofs.Passing.{put_at}
use Rattle.trace_records.proofs.Recorded.{made_is, record_puts, record_takes, replayed, run_whole}
use Rattle.trace_records.proofs.Turning.{got_before, got_longer, ordered_more}

equal_self : (n : ℕ) → nat_eq n n ≡ true
equal_self n = grind (arith, nat_tests)

seen_snoc : (k : ℕ) (ks : List ℕ) (m : ℕ) → seen k (ks ++ m ∷ []) ≡ cond (nat_eq m k) (suc (seen k ks)) (seen k ks)
seen_snoc k [] m = refl
seen_snoc k (j ∷ ks) m = by (nat_eq j k) (nat_eq m k) (seen_snoc k ks m)
  where
    by : (s u : Bool) → seen k (ks ++ m ∷ []) ≡ cond u (suc (seen k ks)) (seen k ks)
        → cond s (suc (seen k (ks ++ m ∷ []))) (seen k (ks ++ m ∷ [])) ≡ cond u (suc (cond s (suc (seen k ks)) (seen k ks))) (cond s (suc (seen k ks)) (seen k ks))
    by true true e = ap suc e
    by true false e = ap suc e
    by false true e = e
    by false false e = e

seen_more : (k : ℕ) (ks others : List ℕ) → seen k ks ≤ seen k (ks ++ others)
seen_more k [] others = omega arith
seen_more k (j ∷ ks) others = by (nat_eq j k) (seen_more k ks others)
  where
    by : (s : Bool) → seen k ks ≤ seen k (ks ++ others) → cond s (suc (seen k ks)) (seen k ks) ≤ cond s (suc (seen k (ks ++ others))) (seen k (ks ++ others))
    by true low = omega (arith, low)
    by false low = low

-- so many ticks of one clock more
module _ (base : Setting) (clocks : ℕ) (ticks : ℕ → ℕ → List Call) (made : ℕ → ℕ) (m : ℕ) (low : m < clocks) (none : made m ≡ 0) (n : ℕ)
    (early : (t : ℕ) → t < n → (order : List (ℕ × ℕ)) → ((k : ℕ) → k < clocks → counted k order ≡ put_at m t made k) → (b : ℕ) → b < length base.plan.buffers → reader base b ≡ m
    → got_in b (ticks m (suc t)) ≤ put_by b (ticks (feeder base b) (counted (feeder base b) order))) where
  abbrev OrderAt : ℕ → Type 0
  OrderAt t = (order : List (ℕ × ℕ)) × AreOrdered base clocks ticks (put_at m t made) order

  goes_on : (t : ℕ) → t < n → OrderAt t → OrderAt (suc t)
  goes_on t within so_far =
      let order = so_far.0 in let are = so_far.1 in
      let here : put_at m t made m ≡ t = ap (λ (s : Bool). cond s t (made m)) (equal_self m) in
      let more = ordered_more base clocks ticks (put_at m t made) order are m low (λ b known read. subst (λ (j : ℕ). got_in b (ticks m (suc j)) ≤ put_by b (ticks (feeder base b) (counted (feeder base b) order))) (sym here)
      (early t within order are.all b known read)) in (
        order ++ (m, put_at m t made m) ∷ [],
        record { all = λ k there. more.all k there ∙ by k (nat_eq k m) here; each = more.each; earlier = more.earlier },
      )
    where
      by : (k : ℕ) (s : Bool) → put_at m t made m ≡ t → cond s (suc (put_at m t made m)) (cond s t (made k)) ≡ cond s (suc t) (made k)
      by k true here = ap suc here
      by k false here = refl

  pub extend : (t : ℕ) → t ≤ n → (order : List (ℕ × ℕ)) → AreOrdered base clocks ticks made order → OrderAt t
  extend zero within order are = (order, record { all = λ k there. are.all k there ∙ by k (nat_eq k m) refl; each = are.each; earlier = are.earlier })
    where
      by : (k : ℕ) (s : Bool) → nat_eq k m ≡ s → made k ≡ cond s 0 (made k)
      by k true e = (let here : k ≡ m = grind (arith, nat_tests) in ap made here ∙ none)
      by k false e = refl
  extend (suc t) within order are = goes_on t within (extend t (omega (arith, within)) order are)

module _ (base : Setting) (map_of : ClockMap) (is : IsSetting base map_of) (W N : ℕ) (run : Run) (lawful : AreWindows base map_of.running W N run) (listing : List ℕ) (lead : LeadOnward base map_of.running listing) where
  abbrev C : ℕ
  C = map_of.running

  abbrev B : ℕ
  B = length base.plan.buffers

  text : ℕ → Log
  text b = map text_of_window (windows_of run b)

  told_is : (b : ℕ) → b < B → map text_of_window (windows_of run b) ≡ text b
  unfolding text
  told_is b known = refl

  abbrev ticks : ℕ → ℕ → List Call
  ticks m t = joined_upto (calls_in (setting_in base run) C lawful.accepted m) t

  -- so many ticks a clock has made behind these clocks of the list
  abbrev made_by : List ℕ → ℕ → ℕ
  made_by done k = cond (nat_eq (seen k done) 0) 0 N

  -- what a clock gets was put before
  early_at : (before behind : List ℕ) (m : ℕ) → listing ≡ before ++ m ∷ behind → (t : ℕ) → t < N → (order : List (ℕ × ℕ)) → ((k : ℕ) → k < C → counted k order ≡ put_at m t (made_by before) k) → (b : ℕ) → b < B → reader base b ≡ m
      → got_in b (ticks m (suc t)) ≤ put_by b (ticks (feeder base b) (counted (feeder base b) order))
  early_at before behind m e t less order count b known read =
      let f = feeder base b in
      let runs : f < C = feeder_runs base map_of is b known in
      let there : m < C = lead.each before behind m e in
      let rec = replayed base map_of is W N text run lawful told_is m there in
      elim (cases_eq f m) [
        | inl fed ↦ (let number : counted f order ≡ t = count f runs ∙ ap (λ (j : ℕ). put_at m t (made_by before) j) fed ∙ ap (λ (s : Bool). cond s t (made_by before m)) (equal_self m) in
            let order_now = order_upto base map_of is text m (answers_of run) (lawful.accepted m) (suc t) N less rec.in_order in
            let low = got_before base b known (fed ∙ sym read) (answers_of run) (lawful.accepted m) m t order_now in
            let gets = ap (got_in b) (made_is base map_of is W N text run lawful told_is m there (suc t)) in
            let puts : put_by b (ticks f (counted f order)) ≡ put_by b (first_calls (answered base (answers_of run)) (lawful.accepted m) m t) =
            (λ i. put_by b (ticks (fed i) (number i))) ∙ ap (put_by b) (sym (made_is base map_of is W N text run lawful told_is m there t)) in
            omega (arith, low, gets, puts))
        | inr other ↦ (let first : seen f before ≡ 1 = lead.onward before behind m b e known (λ local. other (local ∙ read)) read in
            let some : nat_eq (seen f before) 0 ≡ false = grind (arith, nat_tests, first) in
            let number : counted f order ≡ N = count f runs ∙ (let off : nat_eq f m ≡ false = grind (arith, nat_tests, other) in ap (λ (s : Bool). cond s t (made_by before f)) off) ∙ ap (λ (s : Bool). cond s 0 N) some in
            let legal = lawful.legal b known in
            let whole = run_whole (capacity_of base b) [] legal.0 (windows_of run b) legal.1 in
            let size = ap (λ (l : List (List Cell)). length l) whole in
            let parts = length-append (somes (flat_map (λ (w : Window). w.1) (windows_of run b))) legal.0 in
            let gets = got_longer b (calls_in (setting_in base run) C lawful.accepted m) (suc t) N less in
            let all : got_in b (ticks m N) ≡ length (somes (answers_of run b)) = ap (λ (k : ℕ). got_in b (ticks k N)) (sym read) ∙ ap (λ (l : List Answer). length (somes l)) (sym (record_takes base map_of is W N text run lawful told_is b known)) in
            let puts : put_by b (ticks f (counted f order)) ≡ length (somes (puts_of run b)) = ap (λ (j : ℕ). put_by b (ticks f j)) number ∙ ap (λ (l : List Answer). length (somes l)) (sym (record_puts base map_of is W N text run lawful told_is b known)) in
            omega (arith, size, parts, gets, all, puts))
      ]

  walk : (before rest : List ℕ) → listing ≡ before ++ rest → (order : List (ℕ × ℕ)) → AreOrdered base C ticks (made_by before) order → (all : List (ℕ × ℕ)) × AreOrdered base C ticks (made_by listing) all
  walk before [] e order are = (order, subst (λ (l : List ℕ). AreOrdered base C ticks (made_by l) order) (sym (e ∙ append-nil before)) are)
  walk before (m ∷ rest) e order are =
      let there : m < C = lead.each before rest m e in
      let one = lead.all m there in
      let parts = ap (seen m) (e ∙ sym (append_assoc before (m ∷ []) rest)) in
      let most = seen_more m (before ++ m ∷ []) rest in
      let snoc = seen_snoc m before m ∙ ap (λ (s : Bool). cond s (suc (seen m before)) (seen m before)) (equal_self m) in
      let fresh : seen m before ≡ 0 = omega (arith, one, parts, most, snoc) in
      let zero_now : nat_eq (seen m before) 0 ≡ true = grind (arith, nat_tests, fresh) in
      let next = extend base C ticks (made_by before) m there (ap (λ (s : Bool). cond s 0 N) zero_now) N (early_at before rest m e) N (omega arith) order are in
      walk (before ++ m ∷ []) rest (e ∙ sym (append_assoc before (m ∷ []) rest)) next.0 (record {
        all = λ k low. next.1.all k low ∙ by k (nat_eq k m) refl;
        each = next.1.each;
        earlier = next.1.earlier;
      })
    where
      by : (k : ℕ) (s : Bool) → nat_eq k m ≡ s → cond s N (made_by before k) ≡ made_by (before ++ m ∷ []) k
      by k true e = (let here : m ≡ k = grind (arith, nat_tests) in let on : nat_eq m k ≡ true = grind (arith, nat_tests, here) in
          let is' : seen k (before ++ m ∷ []) ≡ suc (seen k before) = seen_snoc k before m ∙ ap (λ (s : Bool). cond s (suc (seen k before)) (seen k before)) on in
          let some : nat_eq (seen k (before ++ m ∷ [])) 0 ≡ false = grind (arith, nat_tests, is') in sym (ap (λ (s : Bool). cond s 0 N) some))
      by k false e = (let off : nat_eq m k ≡ false = grind (arith, nat_tests) in
          let is' : seen k (before ++ m ∷ []) ≡ seen k before = seen_snoc k before m ∙ ap (λ (s : Bool). cond s (suc (seen k before)) (seen k before)) off in sym (ap (λ (n : ℕ). cond (nat_eq n 0) 0 N) is'))

  pub ordered_onward : IsOrdered (setting_in base run) C lawful.accepted N
  ordered_onward =
      let found = walk [] listing refl [] (record { all = λ k low. refl; each = λ before behind m t e. absurd (no_tick before behind m t e); earlier = λ before behind m t b e known read. absurd (no_tick before behind m t e) }) in
      record {
        order = found.0;
        all = λ m low. found.1.all m low ∙ (let one = lead.all m low in let some : nat_eq (seen m listing) 0 ≡ false = grind (arith, nat_tests, one) in ap (λ (s : Bool). cond s 0 N) some);
        each = found.1.each;
        earlier = λ before behind m t b e known read. subst (λ (k : ℕ). got_in b (ticks k (suc t)) ≤ put_by b (ticks (feeder base b) (counted (feeder base b) before))) (sym read) (found.1.earlier before behind m t b e known read);
      }
    where
      no_tick : (before behind : List (ℕ × ℕ)) (m t : ℕ) → [] ≡ before ++ (m, t) ∷ behind → ⊥
      no_tick [] behind m t e = no_items (m, t) behind e
      no_tick (c ∷ before) behind m t e = no_items c (before ++ (m, t) ∷ behind) e
