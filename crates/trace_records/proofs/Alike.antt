-- Calls that one text answers do not part.
use Rattle.std.proofs.Common.{◌≡◌, ◌≢◌, ◌<◌, ◌≤◌, ◌∙◌, ◌++◌, ◌⊎◌, ℕ, suc, Bool, true, is_some, Some, None, List, [], ◌∷◌, length, map, inl, inr, refl, ap, sym, subst, arith, append_assoc, length-append, true≢false}
use Rattle.std.proofs.lemmas.Bool.{cases_eq}
use Rattle.frame_core.specs.declared.cell.Cell.{Cell}
use Rattle.clock_infer.specs.declared.clock_map.ClockMap.{ClockMap}
use Rattle.frame_core.specs.Frames.{somes}
use Rattle.frame_core.specs.Calls.{Call, Took, Given, takes_of, puts_to, put_of, Answer}
use Rattle.stream_meaning.specs.Instants.{Setting, answered}
use Rattle.stream_meaning.specs.Calls.{calls_of_tick}
use Rattle.stream_meaning.specs.Settings.{IsSetting}
use Rattle.run_records.specs.Parting.{ArePart, Differ, Goes, IsSameCall}
use Rattle.run_records.specs.Alike.{IsTickAlike}
use Rattle.run_records.specs.Outputs.{first_calls}
use Rattle.run_records.proofs.Parting.{joined_first}
use Rattle.run_records.proofs.Ticking.{ticks_go}
use Rattle.run_records.specs.Buffers.{feeder, reader}
use Rattle.run_records.specs.Records.{capacity_of}
use Rattle.trace_records.specs.Clocks.{Agree, AreAnswered, AreInOrder, CanCome, IsFront, Joins, Log, NeverComes, Suits, Waits, got_in, puts_in, takes_in}
use Rattle.trace_records.proofs.Fronts.{Meets, answered_first, got_more, here_agree, here_same, meets, put_told, puts_cons, takes_cons, told_puts, told_takes}
use Rattle.trace_records.proofs.Fronts.Meets.{before, same, behind}

module _ (base : Setting) (text : ℕ → Log) (chunks others : ℕ → List (List Cell)) (agree : (b : ℕ) → b < length base.plan.buffers → Joins base b → Agree (chunks b) (others b)) where
  abbrev Bs : ℕ
  Bs = length base.plan.buffers

  -- where both lists of calls are answered in order
  same_take : (b : ℕ) (f u v : List Call) (answer got : Answer) → b < Bs → AreAnswered base text chunks (f ++ Took b answer ∷ u) → AreAnswered base text others (f ++ Took b got ∷ v)
      → AreInOrder base (f ++ Took b answer ∷ u) → AreInOrder base (f ++ Took b got ∷ v) → answer ≡ got
  same_take b f u v answer got low one two order orders =
      let told : is_some answer ≡ is_some got = here_same (map is_some (takes_of b f)) (map is_some (takes_of b u)) (map is_some (takes_of b v)) (takes_in (text b)) (is_some answer) (is_some got)
      (subst (λ (l : List Bool). IsFront l (takes_in (text b))) (told_takes b f (Took b answer ∷ u) ∙ ap (λ (l : List Answer). map is_some (takes_of b f) ++ map is_some l) (takes_cons b answer u)) (one.takes b low))
      (subst (λ (l : List Bool). IsFront l (takes_in (text b))) (told_takes b f (Took b got ∷ v) ∙ ap (λ (l : List Answer). map is_some (takes_of b f) ++ map is_some l) (takes_cons b got v)) (two.takes b low)) in
      by (cases_eq (feeder base b) (reader base b)) answer got told
      (λ joins. subst (λ (l : List (List Cell)). IsFront l (chunks b)) (got_more b f (Took b answer ∷ u) ∙ ap (λ (l : List Answer). somes (takes_of b f) ++ somes l) (takes_cons b answer u)) (one.got b low joins))
      (λ joins. subst (λ (l : List (List Cell)). IsFront l (others b)) (got_more b f (Took b got ∷ v) ∙ ap (λ (l : List Answer). somes (takes_of b f) ++ somes l) (takes_cons b got v)) (two.got b low joins))
      (order.each f u (Took b answer) refl low) (orders.each f v (Took b got) refl low)
    where
      by : (feeder base b ≡ reader base b) ⊎ (feeder base b ≢ reader base b) → (answer got : Answer) → is_some answer ≡ is_some got
          → (Joins base b → IsFront (somes (takes_of b f) ++ somes (answer ∷ takes_of b u)) (chunks b)) → (Joins base b → IsFront (somes (takes_of b f) ++ somes (got ∷ takes_of b v)) (others b))
          → (feeder base b ≡ reader base b → Suits (capacity_of base b) (somes (puts_to b f)) (got_in b f) (Took b answer))
          → (feeder base b ≡ reader base b → Suits (capacity_of base b) (somes (puts_to b f)) (got_in b f) (Took b got)) → answer ≡ got
      by which None None e first second suits suit = refl
      by which None (Some chunk) e first second suits suit = absurd (true≢false (sym e))
      by which (Some chunk) None e first second suits suit = absurd (true≢false e)
      by (inr joins) (Some chunk) (Some cells) e first second suits suit =
          ap (λ (c : List Cell). Some c) (here_agree (somes (takes_of b f)) (somes (takes_of b u)) (somes (takes_of b v)) (chunks b) (others b) chunk cells (first joins) (second joins) (agree b low joins))
      by (inl local) (Some chunk) (Some cells) e first second suits suit = sym (suits local) ∙ suit local

  same_put : (b : ℕ) (f u v : List Call) (chunk : List Cell) (kept full : Bool) → b < Bs → AreAnswered base text chunks (f ++ Given b chunk kept ∷ u) → AreAnswered base text others (f ++ Given b chunk full ∷ v) → kept ≡ full
  same_put b f u v chunk kept full low one two =
      put_told chunk kept full (here_same (map is_some (puts_to b f)) (map is_some (puts_to b u)) (map is_some (puts_to b v)) (puts_in (text b)) (is_some (put_of chunk kept)) (is_some (put_of chunk full))
      (subst (λ (l : List Bool). IsFront l (puts_in (text b))) (told_puts b f (Given b chunk kept ∷ u) ∙ ap (λ (l : List Answer). map is_some (puts_to b f) ++ map is_some l) (puts_cons b chunk kept u)) (one.puts b low))
      (subst (λ (l : List Bool). IsFront l (puts_in (text b))) (told_puts b f (Given b chunk full ∷ v) ∙ ap (λ (l : List Answer). map is_some (puts_to b f) ++ map is_some l) (puts_cons b chunk full v)) (two.puts b low)))

  not_apart : (f u v : List Call) (one other : Call) → Differ Bs one other → AreAnswered base text chunks (f ++ one ∷ u) → AreAnswered base text others (f ++ other ∷ v)
      → AreInOrder base (f ++ one ∷ u) → AreInOrder base (f ++ other ∷ v) → ⊥
  not_apart f u v (Took b answer) (Took c got) differ first second order orders =
      let is : Took c got ≡ Took b got = ap (λ (n : ℕ). Took n got) (sym differ.1) in
      differ.2 (same_take b f u v answer got differ.0 first (subst (λ (x : Call). AreAnswered base text others (f ++ x ∷ v)) is second) order (subst (λ (x : Call). AreInOrder base (f ++ x ∷ v)) is orders))
  not_apart f u v (Took b answer) (Given c chunk accepted) differ first second order orders = differ
  not_apart f u v (Given b chunk accepted) (Took c answer) differ first second order orders = differ
  not_apart f u v (Given b chunk kept) (Given c cells full) differ first second order orders =
      let number = sym differ.1 in let cells_are = sym differ.2 in
      let is : Given c cells full ≡ Given b chunk full = (λ i. Given (number i) (cells_are i) full) in
      differ.3 (same_put b f u v chunk kept full differ.0 first (subst (λ (x : Call). AreAnswered base text others (f ++ x ∷ v)) is second))

  -- calls that one text answers do not part
  pub never_part : (xs ys : List Call) → AreAnswered base text chunks xs → AreAnswered base text others ys → AreInOrder base xs → AreInOrder base ys → ArePart Bs xs ys → ⊥
  never_part xs ys one two order orders part = not_apart part.front part.behind part.others part.one part.other part.differ
      (subst (AreAnswered base text chunks) part.first one) (subst (AreAnswered base text others) part.second two)
      (subst (AreInOrder base) part.first order) (subst (AreInOrder base) part.second orders)

differ_alike : (buffers : ℕ) (one other : Call) → Differ buffers one other → IsSameCall one other
differ_alike buffers (Took b answer) (Took c got) differ = differ.1
differ_alike buffers (Took b answer) (Given c chunk accepted) differ = differ
differ_alike buffers (Given b chunk accepted) (Took c answer) differ = differ
differ_alike buffers (Given b chunk accepted) (Given c cells full) differ = (differ.1, differ.2)

alike_self : (call : Call) → IsSameCall call call
alike_self (Took b answer) = refl
alike_self (Given b chunk accepted) = (refl, refl)

module _ (base : Setting) (map_of : ClockMap) (is : IsSetting base map_of) (text : ℕ → Log) (m : ℕ) where
  abbrev B : ℕ
  B = length base.plan.buffers

  abbrev made_in : (ℕ → List Answer) → (ℕ → ℕ → Bool) → ℕ → List Call
  made_in given accepted n = first_calls (answered base given) accepted m n

  -- the first ticks of more
  made_first : (given : ℕ → List Answer) (accepted : ℕ → ℕ → Bool) (t n : ℕ) → t ≤ n → (rest : List Call) × (made_in given accepted n ≡ made_in given accepted t ++ rest)
  made_first given accepted t n low = joined_first (λ j. calls_of_tick (answered base given) (accepted j) m j) t n low

  pub answered_upto : (chunks : ℕ → List (List Cell)) (given : ℕ → List Answer) (accepted : ℕ → ℕ → Bool) (t n : ℕ) → t ≤ n → AreAnswered base text chunks (made_in given accepted n) → AreAnswered base text chunks (made_in given accepted t)
  answered_upto chunks given accepted t n low answered =
      let more = made_first given accepted t n low in
      answered_first base text chunks (made_in given accepted t) more.0 (subst (AreAnswered base text chunks) more.1 answered)

  pub order_upto : (given : ℕ → List Answer) (accepted : ℕ → ℕ → Bool) (t n : ℕ) → t ≤ n → AreInOrder base (made_in given accepted n) → AreInOrder base (made_in given accepted t)
  order_upto given accepted t n low order =
      let more = made_first given accepted t n low in
      record {
        each = λ front behind call at. order.each front (behind ++ more.0) call (more.1 ∙ ap (λ (l : List Call). l ++ more.0) at ∙ append_assoc front (call ∷ behind) more.0);
      }

  module _ (chunks others : ℕ → List (List Cell)) (agree : (b : ℕ) → b < B → Joins base b → Agree (chunks b) (others b)) (given gets : ℕ → List Answer) (accepted keeps : ℕ → ℕ → Bool) where
    -- the same ticks, as far as both were made
    pub same_ticks : (n k t : ℕ) → t ≤ n → t ≤ k → AreAnswered base text chunks (made_in given accepted n) → AreAnswered base text others (made_in gets keeps k)
        → AreInOrder base (made_in given accepted n) → AreInOrder base (made_in gets keeps k) → made_in given accepted t ≡ made_in gets keeps t
    same_ticks n k t low high one two order orders = by (ticks_go base map_of is given gets accepted keeps m t)
      where
        by : Goes B (made_in given accepted t) (made_in gets keeps t) (IsTickAlike base given gets m t) → made_in given accepted t ≡ made_in gets keeps t
        by (inl part) = absurd (never_part base text chunks others agree (made_in given accepted t) (made_in gets keeps t) (answered_upto chunks given accepted t n low one) (answered_upto others gets keeps t k high two)
            (order_upto given accepted t n low order) (order_upto gets keeps t k high orders) part)
        by (inr one) = one.same

    -- a tick that was made with a call that had no right answer, beside one of a clock that made it
    module _ (n k : ℕ) (low : suc n ≤ k) (front behind_it : List Call) (call : Call) (at : made_in given accepted (suc n) ≡ front ++ call ∷ behind_it)
        (answered_front : AreAnswered base text chunks front) (order_front : AreInOrder base front) (two : AreAnswered base text others (made_in gets keeps k)) (order : AreInOrder base (made_in gets keeps k)) where
      abbrev ys : List Call
      ys = made_in gets keeps (suc n)

      ys_answered : AreAnswered base text others ys
      ys_answered = answered_upto others gets keeps (suc n) k low two

      ys_order : AreInOrder base ys
      ys_order = order_upto gets keeps (suc n) k low order

      -- what comes in them can come
      can_come : (f v : List Call) (z : Call) → ys ≡ f ++ z ∷ v → CanCome base text f z
      can_come f v z e =
          let here : AreAnswered base text others (f ++ z ∷ []) = answered_first base text others (f ++ z ∷ []) v (subst (AreAnswered base text others) (e ∙ sym (append_assoc f (z ∷ []) v)) ys_answered) in
          record { puts = here.puts; takes = here.takes; suits = ys_order.each f v z e }

      -- a call like it comes behind the same calls
      pub record Comes : Type 0 where
        pub other : Call
        pub alike : IsSameCall call other
        pub more : List Call
        pub there : ys ≡ front ++ other ∷ more

      pub comes : Comes
      comes = by (ticks_go base map_of is given gets accepted keeps m (suc n))
        where
          met : (part : ArePart B (made_in given accepted (suc n)) ys) → Meets part.front part.behind front behind_it part.one call → Comes
          met part (before w e) = absurd (never_part base text chunks others agree front ys answered_front ys_answered order_front ys_order (record {
            front = part.front;
            one = part.one;
            other = part.other;
            behind = w;
            others = part.others;
            first = e;
            second = part.second;
            differ = part.differ;
          }))
          met part (same e one all) = record {
            other = part.other;
            alike = subst (λ (x : Call). IsSameCall x part.other) one (differ_alike B part.one part.other part.differ);
            more = part.others;
            there = part.second ∙ ap (λ (l : List Call). l ++ part.other ∷ part.others) e;
          }
          met part (behind w e) = record {
            other = call;
            alike = alike_self call;
            more = w ++ part.other ∷ part.others;
            there = part.second ∙ ap (λ (l : List Call). l ++ part.other ∷ part.others) e ∙ append_assoc front (call ∷ w) (part.other ∷ part.others);
          }

          by : Goes B (made_in given accepted (suc n)) ys (IsTickAlike base given gets m (suc n)) → Comes
          by (inr one) = record { other = call; alike = alike_self call; more = behind_it; there = sym one.same ∙ at }
          by (inl part) = met part (meets part.front part.behind front behind_it part.one call (sym part.first ∙ at))

      -- so it can come
      pub never : NeverComes base text front call → ⊥
      never none = let it = comes in none it.other it.alike (can_come front it.more it.other it.there)

      -- and where it waits, more chunks are got in the end than are there
      pub waits : (w : Waits base text chunks front call) → length (chunks w.buffer) < got_in w.buffer ys
      waits w = by comes.other comes.more (subst (λ (x : Call). IsSameCall x comes.other) w.take comes.alike) comes.there
        where
          got_it : (answer : Answer) (more : List Call) → ys ≡ front ++ Took w.buffer answer ∷ more → is_some answer ≡ true → length (chunks w.buffer) < got_in w.buffer ys
          got_it None more e some = absurd (true≢false (sym some))
          got_it (Some chunk) more e some =
              let all : somes (takes_of w.buffer ys) ≡ somes (takes_of w.buffer front) ++ chunk ∷ somes (takes_of w.buffer more) =
              ap (λ (l : List Call). somes (takes_of w.buffer l)) e ∙ got_more w.buffer front (Took w.buffer (Some chunk) ∷ more)
              ∙ ap (λ (l : List Answer). somes (takes_of w.buffer front) ++ somes l) (takes_cons w.buffer (Some chunk) more) in
              let size = length-append (somes (takes_of w.buffer front)) (chunk ∷ somes (takes_of w.buffer more)) in
              let same = ap (λ (l : List (List Cell)). length l) all in
              let low = w.missing in omega (arith, size, same, low)

          by : (other : Call) (more : List Call) → IsSameCall (Took w.buffer None) other → ys ≡ front ++ other ∷ more → length (chunks w.buffer) < got_in w.buffer ys
          by (Took c answer) more alike e =
              let there : ys ≡ front ++ Took w.buffer answer ∷ more = e ∙ ap (λ (b : ℕ). front ++ Took b answer ∷ more) (sym alike) in
              got_it answer more there (w.gets answer (can_come front more (Took w.buffer answer) there))
          by (Given c chunk accepted) more alike e = absurd alike
