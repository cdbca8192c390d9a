-- What the two ends keep, over plain variables.
use Rattle.std.proofs.Common.{◌≡◌, ℕ, ◌+◌, ◌≤◌, Bool, true, false, List, [], ◌∷◌, ◌++◌, length, map, sym, refl, ap, ◌∙◌, subst, arith}
use Rattle.atomic_table.specs.Seated.{TableId}
use Rattle.crossbeam_queue.specs.Fifo.{Held}
use Rattle.frame_core.specs.Order.{Fits, last_or, answers_of, Ordered, puts_of, gots_of}
use Rattle.frame_core.specs.Legal.{Legal}
use Rattle.frame_core.proofs.Laws.{fits_yes, fits_no, answers_yes, answers_no, legal_of_order, length-answers_of}
use Rattle.buffer_queue.specs.declared.rule.View.{View}
use Rattle.buffer_queue.specs.Rule.{Cells, IsPut, IsGot, Fills, Drains, both, Whole, contents_of, putter, taker}
use Rattle.buffer_queue.specs.Window.{Window, is_chunk, Closes, Moves, Stays, IsFull, IsEmpty}

abbrev pub PutEnd : TableId → View → List Bool → Type 0
PutEnd t v bs = (v.puts ≡ true) × (v.takes ≡ false) × (v.capacity ≡ t.slots) × Fits t.slots (length v.opening) bs v.put

abbrev pub TakeEnd : TableId → View → List Bool → Type 0
TakeEnd t v bs = (v.takes ≡ true) × (v.puts ≡ false) × (v.capacity ≡ t.slots) × Fits 0 (length v.since) bs v.got

pub put_yes : (t u : TableId) (v w : View) (x : Cells) (bs cs : List Bool) → u ≡ t → IsPut v x w → cs ≡ bs ++ true ∷ [] → PutEnd t v bs → PutEnd u w cs
put_yes t u v w x bs cs e p b k =
    let w' : View = record v { put = v.put ++ (x, p.0) ∷ [] } in
    let goes : PutEnd t w' (bs ++ true ∷ []) = (k.0, k.1, k.2, fits_yes t.slots (length v.opening) bs v.put (x, p.0) k.3) in
    subst (λ (y : TableId × View × List Bool). PutEnd y.0 y.1 y.2) (λ i. (sym e i, sym p.1 i, sym b i)) goes

pub take_yes : (t u : TableId) (v w : View) (x : Cells) (bs cs : List Bool) → u ≡ t → IsGot v x w → cs ≡ bs ++ true ∷ [] → TakeEnd t v bs → TakeEnd u w cs
take_yes t u v w x bs cs e p b k =
    let w' : View = record v { got = v.got ++ (x, p.0) ∷ [] } in
    let goes : TakeEnd t w' (bs ++ true ∷ []) = (k.0, k.1, k.2, fits_yes 0 (length v.since) bs v.got (x, p.0) k.3) in
    subst (λ (y : TableId × View × List Bool). TakeEnd y.0 y.1 y.2) (λ i. (sym e i, sym p.1 i, sym b i)) goes

-- what a full queue of n chunks teaches
pub full_there : (n : ℕ) (t : TableId) (v : View) → n ≡ t.slots → v.capacity ≡ t.slots → Held n (Fills v)
    → (last_or (length v.opening) v.put ≡ t.slots) × (t.slots ≤ length v.opening + length v.put)
full_there n t v a b h = let k = h.2 (h.1 ∙ a ∙ sym b) in (k.0 ∙ b, subst (λ c. c ≤ length v.opening + length v.put) b k.1)

-- what an empty queue teaches
pub empty_there : (v : View) → Held 0 (Drains v) → (last_or (length v.since) v.got ≡ 0) × (length v.since ≤ length v.got)
empty_there v h = h.2 h.1

pub put_no : (t u : TableId) (v w : View) (bs cs : List Bool) → u ≡ t → w ≡ v → cs ≡ bs ++ false ∷ [] → last_or (length v.opening) v.put ≡ t.slots → PutEnd t v bs → PutEnd u w cs
put_no t u v w bs cs e p b l k =
    let goes : PutEnd t v (bs ++ false ∷ []) = (k.0, k.1, k.2, fits_no t.slots (length v.opening) bs v.put l k.3) in
    subst (λ (y : TableId × View × List Bool). PutEnd y.0 y.1 y.2) (λ i. (sym e i, sym p i, sym b i)) goes

pub take_no : (t u : TableId) (v w : View) (bs cs : List Bool) → u ≡ t → w ≡ v → cs ≡ bs ++ false ∷ [] → last_or (length v.since) v.got ≡ 0 → TakeEnd t v bs → TakeEnd u w cs
take_no t u v w bs cs e p b l k =
    let goes : TakeEnd t v (bs ++ false ∷ []) = (k.0, k.1, k.2, fits_no 0 (length v.since) bs v.got l k.3) in
    subst (λ (y : TableId × View × List Bool). TakeEnd y.0 y.1 y.2) (λ i. (sym e i, sym p i, sym b i)) goes

abbrev pub put_window : TableId → View → List Bool → Window
put_window t v bs = record { queue = t; opening = v.opening; left = last_or (length v.opening) v.put; answers = answers_of bs v.put }

abbrev pub take_window : TableId → View → List Bool → Window
take_window t v bs = record { queue = t; opening = v.since; left = last_or (length v.since) v.got; answers = answers_of bs v.got }

-- the answers alone
pub answers_alone : (s d : ℕ) (bs : List Bool) (ms : List (Cells × ℕ)) → Fits s d bs ms → map is_chunk (answers_of bs ms) ≡ bs
answers_alone s d [] [] f = refl
answers_alone s d [] (m ∷ ms) f = refl
answers_alone s d (true ∷ bs) [] f = absurd f
answers_alone s d (true ∷ bs) (m ∷ ms) f = ap (λ l. true ∷ l) (answers_alone s m.1 bs ms f)
answers_alone s d (false ∷ bs) ms f = ap (λ l. false ∷ l) (answers_alone s d bs ms f.1)

pub put_moves : (t u : TableId) (v w : View) (x : Cells) (bs cs : List Bool) (V : Window) → put_window t v bs ≡ V → u ≡ t → IsPut v x w → cs ≡ bs ++ true ∷ [] → PutEnd t v bs → Moves V x (put_window u w cs)
put_moves t u v w x bs cs V is e p b k =
    let here : Moves (put_window t v bs) x (put_window u w cs) = record {
      queue = e;
      opening = ap (λ (y : View). y.opening) p.1;
      answers = (λ i. answers_of (b i) (p.1 i).put) ∙ answers_yes t.slots (length v.opening) bs v.put (x, p.0) k.3;
    } in
    subst (λ (y : Window). Moves y x (put_window u w cs)) is here

pub take_moves : (t u : TableId) (v w : View) (x : Cells) (bs cs : List Bool) (V : Window) → take_window t v bs ≡ V → u ≡ t → IsGot v x w → cs ≡ bs ++ true ∷ [] → TakeEnd t v bs → Moves V x (take_window u w cs)
take_moves t u v w x bs cs V is e p b k =
    let here : Moves (take_window t v bs) x (take_window u w cs) = record {
      queue = e;
      opening = ap (λ (y : View). y.since) p.1;
      answers = (λ i. answers_of (b i) (p.1 i).got) ∙ answers_yes 0 (length v.since) bs v.got (x, p.0) k.3;
    } in
    subst (λ (y : Window). Moves y x (take_window u w cs)) is here

pub put_stops : (t u : TableId) (v w : View) (bs cs : List Bool) (V : Window) → put_window t v bs ≡ V → u ≡ t → w ≡ v → cs ≡ bs ++ false ∷ []
    → (last_or (length v.opening) v.put ≡ t.slots) × (t.slots ≤ length v.opening + length v.put) → PutEnd t v bs → IsFull V × Stays V (put_window u w cs)
put_stops t u v w bs cs V is e p b l k =
    let count = length-answers_of t.slots (length v.opening) bs v.put k.3 in
    let full : IsFull (put_window t v bs) = record { left = l.0; many = omega (arith, l.1, count) } in
    let stays : Stays (put_window t v bs) (put_window u w cs) = record {
      queue = e;
      opening = ap (λ (y : View). y.opening) p;
      left = ap (λ (y : View). last_or (length y.opening) y.put) p;
      answers = (λ i. answers_of (b i) (p i).put) ∙ answers_no t.slots (length v.opening) bs v.put k.3;
    } in
    subst (λ (y : Window). IsFull y × Stays y (put_window u w cs)) is (full, stays)

pub take_stops : (t u : TableId) (v w : View) (bs cs : List Bool) (V : Window) → take_window t v bs ≡ V → u ≡ t → w ≡ v → cs ≡ bs ++ false ∷ []
    → (last_or (length v.since) v.got ≡ 0) × (length v.since ≤ length v.got) → TakeEnd t v bs → IsEmpty V × Stays V (take_window u w cs)
take_stops t u v w bs cs V is e p b l k =
    let count = length-answers_of 0 (length v.since) bs v.got k.3 in
    let none : IsEmpty (take_window t v bs) = record { left = l.0; taken = omega (arith, l.1, count) } in
    let stays : Stays (take_window t v bs) (take_window u w cs) = record {
      queue = e;
      opening = ap (λ (y : View). y.since) p;
      left = ap (λ (y : View). last_or (length y.since) y.got) p;
      answers = (λ i. answers_of (b i) (p i).got) ∙ answers_no 0 (length v.since) bs v.got k.3;
    } in
    subst (λ (y : Window). IsEmpty y × Stays y (take_window u w cs)) is (none, stays)

-- what the turn of a window makes of the two ends
pub closes : (t : TableId) (v w v' w' : View) (bs cs : List Bool) → PutEnd t v bs → TakeEnd t w cs → Whole (both v w) (contents_of (both v w))
    → v' ≡ putter v.capacity (both v w) → w' ≡ taker v.capacity (both v w) → Closes (put_window t v bs) (take_window t w cs) t (put_window t v' []) (take_window t w' [])
closes t v w v' w' bs cs p k whole e f =
    let r = contents_of (both v w) in
    let es = whole.0 in
    let order : Ordered t.slots v.opening es r = subst (λ n. Ordered n v.opening es r) p.2 whole.2 in
    let legal : Legal t.slots r v.opening (answers_of bs (puts_of es)) (answers_of cs (gots_of es)) =
    legal_of_order t.slots r es v.opening bs cs order
    (subst (λ (l : List (Cells × ℕ)). Fits t.slots (length v.opening) bs l) (sym whole.3) p.3)
    (subst (λ (y : List Cells × List (Cells × ℕ)). Fits 0 (length y.0) cs y.1) (λ i. (whole.5 i, sym whole.4 i)) k.3) in record {
      rest = r;
      legal = subst (λ (y : List (Cells × ℕ) × List (Cells × ℕ)). Legal t.slots r v.opening (answers_of bs y.0) (answers_of cs y.1)) (λ i. (whole.3 i, whole.4 i)) legal;
      opening = whole.5;
      puts_next = ap (λ y. put_window t y []) e;
      takes_next = ap (λ y. take_window t y []) f;
      capacity = refl;
    }

-- the same for what clauses see
pub closes_at : (q tp tt up ut : TableId) (v w v' w' : View) (bs cs bs' cs' : List Bool) (P T : Window) → put_window tp v bs ≡ P → take_window tt w cs ≡ T → P.queue ≡ q → T.queue ≡ q
    → up ≡ q → ut ≡ q → bs' ≡ [] → cs' ≡ [] → PutEnd tp v bs → TakeEnd tt w cs → Whole (both v w) (contents_of (both v w))
    → v' ≡ putter v.capacity (both v w) → w' ≡ taker v.capacity (both v w) → Closes P T q (put_window up v' bs') (take_window ut w' cs')
closes_at q tp tt up ut v w v' w' bs cs bs' cs' P T eP eT pq tq uq wq be ce p k whole e f =
    let at : tp ≡ q = ap (λ (x : Window). x.queue) eP ∙ pq in
    let at' : tt ≡ q = ap (λ (x : Window). x.queue) eT ∙ tq in
    let h = closes q v w v' w' bs cs (subst (λ t. PutEnd t v bs) at p) (subst (λ t. TakeEnd t w cs) at' k) whole e f in
    let isP : put_window q v bs ≡ P = ap (λ t. put_window t v bs) (sym at) ∙ eP in
    let isT : take_window q w cs ≡ T = ap (λ t. take_window t w cs) (sym at') ∙ eT in
    let isP' : put_window q v' [] ≡ put_window up v' bs' = λ i. put_window (sym uq i) v' (sym be i) in
    let isT' : take_window q w' [] ≡ take_window ut w' cs' = λ i. take_window (sym wq i) w' (sym ce i) in
    subst (λ (y : Window × Window × Window × Window). Closes y.0 y.1 q y.2 y.3) (λ i. (isP i, isT i, isP' i, isT' i)) h
