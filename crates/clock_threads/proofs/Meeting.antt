-- A window more of all clocks.
use Rattle.std.proofs.Common.{◌≡◌, ◌≢◌, ◌⊎◌, ℕ, zero, suc, ◌<◌, ◌≤◌, ◌+◌, ◌-◌, ◌==◌, ◌||◌, eqb, Bool, true, false, true≢false, List, [], ◌∷◌, ◌++◌, length, slice_index_or, sym, refl, ap, ◌∙◌, arith, inl, inr, ⊎_elim, append_assoc, append-nil, if◌then◌else◌}
use Rattle.std.proofs.lemmas.Bool.Decides.{eqb_tells}
use Rattle.frame_core.specs.Calls.{Call, takes_of, puts_to}
use Rattle.buffer_queue.specs.Window.{Window as QueueWindow}
use Rattle.buffer_ends.specs.Sides.{Side}
use Rattle.buffer_ends.specs.Ends.{Has}
use Rattle.buffer_ends.specs.Borders.{HasEnd}
use Rattle.clock_threads.specs.TickCalls.{TickCalls, joined_from, Agree}
use Rattle.stream_meaning.specs.Calls.{joined_upto}
use Rattle.clock_threads.proofs.Walking.{joined_alike}
use Rattle.clock_threads.specs.declared.wires.Wire.{Wire}
use Rattle.clock_threads.specs.Wires.{ends_at}
use Rattle.run_records.specs.Records.{start}
use Rattle.clock_threads.specs.Records.{windows_upto}

pub joined_split : (f : ℕ → List Call) (t n : ℕ) → joined_upto f (t + n) ≡ joined_upto f t ++ joined_from f t n
joined_split f t zero = let e : t + 0 ≡ t = omega arith in ap (joined_upto f) e ∙ sym (append-nil (joined_upto f t))
joined_split f t (suc n) =
    let e : t + suc n ≡ suc (t + n) = omega arith in
    ap (joined_upto f) e ∙ (λ i. joined_split f t n i ++ f (t + n)) ∙ append_assoc (joined_upto f t) (joined_from f t n) (f (t + n))

-- the windows that lie below tick t, where the histories agree below it
pub windows_alike : (wire : Wire) (hs gs : ℕ → TickCalls) (b W N j t : ℕ) → ((k : ℕ) → Agree t (hs k) (gs k)) → ((i : ℕ) → i < j → start W N (suc i) ≤ t) → ((i : ℕ) → i < j → start W N i ≤ start W N (suc i))
    → windows_upto wire gs b W N j ≡ windows_upto wire hs b W N j
windows_alike wire hs gs b W N zero t agree below up = refl
windows_alike wire hs gs b W N (suc j) t agree below up =
    let from = start W N j in let count = start W N (suc j) - start W N j in
    let most : from + count ≤ t = let x = below j (omega arith) in let y = up j (omega arith) in omega (arith, x, y) in
    let alike : (k : ℕ) → joined_from (gs k).calls from count ≡ joined_from (hs k).calls from count =
    λ k. joined_alike (λ i. (gs k).calls (from + i)) (λ i. (hs k).calls (from + i)) count (λ i less. (agree k).calls (from + i) (omega (arith, less, most))) in
    (λ i. windows_alike wire hs gs b W N j t agree (λ n less. below n (omega (arith, less))) (λ n less. up n (omega (arith, less))) i
    ++ (puts_to b (alike wire.from i), takes_of b (alike wire.to i)) ∷ [])

-- buffer b joins clock k to another one, or not
pub ends_from : (wire : Wire) (k : ℕ) → wire.from ≡ k → wire.to ≢ k → ends_at wire k ≡ true
ends_from wire k f t =
    ⊎_elim (λ (same : (eqb wire.from wire.to ≡ true) × (wire.from ≡ wire.to)). absurd (t (sym same.1 ∙ f)))
    (λ off. ⊎_elim (λ (here : (eqb wire.from k ≡ true) × (wire.from ≡ k)). (λ i. if off.0 i then false else (here.0 i || wire.to == k))) (λ away. absurd (away.1 f)) (eqb_tells wire.from k))
    (eqb_tells wire.from wire.to)

or_true : (x : Bool) → x || true ≡ true
or_true true = refl
or_true false = refl

pub ends_to : (wire : Wire) (k : ℕ) → wire.to ≡ k → wire.from ≢ k → ends_at wire k ≡ true
ends_to wire k t f =
    ⊎_elim (λ (same : (eqb wire.from wire.to ≡ true) × (wire.from ≡ wire.to)). absurd (f (same.1 ∙ t)))
    (λ off. ⊎_elim (λ (here : (eqb wire.to k ≡ true) × (wire.to ≡ k)). (λ i. if off.0 i then false else (wire.from == k || here.0 i)) ∙ or_true (wire.from == k)) (λ away. absurd (away.1 t)) (eqb_tells wire.to k))
    (eqb_tells wire.from wire.to)

-- where it does, one of its ends is there
pub ends_tell : (wire : Wire) (k : ℕ) → ends_at wire k ≡ true → (wire.from ≢ wire.to) × ((wire.from ≡ k) ⊎ (wire.to ≡ k))
ends_tell wire k e = go (eqb_tells wire.from wire.to)
  where
    which : ((eqb wire.from k ≡ true) × (wire.from ≡ k)) ⊎ ((eqb wire.from k ≡ false) × (wire.from ≢ k)) → ((eqb wire.to k ≡ true) × (wire.to ≡ k)) ⊎ ((eqb wire.to k ≡ false) × (wire.to ≢ k))
        → (wire.from == k || wire.to == k) ≡ true → (wire.from ≡ k) ⊎ (wire.to ≡ k)
    which (inl a) b h = inl a.1
    which (inr a) (inl b) h = inr b.1
    which (inr a) (inr b) h = absurd (true≢false (sym h ∙ (λ i. a.0 i || b.0 i)))

    go : ((eqb wire.from wire.to ≡ true) × (wire.from ≡ wire.to)) ⊎ ((eqb wire.from wire.to ≡ false) × (wire.from ≢ wire.to)) → (wire.from ≢ wire.to) × ((wire.from ≡ k) ⊎ (wire.to ≡ k))
    go (inl same) = absurd (true≢false (sym e ∙ (λ i. if same.0 i then false else (wire.from == k || wire.to == k))))
    go (inr off) = (off.1, which (eqb_tells wire.from k) (eqb_tells wire.to k) (sym (λ i. if off.0 i then false else (wire.from == k || wire.to == k)) ∙ e))

pub true_or_false : (x : Bool) → (x ≡ true) ⊎ (x ≡ false)
true_or_false true = inl refl
true_or_false false = inr refl

pub low_or_high : (j k : ℕ) → (j < k) ⊎ (k ≤ j)
low_or_high j zero = inr (omega arith)
low_or_high zero (suc k) = inl (omega arith)
low_or_high (suc j) (suc k) = elim (low_or_high j k) [ inl low ↦ inl (omega (arith, low)) | inr high ↦ inr (omega (arith, high)) ]

pub has_moved : (sides after : List Side) (b : ℕ) → length after ≡ length sides → ((p : ℕ) (e : Side) → (slice_index_or after p e).buffer ≡ (slice_index_or sides p e).buffer) → Has sides b → Has after b
has_moved sides after b many same h = (h.0, (let low = h.1 in omega (arith, low, many)), λ d. same h.0 d ∙ h.2 d)

pub has_end : (sides : List Side) (b : ℕ) (w : QueueWindow) → HasEnd sides b w → Has sides b
has_end sides b w e = (e.place, e.at.within, λ d. ap (λ (s : Side). s.buffer) (e.at.is d))
