-- The logs of a run by threads are a trace.
use Rattle.std.proofs.Common.{◌≡◌, ◌<◌, ◌≤◌, ◌+◌, ◌*◌, ◌-◌, ◌/◌, ◌∙◌, ◌++◌, ◌⊎◌, ℕ, zero, suc, Bool, List, [], ◌∷◌, length, map, slice_index_or, arith, refl, ap, sym, subst, inl, inr}
use Rattle.std.specs.Prelude.{IfSome, None, Option, Some}
use Rattle.std.proofs.lemmas.Nat.{div-mul-add}
use Rattle.std.proofs.Math.Nat.{min-eq_left, min-eq_right, suc-mul}
use Rattle.plan_core.specs.Plans.{IsWellFormed, ReadsBuffer}
use Rattle.plan_core.specs.declared.node.Node.{Node}
use Rattle.plan_core.specs.declared.node.Op.{Op}
use Rattle.plan_core.specs.declared.node.Op.TheVariants.{Buffer}
use Rattle.plan_core.specs.declared.plan.Plan.{Plan}
use Rattle.stream_meaning.specs.Instants.{Setting}
use Rattle.run_records.specs.Records.{AreWindows, Run, Window, setting_in, start, windows_in}
use Rattle.buffer_ends.specs.Local.{Answers}
use Rattle.buffer_sides.specs.Logs.{told}
use Rattle.clock_threads.proofs.Meeting.{low_or_high}
use Rattle.clock_threads.proofs.Starts.{start_zero}
use Rattle.trace_log.specs.Texts.{IsTrace, window_count}
use Rattle.stations.specs.Stations.{Again, InRounds, InWindows, IsLawfulIn, Way}
use Rattle.station_render.specs.Runs.{window_of}
use Rattle.station_render.proofs.Lists.{many_mapped, within}

-- Where each of the numbers below m has a place below n, and no place is that of two, there are at least as many places.
pub places_fit : (n m : ℕ) (At : ℕ → ℕ → Type 0) → ((b : ℕ) → b < m → (i : ℕ) × (i < n) × At b i) → ((a b i : ℕ) → a < m → b < m → At a i → At b i → a ≡ b) → m ≤ n
places_fit n zero At each one = omega arith
places_fit zero (suc m) At each one = let first = each 0 (omega arith) in let low = first.1 in absurd (omega (arith, low))
places_fit (suc n) (suc m) At each one = let rest = places_fit n m Moved moved_each moved_one in omega (arith, rest)
  where
    last : (i : ℕ) × (i < suc n) × At m i
    last = each m (omega arith)

    -- who stood at the last place goes to that of m
    Moved : ℕ → ℕ → Type 0
    Moved b i = At b i ⊎ (At b n × (i ≡ last.0))

    moved_each : (b : ℕ) → b < m → (i : ℕ) × (i < n) × Moved b i
    moved_each b below =
        let found = each b (omega (arith, below)) in
        elim (low_or_high found.0 n) [
          | inl low ↦ (found.0, low, inl found.2)
          | inr high ↦ (
              let inside = found.1 in
              let at_last : found.0 ≡ n = omega (arith, inside, high) in
              let here : At b n = subst (At b) at_last found.2 in
              elim (low_or_high last.0 n) [
                | inl low ↦ (last.0, low, inr (here, refl))
                | inr over ↦ (
                    let within_all = last.1 in
                    let same : last.0 ≡ n = omega (arith, within_all, over) in
                    let is = one b m n (omega (arith, below)) (omega arith) here (subst (At m) same last.2) in
                    absurd (omega (arith, is, below)))
              ])
        ]

    not_m : (b : ℕ) → b < m → At b last.0 → ⊥
    not_m b below at = let is = one b m last.0 (omega (arith, below)) (omega arith) at last.2 in omega (arith, is, below)

    moved_one : (a b i : ℕ) → a < m → b < m → Moved a i → Moved b i → a ≡ b
    moved_one a b i a_below b_below (inl x) (inl y) = one a b i (omega (arith, a_below)) (omega (arith, b_below)) x y
    moved_one a b i a_below b_below (inl x) (inr y) = absurd (not_m a a_below (subst (At a) y.1 x))
    moved_one a b i a_below b_below (inr x) (inl y) = absurd (not_m b b_below (subst (At b) x.1 y))
    moved_one a b i a_below b_below (inr x) (inr y) = one a b n (omega (arith, a_below)) (omega (arith, b_below)) x.0 y.0

same_buffer : (a b : ℕ) → ◌≡◌ {A = Op} (Buffer a) (Buffer b) → a ≡ b
same_buffer a b e = cc

same_reader : (one other : Node) → Some one ≡ Some other → one ≡ other
same_reader one other e = cc

-- a plan has no more buffers than nodes, since each is read by a node of its own
pub few_buffers : (plan : Plan) → IsWellFormed plan → length plan.buffers ≤ 4096
few_buffers plan well =
    let fit = places_fit (length plan.nodes) (length plan.buffers) (λ b i. ReadsBuffer plan b i)
    (λ b below. let found = well.one_reader b below in let reader = found.1 in (found.0, within plan.nodes found.0 reader.0 reader.1, reader))
    (λ a b i a_below b_below x y.
    let same : x.0 ≡ y.0 = same_reader x.0 y.0 (sym x.1 ∙ y.1) in
    same_buffer a b (sym x.2 ∙ ap (λ (n : Node). n.op) same ∙ y.2)) in
    let most : length plan.nodes ≤ 4096 = well.few_nodes in
    omega (arith, fit, most)

-- so many windows there are
windows_counted : (W N count : ℕ) → 0 < W → start W N count ≡ N → ((j : ℕ) → j < count → start W N j < N) → count ≡ window_count N W
windows_counted W N zero some whole tight =
    let z : 0 * W ≡ 0 = grind arith in
    sym (ap (λ n. (n + (W - 1)) / W) (sym whole ∙ start_zero W N ∙ sym z) ∙ div-mul-add 0 W (W - 1) (omega (arith, some)))
windows_counted W N (suc c) some whole tight =
    let m = suc-mul c W in
    let above : c * W < N = (let low = tight c (omega arith) in elim (low_or_high N (c * W)) [
      | inl less ↦ absurd (let e = min-eq_left {n = N} {m = c * W} (omega (arith, less)) in omega (arith, e, low))
      | inr high ↦ (let e = min-eq_right {n = c * W} {m = N} high in omega (arith, e, low))
    ]) in
    let most : N ≤ suc c * W = elim (low_or_high (suc c * W) N) [
      | inl less ↦ absurd (let e = min-eq_right {n = suc c * W} {m = N} (omega (arith, less)) in omega (arith, e, whole, less))
      | inr high ↦ high
    ] in
    let rest = N + (W - 1) - suc c * W in
    let split : N + (W - 1) ≡ suc c * W + rest = omega (arith, m, above, some) in
    sym (ap (λ n. n / W) split ∙ div-mul-add (suc c) W rest (omega (arith, most, some)))

snoc_long : {A : Type 0} (xs : List A) (x : A) → length (xs ++ x ∷ []) ≡ suc (length xs)
snoc_long [] x = refl
snoc_long (y ∷ xs) x = ap suc (snoc_long xs x)

windows_long : (setting : Setting) (clocks : ℕ) (accepted : ℕ → ℕ → ℕ → Bool) (buffer W N count : ℕ) → length (windows_in setting clocks accepted buffer W N count) ≡ count
windows_long setting clocks accepted buffer W N zero = refl
windows_long setting clocks accepted buffer W N (suc j) =
    snoc_long (windows_in setting clocks accepted buffer W N j) _ ∙ ap suc (windows_long setting clocks accepted buffer W N j)

logs_at : (buffers : List (List Window)) (b : ℕ) → slice_index_or (map (map told) buffers) b [] ≡ map told (slice_index_or buffers b [])
logs_at [] b = refl
logs_at (x ∷ xs) zero = refl
logs_at (x ∷ xs) (suc b) = logs_at xs b

-- the logs of a run by threads are a trace within the bounds
pub is_trace : (setting : Setting) (clocks W N : ℕ) (run : Run) (buffers : List (List Answers)) → IsWellFormed setting.plan → N ≤ 1000000000 → 0 < W → W ≤ 1000000 → AreWindows setting clocks W N run
    → buffers ≡ map (map told) run.buffers → IsTrace (record { ticks = N; window = W; buffers = buffers })
is_trace setting clocks W N run buffers well ticks some few lawful are =
    let many = ap length are ∙ many_mapped (map told) run.buffers ∙ lawful.buffers in
    record {
      bounds = record {
        ticks_most = ticks;
        window_least = omega (arith, some);
        window_most = few;
        buffers_most = (let most = few_buffers setting.plan well in omega (arith, many, most));
      };
      logs = λ b below.
          ap (λ (bs : List (List Answers)). length (slice_index_or bs b [])) are ∙ ap length (logs_at run.buffers b) ∙ many_mapped told (slice_index_or run.buffers b [])
          ∙ ap length (lawful.are b (omega (arith, below, many))) ∙ windows_long (setting_in setting run) clocks lawful.accepted b W N lawful.count
          ∙ windows_counted W N lawful.count some lawful.whole lawful.tight;
    }

-- so are those of a run in any way with windows
pub trace_by_way : (setting : Setting) (clocks N : ℕ) (way : Way) (run : Run) (buffers : List (List Answers)) (window : Option ℕ) → window ≡ window_of way → IfSome window (λ W. (0 < W) × (W ≤ 1000000))
    → IsWellFormed setting.plan → N ≤ 1000000000 → IsLawfulIn setting clocks N way run → buffers ≡ map (map told) run.buffers → IfSome window (λ W. IsTrace (record { ticks = N; window = W; buffers = buffers }))
trace_by_way setting clocks N way run buffers None is bounds well ticks lawful are = tt
trace_by_way setting clocks N InRounds run buffers (Some W) is bounds well ticks lawful are = absurd (cc)
trace_by_way setting clocks N (InWindows V) run buffers (Some W) is bounds well ticks lawful are =
    let same : W ≡ V = (cc) in
    is_trace setting clocks W N run buffers well ticks bounds.0 bounds.1 (subst (λ v. AreWindows setting clocks v N run) (sym same) lawful) are
trace_by_way setting clocks N (Again trace) run buffers (Some W) is bounds well ticks lawful are = absurd (cc)
