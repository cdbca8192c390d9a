-- Engines that take sinks and give them back.
use Rattle.std.proofs.Common.{◌≡◌, ◌<◌, ◌≤◌, ◌+◌, ◌∙◌, ◌++◌, ℕ, zero, suc, Bool, Some, List, [], ◌∷◌, length, set, slice_get, arith, ap, sym, subst, add-one}
use Rattle.std.proofs.lemmas.List.{map-append, length-append}
use Rattle.clock_ticks.specs.declared.engine.ClockEngine.{ClockEngine}
use Rattle.stream_meaning.specs.Instants.{Setting}
use Rattle.station_render.specs.Engines.{AreAt, AreEmptyBelow, AreKeeping, IsAt, outs_of, pooled}
use Rattle.station_render.proofs.Lists.{each_more, many_mapped, set_many, set_other, within}
use Rattle.station_render.proofs.Pools.{empty_below_fewer, empty_below_more, empty_last, pool_back, pool_more}

module _ {S : Type 0} where
  -- what is put back after it was taken out
  pub put_again : (lists : List (List S)) (k : ℕ) (out again : List S) → slice_get lists k ≡ Some out → again ≡ out → set (set lists k []) k again ≡ lists
  put_again [] k out again at same = absurd (cc)
  put_again (list ∷ lists) zero out again at same = (let is : list ≡ out = (cc) in ap (λ l. l ∷ lists) (same ∙ sym is))
  put_again (list ∷ lists) (suc k) out again at same = ap (λ ls. list ∷ ls) (put_again lists k out again at same)

  pub outs_more : (engines : List (ClockEngine S)) (engine : ClockEngine S) → outs_of (engines ++ engine ∷ []) ≡ outs_of engines ++ engine.outs ∷ []
  outs_more engines engine = map-append (λ (e : ClockEngine S). e.outs) engines (engine ∷ [])

  pub outs_many : (engines : List (ClockEngine S)) → length (outs_of engines) ≡ length engines
  outs_many engines = many_mapped (λ (e : ClockEngine S). e.outs) engines

  -- the last engine gives its sinks back
  pub back_one : (engines front : List (ClockEngine S)) (engine : ClockEngine S) (lists : List (List S)) (outs : List S) → engines ≡ front ++ engine ∷ [] → outs ≡ engine.outs
      → length engines ≤ length lists → pooled (outs_of engines) lists ≡ pooled (outs_of front) (set lists (length front) outs)
  back_one engines front engine lists outs is same few =
      let low : length (outs_of front) < length lists = (let many = outs_many front in let all = ap length is ∙ length-append front (engine ∷ []) in omega (arith, many, all, few)) in
      ap (λ es. pooled (outs_of es) lists) is ∙ ap (λ os. pooled os lists) (outs_more front engine) ∙ pool_back (outs_of front) lists engine.outs low
      ∙ ap (λ n. pooled (outs_of front) (set lists n engine.outs)) (outs_many front) ∙ ap (λ o. pooled (outs_of front) (set lists (length front) o)) (sym same)

  pub at_more : (setting : Setting) (engines : List (ClockEngine S)) (engine : ClockEngine S) → AreAt setting engines → IsAt setting (length engines) engine → AreAt setting (engines ++ engine ∷ [])
  at_more setting engines engine at is = record {
    each = each_more (λ (n : ℕ) (e : ClockEngine S). IsAt setting n e) engines engine (λ k e found. at.each k e found) is;
  }

  -- the place of the last engine is empty
  pub giving_here : (engines front : List (ClockEngine S)) (engine : ClockEngine S) (lists : List (List S)) (n : ℕ) → engines ≡ front ++ engine ∷ [] → n ≡ length front
      → length engines ≤ length lists → AreEmptyBelow (length engines) lists → slice_get lists n ≡ Some []
  giving_here engines front engine lists n is n_is few empty =
      let one : length engines ≡ length front + 1 = ap length is ∙ length-append front (engine ∷ []) in
      let one_more : length engines ≡ suc n = omega (arith, one, n_is) in
      empty_last n lists (omega (arith, one_more, few)) (subst (λ k. AreEmptyBelow k lists) one_more empty)

  -- the last engine gives its sinks back
  module _ (engines front : List (ClockEngine S)) (engine : ClockEngine S) (lists lists_new : List (List S)) (outs : List S) (n : ℕ) (is : engines ≡ front ++ engine ∷ []) (same : outs ≡ engine.outs)
      (n_is : n ≡ length front) (new_is : lists_new ≡ set lists n outs) (few : length engines ≤ length lists) where
    one_fewer : length engines ≡ length front + 1
    one_fewer = ap length is ∙ length-append front (engine ∷ [])

    now_is : lists_new ≡ set lists (length front) outs
    now_is = new_is ∙ ap (λ k. set lists k outs) n_is

    pub giving_few : length front ≤ length lists_new
    giving_few = let many = ap length now_is ∙ set_many lists (length front) outs in let less = one_fewer in omega (arith, many, less, few)

    pub giving_empty : AreEmptyBelow (length engines) lists → AreEmptyBelow (length front) lists_new
    giving_empty empty =
        let below : AreEmptyBelow (suc (length front)) lists = subst (λ k. AreEmptyBelow k lists) (one_fewer ∙ add-one (length front)) empty in
        subst (λ ls. AreEmptyBelow (length front) ls) (sym now_is) (empty_below_fewer (length front) lists outs below)

    pub giving_pool : (whole : List (List S)) → pooled (outs_of engines) lists ≡ whole → pooled (outs_of front) lists_new ≡ whole
    giving_pool whole all = ap (pooled (outs_of front)) now_is ∙ sym (back_one engines front engine lists outs is same few) ∙ all

  -- one more engine takes its sinks
  module _ (engines engines_new : List (ClockEngine S)) (engine : ClockEngine S) (lists lists_new : List (List S)) (clock : ℕ) (is : engines_new ≡ engines ++ engine ∷ []) (count : length engines ≡ clock)
      (there : slice_get lists clock ≡ Some engine.outs) (taken : lists_new ≡ set lists clock []) where
    pub taking_many : length lists_new ≡ length lists
    taking_many = ap length taken ∙ set_many lists clock []

    pub taking_count : length engines_new ≡ clock + 1
    taking_count = ap length is ∙ length-append engines (engine ∷ []) ∙ ap (λ n. n + 1) count

    pub taking_empty : AreEmptyBelow clock lists → AreEmptyBelow (clock + 1) lists_new
    taking_empty empty =
        subst (λ n. AreEmptyBelow n lists_new) (sym (add-one clock))
        (subst (λ ls. AreEmptyBelow (suc clock) ls) (sym taken) (empty_below_more clock lists (within lists clock engine.outs there) empty))

    pub taking_pool : pooled (outs_of engines_new) lists_new ≡ pooled (outs_of engines) lists
    taking_pool =
        let place : length (outs_of engines) ≡ clock = outs_many engines ∙ count in
        ap (λ es. pooled (outs_of es) lists_new) is ∙ ap (λ os. pooled os lists_new) (outs_more engines engine) ∙ ap (pooled (outs_of engines ++ engine.outs ∷ [])) taken
        ∙ ap (λ n. pooled (outs_of engines ++ engine.outs ∷ []) (set lists n [])) (sym place)
        ∙ pool_more (outs_of engines) lists engine.outs (ap (slice_get lists) place ∙ there)

    pub taking_left : (m : ℕ) (group : List S) → clock + 1 ≤ m → slice_get lists_new m ≡ Some group → slice_get lists m ≡ Some group
    taking_left m group above at = sym (set_other lists clock m [] (λ e. omega (arith, above, e))) ∙ ap (λ ls. slice_get ls m) (sym taken) ∙ at

    pub taking_at : (setting : Setting) → AreAt setting engines → IsAt setting clock engine → AreAt setting engines_new
    taking_at setting at here =
        subst (λ es. AreAt setting es) (sym is) (at_more setting engines engine at (subst (λ n. IsAt setting n engine) (sym count) here))

-- one more engine keeps its marks, or does not
pub taking_keeping : {S : Type 0} (wanted : Bool) (engines more : List (ClockEngine S)) (engine : ClockEngine S) → more ≡ engines ++ engine ∷ [] → AreKeeping wanted engines
    → engine.parts.cues.keeping ≡ wanted → AreKeeping wanted more
taking_keeping {S = S} wanted engines more engine items keep one m other at =
    each_more (λ (n : ℕ) (e : ClockEngine S). e.parts.cues.keeping ≡ wanted) engines engine keep one m other
    (ap (λ es. slice_get es m) (sym items) ∙ at)
