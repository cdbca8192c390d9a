-- Each step keeps the rule.
use Rattle.std.proofs.Common.{◌≡◌, ◌≢◌, ℕ, zero, suc, ◌≤◌, true, false, true≢false, List, [], ◌∷◌, ◌++◌, length, set, sym, refl, ap, ◌∙◌, subst, ⊎_elim, arith}
use mathlib.Core.Option.{some, some-ne-none, some-injective}
use lib.ListN.{get_elem?}
use Rattle.crossbeam_queue.specs.Fifo.{Pushes, Pops, Forks, Merges, Learns}
use Rattle.crossbeam_queue.proofs.Lists.{at_set, at_snoc}
use Rattle.frame_core.specs.Order.{Move, left_by}
use Rattle.frame_core.specs.Order.Move.{Put, Got}
use Rattle.frame_core.proofs.Laws.{puts_of-put, puts_of-got, gots_of-put, gots_of-got, ordered_put, ordered_got, ordered_most, full_left, empty_left, ordered_left, ordered_sum}
use Rattle.buffer_queue.specs.declared.rule.View.{View}
use Rattle.buffer_queue.specs.Rule.{Cells, idle, newcomer, contents_of, putter, taker, both, FitsView, Holds, IsPut, IsGot, Fills, Drains, Whole}

at_end : (l : List View) (a b : View) (j : ℕ) → get_elem? l j ≢ some b → get_elem? (l ++ a ∷ []) j ≡ some b → j ≡ length l
at_end [] a b zero n e = refl
at_end [] a b (suc j) n e = absurd (some-ne-none b (sym e))
at_end (x ∷ xs) a b zero n e = absurd (n e)
at_end (x ∷ xs) a b (suc j) n e = ap suc (at_end xs a b j n e)

abbrev Each : (ℕ → View → Type 0) → List View → Type 0
Each F views = (port : ℕ) (v : View) → get_elem? views port ≡ some v → F port v

each_set : (F : ℕ → View → Type 0) (views : List View) (port : ℕ) (w : View) → F port w → ((j : ℕ) (u : View) → j ≢ port → get_elem? views j ≡ some u → F j u) → Each F (set views port w)
each_set F views port w mine others j u e = ⊎_elim (λ (x : (j ≡ port) × (w ≡ u)). subst (λ (y : ℕ × View). F y.0 y.1) (λ i. (sym x.0 i, x.1 i)) mine)
    (λ (x : (j ≢ port) × (get_elem? views j ≡ some u)). others j u x.0 x.1) (at_set views port j w u e)

pub begins : Holds [] (newcomer ∷ [])
begins = (0, 0, 0, [], [], omega arith, refl, λ port v e. begin port v e)
  where
    begin : (port : ℕ) (v : View) → get_elem? (newcomer ∷ []) port ≡ some v → FitsView 0 0 0 [] [] port v
    begin zero v e = let is : newcomer ≡ v = some-injective newcomer v e in subst (λ (u : View). FitsView 0 0 0 [] [] 0 u) is ((λ _. (refl, refl, refl, refl)), λ _. (refl, refl, refl, refl))
    begin (suc port) v e = absurd (some-ne-none v (sym e))

pub puts : (n port : ℕ) (v : View) (x : Cells) → v.puts ≡ true → v.capacity ≡ n → v.takes ≡ false → Pushes Holds n port v x (IsPut v x)
puts n port v x may cap not items views room h at =
    let C = h.0 in let writer = h.1 in let reader = h.2 in let q = h.3 in let es = h.4 in let all = h.7 in
    let mine = (all port v at).0 may in
    let k : ℕ = length (items ++ x ∷ []) in
    let w : View = record v { put = v.put ++ (x, k) ∷ [] } in
    let es' : List (Move Cells) = es ++ Put x k ∷ [] in (
      w,
      (
        C,
        writer,
        reader,
        q,
        es',
        h.5,
        ordered_put C es q items x (omega (arith, mine.1)) h.6,
        each_set (FitsView C writer reader q es') views port w
            ((λ _. (mine.0, mine.1, mine.2, ap (λ l. l ++ (x, k) ∷ []) mine.3 ∙ sym (puts_of-put es x k))), λ p. absurd (true≢false (sym p ∙ not)))
            (λ j u other e. ((λ p. absurd (other (((all j u e).0 p).0 ∙ sym mine.0))), λ p. let t = (all j u e).1 p in (t.0, t.1, t.2, t.3 ∙ sym (gots_of-put es x k)))),
      ),
      (k, refl),
    )

pub takes : (port : ℕ) (v : View) → v.takes ≡ true → v.puts ≡ false → Pops Holds port v (IsGot v)
takes port v may not x items views h at =
    let C = h.0 in let writer = h.1 in let reader = h.2 in let q = h.3 in let es = h.4 in let all = h.7 in
    let mine = (all port v at).1 may in
    let k : ℕ = length items in
    let w : View = record v { got = v.got ++ (x, k) ∷ [] } in
    let es' : List (Move Cells) = es ++ Got x k ∷ [] in (
      w,
      (
        C,
        writer,
        reader,
        q,
        es',
        h.5,
        ordered_got C es q items x h.6,
        each_set (FitsView C writer reader q es') views port w
            ((λ p. absurd (true≢false (sym p ∙ not))), λ _. (mine.0, mine.1, mine.2, ap (λ l. l ++ (x, k) ∷ []) mine.3 ∙ sym (gots_of-got es x k)))
            (λ j u other e. ((λ p. let t = (all j u e).0 p in (t.0, t.1, t.2, t.3 ∙ sym (puts_of-got es x k))), λ p. absurd (other (((all j u e).1 p).0 ∙ sym mine.0)))),
      ),
      (k, refl),
    )

pub fills : (port : ℕ) (v : View) → v.puts ≡ true → Learns Holds port v (Fills v)
fills port v may items views h at e =
    let mine = (h.7 port v at).0 may in
    let r = full_left h.0 h.4 h.3 items h.5 h.6 (e ∙ mine.1) in
    rw (mine.1, mine.2, mine.3) (r, omega (arith, ordered_sum h.0 h.4 h.3 items h.6, e, mine.1))

pub drains : (port : ℕ) (v : View) → v.takes ≡ true → Learns Holds port v (Drains v)
drains port v may items views h at e =
    let mine = (h.7 port v at).1 may in
    let r = empty_left h.0 h.4 h.3 items h.6 e in
    rw (mine.2, mine.3) (r, omega (arith, ordered_sum h.0 h.4 h.3 items h.6, e))

pub whole : (port : ℕ) (v : View) → v.puts ≡ true → v.takes ≡ true → Learns Holds port v (Whole v)
whole port v a b items views h at =
    let p = (h.7 port v at).0 a in let t = (h.7 port v at).1 b in
    (h.4, rw (p.1, p.2) h.5, rw (p.1, p.2) h.6, sym p.3, sym t.3, t.2 ∙ sym p.2)

pub merges : (port : ℕ) (v : View) (other : ℕ) (u : View) → v.puts ≡ true → u.takes ≡ true → Merges Holds port v other u (both v u) idle
merges port v other u a b items views h at two at' =
    let C = h.0 in let writer = h.1 in let q = h.3 in let es = h.4 in let all = h.7 in
    let vs : List View = set views port (both v u) in
    let mine = (all port v at).0 a in
    let was : get_elem? views other ≡ some u = ⊎_elim (λ x. absurd (two x.0)) (λ x. x.1) (at_set views port other (both v u) u at') in
    let theirs = (all other u was).1 b in
    let Now : ℕ → View → Type 0 = λ j y. j ≢ other → FitsView C writer port q es j y in
    let now : Each Now vs = each_set Now views port (both v u)
    (λ _. ((λ _. mine), λ _. (refl, mine.1, theirs.2, theirs.3)))
    (λ j y away e apart. ((λ p. (all j y e).0 p), λ p. absurd (apart (((all j y e).1 p).0 ∙ sym theirs.0)))) in (
      C,
      writer,
      port,
      q,
      es,
      h.5,
      h.6,
      each_set (FitsView C writer port q es) vs other idle ((λ p. absurd (true≢false (sym p))), λ p. absurd (true≢false (sym p))) (λ j y apart e. now j y e apart),
    )

-- what a pass with both roles knows of the contents
pub contents : (v : View) (items : List Cells) → Whole v items → items ≡ contents_of v
contents v items w = ordered_left v.capacity w.0 v.opening items w.2 ∙ (λ i. left_by v.opening (w.3 i) (w.4 i))

pub opens : (port : ℕ) (v : View) (n : ℕ) → v.puts ≡ true → v.takes ≡ true → v.capacity ≤ n → Forks Holds port v (putter n v) (taker n v)
opens port v n a b room items views h at =
    let known : Whole v items = whole port v a b items views h at in
    let l : View = putter n v in let r : View = taker n v in let vs : List View = set views port l in
    let q = contents_of v in
    let here : q ≡ items = sym (contents v items known) in
    let all = h.7 in let p = (all port v at).0 a in let t = (all port v at).1 b in
    let short : length q ≤ n = omega (arith, ap length here, ordered_most h.0 h.4 h.3 items h.5 h.6, p.1) in
    let Old : ℕ → View → Type 0 = λ j u. (u.puts ≡ true → (j ≡ port) × (u.capacity ≡ n) × (u.opening ≡ q) × (u.put ≡ [])) × (u.takes ≢ true) in
    let old : Each Old vs = each_set Old views port l ((λ _. (refl, refl, refl, refl)), λ x. true≢false (sym x))
    (λ j u other e. ((λ x. absurd (other (((all j u e).0 x).0 ∙ sym p.0))), λ x. other (((all j u e).1 x).0 ∙ sym t.0))) in (
      n,
      port,
      length vs,
      q,
      [],
      short,
      here,
      λ j u e. ⊎_elim (λ x. ((old j u x).0, λ y. absurd ((old j u x).1 y)))
          (λ (is : r ≡ u). (
            (λ y. absurd (true≢false (sym (ap (λ (z : View). z.puts) is ∙ y)))),
            λ y. (at_end vs r u j (λ x. (old j u x).1 y) e, ap (λ (z : View). z.capacity) (sym is), ap (λ (z : View). z.since) (sym is), ap (λ (z : View). z.got) (sym is)),
          ))
          (at_snoc vs r u j e),
    )

pub spares : (port : ℕ) (v : View) → Forks Holds port v v idle
spares port v items views h at =
    let all = h.7 in let F : ℕ → View → Type 0 = FitsView h.0 h.1 h.2 h.3 h.4 in
    let same : Each F (set views port v) = each_set F views port v (all port v at) (λ j u other e. all j u e) in (
      h.0,
      h.1,
      h.2,
      h.3,
      h.4,
      h.5,
      h.6,
      λ j u e. ⊎_elim (λ x. same j u x)
          (λ (is : idle ≡ u). subst (λ (z : View). F j z) is ((λ p. absurd (true≢false (sym p))), λ p. absurd (true≢false (sym p))))
          (at_snoc (set views port v) idle u j e),
    )

-- what was learned holds of the contents
pub known : (v : View) → (items : List Cells) × Whole v items → Whole v (contents_of v)
known v k = subst (λ (l : List Cells). Whole v l) (contents v k.0 k.1) k.1
