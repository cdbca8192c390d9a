-- A buffer lets chunks go.
use Rattle.std.proofs.Common.{◌≡◌, ◌<◌, ◌+◌, ◌∙◌, ◌++◌, ℕ, zero, suc, true, List, [], ◌∷◌, length, drop, refl, ap, sym, subst, arith, true≢false, append_assoc, length-append}
use Rattle.std.proofs.lemmas.List.{drop-drop}
use Rattle.frame_core.specs.declared.cell.Cell.{Cell}
use Rattle.trace_turns.specs.Answering.{BufferState, SameBuffer, blanks}
use Rattle.trace_turns.specs.Marks.{HasLetGo}

pub blanks_long : (n : ℕ) → length (blanks n) ≡ n
blanks_long zero = refl
blanks_long (suc n) = ap suc (blanks_long n)

drop_blanks : (n : ℕ) (xs : List (List Cell)) → drop n (blanks n ++ xs) ≡ xs
drop_blanks zero xs = refl
drop_blanks (suc n) xs = drop_blanks n xs

-- a put that was accepted
pub accepted_same : (s : BufferState) (held more : List (List Cell)) (chunk : List Cell) → s.chunks ≡ blanks s.gone ++ held → more ≡ held ++ chunk ∷ [] → SameBuffer s (record s { put_at = s.put_at + 1; chunks = blanks s.gone ++ more })
accepted_same s held more chunk are next = record {
  capacity = refl;
  puts = refl;
  takes = refl;
  fed = refl;
  read = refl;
  opened = refl;
  gone = refl;
  put_on = omega arith;
  take_on = omega arith;
  got_on = omega arith;
  there = (chunk ∷ [], ap (λ (l : List (List Cell)). blanks s.gone ++ l) next ∙ sym (append_assoc (blanks s.gone) held (chunk ∷ [])) ∙ ap (λ (l : List (List Cell)). l ++ chunk ∷ []) (sym are));
}

one_less : (l : List (List Cell)) → 0 < length l → suc (length (drop 1 l)) ≡ length l
one_less [] some = absurd (omega (arith, some))
one_less (x ∷ l) some = refl

-- their number, where one goes
pub count_next : (g put : ℕ) (held rest : List (List Cell)) → put ≡ g + length held → rest ≡ drop 1 held → 0 < length held → (put ≡ (g + 1) + length rest) × (put ≡ length (blanks (g + 1) ++ rest))
count_next g put held rest count next some =
    let short = one_less held some in
    let same = ap (λ (l : List (List Cell)). length l) next in
    let long = length-append (blanks (g + 1)) rest in
    let blank = blanks_long (g + 1) in
    (omega (arith, count, short, same), omega (arith, count, short, same, long, blank))

-- one more
pub go_more : (first s : BufferState) (held rest : List (List Cell)) → s.chunks ≡ blanks s.gone ++ held → rest ≡ drop 1 held → 0 < length held → s.gone < s.got → s.read ≡ true → HasLetGo first s
    → HasLetGo first (record s { chunks = blanks (s.gone + 1) ++ rest; gone = s.gone + 1 })
go_more first s held rest are next some less read go =
    let g = s.gone in
    let on : suc g ≡ g + 1 = omega arith in
    let held_next : drop (suc g) s.chunks ≡ rest = (let parts : g + 1 ≡ suc g = omega arith in
    ap (λ n. drop n s.chunks) (sym parts) ∙ sym (drop-drop 1 g s.chunks) ∙ ap (λ (l : List (List Cell)). drop 1 (drop g l)) are ∙ ap (drop 1) (drop_blanks g held) ∙ sym next) in
    let first_next : drop (suc g) s.chunks ≡ drop (suc g) first.chunks = (let parts : g + 1 ≡ suc g = omega arith in
    ap (λ n. drop n s.chunks) (sym parts) ∙ sym (drop-drop 1 g s.chunks) ∙ ap (drop 1) go.rest ∙ drop-drop 1 g first.chunks ∙ ap (λ n. drop n first.chunks) parts) in
    let size = ap (λ (l : List (List Cell)). length l) are ∙ length-append (blanks g) held in
    let blank = blanks_long g in
    let long = length-append (blanks (suc g)) rest in
    let blank_next = blanks_long (suc g) in
    let short : suc (length rest) ≡ length held = ap (λ (l : List (List Cell)). suc (length l)) next ∙ one_less held some in
    let many = go.many in
    let same_got = ap (λ (x : BufferState). x.got) go.same in
    subst (λ n. HasLetGo first (record s { chunks = blanks n ++ rest; gone = n })) on (record {
      same = ap (λ (x : BufferState). record x { chunks = blanks (suc g) ++ rest; gone = suc g }) go.same;
      many = omega (arith, size, blank, long, blank_next, short, many);
      rest = drop_blanks (suc g) rest ∙ sym held_next ∙ first_next;
      on = (let before = go.on in omega (arith, before));
      unread = λ unread. absurd (true≢false (sym read ∙ ap (λ (x : BufferState). x.read) go.same ∙ unread));
      low = λ few. omega (arith, less, same_got);
      most = omega (arith, long, blank_next);
    })
