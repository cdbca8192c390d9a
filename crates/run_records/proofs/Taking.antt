-- A reader over two lists of answers: its takes are one, and so is what they leave, or they part.
use Rattle.std.proofs.Common.{◌≡◌, ◌<◌, ◌⊎◌, ◌∙◌, ◌+◌, ◌++◌, ℕ, Bool, true, false, Some, None, List, [], ◌∷◌, length, map, inl, inr, refl, ap, sym, subst}
use Rattle.frame_core.specs.declared.cell.Cell.{Cell}
use Rattle.frame_core.specs.Calls.{Call, Took, Answer}
use Rattle.op_leaf.specs.Readers.{Reader, wants, reader_takes, after_takes, begun}
use Rattle.stream_meaning.specs.Instants.{Reading, next_answers, started}
use Rattle.run_records.specs.Parting.{ArePart, Goes}
use Rattle.run_records.proofs.Deciding.{same_cells}

-- a reader takes the same answers of both, and is then the same
pub record TakesAlike (xs ys : List Answer) (reader : Reader) : Type 0 where
  pub takes : reader_takes xs reader ≡ reader_takes ys reader
  pub leaves : after_takes xs reader ≡ after_takes ys reader

-- with what follows its takes are those of an empty answer
empty_takes : (reader : Reader) → wants reader ≡ true → (reader_takes [] reader ≡ None ∷ [])
empty_takes reader e = rw e refl

module _ (buffers buffer : ℕ) (known : buffer < buffers) where
  parted : (one other : Answer) (xs ys : List Answer) → (one ≡ other → ⊥) → ArePart buffers (map (Took buffer) (one ∷ xs)) (map (Took buffer) (other ∷ ys))
  parted one other xs ys apart = record {
    front = [];
    one = Took buffer one;
    other = Took buffer other;
    behind = map (Took buffer) xs;
    others = map (Took buffer) ys;
    first = refl;
    second = refl;
    differ = (known, refl, apart);
  }

  abbrev pub Reads : List Answer → List Answer → Reader → Type 0
  Reads xs ys reader = Goes buffers (map (Took buffer) (reader_takes xs reader)) (map (Took buffer) (reader_takes ys reader)) (TakesAlike xs ys reader)

  alike : (xs ys : List Answer) (reader : Reader) → reader_takes xs reader ≡ reader_takes ys reader → after_takes xs reader ≡ after_takes ys reader → Reads xs ys reader
  alike xs ys reader takes leaves = inr (record { same = ap (map (Took buffer)) takes; now = record { takes = takes; leaves = leaves } })

  apart : (xs ys : List Answer) (reader : Reader) (one other : Answer) (more others : List Answer) → reader_takes xs reader ≡ one ∷ more → reader_takes ys reader ≡ other ∷ others → (one ≡ other → ⊥) → Reads xs ys reader
  apart xs ys reader one other more others first second differ =
      inl (subst (λ (l : List Answer). ArePart buffers (map (Took buffer) l) (map (Took buffer) (reader_takes ys reader))) (sym first)
      (subst (λ (l : List Answer). ArePart buffers (map (Took buffer) (one ∷ more)) (map (Took buffer) l)) (sym second) (parted one other more others differ)))

  -- a reader that wants nothing
  still_takes : (xs : List Answer) (reader : Reader) → wants reader ≡ false → reader_takes xs reader ≡ []
  still_takes [] reader e = rw e refl
  still_takes (None ∷ xs) reader e = rw e refl
  still_takes (Some chunk ∷ xs) reader e = rw e refl

  still_after : (xs : List Answer) (reader : Reader) → wants reader ≡ false → after_takes xs reader ≡ reader
  still_after [] reader e = refl
  still_after (None ∷ xs) reader e = refl
  still_after (Some chunk ∷ xs) reader e = rw e refl

  none_takes : (xs : List Answer) (reader : Reader) → wants reader ≡ true → reader_takes (None ∷ xs) reader ≡ None ∷ []
  none_takes xs reader e = rw e refl

  some_takes : (chunk : List Cell) (xs : List Answer) (reader : Reader) → wants reader ≡ true → reader_takes (Some chunk ∷ xs) reader ≡ Some chunk ∷ reader_takes xs (record reader { cells = reader.cells ++ chunk })
  some_takes chunk xs reader e = rw e refl

  some_after : (chunk : List Cell) (xs : List Answer) (reader : Reader) → wants reader ≡ true → after_takes (Some chunk ∷ xs) reader ≡ after_takes xs (record reader { cells = reader.cells ++ chunk })
  some_after chunk xs reader e = rw e refl

  -- a reader that wants a chunk
  wanting : (xs ys : List Answer) (reader : Reader) → wants reader ≡ true
      → ((chunk : List Cell) (more others : List Answer) (after : Reader) → xs ≡ Some chunk ∷ more → Reads more others after) → Reads xs ys reader
  wanting [] [] reader e more = alike [] [] reader refl refl
  wanting [] (None ∷ ys) reader e more = alike [] (None ∷ ys) reader refl refl
  wanting [] (Some chunk ∷ ys) reader e more = apart [] (Some chunk ∷ ys) reader None (Some chunk) [] (reader_takes ys (record reader { cells = reader.cells ++ chunk })) (empty_takes reader e) (some_takes chunk ys reader e) (λ (is : ◌≡◌ {A = Answer} None (Some chunk)). absurd cc)
  wanting (None ∷ xs) [] reader e more = alike (None ∷ xs) [] reader refl refl
  wanting (None ∷ xs) (None ∷ ys) reader e more = alike (None ∷ xs) (None ∷ ys) reader refl refl
  wanting (None ∷ xs) (Some chunk ∷ ys) reader e more = apart (None ∷ xs) (Some chunk ∷ ys) reader None (Some chunk) [] (reader_takes ys (record reader { cells = reader.cells ++ chunk })) (none_takes xs reader e) (some_takes chunk ys reader e) (λ (is : ◌≡◌ {A = Answer} None (Some chunk)). absurd cc)
  wanting (Some chunk ∷ xs) [] reader e more = apart (Some chunk ∷ xs) [] reader (Some chunk) None (reader_takes xs (record reader { cells = reader.cells ++ chunk })) [] (some_takes chunk xs reader e) (empty_takes reader e) (λ (is : ◌≡◌ {A = Answer} (Some chunk) None). absurd cc)
  wanting (Some chunk ∷ xs) (None ∷ ys) reader e more = apart (Some chunk ∷ xs) (None ∷ ys) reader (Some chunk) None (reader_takes xs (record reader { cells = reader.cells ++ chunk })) [] (some_takes chunk xs reader e) (none_takes ys reader e) (λ (is : ◌≡◌ {A = Answer} (Some chunk) None). absurd cc)
  wanting (Some chunk ∷ xs) (Some other ∷ ys) reader e more = by (same_cells chunk other)
    where
      after : Reader
      after = record reader { cells = reader.cells ++ chunk }

      go : (other : List Cell) → chunk ≡ other → Reads xs ys after → Reads (Some chunk ∷ xs) (Some other ∷ ys) reader
      go other same (inl part) = inl (record {
        front = Took buffer (Some chunk) ∷ part.front;
        one = part.one;
        other = part.other;
        behind = part.behind;
        others = part.others;
        first = ap (map (Took buffer)) (some_takes chunk xs reader e) ∙ ap (λ (l : List Call). Took buffer (Some chunk) ∷ l) part.first;
        second = ap (λ (c : List Cell). map (Took buffer) (reader_takes (Some c ∷ ys) reader)) (sym same) ∙ ap (map (Took buffer)) (some_takes chunk ys reader e) ∙ ap (λ (l : List Call). Took buffer (Some chunk) ∷ l) part.second;
        differ = part.differ;
      })
      go other same (inr one) = alike (Some chunk ∷ xs) (Some other ∷ ys) reader
          (some_takes chunk xs reader e ∙ ap (λ (l : List Answer). Some chunk ∷ l) one.now.takes ∙ sym (some_takes chunk ys reader e) ∙ ap (λ (c : List Cell). reader_takes (Some c ∷ ys) reader) same)
          (some_after chunk xs reader e ∙ one.now.leaves ∙ sym (some_after chunk ys reader e) ∙ ap (λ (c : List Cell). after_takes (Some c ∷ ys) reader) same)

      by : (chunk ≡ other) ⊎ (chunk ≡ other → ⊥) → Reads (Some chunk ∷ xs) (Some other ∷ ys) reader
      by (inl same) = go other same (more chunk xs ys after refl)
      by (inr differ) = apart (Some chunk ∷ xs) (Some other ∷ ys) reader (Some chunk) (Some other) (reader_takes xs after) (reader_takes ys (record reader { cells = reader.cells ++ other }))
          (some_takes chunk xs reader e) (some_takes other ys reader e) (λ (is : ◌≡◌ {A = Answer} (Some chunk) (Some other)). differ cc)

  reads_by : (xs ys : List Answer) (reader : Reader) → ((chunk : List Cell) (more others : List Answer) (after : Reader) → xs ≡ Some chunk ∷ more → Reads more others after) → Reads xs ys reader
  reads_by xs ys reader more = by (wants reader) refl
    where
      by : (t : Bool) → wants reader ≡ t → Reads xs ys reader
      by false e = alike xs ys reader (still_takes xs reader e ∙ sym (still_takes ys reader e)) (still_after xs reader e ∙ sym (still_after ys reader e))
      by true e = wanting xs ys reader e more

  pub reads : (xs ys : List Answer) (reader : Reader) → Reads xs ys reader
  reads [] ys reader = reads_by [] ys reader (λ chunk more others after e. absurd cc)
  reads (None ∷ xs) ys reader = reads_by (None ∷ xs) ys reader (λ chunk more others after e. absurd cc)
  reads (Some chunk ∷ xs) ys reader = reads_by (Some chunk ∷ xs) ys reader (λ first more others after e. let same : xs ≡ more = cc in subst (λ (l : List Answer). Reads l others after) same (reads xs others after))

-- a reader at the start of a tick
pub started_same : (xs ys : List Answer) (reading : Reading) → TakesAlike (next_answers xs reading) (next_answers ys reading) reading.reader → started xs reading ≡ started ys reading
started_same xs ys reading alike = (λ i. record { reader = begun (alike.leaves i); taken = reading.taken + length (alike.takes i) })
