-- What is left of outputs, while a count of failed writes rises.
use Rattle.std.proofs.Common.{◌≡◌, ◌≤◌, ◌++◌, ◌⊎◌, false, ℕ, List, [], ◌∷◌, append_assoc, append-nil, ap, arith, refl, inl, inr, subst, sym, ◌∙◌}
use Rattle.std.specs.Prelude.{Option, IsSomeAnd}
use Rattle.std.specs.Option.{ForSome}
use Rattle.liq_base.specs.Files.{Files, with_file}
use Rattle.liq_base.specs.Shelves.{ShelfTold}
use Rattle.stations.specs.Outputs.{HoldsEnds, HoldsNext, HoldsSome, HoldsUpto, OutputFile, OutputPart, with_outputs}
use Rattle.stations.specs.Renderings.{StoppedInTicks}
use Rattle.stations.specs.Stations.{IsBegun, Station}
use Rattle.stations.specs.Streams.{parts_with}
use Rattle.stations.proofs.Making.{none_closed, none_more}
use Rattle.run_records.specs.Records.{Run}

-- ends that were looked at from a moment before
pub ends_within : (low count last : ℕ) → low ≤ count → (files : Files) (outputs : List OutputPart) (after : Files) → HoldsEnds count files outputs after last → HoldsEnds low files outputs after last
ends_within low count last below files outputs after ends = record {
  whole = ends.whole;
  broken = ends.broken;
  others = ends.others;
  outputs_are = ends.outputs_are;
  midway = ends.midway;
  next = ends.next;
  rose = (let rose = ends.rose in omega (arith, rose, below));
  part = ends.part;
  behind = ends.behind;
}

-- files after some outputs and then others
pub both_outputs : (files : Files) (xs ys : List OutputFile) → with_outputs files (xs ++ ys) ≡ with_outputs (with_outputs files xs) ys
both_outputs files [] ys = refl
both_outputs files (x ∷ xs) ys = both_outputs (with_file files x.name x.bytes) xs ys

-- files that were written up to one of them, before others
next_front : (files : Files) (outputs more : List OutputFile) (after : Files) → HoldsNext files outputs after → HoldsNext files (outputs ++ more) after
next_front files [] [] after next = next
next_front files [] (output ∷ more) after next = inl next
next_front files (output ∷ outputs) more after next = next

pub upto_front : (files : Files) (outputs more : List OutputFile) (after : Files) → HoldsUpto files outputs after → HoldsUpto files (outputs ++ more) after
upto_front files outputs more after upto = record {
  whole = upto.whole;
  others = upto.others ++ more;
  outputs_are = ap (λ xs. xs ++ more) upto.outputs_are ∙ append_assoc upto.whole upto.others more;
  part = next_front (with_outputs files upto.whole) upto.others more after upto.part;
}

-- and behind others that were written whole
pub upto_then : (files : Files) (outputs more : List OutputFile) (after : Files) → HoldsUpto (with_outputs files outputs) more after → HoldsUpto files (outputs ++ more) after
upto_then files outputs more after upto = record {
  whole = outputs ++ upto.whole;
  others = upto.others;
  outputs_are = ap (λ xs. outputs ++ xs) upto.outputs_are ∙ sym (append_assoc outputs upto.whole upto.others);
  part = subst (λ found. HoldsNext found upto.others after) (sym (both_outputs files outputs upto.whole)) upto.part;
}

-- none of them was written, and all
pub upto_none : (files : Files) (outputs : List OutputFile) → HoldsUpto files outputs files
upto_none files [] = record { whole = []; others = []; outputs_are = refl; part = refl }
upto_none files (output ∷ outputs) = record { whole = []; others = output ∷ outputs; outputs_are = refl; part = inl refl }

pub upto_all : (files : Files) (outputs : List OutputFile) → HoldsUpto files outputs (with_outputs files outputs)
upto_all files outputs = record { whole = outputs; others = []; outputs_are = sym (append-nil outputs); part = refl }

-- nothing was created, for want of memory
pub none_written : (station : Station) (run : Run) (begun : IsBegun station run) → ((m : ℕ) → begun.made m ≡ 0) → (old new : ShelfTold) → old.writes ≤ new.writes → new.files ≡ old.files → new.created ≡ old.created → new.closed ≡ old.closed
    → ForSome old.files (λ files. StoppedInTicks station false files old new)
none_written station run begun idle old new low same kept unclosed files told = record {
  run = run;
  begun = begun;
  parts = λ rest. subst (λ a. IsSomeAnd a (λ now. HoldsSome ((m : ℕ) → begun.made m ≡ 0) false files (parts_with station run begun rest) now old new)) (sym (same ∙ told))
      (record {
        created = [];
        others = parts_with station run begun rest;
        outputs_are = refl;
        unbegun = inr idle;
        told = kept ∙ none_more old.created;
        begun = none_closed old.closed new.closed unclosed;
        first = old.writes;
        grew = omega arith;
        risen = λ did. absurd (cc);
        parts = (refl, low);
      });
}
