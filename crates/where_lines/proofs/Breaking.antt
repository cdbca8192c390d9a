-- Lines that were passed on until it broke off.
use Rattle.std.proofs.Common.{◌≡◌, ◌≢◌, ℕ, Option, Some, None, List, [], ◌++◌, refl, sym, subst, arith, append-nil, inl, inr}
use Rattle.std.specs.Prelude.{IfSome}
use Rattle.std.specs.Io.BufRead.{drop_through, take_through}
use Rattle.liq_base.specs.Kept.{rose_within}
use Rattle.liq_base.specs.Pieces.{IsPrefix, SinkTold}
use Rattle.where_lines.specs.Broken.{BrokeOff, CutAt, IsBroken, IsCut, IsFrontOf, OfBehind, OfLine, TookFront}
use Rattle.where_lines.specs.Passes.{Begun, IsBehind, Passes, TookAll}
use Rattle.where_lines.specs.declared.passing.Broke.{Broke}
use Rattle.where_lines.specs.declared.passing.Broke.TheVariants.{Input, Output, Memory}
use Rattle.where_lines.proofs.Passed.{PassedTo, took_none, took_two}

took_nil : (told : List ℕ) (old new : SinkTold) → TookAll told old new → TookAll (told ++ []) old new
took_nil told old new took = subst (λ (t : List ℕ). TookAll t old new) (sym (append-nil told)) took

-- nothing of the next line
cut_none : (file : List ℕ) (script : Option (List ℕ)) (broke : Broke) (rest : List ℕ) → broke ≢ Output → IsCut file script broke rest []
cut_none file script Input rest other = refl
cut_none file script Memory rest other = inl refl
cut_none file script Output rest other = absurd (other refl)

lines_before : (file : List ℕ) (script first now : Option (List ℕ)) (broke : Broke) (told : List ℕ) → broke ≢ Output
    → IfSome first (λ bytes. (rest : List ℕ) × (now ≡ Some rest) × Passes file script bytes rest told)
    → IfSome first (λ bytes. CutAt file script broke bytes told [])
lines_before file script None now broke told other lines = tt
lines_before file script (Some bytes) now broke told other (rest, left, passes) =
    record { rest = rest; passes = passes; cut = cut_none file script broke rest other }

pub broke_before : (file : List ℕ) (script first now : Option (List ℕ)) (broke : Broke) (old new : SinkTold)
    → PassedTo file script first now old new → broke ≢ Output → BrokeOff file script broke first old new
broke_before file script first now broke old new before other = record {
  told = before.told;
  front = [];
  took = took_nil before.told old new before.took;
  lines = lines_before file script first now broke before.told other before.lines;
  cause = λ is. absurd (other is);
}

-- where nothing was read
pub broke_first : (file : List ℕ) (script first : Option (List ℕ)) (told : SinkTold) → BrokeOff file script Memory first told told
broke_first file script None told = record { told = []; front = []; took = took_none told; lines = tt; cause = λ is. absurd cc }
broke_first file script (Some bytes) told =
    record { told = []; front = []; took = took_none told; lines = record { rest = bytes; passes = Begun; cut = inl refl }; cause = λ is. absurd cc }

-- this of the next line
lines_cut : (file : List ℕ) (script first now next : Option (List ℕ)) (broke : Broke) (told line front : List ℕ)
    → IfSome first (λ bytes. (rest : List ℕ) × (now ≡ Some rest) × Passes file script bytes rest told)
    → IfSome now (λ rest. (rest ≢ []) × (line ≡ take_through 10 rest) × (next ≡ Some (drop_through 10 rest)))
    → ((rest : List ℕ) → rest ≢ [] → line ≡ take_through 10 rest → IsCut file script broke rest front)
    → IfSome first (λ bytes. CutAt file script broke bytes told front)
lines_cut file script None now next broke told line front before read cut = tt
lines_cut file script (Some bytes) None next broke told line front (rest, left, passes) read cut = absurd cc
lines_cut file script (Some bytes) (Some now) next broke told line front (rest, left, passes) (some, line_is, next_is) cut =
    let same : now ≡ rest = cc in
    record {
      rest = now;
      passes = subst (λ (r : List ℕ). Passes file script bytes r told) (sym same) passes;
      cut = cut now some line_is;
    }

-- the line itself was not written whole
pub broke_line : (file : List ℕ) (script first now next : Option (List ℕ)) (broke : Broke) (line : List ℕ) (old mid new : SinkTold)
    → PassedTo file script first now old mid
    → IfSome now (λ rest. (rest ≢ []) × (line ≡ take_through 10 rest) × (next ≡ Some (drop_through 10 rest)))
    → broke ≡ Output → TookFront line mid new → BrokeOff file script broke first old new
broke_line file script first now next broke line old mid new before read is part = record {
  told = before.told;
  front = part.front;
  took = took_two before.told part.front old mid new before.took part.took;
  lines = lines_cut file script first now next broke before.told line part.front before.lines read
      (λ rest some line_is. subst (λ (b : Broke). IsCut file script b rest part.front) (sym is)
      (some, OfLine part.front (subst (λ (l : List ℕ). IsPrefix part.front l) line_is part.is_front)));
  cause = λ output. rose_within _ _ _ _ before.took.faults_grew (omega arith) part.rose;
}

-- what comes behind it was not
pub broke_behind : (file : List ℕ) (script first now next : Option (List ℕ)) (broke : Broke) (line : List ℕ) (old mid wrote new : SinkTold)
    → PassedTo file script first now old mid
    → IfSome now (λ rest. (rest ≢ []) × (line ≡ take_through 10 rest) × (next ≡ Some (drop_through 10 rest)))
    → TookAll line mid wrote → IsBroken file script line wrote new broke → BrokeOff file script broke first old new
broke_behind file script first now next Input line old mid wrote new before read one broken = absurd broken
broke_behind file script first now next Memory line old mid wrote new before read one broken = record {
  told = before.told;
  front = line;
  took = subst (λ (t : SinkTold). TookAll (before.told ++ line) old t) (sym broken) (took_two before.told line old mid wrote before.took one);
  lines = lines_cut file script first now next Memory before.told line line before.lines read (λ rest some line_is. inr (some, line_is));
  cause = λ output. absurd cc;
}
broke_behind file script first now next Output line old mid wrote new before read one (behind, is, part) = record {
  told = before.told;
  front = line ++ part.front;
  took = took_two before.told (line ++ part.front) old mid new before.took (took_two line part.front mid wrote new one part.took);
  lines = lines_cut file script first now next Output before.told line (line ++ part.front) before.lines read
      (λ rest some line_is. (
        some,
        subst (λ (l : List ℕ). IsFrontOf file script l (line ++ part.front)) line_is
            (OfBehind behind part.front is part.is_front),
      ));
  cause = λ output. rose_within _ _ _ _ (let a = before.took.faults_grew in let b = one.faults_grew in omega arith) (omega arith) part.rose;
}
