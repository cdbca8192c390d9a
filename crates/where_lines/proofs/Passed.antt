-- Lines that were passed on, one by one.
use Rattle.std.proofs.Common.{◌≡◌, ◌≢◌, ◌∙◌, ℕ, Option, Some, None, List, [], ◌++◌, arith, refl, ap, sym, subst, append-nil, append_assoc}
use Rattle.std.specs.Prelude.{IfSome}
use Rattle.std.specs.Io.BufRead.{drop_through, take_through}
use Rattle.std.specs.Str.{IsUtf8}
use Rattle.liq_base.specs.Pieces.{SinkTold, grown}
use Rattle.script_places.specs.Naming.{IsNamed}
use Rattle.script_places.specs.Pointing.{pointer}
use Rattle.script_places.specs.declared.named.Named.{Named}
use Rattle.where_lines.specs.Beginning.{Begins, IsNowhere}
use Rattle.where_lines.specs.Passes.{AllPassed, Begun, IsBehind, Line, NoName, NoPlace, NoText, Passes, Shown, TookAll, closing_of, told_of}

-- the lines of what was left at first were passed on, but for what is left now
pub record PassedTo (file : List ℕ) (script first now : Option (List ℕ)) (old new : SinkTold) : Type 0 where
  pub told : List ℕ
  pub took : TookAll told old new
  pub lines : IfSome first (λ bytes. (rest : List ℕ) × (now ≡ Some rest) × Passes file script bytes rest told)

grown_none : (held : Option (List ℕ)) → held ≡ grown [] held
grown_none None = refl
grown_none (Some bytes) = ap Some (sym (append-nil bytes))

grown_twice : (one other : List ℕ) (held : Option (List ℕ)) → grown other (grown one held) ≡ grown (one ++ other) held
grown_twice one other None = refl
grown_twice one other (Some bytes) = ap Some (append_assoc bytes one other)

pub took_none : (told : SinkTold) → TookAll [] told told
took_none told = record { held_grew = grown_none told.held; room_kept = refl; name_kept = refl; faults_grew = omega arith }

pub took_two : (one other : List ℕ) (old mid new : SinkTold) → TookAll one old mid → TookAll other mid new → TookAll (one ++ other) old new
took_two one other old mid new first second = record {
  held_grew = second.held_grew ∙ ap (grown other) first.held_grew ∙ grown_twice one other old.held;
  room_kept = second.room_kept ∙ first.room_kept;
  name_kept = second.name_kept ∙ first.name_kept;
  faults_grew = (let low = first.faults_grew in let high = second.faults_grew in omega (arith, low, high));
}

pub begun : (file : List ℕ) (script first : Option (List ℕ)) (told : SinkTold) → PassedTo file script first first told told
begun file script None told = record { told = []; took = took_none told; lines = tt }
begun file script (Some bytes) told = record { told = []; took = took_none told; lines = (bytes, refl, Begun) }

more_lines : (file : List ℕ) (script first now next : Option (List ℕ)) (told line behind : List ℕ)
    → IfSome first (λ bytes. (rest : List ℕ) × (now ≡ Some rest) × Passes file script bytes rest told)
    → IfSome now (λ rest. (rest ≢ []) × (line ≡ take_through 10 rest) × (next ≡ Some (drop_through 10 rest)))
    → IsBehind file script line behind
    → IfSome first (λ bytes. (rest : List ℕ) × (next ≡ Some rest) × Passes file script bytes rest (told ++ (line ++ behind)))
more_lines file script None now next told line behind before read is = tt
more_lines file script (Some bytes) None next told line behind (rest, left, passes) read is = absurd cc
more_lines file script (Some bytes) (Some now) next told line behind (rest, left, passes) (some, line_is, next_is) is =
    let same : now ≡ rest = cc in
    let passed : Passes file script bytes now told = subst (λ (r : List ℕ). Passes file script bytes r told) (sym same) passes in
    let here : IsBehind file script (take_through 10 now) behind = subst (λ (l : List ℕ). IsBehind file script l behind) line_is is in
    (drop_through 10 now, next_is, subst (λ (l : List ℕ). Passes file script bytes (drop_through 10 now) (told ++ (l ++ behind))) (sym line_is) (Line now told behind some passed here))

pub line_more : (file : List ℕ) (script first now next : Option (List ℕ)) (line behind : List ℕ) (old mid wrote new : SinkTold) → PassedTo file script first now old mid
    → IfSome now (λ rest. (rest ≢ []) × (line ≡ take_through 10 rest) × (next ≡ Some (drop_through 10 rest)))
    → TookAll line mid wrote → IsBehind file script line behind → TookAll behind wrote new → PassedTo file script first next old new
line_more file script first now next line behind old mid wrote new before read one is other = record {
  told = before.told ++ (line ++ behind);
  took = took_two before.told (line ++ behind) old mid new before.took (took_two line behind mid wrote new one other);
  lines = more_lines file script first now next before.told line behind before.lines read is;
}

all_lines : (file : List ℕ) (script first now : Option (List ℕ)) (told : List ℕ) → IfSome first (λ bytes. (rest : List ℕ) × (now ≡ Some rest) × Passes file script bytes rest told)
    → IfSome now (λ rest. rest ≡ []) → IfSome first (λ bytes. Passes file script bytes [] told)
all_lines file script None now told before end = tt
all_lines file script (Some bytes) None told (rest, left, passes) end = absurd cc
all_lines file script (Some bytes) (Some now) told (rest, left, passes) end =
    let same : rest ≡ [] = cc in
    subst (λ (r : List ℕ). Passes file script bytes r told) same passes

pub ended : (file : List ℕ) (script first now : Option (List ℕ)) (old new : SinkTold) → PassedTo file script first now old new → IfSome now (λ rest. rest ≡ []) → AllPassed file script first old new
ended file script first now old new before end = (before.told, before.took, all_lines file script first now before.told before.lines end)

-- what comes behind a line whose text without its LF is this
pub no_text : (file line told behind : List ℕ) (script : Option (List ℕ)) → behind ≡ [] → told ≡ told_of line → (IsUtf8 told → ⊥) → IsBehind file script line behind
no_text file line told behind script none is other = rw none (NoText (λ utf8. other (rw is utf8)))

pub no_name : (file line told behind : List ℕ) (script : Option (List ℕ)) → behind ≡ [] → told ≡ told_of line → ((named : Named) → IsNamed told named → ⊥) → IsBehind file script line behind
no_name file line told behind script none is other = rw none (NoName (λ named found. other named (rw is found)))

pub no_place : (file text line told behind : List ℕ) (named : Named) → behind ≡ [] → told ≡ told_of line → IsUtf8 (told_of line) → IsNamed told named → IsNowhere line text named → IsBehind file (Some text) line behind
no_place file text line told behind named none is utf8 found nowhere = rw none (NoPlace text named refl utf8 (rw is at found) nowhere)

pub shown : (file text line told behind : List ℕ) (named : Named) (place : ℕ) → behind ≡ closing_of line ++ pointer file text place → told ≡ told_of line → IsUtf8 (told_of line) → IsNamed told named → Begins line text named place
    → IsBehind file (Some text) line behind
shown file text line told behind named place all is utf8 found begins = rw all (Shown text named place refl utf8 (rw is at found) begins)
