-- One file more.
use Rattle.std.proofs.Common.{◌≡◌, ◌∙◌, ◌+◌, ◌++◌, ℕ, suc, List, [], ◌∷◌, String, Vec, codes, map, ap, append_assoc, arith, refl}
use Rattle.std.specs.declared.alloc.Global.{Global}
use Rattle.workload_gen.specs.Files.{File, file_of, list_text, script_text, track, tracks, workload}

last_mapped : (files : List (String Global × Vec ℕ Global)) (file : String Global × Vec ℕ Global) → map file_of (files ++ file ∷ []) ≡ map file_of files ++ file_of file ∷ []
last_mapped [] file = refl
last_mapped (first ∷ files) file = ap (λ all. file_of first ∷ all) (last_mapped files file)

-- a file more, behind others
pub one_file : (before : List File) (next : File) (files after : List (String Global × Vec ℕ Global)) (file : String Global × Vec ℕ Global)
    → after ≡ files ++ file ∷ [] → map file_of files ≡ before → file_of file ≡ next → map file_of after ≡ before ++ next ∷ []
one_file before next files after file is old new =
    ap (map file_of) is ∙ last_mapped files file ∙ ap (λ b. b ++ file_of file ∷ []) old ∙ ap (λ f. before ++ f ∷ []) new

pub track_more : (seed n : ℕ) (files after : List (String Global × Vec ℕ Global)) (file : String Global × Vec ℕ Global)
    → after ≡ files ++ file ∷ [] → map file_of files ≡ tracks seed n → file_of file ≡ track seed n → map file_of after ≡ tracks seed (n + 1)
track_more seed n files after file is old new =
    let e : suc n ≡ n + 1 = omega arith in
    one_file (tracks seed n) (track seed n) files after file is old new ∙ ap (tracks seed) e

pub all_files : (seed n number size last : ℕ) (files more all : List (String Global × Vec ℕ Global)) (list script : String Global × Vec ℕ Global)
    → number ≡ suc n → size ≡ suc n → last ≡ n → map file_of files ≡ tracks seed number
    → more ≡ files ++ list ∷ [] → all ≡ more ++ script ∷ []
    → file_of list ≡ (codes "all.m3u", list_text size) → file_of script ≡ (codes "make.liq", script_text last)
    → map file_of all ≡ workload seed n
all_files seed n number size last files more all list script number_is size_is last_is old first second listed scripted =
    let list_is : file_of list ≡ (codes "all.m3u", list_text (suc n)) = listed ∙ ap (λ k. (codes "all.m3u", list_text k)) size_is in
    let script_is : file_of script ≡ (codes "make.liq", script_text n) = scripted ∙ ap (λ k. (codes "make.liq", script_text k)) last_is in
    let one = one_file (tracks seed (suc n)) (codes "all.m3u", list_text (suc n)) files more list first (old ∙ ap (tracks seed) number_is) list_is in
    one_file (tracks seed (suc n) ++ (codes "all.m3u", list_text (suc n)) ∷ []) (codes "make.liq", script_text n) more all script second one script_is
    ∙ append_assoc (tracks seed (suc n)) ((codes "all.m3u", list_text (suc n)) ∷ []) ((codes "make.liq", script_text n) ∷ [])
