-- What a trace holds, as plain data.
use Rattle.std.specs.Prelude.{ℕ, List, refl}
use Rattle.std.specs.Coded.{Coded, code_by, coded×, coded_ℕ, coded_list}
use Rattle.buffer_ends.specs.Local.{Answers, answers_coded}

-- a trace: the ticks of a run, the ticks of a window, and what each window of each buffer answered
pub record TraceValue : Type 0 where
  pub ticks : ℕ
  pub window : ℕ
  pub buffers : List (List Answers)

-- a code of traces as numbers, by nested pairs: it shows that two traces with one code are equal
abbrev pub trace_coded : Coded TraceValue
trace_coded = code_by (ℕ
    × (ℕ × List (List Answers))) (coded× coded_ℕ (coded× coded_ℕ (coded_list (coded_list answers_coded))))
    (λ t. (t.ticks, (t.window, t.buffers))) (λ p. record { ticks = p.0; window = p.1.0; buffers = p.1.1 }) (λ _. refl)
